use Rattle.pv_frames.proofs.Reading.{inside-some, inside-last}
use Rattle.pv_frames.proofs.read.is_true.Goals as goal

pub value-value-requires-clause-from_one : goal.value-value-requires-clause-from_one
value-value-requires-clause-from_one g c = inside-some (g.V.Values.assigned c.args.values.now) c.args.lit c.requires

pub value-value-requires-clause-to_last : goal.value-value-requires-clause-to_last
value-value-requires-clause-to_last g c = inside-last (g.V.Values.assigned c.args.values.now) c.args.lit c.requires
