use Rattle.std.proofs.lemmas.List.{take_min}
use Rattle.pv_edge.proofs.held.first.Goals as goal

pub returns : goal.returns
returns c = rw (c.min.ensures, c.from.ensures) (take_min c.args.len c.args.bytes.now)
