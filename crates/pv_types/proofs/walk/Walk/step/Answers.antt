use Rattle.std.proofs.Common.{[]}
use Rattle.pv_types.proofs.walk.Walk.step.Goals as goal

pub lay_out_rest-requires : goal.lay_out_rest-requires
lay_out_rest-requires c = (c.in-Some.ensures.pops []).sound
