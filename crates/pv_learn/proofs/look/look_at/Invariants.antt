use Rattle.std.proofs.Common.{◌≡◌, take}
use Rattle.std.specs.Option.{option_to_list}
use Rattle.pv_log.specs.Propagation.{left_of}
use Rattle.pv_learn.proofs.look.look_at.Given as goal

abbrev pub invariant-loop-lit : goal.invariant-loop-lit
invariant-loop-lit l = option_to_list l.left ≡ left_of (take l.upto l.trail.falses) (take l.lit-index l.clause)
