use Rattle.std.proofs.Common.{◌≡◌}
use Rattle.pv_types.specs.Named.{types_of}
use Rattle.pv_types.specs.Walk.{IsSound, all_leaves, work_left}
use Rattle.pv_types.proofs.walk.Walk.run.Given as goal

abbrev pub invariant-loop-walk : goal.invariant-loop-walk
invariant-loop-walk l = record {
  sound : IsSound l.walk;
  total : all_leaves (types_of l.named) l.walk
      ≡ all_leaves (types_of l.named) l.fn.self;
}

abbrev pub decreases-loop-walk : goal.decreases-loop-walk
decreases-loop-walk l = work_left (types_of l.named) l.walk.frames.items
