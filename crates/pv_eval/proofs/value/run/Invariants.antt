use Rattle.std.proofs.Common.{◌≡◌, drop}
use Rattle.pv_eval.specs.Rooms.{frame_of}
use Rattle.pv_eval.specs.Ops.{run_ops}
use Rattle.pv_eval.proofs.value.run.Given as goal

-- the run of the operations from here on is the whole run
abbrev pub invariant-loop-op : goal.invariant-loop-op
invariant-loop-op l = record {
  same : run_ops l.room.first (frame_of l.room) (drop l.op-index l.ops) l.values ≡ run_ops l.room.first (frame_of l.room) l.ops l.fn.values;
}
