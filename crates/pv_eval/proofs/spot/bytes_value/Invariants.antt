use Rattle.std.proofs.Common.{◌≡◌, ◌+◌, ◌-◌, ◌<◌, ◌^◌}
use Rattle.pv_mean.specs.Spots.{number_of_bytes}
use Rattle.pv_eval.specs.Rooms.{frame_of}
use Rattle.pv_eval.proofs.spot.bytes_value.Given as goal

-- the bytes so far make the number
abbrev pub invariant-loop-i : goal.invariant-loop-i
invariant-loop-i l = record {
  same : number_of_bytes (frame_of l.room) (l.n + l.i) (l.count - l.i) l.number ≡ number_of_bytes (frame_of l.room) l.n l.count 0;
  below : l.number < 256 ^ l.i;
}
