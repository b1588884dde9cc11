use Rattle.std.proofs.Common.{◌≡◌, length, take}
use Rattle.pv_replay.specs.Images.{AreLong}
use Rattle.pv_replay.proofs.image.narrow.Given as goal

abbrev pub invariant-loop-number : goal.invariant-loop-number
invariant-loop-number l = length l.fn.to ≡ length l.from → AreLong l.from → take l.number l.to ≡ take l.number l.from
