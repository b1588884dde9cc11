use Rattle.pv_replay.proofs.ImageLaws.{IsKept}
use Rattle.pv_replay.proofs.image.keep.Given as goal

abbrev pub invariant-loop-number : goal.invariant-loop-number
invariant-loop-number l = IsKept l.roles l.fn.image l.values l.number l.stored l.image
