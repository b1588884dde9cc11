use Rattle.pv_replay.proofs.ImageLaws.{IsWidened}
use Rattle.pv_replay.proofs.image.widen.Given as goal

abbrev pub invariant-loop-number : goal.invariant-loop-number
invariant-loop-number l = IsWidened l.from l.to l.number
