use Rattle.pv_replay.proofs.ImageLaws.{IsBegun}
use Rattle.pv_replay.proofs.image.begin.Given as goal

abbrev pub invariant-loop-number : goal.invariant-loop-number
invariant-loop-number l = IsBegun l.roles l.image l.input l.number l.stored l.given l.values
