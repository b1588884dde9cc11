use Rattle.pv_replay.proofs.ImageLaws.{IsStarted}
use Rattle.pv_replay.proofs.image.start.Given as goal

abbrev pub invariant-loop-cell : goal.invariant-loop-cell
invariant-loop-cell l = IsStarted l.cells l.params l.cell-index l.stored l.given l.image
