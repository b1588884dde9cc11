use Rattle.pv_learn.specs.Learning.{KeepsRoom}
use Rattle.pv_learn.proofs.analysis.Analysis.write.Given as goal

abbrev pub invariant-loop : goal.invariant-loop
invariant-loop l = KeepsRoom l.initial.draft l.draft
