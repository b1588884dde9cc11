use Rattle.std.proofs.Common.{drop}
use Rattle.pv_cnf.specs.Clause.{has_variable}
use Rattle.pv_cnf.specs.Layout.{MarksWithin}
use Rattle.pv_cnf.proofs.check.unmark.Given as goal

-- only variables of the literals that are left have their marks set
abbrev pub invariant-loop-lit : goal.invariant-loop-lit
invariant-loop-lit l = MarksWithin (λ v. has_variable v (drop l.lit-index l.lits)) l.marks
