use Rattle.std.proofs.Common.{◌≡◌, false, take}
use Rattle.pv_cnf.specs.Clause.{has_double, has_variable}
use Rattle.pv_cnf.specs.Layout.{MarksAre}
use Rattle.pv_cnf.proofs.check.mark.Given as goal

-- the literals gone over have no variable twice, and theirs are the marks that are set
abbrev pub invariant-loop-lit : goal.invariant-loop-lit
invariant-loop-lit l = record {
  count : l.done ≡ l.lit-index;
  distinct : has_double (take l.lit-index l.lits) ≡ false;
  marked : MarksAre (λ v. has_variable v (take l.lit-index l.lits)) l.marks;
}
