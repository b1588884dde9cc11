use Rattle.std.proofs.Common.{◌≡◌, false, take}
use Rattle.pv_cnf.specs.Clause.{clause_value}
use Rattle.pv_cnf.proofs.value.clause_is_true.Given as goal

-- no literal so far is true
abbrev pub invariant-loop-lit : goal.invariant-loop-lit
invariant-loop-lit g l = clause_value (g.V.Values.truth l.values) (take l.lit-index l.lits) ≡ false
