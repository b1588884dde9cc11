use Rattle.std.proofs.Common.{◌≡◌, length}
use Rattle.pv_rows_kind.proofs.decisions.formula.Given as goal

-- a clause has come for each list so far
abbrev pub invariant-loop-lits : goal.invariant-loop-lits
invariant-loop-lits l = record {
  variables : l.formula.variables ≡ l.fn.variables;
  count : length l.formula.clauses ≡ l.lits-index;
}
