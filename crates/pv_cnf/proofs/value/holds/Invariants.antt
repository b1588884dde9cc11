use Rattle.std.proofs.Common.{◌≡◌, true, take}
use Rattle.std.specs.List.{list_all}
use Rattle.pv_cnf.specs.Clause.{clause_value}
use Rattle.pv_cnf.proofs.value.holds.Given as goal

-- each clause so far has a true literal
abbrev pub invariant-loop-n : goal.invariant-loop-n
invariant-loop-n g l = list_all (clause_value (g.V.Values.truth l.values)) (take l.n (g.F.ClauseView.clauses l.f)) ≡ true
