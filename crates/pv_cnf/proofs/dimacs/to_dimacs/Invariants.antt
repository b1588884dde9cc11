use Rattle.std.proofs.Common.{◌≡◌, ◌++◌, take}
use Rattle.std.specs.List.{flat_map}
use Rattle.pv_cnf.specs.Dimacs.{clause_line}
use Rattle.pv_cnf.proofs.dimacs.to_dimacs.Given as goal

-- the clauses so far are written
abbrev pub invariant-loop-n : goal.invariant-loop-n
invariant-loop-n g l = l.text.items ≡ l.initial.text.items ++ flat_map clause_line (take l.n (g.F.ClauseView.clauses l.f))
