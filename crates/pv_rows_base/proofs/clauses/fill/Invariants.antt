use Rattle.std.proofs.Common.{◌≡◌, true}
use Rattle.std.specs.Option.{is_none}
use Rattle.pv_rows_base.proofs.clauses.fill.Given as goal

-- it still takes clauses
abbrev pub invariant-loop-clause : goal.invariant-loop-clause
invariant-loop-clause l = is_none l.solver.outcome ≡ true
