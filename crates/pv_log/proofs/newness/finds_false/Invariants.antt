use Rattle.std.proofs.Common.{◌≡◌, ℕ, true, false, take, ◌∷◌}
use Rattle.pv_log.specs.Propagation.{is_false}
use Rattle.pv_log.specs.Filing.{FindsFalse}
use Rattle.pv_log.specs.Checking.{known}
use Rattle.pv_log.proofs.newness.finds_false.Given as goal

abbrev pub invariant-loop-lit : goal.invariant-loop-lit
invariant-loop-lit g l = (lit : ℕ) → is_false (0 ∷ take l.lit-index l.lits) lit ≡ true
    → FindsFalse l.values.falses (known (g.F.ClauseView.clauses l.f) (g.L.LogView.all_lines l.log) l.lines) l.filing lit false
