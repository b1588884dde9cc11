use Rattle.std.proofs.Common.{◌≡◌, ◌≢◌, ℕ, true, take}
use Rattle.pv_log.specs.Propagation.{is_false}
use Rattle.pv_watch.proofs.visit.other_free.Given as goal

abbrev pub invariant-loop-lit : goal.invariant-loop-lit
invariant-loop-lit l =
    (x : ℕ) → is_false (take l.lit-index l.clause) x ≡ true → x ≢ l.other → is_false (take l.upto l.trail.falses) x ≡ true
