use Rattle.std.proofs.Common.{◌≡◌, ◌≤◌, ℕ, false}
use Rattle.pv_cnf.specs.Clause.{has_double}
use Rattle.pv_region.specs.Stored.{all_lits}
use Rattle.pv_watch.specs.Trail.{IsSound, Extends}
use Rattle.pv_watch.specs.Turns.{OneIsTrue}
use Rattle.pv_watch.proofs.enter.settle_all.Given as goal

abbrev pub invariant-loop-n : goal.invariant-loop-n
invariant-loop-n l = record {
  distinct : has_double l.trail.falses ≡ false;
  extends : Extends l.initial.trail l.trail;
  sound : IsSound (all_lits l.region) l.trail;
  ones : (id : ℕ) → id ≤ l.n → OneIsTrue (all_lits l.region) l.trail.falses id;
}
