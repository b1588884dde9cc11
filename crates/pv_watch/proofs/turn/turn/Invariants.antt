use Rattle.std.proofs.Common.{◌≡◌, ◌-◌, length}
use Rattle.pv_region.specs.Stored.{list_of}
use Rattle.pv_watch.specs.Turns.{GoesOn}
use Rattle.pv_watch.proofs.Turning.{IsWalking}
use Rattle.pv_watch.proofs.turn.turn.Given as goal

abbrev pub invariant-entries : goal.invariant-entries
invariant-entries l = record {
  walking : IsWalking l.region l.trail l.slots l.walk l.next;
  goes : GoesOn l.fn.region l.region l.fn.trail l.trail;
  place : l.walk.place ≡ l.place;
  lit : l.walk.lit ≡ l.lit;
}

abbrev pub decreases-entries : goal.decreases-entries
decreases-entries l = length (list_of l.region l.walk.lit) - l.walk.kept
