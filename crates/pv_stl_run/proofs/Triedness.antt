-- A trap stops what goes on with what is got.
use Rattle.std.proofs.Common.{◌≡◌, ap, sym}
use Rattle.pv_place.specs.declared.place.Place.{Place}
use Rattle.pv_place.specs.declared.trap.TrapKind.{TrapKind}
use Rattle.pv_mean.specs.Endings.{Tried, trap, and_then}

pub then_trap : {A B : Type 0} (t : Tried A) (kind : TrapKind) (place : Place) (next : A → Tried B) → trap kind place ≡ t
    → and_then t next ≡ trap kind place
then_trap t kind place next e = ap (λ x. and_then x next) (sym e)
