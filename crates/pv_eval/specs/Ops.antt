-- Operations at work: one after the other, each leaves its value under its number, and the first trap decides.
use Rattle.std.specs.Prelude.{ℕ, ◌+◌, ℤ, ◌+ℤ◌, ◌-ℤ◌, ◌*ℤ◌, unsigned_abs, int_le, List, [], ◌∷◌, ◌&&◌, if◌then◌else◌, slice_set, slice_get, Some, ◌≡◌, Result, Ok, Err}
use Rattle.std.specs.Int.{w64, int_wrap}
use Rattle.pv_place.specs.declared.place.Place.{Place}
use Rattle.pv_place.specs.declared.trap.TrapKind.TheVariants.{Index}
use Rattle.pv_mean.specs.Frames.{Frame, visible_value}
use Rattle.pv_mean.specs.Endings.{Tried, Value, got, trap, and_then}
use Rattle.pv_mean.specs.Spots as m
use Rattle.pv_eval.specs.declared.trap.Trap.{Trap}
use Rattle.pv_eval.specs.declared.op.Arg.{Arg}
use Rattle.pv_eval.specs.declared.op.Arg.TheVariants as arg
use Rattle.pv_eval.specs.declared.op.Access.{Access}
use Rattle.pv_eval.specs.declared.op.Access.TheVariants as access
use Rattle.pv_eval.specs.declared.op.Deed.{Deed}
use Rattle.pv_eval.specs.declared.op.Deed.TheVariants.{Read, One, Two, Three, Element}
use Rattle.pv_eval.specs.declared.op.Op.{Op}
use Rattle.pv_eval.specs.Operators.{one_result, two_result, three_result}
use Rattle.pv_eval.specs.Operands.{at, spot_of, spot_in, IsSpot}

-- in a frame of a block whose instance begins at the first cell
abbrev pub fetched : ℕ → Frame → List ℤ → Arg → ℤ
fetched first frame values (arg.Constant v) = v
fetched first frame values (arg.Value n) = at values n
fetched first frame values (arg.Visible n) = visible_value frame n
fetched first frame values (arg.Own n) = visible_value frame (first + n)

abbrev pub accessed : ℕ → Frame → List ℤ → Access → m.Spot
accessed first frame values (access.At spot) = spot_of spot
accessed first frame values (access.Own n) = m.visible (first + n)
accessed first frame values (access.Element part offset address) =
    spot_in part first (offset + unsigned_abs (fetched first frame values address))

-- the number of an element's cell, as 64 bits have it; an index outside the bounds traps
abbrev pub cell_number : ℤ → ℤ → ℤ → ℤ → ℤ → Place → Value
cell_number n i low high stride place =
    if int_le low i && int_le i high then got (int_wrap w64 ((i -ℤ low) *ℤ stride +ℤ n))
    else trap Index place

abbrev pub done : ℕ → Frame → List ℤ → Deed → Value
done first frame values (Read from place) =
    m.read_spot frame place (accessed first frame values from)
done first frame values (One op ty arg) = got (one_result op ty (fetched first frame values arg))
done first frame values (Two op ty place left right) =
    two_result op ty place (fetched first frame values left) (fetched first frame values right)
done first frame values (Three op a b c) =
    got (three_result op (fetched first frame values a) (fetched first frame values b)
    (fetched first frame values c))
done first frame values (Element from index low high stride place) =
    cell_number (fetched first frame values from) (fetched first frame values index) low high stride
    place

abbrev pub run_ops : ℕ → Frame → List Op → List ℤ → Tried (List ℤ)
run_ops first frame [] values = got values
run_ops first frame (op ∷ more) values =
    and_then (done first frame values op.deed)
    (λ v. run_ops first frame more (slice_set values op.to v))

-- what is left of a run
abbrev pub left_in : Result Unit Trap → List ℤ → Tried (List ℤ)
left_in (Ok done) values = got values
left_in (Err t) values = trap t.kind t.place

-- ---- spots that may be read and written

abbrev pub IsAccess : Access → Type 0
IsAccess (access.At spot) = IsSpot spot
IsAccess (access.Own n) = Unit {0}
IsAccess (access.Element part offset address) = Unit {0}

abbrev pub HasSpot : Deed → Type 0
HasSpot (Read from place) = IsAccess from
HasSpot (One op ty arg) = Unit {0}
HasSpot (Two op ty place left right) = Unit {0}
HasSpot (Three op a b c) = Unit {0}
HasSpot (Element from index low high stride place) = Unit {0}

pub record AreOps (ops : List Op) : Type 0 where
  pub each : (k : ℕ) (op : Op) → slice_get ops k ≡ Some op → HasSpot op.deed
