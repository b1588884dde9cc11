-- The least of the places that break a rule.
use Rattle.std.specs.Prelude.{◌≡◌, ◌⊎◌, nat_lt, nat_le, nat_eq, Bool as Truth, ◌&&◌, ◌||◌, if◌then◌else◌, Option, Some, None, IsTrue}
use Rattle.pv_place.specs.declared.place.Place.{Place}

-- a stands before b, or is the same
abbrev pub is_before : Place → Place → Truth
is_before a b = nat_lt a.file b.file || (nat_eq a.file b.file && nat_le a.offset b.offset)

abbrev pub IsUpTo : Option Place → Place → Type 0
IsUpTo None b = ⊥
IsUpTo (Some a) b = IsTrue (is_before a b)

-- the place, if any, is the least of those
abbrev pub IsNearest : (Place → Type 0) → Option Place → Type 0
IsNearest breaks None = (at : Place) → breaks at → ⊥
IsNearest breaks (Some a) = breaks a × ((at : Place) → breaks at → IsTrue (is_before a at))

-- the nearest place so far, after these were looked at too: it is the old one or one of these, and none of either kind stands before it
pub record Nears (breaks : Place → Type 0) (old new : Option Place) : Type 0 where
  pub is_one : (new ≡ old) ⊎ ((at : Place) × (new ≡ Some at) × breaks at)
  pub up_to_old : (at : Place) → old ≡ Some at → IsUpTo new at
  pub up_to_each : (at : Place) → breaks at → IsUpTo new at

-- the nearer of two
abbrev pub nearer_of : Option Place → Option Place → Option Place
nearer_of None other = other
nearer_of (Some a) None = Some a
nearer_of (Some a) (Some b) = if is_before a b then Some a else Some b
