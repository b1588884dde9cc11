-- What the code finds of a name, as where it begins.
use Rattle.std.specs.Prelude.{◌≡◌, ◌<◌, ◌^◌, ℕ, ◌+◌, ◌*◌, ℤ, ◌-ℤ◌, unsigned_abs, int_le, ◌&&◌, if◌then◌else◌, Option, Some, None}
use Rattle.pv_tree.specs.Scopes.{ProjectTree}
use Rattle.pv_mean.specs.Layout.{Laid, size_in}
use Rattle.pv_mean.specs.Spots.{nowhere}
use Rattle.pv_eval.specs.Operands.{spot_of, span}
use Rattle.pv_resolve.specs.declared.begin.Begin.{Begin}
use Rattle.pv_resolve.specs.declared.begin.Begin.TheVariants.{In, At}
use Rattle.pv_resolve.specs.declared.begin.Where.{Where}
use Rattle.pv_resolve.specs.declared.begin.Where.TheVariants.{Own, Visible, Brief}
use Rattle.pv_resolve.specs.Laying.{laid_tree}
use Rattle.pv_resolve.specs.Begins.{begin_at}
use Rattle.pv_resolve.specs.Rooms.{BeginsRoomy}
use Rattle.pv_variables.specs.declared.begun.Elements.{Elements as CodeElements}
use Rattle.pv_variables.specs.Origins.{Origin, Elements, in_instance, in_table, in_activation, at_spot}

abbrev pub origin_in : Where → Laid → Origin
origin_in Own laid = in_instance laid
origin_in Visible laid = in_table laid
origin_in Brief laid = in_activation laid

abbrev pub origin_of : Begin → Origin
origin_of (In part laid) = origin_in part (laid_tree laid)
origin_of (At spot) = at_spot (spot_of spot)

-- so many cells further
abbrev pub origin_moved : ℕ → Origin → Origin
origin_moved k (in_instance laid) = in_instance (record { ty = laid.ty; first = laid.first + k })
origin_moved k (in_table laid) = in_table (record { ty = laid.ty; first = laid.first + k })
origin_moved k (in_activation laid) = in_activation (record { ty = laid.ty; first = laid.first + k })
origin_moved k (at_spot spot) = at_spot spot

-- these are the array's elements, or neither there nor here is an array
pub record AreElements (project : ProjectTree) (e : Elements) (code : CodeElements) : Type 0 where
  pub low : code.low ≡ e.low
  pub high : code.high ≡ e.high
  pub stride : code.stride ≡ size_in project e.of
  pub head : origin_of code.head ≡ e.head

-- the element at an index that lies within the bounds
abbrev pub code_element : CodeElements → ℤ → Origin
code_element e i =
    if int_le e.low i && int_le i e.high then origin_moved (unsigned_abs (i -ℤ e.low) * e.stride) (origin_of e.head) else at_spot nowhere

abbrev pub IsElements : ProjectTree → Option Elements → Option CodeElements → Type 0
IsElements project None None = Unit {0}
IsElements project None (Some code) = ⊥
IsElements project (Some e) None = ⊥
IsElements project (Some e) (Some code) = AreElements project e code

-- they lie within what a table may have, also so many cells further, wherever the index says
pub record ElementsLie (project : ProjectTree) (more : ℕ) (code : CodeElements) : Type 0 where
  pub few : unsigned_abs (code.high -ℤ code.low) < 2 ^ 32
  pub head : BeginsRoomy project (more + span code.low code.high code.stride) (begin_at code.head 0)
