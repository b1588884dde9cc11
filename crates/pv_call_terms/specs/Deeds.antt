-- The deeds of a copy.
use Rattle.std.specs.Prelude.{ℕ, ◌+◌, List, map}
use Rattle.pv_flow.specs.declared.parts.Set.{Set}
use Rattle.pv_flow.specs.declared.parts.Deed.{Deed}
use Rattle.pv_call_terms.specs.Numbers.{narrow}

-- a deed as plain data
pub record Plain : Type 0 where
  pub guard : ℕ
  pub sets : List Set

abbrev pub deed_seen : Deed → Plain
deed_seen deed = record { guard = deed.guard; sets = deed.sets.items }

abbrev pub set_at : (ℕ → ℕ) → ℕ → Set → Set
set_at place after set = record { variable = place set.variable; value = narrow (after + set.value) }

abbrev pub deed_at : (ℕ → ℕ) → ℕ → Plain → Plain
deed_at place after deed = record { guard = narrow (after + deed.guard); sets = map (set_at place after) deed.sets }
