-- Bit logic (the reference manual Statement List (STL) for S7-300/S7-400, "Bit Logic Instructions"): what each instruction does to
-- the bits of the chain. The place is the instruction's, at which it traps.
use Rattle.std.specs.Prelude.{[], ◌∷◌, Bool as Truth, true, false, ◌&&◌, ◌||◌, not, Some}
use Rattle.pv_place.specs.declared.place.Place.{Place}
use Rattle.pv_mean.specs.Endings.{Tried, got, and_then}
use Rattle.pv_mean.specs.Registers.{Logic, Joining, by_and, by_or, by_xor, Junction, Registers, no_logic, had, result_of, resulting, with_logic, with_nestings}

-- one of two bits alone
abbrev pub differs : Truth → Truth → Truth
differs true b = not b
differs false b = b

abbrev pub negated : Truth → Truth → Truth
negated negates b = differs negates b

-- ---- A, O and X with a bit

-- a bit behind a first check: AND leaves OR as it is, and O and X join to RLO or OR
abbrev pub joined : Place → Joining → Truth → Logic → Tried Logic
joined place by_and b l = and_then (had place l.rlo)
    (λ r. got (record { checked = true; rlo = Some (r && b); kept_or = l.kept_or }))
joined place by_or b l = and_then (result_of place l) (λ e. got (resulting true (e || b)))
joined place by_xor b l = and_then (result_of place l) (λ e. got (resulting true (differs e b)))

-- the bit of a first check is the resulting, whatever the function
abbrev pub join : Place → Junction → Truth → Logic → Tried Logic
join place j b l = elim l.checked [
  | false ↦ got (record { checked = true; rlo = Some (negated j.negates b); kept_or = l.kept_or })
  | true ↦ joined place j.joining (negated j.negates b) l
]

-- O alone: the result is kept, and a new chain begins
abbrev pub keep_or : Place → Logic → Tried Logic
keep_or place l = elim l.checked [
  | false ↦ got l
  | true ↦ and_then (result_of place l)
      (λ e. got (record { checked = false; rlo = Some false; kept_or = e }))
]

-- ---- nestings

-- A( and its like: the bits wait on the stack
abbrev pub open_nesting : Junction → Registers → Registers
open_nesting j r = with_logic
    (with_nestings r (record { outer = r.logic; junction = j } ∷ r.nestings)) no_logic

-- `)`: the result goes to the bits that waited, as a bit of the function; without an opening it breaks a rule
abbrev pub close_nesting : Place → Registers → Tried Registers
close_nesting place r = and_then (result_of place r.logic) (λ e. elim r.nestings [
  | [] ↦ got r
  | n ∷ more ↦ and_then (join place n.junction e n.outer)
      (λ l. got (with_logic (with_nestings r more) l))
])

-- ---- NOT and edges

abbrev pub negate_result : Place → Logic → Tried Logic
negate_result place l = and_then (result_of place l) (λ e. got (resulting l.checked (not e)))

-- FP is true where the result is and the bit of before isn't, FN where it's the other way round
abbrev pub edge : Truth → Truth → Truth → Truth
edge true e before = e && not before
edge false e before = before && not e
