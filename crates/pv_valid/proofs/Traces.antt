-- Nothing is wrong first with a trace exactly where it replays.
use Rattle.std.proofs.Common.{◌≡◌, ℕ, suc, Bool, true, false, cond, List, [], ◌∷◌, refl, ap, ◌∙◌, Option, Some, None, ℤ, arith}
use Rattle.std.specs.Prelude.{◌≤ℤ◌, int_le, ◌&&◌}
use Rattle.std.proofs.lemmas.Bool.{and_parts, and_from}
use Rattle.std.proofs.lemmas.Int.{ints}
use Rattle.pv_place.specs.Ranges.{IsWithin}
use Rattle.pv_machine.specs.Machines.{Machine, Values, Step, done, trap, over}
use Rattle.pv_machine.specs.Queries.{IsGoodScan}
use Rattle.pv_claims.specs.declared.claim.Claim.{Claim}
use Rattle.pv_claims.specs.declared.trace.Ending.{Ending}
use Rattle.pv_claims.specs.declared.trace.Trace.{Trace}
use Rattle.pv_valid.specs.declared.facts.Facts.{Facts}
use Rattle.pv_valid.specs.declared.fault.Kind.TheVariants as kind
use Rattle.pv_valid.specs.declared.fault.Fault.{Fault}
use Rattle.pv_valid.specs.declared.fault.Fault.TheVariants.{Line}
use Rattle.pv_valid.specs.Cases.{Case, Bounds, range_between, AreBetween, MayFollow}
use Rattle.pv_valid.specs.Shown.{ending_of, left_by, FailsAtLastAs}
use Rattle.pv_valid.specs.Claims.{ends_as}
use Rattle.pv_valid.specs.Validity.{AreInputs, BeginsIn, first_state, ReplaysIn}
use Rattle.pv_valid.specs.Walk.{or_else, unless, are_between, good_left, scans_fault, may_follow, begun_fault, trace_fault}
use Rattle.pv_valid.proofs.Logs.{both-none, none-both, is-so, so-is}

-- ---- values

from-le : (a b : ℤ) → int_le a b ≡ true → a ≤ℤ b
from-le a b e = grind (arith, ints)

le-from : (a b : ℤ) → a ≤ℤ b → int_le a b ≡ true
le-from a b h = grind (arith, ints)

within-is : (b : Bounds) (v : ℤ) → (int_le b.0 v && int_le v b.1) ≡ true → IsWithin (range_between b) v
within-is b v e = (let parts = and_parts (int_le b.0 v) (int_le v b.1) e in record { from = from-le b.0 v parts.0; to = from-le v b.1 parts.1 })

pub between-are : (bounds : List Bounds) (values : List ℤ) → are_between bounds values ≡ true → AreBetween bounds values
between-are [] [] e = tt
between-are [] (v ∷ values) e = absurd cc
between-are (b ∷ bounds) [] e = absurd cc
between-are (b ∷ bounds) (v ∷ values) e =
    let parts = and_parts (int_le b.0 v && int_le v b.1) (are_between bounds values) e in
    (within-is b v parts.0, between-are bounds values parts.1)

pub are-between : (bounds : List Bounds) (values : List ℤ) → AreBetween bounds values → are_between bounds values ≡ true
are-between [] [] are = refl
are-between [] (v ∷ values) are = absurd are
are-between (b ∷ bounds) [] are = absurd are
are-between (b ∷ bounds) (v ∷ values) are =
    and_from (int_le b.0 v && int_le v b.1) (are_between bounds values)
    (and_from (int_le b.0 v) (int_le v b.1) (le-from b.0 v are.0.from) (le-from v b.1 are.0.to)) (are-between bounds values are.1)

-- ---- scans

-- on with the state after a good scan
abbrev goes : Option Values → ℕ → (Values → Option Fault) → Option Fault
goes o at go = elim o as (λ _. Option Fault) [ None ↦ Some (Line at kind.TraceDiffers) | Some t ↦ go t ]

goes-none : (o : Option Values) (at : ℕ) (go : Values → Option Fault) → goes o at go ≡ None → (t : Values) × (o ≡ Some t) × (go t ≡ None)
goes-none None at go e = absurd cc
goes-none (Some t) at go e = (t, refl, e)

none-goes : (o : Option Values) (at : ℕ) (go : Values → Option Fault) (t : Values) → o ≡ Some t → go t ≡ None → goes o at go ≡ None
none-goes o at go t is e = ap (λ (x : Option Values). goes x at go) is ∙ e

good-parts : (b : Bool) (step : Step) (t : Values) → cond b None (left_by step) ≡ Some t → (b ≡ false) × (step ≡ done t)
good-parts true step t e = absurd cc
good-parts false (done u) t e = (let same : u ≡ t = cc in (refl, ap done same))
good-parts false (trap k place) t e = absurd cc
good-parts false (over place) t e = absurd cc

good-is : (m : Machine) (s i t : Values) → good_left m s i ≡ Some t → IsGoodScan m s i t
good-is m s i t e = (let parts = good-parts (m.fails s i) (m.step s i) t e in record { done = parts.1; keeps = parts.0 })

is-good : (m : Machine) (s i t : Values) → IsGoodScan m s i t → good_left m s i ≡ Some t
is-good m s i t good = ap (λ (b : Bool). cond b None (left_by (m.step s i))) good.keeps ∙ ap left_by good.done

module _ (case : Case) (ends : Ending → Bool) where
  abbrev in_range : ℕ → Values → Option Fault
  in_range at i = unless (are_between case.facts.input i) at kind.WrongQuery

  abbrev Fails : Values → List Values → Type 0
  Fails s inputs = FailsAtLastAs case.machine (λ told. ends told ≡ true) s inputs

  abbrev fails_so : Values → Values → Bool
  fails_so s i = case.machine.fails s i && ends (ending_of (case.machine.step s i))

  scans-are : (inputs : List Values) (at : ℕ) (s : Values) → scans_fault case ends at s inputs ≡ None → AreInputs case inputs × Fails s inputs
  scans-are [] at s e = absurd cc
  scans-are (i ∷ []) at s e =
      let parts = both-none (in_range at i) (unless (fails_so s i) at kind.TraceDiffers) e in
      let within = between-are case.facts.input i (is-so (are_between case.facts.input i) at kind.WrongQuery parts.0) in
      let last = and_parts (case.machine.fails s i) (ends (ending_of (case.machine.step s i)))
      (is-so (fails_so s i) at kind.TraceDiffers parts.1) in
      ((within, tt), last)
  scans-are (i ∷ j ∷ inputs) at s e =
      let go : Values → Option Fault = λ t. scans_fault case ends (suc at) t (j ∷ inputs) in
      let parts = both-none (in_range at i) (goes (good_left case.machine s i) at go) e in
      let within = between-are case.facts.input i (is-so (are_between case.facts.input i) at kind.WrongQuery parts.0) in
      let left = goes-none (good_left case.machine s i) at go parts.1 in
      let rest = scans-are (j ∷ inputs) (suc at) left.0 left.2 in
      ((within, rest.0), (left.0, good-is case.machine s i left.0 left.1, rest.1))

  are-scans : (inputs : List Values) (at : ℕ) (s : Values) → AreInputs case inputs → Fails s inputs → scans_fault case ends at s inputs ≡ None
  are-scans [] at s are fails = absurd fails
  are-scans (i ∷ []) at s are fails =
      none-both (in_range at i) (unless (fails_so s i) at kind.TraceDiffers)
      (so-is (are_between case.facts.input i) at kind.WrongQuery (are-between case.facts.input i are.0))
      (so-is (fails_so s i) at kind.TraceDiffers
      (and_from (case.machine.fails s i) (ends (ending_of (case.machine.step s i))) fails.0 fails.1))
  are-scans (i ∷ j ∷ inputs) at s are fails =
      let go : Values → Option Fault = λ t. scans_fault case ends (suc at) t (j ∷ inputs) in
      none-both (in_range at i) (goes (good_left case.machine s i) at go)
      (so-is (are_between case.facts.input i) at kind.WrongQuery (are-between case.facts.input i are.0))
      (none-goes (good_left case.machine s i) at go fails.0 (is-good case.machine s i fails.0 fails.1)
      (are-scans (j ∷ inputs) (suc at) fails.0 are.1 fails.2))

  -- ---- where they begin

  follow-is : (facts : Facts) (prev : Option Bool) → may_follow facts prev ≡ true → MayFollow facts prev
  follow-is facts None e = tt
  follow-is facts (Some mark) e = e

  is-follow : (facts : Facts) (prev : Option Bool) → MayFollow facts prev → may_follow facts prev ≡ true
  is-follow facts None is = refl
  is-follow facts (Some mark) is = is

  begun-is : (o : Option (List ℤ)) (t : Trace) → begun_fault case ends o t ≡ None
      → BeginsIn case o t × AreInputs case t.inputs × Fails (first_state case o t) t.inputs
  begun-is None t e =
      let parts = both-none (unless (are_between case.facts.params t.params) 3 kind.WrongQuery)
      (scans_fault case ends 4 (case.machine.start t.params) t.inputs) e in
      let scans = scans-are t.inputs 4 (case.machine.start t.params) parts.1 in (
        between-are case.facts.params t.params (is-so (are_between case.facts.params t.params) 3 kind.WrongQuery parts.0),
        scans.0,
        scans.1,
      )
  begun-is (Some image) t e =
      let scans_part = scans_fault case ends 5 (case.state_at image t.prev) t.inputs in
      let mark_part = unless (may_follow case.facts t.prev) 4 kind.WrongQuery in
      let parts = both-none (unless (are_between case.facts.image image) 3 kind.WrongQuery) (or_else mark_part scans_part) e in
      let rest = both-none mark_part scans_part parts.1 in
      let scans = scans-are t.inputs 5 (case.state_at image t.prev) rest.1 in (
        (
          between-are case.facts.image image (is-so (are_between case.facts.image image) 3 kind.WrongQuery parts.0),
          follow-is case.facts t.prev (is-so (may_follow case.facts t.prev) 4 kind.WrongQuery rest.0),
        ),
        scans.0,
        scans.1,
      )

  is-begun : (o : Option (List ℤ)) (t : Trace) → BeginsIn case o t → AreInputs case t.inputs → Fails (first_state case o t) t.inputs
      → begun_fault case ends o t ≡ None
  is-begun None t begins are fails =
      none-both (unless (are_between case.facts.params t.params) 3 kind.WrongQuery)
      (scans_fault case ends 4 (case.machine.start t.params) t.inputs)
      (so-is (are_between case.facts.params t.params) 3 kind.WrongQuery (are-between case.facts.params t.params begins))
      (are-scans t.inputs 4 (case.machine.start t.params) are fails)
  is-begun (Some image) t begins are fails =
      let scans_part = scans_fault case ends 5 (case.state_at image t.prev) t.inputs in
      let mark_part = unless (may_follow case.facts t.prev) 4 kind.WrongQuery in
      none-both (unless (are_between case.facts.image image) 3 kind.WrongQuery) (or_else mark_part scans_part)
      (so-is (are_between case.facts.image image) 3 kind.WrongQuery (are-between case.facts.image image begins.0))
      (none-both mark_part scans_part (so-is (may_follow case.facts t.prev) 4 kind.WrongQuery (is-follow case.facts t.prev begins.1))
      (are-scans t.inputs 5 (case.state_at image t.prev) are fails))

pub replays-in : (case : Case) (claim : Claim) (trace : Option Trace) → trace_fault case claim trace ≡ None → ReplaysIn case claim trace
replays-in case claim None e = tt
replays-in case claim (Some t) e =
    let begun = begun-is case (ends_as claim) t.image t e in
    record { begins = begun.0; inputs = begun.1; fails = begun.2 }

pub in-replays : (case : Case) (claim : Claim) (trace : Option Trace) → ReplaysIn case claim trace → trace_fault case claim trace ≡ None
in-replays case claim None r = refl
in-replays case claim (Some t) r = is-begun case (ends_as claim) t.image t r.begins r.inputs r.fails
