-- The nearest place along the instructions at which a nesting is wrong is the least at which one is.
use Rattle.std.proofs.Common.{◌≡◌, ℕ, ◌≤◌, refl, sym, ap, subst, ◌∙◌, arith, inl, inr, List, [], ◌∷◌, ◌++◌, length, reverse, Option, Some, None, Bool, true, false, true≢false, IsTrue, is_some}
use Rattle.std.specs.Prelude.{◌⊎◌, ◌≢◌, ◌&&◌, ◌||◌, not, nat_le, fold, Contains}
use Rattle.std.proofs.lemmas.Bool.Decides.{nat_tests}
use Rattle.std.proofs.lemmas.List.{reverse-append}
use Rattle.pv_place.specs.declared.place.Place.{Place}
use Rattle.pv_tree.specs.Tree.{InstrTree}
use Rattle.pv_tree.specs.InstructionGroups.{Group, bit_read, bit_written, load, transfer, word_logic, double_logic, word_shift, double_shift, no_operation, display, jump, opening, closing, block_end, calling, alone, group_of, first_place_of}
use Rattle.pv_tree.specs.Rules.OpenNestings.{open_behind, open_after, is_kept_outside, IsWrongBehind, NestsWrong}
use Rattle.pv_rules_expr.specs.Members.{Has}
use Rattle.pv_rules_expr.specs.Nearest.{is_before, IsNearest, nearer_of}
use Rattle.pv_rules_expr.specs.NearestIn.{nearest_in}
use Rattle.pv_rules_expr.proofs.ForCallers.{contains_has, has_contains, has_front, has_behind, has_either, itself, nearest_both, nearest_same, nearest_where}
use Rattle.pv_rules_instr.specs.AtNestings.{is_empty, bracket_at, inside_at, nesting_at, nesting_from, nesting_place}

-- ---- tests

both_on : (a b : Bool) → IsTrue (a && b) → IsTrue a × IsTrue b
both_on true b h = (refl, h)
both_on false b h = absurd (true≢false (sym h))

on_both : (a b : Bool) → IsTrue a → IsTrue b → IsTrue (a && b)
on_both true b h g = g
on_both false b h g = absurd (true≢false (sym h))

empty_is : (ps : List Place) → IsTrue (is_empty ps) → ps ≡ []
empty_is [] h = refl
empty_is (p ∷ ps) h = absurd (true≢false (sym h))

is_none_left : (ps : List Place) → ps ≡ [] → IsTrue (is_empty ps)
is_none_left ps e = ap is_empty e

filled : (ps : List Place) → IsTrue (not (is_empty ps)) → ps ≢ []
filled [] h e = true≢false (sym h)
filled (p ∷ ps) h e = true≢false (sym (ap is_empty e))

is_filled : (ps : List Place) → ps ≢ [] → IsTrue (not (is_empty ps))
is_filled [] h = absurd (h refl)
is_filled (p ∷ ps) h = refl

le_is : (a b : ℕ) → IsTrue (nat_le a b) → a ≤ b
le_is a b h = grind (arith, nat_tests)

is_le : (a b : ℕ) → a ≤ b → IsTrue (nat_le a b)
is_le a b h = grind (arith, nat_tests)

-- ---- one instruction

abbrev Brackets : Group → List Place → Place → Place → Type 0
Brackets g pending place at = ((place ≡ at) × (g ≡ opening) × (7 ≤ length pending)) ⊎ ((place ≡ at) × (g ≡ closing) × (pending ≡ []))

abbrev is_opening : Group → Bool
is_opening opening = true
is_opening group = false

abbrev is_closing : Group → Bool
is_closing closing = true
is_closing group = false

neither : (g : Group) → is_opening g ≡ false → is_closing g ≡ false → (pending : List Place) (place at : Place) → Brackets g pending place at → ⊥
neither g no_open no_close pending place at (inl h) = true≢false (sym (ap is_opening h.1) ∙ no_open)
neither g no_open no_close pending place at (inr h) = true≢false (sym (ap is_closing h.1) ∙ no_close)

bracket_nearest : (g : Group) (pending : List Place) (place : Place) → IsNearest (Brackets g pending place) (bracket_at g pending place)
bracket_nearest opening pending place =
    nearest_same (λ at. (place ≡ at) × IsTrue (nat_le 7 (length pending))) (Brackets opening pending place) (bracket_at opening pending place)
    (λ at h. inl (h.0, refl, le_is 7 (length pending) h.1))
    (λ at e. elim e [
      | inl h ↦ (h.0, is_le 7 (length pending) h.2)
      | inr h ↦ absurd (true≢false (ap is_opening h.1))
    ])
    (nearest_where (nat_le 7 (length pending)) place)
bracket_nearest closing pending place =
    nearest_same (λ at. (place ≡ at) × IsTrue (is_empty pending)) (Brackets closing pending place) (bracket_at closing pending place)
    (λ at h. inr (h.0, refl, empty_is pending h.1))
    (λ at e. elim e [
      | inl h ↦ absurd (true≢false (ap is_closing h.1))
      | inr h ↦ (h.0, is_none_left pending h.2)
    ])
    (nearest_where (is_empty pending) place)
bracket_nearest bit_read pending place = λ at. neither bit_read refl refl pending place at
bracket_nearest bit_written pending place = λ at. neither bit_written refl refl pending place at
bracket_nearest load pending place = λ at. neither load refl refl pending place at
bracket_nearest transfer pending place = λ at. neither transfer refl refl pending place at
bracket_nearest word_logic pending place = λ at. neither word_logic refl refl pending place at
bracket_nearest double_logic pending place = λ at. neither double_logic refl refl pending place at
bracket_nearest word_shift pending place = λ at. neither word_shift refl refl pending place at
bracket_nearest double_shift pending place = λ at. neither double_shift refl refl pending place at
bracket_nearest no_operation pending place = λ at. neither no_operation refl refl pending place at
bracket_nearest display pending place = λ at. neither display refl refl pending place at
bracket_nearest jump pending place = λ at. neither jump refl refl pending place at
bracket_nearest block_end pending place = λ at. neither block_end refl refl pending place at
bracket_nearest calling pending place = λ at. neither calling refl refl pending place at
bracket_nearest alone pending place = λ at. neither alone refl refl pending place at

abbrev Inside : List Place → InstrTree → Place → Type 0
Inside pending i at = (first_place_of i ≡ at) × IsTrue (is_kept_outside (group_of i.op) || is_some i.label) × (pending ≢ [])

inside_nearest : (pending : List Place) (i : InstrTree) → IsNearest (Inside pending i) (inside_at pending i)
inside_nearest pending i =
    let kept = is_kept_outside (group_of i.op) || is_some i.label in
    nearest_same (λ at. (first_place_of i ≡ at) × IsTrue (kept && not (is_empty pending))) (Inside pending i) (inside_at pending i)
    (λ at h. let k = both_on kept (not (is_empty pending)) h.1 in (h.0, k.0, filled pending k.1))
    (λ at h. (h.0, on_both kept (not (is_empty pending)) h.1 (is_filled pending h.2)))
    (nearest_where (kept && not (is_empty pending)) (first_place_of i))

wrong_nearest : (pending : List Place) (i : InstrTree) → IsNearest (λ at. IsWrongBehind pending at i) (nesting_at pending i)
wrong_nearest pending i =
    nearest_same (λ at. Brackets (group_of i.op) pending i.place at ⊎ Inside pending i at) (λ at. IsWrongBehind pending at i) (nesting_at pending i)
    (λ at e. elim e [ inl b ↦ elim b [ inl h ↦ inl h | inr h ↦ inr (inl h) ] | inr h ↦ inr (inr h) ])
    (λ at e. elim e [ inl h ↦ inl (inl h) | inr f ↦ elim f [ inl h ↦ inl (inr h) | inr h ↦ inr h ] ])
    (nearest_both (Brackets (group_of i.op) pending i.place) (Inside pending i) (bracket_at (group_of i.op) pending i.place) (inside_at pending i)
    (bracket_nearest (group_of i.op) pending i.place) (inside_nearest pending i))

-- ---- along the instructions

abbrev NestIn : List Place → List InstrTree → Place → Type 0
NestIn pending [] at = Has pending at
NestIn pending (i ∷ more) at = IsWrongBehind pending at i ⊎ NestIn (open_behind pending (group_of i.op) i.place) more at

-- the nearest of places
places_nearest : (A : Place → Type 0) (ps : List Place) (n : Option Place) → IsNearest A n → IsNearest (λ at. A at ⊎ Has ps at) (nearest_in (λ p. Some p) ps n)
places_nearest A [] n h = nearest_same A (λ at. A at ⊎ ⊥) n (λ at a. inl a) (λ at e. elim e [ inl a ↦ a | inr b ↦ absurd b ]) h
places_nearest A (p ∷ ps) n h =
    nearest_same (λ at. (A at ⊎ (p ≡ at)) ⊎ Has ps at) (λ at. A at ⊎ ((p ≡ at) ⊎ Has ps at)) (nearest_in (λ p. Some p) (p ∷ ps) n)
    (λ at e. elim e [ inl f ↦ elim f [ inl a ↦ inl a | inr q ↦ inr (inl q) ] | inr g ↦ inr (inr g) ])
    (λ at e. elim e [ inl a ↦ inl (inl a) | inr f ↦ elim f [ inl q ↦ inl (inr q) | inr g ↦ inr g ] ])
    (places_nearest (λ at. A at ⊎ (p ≡ at)) ps (nearer_of n (Some p))
    (nearest_both A (λ at. p ≡ at) n (Some p) h (refl, λ at e. subst (λ x. IsTrue (is_before p x)) e (itself p))))

module _ {X : Type 0} where
  flipped : (x : X) (xs : List X) → reverse (x ∷ xs) ≡ reverse xs ++ x ∷ []
  flipped x xs = reverse-append (x ∷ []) xs

  has_flipped : (xs : List X) (y : X) → Has (reverse xs) y → Has xs y
  has_flipped [] y h = h
  has_flipped (x ∷ xs) y h =
      elim (has_either (λ z. z ≡ y) (reverse xs) (x ∷ []) (subst (λ l. Has l y) (flipped x xs) h)) [
        | inl g ↦ inr (has_flipped xs y g)
        | inr g ↦ elim g [ inl e ↦ inl e | inr b ↦ absurd b ]
      ]

  flipped_has : (xs : List X) (y : X) → Has xs y → Has (reverse xs) y
  flipped_has [] y h = h
  flipped_has (x ∷ xs) y (inl e) = subst (λ l. Has l y) (sym (flipped x xs)) (has_behind (λ z. z ≡ y) (reverse xs) (x ∷ []) (inl e))
  flipped_has (x ∷ xs) y (inr h) = subst (λ l. Has l y) (sym (flipped x xs)) (has_front (λ z. z ≡ y) (reverse xs) (x ∷ []) (flipped_has xs y h))

nest_along : (A : Place → Type 0) (pending : List Place) (is : List InstrTree) (n : Option Place) → IsNearest A n
    → IsNearest (λ at. A at ⊎ NestIn pending is at) (nesting_from pending is n)
nest_along A pending [] n h =
    nearest_same (λ at. A at ⊎ Has (reverse pending) at) (λ at. A at ⊎ Has pending at) (nesting_from pending [] n)
    (λ at e. elim e [ inl a ↦ inl a | inr g ↦ inr (has_flipped pending at g) ])
    (λ at e. elim e [ inl a ↦ inl a | inr g ↦ inr (flipped_has pending at g) ])
    (places_nearest A (reverse pending) n h)
nest_along A pending (i ∷ more) n h =
    let rest = open_behind pending (group_of i.op) i.place in
    nearest_same (λ at. (A at ⊎ IsWrongBehind pending at i) ⊎ NestIn rest more at) (λ at. A at ⊎ (IsWrongBehind pending at i ⊎ NestIn rest more at))
    (nesting_from pending (i ∷ more) n)
    (λ at e. elim e [ inl f ↦ elim f [ inl a ↦ inl a | inr q ↦ inr (inl q) ] | inr g ↦ inr (inr g) ])
    (λ at e. elim e [ inl a ↦ inl (inl a) | inr f ↦ elim f [ inl q ↦ inl (inr q) | inr g ↦ inr g ] ])
    (nest_along (λ at. A at ⊎ IsWrongBehind pending at i) rest more (nearer_of n (nesting_at pending i))
    (nearest_both A (λ at. IsWrongBehind pending at i) n (nesting_at pending i) h (wrong_nearest pending i)))

-- ---- by splits

abbrev open_from : List Place → List InstrTree → List Place
open_from pending is = fold (λ pending i. open_behind pending (group_of i.op) i.place) pending is

record Splits (pending : List Place) (is : List InstrTree) (at : Place) : Type 0 where
  pub front : List InstrTree
  pub instruction : InstrTree
  pub back : List InstrTree
  pub split : is ≡ front ++ instruction ∷ back
  pub is_wrong : IsWrongBehind (open_from pending front) at instruction

to_split : (pending : List Place) (is : List InstrTree) (at : Place) → NestIn pending is at → Splits pending is at ⊎ Has (open_from pending is) at
to_split pending [] at h = inr h
to_split pending (i ∷ more) at (inl w) = inl (record { front = []; instruction = i; back = more; split = refl; is_wrong = w })
to_split pending (i ∷ more) at (inr h) = elim (to_split (open_behind pending (group_of i.op) i.place) more at h) [
  | inl s ↦ inl (record { front = i ∷ s.front; instruction = s.instruction; back = s.back; split = ap (λ l. i ∷ l) s.split; is_wrong = s.is_wrong })
  | inr g ↦ inr g
]

of_front : (pending : List Place) (front : List InstrTree) (i : InstrTree) (back : List InstrTree) (at : Place)
    → IsWrongBehind (open_from pending front) at i → NestIn pending (front ++ i ∷ back) at
of_front pending [] i back at w = inl w
of_front pending (j ∷ front) i back at w = inr (of_front (open_behind pending (group_of j.op) j.place) front i back at w)

of_end : (pending : List Place) (is : List InstrTree) (at : Place) → Has (open_from pending is) at → NestIn pending is at
of_end pending [] at h = h
of_end pending (i ∷ more) at h = inr (of_end (open_behind pending (group_of i.op) i.place) more at h)

pub nestings_nearest : (is : List InstrTree) → IsNearest (λ at. NestsWrong is at ⊎ Contains (open_after is) at) (nesting_place is)
nestings_nearest is =
    nearest_same (λ at. ⊥ ⊎ NestIn [] is at) (λ at. NestsWrong is at ⊎ Contains (open_after is) at) (nesting_place is)
    (λ at e. elim e [
      | inl b ↦ absurd b
      | inr h ↦ elim (to_split [] is at h) [
        | inl s ↦ inl (record { front = s.front; instruction = s.instruction; back = s.back; split = s.split; is_wrong = s.is_wrong })
        | inr g ↦ inr (has_contains (open_after is) at g)
      ]
    ])
    (λ at e. elim e [
      | inl n ↦ inr (subst (λ l. NestIn [] l at) (sym n.split) (of_front [] n.front n.instruction n.back at n.is_wrong))
      | inr c ↦ inr (of_end [] is at (contains_has (open_after is) at c))
    ])
    (nest_along (λ at. ⊥) [] is None (λ at b. b))
