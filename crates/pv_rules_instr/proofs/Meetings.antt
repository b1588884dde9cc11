-- Instructions that are met one by one: labels in a table, nestings on a stack, where jumps go.
use Rattle.std.proofs.Common.{◌≡◌, ℕ, suc, ◌+◌, ◌<◌, ◌≤◌, refl, sym, ap, subst, ◌∙◌, arith, List, [], ◌∷◌, ◌++◌, map, take, drop, get_or, length, Option, Some, None, Bool, true, false, ◌||◌, not, is_some, if◌then◌else◌}
use Rattle.std.specs.Prelude.{bytes_eq, option_map, option_and_then}
use Rattle.std.specs.List.{list_any}
use Rattle.std.proofs.Math.Seq.{drop-cons}
use Rattle.std.proofs.lemmas.List.{length-map, length-take-le}
use Rattle.pv_place.specs.declared.place.Place.{Place}
use Rattle.pv_tree.specs.Tree.{PlacedName, InstrTree}
use Rattle.pv_tree.specs.InstructionGroups.{label_of_jump}
use Rattle.pv_names.specs.Firsts.{number_in, or_number, first_number}
use Rattle.pv_names.specs.declared.firsts.Firsts.{Firsts}
use Rattle.pv_rules_expr.specs.Nearest.{nearer_of}
use Rattle.pv_rules_expr.specs.Places.{place_where}
use Rattle.pv_rules_expr.proofs.ForCallers.{taken_one}
use Rattle.pv_rules_instr.specs.AtRanges.{RangeNumbers, range_at, range_from}
use Rattle.pv_rules_instr.specs.AtLabels.{FindsLabels, is_labelled, is_named, number_of_label, missing_of, missing_at, later_at, later_of, later_from}

-- ---- the first number of a label

later : (o : Option ℕ) (b : Bool) (n : ℕ) → option_map (λ n. suc n) (or_number o b n) ≡ or_number (option_map (λ n. suc n) o) b (suc n)
later (Some i) b n = refl
later None true n = refl
later None false n = refl

pub one_more : {X : Type 0} (p : X → Bool) (xs : List X) (x : X) → first_number p (xs ++ x ∷ []) ≡ or_number (first_number p xs) (p x) (length xs)
one_more p [] x = elim (p x) as (λ b. (if b then Some 0 else None) ≡ or_number None b 0) [ true ↦ refl | false ↦ refl ]
one_more p (y ∷ ys) x =
    elim (p y) as (λ b. (if b then Some 0 else option_map (λ n. suc n) (first_number p (ys ++ x ∷ [])))
    ≡ or_number (if b then Some 0 else option_map (λ n. suc n) (first_number p ys)) (p x) (suc (length ys))) [
      | true ↦ refl
      | false ↦ ap (option_map (λ n. suc n)) (one_more p ys x) ∙ later (first_number p ys) (p x) (length ys)
    ]

not_one : (o : Option ℕ) (n : ℕ) → or_number o false n ≡ o
not_one (Some i) n = refl
not_one None n = refl

pub met_some : (old new : Firsts) (before : List InstrTree) (i : InstrTree) (l : PlacedName) (n : ℕ) → i.label ≡ Some l → n ≡ length before
    → ((key : List ℕ) → number_in new key ≡ or_number (number_in old key) (bytes_eq key l.0.key) n) → FindsLabels old before
    → FindsLabels new (before ++ i ∷ [])
met_some old new before i l n has long step h key =
    step key ∙ ap (λ o. or_number o (bytes_eq key l.0.key) n) (h key)
    ∙ ap (λ b. or_number (number_of_label before key) b n) (sym (ap (is_named key) has))
    ∙ ap (or_number (number_of_label before key) (is_labelled key i)) long
    ∙ sym (one_more (is_labelled key) before i)

pub met_none : (table : Firsts) (before : List InstrTree) (i : InstrTree) → i.label ≡ None → FindsLabels table before → FindsLabels table (before ++ i ∷ [])
met_none table before i has h key =
    h key ∙ sym (not_one (number_of_label before key) (length before))
    ∙ ap (λ b. or_number (number_of_label before key) b (length before)) (sym (ap (is_named key) has))
    ∙ sym (one_more (is_labelled key) before i)

some_mapped : (o : Option ℕ) → is_some (option_map (λ n. suc n) o) ≡ is_some o
some_mapped None = refl
some_mapped (Some n) = refl

some_number : {X : Type 0} (p : X → Bool) (xs : List X) → is_some (first_number p xs) ≡ list_any p xs
some_number p [] = refl
some_number p (x ∷ xs) =
    elim (p x) as (λ b. is_some (if b then Some 0 else option_map (λ n. suc n) (first_number p xs)) ≡ (b || list_any p xs)) [
      | true ↦ refl
      | false ↦ some_mapped (first_number p xs) ∙ some_number p xs
    ]

pub near_some : (table : Firsts) (before : List InstrTree) (i : InstrTree) (l : PlacedName) (nearest found new : Option Place) (o : Option ℕ) (b : Bool)
    → i.label ≡ Some l → o ≡ number_in table l.0.key → b ≡ is_some o → found ≡ place_where b l.1 → new ≡ nearer_of nearest found
    → FindsLabels table before → new ≡ nearer_of nearest (later_at before i)
near_some table before i l nearest found new o b has looked test at made h =
    made
    ∙ ap (nearer_of nearest) (at ∙ ap (λ t. place_where t l.1) (test ∙ ap is_some (looked ∙ h l.0.key) ∙ some_number (is_labelled l.0.key) before)
    ∙ sym (ap (option_and_then (later_of before)) has))

not_not : (b : Bool) → b ≡ not (not b)
not_not true = refl
not_not false = refl

-- a jump's label that none has
pub missing_some : (table : Firsts) (all : List InstrTree) (i : InstrTree) (l : PlacedName) (found : Option Place) (o : Option ℕ) (b : Bool)
    → label_of_jump i ≡ Some l → o ≡ number_in table l.0.key → is_some o ≡ not b → found ≡ place_where b l.1 → FindsLabels table all
    → found ≡ missing_at all i
missing_some table all i l found o b jumps looked test at h =
    at ∙ ap (λ t. place_where t l.1) (not_not b ∙ ap not (sym test ∙ ap is_some (looked ∙ h l.0.key) ∙ some_number (is_labelled l.0.key) all))
    ∙ sym (ap (option_and_then (missing_of all)) jumps)

-- ---- along instructions

module _ {X : Type 0} (g : X → InstrTree) (xs : List X) (i j : ℕ) (x : X) (inside : i < length xs) (is : x ≡ get_or xs i x) (next : j ≡ i + 1) where
  pub taken_so : map g (take i xs) ++ g x ∷ [] ≡ map g (take j xs)
  taken_so = sym (ap (λ k. map g (take k xs)) next ∙ taken_one g xs i x inside is)

  pub left_so : map g (drop i xs) ≡ g x ∷ map g (drop j xs)
  left_so =
      let k : suc i ≡ j = omega (arith, next) in
      ap (map g) (drop-cons xs i x inside) ∙ ap (λ y. g y ∷ map g (drop (suc i) xs)) (sym is) ∙ ap (λ n. g x ∷ map g (drop n xs)) k

  pub so_many : i ≡ length (map g (take i xs))
  so_many = let below : i ≤ length xs = omega (arith, inside) in sym (length-map (take i xs) g ∙ length-take-le i xs below)

  pub met_next : (table : Firsts) → FindsLabels table (map g (take i xs) ++ g x ∷ []) → FindsLabels table (map g (take j xs))
  met_next table h = subst (FindsLabels table) taken_so h

  pub later_next : (n m total : Option Place) → m ≡ later_from (map g (take i xs)) (g x ∷ []) n
      → later_from (map g (take i xs)) (map g (drop i xs)) n ≡ total → later_from (map g (take j xs)) (map g (drop j xs)) m ≡ total
  later_next n m total looked left =
      ap (later_from (map g (take j xs)) (map g (drop j xs))) looked
      ∙ ap (λ b. later_from b (map g (drop j xs)) (nearer_of n (later_at (map g (take i xs)) (g x)))) (sym taken_so)
      ∙ ap (λ l. later_from (map g (take i xs)) l n) (sym left_so) ∙ left

  pub ranged_next : (r : RangeNumbers) (n m total : Option Place) → m ≡ nearer_of n (range_at r i (g x))
      → range_from r i (map g (drop i xs)) n ≡ total → range_from r j (map g (drop j xs)) m ≡ total
  ranged_next r n m total looked left =
      let k : suc i ≡ j = omega (arith, next) in
      ap (range_from r j (map g (drop j xs))) looked
      ∙ ap (λ y. range_from r y (map g (drop j xs)) (nearer_of n (range_at r i (g x)))) (sym k)
      ∙ ap (λ l. range_from r i l n) (sym left_so) ∙ left

  pub more_mapped : (f : InstrTree → Option ℕ) (had now : List (Option ℕ)) (o : Option ℕ) → now ≡ had ++ o ∷ [] → o ≡ f (g x)
      → had ≡ map f (map g (take i xs)) → now ≡ map f (map g (take j xs))
  more_mapped f had now o pushed is_it h =
      pushed ∙ ap (λ l. l ++ o ∷ []) h ∙ ap (λ y. map f (map g (take i xs)) ++ y ∷ []) is_it
      ∙ both (map g (take i xs)) ∙ ap (map f) taken_so
    where
      both : (ys : List InstrTree) → map f ys ++ f (g x) ∷ [] ≡ map f (ys ++ g x ∷ [])
      both [] = refl
      both (y ∷ ys) = ap (λ l. f y ∷ l) (both ys)
