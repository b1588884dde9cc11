-- The nearest label that is missing or doubled is the least place at which labels are wrong.
use Rattle.std.proofs.Common.{◌≡◌, ℕ, refl, sym, ap, subst, ◌∙◌, inl, inr, List, [], ◌∷◌, ◌++◌, map, Option, Some, None, Bool, true, false, true≢false, IsTrue}
use Rattle.std.specs.Prelude.{◌⊎◌, ◌||◌, not, filter_map, Contains, IsSomeAnd, option_to_list, option_and_then}
use Rattle.std.specs.List.{list_any}
use Rattle.std.proofs.lemmas.Slice.Eq.{bytes_eq-Decides}
use Rattle.std.proofs.lemmas.List.Elements.{filter_map-append}
use Rattle.pv_place.specs.declared.place.Place.{Place}
use Rattle.pv_tree.specs.Tree.{PlacedName, InstrTree}
use Rattle.pv_tree.specs.InstructionGroups.{label_of_jump}
use Rattle.pv_tree.specs.Interfaces.{IsLater}
use Rattle.pv_tree.specs.Rules.Jumps.{labels_of, MissesLabel}
use Rattle.pv_rules_expr.specs.Members.{Has, IsLaterBehind}
use Rattle.pv_rules_expr.specs.Nearest.{IsNearest, nearer_of}
use Rattle.pv_rules_expr.proofs.ForCallers.{contains_has, has_contains, in_all_any, is_later, later_is, nearest_both, nearest_same, nearest_where}
use Rattle.pv_rules_instr.specs.AtLabels.{is_labelled, is_named, missing_of, missing_at, later_of, later_at, later_from, label_place}

abbrev keys_of : List PlacedName → List (List ℕ)
keys_of names = map (λ n. n.0.key) names

-- ---- which labels there are

one_or : (b c : Bool) → IsTrue (b || c) → IsTrue b ⊎ IsTrue c
one_or true c h = inl refl
one_or false c h = inr h

or_one : (b c : Bool) → IsTrue b ⊎ IsTrue c → IsTrue (b || c)
or_one true c h = refl
or_one false c (inl h) = absurd (true≢false (sym h))
or_one false c (inr h) = h

labels_more : (i : InstrTree) (is : List InstrTree) → labels_of (i ∷ is) ≡ option_to_list i.label ++ labels_of is
labels_more i is = filter_map-append (λ i. i.label) (i ∷ []) is ∙ ap (λ l. l ++ labels_of is) (one i.label)
  where
    one : (o : Option PlacedName) → filter_map (λ (b : Option PlacedName). b) (o ∷ []) ≡ option_to_list o
    one None = refl
    one (Some l) = refl

named_has : (key : List ℕ) (o : Option PlacedName) (rest : List PlacedName) → IsTrue (is_named key o) ⊎ Has (keys_of rest) key
    → Has (keys_of (option_to_list o ++ rest)) key
named_has key None rest (inl h) = absurd (true≢false (sym h))
named_has key None rest (inr h) = h
named_has key (Some l) rest (inl h) = inl (sym ((bytes_eq-Decides key l.0.key).0 h))
named_has key (Some l) rest (inr h) = inr h

has_named : (key : List ℕ) (o : Option PlacedName) (rest : List PlacedName) → Has (keys_of (option_to_list o ++ rest)) key
    → IsTrue (is_named key o) ⊎ Has (keys_of rest) key
has_named key None rest h = inr h
has_named key (Some l) rest (inl e) = inl ((bytes_eq-Decides key l.0.key).1 (sym e))
has_named key (Some l) rest (inr h) = inr h

pub has_label : (is : List InstrTree) (key : List ℕ) → IsTrue (list_any (is_labelled key) is) → Has (keys_of (labels_of is)) key
has_label [] key h = true≢false (sym h)
has_label (i ∷ is) key h =
    subst (λ l. Has (keys_of l) key) (sym (labels_more i is))
    (named_has key i.label (labels_of is) (elim (one_or (is_labelled key i) (list_any (is_labelled key) is) h) [ inl a ↦ inl a | inr b ↦ inr (has_label is key b) ]))

pub label_has : (is : List InstrTree) (key : List ℕ) → Has (keys_of (labels_of is)) key → IsTrue (list_any (is_labelled key) is)
label_has [] key h = absurd h
label_has (i ∷ is) key h =
    or_one (is_labelled key i) (list_any (is_labelled key) is)
    (elim (has_named key i.label (labels_of is) (subst (λ l. Has (keys_of l) key) (labels_more i is) h)) [ inl a ↦ inl a | inr b ↦ inr (label_has is key b) ])

-- ---- missing ones

not_on : (b : Bool) → IsTrue (not b) → IsTrue b → ⊥
not_on true h g = true≢false (sym h)
not_on false h g = true≢false (sym g)

on_not : (b : Bool) → (IsTrue b → ⊥) → IsTrue (not b)
on_not true f = absurd (f refl)
on_not false f = refl

abbrev IsMissing : List InstrTree → Place → PlacedName → Type 0
IsMissing is at l = (l.1 ≡ at) × (Contains (keys_of (labels_of is)) l.0.key → ⊥)

missing_name : (is : List InstrTree) (l : PlacedName) → IsNearest (λ at. IsMissing is at l) (missing_of is l)
missing_name is l =
    nearest_same (λ at. (l.1 ≡ at) × IsTrue (not (list_any (is_labelled l.0.key) is))) (λ at. IsMissing is at l) (missing_of is l)
    (λ at h. (h.0, (λ c. not_on (list_any (is_labelled l.0.key) is) h.1 (label_has is l.0.key (contains_has (keys_of (labels_of is)) l.0.key c)))))
    (λ at h. (h.0, on_not (list_any (is_labelled l.0.key) is) (λ on. h.1 (has_contains (keys_of (labels_of is)) l.0.key (has_label is l.0.key on)))))
    (nearest_where (not (list_any (is_labelled l.0.key) is)) l.1)

missing_where : (is : List InstrTree) (o : Option PlacedName) → IsNearest (λ at. IsSomeAnd o (IsMissing is at)) (option_and_then (missing_of is) o)
missing_where is None = λ at h. h
missing_where is (Some l) = missing_name is l

missing_nearest : (is : List InstrTree) (i : InstrTree) → IsNearest (λ at. IsSomeAnd (label_of_jump i) (IsMissing is at)) (missing_at is i)
missing_nearest is i = missing_where is (label_of_jump i)

-- ---- doubled ones

abbrev LaterIn : List InstrTree → List InstrTree → Place → Type 0
LaterIn before [] at = ⊥
LaterIn before (i ∷ more) at =
    IsSomeAnd i.label (λ l. (l.1 ≡ at) × IsTrue (list_any (is_labelled l.0.key) before)) ⊎ LaterIn (before ++ i ∷ []) more at

later_where : (before : List InstrTree) (o : Option PlacedName)
    → IsNearest (λ at. IsSomeAnd o (λ l. (l.1 ≡ at) × IsTrue (list_any (is_labelled l.0.key) before))) (option_and_then (later_of before) o)
later_where before None = λ at h. h
later_where before (Some l) = nearest_where (list_any (is_labelled l.0.key) before) l.1

later_along : (A : Place → Type 0) (before is : List InstrTree) (n : Option Place) → IsNearest A n
    → IsNearest (λ at. A at ⊎ LaterIn before is at) (later_from before is n)
later_along A before [] n h = nearest_same A (λ at. A at ⊎ ⊥) n (λ at a. inl a) (λ at e. elim e [ inl a ↦ a | inr b ↦ absurd b ]) h
later_along A before (i ∷ more) n h =
    let Q : Place → Type 0 = λ at. IsSomeAnd i.label (λ l. (l.1 ≡ at) × IsTrue (list_any (is_labelled l.0.key) before)) in
    nearest_same (λ at. (A at ⊎ Q at) ⊎ LaterIn (before ++ i ∷ []) more at) (λ at. A at ⊎ (Q at ⊎ LaterIn (before ++ i ∷ []) more at))
    (later_from before (i ∷ more) n)
    (λ at e. elim e [ inl f ↦ elim f [ inl a ↦ inl a | inr q ↦ inr (inl q) ] | inr g ↦ inr (inr g) ])
    (λ at e. elim e [ inl a ↦ inl (inl a) | inr f ↦ elim f [ inl q ↦ inl (inr q) | inr g ↦ inr g ] ])
    (later_along (λ at. A at ⊎ Q at) (before ++ i ∷ []) more (nearer_of n (later_at before i))
    (nearest_both A Q n (later_at before i) h (later_where before i.label)))

labels_both : (xs ys : List InstrTree) → labels_of (xs ++ ys) ≡ labels_of xs ++ labels_of ys
labels_both xs ys = filter_map-append (λ i. i.label) xs ys

keys_both : (xs ys : List PlacedName) → keys_of (xs ++ ys) ≡ keys_of xs ++ keys_of ys
keys_both [] ys = refl
keys_both (x ∷ xs) ys = ap (λ l. x.0.key ∷ l) (keys_both xs ys)

nothing_behind : {X : Type 0} (xs : List X) → xs ++ [] ≡ xs
nothing_behind [] = refl
nothing_behind (x ∷ xs) = ap (λ l. x ∷ l) (nothing_behind xs)

keys_then : (before : List InstrTree) (i : InstrTree)
    → keys_of (labels_of (before ++ i ∷ [])) ≡ keys_of (labels_of before) ++ keys_of (option_to_list i.label)
keys_then before i =
    ap keys_of (labels_both before (i ∷ []) ∙ ap (λ l. labels_of before ++ l) (labels_more i [] ∙ nothing_behind (option_to_list i.label)))
    ∙ keys_both (labels_of before) (option_to_list i.label)

later_to : (before is : List InstrTree) (at : Place) → LaterIn before is at → IsLaterBehind (keys_of (labels_of before)) (labels_of is) at
later_to before [] at h = absurd h
later_to before (i ∷ more) at h =
    subst (λ l. IsLaterBehind (keys_of (labels_of before)) l at) (sym (labels_more i more))
    (by i.label (λ g. subst (λ k. IsLaterBehind k (labels_of more) at) (keys_then before i) (later_to (before ++ i ∷ []) more at g)) h)
  where
    by : (o : Option PlacedName)
        → (LaterIn (before ++ i ∷ []) more at → IsLaterBehind (keys_of (labels_of before) ++ keys_of (option_to_list o)) (labels_of more) at)
        → IsSomeAnd o (λ l. (l.1 ≡ at) × IsTrue (list_any (is_labelled l.0.key) before)) ⊎ LaterIn (before ++ i ∷ []) more at
        → IsLaterBehind (keys_of (labels_of before)) (option_to_list o ++ labels_of more) at
    by None rest (inl h) = absurd h
    by None rest (inr g) = subst (λ k. IsLaterBehind k (labels_of more) at) (nothing_behind (keys_of (labels_of before))) (rest g)
    by (Some l) rest (inl h) = inl (has_label before l.0.key h.1, h.0)
    by (Some l) rest (inr g) = inr (rest g)

later_of_names : (before is : List InstrTree) (at : Place) → IsLaterBehind (keys_of (labels_of before)) (labels_of is) at → LaterIn before is at
later_of_names before [] at h = h
later_of_names before (i ∷ more) at h =
    by i.label (λ g. later_of_names (before ++ i ∷ []) more at (subst (λ k. IsLaterBehind k (labels_of more) at) (sym (keys_then before i)) g))
    (subst (λ l. IsLaterBehind (keys_of (labels_of before)) l at) (labels_more i more) h)
  where
    by : (o : Option PlacedName)
        → (IsLaterBehind (keys_of (labels_of before) ++ keys_of (option_to_list o)) (labels_of more) at → LaterIn (before ++ i ∷ []) more at)
        → IsLaterBehind (keys_of (labels_of before)) (option_to_list o ++ labels_of more) at
        → IsSomeAnd o (λ l. (l.1 ≡ at) × IsTrue (list_any (is_labelled l.0.key) before)) ⊎ LaterIn (before ++ i ∷ []) more at
    by None rest g = inr (rest (subst (λ k. IsLaterBehind k (labels_of more) at) (sym (nothing_behind (keys_of (labels_of before)))) g))
    by (Some l) rest (inl h) = inl (h.1, label_has before l.0.key h.0)
    by (Some l) rest (inr g) = inr (rest g)

-- ---- both

pub labels_nearest : (is : List InstrTree) → IsNearest (λ at. MissesLabel is at ⊎ IsLater (labels_of is) at) (label_place is)
labels_nearest is =
    nearest_same (λ at. (⊥ ⊎ LaterIn [] is at) ⊎ MissesLabel is at) (λ at. MissesLabel is at ⊎ IsLater (labels_of is) at) (label_place is)
    (λ at e. elim e [ inl f ↦ elim f [ inl b ↦ absurd b | inr g ↦ inr (later_is (labels_of is) at (later_to [] is at g)) ] | inr m ↦ inl m ])
    (λ at e. elim e [ inl m ↦ inr m | inr l ↦ inl (inr (later_of_names [] is at (is_later (labels_of is) at l))) ])
    (in_all_any (λ i at. IsSomeAnd (label_of_jump i) (IsMissing is at)) (missing_at is) (missing_nearest is) (λ at. ⊥ ⊎ LaterIn [] is at) is (later_from [] is None)
    (later_along (λ at. ⊥) [] is None (λ at b. b)))
