-- Some element of lists behind one another; lists without their last; and what a later name is.
use Rattle.std.proofs.Common.{◌≡◌, ℕ, zero, suc, ◌+◌, ◌<◌, List, [], ◌∷◌, ◌++◌, map, length, get_or, take, add-one, refl, ap, sym, subst, ◌∙◌, arith, inl, inr, append_assoc}
use Rattle.std.specs.Prelude.{◌⊎◌, slice_index_or, Contains}
use Rattle.pv_place.specs.declared.place.Place.{Place}
use Rattle.pv_tree.specs.Tree.{PlacedName}
use Rattle.pv_tree.specs.Interfaces.{IsLater}
use Rattle.pv_rules_expr.specs.Members.{HasSome, Has, IsLaterBehind}

pub has_front : {X : Type 0} (P : X → Type 0) (xs ys : List X) → HasSome P xs → HasSome P (xs ++ ys)
has_front P [] ys h = absurd h
has_front P (x ∷ xs) ys (inl p) = inl p
has_front P (x ∷ xs) ys (inr h) = inr (has_front P xs ys h)

pub has_behind : {X : Type 0} (P : X → Type 0) (xs ys : List X) → HasSome P ys → HasSome P (xs ++ ys)
has_behind P [] ys h = h
has_behind P (x ∷ xs) ys h = inr (has_behind P xs ys h)

pub has_either : {X : Type 0} (P : X → Type 0) (xs ys : List X) → HasSome P (xs ++ ys) → HasSome P xs ⊎ HasSome P ys
has_either P [] ys h = inr h
has_either P (x ∷ xs) ys (inl p) = inl (inl p)
has_either P (x ∷ xs) ys (inr h) = elim (has_either P xs ys h) [ inl a ↦ inl (inr a) | inr b ↦ inr b ]

abbrev keys_of : List PlacedName → List (List ℕ)
keys_of all = map (λ n. n.0.key) all

taken_next : {X : Type 0} {Y : Type 0} (f : X → Y) (xs : List X) (i : ℕ) (x : X) → i < length xs → x ≡ get_or xs i x
    → map f (take (suc i) xs) ≡ map f (take i xs) ++ f x ∷ []
taken_next f [] i x lt is = absurd (omega (arith, lt))
taken_next f (y ∷ ys) zero x lt is = ap (λ z. f z ∷ []) (sym is)
taken_next f (y ∷ ys) (suc i) x lt is = ap (λ l. f y ∷ l) (taken_next f ys i x (omega (arith, lt)) is)

pub taken_one : {X : Type 0} {Y : Type 0} (f : X → Y) (xs : List X) (i : ℕ) (x : X) → i < length xs → x ≡ get_or xs i x
    → map f (take (i + 1) xs) ≡ map f (take i xs) ++ f x ∷ []
taken_one f xs i x lt is = ap (λ n. map f (take n xs)) (add-one i) ∙ taken_next f xs i x lt is

-- ---- the definition

pub has_contains : {X : Type 0} (xs : List X) (x : X) → Has xs x → Contains xs x
has_contains [] x h = absurd h
has_contains (y ∷ ys) x (inl is) = (0, omega arith, is)
has_contains (y ∷ ys) x (inr h) = let rest = has_contains ys x h in (suc rest.0, omega (arith, rest.1), rest.2)

pub contains_has : {X : Type 0} (xs : List X) (x : X) → Contains xs x → Has xs x
contains_has {X = X} xs x c = walked xs c.0 c.1 c.2
  where
    walked : (ys : List X) (k : ℕ) → k < length ys → slice_index_or ys k x ≡ x → Has ys x
    walked [] k lt is = absurd (omega (arith, lt))
    walked (y ∷ ys) zero lt is = inl is
    walked (y ∷ ys) (suc k) lt is = inr (walked ys k (omega (arith, lt)) is)

record Splits (keys : List (List ℕ)) (all : List PlacedName) (at : Place) : Type 0 where
  pub front : List PlacedName
  pub later : PlacedName
  pub back : List PlacedName
  pub split : all ≡ front ++ later ∷ back
  pub known : Has (keys ++ keys_of front) later.0.key
  pub is_at : later.1 ≡ at

splits_of : (keys : List (List ℕ)) (all : List PlacedName) (at : Place) → IsLaterBehind keys all at → Splits keys all at
splits_of keys [] at h = absurd h
splits_of keys (n ∷ more) at (inl h) = record {
  front = [];
  later = n;
  back = more;
  split = refl;
  known = has_front (λ y. y ≡ n.0.key) keys [] h.0;
  is_at = h.1;
}
splits_of keys (n ∷ more) at (inr h) = let rest = splits_of (keys ++ n.0.key ∷ []) more at h in record {
  front = n ∷ rest.front;
  later = rest.later;
  back = rest.back;
  split = ap (λ l. n ∷ l) rest.split;
  known = subst (λ l. Has l rest.later.0.key) (append_assoc keys (n.0.key ∷ []) (keys_of rest.front)) rest.known;
  is_at = rest.is_at;
}

of_split : (keys : List (List ℕ)) (front : List PlacedName) (later : PlacedName) (back : List PlacedName) (at : Place)
    → Has (keys ++ keys_of front) later.0.key → later.1 ≡ at → IsLaterBehind keys (front ++ later ∷ back) at
of_split keys [] later back at h is = inl (elim (has_either (λ y. y ≡ later.0.key) keys [] h) [ inl k ↦ k | inr never ↦ absurd never ], is)
of_split keys (n ∷ front) later back at h is =
    inr (of_split (keys ++ n.0.key ∷ []) front later back at (subst (λ l. Has l later.0.key) (sym (append_assoc keys (n.0.key ∷ []) (keys_of front))) h) is)

pub later_is : (all : List PlacedName) (at : Place) → IsLaterBehind [] all at → IsLater all at
later_is all at h = let s = splits_of [] all at h in record {
  front = s.front;
  later = s.later;
  back = s.back;
  split = s.split;
  is_before = has_contains (keys_of s.front) s.later.0.key s.known;
  is_at = s.is_at;
}

pub is_later : (all : List PlacedName) (at : Place) → IsLater all at → IsLaterBehind [] all at
is_later all at r =
    subst (λ l. IsLaterBehind [] l at) (sym r.split) (of_split [] r.front r.later r.back at (contains_has (keys_of r.front) r.later.0.key r.is_before) r.is_at)
