-- The nearest place, part by part.
use Rattle.std.proofs.Common.{◌≡◌, ℕ, zero, suc, ◌+◌, ◌<◌, ◌≤◌, true, false, List, [], ◌∷◌, map, length, get_or, take, add-one, refl, ap, sym, subst, ◌∙◌, arith, inl, inr}
use Rattle.std.specs.Prelude.{◌⊎◌, nat_lt, nat_eq, nat_le, ◌&&◌, ◌||◌, Option, Some, None, IsTrue, Any, slice_index_or}
use Rattle.std.proofs.lemmas.Bool.Decides.{nat_tests}
use Rattle.pv_place.specs.declared.place.Place.{Place}
use Rattle.pv_rules_expr.specs.Members.{HasSome}
use Rattle.pv_rules_expr.specs.Nearest.{is_before, IsUpTo, IsNearest, Nears}

before_through : (f g h p q r : ℕ) → IsTrue (nat_lt f g || (nat_eq f g && nat_le p q)) → IsTrue (nat_lt g h || (nat_eq g h && nat_le q r))
    → IsTrue (nat_lt f h || (nat_eq f h && nat_le p r))
before_through f g h p q r s t = grind (arith, nat_tests)

before_self : (f p : ℕ) → IsTrue (nat_lt f f || (nat_eq f f && nat_le p p))
before_self f p = grind (arith, nat_tests)

before_other : (f g p q : ℕ) → nat_lt f g || (nat_eq f g && nat_le p q) ≡ false → IsTrue (nat_lt g f || (nat_eq g f && nat_le q p))
before_other f g p q isnt = grind (arith, nat_tests)

pub through : (a b c : Place) → IsTrue (is_before a b) → IsTrue (is_before b c) → IsTrue (is_before a c)
through a b c s t = before_through a.file b.file c.file a.offset b.offset c.offset s t

pub itself : (a : Place) → IsTrue (is_before a a)
itself a = before_self a.file a.offset

pub other : (a b : Place) → is_before a b ≡ false → IsTrue (is_before b a)
other a b isnt = before_other a.file b.file a.offset b.offset isnt

up_to_through : (new : Option Place) (a b : Place) → IsUpTo new a → IsTrue (is_before a b) → IsUpTo new b
up_to_through None a b u t = absurd u
up_to_through (Some n) a b u t = through n a b u t

some_same : (a b : Place) → Some a ≡ Some b → a ≡ b
some_same a b e = cc

none_some : (a : Place) → None ≡ Some a → ⊥
none_some a e = cc

-- the old one is up to itself
pub kept_up : (old : Option Place) (at : Place) → old ≡ Some at → IsUpTo old at
kept_up old at is = subst (λ o. IsUpTo o at) (sym is) (itself at)

pub near_none : (old : Option Place) → Nears (λ at. ⊥) old old
near_none old = record { is_one = inl refl; up_to_old = λ at is. kept_up old at is; up_to_each = λ at never. absurd never }

-- one place
pub near_first : (place : Place) → Nears (λ at. place ≡ at) None (Some place)
near_first place = record {
  is_one = inr (place, refl, refl);
  up_to_old = λ at is. absurd (none_some at is);
  up_to_each = λ at same. subst (λ x. IsTrue (is_before place x)) same (itself place);
}

pub near_kept : (old place : Place) → is_before old place ≡ true → Nears (λ at. place ≡ at) (Some old) (Some old)
near_kept old place so = record {
  is_one = inl refl;
  up_to_old = λ at is. kept_up (Some old) at is;
  up_to_each = λ at same. subst (λ x. IsTrue (is_before old x)) same so;
}

pub near_new : (old place : Place) → is_before old place ≡ false → Nears (λ at. place ≡ at) (Some old) (Some place)
near_new old place isnt = record {
  is_one = inr (place, refl, refl);
  up_to_old = λ at is. subst (λ x. IsTrue (is_before place x)) (some_same old at is) (other old place isnt);
  up_to_each = λ at same. subst (λ x. IsTrue (is_before place x)) same (itself place);
}

-- the same places, said otherwise
pub near_same : (P Q : Place → Type 0) (old new : Option Place) → ((at : Place) → P at → Q at) → ((at : Place) → Q at → P at) → Nears P old new
    → Nears Q old new
near_same P Q old new to from n = record {
  is_one = elim n.is_one [ inl kept ↦ inl kept | inr it ↦ inr (it.0, it.1, to it.0 it.2) ];
  up_to_old = n.up_to_old;
  up_to_each = λ at q. n.up_to_each at (from at q);
}

-- these, and then those
pub near_then : (P Q : Place → Type 0) (a b c : Option Place) → Nears P a b → Nears Q b c → Nears (λ at. P at ⊎ Q at) a c
near_then P Q a b c f g = record {
  is_one = elim g.is_one [
    | inl kept ↦ elim f.is_one [ inl same ↦ inl (kept ∙ same) | inr it ↦ inr (it.0, kept ∙ it.1, inl it.2) ]
    | inr it ↦ inr (it.0, it.1, inr it.2)
  ];
  up_to_old = λ at is. up b at (f.up_to_old at is);
  up_to_each = λ at h. elim h [ inl p ↦ up b at (f.up_to_each at p) | inr q ↦ g.up_to_each at q ];
}
  where
    up : (o : Option Place) (at : Place) → IsUpTo b at → IsUpTo c at
    up o at u = elim b as (λ x. b ≡ x → IsUpTo x at → IsUpTo c at) [
      | None ↦ λ e v. absurd v
      | Some m ↦ λ e v. up_to_through c m at (g.up_to_old m e) v
    ] refl u

-- from nothing on, what is found is the nearest
pub nearest_of : (P : Place → Type 0) (new : Option Place) → Nears P None new → IsNearest P new
nearest_of P None n = λ at p. n.up_to_each at p
nearest_of P (Some a) n = (
  elim n.is_one [ inl kept ↦ absurd (none_some a (sym kept)) | inr it ↦ subst P (sym (some_same a it.0 it.1)) it.2 ],
  (λ at p. n.up_to_each at p),
)

-- ---- lists

has_more : {X : Type 0} {Y : Type 0} (P : Y → Type 0) (f : X → Y) (xs : List X) (i : ℕ) (x : X) → i < length xs → x ≡ get_or xs i x
    → HasSome P (map f (take i xs)) ⊎ P (f x) → HasSome P (map f (take (suc i) xs))
has_more P f [] i x lt is h = absurd (omega (arith, lt))
has_more P f (y ∷ ys) zero x lt is (inl h) = absurd h
has_more P f (y ∷ ys) zero x lt is (inr p) = inl (subst (λ z. P (f z)) is p)
has_more P f (y ∷ ys) (suc i) x lt is (inl (inl p)) = inl p
has_more P f (y ∷ ys) (suc i) x lt is (inl (inr h)) = inr (has_more P f ys i x (omega (arith, lt)) is (inl h))
has_more P f (y ∷ ys) (suc i) x lt is (inr p) = inr (has_more P f ys i x (omega (arith, lt)) is (inr p))

has_less : {X : Type 0} {Y : Type 0} (P : Y → Type 0) (f : X → Y) (xs : List X) (i : ℕ) (x : X) → i < length xs → x ≡ get_or xs i x
    → HasSome P (map f (take (suc i) xs)) → HasSome P (map f (take i xs)) ⊎ P (f x)
has_less P f [] i x lt is h = absurd (omega (arith, lt))
has_less P f (y ∷ ys) zero x lt is (inl p) = inr (subst (λ z. P (f z)) (sym is) p)
has_less P f (y ∷ ys) zero x lt is (inr h) = absurd h
has_less P f (y ∷ ys) (suc i) x lt is (inl p) = inl (inl p)
has_less P f (y ∷ ys) (suc i) x lt is (inr h) = elim (has_less P f ys i x (omega (arith, lt)) is h) [ inl g ↦ inl (inr g) | inr p ↦ inr p ]

-- one more element of a list
pub near_more : {X : Type 0} {Y : Type 0} (P : Place → Y → Type 0) (f : X → Y) (xs : List X) (i : ℕ) (x : X) (a b c : Option Place) → i < length xs
    → x ≡ get_or xs i x → Nears (λ at. HasSome (P at) (map f (take i xs))) a b → Nears (λ at. P at (f x)) b c
    → Nears (λ at. HasSome (P at) (map f (take (i + 1) xs))) a c
near_more P f xs i x a b c lt is before one =
    subst (λ n. Nears (λ at. HasSome (P at) (map f (take n xs))) a c) (sym (add-one i))
    (near_same (λ at. HasSome (P at) (map f (take i xs)) ⊎ P at (f x)) (λ at. HasSome (P at) (map f (take (suc i) xs))) a c
    (λ at h. has_more (P at) f xs i x lt is h) (λ at h. has_less (P at) f xs i x lt is h)
    (near_then (λ at. HasSome (P at) (map f (take i xs))) (λ at. P at (f x)) a b c before one))

-- ---- by index and by recursion

pub any_has : {X : Type 0} (P : X → Type 0) (xs : List X) → Any P xs → HasSome P xs
any_has {X = X} P xs a = walked xs a.0 a.1 a.2 a.3 a.4
  where
    walked : (ys : List X) (k : ℕ) (x : X) → k < length ys → slice_index_or ys k x ≡ x → P x → HasSome P ys
    walked [] k x lt is p = absurd (omega (arith, lt))
    walked (y ∷ ys) zero x lt is p = inl (subst P (sym is) p)
    walked (y ∷ ys) (suc k) x lt is p = inr (walked ys k x (omega (arith, lt)) is p)

pub has_any : {X : Type 0} (P : X → Type 0) (xs : List X) → HasSome P xs → Any P xs
has_any P [] h = absurd h
has_any P (x ∷ xs) (inl p) = (0, x, omega arith, refl, p)
has_any P (x ∷ xs) (inr h) = let rest = has_any P xs h in (suc rest.0, rest.1, omega (arith, rest.2), rest.3, rest.4)

-- the places are those that the rule is broken at
pub nearest_by : (P Q : Place → Type 0) (new : Option Place) → ((at : Place) → P at → Q at) → ((at : Place) → Q at → P at) → Nears P None new → IsNearest Q new
nearest_by P Q new to from n = nearest_of Q new (near_same P Q None new to from n)

-- of a list of lists
pub any_lists : {X : Type 0} {Y : Type 0} (P : Y → Type 0) (f : X → List Y) (xs : List X) → Any (λ x. Any P (f x)) xs → HasSome (λ l. HasSome P l) (map f xs)
any_lists {X = X} P f xs a = inner xs (any_has (λ x. Any P (f x)) xs a)
  where
    inner : (ys : List X) → HasSome (λ x. Any P (f x)) ys → HasSome (λ l. HasSome P l) (map f ys)
    inner [] h = absurd h
    inner (y ∷ ys) (inl p) = inl (any_has P (f y) p)
    inner (y ∷ ys) (inr h) = inr (inner ys h)

pub lists_any : {X : Type 0} {Y : Type 0} (P : Y → Type 0) (f : X → List Y) (xs : List X) → HasSome (λ l. HasSome P l) (map f xs) → Any (λ x. Any P (f x)) xs
lists_any {X = X} P f xs h = has_any (λ x. Any P (f x)) xs (inner xs h)
  where
    inner : (ys : List X) → HasSome (λ l. HasSome P l) (map f ys) → HasSome (λ x. Any P (f x)) ys
    inner [] h = absurd h
    inner (y ∷ ys) (inl p) = inl (has_any P (f y) p)
    inner (y ∷ ys) (inr h) = inr (inner ys h)

pub all_taken : {X : Type 0} (xs : List X) (n : ℕ) → length xs ≤ n → take n xs ≡ xs
all_taken [] zero le = refl
all_taken [] (suc n) le = refl
all_taken (x ∷ xs) zero le = absurd (omega (arith, le))
all_taken (x ∷ xs) (suc n) le = ap (λ l. x ∷ l) (all_taken xs n (omega (arith, le)))

-- the whole list
pub near_all : {X : Type 0} {Y : Type 0} (P : Place → Y → Type 0) (f : X → Y) (xs : List X) (n : ℕ) (a b : Option Place) → length xs ≤ n
    → Nears (λ at. HasSome (P at) (map f (take n xs))) a b → Nears (λ at. HasSome (P at) (map f xs)) a b
near_all P f xs n a b le seen = subst (λ l. Nears (λ at. HasSome (P at) (map f l)) a b) (all_taken xs n le) seen

-- a place that counts where something holds
pub near_where : (place : Place) (W : Type 0) (old new : Option Place) → W → Nears (λ at. place ≡ at) old new → Nears (λ at. (place ≡ at) × W) old new
near_where place W old new w n = near_same (λ at. place ≡ at) (λ at. (place ≡ at) × W) old new (λ at is. (is, w)) (λ at h. h.0) n

pub near_where_behind : (place : Place) (W : Type 0) (old : Option Place) → Nears (λ at. place ≡ at) old old → Nears (λ at. (place ≡ at) × W) old old
near_where_behind place W old n = record { is_one = inl refl; up_to_old = n.up_to_old; up_to_each = λ at h. n.up_to_each at h.0 }

pub near_where_not : (place : Place) (W : Type 0) (old : Option Place) → (W → ⊥) → Nears (λ at. (place ≡ at) × W) old old
near_where_not place W old never = near_same (λ at. ⊥) (λ at. (place ≡ at) × W) old old (λ at h. absurd h) (λ at h. never h.1) (near_none old)

same_at : {X : Type 0} (xs : List X) (i : ℕ) (d : X) → i < length xs → get_or xs i d ≡ get_or xs i (get_or xs i d)
same_at [] i d lt = absurd (omega (arith, lt))
same_at (x ∷ xs) zero d lt = refl
same_at (x ∷ xs) (suc i) d lt = same_at xs i d (omega (arith, lt))

-- one more element, which is read in place
pub near_next : {X : Type 0} (P : Place → X → Type 0) (xs : List X) (i : ℕ) (x d : X) (a b c : Option Place) → i < length xs → x ≡ get_or xs i d
    → Nears (λ at. HasSome (P at) (map (λ k. k) (take i xs))) a b → Nears (λ at. P at x) b c
    → Nears (λ at. HasSome (P at) (map (λ k. k) (take (i + 1) xs))) a c
near_next P xs i x d a b c lt is before one =
    near_more P (λ k. k) xs i (get_or xs i d) a b c lt (same_at xs i d lt) before (subst (λ y. Nears (λ at. P at y) b c) is one)
