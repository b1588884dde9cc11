-- The loops around a location where a pass along the text is, innermost first, and those that are still to begin: of the list of all
-- loops those that aren't among them end before it.
use Rattle.std.proofs.Common.{◌≡◌, ℕ, zero, suc, ◌+◌, ◌-◌, ◌*◌, ◌<◌, ◌≤◌, ◌⊎◌, inl, inr, List, [], ◌∷◌, ◌++◌, length, take, drop, slice_get, Some, refl, sym, subst, ap, ◌∙◌, arith}
use Rattle.std.specs.List.{AllByRecursion}
use Rattle.pv_flow.specs.Automata.{Loop}
use Rattle.std.proofs.lemmas.Bool.{cases_lt}
use Rattle.std.proofs.lemmas.List.{length-append}
use Rattle.pv_copies.specs.Places.{once, size}
use Rattle.pv_copies.proofs.ForCallers.{AreInOrder, size_at, size_apart}
use Rattle.pv_unroll.proofs.Firsts.{Ranges, ends_out, begins_out, fits_in, none_size}

-- a loop that holds the location, with the loops behind it in the list; and which turn it is, or where the first one begins
pub record Held : Type 0 where
  pub loop : Loop
  pub more : List Loop
  pub number : ℕ

-- the second list is the first without some in front that end before l
abbrev pub Skips : ℕ → List Loop → List Loop → Type 0
Skips l [] ys = [] ≡ ys
Skips l (loop ∷ xs) ys = ((loop ∷ xs) ≡ ys) ⊎ ((loop.last < l) × Skips l xs ys)

abbrev pub Path : ℕ → List Loop → List Held → List Loop → Type 0
Path l all [] loops = Skips l all loops
Path l all (s ∷ outer) loops = (s.loop.first ≤ l) × Skips l s.more loops × Path s.loop.first all outer (s.loop ∷ s.more)

-- where the range ends that holds the location
abbrev pub end_by : ℕ → List Held → ℕ
end_by b [] = b
end_by b (s ∷ outer) = suc s.loop.last

-- they hold the location, each within the next
abbrev pub Around : ℕ → ℕ → List Held → Type 0
Around b l [] = Unit {0}
Around b l (s ∷ outer) = (s.loop.first ≤ l) × (l ≤ s.loop.last) × (s.loop.last < end_by b outer) × Around b l outer

-- ---- skipping

pub equal_skips : (l : ℕ) (xs ys : List Loop) → xs ≡ ys → Skips l xs ys
equal_skips l [] ys e = e
equal_skips l (loop ∷ xs) ys e = inl e

pub none : (l : ℕ) (xs : List Loop) → Skips l xs xs
none l xs = equal_skips l xs xs refl

no_more : (loop : Loop) (ys : List Loop) → [] ≡ loop ∷ ys → ⊥
no_more loop ys e = let long = ap (λ (xs : List Loop). length xs) e in absurd (omega (arith, long))

pub later_skips : (l m : ℕ) (xs ys : List Loop) → l ≤ m → Skips l xs ys → Skips m xs ys
later_skips l m [] ys le h = h
later_skips l m (loop ∷ xs) ys le (inl e) = inl e
later_skips l m (loop ∷ xs) ys le (inr h) = inr (omega (arith, h.0, le), later_skips l m xs ys le h.1)

skips_then : (l : ℕ) (xs ys zs : List Loop) → Skips l xs ys → Skips l ys zs → Skips l xs zs
skips_then l [] ys zs h k = subst (λ (us : List Loop). Skips l us zs) (sym h) k
skips_then l (loop ∷ xs) ys zs (inl e) k = subst (λ (us : List Loop). Skips l us zs) (sym e) k
skips_then l (loop ∷ xs) ys zs (inr h) k = inr (h.0, skips_then l xs ys zs h.1 k)

pub skips_all : (P : Loop → Type 0) (l : ℕ) (xs ys : List Loop) → Skips l xs ys → AllByRecursion P xs → AllByRecursion P ys
skips_all P l [] ys h all = subst (λ (us : List Loop). AllByRecursion P us) h all
skips_all P l (loop ∷ xs) ys (inl e) all = subst (λ (us : List Loop). AllByRecursion P us) e all
skips_all P l (loop ∷ xs) ys (inr h) all = skips_all P l xs ys h.1 all.1

pub skips_back : (P : Loop → Type 0) (l : ℕ) (xs ys : List Loop) → ((loop : Loop) → loop.last < l → P loop) → Skips l xs ys
    → AllByRecursion P ys → AllByRecursion P xs
skips_back P l [] ys each h all = tt
skips_back P l (loop ∷ xs) ys each (inl e) all = subst (λ (us : List Loop). AllByRecursion P us) (sym e) all
skips_back P l (loop ∷ xs) ys each (inr h) all = (each loop h.0, skips_back P l xs ys each h.1 all)

skips_order : (l : ℕ) (xs ys : List Loop) → Skips l xs ys → AreInOrder xs → AreInOrder ys
skips_order l [] ys h order = subst (λ (us : List Loop). AreInOrder us) h order
skips_order l (loop ∷ xs) ys (inl e) order = subst (λ (us : List Loop). AreInOrder us) e order
skips_order l (loop ∷ xs) ys (inr h) order = skips_order l xs ys h.1 order.2

skips_size : (w : ℕ → ℕ) (o n m l : ℕ) (xs ys : List Loop) → Ranges xs → Skips m xs ys → size w o n xs m l ≡ size w o n ys m l
skips_size w o n m l [] ys are h = ap (λ (us : List Loop). size w o n us m l) h
skips_size w o n m l (loop ∷ xs) ys are (inl e) = ap (λ (us : List Loop). size w o n us m l) e
skips_size w o n m l (loop ∷ xs) ys are (inr h) =
    size_apart w o n loop xs m l (begins_out loop m l (omega (arith, h.0, are.0))) ∙ skips_size w o n m l xs ys are.1 h.1

pub skips_length : (l : ℕ) (xs ys : List Loop) → Skips l xs ys → length ys ≤ length xs
skips_length l [] ys h = let long = ap (λ (us : List Loop). length us) h in omega (arith, long)
skips_length l (loop ∷ xs) ys (inl e) = let long = ap (λ (us : List Loop). length us) e in omega (arith, long)
skips_length l (loop ∷ xs) ys (inr h) = let long = skips_length l xs ys h.1 in omega (arith, long)

-- what a loop adds, behind which it ends
pub skips_over : (w : ℕ → ℕ) (o n : ℕ) (loop : Loop) (xs more : List Loop) (a : ℕ) → Ranges xs → Ranges more → loop.first ≤ loop.last
    → Skips loop.first xs (loop ∷ more) → a ≤ loop.first
    → size w o n xs a (suc loop.last) ≡ size w o n xs a loop.first + n * size w o n more loop.first (suc loop.last) + (once w loop + o)
skips_over w o n loop [] more a are ranges range h low = absurd (no_more loop more h)
skips_over w o n loop (other ∷ xs) more a are ranges range (inl e) low =
    subst (λ (us : List Loop). size w o n us a (suc loop.last) ≡ size w o n us a loop.first + n * size w o n more loop.first (suc loop.last) + (once w loop + o))
    (sym e) own
  where
    own : size w o n (loop ∷ more) a (suc loop.last) ≡ size w o n (loop ∷ more) a loop.first + n * size w o n more loop.first (suc loop.last) + (once w loop + o)
    own =
        let empty = none_size w o n more (suc loop.last) (suc loop.last) ranges (omega arith) in
        omega (
          arith,
          empty,
          size_at w o n loop more a (suc loop.last) (fits_in loop a (suc loop.last) low (omega arith)),
          size_apart w o n loop more a loop.first (ends_out loop a loop.first range),
        )
skips_over w o n loop (other ∷ xs) more a are ranges range (inr h) low =
    by (cases_lt other.first a) (λ x g. skips_over w o n loop xs more x are.1 ranges range h.1 g)
  where
    by : (other.first < a) ⊎ (a ≤ other.first)
        → ((x : ℕ) → x ≤ loop.first
        → size w o n xs x (suc loop.last) ≡ size w o n xs x loop.first + n * size w o n more loop.first (suc loop.last) + (once w loop + o))
        → size w o n (other ∷ xs) a (suc loop.last) ≡ size w o n (other ∷ xs) a loop.first + n * size w o n more loop.first (suc loop.last) + (once w loop + o)
    by (inl out) go =
        let g = go a low in
        omega (
          arith,
          g,
          size_apart w o n other xs a (suc loop.last) (begins_out other a (suc loop.last) out),
          size_apart w o n other xs a loop.first (begins_out other a loop.first out),
        )
    by (inr in_) go =
        let g = go (suc other.last) (omega (arith, h.0)) in
        omega (
          arith,
          g,
          size_at w o n other xs a (suc loop.last) (fits_in other a (suc loop.last) in_ (omega (arith, h.0, range))),
          size_at w o n other xs a loop.first (fits_in other a loop.first in_ h.0),
        )

-- ---- paths

pub later_path : (l m : ℕ) (all : List Loop) (around : List Held) (loops : List Loop) → l ≤ m → Path l all around loops → Path m all around loops
later_path l m all [] loops le h = later_skips l m all loops le h
later_path l m all (s ∷ outer) loops le h = (omega (arith, le, h.0), later_skips l m s.more loops le h.1, h.2)

path_then : (l : ℕ) (all : List Loop) (around : List Held) (xs ys : List Loop) → Path l all around xs → Skips l xs ys → Path l all around ys
path_then l all [] xs ys h k = skips_then l all xs ys h k
path_then l all (s ∷ outer) xs ys h k = (h.0, skips_then l s.more xs ys h.1 k, h.2)

-- behind a loop
pub path_left : (l : ℕ) (all : List Loop) (s : Held) (outer : List Held) (loops : List Loop) → s.loop.last < l → Path l all (s ∷ outer) loops
    → Path l all outer loops
path_left l all s outer loops lt h =
    path_then l all outer (s.loop ∷ s.more) loops (later_path s.loop.first l all outer (s.loop ∷ s.more) h.0 h.2) (inr (lt, h.1))

pub path_order : (l : ℕ) (all : List Loop) (around : List Held) (loops : List Loop) → Path l all around loops → AreInOrder all → AreInOrder loops
path_order l all [] loops h order = skips_order l all loops h order
path_order l all (s ∷ outer) loops h order = skips_order l s.more loops h.1 (path_order s.loop.first all outer (s.loop ∷ s.more) h.2 order).2

pub path_all : (P : Loop → Type 0) (l : ℕ) (all : List Loop) (around : List Held) (loops : List Loop) → Path l all around loops
    → AllByRecursion P all → AllByRecursion P loops
path_all P l all [] loops h each = skips_all P l all loops h each
path_all P l all (s ∷ outer) loops h each = skips_all P l s.more loops h.1 (path_all P s.loop.first all outer (s.loop ∷ s.more) h.2 each).1

-- what is so of those that end before, that hold the location, and that are still to begin
abbrev pub EachHeld : (Loop → Type 0) → List Held → Type 0
EachHeld P [] = Unit {0}
EachHeld P (s ∷ outer) = P s.loop × EachHeld P outer

pub path_back : (P : Loop → Type 0) (l : ℕ) (all : List Loop) (around : List Held) (loops : List Loop) → ((loop : Loop) → loop.last < l → P loop)
    → Path l all around loops → EachHeld P around → AllByRecursion P loops → AllByRecursion P all
path_back P l all [] loops each h held rest = skips_back P l all loops each h rest
path_back P l all (s ∷ outer) loops each h held rest =
    path_back P s.loop.first all outer (s.loop ∷ s.more) (λ loop lt. each loop (omega (arith, lt, h.0))) h.2 held.1
    (held.0, skips_back P l s.more loops each h.1 rest)

-- of a range within all of them only those count that are still to begin
pub path_size : (w : ℕ → ℕ) (o n m l : ℕ) (all : List Loop) (around : List Held) (loops : List Loop) → Ranges all → Path m all around loops
    → EachHeld (λ (loop : Loop). l ≤ loop.last) around → size w o n all m l ≡ size w o n loops m l
path_size w o n m l all [] loops are h held = skips_size w o n m l all loops are h
path_size w o n m l all (s ∷ outer) loops are h held =
    path_size w o n m l all outer (s.loop ∷ s.more) are (later_path s.loop.first m all outer (s.loop ∷ s.more) h.0 h.2) held.1
    ∙ size_apart w o n s.loop s.more m l (ends_out s.loop m l held.0)
    ∙ skips_size w o n m l s.more loops (path_all (λ (loop : Loop). loop.first ≤ loop.last) s.loop.first all outer (s.loop ∷ s.more) h.2 are).1 h.1

-- ---- numbers in the list of all

abbrev pub IsEnd : List Loop → List Loop → Type 0
IsEnd all xs = (drop (length all - length xs) all ≡ xs) × (length xs ≤ length all)

pub drop_one : {X : Type 0} (k : ℕ) (xs : List X) → drop (suc k) xs ≡ drop 1 (drop k xs)
drop_one zero xs = refl
drop_one (suc k) [] = refl
drop_one (suc k) (x ∷ xs) = drop_one k xs

pub get_drop : {X : Type 0} (k : ℕ) (xs : List X) → slice_get xs k ≡ slice_get (drop k xs) 0
get_drop zero xs = refl
get_drop (suc k) [] = refl
get_drop (suc k) (x ∷ xs) = get_drop k xs

end_all : (all : List Loop) → IsEnd all all
end_all all = (ap (λ (k : ℕ). drop k all) none, omega arith)
  where
    none : length all - length all ≡ 0
    none = omega arith

end_tail : (all : List Loop) (loop : Loop) (xs : List Loop) → IsEnd all (loop ∷ xs) → IsEnd all xs
end_tail all loop xs h = (
  ap (λ (k : ℕ). drop k all) (less h.1) ∙ drop_one (length all - suc (length xs)) all ∙ ap (λ (ys : List Loop). drop 1 ys) h.0,
  omega (arith, h.1),
)
  where
    less : suc (length xs) ≤ length all → length all - length xs ≡ suc (length all - suc (length xs))
    less le = omega (arith, le)

end_skips : (l : ℕ) (all xs ys : List Loop) → Skips l xs ys → IsEnd all xs → IsEnd all ys
end_skips l all [] ys h is = subst (λ (us : List Loop). IsEnd all us) h is
end_skips l all (loop ∷ xs) ys (inl e) is = subst (λ (us : List Loop). IsEnd all us) e is
end_skips l all (loop ∷ xs) ys (inr h) is = end_skips l all xs ys h.1 (end_tail all loop xs is)

pub path_end : (l : ℕ) (all : List Loop) (around : List Held) (loops : List Loop) → Path l all around loops → IsEnd all loops
path_end l all [] loops h = end_skips l all all loops h (end_all all)
path_end l all (s ∷ outer) loops h =
    end_skips l all s.more loops h.1 (end_tail all s.loop s.more (path_end s.loop.first all outer (s.loop ∷ s.more) h.2))

-- the number of a loop that holds the location
abbrev pub range_of : List Loop → Held → ℕ
range_of all s = length all - suc (length s.more)

pub range_is : (l : ℕ) (all : List Loop) (s : Held) (outer : List Held) (loops : List Loop) → Path l all (s ∷ outer) loops
    → slice_get all (range_of all s) ≡ Some s.loop
range_is l all s outer loops h =
    get_drop (length all - suc (length s.more)) all
    ∙ ap (λ (xs : List Loop). slice_get xs 0) (path_end s.loop.first all outer (s.loop ∷ s.more) h.2).0

pub behind_is : (l : ℕ) (all : List Loop) (s : Held) (outer : List Held) (loops : List Loop) → Path l all (s ∷ outer) loops
    → drop (suc (range_of all s)) all ≡ s.more
behind_is l all s outer loops h =
    drop_one (length all - suc (length s.more)) all ∙ ap (λ (xs : List Loop). drop 1 xs) (path_end s.loop.first all outer (s.loop ∷ s.more) h.2).0

pub range_below : (l : ℕ) (all : List Loop) (s : Held) (outer : List Held) (loops : List Loop) → Path l all (s ∷ outer) loops
    → range_of all s < length all - length loops
range_below l all s outer loops h =
    let shorter = skips_length l s.more loops h.1 in
    let own = (path_end s.loop.first all outer (s.loop ∷ s.more) h.2).1 in
    omega (arith, shorter, own)

-- ---- the last of a list

one_less : {X : Type 0} (xs : List X) (x : X) → length (xs ++ x ∷ []) - 1 ≡ length xs
one_less xs x = let long = length-append xs (x ∷ []) in omega (arith, long)

at_end : {X : Type 0} (xs : List X) (x : X) → slice_get (xs ++ x ∷ []) (length xs) ≡ Some x
at_end [] x = refl
at_end (y ∷ xs) x = at_end xs x

pub last_is : {X : Type 0} (xs : List X) (x : X) → slice_get (xs ++ x ∷ []) (length (xs ++ x ∷ []) - 1) ≡ Some x
last_is xs x = ap (λ (m : ℕ). slice_get (xs ++ x ∷ []) m) (one_less xs x) ∙ at_end xs x

take_front : {X : Type 0} (xs : List X) (x : X) → take (length xs) (xs ++ x ∷ []) ≡ xs
take_front [] x = refl
take_front (y ∷ xs) x = ap (λ zs. y ∷ zs) (take_front xs x)

pub before_last : {X : Type 0} (xs : List X) (x : X) → take (length (xs ++ x ∷ []) - 1) (xs ++ x ∷ []) ≡ xs
before_last xs x = ap (λ (m : ℕ). take m (xs ++ x ∷ [])) (one_less xs x) ∙ take_front xs x
