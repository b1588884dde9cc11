-- Lists of turns, what stands at a position, and how much is left to be made.
use Rattle.std.proofs.Common.{◌≡◌, ℕ, zero, suc, ◌+◌, ◌*◌, ◌<◌, ◌≤◌, List, [], ◌∷◌, length, take, drop, get_or, Option, Some, None, arith, ap, sym, refl, ◌∙◌}
use Rattle.std.proofs.Math.ListN.{set}
use Rattle.std.proofs.lemmas.Option.{slice_get_past, slice_get_read}
use Rattle.std.specs.Prelude.{slice_get, option_copied}
use Rattle.std.specs.Borrow.{Bor}
use Rattle.std.specs.Slice.{IsItemAt}
use Rattle.pv_place.specs.declared.place.Place.{Place}
use Rattle.pv_stl_run.specs.declared.instr.Instr.{Instr}
use Rattle.pv_stl_run.specs.declared.turns.Turn.{Turn}
use Rattle.pv_stl_run.specs.Going.{turn_at, entered_of, most_behind, most_from, ranges_in, range_at}

-- ---- what stands at a position

pub get_below : {A : Type 0} (xs : List A) (n m : ℕ) (v : A) → m < n → slice_get (set xs n v) m ≡ slice_get xs m
get_below [] n m v h = refl
get_below (x ∷ xs) zero m v h = absurd (omega arith)
get_below (x ∷ xs) (suc n) zero v h = refl
get_below (x ∷ xs) (suc n) (suc m) v h = get_below xs n m v (omega arith)

pub get_own : {A : Type 0} (xs : List A) (n : ℕ) (v : A) → n < length xs → slice_get (set xs n v) n ≡ Some v
get_own [] n v h = absurd (omega arith)
get_own (x ∷ xs) zero v h = refl
get_own (x ∷ xs) (suc n) v h = get_own xs n v (omega arith)

pub drop_at : {A : Type 0} (xs : List A) (k : ℕ) (x : A) → slice_get xs k ≡ Some x → drop k xs ≡ x ∷ drop (suc k) xs
drop_at [] k x e = absurd (cc)
drop_at (y ∷ ys) zero x e = ap (λ z. z ∷ ys) (first_is y x e) where
  first_is : {A : Type 0} (a b : A) → Some a ≡ Some b → a ≡ b
  first_is a b h = cc
drop_at (y ∷ ys) (suc k) x e = drop_at ys k x e

pub drop_past : {A : Type 0} (xs : List A) (k : ℕ) → slice_get xs k ≡ None → drop k xs ≡ []
drop_past [] zero e = refl
drop_past [] (suc k) e = refl
drop_past (y ∷ ys) zero e = absurd (cc)
drop_past (y ∷ ys) (suc k) e = drop_past ys k e

-- one of the others stands as far behind
pub get_dropped : {A : Type 0} (xs : List A) (k n m : ℕ) → m ≡ k + n → slice_get (drop k xs) n ≡ slice_get xs m
get_dropped xs zero n m e = let same : n ≡ m = omega arith in ap (slice_get xs) same
get_dropped [] (suc k) n m e = refl
get_dropped (x ∷ xs) (suc k) n zero e = absurd (omega arith)
get_dropped (x ∷ xs) (suc k) n (suc m) e = get_dropped xs k n m (omega arith)

-- what a slice lends there
pub got_at : {A : Type 0} (xs : List A) (k : ℕ) (o : Option (Bor A)) → IsItemAt xs k o → option_copied o ≡ slice_get xs k
got_at xs k None h = sym (slice_get_past xs k h.3)
got_at xs k (Some x) h = sym (slice_get_read xs (length xs) k x.now refl h.3.0 h.1)

-- ---- turns

pub entered_below : (xs : List Turn) (n m : ℕ) (v : Turn) → m ≤ n → entered_of (set xs n v) m ≡ entered_of xs m
entered_below xs n zero v h = refl
entered_below xs n (suc m) v h =
    ap (λ o. turn_at o ∷ entered_of (set xs n v) m) (get_below xs n m v (omega arith))
    ∙ ap (λ ts. turn_at (slice_get xs m) ∷ ts) (entered_below xs n m v (omega arith))

-- one more is the last one
pub entered_one : (xs : List Turn) (n : ℕ) (v : Turn) → n < length xs → entered_of (set xs n v) (suc n) ≡ v ∷ entered_of xs n
entered_one xs n v h = ap (λ o. turn_at o ∷ entered_of (set xs n v) n) (get_own xs n v h)
    ∙ ap (λ ts. v ∷ ts) (entered_below xs n n v (omega arith))

-- ---- how much is left

pub from_first : (bound : ℕ) (code : List Instr) (k : ℕ) (c : Instr) → slice_get code k ≡ Some c
    → most_from bound (drop k code) ≡ suc (most_behind bound (drop (suc k) code))
from_first bound code k c e = ap (most_from bound) (drop_at code k c e)

behind_first : (bound : ℕ) (c : Instr) (more : List Instr) → c.range ≡ None → most_behind bound (c ∷ more) ≡ suc (most_behind bound more)
behind_first bound c more e = ap (λ (o : Option Place). elim o [
  | None ↦ suc (most_behind bound more)
  | Some place ↦ suc bound * suc (most_behind bound more)
]) e

behind_range : (bound : ℕ) (c : Instr) (more : List Instr) (place : Place) → c.range ≡ Some place
    → most_behind bound (c ∷ more) ≡ suc bound * suc (most_behind bound more)
behind_range bound c more place e = ap (λ (o : Option Place). elim o [
  | None ↦ suc (most_behind bound more)
  | Some p ↦ suc bound * suc (most_behind bound more)
]) e

pub from_within : (bound : ℕ) (code : List Instr) → most_from bound code ≤ most_behind bound code
from_within bound [] = omega arith
from_within bound (c ∷ more) = within_by c.range refl where
  within_by : (o : Option Place) → c.range ≡ o → suc (most_behind bound more) ≤ most_behind bound (c ∷ more)
  within_by None e = omega (arith, behind_first bound c more e)
  within_by (Some place) e = omega (arith, behind_range bound c more place e, at_least bound (suc (most_behind bound more))) where
    at_least : (n m : ℕ) → m ≤ suc n * m
    at_least n m = omega arith

behind_falls : (bound : ℕ) (c : Instr) (more : List Instr) → most_behind bound more < most_behind bound (c ∷ more)
behind_falls bound c more = omega (arith, from_within bound (c ∷ more))

-- further on there is less
pub behind_further : (bound n : ℕ) (code : List Instr) → most_behind bound (drop n code) ≤ most_behind bound code
behind_further bound zero code = omega arith
behind_further bound (suc n) [] = omega arith
behind_further bound (suc n) (c ∷ more) = omega (arith, behind_further bound n more, behind_falls bound c more)

-- a range that is entered takes its turns from what stood there
pub range_entered : (bound n : ℕ) (code : List Instr) (k : ℕ) (c : Instr) (place : Place) (s : ℕ) → slice_get code k ≡ Some c
    → c.range ≡ Some place → bound ≡ suc n
    → most_from bound (drop k code) + (n * most_from bound (drop k code) + s) ≤ most_behind bound (drop k code) + s
range_entered bound n code k c place s e r b =
    let f = from_first bound code k c e in
    let g : most_behind bound (drop k code) ≡ suc bound * suc (most_behind bound (drop (suc k) code)) =
    ap (most_behind bound) (drop_at code k c e) ∙ behind_range bound c (drop (suc k) code) place r in
    room bound n (most_from bound (drop k code)) (most_behind bound (drop (suc k) code)) (most_behind bound (drop k code)) s f g b where
      room : (b m w v a t : ℕ) → w ≡ suc v → a ≡ suc b * suc v → b ≡ suc m → w + (m * w + t) ≤ a + t
      room b m w v a t p q r =
          let x : m * w ≡ m * suc v = ap (λ y. m * y) p in
          let y : a ≡ suc (suc m) * suc v = q ∙ ap (λ z. suc z * suc v) r in
          omega (arith, x, y, p)

-- ---- ranges

pub ranges_next : (code : List Instr) (k : ℕ) (c : Instr) (place : Place) → slice_get code k ≡ Some c → c.range ≡ Some place
    → ranges_in (take (suc k) code) ≡ suc (ranges_in (take k code))
ranges_next [] k c place e r = absurd (cc)
ranges_next (x ∷ xs) zero c place e r = ap (λ (o : Option Place). elim o [ None ↦ 0 | Some p ↦ 1 ]) (range_is x c e ∙ r) where
  range_is : (a b : Instr) → Some a ≡ Some b → a.range ≡ b.range
  range_is a b h = let same : a ≡ b = cc in ap (λ (i : Instr). i.range) same
ranges_next (x ∷ xs) (suc k) c place e r = by_range x.range (ranges_next xs k c place e r) where
  by_range : (o : Option Place) → ranges_in (take (suc k) xs) ≡ suc (ranges_in (take k xs))
      → elim o [ None ↦ ranges_in (take (suc k) xs) | Some p ↦ suc (ranges_in (take (suc k) xs)) ]
      ≡ suc (elim o [ None ↦ ranges_in (take k xs) | Some p ↦ suc (ranges_in (take k xs)) ])
  by_range None h = h
  by_range (Some p) h = ap suc h

pub ranges_more : (code : List Instr) (j k : ℕ) → j ≤ k → ranges_in (take j code) ≤ ranges_in (take k code)
ranges_more code zero k h = omega arith
ranges_more [] (suc j) k h = omega arith
ranges_more (x ∷ xs) (suc j) zero h = absurd (omega arith)
ranges_more (x ∷ xs) (suc j) (suc k) h = by_range x.range (ranges_more xs j k (omega arith)) where
  by_range : (o : Option Place) → ranges_in (take j xs) ≤ ranges_in (take k xs)
      → elim o [ None ↦ ranges_in (take j xs) | Some p ↦ suc (ranges_in (take j xs)) ]
      ≤ elim o [ None ↦ ranges_in (take k xs) | Some p ↦ suc (ranges_in (take k xs)) ]
  by_range None m = m
  by_range (Some p) m = omega arith

pub ranges_all : (code : List Instr) (k : ℕ) → ranges_in (take k code) ≤ ranges_in code
ranges_all code zero = omega arith
ranges_all [] (suc k) = omega arith
ranges_all (x ∷ xs) (suc k) = by_range x.range (ranges_all xs k) where
  by_range : (o : Option Place) → ranges_in (take k xs) ≤ ranges_in xs
      → elim o [ None ↦ ranges_in (take k xs) | Some p ↦ suc (ranges_in (take k xs)) ]
      ≤ elim o [ None ↦ ranges_in xs | Some p ↦ suc (ranges_in xs) ]
  by_range None m = m
  by_range (Some p) m = omega arith

-- ---- what is read

-- a turn that is read by its number
pub turn_read : (xs : List Turn) (n : ℕ) → turn_at (slice_get xs n) ≡ get_or xs n (record { at = 0; left = 0 })
turn_read [] n = refl
turn_read (x ∷ xs) zero = refl
turn_read (x ∷ xs) (suc n) = turn_read xs n

pub record BeginsAt (code : List Instr) (k : ℕ) (place : Place) : Type 0 where
  pub begin : Instr
  pub is : slice_get code k ≡ Some begin
  pub range : begin.range ≡ Some place

pub begins_at : (code : List Instr) (k : ℕ) (place : Place) → Some place ≡ range_at code k → BeginsAt code k place
begins_at code k place e = by_found (slice_get code k) refl e where
  by_found : (o : Option Instr) → slice_get code k ≡ o → Some place ≡ elim o [ None ↦ None | Some c ↦ c.range ] → BeginsAt code k place
  by_found None is h = absurd (cc)
  by_found (Some c) is h = record { begin = c; is = is; range = sym h }

pub ranges_at : (code : List Instr) (k : ℕ) (c : Instr) (place : Place) → slice_get code k ≡ Some c → c.range ≡ Some place
    → range_at code k ≡ Some place
ranges_at code k c place e r = ap (λ (o : Option Instr). elim o [ None ↦ None | Some x ↦ x.range ]) e ∙ r

-- an instruction that is made is one less
pub falls_on : (bound : ℕ) (code : List Instr) (k : ℕ) → k < length code
    → suc (most_behind bound (drop (suc k) code)) ≤ most_from bound (drop k code)
falls_on bound [] k h = absurd (omega arith)
falls_on bound (x ∷ xs) zero h = omega arith
falls_on bound (x ∷ xs) (suc k) h = falls_on bound xs k (omega arith)

-- from further on there is less than what an instruction before has
pub falls_further : (bound : ℕ) (code : List Instr) (k to : ℕ) → k < length code → k < to
    → suc (most_behind bound (drop to code)) ≤ most_from bound (drop k code)
falls_further bound [] k to h lt = absurd (omega arith)
falls_further bound (x ∷ xs) zero zero h lt = absurd (omega arith)
falls_further bound (x ∷ xs) zero (suc to) h lt = omega (arith, behind_further bound to xs)
falls_further bound (x ∷ xs) (suc k) zero h lt = absurd (omega arith)
falls_further bound (x ∷ xs) (suc k) (suc to) h lt = falls_further bound xs k to (omega arith) (omega arith)
