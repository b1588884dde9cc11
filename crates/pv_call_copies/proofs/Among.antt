-- Loops that a list has: each loop of a copy is an own one's copy or is called at a location; and those of a copy are among those of the
-- copy that calls it.
use Rattle.std.proofs.Common.{◌≡◌, ℕ, zero, suc, ◌<◌, ◌≤◌, ◌⊎◌, inl, inr, List, [], ◌∷◌, ◌++◌, map, slice_get, Bool, true, false, ◌==◌, cond, Some, refl, sym, subst, ap, arith}
use Rattle.std.specs.List.{AllByRecursion}
use Rattle.std.proofs.lemmas.Bool.{eq-eqb, cases_lt}
use Rattle.std.proofs.lemmas.Option.{same_Some, none-some}
use Rattle.pv_flow.specs.Automata.{Loop}
use Rattle.pv_flow.specs.Runs.{end_at}
use Rattle.pv_flow.specs.Calls.{Blocks}
use Rattle.pv_call_copies.specs.Inlined.{Body, drawn_loop, loops_from, laid_by, laid_below, laid}

-- ---- elements

abbrev pub IsIn : Loop → List Loop → Type 0
IsIn x [] = ⊥
IsIn x (y ∷ ys) = (y ≡ x) ⊎ IsIn x ys

pub of_all : (P : Loop → Type 0) (x : Loop) (xs : List Loop) → AllByRecursion P xs → IsIn x xs → P x
of_all P x [] are h = absurd h
of_all P x (y ∷ ys) are (inl e) = subst P e are.0
of_all P x (y ∷ ys) are (inr h) = of_all P x ys are.1 h

pub in_left : (x : Loop) (xs ys : List Loop) → IsIn x xs → IsIn x (xs ++ ys)
in_left x [] ys h = absurd h
in_left x (y ∷ xs) ys (inl e) = inl e
in_left x (y ∷ xs) ys (inr h) = inr (in_left x xs ys h)

pub in_right : (x : Loop) (xs ys : List Loop) → IsIn x ys → IsIn x (xs ++ ys)
in_right x [] ys h = h
in_right x (y ∷ xs) ys h = inr (in_right x xs ys h)

in_either : (x : Loop) (xs ys : List Loop) → IsIn x (xs ++ ys) → IsIn x xs ⊎ IsIn x ys
in_either x [] ys h = inr h
in_either x (y ∷ xs) ys (inl e) = inl (inl e)
in_either x (y ∷ xs) ys (inr h) = by (in_either x xs ys h)
  where
    by : IsIn x xs ⊎ IsIn x ys → ((y ≡ x) ⊎ IsIn x xs) ⊎ IsIn x ys
    by (inl g) = inl (inr g)
    by (inr g) = inr g

pub of_get : (n : ℕ) (x : Loop) (xs : List Loop) → slice_get xs n ≡ Some x → IsIn x xs
of_get n x [] at = absurd (none-some x at)
of_get zero x (y ∷ ys) at = inl (same_Some y x at)
of_get (suc n) x (y ∷ ys) at = inr (of_get n x ys at)

pub record Stands (x : Loop) (xs : List Loop) : Type 0 where
  pub number : ℕ
  pub at : slice_get xs number ≡ Some x

pub stands_of : (x : Loop) (xs : List Loop) → IsIn x xs → Stands x xs
stands_of x [] h = absurd h
stands_of x (y ∷ ys) (inl e) = record { number = 0; at = ap (λ (z : Loop). Some z) e }
stands_of x (y ∷ ys) (inr h) = let found : Stands x ys = stands_of x ys h in record { number = suc found.number; at = found.at }

in_from : (l : ℕ) (x : Loop) (xs : List Loop) → IsIn x (loops_from l xs) → IsIn x xs
in_from l x [] h = absurd h
in_from l x (y ∷ ys) h = by (y.first == l) h (λ g. in_from l x ys g)
  where
    by : (b : Bool) → IsIn x (cond b (y ∷ loops_from l ys) (loops_from l ys)) → (IsIn x (loops_from l ys) → IsIn x ys) → (y ≡ x) ⊎ IsIn x ys
    by true (inl e) go = inl e
    by true (inr g) go = inr (go g)
    by false g go = inr (go g)

from_in : (x : Loop) (xs : List Loop) → IsIn x xs → IsIn x (loops_from x.first xs)
from_in x [] h = absurd h
from_in x (y ∷ ys) h = by h (λ g. from_in x ys g)
  where
    rest : List Loop
    rest = loops_from x.first ys

    later : (b : Bool) → IsIn x rest → IsIn x (cond b (y ∷ rest) rest)
    later true g = inr g
    later false g = g

    by : (y ≡ x) ⊎ IsIn x ys → (IsIn x ys → IsIn x rest) → IsIn x (cond (y.first == x.first) (y ∷ rest) rest)
    by (inl e) go = subst (λ (b : Bool). IsIn x (cond b (y ∷ rest) rest)) (sym (eq-eqb y.first x.first (ap (λ (z : Loop). z.first) e)))
        (inl e)
    by (inr g) go = later (y.first == x.first) (go g)

map_in : (f : Loop → Loop) (x : Loop) (xs : List Loop) → IsIn x xs → IsIn (f x) (map f xs)
map_in f x [] h = absurd h
map_in f x (y ∷ ys) (inl e) = inl (ap f e)
map_in f x (y ∷ ys) (inr h) = inr (map_in f x ys h)

record IsImage (f : Loop → Loop) (x : Loop) (xs : List Loop) : Type 0 where
  loop : Loop
  there : IsIn loop xs
  is : f loop ≡ x

image_of : (f : Loop → Loop) (x : Loop) (xs : List Loop) → IsIn x (map f xs) → IsImage f x xs
image_of f x [] h = absurd h
image_of f x (y ∷ ys) (inl e) = record { loop = y; there = inl refl; is = e }
image_of f x (y ∷ ys) (inr h) = let found : IsImage f x ys = image_of f x ys h in
    record { loop = found.loop; there = inr found.there; is = found.is }

-- ---- the loops of a copy

-- the copy of an own loop
pub record IsCopied (blocks : Blocks) (body : Body) (i : ℕ) (x : Loop) : Type 0 where
  pub loop : Loop
  pub number : ℕ
  pub at : slice_get body.work.parts.loops number ≡ Some loop
  pub is : drawn_loop blocks body i loop ≡ x

-- what is called at location l
abbrev pub laid_at : Blocks → Body → ℕ → ℕ → List Loop
laid_at blocks body i l = laid_by blocks (laid blocks) body i l (end_at body.work.parts l)

pub data Kind (blocks : Blocks) (body : Body) (i n : ℕ) (x : Loop) : Type 0 where
  is_own : IsCopied blocks body i x → Kind blocks body i n x
  is_called : (l : ℕ) → l < n → IsIn x (laid_at blocks body i l) → Kind blocks body i n x

pub kind_of : (blocks : Blocks) (body : Body) (i n : ℕ) (x : Loop) → IsIn x (laid_below blocks (laid blocks) body i n)
    → Kind blocks body i n x
kind_of blocks body i zero x h = absurd h
kind_of blocks body i (suc n) x h = by (in_either x (laid_below blocks (laid blocks) body i n) (own ++ laid_at blocks body i n) h)
    (λ g. kind_of blocks body i n x g)
  where
    own : List Loop
    own = map (drawn_loop blocks body i) (loops_from n body.work.parts.loops)

    later : Kind blocks body i n x → Kind blocks body i (suc n) x
    later (is_own g) = is_own g
    later (is_called l lt g) = is_called l (omega (arith, lt)) g

    copied : IsIn x own → IsCopied blocks body i x
    copied g = record { loop = found.loop; number = place.number; at = place.at; is = found.is }
      where
        found : IsImage (drawn_loop blocks body i) x (loops_from n body.work.parts.loops)
        found = image_of (drawn_loop blocks body i) x (loops_from n body.work.parts.loops) g

        place : Stands found.loop body.work.parts.loops
        place = stands_of found.loop body.work.parts.loops (in_from n found.loop body.work.parts.loops found.there)

    here : IsIn x own ⊎ IsIn x (laid_at blocks body i n) → Kind blocks body i (suc n) x
    here (inl g) = is_own (copied g)
    here (inr g) = is_called n (omega arith) g

    by : IsIn x (laid_below blocks (laid blocks) body i n) ⊎ IsIn x (own ++ laid_at blocks body i n)
        → (IsIn x (laid_below blocks (laid blocks) body i n) → Kind blocks body i n x) → Kind blocks body i (suc n) x
    by (inl g) go = later (go g)
    by (inr g) go = here (in_either x own (laid_at blocks body i n) g)

-- what stands at a location stands below those after it
pub stays_below : (blocks : Blocks) (body : Body) (i l n : ℕ) (x : Loop) → l < n
    → IsIn x (map (drawn_loop blocks body i) (loops_from l body.work.parts.loops) ++ laid_at blocks body i l)
    → IsIn x (laid_below blocks (laid blocks) body i n)
stays_below blocks body i l zero x lt h = absurd (omega (arith, lt))
stays_below blocks body i l (suc n) x lt h = by (cases_lt l n) (λ small. stays_below blocks body i l n x small h)
  where
    here : ℕ → List Loop
    here m = map (drawn_loop blocks body i) (loops_from m body.work.parts.loops) ++ laid_at blocks body i m

    equal : l < suc n → n ≤ l → l ≡ n
    equal a b = omega (arith, a, b)

    by : (l < n) ⊎ (n ≤ l) → (l < n → IsIn x (laid_below blocks (laid blocks) body i n))
        → IsIn x (laid_below blocks (laid blocks) body i n ++ here n)
    by (inl small) go = in_left x (laid_below blocks (laid blocks) body i n) (here n) (go small)
    by (inr ge) go = in_right x (laid_below blocks (laid blocks) body i n) (here n) (subst (λ (m : ℕ). IsIn x (here m)) (equal lt ge) h)

-- each own loop has its copy
pub own_among : (blocks : Blocks) (body : Body) (i : ℕ) (loop : Loop) → IsIn loop body.work.parts.loops
    → loop.first < body.work.parts.locations
    → IsIn (drawn_loop blocks body i loop) (laid_below blocks (laid blocks) body i body.work.parts.locations)
own_among blocks body i loop there lt = stays_below blocks body i loop.first body.work.parts.locations (drawn_loop blocks body i loop) lt
    (in_left (drawn_loop blocks body i loop) (map (drawn_loop blocks body i) (loops_from loop.first body.work.parts.loops))
    (laid_at blocks body i loop.first)
    (map_in (drawn_loop blocks body i) loop (loops_from loop.first body.work.parts.loops) (from_in loop body.work.parts.loops there)))

pub called_among : (blocks : Blocks) (body : Body) (i l : ℕ) (x : Loop) → l < body.work.parts.locations → IsIn x (laid_at blocks body i l)
    → IsIn x (laid_below blocks (laid blocks) body i body.work.parts.locations)
called_among blocks body i l x lt h = stays_below blocks body i l body.work.parts.locations x lt
    (in_right x (map (drawn_loop blocks body i) (loops_from l body.work.parts.loops)) (laid_at blocks body i l) h)
