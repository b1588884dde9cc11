-- What the copy of a loop holds: a location of its copy where the loop holds the location, and what is called there too; and nothing
-- outside the copy.
use Rattle.std.proofs.Common.{◌≡◌, ℕ, suc, ◌+◌, ◌<◌, ◌≤◌, ◌⊎◌, inl, inr, List, [], ◌∷◌, Bool, true, false, not, ◌&&◌, ◌==◌, nat_le, Option, Some, None, refl, sym, subst, ap, ◌∙◌, arith}
use Rattle.std.specs.List.{list_any, list_all}
use Rattle.std.proofs.lemmas.Bool.{true≢false, false≢true, leb-true, le-leb, eqb-true, eq-eqb, ne_eqb, cases_lt, and_parts, or_cases}
use Rattle.pv_flow.specs.Automata.{Loop, Parts, ends_of, holds}
use Rattle.pv_flow.specs.WellMade.{IsLoop}
use Rattle.pv_flow.specs.Runs.{End, end_at}
use Rattle.pv_flow.specs.Calls.{Blocks}
use Rattle.pv_call_copies.specs.Inlined.{width_by, called_at, before, span, Body, number_in, drawn_loop}
use Rattle.pv_call_copies.proofs.Counting.{ends_are_ends}
use Rattle.pv_call_copies.proofs.Placed.{end_of_body, IsOpen}
use Rattle.pv_call_copies.proofs.Aims.{rises_in, less_in}

pub bool_same : (a b : Bool) → (a ≡ true → b ≡ true) → (b ≡ true → a ≡ true) → a ≡ b
bool_same true true f g = refl
bool_same true false f g = sym (f refl)
bool_same false true f g = g refl
bool_same false false f g = refl

pub is_false : (a : Bool) → (a ≡ true → ⊥) → a ≡ false
is_false true f = absurd (f refl)
is_false false f = refl

-- ---- what a loop holds

pub record IsHeld (loop : Loop) (l : ℕ) : Type 0 where
  pub from : loop.first ≤ l
  pub to : l ≤ loop.last

pub held_of : (loop : Loop) (l : ℕ) → holds loop l ≡ true → IsHeld loop l
held_of loop l h = record { from = leb-true loop.first l parts.0; to = leb-true l loop.last parts.1 }
  where
    parts : (nat_le loop.first l ≡ true) × (nat_le l loop.last ≡ true)
    parts = and_parts (nat_le loop.first l) (nat_le l loop.last) h

pub of_held : (loop : Loop) (l : ℕ) → loop.first ≤ l → l ≤ loop.last → holds loop l ≡ true
of_held loop l low high = ap (λ (b : Bool). b && nat_le l loop.last) (le-leb loop.first l low) ∙ le-leb l loop.last high

-- nothing ends in a loop
none_held : (loop : Loop) (l : ℕ) (ends : List ℕ) → list_all (λ end. not (holds loop end)) ends ≡ true → holds loop l ≡ true
    → list_any (λ end. end == l) ends ≡ true → ⊥
none_held loop l [] all held any = false≢true any
none_held loop l (end ∷ ends) all held any =
    by (or_cases (end == l) (list_any (λ other. other == l) ends) any)
    (λ h. none_held loop l ends (and_parts (not (holds loop end)) (list_all (λ other. not (holds loop other)) ends) all).1 held h)
  where
    apart : (b : Bool) → b ≡ true → not b ≡ true → ⊥
    apart true e h = false≢true h
    apart false e h = false≢true e

    by : ((end == l) ≡ true) ⊎ (list_any (λ other. other == l) ends ≡ true) → (list_any (λ other. other == l) ends ≡ true → ⊥) → ⊥
    by (inl same) go = apart (holds loop end) (ap (λ (n : ℕ). holds loop n) (eqb-true end l same) ∙ held)
        (and_parts (not (holds loop end)) (list_all (λ other. not (holds loop other)) ends) all).0
    by (inr h) go = go h

pub goes_on_inside : (p : Parts) (loop : Loop) → IsLoop p loop → (l : ℕ) → holds loop l ≡ true → end_at p l ≡ None
goes_on_inside p loop is l held = by (end_at p l) refl
  where
    by : (end : Option End) → end_at p l ≡ end → end_at p l ≡ None
    by None e = e
    by (Some end) e = absurd (none_held loop l (ends_of p) is.outside held (ends_are_ends p l end e))

-- so what ends there isn't held
pub end_not_held : (p : Parts) (loop : Loop) → IsLoop p loop → (l : ℕ) (end : End) → end_at p l ≡ Some end → holds loop l ≡ false
end_not_held p loop is l end e = is_false (holds loop l) (λ held. none_held loop l (ends_of p) is.outside held (ends_are_ends p l end e))

-- ---- its copy

pub record IsOwnLoop (blocks : Blocks) (body : Body) (loop : Loop) : Type 0 where
  pub is : IsLoop body.work.parts loop
  pub last : loop.last < body.work.parts.locations

pub first_open : (blocks : Blocks) (body : Body) (loop : Loop) → IsOwnLoop blocks body loop → IsOpen (end_at body.work.parts loop.first)
first_open blocks body loop own = subst IsOpen (sym (goes_on_inside body.work.parts loop own.is loop.first (of_held loop loop.first (omega arith) own.is.range))) tt

last_goes_on : (blocks : Blocks) (body : Body) (loop : Loop) → IsOwnLoop blocks body loop → end_at body.work.parts loop.last ≡ None
last_goes_on blocks body loop own = goes_on_inside body.work.parts loop own.is loop.last (of_held loop loop.last own.is.range (omega arith))

-- it ends before what follows the loop
pub copy_ends : (blocks : Blocks) (body : Body) (i : ℕ) (loop : Loop) → IsOwnLoop blocks body loop
    → suc (drawn_loop blocks body i loop).last ≡ number_in blocks body (suc loop.last)
copy_ends blocks body i loop own =
    sum body.start (before (span blocks) body.work.parts loop.last) (called_at (span blocks) body.work.parts loop.last)
    (width_by (end_at body.work.parts loop.last) (called_at (span blocks) body.work.parts loop.last))
    (ap (λ (end : Option End). width_by end (called_at (span blocks) body.work.parts loop.last)) (last_goes_on blocks body loop own))
  where
    sum : (s b c w : ℕ) → w ≡ suc c → suc ((s + b) + c) ≡ s + (b + w)
    sum s b c w e = omega (arith, e)

-- a number is held that isn't before the first, and before what follows
pub in_copy : (blocks : Blocks) (body : Body) (i : ℕ) (loop : Loop) → IsOwnLoop blocks body loop → (n : ℕ) → number_in blocks body loop.first ≤ n
    → n < number_in blocks body (suc loop.last) → holds (drawn_loop blocks body i loop) n ≡ true
in_copy blocks body i loop own n low high = of_held (drawn_loop blocks body i loop) n low
    (within (drawn_loop blocks body i loop).last (number_in blocks body (suc loop.last)) high (copy_ends blocks body i loop own))
  where
    within : (a b : ℕ) → n < b → suc a ≡ b → n ≤ a
    within a b h e = omega (arith, h, e)

pub record IsInCopy (blocks : Blocks) (body : Body) (loop : Loop) (n : ℕ) : Type 0 where
  pub from : number_in blocks body loop.first ≤ n
  pub below : n < number_in blocks body (suc loop.last)

pub of_copy : (blocks : Blocks) (body : Body) (i : ℕ) (loop : Loop) → IsOwnLoop blocks body loop → (n : ℕ)
    → holds (drawn_loop blocks body i loop) n ≡ true → IsInCopy blocks body loop n
of_copy blocks body i loop own n h = record {
  from = (held_of (drawn_loop blocks body i loop) n h).from;
  below = under (drawn_loop blocks body i loop).last (number_in blocks body (suc loop.last)) (held_of (drawn_loop blocks body i loop) n h).to
      (copy_ends blocks body i loop own);
}
  where
    under : (a b : ℕ) → n ≤ a → suc a ≡ b → n < b
    under a b h e = omega (arith, h, e)

-- ---- where it is as the loop is

-- the copy of the loop is at a number as the loop is at a location
pub record IsAlikeAt (loop other : Loop) (l n : ℕ) : Type 0 where
  pub held : holds other n ≡ holds loop l
  pub first : (n == other.first) ≡ (l == loop.first)

never_less : (a b : ℕ) → a < b → b ≤ a → ⊥
never_less a b h g = omega (arith, h, g)

pub alike_at : (blocks : Blocks) (body : Body) (i : ℕ) (loop : Loop) → IsOwnLoop blocks body loop → (l : ℕ) → IsOpen (end_at body.work.parts l)
    → IsAlikeAt loop (drawn_loop blocks body i loop) l (number_in blocks body l)
alike_at blocks body i loop own l free = record {
  held = bool_same (holds other here) (holds loop l) back forth;
  first = bool_same (here == other.first) (l == loop.first)
      (λ e. eq-eqb l loop.first (same (cases_lt l loop.first) (cases_lt loop.first l) (eqb-true here other.first e)))
      (λ e. eq-eqb here other.first (ap (λ (m : ℕ). number_in blocks body m) (eqb-true l loop.first e)));
}
  where
    other : Loop
    other = drawn_loop blocks body i loop

    here : ℕ
    here = number_in blocks body l

    back : holds other here ≡ true → holds loop l ≡ true
    back h = of_held loop l (low (cases_lt l loop.first)) (high (cases_lt loop.last l))
      where
        held : IsInCopy blocks body loop here
        held = of_copy blocks body i loop own here h

        low : (l < loop.first) ⊎ (loop.first ≤ l) → loop.first ≤ l
        low (inl lt) = absurd (never_less here (number_in blocks body loop.first) (less_in blocks body l loop.first free lt) held.from)
        low (inr le) = le

        high : (loop.last < l) ⊎ (l ≤ loop.last) → l ≤ loop.last
        high (inl lt) = absurd (never_less here (number_in blocks body (suc loop.last)) held.below (rises_in blocks body (suc loop.last) l (up lt)))
          where
            up : loop.last < l → suc loop.last ≤ l
            up g = omega (arith, g)
        high (inr le) = le

    forth : holds loop l ≡ true → holds other here ≡ true
    forth h = in_copy blocks body i loop own here (rises_in blocks body loop.first l (held_of loop l h).from)
        (less_in blocks body l (suc loop.last) free (up (held_of loop l h).to))
      where
        up : l ≤ loop.last → l < suc loop.last
        up g = omega (arith, g)

    same : (l < loop.first) ⊎ (loop.first ≤ l) → (loop.first < l) ⊎ (l ≤ loop.first) → here ≡ number_in blocks body loop.first → l ≡ loop.first
    same (inl lt) more e = absurd (never (less_in blocks body l loop.first free lt) e)
      where
        never : here < number_in blocks body loop.first → here ≡ number_in blocks body loop.first → ⊥
        never h g = omega (arith, h, g)
    same (inr le) (inl lt) e = absurd (never (less_in blocks body loop.first l (first_open blocks body loop own) lt) e)
      where
        never : number_in blocks body loop.first < here → here ≡ number_in blocks body loop.first → ⊥
        never h g = omega (arith, h, g)
    same (inr le) (inr ge) e = omega (arith, le, ge)

-- in what stands after a location the loop holds all where it holds the location, and doesn't begin
pub record IsBehind (loop other : Loop) (l n : ℕ) : Type 0 where
  pub held : holds other n ≡ holds loop l
  pub first : (n == other.first) ≡ false

pub behind_at : (blocks : Blocks) (body : Body) (i : ℕ) (loop : Loop) → IsOwnLoop blocks body loop → (l n : ℕ) → number_in blocks body l < n
    → n < number_in blocks body (suc l) → IsBehind loop (drawn_loop blocks body i loop) l n
behind_at blocks body i loop own l n low high = record {
  held = bool_same (holds other n) (holds loop l) back forth;
  first = ne_eqb n other.first (λ e. absurd (away e (cases_lt l loop.first)));
}
  where
    other : Loop
    other = drawn_loop blocks body i loop

    up : (a b : ℕ) → a < b → suc a ≤ b
    up a b g = omega (arith, g)

    apart : (a b c : ℕ) → a < b → b ≤ c → c ≤ a → ⊥
    apart a b c h g k = omega (arith, h, g, k)

    back : holds other n ≡ true → holds loop l ≡ true
    back h = of_held loop l (least (cases_lt l loop.first)) (most (cases_lt loop.last l))
      where
        held : IsInCopy blocks body loop n
        held = of_copy blocks body i loop own n h

        least : (l < loop.first) ⊎ (loop.first ≤ l) → loop.first ≤ l
        least (inl lt) = absurd (apart n (number_in blocks body (suc l)) (number_in blocks body loop.first) high
            (rises_in blocks body (suc l) loop.first (up l loop.first lt)) held.from)
        least (inr le) = le

        most : (loop.last < l) ⊎ (l ≤ loop.last) → l ≤ loop.last
        most (inl lt) = absurd (chain (number_in blocks body (suc loop.last)) (number_in blocks body l) held.below
            (rises_in blocks body (suc loop.last) l (up loop.last l lt)))
          where
            chain : (a b : ℕ) → n < a → a ≤ number_in blocks body l → ⊥
            chain a b h g = stop a (number_in blocks body l) h g low
              where
                stop : (a c : ℕ) → n < a → a ≤ c → c < n → ⊥
                stop a c h g k = omega (arith, h, g, k)
        most (inr le) = le

    forth : holds loop l ≡ true → holds other n ≡ true
    forth h = in_copy blocks body i loop own n
        (under (number_in blocks body loop.first) (number_in blocks body l) (rises_in blocks body loop.first l (held_of loop l h).from) low)
        (over_it (number_in blocks body (suc l)) (number_in blocks body (suc loop.last)) high
        (rises_in blocks body (suc l) (suc loop.last) (lifted (held_of loop l h).to)))
      where
        under : (a b : ℕ) → a ≤ b → b < n → a ≤ n
        under a b h g = omega (arith, h, g)

        over_it : (a b : ℕ) → n < a → a ≤ b → n < b
        over_it a b h g = omega (arith, h, g)

        lifted : l ≤ loop.last → suc l ≤ suc loop.last
        lifted g = omega (arith, g)

    away : n ≡ other.first → (l < loop.first) ⊎ (loop.first ≤ l) → ⊥
    away e (inl lt) = ahead n (number_in blocks body (suc l)) (number_in blocks body loop.first) high
        (rises_in blocks body (suc l) loop.first (up l loop.first lt)) e
      where
        ahead : (a b c : ℕ) → a < b → b ≤ c → a ≡ c → ⊥
        ahead a b c h g k = omega (arith, h, g, k)
    away e (inr le) = past_it (number_in blocks body l) (number_in blocks body loop.first) low (rises_in blocks body loop.first l le) e
      where
        past_it : (a b : ℕ) → a < n → b ≤ a → n ≡ b → ⊥
        past_it a b h g k = omega (arith, h, g, k)

-- outside the copy the loop holds nothing
pub outside_copy : (blocks : Blocks) (body : Body) (i : ℕ) (loop : Loop) → IsOwnLoop blocks body loop → (n : ℕ)
    → (n < body.start) ⊎ (end_of_body blocks body ≤ n) → holds (drawn_loop blocks body i loop) n ≡ false
outside_copy blocks body i loop own n side = is_false (holds (drawn_loop blocks body i loop) n) (λ h. never (of_copy blocks body i loop own n h) side)
  where
    never : IsInCopy blocks body loop n → (n < body.start) ⊎ (end_of_body blocks body ≤ n) → ⊥
    never h (inl lt) = small body.start (before (span blocks) body.work.parts loop.first) h.from lt
      where
        small : (s b : ℕ) → s + b ≤ n → n < s → ⊥
        small s b g k = omega (arith, g, k)
    never h (inr le) = large (number_in blocks body (suc loop.last)) (end_of_body blocks body) h.below
        (rises_in blocks body (suc loop.last) body.work.parts.locations (up own.last)) le
      where
        up : loop.last < body.work.parts.locations → suc loop.last ≤ body.work.parts.locations
        up g = omega (arith, g)

        large : (a b : ℕ) → n < a → a ≤ b → b ≤ n → ⊥
        large a b g k j = omega (arith, g, k, j)

-- and doesn't begin where it holds nothing
pub not_first : (blocks : Blocks) (body : Body) (i : ℕ) (loop : Loop) → IsOwnLoop blocks body loop → (n : ℕ)
    → holds (drawn_loop blocks body i loop) n ≡ false → (n == (drawn_loop blocks body i loop).first) ≡ false
not_first blocks body i loop own n out = ne_eqb n (drawn_loop blocks body i loop).first (λ e. absurd (true≢false (sym (held e) ∙ out)))
  where
    up : loop.first ≤ loop.last → loop.first < suc loop.last
    up g = omega (arith, g)

    held : n ≡ (drawn_loop blocks body i loop).first → holds (drawn_loop blocks body i loop) n ≡ true
    held e = subst (λ (m : ℕ). holds (drawn_loop blocks body i loop) m ≡ true) (sym e)
        (in_copy blocks body i loop own (number_in blocks body loop.first) (omega arith)
        (less_in blocks body loop.first (suc loop.last) (first_open blocks body loop own) (up own.is.range)))
