-- A copy stands as far behind the first one of its kind as the turns before it take, loop by loop.
use Rattle.std.proofs.Common.{◌≡◌, ℕ, suc, ◌+◌, ◌*◌, List, [], ◌∷◌, map, Bool, true, false, cond, refl, sym, ap, ◌∙◌, arith}
use Rattle.pv_flow.specs.Automata.{Loop, holds}
use Rattle.pv_copies.specs.Copies.{Copy, copy, beyond, location_of, numbers_of, front, back, taken_out}
use Rattle.pv_copies.specs.Places.{fits, total, once, size, place_in, place, IsInner, IsCopy, first_of_kind, turns_before}
use Rattle.pv_copies.proofs.Nesting.{Side, before, here, behind, side, out_before, out_behind, in_here, AreInOrder, AreOf, fitting, apart_of, apart_holds, of_before, of_inside, of_behind}
use Rattle.pv_copies.proofs.Picking.{before_copy, behind_copy, here_copy, apart_copy, copy_bounds, place_before, place_behind, place_here, place_apart}
use Rattle.pv_copies.proofs.Forward.{ranges_of}

same_location : (c : Copy) → location_of (first_of_kind c) ≡ location_of c
same_location (copy l ks) = refl
same_location (beyond loop ks) = refl

first_numbers : (c : Copy) → numbers_of (first_of_kind c) ≡ map (λ (k : ℕ). 0) (numbers_of c)
first_numbers (copy l ks) = refl
first_numbers (beyond loop ks) = refl

out_first : (c : Copy) → taken_out (first_of_kind c) ≡ first_of_kind (taken_out c)
out_first (copy l []) = refl
out_first (copy l (k ∷ ks)) = refl
out_first (beyond loop []) = refl
out_first (beyond loop (k ∷ ks)) = refl

out_location : (c : Copy) → location_of (taken_out c) ≡ location_of c
out_location (copy l ks) = refl
out_location (beyond loop ks) = refl

out_numbers : (c : Copy) → numbers_of (taken_out c) ≡ back (numbers_of c)
out_numbers (copy l ks) = refl
out_numbers (beyond loop ks) = refl

pub no_turns : (w : ℕ → ℕ) (o n : ℕ) (loops : List Loop) (l : ℕ) → turns_before w o n loops l [] ≡ 0
no_turns w o n [] l = refl
no_turns w o n (loop ∷ loops) l = by (holds loop l) (no_turns w o n loops l)
  where
    by : (t : Bool) → turns_before w o n loops l [] ≡ 0
        → cond t (0 * size w o n loops loop.first (suc loop.last) + turns_before w o n loops l []) (turns_before w o n loops l []) ≡ 0
    by true h = omega (arith, h)
    by false h = h

abbrev Shifted : (ℕ → ℕ) → ℕ → ℕ → List Loop → Copy → Type 0
Shifted w o n loops c = (a b : ℕ) → AreOf a b loops → IsCopy n loops a b c
    → place w o n loops a b c ≡ place w o n loops a b (first_of_kind c) + turns_before w o n loops (location_of c) (numbers_of c)

inner_shifted : (w : ℕ → ℕ) (o n : ℕ) (loop : Loop) (loops : List Loop) (c : Copy) (ks : List ℕ) → numbers_of c ≡ ks
    → IsInner n loop c ks (IsCopy n loops loop.first (suc loop.last) (taken_out c))
    → (IsCopy n loops loop.first (suc loop.last) (taken_out c)
    → place w o n loops loop.first (suc loop.last) (taken_out c) ≡ place w o n loops loop.first (suc loop.last) (first_of_kind (taken_out c))
    + turns_before w o n loops (location_of c) (back ks))
    → place_in n (size w o n loops loop.first (suc loop.last)) (once w loop) ks (place w o n loops loop.first (suc loop.last) (taken_out c))
    ≡ place_in n (size w o n loops loop.first (suc loop.last)) (once w loop) (map (λ (k : ℕ). 0) ks)
    (place w o n loops loop.first (suc loop.last) (first_of_kind (taken_out c)))
    + (front ks * size w o n loops loop.first (suc loop.last) + turns_before w o n loops (location_of c) (back ks))
inner_shifted w o n loop loops c [] same h go = omega (arith, no_turns w o n loops (location_of c))
inner_shifted w o n loop loops c (k ∷ ks) same h go = let rest = go h.0 in omega (arith, rest)

pub shifted : (w : ℕ → ℕ) (o n : ℕ) (loops : List Loop) (c : Copy) → AreInOrder loops → Shifted w o n loops c
shifted w o n [] c order a b of h = sum (same_location c)
  where
    plus_none : (m : ℕ) → m ≡ m + 0
    plus_none m = omega arith

    sum : location_of (first_of_kind c) ≡ location_of c
        → place w o n [] a b c ≡ place w o n [] a b (first_of_kind c) + 0
    sum e = ap (λ (l : ℕ). total w a l) (sym e) ∙ plus_none (total w a (location_of (first_of_kind c)))
shifted w o n (loop ∷ loops) c order a b of h =
    by (fits loop a b) refl (side loop (location_of c)) (shifted w o n loops c order.2) (shifted w o n loops (taken_out c) order.2)
  where
    out : holds loop (location_of c) ≡ false
        → turns_before w o n (loop ∷ loops) (location_of c) (numbers_of c) ≡ turns_before w o n loops (location_of c) (numbers_of c)
    out e = ap (λ (t : Bool). cond t (front (numbers_of c) * size w o n loops loop.first (suc loop.last)
        + turns_before w o n loops (location_of c) (back (numbers_of c))) (turns_before w o n loops (location_of c) (numbers_of c))) e

    held : holds loop (location_of c) ≡ true → turns_before w o n (loop ∷ loops) (location_of c) (numbers_of c)
        ≡ front (numbers_of c) * size w o n loops loop.first (suc loop.last) + turns_before w o n loops (location_of c) (back (numbers_of c))
    held e = ap (λ (t : Bool). cond t (front (numbers_of c) * size w o n loops loop.first (suc loop.last)
        + turns_before w o n loops (location_of c) (back (numbers_of c))) (turns_before w o n loops (location_of c) (numbers_of c))) e

    by : (f : Bool) → fits loop a b ≡ f → Side loop (location_of c) → Shifted w o n loops c → Shifted w o n loops (taken_out c)
        → place w o n (loop ∷ loops) a b c ≡ place w o n (loop ∷ loops) a b (first_of_kind c)
        + turns_before w o n (loop ∷ loops) (location_of c) (numbers_of c)
    by false f s go in_ =
        let i = apart_copy n loop loops a b c f h in
        let at = copy_bounds n loops a b c (ranges_of loops order.2) i in
        let g = go a b of.1 i in
        omega (
          arith,
          g,
          place_apart w o n loop loops a b c f,
          place_apart w o n loop loops a b (first_of_kind c) f,
          out (apart_holds loop a b (location_of c) (apart_of loop a b of.0 f) at.0 at.1),
        )
    by true f (before lt) go in_ =
        let i = before_copy n loop loops a b c f lt h in
        let g = go a loop.first (of_before loop loops a order.0 order.1) i in
        omega (
          arith,
          g,
          place_before w o n loop loops a b c f lt,
          place_before w o n loop loops a b (first_of_kind c) f (omega (arith, same_location c, lt)),
          out (out_before loop (location_of c) lt),
        )
    by true f (behind low lt) go in_ =
        let fit = fitting loop a b f in
        let i = behind_copy n loop loops a b c f low lt h in
        let g = go (suc loop.last) b (of_behind loop loops a b order.0 fit.0 order.2 order.1 of.1) i in
        omega (
          arith,
          g,
          place_behind w o n loop loops a b c f low lt,
          place_behind w o n loop loops a b (first_of_kind c) f (omega (arith, same_location c, low)) (omega (arith, same_location c, lt)),
          out (out_behind loop (location_of c) lt),
        )
    by true f (here low high) go in_ =
        let g = inner_shifted w o n loop loops c (numbers_of c) refl (here_copy n loop loops a b c f low high h) inside in
        omega (arith, g, place_here w o n loop loops a b c f low high, first_here, held (in_here loop (location_of c) low high))
      where
        inside : IsCopy n loops loop.first (suc loop.last) (taken_out c)
            → place w o n loops loop.first (suc loop.last) (taken_out c) ≡ place w o n loops loop.first (suc loop.last) (first_of_kind (taken_out c))
            + turns_before w o n loops (location_of c) (back (numbers_of c))
        inside i = in_ loop.first (suc loop.last) (of_inside loop loops order.0 order.1) i
            ∙ ap (λ (l : ℕ). place w o n loops loop.first (suc loop.last) (first_of_kind (taken_out c))
            + turns_before w o n loops l (numbers_of (taken_out c))) (out_location c)
            ∙ ap (λ (ks : List ℕ). place w o n loops loop.first (suc loop.last) (first_of_kind (taken_out c))
            + turns_before w o n loops (location_of c) ks) (out_numbers c)

        first_here : place w o n (loop ∷ loops) a b (first_of_kind c) ≡ size w o n loops a loop.first
            + place_in n (size w o n loops loop.first (suc loop.last)) (once w loop) (map (λ (k : ℕ). 0) (numbers_of c))
            (place w o n loops loop.first (suc loop.last) (first_of_kind (taken_out c)))
        first_here = place_here w o n loop loops a b (first_of_kind c) f (omega (arith, same_location c, low)) (omega (arith, same_location c, high))
            ∙ ap (λ (ks : List ℕ). size w o n loops a loop.first + place_in n (size w o n loops loop.first (suc loop.last)) (once w loop) ks
            (place w o n loops loop.first (suc loop.last) (taken_out (first_of_kind c)))) (first_numbers c)
            ∙ ap (λ (x : Copy). size w o n loops a loop.first + place_in n (size w o n loops loop.first (suc loop.last)) (once w loop)
            (map (λ (k : ℕ). 0) (numbers_of c)) (place w o n loops loop.first (suc loop.last) x)) (out_first c)
