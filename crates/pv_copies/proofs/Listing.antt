-- The text has each copy that stands in it once, at its place: along the text places are 0, 1, 2, .., and each copy is found at its place.
use Rattle.std.proofs.Common.{◌≡◌, ℕ, zero, suc, ◌+◌, ◌*◌, ◌<◌, ◌≤◌, ◌⊎◌, inl, inr, List, [], ◌∷◌, ◌++◌, map, length, slice_get, length-append, Bool, true, false, nat_le, cond, Option, Some, refl, sym, subst, ap, ◌∙◌, suc-mul, arith}
use Rattle.std.specs.List.{AllByRecursion}
use Rattle.std.proofs.lemmas.Bool.{leb-true, le-leb, cases_lt}
use Rattle.std.proofs.lemmas.List.{length-map}
use Rattle.std.proofs.lemmas.Option.{none-some, same_Some}
use Rattle.pv_flow.specs.Automata.{Loop}
use Rattle.pv_copies.specs.Copies.{Copy, copy, beyond, location_of, numbers_of, within, front, back, taken_out}
use Rattle.pv_copies.specs.Places.{fits, plain, rounds, once_more, text, total, once, size, place_in, place, IsInner, IsCopy, one_each, Stands}
use Rattle.pv_copies.proofs.Nesting.{Side, before, here, behind, side, AreInOrder, AreOf, fitting, of_before, of_inside, of_behind}
use Rattle.pv_copies.proofs.Picking.{copy_before, before_copy, copy_behind, behind_copy, copy_here, here_copy, copy_apart, apart_copy, copy_bounds, copy_within, place_before, place_behind, place_here, place_apart, place_within}
use Rattle.pv_copies.proofs.Forward.{ranges_of, entered_is_copy, alone, entered_bare}
use Rattle.pv_copies.proofs.Rising.{first_place, later_begin}

-- ---- lists with their numbers

-- what is so of each element and its number, from i on
abbrev pub Along : {X : Type 0} → (X → ℕ → Type 0) → List X → ℕ → Type 0
Along P [] i = Unit {0}
Along P (x ∷ xs) i = P x i × Along P xs (suc i)

at_number : {X : Type 0} (P : X → ℕ → Type 0) (xs : List X) (i j : ℕ) → i ≡ j → Along P xs i → Along P xs j
at_number P xs i j e h = subst (λ (m : ℕ). Along P xs m) e h

along_append : {X : Type 0} (P : X → ℕ → Type 0) (xs ys : List X) (i : ℕ) → Along P xs i → Along P ys (i + length xs) → Along P (xs ++ ys) i
along_append P [] ys i h g = at_number P ys (i + 0) i (omega arith) g
along_append P (x ∷ xs) ys i h g = (h.0, along_append P xs ys (suc i) h.1 (at_number P ys (i + suc (length xs)) (suc i + length xs) (omega arith) g))

along_map : {X Y : Type 0} (P : X → ℕ → Type 0) (Q : Y → ℕ → Type 0) (f : X → Y) (d : ℕ) (xs : List X) (i : ℕ)
    → ((x : X) (j : ℕ) → P x j → Q (f x) (d + j)) → Along P xs i → Along Q (map f xs) (d + i)
along_map P Q f d [] i go h = tt
along_map P Q f d (x ∷ xs) i go h =
    (go x i h.0, at_number Q (map f xs) (d + suc i) (suc (d + i)) (omega arith) (along_map P Q f d xs (suc i) go h.1))

along_later : {X : Type 0} (P Q : X → ℕ → Type 0) (d : ℕ) (xs : List X) (i : ℕ)
    → ((x : X) (j : ℕ) → P x j → Q x (d + j)) → Along P xs i → Along Q xs (d + i)
along_later P Q d [] i go h = tt
along_later P Q d (x ∷ xs) i go h = (go x i h.0, at_number Q xs (d + suc i) (suc (d + i)) (omega arith) (along_later P Q d xs (suc i) go h.1))

pub along_at : {X : Type 0} (P : X → ℕ → Type 0) (xs : List X) (i j : ℕ) (x : X) → Along P xs i → slice_get xs j ≡ Some x → P x (i + j)
along_at P [] i j x h e = absurd (none-some x e)
along_at P (y ∷ xs) i zero x h e = subst (λ (m : ℕ). P x m) (plus_zero i) (subst (λ z. P z i) (same_Some y x e) h.0)
  where
    plus_zero : (i : ℕ) → i ≡ i + 0
    plus_zero i = omega arith
along_at P (y ∷ xs) i (suc j) x h e = subst (λ (m : ℕ). P x m) (plus_suc i j) (along_at P xs (suc i) j x h.1 e)
  where
    plus_suc : (i j : ℕ) → suc i + j ≡ i + suc j
    plus_suc i j = omega arith

in_front : {X : Type 0} (xs ys : List X) (k : ℕ) (x : X) → slice_get xs k ≡ Some x → slice_get (xs ++ ys) k ≡ Some x
in_front [] ys k x e = absurd (none-some x e)
in_front (y ∷ xs) ys zero x e = e
in_front (y ∷ xs) ys (suc k) x e = in_front xs ys k x e

further_on : {X : Type 0} (xs ys : List X) (k m : ℕ) (o : Option X) → m ≡ length xs + k → slice_get ys k ≡ o → slice_get (xs ++ ys) m ≡ o
further_on [] ys k m o e h = ap (λ (j : ℕ). slice_get ys j) (plain_sum k m e) ∙ h
  where
    plain_sum : (k m : ℕ) → m ≡ 0 + k → m ≡ k
    plain_sum k m e = omega (arith, e)
further_on (x ∷ xs) ys k zero o e h = absurd (omega (arith, e))
further_on (x ∷ xs) ys k (suc m) o e h = further_on xs ys k m o (omega (arith, e)) h

get_map : {X Y : Type 0} (f : X → Y) (xs : List X) (k : ℕ) (x : X) → slice_get xs k ≡ Some x → slice_get (map f xs) k ≡ Some (f x)
get_map f [] k x e = absurd (none-some x e)
get_map f (y ∷ xs) zero x e = ap (λ z. Some (f z)) (same_Some y x e)
get_map f (y ∷ xs) (suc k) x e = get_map f xs k x e

-- ---- lengths

plain_length : (stands : ℕ → Bool) (a b : ℕ) → length (plain stands a b) ≡ total (one_each stands) a b
plain_length stands a zero = refl
plain_length stands a (suc b) = by (nat_le a b) (plain_length stands a b)
  where
    one : (t : Bool) → length (cond t (copy b [] ∷ []) []) ≡ cond t 1 0
    one true = refl
    one false = refl

    by : (t : Bool) → length (plain stands a b) ≡ total (one_each stands) a b
        → length (cond t (plain stands a b ++ cond (stands b) (copy b [] ∷ []) []) []) ≡ cond t (total (one_each stands) a b + one_each stands b) 0
    by false h = refl
    by true h = length-append (plain stands a b) (cond (stands b) (copy b [] ∷ []) [])
        ∙ ap (λ (m : ℕ). m + length (cond (stands b) (copy b [] ∷ []) [])) h
        ∙ ap (λ (m : ℕ). total (one_each stands) a b + m) (one (stands b))

rounds_length : (n : ℕ) (xs : List Copy) → length (rounds n xs) ≡ n * length xs
rounds_length zero xs = sym (zero_times (length xs))
  where
    zero_times : (m : ℕ) → 0 * m ≡ 0
    zero_times m = omega arith
rounds_length (suc n) xs = length-append (rounds n xs) (map (within n) xs)
    ∙ ap (λ (m : ℕ). m + length (map (within n) xs)) (rounds_length n xs)
    ∙ ap (λ (m : ℕ). n * length xs + m) (length-map xs (within n)) ∙ sym (suc-mul n (length xs))

once_length : (stands : ℕ → Bool) (n : ℕ) (loop : Loop) → (loop.entry_turn ≡ false → stands loop.first ≡ true)
    → length (once_more n loop) ≡ once (one_each stands) loop
once_length stands n loop first = by loop.entry_turn refl
  where
    by : (t : Bool) → loop.entry_turn ≡ t → length (cond t [] (copy loop.first (n ∷ []) ∷ [])) ≡ cond t 0 (one_each stands loop.first)
    by true on = refl
    by false off = sym (ap (λ (b : Bool). cond b 1 0) (first off))

-- first locations stand in the text
abbrev pub FirstsStand : (ℕ → Bool) → List Loop → Type 0
FirstsStand stands loops = AllByRecursion (λ (loop : Loop). loop.entry_turn ≡ false → stands loop.first ≡ true) loops

pub text_length : (stands : ℕ → Bool) (n : ℕ) (loops : List Loop) (a b : ℕ) → FirstsStand stands loops
    → length (text stands n loops a b) ≡ size (one_each stands) 1 n loops a b
text_length stands n [] a b firsts = plain_length stands a b
text_length stands n (loop ∷ loops) a b firsts = by (fits loop a b) (λ x y. text_length stands n loops x y firsts.1)
  where
    by : (t : Bool) → ((x y : ℕ) → length (text stands n loops x y) ≡ size (one_each stands) 1 n loops x y)
        → length (cond t
        (text stands n loops a loop.first ++ (rounds n (text stands n loops loop.first (suc loop.last))
        ++ (once_more n loop ++ (beyond loop [] ∷ text stands n loops (suc loop.last) b))))
        (text stands n loops a b))
        ≡ cond t
        (size (one_each stands) 1 n loops a loop.first + n * size (one_each stands) 1 n loops loop.first (suc loop.last) + once (one_each stands) loop + 1
        + size (one_each stands) 1 n loops (suc loop.last) b)
        (size (one_each stands) 1 n loops a b)
    by false go = go a b
    by true go =
        let one = length-append (text stands n loops a loop.first) (rounds n (text stands n loops loop.first (suc loop.last))
        ++ (once_more n loop ++ (beyond loop [] ∷ text stands n loops (suc loop.last) b))) in
        let two = length-append (rounds n (text stands n loops loop.first (suc loop.last)))
        (once_more n loop ++ (beyond loop [] ∷ text stands n loops (suc loop.last) b)) in
        let three = length-append (once_more n loop) (beyond loop [] ∷ text stands n loops (suc loop.last) b) in
        let turns : length (rounds n (text stands n loops loop.first (suc loop.last))) ≡ n * size (one_each stands) 1 n loops loop.first (suc loop.last) =
        rounds_length n (text stands n loops loop.first (suc loop.last)) ∙ ap (λ (m : ℕ). n * m) (go loop.first (suc loop.last)) in
        omega (arith, one, two, three, turns, go a loop.first, go (suc loop.last) b, once_length stands n loop firsts.0)

-- ---- places along the text

abbrev pub IsNumbered : (ℕ → Bool) → ℕ → List Loop → ℕ → ℕ → Copy → ℕ → Type 0
IsNumbered stands n loops a b c i = IsCopy n loops a b c × (place (one_each stands) 1 n loops a b c ≡ i) × Stands stands c

stands_within : (stands : ℕ → Bool) (k : ℕ) (c : Copy) → Stands stands c → Stands stands (within k c)
stands_within stands k (copy l ks) h = h
stands_within stands k (beyond loop ks) h = h

abbrev Numbered : (ℕ → Bool) → ℕ → List Loop → ℕ → ℕ → Type 0
Numbered stands n loops a b = Along (IsNumbered stands n loops a b) (text stands n loops a b) 0

plain_numbered : (stands : ℕ → Bool) (n : ℕ) (a b c : ℕ) → b ≤ c → Along (IsNumbered stands n [] a c) (plain stands a b) 0
plain_numbered stands n a zero c le = tt
plain_numbered stands n a (suc b) c le = by (nat_le a b) refl (plain_numbered stands n a b c (omega (arith, le)))
  where
    last : a ≤ b → (t : Bool) → stands b ≡ t → Along (IsNumbered stands n [] a c) (cond t (copy b [] ∷ []) []) (0 + length (plain stands a b))
    last low false it = tt
    last low true it = (((low, omega (arith, le), refl), number (length (plain stands a b)) (sym (plain_length stands a b)), it), tt)
      where
        number : (m : ℕ) → total (one_each stands) a b ≡ m → total (one_each stands) a b ≡ 0 + m
        number m e = omega (arith, e)

    by : (t : Bool) → nat_le a b ≡ t → Along (IsNumbered stands n [] a c) (plain stands a b) 0
        → Along (IsNumbered stands n [] a c) (cond t (plain stands a b ++ cond (stands b) (copy b [] ∷ []) []) []) 0
    by false e go = tt
    by true e go = along_append (IsNumbered stands n [] a c) (plain stands a b) (cond (stands b) (copy b [] ∷ []) []) 0 go (last (leb-true a b e) (stands b) refl)

-- the copies of what is in a loop
rounds_numbered : (stands : ℕ → Bool) (n : ℕ) (loop : Loop) (loops : List Loop) (a b : ℕ) → AreInOrder (loop ∷ loops) → fits loop a b ≡ true
    → FirstsStand stands loops → Numbered stands n loops loop.first (suc loop.last) → (m : ℕ) → m ≤ n
    → Along (IsNumbered stands n (loop ∷ loops) a b) (rounds m (text stands n loops loop.first (suc loop.last))) (size (one_each stands) 1 n loops a loop.first)
rounds_numbered stands n loop loops a b order f firsts inner zero le = tt
rounds_numbered stands n loop loops a b order f firsts inner (suc m) le =
    along_append (IsNumbered stands n (loop ∷ loops) a b) (rounds m (text stands n loops loop.first (suc loop.last)))
    (map (within m) (text stands n loops loop.first (suc loop.last))) (size (one_each stands) 1 n loops a loop.first)
    (rounds_numbered stands n loop loops a b order f firsts inner m (omega (arith, le)))
    (at_number (IsNumbered stands n (loop ∷ loops) a b) (map (within m) (text stands n loops loop.first (suc loop.last)))
    (size (one_each stands) 1 n loops a loop.first + m * size (one_each stands) 1 n loops loop.first (suc loop.last) + 0)
    (size (one_each stands) 1 n loops a loop.first + length (rounds m (text stands n loops loop.first (suc loop.last))))
    (omega (arith, turns))
    (along_map (IsNumbered stands n loops loop.first (suc loop.last)) (IsNumbered stands n (loop ∷ loops) a b) (within m)
    (size (one_each stands) 1 n loops a loop.first + m * size (one_each stands) 1 n loops loop.first (suc loop.last))
    (text stands n loops loop.first (suc loop.last)) 0 each inner))
  where
    turns : length (rounds m (text stands n loops loop.first (suc loop.last))) ≡ m * size (one_each stands) 1 n loops loop.first (suc loop.last)
    turns = rounds_length m (text stands n loops loop.first (suc loop.last))
        ∙ ap (λ (k : ℕ). m * k) (text_length stands n loops loop.first (suc loop.last) firsts)

    each : (c : Copy) (j : ℕ) → IsNumbered stands n loops loop.first (suc loop.last) c j
        → IsNumbered stands n (loop ∷ loops) a b (within m c)
        (size (one_each stands) 1 n loops a loop.first + m * size (one_each stands) 1 n loops loop.first (suc loop.last) + j)
    each c j h =
        let at = copy_bounds n loops loop.first (suc loop.last) c (ranges_of loops order.2) h.0 in (
          copy_within n loop loops a b m c (ranges_of loops order.2) f (inl (omega (arith, le))) h.0,
          add_up (place_within (one_each stands) 1 n loop loops a b m c f at.0 (omega (arith, at.1))) h.1,
          stands_within stands m c h.2,
        )
      where
        add_up : place (one_each stands) 1 n (loop ∷ loops) a b (within m c) ≡ size (one_each stands) 1 n loops a loop.first
            + (m * size (one_each stands) 1 n loops loop.first (suc loop.last) + place (one_each stands) 1 n loops loop.first (suc loop.last) c)
            → place (one_each stands) 1 n loops loop.first (suc loop.last) c ≡ j
            → place (one_each stands) 1 n (loop ∷ loops) a b (within m c)
            ≡ size (one_each stands) 1 n loops a loop.first + m * size (one_each stands) 1 n loops loop.first (suc loop.last) + j
        add_up x y = omega (arith, x, y)

first_is_copy : (n : ℕ) → 0 < n → (loop : Loop) (loops : List Loop) → AreInOrder (loop ∷ loops) → loop.entry_turn ≡ false
    → IsCopy n loops loop.first (suc loop.last) (copy loop.first [])
first_is_copy n some loop loops order off =
    subst (λ (c : Copy). IsCopy n loops loop.first (suc loop.last) c)
    (entered_bare loops loop.first (alone loop loops 0 0 loop.first order.0 off refl order.1))
    (entered_is_copy n some loops loop.first (suc loop.last) loop.first order.2 (of_inside loop loops order.0 order.1) (omega arith) (omega (arith, order.0)))

once_numbered : (stands : ℕ → Bool) (n : ℕ) → 0 < n → (loop : Loop) (loops : List Loop) (a b : ℕ) → AreInOrder (loop ∷ loops) → fits loop a b ≡ true
    → (loop.entry_turn ≡ false → stands loop.first ≡ true)
    → Along (IsNumbered stands n (loop ∷ loops) a b) (once_more n loop)
    (size (one_each stands) 1 n loops a loop.first + n * size (one_each stands) 1 n loops loop.first (suc loop.last))
once_numbered stands n some loop loops a b order f first = by loop.entry_turn refl
  where
    none : loop.entry_turn ≡ false → place (one_each stands) 1 n loops loop.first (suc loop.last) (copy loop.first []) ≡ 0
    none off = first_place (one_each stands) 1 n loops loop.first (suc loop.last) (later_begin loop loops order.0 off order.1)

    by : (t : Bool) → loop.entry_turn ≡ t → Along (IsNumbered stands n (loop ∷ loops) a b) (cond t [] (copy loop.first (n ∷ []) ∷ []))
        (size (one_each stands) 1 n loops a loop.first + n * size (one_each stands) 1 n loops loop.first (suc loop.last))
    by true on = tt
    by false off = (
      (
        copy_here n loop loops a b (copy loop.first (n ∷ [])) f (omega arith) order.0 (first_is_copy n some loop loops order off, inr (off, refl)),
        omega (arith, place_here (one_each stands) 1 n loop loops a b (copy loop.first (n ∷ [])) f (omega arith) order.0, none off),
        first off,
      ),
      tt,
    )

pub numbered_text : (stands : ℕ → Bool) (n : ℕ) → 0 < n → (loops : List Loop) (a b : ℕ) → AreInOrder loops → AreOf a b loops → FirstsStand stands loops
    → Along (IsNumbered stands n loops a b) (text stands n loops a b) 0
numbered_text stands n some [] a b order of firsts = plain_numbered stands n a b b (omega arith)
numbered_text stands n some (loop ∷ loops) a b order of firsts =
    by (fits loop a b) refl (λ x y g. numbered_text stands n some loops x y order.2 g firsts.1)
  where
    by : (t : Bool) → fits loop a b ≡ t → ((x y : ℕ) → AreOf x y loops → Numbered stands n loops x y)
        → Along (IsNumbered stands n (loop ∷ loops) a b) (cond t
        (text stands n loops a loop.first ++ (rounds n (text stands n loops loop.first (suc loop.last))
        ++ (once_more n loop ++ (beyond loop [] ∷ text stands n loops (suc loop.last) b))))
        (text stands n loops a b)) 0
    by false f go = along_later (IsNumbered stands n loops a b) (IsNumbered stands n (loop ∷ loops) a b) 0 (text stands n loops a b) 0
        (λ c j h. (copy_apart n loop loops a b c f h.0, same c j (place_apart (one_each stands) 1 n loop loops a b c f) h.1, h.2)) (go a b of.1)
      where
        same : (c : Copy) (j : ℕ) → place (one_each stands) 1 n (loop ∷ loops) a b c ≡ place (one_each stands) 1 n loops a b c
            → place (one_each stands) 1 n loops a b c ≡ j → place (one_each stands) 1 n (loop ∷ loops) a b c ≡ 0 + j
        same c j x y = omega (arith, x, y)
    by true f go =
        along_append (IsNumbered stands n (loop ∷ loops) a b) (text stands n loops a loop.first)
        (rounds n (text stands n loops loop.first (suc loop.last)) ++ (once_more n loop ++ (beyond loop [] ∷ text stands n loops (suc loop.last) b))) 0
        (earlier (go a loop.first (of_before loop loops a order.0 order.1)))
        (at_number (IsNumbered stands n (loop ∷ loops) a b)
        (rounds n (text stands n loops loop.first (suc loop.last)) ++ (once_more n loop ++ (beyond loop [] ∷ text stands n loops (suc loop.last) b)))
        (size (one_each stands) 1 n loops a loop.first) (0 + length (text stands n loops a loop.first)) (omega (arith, first_length))
        (along_append (IsNumbered stands n (loop ∷ loops) a b) (rounds n (text stands n loops loop.first (suc loop.last)))
        (once_more n loop ++ (beyond loop [] ∷ text stands n loops (suc loop.last) b)) (size (one_each stands) 1 n loops a loop.first)
        (rounds_numbered stands n loop loops a b order f firsts.1 (go loop.first (suc loop.last) (of_inside loop loops order.0 order.1)) n (omega arith))
        (at_number (IsNumbered stands n (loop ∷ loops) a b) (once_more n loop ++ (beyond loop [] ∷ text stands n loops (suc loop.last) b))
        (size (one_each stands) 1 n loops a loop.first + n * size (one_each stands) 1 n loops loop.first (suc loop.last))
        (size (one_each stands) 1 n loops a loop.first + length (rounds n (text stands n loops loop.first (suc loop.last)))) (omega (arith, turns))
        (along_append (IsNumbered stands n (loop ∷ loops) a b) (once_more n loop) (beyond loop [] ∷ text stands n loops (suc loop.last) b)
        (size (one_each stands) 1 n loops a loop.first + n * size (one_each stands) 1 n loops loop.first (suc loop.last))
        (once_numbered stands n some loop loops a b order f firsts.0)
        (over, later (go (suc loop.last) b (of_behind loop loops a b order.0 fit.0 order.2 order.1 of.1)))))))
      where
        fit : (a ≤ loop.first) × (loop.last < b)
        fit = fitting loop a b f

        first_length : length (text stands n loops a loop.first) ≡ size (one_each stands) 1 n loops a loop.first
        first_length = text_length stands n loops a loop.first firsts.1

        turns : length (rounds n (text stands n loops loop.first (suc loop.last))) ≡ n * size (one_each stands) 1 n loops loop.first (suc loop.last)
        turns = rounds_length n (text stands n loops loop.first (suc loop.last))
            ∙ ap (λ (k : ℕ). n * k) (text_length stands n loops loop.first (suc loop.last) firsts.1)

        once_is : length (once_more n loop) ≡ once (one_each stands) loop
        once_is = once_length stands n loop firsts.0

        earlier : Numbered stands n loops a loop.first → Along (IsNumbered stands n (loop ∷ loops) a b) (text stands n loops a loop.first) 0
        earlier h = along_later (IsNumbered stands n loops a loop.first) (IsNumbered stands n (loop ∷ loops) a b) 0 (text stands n loops a loop.first) 0 each h
          where
            each : (c : Copy) (j : ℕ) → IsNumbered stands n loops a loop.first c j → IsNumbered stands n (loop ∷ loops) a b c (0 + j)
            each c j g =
                let at = copy_bounds n loops a loop.first c (ranges_of loops order.2) g.0 in (
                  copy_before n loop loops a b c f at.1 g.0,
                  omega (arith, place_before (one_each stands) 1 n loop loops a b c f at.1, g.1),
                  g.2,
                )

        over : IsNumbered stands n (loop ∷ loops) a b (beyond loop [])
            (size (one_each stands) 1 n loops a loop.first + n * size (one_each stands) 1 n loops loop.first (suc loop.last) + length (once_more n loop))
        over = (
          copy_here n loop loops a b (beyond loop []) f (omega arith) order.0 refl,
          omega (arith, place_here (one_each stands) 1 n loop loops a b (beyond loop []) f (omega arith) order.0, once_is),
          tt,
        )

        later : Numbered stands n loops (suc loop.last) b
            → Along (IsNumbered stands n (loop ∷ loops) a b) (text stands n loops (suc loop.last) b) (suc (size (one_each stands) 1 n loops a loop.first
            + n * size (one_each stands) 1 n loops loop.first (suc loop.last) + length (once_more n loop)))
        later h = at_number (IsNumbered stands n (loop ∷ loops) a b) (text stands n loops (suc loop.last) b)
            (size (one_each stands) 1 n loops a loop.first + n * size (one_each stands) 1 n loops loop.first (suc loop.last) + once (one_each stands) loop + 1 + 0)
            (suc (size (one_each stands) 1 n loops a loop.first + n * size (one_each stands) 1 n loops loop.first (suc loop.last) + length (once_more n loop)))
            (omega (arith, once_is))
            (along_later (IsNumbered stands n loops (suc loop.last) b) (IsNumbered stands n (loop ∷ loops) a b)
            (size (one_each stands) 1 n loops a loop.first + n * size (one_each stands) 1 n loops loop.first (suc loop.last) + once (one_each stands) loop + 1)
            (text stands n loops (suc loop.last) b) 0 each h)
          where
            each : (c : Copy) (j : ℕ) → IsNumbered stands n loops (suc loop.last) b c j → IsNumbered stands n (loop ∷ loops) a b c
                (size (one_each stands) 1 n loops a loop.first + n * size (one_each stands) 1 n loops loop.first (suc loop.last)
                + once (one_each stands) loop + 1 + j)
            each c j g =
                let at = copy_bounds n loops (suc loop.last) b c (ranges_of loops order.2) g.0 in
                let low : loop.first ≤ location_of c = omega (arith, at.0, order.0) in
                let past : loop.last < location_of c = omega (arith, at.0) in (
                  copy_behind n loop loops a b c f low past g.0,
                  omega (arith, place_behind (one_each stands) 1 n loop loops a b c f low past, g.1),
                  g.2,
                )

-- ---- each at its place

abbrev Found : (ℕ → Bool) → ℕ → List Loop → ℕ → ℕ → Copy → Type 0
Found stands n loops a b c = slice_get (text stands n loops a b) (place (one_each stands) 1 n loops a b c) ≡ Some c

plain_found : (stands : ℕ → Bool) (a l b : ℕ) → a ≤ l → l < b → stands l ≡ true
    → slice_get (plain stands a b) (total (one_each stands) a l) ≡ Some (copy l [])
plain_found stands a l zero low lt it = absurd (omega (arith, lt))
plain_found stands a l (suc b) low lt it = by (cases_lt l b) (λ less. plain_found stands a l b low less it)
  where
    shown : plain stands a (suc b) ≡ plain stands a b ++ cond (stands b) (copy b [] ∷ []) []
    shown = ap (λ (t : Bool). cond t (plain stands a b ++ cond (stands b) (copy b [] ∷ []) []) []) (le-leb a b (omega (arith, low, lt)))

    here_last : l ≡ b → slice_get (plain stands a b ++ cond (stands b) (copy b [] ∷ []) []) (total (one_each stands) a l) ≡ Some (copy l [])
    here_last e = subst (λ (m : ℕ). slice_get (plain stands a b ++ cond (stands b) (copy b [] ∷ []) []) (total (one_each stands) a m) ≡ Some (copy m [])) (sym e)
        (further_on (plain stands a b) (cond (stands b) (copy b [] ∷ []) []) 0 (total (one_each stands) a b) (Some (copy b []))
        (omega (arith, plain_length stands a b))
        (ap (λ (t : Bool). slice_get (cond t (copy b [] ∷ []) []) 0) (subst (λ (m : ℕ). stands m ≡ true) e it)))

    by : (l < b) ⊎ (b ≤ l) → (l < b → slice_get (plain stands a b) (total (one_each stands) a l) ≡ Some (copy l []))
        → slice_get (plain stands a (suc b)) (total (one_each stands) a l) ≡ Some (copy l [])
    by (inl less) go = ap (λ (xs : List Copy). slice_get xs (total (one_each stands) a l)) shown
        ∙ in_front (plain stands a b) (cond (stands b) (copy b [] ∷ []) []) (total (one_each stands) a l) (copy l []) (go less)
    by (inr le) go = ap (λ (xs : List Copy). slice_get xs (total (one_each stands) a l)) shown ∙ here_last (omega (arith, le, lt))

rounds_found : (xs : List Copy) (k i : ℕ) (c : Copy) (n : ℕ) → slice_get xs i ≡ Some c → k < n
    → slice_get (rounds n xs) (k * length xs + i) ≡ Some (within k c)
rounds_found xs k i c zero e lt = absurd (omega (arith, lt))
rounds_found xs k i c (suc n) e lt = by (cases_lt k n) (λ less. rounds_found xs k i c n e less)
  where
    by : (k < n) ⊎ (n ≤ k) → (k < n → slice_get (rounds n xs) (k * length xs + i) ≡ Some (within k c))
        → slice_get (rounds n xs ++ map (within n) xs) (k * length xs + i) ≡ Some (within k c)
    by (inl less) go = in_front (rounds n xs) (map (within n) xs) (k * length xs + i) (within k c) (go less)
    by (inr le) go = subst (λ (m : ℕ). slice_get (rounds n xs ++ map (within n) xs) (m * length xs + i) ≡ Some (within m c)) (same le)
        (further_on (rounds n xs) (map (within n) xs) i (n * length xs + i) (Some (within n c)) (omega (arith, rounds_length n xs)) (get_map (within n) xs i c e))
      where
        same : n ≤ k → n ≡ k
        same le = omega (arith, le, lt)

back_again : (c : Copy) (k : ℕ) (ks : List ℕ) → numbers_of c ≡ k ∷ ks → within k (taken_out c) ≡ c
back_again (copy l js) k ks e = by js e
  where
    by : (js : List ℕ) → js ≡ k ∷ ks → copy l (k ∷ back js) ≡ copy l js
    by js e = ap (λ (zs : List ℕ). copy l zs) (ap (λ (zs : List ℕ). k ∷ back zs) e ∙ sym e)
back_again (beyond loop js) k ks e = by js e
  where
    by : (js : List ℕ) → js ≡ k ∷ ks → beyond loop (k ∷ back js) ≡ beyond loop js
    by js e = ap (λ (zs : List ℕ). beyond loop zs) (ap (λ (zs : List ℕ). k ∷ back zs) e ∙ sym e)

stands_out : (stands : ℕ → Bool) (c : Copy) → Stands stands c → Stands stands (taken_out c)
stands_out stands (copy l ks) h = h
stands_out stands (beyond loop ks) h = h

-- in the loop, from its beginning on
inner_found : (stands : ℕ → Bool) (n : ℕ) (loop : Loop) (loops : List Loop) (b : ℕ) (c : Copy) (ks : List ℕ) → AreInOrder (loop ∷ loops)
    → FirstsStand stands (loop ∷ loops) → numbers_of c ≡ ks
    → IsInner n loop c ks (IsCopy n loops loop.first (suc loop.last) (taken_out c))
    → (IsCopy n loops loop.first (suc loop.last) (taken_out c) → Found stands n loops loop.first (suc loop.last) (taken_out c))
    → slice_get (rounds n (text stands n loops loop.first (suc loop.last)) ++ (once_more n loop ++ (beyond loop [] ∷ text stands n loops (suc loop.last) b)))
    (place_in n (size (one_each stands) 1 n loops loop.first (suc loop.last)) (once (one_each stands) loop) ks
    (place (one_each stands) 1 n loops loop.first (suc loop.last) (taken_out c)))
    ≡ Some c
inner_found stands n loop loops b c ks order firsts same h go = by ks same h
  where
    turns : length (rounds n (text stands n loops loop.first (suc loop.last))) ≡ n * size (one_each stands) 1 n loops loop.first (suc loop.last)
    turns = rounds_length n (text stands n loops loop.first (suc loop.last))
        ∙ ap (λ (k : ℕ). n * k) (text_length stands n loops loop.first (suc loop.last) firsts.1)

    once_is : length (once_more n loop) ≡ once (one_each stands) loop
    once_is = once_length stands n loop firsts.0

    by_number : (k : ℕ) (ks : List ℕ) → numbers_of c ≡ k ∷ ks → IsCopy n loops loop.first (suc loop.last) (taken_out c)
        → (k < n) ⊎ ((loop.entry_turn ≡ false) × (c ≡ copy loop.first (n ∷ [])))
        → slice_get (rounds n (text stands n loops loop.first (suc loop.last)) ++ (once_more n loop ++ (beyond loop [] ∷ text stands n loops (suc loop.last) b)))
        (k * size (one_each stands) 1 n loops loop.first (suc loop.last) + place (one_each stands) 1 n loops loop.first (suc loop.last) (taken_out c))
        ≡ Some c
    by_number k ks same is (inl lt) =
        subst (λ (m : ℕ). slice_get (rounds n (text stands n loops loop.first (suc loop.last))
        ++ (once_more n loop ++ (beyond loop [] ∷ text stands n loops (suc loop.last) b)))
        (k * m + place (one_each stands) 1 n loops loop.first (suc loop.last) (taken_out c)) ≡ Some c)
        (text_length stands n loops loop.first (suc loop.last) firsts.1)
        (subst (λ (x : Copy). slice_get (rounds n (text stands n loops loop.first (suc loop.last))
        ++ (once_more n loop ++ (beyond loop [] ∷ text stands n loops (suc loop.last) b)))
        (k * length (text stands n loops loop.first (suc loop.last)) + place (one_each stands) 1 n loops loop.first (suc loop.last) (taken_out c)) ≡ Some x)
        (back_again c k ks same)
        (in_front (rounds n (text stands n loops loop.first (suc loop.last)))
        (once_more n loop ++ (beyond loop [] ∷ text stands n loops (suc loop.last) b))
        (k * length (text stands n loops loop.first (suc loop.last)) + place (one_each stands) 1 n loops loop.first (suc loop.last) (taken_out c))
        (within k (taken_out c))
        (rounds_found (text stands n loops loop.first (suc loop.last)) k (place (one_each stands) 1 n loops loop.first (suc loop.last) (taken_out c))
        (taken_out c) n (go is) lt)))
    by_number k ks same is (inr g) =
        further_on (rounds n (text stands n loops loop.first (suc loop.last))) (once_more n loop ++ (beyond loop [] ∷ text stands n loops (suc loop.last) b)) 0
        (k * size (one_each stands) 1 n loops loop.first (suc loop.last) + place (one_each stands) 1 n loops loop.first (suc loop.last) (taken_out c)) (Some c)
        (omega (arith, turns, none, times))
        (ap (λ (t : Bool). slice_get (cond t [] (copy loop.first (n ∷ []) ∷ []) ++ (beyond loop [] ∷ text stands n loops (suc loop.last) b)) 0) g.0
        ∙ ap (λ (x : Copy). Some x) (sym g.1))
      where
        none : place (one_each stands) 1 n loops loop.first (suc loop.last) (taken_out c) ≡ 0
        none = ap (λ (x : Copy). place (one_each stands) 1 n loops loop.first (suc loop.last) (taken_out x)) g.1
            ∙ first_place (one_each stands) 1 n loops loop.first (suc loop.last) (later_begin loop loops order.0 g.0 order.1)

        times : k * size (one_each stands) 1 n loops loop.first (suc loop.last) ≡ n * size (one_each stands) 1 n loops loop.first (suc loop.last)
        times = ap (λ (m : ℕ). m * size (one_each stands) 1 n loops loop.first (suc loop.last))
            (ap front (sym same) ∙ ap (λ (x : Copy). front (numbers_of x)) g.1)

    by : (ks : List ℕ) → numbers_of c ≡ ks → IsInner n loop c ks (IsCopy n loops loop.first (suc loop.last) (taken_out c))
        → slice_get (rounds n (text stands n loops loop.first (suc loop.last)) ++ (once_more n loop ++ (beyond loop [] ∷ text stands n loops (suc loop.last) b)))
        (place_in n (size (one_each stands) 1 n loops loop.first (suc loop.last)) (once (one_each stands) loop) ks
        (place (one_each stands) 1 n loops loop.first (suc loop.last) (taken_out c))) ≡ Some c
    by [] same h =
        further_on (rounds n (text stands n loops loop.first (suc loop.last))) (once_more n loop ++ (beyond loop [] ∷ text stands n loops (suc loop.last) b))
        (once (one_each stands) loop) (n * size (one_each stands) 1 n loops loop.first (suc loop.last) + once (one_each stands) loop) (Some c)
        (omega (arith, turns))
        (further_on (once_more n loop) (beyond loop [] ∷ text stands n loops (suc loop.last) b) 0 (once (one_each stands) loop) (Some c) (omega (arith, once_is))
        (ap (λ (x : Copy). Some x) (sym h)))
    by (k ∷ ks) same h = by_number k ks same h.0 h.1

pub found : (stands : ℕ → Bool) (n : ℕ) (loops : List Loop) (c : Copy) → AreInOrder loops → FirstsStand stands loops → Stands stands c
    → (a b : ℕ) → IsCopy n loops a b c → Found stands n loops a b c
found stands n [] c order firsts it a b h =
    subst (λ (x : Copy). slice_get (plain stands a b) (total (one_each stands) a (location_of c)) ≡ Some x) (sym h.2)
    (plain_found stands a (location_of c) b h.0 h.1 (of_copy c h.2 it))
  where
    of_copy : (c : Copy) → c ≡ copy (location_of c) [] → Stands stands c → stands (location_of c) ≡ true
    of_copy (copy l ks) e it = it
    of_copy (beyond loop ks) e it = absurd (subst IsCopyNot e tt)
      where
        IsCopyNot : Copy → Type 0
        IsCopyNot (copy l ks) = ⊥
        IsCopyNot (beyond loop ks) = Unit {0}
found stands n (loop ∷ loops) c order firsts it a b h =
    by (fits loop a b) refl (side loop (location_of c)) (found stands n loops c order.2 firsts.1 it)
    (found stands n loops (taken_out c) order.2 firsts.1 (stands_out stands c it))
  where
    shown : fits loop a b ≡ true → text stands n (loop ∷ loops) a b ≡ text stands n loops a loop.first
        ++ (rounds n (text stands n loops loop.first (suc loop.last)) ++ (once_more n loop ++ (beyond loop [] ∷ text stands n loops (suc loop.last) b)))
    shown f = ap (λ (t : Bool). cond t (text stands n loops a loop.first
        ++ (rounds n (text stands n loops loop.first (suc loop.last)) ++ (once_more n loop ++ (beyond loop [] ∷ text stands n loops (suc loop.last) b))))
        (text stands n loops a b)) f

    hidden : fits loop a b ≡ false → text stands n (loop ∷ loops) a b ≡ text stands n loops a b
    hidden f = ap (λ (t : Bool). cond t (text stands n loops a loop.first
        ++ (rounds n (text stands n loops loop.first (suc loop.last)) ++ (once_more n loop ++ (beyond loop [] ∷ text stands n loops (suc loop.last) b))))
        (text stands n loops a b)) f

    first_length : length (text stands n loops a loop.first) ≡ size (one_each stands) 1 n loops a loop.first
    first_length = text_length stands n loops a loop.first firsts.1

    turns : length (rounds n (text stands n loops loop.first (suc loop.last))) ≡ n * size (one_each stands) 1 n loops loop.first (suc loop.last)
    turns = rounds_length n (text stands n loops loop.first (suc loop.last))
        ∙ ap (λ (k : ℕ). n * k) (text_length stands n loops loop.first (suc loop.last) firsts.1)

    once_is : length (once_more n loop) ≡ once (one_each stands) loop
    once_is = once_length stands n loop firsts.0

    there : (xs : List Copy) (i : ℕ) → text stands n (loop ∷ loops) a b ≡ xs → place (one_each stands) 1 n (loop ∷ loops) a b c ≡ i
        → slice_get xs i ≡ Some c → Found stands n (loop ∷ loops) a b c
    there xs i e f g = ap (λ (ys : List Copy). slice_get ys (place (one_each stands) 1 n (loop ∷ loops) a b c)) e ∙ ap (λ (m : ℕ). slice_get xs m) f ∙ g

    by : (t : Bool) → fits loop a b ≡ t → Side loop (location_of c) → ((x y : ℕ) → IsCopy n loops x y c → Found stands n loops x y c)
        → ((x y : ℕ) → IsCopy n loops x y (taken_out c) → Found stands n loops x y (taken_out c)) → Found stands n (loop ∷ loops) a b c
    by false f s go in_ = there (text stands n loops a b) (place (one_each stands) 1 n loops a b c) (hidden f)
        (place_apart (one_each stands) 1 n loop loops a b c f) (go a b (apart_copy n loop loops a b c f h))
    by true f (before lt) go in_ =
        there (text stands n loops a loop.first
        ++ (rounds n (text stands n loops loop.first (suc loop.last)) ++ (once_more n loop ++ (beyond loop [] ∷ text stands n loops (suc loop.last) b))))
        (place (one_each stands) 1 n loops a loop.first c) (shown f) (place_before (one_each stands) 1 n loop loops a b c f lt)
        (in_front (text stands n loops a loop.first)
        (rounds n (text stands n loops loop.first (suc loop.last)) ++ (once_more n loop ++ (beyond loop [] ∷ text stands n loops (suc loop.last) b)))
        (place (one_each stands) 1 n loops a loop.first c) c (go a loop.first (before_copy n loop loops a b c f lt h)))
    by true f (here low high) go in_ =
        there (text stands n loops a loop.first
        ++ (rounds n (text stands n loops loop.first (suc loop.last)) ++ (once_more n loop ++ (beyond loop [] ∷ text stands n loops (suc loop.last) b))))
        (size (one_each stands) 1 n loops a loop.first + place_in n (size (one_each stands) 1 n loops loop.first (suc loop.last)) (once (one_each stands) loop)
        (numbers_of c) (place (one_each stands) 1 n loops loop.first (suc loop.last) (taken_out c)))
        (shown f) (place_here (one_each stands) 1 n loop loops a b c f low high)
        (further_on (text stands n loops a loop.first)
        (rounds n (text stands n loops loop.first (suc loop.last)) ++ (once_more n loop ++ (beyond loop [] ∷ text stands n loops (suc loop.last) b)))
        (place_in n (size (one_each stands) 1 n loops loop.first (suc loop.last)) (once (one_each stands) loop)
        (numbers_of c) (place (one_each stands) 1 n loops loop.first (suc loop.last) (taken_out c)))
        (size (one_each stands) 1 n loops a loop.first + place_in n (size (one_each stands) 1 n loops loop.first (suc loop.last)) (once (one_each stands) loop)
        (numbers_of c) (place (one_each stands) 1 n loops loop.first (suc loop.last) (taken_out c)))
        (Some c) (omega (arith, first_length))
        (inner_found stands n loop loops b c (numbers_of c) order firsts refl (here_copy n loop loops a b c f low high h) (in_ loop.first (suc loop.last))))
    by true f (behind low lt) go in_ =
        there (text stands n loops a loop.first
        ++ (rounds n (text stands n loops loop.first (suc loop.last)) ++ (once_more n loop ++ (beyond loop [] ∷ text stands n loops (suc loop.last) b))))
        (size (one_each stands) 1 n loops a loop.first + n * size (one_each stands) 1 n loops loop.first (suc loop.last) + once (one_each stands) loop + 1
        + place (one_each stands) 1 n loops (suc loop.last) b c)
        (shown f) (place_behind (one_each stands) 1 n loop loops a b c f low lt)
        (further_on (text stands n loops a loop.first)
        (rounds n (text stands n loops loop.first (suc loop.last)) ++ (once_more n loop ++ (beyond loop [] ∷ text stands n loops (suc loop.last) b)))
        (n * size (one_each stands) 1 n loops loop.first (suc loop.last) + (once (one_each stands) loop
        + suc (place (one_each stands) 1 n loops (suc loop.last) b c)))
        (size (one_each stands) 1 n loops a loop.first + n * size (one_each stands) 1 n loops loop.first (suc loop.last) + once (one_each stands) loop + 1
        + place (one_each stands) 1 n loops (suc loop.last) b c) (Some c) (omega (arith, first_length))
        (further_on (rounds n (text stands n loops loop.first (suc loop.last))) (once_more n loop ++ (beyond loop [] ∷ text stands n loops (suc loop.last) b))
        (once (one_each stands) loop + suc (place (one_each stands) 1 n loops (suc loop.last) b c))
        (n * size (one_each stands) 1 n loops loop.first (suc loop.last) + (once (one_each stands) loop
        + suc (place (one_each stands) 1 n loops (suc loop.last) b c))) (Some c) (omega (arith, turns))
        (further_on (once_more n loop) (beyond loop [] ∷ text stands n loops (suc loop.last) b) (suc (place (one_each stands) 1 n loops (suc loop.last) b c))
        (once (one_each stands) loop + suc (place (one_each stands) 1 n loops (suc loop.last) b c)) (Some c) (omega (arith, once_is))
        (go (suc loop.last) b (behind_copy n loop loops a b c f low lt h)))))
