-- The pass over the loops finds from where edges may lead to each location, and so it tells whether loops are as they should be.
use Rattle.std.proofs.Common.{◌≡◌, ℕ, zero, suc, ◌+◌, ◌<◌, ◌≤◌, ◌⊎◌, inl, inr, List, [], ◌∷◌, ◌++◌, map, take, length, slice_get, Bool, true, false, not, ◌&&◌, ◌||◌, ◌==◌, nat_lt, nat_le, if◌then◌else◌, Option, Some, IfSome, Result, Ok, Err, IfOk, get_or, refl, sym, subst, ap, ◌∙◌, arith}
use Rattle.std.specs.Prelude.{option_map}
use Rattle.std.specs.declared.alloc.AllocError.{AllocError}
use Rattle.std.specs.List.{AllByRecursion, list_all}
use Rattle.std.proofs.lemmas.Bool.{cases_lt, cases_Bool, both_ways, ltb-true, leb-true, leb-false, lt-ltb, le-leb, lt-leb, eqb-true, eq-eqb, ne_eqb, and_parts, and_from, and_cases, and_left, and_right, or_cases, or_left, or_right, not_from_false, not_from_true, true≢false}
use Rattle.std.proofs.lemmas.List.{map-append, take_more}
use Rattle.std.proofs.lemmas.List.Folds.{list_all-append}
use Rattle.std.proofs.lemmas.Option.{slice_get-map, slice_get_read}
use Rattle.pv_flow.specs.declared.windows.Range.{Range}
use Rattle.pv_flow.specs.declared.parts.Loop.{Loop as CodeLoop}
use Rattle.pv_flow.specs.Automata.{Loop, holds, holds_loop}
use Rattle.pv_flow.specs.Faults.{cross, enters_well}
use Rattle.pv_flow.specs.View.{loop_of}
use Rattle.pv_flow.specs.Windows.{lets, range_of, window_at, top_of, closed, top_at, AreFilled, IsBefore, AreNested, hold_all, enter_all, AreSwept, goes_on, Opens, Enters, Sweeps, HaveWindows}
use Rattle.pv_flow.proofs.ClosedWalks.{all_listed, mapped}

-- ---- the stack

still_ended : (a n t : ℕ) → nat_lt a n ≡ true → n ≤ t → nat_lt a t ≡ true
still_ended a n t on le = let lt = ltb-true a n on in lt-ltb a t (omega (arith, lt, le))

closed_kept : (n t : ℕ) (stack : List Range) → n ≤ t → top_at t (closed n stack) ≡ top_at t stack
closed_kept n t [] le = refl
closed_kept n t (r ∷ stack) le = by (closed_kept n t stack le) (nat_lt r.last n) refl
  where
    by : top_at t (closed n stack) ≡ top_at t stack → (b : Bool) → nat_lt r.last n ≡ b → top_at t (closed n (r ∷ stack)) ≡ top_at t (r ∷ stack)
    by rest true on =
        ap (λ (b : Bool). top_at t (if b then closed n stack else r ∷ stack)) on ∙ rest
        ∙ sym (ap (λ (b : Bool). if b then top_at t stack else Some r) (still_ended r.last n t on le))
    by rest false off = ap (λ (b : Bool). top_at t (if b then closed n stack else r ∷ stack)) off

closed_top : (n : ℕ) (stack : List Range) → top_of (closed n stack) ≡ top_at n stack
closed_top n [] = refl
closed_top n (r ∷ stack) = by (closed_top n stack) (nat_lt r.last n) refl
  where
    by : top_of (closed n stack) ≡ top_at n stack → (b : Bool) → nat_lt r.last n ≡ b → top_of (closed n (r ∷ stack)) ≡ top_at n (r ∷ stack)
    by rest true on =
        ap (λ (b : Bool). top_of (if b then closed n stack else r ∷ stack)) on ∙ rest
        ∙ sym (ap (λ (b : Bool). if b then top_at n stack else Some r) on)
    by rest false off =
        ap (λ (b : Bool). top_of (if b then closed n stack else r ∷ stack)) off
        ∙ sym (ap (λ (b : Bool). if b then top_at n stack else Some r) off)

-- ---- windows

length_more : (ws : List (Option Range)) (w : Option Range) → length (ws ++ w ∷ []) ≡ suc (length ws)
length_more [] w = refl
length_more (v ∷ ws) w = ap suc (length_more ws w)

window_front : (ws : List (Option Range)) (w : Option Range) (t : ℕ) → t < length ws → window_at (ws ++ w ∷ []) t ≡ window_at ws t
window_front [] w t lt = absurd (omega (arith, lt))
window_front (v ∷ ws) w zero lt = refl
window_front (v ∷ ws) w (suc t) lt = window_front ws w t (omega (arith, lt))

window_last : (ws : List (Option Range)) (w : Option Range) → window_at (ws ++ w ∷ []) (length ws) ≡ w
window_last [] w = refl
window_last (v ∷ ws) w = window_last ws w

pub none_filled : (before : List Range) (old : List (Option Range)) (n : ℕ) → AreFilled before old n before old
none_filled before old n = record {
  least = omega arith;
  most = λ le. le;
  earlier = λ t lt. refl;
  later = λ t le lt. absurd (omega (arith, le, lt));
  tops = λ t le. refl;
}

pub one_filled : (before : List Range) (old : List (Option Range)) (n : ℕ) (stack now : List Range) (ws more : List (Option Range))
    → AreFilled before old n stack ws → length ws < n → now ≡ closed (length ws) stack → more ≡ ws ++ top_of (closed (length ws) stack) ∷ []
    → AreFilled before old n now more
one_filled before old n stack now ws more h lt s w = record {
  least = let least = h.least in omega (arith, least, long);
  most = λ le. omega (arith, lt, long);
  earlier = λ t small. let least = h.least in
      ap (λ (l : List (Option Range)). window_at l t) w ∙ window_front ws (top_of (closed (length ws) stack)) t (omega (arith, small, least)) ∙ h.earlier t small;
  later = λ t le small. later t le small (cases_lt t (length ws));
  tops = λ t le. tops t (omega (arith, le, long));
}
  where
    long : length more ≡ suc (length ws)
    long = ap length w ∙ length_more ws (top_of (closed (length ws) stack))

    tops : (t : ℕ) → length ws ≤ t → top_at t now ≡ top_at t before
    tops t le = ap (top_at t) s ∙ closed_kept (length ws) t stack le ∙ h.tops t (omega (arith, le))

    later : (t : ℕ) → length old ≤ t → t < length more → (t < length ws) ⊎ (length ws ≤ t) → window_at more t ≡ top_at t before
    later t le small (inl inside) =
        ap (λ (l : List (Option Range)). window_at l t) w ∙ window_front ws (top_of (closed (length ws) stack)) t inside ∙ h.later t le inside
    later t le small (inr past) =
        let same : t ≡ length ws = omega (arith, small, past, long) in
        ap (window_at more) same ∙ ap (λ (l : List (Option Range)). window_at l (length ws)) w
        ∙ window_last ws (top_of (closed (length ws) stack)) ∙ closed_top (length ws) stack ∙ h.tops (length ws) (omega arith)
        ∙ ap (λ (x : ℕ). top_at x before) (sym same)

-- ---- lists

all_of : {X : Type 0} (f : X → Bool) (xs : List X) → AllByRecursion (λ x. f x ≡ true) xs → list_all f xs ≡ true
all_of f [] h = refl
all_of f (x ∷ xs) h = and_from (f x) (list_all f xs) h.0 (all_of f xs h.1)

pub all_alike : {X : Type 0} (f g : X → Bool) (xs : List X) → AllByRecursion (λ x. f x ≡ g x) xs → list_all f xs ≡ list_all g xs
all_alike f g [] h = refl
all_alike f g (x ∷ xs) h = ap (λ (b : Bool). b && list_all f xs) h.0 ∙ ap (λ (b : Bool). g x && b) (all_alike f g xs h.1)

all_more : {X : Type 0} (P : X → Type 0) (xs : List X) (x : X) → AllByRecursion P xs → P x → AllByRecursion P (xs ++ x ∷ [])
all_more P [] x h p = (p, tt)
all_more P (y ∷ xs) x h p = (h.0, all_more P xs x h.1 p)

all_last : {X : Type 0} (P : X → Type 0) (xs : List X) (x : X) → AllByRecursion P (xs ++ x ∷ []) → P x
all_last P [] x h = h.0
all_last P (y ∷ xs) x h = all_last P xs x h.1

and_true : (b : Bool) → (b && true) ≡ b
and_true true = refl
and_true false = refl

more_true : {X : Type 0} (f : X → Bool) (xs : List X) (x : X) → f x ≡ true → list_all f (xs ++ x ∷ []) ≡ list_all f xs
more_true f xs x e =
    list_all-append f xs (x ∷ []) ∙ ap (λ (b : Bool). list_all f xs && (b && true)) e ∙ and_true (list_all f xs)

more_false : {X : Type 0} (f : X → Bool) (xs : List X) (x : X) → f x ≡ false → list_all f (xs ++ x ∷ []) ≡ false
more_false f xs x e = list_all-append f xs (x ∷ []) ∙ ap (λ (b : Bool). list_all f xs && (b && true)) e ∙ and_right (list_all f xs) false refl

-- ---- one loop

abbrev around : ℕ → ℕ → Loop → Bool
around t from loop = not (holds loop t) || holds loop from

turned : (x y z : Bool) → z ≡ false → (not y || x) ≡ (x || not y || z)
turned true true z e = refl
turned true false z e = refl
turned false true z e = sym e
turned false false z e = refl

-- at a location past its first both say the same
past_first : (loop : Loop) (t from : ℕ) → loop.first < t → around t from loop ≡ enters_well loop from t
past_first loop t from lt = turned (holds loop from) (holds loop t) (t == loop.first) (ne_eqb t loop.first (λ e. absurd (omega (arith, lt, e))))

entering : (x y z : Bool) → (y ≡ true → z ≡ true) → (x || not y || z) ≡ true
entering true y z h = refl
entering false false z h = refl
entering false true z h = h refl

up_to_first : (loop : Loop) (t from : ℕ) → t ≤ loop.first → enters_well loop from t ≡ true
up_to_first loop t from le = entering (holds loop from) (holds loop t) (t == loop.first)
    (λ on. let low = leb-true loop.first t (and_parts (nat_le loop.first t) (nat_le t loop.last) on).0 in eq-eqb t loop.first (omega (arith, le, low)))

past_last : (loop : Loop) (t from : ℕ) → nat_lt loop.last t ≡ true → around t from loop ≡ true
past_last loop t from on = or_left (not (holds loop t)) (holds loop from)
    (not_from_false (holds loop t) (and_right (nat_le loop.first t) (nat_le t loop.last) (lt-leb t loop.last (ltb-true loop.last t on))))

-- a range that begins no later, and holds both ends of another if it holds the first, holds all of it or none
holds_whole : (loop other : Loop) (t from : ℕ) → other.first ≤ loop.first → around loop.first loop.last other ≡ true
    → loop.first ≤ t → t ≤ loop.last → loop.first ≤ from → from ≤ loop.last → around t from other ≡ true
holds_whole loop other t from low both after before after_too before_too = by (cases_lt other.last t)
  where
    by : (other.last < t) ⊎ (t ≤ other.last) → around t from other ≡ true
    by (inl lt) = past_last other t from (lt-ltb other.last t lt)
    by (inr le) = held (or_cases (not (holds other loop.first)) (holds other loop.last) both)
      where
        first_held : holds other loop.first ≡ true
        first_held = and_from (nat_le other.first loop.first) (nat_le loop.first other.last) (le-leb other.first loop.first low)
            (le-leb loop.first other.last (omega (arith, after, le)))

        held : (not (holds other loop.first) ≡ true) ⊎ (holds other loop.last ≡ true) → around t from other ≡ true
        held (inl off) = absurd (true≢false (sym off ∙ not_from_true (holds other loop.first) first_held))
        held (inr on) =
            let top = leb-true loop.last other.last (and_parts (nat_le other.first loop.last) (nat_le loop.last other.last) on).1 in
            or_right (not (holds other t)) (holds other from)
            (and_from (nat_le other.first from) (nat_le from other.last) (le-leb other.first from (omega (arith, low, after_too)))
            (le-leb from other.last (omega (arith, top, before_too))))

-- ---- the loops gone through

past_firsts : (loops : List Loop) (t from : ℕ) → AllByRecursion (λ (loop : Loop). loop.first < t) loops → hold_all loops t from ≡ enter_all loops t from
past_firsts loops t from h = all_alike (around t from) (λ (loop : Loop). enters_well loop from t) loops
    (mapped (λ (loop : Loop). loop.first < t) (λ (loop : Loop). around t from loop ≡ enters_well loop from t) loops (λ loop lt. past_first loop t from lt) h)

pub none_swept : (stack : List Range) (ws : List (Option Range)) → stack ≡ [] → ws ≡ [] → AreSwept [] stack ws
none_swept stack ws s w = record {
  ranges = tt;
  firsts = tt;
  reach = λ m all. let short : length ws ≡ 0 = ap length w in omega (arith, short);
  windows = λ t from lt. let short : length ws ≡ 0 = ap length w in absurd (omega (arith, short, lt));
  tops = λ t from le. ap (λ (l : List Range). lets (top_at t l) from) s;
}

-- one loop more
entered : (loops : List Loop) (loop : Loop) (before stack now : List Range) (old ws : List (Option Range)) → AreSwept loops before old
    → goes_on loop (length old) ≡ true → AreFilled before old (loop.first + 1) stack ws → loop.first + 1 ≤ length ws
    → Opens true loop stack now → AreSwept (loops ++ loop ∷ []) now ws
entered loops loop before stack now old ws h goes filled enough opens = record {
  ranges = all_more (λ (l : Loop). l.first ≤ l.last) loops loop h.ranges range;
  firsts = all_more (λ (l : Loop). l.first < length ws) loops loop firsts (omega (arith, long));
  reach = λ m all. let last = all_last (λ (l : Loop). l.first ≤ m) loops loop all in omega (arith, long, last);
  windows = λ t from lt. window t from lt (cases_lt t (length old))
      ∙ sym (more_true (λ (l : Loop). enters_well l from t) loops loop (up_to_first loop t from (omega (arith, lt, long))));
  tops = λ t from le. ap (λ (l : List Range). lets (top_at t l) from) opens.1 ∙ top t from (omega (arith, le, long)) (nat_lt loop.last t) refl;
}
  where
    parts : (nat_le loop.first loop.last ≡ true) × (nat_le (length old) (loop.first + 1) ≡ true)
    parts = and_parts (nat_le loop.first loop.last) (nat_le (length old) (loop.first + 1)) goes

    range : loop.first ≤ loop.last
    range = leb-true loop.first loop.last parts.0

    low : length old ≤ loop.first + 1
    low = leb-true (length old) (loop.first + 1) parts.1

    long : length ws ≡ suc loop.first
    long = let most = filled.most low in omega (arith, most, enough)

    firsts : AllByRecursion (λ (l : Loop). l.first < length ws) loops
    firsts = let least = filled.least in
        mapped (λ (l : Loop). l.first < length old) (λ (l : Loop). l.first < length ws) loops (λ l lt. omega (arith, lt, least)) h.firsts

    window : (t from : ℕ) → t < length ws → (t < length old) ⊎ (length old ≤ t) → lets (window_at ws t) from ≡ enter_all loops t from
    window t from lt (inl inside) = ap (λ (w : Option Range). lets w from) (filled.earlier t inside) ∙ h.windows t from inside
    window t from lt (inr past) =
        ap (λ (w : Option Range). lets w from) (filled.later t past lt) ∙ h.tops t from (omega (arith, past))
        ∙ past_firsts loops t from
        (mapped (λ (l : Loop). l.first < length old) (λ (l : Loop). l.first < t) loops (λ l small. omega (arith, small, past)) h.firsts)

    -- what was open answers from here on as before
    top_then : (t from : ℕ) → loop.first ≤ t → lets (top_at t (closed loop.first stack)) from ≡ hold_all loops t from
    top_then t from le =
        ap (λ (w : Option Range). lets w from) (closed_kept loop.first t stack le ∙ filled.tops t (omega (arith, le, long)))
        ∙ h.tops t from (omega (arith, le, low))

    ends_within : hold_all loops loop.first loop.last ≡ true
    ends_within =
        sym (h.tops loop.first loop.last (omega (arith, low)))
        ∙ ap (λ (w : Option Range). lets w loop.last) (sym (closed_top loop.first stack ∙ filled.tops loop.first (omega (arith, long)))) ∙ opens.0

    whole : (t from : ℕ) → loop.first ≤ t → t ≤ loop.last → holds loop from ≡ true → hold_all loops t from ≡ true
    whole t from after past on = all_of (around t from) loops
        (each loops h.firsts (all_listed (around loop.first loop.last) loops ends_within))
      where
        inside : (nat_le loop.first from ≡ true) × (nat_le from loop.last ≡ true)
        inside = and_parts (nat_le loop.first from) (nat_le from loop.last) on

        each : (ls : List Loop) → AllByRecursion (λ (l : Loop). l.first < length old) ls
            → AllByRecursion (λ (l : Loop). around loop.first loop.last l ≡ true) ls → AllByRecursion (λ (l : Loop). around t from l ≡ true) ls
        each [] f g = tt
        each (l ∷ ls) f g = (
          let lt = f.0 in
              holds_whole loop l t from (omega (arith, lt, low)) g.0 after past (leb-true loop.first from inside.0) (leb-true from loop.last inside.1),
          each ls f.1 g.1,
        )

    top : (t from : ℕ) → loop.first ≤ t → (b : Bool) → nat_lt loop.last t ≡ b
        → lets (if nat_lt loop.last t then top_at t (closed loop.first stack) else Some (range_of loop)) from ≡ hold_all (loops ++ loop ∷ []) t from
    top t from le true on =
        ap (λ (b : Bool). lets (if b then top_at t (closed loop.first stack) else Some (range_of loop)) from) on ∙ top_then t from le
        ∙ sym (more_true (around t from) loops loop (past_last loop t from on))
    top t from le false off =
        ap (λ (b : Bool). lets (if b then top_at t (closed loop.first stack) else Some (range_of loop)) from) off
        ∙ held (cases_Bool (holds loop from))
      where
        up : t ≤ loop.last
        up = ends (cases_lt loop.last t)
          where
            ends : (loop.last < t) ⊎ (t ≤ loop.last) → t ≤ loop.last
            ends (inl lt) = absurd (both_ways (nat_lt loop.last t) off (lt-ltb loop.last t lt))
            ends (inr here) = here

        here : holds loop t ≡ true
        here = and_from (nat_le loop.first t) (nat_le t loop.last) (le-leb loop.first t le) (le-leb t loop.last up)

        held : (holds loop from ≡ true) ⊎ (holds loop from ≡ false) → holds loop from ≡ hold_all (loops ++ loop ∷ []) t from
        held (inl on) =
            on ∙ sym (more_true (around t from) loops loop (or_right (not (holds loop t)) (holds loop from) on) ∙ whole t from le up on)
        held (inr out) =
            out ∙ sym (more_false (around t from) loops loop
            (ap (λ (b : Bool). not b || holds loop from) here ∙ out))

-- ---- loops that may not stand so

begins_before : (one loop : Loop) → IsBefore one loop → one.first ≤ loop.first
begins_before one loop h = by (or_cases (nat_lt one.first loop.first) ((one.first == loop.first) && not (nat_lt one.last loop.last)) h.order)
  where
    by : (nat_lt one.first loop.first ≡ true) ⊎ (((one.first == loop.first) && not (nat_lt one.last loop.last)) ≡ true) → one.first ≤ loop.first
    by (inl on) = let lt = ltb-true one.first loop.first on in omega (arith, lt)
    by (inr both) =
        let same = eqb-true one.first loop.first (and_parts (one.first == loop.first) (not (nat_lt one.last loop.last)) both).0 in omega (arith, same)

-- one that stands before and holds where another begins holds where it ends
before_holds : (one loop : Loop) → loop.first ≤ loop.last → IsBefore one loop → around loop.first loop.last one ≡ true
before_holds one loop range h = by (cases_lt one.last loop.first)
  where
    low : one.first ≤ loop.first
    low = begins_before one loop h

    by : (one.last < loop.first) ⊎ (loop.first ≤ one.last) → around loop.first loop.last one ≡ true
    by (inl lt) = past_last one loop.first loop.last (lt-ltb one.last loop.first lt)
    by (inr le) = ends (cases_lt one.last loop.last)
      where
        beside : one.last < loop.last → one.first < loop.first → ⊥
        beside lt earlier = both_ways (cross one loop) h.nests
            (and_from (nat_le one.first loop.last && nat_le loop.first one.last && not (holds_loop one loop)) (not (holds_loop loop one))
            (and_from (nat_le one.first loop.last && nat_le loop.first one.last) (not (holds_loop one loop))
            (and_from (nat_le one.first loop.last) (nat_le loop.first one.last) (le-leb one.first loop.last (omega (arith, low, range)))
            (le-leb loop.first one.last le))
            (not_from_false (holds_loop one loop) (and_right (nat_le one.first loop.first) (nat_le loop.last one.last) (lt-leb loop.last one.last lt))))
            (not_from_false (holds_loop loop one) (and_left (nat_le loop.first one.first) (nat_le one.last loop.last) (lt-leb loop.first one.first earlier))))

        order : one.last < loop.last
            → (nat_lt one.first loop.first ≡ true) ⊎ (((one.first == loop.first) && not (nat_lt one.last loop.last)) ≡ true) → ⊥
        order lt (inl on) = beside lt (ltb-true one.first loop.first on)
        order lt (inr both) =
            true≢false (sym (and_parts (one.first == loop.first) (not (nat_lt one.last loop.last)) both).1
            ∙ not_from_true (nat_lt one.last loop.last) (lt-ltb one.last loop.last lt))

        ends : (one.last < loop.last) ⊎ (loop.last ≤ one.last) → around loop.first loop.last one ≡ true
        ends (inl lt) = absurd (order lt (or_cases (nat_lt one.first loop.first) ((one.first == loop.first) && not (nat_lt one.last loop.last)) h.order))
        ends (inr past) = or_right (not (holds one loop.first)) (holds one loop.last)
            (and_from (nat_le one.first loop.last) (nat_le loop.last one.last) (le-leb one.first loop.last (omega (arith, low, range)))
            (le-leb loop.last one.last past))

pub refused : (loops : List Loop) (loop : Loop) (stack : List Range) (ws : List (Option Range)) → AreSwept loops stack ws
    → goes_on loop (length ws) ≡ false → loop.first ≤ loop.last → AllByRecursion (λ (one : Loop). IsBefore one loop) loops → ⊥
refused loops loop stack ws h off range before =
    by (and_cases (nat_le loop.first loop.last) (nat_le (length ws) (loop.first + 1)) off)
  where
    by : (nat_le loop.first loop.last ≡ false) ⊎ (nat_le (length ws) (loop.first + 1) ≡ false) → ⊥
    by (inl empty) = let lt = leb-false loop.first loop.last empty in absurd (omega (arith, lt, range))
    by (inr late) =
        let lt = leb-false (length ws) (loop.first + 1) late in
        let short = h.reach loop.first
        (mapped (λ (one : Loop). IsBefore one loop) (λ (one : Loop). one.first ≤ loop.first) loops (λ one is. begins_before one loop is) before) in
        absurd (omega (arith, lt, short))

unfit : (loops : List Loop) (loop : Loop) (before stack now : List Range) (old ws : List (Option Range)) → AreSwept loops before old
    → goes_on loop (length old) ≡ true → AreFilled before old (loop.first + 1) stack ws → loop.first + 1 ≤ length ws
    → Opens false loop stack now → loop.first ≤ loop.last → AllByRecursion (λ (one : Loop). IsBefore one loop) loops → ⊥
unfit loops loop before stack now old ws h goes filled enough opens range all = both_ways (hold_all loops loop.first loop.last) off on
  where
    low : length old ≤ loop.first + 1
    low = leb-true (length old) (loop.first + 1) (and_parts (nat_le loop.first loop.last) (nat_le (length old) (loop.first + 1)) goes).1

    off : hold_all loops loop.first loop.last ≡ false
    off = let most = filled.most low in
        sym (h.tops loop.first loop.last (omega (arith, low)))
        ∙ ap (λ (w : Option Range). lets w loop.last) (sym (closed_top loop.first stack ∙ filled.tops loop.first (omega (arith, most)))) ∙ opens

    on : hold_all loops loop.first loop.last ≡ true
    on = all_of (around loop.first loop.last) loops
        (mapped (λ (one : Loop). IsBefore one loop) (λ (one : Loop). around loop.first loop.last one ≡ true) loops (λ one is. before_holds one loop range is) all)

pub enters_one : (b : Bool) (loops : List Loop) (loop : Loop) (before stack now : List Range) (old ws : List (Option Range))
    → AreSwept loops before old → goes_on loop (length old) ≡ true → AreFilled before old (loop.first + 1) stack ws
    → loop.first + 1 ≤ length ws → Opens b loop stack now → Enters b loops loop now ws
enters_one true loops loop before stack now old ws h goes filled enough opens = entered loops loop before stack now old ws h goes filled enough opens
enters_one false loops loop before stack now old ws h goes filled enough opens = unfit loops loop before stack now old ws h goes filled enough opens

-- ---- all loops

all_before : {X : Type 0} (P : X → Type 0) (xs : List X) (i : ℕ) → ((k : ℕ) → k < i → IfSome (slice_get xs k) P) → AllByRecursion P (take i xs)
all_before P [] zero h = tt
all_before P [] (suc i) h = tt
all_before P (x ∷ xs) zero h = tt
all_before P (x ∷ xs) (suc i) h = (h 0 (omega arith), all_before P xs i (λ k lt. h (suc k) (omega (arith, lt))))

pub stopped : (loops : List Loop) (i : ℕ) (loop : Loop) (stack : List Range) (ws : List (Option Range)) → slice_get loops i ≡ Some loop
    → Enters false (take i loops) loop stack ws → AreNested loops → ⊥
stopped loops i loop stack ws is stops h =
    stops (subst (λ (o : Option Loop). IfSome o (λ l. l.first ≤ l.last)) is (h.ranges i))
    (all_before (λ (one : Loop). IsBefore one loop) loops i
    (λ k lt. subst (λ (o : Option Loop). IfSome (slice_get loops k) (λ one. IfSome o (λ other. IsBefore one other))) is (h.pairs k i lt)))

pub have_windows : (b : Bool) (loops : List Loop) (n : ℕ) (before stack : List Range) (old ws : List (Option Range)) → Sweeps b loops before old
    → AreFilled before old n stack ws → n ≤ length ws → HaveWindows b loops n ws
have_windows false loops n before stack old ws h filled enough = h
have_windows true loops n before stack old ws h filled enough = record {
  ranges = h.ranges;
  windows = λ t from lt. window t from lt (cases_lt t (length old));
}
  where
    window : (t from : ℕ) → t < n → (t < length old) ⊎ (length old ≤ t) → lets (window_at ws t) from ≡ enter_all loops t from
    window t from lt (inl inside) = ap (λ (w : Option Range). lets w from) (filled.earlier t inside) ∙ h.windows t from inside
    window t from lt (inr past) =
        ap (λ (w : Option Range). lets w from) (filled.later t past (omega (arith, lt, enough))) ∙ h.tops t from (omega (arith, past))
        ∙ past_firsts loops t from
        (mapped (λ (l : Loop). l.first < length old) (λ (l : Loop). l.first < t) loops (λ l small. omega (arith, small, past)) h.firsts)

-- ---- as the code goes through them

taken_none : {X : Type 0} (xs : List X) → take 0 xs ≡ []
taken_none [] = refl
taken_none (x ∷ xs) = refl

taken_all : {X : Type 0} (xs : List X) (i : ℕ) → length xs ≤ i → take i xs ≡ xs
taken_all [] zero le = refl
taken_all [] (suc i) le = refl
taken_all (x ∷ xs) zero le = absurd (omega (arith, le))
taken_all (x ∷ xs) (suc i) le = ap (λ (ys : List _). x ∷ ys) (taken_all xs i (omega (arith, le)))

taken_mapped : {X Y : Type 0} (f : X → Y) (xs : List X) (i : ℕ) → take i (map f xs) ≡ map f (take i xs)
taken_mapped f [] zero = refl
taken_mapped f [] (suc i) = refl
taken_mapped f (x ∷ xs) zero = refl
taken_mapped f (x ∷ xs) (suc i) = ap (λ (ys : List _). f x ∷ ys) (taken_mapped f xs i)

pub sweep_begins : (loops : List CodeLoop) (stack : List Range) (ws : List (Option Range)) → stack ≡ [] → ws ≡ []
    → AreSwept (map loop_of (take 0 loops)) stack ws
sweep_begins loops stack ws s w =
    subst (λ (ls : List CodeLoop). AreSwept (map loop_of ls) stack ws) (sym (taken_none loops)) (none_swept stack ws s w)

pub sweep_goes_on : (loops : List CodeLoop) (i : ℕ) (x : CodeLoop) (b : Bool) (stack : List Range) (ws : List (Option Range)) → i < length loops
    → x ≡ get_or loops i x → b ≡ true → Enters b (map loop_of (take i loops)) (loop_of x) stack ws → AreSwept (map loop_of (take (i + 1) loops)) stack ws
sweep_goes_on loops i x b stack ws lt is on h =
    subst (λ (ls : List Loop). AreSwept ls stack ws)
    (sym (ap (map loop_of) (take_more loops i x lt) ∙ map-append loop_of (take i loops) (get_or loops i x ∷ [])
    ∙ ap (λ (y : CodeLoop). map loop_of (take i loops) ++ loop_of y ∷ []) (sym is)))
    (subst (λ (t : Bool). Enters t (map loop_of (take i loops)) (loop_of x) stack ws) on h)

pub sweep_stops : (loops : List CodeLoop) (i : ℕ) (x : CodeLoop) (b : Bool) (stack : List Range) (ws : List (Option Range)) → i < length loops
    → x ≡ get_or loops i x → b ≡ false → Enters b (map loop_of (take i loops)) (loop_of x) stack ws → AreNested (map loop_of loops) → ⊥
sweep_stops loops i x b stack ws lt is off h =
    stopped (map loop_of loops) i (loop_of x) stack ws
    (slice_get-map loop_of loops i ∙ ap (option_map loop_of) (slice_get_read loops (length loops) i x refl lt is))
    (subst (λ (ls : List Loop). Enters false ls (loop_of x) stack ws) (sym (taken_mapped loop_of loops i))
    (subst (λ (t : Bool). Enters t (map loop_of (take i loops)) (loop_of x) stack ws) off h))

pub sweep_ends : (loops : List CodeLoop) (i : ℕ) (stack : List Range) (ws : List (Option Range)) → length loops ≤ i
    → AreSwept (map loop_of (take i loops)) stack ws → AreSwept (map loop_of loops) stack ws
sweep_ends loops i stack ws le h = subst (λ (ls : List CodeLoop). AreSwept (map loop_of ls) stack ws) (taken_all loops i le) h

pub enters_if : (r : Result Bool AllocError) (loops : List Loop) (loop : Loop) (before stack now : List Range) (old ws : List (Option Range))
    → AreSwept loops before old → goes_on loop (length old) ≡ true → AreFilled before old (loop.first + 1) stack ws
    → loop.first + 1 ≤ length ws → IfOk r (λ b. Opens b loop stack now) → IfOk r (λ b. Enters b loops loop now ws)
enters_if (Ok b) loops loop before stack now old ws h goes filled enough opens =
    enters_one b loops loop before stack now old ws h goes filled enough opens
enters_if (Err e) loops loop before stack now old ws h goes filled enough opens = tt
