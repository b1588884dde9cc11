-- Turn edges by their marks: an edge starts a turn of the loop that its way names, and of no other; so along an edge with its number a
-- run is led as along its way.
use Rattle.std.proofs.Common.{◌≡◌, ℕ, zero, suc, ◌+◌, ◌<◌, List, [], ◌∷◌, slice_get, Bool, true, false, ◌&&◌, ◌||◌, ◌==◌, nat_le, cond, Option, Some, None, refl, sym, subst, ap, ◌∙◌, arith}
use Rattle.std.specs.List.{list_any}
use Rattle.std.proofs.Math.Path.{fun_ext}
use Rattle.std.proofs.lemmas.Bool.{true≢false, ne_eqb, eq-eqb, eqb-true, or_left, or_from, and_left}
use Rattle.std.proofs.lemmas.Option.{same_Some, none-some}
use Rattle.pv_place.specs.declared.place.Place.{Place}
use Rattle.pv_flow.specs.Terms.{Valuation}
use Rattle.pv_flow.specs.Automata.{Loop, holds, is_turn}
use Rattle.pv_flow.specs.Runs.{gone_over, Counts, Spot, at, past, kept_in, moved, entered, turn_in, turned, over_of, past_or, led}
use Rattle.pv_flow.specs.Calls.{Stage, running, finished}
use Rattle.pv_layout.specs.Layout.{is_marked, turns_of, with_turns, turned_loops}
use Rattle.pv_layout.specs.SpotRuns.{one_more, turn_to, led_by}

-- ---- which edges are marked

later_none : (i e : ℕ) (marks : List (Option ℕ)) (n : ℕ) → n < e → list_any (λ m. m == n) (turns_of i e marks) ≡ false
later_none i e [] n lt = refl
later_none i e (mark ∷ marks) n lt = by (is_marked i mark) (later_none i (suc e) marks n (omega (arith, lt)))
  where
    by : (b : Bool) → list_any (λ m. m == n) (turns_of i (suc e) marks) ≡ false
        → list_any (λ m. m == n) (cond b (e ∷ turns_of i (suc e) marks) (turns_of i (suc e) marks)) ≡ false
    by true h = or_from (e == n) (list_any (λ m. m == n) (turns_of i (suc e) marks)) (ne_eqb e n (λ same. omega (arith, lt, same))) h
    by false h = h

-- the edges are numbered from e on
pub marked_turns : (i e : ℕ) (marks : List (Option ℕ)) (k : ℕ) (mark : Option ℕ) → slice_get marks k ≡ Some mark
    → list_any (λ m. m == (e + k)) (turns_of i e marks) ≡ is_marked i mark
marked_turns i e [] k mark stands = absurd (none-some mark stands)
marked_turns i e (first ∷ marks) zero mark stands =
    by (is_marked i first) (later_none i (suc e) marks (e + 0) (omega arith)) ∙ ap (is_marked i) (same_Some first mark stands)
  where
    by : (b : Bool) → list_any (λ m. m == (e + 0)) (turns_of i (suc e) marks) ≡ false
        → list_any (λ m. m == (e + 0)) (cond b (e ∷ turns_of i (suc e) marks) (turns_of i (suc e) marks)) ≡ b
    by true h = or_left (e == (e + 0)) (list_any (λ m. m == (e + 0)) (turns_of i (suc e) marks)) (eq-eqb e (e + 0) (omega arith))
    by false h = h
marked_turns i e (first ∷ marks) (suc k) mark stands = by (is_marked i first)
    (subst (λ (n : ℕ). list_any (λ m. m == n) (turns_of i (suc e) marks) ≡ is_marked i mark) (omega arith)
    (marked_turns i (suc e) marks k mark stands))
  where
    or_false : (b c : Bool) → b ≡ false → (b || c) ≡ c
    or_false false c e = refl
    or_false true true e = refl
    or_false true false e = e

    by : (b : Bool) → list_any (λ m. m == (e + suc k)) (turns_of i (suc e) marks) ≡ is_marked i mark
        → list_any (λ m. m == (e + suc k)) (cond b (e ∷ turns_of i (suc e) marks) (turns_of i (suc e) marks)) ≡ is_marked i mark
    by true h = or_false (e == (e + suc k)) (list_any (λ m. m == (e + suc k)) (turns_of i (suc e) marks))
        (ne_eqb e (e + suc k) (λ same. omega (arith, same))) ∙ h
    by false h = h

-- of the loop of this number
pub turn_is_marked : (loop : Loop) (i : ℕ) (marks : List (Option ℕ)) (e : ℕ) (mark : Option ℕ) → slice_get marks e ≡ Some mark
    → is_turn (with_turns loop (turns_of i 0 marks)) e ≡ is_marked i mark
turn_is_marked loop i marks e mark stands =
    subst (λ (n : ℕ). list_any (λ m. m == n) (turns_of i 0 marks) ≡ is_marked i mark) (omega arith) (marked_turns i 0 marks e mark stands)

-- ---- loops with turns are as without

-- the loop of number k, where they are numbered from i on
pub turned_at : (marks : List (Option ℕ)) (i : ℕ) (loops : List Loop) (k : ℕ) (loop : Loop) → slice_get loops k ≡ Some loop
    → slice_get (turned_loops marks i loops) k ≡ Some (with_turns loop (turns_of (i + k) 0 marks))
turned_at marks i [] k loop stands = absurd (none-some loop stands)
turned_at marks i (first ∷ loops) zero loop stands =
    ap (λ (n : ℕ). Some (with_turns first (turns_of n 0 marks))) (omega arith)
    ∙ ap (λ (l : Loop). Some (with_turns l (turns_of (i + 0) 0 marks))) (same_Some first loop stands)
turned_at marks i (first ∷ loops) (suc k) loop stands =
    turned_at marks (suc i) loops k loop stands ∙ ap (λ (n : ℕ). Some (with_turns loop (turns_of n 0 marks))) (omega arith)

turned_none : (marks : List (Option ℕ)) (i : ℕ) (loops : List Loop) (k : ℕ) → slice_get loops k ≡ None
    → slice_get (turned_loops marks i loops) k ≡ None
turned_none marks i [] k stands = refl
turned_none marks i (first ∷ loops) zero stands = absurd (none-some first (sym stands))
turned_none marks i (first ∷ loops) (suc k) stands = turned_none marks (suc i) loops k stands

pub same_moved : (marks : List (Option ℕ)) (loops : List Loop) (l to : ℕ) (counts : Counts)
    → moved (turned_loops marks 0 loops) l to counts ≡ moved loops l to counts
same_moved marks loops l to counts = fun_ext (λ k. each k (slice_get loops k) refl)
  where
    each : (k : ℕ) (o : Option Loop) → slice_get loops k ≡ o → moved (turned_loops marks 0 loops) l to counts k ≡ moved loops l to counts k
    each k None stands = ap (λ (o : Option Loop). kept_in o (λ loop. holds loop l) to (counts k)) (turned_none marks 0 loops k stands)
        ∙ sym (ap (λ (o : Option Loop). kept_in o (λ loop. holds loop l) to (counts k)) stands)
    each k (Some loop) stands = ap (λ (o : Option Loop). kept_in o (λ loop. holds loop l) to (counts k))
        (turned_at marks 0 loops k loop stands)
        ∙ sym (ap (λ (o : Option Loop). kept_in o (λ loop. holds loop l) to (counts k)) stands)

pub same_entered : (marks : List (Option ℕ)) (loops : List Loop) (to : ℕ) → entered (turned_loops marks 0 loops) to ≡ entered loops to
same_entered marks loops to = fun_ext (λ k. each k (slice_get loops k) refl)
  where
    each : (k : ℕ) (o : Option Loop) → slice_get loops k ≡ o → entered (turned_loops marks 0 loops) to k ≡ entered loops to k
    each k None stands = ap (λ (o : Option Loop). kept_in o (λ loop. false) to 0) (turned_none marks 0 loops k stands)
        ∙ sym (ap (λ (o : Option Loop). kept_in o (λ loop. false) to 0) stands)
    each k (Some loop) stands = ap (λ (o : Option Loop). kept_in o (λ loop. false) to 0) (turned_at marks 0 loops k loop stands)
        ∙ sym (ap (λ (o : Option Loop). kept_in o (λ loop. false) to 0) stands)

-- ---- an edge without a mark

over_none : (marks : List (Option ℕ)) (n e : ℕ) (counts : Counts) (i : ℕ) (loops : List Loop) → slice_get marks e ≡ Some None
    → over_of n e counts i (turned_loops marks i loops) ≡ None
over_none marks n e counts i [] stands = refl
over_none marks n e counts i (loop ∷ loops) stands =
    ap (λ (b : Bool). elim b [ true ↦ Some loop.place | false ↦ over_of n e counts (suc i) (turned_loops marks (suc i) loops) ])
    (and_left (is_turn (with_turns loop (turns_of i 0 marks)) e) (nat_le n (counts i)) (turn_is_marked loop i marks e None stands))
    ∙ over_none marks n e counts (suc i) loops stands

turn_none : (marks : List (Option ℕ)) (loops : List Loop) (e : ℕ) (k : ℕ) → slice_get marks e ≡ Some None
    → turn_in (slice_get (turned_loops marks 0 loops) k) e ≡ 0
turn_none marks loops e k stands = by (slice_get loops k) refl
  where
    by : (o : Option Loop) → slice_get loops k ≡ o → turn_in (slice_get (turned_loops marks 0 loops) k) e ≡ 0
    by None none = ap (λ (o : Option Loop). turn_in o e) (turned_none marks 0 loops k none)
    by (Some loop) some = ap (λ (o : Option Loop). turn_in o e) (turned_at marks 0 loops k loop some)
        ∙ ap (λ (b : Bool). cond b 1 0) (turn_is_marked loop (0 + k) marks e None stands)

-- ---- an edge with a mark

-- loops after the marked one aren't over
none_later : (marks : List (Option ℕ)) (n e : ℕ) (counts : Counts) (i : ℕ) (loops : List Loop) (m : ℕ) → m < i
    → slice_get marks e ≡ Some (Some m) → over_of n e counts i (turned_loops marks i loops) ≡ None
none_later marks n e counts i [] m lt stands = refl
none_later marks n e counts i (loop ∷ loops) m lt stands =
    ap (λ (b : Bool). elim b [ true ↦ Some loop.place | false ↦ over_of n e counts (suc i) (turned_loops marks (suc i) loops) ])
    (and_left (is_turn (with_turns loop (turns_of i 0 marks)) e) (nat_le n (counts i))
    (turn_is_marked loop i marks e (Some m) stands ∙ ne_eqb m i (λ same. omega (arith, lt, same))))
    ∙ none_later marks n e counts (suc i) loops m (omega (arith, lt)) stands

abbrev over_at_most : ℕ → ℕ → Option Loop → Option Place
over_at_most n count None = None
over_at_most n count (Some loop) = elim (nat_le n count) [ true ↦ Some loop.place | false ↦ None ]

-- of the loops from i on, the one of number i + m is over
over_marked : (marks : List (Option ℕ)) (n e : ℕ) (counts : Counts) (i : ℕ) (loops : List Loop) (m : ℕ)
    → slice_get marks e ≡ Some (Some (i + m))
    → over_of n e counts i (turned_loops marks i loops)
    ≡ over_at_most n (counts (i + m)) (slice_get loops m)
over_marked marks n e counts i [] m stands = refl
over_marked marks n e counts i (loop ∷ loops) zero stands = by (nat_le n (counts i)) refl
  where
    is : is_turn (with_turns loop (turns_of i 0 marks)) e ≡ true
    is = turn_is_marked loop i marks e (Some (i + 0)) stands ∙ eq-eqb (i + 0) i (omega arith)

    by : (b : Bool) → nat_le n (counts i) ≡ b → over_of n e counts i (turned_loops marks i (loop ∷ loops))
        ≡ elim (nat_le n (counts (i + 0))) [ true ↦ Some loop.place | false ↦ None ]
    by b le =
        ap (λ (t : Bool). elim (t && nat_le n (counts i)) [ true ↦ Some loop.place | false ↦ later ]) is
        ∙ (ap (λ (t : Bool). elim t [ true ↦ Some loop.place | false ↦ later ]) le
        ∙ (which b ∙ sym (ap (λ (t : Bool). elim t [ true ↦ Some loop.place | false ↦ None ])
        (ap (λ (k : ℕ). nat_le n (counts k)) (omega arith) ∙ le))))
      where
        later : Option Place
        later = over_of n e counts (suc i) (turned_loops marks (suc i) loops)

        which : (b : Bool) → ◌≡◌ {A = Option Place} (elim b [ true ↦ Some loop.place | false ↦ later ])
            (elim b [ true ↦ Some loop.place | false ↦ None ])
        which true = refl
        which false = none_later marks n e counts (suc i) loops (i + 0) (omega arith) stands
over_marked marks n e counts i (loop ∷ loops) (suc m) stands =
    ap (λ (b : Bool). elim b [ true ↦ Some loop.place | false ↦ over_of n e counts (suc i) (turned_loops marks (suc i) loops) ])
    (and_left (is_turn (with_turns loop (turns_of i 0 marks)) e) (nat_le n (counts i))
    (turn_is_marked loop i marks e (Some (i + suc m)) stands ∙ ne_eqb (i + suc m) i (λ same. omega (arith, same))))
    ∙ (over_marked marks n e counts (suc i) loops m (stands ∙ ap (λ (k : ℕ). Some (Some k)) (omega arith))
    ∙ ap (λ (k : ℕ). over_at_most n (counts k) (slice_get loops m)) (omega arith))

turn_marked : (marks : List (Option ℕ)) (loops : List Loop) (e i k : ℕ) (loop : Loop) → slice_get loops i ≡ Some loop
    → slice_get marks e ≡ Some (Some i) → turn_in (slice_get (turned_loops marks 0 loops) k) e ≡ cond (k == i) 1 0
turn_marked marks loops e i k loop here stands = by (slice_get loops k) refl
  where
    swap : (m n : ℕ) (b : Bool) → (n == m) ≡ b → (m == (0 + n)) ≡ b
    swap m n true e = let same = eqb-true n m e in eq-eqb m (0 + n) (omega (arith, same))
    swap m n false e = ne_eqb m (0 + n) (λ same. true≢false (sym (eq-eqb n m (omega (arith, same))) ∙ e))

    by : (o : Option Loop) → slice_get loops k ≡ o → turn_in (slice_get (turned_loops marks 0 loops) k) e ≡ cond (k == i) 1 0
    by None none = ap (λ (o : Option Loop). turn_in o e) (turned_none marks 0 loops k none)
        ∙ sym (ap (λ (b : Bool). cond b 1 0)
        (ne_eqb k i (λ same. none-some loop (sym none ∙ (ap (λ (n : ℕ). slice_get loops n) same ∙ here)))))
    by (Some other) some = ap (λ (o : Option Loop). turn_in o e) (turned_at marks 0 loops k other some)
        ∙ ap (λ (b : Bool). cond b 1 0) (turn_is_marked other (0 + k) marks e (Some i) stands ∙ swap i k (k == i) refl)

-- ---- an edge, by its mark

-- where a run is led, as a stage
abbrev pub led_stage : Spot → Valuation → Stage
led_stage (at l counts) w = running (at l counts) w
led_stage (past place) w = finished (gone_over place)

stage_over : (n count : ℕ) (loop : Loop) (to : ℕ) (after : Counts) (w : Valuation) (i : ℕ) (counts : Counts) → count ≡ counts i
    → led_stage (past_or (over_at_most n count (Some loop)) (at to (one_more i after))) w ≡ turn_to n i to counts after w (Some loop)
stage_over n count loop to after w i counts e = ap (λ (c : ℕ). led_stage
    (past_or (over_at_most n c (Some loop)) (at to (one_more i after))) w) e
    ∙ by (nat_le n (counts i))
  where
    by : (b : Bool) → led_stage (past_or (elim b [ true ↦ Some loop.place | false ↦ None ]) (at to (one_more i after))) w
        ≡ elim b [ true ↦ finished (gone_over loop.place) | false ↦ running (at to (one_more i after)) w ]
    by true = refl
    by false = refl

pub led_marked : (marks : List (Option ℕ)) (loops : List Loop) (n e l to : ℕ) (counts : Counts) (w : Valuation) (mark : Option ℕ)
    → slice_get marks e ≡ Some mark
    → led_stage (led (turned_loops marks 0 loops) n e l to counts) w ≡ led_by n loops l to counts w mark
led_marked marks loops n e l to counts w None stands =
    ap (λ (o : Option Place). led_stage (past_or o (at to (turned (turned_loops marks 0 loops) e
    (moved (turned_loops marks 0 loops) l to counts)))) w)
    (over_none marks n e counts 0 loops stands)
    ∙ ap (λ (cs : Counts). running (at to cs) w) (fun_ext (λ k.
    ap (λ (t : ℕ). moved (turned_loops marks 0 loops) l to counts k + t) (turn_none marks loops e k stands)
    ∙ (omega arith ∙ ap (λ (cs : Counts). cs k) (same_moved marks loops l to counts))))
led_marked marks loops n e l to counts w (Some i) stands = by (slice_get loops i) refl
  where
    plain_turn : slice_get loops i ≡ None → (k : ℕ) → turn_in (slice_get (turned_loops marks 0 loops) k) e ≡ 0
    plain_turn none k = each (slice_get loops k) refl
      where
        each : (o : Option Loop) → slice_get loops k ≡ o → turn_in (slice_get (turned_loops marks 0 loops) k) e ≡ 0
        each None gone = ap (λ (o : Option Loop). turn_in o e) (turned_none marks 0 loops k gone)
        each (Some other) some = ap (λ (o : Option Loop). turn_in o e) (turned_at marks 0 loops k other some)
            ∙ ap (λ (b : Bool). cond b 1 0) (turn_is_marked other (0 + k) marks e (Some i) stands
            ∙ ne_eqb i (0 + k) (λ same. let here : i ≡ k = omega (arith, same) in
            none-some other (sym none ∙ (ap (λ (n : ℕ). slice_get loops n) here ∙ some))))

    by : (o : Option Loop) → slice_get loops i ≡ o
        → led_stage (led (turned_loops marks 0 loops) n e l to counts) w ≡ led_by n loops l to counts w (Some i)
    by None none =
        ap (λ (o : Option Place). led_stage (past_or o (at to
        (turned (turned_loops marks 0 loops) e (moved (turned_loops marks 0 loops) l to counts)))) w)
        (over_marked marks n e counts 0 loops i (stands ∙ ap (λ (k : ℕ). Some (Some k)) (omega arith))
        ∙ ap (over_at_most n (counts (0 + i))) none)
        ∙ (ap (λ (cs : Counts). running (at to cs) w) (fun_ext (λ k.
        ap (λ (t : ℕ). moved (turned_loops marks 0 loops) l to counts k + t) (plain_turn none k)
        ∙ (omega arith ∙ ap (λ (cs : Counts). cs k) (same_moved marks loops l to counts))))
        ∙ sym (ap (turn_to n i to counts (moved loops l to counts) w) none))
    by (Some loop) some =
        ap (λ (o : Option Place). led_stage (past_or o (at to
        (turned (turned_loops marks 0 loops) e (moved (turned_loops marks 0 loops) l to counts)))) w)
        (over_marked marks n e counts 0 loops i (stands ∙ ap (λ (k : ℕ). Some (Some k)) (omega arith))
        ∙ ap (over_at_most n (counts (0 + i))) some)
        ∙ (ap (λ (cs : Counts). led_stage (past_or (over_at_most n (counts (0 + i)) (Some loop)) (at to cs)) w) (fun_ext (λ k.
        ap (λ (t : ℕ). moved (turned_loops marks 0 loops) l to counts k + t) (turn_marked marks loops e i k loop some stands)
        ∙ ap (λ (cs : Counts). cs k + cond (k == i) 1 0) (same_moved marks loops l to counts)))
        ∙ (stage_over n (counts (0 + i)) loop to (moved loops l to counts) w i counts (let same : 0 + i ≡ i = omega arith in ap counts same)
        ∙ sym (ap (turn_to n i to counts (moved loops l to counts) w) some)))
