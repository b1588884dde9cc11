-- Loops with their turns: what their edges and calls keep to, that no two share a turn, and that none cross.
use Rattle.std.proofs.Common.{◌≡◌, ℕ, zero, suc, ◌+◌, ◌<◌, ◌≤◌, ◌⊎◌, inl, inr, List, [], ◌∷◌, length, slice_get, Bool as Truth, true, false, not, ◌||◌, ◌==◌, nat_lt, cond, IfSome, Option, Some, None, refl, sym, subst, ap, ◌∙◌, arith}
use Rattle.std.specs.List.{AllByRecursion, list_any, list_all}
use Rattle.std.proofs.lemmas.Bool.{false≢true, eqb-true, ne_eqb, lt-ltb, and_from, or_from, cases_lt}
use Rattle.std.proofs.lemmas.Option.{none-some, same_Some}
use Rattle.pv_flow.specs.Terms.{Types}
use Rattle.pv_flow.specs.Automata.{Edge, CallEdge, Loop, is_turn}
use Rattle.pv_flow.specs.Faults.{cross, enters_well}
use Rattle.pv_flow.specs.WellMade.{turns_well, share_no_turn, AreApart}
use Rattle.pv_layout.specs.Layout.{Text, edges_of, calls_of, marks_of, is_marked, turns_of, with_turns, turned_loops}
use Rattle.pv_layout.specs.Sound.{turn_fits, IsPair, IsSoundText}
use Rattle.pv_layout.specs.Correct.{IsLaid}
use Rattle.pv_layout.proofs.Lists.{some_at, all_map}
use Rattle.pv_layout.proofs.Edges.{laid_ahead}
use Rattle.pv_layout.proofs.Marks.{turn_is_marked}
use Rattle.pv_layout.proofs.LoopPairs.{held_clear, inside_held}
use Rattle.pv_layout.proofs.Along.{Along}
use Rattle.pv_layout.proofs.LegalEdges.{IsSoundEdge, IsSoundCall, edge_at, calls_sound, edges_along}

abbrev pub the_edges : Text → List Edge
the_edges text = edges_of (length text.spots) 0 0 text.spots

abbrev pub the_calls : Text → List CallEdge
the_calls text = calls_of 0 text.spots

abbrev pub turned : Text → List Loop
turned text = turned_loops (marks_of text.spots) 0 text.loops

-- loop k with its turns
abbrev pub turned_loop : Text → ℕ → Loop → Loop
turned_loop text k loop = with_turns loop (turns_of (0 + k) 0 (marks_of text.spots))

-- ---- all of a list

pub all_by : {X : Type 0} (P : X → Type 0) (xs : List X) → ((i : ℕ) (x : X) → slice_get xs i ≡ Some x → P x) → AllByRecursion P xs
all_by P [] go = tt
all_by P (x ∷ xs) go = (go 0 x refl, all_by P xs (λ i y here. go (suc i) y here))

pub all_true : {X : Type 0} (test : X → Truth) (xs : List X) → AllByRecursion (λ (x : X). test x ≡ true) xs → list_all test xs ≡ true
all_true test [] all = refl
all_true test (x ∷ xs) all = and_from (test x) (list_all test xs) all.0 (all_true test xs all.1)

none_any : {X : Type 0} (test : X → Truth) (xs : List X) → AllByRecursion (λ (x : X). test x ≡ false) xs → list_any test xs ≡ false
none_any test [] all = refl
none_any test (x ∷ xs) all = or_from (test x) (list_any test xs) all.0 (none_any test xs all.1)

-- ---- which loop has a number

record IsTurned (marks : List (Option ℕ)) (i : ℕ) (loops : List Loop) (k : ℕ) (loop : Loop) : Type 0 where
  plain : Loop
  stands : slice_get loops k ≡ Some plain
  same : with_turns plain (turns_of (i + k) 0 marks) ≡ loop

turned_back : (marks : List (Option ℕ)) (i : ℕ) (loops : List Loop) (k : ℕ) (loop : Loop)
    → slice_get (turned_loops marks i loops) k ≡ Some loop
    → IsTurned marks i loops k loop
turned_back marks i [] k loop here = absurd (none-some loop here)
turned_back marks i (first ∷ loops) zero loop here = record {
  plain = first;
  stands = refl;
  same = let e : i + 0 ≡ i = omega arith in
      ap (λ (n : ℕ). with_turns first (turns_of n 0 marks)) e ∙ same_Some (with_turns first (turns_of i 0 marks)) loop here;
}
turned_back marks i (first ∷ loops) (suc k) loop here =
    let r = turned_back marks (suc i) loops k loop here in
    let e : i + suc k ≡ suc i + k = omega arith in
    record { plain = r.plain; stands = r.stands; same = ap (λ (n : ℕ). with_turns r.plain (turns_of n 0 marks)) e ∙ r.same }

-- what is so of each loop with its turns
pub each_turned : (text : Text) (P : ℕ → Loop → Type 0)
    → ((k : ℕ) (loop : Loop) → slice_get text.loops k ≡ Some loop → P k (turned_loop text k loop))
    → (k : ℕ) (loop : Loop) → slice_get (turned text) k ≡ Some loop → P k loop
each_turned text P go k loop here = let r = turned_back (marks_of text.spots) 0 text.loops k loop here in
    subst (λ (l : Loop). P k l) r.same (go k r.plain r.stands)

-- ---- edges

pub edge_turns : (n : ℕ) (types : Types) (text : Text) → IsSoundText n types text → (k : ℕ) (loop : Loop)
    → slice_get text.loops k ≡ Some loop
    → (e : ℕ) (edge : Edge) → slice_get (the_edges text) e ≡ Some edge → turns_well (turned_loop text k loop) e edge ≡ true
edge_turns n types text sound k loop here e edge there =
    let m = edge_at n types text sound e edge there in
    let fits = (m.so).fits k loop here in
    ap (λ (b : Truth). turn_fits loop edge.from edge.to b) (turn_is_marked loop (0 + k) (marks_of text.spots) e m.mark m.stands)
    ∙ fits.turns

pub edges_enter : (n : ℕ) (types : Types) (text : Text) → IsSoundText n types text → (k : ℕ) (loop : Loop)
    → slice_get text.loops k ≡ Some loop
    → AllByRecursion (λ (edge : Edge). enters_well (turned_loop text k loop) edge.from edge.to ≡ true) (the_edges text)
edges_enter n types text sound k loop here = all_by (λ (edge : Edge). enters_well (turned_loop text k loop) edge.from edge.to ≡ true)
    (the_edges text)
    (λ e edge there. ((edge_at n types text sound e edge there).so.fits k loop here).enters)

pub calls_enter : (n : ℕ) (types : Types) (text : Text) → IsSoundText n types text → (k : ℕ) (loop : Loop)
    → slice_get text.loops k ≡ Some loop
    → AllByRecursion (λ (call : CallEdge). enters_well (turned_loop text k loop) call.from call.to ≡ true) (the_calls text)
calls_enter n types text sound k loop here = all_map (λ (call : CallEdge). IsSoundCall n text call.from call.to call.instance)
    (λ (call : CallEdge). enters_well (turned_loop text k loop) call.from call.to ≡ true) (the_calls text)
    (λ call is. ((is.edge).fits k loop here).enters) (calls_sound n types text sound)

pub calls_begin : (n : ℕ) (types : Types) (text : Text) → IsSoundText n types text → (k : ℕ) (loop : Loop)
    → slice_get text.loops k ≡ Some loop
    → AllByRecursion (λ (call : CallEdge). (loop.entry_turn || not (call.from == loop.first)) ≡ true) (the_calls text)
calls_begin n types text sound k loop here = all_map (λ (call : CallEdge). IsSoundCall n text call.from call.to call.instance)
    (λ (call : CallEdge). (loop.entry_turn || not (call.from == loop.first)) ≡ true) (the_calls text)
    (λ call is. is.alone k loop here) (calls_sound n types text sound)

-- ---- turns

along_length : (Q : ℕ → ℕ → Option ℕ → Type 0) (edges : List Edge) (marks : List (Option ℕ)) → Along Q edges marks
    → length edges ≡ length marks
along_length Q [] [] h = refl
along_length Q [] (m ∷ marks) h = absurd h
along_length Q (x ∷ edges) [] h = absurd h
along_length Q (x ∷ edges) (m ∷ marks) h = ap (λ (n : ℕ). suc n) (along_length Q edges marks h.1)

turns_below : (i e limit : ℕ) (marks : List (Option ℕ)) → e + length marks ≤ limit
    → list_all (λ n. nat_lt n limit) (turns_of i e marks) ≡ true
turns_below i e limit [] le = refl
turns_below i e limit (mark ∷ marks) le = by (is_marked i mark) (turns_below i (suc e) limit marks (omega (arith, le)))
  where
    by : (b : Truth) → list_all (λ n. nat_lt n limit) (turns_of i (suc e) marks) ≡ true
        → list_all (λ n. nat_lt n limit) (cond b (e ∷ turns_of i (suc e) marks) (turns_of i (suc e) marks)) ≡ true
    by true h = and_from (nat_lt e limit) (list_all (λ n. nat_lt n limit) (turns_of i (suc e) marks)) (lt-ltb e limit (omega (arith, le))) h
    by false h = h

pub turns_there : (n : ℕ) (types : Types) (text : Text) → IsSoundText n types text → (i : ℕ)
    → list_all (λ e. nat_lt e (length (the_edges text))) (turns_of i 0 (marks_of text.spots)) ≡ true
turns_there n types text sound i =
    let same = along_length (IsSoundEdge text) (the_edges text) (marks_of text.spots) (edges_along n types text sound) in
    turns_below i 0 (length (the_edges text)) (marks_of text.spots) (omega (arith, same))

record IsTurnOf (marks : List (Option ℕ)) (i e : ℕ) : Type 0 where
  mark : Option ℕ
  stands : slice_get marks e ≡ Some mark
  own : is_marked i mark ≡ true

turns_own : (whole : List (Option ℕ)) (i e : ℕ) (marks : List (Option ℕ)) → IsLaid whole e marks
    → AllByRecursion (IsTurnOf whole i) (turns_of i e marks)
turns_own whole i e [] laid = tt
turns_own whole i e (mark ∷ marks) laid = by (is_marked i mark) refl (turns_own whole i (suc e) marks laid.1)
  where
    by : (b : Truth) → is_marked i mark ≡ b → AllByRecursion (IsTurnOf whole i) (turns_of i (suc e) marks)
        → AllByRecursion (IsTurnOf whole i) (cond b (e ∷ turns_of i (suc e) marks) (turns_of i (suc e) marks))
    by true is h = (record { mark = mark; stands = laid.0; own = is }, h)
    by false is h = h

laid_self : {X : Type 0} (xs : List X) → IsLaid xs 0 xs
laid_self [] = tt
laid_self (x ∷ xs) = (refl, laid_ahead x xs 0 xs (laid_self xs))

other_mark : (i j : ℕ) (mark : Option ℕ) → (i ≡ j → ⊥) → is_marked i mark ≡ true → is_marked j mark ≡ false
other_mark i j None ne is = absurd (false≢true is)
other_mark i j (Some k) ne is = ne_eqb k j (λ same. let own = eqb-true k i is in ne (sym own ∙ same))

no_shared_turn : (text : Text) (i j : ℕ) (one other : Loop) → i < j
    → share_no_turn (turned_loop text i one) (turned_loop text j other) ≡ true
no_shared_turn text i j one other lt = ap not
    (none_any (λ e. is_turn (turned_loop text j other) e) (turns_of (0 + i) 0 (marks_of text.spots))
    (all_map (IsTurnOf (marks_of text.spots) (0 + i)) (λ (e : ℕ). is_turn (turned_loop text j other) e ≡ false)
    (turns_of (0 + i) 0 (marks_of text.spots)) (λ e t. turn_is_marked other (0 + j) (marks_of text.spots) e t.mark t.stands
    ∙ other_mark (0 + i) (0 + j) t.mark (λ same. omega (arith, lt, same)) t.own)
    (turns_own (marks_of text.spots) (0 + i) 0 (marks_of text.spots) (laid_self (marks_of text.spots)))))

-- ---- pairs

pair_at : (n : ℕ) (types : Types) (text : Text) → IsSoundText n types text → (i j : ℕ) → i < j → (x y : Loop)
    → slice_get text.loops i ≡ Some x → slice_get text.loops j ≡ Some y → IsPair x y
pair_at n types text sound i j lt x y here there = some_at (IsPair x) (slice_get text.loops j) y there
    (some_at (λ (one : Loop). IfSome (slice_get text.loops j) (IsPair one)) (slice_get text.loops i) x here (sound.pairs i j lt))

are_apart : (n : ℕ) (types : Types) (text : Text) → IsSoundText n types text → (i j : ℕ) (one other : Loop) → i < j
    → slice_get text.loops i ≡ Some one → slice_get text.loops j ≡ Some other → AreApart (turned_loop text i one) (turned_loop text j other)
are_apart n types text sound i j one other lt here there =
    let pair = pair_at n types text sound i j lt one other here there in
    record { turns = no_shared_turn text i j one other lt; firsts = pair.firsts; back = pair.back; order = pair.order }

pub none_cross : (n : ℕ) (types : Types) (text : Text) → IsSoundText n types text → (i : ℕ) (one : Loop) → slice_get text.loops i ≡ Some one
    → (j : ℕ) (other : Loop) → slice_get text.loops j ≡ Some other → cross one other ≡ false
none_cross n types text sound i one here j other there = by (cases_lt i j) (cases_lt j i)
  where
    by : (i < j) ⊎ (j ≤ i) → (j < i) ⊎ (i ≤ j) → cross one other ≡ false
    by (inl lt) far = (pair_at n types text sound i j lt one other here there).clear
    by (inr le) (inl lt) = (pair_at n types text sound j i lt other one there here).clear_back
    by (inr le) (inr ge) =
        let same : i ≡ j = omega (arith, le, ge) in
        subst (λ (l : Loop). cross one l ≡ false)
        (same_Some one other (sym here ∙ (ap (λ (k : ℕ). slice_get text.loops k) same ∙ there)))
        (held_clear one one (inside_held one one (omega arith) (omega arith)))

pub apart_turned : (n : ℕ) (types : Types) (text : Text) → IsSoundText n types text → (i j : ℕ) → i < j → (x y : Loop)
    → slice_get (turned text) i ≡ Some x → slice_get (turned text) j ≡ Some y → AreApart x y
apart_turned n types text sound i j lt x y here there =
    let r = turned_back (marks_of text.spots) 0 text.loops i x here in
    let q = turned_back (marks_of text.spots) 0 text.loops j y there in
    subst (λ (l : Loop). AreApart l y) r.same (subst (λ (l : Loop). AreApart (turned_loop text i r.plain) l) q.same
    (are_apart n types text sound i j r.plain q.plain lt r.stands q.stands))
