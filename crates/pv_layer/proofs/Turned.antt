-- Turns of loops: a way more is a turn more of the loop that it marks, by the edge's number.
use Rattle.std.proofs.Common.{◌≡◌, ℕ, zero, suc, ◌+◌, ◌<◌, ◌≤◌, List, [], ◌∷◌, ◌++◌, map, length, get_or, set, Bool as Truth, true, false, cond, Option, Some, None, refl, sym, ap, ◌∙◌, arith}
use Rattle.std.proofs.lemmas.Bool.{ne_eqb, eq-eqb}
use Rattle.std.proofs.lemmas.List.{length-append, length-map}
use Rattle.pv_flow.specs.declared.parts.Loop.{Loop as CodeLoop}
use Rattle.pv_flow.specs.Terms.{Term}
use Rattle.pv_flow.specs.Automata.{Loop}
use Rattle.pv_flow.specs.View.{loop_of}
use Rattle.pv_layout.specs.Spots.{Check, Spot, Act, Branch, Enter, both, negated, true_term, checks_of, none_of, check_edges, way_edges, edges_at}
use Rattle.pv_layout.specs.Layout.{no_marks, way_marks, marks_of, is_marked, turns_of, with_turns, turned_loops, edges_of}
use Rattle.pv_layer.specs.Making.{turned_once}
use Rattle.pv_layer.proofs.Appended.{append_more, append_none, turns_more}

-- ---- one mark more

loop_turned : (loop : Loop) (i : ℕ) (marks : List (Option ℕ)) (mark : Option ℕ)
    → with_turns loop (turns_of i 0 (marks ++ mark ∷ []))
    ≡ cond (is_marked i mark) (with_turns loop (turns_of i 0 marks ++ length marks ∷ [])) (with_turns loop (turns_of i 0 marks))
loop_turned loop i marks mark = ap (λ (turns : List ℕ). with_turns loop turns) (turns_more i 0 marks (mark ∷ []))
    ∙ (ap (λ (e : ℕ). with_turns loop (turns_of i 0 marks ++ turns_of i e (mark ∷ []))) start ∙ by (is_marked i mark))
  where
    start : 0 + length marks ≡ length marks
    start = omega arith

    by : (b : Truth) → with_turns loop (turns_of i 0 marks ++ cond b (length marks ∷ []) [])
        ≡ cond b (with_turns loop (turns_of i 0 marks ++ length marks ∷ [])) (with_turns loop (turns_of i 0 marks))
    by true = refl
    by false = ap (λ (turns : List ℕ). with_turns loop turns) (append_none (turns_of i 0 marks))

pub turned_push : (marks : List (Option ℕ)) (mark : Option ℕ) (i : ℕ) (loops : List Loop)
    → turned_loops (marks ++ mark ∷ []) i loops ≡ turned_once mark i (length marks) (turned_loops marks i loops)
turned_push marks mark i [] = refl
turned_push marks mark i (loop ∷ loops) =
    ap (λ (first : Loop). first ∷ turned_loops (marks ++ mark ∷ []) (suc i) loops) (loop_turned loop i marks mark)
    ∙ ap (λ (more : List Loop). cond (is_marked i mark) (with_turns loop (turns_of i 0 marks ++ length marks ∷ []))
    (with_turns loop (turns_of i 0 marks)) ∷ more) (turned_push marks mark (suc i) loops)

-- ---- marks of checks

none_turns : (i e : ℕ) (checks : List Check) → turns_of i e (no_marks checks) ≡ []
none_turns i e [] = refl
none_turns i e (check ∷ checks) = none_turns i (suc e) checks

pub turned_none : (marks : List (Option ℕ)) (checks : List Check) (i : ℕ) (loops : List Loop)
    → turned_loops (marks ++ no_marks checks) i loops ≡ turned_loops marks i loops
turned_none marks checks i [] = refl
turned_none marks checks i (loop ∷ loops) =
    ap (λ (turns : List ℕ). with_turns loop turns ∷ turned_loops (marks ++ no_marks checks) (suc i) loops)
    (turns_more i 0 marks (no_marks checks) ∙ (ap (λ (turns : List ℕ). turns_of i 0 marks ++ turns) (none_turns i (0 + length marks) checks)
    ∙ append_none (turns_of i 0 marks)))
    ∙ ap (λ (more : List Loop). with_turns loop (turns_of i 0 marks) ∷ more) (turned_none marks checks (suc i) loops)

count_none : (checks : List Check) → length (no_marks checks) ≡ length checks
count_none [] = refl
count_none (check ∷ checks) = ap (λ (n : ℕ). suc n) (count_none checks)

-- ---- a spot more

pub act_turned : (marks : List (Option ℕ)) (checks : List Check) (mark : Option ℕ) (loops : List Loop)
    → turned_loops (marks ++ (no_marks checks ++ mark ∷ [])) 0 loops
    ≡ turned_once mark 0 (length marks + length checks) (turned_loops marks 0 loops)
act_turned marks checks mark loops =
    ap (λ (ms : List (Option ℕ)). turned_loops ms 0 loops) (sym (append_more marks (no_marks checks) (mark ∷ [])))
    ∙ (turned_push (marks ++ no_marks checks) mark 0 loops
    ∙ (ap (λ (n : ℕ). turned_once mark 0 n (turned_loops (marks ++ no_marks checks) 0 loops)) count
    ∙ ap (λ (ls : List Loop). turned_once mark 0 (length marks + length checks) ls) (turned_none marks checks 0 loops)))
  where
    count : length (marks ++ no_marks checks) ≡ length marks + length checks
    count = length-append marks (no_marks checks) ∙ ap (λ (n : ℕ). length marks + n) (count_none checks)

pub branch_turned : (marks : List (Option ℕ)) (checks : List Check) (one other : Option ℕ) (loops : List Loop)
    → turned_loops (marks ++ (no_marks checks ++ one ∷ other ∷ [])) 0 loops
    ≡ turned_once other 0 (suc (length marks + length checks))
    (turned_once one 0 (length marks + length checks) (turned_loops marks 0 loops))
branch_turned marks checks one other loops =
    ap (λ (ms : List (Option ℕ)). turned_loops (marks ++ ms) 0 loops) (sym (append_more (no_marks checks) (one ∷ []) (other ∷ [])))
    ∙ (ap (λ (ms : List (Option ℕ)). turned_loops ms 0 loops) (sym (append_more marks (no_marks checks ++ one ∷ []) (other ∷ [])))
    ∙ (turned_push (marks ++ (no_marks checks ++ one ∷ [])) other 0 loops
    ∙ (ap (λ (n : ℕ). turned_once other 0 n (turned_loops (marks ++ (no_marks checks ++ one ∷ [])) 0 loops)) count
    ∙ ap (λ (ls : List Loop). turned_once other 0 (suc (length marks + length checks)) ls) (act_turned marks checks one loops))))
  where
    count : length (marks ++ (no_marks checks ++ one ∷ [])) ≡ suc (length marks + length checks)
    count =
        let whole = length-append marks (no_marks checks ++ one ∷ []) in
        let part = length-append (no_marks checks) (one ∷ []) in
        let own = count_none checks in
        omega (arith, whole, part, own)

-- ---- as many marks as edges

count_checks : (done t l : ℕ) (none : Term) (checks : List Check) → length (check_edges done t l none checks) ≡ length (no_marks checks)
count_checks done t l none [] = refl
count_checks done t l none (check ∷ checks) =
    ap (λ (n : ℕ). suc n) (count_checks done (suc t) l (both none (negated check.fails)) checks)

count_ways : (l : ℕ) (none : Term) (spot : Spot) → length (way_edges l none spot) ≡ length (way_marks spot)
count_ways l none (Act checks on) = refl
count_ways l none (Branch checks c one other) = refl
count_ways l none (Enter block instance place to) = refl

pub marks_count : (done t l : ℕ) (spots : List Spot) → length (edges_of done t l spots) ≡ length (marks_of spots)
marks_count done t l [] = refl
marks_count done t l (spot ∷ spots) =
    let all = length-append (edges_at done t l spot) (edges_of done (t + length (checks_of spot)) (suc l) spots) in
    let first = length-append (check_edges done t l true_term (checks_of spot)) (way_edges l (none_of true_term (checks_of spot)) spot) in
    let checks = count_checks done t l true_term (checks_of spot) in
    let ways = count_ways l (none_of true_term (checks_of spot)) spot in
    let more = marks_count done (t + length (checks_of spot)) (suc l) spots in
    let marks = length-append (no_marks (checks_of spot) ++ way_marks spot) (marks_of spots) in
    let own = length-append (no_marks (checks_of spot)) (way_marks spot) in
    omega (arith, all, first, checks, ways, more, marks, own)

-- ---- the code's loops

pub turn_none : (i e : ℕ) (loops : List Loop) → turned_once None i e loops ≡ loops
turn_none i e [] = refl
turn_none i e (loop ∷ loops) = ap (λ (more : List Loop). loop ∷ more) (turn_none (suc i) e loops)

turn_before : (j i e : ℕ) (loops : List Loop) → j < i → turned_once (Some j) i e loops ≡ loops
turn_before j i e [] lt = refl
turn_before j i e (loop ∷ loops) lt =
    ap (λ (b : Truth). cond b (with_turns loop (loop.turns ++ e ∷ [])) loop ∷ turned_once (Some j) (suc i) e loops)
    (ne_eqb j i (λ same. omega (arith, same, lt)))
    ∙ ap (λ (more : List Loop). loop ∷ more) (turn_before j (suc i) e loops (omega (arith, lt)))

turn_out_from : (k j i e : ℕ) (loops : List Loop) → j ≡ i + k → length loops ≤ k → turned_once (Some j) i e loops ≡ loops
turn_out_from k j i e [] is le = refl
turn_out_from zero j i e (loop ∷ loops) is le = absurd (omega (arith, le))
turn_out_from (suc k) j i e (loop ∷ loops) is le =
    ap (λ (b : Truth). cond b (with_turns loop (loop.turns ++ e ∷ [])) loop ∷ turned_once (Some j) (suc i) e loops)
    (ne_eqb j i (λ same. omega (arith, same, is)))
    ∙ ap (λ (more : List Loop). loop ∷ more) (turn_out_from k j (suc i) e loops (omega (arith, is)) (omega (arith, le)))

pub turn_out : (k e : ℕ) (loops : List Loop) → length loops ≤ k → turned_once (Some k) 0 e loops ≡ loops
turn_out k e loops le = turn_out_from k k 0 e loops (omega arith) le

turn_set_from : (k j i e : ℕ) (loops : List CodeLoop) (x d : CodeLoop) → j ≡ i + k → k < length loops
    → loop_of x ≡ with_turns (loop_of (get_or loops k d)) ((loop_of (get_or loops k d)).turns ++ e ∷ [])
    → map loop_of (set loops k x) ≡ turned_once (Some j) i e (map loop_of loops)
turn_set_from k j i e [] x d is lt now = absurd (omega (arith, lt))
turn_set_from zero j i e (loop ∷ loops) x d is lt now =
    ap (λ (first : Loop). first ∷ map loop_of loops) now
    ∙ (ap (λ (more : List Loop). with_turns (loop_of loop) ((loop_of loop).turns ++ e ∷ []) ∷ more)
    (sym (turn_before j (suc i) e (map loop_of loops) (omega (arith, is))))
    ∙ ap (λ (b : Truth). cond b (with_turns (loop_of loop) ((loop_of loop).turns ++ e ∷ [])) (loop_of loop)
    ∷ turned_once (Some j) (suc i) e (map loop_of loops)) (sym (eq-eqb j i (omega (arith, is)))))
turn_set_from (suc k) j i e (loop ∷ loops) x d is lt now =
    ap (λ (more : List Loop). loop_of loop ∷ more) (turn_set_from k j (suc i) e loops x d (omega (arith, is)) (omega (arith, lt)) now)
    ∙ ap (λ (b : Truth). cond b (with_turns (loop_of loop) ((loop_of loop).turns ++ e ∷ [])) (loop_of loop)
    ∷ turned_once (Some j) (suc i) e (map loop_of loops)) (sym (ne_eqb j i (λ same. omega (arith, same, is))))

pub turn_set : (k e : ℕ) (loops : List CodeLoop) (x d : CodeLoop) → k < length loops
    → loop_of x ≡ with_turns (loop_of (get_or loops k d)) ((loop_of (get_or loops k d)).turns ++ e ∷ [])
    → map loop_of (set loops k x) ≡ turned_once (Some k) 0 e (map loop_of loops)
turn_set k e loops x d lt now = turn_set_from k k 0 e loops x d (omega arith) lt now

-- by what the turn is known to be
pub turn_is_none : (turn : Option ℕ) (e : ℕ) (loops : List Loop) → turn ≡ None → loops ≡ turned_once turn 0 e loops
turn_is_none turn e loops is = sym (ap (λ (t : Option ℕ). turned_once t 0 e loops) is ∙ turn_none 0 e loops)

pub turn_is_out : (turn : Option ℕ) (k e : ℕ) (loops : List CodeLoop) → turn ≡ Some k → length loops ≤ k
    → map loop_of loops ≡ turned_once turn 0 e (map loop_of loops)
turn_is_out turn k e loops is le = sym (ap (λ (t : Option ℕ). turned_once t 0 e (map loop_of loops)) is
    ∙ turn_out k e (map loop_of loops) (let count = length-map loops loop_of in omega (arith, count, le)))

pub turn_is_set : (turn : Option ℕ) (k e : ℕ) (loops : List CodeLoop) (x d : CodeLoop) → turn ≡ Some k → k < length loops
    → loop_of x ≡ with_turns (loop_of (get_or loops k d)) ((loop_of (get_or loops k d)).turns ++ e ∷ [])
    → map loop_of (set loops k x) ≡ turned_once turn 0 e (map loop_of loops)
turn_is_set turn k e loops x d is lt now = turn_set k e loops x d lt now
    ∙ ap (λ (t : Option ℕ). turned_once t 0 e (map loop_of loops)) (sym is)

pub turn_pushed : (turn : Option ℕ) (k e : ℕ) (loops : List CodeLoop) (m x : CodeLoop) → turn ≡ Some k → k < length loops → m ≡ get_or loops k m
    → loop_of x ≡ with_turns (loop_of m) (m.turns.items ++ e ∷ []) → map loop_of (set loops k x) ≡ turned_once turn 0 e (map loop_of loops)
turn_pushed turn k e loops m x is lt read now = turn_is_set turn k e loops x m is lt
    (now ∙ ap (λ (l : CodeLoop). with_turns (loop_of l) ((loop_of l).turns ++ e ∷ [])) read)
