-- A loop more: no way so far starts a turn of it, so it stands without turns after the others.
use Rattle.std.proofs.Common.{◌≡◌, ℕ, suc, ◌+◌, ◌<◌, List, [], ◌∷◌, ◌++◌, length, Bool as Truth, false, cond, IfSome, Option, Some, None, refl, ap, ◌∙◌, arith}
use Rattle.std.proofs.lemmas.Bool.{ne_eqb}
use Rattle.pv_flow.specs.Automata.{Loop}
use Rattle.pv_layout.specs.Layout.{is_marked, turns_of, with_turns, turned_loops}
use Rattle.pv_layer.specs.Standing.{AreNamed}

unmarked : (n : ℕ) (mark : Option ℕ) → IfSome mark (λ i. i < n) → is_marked n mark ≡ false
unmarked n None named = refl
unmarked n (Some i) named = ne_eqb i n (λ same. omega (arith, named, same))

no_turns : (n e : ℕ) (marks : List (Option ℕ)) → AreNamed n marks → turns_of n e marks ≡ []
no_turns n e [] named = refl
no_turns n e (mark ∷ marks) named = ap (λ (b : Truth). cond b (e ∷ turns_of n (suc e) marks) (turns_of n (suc e) marks))
    (unmarked n mark named.0) ∙ no_turns n (suc e) marks named.1

turned_more : (marks : List (Option ℕ)) (i : ℕ) (loops : List Loop) (loop : Loop)
    → turned_loops marks i (loops ++ loop ∷ []) ≡ turned_loops marks i loops ++ with_turns loop (turns_of (i + length loops) 0 marks) ∷ []
turned_more marks i [] loop = let here : i ≡ i + 0 = omega arith in ap (λ (n : ℕ). with_turns loop (turns_of n 0 marks) ∷ []) here
turned_more marks i (first ∷ loops) loop =
    let here : suc i + length loops ≡ i + suc (length loops) = omega arith in
    ap (λ (more : List Loop). with_turns first (turns_of i 0 marks) ∷ more)
    (turned_more marks (suc i) loops loop
    ∙ ap (λ (n : ℕ). turned_loops marks (suc i) loops ++ with_turns loop (turns_of n 0 marks) ∷ []) here)

pub opened : (marks : List (Option ℕ)) (loops : List Loop) (loop : Loop) → AreNamed (length loops) marks → with_turns loop [] ≡ loop
    → turned_loops marks 0 (loops ++ loop ∷ []) ≡ turned_loops marks 0 loops ++ loop ∷ []
opened marks loops loop named bare = turned_more marks 0 loops loop
    ∙ (let here : 0 + length loops ≡ length loops = omega arith in
    ap (λ (n : ℕ). turned_loops marks 0 loops ++ with_turns loop (turns_of n 0 marks) ∷ []) here
    ∙ (ap (λ (turns : List ℕ). turned_loops marks 0 loops ++ with_turns loop turns ∷ []) (no_turns (length loops) 0 marks named)
    ∙ ap (λ (l : Loop). turned_loops marks 0 loops ++ l ∷ []) bare))
