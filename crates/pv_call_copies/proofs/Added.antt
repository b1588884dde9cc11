-- The variables that calls add are as many as they need.
use Rattle.std.proofs.Common.{◌≡◌, ℕ, zero, suc, ◌+◌, List, [], ◌∷◌, map, length, length-append, length-drop, drop, Option, Some, None, refl, ap, ◌∙◌}
use Rattle.std.proofs.lemmas.List.{length-map}
use Rattle.pv_flow.specs.Automata.{Variable, CallEdge, Parts}
use Rattle.pv_flow.specs.Calls.{Blocks, block_at, own_count, needed_by_calls, needed_in, needed_within, needed}
use Rattle.pv_call_copies.specs.Levels.{down}
use Rattle.pv_call_copies.specs.Inlined.{own_variable, added_by_calls, added_in, added}

pub by_calls : (added : ℕ → List Variable) (needed : ℕ → ℕ) → ((c : ℕ) → length (added c) ≡ needed c) → (calls : List CallEdge)
    → length (added_by_calls added calls) ≡ needed_by_calls needed calls
by_calls added needed same [] = refl
by_calls added needed same (call ∷ calls) =
    length-append (added call.block) (added_by_calls added calls)
    ∙ (ap (λ (n : ℕ). n + length (added_by_calls added calls)) (same call.block)
    ∙ ap (λ (n : ℕ). needed call.block + n) (by_calls added needed same calls))

in_block : (added : ℕ → List Variable) (needed : ℕ → ℕ) → ((c : ℕ) → length (added c) ≡ needed c) → (o : Option Parts)
    → length (added_in added o) ≡ needed_in needed o
in_block added needed same None = refl
in_block added needed same (Some p) =
    length-append (map own_variable (drop (p.bound + p.shared) p.vars)) (added_by_calls added p.calls)
    ∙ (ap (λ (n : ℕ). n + length (added_by_calls added p.calls))
    (length-map (drop (p.bound + p.shared) p.vars) own_variable ∙ length-drop (p.bound + p.shared) p.vars)
    ∙ ap (λ (n : ℕ). own_count p + n) (by_calls added needed same p.calls))

pub down_levels : (blocks : Blocks) (levels b : ℕ) → length (down [] added_in blocks levels b) ≡ needed_within blocks levels b
down_levels blocks zero b = refl
down_levels blocks (suc levels) b =
    in_block (λ c. down [] added_in blocks levels c) (λ c. needed_within blocks levels c) (λ c. down_levels blocks levels c) (block_at blocks b)

pub variables_are_needed : (blocks : Blocks) (b : ℕ) → length (added blocks b) ≡ needed blocks b
variables_are_needed blocks b = down_levels blocks (length blocks) b
