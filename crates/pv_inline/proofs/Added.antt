-- Variables that calls add, block after block.
use Rattle.std.proofs.Common.{◌≡◌, ℕ, zero, suc, ◌+◌, ◌-◌, ◌<◌, ◌≤◌, ◌⊎◌, inl, inr, min, List, [], ◌++◌, map, length, drop, append_assoc, Option, Some, None, sym, ap, ◌∙◌, arith}
use Rattle.std.proofs.lemmas.List.{length-map, drop-map, drop_all, append-nil}
use Rattle.std.proofs.lemmas.Bool.{cases_lt}
use Rattle.pv_flow.specs.declared.parts.Variable.{Variable as CodeVariable}
use Rattle.pv_flow.specs.declared.parts.CallEdge.{CallEdge as CodeCallEdge}
use Rattle.pv_flow.specs.declared.parts.Parts.{Parts as CodeParts}
use Rattle.pv_flow.specs.Automata.{Variable, Parts}
use Rattle.pv_flow.specs.Calls.{Blocks, block_at}
use Rattle.pv_flow.specs.View.{variable_of, call_edge_of, parts_of}
use Rattle.pv_call_copies.specs.Inlined.{own_variable, added_by_calls, added_in, inlined}
use Rattle.pv_inline.specs.Blocks.{block_in, blocks_in, code_at}
use Rattle.pv_inline.specs.Variables.{variables_in, variables_at, added_below}
use Rattle.pv_inline.proofs.Coded.{some_block, none_block}

-- what is left after the first so many, which may be more than there are
pub drop_capped : (n : ℕ) (xs : List CodeVariable) → drop (min n (length xs)) xs ≡ drop n xs
drop_capped n xs = by (cases_lt n (length xs))
  where
    small : (n m : ℕ) → n < m → min n m ≡ n
    small n m lt = omega (arith, lt)

    large : (n m : ℕ) → m ≤ n → min n m ≡ m
    large n m le = omega (arith, le)

    by : (n < length xs) ⊎ (length xs ≤ n) → drop (min n (length xs)) xs ≡ drop n xs
    by (inl lt) = ap (λ (k : ℕ). drop k xs) (small n (length xs) lt)
    by (inr le) =
        ap (λ (k : ℕ). drop k xs) (large n (length xs) le)
        ∙ drop_all (length xs) xs (omega arith)
        ∙ sym (drop_all n xs le)

below_is : (blocks : Blocks) (levels b : ℕ) (p : Parts) → 0 < levels → block_at blocks b ≡ Some p
    → added_below blocks levels b ≡ added_in (λ (c : ℕ). added_below blocks (levels - 1) c) (Some p)
below_is blocks levels b p some at =
    ap (λ (n : ℕ). added_below blocks n b) (next levels some)
    ∙ ap (λ (o : Option Parts). added_in (λ (c : ℕ). added_below blocks (levels - 1) c) o) at
  where
    next : (n : ℕ) → 0 < n → n ≡ suc (n - 1)
    next n h = omega (arith, h)

pub some_added : (blocks : Blocks) (levels b : ℕ) (p : Parts) (code : CodeParts) (own : List CodeVariable) (calls : List CodeCallEdge)
    (old middle new : List Variable) → 0 < levels → block_at blocks b ≡ Some p → parts_of code ≡ p
    → own ≡ drop (code.bound + code.shared) code.vars.items → calls ≡ code.calls.items
    → middle ≡ old ++ map own_variable (map variable_of own)
    → new ≡ middle ++ added_by_calls (added_below blocks (levels - 1)) (map call_edge_of calls)
    → new ≡ old ++ added_below blocks levels b
some_added blocks levels b p code own calls old middle new some at seen mine same first last =
    last
    ∙ ap (λ (vs : List Variable). vs ++ added_by_calls (added_below blocks (levels - 1)) (map call_edge_of calls)) first
    ∙ append_assoc old (map own_variable (map variable_of own)) (added_by_calls (added_below blocks (levels - 1)) (map call_edge_of calls))
    ∙ ap (λ (vs : List CodeVariable). old ++ (map own_variable (map variable_of vs)
    ++ added_by_calls (added_below blocks (levels - 1)) (map call_edge_of calls))) mine
    ∙ ap (λ (cs : List CodeCallEdge). old ++ (map own_variable (map variable_of (drop (code.bound + code.shared) code.vars.items))
    ++ added_by_calls (added_below blocks (levels - 1)) (map call_edge_of cs))) same
    ∙ ap (λ (vs : List Variable). old ++ (map own_variable vs
    ++ added_by_calls (added_below blocks (levels - 1)) (map call_edge_of code.calls.items)))
    (sym (drop-map variable_of (code.bound + code.shared) code.vars.items))
    ∙ ap (λ (q : Parts). old ++ added_in (λ (c : ℕ). added_below blocks (levels - 1) c) (Some q)) seen
    ∙ sym (ap (λ (vs : List Variable). old ++ vs) (below_is blocks levels b p some at))

pub none_added : (codes : List (Option CodeParts)) (levels b : ℕ) (old : List Variable) → code_at codes b ≡ None
    → old ≡ old ++ added_below (blocks_in codes) levels b
none_added codes zero b old none = sym (append-nil old)
none_added codes (suc levels) b old none =
    sym (append-nil old)
    ∙ sym (ap (λ (o : Option Parts). old ++ added_in (λ (c : ℕ). added_below (blocks_in codes) levels c) o) (none_block codes b none))

-- the entry's, and what its calls add, down as many levels as there are blocks
pub entry_adds : (blocks : List (Option CodeParts)) (code : CodeParts) (calls : List CodeCallEdge) (old middle new : List Variable)
    → calls ≡ code.calls.items → middle ≡ old ++ map variable_of code.vars.items
    → new ≡ middle ++ added_by_calls (added_below (blocks_in blocks) (length blocks)) (map call_edge_of calls)
    → new ≡ old ++ (inlined (blocks_in blocks) (parts_of code)).vars
entry_adds blocks code calls old middle new same first last =
    last
    ∙ ap (λ (vs : List Variable). vs ++ added_by_calls (added_below (blocks_in blocks) (length blocks)) (map call_edge_of calls)) first
    ∙ append_assoc old (map variable_of code.vars.items) (added_by_calls (added_below (blocks_in blocks) (length blocks)) (map call_edge_of calls))
    ∙ ap (λ (n : ℕ). old ++ (map variable_of code.vars.items ++ added_by_calls (added_below (blocks_in blocks) n) (map call_edge_of calls)))
    (sym (length-map blocks block_in))
    ∙ ap (λ (cs : List CodeCallEdge). old ++ (map variable_of code.vars.items
    ++ added_by_calls (added_below (blocks_in blocks) (length (blocks_in blocks))) (map call_edge_of cs))) same

pub some_named : (codes : List (Option CodeParts)) (b : ℕ) (p : CodeParts) → code_at codes b ≡ Some p
    → variables_at (blocks_in codes) b ≡ (inlined (blocks_in codes) (parts_of p)).vars
some_named codes b p at = ap (λ (o : Option Parts). variables_in (blocks_in codes) o) (some_block codes b p at)

pub none_named : (codes : List (Option CodeParts)) (b : ℕ) → code_at codes b ≡ None → variables_at (blocks_in codes) b ≡ []
none_named codes b none = ap (λ (o : Option Parts). variables_in (blocks_in codes) o) (none_block codes b none)
