-- Numbers of edges that are counted up to the limit, block after block, are what is defined.
use Rattle.std.proofs.Common.{◌≡◌, ℕ, zero, suc, ◌+◌, ◌-◌, ◌<◌, ◌≤◌, List, map, length, min, Result, Ok, Err, IfOk, IfErr, Option, Some, None, refl, sym, subst, ap, ◌∙◌, arith}
use Rattle.std.proofs.lemmas.List.{length-map}
use Rattle.pv_flow.specs.declared.parts.CallEdge.{CallEdge as CodeCallEdge}
use Rattle.pv_flow.specs.declared.parts.Parts.{Parts as CodeParts}
use Rattle.pv_flow.specs.Automata.{CallEdge, Parts}
use Rattle.pv_flow.specs.Calls.{Blocks, block_at}
use Rattle.pv_flow.specs.View.{terms_of, edge_of, call_edge_of, parts_of}
use Rattle.pv_call_copies.specs.Inlined.{size_by_calls, size_in, inlined_size}
use Rattle.pv_inline.specs.declared.fault.TheConstants.{BEYOND, MAX_EDGES}
use Rattle.pv_inline.specs.declared.fault.TooLarge.{TooLarge}
use Rattle.pv_inline.specs.Blocks.{block_in, blocks_in, code_at}
use Rattle.pv_inline.specs.Counts.{capped, size_below, size_after, calls_after}
use Rattle.pv_inline.specs.Correct.{IsSizeOf, IsTooLarge, IsWithin, IsOver}
use Rattle.pv_inline.proofs.Coded.{none_block}

-- ---- one block

sum_by : (most total edges all calls : ℕ) → edges ≡ min (total + all) most → min (edges + calls) most ≡ min (total + (all + calls)) most
sum_by most total edges all calls is = omega (arith, is)

-- a block's own edges, and what its call edges become
with_calls : (blocks : Blocks) (levels b total edges : ℕ) (p : Parts) → block_at blocks b ≡ Some p → edges ≡ capped (total + length p.edges)
    → calls_after blocks levels p.calls edges ≡ size_after blocks (suc levels) b total
with_calls blocks levels b total edges p at is =
    sum_by BEYOND total edges (length p.edges) (size_by_calls (size_below blocks levels) p.calls) is
    ∙ sym (ap (λ (o : Option Parts). capped (total + size_in (λ (c : ℕ). size_below blocks levels c) o)) at)

some_block : (blocks : Blocks) (levels less b total edges n r : ℕ) (p : Parts) (calls : List CallEdge)
    → levels ≡ suc less → block_at blocks b ≡ Some p → n ≡ length p.edges → edges ≡ capped (total + n) → calls ≡ p.calls
    → r ≡ calls_after blocks less calls edges → r ≡ size_after blocks levels b total
some_block blocks levels less b total edges n r p calls next at long is same e =
    e
    ∙ (ap (λ (cs : List CallEdge). calls_after blocks less cs edges) same
    ∙ (with_calls blocks less b total edges p at (is ∙ ap (λ (m : ℕ). capped (total + m)) long)
    ∙ sym (ap (λ (m : ℕ). size_after blocks m b total) next)))

-- of the code's parts
pub some_code : (blocks : Blocks) (levels b total edges n r : ℕ) (p : Parts) (code : CodeParts) (calls : List CodeCallEdge)
    → 0 < levels → block_at blocks b ≡ Some p → parts_of code ≡ p → n ≡ length code.edges.items → edges ≡ capped (total + n)
    → calls ≡ code.calls.items → r ≡ calls_after blocks (levels - 1) (map call_edge_of calls) edges
    → r ≡ size_after blocks levels b total
some_code blocks levels b total edges n r p code calls some at seen long is same e =
    some_block blocks levels (levels - 1) b total edges n r p (map call_edge_of calls) (omega (arith, some)) at
    (long ∙ (sym (length-map code.edges.items (edge_of (terms_of code.nodes.items) code.deeds.items)) ∙ ap (λ (q : Parts). length q.edges) seen))
    is (ap (map call_edge_of) same ∙ ap (λ (q : Parts). q.calls) seen) e

few : (most n : ℕ) → n < most → n ≡ min (n + 0) most
few most n h = omega (arith, h)

pub none_code : (codes : List (Option CodeParts)) (levels b total : ℕ) → code_at codes b ≡ None → total < BEYOND
    → total ≡ size_after (blocks_in codes) levels b total
none_code codes zero b total none lt = few BEYOND total lt
none_code codes (suc levels) b total none lt =
    few BEYOND total lt
    ∙ sym (ap (λ (o : Option Parts). capped (total + size_in (λ (c : ℕ). size_below (blocks_in codes) levels c) o)) (none_block codes b none))

-- ---- what is answered

most_is : BEYOND ≡ 200001
most_is = refl

edges_most : MAX_EDGES ≡ 200000
edges_most = refl

-- down as many levels as there are blocks
pub counted_is : (code : List (Option CodeParts)) (b counted : ℕ) → counted ≡ size_after (blocks_in code) (length code) b 0
    → counted ≡ capped (inlined_size (blocks_in code) b)
counted_is code b counted e =
    e
    ∙ (ap capped (none (size_below (blocks_in code) (length code) b))
    ∙ sym (ap (λ (n : ℕ). capped (size_below (blocks_in code) n b)) (length-map code block_in)))
  where
    none : (n : ℕ) → 0 + n ≡ n
    none n = omega arith

within_by : (most bound size whole : ℕ) → bound < most → size ≡ min whole most → size ≤ bound → size ≡ whole
within_by most bound size whole lt e le = omega (arith, lt, e, le)

over_by : (most bound whole : ℕ) → bound < min whole most → bound < whole
over_by most bound whole lt = omega (arith, lt)

pub sizes_are_told : (blocks : Blocks) (b counted : ℕ) (r : Result ℕ TooLarge) → counted ≡ capped (inlined_size blocks b)
    → IfOk r (IsWithin counted) → IfOk r (IsSizeOf blocks b)
sizes_are_told blocks b counted (Ok size) e is =
    (within_by BEYOND MAX_EDGES size (inlined_size blocks b) (omega (arith, most_is, edges_most)) (is.0 ∙ e) is.1, is.1)
sizes_are_told blocks b counted (Err fault) e is = tt

pub faults_are_told : (blocks : Blocks) (b counted : ℕ) (r : Result ℕ TooLarge) → counted ≡ capped (inlined_size blocks b)
    → IfErr r (IsOver counted) → IfErr r (IsTooLarge blocks b)
faults_are_told blocks b counted (Ok size) e is = tt
faults_are_told blocks b counted (Err fault) e is =
    (is.0, over_by BEYOND MAX_EDGES (inlined_size blocks b) (subst (λ (m : ℕ). MAX_EDGES < m) e is.1))
