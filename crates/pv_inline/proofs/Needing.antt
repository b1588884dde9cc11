-- What called blocks take, block after block: variables and text.
use Rattle.std.proofs.Common.{◌≡◌, ℕ, zero, suc, ◌+◌, ◌-◌, ◌<◌, ◌≤◌, List, map, Option, Some, None, refl, sym, ap, ◌∙◌, arith}
use Rattle.pv_flow.specs.declared.parts.CallEdge.{CallEdge as CodeCallEdge}
use Rattle.pv_flow.specs.declared.parts.Parts.{Parts as CodeParts}
use Rattle.pv_flow.specs.Automata.{Parts}
use Rattle.pv_flow.specs.Calls.{own_count, needed_by_calls, needed_in, needed_within}
use Rattle.pv_flow.specs.View.{call_edge_of, parts_of}
use Rattle.pv_call_copies.specs.Inlined.{span_in}
use Rattle.pv_call_tables.specs.Standings.{standings_of, calls_of}
use Rattle.pv_call_tables.specs.Widths.{text_at, summed}
use Rattle.pv_inline.specs.Blocks.{blocks_in, code_at}
use Rattle.pv_inline.specs.Tables.{spans_of, span_below}
use Rattle.pv_inline.proofs.Coded.{some_block, none_block, next}
use Rattle.pv_inline.proofs.Tabling.{text_sums}

-- ---- variables

pub none_needs : (blocks : List (Option CodeParts)) (levels b : ℕ) → code_at blocks b ≡ None → 0 ≡ needed_within (blocks_in blocks) levels b
none_needs blocks zero b none = refl
none_needs blocks (suc levels) b none =
    sym (ap (λ (o : Option Parts). needed_in (λ c. needed_within (blocks_in blocks) levels c) o) (none_block blocks b none))

pub some_needs : (blocks : List (Option CodeParts)) (levels b own n : ℕ) (p : CodeParts) (calls : List CodeCallEdge) → 0 < levels
    → code_at blocks b ≡ Some p → own ≡ own_count (parts_of p) → calls ≡ p.calls.items
    → n ≡ own + needed_by_calls (needed_within (blocks_in blocks) (levels - 1)) (map call_edge_of calls)
    → n ≡ needed_within (blocks_in blocks) levels b
some_needs blocks levels b own n p calls some at mine same is =
    is
    ∙ (ap (λ (k : ℕ). k + needed_by_calls (needed_within (blocks_in blocks) (levels - 1)) (map call_edge_of calls)) mine
    ∙ (ap (λ (cs : List CodeCallEdge). own_count (parts_of p)
    + needed_by_calls (needed_within (blocks_in blocks) (levels - 1)) (map call_edge_of cs)) same
    ∙ sym (ap (λ (m : ℕ). needed_within (blocks_in blocks) m b) (next levels some)
    ∙ ap (λ (o : Option Parts). needed_in (λ c. needed_within (blocks_in blocks) (levels - 1) c) o) (some_block blocks b p at))))

-- ---- text

pub none_spans : (blocks : List (Option CodeParts)) (levels b : ℕ) → code_at blocks b ≡ None → 0 ≡ span_below (blocks_in blocks) levels b
none_spans blocks zero b none = refl
none_spans blocks (suc levels) b none =
    sym (ap (λ (o : Option Parts). span_in (λ (c : ℕ). span_below (blocks_in blocks) levels c) o) (none_block blocks b none))

pub some_spans : (blocks : List (Option CodeParts)) (levels b n : ℕ) (p : CodeParts) (calls : List CodeCallEdge) (texts : List ℕ) → 0 < levels
    → code_at blocks b ≡ Some p → calls ≡ p.calls.items → texts ≡ spans_of (span_below (blocks_in blocks) (levels - 1)) calls
    → n ≡ summed (text_at (standings_of p) (calls_of p) texts) p.locations → n ≡ span_below (blocks_in blocks) levels b
some_spans blocks levels b n p calls texts some at same told is =
    is
    ∙ (ap (λ (ts : List ℕ). summed (text_at (standings_of p) (calls_of p) ts) p.locations)
    (told ∙ ap (λ (cs : List CodeCallEdge). spans_of (span_below (blocks_in blocks) (levels - 1)) cs) same)
    ∙ (text_sums (span_below (blocks_in blocks) (levels - 1)) p p.locations (same_le p.locations)
    ∙ sym (ap (λ (m : ℕ). span_below (blocks_in blocks) m b) (next levels some)
    ∙ ap (λ (o : Option Parts). span_in (λ (c : ℕ). span_below (blocks_in blocks) (levels - 1) c) o) (some_block blocks b p at))))
  where
    same_le : (m : ℕ) → m ≤ m
    same_le m = omega arith
