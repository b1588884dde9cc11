-- What each step asks of numbers follows of what is asked of all.
use Rattle.std.proofs.Common.{◌≡◌, ℕ, zero, suc, ◌+◌, ◌-◌, ◌<◌, ◌≤◌, List, [], ◌∷◌, length, drop, map, Option, Some, None, refl, sym, subst, ap, ◌∙◌, arith}
use Rattle.std.specs.Prelude.{slice_index_or}
use Rattle.std.proofs.lemmas.List.{drop_more, length-map}
use Rattle.pv_flow.specs.declared.parts.CallEdge.{CallEdge as CodeCallEdge}
use Rattle.pv_flow.specs.declared.parts.Parts.{Parts as CodeParts}
use Rattle.pv_flow.specs.Calls.{own_count, needed, needed_by_calls, needed_within}
use Rattle.pv_flow.specs.View.{call_edge_of, parts_of}
use Rattle.pv_call_tables.specs.declared.marks.Standing.{Standing}
use Rattle.pv_call_tables.specs.Widths.{text_at, summed}
use Rattle.pv_inline.specs.declared.fault.TooLarge.{TooLarge}
use Rattle.pv_inline.specs.Numbers.{MOST}
use Rattle.pv_inline.specs.Blocks.{block_in, blocks_in, code_at}
use Rattle.pv_inline.specs.Correct.{IsTooLarge}
use Rattle.pv_inline.specs.Inlining.{IsTooMany}
use Rattle.pv_inline.specs.Tables.{span_below, spans_of}
use Rattle.pv_inline.specs.Short.{EachCall, text_of, HasShortText}
use Rattle.pv_inline.proofs.Coded.{next}
use Rattle.pv_inline.proofs.Needing.{some_needs}

pub le_short : (a b : ℕ) → a ≤ b → b ≤ MOST → a ≤ MOST
le_short a b le short = omega (arith, le, short)

pub first_short : (a b : ℕ) → a + b ≤ MOST → a ≤ MOST
first_short a b short = omega (arith, short)

-- ---- of each call edge

pub each_at : (P : ℕ → Type 0) (calls : List CodeCallEdge) (i : ℕ) (d : CodeCallEdge) → i < length calls → EachCall P calls
    → P (slice_index_or calls i d).block
each_at P [] i d lt each = absurd (omega (arith, lt))
each_at P (call ∷ calls) zero d lt each = each.0
each_at P (call ∷ calls) (suc i) d lt each = each_at P calls i d (omega (arith, lt)) each.1

-- ---- variables

part_by : (all part rest total whole : ℕ) → all + (part + rest) ≡ total + whole → total + whole ≤ MOST → all + part ≤ MOST
part_by all part rest total whole e short = omega (arith, e, short)

pub need_short : (f : ℕ → ℕ) (calls : List CodeCallEdge) (i : ℕ) (d : CodeCallEdge) (all total n : ℕ) → i < length calls
    → all + needed_by_calls f (map call_edge_of (drop i calls)) ≡ total + needed_by_calls f (map call_edge_of calls)
    → total + needed_by_calls f (map call_edge_of calls) ≤ MOST → n ≡ f (slice_index_or calls i d).block → all + n ≤ MOST
need_short f calls i d all total n lt same short is =
    subst (λ (k : ℕ). all + k ≤ MOST) (sym is)
    (part_by all (f (slice_index_or calls i d).block) (needed_by_calls f (map call_edge_of (drop (i + 1) calls))) total
    (needed_by_calls f (map call_edge_of calls))
    (ap (λ (cs : List CodeCallEdge). all + needed_by_calls f (map call_edge_of cs)) (sym (drop_more calls i d lt)) ∙ same) short)

second_short : (a b : ℕ) → a + b ≤ MOST → b ≤ MOST
second_short a b short = omega (arith, short)

pub called_short : (f : ℕ → ℕ) (calls : List CodeCallEdge) (i : ℕ) (d : CodeCallEdge) (all total : ℕ) → i < length calls
    → all + needed_by_calls f (map call_edge_of (drop i calls)) ≡ total + needed_by_calls f (map call_edge_of calls)
    → total + needed_by_calls f (map call_edge_of calls) ≤ MOST → f (slice_index_or calls i d).block ≤ MOST
called_short f calls i d all total lt same short =
    second_short all (f (slice_index_or calls i d).block) (need_short f calls i d all total (f (slice_index_or calls i d).block) lt same short refl)

pub block_short : (codes : List (Option CodeParts)) (levels b own : ℕ) (p : CodeParts) (calls : List CodeCallEdge) → 0 < levels
    → code_at codes b ≡ Some p → own ≡ own_count (parts_of p) → calls ≡ p.calls.items → needed_within (blocks_in codes) levels b ≤ MOST
    → own + needed_by_calls (needed_within (blocks_in codes) (levels - 1)) (map call_edge_of calls) ≤ MOST
block_short codes levels b own p calls some at mine same short =
    subst (λ (n : ℕ). n ≤ MOST) (sym (some_needs codes levels b own
    (own + needed_by_calls (needed_within (blocks_in codes) (levels - 1)) (map call_edge_of calls)) p calls some at mine same refl)) short

pub own_short : (codes : List (Option CodeParts)) (levels b : ℕ) (p : CodeParts) → 0 < levels → code_at codes b ≡ Some p
    → needed_within (blocks_in codes) levels b ≤ MOST → own_count (parts_of p) ≤ MOST
own_short codes levels b p some at short =
    first_short (own_count (parts_of p)) (needed_by_calls (needed_within (blocks_in codes) (levels - 1)) (map call_edge_of p.calls.items))
    (block_short codes levels b (own_count (parts_of p)) p p.calls.items some at refl refl short)

-- counted down as many levels as there are blocks
levels_are : (codes : List (Option CodeParts)) (n : ℕ) → n ≡ length codes → n ≡ length (blocks_in codes)
levels_are codes n long = long ∙ sym (length-map codes block_in)

pub needed_at : (codes : List (Option CodeParts)) (b n : ℕ) → n ≡ length codes → needed (blocks_in codes) b ≤ MOST
    → needed_within (blocks_in codes) n b ≤ MOST
needed_at codes b n long short = subst (λ (k : ℕ). needed_within (blocks_in codes) k b ≤ MOST) (sym (levels_are codes n long)) short

pub needed_as : (codes : List (Option CodeParts)) (b n m : ℕ) → n ≡ length codes → m ≡ needed_within (blocks_in codes) n b
    → m ≡ needed (blocks_in codes) b
needed_as codes b n m long is = is ∙ ap (λ (k : ℕ). needed_within (blocks_in codes) k b) (levels_are codes n long)

pub from_zero : (n : ℕ) → n ≤ MOST → 0 + n ≤ MOST
from_zero n short = omega (arith, short)

-- ---- text

abbrev TextOf : List (Option CodeParts) → ℕ → Option CodeParts → Type 0
TextOf codes levels o = elim o [
  | None ↦ Unit {0}
  | Some p ↦ (text_of p (spans_of (span_below (blocks_in codes) levels) p.calls.items) ≤ MOST) × EachCall (HasShortText codes levels) p.calls.items
]

pub text_short : (codes : List (Option CodeParts)) (levels b : ℕ) (p : CodeParts) → 0 < levels → code_at codes b ≡ Some p
    → HasShortText codes levels b → TextOf codes (levels - 1) (Some p)
text_short codes levels b p some at short =
    subst (λ (o : Option CodeParts). TextOf codes (levels - 1) o) at
    (subst (λ (n : ℕ). HasShortText codes n b) (next levels some) short)

pub texts_short : (codes : List (Option CodeParts)) (n : ℕ) (calls run : List CodeCallEdge) → n ≡ length codes → run ≡ calls
    → EachCall (HasShortText codes (length codes)) calls → EachCall (HasShortText codes n) run
texts_short codes n calls run long same each =
    subst (λ (k : ℕ). EachCall (HasShortText codes k) run) (sym long)
    (subst (λ (cs : List CodeCallEdge). EachCall (HasShortText codes (length codes)) cs) (sym same) each)

pub starts_short : (ends marks : List Standing) (at calls : List (Option ℕ)) (texts all : List ℕ) (n : ℕ) → ends ≡ marks → at ≡ calls
    → texts ≡ all
    → summed (text_at marks calls all) n ≤ MOST → summed (text_at ends at texts) n ≤ MOST
starts_short ends marks at calls texts all n e h g short =
    subst (λ (x : List Standing). summed (text_at x at texts) n ≤ MOST) (sym e)
    (subst (λ (x : List (Option ℕ)). summed (text_at marks x texts) n ≤ MOST) (sym h)
    (subst (λ (x : List ℕ). summed (text_at marks calls x) n ≤ MOST) (sym g) short))

-- ---- what is told

pub too_many : (bs : List (Option CodeParts)) (b : ℕ) (fault : TooLarge) → IsTooLarge (blocks_in bs) b fault
    → IsTooMany (blocks_in bs) bs b fault
too_many bs b fault is = subst (λ (f : TooLarge). IsTooMany (blocks_in bs) bs b f) (sym is.0) is.1
