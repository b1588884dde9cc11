-- That each number of the copies has 32 bits. Where it is so, only memory may be wanting.
use Rattle.std.specs.Prelude.{◌≡◌, ℕ, zero, suc, ◌+◌, ◌≤◌, List, [], ◌∷◌, map, length, replicate, slice_get, slice_index_or, Option, Some, None}
use Rattle.pv_flow.specs.declared.parts.Edge.{Edge as CodeEdge}
use Rattle.pv_flow.specs.declared.parts.CallEdge.{CallEdge as CodeCallEdge}
use Rattle.pv_flow.specs.declared.parts.Parts.{Parts as CodeParts}
use Rattle.pv_flow.specs.Calls.{own_count, needed, needed_by_calls}
use Rattle.pv_flow.specs.View.{call_edge_of, parts_of}
use Rattle.pv_call_copies.specs.Inlined.{inlined_size}
use Rattle.pv_call_tables.specs.declared.fault.Wanting.{Wanting}
use Rattle.pv_call_tables.specs.declared.fault.Wanting.TheVariants as wanting
use Rattle.pv_call_tables.specs.declared.marks.Standing.TheVariants as standing
use Rattle.pv_call_tables.specs.Standings.{standings_of, calls_of}
use Rattle.pv_call_tables.specs.Ranks.{counted}
use Rattle.pv_call_tables.specs.Widths.{of_call, text_at, drawn_at, summed}
use Rattle.pv_call_tables.specs.Drawing.{next_after}
use Rattle.pv_inline.specs.declared.fault.TooLarge.{TooLarge}
use Rattle.pv_inline.specs.declared.fault.TooLarge.TheVariants as large
use Rattle.pv_inline.specs.declared.fault.TheConstants.{MAX_EDGES}
use Rattle.pv_inline.specs.Numbers.{MOST}
use Rattle.pv_inline.specs.Blocks.{blocks_in, code_at}
use Rattle.pv_inline.specs.Tables.{span_below, spans_of, sizes_of, starts_in}
use Rattle.pv_inline.specs.Variables.{variables_at}
use Rattle.pv_inline.specs.Walking.{Making, Copy, with_deeds, number, turn, base, callee_copy, entry_copy, all_made}

-- the blocks that the call edges run
abbrev pub EachCall : (ℕ → Type 0) → List CodeCallEdge → Type 0
EachCall P [] = Unit {0}
EachCall P (call ∷ calls) = P call.block × EachCall P calls

-- ---- tables of blocks

-- how much text the block has whose call edges' blocks have so much
abbrev pub text_of : CodeParts → List ℕ → ℕ
text_of p texts = summed (text_at (standings_of p) (calls_of p) texts) p.locations

-- the text of a copy of the block, and of what it calls, down so many levels of calls
abbrev pub HasShortText : List (Option CodeParts) → ℕ → ℕ → Type 0
HasShortText codes zero b = Unit {0}
HasShortText codes (suc levels) b = elim (code_at codes b) [
  | None ↦ Unit {0}
  | Some p ↦ (text_of p (spans_of (span_below (blocks_in codes) levels) p.calls.items) ≤ MOST) × EachCall (HasShortText codes levels) p.calls.items
]

-- the called blocks' copies have no more edges than there may be, as where the entry hasn't and no block calls itself
abbrev pub AreSmall : List (Option CodeParts) → List CodeCallEdge → Type 0
AreSmall codes calls = EachCall (λ b. inlined_size (blocks_in codes) b ≤ MAX_EDGES) calls

-- the numbers of text, edges and variables, counted from a copy's beginning; of a block from which so many edges lead out where it is done
pub record HasShortTable (codes : List (Option CodeParts)) (p : CodeParts) (outs : ℕ) : Type 0 where
  pub texts : EachCall (HasShortText codes (length codes)) p.calls.items
  pub text : text_of p (spans_of (span_below (blocks_in codes) (length codes)) p.calls.items) ≤ MOST
  pub sizes : AreSmall codes p.calls.items
  pub edges : length p.edges.items ≤ MOST
  pub drawn : summed (drawn_at (standings_of p) (calls_of p) (sizes_of (blocks_in codes) p.calls.items)
      (counted (replicate p.locations 0) p.edges.items) outs) p.locations ≤ MOST
  pub variables : needed_by_calls (needed (blocks_in codes)) (map call_edge_of p.calls.items) ≤ MOST

-- ---- copies

-- where each location stands, and where the text of what is called there ends; the numbers of its edges, and of their deeds, before which
-- there are so many
pub record HasShortNumbers (c : Copy) (before : ℕ) : Type 0 where
  pub text : (l : ℕ) → number c l + of_call c.table.texts (slice_index_or c.table.calls l None) ≤ MOST
  pub turns : (e : ℕ) → turn c e ≤ MOST
  pub deeds : (e : ℕ) (edge : CodeEdge) → slice_get c.parts.edges.items e ≡ Some edge → before + edge.deed ≤ MOST

-- the numbers with which the copy of block q begins that call edge j from location l runs
pub record BeginsShort (codes : List (Option CodeParts)) (c : Copy) (l j : ℕ) (q : CodeParts) : Type 0 where
  pub table : HasShortTable codes q 1
  pub start : number c l + 1 ≤ MOST
  pub edges : (c.edges + slice_index_or c.table.drawn l 0) + 1 ≤ MOST
  pub variables : base c j + own_count (parts_of q) ≤ MOST

-- at location l call edge j runs block q
pub record IsCalled (codes : List (Option CodeParts)) (c : Copy) (l j : ℕ) (call : CodeCallEdge) (q : CodeParts) : Type 0 where
  pub goes_on : slice_index_or c.table.ends l standing.Nothing ≡ standing.Nothing
  pub begins : slice_index_or c.table.calls l None ≡ Some j
  pub is_call : slice_get c.parts.calls.items j ≡ Some call
  pub is_block : code_at codes call.block ≡ Some q

-- the copies that the entry and its calls have, from which so many levels of calls go down, their own included
pub data IsReached (codes : List (Option CodeParts)) (p : CodeParts) : ℕ → Copy → Type 0 where
  entry : IsReached codes p (suc (length codes)) (entry_copy codes p)
  called : (levels : ℕ) (c : Copy) (l j : ℕ) (call : CodeCallEdge) (q : CodeParts) → IsReached codes p (suc levels) c
      → IsCalled codes c l j call q → IsReached codes p levels (callee_copy codes c l j call q)

-- ---- all together

-- of block p with its calls: its own table, where its variables end, each copy and where it begins, and how much there is in the end
pub record AreShort (codes : List (Option CodeParts)) (p : CodeParts) : Type 0 where
  pub table : HasShortTable codes p 0
  pub free : length p.vars.items ≤ MOST
  pub copies : (levels : ℕ) (c : Copy) → IsReached codes p levels c → HasShortNumbers c (length (all_made codes p).deeds)
  pub calls : (levels : ℕ) (c : Copy) (l j : ℕ) (call : CodeCallEdge) (q : CodeParts) → IsReached codes p (suc levels) c
      → IsCalled codes c l j call q → BeginsShort codes c l j q
  pub nodes : length (all_made codes p).nodes ≤ MOST
  pub deeds : length (all_made codes p).deeds ≤ MOST
  pub locations : next_after (slice_index_or (starts_in (blocks_in codes) p) p.locations 0) (all_made codes p).drawn ≤ MOST

-- of block b, if there is one, with its variables
abbrev pub HasShortCopies : List (Option CodeParts) → ℕ → Type 0
HasShortCopies codes b = elim (code_at codes b) [
  | None ↦ Unit {0}
  | Some p ↦ AreShort codes p × (length (variables_at (blocks_in codes) b) ≤ MOST)
]

-- ---- what private clauses cite

-- with as many deeds before its own as stand before them
abbrev pub IsShort : Copy → Type 0
IsShort c = HasShortNumbers c c.deeds

-- no fewer nodes and deeds are made
pub record HasNoMore (m new : Making) : Type 0 where
  pub nodes : length m.nodes ≤ length new.nodes
  pub deeds : length m.deeds ≤ length new.deeds

-- one of the copies of block p, with the deeds that stand before its own
pub record IsAtWork (codes : List (Option CodeParts)) (p : CodeParts) (levels : ℕ) (c : Copy) : Type 0 where
  pub reached : IsReached codes p levels (with_deeds 0 c)
  pub deeds : c.deeds ≤ length (all_made codes p).deeds

-- what is told of what is wanting
abbrev pub told : Wanting → TooLarge
told wanting.Numbers = large.Numbers
told wanting.NoMemory = large.NoMemory
