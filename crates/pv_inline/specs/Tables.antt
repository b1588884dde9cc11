-- What is known of a block that is copied, as lists.
use Rattle.std.specs.Prelude.{ℕ, ◌+◌, List, [], ◌∷◌, map, replicate, Option}
use Rattle.pv_flow.specs.declared.parts.CallEdge.{CallEdge as CodeCallEdge}
use Rattle.pv_flow.specs.declared.parts.Parts.{Parts as CodeParts}
use Rattle.pv_flow.specs.Calls.{Blocks, needed}
use Rattle.pv_call_copies.specs.Levels.{down}
use Rattle.pv_call_copies.specs.Inlined.{span_in, span, inlined_size}
use Rattle.pv_call_tables.specs.declared.marks.Standing.{Standing}
use Rattle.pv_call_tables.specs.Standings.{standings_of, calls_of}
use Rattle.pv_call_tables.specs.Chains.{Chains, chains_of, from_of, first_of}
use Rattle.pv_call_tables.specs.Ranks.{counted, ranks_by}
use Rattle.pv_call_tables.specs.Widths.{text_at, drawn_at, sums_below}
use Rattle.pv_inline.specs.Blocks.{blocks_in}

-- ---- of call edges

abbrev pub span_below : Blocks → ℕ → ℕ → ℕ
span_below blocks levels b = down 0 span_in blocks levels b

abbrev pub spans_of : (ℕ → ℕ) → List CodeCallEdge → List ℕ
spans_of spans calls = map (λ call. spans call.block) calls

-- how many edges the copy of a called block has, that out included
abbrev pub copy_size : Blocks → ℕ → ℕ
copy_size blocks b = inlined_size blocks b + 1

abbrev pub sizes_of : Blocks → List CodeCallEdge → List ℕ
sizes_of blocks calls = map (λ call. copy_size blocks call.block) calls

-- with so many variables before
abbrev pub bases_of : Blocks → ℕ → List CodeCallEdge → List ℕ
bases_of blocks total [] = total ∷ []
bases_of blocks total (call ∷ calls) = total ∷ bases_of blocks (total + needed blocks call.block) calls

-- ---- of a block

pub record Table : Type 0 where
  pub ends : List Standing
  pub calls : List (Option ℕ)
  pub texts : List ℕ
  pub bases : List ℕ
  pub starts : List ℕ
  pub drawn : List ℕ
  pub ranks : List ℕ
  pub edges : Chains
  pub loops : Chains

abbrev pub starts_in : Blocks → CodeParts → List ℕ
starts_in blocks p = sums_below (text_at (standings_of p) (calls_of p) (spans_of (span blocks) p.calls.items)) p.locations

abbrev pub drawn_in : Blocks → CodeParts → ℕ → List ℕ
drawn_in blocks p outs = sums_below (drawn_at (standings_of p) (calls_of p) (sizes_of blocks p.calls.items)
    (counted (replicate p.locations 0) p.edges.items) outs) p.locations

-- from which so many edges lead out where it is done
abbrev pub table_in : List (Option CodeParts) → CodeParts → ℕ → Table
table_in blocks p outs = record {
  ends = standings_of p;
  calls = calls_of p;
  texts = spans_of (span (blocks_in blocks)) p.calls.items;
  bases = bases_of (blocks_in blocks) 0 p.calls.items;
  starts = starts_in (blocks_in blocks) p;
  drawn = drawn_in (blocks_in blocks) p outs;
  ranks = ranks_by (replicate p.locations 0) p.edges.items;
  edges = chains_of p.locations (map from_of p.edges.items);
  loops = chains_of p.locations (map first_of p.loops.items);
}
