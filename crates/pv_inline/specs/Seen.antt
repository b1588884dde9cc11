-- The code's tables, copies and what is made, as plain data.
use Rattle.std.specs.Prelude.{◌≡◌, ℕ, ◌+◌, List, map, length, replicate, slice_index_or, Option, Some}
use Rattle.pv_flow.specs.declared.parts.CallEdge.{CallEdge}
use Rattle.pv_flow.specs.declared.parts.Parts.{Parts}
use Rattle.pv_flow.specs.Calls.{own_count}
use Rattle.pv_flow.specs.View.{loop_of, parts_of}
use Rattle.pv_call_tables.specs.Ranks.{counted}
use Rattle.pv_call_tables.specs.Seen.{chains_seen}
use Rattle.pv_call_tables.specs.Widths.{text_at, drawn_at, sums_below}
use Rattle.pv_call_terms.specs.Places.{place_of}
use Rattle.pv_call_terms.specs.Deeds.{deed_seen}
use Rattle.pv_inline.specs.declared.table.Table.{Table as CodeTable}
use Rattle.pv_inline.specs.declared.table.Marks.{Marks}
use Rattle.pv_inline.specs.declared.table.Widths.{Widths}
use Rattle.pv_inline.specs.declared.making.Making.{Making as CodeMaking}
use Rattle.pv_inline.specs.declared.copying.Body.{Body}
use Rattle.pv_inline.specs.declared.copying.Copying.{Copying}
use Rattle.pv_inline.specs.Blocks.{blocks_in}
use Rattle.pv_inline.specs.Tables.{Table, span_below, spans_of, sizes_of, bases_of}
use Rattle.pv_inline.specs.Walking.{Making, Copy, number, aim}

abbrev pub table_seen : CodeTable → Table
table_seen t = record {
  ends = t.marks.ends.items;
  calls = t.marks.calls.items;
  texts = t.widths.texts.items;
  bases = t.widths.bases.items;
  starts = t.widths.starts.items;
  drawn = t.widths.drawn.items;
  ranks = t.begins.ranks.items;
  edges = chains_seen t.begins.edges;
  loops = chains_seen t.begins.loops;
}

abbrev pub making_seen : CodeMaking → Making
making_seen m = record { nodes = m.nodes.items; deeds = map deed_seen m.deeds.items; drawn = m.drawn.items; loops = map loop_of m.loops.items }

abbrev pub copy_seen : Copying → Copy
copy_seen c = record {
  parts = c.parts.now;
  table = table_seen c.table.now;
  place = place_of c.places.now;
  shared_at = c.places.now.shared_at;
  start = c.body.start;
  out = c.body.out;
  deeds = c.body.deeds;
  edges = c.body.edges;
  free = c.body.free;
}

-- of what a call edge from location l runs, whose own variables lie from a number on
pub record IsCalleeBody (c : Copy) (l : ℕ) (call : CallEdge) (q : Parts) (own_at : ℕ) (b : Body) : Type 0 where
  pub start : b.start ≡ number c l + 1
  pub out : b.out ≡ Some (aim c call.to)
  pub deeds : b.deeds ≡ 0
  pub edges : b.edges ≡ (c.edges + slice_index_or c.table.drawn l 0) + 1
  pub free : b.free ≡ own_at + own_count (parts_of q)

-- numbers of a block with these marks from which so many edges lead out where it is done
pub record AreWidths (codes : List (Option Parts)) (p : Parts) (marks : Marks) (outs : ℕ) (w : Widths) : Type 0 where
  pub texts : w.texts.items ≡ spans_of (span_below (blocks_in codes) (length codes)) p.calls.items
  pub bases : w.bases.items ≡ bases_of (blocks_in codes) 0 p.calls.items
  pub starts : w.starts.items ≡ sums_below (text_at marks.ends.items marks.calls.items w.texts.items) p.locations
  pub drawn : w.drawn.items ≡ sums_below (drawn_at marks.ends.items marks.calls.items (sizes_of (blocks_in codes) p.calls.items)
      (counted (replicate p.locations 0) p.edges.items) outs) p.locations
