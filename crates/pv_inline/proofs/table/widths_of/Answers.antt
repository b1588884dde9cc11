use Rattle.std.proofs.Common.{ℕ, List, length, replicate, refl, ap, ◌∙◌}
use Rattle.pv_flow.specs.declared.parts.CallEdge.{CallEdge}
use Rattle.pv_call_tables.specs.Ranks.{counted}
use Rattle.pv_inline.specs.Blocks.{blocks_in, codes_in}
use Rattle.pv_inline.specs.Tables.{span_below, spans_of, sizes_of, bases_of}
use Rattle.pv_call_tables.specs.Standings.{standings_of, calls_of}
use Rattle.pv_call_tables.proofs.ForCallers.{passed_on}
use Rattle.pv_inline.proofs.Shorts.{texts_short, starts_short}
use Rattle.pv_inline.proofs.Coding.{starts_seen, drawn_seen}
use Rattle.pv_inline.proofs.table.widths_of.Goals as goal

pub returns-clause-made : goal.returns-clause-made
returns-clause-made c = record {
  texts = (c.in_ok-texts.ensures.made ∙ ap (λ (n : ℕ). spans_of (span_below (blocks_in (codes_in c.args.blocks.now)) n) c.as_slice-run.result.now) c.count.ensures)
      ∙ ap (λ (cs : List CallEdge). spans_of (span_below (blocks_in (codes_in c.args.blocks.now)) (length (codes_in c.args.blocks.now))) cs) c.as_slice-run.ensures.value;
  bases = c.in_ok-bases.ensures.made ∙ ap (λ (cs : List CallEdge). bases_of (blocks_in (codes_in c.args.blocks.now)) 0 cs) c.as_slice-run.ensures.value;
  starts = starts_seen c.outline-outline.result.ends.now c.args.marks.now.ends.items c.outline-outline.result.calls.now c.args.marks.now.calls.items
      c.as_slice.result.now c.in_ok-texts.texts.items c.args.parts.now.locations c.in_ok-starts.starts.items c.outline-outline.ensures.ends
      c.outline-outline.ensures.calls c.as_slice.ensures.value c.in_ok-starts.ensures.starts;
  drawn = drawn_seen c.outline-outline.result.ends.now c.args.marks.now.ends.items c.outline-outline.result.calls.now c.args.marks.now.calls.items
      (sizes_of (blocks_in (codes_in c.args.blocks.now)) c.args.parts.now.calls.items) (sizes_of (blocks_in (codes_in c.args.blocks.now)) c.args.parts.now.calls.items)
      (counted (replicate c.args.parts.now.locations 0) c.args.parts.now.edges.items)
      (counted (replicate c.args.parts.now.locations 0) c.args.parts.now.edges.items) c.args.outs c.args.parts.now.locations
      c.in_ok-drawn.drawn.items c.outline-outline.ensures.ends c.outline-outline.ensures.calls refl refl c.in_ok-drawn.ensures.made;
}

pub returns-in_err-texts-clause-short : goal.returns-in_err-texts-clause-short
returns-in_err-texts-clause-short c short ends calls =
    passed_on c.from_residual.result c.in_err-texts.field-0.0 c.from_residual.ensures.1
    (c.in_err-texts.ensures.short (texts_short (codes_in c.args.blocks.now) c.count.result c.args.parts.now.calls.items c.as_slice-run.result.now c.count.ensures
    c.as_slice-run.ensures.value short.texts))

pub returns-in_err-starts-clause-short : goal.returns-in_err-starts-clause-short
returns-in_err-starts-clause-short c short ends calls =
    passed_on c.from_residual-in_err-starts.result c.in_err-starts.field-0.0 c.from_residual-in_err-starts.ensures.1
    (c.in_err-starts.ensures.short (starts_short c.outline-outline.result.ends.now (standings_of c.args.parts.now) c.outline-outline.result.calls.now
    (calls_of c.args.parts.now) c.as_slice.result.now
    (spans_of (span_below (blocks_in (codes_in c.args.blocks.now)) (length (codes_in c.args.blocks.now))) c.args.parts.now.calls.items) c.args.parts.now.locations
    (c.outline-outline.ensures.ends ∙ ends) (c.outline-outline.ensures.calls ∙ calls)
    (c.as_slice.ensures.value ∙ ((c.in_ok-texts.ensures.made
    ∙ ap (λ (n : ℕ). spans_of (span_below (blocks_in (codes_in c.args.blocks.now)) n) c.as_slice-run.result.now) c.count.ensures)
    ∙ ap (λ (cs : List CallEdge). spans_of (span_below (blocks_in (codes_in c.args.blocks.now)) (length (codes_in c.args.blocks.now))) cs) c.as_slice-run.ensures.value))
    short.text))
