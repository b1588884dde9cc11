use Rattle.std.proofs.Common.{List, replicate, refl, ap, ◌∙◌}
use Rattle.pv_flow.specs.declared.parts.CallEdge.{CallEdge}
use Rattle.pv_flow.specs.declared.parts.Edge.{Edge}
use Rattle.pv_call_tables.specs.Ranks.{counted}
use Rattle.pv_inline.specs.Blocks.{blocks_in, codes_in}
use Rattle.pv_inline.specs.Tables.{sizes_of}
use Rattle.pv_inline.proofs.Coded.{ok_by}
use Rattle.pv_inline.proofs.Coding.{drawn_seen}
use Rattle.pv_inline.proofs.table.drawn_of.Goals as goal

pub returns-clause-made : goal.returns-clause-made
returns-clause-made c =
    ok_by c.drawn_before.result (λ made is. drawn_seen c.args.outline.now.ends.now c.args.outline.now.ends.now c.args.outline.now.calls.now
    c.args.outline.now.calls.now c.as_slice-size_list.result.now (sizes_of (blocks_in (codes_in c.args.blocks.now)) c.args.parts.now.calls.items)
    c.as_slice-count_list.result.now (counted (replicate c.args.parts.now.locations 0) c.args.parts.now.edges.items) c.args.outs
    c.args.parts.now.locations made.items refl refl
    (c.as_slice-size_list.ensures.value ∙ (c.in_ok-sizes.ensures.made
    ∙ ap (λ (cs : List CallEdge). sizes_of (blocks_in (codes_in c.args.blocks.now)) cs) c.as_slice-run.ensures.value))
    (c.as_slice-count_list.ensures.value ∙ (c.in_ok-counts.ensures.found
    ∙ ap (λ (es : List Edge). counted (replicate c.args.parts.now.locations 0) es) c.as_slice-all.ensures.value)) is) c.drawn_before.ensures.drawn
