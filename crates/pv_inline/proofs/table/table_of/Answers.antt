use Rattle.std.proofs.Common.{replicate, refl}
use Rattle.pv_call_tables.specs.Ranks.{counted}
use Rattle.pv_inline.specs.Blocks.{blocks_in, codes_in}
use Rattle.pv_inline.specs.Tables.{sizes_of}
use Rattle.pv_inline.proofs.Coding.{table_is}
use Rattle.pv_inline.proofs.table.table_of.Goals as goal

pub returns-clause-made : goal.returns-clause-made
returns-clause-made c =
    table_is (codes_in c.args.blocks.now) c.args.parts.now c.args.outs _ c.args.parts.now.calls.items
    (sizes_of (blocks_in (codes_in c.args.blocks.now)) c.args.parts.now.calls.items)
    (counted (replicate c.args.parts.now.locations 0) c.args.parts.now.edges.items) c.in_ok-marks.ensures.ends c.in_ok-marks.ensures.calls refl
    c.in_ok-widths.ensures.made.texts refl refl c.in_ok-widths.ensures.made.bases c.in_ok-widths.ensures.made.starts c.in_ok-widths.ensures.made.drawn
    c.in_ok-begins.ensures.ranks c.in_ok-begins.ensures.edges c.in_ok-begins.ensures.loops
