use Rattle.pv_inline.specs.Blocks.{codes_in}
use Rattle.pv_inline.proofs.Whole.{started}
use Rattle.pv_inline.proofs.inlining.copies_of.Goals as goal

pub returns-clause-text : goal.returns-clause-text
returns-clause-text c =
    started (codes_in c.args.blocks.now) c.args.parts.now c.in_ok-table.table c.as_slice-starts.result.now c.args.parts.now.locations
    c.number_at-text.result c.in_ok-table.ensures.made c.as_slice-starts.ensures.value c.number_at-text.ensures

pub returns-clause-done : goal.returns-clause-done
returns-clause-done c =
    started (codes_in c.args.blocks.now) c.args.parts.now c.in_ok-table.table c.as_slice-starts.result.now c.args.parts.now.done
    c.number_at-done.result c.in_ok-table.ensures.made c.as_slice-starts.ensures.value c.number_at-done.ensures
