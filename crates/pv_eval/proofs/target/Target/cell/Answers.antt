use Rattle.std.proofs.Common.{◌∙◌, sym}
use Rattle.pv_eval.proofs.Meanings.{if_cell, no_ops}
use Rattle.pv_eval.proofs.target.Target.cell.Goals as goal

pub returns-then-is_empty : goal.returns-then-is_empty
returns-then-is_empty c = λ source block o l.
    if_cell source block c.args.self.now o c.args.first c.cell_of.result
    (no_ops c.as_slice.result.now c.args.self.now.ops.items c.as_slice.ensures.value (sym c.is_empty.ensures ∙ c.if-is_empty.true)) c.cell_of.ensures l
