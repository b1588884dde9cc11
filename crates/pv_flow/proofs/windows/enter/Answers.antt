use Rattle.std.proofs.Common.{sym, ap, ◌∙◌}
use Rattle.pv_flow.specs.View.{loop_of}
use Rattle.pv_flow.specs.Windows.{goes_on}
use Rattle.pv_flow.proofs.WindowLaws.{refused, enters_if}
use Rattle.pv_flow.proofs.windows.enter.Goals as goal

pub returns-then-not-goes_on : goal.returns-then-not-goes_on
returns-then-not-goes_on c loops h =
    refused loops _ _ _ h
    (sym (ap (goes_on (loop_of c.args.range.now)) (c.len.ensures ∙ c.args.windows.now.ok.0)) ∙ sym c.goes_on.ensures ∙ c.if-not-goes_on.true)

pub returns : goal.returns
returns c loops h =
    enters_if _ loops _ _ _ _ _ _ h
    (sym (ap (goes_on (loop_of c.args.range.now)) (c.len.ensures ∙ c.args.windows.now.ok.0)) ∙ sym c.goes_on.ensures ∙ c.if-not-goes_on.false)
    c.in_ok-fill.ensures.filled c.in_ok-fill.ensures.count c.lay.ensures
