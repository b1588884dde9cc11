use Rattle.std.proofs.Common.{arith, refl, ap, sym, ◌∙◌}
use Rattle.pv_tree.specs.Tree.{std}
use Rattle.pv_mean.specs.Placed.{placed}
use Rattle.pv_tree.proofs.ForCallers.{std_seen}
use Rattle.pv_program.proofs.Placing.{placed-whole, steps-placed-whole}
use Rattle.pv_program.proofs.placed.+placed.Goals as goal

pub all_placed-returns : goal.all_placed-returns
all_placed-returns t c =
    placed-whole c.args.at c.loop-e.copies.items c.deref-e-items.result.now c.args.all.now.items c.loop-e.e-index (omega arith)
    c.deref-e-items.ensures.value c.loop-e.invariant

pub placed-returns-in_ok-all_placed-in-Std : goal.placed-returns-in_ok-all_placed-in-Std
placed-returns-in_ok-all_placed-in-Std t c =
    std_seen _ c.in-Std.function c.args.at c.in_ok-all_placed-in-Std.field-0 _ refl refl
    ∙ ap (std c.in-Std.function c.args.at) c.in_ok-all_placed-in-Std.ensures
    ∙ ap (placed c.args.at) (sym (std_seen c.args.e.now c.in-Std.function c.in-Std.place c.in-Std.args c.in-Std.args.items c.in-Std.is refl))

pub steps_placed-returns : goal.steps_placed-returns
steps_placed-returns t c =
    steps-placed-whole c.args.at c.loop-step.copies.items c.deref-step-items.result.now c.args.steps.now.items c.loop-step.step-index
    (omega arith) c.deref-step-items.ensures.value c.loop-step.invariant
