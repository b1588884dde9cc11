use Rattle.std.proofs.Common.{◌∙◌, ap}
use Rattle.pv_types.specs.declared.name.Name.{Name}
use Rattle.pv_tree.specs.declared.expr.Root.{Root}
use Rattle.pv_tree.specs.Tree.{operand, no_steps}
use Rattle.pv_mean.specs.Statements.{counter}
use Rattle.pv_program.proofs.Making.{operand-alone}
use Rattle.pv_program.proofs.value.counter.Goals as goal

pub returns : goal.returns
returns c = operand-alone _ c.new-2.ensures.items ∙ ap (λ (r : Root). operand r no_steps c.args.place) c.in_ok-root.ensures.ok
    ∙ ap (λ (n : Name). counter n c.args.place) c.in_ok-copy.ensures.cases
