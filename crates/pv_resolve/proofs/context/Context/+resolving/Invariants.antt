use Rattle.std.proofs.Common.{◌≡◌, map, take, drop}
use Rattle.pv_tree.specs.Types.{sort_of}
use Rattle.pv_tree.specs.View.{expr_tree, step_tree, steps_of, operand_tree}
use Rattle.pv_names.specs.InScope.{scope_of}
use Rattle.pv_names.specs.Sorts.{sort_tree}
use Rattle.pv_names.specs.Views.{thing_tree}
use Rattle.pv_names.proofs.ForCallers.{IsOn}
use Rattle.pv_mean.specs.Sources.{Source}
use Rattle.pv_resolve.specs.Contexts.{IsContext, block_in}
use Rattle.pv_resolve.specs.Rooms.{HasRoom, FitsOperand, WalkRoomy}
use Rattle.pv_resolve.proofs.Loops.{HasArguments, HasWalked}
use Rattle.pv_resolve.proofs.context.Context.+resolving.Given as goal

abbrev pub invariant-expr-loop-arg : goal.invariant-expr-loop-arg
invariant-expr-loop-arg l = record {
  arguments : HasArguments l.self l.fn.nodes.items l.nodes.items l.numbers.items (map expr_tree (take l.arg-index l.arg-items));
  sorts : map sort_tree l.sorts.items ≡ map (λ e. sort_of (scope_of l.self.scope) (expr_tree e)) (take l.arg-index l.arg-items);
}

abbrev pub invariant-operand-loop-step : goal.invariant-operand-loop-step
invariant-operand-loop-step l = record {
  walked : HasWalked l.self l.fn.nodes.items l.nodes.items l.walk l.operand.root.value (map step_tree (take l.step-index l.step-items));
  told : IsOn (scope_of l.self.scope) (operand_tree l.operand) l.last (thing_tree l.thing) l.indexed
      (steps_of (map step_tree (drop l.step-index l.step-items)));
  room : (source : Source) → IsContext l.self source → HasRoom source (block_in l.self) → FitsOperand (operand_tree l.operand)
      → WalkRoomy source.project l.nodes.items l.walk;
}
