use Rattle.std.proofs.Common.{ap, sym, ◌∙◌}
use Rattle.std.specs.Prelude.{flat_map}
use Rattle.pv_tree.specs.View.{expr_tree, arg_tree}
use Rattle.std.proofs.lemmas.List.Folds.{flat_map-map}
use Rattle.pv_tree.specs.Operands.{operands_in}
use Rattle.pv_bytes.proofs.Marking.{also_nothing, also_more, also_all, also_same}
use Rattle.pv_bytes.proofs.marks.Marks.mark_call.Goals as goal

pub loop-arg-init : goal.loop-arg-init
loop-arg-init c = also_nothing c.args.area c.args.self.now.flags.items

pub loop-arg-preserved : goal.loop-arg-preserved
loop-arg-preserved c =
    also_more c.args.area (λ a. operands_in (expr_tree a.value)) c.deref-arg-items.result.now c.loop-arg.arg-index c.arg-item.result
    c.args.self.now.flags.items
    c.loop-arg.self.flags.items c.mark_expr.new.self.flags.items c.loop-arg-test.true c.arg-item.is c.loop-arg.invariant c.mark_expr.ensures

pub returns : goal.returns
returns c =
    also_same c.args.area c.args.self.now.flags.items c.loop-arg.self.flags.items _ _
    (ap (flat_map (λ a. operands_in (expr_tree a.value))) c.deref-arg-items.ensures.value
    ∙ sym (flat_map-map (λ a. operands_in a.value) arg_tree c.args.call.now.args.items))
    (also_all c.args.area (λ a. operands_in (expr_tree a.value)) c.deref-arg-items.result.now c.loop-arg.arg-index
    c.args.self.now.flags.items c.loop-arg.self.flags.items c.loop-arg-test.false c.loop-arg.invariant)
