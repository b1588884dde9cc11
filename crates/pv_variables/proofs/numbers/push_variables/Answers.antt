use Rattle.std.proofs.Common.{map, refl}
use Rattle.std.proofs.lemmas.List.{drop_all}
use Rattle.pv_types.specs.View.{var_tree}
use Rattle.pv_tree.specs.View.{block_tree}
use Rattle.pv_variables.specs.Numbered.{found_so_far, with_variables}
use Rattle.pv_mean.specs.Layout.{is_brief_in}
use Rattle.pv_variables.proofs.Filling.{found_from, found_all}
use Rattle.pv_variables.proofs.Bounded.{left_near, first_next}
use Rattle.pv_resolve.proofs.ForCallers.{failed}
use Rattle.pv_variables.proofs.numbers.push_variables.Goals as goal

pub loop-var-init : goal.loop-var-init
loop-var-init c = λ source is. refl

pub loop-var-preserved : goal.loop-var-preserved
loop-var-preserved c = λ source is.
    found_from source.project (block_tree c.args.block.now) c.args.vars.now c.loop-var.var-index c.var-item.result
    (found_so_far c.loop-var.briefs.items c.loop-var.so_far) (found_so_far c.push_variable.new.briefs.items c.in_ok-so_far.so_far)
    (with_variables source.project (block_tree c.args.block.now) (map var_tree c.args.vars.now)
    (found_so_far c.args.briefs.now.items c.args.next))
    c.loop-var-test.true c.var-item.is (c.in_ok-so_far.ensures.value source is) (c.loop-var.invariant source is)

pub returns-clause-value : goal.returns-clause-value
returns-clause-value c = λ source is.
    found_all source.project (block_tree c.args.block.now) c.args.vars.now c.loop-var.var-index
    (found_so_far c.loop-var.briefs.items c.loop-var.so_far)
    (with_variables source.project (block_tree c.args.block.now) (map var_tree c.args.vars.now)
    (found_so_far c.args.briefs.now.items c.args.next))
    (drop_all c.loop-var.var-index c.args.vars.now c.loop-var-test.false) (c.loop-var.invariant source is)

pub returns-in_err-so_far-clause-room : goal.returns-in_err-so_far-clause-room
returns-in_err-so_far-clause-room c = λ source is near next.
    failed _ _ c.from_residual.ensures.1 (c.in_err-so_far.ensures.room source is
    (left_near source.project (is_brief_in (block_tree c.args.block.now)) c.args.vars.now c.loop-var.var-index c.var-item.result
    c.loop-var-test.true c.var-item.is near)
    (first_next source.project (block_tree c.args.block.now) c.args.vars.now c.loop-var.var-index c.var-item.result
    (found_so_far c.loop-var.briefs.items c.loop-var.so_far) _ c.loop-var-test.true c.var-item.is (c.loop-var.invariant source is) next))
