use Rattle.std.proofs.Common.{map, List, ◌+◌, refl, ap, ◌∙◌, arith}
use Rattle.std.specs.Prelude.{if◌then◌else◌}
use Rattle.std.proofs.lemmas.Bool.{false≢true}
use Rattle.std.proofs.lemmas.List.{drop_all}
use Rattle.pv_types.specs.declared.var.Var.{Var}
use Rattle.pv_types.specs.View.{type_tree, var_tree}
use Rattle.pv_tree.specs.View.{block_tree}
use Rattle.pv_mean.specs.Layout.{size_in, size_among}
use Rattle.pv_variables.specs.Variables.{is_bound_in}
use Rattle.pv_variables.proofs.Filling.{none-before, bound_from}
use Rattle.pv_variables.proofs.Bounded.{first_near}
use Rattle.pv_variables.proofs.numbers.bound_among.Goals as goal

pub loop-var-init : goal.loop-var-init
loop-var-init c = λ source is. none-before (size_among source.project (is_bound_in (block_tree c.args.block.now)) (map var_tree c.args.vars.now))

pub loop-var-preserved : goal.loop-var-preserved
loop-var-preserved c = λ source is.
    bound_from source.project (is_bound_in (block_tree c.args.block.now)) c.args.vars.now c.loop-var.var-index c.loop-var.cells
    c.in_ok-cells.cells c.var-item.result c.loop-var-test.true c.var-item.is
    (c.in_ok-cells.ensures.value ∙ ap (λ n. c.loop-var.cells + n) (c.in_ok-bound_in.ensures.value source is)) (c.loop-var.invariant source is)

pub returns-clause-value : goal.returns-clause-value
returns-clause-value c = λ source is.
    let none = ap (λ (l : List Var). size_among source.project (is_bound_in (block_tree c.args.block.now)) (map var_tree l))
    (drop_all c.loop-var.var-index c.args.vars.now c.loop-var-test.false) in
    let whole = c.loop-var.invariant source is in
    omega (arith, none, whole)

pub returns-in_err-bound_in-clause-room : goal.returns-in_err-bound_in-clause-room
returns-in_err-bound_in-clause-room c = λ source is near.
    let whole = c.loop-var.invariant source is in
    absurd (false≢true (c.in_err-bound_in.ensures.room source is
    (first_near source.project (is_bound_in (block_tree c.args.block.now)) c.args.vars.now c.loop-var.var-index c.loop-var.cells
    c.var-item.result c.loop-var-test.true c.var-item.is (omega (arith, near, whole)))))

pub returns-in_err-cells-clause-room : goal.returns-in_err-cells-clause-room
returns-in_err-cells-clause-room c = λ source is near.
    let count = if is_bound_in (block_tree c.args.block.now) c.var-item.result.of.now.section
    then size_in source.project (type_tree c.var-item.result.of.now.ty) else 0 in
    let next = bound_from source.project (is_bound_in (block_tree c.args.block.now)) c.args.vars.now c.loop-var.var-index c.loop-var.cells
    (c.loop-var.cells + count) c.var-item.result c.loop-var-test.true c.var-item.is refl (c.loop-var.invariant source is) in
    let one = c.in_ok-bound_in.ensures.value source is in
    absurd (false≢true (c.in_err-cells.ensures.room (omega (arith, near, next, one))))
