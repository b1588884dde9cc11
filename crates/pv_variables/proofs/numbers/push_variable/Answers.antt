use Rattle.std.proofs.Common.{refl, sym, subst, ◌<◌, ◌∙◌}
use Rattle.std.specs.Prelude.{Bool, if◌then◌else◌}
use Rattle.std.proofs.lemmas.Result.{IfOk-weaker}
use Rattle.pv_tree.specs.View.{block_tree}
use Rattle.pv_types.specs.View.{type_tree}
use Rattle.pv_mean.specs.declared.count.TheConstants.{BEYOND}
use Rattle.pv_mean.specs.Layout.{size_in}
use Rattle.pv_variables.specs.Numbered.{HasNext, found_so_far}
use Rattle.pv_variables.proofs.Filling.{variable_other, variable_brief}
use Rattle.pv_variables.proofs.numbers.push_variable.Goals as goal

pub returns-then-has-clause-value : goal.returns-then-has-clause-value
returns-then-has-clause-value c = λ source is.
    IfOk-weaker c.push_brief.result _ _
    (λ n e. e ∙ variable_brief source.project (block_tree c.args.block.now) c.args.var.now (found_so_far c.args.briefs.now.items c.args.next)
    c.has.result (c.has.ensures ∙ c.activation_part.ensures (block_tree c.args.block.now) c.args.var.now.of.now.section refl) c.if-has.true)
    (c.push_brief.ensures.value source is)

pub returns-else-has-clause-value : goal.returns-else-has-clause-value
returns-else-has-clause-value c = λ source is.
    variable_other source.project (block_tree c.args.block.now) c.args.var.now (found_so_far c.args.briefs.now.items c.args.next)
    c.has.result (c.has.ensures ∙ c.activation_part.ensures (block_tree c.args.block.now) c.args.var.now.of.now.section refl) c.if-has.false

pub returns-then-has-clause-room : goal.returns-then-has-clause-room
returns-then-has-clause-room c = λ source is near next.
    let e = c.has.ensures ∙ c.activation_part.ensures (block_tree c.args.block.now) c.args.var.now.of.now.section refl in
    c.push_brief.ensures.room source is
    (subst (λ (b : Bool). (if b then size_in source.project (type_tree c.args.var.now.of.now.ty) else 0) < BEYOND) (sym e ∙ c.if-has.true) near)
    (subst HasNext (sym (variable_brief source.project (block_tree c.args.block.now) c.args.var.now
    (found_so_far c.args.briefs.now.items c.args.next) c.has.result e c.if-has.true)) next)
