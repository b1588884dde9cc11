use Rattle.std.proofs.Common.{sym, subst, ap, ◌∙◌}
use Rattle.std.proofs.lemmas.Bool.{false≢true}
use Rattle.std.proofs.lemmas.Result.{IfOk-weaker}
use Rattle.pv_tree.specs.View.{block_tree}
use Rattle.pv_variables.specs.Variables.{is_bound_in}
use Rattle.pv_variables.specs.Numbered.{HasNext, found_so_far, with_cells}
use Rattle.pv_variables.proofs.numbers.push_brief.Goals as goal

pub returns-clause-value : goal.returns-clause-value
returns-clause-value c = λ source is.
    let f = found_so_far c.args.briefs.now.items c.args.next in
    IfOk-weaker c.push_sized.result _ _
    (λ n e. e ∙ ap (λ b. with_cells b c.in_ok-count.count f) c.is_bound_in.ensures
    ∙ ap (λ s. with_cells (is_bound_in (block_tree c.args.block.now) c.args.var.now.of.now.section) s f) (c.in_ok-count.ensures.value source is))
    c.push_sized.ensures.value

pub returns-clause-room : goal.returns-clause-room
returns-clause-room c = λ source is near next.
    let f = found_so_far c.args.briefs.now.items c.args.next in
    c.push_sized.ensures.room (subst HasNext (sym (ap (λ b. with_cells b c.in_ok-count.count f) c.is_bound_in.ensures
    ∙ ap (λ s. with_cells (is_bound_in (block_tree c.args.block.now) c.args.var.now.of.now.section) s f) (c.in_ok-count.ensures.value source is))) next)

pub returns-in_err-count-clause-room : goal.returns-in_err-count-clause-room
returns-in_err-count-clause-room c = λ source is near next. absurd (false≢true (c.in_err-count.ensures.room source is near))
