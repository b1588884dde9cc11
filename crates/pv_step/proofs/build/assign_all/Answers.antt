use Rattle.std.proofs.Common.{arith, length, ap, sym, ◌∙◌, Err}
use Rattle.std.proofs.lemmas.Result.{err_from_is_err_and}
use Rattle.pv_step.proofs.Growth.{beyond_later, over_at}
use Rattle.pv_step.proofs.build.assign_all.Goals as goal

pub returns-in_err-assign-clause-limit : goal.returns-in_err-assign-clause-limit
returns-in_err-assign-clause-limit c =
    let p = err_from_is_err_and c.from_residual.result c.from_residual.ensures.1 in
    λ e. beyond_later c.args.body.now c.loop-assignment.assignment-index c.assignment-item.result _ _ c.loop-assignment.gates.limit
    c.args.gates.now.limit (omega arith) c.assignment-item.is
    c.loop-assignment.invariant.same c.loop-assignment.invariant.same_limit
    (c.in_err-assign.ensures.limit (ap Err (sym p.2) ∙ (sym p.1 ∙ e)))

pub assign-requires-clause-over : goal.assign-requires-clause-over
assign-requires-clause-over c =
    over_at (length c.args.literals.now) (length c.loop-assignment.literals) c.args.body.now c.loop-assignment.assignment-index
    c.assignment-item.result c.loop-assignment.auto.literals (omega arith) c.assignment-item.is c.requires.body
