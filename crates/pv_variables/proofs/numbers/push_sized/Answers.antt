use Rattle.pv_resolve.proofs.ForCallers.{failed}
use Rattle.pv_variables.specs.Numbered.{found_so_far}
use Rattle.pv_variables.proofs.Bounded.{bound_next, own_next}
use Rattle.pv_variables.proofs.numbers.push_sized.Goals as goal

pub returns-in_err-behind-clause-room : goal.returns-in_err-behind-clause-room
returns-in_err-behind-clause-room c = λ h.
    failed _ _ c.from_residual.ensures.1 (c.in_err-behind.ensures.room
    (bound_next c.args.bound c.args.count (found_so_far c.args.briefs.now.items c.args.next) c.if-bound.true h))

pub returns-in_err-own-clause-room : goal.returns-in_err-own-clause-room
returns-in_err-own-clause-room c = λ h.
    failed _ _ c.from_residual-in_err-own.ensures.1 (c.in_err-own.ensures.room
    (own_next c.args.bound c.args.count (found_so_far c.args.briefs.now.items c.args.next) c.if-bound.false h))
