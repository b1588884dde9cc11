use Rattle.pv_recheck.proofs.form.fourth.Goals as goal

pub returns-in_err-rest-clause-none : goal.returns-in_err-rest-clause-none
returns-in_err-rest-clause-none c = rw c.from_residual.ensures (λ line h. c.in_err-rest.ensures.none 2 line h)

pub returns-in_err-line-clause-none : goal.returns-in_err-line-clause-none
returns-in_err-line-clause-none c = rw c.from_residual-in_err-line.ensures
    (λ line h. c.in_err-line.ensures.none 0 line ((c.in_ok-rest.ensures.rest 1 line).0 h))

pub returns-clause-found : goal.returns-clause-found
returns-clause-found c = (c.in_ok-rest.ensures.rest 1 c.in_ok-line.line.now).1 c.in_ok-line.ensures.found
