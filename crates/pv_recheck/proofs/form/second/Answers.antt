use Rattle.std.proofs.Common.{suc}
use Rattle.pv_recheck.proofs.Lines.{no_line, second_rest, second_none}
use Rattle.pv_recheck.proofs.form.second.Goals as goal

pub returns-in_err-rest-clause-none : goal.returns-in_err-rest-clause-none
returns-in_err-rest-clause-none c = rw c.from_residual.ensures (λ n line h. no_line
    (suc (suc n)) c.args.text.now line c.in_err-rest.ensures.none h)

pub returns-clause-rest : goal.returns-clause-rest
returns-clause-rest c = second_rest c.args.text.now c.in_ok-rest.field-0-0.now c.in_ok-rest.rest.now c.cut_line-2.result
    c.in_ok-rest.ensures.found.0 c.in_ok-rest.ensures.found.1 c.cut_line-2.ensures.found

pub returns-clause-none : goal.returns-clause-none
returns-clause-none c = second_none c.args.text.now c.in_ok-rest.field-0-0.now c.in_ok-rest.rest.now c.cut_line-2.result
    c.in_ok-rest.ensures.found.0 c.in_ok-rest.ensures.found.1 c.cut_line-2.ensures.none
