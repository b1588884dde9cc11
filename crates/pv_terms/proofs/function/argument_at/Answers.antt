use Rattle.std.proofs.lemmas.Result.{IfOk-weaker}
use Rattle.pv_terms.proofs.Pushing.{says}
use Rattle.pv_terms.proofs.Constants.{looked_up, not_there}
use Rattle.pv_terms.proofs.Givens.{argument_is, no_argument}
use Rattle.pv_terms.proofs.function.argument_at.Goals as goal

pub returns-in-Some : goal.returns-in-Some
returns-in-Some c = λ ts table are.
    let l = c.in-Some.ensures.lookup in
    let a = argument_is _ c.args.args.now ts c.args.k c.args.ty c.in-Some.given.now are
    (looked_up c.args.args.now c.args.k c.in-Some.given.now l.0 l.1) in
    IfOk-weaker c.converted.result _ _ (λ n p. says _ _ n _ _ a.is p) (c.converted.ensures a.term table a.at)

pub returns-in-None : goal.returns-in-None
returns-in-None c = λ ts table are.
    IfOk-weaker c.push_constant.result _ _
    (λ n p. says _ _ n _ _ (no_argument _ c.args.args.now ts c.args.k c.args.ty are
    (not_there c.args.args.now c.args.k c.in-None.ensures.lookup.0)) p)
    (c.push_constant.ensures table)
