use Rattle.std.proofs.Common.{rules, sym, subst, ap, ◌∙◌}
use Rattle.std.specs.Prelude.{FitsSigned}
use Rattle.std.specs.Int.{w128}
use Rattle.std.proofs.lemmas.Int.{to_z-of_z}
use Rattle.std.proofs.lemmas.Result.{IfOk-weaker}
use Rattle.pv_word.specs.Types.{wrap_of}
use Rattle.pv_terms.specs.Pushed.{IsAt}
use Rattle.pv_terms.proofs.Pushing.{says}
use Rattle.pv_terms.proofs.Constants.{constant_made, other_made}
use Rattle.pv_terms.proofs.forms.converted.Goals as goal

pub returns-in-Some : goal.returns-in-Some
returns-in-Some c = λ t table at.
    let fits : FitsSigned w128 c.wrap.result = search rules in
    let fits_v : FitsSigned w128 c.in-Some.v = search rules in
    let here = subst (λ l. IsAt l c.args.a t) (sym c.as_slice.ensures.value) at in
    IfOk-weaker c.push_constant.result _ _
    (λ n p. says _ _ n _ _ (constant_made c.args.from c.args.to c.in-Some.v _ t
    (to_z-of_z w128 c.wrap.result fits ∙ c.wrap.ensures.value ∙ ap (wrap_of c.args.to) (to_z-of_z w128 c.in-Some.v fits_v))
    (c.in-Some.ensures t here)) p)
    (c.push_constant.ensures table)

pub returns-in-None : goal.returns-in-None
returns-in-None c = λ t table at.
    let here = subst (λ l. IsAt l c.args.a t) (sym c.as_slice.ensures.value) at in
    IfOk-weaker c.push_converted.result _ _
    (λ n p. says _ _ n _ _ (other_made c.args.from c.args.to t (c.in-None.ensures t here)) p)
    (c.push_converted.ensures t table at)
