use Rattle.std.proofs.Common.{◌∙◌, rules}
use Rattle.std.specs.Prelude.{FitsSigned}
use mir.Syntax.{w128}
use Rattle.std.proofs.lemmas.Int.{to_z-of_z}
use Rattle.std.proofs.lemmas.Result.{IfOk-weaker}
use Rattle.std.proofs.Common.{sym, subst}
use Rattle.std.specs.Int.{w64}
use Rattle.pv_resolve.proofs.resolve.constant_of.Goals as goal

pub returns-in-Some-clause-value : goal.returns-in-Some-clause-value
returns-in-Some-clause-value c =
    let fits : FitsSigned w128 c.in-Some.value = search rules in
    IfOk-weaker c.number_of.result _ _ (λ v e. e ∙ to_z-of_z w128 c.in-Some.value fits ∙ c.in-Some.ensures.value) c.number_of.ensures.value

pub returns-in-Some-clause-fits : goal.returns-in-Some-clause-fits
returns-in-Some-clause-fits c =
    let fits : FitsSigned w128 c.in-Some.value = search rules in
    λ h. c.number_of.ensures.fits (subst (FitsSigned w64) (sym (to_z-of_z w128 c.in-Some.value fits ∙ c.in-Some.ensures.value)) h)

pub returns-in-None-clause-fits : goal.returns-in-None-clause-fits
returns-in-None-clause-fits c =
    λ h. absurd (c.in-None.ensures.none h)
