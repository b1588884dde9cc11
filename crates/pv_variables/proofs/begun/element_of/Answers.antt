use Rattle.std.proofs.Common.{subst, ◌∙◌}
use Rattle.std.specs.Prelude.{IfSome}
use Rattle.std.proofs.lemmas.Result.{IfOk-weaker}
use Rattle.pv_variables.specs.Origins.{elements_placed}
use Rattle.pv_variables.specs.Begun.{IsElements, ElementsLie}
use Rattle.pv_variables.proofs.Finding.{element_found, element_missing}
use Rattle.pv_variables.proofs.begun.element_of.Goals as goal

pub returns-in-Some-clause-value : goal.returns-in-Some-clause-value
returns-in-Some-clause-value c = λ project o h.
    IfOk-weaker c.element_among.result _ _
    (λ b e. e ∙ element_found project o c.in-Some.elements c.args.index.now (subst (λ f. IsElements project (elements_placed o) f) c.in-Some.is h))
    c.element_among.ensures.value

pub returns-in-None-clause-value : goal.returns-in-None-clause-value
returns-in-None-clause-value c = λ project o h.
    element_missing project o c.args.index.now (subst (λ f. IsElements project (elements_placed o) f) c.in-None.is h)

pub returns-in-Some-clause-room : goal.returns-in-Some-clause-room
returns-in-Some-clause-room c = λ project more h.
    c.element_among.ensures.room project more (subst (λ f. IfSome f (ElementsLie project more)) c.in-Some.is h)
