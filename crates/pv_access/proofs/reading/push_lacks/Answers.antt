use Rattle.std.proofs.Common.{ap}
use Rattle.std.proofs.lemmas.Result.{IfOk-weaker}
use Rattle.pv_word.specs.declared.types.Ty.TheVariants.{Bool}
use Rattle.pv_terms.specs.Forms.{not_term}
use Rattle.pv_terms.proofs.ForCallers.{puts_then}
use Rattle.pv_access.specs.Accesses.{element_term}
use Rattle.pv_access.proofs.Pushing.{says}
use Rattle.pv_access.proofs.Steps.{next_one}
use Rattle.pv_access.proofs.reading.push_lacks.Goals as goal

pub returns : goal.returns
returns c = λ ms table are.
    let x = c.in_ok-element.ensures ms table are in
    IfOk-weaker c.push_not.result _ _
    (λ n z. puts_then _ _ _ n _ x.grows
    (says _ _ n _ _ (ap (λ m. not_term (element_term Bool 2 ms m)) (next_one c.args.n c.in_ok-present.present c.in_ok-present.ensures)) z))
    (c.push_not.ensures _ x.grows.table x.at)
