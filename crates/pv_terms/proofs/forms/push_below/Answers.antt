use Rattle.std.proofs.Common.{rules, ap}
use Rattle.std.specs.Prelude.{FitsSigned}
use Rattle.std.specs.Int.{w128}
use Rattle.std.proofs.lemmas.Int.{to_z-of_z}
use Rattle.std.proofs.lemmas.Result.{IfOk-weaker}
use Rattle.pv_word.specs.declared.types.Ty.TheVariants.{Dint}
use Rattle.pv_flow.specs.Terms.{constant}
use Rattle.pv_terms.proofs.Pushing.{keeps, puts_then, says}
use Rattle.pv_terms.proofs.forms.push_below.Goals as goal

pub returns : goal.returns
returns c = λ t table at.
    let fits : FitsSigned w128 c.args.low = search rules in
    let x = says _ _ _ _ _ (ap (constant Dint) (to_z-of_z w128 c.args.low fits)) (c.in_ok-least.ensures table) in
    IfOk-weaker c.push_less.result _ _ (λ n z. puts_then _ _ _ n _ x.grows z)
    (c.push_less.ensures _ _ x.grows.table (keeps _ _ _ t x.grows at) x.at)
