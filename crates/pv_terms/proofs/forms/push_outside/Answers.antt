use Rattle.std.proofs.Common.{rules, ap}
use Rattle.std.specs.Prelude.{FitsSigned}
use Rattle.std.specs.Int.{w128}
use Rattle.std.proofs.lemmas.Int.{to_z-of_z}
use Rattle.std.proofs.lemmas.Result.{IfOk-weaker}
use Rattle.pv_word.specs.declared.types.Ty.TheVariants.{Dint}
use Rattle.pv_flow.specs.Terms.{constant}
use Rattle.pv_terms.specs.Forms.{less_term}
use Rattle.pv_terms.proofs.Pushing.{keeps, grows_then, puts_then, says}
use Rattle.pv_terms.proofs.forms.push_outside.Goals as goal

pub returns : goal.returns
returns c = λ t table at.
    let low : FitsSigned w128 c.args.low = search rules in
    let high : FitsSigned w128 c.args.high = search rules in
    let x = says _ _ _ _ _ (ap (λ v. less_term t (constant Dint v)) (to_z-of_z w128 c.args.low low)) (c.in_ok-below.ensures t table at) in
    let y = says _ _ _ _ _ (ap (λ v. less_term (constant Dint v) t) (to_z-of_z w128 c.args.high high))
    (c.in_ok-above.ensures t x.grows.table (keeps _ _ _ t x.grows at)) in
    IfOk-weaker c.push_binary.result _ _ (λ n z. puts_then _ _ _ n _ (grows_then _ _ _ x.grows y.grows) z)
    (c.push_binary.ensures _ _ y.grows.table (keeps _ _ _ _ y.grows x.at) y.at)
