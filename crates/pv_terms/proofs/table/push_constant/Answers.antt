use Rattle.std.proofs.Common.{rules, refl, ap}
use Rattle.std.specs.Prelude.{FitsSigned}
use Rattle.std.specs.Int.{w128}
use Rattle.std.proofs.lemmas.Int.{to_z-of_z}
use Rattle.std.proofs.lemmas.Result.{IfOk-weaker}
use Rattle.pv_flow.specs.Terms.{constant}
use Rattle.pv_terms.proofs.Pushing.{says}
use Rattle.pv_terms.proofs.table.push_constant.Goals as goal

pub returns : goal.returns
returns c = λ table.
    let fits : FitsSigned w128 c.args.v = search rules in
    IfOk-weaker c.push.result _ _ (λ n p. says _ _ n _ _ (ap (constant c.args.ty) (to_z-of_z w128 c.args.v fits)) p)
    (c.push.ensures table refl)
