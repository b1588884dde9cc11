use Rattle.std.proofs.Common.{rules, ap, ◌∙◌}
use Rattle.std.specs.Prelude.{FitsSigned}
use Rattle.std.specs.Int.{w128}
use Rattle.std.proofs.lemmas.Int.{to_z-of_z}
use Rattle.std.proofs.lemmas.Result.{IfOk-weaker}
use Rattle.pv_word.specs.declared.types.Ty.TheVariants.{Byte}
use Rattle.pv_flow.specs.Terms.{constant}
use Rattle.pv_terms.proofs.ForCallers.{keeps, grows_then, puts_then}
use Rattle.pv_access.proofs.Pushing.{says}
use Rattle.pv_access.proofs.areas.push_others.Goals as goal

pub returns : goal.returns
returns c = λ table.
    let x = c.in_ok-byte.ensures table in
    let fits : FitsSigned w128 c.in_ok-bits.bits = search rules in
    let y = says _ _ _ _ _ (ap (constant Byte) (to_z-of_z w128 c.in_ok-bits.bits fits ∙ c.in_ok-bits.ensures))
    (c.in_ok-mask.ensures x.grows.table) in
    IfOk-weaker c.push_binary.result _ _ (λ n z. puts_then _ _ _ n _ (grows_then _ _ _ x.grows y.grows) z)
    (c.push_binary.ensures _ _ y.grows.table (keeps _ _ _ _ y.grows x.at) y.at)
