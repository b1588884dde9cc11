use Rattle.std.proofs.Common.{ap}
use Rattle.std.proofs.lemmas.Result.{IfOk-weaker}
use Rattle.pv_word.specs.declared.types.Ty.TheVariants.{Byte}
use Rattle.pv_flow.specs.Terms.{variable}
use Rattle.pv_terms.specs.Forms.{converted}
use Rattle.pv_terms.proofs.ForCallers.{grows_then, puts_then}
use Rattle.pv_access.specs.Accesses.{left_by}
use Rattle.pv_access.proofs.Pushing.{says}
use Rattle.pv_access.proofs.areas.push_byte.Goals as goal

pub returns : goal.returns
returns c = λ table.
    let x = c.in_ok-byte.ensures table in
    let y = c.in_ok-wide.ensures _ x.grows.table x.at in
    IfOk-weaker c.push_left.result _ _
    (λ n z. puts_then _ _ _ n _ (grows_then _ _ _ x.grows y.grows)
    (says _ _ n _ _ (ap (λ k. left_by c.args.ty k (converted Byte c.args.ty (variable c.args.n))) c.in_ok-places.ensures) z))
    (c.push_left.ensures _ y.grows.table y.at)
