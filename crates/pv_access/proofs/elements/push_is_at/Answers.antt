use Rattle.std.proofs.Common.{rules, ap, ◌∙◌}
use Rattle.std.specs.Prelude.{FitsSigned, pos, ◌+ℤ◌}
use Rattle.std.specs.Int.{w128}
use Rattle.std.proofs.lemmas.Int.{to_z-of_z}
use Rattle.std.proofs.lemmas.Result.{IfOk-weaker}
use Rattle.pv_terms.specs.Forms.{is_index_term}
use Rattle.pv_access.proofs.Pushing.{says}
use Rattle.pv_access.proofs.elements.push_is_at.Goals as goal

pub returns : goal.returns
returns c = λ first table is.
    let fits : FitsSigned w128 c.in_ok-v.v = search rules in
    IfOk-weaker c.push_is_index.result _ _
    (λ n p. says _ _ n _ _ (ap (is_index_term first.index)
    (to_z-of_z w128 c.in_ok-v.v fits ∙ c.in_ok-v.ensures ∙ ap (λ l. l +ℤ pos c.args.k) is.low)) p)
    (c.push_is_index.ensures first.index table is.index)
