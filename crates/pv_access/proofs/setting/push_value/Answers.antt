use Rattle.std.proofs.Common.{sym, ap, subst}
use Rattle.std.proofs.lemmas.Result.{IfOk-weaker}
use Rattle.pv_access.specs.Given.{IsWriting}
use Rattle.pv_access.proofs.Pushing.{says, puts_itself}
use Rattle.pv_access.proofs.setting.push_value.Goals as goal

pub returns-in-Assign : goal.returns-in-Assign
returns-in-Assign c = λ w t table is at.
    let a = subst (λ x. IsWriting c.args.nodes.now.items x w) c.in-Assign.is is in
    says _ _ _ _ _ (sym (ap (λ x. x.value t) a.is)) (puts_itself _ _ a.term table a.at)

pub returns-in-Where : goal.returns-in-Where
returns-in-Where c = λ w t table is at.
    let a = subst (λ x. IsWriting c.args.nodes.now.items x w) c.in-Where.is is in
    IfOk-weaker c.push_select.result _ _ (λ r z. says _ _ r _ _ (sym (ap (λ x. x.value t) a.is)) z)
    (c.push_select.ensures a.condition a.term t table a.holds a.at at)
