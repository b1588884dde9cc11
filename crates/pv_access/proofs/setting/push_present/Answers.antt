use Rattle.std.proofs.Common.{sym, ap, subst}
use Rattle.std.proofs.lemmas.Result.{IfOk-weaker}
use Rattle.pv_access.specs.Given.{IsWriting}
use Rattle.pv_access.proofs.Pushing.{says}
use Rattle.pv_access.proofs.setting.push_present.Goals as goal

pub returns-in-Assign : goal.returns-in-Assign
returns-in-Assign c = λ w t table is at.
    let a = subst (λ x. IsWriting c.args.nodes.now.items x w) c.in-Assign.is is in
    IfOk-weaker c.push_constant.result _ _ (λ r z. says _ _ r _ _ (sym (ap (λ x. x.present t) a.is)) z)
    (c.push_constant.ensures table)

pub returns-in-Where : goal.returns-in-Where
returns-in-Where c = λ w t table is at.
    let a = subst (λ x. IsWriting c.args.nodes.now.items x w) c.in-Where.is is in
    IfOk-weaker c.push_yes_where.result _ _ (λ r z. says _ _ r _ _ (sym (ap (λ x. x.present t) a.is)) z)
    (c.push_yes_where.ensures a.condition t table a.holds at)
