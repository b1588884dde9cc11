use Rattle.std.proofs.Common.{sym, ap}
use Rattle.std.proofs.lemmas.Result.{IfOk-weaker}
use Rattle.pv_terms.proofs.ForCallers.{keeps, puts_then}
use Rattle.pv_access.specs.Accesses.{where_all}
use Rattle.pv_access.proofs.Pushing.{says, puts_itself, no_terms, split_terms}
use Rattle.pv_access.proofs.setting.+push_where_all.Goals as goal

pub returns-in-None : goal.returns-in-None
returns-in-None t c = λ cs s r table are new old.
    says _ _ _ _ _ (ap (λ l. where_all c.args.ty l s r) (sym (no_terms _ c.args.conditions.now cs c.in-None.ensures.cases are)))
    (puts_itself _ _ s table new)

pub returns-in_ok-inner-in-Some : goal.returns-in_ok-inner-in-Some
returns-in_ok-inner-in-Some t c = λ cs s r table are new old.
    let p = split_terms _ c.args.conditions.now c.in-Some.c.now c.in-Some.more.now cs c.in-Some.ensures.cases.0 are in
    let x = c.in_ok-inner-in-Some.ensures p.rest s r table p.terms new old in
    IfOk-weaker c.push_select.result _ _
    (λ n z. puts_then _ _ _ n _ x.grows (says _ _ n _ _ (ap (λ l. where_all c.args.ty l s r) (sym p.is)) z))
    (c.push_select.ensures _ _ _ x.grows.table (keeps _ _ _ _ x.grows p.term) x.at (keeps _ _ _ r x.grows old))
