use Rattle.std.proofs.Common.{sym, ap}
use Rattle.std.proofs.lemmas.Result.{IfOk-weaker}
use Rattle.pv_terms.specs.Forms.{function_term}
use Rattle.pv_terms.proofs.Pushing.{says}
use Rattle.pv_terms.proofs.function.push_function.Goals as goal

pub returns-in-Convert : goal.returns-in-Convert
returns-in-Convert c = λ ts table are.
    IfOk-weaker c.push_conversion.result _ _
    (λ n z. says _ _ n _ _ (sym (ap (λ function. function_term function c.args.ty c.args.count ts) c.in-Convert.is)) z)
    (c.push_conversion.ensures ts table are)

pub returns-in-Abs : goal.returns-in-Abs
returns-in-Abs c = λ ts table are.
    IfOk-weaker c.push_abs.result _ _
    (λ n z. says _ _ n _ _ (sym (ap (λ function. function_term function c.args.ty c.args.count ts) c.in-Abs.is)) z)
    (c.push_abs.ensures ts table are)

pub returns-in-Min : goal.returns-in-Min
returns-in-Min c = λ ts table are.
    IfOk-weaker c.push_min.result _ _
    (λ n z. says _ _ n _ _ (sym (ap (λ function. function_term function c.args.ty c.args.count ts) c.in-Min.is)) z)
    (c.push_min.ensures ts table are)

pub returns-in-Max : goal.returns-in-Max
returns-in-Max c = λ ts table are.
    IfOk-weaker c.push_max.result _ _
    (λ n z. says _ _ n _ _ (sym (ap (λ function. function_term function c.args.ty c.args.count ts) c.in-Max.is)) z)
    (c.push_max.ensures ts table are)

pub returns-in-Limit : goal.returns-in-Limit
returns-in-Limit c = λ ts table are.
    IfOk-weaker c.push_limit.result _ _
    (λ n z. says _ _ n _ _ (sym (ap (λ function. function_term function c.args.ty c.args.count ts) c.in-Limit.is)) z)
    (c.push_limit.ensures ts table are)

pub returns-in-Sel : goal.returns-in-Sel
returns-in-Sel c = λ ts table are.
    IfOk-weaker c.push_sel.result _ _
    (λ n z. says _ _ n _ _ (sym (ap (λ function. function_term function c.args.ty c.args.count ts) c.in-Sel.is)) z)
    (c.push_sel.ensures ts table are)

pub returns-in-Shl : goal.returns-in-Shl
returns-in-Shl c = λ ts table are.
    IfOk-weaker c.push_shift.result _ _
    (λ n z. says _ _ n _ _ (sym (ap (λ function. function_term function c.args.ty c.args.count ts) c.in-Shl.is)) z)
    (c.push_shift.ensures ts table are)

pub returns-in-Shr : goal.returns-in-Shr
returns-in-Shr c = λ ts table are.
    IfOk-weaker c.push_shift-in-Shr.result _ _
    (λ n z. says _ _ n _ _ (sym (ap (λ function. function_term function c.args.ty c.args.count ts) c.in-Shr.is)) z)
    (c.push_shift-in-Shr.ensures ts table are)
