use Rattle.std.proofs.Common.{ap}
use Rattle.std.proofs.lemmas.Result.{IfOk-weaker}
use Rattle.pv_mean.specs.Values.{unary_result}
use Rattle.pv_eval.specs.declared.node.OneOp.TheVariants.{Minus, Not}
use Rattle.pv_pattern_read.proofs.Termed.{of_same, of_unary}
use Rattle.pv_pattern_read.proofs.making.unary_term.Goals as goal

pub returns-in-Plus : goal.returns-in-Plus
returns-in-Plus c = λ source place inner none type_is h.
    of_same source c.args.op place c.args.ty inner c.args.arg (λ a. ap (λ o. unary_result o c.args.ty a) c.in-Plus.is) none type_is h

pub returns-in-Minus : goal.returns-in-Minus
returns-in-Minus c = λ source place inner none type_is h.
    IfOk-weaker c.one.result _ _
    (λ t made. of_unary source c.args.op Minus place c.args.ty inner c.args.arg t (λ a. ap (λ o. unary_result o c.args.ty a) c.in-Minus.is) none type_is h made)
    c.one.ensures

pub returns-in-Not : goal.returns-in-Not
returns-in-Not c = λ source place inner none type_is h.
    IfOk-weaker c.one-in-Not.result _ _
    (λ t made. of_unary source c.args.op Not place c.args.ty inner c.args.arg t (λ a. ap (λ o. unary_result o c.args.ty a) c.in-Not.is) none type_is h made)
    c.one-in-Not.ensures
