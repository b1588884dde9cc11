use Rattle.std.proofs.Common.{sym, subst}
use Rattle.pv_resolve.specs.Functions.{function_value, AppliesTo}
use Rattle.pv_resolve.proofs.function.node_of_function.Goals as goal

pub returns-in-Convert : goal.returns-in-Convert
returns-in-Convert c =
    subst (λ f. AppliesTo c.args.numbers.now c.one.result (function_value f c.args.ty)) (sym c.in-Convert.is) c.one.ensures

pub returns-in-Abs : goal.returns-in-Abs
returns-in-Abs c =
    subst (λ f. AppliesTo c.args.numbers.now c.one-in-Abs.result (function_value f c.args.ty)) (sym c.in-Abs.is) c.one-in-Abs.ensures

pub returns-in-Min : goal.returns-in-Min
returns-in-Min c =
    subst (λ f. AppliesTo c.args.numbers.now c.two.result (function_value f c.args.ty)) (sym c.in-Min.is) c.two.ensures

pub returns-in-Max : goal.returns-in-Max
returns-in-Max c =
    subst (λ f. AppliesTo c.args.numbers.now c.two-in-Max.result (function_value f c.args.ty)) (sym c.in-Max.is) c.two-in-Max.ensures

pub returns-in-Limit : goal.returns-in-Limit
returns-in-Limit c =
    subst (λ f. AppliesTo c.args.numbers.now c.three.result (function_value f c.args.ty)) (sym c.in-Limit.is) c.three.ensures

pub returns-in-Sel : goal.returns-in-Sel
returns-in-Sel c =
    subst (λ f. AppliesTo c.args.numbers.now c.three-in-Sel.result (function_value f c.args.ty)) (sym c.in-Sel.is) c.three-in-Sel.ensures

pub returns-in-Shl : goal.returns-in-Shl
returns-in-Shl c =
    subst (λ f. AppliesTo c.args.numbers.now c.two-in-Shl.result (function_value f c.args.ty)) (sym c.in-Shl.is) c.two-in-Shl.ensures

pub returns-in-Shr : goal.returns-in-Shr
returns-in-Shr c =
    subst (λ f. AppliesTo c.args.numbers.now c.two-in-Shr.result (function_value f c.args.ty)) (sym c.in-Shr.is) c.two-in-Shr.ensures
