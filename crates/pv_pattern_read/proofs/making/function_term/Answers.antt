use Rattle.std.proofs.Common.{[], ◌∷◌, ap, ◌∙◌}
use Rattle.std.proofs.lemmas.Result.{IfOk-weaker}
use Rattle.pv_mean.specs.Values.{function_result}
use Rattle.pv_eval.specs.declared.node.OneOp.TheVariants as one
use Rattle.pv_eval.specs.declared.node.TwoOp.TheVariants as two
use Rattle.pv_eval.specs.declared.node.ThreeOp.TheVariants as three
use Rattle.pv_resolve.specs.Functions.{arity}
use Rattle.pv_pattern_read.proofs.Termed.{of_function_1, of_function_2, of_function_3}
use Rattle.pv_pattern_read.proofs.making.function_term.Goals as goal

pub returns-in-Convert : goal.returns-in-Convert
returns-in-Convert c = λ source place args type_is h.
    IfOk-weaker c.of_one.result _ _
    (λ t o. of_function_1 source c.args.function one.Wrap c.in-Convert.to c.args.ty place args c.args.terms.items t
    (λ a. ap (λ f. function_result f c.args.ty (a ∷ [])) c.in-Convert.is) type_is h o)
    c.of_one.ensures

pub returns-in-Abs : goal.returns-in-Abs
returns-in-Abs c = λ source place args type_is h.
    IfOk-weaker c.of_one-in-Abs.result _ _
    (λ t o. of_function_1 source c.args.function one.Abs c.args.ty c.args.ty place args c.args.terms.items t
    (λ a. ap (λ f. function_result f c.args.ty (a ∷ [])) c.in-Abs.is) type_is h o)
    c.of_one-in-Abs.ensures

pub returns-in-Min : goal.returns-in-Min
returns-in-Min c = λ source place args type_is h.
    IfOk-weaker c.of_two.result _ _
    (λ t o. of_function_2 source c.args.function two.Min c.args.ty place args c.args.terms.items t
    (λ a b. ap (λ f. function_result f c.args.ty (a ∷ b ∷ [])) c.in-Min.is) type_is h o)
    c.of_two.ensures

pub returns-in-Max : goal.returns-in-Max
returns-in-Max c = λ source place args type_is h.
    IfOk-weaker c.of_two-in-Max.result _ _
    (λ t o. of_function_2 source c.args.function two.Max c.args.ty place args c.args.terms.items t
    (λ a b. ap (λ f. function_result f c.args.ty (a ∷ b ∷ [])) c.in-Max.is) type_is h o)
    c.of_two-in-Max.ensures

pub returns-in-Limit : goal.returns-in-Limit
returns-in-Limit c = λ source place args type_is h.
    IfOk-weaker c.of_three.result _ _
    (λ t o. of_function_3 source c.args.function three.Limit c.args.ty place args c.args.terms.items t
    (λ x y z. ap (λ f. function_result f c.args.ty (x ∷ y ∷ z ∷ [])) c.in-Limit.is) type_is h o)
    c.of_three.ensures

pub returns-in-Sel : goal.returns-in-Sel
returns-in-Sel c = λ source place args type_is h.
    IfOk-weaker c.of_three-in-Sel.result _ _
    (λ t o. of_function_3 source c.args.function three.Sel c.args.ty place args c.args.terms.items t
    (λ x y z. ap (λ f. function_result f c.args.ty (x ∷ y ∷ z ∷ [])) c.in-Sel.is) type_is h o)
    c.of_three-in-Sel.ensures

pub returns-in-Shl : goal.returns-in-Shl
returns-in-Shl c = λ source place args type_is h.
    IfOk-weaker c.of_two-in-Shl.result _ _
    (λ t o. of_function_2 source c.args.function two.Shl c.args.ty place args c.args.terms.items t
    (λ a b. ap (λ f. function_result f c.args.ty (a ∷ b ∷ [])) c.in-Shl.is) type_is h o)
    c.of_two-in-Shl.ensures

pub returns-in-Shr : goal.returns-in-Shr
returns-in-Shr c = λ source place args type_is h.
    IfOk-weaker c.of_two-in-Shr.result _ _
    (λ t o. of_function_2 source c.args.function two.Shr c.args.ty place args c.args.terms.items t
    (λ a b. ap (λ f. function_result f c.args.ty (a ∷ b ∷ [])) c.in-Shr.is) type_is h o)
    c.of_two-in-Shr.ensures

pub of_one-requires : goal.of_one-requires
of_one-requires c = c.requires ∙ ap arity c.in-Convert.is

pub of_one-requires-in-Abs : goal.of_one-requires-in-Abs
of_one-requires-in-Abs c = c.requires ∙ ap arity c.in-Abs.is

pub of_two-requires : goal.of_two-requires
of_two-requires c = c.requires ∙ ap arity c.in-Min.is

pub of_two-requires-in-Max : goal.of_two-requires-in-Max
of_two-requires-in-Max c = c.requires ∙ ap arity c.in-Max.is

pub of_three-requires : goal.of_three-requires
of_three-requires c = c.requires ∙ ap arity c.in-Limit.is

pub of_three-requires-in-Sel : goal.of_three-requires-in-Sel
of_three-requires-in-Sel c = c.requires ∙ ap arity c.in-Sel.is

pub of_two-requires-in-Shl : goal.of_two-requires-in-Shl
of_two-requires-in-Shl c = c.requires ∙ ap arity c.in-Shl.is

pub of_two-requires-in-Shr : goal.of_two-requires-in-Shr
of_two-requires-in-Shr c = c.requires ∙ ap arity c.in-Shr.is
