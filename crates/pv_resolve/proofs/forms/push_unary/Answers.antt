use Rattle.std.proofs.Common.{refl, ap, ◌∙◌, arith}
use Rattle.std.proofs.lemmas.Result.{IfOk-weaker}
use Rattle.pv_tree.specs.declared.expr.UnaryOp.TheVariants.{Minus, Not}
use Rattle.pv_tree.specs.Tree.{unary}
use Rattle.pv_eval.specs.declared.node.Node.TheVariants.{One}
use Rattle.pv_eval.specs.declared.node.OneOp.TheVariants as one
use Rattle.pv_resolve.proofs.FormLaws.{added_grows, added_within, plus_means, one_means}
use Rattle.pv_resolve.proofs.forms.push_unary.Goals as goal

pub returns-in-Plus : goal.returns-in-Plus
returns-in-Plus c = record {
  grows = record { ordered = c.requires.nodes; longer = omega arith; same_most = λ k m is. is };
  within = c.requires.arg;
  memory = tt;
  means = λ source block base e place inner is none type_is m.
      plus_means source block base _ c.args.arg e place inner (is ∙ ap (λ o. unary o place inner) c.in-Plus.is) none m;
}

pub returns-in-Minus : goal.returns-in-Minus
returns-in-Minus c = record {
  grows = IfOk-weaker c.push_one.result _ _ (λ n adds. added_grows _ _ _ n adds) c.push_one.ensures.adds;
  within = IfOk-weaker c.push_one.result _ _ (λ n adds. added_within _ _ _ n adds) c.push_one.ensures.adds;
  memory = c.push_one.ensures.memory;
  means = λ source block base e place inner is none type_is m.
      IfOk-weaker c.push_one.result _ _
      (λ n adds. one_means source block base _ _ c.args.arg n Minus (One one.Minus c.args.ty c.args.arg) c.args.ty e place inner
      (λ first frame ws. refl) (is ∙ ap (λ o. unary o place inner) c.in-Minus.is) none type_is m adds)
      c.push_one.ensures.adds;
}

pub returns-in-Not : goal.returns-in-Not
returns-in-Not c = record {
  grows = IfOk-weaker c.push_one-in-Not.result _ _ (λ n adds. added_grows _ _ _ n adds) c.push_one-in-Not.ensures.adds;
  within = IfOk-weaker c.push_one-in-Not.result _ _ (λ n adds. added_within _ _ _ n adds) c.push_one-in-Not.ensures.adds;
  memory = c.push_one-in-Not.ensures.memory;
  means = λ source block base e place inner is none type_is m.
      IfOk-weaker c.push_one-in-Not.result _ _
      (λ n adds. one_means source block base _ _ c.args.arg n Not (One one.Not c.args.ty c.args.arg) c.args.ty e place inner
      (λ first frame ws. refl) (is ∙ ap (λ o. unary o place inner) c.in-Not.is) none type_is m adds)
      c.push_one-in-Not.ensures.adds;
}
