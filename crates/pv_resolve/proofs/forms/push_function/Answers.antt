use Rattle.std.proofs.lemmas.Result.{IfOk-weaker}
use Rattle.pv_resolve.proofs.FormLaws.{added_grows, added_within, function_means}
use Rattle.pv_resolve.proofs.forms.push_function.Goals as goal

pub push-requires-clause-follows : goal.push-requires-clause-follows
push-requires-clause-follows c = c.node_of_function.ensures.follows _ c.requires.numbers

pub returns : goal.returns
returns c = record {
  grows = IfOk-weaker c.push.result _ _ (λ n adds. added_grows _ _ _ n adds) c.push.ensures.adds;
  within = IfOk-weaker c.push.result _ _ (λ n adds. added_within _ _ _ n adds) c.push.ensures.adds;
  memory = c.push.ensures.memory;
  means = λ source block base e at args is type_is a.
      IfOk-weaker c.push.result _ _
      (λ k adds. function_means source block base _ _ c.args.numbers.now c.node_of_function.result k c.args.function c.args.ty at e args
      c.node_of_function.ensures is type_is a adds)
      c.push.ensures.adds;
}
