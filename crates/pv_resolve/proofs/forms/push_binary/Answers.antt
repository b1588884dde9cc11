use Rattle.std.proofs.lemmas.Result.{IfOk-weaker}
use Rattle.pv_resolve.proofs.FormLaws.{added_grows, added_within, two_means}
use Rattle.pv_resolve.proofs.forms.push_binary.Goals as goal

pub push-requires-clause-follows : goal.push-requires-clause-follows
push-requires-clause-follows c = record { below = (c.requires.left, c.requires.right); most = tt }

pub returns : goal.returns
returns c = record {
  grows = IfOk-weaker c.push.result _ _ (λ n adds. added_grows _ _ _ n adds) c.push.ensures.adds;
  within = IfOk-weaker c.push.result _ _ (λ n adds. added_within _ _ _ n adds) c.push.ensures.adds;
  memory = c.push.ensures.memory;
  means = λ source block base mid e l r is type_is m n.
      IfOk-weaker c.push.result _ _
      (λ k adds. two_means source block base mid _ _ c.args.left c.args.right k c.args.op c.two_of.result c.args.ty c.args.place e l r
      c.two_of.ensures is type_is m n adds)
      c.push.ensures.adds;
}
