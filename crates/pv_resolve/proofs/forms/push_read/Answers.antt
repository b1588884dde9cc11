use Rattle.std.proofs.lemmas.Result.{IfOk-weaker}
use Rattle.pv_resolve.proofs.FormLaws.{added_grows, added_within, read_means_of}
use Rattle.pv_resolve.proofs.forms.push_read.Goals as goal

pub push-requires-clause-follows : goal.push-requires-clause-follows
push-requires-clause-follows c = record { below = c.requires.operand; most = tt }

pub returns : goal.returns
returns c = record {
  grows = IfOk-weaker c.push.result _ _ (λ n adds. added_grows _ _ _ n adds) c.push.ensures.adds;
  within = IfOk-weaker c.push.result _ _ (λ n adds. added_within _ _ _ n adds) c.push.ensures.adds;
  memory = c.push.ensures.memory;
  means = λ source block base e o is at names.
      IfOk-weaker c.push.result _ _
      (λ n adds. read_means_of source block base _ _ c.args.from e o c.args.place n is at names adds) c.push.ensures.adds;
}
