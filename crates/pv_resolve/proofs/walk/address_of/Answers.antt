use Rattle.std.proofs.Common.{◌<◌, pos, length, Some, ap, sym, subst, arith}
use Rattle.std.specs.Prelude.{IfSome}
use Rattle.std.proofs.lemmas.Result.{IfOk-weaker}
use Rattle.pv_eval.specs.declared.node.Node.TheVariants.{Constant}
use Rattle.pv_resolve.specs.Rooms.{IsMostOf}
use Rattle.pv_resolve.specs.Walks.{IsWalk}
use Rattle.pv_resolve.proofs.FormLaws.{added_grows, added_within}
use Rattle.pv_resolve.proofs.Nears.{added_most}
use Rattle.pv_resolve.proofs.Walking.{walk_addressed}
use Rattle.pv_resolve.proofs.walk.address_of.Goals as goal

pub push-requires-clause-follows : goal.push-requires-clause-follows
push-requires-clause-follows c =
    record { below = tt; most = tt }

pub returns-in-Some : goal.returns-in-Some
returns-in-Some c =
    record {
      grows = record { ordered = c.requires.ordered; longer = omega arith; same_most = λ k m is. is };
      there = subst (λ o. IfSome o (λ n. n < length c.args.nodes.now.items)) c.in-Some.is c.requires.address;
      memory = tt;
      most = λ most is. subst (λ o. IsMostOf c.args.nodes.now.items o most) c.in-Some.is is;
      leads = λ source block base root more w.
          subst (λ o. IsWalk source block base c.args.nodes.now.items (record { begin = c.args.walk.begin; address = o; block = c.args.walk.block }) root more) c.in-Some.is w;
    }

pub returns-in-None : goal.returns-in-None
returns-in-None c =
    record {
      grows = IfOk-weaker c.push.result _ _ (λ n adds. added_grows _ _ _ n adds) c.push.ensures.adds;
      there = IfOk-weaker c.push.result _ _ (λ n adds. added_within _ _ _ n adds) c.push.ensures.adds;
      memory = c.push.ensures.memory;
      most = λ most is. IfOk-weaker c.push.result _ _ (λ n adds. added_most _ _ (Constant (pos 0)) n most adds
          (ap Some (sym (subst (λ o. IsMostOf c.args.nodes.now.items o most) c.in-None.is is)))) c.push.ensures.adds;
      leads = λ source block base root more w. IfOk-weaker c.push.result _ _
          (λ n adds. walk_addressed source block base _ _ c.args.walk.begin c.args.walk.block n root more adds
          (subst (λ o. IsWalk source block base c.args.nodes.now.items (record { begin = c.args.walk.begin; address = o; block = c.args.walk.block }) root more) c.in-None.is w))
          c.push.ensures.adds;
    }
