use Rattle.std.proofs.Common.{◌≡◌, [], ◌∷◌, ◌++◌, sym, subst, arith}
use Rattle.pv_eval.specs.Order.{AreNodes}
use Rattle.pv_resolve.proofs.Ordered.{ordered_push}
use Rattle.pv_resolve.proofs.growing.push.Goals as goal

pub returns-clause-adds : goal.returns-clause-adds
returns-clause-adds c =
    let grown : c.push.new.self.items ≡ c.args.nodes.now.items ++ c.args.node ∷ [] = c.in_ok-push.ensures.items in
    record {
      nodes = grown;
      number = omega arith;
      ordered = subst AreNodes (sym grown) (ordered_push c.args.nodes.now.items c.args.node c.requires.ordered c.requires.follows);
    }
