use Rattle.std.proofs.Common.{sym, subst}
use Rattle.pv_eval.specs.Ops.{AreOps}
use Rattle.pv_eval.proofs.Lowering.{are_ops}
use Rattle.pv_eval.proofs.Meanings.{evaluates}
use Rattle.pv_eval.proofs.expression.Expression.of.Goals as goal

pub invariant_of-result : goal.invariant_of-result
invariant_of-result c = record { spots = subst AreOps (sym c.in_ok-ops.ensures) (are_ops c.args.nodes.now c.requires.nodes) }

pub returns-clause-evaluates : goal.returns-clause-evaluates
returns-clause-evaluates c = λ source block e m. record {
  same = evaluates source block c.args.nodes.now c.args.result_node e c.in_ok-ops.ops.items c.arg_of.result c.requires.nodes c.requires.within c.in_ok-ops.ensures c.arg_of.ensures m;
}
