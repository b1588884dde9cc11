use Rattle.std.proofs.Common.{sym, subst, length}
use Rattle.pv_eval.specs.Ops.{AreOps, IsAccess}
use Rattle.pv_eval.proofs.Lowering.{are_ops, is_access}
use Rattle.pv_eval.proofs.Meanings.{locates}
use Rattle.pv_eval.proofs.target.Target.of.Goals as goal

pub invariant_of-result : goal.invariant_of-result
invariant_of-result c = record {
  spots = subst AreOps (sym c.in_ok-ops.ensures) (are_ops c.args.nodes.now c.requires.nodes);
  spot = subst IsAccess (sym c.access_of.ensures) (is_access c.args.nodes.now c.args.operand (length c.args.nodes.now) c.requires.within);
}

pub returns-clause-locates : goal.returns-clause-locates
returns-clause-locates c = λ source block o m. record {
  same = locates source block c.args.nodes.now c.args.operand o c.in_ok-ops.ops.items c.access_of.result c.requires.nodes c.requires.within c.in_ok-ops.ensures c.access_of.ensures m;
}
