use Rattle.std.proofs.Common.{[], map, take, subst, sym}
use Rattle.pv_rules_expr.specs.Nearest.{Nears}
use Rattle.pv_rules_expr.specs.Members.{IsLaterBehind}
use Rattle.pv_rules_decl.specs.Doubles.{AreMet, name_of_var}
use Rattle.pv_rules_expr.proofs.ForCallers.{taken_one}
use Rattle.pv_rules_decl.proofs.Doubling.{near_later}
use Rattle.pv_rules_decl.proofs.doubled.doubled_in.Goals as goal

pub loop-var-preserved : goal.loop-var-preserved
loop-var-preserved c =
    let one = taken_one name_of_var c.args.vars.now c.loop-var.var-index c.var-item.result c.loop-var-test.true c.var-item.is in
    let before = map name_of_var (take c.loop-var.var-index c.args.vars.now) in record {
      met = subst (AreMet c.meet.new.self) (sym one) (c.in_ok-nearest.ensures.met before c.loop-var.invariant.met);
      near = subst (λ l. Nears (IsLaterBehind [] l) c.args.nearest c.in_ok-nearest.nearest) (sym one)
          (near_later c.loop-var.names before (name_of_var c.var-item.result) c.args.nearest c.loop-var.nearest c.in_ok-nearest.nearest c.loop-var.invariant.met
          c.loop-var.invariant.near c.in_ok-nearest.ensures.near);
    }
