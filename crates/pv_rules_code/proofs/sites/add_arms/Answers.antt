use Rattle.std.proofs.Common.{ap, map, refl}
use Rattle.std.specs.Prelude.{flat_map}
use Rattle.pv_tree.specs.LiteralTypes.{nothing}
use Rattle.pv_tree.specs.Parts.{parts_of}
use Rattle.pv_tree.specs.View.{expr_tree}
use Rattle.pv_names.specs.InScope.{scope_of}
use Rattle.pv_rules_expr.specs.Looks.{near_parts}
use Rattle.pv_rules_expr.specs.Near.{near_at}
use Rattle.pv_rules_expr.specs.NearestIn.{nearest_in}
use Rattle.pv_rules_expr.proofs.ForCallers.{next_in, next_parts}
use Rattle.pv_rules_code.specs.AtStatements.{condition_at}
use Rattle.pv_rules_code.proofs.sites.add_arms.Goals as goal

pub loop-arm-init : goal.loop-arm-init
loop-arm-init c =
    let scope = scope_of c.args.scope.now in
    record {
      parts = λ what. ap (λ l. near_parts what scope (flat_map (parts_of scope nothing) (map (λ a. expr_tree a.0) l)) (near_at what c.args.near.now))
          c.deref-arm-items.ensures.value;
      condition = ap (λ l. nearest_in (condition_at scope) (map (λ a. expr_tree a.0) l) c.args.condition.now) c.deref-arm-items.ensures.value;
    }

pub loop-arm-preserved : goal.loop-arm-preserved
loop-arm-preserved c =
    let scope = scope_of c.args.scope.now in
    record {
      parts = λ what. next_parts what scope (parts_of scope nothing) (λ a. expr_tree a.0) c.deref-arm-items.result.now c.loop-arm.arm-index _
          c.arm-item.result (near_at what c.loop-arm.near) (near_at what c.add_condition.new.near) _ c.loop-arm-test.true c.arm-item.is refl
          (c.in_ok-add_condition.ensures.parts what) (c.loop-arm.invariant.parts what);
      condition = next_in (condition_at scope) (λ a. expr_tree a.0) c.deref-arm-items.result.now c.loop-arm.arm-index _
          c.arm-item.result c.loop-arm.condition c.add_condition.new.condition _ c.loop-arm-test.true c.arm-item.is refl
          c.in_ok-add_condition.ensures.condition c.loop-arm.invariant.condition;
    }
