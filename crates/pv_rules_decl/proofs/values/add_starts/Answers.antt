use Rattle.std.proofs.Common.{refl}
use Rattle.pv_tree.specs.Parts.{parts_of_operand}
use Rattle.pv_tree.specs.View.{start_tree}
use Rattle.pv_names.specs.InScope.{scope_of}
use Rattle.pv_rules_expr.specs.Near.{near_at}
use Rattle.pv_rules_expr.proofs.ForCallers.{next_in, next_parts}
use Rattle.pv_rules_decl.specs.Starts.{start_place}
use Rattle.pv_rules_decl.specs.ValueNears.{near_start}
use Rattle.pv_rules_decl.proofs.values.add_starts.Goals as goal

pub loop-start-preserved : goal.loop-start-preserved
loop-start-preserved c =
    let scope = scope_of c.args.scope.now in
    record {
      starts = λ what. next_in (start_place what scope) start_tree c.args.list.now c.loop-start.start-index _ c.start-item.result
          (near_start what c.loop-start.starts) (near_start what c.add_start.new.starts) _ c.loop-start-test.true c.start-item.is refl
          (c.in_ok-add_start.ensures.starts what) (c.loop-start.invariant.starts what);
      indexes = λ what. next_parts what scope (λ v. parts_of_operand scope v.0) start_tree c.args.list.now c.loop-start.start-index _
          c.start-item.result (near_at what c.loop-start.indexes) (near_at what c.add_start.new.indexes) _ c.loop-start-test.true c.start-item.is refl
          (c.in_ok-add_start.ensures.indexes what) (c.loop-start.invariant.indexes what);
    }
