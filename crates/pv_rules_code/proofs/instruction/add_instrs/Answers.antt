use Rattle.std.proofs.Common.{refl}
use Rattle.pv_tree.specs.View.{instr_tree}
use Rattle.pv_names.specs.InScope.{scope_of}
use Rattle.pv_rules_expr.proofs.ForCallers.{next_in}
use Rattle.pv_rules_code.specs.Nears.{near_site}
use Rattle.pv_rules_code.specs.Sites.{instr_place}
use Rattle.pv_rules_code.proofs.instruction.add_instrs.Goals as goal

pub loop-instr-preserved : goal.loop-instr-preserved
loop-instr-preserved c =
    λ what. next_in (instr_place what (scope_of c.args.scope.now)) instr_tree c.args.list.now c.loop-instr.instr-index _ c.instr-item.result
    (near_site what c.loop-instr.near) (near_site what c.add_instr.new.near) _ c.loop-instr-test.true c.instr-item.is refl
    (c.in_ok-add_instr.ensures what) (c.loop-instr.invariant what)
