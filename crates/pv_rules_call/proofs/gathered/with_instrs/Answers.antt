use Rattle.std.proofs.Common.{refl, map}
use Rattle.pv_tree.specs.View.{instr_tree}
use Rattle.pv_names.specs.InScope.{scope_of}
use Rattle.pv_rules_call.specs.Links.{link_tree}
use Rattle.pv_rules_call.proofs.Gathering.{next_instr}
use Rattle.pv_rules_call.proofs.gathered.with_instrs.Goals as goal

pub loop-instr-preserved : goal.loop-instr-preserved
loop-instr-preserved c =
    next_instr (scope_of c.args.scope.now) instr_tree c.args.list.now c.loop-instr.instr-index _ c.instr-item.result (map link_tree c.loop-instr.all.items)
    (map link_tree c.in_ok-all.all.items) _ c.loop-instr-test.true c.instr-item.is refl c.in_ok-all.ensures c.loop-instr.invariant
