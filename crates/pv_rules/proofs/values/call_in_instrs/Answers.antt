use Rattle.std.proofs.Common.{refl, map}
use Rattle.std.specs.Prelude.{flat_map}
use Rattle.pv_tree.specs.Parts.{calls_of_instruction}
use Rattle.pv_tree.specs.View.{instr_tree}
use Rattle.pv_names.specs.InScope.{scope_of}
use Rattle.pv_rules.specs.Values.{call_at}
use Rattle.pv_rules.proofs.Walks.{next_of}
use Rattle.pv_rules.proofs.values.call_in_instrs.Goals as goal

pub loop-instr-preserved : goal.loop-instr-preserved
loop-instr-preserved c =
    next_of (call_at (scope_of c.args.scope.now)) (λ i. calls_of_instruction (instr_tree i)) (λ l. flat_map calls_of_instruction (map instr_tree l))
    (λ i l. refl) c.args.list.now c.loop-instr.instr-index _ c.instr-item.result c.loop-instr.best c.call_in_instr-best.result _ c.loop-instr-test.true
    c.instr-item.is refl c.call_in_instr-best.ensures c.loop-instr.invariant
