use Rattle.std.proofs.Common.{refl, map}
use Rattle.std.specs.Prelude.{flat_map}
use Rattle.pv_tree.specs.Parts.{calls_of_instruction}
use Rattle.pv_tree.specs.View.{operand_tree, instr_tree}
use Rattle.pv_names.specs.InScope.{scope_of}
use Rattle.pv_rules.specs.Outputs.{call_writes}
use Rattle.pv_rules.proofs.Walks.{found_at, left_of}
use Rattle.pv_rules.proofs.outputs.instructions_write.Goals as goal

pub returns-then-instr_writes : goal.returns-then-instr_writes
returns-then-instr_writes c =
    found_at (call_writes (scope_of c.args.scope.now) (operand_tree c.args.operand.now)) (λ i. calls_of_instruction (instr_tree i))
    (λ l. flat_map calls_of_instruction (map instr_tree l)) (λ x l. refl) c.args.list.now c.loop-instr.instr-index c.instr-item.result
    c.instr_writes.result _ c.loop-instr-test.true c.instr-item.is c.instr_writes.ensures c.if-instr_writes.true c.loop-instr.invariant

pub loop-instr-preserved : goal.loop-instr-preserved
loop-instr-preserved c =
    left_of (call_writes (scope_of c.args.scope.now) (operand_tree c.args.operand.now)) (λ i. calls_of_instruction (instr_tree i))
    (λ l. flat_map calls_of_instruction (map instr_tree l)) (λ x l. refl) c.args.list.now c.loop-instr.instr-index _ c.instr-item.result
    c.instr_writes.result _ c.loop-instr-test.true c.instr-item.is refl c.instr_writes.ensures c.if-instr_writes.false c.loop-instr.invariant
