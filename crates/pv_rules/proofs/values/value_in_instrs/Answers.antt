use Rattle.std.proofs.Common.{◌≡◌, refl, map}
use Rattle.std.specs.Prelude.{flat_map}
use Rattle.pv_tree.specs.Parts.{calls_of_instruction}
use Rattle.pv_tree.specs.View.{instr_tree}
use Rattle.pv_names.specs.InScope.{scope_of}
use Rattle.pv_rules.specs.Reads.{reads_of_instruction}
use Rattle.pv_rules.specs.Values.{value_at}
use Rattle.pv_rules.proofs.Walks.{among, next_of}
use Rattle.pv_rules.proofs.values.value_in_instrs.Goals as goal

pub value_in_instr-best-requires : goal.value_in_instr-best-requires
value_in_instr-best-requires c =
    λ s h. among (λ k. k ≡ s) (λ i. calls_of_instruction (instr_tree i)) (λ l. flat_map calls_of_instruction (map instr_tree l)) (λ x l. refl)
    c.args.list.now c.loop-instr.instr-index c.instr-item.result c.loop-instr-test.true c.instr-item.is h

pub loop-instr-preserved : goal.loop-instr-preserved
loop-instr-preserved c =
    next_of (value_at (scope_of c.args.scope.now) (flat_map calls_of_instruction (map instr_tree c.args.list.now))) (λ i. reads_of_instruction (instr_tree i))
    (λ l. flat_map reads_of_instruction (map instr_tree l)) (λ i l. refl) c.args.list.now c.loop-instr.instr-index _ c.instr-item.result
    c.loop-instr.best c.value_in_instr-best.result _ c.loop-instr-test.true c.instr-item.is refl c.value_in_instr-best.ensures c.loop-instr.invariant
