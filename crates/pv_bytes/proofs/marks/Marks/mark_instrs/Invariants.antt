use Rattle.std.proofs.Common.{take}
use Rattle.std.specs.Prelude.{flat_map}
use Rattle.pv_tree.specs.View.{instr_tree}
use Rattle.pv_bytes.specs.Operands.{operands_in_instr, MarksAlso}
use Rattle.pv_bytes.proofs.marks.Marks.mark_instrs.Given as goal

abbrev pub invariant-loop-instr : goal.invariant-loop-instr
invariant-loop-instr l =
    MarksAlso l.area l.fn.self.flags.items l.self.flags.items (flat_map (λ i. operands_in_instr (instr_tree i))
    (take l.instr-index l.instrs))
