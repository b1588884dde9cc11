use Rattle.std.proofs.Common.{map, take, subst}
use Rattle.std.proofs.lemmas.List.{take-map}
use Rattle.pv_tree.specs.View.{instr_tree}
use Rattle.pv_resolve.proofs.ForCallers.{failed}
use Rattle.pv_program.specs.Labels.{IsUnmet}
use Rattle.pv_program.proofs.Instructing.{tree-at}
use Rattle.pv_program.proofs.label.labels_at.Goals as goal

pub returns-in_err-meet-clause-room : goal.returns-in_err-meet-clause-room
returns-in_err-meet-clause-room c = λ free.
    failed _ _ c.from_residual.ensures.1
    (c.in_err-meet.ensures.room (map instr_tree (take c.loop-k.k c.args.instrs.now)) c.loop-k.invariant
    (subst (λ l. IsUnmet l (instr_tree c.index-instrs-k.result)) (take-map instr_tree c.loop-k.k c.args.instrs.now)
    (free c.loop-k.k (instr_tree c.index-instrs-k.result)
    (tree-at instr_tree c.args.instrs.now c.loop-k.k c.index-instrs-k.result c.loop-k-test.true c.index-instrs-k.is))))
