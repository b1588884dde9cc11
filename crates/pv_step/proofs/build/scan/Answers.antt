use Rattle.std.proofs.Common.{ap, Err, length}
use Rattle.pv_bool.specs.Tree.{term_tree}
use Rattle.pv_step.proofs.Growth.{at_fault, beyond_scan, over_all}
use Rattle.pv_step.proofs.build.scan.Goals as goal

pub assign_all-requires-clause-body : goal.assign_all-requires-clause-body
assign_all-requires-clause-body c =
    over_all (length c.args.program.now.bits.items) _ c.deref.result.now c.args.program.now.body.items c.requires.bits
    c.deref.ensures.value c.args.program.now.own.body

pub returns-in_err-assign_all-clause-made : goal.returns-in_err-assign_all-clause-made
returns-in_err-assign_all-clause-made c =
    at_fault c.args.gates.now c.assign_all.new.gates _ c.from_residual.result _ c.from_residual.ensures.1
    (λ e. beyond_scan c.deref.result.now c.args.program.now.body.items _
    (term_tree c.args.program.now.holds) c.args.gates.now.limit c.deref.ensures.value (c.in_err-assign_all.ensures.limit (ap Err e)))
