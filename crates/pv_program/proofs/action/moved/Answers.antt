use Rattle.std.proofs.Common.{sym, ap, ◌∙◌}
use Rattle.std.specs.Prelude.{option_map}
use Rattle.std.proofs.lemmas.Bool.{false≢true}
use Rattle.pv_tree.specs.declared.instr.Op.TheVariants as op
use Rattle.pv_tree.specs.InstructionGroups.{group_of}
use Rattle.pv_tree.specs.View.{instr_tree, operand_tree}
use Rattle.pv_resolve.proofs.ForCallers.{failed}
use Rattle.pv_program.specs.Ready.{is_moved, is_nesting}
use Rattle.pv_program.proofs.Actions.{loads-by, transfers-by}
use Rattle.pv_program.proofs.action.moved.Goals as goal

pub returns-in-None-clause-is : goal.returns-in-None-clause-is
returns-in-None-clause-is c = λ source targets room is e t.
    loads-by (instr_tree c.args.instr.now) (operand_tree c.args.operand.now) c.in_ok-ty.ty c.in-L.is e (sym c.literal.ensures ∙ ap (option_map (λ l. l.now)) c.in-None.is) t
    (c.in_ok-ty.ensures.has source (instr_tree c.args.instr.now) is e)

pub returns-in-T-clause-is : goal.returns-in-T-clause-is
returns-in-T-clause-is c = λ source targets room is e t.
    transfers-by (instr_tree c.args.instr.now) (operand_tree c.args.operand.now) c.in_ok-ty.ty c.in-T.is e t
    (c.in_ok-ty.ensures.has source (instr_tree c.args.instr.now) is e)

pub returns-in-None-clause-suits : goal.returns-in-None-clause-suits
returns-in-None-clause-suits c = ap (λ o. is_nesting (group_of o)) c.in-L.is

pub returns-in-T-clause-suits : goal.returns-in-T-clause-suits
returns-in-T-clause-suits c = ap (λ o. is_nesting (group_of o)) c.in-T.is

pub returns-in-Some-clause-room : goal.returns-in-Some-clause-room
returns-in-Some-clause-room c = λ moved. absurd (false≢true
    (sym (ap (λ o. is_moved o (instr_tree c.args.instr.now).literal) c.in-L.is
    ∙ ap (is_moved op.L) (sym c.literal.ensures ∙ ap (option_map (λ l. l.now)) c.in-Some.is)) ∙ moved))

pub returns-in_err-ty-clause-room : goal.returns-in_err-ty-clause-room
returns-in_err-ty-clause-room c = λ moved. failed _ _ c.from_residual.ensures.1 c.in_err-ty.ensures.memory
