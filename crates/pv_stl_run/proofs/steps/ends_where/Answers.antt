use Rattle.std.proofs.Common.{true, false, Ok, Err, ap, sym, refl, ◌∙◌}
use Rattle.pv_mean.specs.Endings.{ended}
use Rattle.pv_mean.specs.Registers.{resulting, with_logic}
use Rattle.pv_mean.specs.Instructions.{onward, ends_where}
use Rattle.pv_eval.specs.Traps.{tried}
use Rattle.pv_stl_run.specs.Views.{registers_of}
use Rattle.pv_stl_run.specs.Code.{working}
use Rattle.pv_stl_run.proofs.JumpLaws.{by_result_is}
use Rattle.pv_stl_run.proofs.steps.ends_where.Goals as goal

pub returns-in-Ok-true-clause-same : goal.returns-in-Ok-true-clause-same
returns-in-Ok-true-clause-same c = λ i frame p.
    sym (by_result_is i c.args.place (working c.args.r.now frame) (tried (Ok c.in-Ok-true.field-0)) ends_where p c.in-Ok-true.ensures.value
    ∙ ap (λ b. ends_where b (record { registers = with_logic (registers_of c.args.r.now) (resulting false true); frame = frame }))
    c.in-Ok-true.field-0-test)

pub returns-in-Ok-false-clause-same : goal.returns-in-Ok-false-clause-same
returns-in-Ok-false-clause-same c = λ i frame p.
    ap (λ r. ended (onward (record { registers = r; frame = frame }))) (c.in-Ok-false.ensures.left refl)
    ∙ sym (by_result_is i c.args.place (working c.args.r.now frame) (tried (Ok c.in-Ok-false.field-0)) ends_where p
    c.in-Ok-false.ensures.value
    ∙ ap (λ b. ends_where b (record { registers = with_logic (registers_of c.args.r.now) (resulting false true); frame = frame }))
    c.in-Ok-false.field-0-test)

pub returns-in-Err-clause-same : goal.returns-in-Err-clause-same
returns-in-Err-clause-same c = λ i frame p.
    sym (by_result_is i c.args.place (working c.args.r.now frame) (tried (Err c.in-Err.trap)) ends_where p c.in-Err.ensures.value)
