use Rattle.std.proofs.Common.{Ok, Err, ap, sym, ◌∙◌}
use Rattle.pv_mean.specs.Instructions.{jump_where}
use Rattle.pv_stl_run.specs.Views.{registers_of}
use Rattle.pv_stl_run.specs.Deciding.{decided_in}
use Rattle.pv_stl_run.specs.Code.{working}
use Rattle.pv_stl_run.proofs.JumpLaws.{jumps_by}
use Rattle.pv_stl_run.proofs.steps.jumps.Goals as goal

pub returns-in-Ok-true-clause-same : goal.returns-in-Ok-true-clause-same
returns-in-Ok-true-clause-same c = λ i frame p.
    ap (λ b. jump_where i b (working c.is_made.new.r frame)) (sym c.in-Ok-true.field-0-test)
    ∙ jumps_by c.args.when i c.args.place (registers_of c.args.r.now) frame (decided_in (Ok c.in-Ok-true.field-0) c.is_made.new.r) p
    c.in-Ok-true.ensures.same

pub returns-in-Ok-false-clause-same : goal.returns-in-Ok-false-clause-same
returns-in-Ok-false-clause-same c = λ i frame p.
    ap (λ b. jump_where i b (working c.is_made.new.r frame)) (sym c.in-Ok-false.field-0-test)
    ∙ jumps_by c.args.when i c.args.place (registers_of c.args.r.now) frame (decided_in (Ok c.in-Ok-false.field-0) c.is_made.new.r) p
    c.in-Ok-false.ensures.same

pub returns-in-Err-clause-same : goal.returns-in-Err-clause-same
returns-in-Err-clause-same c = λ i frame p.
    jumps_by c.args.when i c.args.place (registers_of c.args.r.now) frame (decided_in (Err c.in-Err.trap) c.is_made.new.r) p
    c.in-Err.ensures.same
