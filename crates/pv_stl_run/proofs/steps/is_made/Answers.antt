use Rattle.std.proofs.Common.{ap, sym, ◌∙◌}
use Rattle.pv_stl_run.specs.Views.{registers_of}
use Rattle.pv_stl_run.specs.Rows.{test_of}
use Rattle.pv_stl_run.specs.Deciding.{decision}
use Rattle.pv_eval.specs.Traps.{tried}
use Rattle.pv_stl_run.proofs.JumpLaws.{decided_by, decides_codes}
use Rattle.pv_stl_run.proofs.steps.is_made.Goals as goal

pub returns-in-Codes-clause-same : goal.returns-in-Codes-clause-same
returns-in-Codes-clause-same c =
    let r = registers_of c.args.r.now in
    decided_by c.by_codes.result c.args.r.now
    ∙ decides_codes c.args.place (λ one zero. test_of c.in-Codes.test one zero) r (tried c.by_codes.result) c.by_codes.ensures
    ∙ ap (λ w. decision w c.args.place r) (sym c.in-Codes.is)
