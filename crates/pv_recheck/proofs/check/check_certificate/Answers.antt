use Rattle.pv_bool.specs.Programs.{program_tree}
use Rattle.pv_recheck.specs.declared.check.TheConstants.{MAX_STEP_GATES}
use Rattle.pv_recheck.proofs.One.{one_answer}
use Rattle.pv_recheck.proofs.check.check_certificate.Goals as goal

pub returns-clause-only : goal.returns-clause-only
returns-clause-only c = λ other full h. one_answer (program_tree c.args.program.now) MAX_STEP_GATES c.args.bytes.now c.check.result other
    c.check.ensures full h
