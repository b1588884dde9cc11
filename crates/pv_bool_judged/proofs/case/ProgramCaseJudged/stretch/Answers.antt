use Rattle.std.proofs.Common.{sym, subst, List, ℤ}
use Rattle.pv_bool.specs.Programs.{program_tree}
use Rattle.pv_bool.specs.Machine.{machine_of}
use Rattle.pv_valid.specs.Shown.{IsStretch}
use Rattle.pv_bool_judged.proofs.Begun.{start-is}
use Rattle.pv_bool_judged.proofs.case.ProgramCaseJudged.stretch.Goals as goal

pub returns-clause-stretch : goal.returns-clause-stretch
returns-clause-stretch c = λ at inputs.
    let case = c.args.self.now in
    let begins = start-is (program_tree case.program.now) case.facts case.gates c.args.start case.kept_bits at in
    subst (λ (s : List ℤ). IsStretch (machine_of (program_tree case.program.now)) s c.args.inputs.now c.run_scans.result.good c.run_scans.result.ending)
    (sym begins.1) (c.run_scans.ensures.stretch begins.0)
