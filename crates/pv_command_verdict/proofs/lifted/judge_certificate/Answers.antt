use Rattle.std.proofs.Common.{subst, arith}
use Rattle.pv_bool.specs.Programs.{program_tree}
use Rattle.pv_valid.specs.Cases.{Case}
use Rattle.pv_judge.specs.Answers.{Judges}
use Rattle.pv_command_verdict.proofs.Lifting.{case_is}
use Rattle.pv_command_verdict.proofs.lifted.judge_certificate.Goals as goal

pub new-requires : goal.new-requires
new-requires c = (let few = c.requires.worked_on.is.few in omega (arith, few))

pub returns : goal.returns
returns c = λ told file s reads is.
    let lift = c.in_ok-lift.lift in
    let of = c.in_ok-lift.ensures told file s reads is in
    subst (λ (case : Case). Judges case c.args.certificate.now c.judge-judged.result)
    (case_is s (program_tree lift.machine.circuits.now.program.now) lift.facts of.program of.known) c.judge-judged.ensures.judges
