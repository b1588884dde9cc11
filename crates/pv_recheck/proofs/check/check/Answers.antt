use Rattle.std.proofs.Common.{List, Result, sym, subst}
use Rattle.std.proofs.lemmas.Bool.{both_ways}
use Rattle.pv_bool.specs.Programs.{program_tree}
use Rattle.pv_cert.specs.declared.proof.Proof.{Proof}
use Rattle.pv_recheck.specs.declared.fault.RecheckFault.{RecheckFault}
use Rattle.pv_recheck.specs.Answers.{Answers}
use Rattle.pv_recheck.specs.Judging.{JudgesProofs}
use Rattle.pv_recheck.proofs.Judged.{answers_by_proofs}
use Rattle.pv_recheck.proofs.check.check.Goals as goal

pub returns-in-Ok : goal.returns-in-Ok
returns-in-Ok c =
    subst (λ (r : Result (Unit {0}) RecheckFault). Answers c.args.limit (program_tree c.args.program.now) c.args.bytes.now r)
    (sym c.answer_of.ensures)
    (answers_by_proofs c.args.limit (program_tree c.args.program.now) c.args.bytes.now c.in-Ok.certificate c.check_proofs.result
    (λ u. both_ways c.is_unbuilt.result c.if-is_unbuilt.false (c.is_unbuilt.ensures.1 u)) c.in-Ok.ensures.found
    (subst (λ (ps : List Proof). JudgesProofs c.args.limit (program_tree c.args.program.now) ps c.check_proofs.result) c.as_slice.ensures
    c.check_proofs.ensures))
