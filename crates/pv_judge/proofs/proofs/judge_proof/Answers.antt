use Rattle.std.proofs.Common.{◌+◌, ap, sym, ◌∙◌, inl, inr}
use Rattle.pv_cnf.specs.Clause.{Cnf}
use Rattle.pv_valid.specs.declared.fault.Kind.TheVariants as kind
use Rattle.pv_valid.specs.Walk.{proof_fault}
use Rattle.pv_judge.specs.Logs.{log_fault}
use Rattle.pv_judge.proofs.Finds.{finds-at, finds-as, wrong-query, wrong-chain, many-gates, log-judged, finds-memory, finds-gates}
use Rattle.pv_judge.proofs.proofs.judge_proof.Goals as goal

pub returns-then-not-is_expected-clause-finds : goal.returns-then-not-is_expected-clause-finds
returns-then-not-is_expected-clause-finds g c =
    let case = g.J.Judged.case c.args.case.now in
    let log = log_fault c.args.task in
    let p = c.args.proof.now in
    finds-at (proof_fault case c.args.is_expected log c.args.at p) c.fault_at.result c.args.at kind.WrongQuery c.fault_at.ensures
    (wrong-query case log c.args.at p c.args.is_expected c.if-not-is_expected.true)

pub returns-then-not-is_plain-clause-finds : goal.returns-then-not-is_plain-clause-finds
returns-then-not-is_plain-clause-finds g c =
    let case = g.J.Judged.case c.args.case.now in
    let log = log_fault c.args.task in
    let p = c.args.proof.now in
    finds-at (proof_fault case c.args.is_expected log c.args.at p) c.fault_at-then-not-is_plain.result (c.args.at + 1) kind.WrongQuery c.fault_at-then-not-is_plain.ensures
    (wrong-chain case log c.args.at p c.args.is_expected c.if-not-is_expected.false (sym c.is_plain.ensures ∙ c.if-not-is_plain.true))

pub returns-in-Ok-clause-finds : goal.returns-in-Ok-clause-finds
returns-in-Ok-clause-finds g c =
    let case = g.J.Judged.case c.args.case.now in
    let log = log_fault c.args.task in
    let p = c.args.proof.now in
    finds-as (proof_fault case c.args.is_expected log c.args.at p) (log c.in-Ok.formula (c.args.at + 2) p.log) c.judge_log.result
    (log-judged case log c.args.at p c.args.is_expected c.if-not-is_expected.false (sym c.is_plain.ensures ∙ c.if-not-is_plain.false)
    c.in-Ok.ensures.fits
    ∙ ap (λ (f : Cnf). log f (c.args.at + 2) p.log) (sym c.in-Ok.ensures.formula))
    c.judge_log.ensures

pub returns-in-Err-clause-finds : goal.returns-in-Err-clause-finds
returns-in-Err-clause-finds g c =
    let case = g.J.Judged.case c.args.case.now in
    let log = log_fault c.args.task in
    let p = c.args.proof.now in
    elim c.in-Err.ensures.fault [
      | inl memory ↦ finds-memory (proof_fault case c.args.is_expected log c.args.at p) c.in-Err.fault memory
      | inr gates ↦ finds-gates (proof_fault case c.args.is_expected log c.args.at p) c.in-Err.fault gates.0
          (many-gates case log c.args.at p c.args.is_expected c.if-not-is_expected.false (sym c.is_plain.ensures ∙ c.if-not-is_plain.false) gates.1)
    ]
