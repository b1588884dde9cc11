use Rattle.std.proofs.Common.{◌≡◌, ℕ, ◌≤◌, ap, sym, subst, ◌∙◌}
use Rattle.pv_machine.specs.Machines.{Machine}
use Rattle.pv_machine.specs.Queries.{MeetsBase, MeetsStep}
use Rattle.pv_kind.specs.Oracles.{Encoding}
use Rattle.pv_kind.specs.Decisions.{IsUnspent, IsProvedBy, IsFailedBy}
use Rattle.pv_valid.specs.Cases.{Case}
use Rattle.pv_valid.specs.Validity.{ending_in}
use Rattle.pv_valid.specs.Deciding.{certificate_of}
use Rattle.pv_evidence.specs.Endings.{EndReplays}
use Rattle.pv_evidence.proofs.Ends.{to-oracle, fits-of, decided-as, end-replays, is-evidence}
use Rattle.pv_evidence.proofs.decide.decide_case.Goals as goal

pub evidence_of-requires : goal.evidence_of-requires
evidence_of-requires g c =
    let case = g.C.Judged.case c.args.case.now in
    let fix = g.C.Oracle.fixed c.args.case.now in
    let first = g.C.Oracle.stage c.args.case.now in
    let last = g.C.Oracle.stage c.decide.new.oracle in
    let enc : g.C.Oracle.Fixed → Encoding = g.C.Oracle.encoding in
    let mach : g.C.Oracle.Fixed → Machine = λ x. g.C.Source.Machine.machine (g.C.Oracle.source x) in
    let same = c.requires.one c.decide.new.oracle
    (c.in_ok-decision.ensures.fixed_kept ∙ c.in_ok-variables.ensures.fixed_kept) in
    let o = to-oracle case (enc fix) first c.args.limits.now c.requires.alike
    (fits-of case (enc fix) first c.args.limits.now c.requires.alike c.in_ok-variables.ensures.fits) in
    let d = decided-as mach enc (g.C.Oracle.fixed c.variables.new.self) fix (g.C.Oracle.stage c.variables.new.self) first last
    c.args.limits.now c.in_ok-decision.decision.proofs c.in_ok-decision.decision.end case.machine
    c.in_ok-variables.ensures.fixed_kept c.in_ok-variables.ensures.stage_kept c.requires.machine c.in_ok-decision.ensures.decides in
    record {
      replays = subst (λ (x : Case). EndReplays x c.in_ok-decision.decision.end) (sym same)
          (end-replays case (enc fix) first last c.args.limits.now o c.in_ok-decision.decision.proofs c.in_ok-decision.decision.end d);
    }

pub returns-clause-evidence : goal.returns-clause-evidence
returns-clause-evidence g c =
    let case = g.C.Judged.case c.args.case.now in
    let fix = g.C.Oracle.fixed c.args.case.now in
    let first = g.C.Oracle.stage c.args.case.now in
    let last = g.C.Oracle.stage c.decide.new.oracle in
    let enc : g.C.Oracle.Fixed → Encoding = g.C.Oracle.encoding in
    let mach : g.C.Oracle.Fixed → Machine = λ x. g.C.Source.Machine.machine (g.C.Oracle.source x) in
    let limits = c.args.limits.now in
    let proofs = c.in_ok-decision.decision.proofs in
    let end = c.in_ok-decision.decision.end in
    let cert = c.evidence_of.result.certificate in
    let told = c.evidence_of.result.ending in
    let same = c.requires.one c.decide.new.oracle
    (c.in_ok-decision.ensures.fixed_kept ∙ c.in_ok-variables.ensures.fixed_kept) in
    let o = to-oracle case (enc fix) first limits c.requires.alike
    (fits-of case (enc fix) first limits c.requires.alike c.in_ok-variables.ensures.fits) in
    let d = decided-as mach enc (g.C.Oracle.fixed c.variables.new.self) fix (g.C.Oracle.stage c.variables.new.self) first last
    limits proofs end case.machine
    c.in_ok-variables.ensures.fixed_kept c.in_ok-variables.ensures.stage_kept c.requires.machine c.in_ok-decision.ensures.decides in
    let one : mach (g.C.Oracle.fixed c.variables.new.self) ≡ case.machine = ap mach c.in_ok-variables.ensures.fixed_kept ∙ c.requires.machine in
    let is = subst (λ (x : Case). cert ≡ certificate_of x proofs end) same c.evidence_of.ensures.certificate in
    let ends = subst (λ (x : Case). told ≡ ending_in x cert.trace) same c.evidence_of.ensures.ending in
    let proves = subst (λ (m : Machine). (k : ℕ) → IsUnspent end → k ≤ limits.depth → ((j : ℕ) → 1 ≤ j → j ≤ k → MeetsBase m j → ⊥)
    → (MeetsStep m k → ⊥) → IsProvedBy k end) one c.in_ok-decision.ensures.proves in
    let finds = subst (λ (m : Machine). (n : ℕ) → IsUnspent end → n ≤ limits.depth → MeetsBase m n → IsFailedBy n end) one
    c.in_ok-decision.ensures.finds in
    is-evidence case (enc fix) first last limits o proofs (g.met.C.Judged.sound c.args.case.now) end d cert told is ends proves finds

pub returns-clause-kept : goal.returns-clause-kept
returns-clause-kept g c =
    c.evidence_of.ensures.kept ∙ c.requires.one c.decide.new.oracle (c.in_ok-decision.ensures.fixed_kept ∙ c.in_ok-variables.ensures.fixed_kept)
