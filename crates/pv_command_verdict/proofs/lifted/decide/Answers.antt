use Rattle.std.proofs.Common.{◌≤◌, sym, subst, arith}
use Rattle.pv_kind.specs.declared.decision.Limits.{Limits}
use Rattle.pv_kind.specs.declared.told.TheConstants.{LAST_QUERY}
use Rattle.pv_bool.specs.Programs.{program_tree}
use Rattle.pv_bool.specs.Machine.{machine_of}
use Rattle.pv_step.specs.Circuits.{circuit_of}
use Rattle.pv_step.specs.Steps.{starts_of}
use Rattle.pv_replay.specs.Replays.{cells_of}
use Rattle.pv_lift.specs.Lifts.{looks_back_of}
use Rattle.pv_lift.specs.Stages.{stage_of}
use Rattle.pv_lift.specs.Cases.{case_of}
use Rattle.pv_command_verdict.proofs.OfFiles.{limits_lie_well}
use Rattle.pv_command_verdict.proofs.Lifting.{limits_are, along, OracleBy}
use Rattle.pv_command_verdict.proofs.Whole.{too_many, decided}
use Rattle.pv_command_verdict.proofs.lifted.decide.Goals as goal

pub new-requires : goal.new-requires
new-requires c = (let few = c.requires.worked_on.is.few in omega (arith, few))

-- ---- the limits

pub decide_case-decided-requires-clause-depth : goal.decide_case-decided-requires-clause-depth
decide_case-decided-requires-clause-depth c =
    let w = c.requires.worked_on in
    let within = limits_are c.limits_of.result _ w.subject.given.case.limits c.limits_of.ensures.depth c.limits_of.ensures.lemmas
    c.limits_of.ensures.words w.is.subject.case.limits in
    subst (λ (l : Limits). l.depth ≤ LAST_QUERY) (sym within) (limits_lie_well w.told w.file w.subject w.reads).depth

pub decide_case-decided-requires-clause-lemmas : goal.decide_case-decided-requires-clause-lemmas
decide_case-decided-requires-clause-lemmas c =
    let w = c.requires.worked_on in
    let within = limits_are c.limits_of.result _ w.subject.given.case.limits c.limits_of.ensures.depth c.limits_of.ensures.lemmas
    c.limits_of.ensures.words w.is.subject.case.limits in
    subst (λ (l : Limits). 1 ≤ l.lemmas) (sym within) (limits_lie_well w.told w.file w.subject w.reads).lemmas

pub decide_case-decided-requires-clause-words : goal.decide_case-decided-requires-clause-words
decide_case-decided-requires-clause-words c =
    let w = c.requires.worked_on in
    let within = limits_are c.limits_of.result _ w.subject.given.case.limits c.limits_of.ensures.depth c.limits_of.ensures.lemmas
    c.limits_of.ensures.words w.is.subject.case.limits in
    subst (λ (l : Limits). l.words ≤ 250000000) (sym within) (limits_lie_well w.told w.file w.subject w.reads).words

-- ---- the lift as an oracle and as a case

pub decide_case-decided-requires-clause-one : goal.decide_case-decided-requires-clause-one
decide_case-decided-requires-clause-one c = λ lift same.
    along _ _ same (λ f. case_of (machine_of (program_tree f.0.circuits.now.program.now)) (circuit_of (program_tree f.0.circuits.now.program.now))
    (starts_of (program_tree f.0.circuits.now.program.now)) f.3)

pub decide_case-decided-requires-clause-alike : goal.decide_case-decided-requires-clause-alike
decide_case-decided-requires-clause-alike c =
    let w = c.requires.worked_on in
    let within = limits_are c.limits_of.result _ w.subject.given.case.limits c.limits_of.ensures.depth c.limits_of.ensures.lemmas
    c.limits_of.ensures.words w.is.subject.case.limits in
    let lift = c.in_ok-lift.lift in
    subst (λ (l : Limits). OracleBy (program_tree lift.machine.circuits.now.program.now) lift.facts (cells_of lift.replay)
    (looks_back_of lift.pattern.now) (stage_of lift.chain) l) (sym within) (c.in_ok-lift.ensures w.told w.file w.subject w.reads w.is).oracle

-- ---- what is decided

pub returns-clause-found : goal.returns-clause-found
returns-clause-found c = λ told file s reads is.
    let lift = c.in_ok-lift.lift in
    decided (record { early = c.no_run_fails_early.ensures; satisfied = c.no_base_is_satisfied.ensures })
    (record {
      lemmas = c.limits_that_suffice.ensures.lemmas;
      words = c.limits_that_suffice.ensures.words;
      propagated = c.propagation_spends_nothing.ensures.lemmas;
      filled = c.propagation_spends_nothing.ensures.words;
    })
    c.queries_are_formulas.ensures told file s reads (c.subjects_are_their_programs.ensures told file s reads)
    (program_tree lift.machine.circuits.now.program.now) lift.facts (cells_of lift.replay) (looks_back_of lift.pattern.now) (stage_of lift.chain)
    c.limits_of.result (c.in_ok-lift.ensures told file s reads is)
    (limits_are c.limits_of.result _ s.given.case.limits c.limits_of.ensures.depth c.limits_of.ensures.lemmas c.limits_of.ensures.words
    is.subject.case.limits)
    c.decide_case-decided.result c.decide_case-decided.ensures.evidence c.decide_case-decided.ensures.fits

pub returns-clause-gates : goal.returns-clause-gates
returns-clause-gates c = λ told file s reads is e.
    too_many s (program_tree c.in_ok-lift.lift.machine.circuits.now.program.now) (c.in_ok-lift.ensures told file s reads is).program
    (c.decide_case-decided.ensures.gates e)
