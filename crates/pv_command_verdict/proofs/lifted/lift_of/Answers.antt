use Rattle.std.proofs.Common.{◌≤◌, length, ap, sym, subst, ◌∙◌}
use Rattle.pv_types.specs.declared.layout.TheConstants.{MAX_LEAVES}
use Rattle.pv_replay.specs.Replays.{cells_of}
use Rattle.pv_stretch.specs.Judged.{is_goal}
use Rattle.pv_kind.specs.declared.decision.Limits.{Limits}
use Rattle.pv_kind.specs.declared.told.TheConstants.{LAST_QUERY}
use Rattle.pv_bool.specs.declared.program.Program.{Program}
use Rattle.pv_bool.specs.Programs.{program_tree}
use Rattle.pv_lift.specs.Lifts.{looks_back_of}
use Rattle.pv_lift.specs.Stages.{stage_of}
use Rattle.pv_lift.specs.Sound.{looks_same}
use Rattle.pv_lift.specs.CaseSound.{goal_same}
use Rattle.pv_bool_load.specs.Handed.{source_in}
use Rattle.pv_bool_load.specs.Forms.{program_of}
use Rattle.pv_command_verdict.proofs.OfFiles.{limits_lie_well}
use Rattle.pv_command_verdict.proofs.Starts.{subject_starts, subject_runs}
use Rattle.pv_command_verdict.proofs.Lifting.{is_lifted, few_bits, limits_are, lift_is, along, ok_five}
use Rattle.pv_command_verdict.proofs.lifted.lift_of.Goals as goal

pub replay_of-requires : goal.replay_of-requires
replay_of-requires c =
    let w = c.requires.worked_on in
    subject_runs c.views_keep_paths_types_and_starts.ensures.types w.told w.file w.subject c.args.first.now.subject w.reads.reads w.is.subject

pub make-requires-clause-lifted : goal.make-requires-clause-lifted
make-requires-clause-lifted c =
    let w = c.requires.worked_on in
    let s = w.subject in
    let made = w.is.subject in
    is_lifted (source_in s) s.pattern (program_tree c.args.steps.now.program.now) (program_of s) c.in_ok-replay.replay
    c.args.first.now.subject.pattern (ap program_tree c.requires.steps ∙ w.is.program)
    (c.in_ok-replay.ensures.of (source_in s) made.project made.entered made.bytes made.cells (sym made.bound)
    (subject_starts w.told w.file s w.reads.reads))
    made.pattern (c.subjects_are_their_programs.ensures w.told w.file s w.reads).machines.machines.same

pub make-requires-clause-few : goal.make-requires-clause-few
make-requires-clause-few c =
    few_bits (program_tree c.args.steps.now.program.now)
    (subst (λ (p : Program). length p.bits.items ≤ MAX_LEAVES) (sym c.requires.steps) c.requires.worked_on.is.few)

pub make-requires-clause-depth : goal.make-requires-clause-depth
make-requires-clause-depth c =
    let w = c.requires.worked_on in
    let within = limits_are c.limits_of-limits.result _ w.subject.given.case.limits c.limits_of-limits.ensures.depth c.limits_of-limits.ensures.lemmas
    c.limits_of-limits.ensures.words w.is.subject.case.limits in
    subst (λ (l : Limits). l.depth ≤ LAST_QUERY) (sym within) (limits_lie_well w.told w.file w.subject w.reads).depth

pub returns : goal.returns
returns c = λ told file s reads is.
    let made = is.subject in
    let steps = c.args.steps.now in
    let replay = c.in_ok-replay.replay in
    let pattern = c.args.first.now.subject.pattern in
    let within = limits_are c.limits_of-limits.result _ s.given.case.limits c.limits_of-limits.ensures.depth c.limits_of-limits.ensures.lemmas
    c.limits_of-limits.ensures.words made.case.limits in
    ok_five _ _ _ _ _ _ c.make.result c.make.ensures.circuits c.make.ensures.replay c.make.ensures.pattern c.make.ensures.facts
    c.make.ensures.alike
    (λ lift at_steps at_replay at_pattern facts alike. lift_is s (program_tree steps.program.now)
    (program_tree lift.machine.circuits.now.program.now) (cells_of replay) (cells_of lift.replay) (is_goal pattern) (looks_back_of pattern)
    (looks_back_of lift.pattern.now) c.limits_of-limits.result lift.facts (stage_of lift.chain)
    (ap program_tree c.requires.steps ∙ is.program) (c.in_ok-replay.ensures.lent.0 ∙ made.cells)
    (goal_same (source_in s) pattern s.pattern made.pattern) (looks_same (source_in s) pattern s.pattern made.pattern) within
    (along _ _ at_steps (λ p. program_tree p.program.now)) (ap cells_of at_replay) (ap looks_back_of at_pattern) facts alike)
