use Rattle.std.proofs.Common.{List, ap, sym, ◌∙◌}
use Rattle.pv_mean.specs.declared.cell.Cell.{Cell}
use Rattle.pv_stretch.specs.Judged.{is_goal}
use Rattle.pv_lift.specs.Lifts.{looks_back_of}
use Rattle.pv_lift.specs.Facts.{facts_of, limits_in}
use Rattle.pv_lift.specs.CaseSound.{case_is_sound}
use Rattle.pv_lift.proofs.Scanned.{stretch-is, lifted-on}
use Rattle.pv_lift.proofs.judged.LiftJudged.stretch.Goals as goal

pub invariant_of-self-clause-lifted : goal.invariant_of-self-clause-lifted
invariant_of-self-clause-lifted g c =
    let l = c.args.self.now in
    lifted-on (g.C.StepSource.machine l.machine.circuits.now) l.replay c.run_stretch.new.replay l.pattern.now c.run_stretch.ensures.of l.lifted

pub invariant_of-self-clause-known : goal.invariant_of-self-clause-known
invariant_of-self-clause-known g c =
    let l = c.args.self.now in
    l.known ∙ ap (λ (cells : List Cell). facts_of cells (is_goal l.pattern.now) (looks_back_of l.pattern.now) (limits_in l.facts))
    (sym c.run_stretch.ensures.lent.0)

pub returns-clause-stretch : goal.returns-clause-stretch
returns-clause-stretch g c = λ at inputs.
    let l = c.args.self.now in
    let circuits = l.machine.circuits.now in
    let m = g.C.StepSource.machine circuits in
    let step = g.C.StepSource.step circuits in
    let start = g.C.StepSource.start circuits in
    stretch-is m step start l.replay l.pattern.now l.facts l.lifted
    (case_is_sound m (g.C.StepSource.form circuits) start step l.replay l.pattern.now l.facts l.lifted (g.met.C.StepSource.kept circuits)
    (g.met.C.StepSource.steps circuits) (limits_in l.facts) l.known l.few_queries)
    (limits_in l.facts) l.known c.args.start c.args.inputs.now c.run_stretch.result
    c.run_stretch.ensures.stretch at inputs
