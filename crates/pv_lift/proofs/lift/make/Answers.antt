use Rattle.pv_replay.specs.Replays.{cells_of}
use Rattle.pv_stretch.specs.Judged.{is_goal}
use Rattle.pv_lift.specs.Lifts.{looks_back_of}
use Rattle.pv_lift.proofs.Known.{facts-are, known-by}
use Rattle.pv_lift.proofs.Showing.{oracle-for, plain-chain}
use Rattle.pv_lift.proofs.lift.make.Goals as goal

pub invariant_of-result-clause-lifted : goal.invariant_of-result-clause-lifted
invariant_of-result-clause-lifted g c = ∣ c.requires.lifted ∣₁

pub invariant_of-result-clause-known : goal.invariant_of-result-clause-known
invariant_of-result-clause-known g c =
    known-by (cells_of c.args.replay) (is_goal c.args.pattern.now) (looks_back_of c.args.pattern.now) c.args.limits.now c.in_ok-facts.facts
    (facts-are (g.C.StepSource.machine c.args.circuits.now) c.args.replay c.args.pattern.now c.requires.lifted c.cells.result.now
    c.asks_for_goal.result c.looks_back.result c.args.limits.now c.in_ok-facts.facts c.cells.ensures c.asks_for_goal.ensures
    c.looks_back.ensures c.in_ok-facts.ensures)

pub returns-clause-facts : goal.returns-clause-facts
returns-clause-facts g c =
    facts-are (g.C.StepSource.machine c.args.circuits.now) c.args.replay c.args.pattern.now c.requires.lifted c.cells.result.now
    c.asks_for_goal.result c.looks_back.result c.args.limits.now c.in_ok-facts.facts c.cells.ensures c.asks_for_goal.ensures
    c.looks_back.ensures c.in_ok-facts.ensures

pub returns-clause-alike : goal.returns-clause-alike
returns-clause-alike g c =
    let at = c.args.circuits.now in
    oracle-for (g.C.StepSource.machine at) (g.C.StepSource.step at) (g.C.StepSource.start at) (cells_of c.args.replay) c.args.pattern.now
    c.in_ok-facts.facts c.args.limits.now
    (facts-are (g.C.StepSource.machine at) c.args.replay c.args.pattern.now c.requires.lifted c.cells.result.now
    c.asks_for_goal.result c.looks_back.result c.args.limits.now c.in_ok-facts.facts c.cells.ensures c.asks_for_goal.ensures
    c.looks_back.ensures c.in_ok-facts.ensures)
    _ (plain-chain c.new.result c.new.ensures)
