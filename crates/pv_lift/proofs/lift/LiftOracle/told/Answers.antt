use Rattle.std.proofs.Common.{◌≡◌, ◌≤◌, ◌∙◌, List, length, sym, ap, subst}
use Rattle.pv_mean.specs.declared.cell.Cell.{Cell}
use Rattle.pv_mean.specs.Frames.{image_len}
use Rattle.pv_circuit.specs.declared.start.Start.{Start}
use Rattle.pv_circuit.specs.Circuits.{Circuit}
use Rattle.pv_circuit.specs.Steps.{widths}
use Rattle.pv_frames.specs.Queries.{variable_count}
use Rattle.pv_frames.specs.Runs.{run_of}
use Rattle.pv_queries.specs.Numbers.{form_with, numbers_of}
use Rattle.pv_lift.specs.Traces.{trace_of}
use Rattle.pv_lift.proofs.Kept.{of_built, at_built}
use Rattle.pv_lift.proofs.Told.{asked_in, state_room, told_is_shown}
use Rattle.pv_lift.proofs.lift.LiftOracle.told.Goals as goal

pub told-requires-clause-asked : goal.told-requires-clause-asked
told-requires-clause-asked g c = asked_in c.args.q c.requires.asked

pub told-requires-clause-assigned : goal.told-requires-clause-assigned
told-requires-clause-assigned g c =
    let l = c.args.self.now in
    let at = l.machine.circuits.now in
    at_built (λ (x : Circuit) (s : List Start). variable_count x s c.args.q ≤ g.V.Values.assigned c.args.values.now) l.built
    (g.C.StepSource.step at) (g.C.StepSource.start at) l.is_built c.requires.assigned

pub told-requires-clause-state : goal.told-requires-clause-state
told-requires-clause-state g c =
    let l = c.args.self.now in
    let at = l.machine.circuits.now in
    at_built (λ (x : Circuit) (s : List Start). length x.state_in ≡ widths c.state_types.result.now) l.built
    (g.C.StepSource.step at) (g.C.StepSource.start at) l.is_built
    ((g.met.C.StepSource.steps at).bits.state ∙ ap widths (sym c.state_types.ensures))

pub told-requires-clause-input : goal.told-requires-clause-input
told-requires-clause-input g c =
    let l = c.args.self.now in
    let at = l.machine.circuits.now in
    at_built (λ (x : Circuit) (s : List Start). length x.input ≡ widths c.input_types.result.now) l.built
    (g.C.StepSource.step at) (g.C.StepSource.start at) l.is_built
    ((g.met.C.StepSource.steps at).bits.input ∙ ap widths (sym c.input_types.ensures))

pub told-requires-clause-room : goal.told-requires-clause-room
told-requires-clause-room g c =
    let l = c.args.self.now in
    let at = l.machine.circuits.now in
    subst (λ (cells : List Cell). image_len cells ≤ length c.state_types.result.now) (sym c.cells.ensures)
    (state_room (g.C.StepSource.machine at) (g.C.StepSource.form at) (g.C.StepSource.start at) (g.C.StepSource.step at) l.replay l.pattern.now
    (g.met.C.StepSource.kept at) (g.met.C.StepSource.steps at) l.lifted c.state_types.result.now c.state_types.ensures)

pub returns-clause-told : goal.returns-clause-told
returns-clause-told g c =
    let l = c.args.self.now in
    let at = l.machine.circuits.now in
    let values = g.V.Values.truth c.args.values.now in
    let form = form_with c.state_types.result.now c.input_types.result.now in
    let read = of_built (λ (x : Circuit) (s : List Start). c.in_ok-trace.trace ≡ trace_of c.cells.result.now c.args.q (numbers_of form (run_of x s c.args.q values)))
    l.built (g.C.StepSource.step at) (g.C.StepSource.start at) l.is_built c.requires.ready c.in_ok-trace.ensures in
    told_is_shown (g.C.StepSource.machine at) (g.C.StepSource.form at) (g.C.StepSource.start at) (g.C.StepSource.step at) l.replay l.pattern.now
    (g.met.C.StepSource.kept at) (g.met.C.StepSource.steps at) l.lifted c.args.q values c.requires.asked c.requires.hold
    c.state_types.result.now c.input_types.result.now c.state_types.ensures c.input_types.ensures c.in_ok-trace.trace
    (read ∙ ap (λ (cells : List Cell). trace_of cells c.args.q (numbers_of form (run_of (g.C.StepSource.step at) (g.C.StepSource.start at) c.args.q values)))
    c.cells.ensures)
