use Rattle.std.proofs.Common.{◌≡◌, List, ◌∙◌, ap, subst}
use Rattle.std.specs.Prelude.{IfOk}
use Rattle.pv_circuit.specs.declared.start.Start.{Start}
use Rattle.pv_frames.specs.Runs.{BitRun, run_of, run_seen}
use Rattle.pv_queries.specs.Built.{circuit_of}
use Rattle.pv_queries.specs.Numbers.{form_with, numbers_of}
use Rattle.pv_queries.proofs.Fitting.{state-read, inputs-read}
use Rattle.pv_queries.proofs.built.Built.read.Goals as goal

pub numbers_of-requires-clause-state : goal.numbers_of-requires-clause-state
numbers_of-requires-clause-state g c =
    state-read (circuit_of c.args.self.now) c.as_slice.result.now c.args.query (g.V.Values.truth c.args.values.now) c.args.state.now
    (run_seen c.in_ok-trace.trace) c.in_ok-trace.ensures c.requires.state

pub numbers_of-requires-clause-inputs : goal.numbers_of-requires-clause-inputs
numbers_of-requires-clause-inputs g c =
    inputs-read (circuit_of c.args.self.now) c.as_slice.result.now c.args.query (g.V.Values.truth c.args.values.now) c.args.input.now
    (run_seen c.in_ok-trace.trace) c.in_ok-trace.ensures c.requires.input

pub returns : goal.returns
returns g c =
    let truth = g.V.Values.truth c.args.values.now in
    subst (λ (b : BitRun). IfOk c.numbers_of.result (λ run. run ≡ numbers_of (form_with c.args.state.now c.args.input.now) b))
    (c.in_ok-trace.ensures ∙ ap (λ (start : List Start). run_of (circuit_of c.args.self.now) start c.args.query truth) c.as_slice.ensures)
    c.numbers_of.ensures
