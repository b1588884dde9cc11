use Rattle.std.proofs.Common.{◌≡◌, length, ◌∙◌, ap, subst, arith}
use Rattle.std.specs.Prelude.{IfOk}
use Rattle.pv_frames.specs.Runs.{run_of}
use Rattle.pv_queries.specs.declared.numbers.NumberRun.{NumberRun}
use Rattle.pv_queries.specs.Built.{circuit_of, starts_of}
use Rattle.pv_queries.proofs.ForCallers.{values-long}
use Rattle.pv_lift.specs.Traces.{trace_of}
use Rattle.pv_lift.proofs.trace.trace_told.Goals as goal

pub trace_of-requires : goal.trace_of-requires
trace_of-requires g c =
    let run = run_of (circuit_of c.args.built.now) (starts_of c.args.built.now) c.args.query (g.V.Values.truth c.args.values.now) in
    let long = ap (λ (r : NumberRun). length r.state) c.in_ok-run.ensures ∙ values-long c.args.state.now run.state in
    omega (arith, long, c.requires.room)

pub returns : goal.returns
returns g c =
    subst (λ (r : NumberRun). IfOk c.trace_of.result (λ trace. trace ≡ trace_of c.args.cells.now c.args.query r)) c.in_ok-run.ensures c.trace_of.ensures
