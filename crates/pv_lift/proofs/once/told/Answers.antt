use Rattle.std.proofs.Common.{◌≡◌, ◌≤◌, Option, length, sym, subst}
use Rattle.std.specs.Prelude.{⊤, IfSome, IfOk}
use Rattle.pv_circuit.specs.Steps.{widths}
use Rattle.pv_frames.specs.Queries.{variable_count}
use Rattle.pv_frames.specs.Runs.{run_of}
use Rattle.pv_queries.specs.declared.built.Built.{Built}
use Rattle.pv_queries.specs.Built.{circuit_of, starts_of}
use Rattle.pv_queries.specs.Numbers.{form_with, numbers_of}
use Rattle.pv_lift.specs.Traces.{trace_of}
use Rattle.pv_lift.proofs.once.told.Goals as goal

pub trace_told-requires-clause-assigned : goal.trace_told-requires-clause-assigned
trace_told-requires-clause-assigned g c =
    subst (λ (o : Option Built). IfSome o (λ b. variable_count (circuit_of b) (starts_of b) c.args.query ≤ g.V.Values.assigned c.args.values.now))
    c.in-Some.is c.requires.assigned

pub trace_told-requires-clause-state : goal.trace_told-requires-clause-state
trace_told-requires-clause-state g c =
    subst (λ (o : Option Built). IfSome o (λ b. length (circuit_of b).state_in ≡ widths c.args.state.now)) c.in-Some.is c.requires.state

pub trace_told-requires-clause-input : goal.trace_told-requires-clause-input
trace_told-requires-clause-input g c =
    subst (λ (o : Option Built). IfSome o (λ b. length (circuit_of b).input ≡ widths c.args.input.now)) c.in-Some.is c.requires.input

pub returns-in-Some : goal.returns-in-Some
returns-in-Some g c =
    subst (λ (o : Option Built). IfSome o (λ b. IfOk c.trace_told.result (λ trace. trace ≡ trace_of c.args.cells.now c.args.query
    (numbers_of (form_with c.args.state.now c.args.input.now) (run_of (circuit_of b) (starts_of b) c.args.query (g.V.Values.truth c.args.values.now))))))
    (sym c.in-Some.is) c.trace_told.ensures

pub returns-in-None : goal.returns-in-None
returns-in-None g c = subst (λ (o : Option Built). IfSome o (λ b. ⊤)) (sym c.in-None.is) tt
