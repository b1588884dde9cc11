use Rattle.std.proofs.Common.{Err, ap, sym, subst, ◌∙◌}
use Rattle.std.specs.List.{AllByRecursion}
use Rattle.pv_mean.specs.Frames.{free_cells, input_cells}
use Rattle.pv_claims.specs.declared.fault.CertFault.{CertFault}
use Rattle.pv_trace.specs.TraceText.{IsRange}
use Rattle.pv_command_replay.specs.Passing.{faulty_trace}
use Rattle.pv_command_replay.proofs.TraceLaws.{type_ranges, holds_trace, stops_at, err_passed}
use Rattle.pv_command_replay.proofs.trace.trace_in.Goals as goal

pub read_trace-requires-clause-params : goal.read_trace-requires-clause-params
read_trace-requires-clause-params g c =
    subst (AllByRecursion IsRange) (sym (c.as_slice.ensures.value ∙ c.in_ok-params.ensures)) (type_ranges (free_cells c.args.cells.now))

pub read_trace-requires-clause-inputs : goal.read_trace-requires-clause-inputs
read_trace-requires-clause-inputs g c =
    subst (AllByRecursion IsRange) (sym (c.as_slice-2.ensures.value ∙ c.in_ok-inputs.ensures)) (type_ranges (input_cells c.args.cells.now))

pub returns-clause-found : goal.returns-clause-found
returns-clause-found g c = λ source same.
    holds_trace _ c.args.file.now source c.args.cells.now c.as_slice.result.now c.as_slice-2.result.now c.in_ok-bytes.bytes.items
    c.deref.result.now c.in_ok-trace.trace same (c.as_slice.ensures.value ∙ c.in_ok-params.ensures)
    (c.as_slice-2.ensures.value ∙ c.in_ok-inputs.ensures) c.in_ok-bytes.ensures.held c.deref.ensures.value c.in_ok-trace.ensures.found

pub returns-in_err-trace-clause-stopped : goal.returns-in_err-trace-clause-stopped
returns-in_err-trace-clause-stopped g c =
    err_passed _ c.from_residual-in_err-trace.result (faulty_trace c.in_err-trace.field-0.0) c.from_residual-in_err-trace.ensures.1
    (λ source same. stops_at _ c.args.file.now source c.args.cells.now c.as_slice.result.now c.as_slice-2.result.now
    c.in_ok-bytes.bytes.items c.deref.result.now c.in_err-trace.field-0.0 same (c.as_slice.ensures.value ∙ c.in_ok-params.ensures)
    (c.as_slice-2.ensures.value ∙ c.in_ok-inputs.ensures) c.in_ok-bytes.ensures.held c.deref.ensures.value
    (λ line e. c.in_err-trace.ensures.stuck line (ap (λ (x : CertFault). Err x) e)))
