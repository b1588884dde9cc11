use Rattle.std.proofs.Common.{◌∙◌, ap, map, Ok, Err}
use Rattle.std.specs.Prelude.{string_bytes}
use Rattle.pv_case.specs.Cases.{bound_data}
use Rattle.pv_command_load.specs.Stops.{StopsFit}
use Rattle.pv_command_load.specs.Faults.{of_pattern}
use Rattle.pv_command_load.specs.Made.{view_tree, source_with}
use Rattle.pv_command_load.proofs.Exits.{passed}
use Rattle.pv_command_load.proofs.FitLaws.{AreOf, has_view, stops_pattern, answered, is_fit}
use Rattle.pv_command_load.proofs.fit.fitted.Goals as goal

pub read-requires-clause-entered : goal.read-requires-clause-entered
read-requires-clause-entered c =
    let h = c.requires.entered in
    record { source = h.source; same = h.same; at = h.at; bytes_are = c.bytes.ensures ∙ h.bytes_are; is = h.is }

pub returns-in_err-pattern-clause-stopped : goal.returns-in_err-pattern-clause-stopped
returns-in_err-pattern-clause-stopped c = λ given entered case project table.
    let cells = c.cells.result.now in
    let params = map string_bytes c.args.case.now.params.items in
    let bind = map bound_data c.args.case.now.bind.items in
    let view = view_tree c.in_ok-view.view in
    let fault = c.in_err-pattern.field-0.0 in
    let texts = map string_bytes c.as_slice-texts.result.now in
    let are : AreOf given entered cells params bind =
    record { of_cells = c.cells.ensures ∙ table.cells; of_params = case.params; of_bind = case.bind } in
    passed (StopsFit given entered) c.from_residual-in_err-pattern.result (of_pattern fault) c.from_residual-in_err-pattern.ensures.1
    (stops_pattern given entered view fault (has_view given entered cells params bind view are c.in_ok-view.ensures.found)
    (answered given entered view c.args.case.now.pattern.kind texts (Err fault) case.kind
    (ap (map string_bytes) c.as_slice-texts.ensures.value ∙ case.expressions)
    (c.in_err-pattern.ensures (source_with given entered view) project.same table.is (c.bytes.ensures ∙ table.bytes))))

pub returns-clause-found : goal.returns-clause-found
returns-clause-found c = λ given entered case project table.
    let cells = c.cells.result.now in
    let params = map string_bytes c.args.case.now.params.items in
    let bind = map bound_data c.args.case.now.bind.items in
    let view = view_tree c.in_ok-view.view in
    let texts = map string_bytes c.as_slice-texts.result.now in
    let are : AreOf given entered cells params bind =
    record { of_cells = c.cells.ensures ∙ table.cells; of_params = case.params; of_bind = case.bind } in
    is_fit given entered c.args.entry c.in_ok-view.view c.in_ok-pattern.pattern c.in_ok-view.ensures.rest.0
    (c.in_ok-view.ensures.rest.1 ∙ ap (λ l. l.loop_bound) case.limits)
    (has_view given entered cells params bind view are c.in_ok-view.ensures.found)
    (answered given entered view c.args.case.now.pattern.kind texts (Ok c.in_ok-pattern.pattern) case.kind
    (ap (map string_bytes) c.as_slice-texts.ensures.value ∙ case.expressions)
    (c.in_ok-pattern.ensures (source_with given entered view) project.same table.is (c.bytes.ensures ∙ table.bytes)))
