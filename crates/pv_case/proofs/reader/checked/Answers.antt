use Rattle.serde_json.specs.View.{view}
use Rattle.pv_case.specs.Fields.{first_checks, input_checks, good_symbols, last_checks}
use Rattle.pv_case.proofs.Answering.{stops_last}
use Rattle.pv_case.proofs.reader.checked.Goals as goal

pub returns-in_err-last_members : goal.returns-in_err-last_members
returns-in_err-last_members c =
    let d = view c.args.value.now in
    stops_last (first_checks d) (input_checks d) (good_symbols d) (last_checks d) _ c.from_residual-in_err-last_members.result
    c.in_err-last_members.field-0.0 c.from_residual-in_err-last_members.ensures.1 c.in_ok-first_members.ensures c.in_ok-input_members.ensures
    c.in_ok-symbols.ensures.0 c.in_err-last_members.ensures
