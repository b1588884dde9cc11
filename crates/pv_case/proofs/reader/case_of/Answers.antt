use Rattle.std.specs.Prelude.{string_bytes}
use Rattle.serde_json.specs.View.{view}
use Rattle.pv_case.specs.Fields.{case_checks}
use Rattle.pv_case.proofs.Answering.{told}
use Rattle.pv_case.proofs.reader.case_of.Goals as goal

pub returns-in-Err-Broken-clause-broken : goal.returns-in-Err-Broken-clause-broken
returns-in-Err-Broken-clause-broken c = λ kind field is.
    let same = c.fault_of.ensures.broken kind field is in
    told (case_checks (view c.args.value.now)) _ c.checked.result c.in-Err-Broken.field-0 c.in-Err-Broken.breach kind (string_bytes field)
    c.checked.ensures c.in-Err-Broken.is c.in-Err-Broken.field-0-is same.0 same.1
