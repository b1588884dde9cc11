use Rattle.serde_json.specs.View.{view}
use Rattle.pv_case.proofs.Answering.{of_text}
use Rattle.pv_case.proofs.reader.read.Goals as goal

pub returns-in-Ok-clause-broken : goal.returns-in-Ok-clause-broken
returns-in-Ok-clause-broken c =
    of_text c.args.bytes.now (view c.in-Ok.value) c.case_in.result c.in-Ok.ensures.ok.0 c.in-Ok.ensures.ok.1 c.case_in.ensures.broken
