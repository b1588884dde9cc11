use Rattle.std.proofs.Common.{IsTrue, sym, ◌∙◌}
use Rattle.serde_json.specs.View.{view}
use Rattle.pv_case.specs.Members.{is_object}
use Rattle.pv_case.specs.Fields.{case_checks}
use Rattle.pv_case.proofs.Answering.{with_object}
use Rattle.pv_case.proofs.reader.case_in.Goals as goal

pub returns-clause-broken : goal.returns-clause-broken
returns-clause-broken c =
    with_object (IsTrue (is_object (view c.args.value.now))) (case_checks (view c.args.value.now)) c.case_of.result
    (sym c.is_object.ensures ∙ c.if-not-is_object.false) c.case_of.ensures.broken
