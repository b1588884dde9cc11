use Rattle.std.proofs.Common.{Some, ap, ◌∙◌}
use Rattle.serde_json.specs.View.{view, items_view}
use Rattle.pv_case.proofs.Looking.{items_seen}
use Rattle.pv_case.proofs.members.items_in.Goals as goal

pub returns : goal.returns
returns c =
    items_seen c.as_slice.result.now (view c.args.d.now)
    (ap (λ vs. Some (items_view vs)) c.as_slice.ensures.value ∙ c.in_ok-as_array.ensures)
