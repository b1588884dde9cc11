use Rattle.serde_json.specs.View.{view}
use Rattle.pv_case.proofs.Looking.{pairs_seen}
use Rattle.pv_case.proofs.members.pairs_in.Goals as goal

pub returns : goal.returns
returns c = pairs_seen c.as_object.result (view c.args.d.now) c.as_object.ensures
