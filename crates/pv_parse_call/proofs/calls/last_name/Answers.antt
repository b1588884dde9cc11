use Rattle.pv_parse_call.proofs.Bases.{last_step}
use Rattle.pv_parse_call.proofs.calls.last_name.Goals as goal

pub returns-in-Some : goal.returns-in-Some
returns-in-Some c =
    last_step c.args.steps.items _ c.in-Some.step c.field_name.result c.in-Some.ensures.items c.field_name.ensures
