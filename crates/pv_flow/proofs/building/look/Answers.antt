use Rattle.std.proofs.Common.{sym, ◌∙◌}
use Rattle.pv_flow.specs.View.{parts_of}
use Rattle.pv_flow.proofs.Checking.{nested_loops}
use Rattle.pv_flow.proofs.building.look.Goals as goal

pub has_loops-requires-clause-nested : goal.has_loops-requires-clause-nested
has_loops-requires-clause-nested c e =
    nested_loops (parts_of c.args.parts.now) c.requires (sym c.has_locations.ensures ∙ c.if-not-has_locations.false)
    (sym c.in_ok-has_variables.ensures ∙ c.if-not-branch.false) e
