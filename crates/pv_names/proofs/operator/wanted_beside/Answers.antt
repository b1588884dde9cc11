use Rattle.std.proofs.Common.{sym, ap, ◌∙◌, map, Some, None}
use Rattle.pv_names.specs.Sorts.{sort_tree}
use Rattle.pv_names.specs.Widest.{widest_type}
use Rattle.pv_names.proofs.Widening.{beside_told}
use Rattle.pv_names.proofs.operator.wanted_beside.Goals as goal

pub returns-in-Some : goal.returns-in-Some
returns-in-Some c =
    beside_told (map sort_tree c.args.parts.now) (Some c.in-Some.ty) (sym c.has_untold.ensures ∙ c.if-has_untold.false)
    (c.in-Some.ensures ∙ ap widest_type c.gather.ensures)

pub returns-in-None : goal.returns-in-None
returns-in-None c =
    beside_told (map sort_tree c.args.parts.now) None (sym c.has_untold.ensures ∙ c.if-has_untold.false)
    (c.in-None.ensures ∙ ap widest_type c.gather.ensures)
