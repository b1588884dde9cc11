use Rattle.std.proofs.Common.{sym, ap, ◌∙◌, map}
use Rattle.pv_names.specs.Sorts.{sort_tree}
use Rattle.pv_names.specs.Widest.{widest_type}
use Rattle.pv_names.proofs.Widening.{common_none, common_some}
use Rattle.pv_names.proofs.operator.common_type.Goals as goal

pub returns-then-has_untold : goal.returns-then-has_untold
returns-then-has_untold c = common_none c.args.want (map sort_tree c.args.parts.now) (sym c.has_untold.ensures ∙ c.if-has_untold.true)

pub returns : goal.returns
returns c =
    c.type_of_widest.ensures ∙ ap widest_type c.gather.ensures
    ∙ common_some c.args.want (map sort_tree c.args.parts.now) (sym c.has_untold.ensures ∙ c.if-has_untold.false)
