use Rattle.std.proofs.Common.{refl, ap, ◌∙◌}
use Rattle.pv_tree.specs.View.{instr_tree}
use Rattle.pv_rules_expr.specs.Nearest.{nearer_of}
use Rattle.pv_rules_instr.proofs.Meetings.{ranged_next}
use Rattle.pv_rules_instr.proofs.range.nearest_range.Goals as goal

pub loop-n-preserved : goal.loop-n-preserved
loop-n-preserved c = λ r are.
    ranged_next instr_tree c.args.list.now c.loop-n.n _ c.index-list-n.result c.loop-n-test.true c.index-list-n.is refl r c.loop-n.best
    c.nearer_of-best.result _ (c.nearer_of-best.ensures ∙ ap (nearer_of c.loop-n.best) (c.range_at.ensures r are)) (c.loop-n.invariant r are)
