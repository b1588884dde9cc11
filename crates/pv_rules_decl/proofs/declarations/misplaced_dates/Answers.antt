use Rattle.pv_types.specs.View.{vars_tree}
use Rattle.pv_rules_decl.specs.OnDeclarations.{IsMisplacedDate}
use Rattle.pv_rules_decl.proofs.NearLists.{near_lists}
use Rattle.pv_rules_decl.proofs.declarations.misplaced_dates.Goals as goal

pub loop-of-preserved : goal.loop-of-preserved
loop-of-preserved c =
    near_lists (λ at v. IsMisplacedDate c.args.kind.now at v) (λ v. vars_tree v.now) c.args.vars.now c.loop-of.of-index c.of-item.result c.args.nearest
    c.loop-of.nearest c.misplaced_date-nearest.result c.loop-of-test.true c.of-item.is c.loop-of.invariant c.misplaced_date-nearest.ensures
