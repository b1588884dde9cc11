use Rattle.pv_rules_decl.proofs.Misplaced.{all_misplaced, none_misplaced}
use Rattle.pv_rules_decl.proofs.declarations.misplaced_date.Goals as goal

pub returns-then-is_misplaced : goal.returns-then-is_misplaced
returns-then-is_misplaced c =
    all_misplaced c.args.kind.now c.args.of.now c.args.nearest c.nearest_name.result c.is_misplaced.result c.is_misplaced.ensures c.if-is_misplaced.true
    c.nearest_name.ensures

pub returns : goal.returns
returns c =
    none_misplaced c.args.kind.now c.args.of.now c.args.nearest c.args.nearest c.is_misplaced.result c.is_misplaced.ensures c.if-is_misplaced.false
