use Rattle.std.proofs.Common.{ap, ◌∙◌}
use Rattle.pv_tree.specs.Rules.Arrays.{IsBeyondBounds}
use Rattle.pv_rules_expr.specs.Nearest.{nearer_of}
use Rattle.pv_rules_expr.proofs.ForCallers.{nearest_is}
use Rattle.pv_rules_decl.specs.StartLook as value
use Rattle.pv_rules.proofs.WholeRules.{beyond_all}
use Rattle.pv_rules.proofs.project_rules.beyond_bounds.Goals as goal

pub returns : goal.returns
returns c = λ project code values.
    let a = c.args.code.beyond in
    let b = c.args.values.starts.beyond in
    let d = c.args.values.indexes.beyond in
    nearest_is (IsBeyondBounds project) c.nearer_of.result (nearer_of a (nearer_of b d))
    (c.nearer_of.ensures ∙ ap (nearer_of a) c.nearer_of-rest.ensures)
    (beyond_all project a b d code.beyond (values.starts value.Beyond) values.beyond)
