use Rattle.std.proofs.Common.{ap, ◌∙◌}
use Rattle.pv_tree.specs.Rules.MissingNames.{IsMissingName}
use Rattle.pv_rules_expr.specs.Nearest.{nearer_of}
use Rattle.pv_rules_expr.proofs.ForCallers.{nearest_is}
use Rattle.pv_rules_decl.specs.StartLook as value
use Rattle.pv_rules.proofs.WholeRules.{missing_all}
use Rattle.pv_rules.proofs.project_rules.missing_name.Goals as goal

pub returns : goal.returns
returns c = λ project code values.
    let a = c.args.code.missing in
    let b = c.args.values.starts.missing in
    let d = c.args.values.indexes.missing in
    nearest_is (IsMissingName project) c.nearer_of.result (nearer_of a (nearer_of b d))
    (c.nearer_of.ensures ∙ ap (nearer_of a) c.nearer_of-rest.ensures)
    (missing_all project a b d code.missing (values.starts value.Missing) values.missing)
