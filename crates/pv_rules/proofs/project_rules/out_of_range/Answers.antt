use Rattle.std.proofs.Common.{ap, ◌∙◌}
use Rattle.pv_tree.specs.Rules.OutOfRange.{IsOutOfRange}
use Rattle.pv_names.specs.Tables.{project_of}
use Rattle.pv_rules_expr.specs.Nearest.{nearer_of}
use Rattle.pv_rules_expr.proofs.ForCallers.{nearest_is}
use Rattle.pv_rules_decl.specs.StartLook as value
use Rattle.pv_rules.proofs.WholeRules.{outside_all}
use Rattle.pv_rules.proofs.project_rules.out_of_range.Goals as goal

pub returns : goal.returns
returns c =
    let project = project_of c.args.tables.now in
    let a = c.args.code.outside in
    let s = c.in_ok-start.start in
    let v = c.args.values.starts.outside in
    let i = c.args.values.indexes.outside in
    let b = c.in_ok-behind.behind in
    nearest_is (IsOutOfRange project) c.nearer_of.result (nearer_of a (nearer_of (nearer_of s (nearer_of v i)) b))
    (c.nearer_of.ensures ∙ ap (nearer_of a) (c.nearer_of-rest.ensures ∙ ap (λ o. nearer_of o b)
    (c.nearer_of-starts.ensures ∙ ap (nearer_of s) c.nearer_of-given.ensures)))
    (outside_all project a s v i b c.requires.code.outside c.in_ok-start.ensures (c.requires.values.starts value.Outside)
    c.requires.values.outside c.in_ok-behind.ensures)
