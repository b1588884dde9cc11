use Rattle.std.proofs.Common.{ap, ◌∙◌}
use Rattle.pv_tree.specs.Rules.Misfits.{IsMisfit}
use Rattle.pv_names.specs.Tables.{project_of}
use Rattle.pv_rules_expr.specs.Nearest.{nearer_of}
use Rattle.pv_rules_expr.proofs.ForCallers.{nearest_is}
use Rattle.pv_rules_decl.specs.StartLook as value
use Rattle.pv_rules.proofs.WholeRules.{misfit_all}
use Rattle.pv_rules.proofs.project_rules.misfit.Goals as goal

pub returns : goal.returns
returns c =
    let project = project_of c.args.tables.now in
    let a = c.args.code.misfit in
    let b = c.args.code.misused in
    let d = c.in_ok-date.date in
    let s = c.in_ok-start.start in
    let p = c.args.values.starts.misfit in
    let w = c.args.values.starts.misused in
    let i = nearer_of c.args.values.indexes.misapplied c.args.values.indexes.misused in
    nearest_is (IsMisfit project) c.nearer_of.result (nearer_of a (nearer_of b (nearer_of d (nearer_of s (nearer_of p (nearer_of w i))))))
    (c.nearer_of.ensures ∙ ap (nearer_of a) (c.nearer_of-rest.ensures ∙ ap (nearer_of b) (c.nearer_of-declared.ensures
    ∙ ap (nearer_of d) (c.nearer_of-starts.ensures ∙ ap (nearer_of s) (c.nearer_of-given.ensures
    ∙ ap (nearer_of p) (c.nearer_of-places.ensures ∙ ap (nearer_of w) c.nearer_of-index.ensures))))))
    (misfit_all project a b d s p w i c.requires.code.misfit c.requires.code.misused (c.in_ok-date.ensures project c.requires.blocks)
    c.in_ok-start.ensures (c.requires.values.starts value.Misfit) (c.requires.values.starts value.Misused) c.requires.values.misfit)
