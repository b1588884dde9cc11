use Rattle.std.proofs.Common.{ap, ◌∙◌, sym, refl}
use Rattle.pv_tree.specs.View.{operand_tree}
use Rattle.pv_names.specs.InScope.{scope_of}
use Rattle.pv_rules_expr.specs.Nearest.{nearer_of}
use Rattle.pv_rules.specs.Codes.{calls_of_code}
use Rattle.pv_rules.specs.Outputs.{is_written}
use Rattle.pv_rules.specs.Values.{unless}
use Rattle.pv_rules.proofs.OutputLaws.{not_nearer, not_void}
use Rattle.pv_rules.proofs.reads.value_name.Goals as goal

pub returns-then-is_nearer : goal.returns-then-is_nearer
returns-then-is_nearer c =
    let out = is_written (scope_of c.args.scope.now) (calls_of_code c.args.code) (operand_tree c.args.operand.now) in
    c.nearer_of.ensures ∙ ap (nearer_of c.args.nearest) (c.unless_written.ensures ∙ ap (unless out) (sym c.in-Some.is ∙ c.void_name.ensures))

pub returns-else-is_nearer : goal.returns-else-is_nearer
returns-else-is_nearer c =
    let out = is_written (scope_of c.args.scope.now) (calls_of_code c.args.code) (operand_tree c.args.operand.now) in
    sym (not_nearer c.args.nearest c.in-Some.place out ((c.is_nearer.ensures.no c.if-is_nearer.false).up_to_each c.in-Some.place refl))
    ∙ ap (λ o. nearer_of c.args.nearest (unless out o)) (sym c.in-Some.is ∙ c.void_name.ensures)

pub returns-in-None : goal.returns-in-None
returns-in-None c =
    let out = is_written (scope_of c.args.scope.now) (calls_of_code c.args.code) (operand_tree c.args.operand.now) in
    not_void c.args.nearest out ∙ ap (λ o. nearer_of c.args.nearest (unless out o)) (sym c.in-None.is ∙ c.void_name.ensures)
