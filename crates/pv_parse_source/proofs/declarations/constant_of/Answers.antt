use Rattle.std.specs.Prelude.{◌≡◌, List, ◌∷◌, [], map, Some, FitsSigned}
use Rattle.std.specs.Int.{w128}
use Rattle.std.proofs.Common.{rules, ap, ◌∙◌}
use Rattle.std.proofs.lemmas.Int.{to_z-of_z}
use Rattle.pv_word.specs.declared.types.Ty.{Ty}
use Rattle.pv_types.specs.declared.declaration.Section.TheVariants.{Const}
use Rattle.pv_types.specs.declared.declaration.DeclType.{fold-roll-DeclType}
use Rattle.pv_types.specs.declared.declaration.DeclType.TheVariants as variant
use Rattle.pv_types.specs.declared.declaration.DeclType.TheViews as form
use Rattle.pv_types.specs.declared.declaration.DeclType.TheOpen.{DeclType-F}
use Rattle.pv_types.specs.Tree.{TypeTree, VarTree, plain, var}
use Rattle.pv_types.specs.View.{type_tree, type_step, vars_step, word_tree}
use Rattle.pv_types.proofs.ForCallers.{vars_seen}
use Rattle.pv_tree.specs.Literals.{type_alone}
use Rattle.pv_parse_source.proofs.declarations.constant_of.Goals as goal

plain_seen : (ty : Ty) → type_tree (variant.Plain ty) ≡ plain ty
unfolding form.roll-DeclType denote.Hole.Carrier.roll
plain_seen ty = fold-roll-DeclType TypeTree (List VarTree) type_step vars_step (DeclType-F.Plain ty)

pub returns : goal.returns
returns c = λ word is.
    let fits : FitsSigned w128 c.args.literal.value = search rules in
    vars_seen _ ∙ ap (map (word_tree Const (type_tree (variant.Plain c.type_alone-ty.result)) (Some c.args.literal))) is
    ∙ ap (λ ty. var word.0 Const ty (Some c.args.literal) word.1 ∷ []) (plain_seen c.type_alone-ty.result)
    ∙ ap (λ ty. var word.0 Const (plain ty) (Some c.args.literal) word.1 ∷ []) c.type_alone-ty.ensures
    ∙ ap (λ value. var word.0 Const (plain (type_alone c.args.literal.ty value)) (Some c.args.literal) word.1 ∷ [])
    (to_z-of_z w128 c.args.literal.value fits)
