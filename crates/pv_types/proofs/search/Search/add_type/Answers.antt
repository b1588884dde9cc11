use Rattle.std.proofs.Common.{ap, sym, refl, ◌∙◌}
use Rattle.pv_types.specs.declared.declaration.Section.TheVariants.{Static}
use Rattle.pv_types.specs.Named.{types_of}
use Rattle.pv_types.specs.View.{type_tree, var_trees, listed}
use Rattle.pv_types.specs.Leaves.{count_between}
use Rattle.pv_types.specs.Sizes.{size_of_type, size_of_named}
use Rattle.pv_types.proofs.Trees.{array_seen, structure_seen, named_seen}
use Rattle.pv_types.proofs.Searching.{pushed_covered, same_covered, product_none, fields_sized}
use Rattle.pv_types.proofs.search.Search.add_type.Goals as goal

pub returns-in_ok-push-in-Array : goal.returns-in_ok-push-in-Array
returns-in_ok-push-in-Array c = λ no.
    let types = types_of c.args.named.now in
    pushed_covered types c.args.self.now _ _ _ c.in_ok-push-in-Array.ensures.items refl
    (λ n none. ap (size_of_type (size_of_named types n))
    (array_seen c.args.ty.now c.in-Array.low c.in-Array.high c.in-Array.of c.in-Array.place c.deref.result.now c.in-Array.is
    c.deref.ensures)
    ∙ product_none (count_between c.in-Array.low c.in-Array.high) (size_of_type (size_of_named types n) (type_tree c.deref.result.now))
    none)

pub returns-in_ok-push-in-Struct : goal.returns-in_ok-push-in-Struct
returns-in_ok-push-in-Struct c = λ no.
    let types = types_of c.args.named.now in
    pushed_covered types c.args.self.now _ _ _ c.in_ok-push-in-Struct.ensures.items refl
    (λ n none. ap (size_of_type (size_of_named types n))
    (structure_seen c.args.ty.now c.in-Struct.vars c.as_slice-vars.result.now c.in-Struct.is c.as_slice-vars.ensures.value)
    ∙ sym (fields_sized (size_of_named types n) Static (listed (var_trees c.as_slice-vars.result.now))) ∙ none)

pub returns-in_ok-add_named-in-Named : goal.returns-in_ok-add_named-in-Named
returns-in_ok-add_named-in-Named c = λ no.
    let types = types_of c.args.named.now in
    same_covered types c.args.self.now _ _ _
    (λ n. ap (size_of_type (size_of_named types n)) (named_seen c.args.ty.now _ _ c.in-Named.is))
    c.in_ok-add_named-in-Named.ensures
