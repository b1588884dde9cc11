use Rattle.std.proofs.Common.{◌++◌, take, refl, sym, ap, ◌∙◌}
use Rattle.pv_types.specs.Tree.{structure}
use Rattle.pv_types.specs.View.{listed, vars_tree, var_trees}
use Rattle.pv_types.proofs.ForCallers.{tree-structure, structure_seen, pushed, alike}
use Rattle.pv_cells.proofs.PlanParts.{declared-more}
use Rattle.pv_cells.proofs.copies.+copying.Goals as goal

pub copied_type-returns-in_ok-copied_vars-in-Struct : goal.copied_type-returns-in_ok-copied_vars-in-Struct
copied_type-returns-in_ok-copied_vars-in-Struct t c =
    tree-structure c.in_ok-copied_vars-in-Struct.field-0
    ∙ ap (λ l. structure (listed l)) c.in_ok-copied_vars-in-Struct.ensures
    ∙ sym (structure_seen c.args.ty.now c.in-Struct.vars c.as_slice.result.now c.in-Struct.is c.as_slice.ensures.value)

pub copied_declared-returns : goal.copied_declared-returns
copied_declared-returns t c = alike _ c.args.of.now (c.in_ok-names.ensures ∙ c.as_slice.ensures.value) refl c.in_ok-ty.ensures refl

pub copied_vars-loop-of-preserved : goal.copied_vars-loop-of-preserved
copied_vars-loop-of-preserved t c =
    let vars = c.args.vars.now in
    let i = c.loop-of.of-index in
    ap var_trees c.in_ok-push.ensures.items
    ∙ pushed c.loop-of.copies.items c.in_ok-copied_declared.field-0
    ∙ ap (λ l. l ++ vars_tree c.in_ok-copied_declared.field-0) c.loop-of.invariant
    ∙ ap (λ l. var_trees (take i vars) ++ l) c.in_ok-copied_declared.ensures
    ∙ declared-more vars i c.of-item.result c.loop-of-test.true c.of-item.is
