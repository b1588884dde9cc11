use Rattle.std.proofs.Common.{List, subst, sym}
use Rattle.std.specs.Prelude.{All}
use Rattle.pv_types.specs.declared.declaration.Vars.{Vars}
use Rattle.pv_types.specs.View.{vars_tree, var_trees}
use Rattle.pv_bool_form.specs.FirstForm.{IsFirstVar}
use Rattle.pv_bool_form.proofs.Places.{each-joined}
use Rattle.pv_bool_form.proofs.form.is_first_interface.Goals as goal

pub returns : goal.returns
returns c =
    let each = each-joined IsFirstVar vars_tree c.as_slice.result.now in
    let P : List Vars → Type 0 = λ vs. All IsFirstVar (var_trees vs) in (
      λ h. subst P c.as_slice.ensures.value (each.0 (c.are_first_vars.ensures.0 h)),
      λ h. c.are_first_vars.ensures.1 (each.1 (subst P (sym c.as_slice.ensures.value) h)),
    )
