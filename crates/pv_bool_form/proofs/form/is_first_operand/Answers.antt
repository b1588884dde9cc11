use Rattle.std.proofs.Common.{◌≡◌, ◌∙◌, sym, subst, List, map, true≢false}
use Rattle.pv_bool_form.specs.Wording.{words_of}
use Rattle.pv_tree.specs.declared.expr.Step.{Step}
use Rattle.pv_tree.specs.Tree.{no_steps}
use Rattle.pv_tree.specs.View.{step_tree, steps_of}
use Rattle.pv_bool_form.specs.FirstForm.{IsFirstRoot}
use Rattle.pv_bool_form.proofs.Places.{operand_is, operand_was}
use Rattle.pv_bool_form.proofs.form.is_first_operand.Goals as goal

pub returns-then-has : goal.returns-then-has
returns-then-has c =
    let vars = words_of c.args.words.now in
    let o = c.args.operand.now in
    let P : List Step → Type 0 = λ ss. steps_of (map step_tree ss) ≡ no_steps in (
      λ h. operand_is vars o (subst (λ r. IsFirstRoot vars r) c.deref.ensures (c.has.ensures.0 c.if-has.true)) (subst P c.as_slice.ensures.value (c.is_none.ensures.0 h)),
      λ h. c.is_none.ensures.1 (subst P (sym c.as_slice.ensures.value) (operand_was vars o h).1),
    )

pub returns-else-has : goal.returns-else-has
returns-else-has c =
    let vars = words_of c.args.words.now in (
      λ h. absurd (true≢false (sym h ∙ c.if-has.false)),
      λ h. c.has.ensures.1
          (subst (λ r. IsFirstRoot vars r) (sym c.deref.ensures) (operand_was vars c.args.operand.now h).0),
    )
