use Rattle.std.proofs.Common.{ap, sym, ◌∙◌, ◌∷◌, slice_get}
use Rattle.pv_types.specs.View.{trees_from}
use Rattle.pv_types.proofs.Trees.{from_start}
use Rattle.pv_types.proofs.Words.{first_named, past_names}
use Rattle.pv_types.proofs.var.first_of.Goals as goal

pub returns-in-Some-first-clause-some : goal.returns-in-Some-first-clause-some
returns-in-Some-first-clause-some c =
    let v = c.in-Some.of.now in
    let left = c.loop-of.left.now in
    c.loop-of.invariant ∙ sym (from_start left)
    ∙ first_named v c.in-Some.behind.now left 0 c.in-Some-first.word.now c.in-Some.ensures.cases.0
    (ap (λ l. slice_get l 0) (sym c.as_slice.ensures.value) ∙ sym c.in-Some-first.ensures.value)
    ∙ ap (λ t. t ∷ trees_from left 1) (sym c.var_of-var.ensures.tree)

pub returns-in-Some-first-clause-shared : goal.returns-in-Some-first-clause-shared
returns-in-Some-first-clause-shared c =
    c.in-Some.ensures.cases.0 ∙ ap (λ v. v ∷ c.in-Some.behind.now) (sym c.var_of-var.ensures.shared)

pub loop-of-preserved : goal.loop-of-preserved
loop-of-preserved c =
    let v = c.in-Some.of.now in
    let left = c.loop-of.left.now in
    c.loop-of.invariant ∙ sym (from_start left)
    ∙ past_names v c.in-Some.behind.now left 0 c.in-Some.ensures.cases.0
    (ap (λ l. slice_get l 0) (sym c.as_slice.ensures.value) ∙ sym c.in_default-first.ensures.value)
