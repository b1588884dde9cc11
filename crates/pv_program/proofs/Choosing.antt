-- One value of a CASE's branch, or a range of them.
use Rattle.std.proofs.Common.{◌≡◌, ℕ, zero, suc, ◌<◌, ℤ, [], ◌∷◌, length, get_or, Option, Some, None, sym, ◌∙◌, subst, arith}
use Rattle.pv_tree.specs.declared.stmt.Choice as tree
use Rattle.pv_tree.specs.Tree.{Choices, BlockTree}
use Rattle.pv_mean.specs.Statements.{choice_value}
use Rattle.pv_eval.specs.Means.{activation}
use Rattle.pv_run.specs.Code.{IsChoiceTo}
use Rattle.pv_laws_room.specs.Bodies.{FitsChoice, FitsUpper, FitsChoices}

pub one-choice : (block : BlockTree) (v w : ℤ) (low : tree.Choice) (high : Option tree.Choice) → high ≡ None → w ≡ v
    → ((first : ℕ) → v ≡ choice_value (activation block first) low) → IsChoiceTo block (record { low = w; high = w }) low high
one-choice block v w low high none same is =
    subst (λ o. IsChoiceTo block (record { low = w; high = w }) low o) (sym none)
    (record { low = λ first. same ∙ is first; high = λ first. same ∙ is first })

pub range-choice : (block : BlockTree) (v w x y : ℤ) (low end : tree.Choice) (high : Option tree.Choice) → high ≡ Some end → w ≡ v → y ≡ x
    → ((first : ℕ) → v ≡ choice_value (activation block first) low) → ((first : ℕ) → x ≡ choice_value (activation block first) end)
    → IsChoiceTo block (record { low = w; high = y }) low high
range-choice block v w x y low end high some same equal is ends =
    subst (λ o. IsChoiceTo block (record { low = w; high = y }) low o) (sym some)
    (record { low = λ first. same ∙ is first; high = λ first. equal ∙ ends first })

-- each of those that fit does
pub each_choice : (xs : Choices) (i : ℕ) (x : tree.Choice × Option tree.Choice) → i < length xs → x ≡ get_or xs i x → FitsChoices xs
    → FitsChoice x.0 × FitsUpper x.1
each_choice [] i x lt is h = absurd (omega (arith, lt))
each_choice (y ∷ ys) zero x lt is h = subst (λ z. FitsChoice z.0 × FitsUpper z.1) (sym is) h.0
each_choice (y ∷ ys) (suc i) x lt is h = each_choice ys i x (omega (arith, lt)) is h.1
