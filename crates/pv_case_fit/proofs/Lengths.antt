-- An expression has no more levels than tokens that spell it, so what a few tokens spell doesn't nest too deep.
use Rattle.std.proofs.Common.{◌≡◌, inl, inr, ℕ, suc, ◌+◌, ◌<◌, ◌≤◌, max, List, [], ◌∷◌, length, Bool, true, false, Option, ap, ◌∙◌, refl, arith}
use Prim.Native.String.{String}
use Rattle.std.proofs.lemmas.List.{length-append}
use Rattle.std.proofs.Math.Nat.{max-le}
use Rattle.pv_place.specs.declared.place.Place.{Place}
use Rattle.pv_types.specs.declared.name.Name.{Name}
use Rattle.pv_tree.specs.declared.expr.Root.{Root}
use Rattle.pv_tree.specs.declared.expr.Root.TheVariants.{Local, Named, Area as InArea}
use Rattle.pv_tree.specs.Tree.{ExprTree, lit, read, unary, binary, std, paren, ExprTrees, no_exprs, exprs, OperandTree, operand, StepTree, field, index, StepTrees, no_steps, steps}
use Rattle.pv_tree.specs.Lexemes.{Lexeme, IsOne, IsJoined}
use Rattle.pv_tree.specs.Words.{SpellsFirm}
use Rattle.pv_tree.specs.Expressions.{SpellsRoot, SpellsExpr, SpellsArguments, SpellsOperand, SpellsSteps, SpellsStep}
use Rattle.pv_tree.specs.Nesting.{levels, levels_of_exprs, levels_of_operand, levels_of_steps, levels_of_step, parts, most_levels}
use Rattle.pv_tree.specs.Depth.{IsDeepest}
use Rattle.pv_tree.proofs.ForCallers.{agrees-expr, has_above_of}

-- ---- tokens of a form

one_long : {P : Lexeme → Type 0} (ts : List Lexeme) → IsOne P ts → length ts ≡ 1
one_long ts d = ap length d.alone

joined_long : {A B : List Lexeme → Type 0} (ts : List Lexeme) (d : IsJoined A B ts) → length ts ≡ length d.front + length d.back
joined_long ts d = ap length d.parts ∙ length-append d.front d.back

-- where parts are no longer than their tokens, so is the longer of both
both_long : (a b m n k : ℕ) → a ≤ m → b ≤ n → k ≡ m + n → max a b ≤ k
both_long a b m n k la lb e = max-le (omega (arith, la, e)) (omega (arith, lb, e))

firm_long : (name : Name) (place : Place) (ts : List Lexeme) → SpellsFirm name place ts → 1 ≤ length ts
firm_long name place ts (inl d) = omega (arith, one_long ts d)
firm_long name place ts (inr (inl d)) = omega (arith, one_long ts d)
firm_long name place ts (inr (inr d)) = omega (arith, ap length d.parts)

root_long : (root : Root) (place : Place) (ts : List Lexeme) → SpellsRoot root place ts → 1 ≤ length ts
root_long (Local name true at) place ts d = omega (arith, joined_long ts d, one_long d.front d.in_front)
root_long (Local name false at) place ts d = omega (arith, one_long ts d)
root_long (Named name) place ts d = firm_long name place ts d
root_long (InArea area bits byte bit) place ts d = omega (arith, one_long ts d)

-- ---- expressions

mutual
  pub expr_long : (e : ExprTree) (ts : List Lexeme) → SpellsExpr e ts → levels e ≤ length ts
  expr_long (lit own value place) ts (inl d) = omega (arith, one_long ts d)
  expr_long (lit own value place) ts (inr d) = omega (arith, one_long ts d)
  expr_long (read variable) ts d = operand_long variable ts d
  expr_long (unary op place arg) ts d =
      omega (arith, joined_long ts d, one_long d.front d.in_front, expr_long arg d.back d.behind)
  expr_long (binary op place left right) ts d =
      let longer = both_long (levels left) (levels right) (length d.front) (length d.behind.back)
      (length d.front + length d.behind.back) (expr_long left d.front d.in_front) (expr_long right d.behind.back d.behind.behind) refl in
      omega (arith, longer, joined_long ts d, joined_long d.back d.behind, one_long d.behind.front d.behind.in_front)
  expr_long (std function place args) ts d =
      omega (
        arith,
        joined_long ts d,
        one_long d.front d.in_front,
        joined_long d.back d.behind,
        joined_long d.behind.back d.behind.behind,
        exprs_long true _ args d.behind.behind.front d.behind.behind.in_front,
      )
  expr_long (paren place inner) ts d =
      omega (
        arith,
        joined_long ts d,
        one_long d.front d.in_front,
        joined_long d.back d.behind,
        expr_long inner d.behind.front d.behind.in_front,
      )

  exprs_long : (first : Bool) (words : List (Option String)) (args : ExprTrees) (ts : List Lexeme) → SpellsArguments first words args ts
      → levels_of_exprs args ≤ length ts
  exprs_long first [] no_exprs ts d = omega arith
  exprs_long first [] (exprs arg args) ts d = absurd d
  exprs_long first (word ∷ words) no_exprs ts d = absurd d
  exprs_long first (word ∷ words) (exprs arg args) ts d =
      let value = d.behind.behind in
      let longer = both_long (levels arg) (levels_of_exprs args) (length value.front) (length value.back) (length d.behind.back)
      (expr_long arg value.front value.in_front) (exprs_long false words args value.back value.behind)
      (joined_long d.behind.back value) in
      omega (arith, longer, joined_long ts d, joined_long d.back d.behind)

  operand_long : (o : OperandTree) (ts : List Lexeme) → SpellsOperand o ts → suc (levels_of_operand o) ≤ length ts
  operand_long (operand root path place) ts d =
      omega (arith, joined_long ts d, root_long root place d.front d.in_front, steps_long path d.back d.behind)

  steps_long : (path : StepTrees) (ts : List Lexeme) → SpellsSteps path ts → levels_of_steps path ≤ length ts
  steps_long no_steps ts d = omega arith
  steps_long (steps step others) ts d =
      both_long (levels_of_step step) (levels_of_steps others) (length d.front) (length d.back) (length ts)
      (step_long step d.front d.in_front) (steps_long others d.back d.behind) (joined_long ts d)

  step_long : (step : StepTree) (ts : List Lexeme) → SpellsStep step ts → levels_of_step step ≤ length ts
  step_long (field name place) ts d = omega arith
  step_long (index at place) ts d =
      omega (arith, joined_long ts d, joined_long d.back d.behind, expr_long at d.behind.front d.behind.in_front)

-- what nests too deep has more tokens than that
pub deep_long : (e : ExprTree) (ts : List Lexeme) (place : Place) → SpellsExpr e ts → IsDeepest (parts 0 e) place → most_levels < length ts
deep_long e ts place d deepest =
    let among = ((agrees-expr 0 e) most_levels).0 (has_above_of (parts 0 e) most_levels place deepest.there) in
    omega (arith, among.to, expr_long e ts d)
