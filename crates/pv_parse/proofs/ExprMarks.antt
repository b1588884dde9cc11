-- The places by depth of an expression are those of its parts.
use Rattle.std.proofs.Common.{ℕ, suc, [], ◌∷◌, ◌++◌}
use Rattle.pv_tree.specs.Tree.{ExprTree, lit, read, unary, binary, std, paren, ExprTrees, no_exprs, exprs, OperandTree, operand, StepTree, field, index, StepTrees, no_steps, steps}
use Rattle.pv_tree.specs.Nesting.{first_of, first_of_operand, parts, parts_of_exprs, parts_of_operand, parts_of_steps, parts_of_step}
use Rattle.pv_parse.specs.Shades.{all}
use Rattle.pv_parse.specs.ExprShades.{places_of, places_of_exprs, places_of_operand, places_of_steps, places_of_step}
use Rattle.pv_parse.proofs.Marks.{Marks, marks_none, marks_both, marks_one, marks_two, marks_part}

mutual
  pub marks-expr : (n : ℕ) (e : ExprTree) → Marks (places_of e) n (parts n e)
  marks-expr n (lit own value place) = marks_part n place [] [] (marks_none (suc n))
  marks-expr n (read variable) =
      marks_part n (first_of_operand variable) (all (places_of_operand variable ∷ [])) (parts_of_operand (suc n) variable)
      (marks_one (suc n) (places_of_operand variable) (parts_of_operand (suc n) variable) (marks-operand (suc n) variable))
  marks-expr n (unary op place arg) =
      marks_part n place (all (places_of arg ∷ [])) (parts (suc n) arg)
      (marks_one (suc n) (places_of arg) (parts (suc n) arg) (marks-expr (suc n) arg))
  marks-expr n (binary op place left right) =
      marks_part n (first_of left) (all (places_of left ∷ places_of right ∷ [])) (parts (suc n) left ++ parts (suc n) right)
      (marks_two (suc n) (places_of left) (places_of right) (parts (suc n) left) (parts (suc n) right) (marks-expr (suc n) left)
      (marks-expr (suc n) right))
  marks-expr n (std function place args) =
      marks_part n place (places_of_exprs args) (parts_of_exprs (suc n) args) (marks-exprs (suc n) args)
  marks-expr n (paren place inner) =
      marks_part n place (all (places_of inner ∷ [])) (parts (suc n) inner)
      (marks_one (suc n) (places_of inner) (parts (suc n) inner) (marks-expr (suc n) inner))

  marks-exprs : (n : ℕ) (args : ExprTrees) → Marks (places_of_exprs args) n (parts_of_exprs n args)
  marks-exprs n no_exprs = marks_none n
  marks-exprs n (exprs arg args) =
      marks_both n (places_of arg) (places_of_exprs args) (parts n arg) (parts_of_exprs n args) (marks-expr n arg) (marks-exprs n args)

  pub marks-operand : (n : ℕ) (o : OperandTree) → Marks (places_of_operand o) n (parts_of_operand n o)
  marks-operand n (operand root path place) = marks-steps n path

  marks-steps : (n : ℕ) (path : StepTrees) → Marks (places_of_steps path) n (parts_of_steps n path)
  marks-steps n no_steps = marks_none n
  marks-steps n (steps step others) =
      marks_both n (places_of_step step) (places_of_steps others) (parts_of_step n step) (parts_of_steps n others) (marks-step n step)
      (marks-steps n others)

  marks-step : (n : ℕ) (step : StepTree) → Marks (places_of_step step) n (parts_of_step n step)
  marks-step n (field name place) = marks_none n
  marks-step n (index at place) = marks-expr n at
