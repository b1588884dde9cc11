-- Where the value of an expression traps: at one of the expression's places.
use Rattle.std.proofs.Common.{◌≡◌, ◌⊎◌, ◌∷◌, ℤ, pos, Bool, true, false, Option, Some, None, if◌then◌else◌, inl, inr, refl}
use Rattle.std.specs.Ordering.{int_eq}
use Rattle.pv_word.specs.declared.types.Ty.{Ty}
use Rattle.pv_place.specs.declared.place.Place.{Place}
use Rattle.pv_place.specs.declared.trap.TrapKind.TheVariants.{DivideByZero}
use Rattle.pv_tree.specs.declared.expr.BinaryOp.{BinaryOp}
use Rattle.pv_tree.specs.declared.expr.BinaryOp.TheVariants.{Mul, Div, Mod, Add, Sub, Less, Greater, LessEqual, GreaterEqual, Equal, NotEqual, And, Xor, Or}
use Rattle.pv_tree.specs.Tree.{ExprTree, lit, read, unary, binary, std, paren, ExprTrees, no_exprs, exprs, OperandTree, operand, StepTree, field, index, StepTrees, no_steps, steps}
use Rattle.pv_tree.specs.Things.{place_of_operand}
use Rattle.pv_tree.specs.Types.{Written, signed, literal_of}
use Rattle.pv_mean.specs.Layout.{Laid, element_laid}
use Rattle.pv_mean.specs.Sources.{Source}
use Rattle.pv_mean.specs.Frames.{Frame, brief_value}
use Rattle.pv_mean.specs.Endings.{got, trap, Value, and_then}
use Rattle.pv_mean.specs.Spots.{Spot, visible, brief, bit, bytes, fixed, nowhere, told, read_spot}
use Rattle.pv_mean.specs.Activations.{Activation, scope_in, Begins, in_visible, in_brief, at, root_begins, spot_of}
use Rattle.pv_mean.specs.Values.{divided, binary_result, unary_result, function_result, result_type, element_where, element_begins, literal_or, value, values, locate, behind, step_behind}
use Rattle.pv_laws_scans.specs.Places.{InExpr, InExprs, InOperand, InSteps, InStep}
use Rattle.pv_laws_scans.proofs.Stopping.{TrapsIn, traps_wider, traps_then}

abbrev At : Place → Place → Type 0
At place p = p ≡ place

pub told_at : (o : Option ℤ) (place : Place) → TrapsIn (At place) (told o place)
told_at None place = refl
told_at (Some v) place = tt

pub read_at : (frame : Frame) (place : Place) (spot : Spot) → TrapsIn (At place) (read_spot frame place spot)
read_at frame place (visible n) = tt
read_at frame place (brief ty n) = told_at (brief_value frame n) place
read_at frame place (bit n b) = tt
read_at frame place (bytes ty n count) = tt
read_at frame place (fixed v) = tt
read_at frame place nowhere = tt

divided_at : (place : Place) (b result : ℤ) → TrapsIn (At place) (divided place b result)
divided_at place b result = lead (int_eq b (pos 0))
  where
    lead : (t : Bool) → TrapsIn (At place) (if t then trap DivideByZero place else got result)
    lead true = refl
    lead false = tt

binary_at : (op : BinaryOp) (ty : Ty) (place : Place) (a b : ℤ) → TrapsIn (At place) (binary_result op ty place a b)
binary_at Mul ty place a b = tt
binary_at Div ty place a b = divided_at place b _
binary_at Mod ty place a b = divided_at place b _
binary_at Add ty place a b = tt
binary_at Sub ty place a b = tt
binary_at Less ty place a b = tt
binary_at Greater ty place a b = tt
binary_at LessEqual ty place a b = tt
binary_at GreaterEqual ty place a b = tt
binary_at Equal ty place a b = tt
binary_at NotEqual ty place a b = tt
binary_at And ty place a b = tt
binary_at Xor ty place a b = tt
binary_at Or ty place a b = tt

element_at : (make : Laid → Begins) (o : Option Laid) (place : Place) → TrapsIn (At place) (element_where make o place)
element_at make None place = refl
element_at make (Some laid) place = tt

begins_at : (source : Source) (begins : Begins) (i : ℤ) (place : Place) → TrapsIn (At place) (element_begins source begins i place)
begins_at source (in_visible laid) i place = element_at in_visible (element_laid source.project laid i) place
begins_at source (in_brief laid) i place = element_at in_brief (element_laid source.project laid i) place
begins_at source (at spot) i place = tt

literal_in : (P : Place → Type 0) (o : Option Written) (other : Value) → TrapsIn P other → TrapsIn P (literal_or o other)
literal_in P None other is = is
literal_in P (Some w) other is = tt

operand_place : (o : OperandTree) (p : Place) → p ≡ place_of_operand o → InOperand p o
operand_place (operand root more place) p e = inl e

mutual
  pub value_in : (source : Source) (act : Activation) (frame : Frame) (e : ExprTree) → TrapsIn (λ p. InExpr p e) (value source act frame e)
  value_in source act frame (lit ty v place) = tt
  value_in source act frame (read o) =
      traps_then (λ p. InOperand p o) (locate source act frame o) (λ spot. read_spot frame (place_of_operand o) spot) (located_in source act frame o)
      (λ spot. traps_wider (At (place_of_operand o)) (λ p. InOperand p o) (read_spot frame (place_of_operand o) spot) (operand_place o)
      (read_at frame (place_of_operand o) spot))
  value_in source act frame (unary op place arg) =
      let P : Place → Type 0 = λ p. (p ≡ place) ⊎ InExpr p arg in
      let next : ℤ → Value = λ a. got (unary_result op (result_type (scope_in source act) (unary op place arg)) a) in
      literal_in P (signed op (literal_of arg)) (and_then (value source act frame arg) next)
      (traps_then P (value source act frame arg) next (traps_wider (λ p. InExpr p arg) P (value source act frame arg) (λ p is. inr is) (value_in source act frame arg))
      (λ a. tt))
  value_in source act frame (binary op place left right) =
      let P : Place → Type 0 = λ p. (p ≡ place) ⊎ (InExpr p left ⊎ InExpr p right) in
      let ty = result_type (scope_in source act) (binary op place left right) in
      let last : ℤ → ℤ → Value = λ a b. binary_result op ty place a b in
      traps_then P (value source act frame left) (λ a. and_then (value source act frame right) (λ b. last a b))
      (traps_wider (λ p. InExpr p left) P (value source act frame left) (λ p is. inr (inl is)) (value_in source act frame left))
      (λ a. traps_then P (value source act frame right) (λ b. last a b)
      (traps_wider (λ p. InExpr p right) P (value source act frame right) (λ p is. inr (inr is)) (value_in source act frame right))
      (λ b. traps_wider (At place) P (last a b) (λ p is. inl is) (binary_at op ty place a b)))
  value_in source act frame (std function place args) =
      let P : Place → Type 0 = λ p. (p ≡ place) ⊎ InExprs p args in
      traps_then P (values source act frame args) (λ vs. got (function_result function (result_type (scope_in source act) (std function place args)) vs))
      (traps_wider (λ p. InExprs p args) P (values source act frame args) (λ p is. inr is) (values_in source act frame args)) (λ vs. tt)
  value_in source act frame (paren place inner) =
      traps_wider (λ p. InExpr p inner) (λ p. (p ≡ place) ⊎ InExpr p inner) (value source act frame inner) (λ p is. inr is) (value_in source act frame inner)

  values_in : (source : Source) (act : Activation) (frame : Frame) (es : ExprTrees) → TrapsIn (λ p. InExprs p es) (values source act frame es)
  values_in source act frame no_exprs = tt
  values_in source act frame (exprs e more) =
      let P : Place → Type 0 = λ p. InExpr p e ⊎ InExprs p more in
      traps_then P (value source act frame e) (λ v. and_then (values source act frame more) (λ vs. got (v ∷ vs)))
      (traps_wider (λ p. InExpr p e) P (value source act frame e) (λ p is. inl is) (value_in source act frame e))
      (λ v. traps_then P (values source act frame more) (λ vs. got (v ∷ vs))
      (traps_wider (λ p. InExprs p more) P (values source act frame more) (λ p is. inr is) (values_in source act frame more)) (λ vs. tt))

  pub located_in : (source : Source) (act : Activation) (frame : Frame) (o : OperandTree) → TrapsIn (λ p. InOperand p o) (locate source act frame o)
  located_in source act frame (operand root more place) =
      let P : Place → Type 0 = λ p. (p ≡ place) ⊎ InSteps p more in
      let begins = root_begins source act root in
      traps_then P (behind source act frame begins more) (λ b. got (spot_of b))
      (traps_wider (λ p. InSteps p more) P (behind source act frame begins more) (λ p is. inr is) (behind_in source act frame begins more)) (λ b. tt)

  behind_in : (source : Source) (act : Activation) (frame : Frame) (begins : Begins) (ss : StepTrees)
      → TrapsIn (λ p. InSteps p ss) (behind source act frame begins ss)
  behind_in source act frame begins no_steps = tt
  behind_in source act frame begins (steps step more) =
      let P : Place → Type 0 = λ p. InStep p step ⊎ InSteps p more in
      traps_then P (step_behind source act frame begins step) (λ b. behind source act frame b more)
      (traps_wider (λ p. InStep p step) P (step_behind source act frame begins step) (λ p is. inl is) (step_in source act frame begins step))
      (λ b. traps_wider (λ p. InSteps p more) P (behind source act frame b more) (λ p is. inr is) (behind_in source act frame b more))

  step_in : (source : Source) (act : Activation) (frame : Frame) (begins : Begins) (step : StepTree)
      → TrapsIn (λ p. InStep p step) (step_behind source act frame begins step)
  step_in source act frame begins (field name place) = tt
  step_in source act frame begins (index e place) =
      let P : Place → Type 0 = λ p. (p ≡ place) ⊎ InExpr p e in
      traps_then P (value source act frame e) (λ i. element_begins source begins i place)
      (traps_wider (λ p. InExpr p e) P (value source act frame e) (λ p is. inr is) (value_in source act frame e))
      (λ i. traps_wider (At place) P (element_begins source begins i place) (λ p is. inl is) (begins_at source begins i place))
