-- The walk up an expression: where none of its parts breaks a rule, neither it nor any part of it is broken.
use Rattle.std.proofs.Common.{◌≡◌, List, [], ◌∷◌, Bool, true, false, refl, sym, subst}
use Rattle.std.proofs.lemmas.Bool.{true≢false}
use Rattle.std.specs.List.{AllByRecursion, list_any}
use Rattle.std.specs.Prelude.{IsTrue, IsFalse, is_some, option_and_then, if◌then◌else◌}
use Rattle.pv_place.specs.declared.place.Place.{Place}
use Rattle.pv_types.specs.Tree.{unread}
use Rattle.pv_tree.specs.Tree.{ExprTree, lit, read, unary, binary, std, paren, ExprTrees, no_exprs, exprs, OperandTree, operand, StepTree, field, index, StepTrees, no_steps, steps}
use Rattle.pv_tree.specs.LiteralTypes.{Want, nothing, is_whole_number}
use Rattle.pv_tree.specs.Sorts.{Sort, broken, is_broken, own_type, taken, taken_each, beside, wanted_beside, common_type, wants_of, result_of_unary, result_of_binary, arguments_of, result_of_function}
use Rattle.pv_tree.specs.Scopes.{Scope}
use Rattle.pv_tree.specs.Things.{Thing, part, first_place, thing_at, last_behind, dated, thing_of, thing_of_root, root_place}
use Rattle.pv_tree.specs.Types.{signed, literal_of, sort_of, sorts_of, sort_of_operand, sort_of_thing, are_indexed, is_indexed, is_index_type, lies_in}
use Rattle.pv_tree.specs.Parts.{parts_of, parts_of_args, parts_of_operand, parts_of_steps, parts_of_step, indexes_of_step, indexes_behind}
use Rattle.pv_tree.specs.Fits.{is_of_other_type}
use Rattle.pv_tree.proofs.ToldThings.{BlocksTold, VarTold, told_root, told_behind}
use Rattle.pv_tree.proofs.NoneBroken.{IndexKeeps, OperandKeeps, PartKeeps, all-front, all-behind, all_where, neither, both, written_ok, literal_sort, fitted, unary_ok, paren_ok, thing_ok, IsNoticed, noticed, index_typed, own_taken, not_whole, lies}

-- a block whose types are told, in a project where all are
pub record ScopeTold (scope : Scope) : Type 0 where
  pub blocks : BlocksTold scope.project
  pub vars : AllByRecursion (VarTold scope.project) scope.block.vars

if_ok : (want : Want) (b : Bool) (s : Sort) → IsTrue b → IsFalse (is_broken (taken want s)) → IsFalse (is_broken (taken want (if b then s
    else broken)))
if_ok want true s p q = q
if_ok want false s p q = absurd (true≢false (sym p))

index_ok : (scope : Scope) (thing : Thing) (e : ExprTree) (place : Place) → IsFalse (is_broken (taken nothing (sort_of scope e)))
    → AllByRecursion (IndexKeeps scope) (indexes_of_step thing (index e place)) → IsTrue (is_indexed scope thing (index e place))
index_ok scope thing e place p k = typed_ok (λ mis. k.0.typed (first_place e) (refl, mis))
  where
    typed_ok : (IsTrue (is_of_other_type is_whole_number (taken nothing (sort_of scope e))) → ⊥) → IsTrue (is_indexed scope thing
        (index e place))
    typed_ok f =
        let a = index_typed (taken nothing (sort_of scope e)) p (own_taken nothing (sort_of scope e) p (not_whole (taken nothing
        (sort_of scope e)) f)) f in
        both (is_index_type (own_type (taken nothing (sort_of scope e)))) (lies_in thing (sort_of scope e)) a
        (lies (is_index_type (own_type (taken nothing (sort_of scope e)))) (lies_in thing (sort_of scope e)) a (λ beyond. k.0.inside
        (first_place e) (refl, beyond)))

noticed_not : (thing : Thing) → IsNoticed thing → thing ≡ part unread → ⊥
noticed_not thing n p = subst IsNoticed p n

mutual
  pub up : (scope : Scope) (told : ScopeTold scope) (want : Want) (e : ExprTree) → AllByRecursion (PartKeeps scope) (parts_of scope want e)
      → IsFalse (is_broken (taken want (sort_of scope e)))
  up scope told want (lit ty value place) k = written_ok want ty value
  up scope told want (read o) k = operand_up scope told want o k.0.reads.0 k.1
  up scope told want (unary op place arg) k =
      unary_ok want (signed op (literal_of arg)) (option_and_then (result_of_unary op) (common_type (taken nothing (sort_of scope arg)
      ∷ []))) (taken nothing (sort_of scope arg))
      (λ m. k.0.fits place (refl, m))
      (λ n. up scope told nothing arg (all_where (PartKeeps scope) (is_some (signed op (literal_of arg)))
      (parts_of scope nothing arg) n k.1))
  up scope told want (binary op place left right) k =
      let w = wanted_beside (sort_of scope left ∷ sort_of scope right ∷ []) in
      let xs = parts_of scope (wanted_beside (sort_of scope left ∷ sort_of scope right ∷ [])) left in
      let ys = parts_of scope (wanted_beside (sort_of scope left ∷ sort_of scope right ∷ [])) right in
      fitted want (option_and_then (result_of_binary op) (common_type (beside (sort_of scope left ∷ sort_of scope right ∷ [])))) (beside
      (sort_of scope left ∷ sort_of scope right ∷ []))
      (neither (is_broken (taken (wanted_beside (sort_of scope left ∷ sort_of scope right ∷ [])) (sort_of scope left))) _
      (up scope told (wanted_beside (sort_of scope left ∷ sort_of scope right ∷ [])) left (all-front (PartKeeps scope) xs ys k.1))
      (neither (is_broken (taken (wanted_beside (sort_of scope left ∷ sort_of scope right ∷ [])) (sort_of scope right))) false
      (up scope told (wanted_beside (sort_of scope left ∷ sort_of scope right ∷ [])) right (all-behind (PartKeeps scope) xs ys k.1)) refl))
      (λ m. k.0.fits place (refl, m))
  up scope told want (std function place args) k =
      fitted want (result_of_function function (arguments_of function (sorts_of scope args))) (arguments_of function (sorts_of scope args))
      (args_up scope told (wants_of function (sorts_of scope args)) args k.1) (λ m. k.0.fits place (refl, m))
  up scope told want (paren place inner) k =
      paren_ok want (literal_of inner) (sort_of scope inner) (literal_sort scope inner)
      (λ n. up scope told want inner (all_where (PartKeeps scope) (is_some (literal_of inner)) (parts_of scope want inner) n k.1))

  args_up : (scope : Scope) (told : ScopeTold scope) (wants : List Want) (args : ExprTrees) → AllByRecursion (PartKeeps scope)
      (parts_of_args scope wants args)
      → IsFalse (list_any is_broken (taken_each wants (sorts_of scope args)))
  args_up scope told wants no_exprs k = refl
  args_up scope told [] (exprs e more) k =
      neither (is_broken (taken nothing (sort_of scope e))) (list_any is_broken (taken_each [] (sorts_of scope more)))
      (up scope told nothing e (all-front (PartKeeps scope) (parts_of scope nothing e) (parts_of_args scope [] more) k))
      (args_up scope told [] more (all-behind (PartKeeps scope) (parts_of scope nothing e) (parts_of_args scope [] more) k))
  args_up scope told (want ∷ wants) (exprs e more) k =
      neither (is_broken (taken want (sort_of scope e))) (list_any is_broken (taken_each wants (sorts_of scope more)))
      (up scope told want e (all-front (PartKeeps scope) (parts_of scope want e) (parts_of_args scope wants more) k))
      (args_up scope told wants more (all-behind (PartKeeps scope) (parts_of scope want e) (parts_of_args scope wants more) k))

  pub operand_up : (scope : Scope) (told : ScopeTold scope) (want : Want) (o : OperandTree) → OperandKeeps scope o → AllByRecursion
      (PartKeeps scope) (parts_of_operand scope o)
      → IsFalse (is_broken (taken want (sort_of_operand scope o)))
  operand_up scope told want (operand root more place) k parts =
      if_ok want (are_indexed scope (root_place root place) (thing_of_root scope root place) more) (sort_of_thing scope (thing_of scope
      (operand root more place)))
      (steps_up scope told (root_place root place) (thing_of_root scope root place) more k.indexed parts)
      (thing_ok scope want (thing_of scope (operand root more place))
      (told_behind scope (root_place root place) (thing_of_root scope root place) more told.blocks
      (told_root scope root place told.blocks told.vars k.addressed))
      (noticed_not (thing_of scope (operand root more place)) (noticed scope (root_place root place) (thing_of_root scope root place) more))
      k.is_named k.is_array k.no_date k.valued)

  pub steps_up : (scope : Scope) (told : ScopeTold scope) (last : Place) (thing : Thing) (more : StepTrees) → AllByRecursion
      (IndexKeeps scope) (indexes_behind scope last thing more)
      → AllByRecursion (PartKeeps scope) (parts_of_steps scope more) → IsTrue (are_indexed scope last thing more)
  steps_up scope told last thing no_steps i k = refl
  steps_up scope told last thing (steps step more) i k =
      both (is_indexed scope (dated last thing) step) (are_indexed scope (last_behind last step) (thing_at scope
      (dated last thing) step) more)
      (step_up scope told (dated last thing) step
      (all-front (IndexKeeps scope) (indexes_of_step (dated last thing) step) (indexes_behind scope (last_behind last step) (thing_at scope
      (dated last thing) step) more) i)
      (all-front (PartKeeps scope) (parts_of_step scope step) (parts_of_steps scope more) k))
      (steps_up scope told (last_behind last step) (thing_at scope (dated last thing) step) more
      (all-behind (IndexKeeps scope) (indexes_of_step (dated last thing) step) (indexes_behind scope (last_behind last step) (thing_at scope
      (dated last thing) step) more) i)
      (all-behind (PartKeeps scope) (parts_of_step scope step) (parts_of_steps scope more) k))

  step_up : (scope : Scope) (told : ScopeTold scope) (thing : Thing) (step : StepTree) → AllByRecursion (IndexKeeps scope)
      (indexes_of_step thing step)
      → AllByRecursion (PartKeeps scope) (parts_of_step scope step) → IsTrue (is_indexed scope thing step)
  step_up scope told thing (field name place) i k = refl
  step_up scope told thing (index e place) i k = index_ok scope thing e place (up scope told nothing e k) i
