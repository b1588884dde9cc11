-- Where an expression has a type by what is wanted of it, so has each expression in it. What an operator, a function or an index
-- needs says of each operand that it has a type; the rest is a walk down the tree.
use Rattle.std.proofs.Common.{List, [], ◌∷◌, ◌++◌, Bool, true, false, refl, sym}
use Rattle.std.proofs.lemmas.Bool.{true≢false, and_parts}
use Rattle.std.specs.List.{AllByRecursion}
use Rattle.std.specs.Prelude.{IsTrue, is_some, option_and_then, Option, Some, None, if◌then◌else◌}
use Rattle.pv_word.specs.declared.types.Ty.{Ty}
use Rattle.pv_place.specs.declared.place.Place.{Place}
use Rattle.pv_tree.specs.declared.expr.UnaryOp.{UnaryOp}
use Rattle.pv_tree.specs.declared.expr.StdFunction.{StdFunction}
use Rattle.pv_tree.specs.declared.expr.StdFunction.TheVariants.{Convert, Abs, Min, Max, Limit, Sel, Shl, Shr}
use Rattle.pv_tree.specs.Tree.{ExprTree, lit, read, unary, binary, std, paren, ExprTrees, no_exprs, exprs, OperandTree, operand, StepTree, field, index, StepTrees, no_steps, steps}
use Rattle.pv_tree.specs.LiteralTypes.{Want, nothing, is_whole_number}
use Rattle.pv_tree.specs.Sorts.{Sort, untyped, typed, one, whole, broken, own_type, one_of, taken, taken_each, wanted_beside, widest, types_of_sorts, common_type, is_bool, is_count, is_shifted, type_where, wants_of, result_of_unary, result_of_binary, arguments_of, result_of_function, choice_result, shift_result, convert_result}
use Rattle.pv_tree.specs.Scopes.{Scope}
use Rattle.pv_tree.specs.Things.{Thing, thing_at, last_behind, dated, thing_of, thing_of_root, root_place}
use Rattle.pv_tree.specs.Types.{Written, signed, literal_of, sort_where, sort_of, sorts_of, sort_of_operand, sort_of_thing, are_indexed, is_indexed, is_index_type, lies_in, type_of}
use Rattle.pv_tree.specs.Parts.{Part, parts_of, parts_of_args, parts_of_operand, parts_of_steps, parts_of_step}
use Rattle.pv_tree.specs.RuleLaws.{HasType}

-- ---- lists

pub all-append : {X : Type 0} (P : X → Type 0) (xs ys : List X) → AllByRecursion P xs → AllByRecursion P ys → AllByRecursion P (xs ++ ys)
all-append P [] ys a b = b
all-append P (x ∷ xs) ys a b = (a.0, all-append P xs ys a.1 b)

all_unless : {X : Type 0} (P : X → Type 0) (b : Bool) (xs : List X) → AllByRecursion P xs → AllByRecursion P (if b then [] else xs)
all_unless P true xs a = tt
all_unless P false xs a = a

-- ---- what has a type

TypedSort : Sort → Type 0
TypedSort s = IsTrue (is_some (own_type s))

abbrev TypedSorts : List Sort → Type 0
TypedSorts ss = AllByRecursion (λ s. IsTrue (is_some (own_type s))) ss

of_one : (want : Want) (r : Option Ty) → IsTrue (is_some (own_type (taken want (one_of r)))) → IsTrue (is_some r)
of_one want None t = t
of_one want (Some ty) t = refl

of_then : {X : Type 0} (f : X → Option Ty) (o : Option X) → IsTrue (is_some (option_and_then f o)) → IsTrue (is_some o)
of_then f None t = t
of_then f (Some x) t = refl

of_pair : (o : Option Ty) (m : Option (List Ty))
    → IsTrue (is_some (option_and_then (λ ty. option_and_then (λ tys. Some (ty ∷ tys)) m) o)) → IsTrue (is_some o) × IsTrue (is_some m)
of_pair None m t = absurd (true≢false (sym t))
of_pair (Some ty) None t = absurd (true≢false (sym t))
of_pair (Some ty) (Some tys) t = (refl, refl)

of_types : (ss : List Sort) → IsTrue (is_some (types_of_sorts ss)) → TypedSorts ss
of_types [] t = tt
of_types (s ∷ more) t = let p = of_pair (own_type s) (types_of_sorts more) t in (p.0, of_types more p.1)

of_common : (ss : List Sort) → IsTrue (is_some (common_type ss)) → TypedSorts ss
of_common ss t = of_types ss (of_then widest (types_of_sorts ss) t)

-- ---- functions

of_choice : (o r : Option Ty) → IsTrue (is_some (option_and_then (λ ty. if is_bool ty then r else None) o)) → IsTrue (is_some o) × IsTrue
    (is_some r)
of_choice None r t = absurd (true≢false (sym t))
of_choice (Some ty) r t = (refl, chosen (is_bool ty) t)
  where
    chosen : (b : Bool) → IsTrue (is_some (if b then r else None)) → IsTrue (is_some r)
    chosen true u = u
    chosen false u = absurd (true≢false (sym u))

of_if : (b : Bool) (r : Option Ty) → IsTrue (is_some (if b then r else None)) → IsTrue b × IsTrue (is_some r)
of_if true r t = (refl, t)
of_if false r t = absurd (true≢false (sym t))

counted : (s : Sort) → IsTrue (is_count s) → IsTrue (is_some (own_type s))
counted (untyped v) t = absurd (true≢false (sym t))
counted (typed ty v) t = refl
counted (one ty) t = refl
counted whole t = absurd (true≢false (sym t))
counted broken t = absurd (true≢false (sym t))

of_shift : (ss : List Sort) → IsTrue (is_some (shift_result ss)) → TypedSorts ss
of_shift [] t = tt
of_shift (s ∷ []) t = absurd (true≢false (sym t))
of_shift (s ∷ n ∷ []) t = let p = of_if (is_count n) (option_and_then (type_where is_shifted) (own_type s)) t in
    (of_then (type_where is_shifted) (own_type s) p.1, (counted n p.0, tt))
of_shift (s ∷ n ∷ m ∷ more) t = absurd (true≢false (sym t))

of_convert : (from to : Ty) (ss : List Sort) → IsTrue (is_some (convert_result from to ss)) → TypedSorts ss
of_convert from to [] t = tt
of_convert from to (s ∷ []) t = (of_then _ (own_type s) t, tt)
of_convert from to (s ∷ n ∷ more) t = absurd (true≢false (sym t))

of_select : (ss : List Sort) → IsTrue (is_some (choice_result ss)) → TypedSorts ss
of_select [] t = tt
of_select (s ∷ more) t = let p = of_choice (own_type s) (common_type more) t in (p.0, of_common more p.1)

of_function : (f : StdFunction) (ss : List Sort) → IsTrue (is_some (result_of_function f ss)) → TypedSorts ss
of_function (Convert from to) ss t = of_convert from to ss t
of_function Abs ss t = of_common ss (of_then (type_where is_whole_number) (common_type ss) t)
of_function Min ss t = of_common ss (of_then (type_where is_whole_number) (common_type ss) t)
of_function Max ss t = of_common ss (of_then (type_where is_whole_number) (common_type ss) t)
of_function Limit ss t = of_common ss (of_then (type_where is_whole_number) (common_type ss) t)
of_function Sel ss t = of_select ss t
of_function Shl ss t = of_shift ss t
of_function Shr ss t = of_shift ss t

-- ---- down the tree

of_indexed : (want : Want) (b : Bool) (s : Sort) → IsTrue (is_some (own_type (taken want (if b then s else broken)))) → IsTrue b
of_indexed want true s t = refl
of_indexed want false s t = t

of_index_type : (o : Option Ty) → IsTrue (is_index_type o) → IsTrue (is_some o)
of_index_type None t = t
of_index_type (Some ty) t = refl

of_unary : (scope : Scope) (want : Want) (op : UnaryOp) (l : Option Written) (s : Sort) (ps : List Part)
    → IsTrue (is_some (own_type (taken want (sort_where l (one_of (option_and_then (result_of_unary op) (common_type (taken nothing s
    ∷ []))))))))
    → (IsTrue (is_some (own_type (taken nothing s))) → AllByRecursion (HasType scope) ps)
    → AllByRecursion (HasType scope) (if is_some l then [] else ps)
of_unary scope want op (Some w) s ps t f = tt
of_unary scope want op None s ps t f =
    f (of_common (taken nothing s ∷ []) (of_then (result_of_unary op) (common_type (taken nothing s ∷ [])) (of_one want _ t))).0

mutual
  pub parts_have_types : (scope : Scope) (want : Want) (e : ExprTree) → IsTrue (is_some (type_of scope want e)) → AllByRecursion
      (HasType scope) (parts_of scope want e)
  parts_have_types scope want (lit ty value place) t = (t, tt)
  parts_have_types scope want (read o) t = (t, operands_have scope want o t)
  parts_have_types scope want (unary op place arg) t = (
    t,
    of_unary scope want op (signed op (literal_of arg)) (sort_of scope arg) (parts_of scope nothing arg) t
        (λ u. parts_have_types scope nothing arg u),
  )
  parts_have_types scope want (binary op place left right) t =
      let both = of_common (taken (wanted_beside (sort_of scope left ∷ sort_of scope right ∷ [])) (sort_of scope left) ∷ taken
      (wanted_beside (sort_of scope left ∷ sort_of scope right ∷ [])) (sort_of scope right) ∷ [])
      (of_then (result_of_binary op) _ (of_one want _ t)) in (
        t,
        all-append (HasType scope) (parts_of scope (wanted_beside (sort_of scope left ∷ sort_of scope right ∷ [])) left) (parts_of scope
            (wanted_beside (sort_of scope left ∷ sort_of scope right ∷ [])) right)
            (parts_have_types scope (wanted_beside (sort_of scope left ∷ sort_of scope right ∷ [])) left both.0)
            (parts_have_types scope (wanted_beside (sort_of scope left ∷ sort_of scope right ∷ [])) right both.1.0),
      )
  parts_have_types scope want (std function place args) t = (
    t,
    arguments_have scope (wants_of function (sorts_of scope args)) args (of_function function (arguments_of function
        (sorts_of scope args)) (of_one want _ t)),
  )
  parts_have_types scope want (paren place inner) t =
      (t, all_unless (HasType scope) (is_some (literal_of inner)) (parts_of scope want inner) (parts_have_types scope want inner t))

  arguments_have : (scope : Scope) (wants : List Want) (args : ExprTrees) → TypedSorts (taken_each wants (sorts_of scope args))
      → AllByRecursion (HasType scope) (parts_of_args scope wants args)
  arguments_have scope wants no_exprs t = tt
  arguments_have scope [] (exprs e more) t =
      all-append (HasType scope) (parts_of scope nothing e) (parts_of_args scope [] more) (parts_have_types scope nothing e t.0)
      (arguments_have scope [] more t.1)
  arguments_have scope (want ∷ wants) (exprs e more) t =
      all-append (HasType scope) (parts_of scope want e) (parts_of_args scope wants more) (parts_have_types scope want e t.0)
      (arguments_have scope wants more t.1)

  pub operands_have : (scope : Scope) (want : Want) (o : OperandTree) → IsTrue (is_some (own_type (taken want (sort_of_operand scope o))))
      → AllByRecursion (HasType scope) (parts_of_operand scope o)
  operands_have scope want (operand root more place) t =
      steps_have scope (root_place root place) (thing_of_root scope root place) more
      (of_indexed want (are_indexed scope (root_place root place) (thing_of_root scope root place) more) (sort_of_thing scope
      (thing_of scope (operand root more place))) t)

  pub steps_have : (scope : Scope) (last : Place) (thing : Thing) (more : StepTrees) → IsTrue (are_indexed scope last thing more)
      → AllByRecursion (HasType scope) (parts_of_steps scope more)
  steps_have scope last thing no_steps t = tt
  steps_have scope last thing (steps step more) t =
      let p = and_parts (is_indexed scope (dated last thing) step) (are_indexed scope (last_behind last step) (thing_at scope
      (dated last thing) step) more) t in
      all-append (HasType scope) (parts_of_step scope step) (parts_of_steps scope more) (step_has scope (dated last thing) step p.0)
      (steps_have scope (last_behind last step) (thing_at scope (dated last thing) step) more p.1)

  step_has : (scope : Scope) (thing : Thing) (step : StepTree) → IsTrue (is_indexed scope thing step) → AllByRecursion (HasType scope)
      (parts_of_step scope step)
  step_has scope thing (field name place) t = tt
  step_has scope thing (index e place) t =
      parts_have_types scope nothing e (of_index_type (own_type (taken nothing (sort_of scope e))) (and_parts (is_index_type (own_type
      (taken nothing (sort_of scope e)))) (lies_in thing (sort_of scope e)) t).0)
