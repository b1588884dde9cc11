-- Which expressions terms are, form by form.
use Rattle.std.proofs.Common.{◌≡◌, ℕ, ◌+◌, ◌<◌, ◌≤◌, ℤ, List, [], ◌∷◌, ◌++◌, map, take, length, get_or, Bool, true, false, ◌||◌, Option, Some, None, IsTrue, is_some, refl, sym, ap, ◌∙◌, subst}
use Rattle.std.specs.Prelude.{◌==◌, flat_map}
use Rattle.std.specs.List.{list_any}
use Rattle.std.proofs.lemmas.Bool.{false≢true}
use Rattle.std.proofs.lemmas.Option.{same_Some}
use Rattle.std.proofs.lemmas.Grind.{flat_map-append}
use Rattle.std.proofs.lemmas.List.{append-nil, take_more, take_all, map-append}
use Rattle.std.proofs.lemmas.List.Folds.{list_any-append}
use Rattle.pv_word.specs.declared.types.Ty.{Ty}
use Rattle.pv_place.specs.declared.place.Place.{Place}
use Rattle.pv_tree.specs.declared.expr.Expr.{Expr}
use Rattle.pv_tree.specs.declared.expr.UnaryOp.{UnaryOp}
use Rattle.pv_tree.specs.declared.expr.BinaryOp.{BinaryOp}
use Rattle.pv_tree.specs.declared.expr.BinaryOp.TheVariants as tree
use Rattle.pv_tree.specs.declared.expr.StdFunction.{StdFunction}
use Rattle.pv_tree.specs.Tree.{ExprTree, lit, read, unary, binary, std, paren, ExprTrees, no_exprs, exprs, OperandTree, operand, field, index, StepTrees, no_steps, steps, BlockTree}
use Rattle.pv_tree.specs.View.{exprs_of, expr_tree}
use Rattle.pv_tree.specs.Scopes.{ProjectTree, Scope}
use Rattle.pv_tree.specs.Things.{place_of_operand}
use Rattle.pv_tree.specs.Types.{Written, signed, literal_of}
use Rattle.pv_names.specs.Entries.{block_of}
use Rattle.pv_names.specs.InScope.{scope_of}
use Rattle.pv_mean.specs.Sources.{Source}
use Rattle.pv_mean.specs.Endings.{Tried, Value, got, and_then}
use Rattle.pv_mean.specs.Spots.{Spot, read_spot}
use Rattle.pv_mean.specs.Activations.{scope_in}
use Rattle.pv_mean.specs.Values.{values, locate, literal_or, unary_result, binary_result, function_result, result_type}
use Rattle.pv_mean.specs.Scans.{Visible, entry_activation, pattern_value}
use Rattle.pv_eval.specs.declared.node.OneOp.{OneOp}
use Rattle.pv_eval.specs.declared.node.TwoOp.{TwoOp}
use Rattle.pv_eval.specs.declared.node.TwoOp.TheVariants as two
use Rattle.pv_eval.specs.declared.node.ThreeOp.{ThreeOp}
use Rattle.pv_eval.specs.Operators.{one_result, two_result, three_result}
use Rattle.pv_resolve.specs.declared.context.Context.{Context}
use Rattle.pv_resolve.specs.Contexts.{IsContext, block_in}
use Rattle.pv_pattern.specs.declared.term.Term.{Term, Constant}
use Rattle.pv_pattern.specs.Reads.{bare, spot_where, spots_read, spots_of_exprs, spots_of_operand, spots_of_steps, cells_of_spot, cells_read, IsFixedOperand, AreFixedSteps}
use Rattle.pv_pattern.specs.Terms.{frame_by, number_in, no_place, term_value, term_reads, IsTermOf}
use Rattle.pv_pattern.proofs.ForCallers.{located_same}
use Rattle.pv_pattern_read.specs.Making.{IsSpotTerm, IsOne, IsTwo, OfOne, OfTwo, OfThree, AreTermsOf, kept_two}

-- ---- literals

-- what a literal with its sign is, is one without it
unsigned : (op : UnaryOp) (o : Option Written) → IsTrue (is_some (signed op o)) → IsTrue (is_some o)
unsigned op None h = h
unsigned op (Some w) h = refl

pub literal_unread : (source : Source) (e : ExprTree) → IsTrue (is_some (literal_of e)) → spots_read source e ≡ []
literal_unread source (lit ty v place) h = refl
literal_unread source (read o) h = absurd (false≢true h)
literal_unread source (unary op place arg) h = literal_unread source arg (unsigned op (literal_of arg) h)
literal_unread source (binary op place left right) h = absurd (false≢true h)
literal_unread source (std function place args) h = absurd (false≢true h)
literal_unread source (paren place inner) h = literal_unread source inner h

literal_value : (source : Source) (values : Visible) (e : ExprTree) (w : Written) → literal_of e ≡ Some w → pattern_value source values e ≡ got w.value
literal_value source values (lit ty v place) w is = ap (λ (x : Written). got x.value) (same_Some (record { ty = ty; value = v }) w is)
literal_value source values (read o) w is = absurd (cc (is))
literal_value source values (unary op place arg) w is =
    ap (λ o. literal_or o (and_then (pattern_value source values arg)
    (λ a. got (unary_result op (result_type (scope_in source (entry_activation source)) (unary op place arg)) a)))) is
literal_value source values (binary op place left right) w is = absurd (cc (is))
literal_value source values (std function place args) w is = absurd (cc (is))
literal_value source values (paren place inner) w is = literal_value source values inner w is

some_is : (e : ExprTree) (w : Written) → literal_of e ≡ Some w → IsTrue (is_some (literal_of e))
some_is e w is = ap is_some is

pub of_literal : (source : Source) (e : ExprTree) (w : Written) (t : Term) (v : ℤ) → literal_of e ≡ Some w → t ≡ Constant v → v ≡ w.value
    → IsTermOf source t e
of_literal source e w t v is made same =
    subst (λ t. IsTermOf source t e) (sym made) (record {
      value = λ values. literal_value source values e w is ∙ ap (λ x. let y : Value = got x in y) (sym same);
      reads = λ n. ap (λ l. list_any (λ m. n == m) (flat_map cells_of_spot l)) (sym (literal_unread source e (some_is e w is)));
    })

-- ---- operands

fixed_unread : (source : Source) (path : StepTrees) → AreFixedSteps path → spots_of_steps source path ≡ []
fixed_unread source no_steps h = refl
fixed_unread source (steps (field name place) more) h = fixed_unread source more h.1
fixed_unread source (steps (index e place) more) h =
    ap (λ l. l ++ spots_of_steps source more) (literal_unread source e h.0) ∙ fixed_unread source more h.1

one_spot : (source : Source) (o : OperandTree) (spot : Spot) → IsFixedOperand o → locate source (entry_activation source) bare o ≡ got spot
    → spots_of_operand source o ≡ spot ∷ []
one_spot source (operand root path place) spot h is =
    ap (λ l. l ++ spot_where (locate source (entry_activation source) bare (operand root path place))) (fixed_unread source path h)
    ∙ ap spot_where is

pub of_read : (source : Source) (o : OperandTree) (t : Term) (spot : Spot) → IsFixedOperand o
    → locate source (entry_activation source) bare o ≡ got spot → IsSpotTerm spot t → IsTermOf source t (read o)
of_read source o t spot h is s = record {
  value = λ values.
      ap (λ x. and_then x (λ z. read_spot (frame_by values) (place_of_operand o) z))
      (located_same source (entry_activation source) (frame_by values) bare o h ∙ is)
      ∙ s.value values (place_of_operand o);
  reads = λ n.
      s.reads n ∙ ap (λ l. list_any (λ m. n == m) l) (sym (append-nil (cells_of_spot spot)))
      ∙ ap (λ l. list_any (λ m. n == m) (flat_map cells_of_spot l)) (sym (one_spot source o spot h is));
}

-- ---- operators

no_literal : (o : Option Written) (other : Value) → o ≡ None → literal_or o other ≡ other
no_literal None other e = refl
no_literal (Some w) other e = absurd (cc (e))

unary_value : (source : Source) (values : Visible) (op : UnaryOp) (ty : Ty) (place : Place) (inner : ExprTree) (a : ℤ)
    → literal_of (unary op place inner) ≡ None → ty ≡ result_type (scope_in source (entry_activation source)) (unary op place inner)
    → pattern_value source values inner ≡ got a → pattern_value source values (unary op place inner) ≡ got (unary_result op ty a)
unary_value source values op ty place inner a none type_is is =
    let rt = result_type (scope_in source (entry_activation source)) (unary op place inner) in
    no_literal (signed op (literal_of inner)) (and_then (pattern_value source values inner) (λ x. got (unary_result op rt x))) none
    ∙ ap (λ t. and_then t (λ x. let y : Value = got (unary_result op rt x) in y)) is
    ∙ ap (λ t. let y : Value = got (unary_result op t a) in y) (sym type_is)

-- one that leaves its operand
pub of_same : (source : Source) (op : UnaryOp) (place : Place) (ty : Ty) (inner : ExprTree) (arg : Term) → ((a : ℤ) → unary_result op ty a ≡ a)
    → literal_of (unary op place inner) ≡ None → ty ≡ result_type (scope_in source (entry_activation source)) (unary op place inner)
    → IsTermOf source arg inner → IsTermOf source arg (unary op place inner)
of_same source op place ty inner arg same none type_is h = record {
  value = λ values.
      unary_value source values op ty place inner (term_value values arg) none type_is (h.value values)
      ∙ ap (λ x. let y : Value = got x in y) (same (term_value values arg));
  reads = h.reads;
}

pub of_unary : (source : Source) (op : UnaryOp) (code : OneOp) (place : Place) (ty : Ty) (inner : ExprTree) (arg t : Term)
    → ((a : ℤ) → unary_result op ty a ≡ one_result code ty a) → literal_of (unary op place inner) ≡ None
    → ty ≡ result_type (scope_in source (entry_activation source)) (unary op place inner) → IsTermOf source arg inner → IsOne code ty arg t
    → IsTermOf source t (unary op place inner)
of_unary source op code place ty inner arg t same none type_is h made = record {
  value = λ values.
      unary_value source values op ty place inner (term_value values arg) none type_is (h.value values)
      ∙ ap (λ x. let y : Value = got x in y) (same (term_value values arg) ∙ sym (made.value values));
  reads = λ n. made.reads n ∙ h.reads n;
}

-- an operator that doesn't divide doesn't trap
kept_value : (op : BinaryOp) (code : TwoOp) (ty : Ty) (place : Place) (a b : ℤ) → kept_two op ≡ Some code
    → binary_result op ty place a b ≡ got (number_in (two_result code ty no_place a b))
kept_value tree.Div code ty place a b is = absurd (cc (is))
kept_value tree.Mod code ty place a b is = absurd (cc (is))
kept_value tree.Mul code ty place a b is = ap (λ c. let y : Value = got (number_in (two_result c ty no_place a b)) in y) (same_Some two.Mul code is)
kept_value tree.Add code ty place a b is = ap (λ c. let y : Value = got (number_in (two_result c ty no_place a b)) in y) (same_Some two.Add code is)
kept_value tree.Sub code ty place a b is = ap (λ c. let y : Value = got (number_in (two_result c ty no_place a b)) in y) (same_Some two.Sub code is)
kept_value tree.Less code ty place a b is = ap (λ c. let y : Value = got (number_in (two_result c ty no_place a b)) in y) (same_Some two.Less code is)
kept_value tree.Greater code ty place a b is = ap (λ c. let y : Value = got (number_in (two_result c ty no_place a b)) in y) (same_Some two.Greater code is)
kept_value tree.LessEqual code ty place a b is =
    ap (λ c. let y : Value = got (number_in (two_result c ty no_place a b)) in y) (same_Some two.LessEqual code is)
kept_value tree.GreaterEqual code ty place a b is =
    ap (λ c. let y : Value = got (number_in (two_result c ty no_place a b)) in y) (same_Some two.GreaterEqual code is)
kept_value tree.Equal code ty place a b is = ap (λ c. let y : Value = got (number_in (two_result c ty no_place a b)) in y) (same_Some two.Equal code is)
kept_value tree.NotEqual code ty place a b is = ap (λ c. let y : Value = got (number_in (two_result c ty no_place a b)) in y) (same_Some two.NotEqual code is)
kept_value tree.And code ty place a b is = ap (λ c. let y : Value = got (number_in (two_result c ty no_place a b)) in y) (same_Some two.And code is)
kept_value tree.Xor code ty place a b is = ap (λ c. let y : Value = got (number_in (two_result c ty no_place a b)) in y) (same_Some two.Xor code is)
kept_value tree.Or code ty place a b is = ap (λ c. let y : Value = got (number_in (two_result c ty no_place a b)) in y) (same_Some two.Or code is)

both_read : (source : Source) (n : ℕ) (xs ys : List Spot)
    → list_any (λ m. n == m) (flat_map cells_of_spot (xs ++ ys))
    ≡ (list_any (λ m. n == m) (flat_map cells_of_spot xs) || list_any (λ m. n == m) (flat_map cells_of_spot ys))
both_read source n xs ys =
    ap (λ l. list_any (λ m. n == m) l) (flat_map-append cells_of_spot xs ys)
    ∙ list_any-append (λ m. n == m) (flat_map cells_of_spot xs) (flat_map cells_of_spot ys)

pub of_binary : (source : Source) (op : BinaryOp) (code : TwoOp) (place : Place) (ty : Ty) (l r : ExprTree) (left right t : Term)
    → kept_two op ≡ Some code → ty ≡ result_type (scope_in source (entry_activation source)) (binary op place l r)
    → IsTermOf source left l → IsTermOf source right r → IsTwo code ty left right t → IsTermOf source t (binary op place l r)
of_binary source op code place ty l r left right t kept type_is h k made =
    let rt = result_type (scope_in source (entry_activation source)) (binary op place l r) in
    record {
      value = λ values.
          ap (λ x. and_then x (λ a. and_then (pattern_value source values r) (λ b. binary_result op rt place a b))) (h.value values)
          ∙ ap (λ x. and_then x (λ b. binary_result op rt place (term_value values left) b)) (k.value values)
          ∙ ap (λ z. binary_result op z place (term_value values left) (term_value values right)) (sym type_is)
          ∙ kept_value op code ty place (term_value values left) (term_value values right) kept
          ∙ ap (λ x. let y : Value = got x in y) (sym (made.value values));
      reads = λ n.
          made.reads n ∙ ap (λ x. x || term_reads n right) (h.reads n)
          ∙ ap (λ x. list_any (λ m. n == m) (cells_read source l) || x) (k.reads n)
          ∙ sym (both_read source n (spots_read source l) (spots_read source r));
    }

-- ---- functions

or_none : (x : Bool) → (x || false) ≡ x
or_none true = refl
or_none false = refl

-- what one, two or three arguments give, and the cells that they read
one_given : (source : Source) (values_ : Visible) (t : Term) (args : ExprTrees) → AreTermsOf source (t ∷ []) args
    → values source (entry_activation source) (frame_by values_) args ≡ got (term_value values_ t ∷ [])
one_given source vs t no_exprs h = absurd h
one_given source vs t (exprs e no_exprs) h = ap (λ x. and_then x (λ v. let y : Tried (List ℤ) = got (v ∷ []) in y)) (h.0.value vs)
one_given source vs t (exprs e (exprs f more)) h = absurd h.1

one_cells : (source : Source) (n : ℕ) (t : Term) (args : ExprTrees) → AreTermsOf source (t ∷ []) args
    → term_reads n t ≡ list_any (λ m. n == m) (flat_map cells_of_spot (spots_of_exprs source args))
one_cells source n t no_exprs h = absurd h
one_cells source n t (exprs e no_exprs) h =
    h.0.reads n ∙ sym (both_read source n (spots_read source e) [] ∙ or_none (list_any (λ m. n == m) (cells_read source e)))
one_cells source n t (exprs e (exprs f more)) h = absurd h.1

two_given : (source : Source) (values_ : Visible) (s t : Term) (args : ExprTrees) → AreTermsOf source (s ∷ t ∷ []) args
    → values source (entry_activation source) (frame_by values_) args ≡ got (term_value values_ s ∷ term_value values_ t ∷ [])
two_given source vs s t no_exprs h = absurd h
two_given source vs s t (exprs e more) h =
    ap (λ x. and_then x (λ v. and_then (values source (entry_activation source) (frame_by vs) more) (λ ws. got (v ∷ ws)))) (h.0.value vs)
    ∙ ap (λ x. and_then x (λ ws. let y : Tried (List ℤ) = got (term_value vs s ∷ ws) in y)) (one_given source vs t more h.1)

two_cells : (source : Source) (n : ℕ) (s t : Term) (args : ExprTrees) → AreTermsOf source (s ∷ t ∷ []) args
    → (term_reads n s || term_reads n t) ≡ list_any (λ m. n == m) (flat_map cells_of_spot (spots_of_exprs source args))
two_cells source n s t no_exprs h = absurd h
two_cells source n s t (exprs e more) h =
    ap (λ x. x || term_reads n t) (h.0.reads n) ∙ ap (λ x. list_any (λ m. n == m) (cells_read source e) || x) (one_cells source n t more h.1)
    ∙ sym (both_read source n (spots_read source e) (spots_of_exprs source more))

three_given : (source : Source) (values_ : Visible) (r s t : Term) (args : ExprTrees) → AreTermsOf source (r ∷ s ∷ t ∷ []) args
    → values source (entry_activation source) (frame_by values_) args ≡ got (term_value values_ r ∷ term_value values_ s ∷ term_value values_ t ∷ [])
three_given source vs r s t no_exprs h = absurd h
three_given source vs r s t (exprs e more) h =
    ap (λ x. and_then x (λ v. and_then (values source (entry_activation source) (frame_by vs) more) (λ ws. got (v ∷ ws)))) (h.0.value vs)
    ∙ ap (λ x. and_then x (λ ws. let y : Tried (List ℤ) = got (term_value vs r ∷ ws) in y)) (two_given source vs s t more h.1)

three_cells : (source : Source) (n : ℕ) (r s t : Term) (args : ExprTrees) → AreTermsOf source (r ∷ s ∷ t ∷ []) args
    → (term_reads n r || (term_reads n s || term_reads n t)) ≡ list_any (λ m. n == m) (flat_map cells_of_spot (spots_of_exprs source args))
three_cells source n r s t no_exprs h = absurd h
three_cells source n r s t (exprs e more) h =
    ap (λ x. x || (term_reads n s || term_reads n t)) (h.0.reads n)
    ∙ ap (λ x. list_any (λ m. n == m) (cells_read source e) || x) (two_cells source n s t more h.1)
    ∙ sym (both_read source n (spots_read source e) (spots_of_exprs source more))

-- a function of one argument
pub of_function_1 : (source : Source) (function : StdFunction) (code : OneOp) (to ty : Ty) (place : Place) (args : ExprTrees) (terms : List Term) (t : Term)
    → ((a : ℤ) → function_result function ty (a ∷ []) ≡ one_result code to a)
    → ty ≡ result_type (scope_in source (entry_activation source)) (std function place args) → AreTermsOf source terms args
    → OfOne code to terms t → IsTermOf source t (std function place args)
of_function_1 source function code to ty place args terms t same type_is are o =
    let arg = o.arg in
    let made = o.made in
    let h = subst (λ ts. AreTermsOf source ts args) o.are are in
    let rt = result_type (scope_in source (entry_activation source)) (std function place args) in
    record {
      value = λ vs.
          ap (λ x. and_then x (λ ws. let y : Value = got (function_result function rt ws) in y)) (one_given source vs arg args h)
          ∙ ap (λ z. let y : Value = got (function_result function z (term_value vs arg ∷ [])) in y) (sym type_is)
          ∙ ap (λ x. let y : Value = got x in y) (same (term_value vs arg) ∙ sym (made.value vs));
      reads = λ n. made.reads n ∙ one_cells source n arg args h;
    }

pub of_function_2 : (source : Source) (function : StdFunction) (code : TwoOp) (ty : Ty) (place : Place) (args : ExprTrees) (terms : List Term) (t : Term)
    → ((a b : ℤ) → function_result function ty (a ∷ b ∷ []) ≡ number_in (two_result code ty no_place a b))
    → ty ≡ result_type (scope_in source (entry_activation source)) (std function place args) → AreTermsOf source terms args
    → OfTwo code ty terms t → IsTermOf source t (std function place args)
of_function_2 source function code ty place args terms t same type_is are o =
    let left = o.left in
    let right = o.right in
    let made = o.made in
    let h = subst (λ ts. AreTermsOf source ts args) o.are are in
    let rt = result_type (scope_in source (entry_activation source)) (std function place args) in
    record {
      value = λ vs.
          ap (λ x. and_then x (λ ws. let y : Value = got (function_result function rt ws) in y)) (two_given source vs left right args h)
          ∙ ap (λ z. let y : Value = got (function_result function z (term_value vs left ∷ term_value vs right ∷ [])) in y) (sym type_is)
          ∙ ap (λ x. let y : Value = got x in y) (same (term_value vs left) (term_value vs right) ∙ sym (made.value vs));
      reads = λ n. made.reads n ∙ two_cells source n left right args h;
    }

pub of_function_3 : (source : Source) (function : StdFunction) (code : ThreeOp) (ty : Ty) (place : Place) (args : ExprTrees) (terms : List Term) (t : Term)
    → ((a b c : ℤ) → function_result function ty (a ∷ b ∷ c ∷ []) ≡ three_result code a b c)
    → ty ≡ result_type (scope_in source (entry_activation source)) (std function place args) → AreTermsOf source terms args
    → OfThree code terms t → IsTermOf source t (std function place args)
of_function_3 source function code ty place args terms t same type_is are o =
    let r = o.first in
    let s = o.second in
    let u = o.third in
    let made = o.made in
    let h = subst (λ ts. AreTermsOf source ts args) o.are are in
    let rt = result_type (scope_in source (entry_activation source)) (std function place args) in
    record {
      value = λ vs.
          ap (λ x. and_then x (λ ws. let y : Value = got (function_result function rt ws) in y)) (three_given source vs r s u args h)
          ∙ ap (λ z. let y : Value = got (function_result function z (term_value vs r ∷ term_value vs s ∷ term_value vs u ∷ [])) in y)
          (sym type_is)
          ∙ ap (λ x. let y : Value = got x in y) (same (term_value vs r) (term_value vs s) (term_value vs u) ∙ sym (made.value vs));
      reads = λ n. made.reads n ∙ three_cells source n r s u args h;
    }

-- ---- arguments, one by one

terms_more : (source : Source) (ts : List Term) (t : Term) (es : List ExprTree) (e : ExprTree) → AreTermsOf source ts (exprs_of es)
    → IsTermOf source t e → AreTermsOf source (ts ++ t ∷ []) (exprs_of (es ++ e ∷ []))
terms_more source [] t [] e h k = (k, tt)
terms_more source [] t (f ∷ es) e h k = absurd h
terms_more source (s ∷ ts) t [] e h k = absurd h
terms_more source (s ∷ ts) t (f ∷ es) e h k = (h.0, terms_more source ts t es e h.1 k)

-- the terms of these arguments, in each source of the context
pub record HasTerms (c : Context) (ts : List Term) (es : List ExprTree) : Type 0 where
  pub are : (source : Source) → IsContext c source → block_in c ≡ source.entry → AreTermsOf source ts (exprs_of es)

pub terms_none : (c : Context) (ts : List Term) → ts ≡ [] → HasTerms c ts []
terms_none c ts is = record { are = λ source in_context entered. subst (λ l. AreTermsOf source l no_exprs) (sym is) tt }

pub terms_next : (c : Context) (ts new : List Term) (t : Term) (es : List Expr) (i j : ℕ) (e : Expr) → i < length es → e ≡ get_or es i e → j ≡ i + 1
    → new ≡ ts ++ t ∷ [] → ((source : Source) → IsContext c source → block_in c ≡ source.entry → IsTermOf source t (expr_tree e))
    → HasTerms c ts (map expr_tree (take i es)) → HasTerms c new (map expr_tree (take j es))
terms_next c ts new t es i j e inside is next pushed one h = record {
  are = λ source in_context entered.
      let more = terms_more source ts t (map expr_tree (take i es)) (expr_tree e) (h.are source in_context entered) (one source in_context entered) in
      let grown : map expr_tree (take j es) ≡ map expr_tree (take i es) ++ expr_tree e ∷ [] =
      ap (λ k. map expr_tree (take k es)) next ∙ ap (map expr_tree) (take_more es i e inside)
      ∙ map-append expr_tree (take i es) (get_or es i e ∷ []) ∙ ap (λ y. map expr_tree (take i es) ++ expr_tree y ∷ []) (sym is) in
      subst (λ l. AreTermsOf source l (exprs_of (map expr_tree (take j es)))) (sym pushed)
      (subst (λ l. AreTermsOf source (ts ++ t ∷ []) (exprs_of l)) (sym grown) more);
}

pub terms_all : (c : Context) (ts : List Term) (es : List Expr) (i : ℕ) → length es ≤ i → HasTerms c ts (map expr_tree (take i es))
    → (source : Source) → IsContext c source → block_in c ≡ source.entry → AreTermsOf source ts (exprs_of (map expr_tree es))
terms_all c ts es i h all source in_context entered =
    subst (λ l. AreTermsOf source ts (exprs_of (map expr_tree l))) (take_all i es h) (all.are source in_context entered)

-- ---- in a context

pub of_paren : (source : Source) (t : Term) (e inner : ExprTree) (place : Place) → e ≡ paren place inner → IsTermOf source t inner → IsTermOf source t e
of_paren source t e inner place is h = subst (IsTermOf source t) (sym is) (record { value = h.value; reads = h.reads })

-- the scope of a context's block is that of the entered block
pub scope_same : (c : Context) (source : Source) → IsContext c source → block_in c ≡ source.entry → scope_of c.scope ≡ scope_in source (entry_activation source)
scope_same c source is entered =
    ap (λ (p : ProjectTree). let s : Scope = record { project = p; block = block_of c.scope.entry.now } in s) is.project
    ∙ ap (λ (b : BlockTree). let s : Scope = record { project = source.project; block = b } in s) entered

pub type_in : (c : Context) (source : Source) (e f : ExprTree) (ty : Ty) → IsContext c source → block_in c ≡ source.entry → e ≡ f
    → ty ≡ result_type (scope_of c.scope) e → ty ≡ result_type (scope_in source (entry_activation source)) f
type_in c source e f ty is entered same h =
    h ∙ ap (λ s. result_type s e) (scope_same c source is entered) ∙ ap (result_type (scope_in source (entry_activation source))) same
