-- A scan of the first form on numbers of bits is the Boolean program's scan on the bits. Frames are given as numbers of bits, so that no
-- invariant has to say that values stay within BOOL: the ranges follow at the end.
use Rattle.std.proofs.Common.{◌≡◌, ◌⊎◌, ℕ, List, [], ◌∷◌, map, ℤ, Bool, true, false, not, ◌&&◌, ◌||◌, cond, set, Option, Some, None, inl, inr, refl, ap, sym, subst, ◌∙◌}
use Rattle.std.specs.Prelude.{option_and_then, unwrap_or}
use Rattle.std.specs.List.{AllByRecursion}
use Rattle.std.proofs.lemmas.List.{map-set}
use Rattle.std.proofs.Math.ListN.{get_or-map}
use Rattle.pv_word.specs.declared.types.Ty.{Ty}
use Rattle.pv_word.specs.declared.types.Ty.TheVariants.{Bool as BoolType, Byte, Word, Dword, Int, Dint, Time}
use Rattle.pv_word.specs.Types.{wrap_of}
use Rattle.pv_word.specs.Wrap.{wrap_at}
use Rattle.pv_word.specs.Bits.{pattern_at}
use Rattle.pv_place.specs.declared.role.Role.{Role}
use Rattle.pv_place.specs.declared.place.Place.{Place}
use Rattle.pv_tree.specs.declared.expr.UnaryOp.{UnaryOp}
use Rattle.pv_tree.specs.declared.expr.UnaryOp.TheVariants.{Not}
use Rattle.pv_tree.specs.declared.expr.BinaryOp.{BinaryOp}
use Rattle.pv_tree.specs.declared.expr.BinaryOp.TheVariants.{And, Or}
use Rattle.pv_tree.specs.Tree.{ExprTree, lit, read, unary, binary, std, paren, assign, assign_call, if_, case_, for_, while_, repeat_, exit_, continue_, return_, call_, empty_, StmtTrees, no_stmts, stmts}
use Rattle.pv_tree.specs.LiteralTypes.{nothing}
use Rattle.pv_tree.specs.Sorts.{Sort, one, typed, one_of, own_type, taken, beside, common_type, result_of_unary, result_of_binary}
use Rattle.pv_tree.specs.Scopes.{Scope}
use Rattle.pv_tree.specs.Things.{place_of_operand}
use Rattle.pv_tree.specs.Types.{Written, signed, literal_of, sort_of, sort_of_written, sort_where}
use Rattle.pv_bool.specs.Roles.{is_kept}
use Rattle.pv_bool.specs.Scans.{Bits, first as first_bit, others as other_bits, begin as begin_bits, state_of, value_in, run_body}
use Rattle.pv_bool.specs.Machine.{bit_of, number_of as number_of_bit, numbers_of}
use Rattle.pv_mean.specs.declared.cell.Cell.{Cell}
use Rattle.pv_mean.specs.Frames.{Frame, first, others, left_by, begin_by, begin, image_after, visible_cells, type_of_visible}
use Rattle.pv_mean.specs.Sources.{Source}
use Rattle.pv_mean.specs.Endings.{Tried, got, and_then, normal, go_on, when_got}
use Rattle.pv_mean.specs.Spots.{Spot, visible, read_spot, write_spot}
use Rattle.pv_mean.specs.Activations.{scope_in}
use Rattle.pv_mean.specs.Values.{binary_result, unary_result, result_type, literal_or, value}
use Rattle.pv_mean.specs.Statements.{Calls, store, run_stmts}
use Rattle.pv_mean.specs.Scans.{entry_activation}
use Rattle.pv_bool_form.specs.FirstForm.{IsTruth, IsFirstExpr, AreFirstStmts, IsFirstForm}
use Rattle.pv_bool_form.specs.Programs.{number_of, term_by, assignments_by, bit_role, bit_of_cell}
use Rattle.pv_bool_form.proofs.Bits.{first-numbers_of, others-numbers_of}
use Rattle.pv_bool_form.proofs.Cells.{IsFirstCell, by_role}
use Rattle.pv_bool_form.proofs.WordCells.{located, word_sort}

-- ---- a scan's beginning and what it leaves

abbrev BeginStep : Cell → List Cell → Bits → Bits → Role → Type 0
BeginStep c cs s i r = begin_by r (λ im inp. begin cs im inp) (numbers_of s) (numbers_of i)
    ≡ numbers_of (begin_bits (record { role = bit_role r; start = bit_of c.start } ∷ map bit_of_cell cs) s i)

pub begin-bits : (cs : List Cell) (s i : Bits) → AllByRecursion IsFirstCell cs
    → begin cs (numbers_of s) (numbers_of i) ≡ numbers_of (begin_bits (map bit_of_cell cs) s i)
begin-bits [] s i all = refl
begin-bits (c ∷ cs) s i all = by_role (BeginStep c cs s i) c all.0
    (taken i _ _ (ap (λ j. begin cs (numbers_of s) j) (others-numbers_of i) ∙ begin-bits cs s (other_bits i) all.1))
    (taken s _ _ (ap (λ t. begin cs t (numbers_of i)) (others-numbers_of s) ∙ begin-bits cs (other_bits s) i all.1))
  where
    taken : (bs : Bits) (vs : List ℤ) (ws : Bits) → vs ≡ numbers_of ws → first (numbers_of bs) ∷ vs ≡ numbers_of (first_bit bs ∷ ws)
    taken bs vs ws same = ap (λ v. v ∷ vs) (first-numbers_of bs) ∙ ap (λ l. number_of_bit (first_bit bs) ∷ l) same

-- the image that a scan leaves is the program's state
pub image_after-bits : (cs : List Cell) (beginning : List ℤ) (f : Bits) → AllByRecursion IsFirstCell cs
    → image_after cs beginning (numbers_of f) ≡ numbers_of (state_of (map bit_of_cell cs) f)
image_after-bits [] beginning f all = refl
image_after-bits (c ∷ cs) beginning f all =
    let rest = ap (λ g. image_after cs (others beginning) g) (others-numbers_of f) ∙ image_after-bits cs (others beginning) (other_bits f) all.1 in
    let P : Role → Type 0 = λ r. left_by r (λ b e. image_after cs b e) beginning (numbers_of f)
    ≡ numbers_of (cond (is_kept (bit_role r)) (first_bit f ∷ state_of (map bit_of_cell cs) (other_bits f))
    (state_of (map bit_of_cell cs) (other_bits f))) in
    by_role P c all.0 rest (ap (λ v. v ∷ image_after cs (others beginning) (others (numbers_of f))) (first-numbers_of f)
    ∙ ap (λ l. number_of_bit (first_bit f) ∷ l) rest)

-- ---- types

abbrev IsBoolSort : Sort → Type 0
IsBoolSort s = (s ≡ one BoolType) ⊎ ((v : ℤ) × (s ≡ typed BoolType v))

by_sort : (P : Sort → Type 0) (s : Sort) → IsBoolSort s → P (one BoolType) → ((v : ℤ) → P (typed BoolType v)) → P s
by_sort P s is a b = elim is [ inl e ↦ subst P (sym e) a | inr e ↦ subst P (sym e.1) (b e.0) ]

not_sort : (s : Sort) → IsBoolSort s → one_of (option_and_then (result_of_unary Not) (common_type (taken nothing s ∷ []))) ≡ one BoolType
not_sort s is = by_sort (λ q. one_of (option_and_then (result_of_unary Not) (common_type (taken nothing q ∷ []))) ≡ one BoolType) s is refl (λ v. refl)

two_sort : (op : BinaryOp) (s t : Sort) → (op ≡ And) ⊎ (op ≡ Or) → IsBoolSort s → IsBoolSort t
    → one_of (option_and_then (result_of_binary op) (common_type (beside (s ∷ t ∷ [])))) ≡ one BoolType
two_sort op s t is is_s is_t =
    let P : BinaryOp → Sort → Sort → Type 0 = λ o p q. one_of (option_and_then (result_of_binary o) (common_type (beside (p ∷ q ∷ [])))) ≡ one BoolType in
    let both : (o : BinaryOp) → P o (one BoolType) (one BoolType) → ((v : ℤ) → P o (one BoolType) (typed BoolType v))
    → ((v : ℤ) → P o (typed BoolType v) (one BoolType)) → ((v w : ℤ) → P o (typed BoolType v) (typed BoolType w)) → P o s t
    = λ o a b c d. by_sort (λ p. P o p t) s is_s (by_sort (λ q. P o (one BoolType) q) t is_t a b)
    (λ v. by_sort (λ q. P o (typed BoolType v) q) t is_t (c v) (d v)) in
    let R : BinaryOp → Type 0 = λ o. P o s t in
    elim is [
      | inl e ↦ subst R (sym e) (both And refl (λ v. refl) (λ v. refl) (λ v w. refl))
      | inr e ↦ subst R (sym e) (both Or refl (λ v. refl) (λ v. refl) (λ v w. refl))
    ]

not_signed : (w : Option Written) → signed Not w ≡ None
not_signed None = refl
not_signed (Some w) = refl

abbrev scope_of : Source → Scope
scope_of source = scope_in source (entry_activation source)

unary_by : (source : Source) (op : UnaryOp) (place : Place) (arg : ExprTree) → op ≡ Not → IsBoolSort (sort_of (scope_of source) arg)
    → sort_of (scope_of source) (unary op place arg) ≡ one BoolType
unary_by source op place arg is_not is =
    let P : UnaryOp → Type 0 = λ o. sort_of (scope_of source) (unary o place arg) ≡ one BoolType in
    subst P (sym is_not) (ap (λ w. sort_where w (one_of (option_and_then (result_of_unary Not) (common_type (taken nothing (sort_of (scope_of source) arg) ∷ [])))))
    (not_signed (literal_of arg)) ∙ not_sort _ is)

sort_is_bool : (source : Source) (e : ExprTree) → IsFirstForm source.entry → IsFirstExpr source.entry.vars e → IsBoolSort (sort_of (scope_of source) e)
sort_is_bool source (lit ty v place) form is =
    let P : Option Ty → Type 0 = λ t. IsBoolSort (sort_of_written t v) in subst P (sym is.0) (inr (v, refl))
sort_is_bool source (read o) form is = inl (word_sort source o form is)
sort_is_bool source (unary op place arg) form is = inl (unary_by source op place arg is.0 (sort_is_bool source arg form is.1))
sort_is_bool source (binary op place left right) form is =
    inl (two_sort op _ _ is.0 (sort_is_bool source left form is.1) (sort_is_bool source right form is.2))
sort_is_bool source (std function place args) form is = absurd is
sort_is_bool source (paren place inner) form is = sort_is_bool source inner form is

unary_sort : (source : Source) (op : UnaryOp) (place : Place) (arg : ExprTree) → IsFirstForm source.entry
    → IsFirstExpr source.entry.vars (unary op place arg) → sort_of (scope_of source) (unary op place arg) ≡ one BoolType
unary_sort source op place arg form is = unary_by source op place arg is.0 (sort_is_bool source arg form is.1)

binary_sort : (source : Source) (op : BinaryOp) (place : Place) (left right : ExprTree) → IsFirstForm source.entry
    → IsFirstExpr source.entry.vars (binary op place left right) → sort_of (scope_of source) (binary op place left right) ≡ one BoolType
binary_sort source op place left right form is =
    two_sort op _ _ is.0 (sort_is_bool source left form is.1) (sort_is_bool source right form is.2)

-- ---- expressions

truth-bit : (v : ℤ) → IsTruth v → v ≡ number_of_bit (bit_of v)
truth-bit v is = let P : ℤ → Type 0 = λ w. w ≡ number_of_bit (bit_of w) in
    elim is [ inl e ↦ subst P (sym e) refl | inr e ↦ subst P (sym e) refl ]

not-bit : (b : Bool) → unary_result Not BoolType (number_of_bit b) ≡ number_of_bit (not b)
unfolding wrap_at pattern_at
not-bit true = refl
not-bit false = refl

and-bit : (place : Place) (a b : Bool) → binary_result And BoolType place (number_of_bit a) (number_of_bit b) ≡ got (number_of_bit (a && b))
unfolding wrap_at pattern_at
and-bit place true true = refl
and-bit place true false = refl
and-bit place false true = refl
and-bit place false false = refl

or-bit : (place : Place) (a b : Bool) → binary_result Or BoolType place (number_of_bit a) (number_of_bit b) ≡ got (number_of_bit (a || b))
unfolding wrap_at pattern_at
or-bit place true true = refl
or-bit place true false = refl
or-bit place false true = refl
or-bit place false false = refl

abbrev pub frame_of : Bits → List (Option ℤ) → Frame
frame_of f brief = record { visible = numbers_of f; brief = brief }

abbrev IsBit : Source → Bits → List (Option ℤ) → ExprTree → Type 0
IsBit source f brief e = value source (entry_activation source) (frame_of f brief) e ≡ got (number_of_bit (value_in f (term_by (number_of source) e)))

abbrev typed_as : Source → ExprTree → Ty
typed_as source e = result_type (scope_of source) e

pub value-bits : (source : Source) (f : Bits) (brief : List (Option ℤ)) (e : ExprTree) → IsFirstForm source.entry → IsFirstExpr source.entry.vars e
    → IsBit source f brief e
value-bits source f brief (lit ty v place) form is = ap (λ (w : ℤ). got w) (truth-bit v is.1)
value-bits source f brief (read o) form is =
    ap (λ (x : Tried Spot). and_then x (λ spot. read_spot (frame_of f brief) (place_of_operand o) spot)) (located source (frame_of f brief) o form is)
    ∙ ap (λ (w : ℤ). got w) (get_or-map number_of_bit f (number_of source o) false)
value-bits source f brief (unary op place arg) form is =
    let P : UnaryOp → Type 0 = λ o. IsBit source f brief (unary o place arg) in
    let v = value source (entry_activation source) (frame_of f brief) arg in
    subst P (sym is.0) (ap (λ w. literal_or w (and_then v (λ a. got (unary_result Not (typed_as source (unary Not place arg)) a)))) (not_signed (literal_of arg))
    ∙ ap (λ x. and_then x (λ a. got (unary_result Not (typed_as source (unary Not place arg)) a))) (value-bits source f brief arg form is.1)
    ∙ ap (λ s. got (unary_result Not (unwrap_or (own_type s) Dint) (number_of_bit (value_in f (term_by (number_of source) arg))))) (unary_sort source Not place arg form (refl, is.1))
    ∙ ap (λ (w : ℤ). got w) (not-bit (value_in f (term_by (number_of source) arg))))
value-bits source f brief (binary op place left right) form is =
    let P : BinaryOp → Type 0 = λ o. IsBit source f brief (binary o place left right) in
    let a = value_in f (term_by (number_of source) left) in
    let b = value_in f (term_by (number_of source) right) in
    let act = entry_activation source in
    let lead : (o : BinaryOp) → (o ≡ And) ⊎ (o ≡ Or) → value source act (frame_of f brief) (binary o place left right)
    ≡ binary_result o BoolType place (number_of_bit a) (number_of_bit b) = λ o is_o.
    ap (λ x. and_then x (λ v. and_then (value source act (frame_of f brief) right) (λ w. binary_result o (typed_as source (binary o place left right)) place v w)))
    (value-bits source f brief left form is.1)
    ∙ ap (λ x. and_then x (λ w. binary_result o (typed_as source (binary o place left right)) place (number_of_bit a) w)) (value-bits source f brief right form is.2)
    ∙ ap (λ s. binary_result o (unwrap_or (own_type s) Dint) place (number_of_bit a) (number_of_bit b)) (binary_sort source o place left right form (is_o, is.1, is.2)) in
    elim is.0 [
      | inl e ↦ subst P (sym e) (lead And (inl refl) ∙ and-bit place a b)
      | inr e ↦ subst P (sym e) (lead Or (inr refl) ∙ or-bit place a b)
    ]
value-bits source f brief (std function place args) form is = absurd is
value-bits source f brief (paren place inner) form is = value-bits source f brief inner form is

-- ---- statements

wrap-bit : (ty : Ty) (b : Bool) → wrap_of ty (number_of_bit b) ≡ number_of_bit b
unfolding wrap_at pattern_at
wrap-bit BoolType true = refl
wrap-bit BoolType false = refl
wrap-bit Byte true = refl
wrap-bit Byte false = refl
wrap-bit Word true = refl
wrap-bit Word false = refl
wrap-bit Dword true = refl
wrap-bit Dword false = refl
wrap-bit Int true = refl
wrap-bit Int false = refl
wrap-bit Dint true = refl
wrap-bit Dint false = refl
wrap-bit Time true = refl
wrap-bit Time false = refl

-- a bit is written to a visible cell
written : (source : Source) (f : Bits) (brief : List (Option ℤ)) (n : ℕ) (b : Bool)
    → write_spot source (frame_of f brief) (visible n) (number_of_bit b) ≡ frame_of (set f n b) brief
written source f brief n b =
    ap (λ v. record { visible = set (numbers_of f) n v; brief = brief }) (wrap-bit (type_of_visible (visible_cells source.cells) n) b)
    ∙ ap (λ vs. record { visible = vs; brief = brief }) (sym (map-set number_of_bit f n b))

pub run-bits : (source : Source) (calls : Calls) (ss : StmtTrees) (f : Bits) (brief : List (Option ℤ)) → IsFirstForm source.entry
    → AreFirstStmts source.entry.vars ss
    → run_stmts source calls (entry_activation source) ss (frame_of f brief)
    ≡ normal (frame_of (run_body (assignments_by (number_of source) ss) f) brief)
run-bits source calls no_stmts f brief form are = refl
run-bits source calls (stmts (assign target place e) more) f brief form are =
    let act = entry_activation source in
    let b = value_in f (term_by (number_of source) e) in
    ap (λ x. go_on (when_got x (λ v. store source act target (frame_of f brief) v)) (λ g. run_stmts source calls act more g)) (value-bits source f brief e form are.0.1)
    ∙ ap (λ x. go_on (when_got x (λ spot. normal (write_spot source (frame_of f brief) spot (number_of_bit b)))) (λ g. run_stmts source calls act more g))
    (located source (frame_of f brief) target form are.0.0)
    ∙ ap (λ g. run_stmts source calls act more g) (written source f brief (number_of source target) b)
    ∙ run-bits source calls more (set f (number_of source target) b) brief form are.1
run-bits source calls (stmts (assign_call target place call) more) f brief form are = absurd are.0
run-bits source calls (stmts (if_ conditions other place) more) f brief form are = absurd are.0
run-bits source calls (stmts (case_ selector choices other place) more) f brief form are = absurd are.0
run-bits source calls (stmts (for_ name name_place a b by body place) more) f brief form are = absurd are.0
run-bits source calls (stmts (while_ condition body place) more) f brief form are = absurd are.0
run-bits source calls (stmts (repeat_ body condition place) more) f brief form are = absurd are.0
run-bits source calls (stmts (exit_ place) more) f brief form are = absurd are.0
run-bits source calls (stmts (continue_ place) more) f brief form are = absurd are.0
run-bits source calls (stmts (return_ place) more) f brief form are = absurd are.0
run-bits source calls (stmts (call_ call) more) f brief form are = absurd are.0
run-bits source calls (stmts (empty_ place) more) f brief form are = absurd are.0
