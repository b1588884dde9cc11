-- Cells that an expression doesn't read don't change its value, where its indexes are literals: then an operand names the same
-- spot in every frame.
use Rattle.std.proofs.Common.{◌≡◌, ℕ, zero, suc, ◌+◌, ◌*◌, pos, List, [], ◌∷◌, ◌++◌, Bool, true, false, ◌||◌, ◌&&◌, not, Option, Some, None, IsTrue, is_some, refl, ap, ◌∙◌, subst}
use Rattle.std.specs.Prelude.{◌==◌, flat_map, slice_index_or}
use Rattle.std.specs.List.{list_any}
use Rattle.std.proofs.lemmas.Bool.{eq-eqb, false≢true}
use Rattle.std.proofs.lemmas.Grind.{flat_map-append}
use Rattle.std.proofs.lemmas.List.Folds.{list_any-append}
use Rattle.pv_word.specs.declared.types.Ty.TheVariants.{Byte}
use Rattle.pv_word.specs.Types.{pattern_of, bit_of, wrap_of}
use Rattle.pv_place.specs.declared.place.Place.{Place}
use Rattle.pv_tree.specs.Tree.{ExprTree, lit, read, unary, binary, std, paren, ExprTrees, no_exprs, exprs, OperandTree, operand, StepTree, field, index, StepTrees, no_steps, steps}
use Rattle.pv_tree.specs.Things.{place_of_operand}
use Rattle.pv_tree.specs.Types.{Written, signed, literal_of}
use Rattle.pv_mean.specs.Sources.{Source}
use Rattle.pv_mean.specs.Frames.{Frame}
use Rattle.pv_mean.specs.Endings.{Tried, got, trap, and_then}
use Rattle.pv_mean.specs.Spots.{Spot, visible, brief, bit, bytes, fixed, nowhere, byte_in, number_of_bytes, read_spot}
use Rattle.pv_mean.specs.Activations.{Activation, Begins, scope_in, root_begins, spot_of}
use Rattle.pv_mean.specs.Values.{value, values, locate, behind, step_behind, element_begins, literal_or, unary_result, binary_result, function_result, result_type}
use Rattle.pv_mean.specs.Scans.{Visible, entry_activation, pattern_value}
use Rattle.pv_pattern.specs.Patterns.{Pattern, invariant, forbidden, implication, within, between, reach, is_true_value, is_true_of, implies, was_true, judge, mark}
use Rattle.pv_pattern.specs.Reads.{bare, spot_where, spots_read, spots_of_exprs, spots_of_operand, spots_of_steps, numbers_from, cells_of_spot, cells_read, reads, HasFixedIndexes, HaveFixedIndexes, IsFixedOperand, AreFixedSteps, IsFixedStep, AreFixed, SameWhere}

-- ---- going on

and_then_each : {A B : Type 0} (t : Tried A) (f g : A → Tried B) → ((a : A) → f a ≡ g a) → and_then t f ≡ and_then t g
and_then_each (got a) f g same = same a
and_then_each (trap kind place) f g same = refl

and_then_both : {A B : Type 0} (s t : Tried A) (f g : A → Tried B) → s ≡ t → ((a : A) → f a ≡ g a) → and_then s f ≡ and_then t g
and_then_both s t f g e same = ap (λ u. and_then u f) e ∙ and_then_each t f g same

-- ---- literals have one value

literal_same : (source : Source) (act : Activation) (f g : Frame) (e : ExprTree) → IsTrue (is_some (literal_of e))
    → value source act f e ≡ value source act g e
literal_same source act f g (lit ty v place) h = refl
literal_same source act f g (read o) h = absurd (false≢true h)
literal_same source act f g (unary op place arg) h = signed_same (signed op (literal_of arg)) h
  where
    signed_same : (o : Option Written) → IsTrue (is_some o)
        → literal_or o (and_then (value source act f arg) (λ a. got (unary_result op (result_type (scope_in source act) (unary op place arg)) a)))
        ≡ literal_or o (and_then (value source act g arg) (λ a. got (unary_result op (result_type (scope_in source act) (unary op place arg)) a)))
    signed_same None h = absurd (false≢true h)
    signed_same (Some w) h = refl
literal_same source act f g (binary op place left right) h = absurd (false≢true h)
literal_same source act f g (std function place args) h = absurd (false≢true h)
literal_same source act f g (paren place inner) h = literal_same source act f g inner h

-- ---- an operand names one spot

step_same : (source : Source) (act : Activation) (f g : Frame) (b : Begins) (step : StepTree) → IsFixedStep step
    → step_behind source act f b step ≡ step_behind source act g b step
step_same source act f g b (field name place) h = refl
step_same source act f g b (index e place) h =
    ap (λ t. and_then t (λ i. element_begins source b i place)) (literal_same source act f g e h)

behind_same : (source : Source) (act : Activation) (f g : Frame) (b : Begins) (path : StepTrees) → AreFixedSteps path
    → behind source act f b path ≡ behind source act g b path
behind_same source act f g b no_steps h = refl
behind_same source act f g b (steps step more) h =
    and_then_both (step_behind source act f b step) (step_behind source act g b step) (λ c. behind source act f c more)
    (λ c. behind source act g c more) (step_same source act f g b step h.0) (λ c. behind_same source act f g c more h.1)

pub located_same : (source : Source) (act : Activation) (f g : Frame) (o : OperandTree) → IsFixedOperand o
    → locate source act f o ≡ locate source act g o
located_same source act f g (operand root path place) h =
    ap (λ t. and_then t (λ b. got (spot_of b))) (behind_same source act f g (root_begins source act root) path h)

-- ---- what is read is the same

-- the cells of the list have the same values
abbrev Agree : List ℕ → Visible → Visible → Type 0
Agree cells v w = (n : ℕ) → list_any (λ m. n == m) cells ≡ true → slice_index_or v n (pos 0) ≡ slice_index_or w n (pos 0)

same_number : (n : ℕ) → (n == n) ≡ true
same_number n = eq-eqb n n refl

or_left : (p q : Bool) → p ≡ true → (p || q) ≡ true
or_left true q e = refl
or_left false q e = absurd (false≢true e)

or_right : (p q : Bool) → q ≡ true → (p || q) ≡ true
or_right true q e = refl
or_right false q e = e

agree_left : (xs ys : List ℕ) (v w : Visible) → Agree (xs ++ ys) v w → Agree xs v w
agree_left xs ys v w a n h =
    a n (list_any-append (λ m. n == m) xs ys ∙ or_left (list_any (λ m. n == m) xs) (list_any (λ m. n == m) ys) h)

agree_right : (xs ys : List ℕ) (v w : Visible) → Agree (xs ++ ys) v w → Agree ys v w
agree_right xs ys v w a n h =
    a n (list_any-append (λ m. n == m) xs ys ∙ or_right (list_any (λ m. n == m) xs) (list_any (λ m. n == m) ys) h)

agree_first : (m : ℕ) (more : List ℕ) (v w : Visible) → Agree (m ∷ more) v w → slice_index_or v m (pos 0) ≡ slice_index_or w m (pos 0)
agree_first m more v w a = a m (or_left (m == m) (list_any (λ k. m == k) more) (same_number m))

agree_rest : (m : ℕ) (more : List ℕ) (v w : Visible) → Agree (m ∷ more) v w → Agree more v w
agree_rest m more v w a n h = a n (or_right (n == m) (list_any (λ k. n == k) more) h)

-- of spots, one behind the other
spots_left : (xs ys : List Spot) (v w : Visible) → Agree (flat_map cells_of_spot (xs ++ ys)) v w → Agree (flat_map cells_of_spot xs) v w
spots_left xs ys v w a =
    agree_left (flat_map cells_of_spot xs) (flat_map cells_of_spot ys) v w
    (subst (λ cells. Agree cells v w) (flat_map-append cells_of_spot xs ys) a)

spots_right : (xs ys : List Spot) (v w : Visible) → Agree (flat_map cells_of_spot (xs ++ ys)) v w → Agree (flat_map cells_of_spot ys) v w
spots_right xs ys v w a =
    agree_right (flat_map cells_of_spot xs) (flat_map cells_of_spot ys) v w
    (subst (λ cells. Agree cells v w) (flat_map-append cells_of_spot xs ys) a)

-- the frame in which a pattern's expressions are evaluated
abbrev frame_by : Visible → Frame
frame_by v = record { visible = v; brief = [] }

bytes_same : (v w : Visible) (n count before : ℕ) → Agree (numbers_from n count) v w
    → number_of_bytes (frame_by v) n count before ≡ number_of_bytes (frame_by w) n count before
bytes_same v w n zero before a = refl
bytes_same v w n (suc count) before a =
    ap (λ x. number_of_bytes (frame_by v) (n + 1) count (before * 256 + pattern_of Byte x)) (agree_first n (numbers_from (n + 1) count) v w a)
    ∙ bytes_same v w (n + 1) count (before * 256 + byte_in (frame_by w) n) (agree_rest n (numbers_from (n + 1) count) v w a)

spot_same : (v w : Visible) (place : Place) (spot : Spot) → Agree (cells_of_spot spot) v w
    → read_spot (frame_by v) place spot ≡ read_spot (frame_by w) place spot
spot_same v w place (visible n) a = ap got (agree_first n [] v w a)
spot_same v w place (brief ty n) a = refl
spot_same v w place (bit n b) a = ap (λ x. got (pos (bit_of Byte x b))) (agree_first n [] v w a)
spot_same v w place (bytes ty n count) a = ap (λ x. got (wrap_of ty (pos x))) (bytes_same v w n count 0 a)
spot_same v w place (fixed value) a = refl
spot_same v w place nowhere a = refl

tried_same : (v w : Visible) (place : Place) (t : Tried Spot) → Agree (flat_map cells_of_spot (spot_where t)) v w
    → and_then t (read_spot (frame_by v) place) ≡ and_then t (read_spot (frame_by w) place)
tried_same v w place (got spot) a = spot_same v w place spot (agree_left (cells_of_spot spot) [] v w a)
tried_same v w place (trap kind at) a = refl

operand_same : (source : Source) (v w : Visible) (o : OperandTree) → IsFixedOperand o → Agree (flat_map cells_of_spot (spots_of_operand source o)) v w
    → value source (entry_activation source) (frame_by v) (read o) ≡ value source (entry_activation source) (frame_by w) (read o)
operand_same source v w (operand root path place) h a =
    let act = entry_activation source in
    let o = operand root path place in
    ap (λ t. and_then t (read_spot (frame_by v) (place_of_operand o))) (located_same source act (frame_by v) bare o h)
    ∙ tried_same v w (place_of_operand o) (locate source act bare o)
    (spots_right (spots_of_steps source path) (spot_where (locate source act bare o)) v w a)
    ∙ ap (λ t. and_then t (read_spot (frame_by w) (place_of_operand o))) (located_same source act bare (frame_by w) o h)

-- ---- expressions

mutual
  pub value_same : (source : Source) (v w : Visible) (e : ExprTree) → HasFixedIndexes e → Agree (cells_read source e) v w
      → pattern_value source v e ≡ pattern_value source w e
  value_same source v w (lit own n place) h a = refl
  value_same source v w (read o) h a = operand_same source v w o h a
  value_same source v w (unary op place arg) h a =
      ap (λ t. literal_or (signed op (literal_of arg)) (and_then t
      (λ x. got (unary_result op (result_type (scope_in source (entry_activation source)) (unary op place arg)) x)))) (value_same source v w arg h a)
  value_same source v w (binary op place left right) h a =
      let ty = result_type (scope_in source (entry_activation source)) (binary op place left right) in
      and_then_both (pattern_value source v left) (pattern_value source w left)
      (λ x. and_then (pattern_value source v right) (λ y. binary_result op ty place x y))
      (λ x. and_then (pattern_value source w right) (λ y. binary_result op ty place x y))
      (value_same source v w left h.0 (spots_left (spots_read source left) (spots_read source right) v w a))
      (λ x. ap (λ t. and_then t (λ y. binary_result op ty place x y))
      (value_same source v w right h.1 (spots_right (spots_read source left) (spots_read source right) v w a)))
  value_same source v w (std function place args) h a =
      ap (λ t. and_then t (λ vs. got (function_result function
      (result_type (scope_in source (entry_activation source)) (std function place args)) vs))) (values_same source v w args h a)
  value_same source v w (paren place inner) h a = value_same source v w inner h a

  values_same : (source : Source) (v w : Visible) (args : ExprTrees) → HaveFixedIndexes args
      → Agree (flat_map cells_of_spot (spots_of_exprs source args)) v w
      → values source (entry_activation source) (frame_by v) args ≡ values source (entry_activation source) (frame_by w) args
  values_same source v w no_exprs h a = refl
  values_same source v w (exprs e more) h a =
      let act = entry_activation source in
      and_then_both (pattern_value source v e) (pattern_value source w e)
      (λ x. and_then (values source act (frame_by v) more) (λ xs. got (x ∷ xs)))
      (λ x. and_then (values source act (frame_by w) more) (λ xs. got (x ∷ xs)))
      (value_same source v w e h.0 (spots_left (spots_read source e) (spots_of_exprs source more) v w a))
      (λ x. ap (λ t. and_then t (λ xs. got (x ∷ xs)))
      (values_same source v w more h.1 (spots_right (spots_read source e) (spots_of_exprs source more) v w a)))

-- ---- patterns

truth_same : (source : Source) (v w : Visible) (e : ExprTree) → HasFixedIndexes e → Agree (cells_read source e) v w
    → is_true_of source v e ≡ is_true_of source w e
truth_same source v w e h a = ap is_true_value (value_same source v w e h a)

pub judged_same : (source : Source) (p : Pattern) (prev : Option Bool) (b c : Visible) (d e : Visible) → AreFixed p
    → SameWhere (reads source p) b c → SameWhere (reads source p) d e → judge source p prev b d ≡ judge source p prev c e
judged_same source (invariant x) prev b c d e h s t = truth_same source d e x h (agree_left (cells_read source x) [] d e t)
judged_same source (forbidden x) prev b c d e h s t =
    ap not (truth_same source d e x h (agree_left (cells_read source x) [] d e t))
judged_same source (implication x y) prev b c d e h s t =
    let at_x = truth_same source d e x h.0 (agree_left (cells_read source x) (cells_read source y ++ []) d e t) in
    let at_y = truth_same source d e y h.1 (agree_left (cells_read source y) [] d e (agree_right (cells_read source x) (cells_read source y ++ []) d e t)) in
    ap (λ z. implies z (is_true_of source d y)) at_x ∙ ap (implies (is_true_of source e x)) at_y
judged_same source (within x y) prev b c d e h s t =
    let at_x = truth_same source b c x h.0 (agree_left (cells_read source x) (cells_read source y ++ []) b c s) in
    let at_y = truth_same source d e y h.1 (agree_left (cells_read source y) [] d e (agree_right (cells_read source x) (cells_read source y ++ []) d e t)) in
    ap (λ z. implies z (is_true_of source d y)) at_x ∙ ap (implies (is_true_of source c x)) at_y
judged_same source (between x y z) prev b c d e h s t =
    let behind_x = agree_right (cells_read source x) (cells_read source y ++ (cells_read source z ++ [])) d e t in
    let at_y = truth_same source d e y h.1 (agree_left (cells_read source y) (cells_read source z ++ []) d e behind_x) in
    let at_z = truth_same source d e z h.2
    (agree_left (cells_read source z) [] d e (agree_right (cells_read source y) (cells_read source z ++ []) d e behind_x)) in
    ap (λ u. implies (was_true prev && u) (is_true_of source d z)) at_y ∙ ap (implies (was_true prev && is_true_of source e y)) at_z
judged_same source (reach x) prev b c d e h s t = truth_same source d e x h (agree_left (cells_read source x) [] d e t)

first_read : (source : Source) (x : ExprTree) (more : List ℕ) (d e : Visible) → HasFixedIndexes x → Agree (cells_read source x ++ more) d e
    → is_true_of source d x ≡ is_true_of source e x
first_read source x more d e h t = truth_same source d e x h (agree_left (cells_read source x) more d e t)

pub marked_same : (source : Source) (p : Pattern) (d e : Visible) → AreFixed p → SameWhere (reads source p) d e
    → mark source p d ≡ mark source p e
marked_same source (invariant x) d e h t = first_read source x [] d e h t
marked_same source (forbidden x) d e h t = first_read source x [] d e h t
marked_same source (implication x y) d e h t = first_read source x (cells_read source y ++ []) d e h.0 t
marked_same source (within x y) d e h t = first_read source x (cells_read source y ++ []) d e h.0 t
marked_same source (between x y z) d e h t = first_read source x (cells_read source y ++ (cells_read source z ++ [])) d e h.0 t
marked_same source (reach x) d e h t = first_read source x [] d e h t
