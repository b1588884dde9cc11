-- Single statements, spots and calls: what one step does.
use Rattle.std.proofs.Common.{◌≡◌, ◌≢◌, ◌⊎◌, inl, inr, ◌<◌, ◌≤◌, ℕ, zero, suc, ◌+◌, ◌/◌, ◌%◌, ◌^◌, ℤ, pos, ◌+ℤ◌, List, length, Bool, true, false, Option, Some, None, refl, ap, sym, ◌∙◌, arith}
use Rattle.std.proofs.lemmas.List.{get_or-set_same, get_or-set_other}
use Rattle.std.proofs.lemmas.Bool.{false≢true}
use Rattle.pv_word.specs.declared.types.Ty.{Ty}
use Rattle.pv_word.specs.Types.{wrap_of, pattern_of}
use Rattle.pv_place.specs.declared.place.Place.{Place}
use Rattle.pv_tree.specs.Tree.{ExprTree, InstrTree, if_, while_, StmtTrees, arms, no_arms, else_}
use Rattle.pv_mean.specs.Sources.{Source}
use Rattle.pv_mean.specs.Frames.{Frame, visible_cells, type_of_visible, visible_value, with_visible}
use Rattle.pv_mean.specs.Endings.{got, Value, Ending, normal, by_over, when_got}
use Rattle.pv_mean.specs.Spots.{Spot, visible, brief, bit, bytes, fixed, nowhere, with_bytes, told, read_spot, write_spot}
use Rattle.pv_mean.specs.Activations.{Activation}
use Rattle.pv_mean.specs.Values.{is_true, value}
use Rattle.pv_mean.specs.Statements.{Calls, after_turn, while_turns, Counting, is_on_the_way, for_turns, run_stmt, run_stmts}
use Rattle.pv_mean.specs.InstructionRuns.{run_stl}
use Rattle.pv_mean.specs.Doings.{EachInList, EachInstruction, HoldsAt, HoldsOf}
use Rattle.pv_mean.specs.Correct.{Misses, IsApart, CallLeaves, Takes, behind_turns, LeavesVariable}
use Rattle.pv_mean.proofs.Holding.{Writes, CallKeeps, holds-stmts}
use Rattle.pv_mean.proofs.Passing.{passed}
use Rattle.pv_mean.proofs.Instructing.{holds-stl, passed-instructions}

-- ---- IF and loops

either-true : {A : Type 0} (b : Bool) (x y : A) → b ≡ true → (elim b [
  | true ↦ x
  | false ↦ y
]) ≡ x
either-true true x y is = refl
either-true false x y is = absurd (false≢true is)

either-false : {A : Type 0} (b : Bool) (x y : A) → b ≡ false → (elim b [
  | true ↦ x
  | false ↦ y
]) ≡ y
either-false true x y is = absurd (false≢true (sym is))
either-false false x y is = refl

pub if-true : (source : Source) (calls : Calls) (act : Activation) (frame : Frame) (c : ExprTree) (s t : StmtTrees) (place : Place) (v : ℤ)
    → value source act frame c ≡ got v → is_true v ≡ true
    → run_stmt source calls act (if_ (arms c s no_arms) (else_ t) place) frame ≡ run_stmts source calls act s frame
if-true source calls act frame c s t place v is true_is =
    ap (λ (x : Value). when_got x (λ w. elim (is_true w) [
      | true ↦ run_stmts source calls act s frame
      | false ↦ run_stmts source calls act t frame
    ])) is
    ∙ either-true (is_true v) (run_stmts source calls act s frame) (run_stmts source calls act t frame) true_is

pub if-false : (source : Source) (calls : Calls) (act : Activation) (frame : Frame) (c : ExprTree) (s t : StmtTrees) (place : Place) (v : ℤ)
    → value source act frame c ≡ got v → is_true v ≡ false
    → run_stmt source calls act (if_ (arms c s no_arms) (else_ t) place) frame ≡ run_stmts source calls act t frame
if-false source calls act frame c s t place v is false_is =
    ap (λ (x : Value). when_got x (λ w. elim (is_true w) [
      | true ↦ run_stmts source calls act s frame
      | false ↦ run_stmts source calls act t frame
    ])) is
    ∙ either-false (is_true v) (run_stmts source calls act s frame) (run_stmts source calls act t frame) false_is

while-turns-none : (condition : Frame → Value) (body : Frame → Ending) (place : Place) (n : ℕ) (frame : Frame) (v : ℤ)
    → condition frame ≡ got v → is_true v ≡ false → while_turns condition body place n frame ≡ normal frame
while-turns-none condition body place zero frame v is false_is =
    ap (λ (x : Value). when_got x (λ w. elim (is_true w) [
      | true ↦ by_over place
      | false ↦ normal frame
    ])) is
    ∙ either-false (is_true v) (by_over place) (normal frame) false_is
while-turns-none condition body place (suc n) frame v is false_is =
    ap (λ (x : Value). when_got x (λ w. elim (is_true w) [
      | true ↦ after_turn (body frame) (λ f. while_turns condition body place n f)
      | false ↦ normal frame
    ])) is
    ∙ either-false (is_true v) (after_turn (body frame) (λ f. while_turns condition body place n f)) (normal frame) false_is

pub while-none : (source : Source) (calls : Calls) (act : Activation) (frame : Frame) (c : ExprTree) (s : StmtTrees) (place : Place) (v : ℤ)
    → value source act frame c ≡ got v → is_true v ≡ false → run_stmt source calls act (while_ c s place) frame ≡ normal frame
while-none source calls act frame c s place v is false_is =
    while-turns-none (λ f. value source act f c) (λ f. run_stmts source calls act s f) place source.bound frame v is false_is

pub for-none : (source : Source) (loop : Counting) (body : Frame → Ending) (n : ℕ) (count : ℤ) (frame : Frame)
    → is_on_the_way loop.by count loop.last ≡ false → for_turns source loop body n count frame ≡ normal frame
for-none source loop body zero count frame past =
    either-false (is_on_the_way loop.by count loop.last) (by_over loop.place) (normal frame) past
for-none source loop body (suc n) count frame past = either-false (is_on_the_way loop.by count loop.last) _ (normal frame) past

-- one turn of a body that ends normally and leaves the variable
for-one : (source : Source) (loop : Counting) (body : Frame → Ending) (turn : Frame → Frame) (Fits : Frame → Bool) (Counts : ℤ → Bool)
    → LeavesVariable source loop Fits Counts body turn → (n : ℕ) (count : ℤ) (frame : Frame) → Fits frame ≡ true → is_on_the_way loop.by count loop.last ≡ true
    → read_spot frame loop.variable_place loop.variable ≡ got count
    → for_turns source loop body (suc n) count frame
    ≡ for_turns source loop body n (count +ℤ loop.by) (write_spot source (turn frame) loop.variable (count +ℤ loop.by))
for-one source loop body turn Fits Counts kept n count frame fits on is =
    either-true (is_on_the_way loop.by count loop.last) _ (normal frame) on
    ∙ (ap (λ (e : Ending). after_turn e (λ f. when_got (read_spot f loop.variable_place loop.variable)
    (λ v. for_turns source loop body n (v +ℤ loop.by) (write_spot source f loop.variable (v +ℤ loop.by))))) (kept.ends frame fits)
    ∙ ap (λ (x : Value). when_got x (λ v. for_turns source loop body n (v +ℤ loop.by)
    (write_spot source (turn frame) loop.variable (v +ℤ loop.by)))) (kept.leaves frame count fits is))

-- exactly the turns that the counts give, within the bound. What comes behind one turn holds the next count, if there is one
pub for-turns : (source : Source) (loop : Counting) (body : Frame → Ending) (turn : Frame → Frame) (Fits : Frame → Bool) (Counts : ℤ → Bool)
    → LeavesVariable source loop Fits Counts body turn
    → (turns bound : ℕ) (count : ℤ) (frame : Frame) → Fits frame ≡ true → Counts count ≡ true → Takes loop count turns → turns ≤ bound
    → (turns ≢ 0 → read_spot frame loop.variable_place loop.variable ≡ got count)
    → for_turns source loop body bound count frame ≡ normal (behind_turns source loop turn count turns frame)
for-turns source loop body turn Fits Counts kept zero bound count frame fits counts takes le is = for-none source loop body bound count frame takes
for-turns source loop body turn Fits Counts kept (suc n) zero count frame fits counts takes le is = absurd (omega arith)
for-turns source loop body turn Fits Counts kept (suc zero) (suc b) count frame fits counts takes le is =
    for-one source loop body turn Fits Counts kept b count frame fits takes.0 (is (omega arith))
    ∙ for-none source loop body b (count +ℤ loop.by) (write_spot source (turn frame) loop.variable (count +ℤ loop.by)) takes.1
for-turns source loop body turn Fits Counts kept (suc (suc n)) (suc b) count frame fits counts takes le is =
    let next = kept.follows count counts takes.1.0 in
    let behind = kept.keeps frame fits in
    for-one source loop body turn Fits Counts kept b count frame fits takes.0 (is (omega arith))
    ∙ for-turns source loop body turn Fits Counts kept (suc n) b (count +ℤ loop.by) (write_spot source (turn frame) loop.variable (count +ℤ loop.by))
    (kept.writes (turn frame) (count +ℤ loop.by) behind) next takes.1 (omega arith)
    (λ some. kept.holds (turn frame) (count +ℤ loop.by) behind next)

-- and over, where the bound is smaller
pub for-over : (source : Source) (loop : Counting) (body : Frame → Ending) (turn : Frame → Frame) (Fits : Frame → Bool) (Counts : ℤ → Bool)
    → LeavesVariable source loop Fits Counts body turn
    → (turns bound : ℕ) (count : ℤ) (frame : Frame) → Fits frame ≡ true → Counts count ≡ true → Takes loop count turns → bound < turns
    → (turns ≢ 0 → read_spot frame loop.variable_place loop.variable ≡ got count)
    → for_turns source loop body bound count frame ≡ by_over loop.place
for-over source loop body turn Fits Counts kept zero bound count frame fits counts takes lt is = absurd (omega arith)
for-over source loop body turn Fits Counts kept (suc n) zero count frame fits counts takes lt is =
    either-true (is_on_the_way loop.by count loop.last) (by_over loop.place) (normal frame) takes.0
for-over source loop body turn Fits Counts kept (suc zero) (suc b) count frame fits counts takes lt is = absurd (omega arith)
for-over source loop body turn Fits Counts kept (suc (suc n)) (suc b) count frame fits counts takes lt is =
    let next = kept.follows count counts takes.1.0 in
    let behind = kept.keeps frame fits in
    for-one source loop body turn Fits Counts kept b count frame fits takes.0 (is (omega arith))
    ∙ for-over source loop body turn Fits Counts kept (suc n) b (count +ℤ loop.by) (write_spot source (turn frame) loop.variable (count +ℤ loop.by))
    (kept.writes (turn frame) (count +ℤ loop.by) behind) next takes.1 (omega arith)
    (λ some. kept.holds (turn frame) (count +ℤ loop.by) behind next)

-- ---- spots

pub read-written : (source : Source) (frame : Frame) (n : ℕ) (v : ℤ) (place : Place) → n < length frame.visible
    → read_spot (write_spot source frame (visible n) v) place (visible n)
    ≡ got (wrap_of (type_of_visible (visible_cells source.cells) n) v)
read-written source frame n v place within = ap got (get_or-set_same frame.visible n _ (pos 0) within)

pub read-written_brief : (source : Source) (frame : Frame) (ty : Ty) (n : ℕ) (v : ℤ) (place : Place) → n < length frame.brief
    → read_spot (write_spot source frame (brief ty n) v) place (brief ty n) ≡ got (wrap_of ty v)
read-written_brief source frame ty n v place within =
    ap (λ (o : Option ℤ). told o place) (get_or-set_same frame.brief n (Some (wrap_of ty v)) None within)

pub bytes-miss : (source : Source) (n : ℕ) (count m number : ℕ) (frame : Frame) → (n < m) ⊎ (m + count ≤ n)
    → visible_value (with_bytes source frame m count number) n ≡ visible_value frame n
bytes-miss source n zero m number frame apart = refl
bytes-miss source n (suc count) m number frame apart =
    bytes-miss source n count (m + 1) number (with_visible source frame m (pos (number / 256 ^ count % 256))) (further apart)
    ∙ get_or-set_other frame.visible m n _ (pos 0) (differ apart)
  where
    further : (n < m) ⊎ (m + suc count ≤ n) → (n < m + 1) ⊎ (m + 1 + count ≤ n)
    further (inl lt) = inl (omega arith)
    further (inr le) = inr (omega arith)

    differ : (n < m) ⊎ (m + suc count ≤ n) → n ≢ m
    differ (inl lt) e = absurd (omega arith)
    differ (inr le) e = absurd (omega arith)

pub write-misses : (source : Source) (n : ℕ) (spot : Spot) (frame : Frame) (v : ℤ) → Misses n spot
    → visible_value (write_spot source frame spot v) n ≡ visible_value frame n
write-misses source n (visible m) frame v apart = get_or-set_other frame.visible m n _ (pos 0) apart
write-misses source n (brief ty m) frame v apart = refl
write-misses source n (bit m b) frame v apart = get_or-set_other frame.visible m n _ (pos 0) apart
write-misses source n (bytes ty m count) frame v apart = bytes-miss source n count m (pattern_of ty v) frame apart
write-misses source n (fixed w) frame v apart = refl
write-misses source n nowhere frame v apart = refl

-- a cell that each target misses and each call leaves keeps its value
pub untouched : (source : Source) (calls : Calls) (act : Activation) (n : ℕ) (ss : StmtTrees) (frame : Frame) (v : ℤ)
    → EachInList (IsApart source act n) (CallLeaves calls act n) ss → visible_value frame n ≡ v
    → HoldsAt (λ f. visible_value f n ≡ v) (run_stmts source calls act ss frame)
untouched source calls act n ss frame v each is =
    holds-stmts (λ f. visible_value f n ≡ v) source calls act ss
    (passed (IsApart source act n) (Writes (λ f. visible_value f n ≡ v) source act)
    (λ o apart f spot g w at p. write-misses source n spot f w (apart g spot at) ∙ p)
    (CallLeaves calls act n) (CallKeeps (λ f. visible_value f n ≡ v) calls act) (λ c leaves f p. leaves f v p) ss each) frame is

pub untouched-stl : (source : Source) (calls : Calls) (act : Activation) (n : ℕ) (is : List InstrTree) (frame : Frame) (v : ℤ)
    → EachInstruction (IsApart source act n) (CallLeaves calls act n) is → visible_value frame n ≡ v
    → HoldsOf (λ f. visible_value f n ≡ v) (run_stl source calls act is frame)
untouched-stl source calls act n is frame v each has =
    holds-stl (λ f. visible_value f n ≡ v) source calls act is
    (passed-instructions (IsApart source act n) (Writes (λ f. visible_value f n ≡ v) source act)
    (λ o apart f spot g w at p. write-misses source n spot f w (apart g spot at) ∙ p)
    (CallLeaves calls act n) (CallKeeps (λ f. visible_value f n ≡ v) calls act) (λ c leaves f p. leaves f v p) is each) frame has
