-- The laws of the first form: scans are the program's, from its start on.
use Rattle.std.proofs.Common.{◌≡◌, ℕ, List, [], length, map, inl, inr, ℤ, Bool, true, false, not, ◌||◌, Option, Some, None, is_some, refl, ap, sym, subst, ◌∙◌}
use Rattle.std.specs.Prelude.{All}
use Rattle.std.specs.List.{AllByRecursion}
use Rattle.std.proofs.lemmas.List.{length-map}
use Rattle.std.proofs.lemmas.List.Elements.{All-from_recursion}
use Rattle.pv_place.specs.Ranges.{Range, AreWithin}
use Rattle.pv_tree.specs.declared.expr.BinaryOp.{BinaryOp}
use Rattle.pv_tree.specs.Tree.{ExprTree, lit, read, unary, binary, std, paren, OperandTree, assign, assign_call, if_, case_, for_, while_, repeat_, exit_, continue_, return_, call_, empty_, StmtTrees, no_stmts, stmts, BodyTree, scl, stl, starts, BlockTree}
use Rattle.pv_bool.specs.Tree.{IsTermOver, IsAssignmentOver, IsProgram}
use Rattle.pv_bool.specs.Scans.{Bits, begin as begin_bits, start as program_start, run_body as run_bits, value_in}
use Rattle.pv_bool.specs.Machine.{bits_of, numbers_of, number_of as number_of_bit}
use Rattle.pv_mean.specs.declared.cell.Cell.{Cell}
use Rattle.pv_mean.specs.AreaBytes.{Bytes}
use Rattle.pv_mean.specs.Cells.{table_of}
use Rattle.pv_mean.specs.Frames.{Image, Input, Params, Frame, image_ranges, input_ranges, image_len, input_len}
use Rattle.pv_mean.specs.Sources.{Source}
use Rattle.pv_mean.specs.Endings.{Value, Ended, ended, body_end, Ending}
use Rattle.pv_mean.specs.Activations.{unset_brief}
use Rattle.pv_mean.specs.Calls.{run_code, run_body, calls_within}
use Rattle.pv_mean.specs.Statements.{Calls}
use Rattle.pv_mean.specs.Values.{is_true}
use Rattle.pv_mean.specs.Cells.{most_calls}
use Rattle.pv_mean.specs.Scans.{Visible, Scan, entry_activation, entry_frame, visible_end, scan}
use Rattle.pv_mean.specs.Runs.{start}
use Rattle.pv_pattern.specs.Patterns.{Pattern, invariant, forbidden, implication, within, between, reach, is_true_value, is_true_of, judge}
use Rattle.pv_pattern.specs.Failing.{pattern, is_failure, ends_by, ends_as}
use Rattle.pv_bool_form.specs.FirstForm.{IsFirstOperand, IsFirstExpr, IsFirstPattern, AreFirstStmts, IsFirstBody, IsFirstForm}
use Rattle.pv_bool_form.specs.Programs.{alone, first_source, number_of, binary_term, term_by, assignments_by, assignments_of, bit_of_cell, program_of, pattern_term, pattern_program}
use Rattle.pv_bool_form.specs.Correct.{IsScanOfProgram, pattern_end, IsScanOfPattern}
use Rattle.pv_bool_form.proofs.Bits.{numbers_of-within}
use Rattle.pv_bool_form.proofs.Cells.{IsFirstCell, first_cell, cells_are_first, first_vars, table_is_first, first_image_ranges, first_input_ranges, start-bits}
use Rattle.pv_bool_form.proofs.WordCells.{numbers_within}
use Rattle.pv_bool_form.proofs.FirstScans.{frame_of, begin-bits, image_after-bits, value-bits, run-bits}
use Rattle.pv_bool_form.proofs.NoBytes.{bytes_are_none}

-- ---- cells

abbrev pub Words : BlockTree → List OperandTree → Type 0
Words block patterns = All (IsFirstOperand block.vars) patterns

pub cells_are : (block : BlockTree) (patterns : List OperandTree) (bound : ℕ) → IsFirstForm block → Words block patterns
    → (first_source block patterns bound).cells ≡ map first_cell block.vars
cells_are block patterns bound is are =
    ap (λ (bytes : Bytes). table_of (alone block) block bytes) (bytes_are_none block patterns is are) ∙ table_is_first (alone block) block is refl

pub first_cells : (block : BlockTree) (patterns : List OperandTree) (bound : ℕ) → IsFirstForm block → Words block patterns
    → AllByRecursion IsFirstCell (first_source block patterns bound).cells
first_cells block patterns bound is are =
    let P : List Cell → Type 0 = λ cs. AllByRecursion IsFirstCell cs in
    subst P (sym (cells_are block patterns bound is are)) (cells_are_first block.vars (first_vars block is))

-- ---- a scan is the program's

code-bits : (source : Source) (calls : Calls) (body : BodyTree) (f : Bits) (brief : List (Option ℤ)) → IsFirstForm source.entry
    → IsFirstBody source.entry.vars body
    → run_code source calls (entry_activation source) body (frame_of f brief)
    ≡ ended (frame_of (run_bits (assignments_of (number_of source) body) f) brief)
code-bits source calls (scl ss) f brief form is = ap (λ (e : Ending). body_end e) (run-bits source calls ss f brief form is)
code-bits source calls (stl instructions) f brief form is = absurd is
code-bits source calls (starts values) f brief form is = absurd is

-- the bits at the end of a scan
abbrev bits_at_end : Source → Bits → Bits → Bits
bits_at_end source s i = run_bits (assignments_of (number_of source) source.entry.body) (begin_bits (map bit_of_cell source.cells) s i)

scan-bits : (source : Source) (s i : Bits) → IsFirstForm source.entry → AllByRecursion IsFirstCell source.cells
    → (scan source (numbers_of s) (numbers_of i)).end ≡ ended (numbers_of (bits_at_end source s i))
scan-bits source s i form cells =
    ap (λ vs. visible_end (run_body source (calls_within source most_calls) (entry_activation source) (entry_frame source vs))) (begin-bits source.cells s i cells)
    ∙ ap (λ (e : Ended Frame). visible_end e) (code-bits source (calls_within source most_calls) source.entry.body (begin_bits (map bit_of_cell source.cells) s i)
    (unset_brief source source.entry) form form.body)

image-bits : (cs : List Cell) (image : Image) → AllByRecursion IsFirstCell cs → AreWithin (image_ranges cs) image → image ≡ numbers_of (bits_of image)
image-bits cs image cells inside =
    let P : List Range → Type 0 = λ r. AreWithin r image in
    numbers_of-within (image_len cs) image (subst P (first_image_ranges cs cells) inside)

input-bits : (cs : List Cell) (input : Input) → AllByRecursion IsFirstCell cs → AreWithin (input_ranges cs) input → input ≡ numbers_of (bits_of input)
input-bits cs input cells inside =
    let P : List Range → Type 0 = λ r. AreWithin r input in
    numbers_of-within (input_len cs) input (subst P (first_input_ranges cs cells) inside)

scan_ends : (source : Source) (image : Image) (input : Input) → IsFirstForm source.entry → AllByRecursion IsFirstCell source.cells
    → AreWithin (image_ranges source.cells) image → AreWithin (input_ranges source.cells) input
    → (scan source image input).end ≡ ended (numbers_of (bits_at_end source (bits_of image) (bits_of input)))
scan_ends source image input form cells im inp =
    ap (λ m. (scan source m input).end) (image-bits source.cells image cells im)
    ∙ ap (λ i. (scan source (numbers_of (bits_of image)) i).end) (input-bits source.cells input cells inp)
    ∙ scan-bits source (bits_of image) (bits_of input) form cells

scan_is : (source : Source) (a : ExprTree) (image : Image) (input : Input) → IsFirstForm source.entry → AllByRecursion IsFirstCell source.cells
    → IsFirstExpr source.entry.vars a → AreWithin (image_ranges source.cells) image → AreWithin (input_ranges source.cells) input
    → IsScanOfProgram source a image input
scan_is source a image input form cells first im inp = record {
  ends = scan_ends source image input form cells im inp;
  next = image_after-bits source.cells (scan source image input).beginning (bits_at_end source (bits_of image) (bits_of input)) cells;
  holds = value-bits source (bits_at_end source (bits_of image) (bits_of input)) [] a form first;
}

pub scan_is_programs : (block : BlockTree) (patterns : List OperandTree) (bound : ℕ) (a : ExprTree) (image : Image) (input : Input)
    → IsFirstForm block → Words block patterns → IsFirstExpr block.vars a
    → AreWithin (image_ranges (first_source block patterns bound).cells) image → AreWithin (input_ranges (first_source block patterns bound).cells) input
    → IsScanOfProgram (first_source block patterns bound) a image input
scan_is_programs block patterns bound a image input is are first im inp =
    scan_is (first_source block patterns bound) a image input is (first_cells block patterns bound is are) first im inp

pub start_is_programs : (block : BlockTree) (patterns : List OperandTree) (bound : ℕ) (a : ExprTree) (params : Params) → IsFirstForm block → Words block patterns
    → start (first_source block patterns bound) params ≡ numbers_of (program_start (program_of (first_source block patterns bound) a).bits)
start_is_programs block patterns bound a params is are =
    start-bits (first_source block patterns bound).cells params (first_cells block patterns bound is are)

pub pattern_starts : (block : BlockTree) (patterns : List OperandTree) (bound : ℕ) (p : Pattern) (params : Params) → IsFirstForm block → Words block patterns
    → start (first_source block patterns bound) params ≡ numbers_of (program_start (pattern_program (first_source block patterns bound) p).bits)
pattern_starts block patterns bound p params is are =
    start-bits (first_source block patterns bound).cells params (first_cells block patterns bound is are)

-- ---- patterns

true-bit : (b : Bool) → is_true (number_of_bit b) ≡ b
true-bit true = refl
true-bit false = refl

not-not : (b : Bool) → b ≡ not (not b)
not-not true = refl
not-not false = refl

abbrev term_bit : Source → Bits → ExprTree → Bool
term_bit source f e = value_in f (term_by (number_of source) e)

truth-bit : (source : Source) (f : Bits) (e : ExprTree) → IsFirstForm source.entry → IsFirstExpr source.entry.vars e
    → is_true_of source (numbers_of f) e ≡ term_bit source f e
truth-bit source f e form is = ap (λ (w : Value). is_true_value w) (value-bits source f [] e form is) ∙ true-bit (term_bit source f e)

-- a scan that is done fails where the term doesn't hold
failure-bits : (source : Source) (p : Pattern) (prev : Option Bool) (begin : Visible) (f : Bits) → IsFirstForm source.entry
    → IsFirstPattern source.entry.vars p
    → is_failure p (judge source p prev begin (numbers_of f)) ≡ not (value_in f (pattern_term (number_of source) p))
failure-bits source (invariant a) prev begin f form is = ap not (truth-bit source f a form is)
failure-bits source (forbidden a) prev begin f form is = ap (λ b. not (not b)) (truth-bit source f a form is)
failure-bits source (implication a b) prev begin f form is =
    ap (λ x. not (not x || is_true_of source (numbers_of f) b)) (truth-bit source f a form is.0)
    ∙ ap (λ y. not (not (term_bit source f a) || y)) (truth-bit source f b form is.1)
failure-bits source (within a b) prev begin f form is = absurd is
failure-bits source (between a b c) prev begin f form is = absurd is
failure-bits source (reach a) prev begin f form is = truth-bit source f a form is ∙ not-not (term_bit source f a)

some-cause : (b : Bool) → is_some (elim b [ true ↦ Some pattern | false ↦ None ]) ≡ b
some-cause true = refl
some-cause false = refl

fails-bits : (source : Source) (p : Pattern) (prev : Option Bool) (s : Scan) (f : Bits) → IsFirstForm source.entry
    → IsFirstPattern source.entry.vars p → s.end ≡ ended (numbers_of f)
    → is_some (ends_as source p prev s) ≡ not (value_in f (pattern_term (number_of source) p))
fails-bits source p prev s f form is ends =
    ap (λ e. is_some (ends_by source p prev s.beginning e)) ends
    ∙ some-cause (is_failure p (judge source p prev s.beginning (numbers_of f)))
    ∙ failure-bits source p prev s.beginning f form is

pattern_scan_is : (source : Source) (p : Pattern) (image : Image) (input : Input) → IsFirstForm source.entry → AllByRecursion IsFirstCell source.cells
    → IsFirstPattern source.entry.vars p → AreWithin (image_ranges source.cells) image → AreWithin (input_ranges source.cells) input
    → IsScanOfPattern source p image input
pattern_scan_is source p image input form cells first im inp =
    let bits = bits_at_end source (bits_of image) (bits_of input) in
    let ends : (scan source image input).end ≡ ended (pattern_end source p image input) = scan_ends source image input form cells im inp in
    record {
      ends = ends;
      next = image_after-bits source.cells (scan source image input).beginning bits cells;
      fails = λ prev. fails-bits source p prev (scan source image input) bits form first ends;
    }

pub scan_is_patterns : (block : BlockTree) (patterns : List OperandTree) (bound : ℕ) (p : Pattern) (image : Image) (input : Input)
    → IsFirstForm block → Words block patterns → IsFirstPattern block.vars p
    → AreWithin (image_ranges (first_source block patterns bound).cells) image → AreWithin (input_ranges (first_source block patterns bound).cells) input
    → IsScanOfPattern (first_source block patterns bound) p image input
scan_is_patterns block patterns bound p image input is are first im inp =
    pattern_scan_is (first_source block patterns bound) p image input is (first_cells block patterns bound is are) first im inp

-- ---- the program names its own bits

term-over : (source : Source) (e : ExprTree) → IsFirstForm source.entry → IsFirstExpr source.entry.vars e
    → IsTermOver (length source.entry.vars) (term_by (number_of source) e)
term-over source (lit ty v place) form is = tt
term-over source (read o) form is = numbers_within source o form is
term-over source (unary op place arg) form is = term-over source arg form is.1
term-over source (binary op place left right) form is =
    let n = length source.entry.vars in
    let s = term_by (number_of source) left in
    let t = term_by (number_of source) right in
    let P : BinaryOp → Type 0 = λ o. IsTermOver n (binary_term o s t) in
    let two : IsTermOver n s × IsTermOver n t = (term-over source left form is.1, term-over source right form is.2) in
    elim is.0 [ inl e ↦ subst P (sym e) two | inr e ↦ subst P (sym e) two ]
term-over source (std function place args) form is = absurd is
term-over source (paren place inner) form is = term-over source inner form is

stmts-over : (source : Source) (ss : StmtTrees) → IsFirstForm source.entry → AreFirstStmts source.entry.vars ss
    → AllByRecursion (IsAssignmentOver (length source.entry.vars)) (assignments_by (number_of source) ss)
stmts-over source no_stmts form are = tt
stmts-over source (stmts (assign target place e) more) form are =
    (record { target = numbers_within source target form are.0.0; value = term-over source e form are.0.1 }, stmts-over source more form are.1)
stmts-over source (stmts (assign_call target place call) more) form are = absurd are.0
stmts-over source (stmts (if_ conditions other place) more) form are = absurd are.0
stmts-over source (stmts (case_ selector choices other place) more) form are = absurd are.0
stmts-over source (stmts (for_ name name_place a b by body place) more) form are = absurd are.0
stmts-over source (stmts (while_ condition body place) more) form are = absurd are.0
stmts-over source (stmts (repeat_ body condition place) more) form are = absurd are.0
stmts-over source (stmts (exit_ place) more) form are = absurd are.0
stmts-over source (stmts (continue_ place) more) form are = absurd are.0
stmts-over source (stmts (return_ place) more) form are = absurd are.0
stmts-over source (stmts (call_ call) more) form are = absurd are.0
stmts-over source (stmts (empty_ place) more) form are = absurd are.0

body-over : (source : Source) (body : BodyTree) → IsFirstForm source.entry → IsFirstBody source.entry.vars body
    → All (IsAssignmentOver (length source.entry.vars)) (assignments_of (number_of source) body)
body-over source (scl ss) form is = All-from_recursion _ _ (stmts-over source ss form is)
body-over source (stl instructions) form is = absurd is
body-over source (starts values) form is = absurd is

pattern-over : (source : Source) (p : Pattern) → IsFirstForm source.entry → IsFirstPattern source.entry.vars p
    → IsTermOver (length source.entry.vars) (pattern_term (number_of source) p)
pattern-over source (invariant a) form is = term-over source a form is
pattern-over source (forbidden a) form is = term-over source a form is
pattern-over source (implication a b) form is = (term-over source a form is.0, term-over source b form is.1)
pattern-over source (within a b) form is = absurd is
pattern-over source (between a b c) form is = absurd is
pattern-over source (reach a) form is = term-over source a form is

pub patterns_name_bits : (block : BlockTree) (patterns : List OperandTree) (bound : ℕ) (p : Pattern) → IsFirstForm block → Words block patterns
    → IsFirstPattern block.vars p → IsProgram (pattern_program (first_source block patterns bound) p)
patterns_name_bits block patterns bound p is are first =
    let source = first_source block patterns bound in
    let n = length (map bit_of_cell source.cells) in
    let same : length block.vars ≡ n = sym (length-map source.cells bit_of_cell ∙ ap (λ (cs : List Cell). length cs) (cells_are block patterns bound is are)
    ∙ length-map block.vars first_cell) in
    record {
      body = let P : ℕ → Type 0 = λ m. All (IsAssignmentOver m) (assignments_of (number_of source) block.body) in subst P same (body-over source block.body is is.body);
      holds = let P : ℕ → Type 0 = λ m. IsTermOver m (pattern_term (number_of source) p) in subst P same (pattern-over source p is first);
    }

pub names_are_bits : (block : BlockTree) (patterns : List OperandTree) (bound : ℕ) (a : ExprTree) → IsFirstForm block → Words block patterns
    → IsFirstExpr block.vars a → IsProgram (program_of (first_source block patterns bound) a)
names_are_bits block patterns bound a is are first = patterns_name_bits block patterns bound (invariant a) is are first
