-- The Boolean program of a source of the first form with a requirement: a bit for each cell, in the cells' order, and the words as
-- numbers of bits.
use Rattle.std.specs.Prelude.{ℕ, List, [], ◌∷◌, ◌++◌, map, false}
use Rattle.pv_place.specs.declared.role.Role.{Role}
use Rattle.pv_place.specs.declared.role.Role.TheVariants.{Input, Param, Kept, Brief}
use Rattle.pv_tree.specs.declared.expr.BinaryOp.{BinaryOp}
use Rattle.pv_tree.specs.declared.expr.BinaryOp.TheVariants.{And, Or}
use Rattle.pv_tree.specs.Tree.{ExprTree, lit, read, unary, binary, std, paren, OperandTree, operand, StmtTree, assign, assign_call, if_, case_, for_, while_, repeat_, exit_, continue_, return_, call_, empty_, StmtTrees, no_stmts, stmts, BodyTree, scl, stl, starts, BlockTree}
use Rattle.pv_tree.specs.Scopes.{ProjectTree}
use Rattle.pv_bool.specs.declared.program.Bit.{Bit}
use Rattle.pv_bool.specs.declared.program.BitRole.{BitRole}
use Rattle.pv_bool.specs.declared.program.BitRole.TheVariants.{Input as InputBit, Kept as KeptBit}
use Rattle.pv_bool.specs.Tree.{TermTree, constant, load, negation, conjunction, disjunction, AssignmentTree, ProgramTree}
use Rattle.pv_bool.specs.Machine.{bit_of}
use Rattle.pv_mean.specs.declared.cell.Cell.{Cell}
use Rattle.pv_mean.specs.Sources.{Source, source_of}
use Rattle.pv_mean.specs.Spots.{Spot, visible, brief, bit, bytes, fixed, nowhere}
use Rattle.pv_mean.specs.Activations.{root_begins, spot_of}
use Rattle.pv_mean.specs.Scans.{entry_activation}
use Rattle.pv_pattern.specs.Patterns.{Pattern, invariant, forbidden, implication, within, between, reach}

-- ---- sources

-- a project that is this block alone, without symbols
abbrev pub alone : BlockTree → ProjectTree
alone block = record { blocks = block ∷ []; symbols = [] }

-- the source of such a project, which patterns of such words are asked of, and of whose cells no case says anything
abbrev pub first_source : BlockTree → List OperandTree → ℕ → Source
first_source block patterns bound =
    source_of (alone block) block patterns (record { params = []; bound = [] }) bound

-- ---- numbers of words

abbrev pub number_at : Spot → ℕ
number_at (visible n) = n
number_at (brief ty n) = 0
number_at (bit n b) = 0
number_at (bytes ty n count) = 0
number_at (fixed v) = 0
number_at nowhere = 0

-- the number of a word's cell in the entered block
abbrev pub number_of : Source → OperandTree → ℕ
number_of source (operand root more place) =
    number_at (spot_of (root_begins source (entry_activation source) root))

-- ---- programs. What isn't of the first form gives what doesn't matter

abbrev pub binary_term : BinaryOp → TermTree → TermTree → TermTree
binary_term And s t = conjunction s t
binary_term Or s t = disjunction s t
binary_term op s t = constant false

-- the term of an expression, by the numbers of its words
abbrev pub term_by : (OperandTree → ℕ) → ExprTree → TermTree
term_by number (lit ty v place) = constant (bit_of v)
term_by number (read o) = load (number o)
term_by number (unary op place arg) = negation (term_by number arg)
term_by number (binary op place left right) =
    binary_term op (term_by number left) (term_by number right)
term_by number (std function place args) = constant false
term_by number (paren place inner) = term_by number inner

abbrev pub assignments_of_stmt : (OperandTree → ℕ) → StmtTree → List AssignmentTree
assignments_of_stmt number (assign target place e) =
    record { target = number target; value = term_by number e } ∷ []
assignments_of_stmt number (assign_call target place call) = []
assignments_of_stmt number (if_ conditions other place) = []
assignments_of_stmt number (case_ selector choices other place) = []
assignments_of_stmt number (for_ name name_place first last by body place) = []
assignments_of_stmt number (while_ condition body place) = []
assignments_of_stmt number (repeat_ body condition place) = []
assignments_of_stmt number (exit_ place) = []
assignments_of_stmt number (continue_ place) = []
assignments_of_stmt number (return_ place) = []
assignments_of_stmt number (call_ call) = []
assignments_of_stmt number (empty_ place) = []

abbrev pub assignments_by : (OperandTree → ℕ) → StmtTrees → List AssignmentTree
assignments_by number no_stmts = []
assignments_by number (stmts s more) = assignments_of_stmt number s ++ assignments_by number more

abbrev pub assignments_of : (OperandTree → ℕ) → BodyTree → List AssignmentTree
assignments_of number (scl statements) = assignments_by number statements
assignments_of number (stl instructions) = []
assignments_of number (starts values) = []

-- the role of a cell's bit: cells of the first form are inputs or kept
abbrev pub bit_role : Role → BitRole
bit_role Input = InputBit
bit_role Param = KeptBit
bit_role Kept = KeptBit
bit_role Brief = KeptBit

-- the bit of a cell of BOOL
abbrev pub bit_of_cell : Cell → Bit
bit_of_cell c = record { role = bit_role c.role; start = bit_of c.start }

-- the program of the source with this requirement
abbrev pub program_of : Source → ExprTree → ProgramTree
program_of source a = record {
  bits = map bit_of_cell source.cells;
  body = assignments_of (number_of source) source.entry.body;
  holds = term_by (number_of source) a;
}

-- ---- programs of patterns

-- the term that is to hold at each end. Of a goal it is that the goal isn't reached, so that what doesn't hold there is what fails
abbrev pub pattern_term : (OperandTree → ℕ) → Pattern → TermTree
pattern_term number (invariant a) = term_by number a
pattern_term number (forbidden a) = negation (term_by number a)
pattern_term number (implication a b) =
    disjunction (negation (term_by number a)) (term_by number b)
pattern_term number (within a b) = constant false
pattern_term number (between a b c) = constant false
pattern_term number (reach a) = negation (term_by number a)

-- the program of the source with this pattern; with an invariant it is that with the invariant's expression
abbrev pub pattern_program : Source → Pattern → ProgramTree
pattern_program source p = record {
  bits = map bit_of_cell source.cells;
  body = assignments_of (number_of source) source.entry.body;
  holds = pattern_term (number_of source) p;
}
