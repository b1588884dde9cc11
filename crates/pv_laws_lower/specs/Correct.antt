-- What is so of expressions and operands as terms: the statements of the laws.
use Rattle.std.specs.Prelude.{◌≡◌, ◌≢◌, ℕ, ℤ, List, length, true, if◌then◌else◌, Some, None, Contains}
use Rattle.std.specs.List.{AllByRecursion}
use Rattle.pv_word.specs.declared.types.Ty.{Ty}
use Rattle.pv_word.specs.declared.types.Ty.TheVariants.{Bool}
use Rattle.pv_word.specs.Types.{InRange}
use Rattle.pv_place.specs.declared.place.Place.{Place}
use Rattle.pv_tree.specs.Tree.{ExprTree, OperandTree, InstrTree, StmtTrees, BlockTree}
use Rattle.pv_tree.specs.Callees.{CallSite}
use Rattle.pv_tree.specs.LiteralTypes.{Want, nothing, this}
use Rattle.pv_tree.specs.Sorts.{own_type, widens}
use Rattle.pv_tree.specs.Types.{sort_of_operand}
use Rattle.pv_tree.specs.Parts.{Part, parts_of, reads_of_parts, parts_of_block, operands_of}
use Rattle.pv_tree.specs.Rules.{KeepsRules, Rule, BreaksInPattern}
use Rattle.pv_mean.specs.AreaBytes.{bytes_of}
use Rattle.pv_mean.specs.Sources.{Source}
use Rattle.pv_mean.specs.Frames.{Frame, brief_value}
use Rattle.pv_mean.specs.Endings.{got}
use Rattle.pv_mean.specs.Spots.{Spot, read_spot, write_spot}
use Rattle.pv_mean.specs.Activations.{Activation}
use Rattle.pv_mean.specs.Values.{value, locate}
use Rattle.pv_mean.specs.Statements.{run_stmts}
use Rattle.pv_mean.specs.InstructionRuns.{run_stl}
use Rattle.pv_mean.specs.Calls.{calls_within}
use Rattle.pv_mean.specs.Doings.{HoldsAt, HoldsOf}
use Rattle.pv_mean.specs.Scans.{entry_activation}
use Rattle.pv_sizes.specs.Checks.{checks_of, checks_of_target}
use Rattle.pv_flow.specs.Terms.{Term, Valuation, value_of, holds_in}
use Rattle.pv_flow.specs.Automata.{Set}
use Rattle.pv_flow.specs.Calls.{set_through}
use Rattle.pv_access.specs.Accesses.{Writing, assigning, choosing, write_sets}
use Rattle.pv_access.specs.Correct.{through}
use Rattle.pv_lower.specs.Storages.{Access, storage_at}
use Rattle.pv_lower.specs.Lowered.{scope_of, lowered, lowered_as, accessed, read_at}
use Rattle.pv_laws_lower.specs.Fit.{IsWide, IsAddressed, IsLaidOut, ArePartsFit, IsFit, IsFitOperand}
use Rattle.pv_laws_lower.specs.Agrees.{LieAt, Agrees, HasBriefCells, AtWork, outcome, spot_found}

-- the entered block's variables lie at their own places
abbrev pub EntryLies : Type 0
EntryLies = (source : Source) → IsLaidOut source source.entry → LieAt source (entry_activation source) (λ x. x)

-- Values: an expression traps exactly where its first check that is true is that trap, and else has its term's value
abbrev pub ValuesHold : Type 0
ValuesHold = (source : Source) (act : Activation) (place : ℕ → ℕ) (frame : Frame) (w : Valuation) (want : Want) (e : ExprTree) (ty : Ty)
    → AtWork source act place frame w → IsFit source act.block want e ty
    → value source act frame e ≡ outcome (through place w) (lowered source act.block want e)

-- and so it is of its value as one of a type to which its own widens
abbrev pub AssignedHold : Type 0
AssignedHold = (source : Source) (act : Activation) (place : ℕ → ℕ) (frame : Frame) (w : Valuation) (e : ExprTree) (own ty : Ty)
    → AtWork source act place frame w → IsFit source act.block (this ty) e own → widens own ty ≡ true
    → value source act frame e ≡ outcome (through place w) (lowered_as source act.block ty e)

-- Locates: the same of the spot that an operand names
abbrev pub PlacesHold : Type 0
PlacesHold = (source : Source) (act : Activation) (place : ℕ → ℕ) (frame : Frame) (w : Valuation) (o : OperandTree) (ty : Ty)
    → AtWork source act place frame w → IsFitOperand source act.block o ty
    → locate source act frame o ≡ spot_found (through place w) act.first (accessed source act.block o)

-- what an operand names, where its checks have passed
abbrev pub access_of : Source → BlockTree → OperandTree → Access
access_of source block o = (accessed source block o).access

-- Reads: reading the spot that an operand names traps exactly where its last check is true, and else gives its term's value
abbrev pub SpotsAreRead : Type 0
SpotsAreRead = (source : Source) (act : Activation) (place : ℕ → ℕ) (frame : Frame) (w : Valuation) (o : OperandTree) (ty : Ty) (spot : Spot)
    (at : Place)
    → AtWork source act place frame w → IsFitOperand source act.block o ty → locate source act frame o ≡ got spot
    → read_spot frame at spot ≡ outcome (through place w) (read_at source act.block ty (access_of source act.block o) at)

-- what a write to it sets
abbrev pub sets_of : Source → BlockTree → OperandTree → Writing → List Set
sets_of source block o writing =
    write_sets (storage_at source block (access_of source block o).origin) (access_of source block o).moves writing

-- Writes: setting what an assignment to the operand sets is writing its spot: frame and valuation agree behind it, and the frame has its brief
-- cells still
abbrev pub SpotsAreWritten : Type 0
SpotsAreWritten = (source : Source) (act : Activation) (place : ℕ → ℕ) (frame : Frame) (w : Valuation) (o : OperandTree) (ty : Ty) (spot : Spot)
    (t : Term)
    → AtWork source act place frame w → HasBriefCells source act frame → IsFitOperand source act.block o ty → locate source act frame o ≡ got spot
    → InRange ty (value_of (through place w) t)
    → Agrees source act place (write_spot source frame spot (value_of (through place w) t))
    (set_through place (through place w) (sets_of source act.block o (assigning t)) w)
    × HasBriefCells source act (write_spot source frame spot (value_of (through place w) t))

-- and so it is of a BOOL that is written where a condition is true
abbrev pub SpotsAreWrittenWhere : Type 0
SpotsAreWrittenWhere = (source : Source) (act : Activation) (place : ℕ → ℕ) (frame : Frame) (w : Valuation) (o : OperandTree) (spot : Spot)
    (on t : Term)
    → AtWork source act place frame w → HasBriefCells source act frame → IsFitOperand source act.block o Bool → locate source act frame o ≡ got spot
    → InRange Bool (value_of (through place w) t)
    → Agrees source act place
    (if holds_in (through place w) on then write_spot source frame spot (value_of (through place w) t) else frame)
    (set_through place (through place w) (sets_of source act.block o (choosing on t)) w)
    × HasBriefCells source act (if holds_in (through place w) on then write_spot source frame spot (value_of (through place w) t) else frame)

-- ---- 'set'

-- the brief cell has a value
abbrev pub HasValue : ℕ → Frame → Type 0
HasValue j frame = brief_value frame j ≢ None

-- Set stays: no write takes a brief cell's value away
abbrev pub ValuesStay : Type 0
ValuesStay = (source : Source) (frame : Frame) (spot : Spot) (v : ℤ) (j : ℕ) → HasValue j frame → HasValue j (write_spot source frame spot v)

-- and so it stays along a run: through statements however they end, a block's instructions, and calls
pub record ValuesStayInRuns : Type 0 where
  pub statements : (source : Source) (n : ℕ) (act : Activation) (ss : StmtTrees) (frame : Frame) (j : ℕ) → HasValue j frame
      → HoldsAt (HasValue j) (run_stmts source (calls_within source n) act ss frame)
  pub instructions : (source : Source) (n : ℕ) (act : Activation) (xs : List InstrTree) (frame : Frame) (j : ℕ) → HasValue j frame
      → HoldsOf (HasValue j) (run_stl source (calls_within source n) act xs frame)
  pub calls : (source : Source) (n : ℕ) (act : Activation) (site : CallSite) (frame : Frame) (j : ℕ) → HasValue j frame
      → HoldsOf (λ back. HasValue j back.frame) (calls_within source n act site frame)

-- ---- counts

-- Not fewer: as many checks as the sizes count
pub record ChecksAreCounted : Type 0 where
  pub expr : (source : Source) (block : BlockTree) (want : Want) (e : ExprTree) (ty : Ty) → IsLaidOut source block
      → IsFit source block want e ty
      → length (lowered source block want e).checks ≡ checks_of (scope_of source block) e
  pub target : (source : Source) (block : BlockTree) (o : OperandTree) (ty : Ty) → IsLaidOut source block
      → IsFitOperand source block o ty
      → length (accessed source block o).checks ≡ checks_of_target (scope_of source block) o

-- ---- what callers have

-- where the bytes of all addresses have cells, those of a project that keeps the rules and those of patterns, and each address is as wide
-- as its type: the expressions of a block fit, and its operands' addresses have cells
abbrev pub BlocksAreFit : Type 0
BlocksAreFit = (source : Source) (patterns : List OperandTree) (block : BlockTree)
    → KeepsRules source.project → source.bytes ≡ bytes_of source.project patterns → Contains source.project.blocks block
    → AllByRecursion IsWide (operands_of source.project block)
    → ArePartsFit source (parts_of_block source.project block)
    × AllByRecursion (IsAddressed source.bytes) (operands_of source.project block)

-- and so does a pattern that breaks no rule, whose operands are among those of patterns
abbrev pub PatternsAreFit : Type 0
PatternsAreFit = (source : Source) (patterns : List OperandTree) (block : BlockTree) (e : ExprTree)
    → source.bytes ≡ bytes_of source.project patterns
    → ((rule : Rule) (at : Place) → BreaksInPattern rule (scope_of source block) e at → ⊥)
    → ((o : OperandTree) → Contains (reads_of_parts (parts_of (scope_of source block) nothing e)) o → Contains patterns o)
    → AllByRecursion IsWide (reads_of_parts (parts_of (scope_of source block) nothing e))
    → ArePartsFit source (parts_of (scope_of source block) nothing e)

-- each expression of a block whose parts all fit is such by itself, with a type by what is wanted of it; and so is each operand of the block
-- that has a type
pub record EachIsFit : Type 0 where
  pub part : (source : Source) (block : BlockTree) (p : Part) → KeepsRules source.project → Contains source.project.blocks block
      → ArePartsFit source (parts_of_block source.project block) → Contains (parts_of_block source.project block) p
      → (ty : Ty) × IsFit source block p.want p.expr ty
  pub operand : (source : Source) (block : BlockTree) (o : OperandTree) (ty : Ty) → ArePartsFit source (parts_of_block source.project block)
      → AllByRecursion (IsAddressed source.bytes) (operands_of source.project block) → Contains (operands_of source.project block) o
      → own_type (sort_of_operand (scope_of source block) o) ≡ Some ty → IsFitOperand source block o ty
