-- Which expressions have terms: those that don't divide, whose functions have their arguments, whose literals 64 bits hold, and each
-- of whose operands names a spot that a term reads; and the projects in which each expression that says something of a scan is so.
use Rattle.std.specs.Prelude.{◌≡◌, ◌⊎◌, ⊤, ℕ, zero, suc, ◌<◌, ◌^◌, FitsSigned, is_some, Some, None, IsTrue, slice_get}
use Rattle.std.specs.Int.{w64}
use Rattle.pv_tree.specs.Tree.{ExprTree, lit, read, unary, binary, std, paren, ExprTrees, no_exprs, exprs, OperandTree, BlockTree}
use Rattle.pv_tree.specs.Types.{signed, literal_of}
use Rattle.pv_tree.specs.Scopes.{ProjectTree}
use Rattle.pv_mean.specs.AreaBytes.{Bytes}
use Rattle.pv_mean.specs.Sources.{Source}
use Rattle.pv_mean.specs.Endings.{got}
use Rattle.pv_mean.specs.Spots.{Spot, visible, brief, bit, bytes, fixed, nowhere}
use Rattle.pv_mean.specs.Values.{locate}
use Rattle.pv_mean.specs.Scans.{entry_activation}
use Rattle.pv_eval.specs.declared.target.Target.{Target}
use Rattle.pv_eval.specs.Means.{activation}
use Rattle.pv_eval.specs.Ready.{Locates}
use Rattle.pv_pattern.specs.Reads.{bare, IsFixedOperand}
use Rattle.pv_resolve.specs.declared.context.Context.{Context}
use Rattle.pv_resolve.specs.Contexts.{IsContext, block_in}
use Rattle.pv_resolve.specs.Functions.{arity}
use Rattle.pv_resolve.specs.Rooms.{FitsWhere, FitsOperand, HasRoom}
use Rattle.pv_laws_room.specs.Reached.{IsRun}
use Rattle.pv_pattern_read.specs.Making.{kept_two}

-- a spot that a term reads
abbrev pub IsReadable : Spot → Type 0
IsReadable (visible n) = n < 2 ^ 32
IsReadable (brief ty n) = ⊥
IsReadable (bit n b) = ⊤
IsReadable (bytes ty n count) = (count ≡ 1) ⊎ ((count ≡ 2) ⊎ (count ≡ 4))
IsReadable (fixed v) = ⊤
IsReadable nowhere = ⊤

-- each index of the operand is a literal, and it names such a spot
pub record ReadsSpot (source : Source) (o : OperandTree) : Type 0 where
  pub fits : FitsOperand o
  pub literal : IsFixedOperand o
  pub spot : Spot
  pub named : locate source (entry_activation source) bare o ≡ got spot
  pub readable : IsReadable spot

abbrev pub args_count : ExprTrees → ℕ
args_count no_exprs = zero
args_count (exprs e more) = suc (args_count more)

abbrev mutual
  pub HasTerm : Source → ExprTree → Type 0
  HasTerm source (lit ty value place) = FitsSigned w64 value
  HasTerm source (read o) = ReadsSpot source o
  HasTerm source (unary op place arg) = FitsWhere (signed op (literal_of arg)) (HasTerm source arg)
  HasTerm source (binary op place left right) =
      IsTrue (is_some (kept_two op)) × (HasTerm source left × HasTerm source right)
  HasTerm source (std function place args) =
      (args_count args ≡ arity function) × HaveTerms source args
  HasTerm source (paren place inner) = HasTerm source inner

  pub HaveTerms : Source → ExprTrees → Type 0
  HaveTerms source no_exprs = ⊤
  HaveTerms source (exprs e more) = HasTerm source e × HaveTerms source more

-- the target is that of an operand that names a spot where no cell has a value
pub record NamesOne (target : Target) : Type 0 where
  pub source : Source
  pub block : BlockTree
  pub operand : OperandTree
  pub is : Locates source block target operand
  pub spot : Spot
  pub named : locate source (activation block 0) bare operand ≡ got spot

-- the context is one of the entered block of a source where the expression has a term
pub record HasTermIn (c : Context) (e : ExprTree) : Type 0 where
  pub source : Source
  pub context : IsContext c source
  pub at : block_in c ≡ source.entry
  pub room : HasRoom source source.entry
  pub has : HasTerm source e

-- a source that is run, entered at a block without a value of its own, as a function has
pub record IsEntered (source : Source) : Type 0 where
  pub run : IsRun source
  pub valueless : source.entry.value ≡ None

-- the project is that of such a source, entered at the block of this number, where these bytes have cells
pub record HasSource (project : ProjectTree) (entry : ℕ) (bytes : Bytes) : Type 0 where
  pub source : Source
  pub same : project ≡ source.project
  pub at : slice_get source.project.blocks entry ≡ Some source.entry
  pub bytes_are : bytes ≡ source.bytes
  pub is : IsEntered source

-- so are the project of tables and the one of sizes, with the entered block itself
pub record IsScoped (project sized : ProjectTree) (block : BlockTree) (bytes : Bytes) : Type 0 where
  pub source : Source
  pub same : project ≡ source.project
  pub sizes : sized ≡ source.project
  pub at : block ≡ source.entry
  pub bytes_are : bytes ≡ source.bytes
  pub is : IsEntered source

-- the context is one of the entered block of such a source
pub record HasEntered (c : Context) : Type 0 where
  pub source : Source
  pub context : IsContext c source
  pub at : block_in c ≡ source.entry
  pub is : IsEntered source
