-- Of which expressions and names no number is too large: those of a block whose cells are within what a table may have, in a
-- project that keeps the rules, where 64 bits hold each literal.
use Rattle.std.specs.Prelude.{◌≡◌, ⊤, ℕ, ◌+◌, ◌<◌, ◌≤◌, ◌/◌, FitsSigned, List, length, Option, Some, None, Contains, IsFalse}
use Rattle.std.specs.Int.{w64}
use Rattle.std.specs.List.{AllByRecursion}
use Rattle.pv_types.specs.Tree.{TypeTree, plain, array, structure, named, unread}
use Rattle.pv_types.specs.Named.{AllNamed, NestsWithin}
use Rattle.pv_tree.specs.declared.expr.Root.{Root}
use Rattle.pv_tree.specs.declared.expr.Root.TheVariants.{Local, Named, Area}
use Rattle.pv_tree.specs.Tree.{ExprTree, lit, read, unary, binary, std, paren, ExprTrees, no_exprs, exprs, OperandTree, operand, StepTree, field, index, StepTrees, no_steps, steps, BlockTree}
use Rattle.pv_tree.specs.Scopes.{ProjectTree, is_of_instance}
use Rattle.pv_tree.specs.Types.{Written, signed, literal_of}
use Rattle.pv_tree.specs.Interfaces.{types_in}
use Rattle.pv_tree.specs.NamedTypes.{types_of_project}
use Rattle.pv_tree.specs.Rules.{KeepsRules}
use Rattle.pv_tree.specs.Rules.Arrays.{is_wrong_array}
use Rattle.pv_mean.specs.declared.count.TheConstants.{BEYOND}
use Rattle.pv_mean.specs.Layout.{Laid, size_in, size_among, is_brief_in, entry_size, data_size}
use Rattle.pv_mean.specs.Sources.{Source}
use Rattle.pv_mean.specs.Activations.{Begins, in_visible, in_brief, at}
use Rattle.pv_eval.specs.declared.node.Node.{Node}
use Rattle.pv_eval.specs.Order.{most_at}
use Rattle.pv_resolve.specs.declared.walk.Walk.{Walk}
use Rattle.pv_resolve.specs.Begins.{begin_at, HoldsBlock}

-- ---- literals and addresses

-- a bit of a byte, or at most four bytes
pub record IsShort (bits bit : ℕ) : Type 0 where
  pub one : bits ≤ 1 → bit < 8
  pub few : bits / 8 ≤ 4

abbrev pub FitsRoot : Root → Type 0
FitsRoot (Local name hash place) = ⊤
FitsRoot (Named name) = ⊤
FitsRoot (Area area bits byte bit) = IsShort bits bit

-- 64 bits hold the literal where there is one; else the rest is so
abbrev pub FitsWhere : Option Written → Type 0 → Type 0
FitsWhere None rest = rest
FitsWhere (Some w) rest = FitsSigned w64 w.value

-- 64 bits hold each literal, with the signs before it, and each address is one of a bit or of at most four bytes
abbrev mutual
  pub FitsExpr : ExprTree → Type 0
  FitsExpr (lit ty value place) = FitsSigned w64 value
  FitsExpr (read o) = FitsOperand o
  FitsExpr (unary op place arg) = FitsWhere (signed op (literal_of arg)) (FitsExpr arg)
  FitsExpr (binary op place left right) = FitsExpr left × FitsExpr right
  FitsExpr (std function place args) = FitsArgs args
  FitsExpr (paren place inner) = FitsExpr inner

  pub FitsArgs : ExprTrees → Type 0
  FitsArgs no_exprs = ⊤
  FitsArgs (exprs e more) = FitsExpr e × FitsArgs more

  pub FitsOperand : OperandTree → Type 0
  FitsOperand (operand root more place) = FitsRoot root × FitsSteps more

  pub FitsSteps : StepTrees → Type 0
  FitsSteps no_steps = ⊤
  FitsSteps (steps step more) = FitsStep step × FitsSteps more

  pub FitsStep : StepTree → Type 0
  FitsStep (field name place) = ⊤
  FitsStep (index e place) = FitsExpr e

-- ---- blocks

abbrev pub FitsSymbol : OperandTree → Type 0
FitsSymbol (operand root more place) = FitsRoot root

-- a block of a project that keeps the rules: its cells, those of an instance of it and all visible ones are as few as a table may
-- have
pub record HasRoom (source : Source) (block : BlockTree) : Type 0 where
  pub rules : KeepsRules source.project
  pub there : Contains source.project.blocks block
  pub symbols : AllByRecursion (λ s. FitsSymbol s.at) source.project.symbols
  pub visible : entry_size source.project source.entry + data_size source.project source.project.blocks
      + (length source.bytes.inputs + length source.bytes.outputs + length source.bytes.flags) < BEYOND
  pub own : size_among source.project is_of_instance block.vars < BEYOND
  pub brief : size_among source.project (is_brief_in block) block.vars < BEYOND

-- ---- parts

-- the type of this key is laid out in place
abbrev pub IsNested : ProjectTree → List ℕ → Type 0
IsNested project key = NestsWithin (types_of_project project) (length (types_of_project project)) key

-- no array that can't be laid out
abbrev pub IsRight : TypeTree → Type 0
IsRight (plain ty) = ⊤
IsRight (array low high of place) = IsFalse (is_wrong_array low high of)
IsRight (structure vars) = ⊤
IsRight (named name place) = ⊤
IsRight unread = ⊤

-- a type as declarations have it that break no rule
pub record IsSound (project : ProjectTree) (ty : TypeTree) : Type 0 where
  pub nests : AllNamed (IsNested project) ty
  pub arrays : (t : TypeTree) → Contains (types_in ty) t → IsRight t

-- it lies within what a table may have, also so many cells further
pub record IsRoomy (project : ProjectTree) (more : ℕ) (laid : Laid) : Type 0 where
  pub sound : IsSound project laid.ty
  pub within : laid.first + more + size_in project laid.ty < BEYOND

abbrev pub BeginsRoomy : ProjectTree → ℕ → Begins → Type 0
BeginsRoomy project more (in_visible laid) = IsRoomy project more laid
BeginsRoomy project more (in_brief laid) = IsRoomy project more laid
BeginsRoomy project more (at spot) = ⊤

-- ---- walks

-- the most that the number of an address is; none is 0
abbrev pub IsMostOf : List Node → Option ℕ → ℕ → Type 0
IsMostOf nodes None most = most ≡ 0
IsMostOf nodes (Some n) most = most_at nodes n ≡ Some most

-- where a walk has come to lies within what a table may have, also as many cells further as its address may say
pub record WalkRoomy (project : ProjectTree) (nodes : List Node) (w : Walk) : Type 0 where
  pub most : ℕ
  pub is_most : IsMostOf nodes w.address most
  pub roomy : BeginsRoomy project most (begin_at w.begin 0)
  pub holds : HoldsBlock project w.begin w.block
