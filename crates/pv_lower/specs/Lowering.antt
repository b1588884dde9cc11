-- What the code lowers by, and what it puts into a table of terms and behind checks: an expression's term, and an operand's access.
use Rattle.std.specs.Prelude.{◌≡◌, ℕ, List, [], ◌∷◌, map}
use Rattle.pv_tree.specs.declared.expr.StdFunction.{StdFunction}
use Rattle.pv_tree.specs.Tree.{ExprTree, ExprTrees}
use Rattle.pv_tree.specs.LiteralTypes.{Want}
use Rattle.pv_tree.specs.Sorts.{Sort, wants_of}
use Rattle.pv_tree.specs.Scopes.{Scope}
use Rattle.pv_tree.specs.Types.{sorts_of}
use Rattle.pv_names.specs.Sorts.{want_tree}
use Rattle.pv_mean.specs.Sources.{Source}
use Rattle.pv_resolve.specs.Contexts.{IsContext, block_in}
use Rattle.pv_flow.specs.declared.term.Node.{Node}
use Rattle.pv_terms.specs.Pushed.{IsAt}
use Rattle.pv_variables.specs.Begun.{origin_of}
use Rattle.pv_variables.specs.Numbered.{AreNumbers}
use Rattle.pv_access.specs.declared.check.Check.{Check as CodeCheck}
use Rattle.pv_access.specs.Given.{AreMoves}
use Rattle.pv_access.specs.Pushed.{Checks}
use Rattle.pv_lower.specs.declared.access.Access.{Access as CodeAccess}
use Rattle.pv_lower.specs.declared.lowering.Lowering.{Lowering}
use Rattle.pv_lower.specs.declared.types.Meeting.{Meeting}
use Rattle.pv_lower.specs.declared.types.Wants.{Wants}
use Rattle.pv_lower.specs.Storages.{Access}
use Rattle.pv_lower.specs.Lowered.{Lowered, Accessed, part_type, want_beside, met_type}

-- a context of one of the source's blocks, and the numbers of that block's variables
pub record IsLowering (l : Lowering) (source : Source) : Type 0 where
  pub context : IsContext l.context source
  pub numbers : AreNumbers l.numbers.now source (block_in l.context)

-- ---- types

-- of the first argument one thing is wanted, and of each other another
abbrev pub first_then : Wants → List Sort → List Want
first_then w [] = []
first_then w (s ∷ more) = want_tree w.first ∷ map (λ x. want_tree w.others) more

-- and these are what a function wants of its arguments
abbrev pub IsWanted : Wants → StdFunction → Scope → ExprTrees → Type 0
IsWanted w function scope args = wants_of function (sorts_of scope args) ≡ first_then w (sorts_of scope args)

-- how two operands of one operator meet
pub record IsMeeting (m : Meeting) (scope : Scope) (a b : ExprTree) : Type 0 where
  pub wanted : want_tree m.want ≡ want_beside scope a b
  pub met : m.ty ≡ met_type scope a b
  pub of_left : m.left ≡ part_type scope (want_beside scope a b) a
  pub of_right : m.right ≡ part_type scope (want_beside scope a b) b

-- ---- what is put

-- behind the checks stand these, and the node of this number is the term
pub record Lowers (old new : List Node) (before after : List CodeCheck) (n : ℕ) (l : Lowered) : Type 0 where
  pub checks : Checks old new before after l.checks
  pub at : IsAt new n l.term

-- this is the access
pub record IsAccess (nodes : List Node) (code : CodeAccess) (a : Access) : Type 0 where
  pub origin : origin_of code.begin ≡ a.origin
  pub moves : AreMoves nodes code.moves.items a.moves

pub record Accesses (old new : List Node) (before after : List CodeCheck) (code : CodeAccess) (acc : Accessed) : Type 0 where
  pub checks : Checks old new before after acc.checks
  pub access : IsAccess new code acc.access
