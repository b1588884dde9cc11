-- Nodes behind others in a table, and the terms that they stand for.
use Rattle.std.specs.Prelude.{◌≡◌, ℕ, ◌<◌, ℤ, List, ◌++◌, length, true, Option, Some, None}
use Rattle.pv_flow.specs.Terms.{Term, constant, variable, unary, binary, select}
use Rattle.pv_flow.specs.declared.term.Node.{Node}
use Rattle.pv_flow.specs.Tables.{are_ordered}
use Rattle.pv_flow.specs.View.{terms_of, term_at}

-- each node's operands stand before it
abbrev pub IsTable : List Node → Type 0
IsTable nodes = are_ordered 0 nodes ≡ true

-- the node of this number is the term
pub record IsAt (nodes : List Node) (n : ℕ) (t : Term) : Type 0 where
  pub within : n < length nodes
  pub term : term_at (terms_of nodes) n ≡ t

-- the nodes that were there are still there
pub record Grows (old new : List Node) : Type 0 where
  pub more : List Node
  pub extends : new ≡ old ++ more
  pub table : IsTable new

-- and the node of this number is the term
pub record Puts (old new : List Node) (n : ℕ) (t : Term) : Type 0 where
  pub grows : Grows old new
  pub at : IsAt new n t

-- a constant of this number, or any other term
abbrev pub IsConstant : ℤ → Term → Type 0
IsConstant v (constant ty n) = v ≡ n
IsConstant v (variable n) = ⊥
IsConstant v (unary op ty t) = ⊥
IsConstant v (binary op ty s t) = ⊥
IsConstant v (select ty c s t) = ⊥

abbrev pub IsOther : Term → Type 0
IsOther (constant ty n) = ⊥
IsOther (variable n) = Unit {0}
IsOther (unary op ty t) = Unit {0}
IsOther (binary op ty s t) = Unit {0}
IsOther (select ty c s t) = Unit {0}

abbrev pub IsLike : Option ℤ → Term → Type 0
IsLike (Some v) t = IsConstant v t
IsLike None t = IsOther t
