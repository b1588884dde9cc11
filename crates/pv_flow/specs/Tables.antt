-- Numbers within the code's tables of terms and deeds name something: each node's operands stand before it, each deed's guard and the
-- values of its sets are nodes, each edge's deed is one, and so are the terms of what is attached. Nodes and deeds that no edge uses may
-- name any variable, and their terms may be untyped.
use Rattle.std.specs.Prelude.{◌≡◌, ℕ, suc, List, [], ◌∷◌, length, Bool, true, ◌&&◌, nat_lt, Option, Some, None}
use Rattle.std.specs.List.{list_all}
use Rattle.pv_flow.specs.declared.term.Node.{Node}
use Rattle.pv_flow.specs.declared.term.Node.TheVariants as node
use Rattle.pv_flow.specs.declared.parts.Deed.{Deed}
use Rattle.pv_flow.specs.declared.parts.Parts.{Parts}
use Rattle.pv_flow.specs.declared.attached.Looking.{Looking}
use Rattle.pv_flow.specs.declared.attached.Guarding.{Guarding}
use Rattle.pv_flow.specs.declared.attached.Attached.{Attached}

-- ---- parts

-- the node's operands are among the first k nodes
abbrev pub has_operands : ℕ → Node → Bool
has_operands k (node.Constant ty v) = true
has_operands k (node.Variable n) = true
has_operands k (node.Unary op ty a) = nat_lt a k
has_operands k (node.Binary op ty a b) = nat_lt a k && nat_lt b k
has_operands k (node.Select ty c a b) = nat_lt c k && nat_lt a k && nat_lt b k

-- these nodes stand behind k others
abbrev pub are_ordered : ℕ → List Node → Bool
are_ordered k [] = true
are_ordered k (n ∷ nodes) = has_operands k n && are_ordered (suc k) nodes

-- there are k nodes
abbrev pub has_terms : ℕ → Deed → Bool
has_terms k deed = nat_lt deed.guard k && list_all (λ set. nat_lt set.value k) deed.sets.items

pub record AreTabled (p : Parts) : Type 0 where
  pub nodes : are_ordered 0 p.nodes.items ≡ true
  pub deeds : list_all (has_terms (length p.nodes.items)) p.deeds.items ≡ true
  pub edges : list_all (λ edge. nat_lt edge.deed (length p.deeds.items)) p.edges.items ≡ true

-- ---- what is attached

abbrev pub looks_by_term : ℕ → Option Looking → Bool
looks_by_term k None = true
looks_by_term k (Some l) = nat_lt l.now k

abbrev pub guards_by_term : ℕ → Option Guarding → Bool
guards_by_term k None = true
guards_by_term k (Some g) = nat_lt g.assumed k

-- by a table of k nodes
abbrev pub is_tabled : ℕ → Option Attached → Bool
is_tabled k None = true
is_tabled k (Some a) = nat_lt a.holds k && looks_by_term k a.looking && guards_by_term k a.guarding
