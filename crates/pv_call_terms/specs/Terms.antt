-- The nodes of a copy: variables at their places, and numbers of operands counted from behind those nodes that stand there.
use Rattle.std.specs.Prelude.{ℕ, ◌+◌}
use Rattle.pv_flow.specs.declared.term.Node.{Node}
use Rattle.pv_flow.specs.declared.term.Node.TheVariants as node
use Rattle.pv_call_terms.specs.Numbers.{narrow}

abbrev pub node_at : (ℕ → ℕ) → ℕ → Node → Node
node_at place after (node.Constant ty v) = node.Constant ty v
node_at place after (node.Variable n) = node.Variable (place n)
node_at place after (node.Unary op ty a) = node.Unary op ty (narrow (after + a))
node_at place after (node.Binary op ty a b) = node.Binary op ty (narrow (after + a)) (narrow (after + b))
node_at place after (node.Select ty c a b) = node.Select ty (narrow (after + c)) (narrow (after + a)) (narrow (after + b))
