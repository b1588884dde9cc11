-- What proofs of the crates above take from here.
-- the first of the tokens that spell a tree
pub use Rattle.pv_tree.proofs.Firsts.{first-append, first-one, first-joined, first-name, first-operand, first-expr, first-call, first-item}
-- parts begin along the tokens
pub use Rattle.pv_tree.proofs.Orders.{along_both, along-expr, along-operand, along-call, along-stmts}
pub use Rattle.pv_tree.proofs.Types.{along-type, along-vars}
pub use Rattle.pv_tree.proofs.BlockOrders.{along-instrs, along-kind, along-blocks}
-- nesting from below and from above
pub use Rattle.pv_tree.proofs.Levels.{Agrees, agrees_none, agrees_both, agrees_part, agrees-expr, agrees-operand, agrees-args, agrees-stmts}
pub use Rattle.pv_tree.proofs.Types.{agrees-type, agrees-vars}
pub use Rattle.pv_tree.proofs.BlockLevels.{agrees-body, agrees-kind, agrees-blocks}
-- none outside, or a first one
pub use Rattle.pv_tree.proofs.Outsides.{outside-some, outside-apart, outside-one}
-- shallow, or with a deepest place
pub use Rattle.pv_tree.proofs.Deepest.{has_above_of, deepest-some, deepest-apart, deepest-one}
-- a fault of syntax stands at one token
pub use Rattle.pv_tree.proofs.Faults.{fault-one}
-- the least breach: one, and where there is none nothing is broken
pub use Rattle.pv_tree.proofs.Leasts.{least-one, none-least}
-- named types as declarations are laid out over them
pub use Rattle.pv_tree.proofs.NamedTypes.{type_contained, type_looked_up, types_nest}
-- how many are left of those that were met, and each name in a type
pub use Rattle.pv_tree.proofs.NamedTypes.{left, also, left_all, fewer, all_named_in, holds_then, named_by, some_of}
pub use Rattle.pv_tree.proofs.KeptRules.{grounded}
-- the block that a call runs is the first of its name, and one of the project's
pub use Rattle.pv_tree.proofs.CalledBlocks.{run_block, run_block_in}
-- the code's trees as plain data, form by form
pub use Rattle.pv_tree.proofs.Seen.{operand_seen, place_seen, read_seen, paren_seen, unary_seen, binary_seen, std_seen, field_seen, index_seen}
pub use Rattle.pv_tree.proofs.StmtSeen.{stmt-for, stmt-if, stmt-case}
