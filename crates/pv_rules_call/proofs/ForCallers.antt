-- What proofs of the crates above take from here.
-- calls lead from block to block where steps along the calls by number lead from number to number
pub use Rattle.pv_rules_call.proofs.CallGraph.{At, Numbered, numbered, leads_down, leads_up, same_graph}
-- statements gathered along lists
pub use Rattle.pv_rules_call.proofs.Gathering.{case_falls, stmt-repeat, stmt-while, under_most}
