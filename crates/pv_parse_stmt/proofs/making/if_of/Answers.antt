use Rattle.pv_parse_stmt.proofs.StmtTrees.{tree-if}
use Rattle.pv_parse_stmt.proofs.making.if_of.Goals as goal

pub returns : goal.returns
returns c = tree-if c.args.arms c.args.other c.args.place
