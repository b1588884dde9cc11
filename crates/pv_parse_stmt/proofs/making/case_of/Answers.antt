use Rattle.pv_parse_stmt.proofs.StmtTrees.{tree-case}
use Rattle.pv_parse_stmt.proofs.making.case_of.Goals as goal

pub returns : goal.returns
returns c = tree-case c.args.selector c.args.branches c.args.other c.args.place
