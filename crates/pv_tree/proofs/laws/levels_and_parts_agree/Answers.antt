use Rattle.pv_tree.proofs.Levels.{agrees-expr, agrees-stmts}
use Rattle.pv_tree.proofs.Types.{agrees-vars}
use Rattle.pv_tree.proofs.BlockLevels.{agrees-kind, agrees-blocks}
use Rattle.pv_tree.proofs.laws.levels_and_parts_agree.Goals as goal

pub returns : goal.returns
returns c =
    record {
      expression = λ n m e. agrees-expr n e m;
      statements = λ n m list. agrees-stmts n list m;
      declarations = λ n m around vars tokens spelled. agrees-vars n around vars tokens spelled m;
      block = λ m language block tokens spelled. agrees-kind language block.kind block tokens spelled m;
      source = λ m language blocks tokens spelled. agrees-blocks language blocks tokens spelled m;
    }
