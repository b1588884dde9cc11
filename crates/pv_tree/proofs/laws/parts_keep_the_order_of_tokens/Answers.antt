use Rattle.pv_tree.proofs.Orders.{along-expr, along-stmts}
use Rattle.pv_tree.proofs.Types.{along-vars}
use Rattle.pv_tree.proofs.BlockOrders.{along-kind, along-blocks}
use Rattle.pv_tree.proofs.laws.parts_keep_the_order_of_tokens.Goals as goal

pub returns : goal.returns
returns c =
    record {
      expression = along-expr;
      statements = along-stmts;
      declarations = along-vars;
      block = λ language block tokens spelled. along-kind language block.kind block tokens spelled;
      source = along-blocks;
    }
