-- What a call's arguments are for.
use Rattle.std.specs.Prelude.{List, IfSome}
use Rattle.pv_tree.specs.Tree.{ArgTree, BlockTree}
use Rattle.pv_tree.specs.Callees.{How}
use Rattle.pv_program.specs.declared.given.Given.{Given}
use Rattle.pv_program.specs.Handed.{FindsArguments}
use Rattle.pv_program.specs.Sought.{AreSought}

-- the arguments are found by name, and, where there are numbers, these are those of their variables
pub record FindsGiven (how : How) (block : BlockTree) (args : List ArgTree) (given : Given) : Type 0 where
  pub named : FindsArguments how block args given.named
  pub sought : IfSome given.sought (λ v. AreSought how block args v.items)
