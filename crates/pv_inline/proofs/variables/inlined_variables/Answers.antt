use Rattle.std.proofs.Common.{◌≡◌, IfOk, map, subst}
use Rattle.pv_flow.specs.Calls.{Blocks}
use Rattle.pv_flow.specs.View.{variable_of}
use Rattle.pv_inline.specs.Variables.{variables_at}
use Rattle.pv_inline.proofs.Coded.{same_blocks}
use Rattle.pv_inline.proofs.variables.inlined_variables.Goals as goal

pub returns : goal.returns
returns c =
    subst (λ (bs : Blocks). IfOk c.all_variables.result (λ vars. map variable_of vars.items ≡ variables_at bs c.args.entry))
    (same_blocks c.args.blocks.now) c.all_variables.ensures
