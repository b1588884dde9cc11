use Rattle.pv_contracts_flow.proofs.BareLaws.{bare_never}
use Rattle.pv_contracts_flow.proofs.copies.copy_bare.Goals as goal

pub returns : goal.returns
returns c = bare_never c.args.blocks.now c.requires c.copy_calls.result c.copy_calls.ensures.large
