use Rattle.pv_program.proofs.Placing.{call-seen}
use Rattle.pv_program.proofs.placed.call_placed.Goals as goal

pub returns : goal.returns
returns c = call-seen c.args.call.now c.in_ok-name.name c.in_ok-base.base c.in_ok-args.args.items c.in_ok-name.ensures.cases c.in_ok-base.ensures
    c.in_ok-args.ensures
