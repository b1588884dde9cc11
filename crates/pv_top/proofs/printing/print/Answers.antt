use Rattle.pv_top.proofs.Delivery.{prints_lines}
use Rattle.pv_top.proofs.printing.print.Goals as goal

pub returns-in-Ok-clause-prints : goal.returns-in-Ok-clause-prints
returns-in-Ok-clause-prints g c =
    prints_lines g.S.Sink.call c.args.told.now c.offer.result _ c.in-Ok.lines c.as_slice.result.now c.in-Ok.is c.as_slice.ensures.value
    c.offer.ensures.prints
