use Rattle.std.proofs.Common.{refl}
use Rattle.pv_bool_judged.proofs.Begun.{begun-params, begun-image}
use Rattle.pv_bool_judged.proofs.scans.begin.Goals as goal

pub returns-in-Params-clause-state : goal.returns-in-Params-clause-state
returns-in-Params-clause-state c = λ fitting.
    begun-params c.args.bits.now c.args.start _ c.put_starts.new.frame c.in-Params.is refl c.put_starts.ensures

pub returns-in-Image-clause-state : goal.returns-in-Image-clause-state
returns-in-Image-clause-state c = λ fitting.
    begun-image c.args.bits.now c.args.start _ c.in-Image.image.now c.put.new.frame c.args.frame.now c.in-Image.is refl (λ long. long) fitting
    c.put.ensures.placed
