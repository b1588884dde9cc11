use Rattle.std.proofs.Common.{arith, rules, refl}
use Rattle.pv_replay.proofs.ImageLaws.{widen-next}
use Rattle.pv_replay.proofs.image.widen.Goals as goal

pub loop-number-preserved : goal.loop-number-preserved
loop-number-preserved c =
    let l = c.loop-number in
    widen-next c.args.from.now l.to _ l.number _ _ (omega (arith, c.requires, l.auto.to)) c.loop-number-test.true
    (omega arith) (search rules) refl (search rules) l.invariant
