use Rattle.std.proofs.Common.{◌<◌, arith}
use Rattle.pv_valid.specs.Walk.{need_fault}
use Rattle.pv_judge.specs.Steps.{placed}
use Rattle.pv_judge.proofs.Finds.{finds-as}
use Rattle.pv_judge.proofs.Full.{full-told}
use Rattle.pv_judge.proofs.lemmas.spend_full.Goals as goal

pub returns : goal.returns
returns c =
    λ limit need next.
    let f = c.args.formula.now in
    let log = c.args.log.now in
    let w = c.in_ok-wrong.wrong in
    let fits : c.id-last.result < 4294967296 = omega arith in
    finds-as (need_fault limit need next f c.args.at log) (placed c.args.at w) c.placed.result
    (full-told f log c.args.at limit need next w c.lines.result c.id-last.result c.requires.full c.lines.ensures c.id-last.ensures fits
    (c.in_ok-wrong.ensures.wrong c.args.at))
    c.placed.ensures
