use Rattle.std.proofs.Common.{◌<◌, ◌∷◌, length, length-append, ap, arith, rules}
use Rattle.pv_cert.proofs.LineNumbers.{standing-next, standing-last, standing-on}
use Rattle.pv_cert.proofs.reader.line_at.Goals as goal

pub loop-rest-preserved : goal.loop-rest-preserved
loop-rest-preserved c =
    let more : c.args.left < length c.loop-rest.rest.now = search rules in
    let cut = ap length c.in-Some.ensures.found.1 in
    let size = length-append c.in-Some.cut.0.now (10 ∷ c.in-Some.cut.1.now) in
    record {
      standing = standing-next c.args.text.now c.args.left c.loop-rest.rest.now c.in-Some.cut.0.now c.in-Some.cut.1.now c.loop-rest.line c.loop-rest.invariant.standing more c.in-Some.ensures.found.0
          c.in-Some.ensures.found.1;
      short = omega (arith, cut, size, c.loop-rest.invariant.short);
    }

pub returns-in_default : goal.returns-in_default
returns-in_default c =
    let more : c.args.left < length c.loop-rest.rest.now = search rules in
    standing-on c.args.text.now c.args.left c.loop-rest.rest.now c.loop-rest.line c.loop-rest.invariant.standing more c.in_default.ensures.none

pub returns : goal.returns
returns c = standing-last c.args.text.now c.args.left c.loop-rest.rest.now c.loop-rest.line c.loop-rest.invariant.standing (λ more. search rules)
