use Rattle.std.proofs.Common.{◌<◌, ◌^◌, arith, rules}
use Rattle.pv_claims.proofs.NumberLaws.{too-wide}
use Rattle.pv_claims.proofs.numbers.number.Goals as goal

pub returns-else-n-clause-none : goal.returns-else-n-clause-none
returns-else-n-clause-none c =
    let small : c.in_ok-n.n < 2 ^ 64 = search rules in
    too-wide c.in_ok-n.n c.args.text.now small (λ le. omega (arith, le, c.if-n.false)) c.in_ok-n.ensures.found
