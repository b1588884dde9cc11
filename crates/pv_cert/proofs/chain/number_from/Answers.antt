use Rattle.std.proofs.Common.{◌≤◌, ◌<◌, ◌^◌, arith, rules}
use Rattle.pv_cert.proofs.Chains.{other-number}
use Rattle.pv_cert.proofs.chain.number_from.Goals as goal

pub returns-else-least-n-clause-none : goal.returns-else-least-n-clause-none
returns-else-least-n-clause-none c =
    let small : c.in_ok-n.n < 2 ^ 32 = search rules in
    let low : c.args.least ≤ c.in_ok-n.n → ⊥ = λ le. omega (arith, le, c.if-least-n.false) in
    other-number c.args.least c.in_ok-n.n c.args.text.now small low c.in_ok-n.ensures.found
