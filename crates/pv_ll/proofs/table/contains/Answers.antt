use Rattle.std.proofs.Common.{arith, ltb-true, ◌≡◌, ◌<◌, ◌^◌}
use Rattle.std.specs.Int.{bit_at}
use Rattle.std.proofs.lemmas.Nat.Bits.{bit_at_above}
use Rattle.pv_ll.proofs.table.contains.Goals as goal

pub returns-else-kind-lt128 : goal.returns-else-kind-lt128
returns-else-kind-lt128 c =
    let bound : c.args.mask < 2 ^ 128 = omega arith in
    let above : bit_at c.args.mask c.args.kind ≡ 0 = bit_at_above c.args.mask 128 c.args.kind bound c.if-kind-lt128.false in
    (λ h. absurd (omega (arith, ltb-true c.args.kind 128 h)), λ h. absurd (omega (arith, h, above)))
