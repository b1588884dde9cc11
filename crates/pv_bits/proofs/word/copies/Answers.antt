use Rattle.std.proofs.Common.{◌≡◌, ◌∙◌, ap, arith, refl, replicate}
use Rattle.pv_gate.proofs.ForCallers.{passed}
use Rattle.pv_bits.proofs.word.copies.Goals as goal

pub returns-clause-word : goal.returns-clause-word
returns-clause-word c =
    let literal = passed c.args.literal _ c.ranges.literal refl in
    let e : c.loop-bit._bit ≡ c.args.count = omega arith in
    c.loop-bit.invariant ∙ (ap (λ l. replicate c.loop-bit._bit l) literal ∙ ap (λ n. replicate n c.args.literal) e)
