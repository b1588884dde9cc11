use Rattle.std.proofs.Common.{rules, refl, ap, ◌∙◌, neg_ℤ}
use Rattle.pv_gate.proofs.ForCallers.{passed, leads_start, leads_then, gives_last, gives_fault}
use Rattle.pv_bits.specs.Circuits.{less_signed, less_bit, top}
use Rattle.pv_bits.proofs.Buildings.{building_less_bit}
use Rattle.pv_bits.proofs.compare.less_signed.Goals as goal

pub returns-in_err-so_far-clause-built : goal.returns-in_err-so_far-clause-built
unfolding less_signed
returns-in_err-so_far-clause-built c =
    gives_fault _ _ _ c.from_residual.ensures.1 (leads_start c.args.g.now _ c.nodes-count.ensures.within) (λ s. building_less_bit s _)
    (rw (c.below_top.ensures, c.below_top-2.ensures) at c.in_err-so_far.ensures.built)

pub returns-clause-built : goal.returns-clause-built
unfolding less_signed
returns-clause-built c =
    let first = passed c.complement-first.result _ (record { sfits = c.complement-first.type_inv }) (c.complement-first.ensures.complement ∙ ap neg_ℤ (passed c.top.result _ (record { sfits = c.top.type_inv }) c.top.ensures)) in
    let second = passed c.complement-second.result _ (record { sfits = c.complement-second.type_inv }) (c.complement-second.ensures.complement ∙ ap neg_ℤ (passed c.top-2.result _ (record { sfits = c.top-2.type_inv }) c.top-2.ensures)) in
    gives_last (leads_then (λ so_far. less_bit so_far (neg_ℤ (top c.args.a.now), neg_ℤ (top c.args.b.now))) (leads_start c.args.g.now _ c.nodes-count.ensures.within) (rw (c.below_top.ensures, c.below_top-2.ensures) at c.in_ok-so_far.ensures.built))
    (rw (passed c.in_ok-so_far.so_far _ (search rules) refl, first, second) at c.less_bit.ensures.built)
