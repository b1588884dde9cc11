use Rattle.std.proofs.Common.{rules, refl}
use Rattle.pv_gate.proofs.ForCallers.{passed, leads_start, leads_then, gives_done, gives_fault, gives_no_memory, building_done, building_then}
use Rattle.pv_bits.specs.Circuits.{multiply_bit}
use Rattle.pv_bits.proofs.Buildings.{building_adder}
use Rattle.pv_bits.proofs.product.multiply_bit.Goals as goal

pub returns-in_err-masked-clause-built : goal.returns-in_err-masked-clause-built
unfolding multiply_bit
returns-in_err-masked-clause-built c =
    gives_fault _ _ _ c.from_residual.ensures.1 (leads_start c.args.g.now _ c.nodes-count.ensures.within) (λ part. building_then _ _ (building_adder _ _ _) (λ sum. building_done _))
    (rw (passed c.args.bit _ c.ranges.bit refl) at c.in_err-masked.ensures.built)

pub returns-in_err-next-clause-built : goal.returns-in_err-next-clause-built
unfolding multiply_bit
returns-in_err-next-clause-built c =
    gives_fault _ _ _ c.from_residual-in_err-next.ensures.1 (leads_then _ (leads_start c.args.g.now _ c.nodes-count.ensures.within) (rw (passed c.args.bit _ c.ranges.bit refl) at c.in_ok-masked.ensures.built)) (λ sum. building_done _)
    (rw (c.as_slice.ensures) at c.in_err-next.ensures.built)

pub returns-in_err-shifted-clause-built : goal.returns-in_err-shifted-clause-built
unfolding multiply_bit
returns-in_err-shifted-clause-built c = gives_no_memory _ (search rules) (leads_then _ (leads_then _ (leads_start c.args.g.now _ c.nodes-count.ensures.within) (rw (passed c.args.bit _ c.ranges.bit refl) at c.in_ok-masked.ensures.built)) (rw (c.as_slice.ensures) at c.in_ok-next.ensures.built))

pub returns-clause-built : goal.returns-clause-built
unfolding multiply_bit
returns-clause-built c = rw c.in_ok-shifted.ensures.word (gives_done (leads_then _ (leads_then _ (leads_start c.args.g.now _ c.nodes-count.ensures.within) (rw (passed c.args.bit _ c.ranges.bit refl) at c.in_ok-masked.ensures.built)) (rw (c.as_slice.ensures) at c.in_ok-next.ensures.built)))
