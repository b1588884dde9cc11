use Rattle.pv_gate.proofs.ForCallers.{passed, leads_start, leads_then, gives_last, gives_fault, building_then}
use Rattle.pv_bits.specs.Circuits.{divide_magnitudes}
use Rattle.pv_bits.proofs.Buildings.{building_negate_if, building_divide_unsigned}
use Rattle.pv_bits.proofs.quotient.divide_magnitudes.Goals as goal

pub returns-in_err-dividend-clause-built : goal.returns-in_err-dividend-clause-built
unfolding divide_magnitudes
returns-in_err-dividend-clause-built c =
    gives_fault _ _ _ c.from_residual.ensures.1 (leads_start c.args.g.now _ c.nodes-count.ensures.within)
    (λ dividend. building_then _ _ (building_negate_if _ _) (λ divisor. building_divide_unsigned _ _))
    (rw (passed c.top.result _ (record { sfits = c.top.type_inv }) c.top.ensures) at c.in_err-dividend.ensures.built)

pub returns-in_err-divisor-clause-built : goal.returns-in_err-divisor-clause-built
unfolding divide_magnitudes
returns-in_err-divisor-clause-built c =
    gives_fault _ _ _ c.from_residual-in_err-divisor.ensures.1
    (leads_then _ (leads_start c.args.g.now _ c.nodes-count.ensures.within)
    (rw (passed c.top.result _ (record { sfits = c.top.type_inv }) c.top.ensures) at c.in_ok-dividend.ensures.built))
    (λ divisor. building_divide_unsigned _ _)
    (rw (passed c.top-2.result _ (record { sfits = c.top-2.type_inv }) c.top-2.ensures) at c.in_err-divisor.ensures.built)

pub returns-clause-built : goal.returns-clause-built
unfolding divide_magnitudes
returns-clause-built c =
    gives_last (leads_then _ (leads_then _ (leads_start c.args.g.now _ c.nodes-count.ensures.within)
    (rw (passed c.top.result _ (record { sfits = c.top.type_inv }) c.top.ensures) at c.in_ok-dividend.ensures.built))
    (rw (passed c.top-2.result _ (record { sfits = c.top-2.type_inv }) c.top-2.ensures) at c.in_ok-divisor.ensures.built))
    (rw (c.as_slice.ensures, c.as_slice-2.ensures) at c.divide_unsigned.ensures.built)
