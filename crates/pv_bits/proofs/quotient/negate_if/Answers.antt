use Rattle.std.proofs.Common.{refl}
use Rattle.pv_gate.proofs.ForCallers.{passed, leads_start, leads_then, gives_last, gives_fault}
use Rattle.pv_bits.specs.Circuits.{negate_if, negate, select}
use Rattle.pv_bits.proofs.Buildings.{building_select}
use Rattle.pv_bits.proofs.quotient.negate_if.Goals as goal

pub returns-in_err-minus-clause-built : goal.returns-in_err-minus-clause-built
unfolding negate_if negate
returns-in_err-minus-clause-built c =
    gives_fault _ _ _ c.from_residual-in_err-minus.ensures.1 (leads_start c.args.g.now _ c.nodes-count.ensures.within) (λ minus. building_select _ _ _)
    (rw (c.as_slice.ensures, c.in_ok-zero.ensures.word) at c.in_err-minus.ensures.built)

pub returns-clause-built : goal.returns-clause-built
unfolding negate_if negate
returns-clause-built c =
    gives_last (leads_then (λ minus. select c.args.s minus c.args.a.now) (leads_start c.args.g.now _ c.nodes-count.ensures.within) (rw (c.as_slice.ensures, c.in_ok-zero.ensures.word) at c.in_ok-minus.ensures.built))
    (rw (passed c.args.s _ c.ranges.s refl, c.as_slice-2.ensures) at c.select.ensures.built)
