use Rattle.std.proofs.Common.{◌∙◌}
use Rattle.pv_gate.proofs.ForCallers.{leads_start, leads_then, gives_last, gives_fault}
use Rattle.pv_bits.specs.Circuits.{past, difference_overflow}
use Rattle.pv_bits.proofs.Buildings.{building_past}
use Rattle.pv_bits.proofs.overflow.difference_overflow.Goals as goal

pub returns-in_err-difference-clause-built : goal.returns-in_err-difference-clause-built
unfolding difference_overflow
returns-in_err-difference-clause-built c =
    gives_fault _ _ _ c.from_residual-in_err-difference.ensures.1 (leads_start c.args.g.now _ c.nodes-count.ensures.within) (λ difference. building_past c.args.signed difference)
    (rw (c.as_slice.ensures ∙ c.in_ok-first.ensures.word, c.as_slice-2.ensures ∙ c.in_ok-second.ensures.word) at c.in_err-difference.ensures.built)

pub returns-clause-built : goal.returns-clause-built
unfolding difference_overflow
returns-clause-built c =
    gives_last (leads_then (λ difference. past c.args.signed difference) (leads_start c.args.g.now _ c.nodes-count.ensures.within)
    (rw (c.as_slice.ensures ∙ c.in_ok-first.ensures.word, c.as_slice-2.ensures ∙ c.in_ok-second.ensures.word) at c.in_ok-difference.ensures.built))
    (rw c.as_slice-3.ensures at c.past.ensures.built)
