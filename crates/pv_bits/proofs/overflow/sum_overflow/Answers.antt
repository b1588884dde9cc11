use Rattle.std.proofs.Common.{◌∙◌}
use Rattle.pv_gate.proofs.ForCallers.{leads_start, leads_then, gives_last, gives_fault}
use Rattle.pv_bits.specs.Circuits.{past, sum_overflow}
use Rattle.pv_bits.proofs.Buildings.{building_past}
use Rattle.pv_bits.proofs.overflow.sum_overflow.Goals as goal

pub returns-in_err-sum-clause-built : goal.returns-in_err-sum-clause-built
unfolding sum_overflow
returns-in_err-sum-clause-built c =
    gives_fault _ _ _ c.from_residual-in_err-sum.ensures.1 (leads_start c.args.g.now _ c.nodes-count.ensures.within) (λ sum. building_past c.args.signed sum)
    (rw (c.as_slice.ensures ∙ c.in_ok-first.ensures.word, c.as_slice-2.ensures ∙ c.in_ok-second.ensures.word) at c.in_err-sum.ensures.built)

pub returns-clause-built : goal.returns-clause-built
unfolding sum_overflow
returns-clause-built c =
    gives_last (leads_then (λ sum. past c.args.signed sum) (leads_start c.args.g.now _ c.nodes-count.ensures.within)
    (rw (c.as_slice.ensures ∙ c.in_ok-first.ensures.word, c.as_slice-2.ensures ∙ c.in_ok-second.ensures.word) at c.in_ok-sum.ensures.built))
    (rw c.as_slice-3.ensures at c.past.ensures.built)
