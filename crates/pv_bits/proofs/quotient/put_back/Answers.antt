use Rattle.std.proofs.Common.{rules, refl}
use Rattle.pv_gate.proofs.ForCallers.{passed, leads_start, leads_then, gives_done, gives_fault, building_done, building_then}
use Rattle.pv_bits.specs.Circuits.{put_back}
use Rattle.pv_bits.proofs.Buildings.{building_negate_if}
use Rattle.pv_bits.proofs.quotient.put_back.Goals as goal

pub returns-in_err-differ-clause-built : goal.returns-in_err-differ-clause-built
unfolding put_back
returns-in_err-differ-clause-built c =
    gives_fault _ _ _ c.from_residual.ensures.1 (leads_start c.args.g.now _ c.nodes-count.ensures.within)
    (λ differ. building_then _ _ (building_negate_if _ _) (λ quotient. building_then _ _ (building_negate_if _ _) (λ remainder. building_done _)))
    (rw (passed c.args.dividend _ c.ranges.dividend refl, passed c.args.divisor _ c.ranges.divisor refl) at c.in_err-differ.ensures.built)

pub returns-in_err-quotient-clause-built : goal.returns-in_err-quotient-clause-built
unfolding put_back
returns-in_err-quotient-clause-built c =
    gives_fault _ _ _ c.from_residual-in_err-quotient.ensures.1
    (leads_then _ (leads_start c.args.g.now _ c.nodes-count.ensures.within)
    (rw (passed c.args.dividend _ c.ranges.dividend refl, passed c.args.divisor _ c.ranges.divisor refl) at c.in_ok-differ.ensures.built))
    (λ quotient. building_then _ _ (building_negate_if _ _) (λ remainder. building_done _))
    (rw (passed c.in_ok-differ.differ _ (search rules) refl) at c.in_err-quotient.ensures.built)

pub returns-in_err-remainder-clause-built : goal.returns-in_err-remainder-clause-built
unfolding put_back
returns-in_err-remainder-clause-built c =
    gives_fault _ _ _ c.from_residual-in_err-remainder.ensures.1
    (leads_then _ (leads_then _ (leads_start c.args.g.now _ c.nodes-count.ensures.within)
    (rw (passed c.args.dividend _ c.ranges.dividend refl, passed c.args.divisor _ c.ranges.divisor refl) at c.in_ok-differ.ensures.built))
    (rw (passed c.in_ok-differ.differ _ (search rules) refl) at c.in_ok-quotient.ensures.built))
    (λ remainder. building_done _)
    (rw (passed c.args.dividend _ c.ranges.dividend refl) at c.in_err-remainder.ensures.built)

pub returns-clause-built : goal.returns-clause-built
unfolding put_back
returns-clause-built c =
    gives_done (leads_then _ (leads_then _ (leads_then _ (leads_start c.args.g.now _ c.nodes-count.ensures.within)
    (rw (passed c.args.dividend _ c.ranges.dividend refl, passed c.args.divisor _ c.ranges.divisor refl) at c.in_ok-differ.ensures.built))
    (rw (passed c.in_ok-differ.differ _ (search rules) refl) at c.in_ok-quotient.ensures.built))
    (rw (passed c.args.dividend _ c.ranges.dividend refl) at c.in_ok-remainder.ensures.built))
