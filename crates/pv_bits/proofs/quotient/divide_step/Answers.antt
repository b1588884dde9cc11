use Rattle.std.proofs.Common.{rules, refl, ap, ◌∙◌, neg_ℤ}
use Rattle.pv_gate.proofs.ForCallers.{passed, leads_start, leads_then, gives_done, gives_fault, building_done, building_then}
use Rattle.pv_bits.specs.Circuits.{divide_step}
use Rattle.pv_bits.proofs.Buildings.{building_subtract, building_select}
use Rattle.pv_bits.proofs.quotient.divide_step.Goals as goal

pub returns-in_err-below-clause-built : goal.returns-in_err-below-clause-built
unfolding divide_step
returns-in_err-below-clause-built c =
    gives_fault _ _ _ c.from_residual-in_err-below.ensures.1
    (leads_start c.args.g.now _ c.nodes-count.ensures.within)
    (λ below. building_then _ _ (building_subtract _ _) (λ difference. building_then _ _ (building_select _ _ _) (λ next. building_done _)))
    (rw (c.as_slice.ensures, c.in_ok-taken.ensures.word, passed c.args.bit _ c.ranges.bit refl) at c.in_err-below.ensures.built)

pub returns-in_err-difference-clause-built : goal.returns-in_err-difference-clause-built
unfolding divide_step
returns-in_err-difference-clause-built c =
    gives_fault _ _ _ c.from_residual-in_err-difference.ensures.1
    (leads_then _ (leads_start c.args.g.now _ c.nodes-count.ensures.within) (rw (c.as_slice.ensures, c.in_ok-taken.ensures.word, passed c.args.bit _ c.ranges.bit refl) at c.in_ok-below.ensures.built))
    (λ difference. building_then _ _ (building_select _ _ _) (λ next. building_done _))
    (rw (c.as_slice-2.ensures, c.in_ok-taken.ensures.word, passed c.args.bit _ c.ranges.bit refl) at c.in_err-difference.ensures.built)

pub returns-in_err-next-clause-built : goal.returns-in_err-next-clause-built
unfolding divide_step
returns-in_err-next-clause-built c =
    gives_fault _ _ _ c.from_residual-in_err-next.ensures.1
    (leads_then _ (leads_then _ (leads_start c.args.g.now _ c.nodes-count.ensures.within) (rw (c.as_slice.ensures, c.in_ok-taken.ensures.word, passed c.args.bit _ c.ranges.bit refl) at c.in_ok-below.ensures.built)) (rw (c.as_slice-2.ensures, c.in_ok-taken.ensures.word, passed c.args.bit _ c.ranges.bit refl) at c.in_ok-difference.ensures.built))
    (λ next. building_done _)
    (rw (passed c.complement-enough.result _ (record { sfits = c.complement-enough.type_inv }) (c.complement-enough.ensures.complement ∙ ap neg_ℤ (passed c.in_ok-below.below _ (search rules) refl)), c.as_slice-3.ensures, c.as_slice-4.ensures, c.in_ok-taken.ensures.word, passed c.args.bit _ c.ranges.bit refl) at c.in_err-next.ensures.built)

pub returns-clause-built : goal.returns-clause-built
unfolding divide_step
returns-clause-built c =
    rw (passed c.complement-enough.result _ (record { sfits = c.complement-enough.type_inv }) (c.complement-enough.ensures.complement ∙ ap neg_ℤ (passed c.in_ok-below.below _ (search rules) refl)))
    (gives_done (leads_then _ (leads_then _ (leads_then _ (leads_start c.args.g.now _ c.nodes-count.ensures.within) (rw (c.as_slice.ensures, c.in_ok-taken.ensures.word, passed c.args.bit _ c.ranges.bit refl) at c.in_ok-below.ensures.built)) (rw (c.as_slice-2.ensures, c.in_ok-taken.ensures.word, passed c.args.bit _ c.ranges.bit refl) at c.in_ok-difference.ensures.built)) (rw (passed c.complement-enough.result _ (record { sfits = c.complement-enough.type_inv }) (c.complement-enough.ensures.complement ∙ ap neg_ℤ (passed c.in_ok-below.below _ (search rules) refl)), c.as_slice-3.ensures, c.as_slice-4.ensures, c.in_ok-taken.ensures.word, passed c.args.bit _ c.ranges.bit refl) at c.in_ok-next.ensures.built)))
