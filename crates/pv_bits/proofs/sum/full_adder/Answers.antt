use Rattle.std.proofs.Common.{rules, refl}
use Rattle.pv_gate.proofs.ForCallers.{passed, leads_start, leads_then, gives_done, gives_fault, building_done, building_then, building_xor, building_and, building_or}
use Rattle.pv_bits.specs.Circuits.{full_adder}
use Rattle.pv_bits.proofs.sum.full_adder.Goals as goal

pub returns-in_err-differ-clause-built : goal.returns-in_err-differ-clause-built
unfolding full_adder
returns-in_err-differ-clause-built c =
    gives_fault _ _ _ c.from_residual.ensures.1
    (leads_start c.args.g.now _ c.nodes-count.ensures.within)
    (λ differ. building_then _ _ (building_xor _ _) (λ sum. building_then _ _ (building_and _ _) (λ both. building_then _ _ (building_and _ _) (λ one. building_then _ _ (building_or _ _) (λ next. building_done _)))))
    (rw (passed c.args.a _ c.ranges.a refl, passed c.args.b _ c.ranges.b refl) at c.in_err-differ.ensures.built)

pub returns-in_err-sum-clause-built : goal.returns-in_err-sum-clause-built
unfolding full_adder
returns-in_err-sum-clause-built c =
    gives_fault _ _ _ c.from_residual-in_err-sum.ensures.1
    (leads_then _ (leads_start c.args.g.now _ c.nodes-count.ensures.within) (rw (passed c.args.a _ c.ranges.a refl, passed c.args.b _ c.ranges.b refl) at c.in_ok-differ.ensures.built))
    (λ sum. building_then _ _ (building_and _ _) (λ both. building_then _ _ (building_and _ _) (λ one. building_then _ _ (building_or _ _) (λ next. building_done _))))
    (rw (passed c.in_ok-differ.differ _ (search rules) refl, passed c.args.carry _ c.ranges.carry refl) at c.in_err-sum.ensures.built)

pub returns-in_err-both-clause-built : goal.returns-in_err-both-clause-built
unfolding full_adder
returns-in_err-both-clause-built c =
    gives_fault _ _ _ c.from_residual-in_err-both.ensures.1
    (leads_then _ (leads_then _ (leads_start c.args.g.now _ c.nodes-count.ensures.within) (rw (passed c.args.a _ c.ranges.a refl, passed c.args.b _ c.ranges.b refl) at c.in_ok-differ.ensures.built)) (rw (passed c.in_ok-differ.differ _ (search rules) refl, passed c.args.carry _ c.ranges.carry refl) at c.in_ok-sum.ensures.built))
    (λ both. building_then _ _ (building_and _ _) (λ one. building_then _ _ (building_or _ _) (λ next. building_done _)))
    (rw (passed c.args.a _ c.ranges.a refl, passed c.args.b _ c.ranges.b refl) at c.in_err-both.ensures.built)

pub returns-in_err-one-clause-built : goal.returns-in_err-one-clause-built
unfolding full_adder
returns-in_err-one-clause-built c =
    gives_fault _ _ _ c.from_residual-in_err-one.ensures.1
    (leads_then _ (leads_then _ (leads_then _ (leads_start c.args.g.now _ c.nodes-count.ensures.within) (rw (passed c.args.a _ c.ranges.a refl, passed c.args.b _ c.ranges.b refl) at c.in_ok-differ.ensures.built)) (rw (passed c.in_ok-differ.differ _ (search rules) refl, passed c.args.carry _ c.ranges.carry refl) at c.in_ok-sum.ensures.built)) (rw (passed c.args.a _ c.ranges.a refl, passed c.args.b _ c.ranges.b refl) at c.in_ok-both.ensures.built))
    (λ one. building_then _ _ (building_or _ _) (λ next. building_done _))
    (rw (passed c.in_ok-differ.differ _ (search rules) refl, passed c.args.carry _ c.ranges.carry refl) at c.in_err-one.ensures.built)

pub returns-in_err-next-clause-built : goal.returns-in_err-next-clause-built
unfolding full_adder
returns-in_err-next-clause-built c =
    gives_fault _ _ _ c.from_residual-in_err-next.ensures.1
    (leads_then _ (leads_then _ (leads_then _ (leads_then _ (leads_start c.args.g.now _ c.nodes-count.ensures.within) (rw (passed c.args.a _ c.ranges.a refl, passed c.args.b _ c.ranges.b refl) at c.in_ok-differ.ensures.built)) (rw (passed c.in_ok-differ.differ _ (search rules) refl, passed c.args.carry _ c.ranges.carry refl) at c.in_ok-sum.ensures.built)) (rw (passed c.args.a _ c.ranges.a refl, passed c.args.b _ c.ranges.b refl) at c.in_ok-both.ensures.built)) (rw (passed c.in_ok-differ.differ _ (search rules) refl, passed c.args.carry _ c.ranges.carry refl) at c.in_ok-one.ensures.built))
    (λ next. building_done _)
    (rw (passed c.in_ok-both.both _ (search rules) refl, passed c.in_ok-one.one _ (search rules) refl) at c.in_err-next.ensures.built)

pub returns-clause-built : goal.returns-clause-built
unfolding full_adder
returns-clause-built c =
    rw (passed c.in_ok-sum.sum _ (search rules) refl, passed c.in_ok-next.next _ (search rules) refl)
    (gives_done (leads_then _ (leads_then _ (leads_then _ (leads_then _ (leads_then _ (leads_start c.args.g.now _ c.nodes-count.ensures.within) (rw (passed c.args.a _ c.ranges.a refl, passed c.args.b _ c.ranges.b refl) at c.in_ok-differ.ensures.built)) (rw (passed c.in_ok-differ.differ _ (search rules) refl, passed c.args.carry _ c.ranges.carry refl) at c.in_ok-sum.ensures.built)) (rw (passed c.args.a _ c.ranges.a refl, passed c.args.b _ c.ranges.b refl) at c.in_ok-both.ensures.built)) (rw (passed c.in_ok-differ.differ _ (search rules) refl, passed c.args.carry _ c.ranges.carry refl) at c.in_ok-one.ensures.built)) (rw (passed c.in_ok-both.both _ (search rules) refl, passed c.in_ok-one.one _ (search rules) refl) at c.in_ok-next.ensures.built)))
