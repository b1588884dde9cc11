use Rattle.std.proofs.Common.{rules, refl}
use Rattle.pv_gate.specs.Building.{make_mux}
use Rattle.pv_gate.proofs.ForCallers.{passed, leads_start, leads_then, gives_last, gives_fault, building_mux}
use Rattle.pv_bits.specs.Circuits.{less_bit}
use Rattle.pv_bits.proofs.compare.less_bit.Goals as goal

pub returns-in_err-differ-clause-built : goal.returns-in_err-differ-clause-built
unfolding less_bit
returns-in_err-differ-clause-built c =
    gives_fault (λ differ. make_mux differ c.args.b c.args.so_far) _ _ c.from_residual.ensures.1 (leads_start c.args.g.now _ c.nodes-count.ensures.within) (λ d. building_mux _ _ _)
    (rw (passed c.args.a _ c.ranges.a refl, passed c.args.b _ c.ranges.b refl) at c.in_err-differ.ensures.built)

pub returns-clause-built : goal.returns-clause-built
unfolding less_bit
returns-clause-built c =
    gives_last (leads_then (λ differ. make_mux differ c.args.b c.args.so_far) (leads_start c.args.g.now _ c.nodes-count.ensures.within)
    (rw (passed c.args.a _ c.ranges.a refl, passed c.args.b _ c.ranges.b refl) at c.in_ok-differ.ensures.built))
    (rw (passed c.in_ok-differ.differ _ (search rules) refl, passed c.args.b _ c.ranges.b refl, passed c.args.so_far _ c.ranges.so_far refl) at c.mux.ensures.built)
