use Rattle.std.proofs.Common.{rules, ◌≡◌, ap, ◌∙◌, refl, neg_ℤ, to_z, of_z, w32}
use Rattle.pv_gate.specs.Building.{make_and}
use Rattle.pv_gate.proofs.ForCallers.{passed, leads_start, leads_then, gives_last, gives_fault, building_and}
use Rattle.pv_bits.specs.Circuits.{equal_bit}
use Rattle.pv_bits.proofs.compare.equal_bit.Goals as goal

pub returns-in_err-differ-clause-built : goal.returns-in_err-differ-clause-built
unfolding equal_bit
returns-in_err-differ-clause-built c =
    gives_fault (λ differ. make_and c.args.so_far (neg_ℤ differ)) _ _ c.from_residual.ensures.1 (leads_start c.args.g.now _ c.nodes-count.ensures.within) (λ d. building_and _ _)
    (rw (passed c.args.a _ c.ranges.a refl, passed c.args.b _ c.ranges.b refl) at c.in_err-differ.ensures.built)

pub returns-clause-built : goal.returns-clause-built
unfolding equal_bit
returns-clause-built c =
    let differ : to_z w32 (of_z w32 c.in_ok-differ.differ) ≡ c.in_ok-differ.differ = passed _ _ (search rules) refl in
    let same = passed c.complement-same.result _ (record { sfits = c.complement-same.type_inv }) (c.complement-same.ensures.complement ∙ ap neg_ℤ differ) in
    gives_last (leads_then (λ differ. make_and c.args.so_far (neg_ℤ differ)) (leads_start c.args.g.now _ c.nodes-count.ensures.within)
    (rw (passed c.args.a _ c.ranges.a refl, passed c.args.b _ c.ranges.b refl) at c.in_ok-differ.ensures.built))
    (rw (passed c.args.so_far _ c.ranges.so_far refl, same) at c.and.ensures.built)
