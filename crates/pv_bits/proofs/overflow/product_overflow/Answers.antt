use Rattle.std.proofs.Common.{rules, ◌∙◌, ap, neg_ℤ, refl}
use Rattle.pv_gate.proofs.ForCallers.{passed, leads_start, leads_then, gives_done, gives_fault, building_done, building_then}
use Rattle.pv_bits.specs.Circuits.{from_half, product_overflow}
use Rattle.pv_bits.proofs.Buildings.{building_equal}
use Rattle.pv_bits.proofs.overflow.product_overflow.Goals as goal

pub returns-in_err-product-clause-built : goal.returns-in_err-product-clause-built
unfolding product_overflow
returns-in_err-product-clause-built c =
    gives_fault _ _ _ c.from_residual.ensures.1 (leads_start c.args.g.now _ c.nodes-count.ensures.within)
    (λ product. building_then _ _ (building_equal _ _) (λ fits. building_done _)) c.in_err-product.ensures.built

pub returns-in_err-fits-clause-built : goal.returns-in_err-fits-clause-built
unfolding product_overflow
returns-in_err-fits-clause-built c =
    gives_fault _ _ _ c.from_residual-in_err-fits.ensures.1 (leads_then _ (leads_start c.args.g.now _ c.nodes-count.ensures.within) c.in_ok-product.ensures.built)
    (λ fits. building_done _)
    (rw (c.as_slice-2.ensures, c.as_slice-3.ensures ∙ (c.in_ok-half.ensures.word ∙ ap from_half c.as_slice.ensures)) at c.in_err-fits.ensures.built)

pub returns-clause-built : goal.returns-clause-built
unfolding product_overflow
returns-clause-built c =
    let fits = passed c.in_ok-fits.fits _ (search rules) refl in
    rw (passed c.complement.result _ (record { sfits = c.complement.type_inv }) (c.complement.ensures.complement ∙ ap neg_ℤ fits))
    (gives_done (leads_then _ (leads_then _ (leads_start c.args.g.now _ c.nodes-count.ensures.within) c.in_ok-product.ensures.built)
    (rw (c.as_slice-2.ensures, c.as_slice-3.ensures ∙ (c.in_ok-half.ensures.word ∙ ap from_half c.as_slice.ensures)) at c.in_ok-fits.ensures.built)))
