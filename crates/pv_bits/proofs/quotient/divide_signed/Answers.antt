use Rattle.pv_gate.proofs.ForCallers.{passed, leads_start, leads_then, gives_last, gives_fault}
use Rattle.pv_bits.specs.Circuits.{top, put_back, divide_signed}
use Rattle.pv_bits.proofs.Buildings.{building_put_back}
use Rattle.pv_bits.proofs.quotient.divide_signed.Goals as goal

pub returns-in_err-whole-clause-built : goal.returns-in_err-whole-clause-built
unfolding divide_signed
returns-in_err-whole-clause-built c =
    gives_fault _ _ _ c.from_residual.ensures.1 (leads_start c.args.g.now _ c.nodes-count.ensures.within) (λ d. building_put_back _ _ d)
    c.in_err-whole.ensures.built

pub returns-clause-built : goal.returns-clause-built
unfolding divide_signed
returns-clause-built c =
    gives_last (leads_then (λ d. put_back (top c.args.a.now) (top c.args.b.now) d) (leads_start c.args.g.now _ c.nodes-count.ensures.within) c.in_ok-whole.ensures.built)
    (rw (
      passed c.top.result _ (record { sfits = c.top.type_inv }) c.top.ensures,
      passed c.top-2.result _ (record { sfits = c.top-2.type_inv }) c.top-2.ensures,
      c.as_slice.ensures,
      c.as_slice-2.ensures,
    ) at c.put_back.ensures.built)
