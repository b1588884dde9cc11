use Rattle.std.proofs.Common.{◌∙◌, ap}
use Rattle.pv_gate.proofs.ForCallers.{passed, leads_start, gives_done}
use Rattle.pv_bits.specs.Circuits.{top, past}
use Rattle.pv_bits.proofs.overflow.past.Goals as goal

pub returns-then-signed-clause-built : goal.returns-then-signed-clause-built
unfolding past
returns-then-signed-clause-built c =
    rw c.if-signed.true
    (rw (
      passed c.top.result _ (record { sfits = c.top.type_inv }) (c.top.ensures ∙ ap top c.below_top.ensures),
      passed c.top-then-signed.result _ (record { sfits = c.top-then-signed.type_inv }) c.top-then-signed.ensures,
    ) at c.xor.ensures.built)

pub returns-else-signed-clause-built : goal.returns-else-signed-clause-built
unfolding past
returns-else-signed-clause-built c =
    rw (c.if-signed.false, passed c.top-else-signed.result _ (record { sfits = c.top-else-signed.type_inv }) c.top-else-signed.ensures)
    (gives_done (leads_start c.args.g.now _ c.nodes-count.ensures.within))
