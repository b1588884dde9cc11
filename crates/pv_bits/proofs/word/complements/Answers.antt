use Rattle.std.proofs.Common.{rules, pos, refl, ap, ◌∙◌, arith, length, get_or, neg_ℤ}
use Rattle.std.proofs.lemmas.List.Elements.{All-push}
use Rattle.pv_gate.specs.Node.{Names}
use Rattle.pv_bits.proofs.Loops.{complements_next}
use Rattle.pv_gate.proofs.ForCallers.{passed}
use Rattle.pv_bits.proofs.word.complements.Goals as goal

pub loop-i-preserved : goal.loop-i-preserved
loop-i-preserved c =
    let bit = passed c.complement.result _ (record { sfits = c.complement.type_inv }) (c.complement.ensures.complement ∙ ap neg_ℤ (passed (get_or c.args.word.now c.loop-i.i (pos 0)) _ (search rules) refl)) in
    record {
      word = rw (c.in_ok-push.ensures.ok, bit) (complements_next c.args.word.now c.loop-i.made c.loop-i.i (omega arith) c.loop-i.invariant.word);
      names = rw c.in_ok-push.ensures.ok (All-push (Names (length c.args.g.now.nodes)) c.loop-i.made _ c.loop-i.invariant.names (search rules));
    }
