use Rattle.std.proofs.Common.{rules, ◌∷◌, [], pos, refl, arith, length, get_or, length-append}
use Rattle.std.proofs.lemmas.List.Elements.{All-push}
use Rattle.pv_gate.specs.Node.{Names}
use Rattle.pv_bits.proofs.Loops.{next_bit, all_bits}
use Rattle.pv_gate.proofs.ForCallers.{passed, all_more, leads_start, leads_then, leads_each, gives_done, gives_fault, gives_fault_each, gives_no_memory, building_done}
use Rattle.pv_bits.specs.Circuits.{and_each, and_bit}
use Rattle.pv_bits.proofs.Buildings.{building_and_bit}
use Rattle.pv_bits.proofs.product.and_each.Goals as goal

pub loop-i-init : goal.loop-i-init
unfolding and_each
loop-i-init c = record {
  leads = rw c.new-made.ensures (leads_start c.args.g.now _ c.nodes-count.ensures.within);
  names = rw c.new-made.ensures (λ k d lt. absurd (omega arith));
  width = rw c.new-made.ensures refl;
  longer = omega arith;
}

pub returns-in_err-both-clause-built : goal.returns-in_err-both-clause-built
unfolding and_bit
returns-in_err-both-clause-built c =
    let b = passed c.args.bit _ c.ranges.bit refl in
    gives_fault_each (and_bit c.args.bit) _ _ _ _ _ c.from_residual.ensures.1 (next_bit (and_bit c.args.bit) c.loop-i.made c.args.word.now c.loop-i.i (omega arith) (rw b at c.loop-i.invariant.leads))
    (building_and_bit c.args.bit)
    (gives_fault _ _ _ refl (leads_start c.loop-i.g _ c.loop-i.invariant.leads.within) (λ o. building_done _) (rw (passed (get_or c.args.word.now c.loop-i.i (pos 0)) _ (search rules) refl, b) at c.in_err-both.ensures.built))

pub returns-in_err-push-clause-built : goal.returns-in_err-push-clause-built
unfolding and_bit
returns-in_err-push-clause-built c =
    let b = passed c.args.bit _ c.ranges.bit refl in
    gives_no_memory _ c.from_residual-in_err-push.ensures.1 (leads_each (and_bit c.args.bit) _ _ _ (next_bit (and_bit c.args.bit) c.loop-i.made c.args.word.now c.loop-i.i (omega arith) (rw b at c.loop-i.invariant.leads)) (gives_done (leads_then _ (leads_start c.loop-i.g _ c.loop-i.invariant.leads.within) (rw (passed (get_or c.args.word.now c.loop-i.i (pos 0)) _ (search rules) refl, b) at c.in_ok-both.ensures.built))))

pub loop-i-preserved : goal.loop-i-preserved
unfolding and_bit
loop-i-preserved c =
    let b = passed c.args.bit _ c.ranges.bit refl in
    let both = passed c.in_ok-both.both _ (search rules) refl in
    record {
      leads = rw (c.in_ok-push.ensures.ok, both, b) (leads_each (and_bit c.args.bit) _ _ _ (next_bit (and_bit c.args.bit) c.loop-i.made c.args.word.now c.loop-i.i (omega arith) (rw b at c.loop-i.invariant.leads)) (gives_done (leads_then _ (leads_start c.loop-i.g _ c.loop-i.invariant.leads.within) (rw (passed (get_or c.args.word.now c.loop-i.i (pos 0)) _ (search rules) refl, b) at c.in_ok-both.ensures.built))));
      names = rw (c.in_ok-push.ensures.ok, both) (All-push (Names (length c.and.new.self.nodes)) c.loop-i.made c.in_ok-both.both (all_more (length c.loop-i.g.nodes) (length c.and.new.self.nodes) c.loop-i.made (omega (arith, c.in_ok-both.ensures.longer)) c.loop-i.invariant.names) c.in_ok-both.ensures.names);
      width = rw (c.in_ok-push.ensures.ok, both) (omega (arith, length-append c.loop-i.made (c.in_ok-both.both ∷ []), c.loop-i.invariant.width));
      longer = omega (arith, c.in_ok-both.ensures.longer);
    }

pub returns-clause-built : goal.returns-clause-built
returns-clause-built c =
    let b = passed c.args.bit _ c.ranges.bit refl in
    gives_done (all_bits (and_bit c.args.bit) _ c.args.word.now c.loop-i.i (omega arith) (rw b at c.loop-i.invariant.leads))
