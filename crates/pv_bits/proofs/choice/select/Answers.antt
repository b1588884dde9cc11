use Rattle.std.proofs.Common.{rules, ◌∷◌, [], pos, refl, arith, length, get_or, length-append}
use Rattle.std.proofs.lemmas.List.Elements.{All-push}
use Rattle.pv_gate.specs.Node.{Names}
use Rattle.pv_bits.proofs.Loops.{next_pair, all_pairs}
use Rattle.pv_gate.proofs.ForCallers.{passed, all_more, leads_start, leads_then, leads_each, gives_done, gives_fault, gives_fault_each, gives_no_memory, building_done}
use Rattle.pv_bits.specs.Circuits.{select, select_bit}
use Rattle.pv_bits.proofs.Buildings.{building_select_bit}
use Rattle.pv_bits.proofs.choice.select.Goals as goal

pub loop-i-init : goal.loop-i-init
unfolding select
loop-i-init c = record {
  leads = rw c.new-word.ensures (leads_start c.args.g.now _ c.nodes-count.ensures.within);
  names = rw c.new-word.ensures (λ k d lt. absurd (omega arith));
  width = rw c.new-word.ensures refl;
  longer = omega arith;
}

pub returns-in_err-bit-clause-built : goal.returns-in_err-bit-clause-built
unfolding select_bit
returns-in_err-bit-clause-built c =
    let s = passed c.args.s _ c.ranges.s refl in
    gives_fault_each (select_bit c.args.s) _ _ _ _ _ c.from_residual.ensures.1 (next_pair (select_bit c.args.s) c.loop-i.word c.args.a.now c.args.b.now c.loop-i.i (omega arith) c.requires.same (rw s at c.loop-i.invariant.leads))
    (building_select_bit c.args.s)
    (gives_fault _ _ _ refl (leads_start c.loop-i.g _ c.loop-i.invariant.leads.within) (λ o. building_done _) (rw (passed (get_or c.args.a.now c.loop-i.i (pos 0)) _ (search rules) refl, passed (get_or c.args.b.now c.loop-i.i (pos 0)) _ (search rules) refl, s) at c.in_err-bit.ensures.built))

pub returns-in_err-push-clause-built : goal.returns-in_err-push-clause-built
unfolding select_bit
returns-in_err-push-clause-built c =
    let s = passed c.args.s _ c.ranges.s refl in
    gives_no_memory _ c.from_residual-in_err-push.ensures.1 (leads_each (select_bit c.args.s) _ _ _ (next_pair (select_bit c.args.s) c.loop-i.word c.args.a.now c.args.b.now c.loop-i.i (omega arith) c.requires.same (rw s at c.loop-i.invariant.leads)) (gives_done (leads_then _ (leads_start c.loop-i.g _ c.loop-i.invariant.leads.within) (rw (passed (get_or c.args.a.now c.loop-i.i (pos 0)) _ (search rules) refl, passed (get_or c.args.b.now c.loop-i.i (pos 0)) _ (search rules) refl, s) at c.in_ok-bit.ensures.built))))

pub loop-i-preserved : goal.loop-i-preserved
unfolding select_bit
loop-i-preserved c =
    let s = passed c.args.s _ c.ranges.s refl in
    let bit = passed c.in_ok-bit.bit _ (search rules) refl in
    record {
      leads = rw (c.in_ok-push.ensures.ok, bit, s) (leads_each (select_bit c.args.s) _ _ _ (next_pair (select_bit c.args.s) c.loop-i.word c.args.a.now c.args.b.now c.loop-i.i (omega arith) c.requires.same (rw s at c.loop-i.invariant.leads)) (gives_done (leads_then _ (leads_start c.loop-i.g _ c.loop-i.invariant.leads.within) (rw (passed (get_or c.args.a.now c.loop-i.i (pos 0)) _ (search rules) refl, passed (get_or c.args.b.now c.loop-i.i (pos 0)) _ (search rules) refl, s) at c.in_ok-bit.ensures.built))));
      names = rw (c.in_ok-push.ensures.ok, bit) (All-push (Names (length c.mux.new.self.nodes)) c.loop-i.word c.in_ok-bit.bit (all_more (length c.loop-i.g.nodes) (length c.mux.new.self.nodes) c.loop-i.word (omega (arith, c.in_ok-bit.ensures.longer)) c.loop-i.invariant.names) c.in_ok-bit.ensures.names);
      width = rw (c.in_ok-push.ensures.ok, bit) (omega (arith, length-append c.loop-i.word (c.in_ok-bit.bit ∷ []), c.loop-i.invariant.width));
      longer = omega (arith, c.in_ok-bit.ensures.longer);
    }

pub returns-clause-built : goal.returns-clause-built
returns-clause-built c =
    let s = passed c.args.s _ c.ranges.s refl in
    gives_done (all_pairs (select_bit c.args.s) _ c.args.a.now c.args.b.now c.loop-i.i (omega arith) (rw s at c.loop-i.invariant.leads))
