use Rattle.std.proofs.Common.{rules, ◌∷◌, [], pos, refl, arith, length, get_or, length-append, to_z, w32}
use Rattle.std.proofs.lemmas.List.Elements.{All-push}
use Rattle.pv_gate.specs.Node.{Names}
use Rattle.pv_gate.specs.Building.{done}
use Rattle.pv_bits.proofs.Loops.{next_pair_then, all_pairs_then}
use Rattle.pv_gate.proofs.ForCallers.{passed, all_more, leads_start, leads_then, leads_each_then, gives_done, gives_fault, gives_fault_each_then, gives_no_memory, building_done}
use Rattle.pv_bits.specs.Circuits.{adder, adder_bit}
use Rattle.pv_bits.proofs.Buildings.{building_adder_bit}
use Rattle.pv_bits.proofs.sum.adder.Goals as goal

pub loop-i-init : goal.loop-i-init
unfolding adder
loop-i-init c =
    let carry = passed c.args.carry _ c.ranges.carry refl in
    record {
      leads = rw c.new-sum.ensures (leads_start c.args.g.now _ c.nodes-count.ensures.within);
      names = rw c.new-sum.ensures (λ k d lt. absurd (omega arith));
      carry = rw carry c.requires.carry;
      width = rw c.new-sum.ensures refl;
      longer = omega arith;
    }

pub returns-in_err-bit-clause-built : goal.returns-in_err-bit-clause-built
unfolding adder_bit
returns-in_err-bit-clause-built c =
    let carry = passed c.args.carry _ c.ranges.carry refl in
    rw (← carry)
    (gives_fault_each_then adder_bit _ _ _ (λ s. done s.0) _ _ c.from_residual.ensures.1 (next_pair_then adder_bit (c.loop-i.sum, (to_z w32 c.loop-i.carry-bits)) (λ s. done s.0) c.args.a.now c.args.b.now c.loop-i.i (omega arith) c.requires.same c.loop-i.invariant.leads)
    building_adder_bit (λ s. building_done s.0)
    (gives_fault _ _ _ refl (leads_start c.loop-i.g _ c.loop-i.invariant.leads.within) (λ o. building_done _) (rw (passed (get_or c.args.a.now c.loop-i.i (pos 0)) _ (search rules) refl, passed (get_or c.args.b.now c.loop-i.i (pos 0)) _ (search rules) refl) at c.in_err-bit.ensures.built)))

pub returns-in_err-push-clause-built : goal.returns-in_err-push-clause-built
unfolding adder_bit
returns-in_err-push-clause-built c =
    let carry = passed c.args.carry _ c.ranges.carry refl in
    rw (← carry) (gives_no_memory _ c.from_residual-in_err-push.ensures.1 (leads_each_then adder_bit _ _ _ (λ s. done s.0) (next_pair_then adder_bit (c.loop-i.sum, (to_z w32 c.loop-i.carry-bits)) (λ s. done s.0) c.args.a.now c.args.b.now c.loop-i.i (omega arith) c.requires.same c.loop-i.invariant.leads) (gives_done (leads_then _ (leads_start c.loop-i.g _ c.loop-i.invariant.leads.within) (rw (passed (get_or c.args.a.now c.loop-i.i (pos 0)) _ (search rules) refl, passed (get_or c.args.b.now c.loop-i.i (pos 0)) _ (search rules) refl) at c.in_ok-bit.ensures.built)))))

pub loop-i-preserved : goal.loop-i-preserved
unfolding adder_bit
loop-i-preserved c =
    let bit = passed c.in_ok-bit.bit _ (search rules) refl in
    let next = passed c.in_ok-bit.next _ (search rules) refl in
    record {
      leads = rw (c.in_ok-push.ensures.ok, bit, next) (leads_each_then adder_bit _ _ _ (λ s. done s.0) (next_pair_then adder_bit (c.loop-i.sum, (to_z w32 c.loop-i.carry-bits)) (λ s. done s.0) c.args.a.now c.args.b.now c.loop-i.i (omega arith) c.requires.same c.loop-i.invariant.leads) (gives_done (leads_then _ (leads_start c.loop-i.g _ c.loop-i.invariant.leads.within) (rw (passed (get_or c.args.a.now c.loop-i.i (pos 0)) _ (search rules) refl, passed (get_or c.args.b.now c.loop-i.i (pos 0)) _ (search rules) refl) at c.in_ok-bit.ensures.built))));
      names = rw (c.in_ok-push.ensures.ok, bit) (All-push (Names (length c.full_adder.new.g.nodes)) c.loop-i.sum c.in_ok-bit.bit (all_more (length c.loop-i.g.nodes) (length c.full_adder.new.g.nodes) c.loop-i.sum (omega (arith, c.in_ok-bit.ensures.longer)) c.loop-i.invariant.names) c.in_ok-bit.ensures.sum);
      carry = rw next c.in_ok-bit.ensures.next;
      width = rw (c.in_ok-push.ensures.ok, bit) (omega (arith, length-append c.loop-i.sum (c.in_ok-bit.bit ∷ []), c.loop-i.invariant.width));
      longer = omega (arith, c.in_ok-bit.ensures.longer);
    }

pub returns-clause-built : goal.returns-clause-built
returns-clause-built c =
    let carry = passed c.args.carry _ c.ranges.carry refl in
    rw (← carry) (gives_done (all_pairs_then adder_bit _ (λ s. done s.0) c.args.a.now c.args.b.now c.loop-i.i (omega arith) c.loop-i.invariant.leads))
