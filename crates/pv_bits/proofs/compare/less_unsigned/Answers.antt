use Rattle.std.proofs.Common.{rules, pos, refl, arith, get_or, to_z, w32}
use Rattle.pv_gate.proofs.ForCallers.{passed, leads_start, leads_each, gives_done, gives_fault_each}
use Rattle.pv_bits.specs.Circuits.{less_bit, less_unsigned}
use Rattle.pv_bits.proofs.Buildings.{building_less_bit}
use Rattle.pv_bits.proofs.Loops.{next_pair, all_pairs}
use Rattle.pv_bits.proofs.compare.less_unsigned.Goals as goal

pub loop-i-init : goal.loop-i-init
unfolding less_unsigned
loop-i-init c = record { leads = leads_start c.args.g.now _ c.nodes-count.ensures.within; names = search rules; longer = omega arith }

pub returns-in_err-so_far-clause-built : goal.returns-in_err-so_far-clause-built
returns-in_err-so_far-clause-built c =
    gives_fault_each less_bit _ _ _ _ _ c.from_residual.ensures.1
    (next_pair less_bit (to_z w32 c.loop-i.so_far-bits) c.args.a.now c.args.b.now c.loop-i.i (omega arith) c.requires.same c.loop-i.invariant.leads)
    building_less_bit
    (rw (passed (get_or c.args.a.now c.loop-i.i (pos 0)) _ (search rules) refl, passed (get_or c.args.b.now c.loop-i.i (pos 0)) _ (search rules) refl) at c.in_err-so_far.ensures.built)

pub loop-i-preserved : goal.loop-i-preserved
loop-i-preserved c = record {
  leads =
      rw (passed c.in_ok-so_far.so_far _ (search rules) refl)
      (leads_each less_bit _ _ _
      (next_pair less_bit (to_z w32 c.loop-i.so_far-bits) c.args.a.now c.args.b.now c.loop-i.i (omega arith) c.requires.same c.loop-i.invariant.leads)
      (rw (passed (get_or c.args.a.now c.loop-i.i (pos 0)) _ (search rules) refl, passed (get_or c.args.b.now c.loop-i.i (pos 0)) _ (search rules) refl) at c.in_ok-so_far.ensures.built));
  names = search rules;
  longer = omega (arith, c.in_ok-so_far.ensures.longer);
}

pub returns-clause-built : goal.returns-clause-built
returns-clause-built c = gives_done (all_pairs less_bit _ c.args.a.now c.args.b.now c.loop-i.i (omega arith) c.loop-i.invariant.leads)
