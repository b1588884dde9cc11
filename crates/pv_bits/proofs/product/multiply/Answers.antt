use Rattle.std.proofs.Common.{rules, pos, refl, ap, ◌∙◌, arith, length, get_or}
use Rattle.std.proofs.lemmas.List.{length-replicate}
use Rattle.pv_gate.specs.Node.{false_literal}
use Rattle.pv_gate.specs.Building.{done}
use Rattle.pv_bits.proofs.Loops.{next_bit_then, all_bits_then}
use Rattle.pv_gate.proofs.ForCallers.{passed, leads_start, leads_each_then, gives_done, gives_fault_each_then, building_done}
use Rattle.pv_bits.specs.Circuits.{multiply, multiply_bit}
use Rattle.pv_bits.proofs.Buildings.{building_multiply_bit}
use Rattle.pv_bits.proofs.product.multiply.Goals as goal

pub loop-i-init : goal.loop-i-init
unfolding multiply
loop-i-init c = record {
  leads = rw (c.in_ok-sum.ensures.word, c.in_ok-part.ensures) (leads_start c.args.g.now _ c.nodes-count.ensures.within);
  sum = c.in_ok-sum.ensures.names;
  part = rw c.in_ok-part.ensures c.requires.first;
  sum_width = rw c.in_ok-sum.ensures.word (length-replicate (length c.args.a.now) false_literal);
  part_width = rw c.in_ok-part.ensures refl;
  longer = omega arith;
}

pub returns-in_err-next-clause-built : goal.returns-in_err-next-clause-built
returns-in_err-next-clause-built c =
    gives_fault_each_then multiply_bit _ _ _ (λ s. done s.0) _ _ c.from_residual-in_err-next.ensures.1 (next_bit_then multiply_bit (c.loop-i.sum, c.loop-i.part) (λ s. done s.0) c.args.b.now c.loop-i.i (omega arith) c.loop-i.invariant.leads)
    building_multiply_bit (λ s. building_done s.0) (rw (c.as_slice.ensures, c.as_slice-in-loop-i.ensures, passed (get_or c.args.b.now c.loop-i.i (pos 0)) _ (search rules) refl) at c.in_err-next.ensures.built)

pub loop-i-preserved : goal.loop-i-preserved
loop-i-preserved c = record {
  leads = leads_each_then multiply_bit _ _ _ (λ s. done s.0) (next_bit_then multiply_bit (c.loop-i.sum, c.loop-i.part) (λ s. done s.0) c.args.b.now c.loop-i.i (omega arith) c.loop-i.invariant.leads) (rw (c.as_slice.ensures, c.as_slice-in-loop-i.ensures, passed (get_or c.args.b.now c.loop-i.i (pos 0)) _ (search rules) refl) at c.in_ok-next.ensures.built);
  sum = c.in_ok-next.ensures.sum;
  part = c.in_ok-next.ensures.part;
  sum_width = c.in_ok-next.ensures.sum_width ∙ (ap length c.as_slice.ensures ∙ c.loop-i.invariant.sum_width);
  part_width = c.in_ok-next.ensures.part_width ∙ (ap length c.as_slice-in-loop-i.ensures ∙ c.loop-i.invariant.part_width);
  longer = omega (arith, c.in_ok-next.ensures.longer);
}

pub returns-clause-built : goal.returns-clause-built
returns-clause-built c = gives_done (all_bits_then multiply_bit _ (λ s. done s.0) c.args.b.now c.loop-i.i (omega arith) c.loop-i.invariant.leads)
