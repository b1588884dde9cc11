use Rattle.std.proofs.Common.{rules, ◌+◌, ◌-◌, ◌++◌, ◌∷◌, [], pos, refl, ap, sym, ◌∙◌, arith, length, length-append, get_or}
use Rattle.std.specs.Prelude.{reverse}
use Rattle.std.proofs.lemmas.List.{get_or-reverse, length-reverse, length-replicate, reverse-append}
use Rattle.std.proofs.lemmas.List.Elements.{All-push, All-take}
use Rattle.pv_gate.specs.Node.{Names, false_literal}
use Rattle.pv_gate.specs.Building.{done}
use Rattle.pv_bits.proofs.Loops.{next_bit_then, all_bits_then, all_reverse}
use Rattle.pv_gate.proofs.ForCallers.{passed, all_more, leads_start, leads_then, leads_each_then, gives_done, gives_fault, gives_fault_each_then, building_done}
use Rattle.pv_bits.specs.Circuits.{divide_unsigned, divide_bit, below_top}
use Rattle.pv_bits.proofs.Buildings.{building_divide_bit}
use Rattle.pv_bits.proofs.quotient.divide_unsigned.Goals as goal

pub loop-i-init : goal.loop-i-init
unfolding divide_unsigned
loop-i-init c = record {
  leads = rw (c.new-quotient.ensures, c.in_ok-left.ensures.word) (leads_start c.args.g.now _ c.nodes-count.ensures.within);
  quotient = rw c.new-quotient.ensures (λ k d lt. absurd (omega arith));
  left = c.in_ok-left.ensures.names;
  quotient_width = rw c.new-quotient.ensures refl;
  left_width = rw c.in_ok-left.ensures.word (length-replicate (length c.args.a.now + 1) false_literal);
  longer = omega arith;
}

pub returns-in_err-bit-clause-built : goal.returns-in_err-bit-clause-built
unfolding divide_bit
returns-in_err-bit-clause-built c =
    gives_fault_each_then (divide_bit (c.args.b.now ++ false_literal ∷ [])) _ _ _ (λ s. done (s.0, below_top s.1)) _ _ c.from_residual-in_err-bit.ensures.1 (next_bit_then (divide_bit (c.args.b.now ++ false_literal ∷ [])) (reverse c.loop-i.quotient, c.loop-i.left) (λ s. done (s.0, below_top s.1)) (reverse c.args.a.now) c.loop-i.i (omega (arith, length-reverse c.args.a.now)) c.loop-i.invariant.leads)
    (building_divide_bit (c.args.b.now ++ false_literal ∷ [])) (λ s. building_done _)
    (gives_fault _ _ _ refl (leads_start c.loop-i.g _ c.loop-i.invariant.leads.within) (λ o. building_done _) (rw (c.as_slice.ensures, c.in_ok-wide.ensures.word, c.as_slice-in-loop-i.ensures, passed (get_or c.args.a.now (length c.args.a.now - 1 - c.loop-i.i) (pos 0)) _ (search rules) (sym (get_or-reverse c.args.a.now c.loop-i.i (pos 0) (omega arith)))) at c.in_err-bit.ensures.built))

pub loop-i-preserved : goal.loop-i-preserved
unfolding divide_bit
loop-i-preserved c =
    let bit = passed c.in_ok-bit.bit _ (search rules) refl in
    record {
      leads = rw (c.in_ok-push.ensures.ok, bit, reverse-append c.loop-i.quotient (c.in_ok-bit.bit ∷ [])) (leads_each_then (divide_bit (c.args.b.now ++ false_literal ∷ [])) _ _ _ (λ s. done (s.0, below_top s.1)) (next_bit_then (divide_bit (c.args.b.now ++ false_literal ∷ [])) (reverse c.loop-i.quotient, c.loop-i.left) (λ s. done (s.0, below_top s.1)) (reverse c.args.a.now) c.loop-i.i (omega (arith, length-reverse c.args.a.now)) c.loop-i.invariant.leads) (gives_done (leads_then _ (leads_start c.loop-i.g _ c.loop-i.invariant.leads.within) (rw (c.as_slice.ensures, c.in_ok-wide.ensures.word, c.as_slice-in-loop-i.ensures, passed (get_or c.args.a.now (length c.args.a.now - 1 - c.loop-i.i) (pos 0)) _ (search rules) (sym (get_or-reverse c.args.a.now c.loop-i.i (pos 0) (omega arith)))) at c.in_ok-bit.ensures.built))));
      quotient = rw (c.in_ok-push.ensures.ok, bit) (All-push (Names (length c.divide_step.new.g.nodes)) c.loop-i.quotient c.in_ok-bit.bit (all_more (length c.loop-i.g.nodes) (length c.divide_step.new.g.nodes) c.loop-i.quotient (omega (arith, c.in_ok-bit.ensures.longer)) c.loop-i.invariant.quotient) c.in_ok-bit.ensures.bit);
      left = c.in_ok-bit.ensures.left;
      quotient_width = rw (c.in_ok-push.ensures.ok, bit) (omega (arith, length-append c.loop-i.quotient (c.in_ok-bit.bit ∷ []), c.loop-i.invariant.quotient_width));
      left_width = c.in_ok-bit.ensures.width ∙ (ap length c.as_slice-in-loop-i.ensures ∙ c.loop-i.invariant.left_width);
      longer = omega (arith, c.in_ok-bit.ensures.longer);
    }

pub returns-clause-built : goal.returns-clause-built
returns-clause-built c =
    rw (c.reverse.ensures, c.in_ok-remainder.ensures, c.below_top.ensures, c.as_slice-2.ensures)
    (gives_done (all_bits_then (divide_bit (c.args.b.now ++ false_literal ∷ [])) _ (λ s. done (s.0, below_top s.1)) (reverse c.args.a.now) c.loop-i.i (omega (arith, length-reverse c.args.a.now)) c.loop-i.invariant.leads))

pub returns-clause-quotient : goal.returns-clause-quotient
returns-clause-quotient c = rw c.reverse.ensures (all_reverse (length c.loop-i.g.nodes) c.loop-i.quotient c.loop-i.invariant.quotient)

pub returns-clause-remainder : goal.returns-clause-remainder
returns-clause-remainder c =
    rw (c.in_ok-remainder.ensures, c.below_top.ensures, c.as_slice-2.ensures) (All-take (Names (length c.loop-i.g.nodes)) (length c.loop-i.left - 1) c.loop-i.left c.loop-i.invariant.left)
