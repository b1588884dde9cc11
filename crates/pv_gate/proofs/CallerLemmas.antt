-- What crates above cite: how circuits grow over several calls, and what the values of all nodes are.
use Rattle.std.proofs.Common.{◌≡◌, ℕ, ◌<◌, ◌≤◌, suc, zero, Bool, false, List, [], ◌++◌, length, take, get_or, sym, ◌∙◌, ap, subst, cond, arith, Some, inl, inr, append_assoc, append-nil, length-append, length-take-le}
use Rattle.std.specs.List.{slice_get}
use Rattle.std.proofs.lemmas.Bool.{cases_eq}
use Rattle.std.proofs.lemmas.List.{ext_get_or}
use Rattle.std.proofs.lemmas.List.Sums.{sum_by-append}
use Rattle.std.proofs.lemmas.Option.{slice_get-get_or}
use Rattle.pv_gate.specs.declared.netlist.Node.{Node}
use Rattle.pv_gate.specs.declared.netlist.Node.TheVariants.{True}
use Rattle.pv_gate.specs.Node.{is_gate, is_input, gate_count, input_count}
use Rattle.pv_gate.specs.Netlist.{IsNetlist, Extends, KeepsValues}
use Rattle.pv_gate.specs.Value.{node_value, node_values}
use Rattle.pv_gate.proofs.Building.{Names-more}
use Rattle.pv_gate.proofs.Values.{node_value_agrees, node_values_at, length-values_after}

pub extends_itself : (nodes : List Node) → Extends nodes nodes
extends_itself nodes = record { added = []; is = sym (append-nil nodes) }

pub extends_twice : (a b c : List Node) → Extends a b → Extends b c → Extends a c
extends_twice a b c p q = record {
  added = p.added ++ q.added;
  is = q.is ∙ (ap (λ xs. xs ++ q.added) p.is ∙ append_assoc a p.added q.added);
}

pub length-extends : (a b : List Node) → Extends a b → length a ≤ length b
length-extends a b p = omega (arith, ap (λ (xs : List Node). length xs) p.is, length-append a p.added)

pub gate_count-extends : (a b : List Node) → Extends a b → gate_count a ≤ gate_count b
gate_count-extends a b p = omega (arith, ap gate_count p.is, sum_by-append (λ x. cond (is_gate x) 1 0) a p.added)

pub input_count-extends : (a b : List Node) → Extends a b → input_count a ≤ input_count b
input_count-extends a b p = omega (arith, ap input_count p.is, sum_by-append (λ x. cond (is_input x) 1 0) a p.added)

pub keeps_twice : (a b c : List Node) → length a ≤ length b → KeepsValues a b → KeepsValues b c → KeepsValues a c
keeps_twice a b c longer p q inputs l names =
    q inputs l (Names-more (length a) (length b) l longer names) ∙ p inputs l names

pub length-node_values : (inputs : ℕ → Bool) (nodes : List Node) → length (node_values inputs nodes) ≡ length nodes
length-node_values inputs nodes = omega (arith, length-values_after inputs [] nodes)

-- values that agree with each node's operands agree with its value, up to each place
agree_below : (inputs : ℕ → Bool) (nodes : List Node) (vs : List Bool) → IsNetlist nodes → ((k : ℕ) (node : Node) → slice_get nodes k ≡ Some node → get_or vs k false ≡ node_value inputs vs node) → (n : ℕ) → n ≤ length nodes → (k : ℕ) → k < n → get_or vs k false ≡ get_or (node_values inputs nodes) k false
agree_below inputs nodes vs h each zero le k below = absurd (omega arith)
agree_below inputs nodes vs h each (suc n) le k below =
    elim (cases_eq k n) [
      | inl e ↦
          let at : slice_get nodes n ≡ Some (get_or nodes n True) = slice_get-get_or nodes n True (omega arith) in
          let t : length (take n nodes) ≡ n = length-take-le n nodes (omega arith) in
          subst (λ i. get_or vs i false ≡ get_or (node_values inputs nodes) i false) (sym e)
          (each n (get_or nodes n True) at
          ∙ (node_value_agrees inputs (take n nodes) (node_values inputs nodes) vs
          (λ i low. agree_below inputs nodes vs h each n (omega arith) i (omega (arith, t)))
          (get_or nodes n True) (h.each n (get_or nodes n True) at)
          ∙ sym (node_values_at inputs nodes n (get_or nodes n True) h at)))
      | inr ne ↦ agree_below inputs nodes vs h each n (omega arith) k (omega arith)
    ]

-- there is one list of values in which each node has the value that its operands make
pub node_values_only : (inputs : ℕ → Bool) (nodes : List Node) (vs : List Bool) → IsNetlist nodes → length vs ≡ length nodes → ((k : ℕ) (node : Node) → slice_get nodes k ≡ Some node → get_or vs k false ≡ node_value inputs vs node) → vs ≡ node_values inputs nodes
node_values_only inputs nodes vs h len each =
    ext_get_or false vs (node_values inputs nodes) (len ∙ sym (length-node_values inputs nodes))
    (λ k below. agree_below inputs nodes vs h each (length nodes) (omega arith) k (omega (arith, len)))
