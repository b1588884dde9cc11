-- The index and the counts agree with the nodes as one more node comes.
use Rattle.std.proofs.Common.{◌≡◌, ℕ, ◌+◌, ◌<◌, ℤ, pos, suc, Bool, true, false, List, [], ◌∷◌, ◌++◌, length, refl, sym, ◌∙◌, ap, subst, cond, arith, Some, None, Option, Ok, Err, Result, OnOk}
use Rattle.std.specs.Result.{is_err}
use Rattle.std.specs.Map.{lookup}
use Rattle.std.specs.BTreeMap.{BTreeMap, get}
use Rattle.std.specs.declared.cmp.Ordering.{Ordering}
use Rattle.std.specs.List.{count_by}
use Rattle.std.specs.Option.{option_map, option_or}
use Rattle.std.specs.Ordering.{is_eq}
use Rattle.std.proofs.lemmas.List.{length_push}
use Rattle.std.proofs.lemmas.List.Sums.{sum_by_push}
use Rattle.pv_gate.specs.declared.netlist.TheConstants.{MAX_INPUTS}
use Rattle.pv_gate.specs.declared.netlist.Node.{Node}
use Rattle.pv_gate.specs.declared.netlist.Node.TheVariants.{True, Input, And, Xor, Mux}
use Rattle.pv_gate.specs.Node.{is_same, is_gate, is_input, gate_count, input_count}
use Rattle.pv_gate.specs.Netlist.{Netlist, MayFollow}
use Rattle.pv_gate.specs.declared.literal.Literal.{Literal}
use Rattle.pv_gate.specs.Build.{number_of}
use Rattle.pv_gate.specs.Index.{IsKept, Lookup, node_cmp}
use Rattle.pv_gate.proofs.Nodes.{is_eq-node_cmp, is_same-true}
use Rattle.pv_gate.proofs.Lists.{IsNetlist-push, number_from-push}
use Rattle.pv_gate.proofs.Given.{gate_count-push}

count_push : (test : Node → Bool) (nodes : List Node) (node : Node) (b : Bool) → test node ≡ b → count_by test (nodes ++ node ∷ []) ≡ count_by test nodes + cond b 1 0
count_push test nodes node b h = sum_by_push _ nodes node ∙ ap (λ t. count_by test nodes + cond t 1 0) h

gate_no_input : (node : Node) → is_gate node ≡ true → is_input node ≡ false
gate_no_input True h = cc
gate_no_input (Input n) h = cc
gate_no_input (And a b) h = refl
gate_no_input (Xor a b) h = refl
gate_no_input (Mux s a b) h = refl

input_apart : (n : ℕ) (q : Node) → is_gate q ≡ true → is_same (Input n) q ≡ false
input_apart n True h = cc
input_apart n (Input m) h = cc
input_apart n (And a b) h = refl
input_apart n (Xor a b) h = refl
input_apart n (Mux s a b) h = refl

finds_step : (b : Bool) (o : Option ℕ) (f : Option ℤ) (n m : ℕ) → (b ≡ true → o ≡ None) → m ≡ n → f ≡ option_map pos o → cond b (Some (pos n)) f ≡ option_map pos (option_or o (cond b (Some m) None))
finds_step true None f n m new e h = ap (λ k. Some (pos k)) (sym e)
finds_step true (Some k) f n m new e h = cc (new refl)
finds_step false None f n m new e h = h
finds_step false (Some k) f n m new e h = h

-- a gate that is new
pub kept_gate : (nodes : List Node) (find found : Lookup) (gates inputs limit : ℕ) (node : Node) → IsKept nodes find gates inputs limit → is_gate node ≡ true → MayFollow nodes node → number_of node nodes ≡ None → gate_count nodes < limit → ((q : Node) → found q ≡ cond (is_eq (node_cmp node q)) (Some (pos (suc (length nodes)))) (find q)) → IsKept (nodes ++ node ∷ []) found (gates + 1) inputs limit
kept_gate nodes find found gates inputs limit node h gate follows new room says = record {
  netlist = IsNetlist-push nodes node h.netlist follows;
  gates_are = omega (arith, gate_count-push nodes node gate, h.gates_are);
  inputs_are = omega (arith, count_push is_input nodes node false (gate_no_input node gate), h.inputs_are);
  all = omega (arith, length_push nodes node, h.all);
  within = omega (arith, h.gates_are);
  few_gates = h.few_gates;
  few_inputs = h.few_inputs;
  finds = λ q is.
      says q
      ∙ (ap (λ b. cond b (Some (pos (suc (length nodes)))) (find q)) (is_eq-node_cmp node q)
      ∙ (finds_step (is_same node q) (number_of q nodes) (find q) (suc (length nodes)) (1 + length nodes)
      (λ e. subst (λ x. number_of x nodes ≡ None) (is_same-true node q e) new) (omega arith) (h.finds q is)
      ∙ ap (option_map pos) (sym (number_from-push 1 q nodes node))));
}

-- an input
pub kept_input : (nodes : List Node) (find : Lookup) (gates inputs limit : ℕ) → IsKept nodes find gates inputs limit → inputs < MAX_INPUTS → IsKept (nodes ++ Input inputs ∷ []) find gates (inputs + 1) limit
kept_input nodes find gates inputs limit h room = record {
  netlist = IsNetlist-push nodes (Input inputs) h.netlist h.inputs_are;
  gates_are = omega (arith, count_push is_gate nodes (Input inputs) false refl, h.gates_are);
  inputs_are = omega (arith, count_push is_input nodes (Input inputs) true refl, h.inputs_are);
  all = omega (arith, length_push nodes (Input inputs), h.all);
  within = h.within;
  few_gates = h.few_gates;
  few_inputs = omega arith;
  finds = λ q is.
      finds_step false (number_of q nodes) (find q) 0 0 (λ e. cc) refl (h.finds q is)
      ∙ ap (option_map pos) (ap (λ b. option_or (number_of q nodes) (cond b (Some (1 + length nodes)) None)) (sym (input_apart inputs q is)) ∙ sym (number_from-push 1 q nodes (Input inputs)));
}

-- ---- the same in the terms of the code

pub kept_gate_at : (old : Netlist) (nodes : List Node) (find found : Lookup) (gates inputs limit : ℕ) (node : Node) → record { nodes = nodes; limit = limit } ≡ old → IsKept nodes find gates inputs limit → is_gate node ≡ true → MayFollow old.nodes node → number_of node old.nodes ≡ None → gate_count old.nodes < old.limit → ((q : Node) → found q ≡ cond (is_eq (node_cmp node q)) (Some (pos (suc (length nodes)))) (find q)) → IsKept (nodes ++ node ∷ []) found (gates + 1) inputs limit
kept_gate_at old nodes find found gates inputs limit node e h gate =
    subst (λ (o : Netlist). MayFollow o.nodes node → number_of node o.nodes ≡ None → gate_count o.nodes < o.limit → ((q : Node) → found q ≡ cond (is_eq (node_cmp node q)) (Some (pos (suc (length nodes)))) (find q)) → IsKept (nodes ++ node ∷ []) found (gates + 1) inputs limit)
    e (kept_gate nodes find found gates inputs limit node h gate)

pub kept_input_at : (old : Netlist) (nodes : List Node) (find : Lookup) (gates inputs limit : ℕ) → record { nodes = nodes; limit = limit } ≡ old → IsKept nodes find gates inputs limit → input_count old.nodes < MAX_INPUTS → IsKept (nodes ++ Input inputs ∷ []) find gates (inputs + 1) limit
kept_input_at old nodes find gates inputs limit e h room =
    kept_input nodes find gates inputs limit h (omega (arith, h.inputs_are, ap (λ (o : Netlist). input_count o.nodes) e))

pub kept_as : (xs ys : List Node) (find : Lookup) (gates inputs limit : ℕ) → xs ≡ ys → IsKept ys find gates inputs limit → IsKept xs find gates inputs limit
kept_as xs ys find gates inputs limit e h = subst (λ zs. IsKept zs find gates inputs limit) (sym e) h

says_step : (b : Bool) (l : Literal) (before after : Option Literal) (z : ℤ) → l.code ≡ z → after ≡ cond b (Some l) before → option_map (λ (x : Literal). x.code) after ≡ cond b (Some z) (option_map (λ (x : Literal). x.code) before)
says_step true l before after z e h = ap (option_map (λ (x : Literal). x.code)) h ∙ ap Some e
says_step false l before after z e h = ap (option_map (λ (x : Literal). x.code)) h

lookup_congr : (t u : Node → Bool) → ((x : Node) → t x ≡ u x) → (es : List (Node × Literal)) → lookup t es ≡ lookup u es
lookup_congr t u same [] = refl
lookup_congr t u same (e ∷ es) =
    ap (λ b. cond b (Some e.1) (lookup t es)) (same e.0) ∙ ap (cond (u e.0) (Some e.1)) (lookup_congr t u same es)

get_congr : (R : Node → Node → Ordering) → ((x y : Node) → R x y ≡ node_cmp x y) → (m : BTreeMap Node Literal) (q : Node) → get R m q ≡ get node_cmp m q
get_congr R same m q = lookup_congr (λ x. is_eq (R q x)) (λ x. is_eq (node_cmp q x)) (λ x. ap is_eq (same q x)) m.entries

-- what an insertion says of the look-up
pub found_says : (R : Node → Node → Ordering) → ((x y : Node) → R x y ≡ node_cmp x y) → (m n : BTreeMap Node Literal) (node : Node) (l : Literal) (z : ℤ) → l.code ≡ z → ((q : Node) → get R n q ≡ cond (is_eq (R node q)) (Some l) (get R m q)) → (q : Node) → option_map (λ (x : Literal). x.code) (get node_cmp n q) ≡ cond (is_eq (node_cmp node q)) (Some z) (option_map (λ (x : Literal). x.code) (get node_cmp m q))
found_says R same m n node l z e h q =
    says_step (is_eq (node_cmp node q)) l (get node_cmp m q) (get node_cmp n q) z e
    (sym (get_congr R same n q) ∙ (h q ∙ (ap (λ o. cond (is_eq o) (Some l) (get R m q)) (same node q) ∙ ap (cond (is_eq (node_cmp node q)) (Some l)) (get_congr R same m q))))

pub on_ok_at : {T E : Type 0} (r : Result T E) (P : Type 0) → is_err r ≡ false → OnOk r P → P
on_ok_at (Ok x) P e h = h
on_ok_at (Err x) P e h = cc
