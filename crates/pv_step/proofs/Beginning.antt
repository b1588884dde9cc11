-- The nodes before a scan, one by one, and the literals with which it begins.
use Rattle.std.proofs.Common.{◌≡◌, ◌+◌, ◌<◌, ◌≤◌, ℕ, zero, suc, ℤ, pos, List, [], ◌∷◌, ◌++◌, length, map, refl, sym, ◌∙◌, ap, subst}
use Rattle.std.proofs.Common.{arith}
use Rattle.std.proofs.Common.{Bool, true, false, cond, not, take, to_z, of_z, w32}
use Rattle.std.proofs.Common.{Some}
use Rattle.std.specs.List.{count_by, range_with_len, slice_get}
use Rattle.std.proofs.lemmas.Int.{to_z-of_z}
use Rattle.std.proofs.lemmas.List.Sums.{sum_by_push}
use Rattle.std.proofs.lemmas.List.FromFn.{map-range_with_len_more, length-map-range_with_len, get_or-map-range_with_len}
use Rattle.std.proofs.lemmas.Option.{slice_get-get_or}
use mir.Val.{SFits}
use Rattle.pv_gate.specs.declared.netlist.Node.{Node}
use Rattle.pv_gate.specs.declared.netlist.Node.TheVariants.{True, Input}
use Rattle.pv_gate.specs.Node.{is_gate, is_input, gate_count, input_count}
use Rattle.pv_gate.specs.Netlist.{Netlist, IsNetlist, MayFollow}
use Rattle.pv_gate.specs.Build.{input_gate}
use Rattle.pv_gate.specs.Value.{value_of, node_values, literal_value}
use Rattle.pv_gate.proofs.ForCallers.{IsNetlist-push, node_values_at}
use Rattle.pv_bool.specs.declared.program.Bit.{Bit}
use Rattle.pv_circuit.specs.Circuits.{begin_nodes, input_literals}
use Rattle.pv_step.specs.Circuits.{begin_literals}

begin_nodes-more : (n : ℕ) → begin_nodes (n + 1) ≡ begin_nodes n ++ Input n ∷ []
begin_nodes-more n = ap (λ (ns : List Node). True ∷ ns) (map-range_with_len_more (λ i. Input i) 0 n n (omega arith))

pub length-begin_nodes : (n : ℕ) → length (begin_nodes n) ≡ 1 + n
length-begin_nodes n = omega (arith, length-map-range_with_len {X = Node} (λ i. Input i) 0 n)

count-more : (test : Node → Bool) (n : ℕ) (b : Bool) → test (Input n) ≡ b
    → count_by test (begin_nodes (n + 1)) ≡ count_by test (begin_nodes n) + cond b 1 0
count-more test n b is =
    ap (count_by test) (begin_nodes-more n)
    ∙ (sum_by_push (λ x. cond (test x) 1 0) (begin_nodes n) (Input n) ∙ ap (λ t. count_by test (begin_nodes n) + cond t 1 0) is)

pub input_count-begin : (n : ℕ) → input_count (begin_nodes n) ≡ n
input_count-begin zero = refl
input_count-begin (suc n) =
    let next : suc n ≡ n + 1 = omega arith in
    ap (λ m. input_count (begin_nodes m)) next ∙ omega (arith, count-more is_input n true refl, input_count-begin n)

pub gate_count-begin : (n : ℕ) → gate_count (begin_nodes n) ≡ 0
gate_count-begin zero = refl
gate_count-begin (suc n) =
    let next : suc n ≡ n + 1 = omega arith in
    ap (λ m. gate_count (begin_nodes m)) next ∙ omega (arith, count-more is_gate n false refl, gate_count-begin n)

-- ---- they are in order, and an input has its own value

one_netlist : IsNetlist (True ∷ [])
one_netlist = record { first = refl; each = λ k node at. alone k node at }
  where
    alone : (k : ℕ) (node : Node) → slice_get (True ∷ []) k ≡ Some node → MayFollow (take k (True ∷ [])) node
    alone zero node at = let e : True ≡ node = cc in let P : Node → Type 0 = λ x. MayFollow [] x in subst P e refl
    alone (suc k) node at = cc

pub netlist_begin : (n : ℕ) → IsNetlist (begin_nodes n)
netlist_begin zero = one_netlist
netlist_begin (suc n) =
    let next : n + 1 ≡ suc n = omega arith in
    let P : List Node → Type 0 = λ ns. IsNetlist ns in
    subst P (sym (begin_nodes-more n) ∙ ap begin_nodes next) (IsNetlist-push (begin_nodes n) (Input n) (netlist_begin n)
    (sym (input_count-begin n)))

pub begin_value : (inputs : ℕ → Bool) (n k : ℕ) → k < n → value_of inputs (begin_nodes n) (pos (2 + k)) ≡ inputs k
unfolding value_of
begin_value inputs n k lt =
    let e : 2 + k ≡ suc (suc k) = omega arith in
    let nodes = map (λ i. Input i) (range_with_len 0 n) in
    let within : k < length nodes = omega (arith, length-map-range_with_len {X = Node} (λ i. Input i) 0 n) in
    let at : slice_get (begin_nodes n) (suc k) ≡ Some (Input k) =
    slice_get-get_or nodes k True within ∙ ap Some (get_or-map-range_with_len (λ i. Input i) 0 n k k True lt (omega arith)) in
    ap (λ m. literal_value (node_values inputs (begin_nodes n)) (pos m)) e
    ∙ node_values_at inputs (begin_nodes n) (suc k) (Input k) (netlist_begin n) at

-- ---- the literals

pub length-begin_literals : (bits : List Bit) → length (begin_literals bits) ≡ length bits
length-begin_literals bits = length-map-range_with_len {X = ℤ} (λ i. pos (2 + i)) 0 (length bits)

input_literals-more : (n : ℕ) → input_literals 0 (n + 1) ≡ input_literals 0 n ++ pos (2 + n) ∷ []
input_literals-more n = map-range_with_len_more (λ i. pos (2 + i)) 0 n n (omega arith)

-- ---- the loop that makes them

-- the nodes behind one more input
pub next_nodes : (k : ℕ) (old before after : Netlist) → before ≡ record old { nodes = begin_nodes k }
    → after ≡ record before { nodes = (input_gate before.nodes).nodes } → after ≡ record old { nodes = begin_nodes (k + 1) }
next_nodes k old before after at made =
    let of : List Node → Netlist = λ ns. record old { nodes = ns } in
    let one : Netlist → Netlist = λ g. record g { nodes = (input_gate g.nodes).nodes } in
    let named : ℕ → Netlist = λ i. of (begin_nodes k ++ Input i ∷ []) in
    made ∙ (ap one at ∙ (ap named (input_count-begin k) ∙ ap of (sym (begin_nodes-more k))))

-- and its literal behind the others
pub next_literals : (k : ℕ) (old gates : Netlist) (before after : List ℤ) (literal : ℤ) → gates ≡ record old { nodes = begin_nodes k }
    → before ≡ input_literals 0 k → literal ≡ (input_gate gates.nodes).literal → after ≡ before ++ literal ∷ []
    → after ≡ input_literals 0 (k + 1)
next_literals k old gates before after literal at so_far made grown =
    let e : suc (length (begin_nodes k)) ≡ 2 + k = omega (arith, length-begin_nodes k) in
    let is : literal ≡ pos (2 + k) = made ∙ (ap (λ (g : Netlist). (input_gate g.nodes).literal) at ∙ ap pos e) in
    grown ∙ (ap (λ ls. ls ++ literal ∷ []) so_far ∙ (ap (λ l. input_literals 0 k ++ l ∷ []) is ∙ sym (input_literals-more k)))

-- a list after a push of a signed number
pub pushed : (xs ys : List ℤ) (ok err : Bool) (z : ℤ) → ys ≡ cond ok (xs ++ to_z w32 (of_z w32 z) ∷ []) xs → ok ≡ not err → err ≡ false
    → SFits w32 z → ys ≡ xs ++ z ∷ []
pushed xs ys ok err z e f h fits =
    let grown = λ (b : Bool). cond b (xs ++ to_z w32 (of_z w32 z) ∷ []) xs in
    e ∙ (ap grown (f ∙ ap not h) ∙ ap (λ l. xs ++ l ∷ []) (to_z-of_z w32 z fits))

-- there is room for another input
pub room : (k n most : ℕ) (old gates : Netlist) → gates ≡ record old { nodes = begin_nodes k } → k < n → n ≤ most
    → input_count gates.nodes < most
room k n most old gates at lt few = omega (arith, ap (λ (g : Netlist). input_count g.nodes) at, input_count-begin k)
