-- What the frames of a query need of its circuit. These are facts with one proof, so they follow from what the circuit's type keeps.
use Rattle.std.proofs.Common.{◌≡◌, ℕ, ◌+◌, ◌-◌, ◌*◌, ◌≤◌, zero, suc, ℤ, pos, negsuc, List, [], ◌∷◌, ◌++◌, length, All, unsigned_abs, refl, ap, arith, length-append, mul-le-mul}
use Rattle.std.specs.List.{AllByRecursion, count_by}
use Rattle.std.specs.Option.{is_some}
use Rattle.std.proofs.Math.Logic.{∥∥₁_elim, ∥∥₁_map}
use Rattle.std.proofs.Math.Bridge.{le_prop}
use Rattle.std.proofs.lemmas.List.Elements.{All-from_recursion, recursion_from_All}
use Rattle.std.proofs.lemmas.List.FromFn.{length-map-range_with_len}
use Rattle.std.proofs.lemmas.List.Sorted.{All-permutation, length_permutation}
use Rattle.pv_gate.specs.declared.netlist.Node.{Node}
use Rattle.pv_gate.specs.declared.netlist.Node.TheVariants.{Input}
use Rattle.pv_gate.specs.Node.{Names, input_count}
use Rattle.pv_gate.specs.Netlist.{IsNetlist}
use Rattle.pv_gate.proofs.ForCallers.{length-extends}
use Rattle.pv_circuit.specs.declared.start.Start.{Start}
use Rattle.pv_circuit.specs.Circuits.{Circuit, IsCircuit, begin_nodes, input_literals}
use Rattle.pv_cert.specs.declared.proof.Query.{Query}
use Rattle.pv_cert.specs.declared.proof.Query.TheVariants.{Base, Step}
use Rattle.pv_frames.specs.Queries.{IsAsked, first_of, frame_count, frame_at}
use Rattle.pv_frames.specs.Tables.{IsBegin, IsFit}
use Rattle.pv_frames.proofs.Inside.{next-up}
use Rattle.pv_frames.proofs.Counting.{distinct, next-few}

literals-begin : (total m n : ℕ) → m + n ≤ total → AllByRecursion (IsBegin total) (input_literals m n)
literals-begin total m zero le = tt
literals-begin total m (suc n) le =
    (record { positive = refl; from_two = omega arith; to_last = omega arith }, literals-begin total (m + 1) n (omega arith))

all-left : {X : Type 0} (P : X → Type 0) (xs ys : List X) → AllByRecursion P (xs ++ ys) → AllByRecursion P xs
all-left P [] ys h = tt
all-left P (x ∷ xs) ys h = (h.0, all-left P xs ys h.1)

-- the literals of a state's bits and of an input's are as many as the circuit has inputs
pub inputs-are : (c : Circuit) → IsCircuit c → length c.state_in + length c.input ≡ input_count c.nodes
inputs-are c is =
    let long = length_permutation (input_literals 0 (input_count c.nodes)) (c.state_in ++ c.input) is.all_inputs in
    let count = length-map-range_with_len (λ i. pos (2 + i)) 0 (input_count c.nodes) in
    omega (arith, long, count, length-append c.state_in c.input)

pub begins-of : (c : Circuit) → IsCircuit c → All (IsBegin (length c.state_in + length c.input)) c.state_in
begins-of c is =
    let n = length c.state_in + length c.input in
    let all = All-from_recursion (IsBegin n) (input_literals 0 (input_count c.nodes)) (literals-begin n 0 (input_count c.nodes) (omega (arith, inputs-are c is))) in
    let moved = All-permutation (IsBegin n) (input_literals 0 (input_count c.nodes)) (c.state_in ++ c.input) is.all_inputs all in
    All-from_recursion (IsBegin n) c.state_in (all-left (IsBegin n) c.state_in c.input (recursion_from_All (IsBegin n) (c.state_in ++ c.input) moved))

nodes-of : (c : Circuit) → IsCircuit c → 1 + (length c.state_in + length c.input) ≤ length c.nodes
nodes-of c is =
    let long = length-extends (begin_nodes (input_count c.nodes)) c.nodes is.inputs_first in
    let count = length-map-range_with_len {X = Node} (λ i. Input i) 0 (input_count c.nodes) in
    omega (arith, long, count, inputs-are c is)

-- ---- facts with one proof

is-positive : (l : ℤ) → ∥ l ≡ pos (unsigned_abs l) ∥₁ → l ≡ pos (unsigned_abs l)
is-positive (pos n) h = refl
is-positive (negsuc n) h = absurd (omega (arith, ∥∥₁_elim {P = 1 ≤ 0} h le_prop (λ e. let apart : 1 ≡ 0 = ap sign e in omega (arith, apart))))
  where
    sign : ℤ → ℕ
    sign (pos k) = 0
    sign (negsuc k) = 1

begins-kept : (c : Circuit) → ∥ IsCircuit c ∥₁ → All (IsBegin (length c.state_in + length c.input)) c.state_in
begins-kept c h = λ k d lt. record {
  positive = is-positive _ (∥∥₁_map h (λ is. (begins-of c is k d lt).positive));
  from_two = ∥∥₁_elim h le_prop (λ is. (begins-of c is k d lt).from_two);
  to_last = ∥∥₁_elim h le_prop (λ is. (begins-of c is k d lt).to_last);
}

names-kept : (c : Circuit) (ls : List ℤ) → ∥ IsCircuit c ∥₁ → (IsCircuit c → All (Names (length c.nodes)) ls) → All (Names (length c.nodes)) ls
names-kept c ls h f = λ k d lt. record {
  from_one = ∥∥₁_elim h le_prop (λ is. (f is k d lt).from_one);
  to_last = ∥∥₁_elim h le_prop (λ is. (f is k d lt).to_last);
}

name-kept : (c : Circuit) (l : ℤ) → ∥ IsCircuit c ∥₁ → (IsCircuit c → Names (length c.nodes) l) → Names (length c.nodes) l
name-kept c l h f = record {
  from_one = ∥∥₁_elim h le_prop (λ is. (f is).from_one);
  to_last = ∥∥₁_elim h le_prop (λ is. (f is).to_last);
}

-- numbers that are each at most the other are the same
pub same-kept : {A : Type 0} (m n : ℕ) → ∥ A ∥₁ → (A → m ≡ n) → m ≡ n
same-kept m n h f =
    let up : m ≤ n = ∥∥₁_elim h le_prop (λ x. omega (arith, f x)) in
    let down : n ≤ m = ∥∥₁_elim h le_prop (λ x. omega (arith, f x)) in
    omega (arith, up, down)

few-next : (c : Circuit) (start : List Start) (q : Query) → ∥ IsCircuit c ∥₁ → length start ≡ length c.state_in → (j : ℕ)
    → (frame_at c start q j).next
    ≤ 1 + ((length c.nodes - count_by (λ s. is_some (first_of q s)) start) + j * (length c.nodes - (1 + length c.state_in)))
few-next c start q h starts j = ∥∥₁_elim h le_prop (λ is.
    next-few c start q (length c.state_in + length c.input) starts is.same_state (begins-of c is) (nodes-of c is)
    (distinct (input_count c.nodes) c.state_in c.input is.all_inputs) j)

pub few-frames : (q : Query) → IsAsked q → frame_count q ≤ 65
few-frames (Base k) h = omega (arith, h.1)
few-frames (Step k) h = omega (arith, h)

pub some-frames : (q : Query) → IsAsked q → 1 ≤ frame_count q
some-frames (Base k) h = h.0
some-frames (Step k) h = omega arith

pub fit : (c : Circuit) (start : List Start) (q : Query) → ∥ IsCircuit c ∥₁ → IsNetlist c.nodes → length start ≡ length c.state_in → IsAsked q
    → length c.nodes ≤ 30000000 → IsFit c start q
fit c start q h net starts asks small = record {
  netlist = net;
  starts = starts;
  ends = same-kept (length c.state_out) (length c.state_in) h (λ is. is.same_state);
  begins = begins-kept c h;
  state_in = names-kept c c.state_in h (λ is. is.state_in);
  input = names-kept c c.input h (λ is. is.input);
  state_out = names-kept c c.state_out h (λ is. is.state_out);
  ok = name-kept c c.ok h (λ is. is.ok);
  fail = name-kept c c.fail h (λ is. is.fail);
  inputs = ∥∥₁_elim h le_prop (nodes-of c);
  few = λ j le.
      let next = few-next c start q h starts j in
      let frames = few-frames q asks in
      let most = mul-le-mul {n₁ = j} {m₁ = length c.nodes - (1 + length c.state_in)} {n₂ = 65} {m₂ = 30000000} (omega arith) (omega arith) in
      omega (arith, next, most, small);
  inside = λ j lt.
      let last = few-next c start q h starts (frame_count q - 1) in
      let up = next-up c start q j (frame_count q - 1) (omega arith) in
      omega (arith, last, up);
}
