-- How many nodes a circuit has, what is built is it, and how many bits its runs have.
use Rattle.std.proofs.Common.{◌≡◌, ℕ, suc, ◌+◌, ◌≤◌, ℤ, pos, Bool, List, [], ◌∷◌, ◌++◌, length, map, take, cond, Some, refl, sym, ◌∙◌, ap, subst, arith, length-append}
use Rattle.std.specs.Prelude.{slice_get, Result, Ok, Err, OnOk, IfErr}
use Rattle.std.specs.List.{AllByRecursion}
use Rattle.std.proofs.lemmas.List.{length-map}
use Rattle.std.proofs.lemmas.List.Sums.{sum_by-cons}
use Rattle.std.proofs.lemmas.List.FromFn.{length-map-range_with_len}
use Rattle.std.proofs.lemmas.List.Sorted.{length_permutation}
use Rattle.pv_word.specs.declared.types.Ty.{Ty}
use Rattle.pv_gate.specs.declared.netlist.Node.{Node}
use Rattle.pv_gate.specs.declared.netlist.Node.TheVariants.{True, Input, And, Xor, Mux}
use Rattle.pv_gate.specs.Node.{is_input, is_gate, gate_count, input_count}
use Rattle.pv_gate.specs.Netlist.{Netlist, IsNetlist}
use Rattle.pv_cnf.specs.declared.clauses.PushFault.{PushFault}
use Rattle.pv_cnf.specs.Literal.{literal_value}
use Rattle.pv_circuit.specs.declared.circuit.StepCircuit.{StepCircuit}
use Rattle.pv_circuit.specs.declared.start.Start.{Start}
use Rattle.pv_circuit.specs.Circuits.{Circuit, Literals, IsCircuit, circuit_with, input_literals}
use Rattle.pv_circuit.specs.Made.{circuit_seen, IsStepCircuit}
use Rattle.pv_circuit.specs.Steps.{Form, HasForm, widths}
use Rattle.pv_cert.specs.declared.proof.Query.{Query}
use Rattle.pv_frames.specs.Frames.{Frame, literal_in}
use Rattle.pv_frames.specs.Queries.{table, frames}
use Rattle.pv_frames.specs.Pushing.{Overflow, ArePushed, StopsAt, Pushes}
use Rattle.pv_frames.specs.Runs.{BitRun, input_in, run_of}

-- ---- nodes

input-more : (node : Node) (nodes : List Node) → input_count (node ∷ nodes) ≡ cond (is_input node) 1 0 + input_count nodes
input-more node nodes = sum_by-cons (λ (x : Node). cond (is_input x) 1 0) node nodes

gate-more : (node : Node) (nodes : List Node) → gate_count (node ∷ nodes) ≡ cond (is_gate node) 1 0 + gate_count nodes
gate-more node nodes = sum_by-cons (λ (x : Node). cond (is_gate x) 1 0) node nodes

one-more : (node : Node) (nodes : List Node) → cond (is_input node) 1 0 + cond (is_gate node) 1 0 ≡ 1 → length nodes ≡ input_count nodes + gate_count nodes
    → length (node ∷ nodes) ≡ input_count (node ∷ nodes) + gate_count (node ∷ nodes)
one-more node nodes one rest = omega (arith, one, rest, input-more node nodes, gate-more node nodes)

no-true : (nodes : List Node) → ((k : ℕ) → slice_get nodes k ≡ Some True → ⊥) → length nodes ≡ input_count nodes + gate_count nodes
no-true [] h = refl
no-true (True ∷ nodes) h = absurd (h 0 refl)
no-true (Input n ∷ nodes) h = one-more (Input n) nodes refl (no-true nodes (λ k at. h (suc k) at))
no-true (And a b ∷ nodes) h = one-more (And a b) nodes refl (no-true nodes (λ k at. h (suc k) at))
no-true (Xor a b ∷ nodes) h = one-more (Xor a b) nodes refl (no-true nodes (λ k at. h (suc k) at))
no-true (Mux s a b ∷ nodes) h = one-more (Mux s a b) nodes refl (no-true nodes (λ k at. h (suc k) at))

not-first : (node : Node) (nodes : List Node) → node ∷ nodes ≡ [] → ⊥
not-first node nodes e = omega (arith, ap (λ (xs : List Node). length xs) e)

node-count : (nodes : List Node) → IsNetlist nodes → length nodes ≤ 1 + (input_count nodes + gate_count nodes)
node-count [] net = omega arith
node-count (node ∷ nodes) net =
    let rest = no-true nodes (λ k at. not-first node (take k nodes) (net.each (suc k) True at)) in
    omega (arith, rest, input-more node nodes, gate-more node nodes)

pub few-nodes : (c : Circuit) → IsCircuit c → length c.nodes ≤ 1 + ((length c.state_in + length c.input) + gate_count c.nodes)
few-nodes c is =
    let long = length_permutation (input_literals 0 (input_count c.nodes)) (c.state_in ++ c.input) is.all_inputs in
    let count = length-map-range_with_len (λ i. pos (2 + i)) 0 (input_count c.nodes) in
    let nodes = node-count c.nodes is.netlist in
    omega (arith, long, count, nodes, length-append c.state_in c.input)

-- ---- what is built

pub seen-is : (c : Circuit) (limit : ℕ) (made : StepCircuit) → IsStepCircuit c limit made → circuit_seen made ≡ c
seen-is c limit made is =
    ap (λ (g : Netlist). circuit_with g.nodes made.state_in.items made.input.items made.state_out.items made.ok made.fail) is.gates
    ∙ (ap (λ (ls : Literals). circuit_with c.nodes ls made.input.items made.state_out.items made.ok made.fail) is.state_in
    ∙ (ap (λ (ls : Literals). circuit_with c.nodes c.state_in ls made.state_out.items made.ok made.fail) is.input
    ∙ (ap (λ (ls : Literals). circuit_with c.nodes c.state_in c.input ls made.ok made.fail) is.state_out
    ∙ (ap (λ (l : ℤ). circuit_with c.nodes c.state_in c.input c.state_out l made.fail) is.ok
    ∙ ap (λ (l : ℤ). circuit_with c.nodes c.state_in c.input c.state_out c.ok l) is.fail))))

pub long-starts : (c : Circuit) (start starts : List Start) (limit : ℕ) (made : StepCircuit) → IsStepCircuit c limit made → starts ≡ start
    → length start ≡ length c.state_in → length starts ≡ length made.state_in.items
long-starts c start starts limit made is same long =
    ap (λ (xs : List Start). length xs) same ∙ (long ∙ ap (λ (ls : Literals). length ls) (sym is.state_in))

pub nodes-are : (c : Circuit) (limit : ℕ) (made : StepCircuit) → IsStepCircuit c limit made → made.gates.nodes ≡ c.nodes
nodes-are c limit made is = ap (λ (g : Netlist). g.nodes) is.gates

pub few-made : (c : Circuit) (form : Form) (start : List Start) (limit : ℕ) (made : StepCircuit) → IsCircuit c → HasForm form start c → IsStepCircuit c limit made
    → widths form.state + widths form.input ≤ 28999999 → gate_count c.nodes ≤ 1000000 → length made.gates.nodes ≤ 30000000
few-made c form start limit made is has seen few gates =
    let nodes = few-nodes c is in
    let same : length made.gates.nodes ≡ length c.nodes = ap (λ (ns : List Node). length ns) (nodes-are c limit made seen) in
    omega (arith, nodes, same, few, gates, has.state, has.input)

pub few-made-gates : (c : Circuit) (limit : ℕ) (made : StepCircuit) → IsStepCircuit c limit made → gate_count c.nodes ≤ 1000000 → gate_count made.gates.nodes ≤ 10000000
few-made-gates c limit made seen gates =
    let same : gate_count made.gates.nodes ≡ gate_count c.nodes = ap gate_count (nodes-are c limit made seen) in
    omega (arith, same, gates)

-- what comes of pushing, by cases
pub pushes-by : (f : Overflow) (old clauses new : List (List ℕ)) (r : Result (Unit {0}) PushFault) → OnOk r (ArePushed f old clauses new)
    → IfErr r (λ fault. StopsAt f old clauses new fault) → Pushes f old clauses new r
pushes-by f old clauses new (Ok done) ok err = ok
pushes-by f old clauses new (Err fault) ok err = err

-- ---- bits of runs

pub state-long : (c : Circuit) (start : List Start) (q : Query) (values : ℕ → Bool) → length (run_of c start q values).state ≡ length c.state_in
state-long c start q values = length-map c.state_in (λ l. literal_value values (literal_in (table c start q 0) l))

scans-long : (c : Circuit) (values : ℕ → Bool) (n : ℕ) (fs : List Frame) → length c.input ≡ n
    → AllByRecursion (λ (bits : List Bool). length bits ≡ n) (map (input_in c values) fs)
scans-long c values n [] e = tt
scans-long c values n (f ∷ fs) e = (length-map c.input (λ l. literal_value values (literal_in f l)) ∙ e, scans-long c values n fs e)

pub inputs-long : (c : Circuit) (start : List Start) (q : Query) (values : ℕ → Bool) (tys : List Ty) → length c.input ≡ widths tys
    → AllByRecursion (λ (bits : List Bool). length bits ≡ widths tys) (run_of c start q values).inputs
inputs-long c start q values tys e = scans-long c values (widths tys) (frames c start q) e

pub state-read : (c : Circuit) (start : List Start) (q : Query) (values : ℕ → Bool) (tys : List Ty) (run : BitRun) → run ≡ run_of c start q values
    → length c.state_in ≡ widths tys → length run.state ≡ widths tys
state-read c start q values tys run is e = ap (λ (r : BitRun). length r.state) is ∙ (state-long c start q values ∙ e)

pub inputs-read : (c : Circuit) (start : List Start) (q : Query) (values : ℕ → Bool) (tys : List Ty) (run : BitRun) → run ≡ run_of c start q values
    → length c.input ≡ widths tys → AllByRecursion (λ (bits : List Bool). length bits ≡ widths tys) run.inputs
inputs-read c start q values tys run is e =
    subst (λ (r : BitRun). AllByRecursion (λ (bits : List Bool). length bits ≡ widths tys) r.inputs) (sym is) (inputs-long c start q values tys e)
