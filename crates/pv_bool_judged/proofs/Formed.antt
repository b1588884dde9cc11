-- The formulas of a circuit that was made.
use Rattle.std.proofs.Common.{◌≡◌, ◌≤◌, ℕ, ℤ, false, List, ap, ◌∙◌, subst, true, Result, Ok, Err, OnOk, IfErr}
use Rattle.std.specs.Prelude.{IfOk, nat_lt}
use Rattle.std.proofs.lemmas.Bool.{le-ltb, lt-ltb}
use Rattle.pv_gate.specs.declared.fault.GateFault.{GateFault}
use Rattle.pv_gate.specs.declared.fault.GateFault.TheVariants.{Limit}
use Rattle.pv_gate.specs.Node.{gate_count}
use Rattle.pv_gate.specs.Netlist.{Netlist}
use Rattle.pv_cnf.specs.Clause.{Cnf}
use Rattle.pv_cert.specs.declared.proof.Query.{Query}
use Rattle.pv_cert.specs.declared.proof.Query.TheVariants.{Base, Step}
use Rattle.pv_circuit.specs.declared.start.Start.{Start}
use Rattle.pv_circuit.specs.declared.circuit.StepCircuit.{StepCircuit}
use Rattle.pv_circuit.specs.Circuits.{Literals, Circuit, circuit_with}
use Rattle.pv_circuit.specs.Made.{circuit_seen, IsStepCircuit}
use Rattle.pv_frames.specs.Queries as frames
use Rattle.pv_kind.specs.Oracles.{IsAsked}
use Rattle.pv_bool.specs.Tree.{ProgramTree}
use Rattle.pv_step.specs.Circuits.{circuit_of}
use Rattle.pv_bool_judged.specs.Formulas.{formula_over, IsCause}

-- what was made of a circuit is it
pub seen-is : (c : Circuit) (limit : ℕ) (made : StepCircuit) → IsStepCircuit c limit made → circuit_seen made ≡ c
seen-is c limit made is =
    ap (λ (g : Netlist). circuit_with g.nodes made.state_in.items made.input.items made.state_out.items made.ok made.fail) is.gates
    ∙ (ap (λ (ls : Literals). circuit_with c.nodes ls made.input.items made.state_out.items made.ok made.fail) is.state_in
    ∙ (ap (λ (ls : Literals). circuit_with c.nodes c.state_in ls made.state_out.items made.ok made.fail) is.input
    ∙ (ap (λ (ls : Literals). circuit_with c.nodes c.state_in c.input ls made.ok made.fail) is.state_out
    ∙ (ap (λ (l : ℤ). circuit_with c.nodes c.state_in c.input c.state_out l made.fail) is.ok
    ∙ ap (λ (l : ℤ). circuit_with c.nodes c.state_in c.input c.state_out c.ok l) is.fail))))

-- a formula of the same circuit, whose state begins in the same way
pub formula-is : (c d : Circuit) (starts others : List Start) (q : Query) (r : Result Cnf GateFault) → c ≡ d → starts ≡ others
    → IfOk r (λ f. f ≡ formula_over c starts q) → IfOk r (λ f. f ≡ formula_over d others q)
formula-is c d starts others q (Ok f) e s h =
    h ∙ (ap (λ (x : Circuit). formula_over x starts q) e ∙ ap (λ (xs : List Start). formula_over d xs q) s)
formula-is c d starts others q (Err fault) e s h = tt

-- a query that is asked of a case has a formula
pub asked-is : (q : Query) → IsAsked q → frames.IsAsked q
asked-is (Base k) asked = asked
asked-is (Step k) asked = asked

-- a circuit of no more gates than the limit doesn't pass it
pub fits-is : (limit gates : ℕ) (r : Result Cnf GateFault) → OnOk r (gates ≤ limit) → OnOk r (nat_lt limit gates ≡ false)
fits-is limit gates (Ok f) le = le-ltb limit gates le
fits-is limit gates (Err fault) le = tt

-- Limit is told only of one that does
pub passes-is : (limit : ℕ) (program : ProgramTree) (r : Result Cnf GateFault) → IfErr r (λ fault. IsCause limit program fault) → r ≡ Err Limit
    → nat_lt limit (gate_count (circuit_of program).nodes) ≡ true
passes-is limit program r cause e =
    lt-ltb limit (gate_count (circuit_of program).nodes)
    (subst (λ (x : Result Cnf GateFault). IfErr x (λ fault. IsCause limit program fault)) e cause)
