-- The gates of a scan's outcome fold, since the scan takes one path; and what the calls have made is the circuit.
--
-- `or_no_memory` with `made { IfOk result (λ value. made ≡ Ok value) }` in place of `MatchResult`: the caller then has the callee's
-- clause by `IfOk-at_ok _ c.in_ok-x.ensures.made c.CALL.ensures.CLAUSE`.
use Rattle.std.proofs.Common.{◌≡◌, ◌+◌, ◌≤◌, ◌<◌, ℕ, zero, suc, ℤ, pos, negsuc, neg_ℤ, length, Bool, true, false, ◌||◌, cond, refl}
use Rattle.std.proofs.Common.{sym, ◌∙◌, ap, inl, inr, subst, List, [], ◌∷◌}
use Rattle.std.proofs.Common.{Result, Ok, Err, IfOk, OnOk, to_z, of_z, w32, arith}
use Rattle.std.specs.Ordering.{int_eq}
use Rattle.std.proofs.lemmas.Int.{to_z-of_z}
use Rattle.std.proofs.lemmas.Bool.{or_cases}
use Rattle.std.proofs.lemmas.List.{length-set}
use mir.Val.{SFits}
use Rattle.pv_gate.specs.declared.fault.GateFault.{GateFault}
use Rattle.pv_gate.specs.declared.fault.GateFault.TheVariants.{Limit}
use Rattle.pv_gate.specs.declared.netlist.Node.{Node}
use Rattle.pv_gate.specs.Netlist.{Netlist}
use Rattle.pv_gate.specs.Node.{true_literal, false_literal, gate_count}
use Rattle.pv_gate.specs.Build.{Made, present, complemented, and_gate, or_gate}
use Rattle.pv_gate.proofs.ForCallers.{int_eq-true}
use Rattle.pv_bool.specs.declared.program.Bit.{Bit}
use Rattle.pv_bool.specs.Tree.{AssignmentTree, ProgramTree}
use Rattle.pv_circuit.specs.declared.circuit.StepCircuit.{StepCircuit}
use Rattle.pv_circuit.specs.Circuits.{Circuit, Literals, IsCircuit, begin_nodes}
use Rattle.pv_circuit.specs.Made.{IsStepCircuit}
use Rattle.pv_step.specs.Circuits.{Wires, kept_literals, taken_literals, begin_literals}
use Rattle.pv_step.specs.Circuits.{term_gate, assign_gate, body_gates, scan_gate, with_made}
use Rattle.pv_step.specs.Circuits.{trap_literal, over_literal, done_literal, fail_gate, ok_gate, begin_wires, end_wires}
use Rattle.pv_step.specs.Circuits.{holds_gate, outcome, judged, circuit_of}
use Rattle.pv_step.specs.Wiring.{Gives}
use Rattle.pv_step.proofs.Beginning.{length-begin_nodes, gate_count-begin}
use Rattle.pv_step.proofs.Growth.{Grows, grows_twice, grows_body, grows_term, others-grows}

neg-neg : (z : ℤ) → neg_ℤ (neg_ℤ z) ≡ z
neg-neg (pos zero) = refl
neg-neg (pos (suc n)) = refl
neg-neg (negsuc n) = refl

and_true : (nodes : List Node) (q : ℤ) → and_gate nodes true_literal q ≡ present nodes q
unfolding and_gate
and_true nodes q = lead (int_eq q false_literal || int_eq true_literal (neg_ℤ q)) refl
  where
    lead : (b : Bool) → (int_eq q false_literal || int_eq true_literal (neg_ℤ q)) ≡ b
        → cond b (present nodes false_literal) (present nodes q) ≡ present nodes q
    lead true e = elim (or_cases (int_eq q false_literal) (int_eq true_literal (neg_ℤ q)) e) [
      | inl f ↦ ap (present nodes) (sym (int_eq-true q false_literal f))
      | inr f ↦ ap (present nodes) (ap neg_ℤ (int_eq-true true_literal (neg_ℤ q) f) ∙ neg-neg q)
    ]
    lead false e = refl

or_false : (nodes : List Node) (q : ℤ) → or_gate nodes false_literal q ≡ present nodes q
unfolding or_gate
or_false nodes q = ap complemented (and_true nodes (neg_ℤ q)) ∙ ap (present nodes) (neg-neg q)

fail_folds : (nodes : List Node) (p : ℤ) → fail_gate nodes p ≡ present nodes (neg_ℤ p)
fail_folds nodes p =
    ap (λ (m : Made). with_made m (λ ms stopped. with_made (and_gate ms done_literal (neg_ℤ p)) (λ ns broken. or_gate ns stopped broken)))
    (or_false nodes over_literal)
    ∙ (ap (λ (m : Made). with_made m (λ ns broken. or_gate ns trap_literal broken)) (and_true nodes (neg_ℤ p)) ∙ or_false nodes (neg_ℤ p))

ok_folds : (nodes : List Node) (p : ℤ) → ok_gate nodes (neg_ℤ p) ≡ present nodes p
ok_folds nodes p = and_true nodes (neg_ℤ (neg_ℤ p)) ∙ ap (present nodes) (neg-neg p)

-- the circuit has the requirement's nodes; ok is its literal, and fail the complement
pub circuit_is : (program : ProgramTree) → circuit_of program ≡ outcome program
    (present (holds_gate program).nodes (neg_ℤ (holds_gate program).literal)) (holds_gate program)
unfolding circuit_of
circuit_is program =
    let p = holds_gate program in
    ap (judged program) (fail_folds p.nodes p.literal) ∙ ap (outcome program (present p.nodes (neg_ℤ p.literal)))
    (ok_folds p.nodes p.literal)

-- the nodes of the requirement are those of the beginning and gates
pub grows_circuit : (program : ProgramTree) → Grows (begin_nodes (length program.bits)) (holds_gate program).nodes
grows_circuit program =
    grows_twice (begin_wires program.bits).nodes (end_wires program).nodes (holds_gate program).nodes
    (grows_body program.body (begin_wires program.bits)) (grows_term (end_wires program).literals (end_wires program).nodes program.holds)

-- the circuit has the gates of the requirement
gates-circuit : (program : ProgramTree) → gate_count (circuit_of program).nodes ≡ gate_count (holds_gate program).nodes
gates-circuit program = ap (λ (c : Circuit). gate_count c.nodes) (circuit_is program)

pub nodes-circuit : (program : ProgramTree) → length (circuit_of program).nodes ≤ 1 + length program.bits + gate_count
    (circuit_of program).nodes
nodes-circuit program =
    let n = length program.bits in
    omega (
      arith,
      ap (λ (c : Circuit). length c.nodes) (circuit_is program),
      gates-circuit program,
      others-grows (begin_nodes n) (holds_gate program).nodes (grows_circuit program),
      length-begin_nodes n,
      gate_count-begin n,
    )

-- the assignments leave as many literals
pub length-body : (body : List AssignmentTree) (w : Wires) → length (body_gates body w).literals ≡ length w.literals
length-body [] w = refl
length-body (a ∷ body) w =
    let made = term_gate w.literals w.nodes a.value in
    length-body body (assign_gate w a) ∙ length-set w.literals a.target made.literal

-- ---- in the terms of the code

-- the wires before the assignments
pub begins : (bits : List Bit) (old gates : Netlist) (literals : List ℤ) → gates ≡ record old { nodes = begin_nodes (length bits) }
    → literals ≡ begin_literals bits
    → ◌≡◌ {A = Wires} (record { nodes = gates.nodes; literals = literals }) (begin_wires bits)
begins bits old gates literals made begin =
    let at : List Node → List ℤ → Wires = λ ns ls. record { nodes = ns; literals = ls } in
    ap (λ (g : Netlist). at g.nodes literals) made ∙ ap (at (begin_nodes (length bits))) begin

-- what a scan has made, before its outcome is judged
pub record Scanned (program : ProgramTree) (limit : ℕ) (begin end : List ℤ) (gates : Netlist) (ok : ℤ) : Type 0 where
  pub begin_is : begin ≡ begin_literals program.bits
  pub end_is : end ≡ (end_wires program).literals
  pub gates_are : gates ≡ record { nodes = (holds_gate program).nodes; limit = limit }
  pub ok_is : ok ≡ (holds_gate program).literal

pub scanned : (program : ProgramTree) (old gates last : Netlist) (begin copy end : List ℤ) (ok : ℤ)
    → gates ≡ record old { nodes = begin_nodes (length program.bits) } → begin ≡ begin_literals program.bits → copy ≡ begin
    → end ≡ (body_gates program.body (record { nodes = gates.nodes; literals = copy })).literals
    → Gives gates last (scan_gate program.body (record { nodes = gates.nodes; literals = copy }) program.holds) (Ok ok)
    → Scanned program old.limit begin end last ok
scanned program old gates last begin copy end ok made begin_are copied ended gives =
    let start = begins program.bits old gates copy made (copied ∙ begin_are) in
    let scan : scan_gate program.body (record { nodes = gates.nodes; literals = copy }) program.holds
    ≡ holds_gate program = ap (λ v. scan_gate program.body v program.holds) start in
    let of : List Node → ℕ → Netlist = λ ns l. record { nodes = ns; limit = l } in
    record {
      begin_is = begin_are;
      end_is = ended ∙ ap (λ v. (body_gates program.body v).literals) start;
      gates_are = gives.nodes ∙ (ap (λ (m : Made). of m.nodes gates.limit) scan
          ∙ ap (λ (g : Netlist). of (holds_gate program).nodes g.limit) made);
      ok_is = gives.literal ∙ ap (λ (m : Made). m.literal) scan;
    }

is_step_circuit : (program : ProgramTree) (limit : ℕ) (begin end : List ℤ) (gates : Netlist) (ok : ℤ) (made : StepCircuit)
    → Scanned program limit begin end gates ok → made.gates ≡ gates
    → made.state_in.items ≡ kept_literals program.bits begin → made.input.items ≡ taken_literals program.bits begin
    → made.state_out.items ≡ kept_literals program.bits end → made.ok ≡ ok → made.fail ≡ neg_ℤ ok
    → IsStepCircuit (circuit_of program) limit made
is_step_circuit program limit begin end gates ok made scan gates_are state_in input state_out ok_is fail =
    let P : Circuit → Type 0 = λ c. IsStepCircuit c limit made in
    subst P (sym (circuit_is program)) (record {
      gates = gates_are ∙ scan.gates_are;
      state_in = state_in ∙ ap (kept_literals program.bits) scan.begin_is;
      input = input ∙ ap (taken_literals program.bits) scan.begin_is;
      state_out = state_out ∙ ap (kept_literals program.bits) scan.end_is;
      ok = ok_is ∙ scan.ok_is;
      fail = fail ∙ ap neg_ℤ scan.ok_is;
    })

pub judged_is : (program : ProgramTree) (limit : ℕ) (begin end : List ℤ) (gates : Netlist) (ok : ℤ)
    (result : Result StepCircuit GateFault) → Scanned program limit begin end gates ok → IfOk result (λ c. c.gates ≡ gates)
    → IfOk result (λ c. c.state_in.items ≡ kept_literals program.bits begin)
    → IfOk result (λ c. c.input.items ≡ taken_literals program.bits begin)
    → IfOk result (λ c. c.state_out.items ≡ kept_literals program.bits end)
    → IfOk result (λ c. c.ok ≡ ok) → IfOk result (λ c. c.fail ≡ neg_ℤ ok) → IfOk result (λ c. IsStepCircuit (circuit_of program) limit c)
judged_is program limit begin end gates ok (Ok c) scan a b d e f g = is_step_circuit program limit begin end gates ok c scan a b d e f g
judged_is program limit begin end gates ok (Err fault) scan a b d e f g = tt

pub within-scanned : (program : ProgramTree) (limit : ℕ) (begin end : List ℤ) (gates : Netlist) (ok : ℤ)
    → Scanned program limit begin end gates ok → gate_count gates.nodes ≤ gates.limit → gate_count (circuit_of program).nodes ≤ limit
within-scanned program limit begin end gates ok scan within =
    omega (
      arith,
      gates-circuit program,
      ap (λ (g : Netlist). gate_count g.nodes) scan.gates_are,
      ap
          (λ (g : Netlist). g.limit) scan.gates_are,
    )

-- a scan that goes beyond the limit is a circuit that does
pub beyond_circuit : (program : ProgramTree) (old gates last : Netlist) (copy : List ℤ)
    → gates ≡ record old { nodes = begin_nodes (length program.bits) } → copy ≡ begin_literals program.bits → (fault : GateFault)
    → Gives gates last (scan_gate program.body (record { nodes = gates.nodes; literals = copy }) program.holds) (Err fault)
    → fault ≡ Limit → old.limit < gate_count (circuit_of program).nodes
beyond_circuit program old gates last copy made begin_are fault gives is =
    let scan : scan_gate program.body (record { nodes = gates.nodes; literals = copy }) program.holds ≡ holds_gate program =
    ap (λ v. scan_gate program.body v program.holds) (begins program.bits old gates copy made begin_are) in
    omega (
      arith,
      gives.limit (ap Err is),
      ap (λ (m : Made). gate_count m.nodes) scan,
      gates-circuit program,
      ap
          (λ (g : Netlist). g.limit) made,
    )

pub on_ok : {T E : Type 0} {P : Type 0} (r : Result T E) → P → OnOk r P
on_ok (Ok x) h = h
on_ok (Err e) h = tt

pub from_fault : (f g h : GateFault) (x : Result StepCircuit GateFault) → f ≡ h → x ≡ Err h → x ≡ Err g → f ≡ g
from_fault f g h x e p q = e ∙ cc

-- a number that was passed as its bits
pub as_passed : (r : Result StepCircuit GateFault) (z : ℤ) (f : StepCircuit → ℤ) (g : ℤ → ℤ)
    → IfOk r (λ c. f c ≡ g (to_z w32 (of_z w32 z))) → SFits w32 z → IfOk r (λ c. f c ≡ g z)
as_passed (Ok c) z f g h fits = h ∙ ap g (to_z-of_z w32 z fits)
as_passed (Err e) z f g h fits = tt

-- what holds of a circuit holds of one with the same parts
pub kept_parts : (nodes : List Node) (a b d x y z : Literals) (ok fail p q : ℤ)
    → IsCircuit (record { nodes = nodes; state_in = a; input = b; state_out = d; ok = ok; fail = fail }) → x ≡ a → y ≡ b → z ≡ d → p ≡ ok
    → q ≡ fail
    → IsCircuit (record { nodes = nodes; state_in = x; input = y; state_out = z; ok = p; fail = q })
kept_parts nodes a b d x y z ok fail p q is e f g h i =
    let of : Literals → Literals → Literals → ℤ → ℤ → Circuit = λ r s t u v. record
    { nodes = nodes; state_in = r; input = s; state_out = t; ok = u; fail = v } in
    let P : Circuit → Type 0 = λ c. IsCircuit c in
    subst P (sym (ap (λ r. of r y z p q) e ∙ (ap (λ s. of a s z p q) f
    ∙ (ap (λ t. of a b t p q) g ∙ (ap (λ u. of a b d u q) h ∙ ap (of a b d ok) i))))) is
