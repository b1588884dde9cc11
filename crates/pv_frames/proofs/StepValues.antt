-- The law of one frame, whose nodes have the variables of their numbers: values make its clauses hold exactly where they are those of
-- the nodes and a literal is true.
use Rattle.std.proofs.Common.{◌≡◌, ℕ, ℤ, pos, ◌+◌, ◌<◌, ◌≤◌, zero, suc, Bool, true, false, ◌||◌, ◌&&◌, List, [], ◌∷◌, ◌++◌, length, take, get_or, Some, slice_get, refl, sym, ◌∙◌, ap, arith, length-take-le, append-nil}
use Rattle.std.specs.List.{list_all}
use Rattle.std.proofs.lemmas.Bool.{and_parts, and_from}
use Rattle.std.proofs.lemmas.List.{ext_get_or}
use Rattle.std.proofs.lemmas.Option.{slice_get_within}
use Rattle.std.proofs.lemmas.List.Folds.{list_all-append}
use Rattle.pv_gate.specs.declared.netlist.Node.{Node}
use Rattle.pv_gate.specs.declared.netlist.Node.TheVariants.{True, Input, And, Xor, Mux}
use Rattle.pv_gate.specs.Node.{Names, is_gate}
use Rattle.pv_gate.specs.Netlist.{IsNetlist, MayFollow}
use Rattle.pv_gate.specs.Value as gate
use Rattle.pv_gate.specs.Value.{node_value, node_values, value_of}
use Rattle.pv_gate.proofs.ForCallers.{length-node_values, node_values_at, node_values_only}
use Rattle.pv_cnf.specs.Literal.{literal_value}
use Rattle.pv_cnf.specs.Clause.{clause_value, Holds}
use Rattle.pv_frames.specs.Frames.{literal_in, node_clauses, frame_clauses}
use Rattle.pv_frames.specs.Formulas.{unit, formula}
use Rattle.pv_frames.proofs.Written.{written-means, and_true}
use Rattle.pv_frames.proofs.GateValues.{beq-same, same-beq}
use Rattle.pv_frames.proofs.NodeValues.{own_variables, column, length-column, get-column, literal-value, gate-means, no_clauses, nodes-only, nodes-hold, input_value, input-at}

-- each node's variable has the value that the node has under these values of the inputs
abbrev pub AreNodeValues : (ℕ → Bool) → List Node → (ℕ → Bool) → Type 0
AreNodeValues inputs nodes values = (n : ℕ) → 1 ≤ n → n ≤ length nodes → values n ≡ value_of inputs nodes (pos n)

-- one frame, in which the literal is true
abbrev pub step_clauses : List Node → ℤ → List (List ℕ)
step_clauses nodes fail = formula nodes (own_variables ∷ []) (literal_in own_variables fail ∷ [])

or_false : (b : Bool) → (b || false) ≡ b
or_false true = refl
or_false false = refl

-- the three parts of the formula
pub step-value : (values : ℕ → Bool) (nodes : List Node) (fail : ℤ) → list_all (clause_value values) (step_clauses nodes fail) ≡ (values 1 && (list_all (clause_value values) (frame_clauses own_variables 1 nodes) && literal_value values (literal_in own_variables fail)))
step-value values nodes fail =
    let frame = frame_clauses own_variables 1 nodes in
    let l = literal_in own_variables fail in
    written-means values (unit 2 ∷ ((frame ++ []) ++ (unit l ∷ [])))
    ∙ (ap (λ (b : Bool). b && list_all (clause_value values) ((frame ++ []) ++ (unit l ∷ []))) (or_false (values 1))
    ∙ ap (λ (b : Bool). values 1 && b)
    (list_all-append (clause_value values) (frame ++ []) (unit l ∷ [])
    ∙ (ap (λ (cs : List (List ℕ)). list_all (clause_value values) cs && list_all (clause_value values) (unit l ∷ [])) (append-nil frame)
    ∙ ap (λ (b : Bool). list_all (clause_value values) frame && b) (and_true (literal_value values l || false) ∙ or_false (literal_value values l)))))

few-before : (nodes : List Node) (k : ℕ) (node : Node) → slice_get nodes k ≡ Some node → length (take k nodes) ≤ length nodes
few-before nodes k node at = let below = slice_get_within nodes k node at in omega (arith, length-take-le k nodes (omega arith))

-- ---- from values of the nodes to a formula that holds

at-place : (values inputs : ℕ → Bool) (nodes : List Node) → AreNodeValues inputs nodes values → (k : ℕ) → k < length nodes → values (1 + k) ≡ get_or (node_values inputs nodes) k false
unfolding value_of
at-place values inputs nodes are k below =
    let e : 1 + k ≡ suc k = omega arith in
    ap values e ∙ are (suc k) (omega arith) (omega arith)

column-is : (values inputs : ℕ → Bool) (nodes : List Node) → AreNodeValues inputs nodes values → column values 1 (length nodes) ≡ node_values inputs nodes
column-is values inputs nodes are =
    ext_get_or false (column values 1 (length nodes)) (node_values inputs nodes)
    (length-column values 1 (length nodes) ∙ sym (length-node_values inputs nodes))
    (λ k below. let low : k < length nodes = omega (arith, length-column values 1 (length nodes)) in get-column values 1 (length nodes) k low ∙ at-place values inputs nodes are k low)

fail-value : (values inputs : ℕ → Bool) (nodes : List Node) (fail : ℤ) → Names (length nodes) fail → column values 1 (length nodes) ≡ node_values inputs nodes → literal_value values (literal_in own_variables fail) ≡ value_of inputs nodes fail
unfolding value_of
fail-value values inputs nodes fail names is = literal-value values (length nodes) fail names ∙ ap (λ (vs : List Bool). gate.literal_value vs fail) is

node-holds : (values inputs : ℕ → Bool) (nodes : List Node) → IsNetlist nodes → AreNodeValues inputs nodes values → column values 1 (length nodes) ≡ node_values inputs nodes → (k : ℕ) (node : Node) → slice_get nodes k ≡ Some node → list_all (clause_value values) (node_clauses own_variables (1 + k) node) ≡ true
node-holds values inputs nodes net are is k node at = by (is_gate node) refl
  where
    value : values (1 + k) ≡ node_value inputs (column values 1 (length nodes)) node
    value = at-place values inputs nodes are k (slice_get_within nodes k node at)
        ∙ (node_values_at inputs nodes k node net at ∙ ap (λ (vs : List Bool). node_value inputs vs node) (sym is))

    by : (b : Bool) → is_gate node ≡ b → list_all (clause_value values) (node_clauses own_variables (1 + k) node) ≡ true
    by true gates = gate-means values inputs (length nodes) (1 + k) (take k nodes) node (few-before nodes k node at) (net.each k node at) gates ∙ beq-same _ _ value
    by false others = no_clauses values (1 + k) node others

pub step-holds : (nodes : List Node) (fail : ℤ) (values inputs : ℕ → Bool) → IsNetlist nodes → Names (length nodes) fail → AreNodeValues inputs nodes values → value_of inputs nodes fail ≡ true → Holds values (step_clauses nodes fail)
step-holds nodes fail values inputs net names are fails =
    let is = column-is values inputs nodes are in
    let some = slice_get_within nodes 0 True net.first in
    let first : values 1 ≡ true = at-place values inputs nodes are 0 some ∙ node_values_at inputs nodes 0 True net net.first in
    step-value values nodes fail
    ∙ and_from (values 1) _ first
    (and_from (list_all (clause_value values) (frame_clauses own_variables 1 nodes)) _
    (nodes-hold values 1 nodes (node-holds values inputs nodes net are is))
    (fail-value values inputs nodes fail names is ∙ fails))

-- ---- and back

node-value : (values : ℕ → Bool) (nodes : List Node) → values 1 ≡ true → list_all (clause_value values) (frame_clauses own_variables 1 nodes) ≡ true → (k : ℕ) (node : Node) → slice_get nodes k ≡ Some node → MayFollow (take k nodes) node → values (1 + k) ≡ node_value (input_value values 1 nodes) (column values 1 (length nodes)) node
node-value values nodes first all k True at follows =
    let below = slice_get_within nodes k True at in
    let e : 1 + k ≡ 1 = omega (arith, ap (λ (xs : List Node). length xs) follows, length-take-le k nodes (omega arith)) in
    ap values e ∙ first
node-value values nodes first all k (Input m) at follows = sym (ap (input_value values 1 nodes) follows ∙ input-at values 1 nodes k (Input m) at refl)
node-value values nodes first all k (And a b) at follows =
    same-beq _ _ (sym (gate-means values (input_value values 1 nodes) (length nodes) (1 + k) (take k nodes) (And a b) (few-before nodes k (And a b) at) follows refl) ∙ nodes-only values 1 nodes all k (And a b) at)
node-value values nodes first all k (Xor a b) at follows =
    same-beq _ _ (sym (gate-means values (input_value values 1 nodes) (length nodes) (1 + k) (take k nodes) (Xor a b) (few-before nodes k (Xor a b) at) follows refl) ∙ nodes-only values 1 nodes all k (Xor a b) at)
node-value values nodes first all k (Mux s a b) at follows =
    same-beq _ _ (sym (gate-means values (input_value values 1 nodes) (length nodes) (1 + k) (take k nodes) (Mux s a b) (few-before nodes k (Mux s a b) at) follows refl) ∙ nodes-only values 1 nodes all k (Mux s a b) at)

from-column : (values inputs : ℕ → Bool) (nodes : List Node) → column values 1 (length nodes) ≡ node_values inputs nodes → AreNodeValues inputs nodes values
unfolding value_of
from-column values inputs nodes is zero from to = absurd (omega arith)
from-column values inputs nodes is (suc k) from to =
    let e : 1 + k ≡ suc k = omega arith in
    sym (get-column values 1 (length nodes) k (omega arith) ∙ ap values e) ∙ ap (λ (vs : List Bool). get_or vs k false) is

pub step-only : (nodes : List Node) (fail : ℤ) (values : ℕ → Bool) → IsNetlist nodes → Names (length nodes) fail → Holds values (step_clauses nodes fail) → (inputs : ℕ → Bool) × AreNodeValues inputs nodes values × (value_of inputs nodes fail ≡ true)
step-only nodes fail values net names holds =
    let one = and_parts (values 1) _ (sym (step-value values nodes fail) ∙ holds) in
    let two = and_parts (list_all (clause_value values) (frame_clauses own_variables 1 nodes)) _ one.1 in
    let inputs = input_value values 1 nodes in
    let is : column values 1 (length nodes) ≡ node_values inputs nodes =
    node_values_only inputs nodes (column values 1 (length nodes)) net (length-column values 1 (length nodes))
    (λ k node at. get-column values 1 (length nodes) k (slice_get_within nodes k node at) ∙ node-value values nodes one.0 two.0 k node at (net.each k node at)) in
    (inputs, from-column values inputs nodes is, sym (fail-value values inputs nodes fail names is) ∙ two.1)
