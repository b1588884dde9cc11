-- Values of a frame's nodes: what the gates' clauses say of them is the law of one frame, whose nodes have the variables of their numbers.
use Rattle.std.proofs.Common.{◌≡◌, ℕ, ℤ, pos, negsuc, ◌*◌, suc, Bool, true, not, cond, ◌&&◌, List, [], ◌∷◌, length, refl, sym, ◌∙◌, ap, arith, lit≤}
use Rattle.std.specs.Bool.{beq}
use Rattle.std.specs.List.{list_all}
use Rattle.std.proofs.lemmas.Bool.{and_parts, and_from}
use Rattle.std.proofs.lemmas.List.Folds.{list_all-append}
use Rattle.std.proofs.lemmas.Option.{slice_get_within}
use Rattle.pv_gate.specs.declared.netlist.Node.{Node}
use Rattle.pv_gate.specs.declared.netlist.Node.TheVariants.{True, Input, And, Xor, Mux}
use Rattle.pv_gate.specs.Node.{Names, true_literal}
use Rattle.pv_gate.specs.Netlist.{IsNetlist}
use Rattle.pv_gate.specs.Value.{exclusive_or, value_of}
use Rattle.pv_gate.proofs.ForCallers.{value_of-true, value_of-neg}
use Rattle.pv_cnf.specs.Literal.{literal_value}
use Rattle.pv_cnf.specs.Clause.{clause_value}
use Rattle.pv_frames.specs.Frames.{Frame, literal_in, node_clauses, frame_clauses}
use Rattle.pv_frames.specs.Values.{AreFrameValues}
use Rattle.pv_frames.proofs.Literals.{value-plain, value-complement}
use Rattle.pv_frames.proofs.GateValues.{and-means, xor-means, mux-means}
use Rattle.pv_frames.proofs.NodeValues.{own_variables}
use Rattle.pv_frames.proofs.StepValues.{step-value, step-holds, step-only}

-- the values of a frame's nodes, by their numbers
abbrev pub in_frame : (ℕ → Bool) → Frame → ℕ → Bool
in_frame values f n = literal_value values (f n)

own-value : (values : ℕ → Bool) (n : ℕ) → literal_value values (own_variables n) ≡ values n
own-value values n = value-plain values (2 * n) n (omega arith) (omega arith)

literal-own : (values : ℕ → Bool) (f : Frame) (l : ℤ) → literal_value values (literal_in f l) ≡ literal_value (in_frame values f) (literal_in own_variables l)
literal-own values f (pos n) = sym (own-value (in_frame values f) n)
literal-own values f (negsuc n) =
    value-complement values (f (suc n))
    ∙ sym (value-complement (in_frame values f) (own_variables (suc n)) ∙ ap not (own-value (in_frame values f) (suc n)))

node-own : (values : ℕ → Bool) (f : Frame) (n : ℕ) (node : Node)
    → list_all (clause_value values) (node_clauses f n node) ≡ list_all (clause_value (in_frame values f)) (node_clauses own_variables n node)
node-own values f n True = refl
node-own values f n (Input m) = refl
node-own values f n (And a b) =
    let own = in_frame values f in
    and-means values (f n) (literal_in f a) (literal_in f b)
    ∙ (ap (λ (x : Bool). beq x (literal_value values (literal_in f a) && literal_value values (literal_in f b))) (sym (own-value own n))
    ∙ (ap (λ (x : Bool). beq (literal_value own (own_variables n)) (x && literal_value values (literal_in f b))) (literal-own values f a)
    ∙ (ap (λ (x : Bool). beq (literal_value own (own_variables n)) (literal_value own (literal_in own_variables a) && x)) (literal-own values f b)
    ∙ sym (and-means own (own_variables n) (literal_in own_variables a) (literal_in own_variables b)))))
node-own values f n (Xor a b) =
    let own = in_frame values f in
    xor-means values (f n) (literal_in f a) (literal_in f b)
    ∙ (ap (λ (x : Bool). beq x (exclusive_or (literal_value values (literal_in f a)) (literal_value values (literal_in f b)))) (sym (own-value own n))
    ∙ (ap (λ (x : Bool). beq (literal_value own (own_variables n)) (exclusive_or x (literal_value values (literal_in f b)))) (literal-own values f a)
    ∙ (ap (λ (x : Bool). beq (literal_value own (own_variables n)) (exclusive_or (literal_value own (literal_in own_variables a)) x)) (literal-own values f b)
    ∙ sym (xor-means own (own_variables n) (literal_in own_variables a) (literal_in own_variables b)))))
node-own values f n (Mux s a b) =
    let own = in_frame values f in
    mux-means values (f n) (literal_in f s) (literal_in f a) (literal_in f b)
    ∙ (ap (λ (x : Bool). beq x (cond (literal_value values (literal_in f s)) (literal_value values (literal_in f a)) (literal_value values (literal_in f b)))) (sym (own-value own n))
    ∙ (ap (λ (x : Bool). beq (literal_value own (own_variables n)) (cond x (literal_value values (literal_in f a)) (literal_value values (literal_in f b)))) (literal-own values f s)
    ∙ (ap (λ (x : Bool). beq (literal_value own (own_variables n)) (cond (literal_value own (literal_in own_variables s)) x (literal_value values (literal_in f b)))) (literal-own values f a)
    ∙ (ap (λ (x : Bool). beq (literal_value own (own_variables n)) (cond (literal_value own (literal_in own_variables s)) (literal_value own (literal_in own_variables a)) x)) (literal-own values f b)
    ∙ sym (mux-means own (own_variables n) (literal_in own_variables s) (literal_in own_variables a) (literal_in own_variables b))))))

nodes-own : (values : ℕ → Bool) (f : Frame) (n : ℕ) (nodes : List Node)
    → list_all (clause_value values) (frame_clauses f n nodes) ≡ list_all (clause_value (in_frame values f)) (frame_clauses own_variables n nodes)
nodes-own values f n [] = refl
nodes-own values f n (x ∷ nodes) =
    list_all-append (clause_value values) (node_clauses f n x) (frame_clauses f (suc n) nodes)
    ∙ (ap (λ (b : Bool). b && list_all (clause_value values) (frame_clauses f (suc n) nodes)) (node-own values f n x)
    ∙ (ap (λ (b : Bool). list_all (clause_value (in_frame values f)) (node_clauses own_variables n x) && b) (nodes-own values f (suc n) nodes)
    ∙ sym (list_all-append (clause_value (in_frame values f)) (node_clauses own_variables n x) (frame_clauses own_variables (suc n) nodes))))

names-true : (nodes : List Node) → IsNetlist nodes → Names (length nodes) true_literal
names-true nodes net = let some = slice_get_within nodes 0 True net.first in record { from_one = lit≤ tt; to_last = omega (arith, some) }

-- values of the nodes make the gates' clauses true
pub frame-holds : (values inputs : ℕ → Bool) (f : Frame) (nodes : List Node) → IsNetlist nodes → AreFrameValues inputs nodes values f
    → list_all (clause_value values) (frame_clauses f 1 nodes) ≡ true
frame-holds values inputs f nodes net are =
    let own = in_frame values f in
    let holds = step-holds nodes true_literal own inputs net (names-true nodes net) are (value_of-true inputs nodes net) in
    let one = and_parts (own 1) _ (sym (step-value own nodes true_literal) ∙ holds) in
    let two = and_parts (list_all (clause_value own) (frame_clauses own_variables 1 nodes)) _ one.1 in
    nodes-own values f 1 nodes ∙ two.0

-- and only those
pub frame-only : (values : ℕ → Bool) (f : Frame) (nodes : List Node) → IsNetlist nodes → literal_value values (f 1) ≡ true
    → list_all (clause_value values) (frame_clauses f 1 nodes) ≡ true → (inputs : ℕ → Bool) × AreFrameValues inputs nodes values f
frame-only values f nodes net first all =
    let own = in_frame values f in
    let gates = sym (nodes-own values f 1 nodes) ∙ all in
    let holds = step-value own nodes true_literal ∙ and_from (own 1) _ first (and_from (list_all (clause_value own) (frame_clauses own_variables 1 nodes)) _ gates (own-value own 1 ∙ first)) in
    let found = step-only nodes true_literal own net (names-true nodes net) holds in
    (found.0, found.1)

-- a circuit's literal has its value
pub literal-is : (values inputs : ℕ → Bool) (f : Frame) (nodes : List Node) (l : ℤ) → AreFrameValues inputs nodes values f → Names (length nodes) l
    → literal_value values (literal_in f l) ≡ value_of inputs nodes l
literal-is values inputs f nodes (pos n) are h = are n (omega (arith, h.from_one)) (omega (arith, h.to_last))
literal-is values inputs f nodes (negsuc n) are h =
    value-complement values (f (suc n))
    ∙ (ap not (are (suc n) (omega arith) (omega (arith, h.to_last)))
    ∙ sym (value_of-neg inputs nodes (length nodes) (pos (suc n)) (record { from_one = omega arith; to_last = omega (arith, h.to_last) })))
