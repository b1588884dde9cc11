-- Values of a formula's variables, and the values of a circuit's nodes.
-- Values to inputs: `input_value` (the value of the n-th input's variable) with `input-at`; then pv_gate's `node_values_only`.
-- `count_by` is a fold from the left: its step at the front goes by `sum_by-append f (x ∷ []) xs`.
use Rattle.std.proofs.Common.{◌≡◌, ℕ, ℤ, pos, negsuc, ◌+◌, ◌*◌, ◌<◌, ◌≤◌, zero, suc, Bool, true, false, not, cond, ◌&&◌, List, [], ◌∷◌, length, take, get_or, Some, Option, unwrap_or, slice_get, refl, sym, ◌∙◌, ap, subst, arith}
use Rattle.std.specs.Bool.{beq}
use Rattle.std.specs.List.{list_all}
use Rattle.std.proofs.lemmas.Bool.{and_parts, and_from, true≢false}
use Rattle.std.proofs.lemmas.List.Folds.{list_all-append}
use Rattle.std.proofs.lemmas.List.Sums.{sum_by-append}
use Rattle.pv_gate.specs.declared.netlist.Node.{Node}
use Rattle.pv_gate.specs.declared.netlist.Node.TheVariants.{True, Input, And, Xor, Mux}
use Rattle.pv_gate.specs.Node.{Names, is_gate, is_input, input_count}
use Rattle.pv_gate.specs.Netlist.{MayFollow}
use Rattle.pv_gate.specs.Value as gate
use Rattle.pv_gate.specs.Value.{node_value, exclusive_or}
use Rattle.pv_gate.proofs.ForCallers.{Names-more}
use Rattle.pv_cnf.specs.Literal.{literal_value}
use Rattle.pv_cnf.specs.Clause.{clause_value}
use Rattle.pv_frames.specs.Frames.{Frame, literal_in, node_clauses, frame_clauses}
use Rattle.pv_frames.proofs.Literals.{value-plain, value-complement}
use Rattle.pv_frames.proofs.GateValues.{and-means, xor-means, mux-means}

-- each node has the variable of its number
abbrev pub own_variables : Frame
own_variables n = 2 * n

-- the values of `count` variables, from variable n on
abbrev pub column : (ℕ → Bool) → ℕ → ℕ → List Bool
column values n zero = []
column values n (suc count) = values n ∷ column values (suc n) count

pub length-column : (values : ℕ → Bool) (n count : ℕ) → length (column values n count) ≡ count
length-column values n zero = refl
length-column values n (suc count) = omega (arith, length-column values (suc n) count)

pub get-column : (values : ℕ → Bool) (n count k : ℕ) → k < count → get_or (column values n count) k false ≡ values (n + k)
get-column values n zero k h = absurd (omega arith)
get-column values n (suc count) zero h = let e : n ≡ n + 0 = omega arith in ap values e
get-column values n (suc count) (suc k) h = let e : suc n + k ≡ n + suc k = omega arith in get-column values (suc n) count k (omega arith) ∙ ap values e

-- a circuit's literal has its formula's literal's value
pub literal-value : (values : ℕ → Bool) (count : ℕ) (l : ℤ) → Names count l → literal_value values (literal_in own_variables l) ≡ gate.literal_value (column values 1 count) l
literal-value values count (pos zero) h = absurd (omega (arith, h.from_one))
literal-value values count (pos (suc n)) h =
    let e : 1 + n ≡ suc n = omega arith in
    value-plain values (2 * suc n) (suc n) (omega arith) (omega arith) ∙ sym (get-column values 1 count n (omega (arith, h.to_last)) ∙ ap values e)
literal-value values count (negsuc n) h =
    let e : 1 + n ≡ suc n = omega arith in
    value-complement values (2 * suc n)
    ∙ ap not (value-plain values (2 * suc n) (suc n) (omega arith) (omega arith) ∙ sym (get-column values 1 count n (omega (arith, h.to_last)) ∙ ap values e))

-- a gate's literal has its node's variable's value
own-value : (values : ℕ → Bool) (n : ℕ) → literal_value values (own_variables n) ≡ values n
own-value values n = value-plain values (2 * n) n (omega arith) (omega arith)

-- the clauses of a gate say that it has the value that its operands make
pub gate-means : (values inputs : ℕ → Bool) (count n : ℕ) (before : List Node) (node : Node) → length before ≤ count → MayFollow before node → is_gate node ≡ true → list_all (clause_value values) (node_clauses own_variables n node) ≡ beq (values n) (node_value inputs (column values 1 count) node)
gate-means values inputs count n before True few follows gates = absurd (true≢false (sym gates))
gate-means values inputs count n before (Input m) few follows gates = absurd (true≢false (sym gates))
gate-means values inputs count n before (And a b) few follows gates =
    let first = literal-value values count a (Names-more (length before) count a few follows.0) in
    let second = literal-value values count b (Names-more (length before) count b few follows.1) in
    and-means values (own_variables n) (literal_in own_variables a) (literal_in own_variables b)
    ∙ (ap (λ (x : Bool). beq x (literal_value values (literal_in own_variables a) && literal_value values (literal_in own_variables b))) (own-value values n)
    ∙ (ap (λ (x : Bool). beq (values n) (x && literal_value values (literal_in own_variables b))) first
    ∙ ap (λ (x : Bool). beq (values n) (gate.literal_value (column values 1 count) a && x)) second))
gate-means values inputs count n before (Xor a b) few follows gates =
    let first = literal-value values count a (Names-more (length before) count a few follows.0) in
    let second = literal-value values count b (Names-more (length before) count b few follows.1) in
    xor-means values (own_variables n) (literal_in own_variables a) (literal_in own_variables b)
    ∙ (ap (λ (x : Bool). beq x (exclusive_or (literal_value values (literal_in own_variables a)) (literal_value values (literal_in own_variables b)))) (own-value values n)
    ∙ (ap (λ (x : Bool). beq (values n) (exclusive_or x (literal_value values (literal_in own_variables b)))) first
    ∙ ap (λ (x : Bool). beq (values n) (exclusive_or (gate.literal_value (column values 1 count) a) x)) second))
gate-means values inputs count n before (Mux s a b) few follows gates =
    let choice = literal-value values count s (Names-more (length before) count s few follows.0) in
    let first = literal-value values count a (Names-more (length before) count a few follows.1.0) in
    let second = literal-value values count b (Names-more (length before) count b few follows.1.1) in
    mux-means values (own_variables n) (literal_in own_variables s) (literal_in own_variables a) (literal_in own_variables b)
    ∙ (ap (λ (x : Bool). beq x (cond (literal_value values (literal_in own_variables s)) (literal_value values (literal_in own_variables a)) (literal_value values (literal_in own_variables b)))) (own-value values n)
    ∙ (ap (λ (x : Bool). beq (values n) (cond x (literal_value values (literal_in own_variables a)) (literal_value values (literal_in own_variables b)))) choice
    ∙ (ap (λ (x : Bool). beq (values n) (cond (gate.literal_value (column values 1 count) s) x (literal_value values (literal_in own_variables b)))) first
    ∙ ap (λ (x : Bool). beq (values n) (cond (gate.literal_value (column values 1 count) s) (gate.literal_value (column values 1 count) a) x)) second)))

-- other nodes have no clauses
pub no_clauses : (values : ℕ → Bool) (n : ℕ) (node : Node) → is_gate node ≡ false → list_all (clause_value values) (node_clauses own_variables n node) ≡ true
no_clauses values n True h = refl
no_clauses values n (Input m) h = refl
no_clauses values n (And a b) h = absurd (true≢false h)
no_clauses values n (Xor a b) h = absurd (true≢false h)
no_clauses values n (Mux s a b) h = absurd (true≢false h)

-- ---- all nodes of a list, the first of which is node number n

pub nodes-only : (values : ℕ → Bool) (n : ℕ) (nodes : List Node) → list_all (clause_value values) (frame_clauses own_variables n nodes) ≡ true → (k : ℕ) (node : Node) → slice_get nodes k ≡ Some node → list_all (clause_value values) (node_clauses own_variables (n + k) node) ≡ true
nodes-only values n [] h k node at = absurd (cc)
nodes-only values n (x ∷ nodes) h k node at =
    let parts = and_parts (list_all (clause_value values) (node_clauses own_variables n x)) (list_all (clause_value values) (frame_clauses own_variables (suc n) nodes))
    (sym (list_all-append (clause_value values) (node_clauses own_variables n x) (frame_clauses own_variables (suc n) nodes)) ∙ h) in
    place k at (nodes-only values (suc n) nodes parts.1) parts.0
  where
    place : (k : ℕ) → slice_get (x ∷ nodes) k ≡ Some node → ((k : ℕ) (node : Node) → slice_get nodes k ≡ Some node → list_all (clause_value values) (node_clauses own_variables (suc n + k) node) ≡ true) → list_all (clause_value values) (node_clauses own_variables n x) ≡ true → list_all (clause_value values) (node_clauses own_variables (n + k) node) ≡ true
    place zero at rest here =
        let same : x ≡ node = ap (λ (o : Option Node). unwrap_or o x) at in
        let e : n ≡ n + 0 = omega arith in
        subst (λ (m : ℕ). list_all (clause_value values) (node_clauses own_variables m node) ≡ true) e
        (subst (λ (y : Node). list_all (clause_value values) (node_clauses own_variables n y) ≡ true) same here)
    place (suc k) at rest here =
        let e : suc n + k ≡ n + suc k = omega arith in
        subst (λ (m : ℕ). list_all (clause_value values) (node_clauses own_variables m node) ≡ true) e (rest k node at)

pub nodes-hold : (values : ℕ → Bool) (n : ℕ) (nodes : List Node) → ((k : ℕ) (node : Node) → slice_get nodes k ≡ Some node → list_all (clause_value values) (node_clauses own_variables (n + k) node) ≡ true) → list_all (clause_value values) (frame_clauses own_variables n nodes) ≡ true
nodes-hold values n [] each = refl
nodes-hold values n (x ∷ nodes) each =
    let e : n + 0 ≡ n = omega arith in
    list_all-append (clause_value values) (node_clauses own_variables n x) (frame_clauses own_variables (suc n) nodes)
    ∙ and_from (list_all (clause_value values) (node_clauses own_variables n x)) (list_all (clause_value values) (frame_clauses own_variables (suc n) nodes))
    (subst (λ (m : ℕ). list_all (clause_value values) (node_clauses own_variables m x) ≡ true) e (each 0 x refl))
    (nodes-hold values (suc n) nodes (λ k node at.
    let f : n + suc k ≡ suc n + k = omega arith in
    subst (λ (m : ℕ). list_all (clause_value values) (node_clauses own_variables m node) ≡ true) f (each (suc k) node at)))

-- ---- the values of the inputs

-- the value of input number m: that of the variable of its node, where the first node is node number n
abbrev pub input_value : (ℕ → Bool) → ℕ → List Node → ℕ → Bool
input_value values n [] m = false
input_value values n (node ∷ nodes) m = cond (is_input node) (elim m as (λ _. Bool) [ zero ↦ values n | suc rest ↦ input_value values (suc n) nodes rest ]) (input_value values (suc n) nodes m)

input-next : (b : Bool) (values : ℕ → Bool) (n m : ℕ) (nodes : List Node) → cond b (elim (cond b 1 0 + m) as (λ _. Bool) [ zero ↦ values n | suc rest ↦ input_value values (suc n) nodes rest ]) (input_value values (suc n) nodes (cond b 1 0 + m)) ≡ input_value values (suc n) nodes m
input-next true values n m nodes = let e : 1 + m ≡ suc m = omega arith in ap (λ (i : ℕ). elim i as (λ _. Bool) [ zero ↦ values n | suc rest ↦ input_value values (suc n) nodes rest ]) e
input-next false values n m nodes = let e : 0 + m ≡ m = omega arith in ap (input_value values (suc n) nodes) e

count-cons : (x : Node) (nodes : List Node) → input_count (x ∷ nodes) ≡ cond (is_input x) 1 0 + input_count nodes
count-cons x nodes = let split = sum_by-append (λ (y : Node). cond (is_input y) 1 0) (x ∷ []) nodes in omega (arith, split)

-- an input's value is that of its node's variable
pub input-at : (values : ℕ → Bool) (n : ℕ) (nodes : List Node) (k : ℕ) (node : Node) → slice_get nodes k ≡ Some node → is_input node ≡ true → input_value values n nodes (input_count (take k nodes)) ≡ values (n + k)
input-at values n [] k node at is = absurd (cc)
input-at values n (x ∷ nodes) zero node at is =
    let same : x ≡ node = ap (λ (o : Option Node). unwrap_or o x) at in
    let e : n ≡ n + 0 = omega arith in
    ap (λ (b : Bool). cond b (values n) (input_value values (suc n) nodes 0)) (ap is_input same ∙ is) ∙ ap values e
input-at values n (x ∷ nodes) (suc k) node at is =
    let e : suc n + k ≡ n + suc k = omega arith in
    ap (input_value values n (x ∷ nodes)) (count-cons x (take k nodes)) ∙ (input-next (is_input x) values n (input_count (take k nodes)) nodes ∙ (input-at values (suc n) nodes k node at is ∙ ap values e))
