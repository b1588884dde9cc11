-- A node keeps its value as nodes are put after it, and has the value that its operands make.
use Rattle.std.proofs.Common.{◌≡◌, ℕ, ◌+◌, ◌<◌, ℤ, pos, negsuc, suc, zero, Bool, false, not, ◌&&◌, List, [], ◌∷◌, ◌++◌, length, take, get_or, refl, sym, ◌∙◌, ap, subst, cond, arith, Some, length-append, append_assoc}
use Rattle.std.specs.List.{slice_get, fold}
use Rattle.std.proofs.lemmas.List.{get_or_append_left, get_or_at, take_at}
use Rattle.std.proofs.lemmas.List.Sums.{fold-append, fold_push}
use Rattle.pv_gate.specs.declared.netlist.Node.{Node}
use Rattle.pv_gate.specs.declared.netlist.Node.TheVariants.{True, Input, And, Xor, Mux}
use Rattle.pv_gate.specs.Node.{Names}
use Rattle.pv_gate.specs.Netlist.{IsNetlist, MayFollow}
use Rattle.pv_gate.specs.Value.{exclusive_or, literal_value, node_value, node_values, value_of}

-- the values of the nodes after those whose values stand first
abbrev pub values_after : (ℕ → Bool) → List Bool → List Node → List Bool
values_after inputs values nodes = fold (λ earlier node. earlier ++ node_value inputs earlier node ∷ []) values nodes

pub length-values_after : (inputs : ℕ → Bool) (values : List Bool) (nodes : List Node) → length (values_after inputs values nodes) ≡ length values + length nodes
length-values_after inputs values [] = omega arith
length-values_after inputs values (x ∷ xs) =
    omega (arith, length-values_after inputs (values ++ node_value inputs values x ∷ []) xs, length-append values (node_value inputs values x ∷ []))

-- values that stand first stay
pub get_or-values_after : (inputs : ℕ → Bool) (values : List Bool) (nodes : List Node) (k : ℕ) → k < length values → get_or (values_after inputs values nodes) k false ≡ get_or values k false
get_or-values_after inputs values [] k h = refl
get_or-values_after inputs values (x ∷ xs) k h =
    get_or-values_after inputs (values ++ node_value inputs values x ∷ []) xs k (omega (arith, length-append values (node_value inputs values x ∷ [])))
    ∙ get_or_append_left values (node_value inputs values x ∷ []) false k h

-- two lists of values that agree up to a place give a literal that names no later node one value
pub literal_value_agrees : (n : ℕ) (vs ws : List Bool) → ((k : ℕ) → k < n → get_or ws k false ≡ get_or vs k false) → (l : ℤ) → Names n l → literal_value ws l ≡ literal_value vs l
literal_value_agrees n vs ws same (pos zero) h = refl
literal_value_agrees n vs ws same (pos (suc k)) h = same k (omega (arith, h.to_last))
literal_value_agrees n vs ws same (negsuc k) h = ap not (same k (omega (arith, h.to_last)))

pub node_value_agrees : (inputs : ℕ → Bool) (before : List Node) (vs ws : List Bool) → ((k : ℕ) → k < length before → get_or ws k false ≡ get_or vs k false) → (node : Node) → MayFollow before node → node_value inputs ws node ≡ node_value inputs vs node
node_value_agrees inputs before vs ws same True h = refl
node_value_agrees inputs before vs ws same (Input n) h = refl
node_value_agrees inputs before vs ws same (And a b) h =
    let p = literal_value_agrees (length before) vs ws same a h.0 in
    let q = literal_value_agrees (length before) vs ws same b h.1 in
    ap (λ x. x && literal_value ws b) p ∙ ap (λ y. literal_value vs a && y) q
node_value_agrees inputs before vs ws same (Xor a b) h =
    let p = literal_value_agrees (length before) vs ws same a h.0 in
    let q = literal_value_agrees (length before) vs ws same b h.1 in
    ap (λ x. exclusive_or x (literal_value ws b)) p ∙ ap (exclusive_or (literal_value vs a)) q
node_value_agrees inputs before vs ws same (Mux s a b) h =
    let o = literal_value_agrees (length before) vs ws same s h.0 in
    let p = literal_value_agrees (length before) vs ws same a h.1.0 in
    let q = literal_value_agrees (length before) vs ws same b h.1.1 in
    ap (λ x. cond x (literal_value ws a) (literal_value ws b)) o
    ∙ (ap (λ x. cond (literal_value vs s) x (literal_value ws b)) p ∙ ap (cond (literal_value vs s) (literal_value vs a)) q)

-- the value of a node, once it and others stand after the values
value_at_seam : (inputs : ℕ → Bool) (values : List Bool) (node : Node) (nodes : List Node) (n : ℕ) → length values ≡ n → get_or (values_after inputs values (node ∷ nodes)) n false ≡ node_value inputs values node
value_at_seam inputs values node nodes n e =
    get_or-values_after inputs (values ++ node_value inputs values node ∷ []) nodes n (omega (arith, length-append values (node_value inputs values node ∷ [])))
    ∙ get_or_at values (node_value inputs values node) [] false n e

-- each node's value is what its operands make of the values of all nodes
pub values_after_at : (inputs : ℕ → Bool) (before : List Node) (values : List Bool) (nodes : List Node) → length values ≡ length before → (k : ℕ) (node : Node) → slice_get nodes k ≡ Some node → MayFollow (take (length before + k) (before ++ nodes)) node → get_or (values_after inputs values nodes) (length before + k) false ≡ node_value inputs (values_after inputs values nodes) node
values_after_at inputs before values [] same k node at h = cc
values_after_at inputs before values (x ∷ xs) same zero node at h =
    let e : x ≡ node = cc in
    let n : length values ≡ length before + 0 = omega arith in
    let t : take (length before + 0) (before ++ x ∷ xs) ≡ before = take_at before (x ∷ xs) (length before + 0) (omega arith) in
    subst (λ y. get_or (values_after inputs values (x ∷ xs)) (length before + 0) false ≡ node_value inputs (values_after inputs values (x ∷ xs)) y) e
    (value_at_seam inputs values x xs (length before + 0) n
    ∙ sym (node_value_agrees inputs before values (values_after inputs values (x ∷ xs))
    (λ k below. get_or-values_after inputs values (x ∷ xs) k (omega arith))
    x (subst (λ y. MayFollow before y) (sym e) (subst (λ ns. MayFollow ns node) t h))))
values_after_at inputs before values (x ∷ xs) same (suc k) node at h =
    let n : length (before ++ x ∷ []) + k ≡ length before + suc k = omega (arith, length-append before (x ∷ [])) in
    let s : length (values ++ node_value inputs values x ∷ []) ≡ length (before ++ x ∷ []) = omega (arith, length-append before (x ∷ []), length-append values (node_value inputs values x ∷ [])) in
    let m : take (length (before ++ x ∷ []) + k) ((before ++ x ∷ []) ++ xs) ≡ take (length before + suc k) (before ++ x ∷ xs) =
    ap (λ i. take i ((before ++ x ∷ []) ++ xs)) n ∙ ap (take (length before + suc k)) (append_assoc before (x ∷ []) xs) in
    subst (λ i. get_or (values_after inputs values (x ∷ xs)) i false ≡ node_value inputs (values_after inputs values (x ∷ xs)) node) n
    (values_after_at inputs (before ++ x ∷ []) (values ++ node_value inputs values x ∷ []) xs s k node at (subst (λ ns. MayFollow ns node) (sym m) h))

pub node_values_at : (inputs : ℕ → Bool) (nodes : List Node) (k : ℕ) (node : Node) → IsNetlist nodes → slice_get nodes k ≡ Some node → get_or (node_values inputs nodes) k false ≡ node_value inputs (node_values inputs nodes) node
node_values_at inputs nodes k node h at =
    let z : 0 + k ≡ k = omega arith in
    subst (λ i. get_or (node_values inputs nodes) i false ≡ node_value inputs (node_values inputs nodes) node) z
    (values_after_at inputs [] [] nodes refl k node at (subst (λ i. MayFollow (take i nodes) node) (sym z) (h.each k node at)))

-- a literal keeps its value as nodes are put after those that it names
pub value_of-append : (inputs : ℕ → Bool) (nodes more : List Node) (l : ℤ) → Names (length nodes) l → value_of inputs (nodes ++ more) l ≡ value_of inputs nodes l
unfolding value_of
value_of-append inputs nodes more l h =
    ap (λ vs. literal_value vs l) (fold-append _ [] nodes more)
    ∙ literal_value_agrees (length nodes) (node_values inputs nodes) (values_after inputs (node_values inputs nodes) more)
    (λ k below. get_or-values_after inputs (node_values inputs nodes) more k (omega (arith, length-values_after inputs [] nodes)))
    l h

-- the next node's literal has the node's value
pub value_of_next : (inputs : ℕ → Bool) (nodes : List Node) (node : Node) → value_of inputs (nodes ++ node ∷ []) (pos (suc (length nodes))) ≡ node_value inputs (node_values inputs nodes) node
unfolding value_of
value_of_next inputs nodes node =
    ap (λ vs. get_or vs (length nodes) false) (fold_push _ [] nodes node)
    ∙ get_or_at (node_values inputs nodes) (node_value inputs (node_values inputs nodes) node) [] false (length nodes) (length-values_after inputs [] nodes ∙ omega arith)
