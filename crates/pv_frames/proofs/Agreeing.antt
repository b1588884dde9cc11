-- Frames that give nodes the same literals have the same clauses.
use Rattle.std.proofs.Common.{◌≡◌, ℕ, ◌+◌, ◌≤◌, suc, ℤ, pos, negsuc, List, [], ◌∷◌, ◌++◌, length, take, Some, slice_get, refl, ◌∙◌, ap, subst, arith, length-take-le}
use Rattle.std.proofs.lemmas.Option.{slice_get_within}
use Rattle.pv_gate.specs.declared.netlist.Node.{Node}
use Rattle.pv_gate.specs.declared.netlist.Node.TheVariants.{True, Input, And, Xor, Mux}
use Rattle.pv_gate.specs.Node.{Names}
use Rattle.pv_gate.specs.Netlist.{IsNetlist, MayFollow}
use Rattle.pv_gate.proofs.ForCallers.{Names-more}
use Rattle.pv_cnf.specs.Literal.{complement}
use Rattle.pv_frames.specs.Frames.{Frame, literal_in, and_clauses, xor_clauses, mux_clauses, node_clauses, frame_clauses}

-- the first m nodes have the same literals
abbrev pub Agree : ℕ → Frame → Frame → Type 0
Agree m f g = (n : ℕ) → 1 ≤ n → n ≤ m → f n ≡ g n

pub literal-same : (f g : Frame) (m : ℕ) (l : ℤ) → Agree m f g → Names m l → literal_in f l ≡ literal_in g l
literal-same f g m (pos n) same h = same n (omega (arith, h.from_one)) (omega (arith, h.to_last))
literal-same f g m (negsuc n) same h = ap complement (same (suc n) (omega arith) (omega (arith, h.to_last)))

node-same : (f g : Frame) (m n : ℕ) (before : List Node) (node : Node) → Agree m f g → 1 ≤ n → n ≤ m → length before ≤ m → MayFollow before node
    → node_clauses f n node ≡ node_clauses g n node
node-same f g m n before True same one few less h = refl
node-same f g m n before (Input i) same one few less h = refl
node-same f g m n before (And a b) same one few less h =
    ap (λ (x : ℕ). and_clauses x (literal_in f a) (literal_in f b)) (same n one few)
    ∙ (ap (λ (x : ℕ). and_clauses (g n) x (literal_in f b)) (literal-same f g m a same (Names-more (length before) m a less h.0))
    ∙ ap (λ (x : ℕ). and_clauses (g n) (literal_in g a) x) (literal-same f g m b same (Names-more (length before) m b less h.1)))
node-same f g m n before (Xor a b) same one few less h =
    ap (λ (x : ℕ). xor_clauses x (literal_in f a) (literal_in f b)) (same n one few)
    ∙ (ap (λ (x : ℕ). xor_clauses (g n) x (literal_in f b)) (literal-same f g m a same (Names-more (length before) m a less h.0))
    ∙ ap (λ (x : ℕ). xor_clauses (g n) (literal_in g a) x) (literal-same f g m b same (Names-more (length before) m b less h.1)))
node-same f g m n before (Mux s a b) same one few less h =
    ap (λ (x : ℕ). mux_clauses x (literal_in f s) (literal_in f a) (literal_in f b)) (same n one few)
    ∙ (ap (λ (x : ℕ). mux_clauses (g n) x (literal_in f a) (literal_in f b)) (literal-same f g m s same (Names-more (length before) m s less h.0))
    ∙ (ap (λ (x : ℕ). mux_clauses (g n) (literal_in g s) x (literal_in f b)) (literal-same f g m a same (Names-more (length before) m a less h.1.0))
    ∙ ap (λ (x : ℕ). mux_clauses (g n) (literal_in g s) (literal_in g a) x) (literal-same f g m b same (Names-more (length before) m b less h.1.1))))

each-same : (f g : Frame) (n : ℕ) (nodes : List Node)
    → ((k : ℕ) (node : Node) → slice_get nodes k ≡ Some node → node_clauses f (n + k) node ≡ node_clauses g (n + k) node)
    → frame_clauses f n nodes ≡ frame_clauses g n nodes
each-same f g n [] each = refl
each-same f g n (x ∷ nodes) each =
    let e : n + 0 ≡ n = omega arith in
    ap (λ (cs : List (List ℕ)). cs ++ frame_clauses f (suc n) nodes) (subst (λ (m : ℕ). node_clauses f m x ≡ node_clauses g m x) e (each 0 x refl))
    ∙ ap (λ (cs : List (List ℕ)). node_clauses g n x ++ cs) (each-same f g (suc n) nodes (λ k node at.
    let d : n + suc k ≡ suc n + k = omega arith in
    subst (λ (m : ℕ). node_clauses f m node ≡ node_clauses g m node) d (each (suc k) node at)))

pub frames-agree : (f g : Frame) (nodes : List Node) → IsNetlist nodes → Agree (length nodes) f g → frame_clauses f 1 nodes ≡ frame_clauses g 1 nodes
frames-agree f g nodes net same = each-same f g 1 nodes (λ k node at.
    let below = slice_get_within nodes k node at in
    let taken = length-take-le k nodes (omega arith) in
    node-same f g (length nodes) (1 + k) (take k nodes) node same (omega arith) (omega arith) (omega arith) (net.each k node at))
