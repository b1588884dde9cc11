-- The clauses of a frame, node by node: they are clauses, and few.
-- A node of `gates.node(k + 1)` is at `k + 1 - 1`: one `back` equation and `ap` of `slice_get`.
use Rattle.std.proofs.Common.{◌≡◌, ℕ, ◌+◌, ◌*◌, ◌/◌, ◌<◌, ◌≤◌, zero, suc, Bool, true, false, cond, List, [], ◌∷◌, ◌++◌, length, take, drop, Some, Option, unwrap_or, slice_get, refl, sym, ◌∙◌, ap, subst, arith, lit≤, lit<, length-append, append_assoc, append-nil}
use Rattle.std.specs.List.{flat_map, AllByRecursion}
use Rattle.std.proofs.lemmas.Bool.{or_from, ne_eqb, le-ltb}
use Rattle.std.proofs.lemmas.Grind.{flat_map-append}
use Rattle.std.proofs.lemmas.List.Sums.{sum_by-append, sum_by-take-drop}
use Rattle.pv_gate.specs.declared.netlist.Node.{Node}
use Rattle.pv_gate.specs.declared.netlist.Node.TheVariants.{True, Input, And, Xor, Mux}
use Rattle.pv_gate.specs.Node.{is_gate, gate_count}
use Rattle.pv_cnf.specs.Literal.{complement, is_outside}
use Rattle.pv_cnf.specs.Clause.{has_outside, AreClauses}
use Rattle.pv_frames.specs.Frames.{Frame, and_clauses, xor_clauses, mux_clauses, node_clauses, frame_clauses}
use Rattle.pv_frames.specs.Formulas.{has_complements, once, written}
use Rattle.pv_frames.proofs.Lists.{clauses-both}
use Rattle.pv_frames.proofs.Literals.{outside-complement}
use Rattle.pv_frames.proofs.Written.{written-valid}

-- ---- one more node, and the nodes around one

frame-around : (frame : Frame) (n : ℕ) (nodes : List Node) (k : ℕ) (node : Node) → slice_get nodes k ≡ Some node → frame_clauses frame n nodes ≡ frame_clauses frame n (take k nodes) ++ (node_clauses frame (n + k) node ++ frame_clauses frame (suc (n + k)) (drop (suc k) nodes))
frame-around frame n [] k node at = absurd (cc)
frame-around frame n (x ∷ nodes) zero node at =
    let same : x ≡ node = ap (λ (o : Option Node). unwrap_or o x) at in
    let e : n ≡ n + 0 = omega arith in
    ap (λ (m : ℕ). node_clauses frame m x ++ frame_clauses frame (suc m) nodes) e
    ∙ ap (λ (y : Node). node_clauses frame (n + 0) y ++ frame_clauses frame (suc (n + 0)) nodes) same
frame-around frame n (x ∷ nodes) (suc k) node at =
    let e : suc n + k ≡ n + suc k = omega arith in
    ap (λ (cs : List (List ℕ)). node_clauses frame n x ++ cs) (frame-around frame (suc n) nodes k node at)
    ∙ (sym (append_assoc (node_clauses frame n x) (frame_clauses frame (suc n) (take k nodes)) (node_clauses frame (suc n + k) node ++ frame_clauses frame (suc (suc n + k)) (drop (suc k) nodes)))
    ∙ ap (λ (m : ℕ). (node_clauses frame n x ++ frame_clauses frame (suc n) (take k nodes)) ++ (node_clauses frame m node ++ frame_clauses frame (suc m) (drop (suc k) nodes))) e)

frame-more : (frame : Frame) (n : ℕ) (nodes : List Node) (k : ℕ) (node : Node) → slice_get nodes k ≡ Some node → frame_clauses frame n (take (suc k) nodes) ≡ frame_clauses frame n (take k nodes) ++ node_clauses frame (n + k) node
frame-more frame n [] k node at = absurd (cc)
frame-more frame n (x ∷ nodes) zero node at =
    let same : x ≡ node = ap (λ (o : Option Node). unwrap_or o x) at in
    let e : n ≡ n + 0 = omega arith in
    append-nil (node_clauses frame n x) ∙ (ap (λ (m : ℕ). node_clauses frame m x) e ∙ ap (node_clauses frame (n + 0)) same)
frame-more frame n (x ∷ nodes) (suc k) node at =
    let e : suc n + k ≡ n + suc k = omega arith in
    ap (λ (cs : List (List ℕ)). node_clauses frame n x ++ cs) (frame-more frame (suc n) nodes k node at)
    ∙ (sym (append_assoc (node_clauses frame n x) (frame_clauses frame (suc n) (take k nodes)) (node_clauses frame (suc n + k) node))
    ∙ ap (λ (m : ℕ). (node_clauses frame n x ++ frame_clauses frame (suc n) (take k nodes)) ++ node_clauses frame m node) e)

-- the same of what is written
pub written-more : (frame : Frame) (n : ℕ) (nodes : List Node) (k : ℕ) (node : Node) → slice_get nodes k ≡ Some node → flat_map written (frame_clauses frame n (take (suc k) nodes)) ≡ flat_map written (frame_clauses frame n (take k nodes)) ++ flat_map written (node_clauses frame (n + k) node)
written-more frame n nodes k node at = ap (flat_map written) (frame-more frame n nodes k node at) ∙ flat_map-append written (frame_clauses frame n (take k nodes)) (node_clauses frame (n + k) node)

pub written-around : (frame : Frame) (n : ℕ) (nodes : List Node) (k : ℕ) (node : Node) → slice_get nodes k ≡ Some node → flat_map written (frame_clauses frame n nodes) ≡ flat_map written (frame_clauses frame n (take k nodes)) ++ (flat_map written (node_clauses frame (n + k) node) ++ flat_map written (frame_clauses frame (suc (n + k)) (drop (suc k) nodes)))
written-around frame n nodes k node at =
    ap (flat_map written) (frame-around frame n nodes k node at)
    ∙ (flat_map-append written (frame_clauses frame n (take k nodes)) (node_clauses frame (n + k) node ++ frame_clauses frame (suc (n + k)) (drop (suc k) nodes))
    ∙ ap (λ (cs : List (List ℕ)). flat_map written (frame_clauses frame n (take k nodes)) ++ cs) (flat_map-append written (node_clauses frame (n + k) node) (frame_clauses frame (suc (n + k)) (drop (suc k) nodes))))

-- ---- they are clauses

-- some literals, each inside
pub record AreInside (v : ℕ) (lits : List ℕ) : Type 0 where
  inside : has_outside v lits ≡ false
  some : 0 < length lits

pub written-all : (v : ℕ) (clauses : List (List ℕ)) → AllByRecursion (AreInside v) clauses → AreClauses v (flat_map written clauses)
written-all v [] all = tt
written-all v (c ∷ cs) all = clauses-both v (written c) (flat_map written cs) (written-valid v c all.0.inside all.0.some) (written-all v cs all.1)

pub inside-variable : (v lit : ℕ) → 1 ≤ lit / 2 → lit / 2 ≤ v → is_outside v lit ≡ false
inside-variable v lit from to = or_from _ _ (ne_eqb (lit / 2) 0 (λ e. omega arith)) (le-ltb v (lit / 2) to)

two-inside : (v a b : ℕ) → is_outside v a ≡ false → is_outside v b ≡ false → AreInside v (a ∷ b ∷ [])
two-inside v a b p q = record { inside = or_from _ _ p (or_from _ _ q refl); some = lit< tt }

three-inside : (v a b c : ℕ) → is_outside v a ≡ false → is_outside v b ≡ false → is_outside v c ≡ false → AreInside v (a ∷ b ∷ c ∷ [])
three-inside v a b c p q r = record { inside = or_from _ _ p (or_from _ _ q (or_from _ _ r refl)); some = lit< tt }

flipped : (v lit : ℕ) → is_outside v lit ≡ false → is_outside v (complement lit) ≡ false
flipped v lit h = outside-complement v lit ∙ h

pub and-inside : (v g a b : ℕ) → is_outside v g ≡ false → is_outside v a ≡ false → is_outside v b ≡ false → AllByRecursion (AreInside v) (and_clauses g a b)
and-inside v g a b p q r = (
  two-inside v (complement g) a (flipped v g p) q,
  (
    two-inside v (complement g) b (flipped v g p) r,
    (three-inside v g (complement a) (complement b) p (flipped v a q) (flipped v b r), tt),
  ),
)

pub xor-inside : (v g a b : ℕ) → is_outside v g ≡ false → is_outside v a ≡ false → is_outside v b ≡ false → AllByRecursion (AreInside v) (xor_clauses g a b)
xor-inside v g a b p q r = (
  three-inside v (complement g) a b (flipped v g p) q r,
  (
    three-inside v (complement g) (complement a) (complement b) (flipped v g p) (flipped v a q) (flipped v b r),
    (
      three-inside v g (complement a) b p (flipped v a q) r,
      (three-inside v g a (complement b) p q (flipped v b r), tt),
    ),
  ),
)

pub mux-inside : (v g s a b : ℕ) → is_outside v g ≡ false → is_outside v s ≡ false → is_outside v a ≡ false → is_outside v b ≡ false → AllByRecursion (AreInside v) (mux_clauses g s a b)
mux-inside v g s a b p o q r = (
  three-inside v (complement g) (complement s) a (flipped v g p) (flipped v s o) q,
  (
    three-inside v g (complement s) (complement a) p (flipped v s o) (flipped v a q),
    (
      three-inside v (complement g) s b (flipped v g p) o r,
      (three-inside v g s (complement b) p o (flipped v b r), tt),
    ),
  ),
)

-- the clauses of all nodes, where those of each are
pub frame-valid : (frame : Frame) (v n : ℕ) (nodes : List Node) → ((k : ℕ) (node : Node) → slice_get nodes k ≡ Some node → AreClauses v (flat_map written (node_clauses frame (n + k) node))) → AreClauses v (flat_map written (frame_clauses frame n nodes))
frame-valid frame v n [] each = tt
frame-valid frame v n (x ∷ nodes) each =
    let here : n + 0 ≡ n = omega arith in
    subst (AreClauses v) (sym (flat_map-append written (node_clauses frame n x) (frame_clauses frame (suc n) nodes)))
    (clauses-both v (flat_map written (node_clauses frame n x)) (flat_map written (frame_clauses frame (suc n) nodes))
    (subst (λ (m : ℕ). AreClauses v (flat_map written (node_clauses frame m x))) here (each 0 x refl))
    (frame-valid frame v (suc n) nodes (λ k node at.
    let there : n + suc k ≡ suc n + k = omega arith in
    subst (λ (m : ℕ). AreClauses v (flat_map written (node_clauses frame m node))) there (each (suc k) node at))))

-- ---- they are few

one-written : (lits : List ℕ) → length (written lits) ≤ 1
one-written lits = by (has_complements lits)
  where
    by : (b : Bool) → length (cond b [] (once lits ∷ [])) ≤ 1
    by true = lit≤ tt
    by false = lit≤ tt

length-written : (clauses : List (List ℕ)) → length (flat_map written clauses) ≤ length clauses
length-written [] = lit≤ tt
length-written (c ∷ cs) = let one = one-written c in let more = length-written cs in omega (arith, length-append (written c) (flat_map written cs))

node-few : (frame : Frame) (n : ℕ) (node : Node) → length (node_clauses frame n node) ≤ 4 * gate_count (node ∷ [])
node-few frame n True = lit≤ tt
node-few frame n (Input m) = lit≤ tt
node-few frame n (And a b) = lit≤ tt
node-few frame n (Xor a b) = lit≤ tt
node-few frame n (Mux s a b) = lit≤ tt

frame-few : (frame : Frame) (n : ℕ) (nodes : List Node) → length (frame_clauses frame n nodes) ≤ 4 * gate_count nodes
frame-few frame n [] = lit≤ tt
frame-few frame n (x ∷ nodes) =
    let one = node-few frame n x in
    let more = frame-few frame (suc n) nodes in
    let split = sum_by-append (λ (y : Node). cond (is_gate y) 1 0) (x ∷ []) nodes in
    omega (arith, length-append (node_clauses frame n x) (frame_clauses frame (suc n) nodes))

-- at most four for each gate
pub written-few : (frame : Frame) (n : ℕ) (nodes : List Node) → length (flat_map written (frame_clauses frame n nodes)) ≤ 4 * gate_count nodes
written-few frame n nodes = let some = frame-few frame n nodes in let less = length-written (frame_clauses frame n nodes) in omega arith

pub gates-taken : (nodes : List Node) (k : ℕ) → gate_count (take k nodes) ≤ gate_count nodes
gates-taken nodes k = let split = sum_by-take-drop (λ (y : Node). cond (is_gate y) 1 0) nodes k in omega arith

-- ---- the clause of one literal

pub unit-valid : (v lit : ℕ) → is_outside v lit ≡ false → AreClauses v ((lit ∷ []) ∷ [])
unit-valid v lit h = written-valid v (lit ∷ []) (or_from _ _ h refl) (lit< tt)
