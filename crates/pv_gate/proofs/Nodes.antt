-- Nodes that the index tells apart are different nodes.
use Rattle.std.proofs.Common.{◌≡◌, ◌<◌, ℕ, ℤ, true, ◌&&◌, refl, sym, ◌∙◌, ap, eqb, arith}
use Rattle.std.specs.declared.cmp.Ordering.{Ordering}
use Rattle.std.specs.declared.cmp.Ordering.TheVariants.{Less, Equal, Greater}
use Rattle.std.specs.Ordering.{int_eq, nat_cmp, is_eq, ordering_then}
use Rattle.std.specs.Cmp.{signed_Decides}
use Rattle.std.proofs.lemmas.Bool.{eqb-true, eq-eqb, ne_eqb, and_parts}
use Rattle.std.proofs.lemmas.Cmp.{by_ranked, ranked}
use Rattle.pv_gate.specs.declared.netlist.Node.{Node}
use Rattle.pv_gate.specs.declared.netlist.Node.TheVariants.{True, Input, And, Xor, Mux}
use Rattle.pv_gate.specs.Node.{is_same}
use Rattle.pv_gate.specs.Index.{node_cmp}

pub is_eq-ordering_then : (a b : Ordering) → is_eq (ordering_then a b) ≡ (is_eq a && is_eq b)
is_eq-ordering_then Less b = refl
is_eq-ordering_then Equal b = refl
is_eq-ordering_then Greater b = refl

is_eq-nat_cmp : (m n : ℕ) → is_eq (nat_cmp m n) ≡ eqb m n
is_eq-nat_cmp m n =
    by_ranked (m < n) (m ≡ n) (n < m) (nat_cmp m n) (ranked m n _ refl)
    (λ e h. ap is_eq e ∙ sym (ne_eqb m n (λ x. omega arith)))
    (λ e h. ap is_eq e ∙ sym (eq-eqb m n h))
    (λ e h. ap is_eq e ∙ sym (ne_eqb m n (λ x. omega arith)))

-- the index's order ties just the nodes that are the same
pub is_eq-node_cmp : (x y : Node) → is_eq (node_cmp x y) ≡ is_same x y
is_eq-node_cmp True True = refl
is_eq-node_cmp True (Input n) = refl
is_eq-node_cmp True (And c d) = refl
is_eq-node_cmp True (Xor c d) = refl
is_eq-node_cmp True (Mux t c d) = refl
is_eq-node_cmp (Input m) True = refl
is_eq-node_cmp (Input m) (Input n) = is_eq-nat_cmp m n
is_eq-node_cmp (Input m) (And c d) = refl
is_eq-node_cmp (Input m) (Xor c d) = refl
is_eq-node_cmp (Input m) (Mux t c d) = refl
is_eq-node_cmp (And a b) True = refl
is_eq-node_cmp (And a b) (Input n) = refl
is_eq-node_cmp (And a b) (And c d) = is_eq-ordering_then _ _
is_eq-node_cmp (And a b) (Xor c d) = refl
is_eq-node_cmp (And a b) (Mux t c d) = refl
is_eq-node_cmp (Xor a b) True = refl
is_eq-node_cmp (Xor a b) (Input n) = refl
is_eq-node_cmp (Xor a b) (And c d) = refl
is_eq-node_cmp (Xor a b) (Xor c d) = is_eq-ordering_then _ _
is_eq-node_cmp (Xor a b) (Mux t c d) = refl
is_eq-node_cmp (Mux s a b) True = refl
is_eq-node_cmp (Mux s a b) (Input n) = refl
is_eq-node_cmp (Mux s a b) (And c d) = refl
is_eq-node_cmp (Mux s a b) (Xor c d) = refl
is_eq-node_cmp (Mux s a b) (Mux t c d) =
    is_eq-ordering_then _ _ ∙ ap (λ r. int_eq s t && r) (is_eq-ordering_then _ _)

int_eq-true : (x y : ℤ) → int_eq x y ≡ true → x ≡ y
int_eq-true x y h = (signed_Decides x y).0 h

pub is_same-true : (x y : Node) → is_same x y ≡ true → x ≡ y
is_same-true True True h = refl
is_same-true True (Input n) h = cc
is_same-true True (And c d) h = cc
is_same-true True (Xor c d) h = cc
is_same-true True (Mux t c d) h = cc
is_same-true (Input m) True h = cc
is_same-true (Input m) (Input n) h = ap Input (eqb-true m n h)
is_same-true (Input m) (And c d) h = cc
is_same-true (Input m) (Xor c d) h = cc
is_same-true (Input m) (Mux t c d) h = cc
is_same-true (And a b) True h = cc
is_same-true (And a b) (Input n) h = cc
is_same-true (And a b) (And c d) h =
    let p : (int_eq a c ≡ true) × (int_eq b d ≡ true) = and_parts _ _ h in cc (int_eq-true a c p.0, int_eq-true b d p.1)
is_same-true (And a b) (Xor c d) h = cc
is_same-true (And a b) (Mux t c d) h = cc
is_same-true (Xor a b) True h = cc
is_same-true (Xor a b) (Input n) h = cc
is_same-true (Xor a b) (And c d) h = cc
is_same-true (Xor a b) (Xor c d) h =
    let p : (int_eq a c ≡ true) × (int_eq b d ≡ true) = and_parts _ _ h in cc (int_eq-true a c p.0, int_eq-true b d p.1)
is_same-true (Xor a b) (Mux t c d) h = cc
is_same-true (Mux s a b) True h = cc
is_same-true (Mux s a b) (Input n) h = cc
is_same-true (Mux s a b) (And c d) h = cc
is_same-true (Mux s a b) (Xor c d) h = cc
is_same-true (Mux s a b) (Mux t c d) h =
    let p : (int_eq s t ≡ true) × ((int_eq a c && int_eq b d) ≡ true) = and_parts _ _ h in
    let q : (int_eq a c ≡ true) × (int_eq b d ≡ true) = and_parts _ _ p.1 in
    cc (int_eq-true s t p.0, int_eq-true a c q.0, int_eq-true b d q.1)
