-- `and`, `xor` and `mux` over lists of nodes have the values that they are named for.
use Rattle.std.proofs.Common.{◌≡◌, ℕ, ℤ, pos, Bool, true, false, not, ◌&&◌, ◌||◌, List, length, refl, sym, ◌∙◌, ap, cond, arith, inl, inr, unsigned_abs, neg_ℤ, int_eq}
use Rattle.std.specs.Bool.{nat_le}
use Rattle.std.specs.Int.{is_negative}
use Rattle.std.proofs.lemmas.Bool.{cond_both, or_cases}
use Rattle.std.proofs.lemmas.Option.{slice_get_within}
use Rattle.pv_gate.specs.declared.netlist.Node.{Node}
use Rattle.pv_gate.specs.declared.netlist.Node.TheVariants.{True, And, Xor, Mux}
use Rattle.pv_gate.specs.Node.{Names, true_literal, false_literal}
use Rattle.pv_gate.specs.Netlist.{IsNetlist}
use Rattle.pv_gate.specs.Value.{exclusive_or, literal_value, node_value, node_values, value_of}
use Rattle.pv_gate.specs.Build.{lower, higher, and_gate, or_gate, xor_gate, xor_made, choice_gate, mux_gate, mux_made}
use Rattle.pv_gate.proofs.Building.{Builds, builds_present, builds_same, builds_complemented, builds_complemented_if, builds_share, Names-neg, Names-abs, Names-lower, Names-higher, value_of-neg, value_of-true, value_of-false, value_of-abs, int_eq-true}

-- ---- of one or two truth values

not-not : (b : Bool) → not (not b) ≡ b
not-not true = refl
not-not false = refl

and-false : (x : Bool) → (x && false) ≡ false
and-false true = refl
and-false false = refl

and-true : (x : Bool) → (x && true) ≡ x
and-true true = refl
and-true false = refl

and-same : (x : Bool) → (x && x) ≡ x
and-same true = refl
and-same false = refl

and-not : (y : Bool) → (not y && y) ≡ false
and-not true = refl
and-not false = refl

and_comm : (x y : Bool) → (x && y) ≡ (y && x)
and_comm true true = refl
and_comm true false = refl
and_comm false true = refl
and_comm false false = refl

xor_comm : (x y : Bool) → exclusive_or x y ≡ exclusive_or y x
xor_comm true true = refl
xor_comm true false = refl
xor_comm false true = refl
xor_comm false false = refl

xor-false : (x : Bool) → exclusive_or x false ≡ x
xor-false true = refl
xor-false false = refl

xor-true : (x : Bool) → exclusive_or x true ≡ not x
xor-true true = refl
xor-true false = refl

xor-same : (x : Bool) → exclusive_or x x ≡ false
xor-same true = refl
xor-same false = refl

xor-not : (y : Bool) → exclusive_or (not y) y ≡ true
xor-not true = refl
xor-not false = refl

-- complements that are taken off both operands come back on the result
xor-flips : (s t x y : Bool) → exclusive_or (exclusive_or s t) (exclusive_or (exclusive_or s x) (exclusive_or t y)) ≡ exclusive_or x y
xor-flips true true true true = refl
xor-flips true true true false = refl
xor-flips true true false true = refl
xor-flips true true false false = refl
xor-flips true false true true = refl
xor-flips true false true false = refl
xor-flips true false false true = refl
xor-flips true false false false = refl
xor-flips false true true true = refl
xor-flips false true true false = refl
xor-flips false true false true = refl
xor-flips false true false false = refl
xor-flips false false true true = refl
xor-flips false false true false = refl
xor-flips false false false true = refl
xor-flips false false false false = refl

pub or_is : (x y : Bool) → not (not x && not y) ≡ (x || y)
or_is true y = refl
or_is false y = not-not y

or_choice : (s y : Bool) → not (not s && not y) ≡ cond s true y
or_choice true y = refl
or_choice false y = not-not y

and_not_choice : (s y : Bool) → (not s && y) ≡ cond s false y
and_not_choice true y = refl
and_not_choice false y = refl

or_not_choice : (s x : Bool) → not (not (not s) && not x) ≡ cond s x true
or_not_choice true x = not-not x
or_not_choice false x = refl

and_choice : (s x : Bool) → (s && x) ≡ cond s x false
and_choice true x = refl
and_choice false x = refl

xor_choice : (s x : Bool) → not (exclusive_or s x) ≡ cond s x (not x)
xor_choice true x = not-not x
xor_choice false x = refl

not_choice : (s x y : Bool) → not (cond s (not x) (not y)) ≡ cond s x y
not_choice true x y = not-not x
not_choice false x y = not-not y

same_choice : (s x : Bool) → cond s x x ≡ x
same_choice true x = refl
same_choice false x = refl

swap_choice : (s x y : Bool) → cond (not s) y x ≡ cond s x y
swap_choice true x y = refl
swap_choice false x y = refl

-- ---- and, or

Names-true : (nodes : List Node) → IsNetlist nodes → Names (length nodes) true_literal
Names-true nodes h = record { from_one = omega arith; to_last = omega (arith, slice_get_within nodes 0 True h.first) }

Names-false : (nodes : List Node) → IsNetlist nodes → Names (length nodes) false_literal
Names-false nodes h = record { from_one = omega arith; to_last = omega (arith, slice_get_within nodes 0 True h.first) }

and_ordered : (t : Bool) (f : ℤ → Bool) (a b : ℤ) → (f (cond t a b) && f (cond t b a)) ≡ (f a && f b)
and_ordered true f a b = refl
and_ordered false f a b = and_comm (f b) (f a)

and_node_value : (inputs : ℕ → Bool) (nodes : List Node) (a b : ℤ) → node_value inputs (node_values inputs nodes) (And (lower a b) (higher a b)) ≡ (value_of inputs nodes a && value_of inputs nodes b)
unfolding value_of
and_node_value inputs nodes a b = and_ordered (nat_le (unsigned_abs a) (unsigned_abs b)) (literal_value (node_values inputs nodes)) a b

value_at_true : (inputs : ℕ → Bool) (nodes : List Node) (l : ℤ) → IsNetlist nodes → int_eq l true_literal ≡ true → value_of inputs nodes l ≡ true
value_at_true inputs nodes l h e = ap (value_of inputs nodes) (int_eq-true l true_literal e) ∙ value_of-true inputs nodes h

value_at_false : (inputs : ℕ → Bool) (nodes : List Node) (l : ℤ) → IsNetlist nodes → int_eq l false_literal ≡ true → value_of inputs nodes l ≡ false
value_at_false inputs nodes l h e = ap (value_of inputs nodes) (int_eq-true l false_literal e) ∙ value_of-false inputs nodes h

value_at_neg : (inputs : ℕ → Bool) (nodes : List Node) (k l : ℤ) → Names (length nodes) l → int_eq k (neg_ℤ l) ≡ true → value_of inputs nodes k ≡ not (value_of inputs nodes l)
value_at_neg inputs nodes k l names e = ap (value_of inputs nodes) (int_eq-true k (neg_ℤ l) e) ∙ value_of-neg inputs nodes (length nodes) l names

value_at_same : (inputs : ℕ → Bool) (nodes : List Node) (k l : ℤ) → int_eq k l ≡ true → value_of inputs nodes k ≡ value_of inputs nodes l
value_at_same inputs nodes k l e = ap (value_of inputs nodes) (int_eq-true k l e)

and_value_false : (inputs : ℕ → Bool) (nodes : List Node) (a b : ℤ) → IsNetlist nodes → Names (length nodes) b → (int_eq a false_literal || (int_eq b false_literal || int_eq a (neg_ℤ b))) ≡ true → (value_of inputs nodes a && value_of inputs nodes b) ≡ false
and_value_false inputs nodes a b h names e =
    elim (or_cases (int_eq a false_literal) (int_eq b false_literal || int_eq a (neg_ℤ b)) e) [
      | inl p ↦ ap (λ x. x && value_of inputs nodes b) (value_at_false inputs nodes a h p)
      | inr r ↦ elim (or_cases (int_eq b false_literal) (int_eq a (neg_ℤ b)) r) [
        | inl p ↦ ap (λ y. value_of inputs nodes a && y) (value_at_false inputs nodes b h p) ∙ and-false (value_of inputs nodes a)
        | inr p ↦ ap (λ x. x && value_of inputs nodes b) (value_at_neg inputs nodes a b names p) ∙ and-not (value_of inputs nodes b)
      ]
    ]

and_value_same : (inputs : ℕ → Bool) (nodes : List Node) (a b : ℤ) → IsNetlist nodes → (int_eq b true_literal || int_eq a b) ≡ true → (value_of inputs nodes a && value_of inputs nodes b) ≡ value_of inputs nodes a
and_value_same inputs nodes a b h e =
    elim (or_cases (int_eq b true_literal) (int_eq a b) e) [
      | inl p ↦ ap (λ y. value_of inputs nodes a && y) (value_at_true inputs nodes b h p) ∙ and-true (value_of inputs nodes a)
      | inr p ↦ ap (λ y. value_of inputs nodes a && y) (sym (value_at_same inputs nodes a b p)) ∙ and-same (value_of inputs nodes a)
    ]

pub and_builds : (nodes : List Node) (a b : ℤ) → IsNetlist nodes → Names (length nodes) a → Names (length nodes) b → Builds nodes (λ inputs. value_of inputs nodes a && value_of inputs nodes b) (and_gate nodes a b)
unfolding and_gate
and_builds nodes a b h p q =
    let V : (ℕ → Bool) → Bool = λ inputs. value_of inputs nodes a && value_of inputs nodes b in
    cond_both _ _ _ (Builds nodes V)
    (λ e. builds_present nodes V false_literal (Names-false nodes h) (λ inputs. value_of-false inputs nodes h ∙ sym (and_value_false inputs nodes a b h q e)))
    (λ _. cond_both _ _ _ (Builds nodes V)
    (λ e. builds_present nodes V b q (λ inputs. sym (ap (λ x. x && value_of inputs nodes b) (value_at_true inputs nodes a h e))))
    (λ _. cond_both _ _ _ (Builds nodes V)
    (λ e. builds_present nodes V a p (λ inputs. sym (and_value_same inputs nodes a b h e)))
    (λ _. builds_same nodes _ V _ (λ inputs. and_node_value inputs nodes a b)
    (builds_share nodes (And (lower a b) (higher a b)) h (Names-lower (length nodes) a b p q, Names-higher (length nodes) a b p q)))))

pub or_builds : (nodes : List Node) (a b : ℤ) → IsNetlist nodes → Names (length nodes) a → Names (length nodes) b → Builds nodes (λ inputs. not (not (value_of inputs nodes a) && not (value_of inputs nodes b))) (or_gate nodes a b)
unfolding or_gate
or_builds nodes a b h p q =
    builds_complemented nodes (λ inputs. not (value_of inputs nodes a) && not (value_of inputs nodes b)) (and_gate nodes (neg_ℤ a) (neg_ℤ b))
    (builds_same nodes _ _ _
    (λ inputs. ap (λ x. x && value_of inputs nodes (neg_ℤ b)) (value_of-neg inputs nodes (length nodes) a p)
    ∙ ap (λ y. not (value_of inputs nodes a) && y) (value_of-neg inputs nodes (length nodes) b q))
    (and_builds nodes (neg_ℤ a) (neg_ℤ b) h (Names-neg (length nodes) a p) (Names-neg (length nodes) b q)))

-- ---- xor

xor_ordered : (t : Bool) (f : ℤ → Bool) (a b : ℤ) → exclusive_or (f (cond t a b)) (f (cond t b a)) ≡ exclusive_or (f a) (f b)
xor_ordered true f a b = refl
xor_ordered false f a b = xor_comm (f b) (f a)

xor_node_value : (inputs : ℕ → Bool) (nodes : List Node) (a b : ℤ) → node_value inputs (node_values inputs nodes) (Xor (lower a b) (higher a b)) ≡ exclusive_or (value_of inputs nodes a) (value_of inputs nodes b)
unfolding value_of
xor_node_value inputs nodes a b = xor_ordered (nat_le (unsigned_abs a) (unsigned_abs b)) (literal_value (node_values inputs nodes)) a b

xor_made_value : (inputs : ℕ → Bool) (nodes : List Node) (a b : ℤ) → exclusive_or (exclusive_or (is_negative a) (is_negative b)) (node_value inputs (node_values inputs nodes) (Xor (lower (pos (unsigned_abs a)) (pos (unsigned_abs b))) (higher (pos (unsigned_abs a)) (pos (unsigned_abs b))))) ≡ exclusive_or (value_of inputs nodes a) (value_of inputs nodes b)
xor_made_value inputs nodes a b =
    ap (exclusive_or (exclusive_or (is_negative a) (is_negative b)))
    (xor_node_value inputs nodes (pos (unsigned_abs a)) (pos (unsigned_abs b))
    ∙ (ap (λ x. exclusive_or x (value_of inputs nodes (pos (unsigned_abs b)))) (value_of-abs inputs nodes a)
    ∙ ap (exclusive_or (exclusive_or (is_negative a) (value_of inputs nodes a))) (value_of-abs inputs nodes b)))
    ∙ xor-flips (is_negative a) (is_negative b) (value_of inputs nodes a) (value_of inputs nodes b)

pub xor_made_builds : (nodes : List Node) (a b : ℤ) → IsNetlist nodes → Names (length nodes) a → Names (length nodes) b → Builds nodes (λ inputs. exclusive_or (value_of inputs nodes a) (value_of inputs nodes b)) (xor_made nodes a b)
unfolding xor_made
xor_made_builds nodes a b h p q =
    let m : Names (length nodes) (pos (unsigned_abs a)) = Names-abs (length nodes) a p in
    let n : Names (length nodes) (pos (unsigned_abs b)) = Names-abs (length nodes) b q in
    builds_same nodes _ _ _ (λ inputs. xor_made_value inputs nodes a b)
    (builds_complemented_if nodes _ (exclusive_or (is_negative a) (is_negative b)) _
    (builds_share nodes (Xor (lower (pos (unsigned_abs a)) (pos (unsigned_abs b))) (higher (pos (unsigned_abs a)) (pos (unsigned_abs b)))) h
    (Names-lower (length nodes) (pos (unsigned_abs a)) (pos (unsigned_abs b)) m n, Names-higher (length nodes) (pos (unsigned_abs a)) (pos (unsigned_abs b)) m n)))

pub xor_builds : (nodes : List Node) (a b : ℤ) → IsNetlist nodes → Names (length nodes) a → Names (length nodes) b → Builds nodes (λ inputs. exclusive_or (value_of inputs nodes a) (value_of inputs nodes b)) (xor_gate nodes a b)
unfolding xor_gate
xor_builds nodes a b h p q =
    let V : (ℕ → Bool) → Bool = λ inputs. exclusive_or (value_of inputs nodes a) (value_of inputs nodes b) in
    cond_both _ _ _ (Builds nodes V)
    (λ e. builds_present nodes V b q (λ inputs. sym (ap (λ x. exclusive_or x (value_of inputs nodes b)) (value_at_false inputs nodes a h e))))
    (λ _. cond_both _ _ _ (Builds nodes V)
    (λ e. builds_present nodes V (neg_ℤ b) (Names-neg (length nodes) b q) (λ inputs. value_of-neg inputs nodes (length nodes) b q ∙ sym (ap (λ x. exclusive_or x (value_of inputs nodes b)) (value_at_true inputs nodes a h e))))
    (λ _. cond_both _ _ _ (Builds nodes V)
    (λ e. builds_present nodes V a p (λ inputs. sym (ap (exclusive_or (value_of inputs nodes a)) (value_at_false inputs nodes b h e) ∙ xor-false (value_of inputs nodes a))))
    (λ _. cond_both _ _ _ (Builds nodes V)
    (λ e. builds_present nodes V (neg_ℤ a) (Names-neg (length nodes) a p) (λ inputs. value_of-neg inputs nodes (length nodes) a p ∙ sym (ap (exclusive_or (value_of inputs nodes a)) (value_at_true inputs nodes b h e) ∙ xor-true (value_of inputs nodes a))))
    (λ _. cond_both _ _ _ (Builds nodes V)
    (λ e. builds_present nodes V false_literal (Names-false nodes h) (λ inputs. value_of-false inputs nodes h ∙ sym (ap (λ x. exclusive_or x (value_of inputs nodes b)) (value_at_same inputs nodes a b e) ∙ xor-same (value_of inputs nodes b))))
    (λ _. cond_both _ _ _ (Builds nodes V)
    (λ e. builds_present nodes V true_literal (Names-true nodes h) (λ inputs. value_of-true inputs nodes h ∙ sym (ap (λ x. exclusive_or x (value_of inputs nodes b)) (value_at_neg inputs nodes a b q e) ∙ xor-not (value_of inputs nodes b))))
    (λ _. xor_made_builds nodes a b h p q))))))

-- ---- mux

mux_node_value : (inputs : ℕ → Bool) (nodes : List Node) (s a b : ℤ) → node_value inputs (node_values inputs nodes) (Mux s a b) ≡ cond (value_of inputs nodes s) (value_of inputs nodes a) (value_of inputs nodes b)
unfolding value_of
mux_node_value inputs nodes s a b = refl

mux_node_value-neg : (inputs : ℕ → Bool) (nodes : List Node) (s a b : ℤ) → Names (length nodes) a → Names (length nodes) b → not (node_value inputs (node_values inputs nodes) (Mux s (neg_ℤ a) (neg_ℤ b))) ≡ cond (value_of inputs nodes s) (value_of inputs nodes a) (value_of inputs nodes b)
mux_node_value-neg inputs nodes s a b p q =
    ap not (mux_node_value inputs nodes s (neg_ℤ a) (neg_ℤ b)
    ∙ (ap (λ x. cond (value_of inputs nodes s) x (value_of inputs nodes (neg_ℤ b))) (value_of-neg inputs nodes (length nodes) a p)
    ∙ ap (cond (value_of inputs nodes s) (not (value_of inputs nodes a))) (value_of-neg inputs nodes (length nodes) b q)))
    ∙ not_choice (value_of inputs nodes s) (value_of inputs nodes a) (value_of inputs nodes b)

pub mux_made_builds : (nodes : List Node) (s a b : ℤ) → IsNetlist nodes → Names (length nodes) s → Names (length nodes) a → Names (length nodes) b → Builds nodes (λ inputs. cond (value_of inputs nodes s) (value_of inputs nodes a) (value_of inputs nodes b)) (mux_made nodes s a b)
unfolding mux_made
mux_made_builds nodes s a b h o p q =
    let V : (ℕ → Bool) → Bool = λ inputs. cond (value_of inputs nodes s) (value_of inputs nodes a) (value_of inputs nodes b) in
    cond_both _ _ _ (Builds nodes V)
    (λ _. builds_same nodes _ V _ (λ inputs. mux_node_value-neg inputs nodes s a b p q)
    (builds_complemented nodes _ _ (builds_share nodes (Mux s (neg_ℤ a) (neg_ℤ b)) h (o, (Names-neg (length nodes) a p, Names-neg (length nodes) b q)))))
    (λ _. builds_same nodes _ V _ (λ inputs. mux_node_value inputs nodes s a b) (builds_share nodes (Mux s a b) h (o, (p, q))))

pub choice_builds : (nodes : List Node) (s a b : ℤ) → IsNetlist nodes → Names (length nodes) s → Names (length nodes) a → Names (length nodes) b → Builds nodes (λ inputs. cond (value_of inputs nodes s) (value_of inputs nodes a) (value_of inputs nodes b)) (choice_gate nodes s a b)
unfolding choice_gate
choice_builds nodes s a b h o p q =
    let V : (ℕ → Bool) → Bool = λ inputs. cond (value_of inputs nodes s) (value_of inputs nodes a) (value_of inputs nodes b) in
    cond_both _ _ _ (Builds nodes V)
    (λ e. builds_same nodes _ V _
    (λ inputs. or_choice (value_of inputs nodes s) (value_of inputs nodes b) ∙ ap (λ x. cond (value_of inputs nodes s) x (value_of inputs nodes b)) (sym (value_at_true inputs nodes a h e)))
    (or_builds nodes s b h o q))
    (λ _. cond_both _ _ _ (Builds nodes V)
    (λ e. builds_same nodes _ V _
    (λ inputs. ap (λ x. x && value_of inputs nodes b) (value_of-neg inputs nodes (length nodes) s o)
    ∙ (and_not_choice (value_of inputs nodes s) (value_of inputs nodes b) ∙ ap (λ x. cond (value_of inputs nodes s) x (value_of inputs nodes b)) (sym (value_at_false inputs nodes a h e))))
    (and_builds nodes (neg_ℤ s) b h (Names-neg (length nodes) s o) q))
    (λ _. cond_both _ _ _ (Builds nodes V)
    (λ e. builds_same nodes _ V _
    (λ inputs. ap (λ x. not (not x && not (value_of inputs nodes a))) (value_of-neg inputs nodes (length nodes) s o)
    ∙ (or_not_choice (value_of inputs nodes s) (value_of inputs nodes a) ∙ ap (cond (value_of inputs nodes s) (value_of inputs nodes a)) (sym (value_at_true inputs nodes b h e))))
    (or_builds nodes (neg_ℤ s) a h (Names-neg (length nodes) s o) p))
    (λ _. cond_both _ _ _ (Builds nodes V)
    (λ e. builds_same nodes _ V _
    (λ inputs. and_choice (value_of inputs nodes s) (value_of inputs nodes a) ∙ ap (cond (value_of inputs nodes s) (value_of inputs nodes a)) (sym (value_at_false inputs nodes b h e)))
    (and_builds nodes s a h o p))
    (λ _. cond_both _ _ _ (Builds nodes V)
    (λ e. builds_same nodes _ V _
    (λ inputs. xor_choice (value_of inputs nodes s) (value_of inputs nodes a) ∙ ap (cond (value_of inputs nodes s) (value_of inputs nodes a)) (sym (value_at_neg inputs nodes b a p e)))
    (builds_complemented nodes _ _ (xor_builds nodes s a h o p)))
    (λ _. mux_made_builds nodes s a b h o p q)))))

pub mux_builds : (nodes : List Node) (s a b : ℤ) → IsNetlist nodes → Names (length nodes) s → Names (length nodes) a → Names (length nodes) b → Builds nodes (λ inputs. cond (value_of inputs nodes s) (value_of inputs nodes a) (value_of inputs nodes b)) (mux_gate nodes s a b)
unfolding mux_gate
mux_builds nodes s a b h o p q =
    let V : (ℕ → Bool) → Bool = λ inputs. cond (value_of inputs nodes s) (value_of inputs nodes a) (value_of inputs nodes b) in
    cond_both _ _ _ (Builds nodes V)
    (λ e. builds_present nodes V a p (λ inputs. sym (ap (λ t. cond t (value_of inputs nodes a) (value_of inputs nodes b)) (value_at_true inputs nodes s h e))))
    (λ _. cond_both _ _ _ (Builds nodes V)
    (λ e. builds_present nodes V b q (λ inputs. sym (ap (λ t. cond t (value_of inputs nodes a) (value_of inputs nodes b)) (value_at_false inputs nodes s h e))))
    (λ _. cond_both _ _ _ (Builds nodes V)
    (λ e. builds_present nodes V a p (λ inputs. sym (ap (cond (value_of inputs nodes s) (value_of inputs nodes a)) (sym (value_at_same inputs nodes a b e)) ∙ same_choice (value_of inputs nodes s) (value_of inputs nodes a))))
    (λ _. cond_both _ _ _ (Builds nodes V)
    (λ _. builds_same nodes _ V _
    (λ inputs. ap (λ t. cond t (value_of inputs nodes b) (value_of inputs nodes a)) (value_of-neg inputs nodes (length nodes) s o)
    ∙ swap_choice (value_of inputs nodes s) (value_of inputs nodes a) (value_of inputs nodes b))
    (choice_builds nodes (neg_ℤ s) b a h (Names-neg (length nodes) s o) q p))
    (λ _. choice_builds nodes s a b h o p q))))
