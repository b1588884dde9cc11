-- Gates that are made once are found again, and what they leave is a netlist.
use Rattle.std.proofs.Common.{◌≡◌, ℕ, ◌+◌, ℤ, pos, suc, Bool, true, false, ◌&&◌, ◌||◌, List, [], ◌∷◌, ◌++◌, length, refl, sym, ◌∙◌, ap, cond, arith, Some, None, Option, unsigned_abs, neg_ℤ, int_eq, append_assoc, append-nil, add-zero}
use Rattle.std.specs.Int.{is_negative}
use Rattle.std.specs.Option.{option_or}
use Rattle.std.specs.Cmp.{signed_Decides}
use Rattle.std.proofs.lemmas.Bool.{eq-eqb}
use Rattle.pv_gate.specs.declared.netlist.Node.{Node}
use Rattle.pv_gate.specs.declared.netlist.Node.TheVariants.{True, Input, And, Xor, Mux}
use Rattle.pv_gate.specs.Node.{Names, is_same, true_literal, false_literal}
use Rattle.pv_gate.specs.Value.{exclusive_or}
use Rattle.pv_gate.specs.Netlist.{IsNetlist, MayFollow, Extends}
use Rattle.pv_gate.specs.Build.{Made, present, complemented, complemented_if, share, shared_at, number_from, number_of, lower, higher, and_gate, or_gate, xor_gate, xor_made, choice_gate, mux_gate, mux_made}
use Rattle.pv_gate.proofs.Building.{Names-neg, Names-abs, Names-lower, Names-higher}
use Rattle.pv_gate.proofs.Lists.{IsNetlist-push}

-- it adds nodes, and over nodes that extend those that it left it gives its literal again and adds none
pub record IsMade (g : List Node → Made) : Type 0 where
  pub extends : (nodes : List Node) → Extends nodes (g nodes).nodes
  pub again : (nodes all : List Node) → Extends (g nodes).nodes all → g all ≡ present all (g nodes).literal

pub made_present : (l : ℤ) → IsMade (λ nodes. present nodes l)
made_present l = record {
  extends = λ nodes. record { added = []; is = sym (append-nil nodes) };
  again = λ nodes all e. refl;
}

pub made_complemented : (g : List Node → Made) → IsMade g → IsMade (λ nodes. complemented (g nodes))
made_complemented g h = record {
  extends = λ nodes. h.extends nodes;
  again = λ nodes all e. ap complemented (h.again nodes all e);
}

pub made_complemented_if : (b : Bool) (g : List Node → Made) → IsMade g → IsMade (λ nodes. complemented_if b (g nodes))
made_complemented_if true g h = made_complemented g h
made_complemented_if false g h = h

pub made_if : (b : Bool) (g k : List Node → Made) → IsMade g → IsMade k → IsMade (λ nodes. cond b (g nodes) (k nodes))
made_if true g k p q = p
made_if false g k p q = q

-- ---- a shared node

int_eq-same : (x : ℤ) → int_eq x x ≡ true
int_eq-same x = (signed_Decides x x).1 refl

both_true : (x y : Bool) → x ≡ true → y ≡ true → (x && y) ≡ true
both_true x y p q = ap (λ t. t && y) p ∙ q

is_same-same : (x : Node) → is_same x x ≡ true
is_same-same True = refl
is_same-same (Input n) = eq-eqb n n refl
is_same-same (And a b) = both_true _ _ (int_eq-same a) (int_eq-same b)
is_same-same (Xor a b) = both_true _ _ (int_eq-same a) (int_eq-same b)
is_same-same (Mux s a b) = both_true _ _ (int_eq-same s) (both_true _ _ (int_eq-same a) (int_eq-same b))

append_step : (b : Bool) (n : ℕ) (r s t : Option ℕ) → r ≡ option_or s t → cond b (Some n) r ≡ option_or (cond b (Some n) s) t
append_step true n r s t h = refl
append_step false n r s t h = h

number_from-append : (n : ℕ) (q : Node) (xs ys : List Node) → number_from n q (xs ++ ys) ≡ option_or (number_from n q xs) (number_from (n + length xs) q ys)
number_from-append n q [] ys = rw add-zero
number_from-append n q (x ∷ xs) ys =
    let e : suc n + length xs ≡ n + suc (length xs) = omega arith in
    append_step (is_same x q) n _ _ _
    (number_from-append (suc n) q xs ys ∙ ap (λ m. option_or (number_from (suc n) q xs) (number_from m q ys)) e)

found_more : (nodes more : List Node) (node : Node) (n : ℕ) → number_of node nodes ≡ Some n → number_of node (nodes ++ more) ≡ Some n
found_more nodes more node n e = number_from-append 1 node nodes more ∙ ap (λ o. option_or o (number_from (1 + length nodes) node more)) e

found_new : (nodes more : List Node) (node : Node) → number_of node nodes ≡ None → number_of node ((nodes ++ node ∷ []) ++ more) ≡ Some (suc (length nodes))
found_new nodes more node e =
    let at : 1 + length nodes ≡ suc (length nodes) = omega arith in
    ap (number_of node) (append_assoc nodes (node ∷ []) more)
    ∙ (number_from-append 1 node nodes (node ∷ more)
    ∙ (ap (λ o. option_or o (number_from (1 + length nodes) node (node ∷ more))) e
    ∙ (ap (λ b. cond b (Some (1 + length nodes)) (number_from (suc (1 + length nodes)) node more)) (is_same-same node) ∙ ap Some at)))

shared_extends : (nodes : List Node) (node : Node) (o : Option ℕ) → Extends nodes (shared_at nodes node o).nodes
shared_extends nodes node (Some n) = record { added = []; is = sym (append-nil nodes) }
shared_extends nodes node None = record { added = node ∷ []; is = refl }

shared_again : (nodes all : List Node) (node : Node) (o : Option ℕ) → number_of node nodes ≡ o → Extends (shared_at nodes node o).nodes all → shared_at all node (number_of node all) ≡ present all (shared_at nodes node o).literal
shared_again nodes all node (Some n) is e =
    ap (shared_at all node) (ap (number_of node) e.is ∙ found_more nodes e.added node n is)
shared_again nodes all node None is e =
    ap (shared_at all node) (ap (number_of node) e.is ∙ found_new nodes e.added node is)

pub made_share : (node : Node) → IsMade (λ nodes. share nodes node)
unfolding share
made_share node = record {
  extends = λ nodes. shared_extends nodes node (number_of node nodes);
  again = λ nodes all e. shared_again nodes all node (number_of node nodes) refl e;
}

-- ---- the gates

pub made_and : (a b : ℤ) → IsMade (λ nodes. and_gate nodes a b)
unfolding and_gate
made_and a b =
    made_if (int_eq a false_literal || (int_eq b false_literal || int_eq a (neg_ℤ b))) _ _ (made_present false_literal)
    (made_if (int_eq a true_literal) _ _ (made_present b)
    (made_if (int_eq b true_literal || int_eq a b) _ _ (made_present a) (made_share (And (lower a b) (higher a b)))))

pub made_or : (a b : ℤ) → IsMade (λ nodes. or_gate nodes a b)
unfolding or_gate
made_or a b = made_complemented _ (made_and (neg_ℤ a) (neg_ℤ b))

made_xor_made : (a b : ℤ) → IsMade (λ nodes. xor_made nodes a b)
unfolding xor_made
made_xor_made a b =
    made_complemented_if (exclusive_or (is_negative a) (is_negative b)) _
    (made_share (Xor (lower (pos (unsigned_abs a)) (pos (unsigned_abs b))) (higher (pos (unsigned_abs a)) (pos (unsigned_abs b)))))

pub made_xor : (a b : ℤ) → IsMade (λ nodes. xor_gate nodes a b)
unfolding xor_gate
made_xor a b =
    made_if (int_eq a false_literal) _ _ (made_present b)
    (made_if (int_eq a true_literal) _ _ (made_present (neg_ℤ b))
    (made_if (int_eq b false_literal) _ _ (made_present a)
    (made_if (int_eq b true_literal) _ _ (made_present (neg_ℤ a))
    (made_if (int_eq a b) _ _ (made_present false_literal)
    (made_if (int_eq a (neg_ℤ b)) _ _ (made_present true_literal) (made_xor_made a b))))))

made_mux_made : (s a b : ℤ) → IsMade (λ nodes. mux_made nodes s a b)
unfolding mux_made
made_mux_made s a b = made_if (is_negative a) _ _ (made_complemented _ (made_share (Mux s (neg_ℤ a) (neg_ℤ b)))) (made_share (Mux s a b))

made_choice : (s a b : ℤ) → IsMade (λ nodes. choice_gate nodes s a b)
unfolding choice_gate
made_choice s a b =
    made_if (int_eq a true_literal) _ _ (made_or s b)
    (made_if (int_eq a false_literal) _ _ (made_and (neg_ℤ s) b)
    (made_if (int_eq b true_literal) _ _ (made_or (neg_ℤ s) a)
    (made_if (int_eq b false_literal) _ _ (made_and s a)
    (made_if (int_eq b (neg_ℤ a)) _ _ (made_complemented _ (made_xor s a)) (made_mux_made s a b)))))

pub made_mux : (s a b : ℤ) → IsMade (λ nodes. mux_gate nodes s a b)
unfolding mux_gate
made_mux s a b =
    made_if (int_eq s true_literal) _ _ (made_present a)
    (made_if (int_eq s false_literal) _ _ (made_present b)
    (made_if (int_eq a b) _ _ (made_present a)
    (made_if (is_negative s) _ _ (made_choice (neg_ℤ s) b a) (made_choice s a b))))

-- ---- nodes in order

-- the nodes that there are then are a netlist
pub record InOrder (made : Made) : Type 0 where
  pub netlist : IsNetlist made.nodes

order_present : (nodes : List Node) (l : ℤ) → IsNetlist nodes → InOrder (present nodes l)
order_present nodes l h = record { netlist = h }

order_if : (b : Bool) (x y : Made) → InOrder x → InOrder y → InOrder (cond b x y)
order_if true x y p q = p
order_if false x y p q = q

order_complemented_if : (b : Bool) (made : Made) → InOrder made → InOrder (complemented_if b made)
order_complemented_if true made h = record { netlist = h.netlist }
order_complemented_if false made h = h

order_shared : (nodes : List Node) (node : Node) (o : Option ℕ) → IsNetlist nodes → MayFollow nodes node → InOrder (shared_at nodes node o)
order_shared nodes node (Some n) h next = record { netlist = h }
order_shared nodes node None h next = record { netlist = IsNetlist-push nodes node h next }

order_share : (nodes : List Node) (node : Node) → IsNetlist nodes → MayFollow nodes node → InOrder (share nodes node)
unfolding share
order_share nodes node h next = order_shared nodes node (number_of node nodes) h next

pub order_and : (nodes : List Node) (a b : ℤ) → IsNetlist nodes → Names (length nodes) a → Names (length nodes) b → InOrder (and_gate nodes a b)
unfolding and_gate
order_and nodes a b h p q =
    order_if (int_eq a false_literal || (int_eq b false_literal || int_eq a (neg_ℤ b))) _ _ (order_present nodes false_literal h)
    (order_if (int_eq a true_literal) _ _ (order_present nodes b h)
    (order_if (int_eq b true_literal || int_eq a b) _ _ (order_present nodes a h)
    (order_share nodes (And (lower a b) (higher a b)) h (Names-lower (length nodes) a b p q, Names-higher (length nodes) a b p q))))

pub order_or : (nodes : List Node) (a b : ℤ) → IsNetlist nodes → Names (length nodes) a → Names (length nodes) b → InOrder (or_gate nodes a b)
unfolding or_gate
order_or nodes a b h p q = record { netlist = (order_and nodes (neg_ℤ a) (neg_ℤ b) h (Names-neg (length nodes) a p) (Names-neg (length nodes) b q)).netlist }

order_xor_made : (nodes : List Node) (a b : ℤ) → IsNetlist nodes → Names (length nodes) a → Names (length nodes) b → InOrder (xor_made nodes a b)
unfolding xor_made
order_xor_made nodes a b h p q =
    let m : Names (length nodes) (pos (unsigned_abs a)) = Names-abs (length nodes) a p in
    let n : Names (length nodes) (pos (unsigned_abs b)) = Names-abs (length nodes) b q in
    order_complemented_if (exclusive_or (is_negative a) (is_negative b)) _
    (order_share nodes (Xor (lower (pos (unsigned_abs a)) (pos (unsigned_abs b))) (higher (pos (unsigned_abs a)) (pos (unsigned_abs b)))) h
    (Names-lower (length nodes) (pos (unsigned_abs a)) (pos (unsigned_abs b)) m n, Names-higher (length nodes) (pos (unsigned_abs a)) (pos (unsigned_abs b)) m n))

pub order_xor : (nodes : List Node) (a b : ℤ) → IsNetlist nodes → Names (length nodes) a → Names (length nodes) b → InOrder (xor_gate nodes a b)
unfolding xor_gate
order_xor nodes a b h p q =
    order_if (int_eq a false_literal) _ _ (order_present nodes b h)
    (order_if (int_eq a true_literal) _ _ (order_present nodes (neg_ℤ b) h)
    (order_if (int_eq b false_literal) _ _ (order_present nodes a h)
    (order_if (int_eq b true_literal) _ _ (order_present nodes (neg_ℤ a) h)
    (order_if (int_eq a b) _ _ (order_present nodes false_literal h)
    (order_if (int_eq a (neg_ℤ b)) _ _ (order_present nodes true_literal h)
    (order_xor_made nodes a b h p q))))))

order_mux_made : (nodes : List Node) (s a b : ℤ) → IsNetlist nodes → Names (length nodes) s → Names (length nodes) a → Names (length nodes) b → InOrder (mux_made nodes s a b)
unfolding mux_made
order_mux_made nodes s a b h o p q =
    order_if (is_negative a) _ _
    (order_complemented_if true _ (order_share nodes (Mux s (neg_ℤ a) (neg_ℤ b)) h (o, (Names-neg (length nodes) a p, Names-neg (length nodes) b q))))
    (order_share nodes (Mux s a b) h (o, (p, q)))

order_choice : (nodes : List Node) (s a b : ℤ) → IsNetlist nodes → Names (length nodes) s → Names (length nodes) a → Names (length nodes) b → InOrder (choice_gate nodes s a b)
unfolding choice_gate
order_choice nodes s a b h o p q =
    let n : Names (length nodes) (neg_ℤ s) = Names-neg (length nodes) s o in
    order_if (int_eq a true_literal) _ _ (order_or nodes s b h o q)
    (order_if (int_eq a false_literal) _ _ (order_and nodes (neg_ℤ s) b h n q)
    (order_if (int_eq b true_literal) _ _ (order_or nodes (neg_ℤ s) a h n p)
    (order_if (int_eq b false_literal) _ _ (order_and nodes s a h o p)
    (order_if (int_eq b (neg_ℤ a)) _ _ (order_complemented_if true _ (order_xor nodes s a h o p))
    (order_mux_made nodes s a b h o p q)))))

pub order_mux : (nodes : List Node) (s a b : ℤ) → IsNetlist nodes → Names (length nodes) s → Names (length nodes) a → Names (length nodes) b → InOrder (mux_gate nodes s a b)
unfolding mux_gate
order_mux nodes s a b h o p q =
    order_if (int_eq s true_literal) _ _ (order_present nodes a h)
    (order_if (int_eq s false_literal) _ _ (order_present nodes b h)
    (order_if (int_eq a b) _ _ (order_present nodes a h)
    (order_if (is_negative s) _ _ (order_choice nodes (neg_ℤ s) b a h (Names-neg (length nodes) s o) q p) (order_choice nodes s a b h o p q))))
