-- The circuits have the values that are computed on bits.
use Rattle.std.proofs.Common.{ℕ, ◌-◌, ℤ, Bool, true, false, not, List, [], ◌∷◌, ◌++◌, length, map, take, drop, replicate, suc, zero, subst}
use Rattle.std.specs.Prelude.{min}
use Rattle.std.specs.List.{fold, AllZip}
use Rattle.pv_gate.specs.declared.netlist.Node.{Node}
use Rattle.pv_gate.specs.Node.{true_literal, false_literal}
use Rattle.pv_gate.specs.Netlist.{IsNetlist}
use Rattle.pv_gate.specs.Building.{pairs, Has, Have, Makes}
use Rattle.pv_gate.proofs.ForCallers.{has_more, have_more, has_true, has_false, has_not, have_none, have_cons, have_push, have_append, have_pairs, length-have, HasBoth, has_both_more, makes_done, makes_then, makes_as, makes_and, makes_or, makes_xor, makes_mux, makes_each}
use Rattle.pv_bits.specs.Circuits.{Word, falses, complements, equal_bit, equal, less_bit, less_unsigned, select_bit, select, full_adder, adder_bit, adder, subtract, shifted, and_bit, and_each, multiply_bit, multiply}
use Rattle.pv_bits.proofs.Bits.{Bits, equal_step, less_step, select_step, sum_bit, carry_bit, adder_step, sum_bits, adder-bits, bits_left, bits_right, and_step, masked, and-bits, multiply_step}

-- ---- lists

pub have_falses : {inputs : ℕ → Bool} {nodes : List Node} (n : ℕ) → IsNetlist nodes → Have inputs nodes (falses n) (replicate n false)
have_falses zero h = have_none
have_falses (suc n) h = have_cons (has_false h) (have_falses n h)

all_complements : (inputs : ℕ → Bool) (nodes : List Node) (ls : Word) (vs : Bits) → AllZip (Has inputs nodes) ls vs → AllZip (Has inputs nodes) (complements ls) (map not vs)
all_complements inputs nodes [] [] h = tt
all_complements inputs nodes [] (v ∷ vs) h = h
all_complements inputs nodes (l ∷ ls) [] h = h
all_complements inputs nodes (l ∷ ls) (v ∷ vs) h = (has_not h.0, all_complements inputs nodes ls vs h.1)

pub have_complements : {inputs : ℕ → Bool} {nodes : List Node} {ls : Word} {vs : Bits} → Have inputs nodes ls vs → Have inputs nodes (complements ls) (map not vs)
have_complements {inputs} {nodes} {ls} {vs} h = record { each = all_complements inputs nodes ls vs h.each }

-- ---- equal, less, select

makes_equal_bit : (inputs : ℕ → Bool) (ns : List Node) (s : ℤ) (v : Bool) (p : ℤ × ℤ) (q : Bool × Bool) → IsNetlist ns → Has inputs ns s v → HasBoth inputs ns p q → Makes ns (λ ms l. Has inputs ms l (equal_step v q)) (equal_bit s p)
unfolding equal_bit
makes_equal_bit inputs ns s v p q net h k = makes_then (makes_xor net k.0 k.1) (λ ms d order up x. makes_and order (has_more up h) (has_not x))

pub makes_equal : {inputs : ℕ → Bool} {nodes : List Node} {a b : Word} {xs ys : Bits} → IsNetlist nodes → Have inputs nodes a xs → Have inputs nodes b ys → Makes nodes (λ ms l. Has inputs ms l (fold equal_step true (pairs xs ys))) (equal a b)
unfolding equal
makes_equal {inputs} {nodes} {a} {b} {xs} {ys} net p q =
    makes_each (λ ns l v. Has inputs ns l v) (λ ns e w. HasBoth inputs ns e w) equal_bit equal_step (λ ns ms e w up h. has_both_more inputs ns ms e w up h)
    (λ ns s v e w order h k. makes_equal_bit inputs ns s v e w order h k) nodes true_literal true (pairs a b) (pairs xs ys) net (has_true net) (have_pairs p q)

pub makes_less_bit : (inputs : ℕ → Bool) (ns : List Node) (s : ℤ) (v : Bool) (p : ℤ × ℤ) (q : Bool × Bool) → IsNetlist ns → Has inputs ns s v → HasBoth inputs ns p q → Makes ns (λ ms l. Has inputs ms l (less_step v q)) (less_bit s p)
unfolding less_bit
makes_less_bit inputs ns s v p q net h k = makes_then (makes_xor net k.0 k.1) (λ ms d order up x. makes_mux order x (has_more up k.1) (has_more up h))

pub makes_less_unsigned : {inputs : ℕ → Bool} {nodes : List Node} {a b : Word} {xs ys : Bits} → IsNetlist nodes → Have inputs nodes a xs → Have inputs nodes b ys → Makes nodes (λ ms l. Has inputs ms l (fold less_step false (pairs xs ys))) (less_unsigned a b)
unfolding less_unsigned
makes_less_unsigned {inputs} {nodes} {a} {b} {xs} {ys} net p q =
    makes_each (λ ns l v. Has inputs ns l v) (λ ns e w. HasBoth inputs ns e w) less_bit less_step (λ ns ms e w up h. has_both_more inputs ns ms e w up h)
    (λ ns s v e w order h k. makes_less_bit inputs ns s v e w order h k) nodes false_literal false (pairs a b) (pairs xs ys) net (has_false net) (have_pairs p q)

record Selects (inputs : ℕ → Bool) (s : ℤ) (z : Bool) (nodes : List Node) (w : Word) (vs : Bits) : Type 0 where
  selector : Has inputs nodes s z
  word : Have inputs nodes w vs

makes_select_bit : (inputs : ℕ → Bool) (s : ℤ) (z : Bool) (ns : List Node) (w : Word) (vs : Bits) (p : ℤ × ℤ) (q : Bool × Bool) → IsNetlist ns → Selects inputs s z ns w vs → HasBoth inputs ns p q → Makes ns (λ ms l. Selects inputs s z ms l (select_step z vs q)) (select_bit s w p)
unfolding select_bit
makes_select_bit inputs s z ns w vs p q net h k =
    makes_then (makes_mux net h.selector k.0 k.1) (λ ms bit order up x. makes_done _ order (record { selector = has_more up h.selector; word = have_push (have_more up h.word) x }))

pub makes_select : {inputs : ℕ → Bool} {nodes : List Node} {s : ℤ} {z : Bool} {a b : Word} {xs ys : Bits} → IsNetlist nodes → Has inputs nodes s z → Have inputs nodes a xs → Have inputs nodes b ys → Makes nodes (λ ms w. Have inputs ms w (fold (select_step z) [] (pairs xs ys))) (select s a b)
unfolding select
makes_select {inputs} {nodes} {s} {z} {a} {b} {xs} {ys} net h p q =
    makes_as (λ ms w (k : Selects inputs s z ms w (fold (select_step z) [] (pairs xs ys))). k.word)
    (makes_each (λ ns w vs. Selects inputs s z ns w vs) (λ ns e w. HasBoth inputs ns e w) (select_bit s) (select_step z) (λ ns ms e w up h. has_both_more inputs ns ms e w up h)
    (λ ns w vs e u order k l. makes_select_bit inputs s z ns w vs e u order k l) nodes [] [] (pairs a b) (pairs xs ys) net (record { selector = h; word = have_none }) (have_pairs p q))

-- ---- sums

record FullSum (inputs : ℕ → Bool) (x y z : Bool) (nodes : List Node) (o : ℤ × ℤ) : Type 0 where
  sum : Has inputs nodes o.0 (sum_bit x y z)
  carry : Has inputs nodes o.1 (carry_bit x y z)

makes_full_adder : {inputs : ℕ → Bool} {ns : List Node} {a b c : ℤ} {x y z : Bool} → IsNetlist ns → Has inputs ns a x → Has inputs ns b y → Has inputs ns c z → Makes ns (λ ms o. FullSum inputs x y z ms o) (full_adder a b c)
unfolding full_adder
makes_full_adder net p q r =
    makes_then (makes_xor net p q) (λ n1 differ o1 e1 d.
    makes_then (makes_xor o1 d (has_more e1 r)) (λ n2 sum o2 e2 s.
    makes_then (makes_and o2 (has_more e2 (has_more e1 p)) (has_more e2 (has_more e1 q))) (λ n3 both o3 e3 g.
    makes_then (makes_and o3 (has_more e3 (has_more e2 d)) (has_more e3 (has_more e2 (has_more e1 r)))) (λ n4 one o4 e4 h.
    makes_then (makes_or o4 (has_more e4 g) h) (λ n5 next o5 e5 k.
    makes_done _ o5 (record { sum = has_more e5 (has_more e4 (has_more e3 s)); carry = k }))))))

record Sums (inputs : ℕ → Bool) (nodes : List Node) (s : Word × ℤ) (v : Bits × Bool) : Type 0 where
  sum : Have inputs nodes s.0 v.0
  carry : Has inputs nodes s.1 v.1

makes_adder_bit : (inputs : ℕ → Bool) (ns : List Node) (s : Word × ℤ) (v : Bits × Bool) (p : ℤ × ℤ) (q : Bool × Bool) → IsNetlist ns → Sums inputs ns s v → HasBoth inputs ns p q → Makes ns (λ ms t. Sums inputs ms t (adder_step v q)) (adder_bit s p)
unfolding adder_bit
makes_adder_bit inputs ns s v p q net h k =
    makes_then (makes_full_adder net k.0 k.1 h.carry) (λ ms o order up f. makes_done _ order (record { sum = have_push (have_more up h.sum) f.sum; carry = f.carry }))

-- the sum's bits
pub makes_adder : {inputs : ℕ → Bool} {nodes : List Node} {a b : Word} {c : ℤ} {xs ys : Bits} {z : Bool} → IsNetlist nodes → Have inputs nodes a xs → Have inputs nodes b ys → Has inputs nodes c z → Makes nodes (λ ms w. Have inputs ms w (sum_bits z xs ys)) (adder a b c)
unfolding adder
makes_adder {inputs} {nodes} {a} {b} {c} {xs} {ys} {z} net p q r =
    makes_then (makes_each (λ ns s v. Sums inputs ns s v) (λ ns e w. HasBoth inputs ns e w) adder_bit adder_step (λ ns ms e w up h. has_both_more inputs ns ms e w up h)
    (λ ns s v e w order k l. makes_adder_bit inputs ns s v e w order k l) nodes ([], c) ([], z) (pairs a b) (pairs xs ys) net (record { sum = have_none; carry = r }) (have_pairs p q))
    (λ ms s order up k. makes_done s.0 order (subst (λ vs. Have inputs ms s.0 vs) (adder-bits [] z xs ys) k.sum))

pub makes_subtract : {inputs : ℕ → Bool} {nodes : List Node} {a b : Word} {xs ys : Bits} → IsNetlist nodes → Have inputs nodes a xs → Have inputs nodes b ys → Makes nodes (λ ms w. Have inputs ms w (sum_bits true xs (map not ys))) (subtract a b)
unfolding subtract
makes_subtract net p q = makes_adder net p (have_complements q) (has_true net)

-- ---- shifts and products

all_back : (inputs : ℕ → Bool) (nodes : List Node) (ls : Word) (vs : Bits) (i : ℕ) → AllZip (Has inputs nodes) ls vs → AllZip (Has inputs nodes) (drop i ls) (drop i vs)
all_back inputs nodes ls vs zero h = h
all_back inputs nodes [] [] (suc i) h = tt
all_back inputs nodes [] (v ∷ vs) (suc i) h = absurd h
all_back inputs nodes (l ∷ ls) [] (suc i) h = absurd h
all_back inputs nodes (l ∷ ls) (v ∷ vs) (suc i) h = all_back inputs nodes ls vs i h.1

all_front : (inputs : ℕ → Bool) (nodes : List Node) (ls : Word) (vs : Bits) (i : ℕ) → AllZip (Has inputs nodes) ls vs → AllZip (Has inputs nodes) (take i ls) (take i vs)
all_front inputs nodes ls vs zero h = tt
all_front inputs nodes [] [] (suc i) h = tt
all_front inputs nodes [] (v ∷ vs) (suc i) h = absurd h
all_front inputs nodes (l ∷ ls) [] (suc i) h = absurd h
all_front inputs nodes (l ∷ ls) (v ∷ vs) (suc i) h = (h.0, all_front inputs nodes ls vs i h.1)

pub have_front : {inputs : ℕ → Bool} {nodes : List Node} {ls : Word} {vs : Bits} (i : ℕ) → Have inputs nodes ls vs → Have inputs nodes (take i ls) (take i vs)
have_front {inputs} {nodes} {ls} {vs} i h = record { each = all_front inputs nodes ls vs i h.each }

pub have_left : {inputs : ℕ → Bool} {nodes : List Node} {ls : Word} {vs : Bits} (n : ℕ) → IsNetlist nodes → Have inputs nodes ls vs → Have inputs nodes (shifted true ls n) (bits_left vs n)
have_left {inputs} {nodes} {ls} {vs} n net h =
    let P : ℕ → Type 0 = λ k. Have inputs nodes (shifted true ls n) (replicate (min n k) false ++ take (k - min n k) vs) in
    subst P (length-have h) (have_append (have_falses (min n (length ls)) net) (have_front (length ls - min n (length ls)) h))

pub have_right : {inputs : ℕ → Bool} {nodes : List Node} {ls : Word} {vs : Bits} (n : ℕ) → IsNetlist nodes → Have inputs nodes ls vs → Have inputs nodes (shifted false ls n) (bits_right vs n)
have_right {inputs} {nodes} {ls} {vs} n net h =
    let P : ℕ → Type 0 = λ k. Have inputs nodes (shifted false ls n) (drop (min n k) vs ++ replicate (min n k) false) in
    subst P (length-have h) (have_append (record { each = all_back inputs nodes ls vs (min n (length ls)) h.each }) (have_falses (min n (length ls)) net))

record Masks (inputs : ℕ → Bool) (b : ℤ) (y : Bool) (nodes : List Node) (w : Word) (vs : Bits) : Type 0 where
  bit : Has inputs nodes b y
  word : Have inputs nodes w vs

makes_and_bit : (inputs : ℕ → Bool) (b : ℤ) (y : Bool) (ns : List Node) (w : Word) (vs : Bits) (a : ℤ) (x : Bool) → IsNetlist ns → Masks inputs b y ns w vs → Has inputs ns a x → Makes ns (λ ms l. Masks inputs b y ms l (and_step y vs x)) (and_bit b w a)
unfolding and_bit
makes_and_bit inputs b y ns w vs a x net h k =
    makes_then (makes_and net k h.bit) (λ ms both order up t. makes_done _ order (record { bit = has_more up h.bit; word = have_push (have_more up h.word) t }))

pub makes_and_each : {inputs : ℕ → Bool} {nodes : List Node} {a : Word} {b : ℤ} {xs : Bits} {y : Bool} → IsNetlist nodes → Have inputs nodes a xs → Has inputs nodes b y → Makes nodes (λ ms w. Have inputs ms w (masked y xs)) (and_each a b)
unfolding and_each
makes_and_each {inputs} {nodes} {a} {b} {xs} {y} net p h =
    makes_as (λ ms w (k : Masks inputs b y ms w (fold (and_step y) [] xs)). subst (λ vs. Have inputs ms w vs) (and-bits y [] xs) k.word)
    (makes_each (λ ns w vs. Masks inputs b y ns w vs) (λ ns l v. Has inputs ns l v) (and_bit b) (and_step y) (λ ns ms l v up t. has_more up t)
    (λ ns w vs l v order k t. makes_and_bit inputs b y ns w vs l v order k t) nodes [] [] a xs net (record { bit = h; word = have_none }) p.each)

record Products (inputs : ℕ → Bool) (nodes : List Node) (s : Word × Word) (v : Bits × Bits) : Type 0 where
  sum : Have inputs nodes s.0 v.0
  part : Have inputs nodes s.1 v.1

makes_multiply_bit : (inputs : ℕ → Bool) (ns : List Node) (s : Word × Word) (v : Bits × Bits) (b : ℤ) (y : Bool) → IsNetlist ns → Products inputs ns s v → Has inputs ns b y → Makes ns (λ ms t. Products inputs ms t (multiply_step v y)) (multiply_bit s b)
unfolding multiply_bit
makes_multiply_bit inputs ns s v b y net h k =
    makes_then (makes_and_each net h.part k) (λ n1 part o1 e1 p.
    makes_then (makes_adder o1 (have_more e1 h.sum) p (has_false o1)) (λ n2 sum o2 e2 q.
    makes_done _ o2 (record { sum = q; part = have_left 1 o2 (have_more e2 (have_more e1 h.part)) })))

pub makes_multiply : {inputs : ℕ → Bool} {nodes : List Node} {a b : Word} {xs ys : Bits} → IsNetlist nodes → Have inputs nodes a xs → Have inputs nodes b ys → Makes nodes (λ ms w. Have inputs ms w (fold multiply_step (replicate (length a) false, xs) ys).0) (multiply a b)
unfolding multiply
makes_multiply {inputs} {nodes} {a} {b} {xs} {ys} net p q =
    makes_then (makes_each (λ ns s v. Products inputs ns s v) (λ ns l v. Has inputs ns l v) multiply_bit multiply_step (λ ns ms l v up t. has_more up t)
    (λ ns s v l y order k t. makes_multiply_bit inputs ns s v l y order k t) nodes (falses (length a), a) (replicate (length a) false, xs) b ys net (record { sum = have_falses (length a) net; part = p }) q.each)
    (λ ms s order up k. makes_done s.0 order k.sum)
