-- The numbers of cells among the values of nodes fit.
use Rattle.std.proofs.Common.{◌≡◌, ℕ, zero, suc, ◌+◌, ◌<◌, ◌≤◌, ◌^◌, ℤ, pos, negsuc, List, [], ◌∷◌, ◌++◌, length, take, Option, Some, None, refl, sym, subst, ◌∙◌, ap, arith, length-append, length-take}
use Rattle.std.specs.Prelude.{◌+ℤ◌, ◌-ℤ◌, ◌*ℤ◌, ◌≤ℤ◌, unsigned_abs, int_le, slice_get, option_and_then, Bool as Truth, true, false, ◌&&◌, if◌then◌else◌}
use Rattle.std.specs.Int.{w64, int_wrap}
use Rattle.std.proofs.lemmas.Int.{ints, int_wrap_fits, fits_signed_from_abs}
use Rattle.std.proofs.Common.{◌⊎◌, inl, inr}
use Rattle.std.proofs.lemmas.Bool.{cases_lt}
use Rattle.std.proofs.lemmas.List.{get_or_append_left, get_or_at}
use Rattle.std.proofs.Math.Nat.{mul-le-mul_right}
use Rattle.pv_place.specs.declared.place.Place.{Place}
use Rattle.pv_place.specs.declared.trap.TrapKind.TheVariants.{Index}
use Rattle.pv_mean.specs.Frames.{Frame}
use Rattle.pv_mean.specs.Endings.{Value, got, trap}
use Rattle.pv_eval.specs.declared.node.Node.{Node}
use Rattle.pv_eval.specs.declared.node.Node.TheVariants.{Constant, Read, One, Two, Three, Element}
use Rattle.pv_eval.specs.Operands.{at, span}
use Rattle.pv_eval.specs.Nodes.{element_number, node_value}
use Rattle.pv_eval.specs.Ops.{cell_number}
use Rattle.pv_eval.specs.Order.{most_of, most_at, IsMost, MayFollow, AreWithin, IsRoomFor}

-- ---- nodes that stand before

taken_get : {X : Type 0} (xs : List X) (k n : ℕ) → n < k → slice_get (take k xs) n ≡ slice_get xs n
taken_get [] zero n h = refl
taken_get [] (suc k) n h = refl
taken_get (x ∷ xs) zero n h = absurd (omega arith)
taken_get (x ∷ xs) (suc k) zero h = refl
taken_get (x ∷ xs) (suc k) (suc n) h = taken_get xs k n (omega arith)

most_before : (nodes : List Node) (k n : ℕ) → n < k → most_at (take k nodes) n ≡ most_at nodes n
most_before nodes k n h = ap (option_and_then most_of) (taken_get nodes k n h)

-- ---- the cells between elements

pub span_within : (low i high : ℤ) (stride : ℕ) → low ≤ℤ i → i ≤ℤ high → span low i stride ≤ span low high stride
span_within low i high stride p q = mul-le-mul_right stride (omega (arith, ints))

-- ---- each node behind those before it

room_by : (values : List ℤ) (from more most m : ℕ) → IsMost (Some m) more most → most < 2 ^ 32 → (pos 0 ≤ℤ at values from) × (at values from ≤ℤ pos m) → (pos 0 ≤ℤ at values from) × (at values from +ℤ pos more) ≤ℤ pos (2 ^ 32)
room_by values from more most m h small w = (w.0, omega (arith, ints, w.1))

pub room_for : (nodes : List Node) (ws : List ℤ) (k : ℕ) (node : Node) → MayFollow (take k nodes) node → length ws ≡ k → k ≤ length nodes → AreWithin nodes ws → IsRoomFor ws node
room_for nodes ws k (Constant v) f h g w = tt
room_for nodes ws k (Read o place) f h g w = tt
room_for nodes ws k (One op ty arg) f h g w = tt
room_for nodes ws k (Two op ty place left right) f h g w = tt
room_for nodes ws k (Three op a b c) f h g w = tt
room_for nodes ws k (Element from index low high stride most place) f h g w =
    let lt : from < k = omega (arith, f.below.0, length-take k nodes) in
    lead (most_at (take k nodes) from) (sym (most_before nodes k from lt)) f.most.0
  where
    lead : (o : Option ℕ) → most_at nodes from ≡ o → IsMost o (span low high stride) most → (pos 0 ≤ℤ at ws from) × (at ws from +ℤ pos (span low high stride)) ≤ℤ pos (2 ^ 32)
    lead None e most_is = absurd most_is
    lead (Some m) e most_is =
        room_by ws from (span low high stride) most m most_is f.most.1
        (w.each from m (omega (arith, f.below.0, length-take k nodes)) e)

-- ---- the numbers of cells

le_from : (a b : ℤ) → int_le a b ≡ true → a ≤ℤ b
le_from a b e = grind (arith, ints)

le_true : (a b : ℤ) → a ≤ℤ b → int_le a b ≡ true
le_true a b h = grind (arith, ints)

chosen : (p q : Truth) (x : ℤ) (place : Place) (v : ℤ) → (if p && q then got x else trap Index place) ≡ got v → (p ≡ true) × (q ≡ true) × (v ≡ x)
chosen true true x place v h = (refl, refl, cc)
chosen true false x place v h = cc
chosen false q x place v h = cc

between : (n i low high : ℤ) (stride : ℕ) (place : Place) (v : ℤ) → element_number n i low high stride place ≡ got v → (v ≡ pos (unsigned_abs n + span low i stride)) × (low ≤ℤ i) × (i ≤ℤ high)
between n i low high stride place v h =
    let t = chosen (int_le low i) (int_le i high) (pos (unsigned_abs n + span low i stride)) place v h in
    (t.2, le_from low i t.0, le_from i high t.1)

within_by : (n v : ℤ) (here there m most : ℕ) → pos 0 ≤ℤ n → n ≤ℤ pos m → m + there ≤ most → here ≤ there → v ≡ pos (unsigned_abs n + here) → (pos 0 ≤ℤ v) × (v ≤ℤ pos most)
within_by n v here there m most low high fit less is = (omega (arith, ints), omega (arith, ints))

pub most_value : (first : ℕ) (frame : Frame) (nodes : List Node) (ws : List ℤ) (k : ℕ) (node : Node) (v : ℤ) (m : ℕ) → MayFollow (take k nodes) node → length ws ≡ k → k ≤ length nodes → AreWithin nodes ws → node_value first frame ws node ≡ got v → most_of node ≡ Some m → (pos 0 ≤ℤ v) × (v ≤ℤ pos m)
most_value first frame nodes ws k (Constant (pos n)) v m f h g w is e =
    let a : pos n ≡ v = cc in
    let b : n ≡ m = cc in
    (omega (arith, ints), omega (arith, ints))
most_value first frame nodes ws k (Constant (negsuc n)) v m f h g w is e = cc
most_value first frame nodes ws k (Read o place) v m f h g w is e = cc
most_value first frame nodes ws k (One op ty arg) v m f h g w is e = cc
most_value first frame nodes ws k (Two op ty place left right) v m f h g w is e = cc
most_value first frame nodes ws k (Three op a b c) v m f h g w is e = cc
most_value first frame nodes ws k (Element from index low high stride most place) v m f h g w is e =
    let lt : from < k = omega (arith, f.below.0, length-take k nodes) in
    let same : most ≡ m = cc in
    let t = between (at ws from) (at ws index) low high stride place v is in
    subst (λ x. (pos 0 ≤ℤ v) × (v ≤ℤ pos x)) same
    (lead (most_at (take k nodes) from) (sym (most_before nodes k from lt)) f.most.0 t)
  where
    lead : (o : Option ℕ) → most_at nodes from ≡ o → IsMost o (span low high stride) most → (v ≡ pos (unsigned_abs (at ws from) + span low (at ws index) stride)) × (low ≤ℤ at ws index) × (at ws index ≤ℤ high) → (pos 0 ≤ℤ v) × (v ≤ℤ pos most)
    lead None at_none most_is t = absurd most_is
    lead (Some n) at_some most_is t =
        let u = w.each from n (omega (arith, f.below.0, length-take k nodes)) at_some in
        within_by (at ws from) v (span low (at ws index) stride) (span low high stride) n most u.0 u.1 most_is (span_within low (at ws index) high stride t.1 t.2) t.0

pub within_push : (nodes : List Node) (ws : List ℤ) (k : ℕ) (node : Node) (v : ℤ) → length ws ≡ k → most_at nodes k ≡ most_of node → AreWithin nodes ws → ((m : ℕ) → most_of node ≡ Some m → (pos 0 ≤ℤ v) × (v ≤ℤ pos m)) → AreWithin nodes (ws ++ v ∷ [])
within_push nodes ws k node v len is w here = record {
  each = λ j m lt e. elim (before_or_last j lt) [
    | inl less ↦ subst (λ z. (pos 0 ≤ℤ z) × (z ≤ℤ pos m)) (sym (get_or_append_left ws (v ∷ []) (pos 0) j less)) (w.each j m less e)
    | inr same ↦ subst (λ z. (pos 0 ≤ℤ z) × (z ≤ℤ pos m)) (sym (get_or_at ws v [] (pos 0) j (sym same))) (here m (sym is ∙ ap (most_at nodes) (sym len ∙ sym same) ∙ e))
  ];
}
  where
    before_or_last : (j : ℕ) → j < length (ws ++ v ∷ []) → (j < length ws) ⊎ (j ≡ length ws)
    before_or_last j lt = elim (cases_lt j (length ws)) [ inl less ↦ inl less | inr more ↦ inr (omega (arith, length-append ws (v ∷ []))) ]

-- ---- in 64 bits

in_64_bits : (n i low : ℤ) (stride : ℕ) → pos 0 ≤ℤ n → low ≤ℤ i → (n +ℤ pos (span low i stride)) ≤ℤ pos (2 ^ 32) → pos (unsigned_abs n + span low i stride) ≡ int_wrap w64 ((i -ℤ low) *ℤ pos stride +ℤ n)
in_64_bits n i low stride natural from few =
    let steps : i -ℤ low ≡ pos (unsigned_abs (i -ℤ low)) = omega (arith, ints) in
    let whole : (i -ℤ low) *ℤ pos stride +ℤ n ≡ n +ℤ pos (span low i stride) = ap (λ z. z *ℤ pos stride +ℤ n) steps ∙ omega (arith, ints) in
    let sum : pos (unsigned_abs n + span low i stride) ≡ n +ℤ pos (span low i stride) = omega (arith, ints, natural) in
    sum ∙ sym (ap (int_wrap w64) whole ∙ int_wrap_fits w64 (n +ℤ pos (span low i stride)) (fits_signed_from_abs w64 (n +ℤ pos (span low i stride)) (omega (arith, ints, natural, few))))

pub number_same : (n i low high : ℤ) (stride : ℕ) (place : Place) → pos 0 ≤ℤ n → (n +ℤ pos (span low high stride)) ≤ℤ pos (2 ^ 32) → element_number n i low high stride place ≡ cell_number n i low high (pos stride) place
number_same n i low high stride place natural few = pick (int_le low i) (int_le i high) refl refl
  where
    pick : (p q : Truth) → int_le low i ≡ p → int_le i high ≡ q → (if p && q then got (pos (unsigned_abs n + span low i stride)) else trap Index place) ≡ (if p && q then got (int_wrap w64 ((i -ℤ low) *ℤ pos stride +ℤ n)) else trap Index place)
    pick true true a b =
        let less = span_within low i high stride (le_from low i a) (le_from i high b) in
        ap (λ z. let t : Value = got z in t) (in_64_bits n i low stride natural (le_from low i a) (omega (arith, ints, few, less)))
    pick true false a b = refl
    pick false q a b = refl

pub cell_inside : (n i low high stride : ℤ) (place : Place) → low ≤ℤ i → i ≤ℤ high → cell_number n i low high stride place ≡ got (int_wrap w64 ((i -ℤ low) *ℤ stride +ℤ n))
cell_inside n i low high stride place p q =
    ap (λ b. let t : Value = if b && int_le i high then got (int_wrap w64 ((i -ℤ low) *ℤ stride +ℤ n)) else trap Index place in t) (le_true low i p)
    ∙ ap (λ b. let t : Value = if true && b then got (int_wrap w64 ((i -ℤ low) *ℤ stride +ℤ n)) else trap Index place in t) (le_true i high q)
