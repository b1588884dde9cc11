-- Loops over the bits of words: the next bits, and the end.
use Rattle.std.proofs.Common.{◌≡◌, ℕ, ◌<◌, ◌≤◌, ◌+◌, ◌-◌, ℤ, pos, Bool, true, false, [], ◌∷◌, ◌++◌, length, length-append, length-drop, length-take-le, take, drop, get_or, All, Result, Ok, Err, neg_ℤ, ap, sym, subst, ◌∙◌, arith}
use Rattle.std.specs.Prelude.{min, reverse}
use Rattle.std.specs.Result.{IfOk, OnErr}
use Rattle.std.proofs.lemmas.Bool.{false≢true}
use Rattle.std.proofs.lemmas.List.Elements.{All-same, All-from_get_or}
use Rattle.std.proofs.lemmas.List.{drop_all, take_all, take_more, map-append, length-replicate, length-reverse, get_or-reverse}
use Rattle.pv_gate.specs.declared.fault.GateFault.{GateFault}
use Rattle.pv_gate.specs.declared.fault.GateFault.TheVariants.{NoMemory}
use Rattle.pv_gate.specs.Node.{Names, false_literal}
use Rattle.pv_gate.specs.Netlist.{Netlist}
use Rattle.pv_gate.specs.Building.{Building, Gives, and_then, each, done, pairs}
use Rattle.pv_gate.proofs.ForCallers.{Leads, leads_as, leads_all, gives_done, gives_no_memory, leads_all_then, drop_pairs, drop_bits, no_pairs}
use Rattle.pv_bits.specs.Circuits.{Word, complements, falses, shifted}

pub next_pair : {S : Type 0} {old now : Netlist} {whole : Building S} (step : S → ℤ × ℤ → Building S) (s : S) (a b : Word) (i : ℕ) → i < length a → length a ≡ length b → Leads old now whole (each step s (drop i (pairs a b))) → Leads old now whole (each step s ((get_or a i (pos 0), get_or b i (pos 0)) ∷ drop (i + 1) (pairs a b)))
next_pair step s a b i lt same h = leads_as _ (ap (each step s) (drop_pairs a b i lt (omega arith))) h

pub next_pair_then : {S B : Type 0} {old now : Netlist} {whole : Building B} (step : S → ℤ × ℤ → Building S) (s : S) (k : S → Building B) (a b : Word) (i : ℕ) → i < length a → length a ≡ length b → Leads old now whole (and_then (each step s (drop i (pairs a b))) k) → Leads old now whole (and_then (each step s ((get_or a i (pos 0), get_or b i (pos 0)) ∷ drop (i + 1) (pairs a b))) k)
next_pair_then step s k a b i lt same h = leads_as _ (ap (λ es. and_then (each step s es) k) (drop_pairs a b i lt (omega arith))) h

pub all_pairs : {S : Type 0} {old now : Netlist} {whole : Building S} (step : S → ℤ × ℤ → Building S) (s : S) (a b : Word) (i : ℕ) → length a ≤ i → Leads old now whole (each step s (drop i (pairs a b))) → Leads old now whole (done s)
all_pairs step s a b i ge h = leads_all step s (leads_as _ (ap (each step s) (no_pairs a b i ge)) h)

pub all_pairs_then : {S B : Type 0} {old now : Netlist} {whole : Building B} (step : S → ℤ × ℤ → Building S) (s : S) (k : S → Building B) (a b : Word) (i : ℕ) → length a ≤ i → Leads old now whole (and_then (each step s (drop i (pairs a b))) k) → Leads old now whole (k s)
all_pairs_then step s k a b i ge h = leads_all_then step s k (leads_as _ (ap (λ es. and_then (each step s es) k) (no_pairs a b i ge)) h)

no_bits : (a : Word) (i : ℕ) → length a ≤ i → drop i a ≡ []
no_bits a i ge = drop_all i a ge

pub next_bit_then : {S B : Type 0} {old now : Netlist} {whole : Building B} (step : S → ℤ → Building S) (s : S) (k : S → Building B) (a : Word) (i : ℕ) → i < length a → Leads old now whole (and_then (each step s (drop i a)) k) → Leads old now whole (and_then (each step s (get_or a i (pos 0) ∷ drop (i + 1) a)) k)
next_bit_then step s k a i lt h = leads_as _ (ap (λ es. and_then (each step s es) k) (drop_bits a i lt)) h

pub next_bit : {S : Type 0} {old now : Netlist} {whole : Building S} (step : S → ℤ → Building S) (s : S) (a : Word) (i : ℕ) → i < length a → Leads old now whole (each step s (drop i a)) → Leads old now whole (each step s (get_or a i (pos 0) ∷ drop (i + 1) a))
next_bit step s a i lt h = leads_as _ (ap (each step s) (drop_bits a i lt)) h

pub all_bits_then : {S B : Type 0} {old now : Netlist} {whole : Building B} (step : S → ℤ → Building S) (s : S) (k : S → Building B) (a : Word) (i : ℕ) → length a ≤ i → Leads old now whole (and_then (each step s (drop i a)) k) → Leads old now whole (k s)
all_bits_then step s k a i ge h = leads_all_then step s k (leads_as _ (ap (λ es. and_then (each step s es) k) (no_bits a i ge)) h)

pub all_bits : {S : Type 0} {old now : Netlist} {whole : Building S} (step : S → ℤ → Building S) (s : S) (a : Word) (i : ℕ) → length a ≤ i → Leads old now whole (each step s (drop i a)) → Leads old now whole (done s)
all_bits step s a i ge h = leads_all step s (leads_as _ (ap (each step s) (no_bits a i ge)) h)

pub complements_next : (w made : Word) (i : ℕ) → i < length w → made ≡ complements (take i w) → made ++ neg_ℤ (get_or w i (pos 0)) ∷ [] ≡ complements (take (i + 1) w)
complements_next w made i lt h =
    ap (λ xs. xs ++ neg_ℤ (get_or w i (pos 0)) ∷ []) h
    ∙ (sym (map-append (λ b. neg_ℤ b) (take i w) (get_or w i (pos 0) ∷ [])) ∙ ap complements (sym (take_more w i (pos 0) lt)))

-- ---- what private calls answer

pub gives_made : {A : Type 0} {old now : Netlist} {whole : Building A} (x : A) (r : Result A GateFault) → IfOk r (λ w. w ≡ x) → OnErr r (r ≡ Err NoMemory) → Leads old now whole (done x) → Gives old now whole r
gives_made {A} {old} {now} {whole} x (Ok w) e err h =
    let P : A → Type 0 = λ y. Leads old now whole (done y) in
    gives_done (subst P (sym e) h)
gives_made x (Err f) e err h = gives_no_memory (Err f) (cc err) h

pub if_ok_as : {A E : Type 0} (r : Result A E) (x y : A) → x ≡ y → IfOk r (λ w. w ≡ x) → IfOk r (λ w. w ≡ y)
if_ok_as (Ok w) x y e h = h ∙ e
if_ok_as (Err f) x y e h = tt

pub if_ok_all : {E : Type 0} (P : ℤ → Type 0) (r : Result Word E) (x : Word) → All P x → IfOk r (λ w. w ≡ x) → IfOk r (λ w. All P w)
if_ok_all P (Ok w) x all h = All-same P w x h all
if_ok_all P (Err f) x all h = tt

pub if_ok_width : {E : Type 0} (r : Result Word E) (x : Word) (n : ℕ) → length x ≡ n → IfOk r (λ w. w ≡ x) → IfOk r (λ w. length w ≡ n)
if_ok_width (Ok w) x n e h = ap length h ∙ e
if_ok_width (Err f) x n e h = tt

-- ---- shifts

pub right_is : (left : Bool) (a first second : Word) (gone n : ℕ) → left ≡ false → gone ≡ min n (length a) → first ≡ take (length a - gone) (drop gone a) → second ≡ falses gone → first ++ second ≡ shifted left a n
right_is true a first second gone n is e f g = absurd (false≢true (sym is))
right_is false a first second gone n is e f g =
    ap (λ x. x ++ second) (f ∙ (take_all (length a - gone) (drop gone a) (omega (arith, length-drop gone a)) ∙ ap (λ k. drop k a) e)) ∙ ap (λ y. drop (min n (length a)) a ++ y) (g ∙ ap falses e)

pub length-shifted : (left : Bool) (a : Word) (n : ℕ) → length (shifted left a n) ≡ length a
length-shifted true a n =
    omega (arith, length-append (falses (min n (length a))) (take (length a - min n (length a)) a), length-replicate (min n (length a)) false_literal, length-take-le (length a - min n (length a)) a (omega arith))
length-shifted false a n =
    omega (arith, length-append (drop (min n (length a)) a) (falses (min n (length a))), length-replicate (min n (length a)) false_literal, length-drop (min n (length a)) a)

pub all_reverse : (n : ℕ) (ls : Word) → All (Names n) ls → All (Names n) (reverse ls)
all_reverse n ls h =
    All-from_get_or (Names n) (reverse ls) (pos 0)
    (λ i lt. let at : i < length ls = omega (arith, length-reverse ls) in
    subst (Names n) (sym (get_or-reverse ls i (pos 0) at)) (h (length ls - 1 - i) (pos 0) (omega arith)))
