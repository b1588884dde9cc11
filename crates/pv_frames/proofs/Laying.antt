-- The list of the input nodes' literals, as it is made place by place.
use Rattle.std.proofs.Common.{◌≡◌, ℕ, ◌+◌, ◌-◌, ◌*◌, ◌<◌, ◌≤◌, suc, ℤ, pos, Bool, true, false, cond, ◌&&◌, List, length, take, set, get_or, All, Option, Some, None, unwrap_or, unsigned_abs, int_eq, ◌⊎◌, refl, sym, ◌∙◌, ap, subst, arith, inl, inr}
use Rattle.std.specs.Option.{is_none}
use Rattle.std.proofs.lemmas.Bool.{cases_eq, lt-ltb, false_from_ne_true}
use Rattle.std.proofs.lemmas.Cmp.{int_eq_equiv}
use Rattle.std.proofs.lemmas.List.{get_or-set_same, get_or-set_other, length-set}
use Rattle.pv_gate.proofs.ForCallers.{int_eq-true}
use Rattle.pv_frames.specs.Queries.{given_for, is_own, own_below, numbered}
use Rattle.pv_frames.specs.Tables.{IsBegin}
use Rattle.pv_frames.proofs.Giving.{bit, given-more, numbered-is}

-- one more literal at its node's place
pub placed-more : (bs : List (Option ℕ)) (inputs : ℕ) (ls : List ℤ) (gs : List (Option ℕ)) (k at : ℕ) → length bs ≡ inputs → All (IsBegin inputs) ls
    → k < length ls → length gs ≡ length ls → at ≡ unsigned_abs (get_or ls k (pos 0)) - 2
    → ((i : ℕ) → i < length bs → get_or bs i None ≡ given_for None (take k ls) (take k gs) (2 + i))
    → (i : ℕ) → i < length (set bs at (get_or gs k None))
    → get_or (set bs at (get_or gs k None)) i None ≡ given_for None (take (k + 1) ls) (take (k + 1) gs) (2 + i)
placed-more bs inputs ls gs k at many all lt long place before i below = by (cases_eq i at)
  where
    l : ℤ
    l = get_or ls k (pos 0)

    is : IsBegin inputs l
    is = all k (pos 0) lt

    next : suc k ≡ k + 1
    next = omega arith

    within : i < length bs
    within = omega (arith, below, length-set bs at (get_or gs k None))

    more : given_for None (take (k + 1) ls) (take (k + 1) gs) (2 + i) ≡ cond (int_eq l (pos (2 + i))) (get_or gs k None) (given_for None (take k ls) (take k gs) (2 + i))
    more = subst (λ (n : ℕ). given_for None (take n ls) (take n gs) (2 + i) ≡ cond (int_eq l (pos (2 + i))) (get_or gs k None) (given_for None (take k ls) (take k gs) (2 + i))) next
        (given-more None ls gs k (2 + i) (pos 0) None lt (omega (arith, lt, long)))

    by : (i ≡ at) ⊎ (i ≡ at → ⊥) → get_or (set bs at (get_or gs k None)) i None ≡ given_for None (take (k + 1) ls) (take (k + 1) gs) (2 + i)
    by (inl e) =
        let there : unsigned_abs l ≡ 2 + i = omega (arith, e, place, is.from_two) in
        let it : int_eq l (pos (2 + i)) ≡ true = subst (λ (z : ℤ). int_eq l z ≡ true) (is.positive ∙ ap pos there) (int_eq_equiv.refl l) in
        ap (λ (n : ℕ). get_or (set bs at (get_or gs k None)) n None) e
        ∙ (get_or-set_same bs at (get_or gs k None) None (omega (arith, e, within))
        ∙ sym (more ∙ ap (λ (b : Bool). cond b (get_or gs k None) (given_for None (take k ls) (take k gs) (2 + i))) it))
    by (inr ne) =
        let other : int_eq l (pos (2 + i)) ≡ false =
        false_from_ne_true (int_eq l (pos (2 + i))) (λ e. ne (let same = ap unsigned_abs (int_eq-true l (pos (2 + i)) e) in omega (arith, same, place))) in
        get_or-set_other bs at i (get_or gs k None) None ne
        ∙ (before i within
        ∙ sym (more ∙ ap (λ (b : Bool). cond b (get_or gs k None) (given_for None (take k ls) (take k gs) (2 + i))) other))

-- what is known of the places that aren't numbered yet
abbrev pub AreGiven : (ℕ → Option ℕ) → List (Option ℕ) → Type 0
AreGiven given old = (m : ℕ) → m < length old → get_or old m None ≡ given (2 + m)

-- one more place has its literal
pub number-done : (given : ℕ → Option ℕ) (old bs : List (Option ℕ)) (first next i lit : ℕ) → length bs ≡ length old → i < length old → AreGiven given old
    → ((m : ℕ) → i ≤ m → get_or bs m None ≡ get_or old m None) → next ≡ first + own_below given (2 + i)
    → ((m : ℕ) → m < i → get_or bs m None ≡ Some (numbered given first (2 + m)))
    → lit ≡ unwrap_or (get_or bs i None) (2 * next)
    → (m : ℕ) → m < i + 1 → get_or (set bs i (Some lit)) m None ≡ Some (numbered given first (2 + m))
number-done given old bs first next i lit long lt are left is done made m low = by (cases_eq m i)
  where
    by : (m ≡ i) ⊎ (m ≡ i → ⊥) → get_or (set bs i (Some lit)) m None ≡ Some (numbered given first (2 + m))
    by (inl e) =
        subst (λ (n : ℕ). get_or (set bs i (Some lit)) n None ≡ Some (numbered given first (2 + n))) (sym e)
        (get_or-set_same bs i (Some lit) None (omega (arith, lt, long))
        ∙ ap (λ (n : ℕ). Some n)
        (made
        ∙ (ap (λ (o : Option ℕ). unwrap_or o (2 * next)) (left i (omega arith) ∙ are i lt)
        ∙ (ap (λ (n : ℕ). unwrap_or (given (2 + i)) (2 * n)) is ∙ sym (numbered-is given first (2 + i) (omega arith))))))
    by (inr ne) = get_or-set_other bs i m (Some lit) None ne ∙ done m (omega (arith, low, ne))

pub number-next : (given : ℕ → Option ℕ) (old bs : List (Option ℕ)) (first next behind i : ℕ) → i < length old → AreGiven given old
    → ((m : ℕ) → i ≤ m → get_or bs m None ≡ get_or old m None) → next ≡ first + own_below given (2 + i)
    → behind ≡ next + bit (is_none (get_or bs i None))
    → behind ≡ first + own_below given (2 + (i + 1))
number-next given old bs first next behind i lt are left is more =
    let here : bit (is_none (get_or bs i None)) ≡ bit (is_none (given (2 + i))) = ap (λ (o : Option ℕ). bit (is_none o)) (left i (omega arith) ∙ are i lt) in
    let own : bit (is_own given (2 + i)) ≡ bit (is_none (given (2 + i))) = ap (λ (b : Bool). bit (b && is_none (given (2 + i)))) (lt-ltb 1 (2 + i) (omega arith)) in
    let e : suc (2 + i) ≡ 2 + (i + 1) = omega arith in
    let step : own_below given (2 + (i + 1)) ≡ own_below given (2 + i) + bit (is_own given (2 + i)) = subst (λ (n : ℕ). own_below given n ≡ own_below given (2 + i) + bit (is_own given (2 + i))) e refl in
    omega (arith, more, is, here, own, step)

pub number-left : (old bs : List (Option ℕ)) (i : ℕ) (o : Option ℕ) → ((m : ℕ) → i ≤ m → get_or bs m None ≡ get_or old m None)
    → (m : ℕ) → i + 1 ≤ m → get_or (set bs i o) m None ≡ get_or old m None
number-left old bs i o left m le = get_or-set_other bs i m o None (λ e. omega (arith, le, e)) ∙ left m (omega (arith, le))

-- one variable more at most
pub bit-one : (b : Bool) (next behind first i : ℕ) → behind ≡ next + bit b → next ≤ first + i → behind ≤ first + (i + 1)
bit-one true next behind first i is le = omega (arith, is, le)
bit-one false next behind first i is le = omega (arith, is, le)
