-- What is given for nodes, how many have a variable of their own, and that a list of the input nodes' literals is a frame.
use Rattle.std.proofs.Common.{◌≡◌, ℕ, ◌+◌, ◌-◌, ◌*◌, ◌<◌, ◌≤◌, zero, suc, ℤ, pos, Bool, true, false, cond, ltb, ◌&&◌, List, [], ◌∷◌, length, take, get_or, All, Option, Some, None, unwrap_or, unsigned_abs, int_eq, refl, sym, ◌∙◌, ap, subst, arith, inl, inr}
use Rattle.std.specs.Option.{is_none}
use Rattle.std.proofs.lemmas.Bool.{cases_eq, eq-eqb, ne_eqb, ltb-true, ltb-false, lt-ltb, false_from_ne_true}
use Rattle.pv_gate.proofs.ForCallers.{int_eq-true}
use Rattle.pv_frames.specs.Queries.{given_for, is_own, own_below, numbered}
use Rattle.pv_frames.specs.Tables.{table_frame, IsBegin}

-- a test as a number
abbrev pub bit : Bool → ℕ
bit b = cond b 1 0

-- one more node with its literal
pub given-more : (found : Option ℕ) (ls : List ℤ) (gs : List (Option ℕ)) (k n : ℕ) (d : ℤ) (e : Option ℕ) → k < length ls → k < length gs
    → given_for found (take (suc k) ls) (take (suc k) gs) n
    ≡ cond (int_eq (get_or ls k d) (pos n)) (get_or gs k e) (given_for found (take k ls) (take k gs) n)
given-more found [] gs k n d e p q = absurd (omega arith)
given-more found (l ∷ ls) [] k n d e p q = absurd (omega arith)
given-more found (l ∷ ls) (g ∷ gs) zero n d e p q = refl
given-more found (l ∷ ls) (g ∷ gs) (suc k) n d e p q =
    given-more (cond (int_eq l (pos n)) g found) ls gs k n d e (omega arith) (omega arith)

-- nothing is given for nodes behind the inputs
pub given-past : (inputs : ℕ) (found : Option ℕ) (ls : List ℤ) (gs : List (Option ℕ)) (n : ℕ) → All (IsBegin inputs) ls → 2 + inputs ≤ n
    → given_for found ls gs n ≡ found
given-past inputs found [] gs n all past = refl
given-past inputs found (l ∷ ls) [] n all past = refl
given-past inputs found (l ∷ ls) (g ∷ gs) n all past =
    let is = all 0 l (omega arith) in
    let apart : int_eq l (pos n) ≡ false =
    false_from_ne_true (int_eq l (pos n)) (λ e. omega (arith, ap unsigned_abs (int_eq-true l (pos n) e), is.to_last)) in
    ap (λ (b : Bool). given_for (cond b g found) ls gs n) apart ∙ given-past inputs found ls gs n (λ k d lt. all (suc k) d (omega arith)) past

-- a node for which nothing is given has a variable of its own
pub own-none : (given : ℕ → Option ℕ) (n : ℕ) → 2 ≤ n → given n ≡ None → is_own given n ≡ true
own-none given n two none =
    ap (λ (b : Bool). b && is_none (given n)) (lt-ltb 1 n (omega arith)) ∙ ap (λ (o : Option ℕ). is_none o) none

-- from m on nothing is given
pub own-behind : (given : ℕ → Option ℕ) (m n : ℕ) → 2 ≤ m → m ≤ n → ((i : ℕ) → m ≤ i → given i ≡ None)
    → own_below given n ≡ own_below given m + (n - m)
own-behind given m zero two le none = absurd (omega arith)
own-behind given m (suc n) two le none = elim (cases_eq m (suc n)) [
  | inl e ↦ subst (λ (i : ℕ). own_below given i ≡ own_below given m + (i - m)) e (omega arith)
  | inr ne ↦
      let rest = own-behind given m n two (omega arith) none in
      ap (λ (b : Bool). own_below given n + bit b) (own-none given n (omega arith) (none n (omega arith))) ∙ omega (arith, rest)
]

-- ---- the list of the input nodes' literals

-- a node that isn't node 1 has what is given, or a variable
pub numbered-is : (given : ℕ → Option ℕ) (v n : ℕ) → 2 ≤ n → numbered given v n ≡ unwrap_or (given n) (2 * (v + own_below given n))
numbered-is given v n two =
    ap (λ (b : Bool). cond b 2 (unwrap_or (given n) (2 * (v + own_below given n)))) (ne_eqb n 1 (λ e. omega arith))

table-is : (begins : List (Option ℕ)) (gates n : ℕ) → 2 ≤ n
    → table_frame begins gates n
    ≡ cond (ltb (n - 2) (length begins)) (unwrap_or (get_or begins (n - 2) None) 0) (2 * (gates + (n - 2 - length begins)))
table-is begins gates n two =
    ap (λ (b : Bool). cond b 2 (cond (ltb (n - 2) (length begins)) (unwrap_or (get_or begins (n - 2) None) 0) (2 * (gates + (n - 2 - length begins)))))
    (ne_eqb n 1 (λ e. omega arith))

-- the list and the variable behind it are those of the frame
pub table-same : (given : ℕ → Option ℕ) (begins : List (Option ℕ)) (v gates n : ℕ)
    → ((i : ℕ) → i < length begins → get_or begins i None ≡ Some (numbered given v (2 + i)))
    → ((i : ℕ) → 2 + length begins ≤ i → given i ≡ None)
    → gates ≡ v + own_below given (2 + length begins) → 1 ≤ n → table_frame begins gates n ≡ numbered given v n
table-same given begins v gates n laid none next one = elim (cases_eq n 1) [
  | inl e ↦
      ap (λ (b : Bool). cond b 2 (cond (ltb (n - 2) (length begins)) (unwrap_or (get_or begins (n - 2) None) 0) (2 * (gates + (n - 2 - length begins))))) (eq-eqb n 1 e)
      ∙ sym (ap (λ (b : Bool). cond b 2 (unwrap_or (given n) (2 * (v + own_below given n)))) (eq-eqb n 1 e))
  | inr ne ↦ table-is begins gates n (omega arith) ∙ by (ltb (n - 2) (length begins)) refl (omega arith)
]
  where
    by : (b : Bool) → ltb (n - 2) (length begins) ≡ b → 2 ≤ n
        → cond b (unwrap_or (get_or begins (n - 2) None) 0) (2 * (gates + (n - 2 - length begins))) ≡ numbered given v n
    by true e two =
        let back : 2 + (n - 2) ≡ n = omega arith in
        ap (λ (o : Option ℕ). unwrap_or o 0) (laid (n - 2) (ltb-true (n - 2) (length begins) e)) ∙ ap (numbered given v) back
    by false e two =
        let far = ltb-false (n - 2) (length begins) e in
        let more = own-behind given (2 + length begins) n (omega arith) (omega arith) none in
        let same : 2 * (gates + (n - 2 - length begins)) ≡ 2 * (v + own_below given n) = omega (arith, next, more) in
        same
        ∙ (ap (λ (o : Option ℕ). unwrap_or o (2 * (v + own_below given n))) (sym (none n (omega arith)))
        ∙ sym (numbered-is given v n two))
