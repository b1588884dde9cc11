-- What lies on the stacks gives the ranges around each instruction.
use Rattle.std.proofs.Common.{◌≡◌, ℕ, zero, suc, ◌+◌, ◌<◌, ◌≤◌, refl, sym, ap, ◌∙◌, arith, List, [], ◌∷◌, ◌++◌, take, drop, set, length, replicate, Option, Some, None, Bool, true, false, if◌then◌else◌}
use Rattle.std.specs.Prelude.{nat_eq, nat_lt}
use Rattle.std.proofs.lemmas.Bool.Decides.{nat_tests}
use Rattle.std.proofs.lemmas.List.{get_or-set_same, get_or-set_other, length-replicate, length-set, length-take, take_more}
use Rattle.std.proofs.Math.Seq.{drop-cons}
use Rattle.pv_rules_instr.specs.AtRanges.{Numbers, number_at, is_under, reaches, or_this, end_from, end_at, start_from, start_at}
use Rattle.pv_rules_instr.proofs.RangeNumbers.{plus_none, plus_next}
use Rattle.pv_rules_instr.specs.Stacks.{end_on, start_on, top_of, without_late, without_early}

under_less : (n t : ℕ) (o : Option ℕ) → t ≤ n → is_under n o ≡ false → is_under t o ≡ false
under_less n t None le off = refl
under_less n t (Some m) le off = grind (arith, nat_tests)

reaches_more : (n t : ℕ) (o : Option ℕ) → n ≤ t → reaches n o ≡ false → reaches t o ≡ false
reaches_more n t None le off = refl
reaches_more n t (Some m) le off = grind (arith, nat_tests)

equal : (a b : ℕ) → nat_eq a b ≡ true → a ≡ b
equal a b h = grind (arith, nat_tests)

not_equal : (a b : ℕ) → nat_eq a b ≡ false → a ≡ b → ⊥
not_equal a b off e = grind (arith, nat_tests)

past : (n k : ℕ) → n ≤ k → nat_eq k n ≡ false → suc n ≤ k
past n k le off = grind (arith, nat_tests)

less : (a b : ℕ) → nat_lt a b ≡ true → a < b
less a b h = grind (arith, nat_tests)

at_last : (n k : ℕ) → k < suc n → nat_lt k n ≡ false → k ≡ n
at_last n k lt off = grind (arith, nat_tests)

late_kept : (firsts : Numbers) (n t : ℕ) (met : List ℕ) → t ≤ n → end_on firsts t (without_late firsts n met) ≡ end_on firsts t met
late_kept firsts n t [] le = refl
late_kept firsts n t (m ∷ met) le = by (late_kept firsts n t met le) (is_under n (number_at firsts m)) refl
  where
    by : end_on firsts t (without_late firsts n met) ≡ end_on firsts t met → (b : Bool) → is_under n (number_at firsts m) ≡ b
        → end_on firsts t (without_late firsts n (m ∷ met)) ≡ end_on firsts t (m ∷ met)
    by rest true on = ap (λ b. end_on firsts t (if b then m ∷ met else without_late firsts n met)) on
    by rest false off =
        ap (λ b. end_on firsts t (if b then m ∷ met else without_late firsts n met)) off ∙ rest
        ∙ sym (ap (λ b. if b then Some m else end_on firsts t met) (under_less n t (number_at firsts m) le off))

late_top : (firsts : Numbers) (n : ℕ) (met : List ℕ) → end_on firsts n (without_late firsts n met) ≡ top_of (without_late firsts n met)
late_top firsts n [] = refl
late_top firsts n (m ∷ met) = by (late_top firsts n met) (is_under n (number_at firsts m)) refl
  where
    by : end_on firsts n (without_late firsts n met) ≡ top_of (without_late firsts n met) → (b : Bool) → is_under n (number_at firsts m) ≡ b
        → end_on firsts n (without_late firsts n (m ∷ met)) ≡ top_of (without_late firsts n (m ∷ met))
    by rest true on =
        ap (λ b. end_on firsts n (if b then m ∷ met else without_late firsts n met)) on ∙ ap (λ b. if b then Some m else end_on firsts n met) on
        ∙ sym (ap (λ b. top_of (if b then m ∷ met else without_late firsts n met)) on)
    by rest false off =
        ap (λ b. end_on firsts n (if b then m ∷ met else without_late firsts n met)) off ∙ rest
        ∙ sym (ap (λ b. top_of (if b then m ∷ met else without_late firsts n met)) off)

early_kept : (lasts : Numbers) (n t : ℕ) (met : List ℕ) → n ≤ t → start_on lasts t (without_early lasts n met) ≡ start_on lasts t met
early_kept lasts n t [] le = refl
early_kept lasts n t (m ∷ met) le = by (early_kept lasts n t met le) (reaches n (number_at lasts m)) refl
  where
    by : start_on lasts t (without_early lasts n met) ≡ start_on lasts t met → (b : Bool) → reaches n (number_at lasts m) ≡ b
        → start_on lasts t (without_early lasts n (m ∷ met)) ≡ start_on lasts t (m ∷ met)
    by rest true on = ap (λ b. start_on lasts t (if b then m ∷ met else without_early lasts n met)) on
    by rest false off =
        ap (λ b. start_on lasts t (if b then m ∷ met else without_early lasts n met)) off ∙ rest
        ∙ sym (ap (λ b. if b then Some m else start_on lasts t met) (reaches_more n t (number_at lasts m) le off))

early_top : (lasts : Numbers) (n : ℕ) (met : List ℕ) → start_on lasts n (without_early lasts n met) ≡ top_of (without_early lasts n met)
early_top lasts n [] = refl
early_top lasts n (m ∷ met) = by (early_top lasts n met) (reaches n (number_at lasts m)) refl
  where
    by : start_on lasts n (without_early lasts n met) ≡ top_of (without_early lasts n met) → (b : Bool) → reaches n (number_at lasts m) ≡ b
        → start_on lasts n (without_early lasts n (m ∷ met)) ≡ top_of (without_early lasts n (m ∷ met))
    by rest true on =
        ap (λ b. start_on lasts n (if b then m ∷ met else without_early lasts n met)) on ∙ ap (λ b. if b then Some m else start_on lasts n met) on
        ∙ sym (ap (λ b. top_of (if b then m ∷ met else without_early lasts n met)) on)
    by rest false off =
        ap (λ b. start_on lasts n (if b then m ∷ met else without_early lasts n met)) off ∙ rest
        ∙ sym (ap (λ b. top_of (if b then m ∷ met else without_early lasts n met)) off)

-- ---- backwards

abbrev empty : ℕ → Numbers
empty n = replicate n None

-- what lies on the stack answers for each instruction up to the next
pub record MetEnds (firsts : Numbers) (n : ℕ) (met : List ℕ) : Type 0 where
  pub asked : (t : ℕ) → t ≤ n → end_on firsts t met ≡ end_from t n (drop n firsts)

pub record HasEnds (firsts : Numbers) (n : ℕ) (ends : Numbers) : Type 0 where
  pub long : length ends ≡ length firsts
  pub short : n ≤ length firsts
  pub done : (k : ℕ) → n ≤ k → number_at ends k ≡ end_at firsts k

empty_long : (n : ℕ) → length (empty n) ≡ n
empty_long n = length-replicate n None

dropped : (firsts : Numbers) (n : ℕ) → n < length firsts → drop n firsts ≡ number_at firsts n ∷ drop (suc n) firsts
dropped firsts n lt = drop-cons firsts n None lt

pub met_end : (firsts : Numbers) (n m : ℕ) (met now : List ℕ) → n < length firsts → m ≡ suc n → now ≡ without_late firsts n (n ∷ met)
    → MetEnds firsts m met → MetEnds firsts n now
met_end firsts n m met now lt is has h = record { asked = λ t le. one t le }
  where
    one : (t : ℕ) → t ≤ n → end_on firsts t now ≡ end_from t n (drop n firsts)
    one t le =
        let below : t ≤ m = omega (arith, le, is) in
        ap (end_on firsts t) has ∙ late_kept firsts n t (n ∷ met) le
        ∙ ap (λ o. if is_under t (number_at firsts n) then Some n else o) (h.asked t below ∙ ap (λ k. end_from t k (drop k firsts)) is)
        ∙ sym (ap (end_from t n) (dropped firsts n lt))

pub more_ends : (firsts ends now : Numbers) (n m : ℕ) (met : List ℕ) (o : Option ℕ) → n < length firsts → m ≡ suc n → now ≡ set ends n o
    → MetEnds firsts n met → o ≡ top_of met → end_on firsts n met ≡ top_of met → HasEnds firsts m ends → HasEnds firsts n now
more_ends firsts ends now n m met o lt is has asked top tops h = record {
  long = ap length has ∙ length-set ends n o ∙ h.long;
  short = omega (arith, lt);
  done = λ k le. by k le (nat_eq k n) refl;
}
  where
    by : (k : ℕ) → n ≤ k → (b : Bool) → nat_eq k n ≡ b → number_at now k ≡ end_at firsts k
    by k le true on =
        let same = equal k n on in
        let inside : n < length ends = let l = h.long in omega (arith, l, lt) in
        ap (λ l. number_at l k) has ∙ ap (number_at (set ends n o)) same ∙ get_or-set_same ends n o None inside
        ∙ top ∙ sym tops ∙ asked.asked n (omega arith) ∙ sym (ap (end_at firsts) same)
    by k le false off =
        let behind : m ≤ k = let p = past n k le off in omega (arith, p, is) in
        ap (λ l. number_at l k) has ∙ get_or-set_other ends n k o None (λ e. not_equal k n off e) ∙ h.done k behind

pub late_tops : (firsts : Numbers) (n : ℕ) (met now : List ℕ) → now ≡ without_late firsts n (n ∷ met) → end_on firsts n now ≡ top_of now
late_tops firsts n met now has = ap (end_on firsts n) has ∙ late_top firsts n (n ∷ met) ∙ sym (ap top_of has)

-- ---- onwards

pub record MetStarts (lasts : Numbers) (n : ℕ) (met : List ℕ) : Type 0 where
  pub asked : (t : ℕ) → n ≤ t → start_on lasts t met ≡ start_from t 0 (take n lasts)

pub record HasStarts (lasts : Numbers) (n : ℕ) (starts : Numbers) : Type 0 where
  pub long : length starts ≡ n
  pub done : (k : ℕ) → k < n → number_at starts k ≡ start_at lasts k

or_or : (a b c : Option ℕ) → or_this (or_this a b) c ≡ or_this a (or_this b c)
or_or None b c = refl
or_or (Some n) b c = refl

start_more : (t at : ℕ) (xs : Numbers) (x : Option ℕ) → start_from t at (xs ++ x ∷ []) ≡ or_this (if reaches t x then Some (at + length xs) else None) (start_from t at xs)
start_more t at [] x =
    flip (if reaches t x then Some at else None) ∙ ap (λ n. or_this (if reaches t x then Some n else None) None) (plus_none at)
  where
    flip : (o : Option ℕ) → or_this None o ≡ or_this o None
    flip None = refl
    flip (Some n) = refl
start_more t at (y ∷ xs) x =
    ap (λ o. or_this o (if reaches t y then Some at else None)) (start_more t (suc at) xs x)
    ∙ or_or (if reaches t x then Some (suc at + length xs) else None) (start_from t (suc at) xs) (if reaches t y then Some at else None)
    ∙ ap (λ n. or_this (if reaches t x then Some n else None) (or_this (start_from t (suc at) xs) (if reaches t y then Some at else None))) (plus_next at (length xs))

pub met_start : (lasts : Numbers) (n m : ℕ) (met now : List ℕ) → n < length lasts → m ≡ n + 1 → now ≡ n ∷ without_early lasts n met
    → MetStarts lasts n met → MetStarts lasts m now
met_start lasts n m met now lt is has h = record { asked = λ t le. one t le }
  where
    chosen : (b : Bool) (o : Option ℕ) → (if b then Some n else o) ≡ or_this (if b then Some n else None) o
    chosen true o = refl
    chosen false o = refl

    one : (t : ℕ) → m ≤ t → start_on lasts t now ≡ start_from t 0 (take m lasts)
    one t le =
        let below : n ≤ t = omega (arith, le, is) in
        let long : 0 + length (take n lasts) ≡ n = let l = length-take n lasts in omega (arith, l, lt) in
        ap (start_on lasts t) has
        ∙ ap (λ o. if reaches t (number_at lasts n) then Some n else o) (early_kept lasts n t met below ∙ h.asked t below)
        ∙ chosen (reaches t (number_at lasts n)) (start_from t 0 (take n lasts))
        ∙ ap (λ k. or_this (if reaches t (number_at lasts n) then Some k else None) (start_from t 0 (take n lasts))) (sym long)
        ∙ sym (start_more t 0 (take n lasts) (number_at lasts n))
        ∙ sym (ap (start_from t 0) (ap (λ k. take k lasts) is ∙ take_more lasts n None lt))

pub more_starts : (lasts starts now : Numbers) (n m : ℕ) (met : List ℕ) (o : Option ℕ) → m ≡ n + 1 → now ≡ starts ++ o ∷ []
    → MetStarts lasts n met → o ≡ top_of (without_early lasts n met) → HasStarts lasts n starts → HasStarts lasts m now
more_starts lasts starts now n m met o is has asked top h = record {
  long = ap length has ∙ pushed starts o ∙ let l = h.long in omega (arith, l, is);
  done = λ k lt. by k lt (nat_lt k n) refl;
}
  where
    pushed : (xs : Numbers) (x : Option ℕ) → length (xs ++ x ∷ []) ≡ length xs + 1
    pushed [] x = refl
    pushed (y ∷ xs) x = let p = pushed xs x in omega (arith, p)

    front : (xs : Numbers) (x : Option ℕ) (k : ℕ) → k < length xs → number_at (xs ++ x ∷ []) k ≡ number_at xs k
    front [] x k lt = absurd (omega (arith, lt))
    front (y ∷ xs) x zero lt = refl
    front (y ∷ xs) x (suc k) lt = front xs x k (omega (arith, lt))

    behind : (xs : Numbers) (x : Option ℕ) → number_at (xs ++ x ∷ []) (length xs) ≡ x
    behind [] x = refl
    behind (y ∷ xs) x = behind xs x

    by : (k : ℕ) → k < m → (b : Bool) → nat_lt k n ≡ b → number_at now k ≡ start_at lasts k
    by k lt true on =
        let below = less k n on in
        let inside : k < length starts = let l = h.long in omega (arith, l, below) in
        ap (λ l. number_at l k) has ∙ front starts o k inside ∙ h.done k below
    by k lt false off =
        let short : k < suc n = omega (arith, lt, is) in
        let same = at_last n k short off in
        ap (λ l. number_at l k) has ∙ ap (number_at (starts ++ o ∷ [])) (same ∙ sym h.long) ∙ behind starts o
        ∙ top ∙ sym (early_top lasts n met) ∙ early_kept lasts n n met (omega arith) ∙ asked.asked n (omega arith) ∙ sym (ap (start_at lasts) same)
