-- Where no block calls itself, what holds of a block once it holds of those that it calls holds of all blocks: those that lead to a
-- block are others, so with each level of calls one fewer is left.
use Rattle.std.proofs.Common.{◌≡◌, ℕ, zero, suc, ◌+◌, ◌<◌, ◌≤◌, ◌⊎◌, inl, inr, List, [], ◌∷◌, length, Bool, true, false, ◌||◌, ◌==◌, cond, Option, Some, None, refl, sym, subst, ap, ◌∙◌, arith}
use Rattle.std.specs.List.{list_any}
use Rattle.std.proofs.lemmas.Bool.{true≢false, false≢true, or_cases, or_left, or_right, eqb-true, eq-eqb, cases_lt}
use Rattle.std.proofs.lemmas.Option.{none-some}
use Rattle.pv_flow.specs.Automata.{CallEdge, Parts}
use Rattle.pv_flow.specs.Calls.{Blocks, block_at, own_count, needed_by_calls, needed_in, needed_within, needed}
use Rattle.pv_flow.specs.Fitting.{runs_in, runs_block, LeadsTo, nowhere, onward, AreFitting}

-- ---- how many numbers a test leaves

abbrev left : (ℕ → Bool) → ℕ → ℕ
left met zero = 0
left met (suc n) = cond (met n) (left met n) (suc (left met n))

abbrev also : ℕ → (ℕ → Bool) → ℕ → Bool
also b met c = (b == c) || met c

left_all : (n : ℕ) → left (λ c. false) n ≡ n
left_all zero = refl
left_all (suc n) = ap suc (left_all n)

not_more_at : (a b : Bool) (m n : ℕ) → m ≤ n → cond (a || b) m (suc m) ≤ cond b n (suc n)
not_more_at true true m n le = le
not_more_at true false m n le = omega (arith, le)
not_more_at false true m n le = le
not_more_at false false m n le = omega (arith, le)

not_more : (b : ℕ) (met : ℕ → Bool) (n : ℕ) → left (also b met) n ≤ left met n
not_more b met zero = omega arith
not_more b met (suc n) = not_more_at (b == n) (met n) (left (also b met) n) (left met n) (not_more b met n)

fewer_here : (a b : Bool) (m n : ℕ) → m ≤ n → a ≡ true → b ≡ false → cond (a || b) m (suc m) < cond b n (suc n)
fewer_here true false m n le e f = omega (arith, le)
fewer_here true true m n le e f = absurd (true≢false f)
fewer_here false b m n le e f = absurd (false≢true e)

fewer_below : (a b : Bool) (m n : ℕ) → m < n → cond (a || b) m (suc m) < cond b n (suc n)
fewer_below true true m n lt = lt
fewer_below true false m n lt = omega (arith, lt)
fewer_below false true m n lt = lt
fewer_below false false m n lt = omega (arith, lt)

fewer : (b : ℕ) (met : ℕ → Bool) (n : ℕ) → met b ≡ false → b < n → left (also b met) n < left met n
fewer b met zero unmet lt = absurd (omega (arith, lt))
fewer b met (suc n) unmet lt = by (cases_lt b n) (λ below. fewer b met n unmet below)
  where
    last : n ≤ b → b ≡ n
    last le = omega (arith, le, lt)

    by : (b < n) ⊎ (n ≤ b) → (b < n → left (also b met) n < left met n)
        → cond ((b == n) || met n) (left (also b met) n) (suc (left (also b met) n)) < cond (met n) (left met n) (suc (left met n))
    by (inl below) go = fewer_below (b == n) (met n) (left (also b met) n) (left met n) (go below)
    by (inr le) go = fewer_here (b == n) (met n) (left (also b met) n) (left met n) (not_more b met n) (eq-eqb b n (last le))
        (subst (λ (c : ℕ). met c ≡ false) (last le) unmet)

-- ---- chains of calls

-- calls lead from the one to the other, at least one of them
record Reaches (blocks : Blocks) (b c : ℕ) : Type 0 where
  next : ℕ
  runs : runs_block blocks b next ≡ true
  leads : LeadsTo blocks next c

leads_on : (blocks : Blocks) (b c d : ℕ) → LeadsTo blocks b c → runs_block blocks c d ≡ true → LeadsTo blocks b d
leads_on blocks b c d nowhere runs = onward runs nowhere
leads_on blocks b c d (onward first rest) runs = onward first (leads_on blocks _ c d rest runs)

there : (blocks : Blocks) (b : ℕ) (p : Parts) → block_at blocks b ≡ Some p → b < length blocks
there [] b p e = absurd (none-some p e)
there (block ∷ more) zero p e = omega arith
there (block ∷ more) (suc b) p e = let lt : b < length more = there more b p e in omega (arith, lt)

unmet_of : (c : Bool) → (c ≡ true → ⊥) → c ≡ false
unmet_of true f = absurd (f refl)
unmet_of false f = refl

reached : (blocks : Blocks) (met : ℕ → Bool) (b c : ℕ) → ((d : ℕ) → met d ≡ true → Reaches blocks d b) → runs_block blocks b c ≡ true
    → (d : ℕ) → also b met d ≡ true → Reaches blocks d c
reached blocks met b c leads runs d e = by (or_cases (b == d) (met d) e)
  where
    by : ((b == d) ≡ true) ⊎ (met d ≡ true) → Reaches blocks d c
    by (inl same) = subst (λ (x : ℕ). Reaches blocks x c) (eqb-true b d same) (record { next = c; runs = runs; leads = nowhere })
    by (inr was) = let r = leads d was in record { next = r.next; runs = r.runs; leads = leads_on blocks r.next b c r.leads runs }

-- a block that is there was not met before
fewer_left : (blocks : Blocks) → AreFitting blocks → (met : ℕ → Bool) (b : ℕ) (p : Parts) → block_at blocks b ≡ Some p
    → ((d : ℕ) → met d ≡ true → Reaches blocks d b) → left (also b met) (length blocks) < left met (length blocks)
fewer_left blocks fit met b p e leads =
    fewer b met (length blocks) (unmet_of (met b) (λ was. let r = leads b was in fit.no_return b r.next r.runs r.leads)) (there blocks b p e)

-- by the number of levels below
deep_from : (P : ℕ → ℕ → Type 0) (blocks : Blocks) → AreFitting blocks
    → ((n b : ℕ) → block_at blocks b ≡ None → P n b)
    → ((n b : ℕ) (p : Parts) → block_at blocks b ≡ Some p → ((c : ℕ) → runs_block blocks b c ≡ true → P n c) → P (suc n) b)
    → (n : ℕ) (met : ℕ → Bool) (b : ℕ) → left met (length blocks) ≤ n → ((d : ℕ) → met d ≡ true → Reaches blocks d b) → P n b
deep_from P blocks fit none step zero met b le leads = by (block_at blocks b) refl
  where
    by : (o : Option Parts) → block_at blocks b ≡ o → P 0 b
    by None e = none 0 b e
    by (Some p) e = let lt = fewer_left blocks fit met b p e leads in absurd (omega (arith, lt, le))
deep_from P blocks fit none step (suc n) met b le leads =
    by (block_at blocks b) refl
    (λ small c runs. deep_from P blocks fit none step n (also b met) c small (reached blocks met b c leads runs))
  where
    small : (x y : ℕ) → x < y → y ≤ suc n → x ≤ n
    small x y lt h = omega (arith, lt, h)

    by : (o : Option Parts) → block_at blocks b ≡ o
        → (left (also b met) (length blocks) ≤ n → (c : ℕ) → runs_block blocks b c ≡ true → P n c) → P (suc n) b
    by None e go = none (suc n) b e
    by (Some p) e go =
        step n b p e (go (small (left (also b met) (length blocks)) (left met (length blocks)) (fewer_left blocks fit met b p e leads) le))

pub deep : (P : ℕ → ℕ → Type 0) (blocks : Blocks) → AreFitting blocks
    → ((n b : ℕ) → block_at blocks b ≡ None → P n b)
    → ((n b : ℕ) (p : Parts) → block_at blocks b ≡ Some p → ((c : ℕ) → runs_block blocks b c ≡ true → P n c) → P (suc n) b)
    → (b : ℕ) → P (length blocks) b
deep P blocks fit none step b =
    deep_from P blocks fit none step (length blocks) (λ c. false) b (let e = left_all (length blocks) in omega (arith, e)) (λ d on. absurd (false≢true on))

-- a block of which the automaton has a call edge is called
pub runs_of : (blocks : Blocks) (b : ℕ) (p : Parts) → block_at blocks b ≡ Some p → (c : ℕ) → list_any (λ (call : CallEdge). call.block == c) p.calls ≡ true
    → runs_block blocks b c ≡ true
runs_of blocks b p e c any = ap (λ (o : Option Parts). runs_in o c) e ∙ any

-- ---- how many variables calls add

needed_alike : (f g : ℕ → ℕ) (calls : List CallEdge) → ((c : ℕ) → list_any (λ (call : CallEdge). call.block == c) calls ≡ true → f c ≡ g c)
    → needed_by_calls f calls ≡ needed_by_calls g calls
needed_alike f g [] same = refl
needed_alike f g (call ∷ calls) same =
    both (same call.block (or_left (call.block == call.block) (list_any (λ (other : CallEdge). other.block == call.block) calls) (eq-eqb call.block call.block refl)))
    (needed_alike f g calls (λ c any. same c (or_right (call.block == c) (list_any (λ (other : CallEdge). other.block == c) calls) any)))
  where
    both : {a b c d : ℕ} → a ≡ b → c ≡ d → a + c ≡ b + d
    both {a} {b} {c} {d} e f = omega (arith, e, f)

abbrev AreEqual : Blocks → ℕ → ℕ → Type 0
AreEqual blocks n b = (x y : ℕ) → n ≤ x → n ≤ y → needed_within blocks x b ≡ needed_within blocks y b

needed_none : (blocks : Blocks) (x b : ℕ) → block_at blocks b ≡ None → needed_within blocks x b ≡ 0
needed_none blocks zero b e = refl
needed_none blocks (suc x) b e = ap (λ (o : Option Parts). needed_in (λ c. needed_within blocks x c) o) e

equal_step : (blocks : Blocks) (n b : ℕ) (p : Parts) → block_at blocks b ≡ Some p
    → ((c : ℕ) → runs_block blocks b c ≡ true → AreEqual blocks n c) → AreEqual blocks (suc n) b
equal_step blocks n b p e below zero y low high = absurd (omega (arith, low))
equal_step blocks n b p e below (suc x) zero low high = absurd (omega (arith, high))
equal_step blocks n b p e below (suc x) (suc y) low high =
    ap (λ (o : Option Parts). needed_in (λ c. needed_within blocks x c) o) e
    ∙ ap (λ (k : ℕ). own_count p + k)
    (needed_alike (λ c. needed_within blocks x c) (λ c. needed_within blocks y c) p.calls
    (λ c any. below c (runs_of blocks b p e c any) x y (omega (arith, low)) (omega (arith, high))))
    ∙ ap (λ (o : Option Parts). needed_in (λ c. needed_within blocks y c) o) (sym e)

are_equal : (blocks : Blocks) → AreFitting blocks → (b : ℕ) → AreEqual blocks (length blocks) b
are_equal blocks fit b =
    deep (AreEqual blocks) blocks fit (λ n b e x y low high. needed_none blocks x b e ∙ sym (needed_none blocks y b e)) (equal_step blocks) b

pub more_levels : (blocks : Blocks) (levels b : ℕ) → AreFitting blocks → length blocks ≤ levels → needed_within blocks levels b ≡ needed blocks b
more_levels blocks levels b fit le = are_equal blocks fit b levels (length blocks) le (omega arith)

-- a call adds the block's own variables and what its calls add
pub needed_is : (blocks : Blocks) (b : ℕ) → AreFitting blocks → needed blocks b ≡ needed_in (needed blocks) (block_at blocks b)
needed_is blocks b fit = sym (more_levels blocks (suc (length blocks)) b fit (omega arith))
