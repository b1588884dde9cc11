-- Where the variables of copies lie.
use Rattle.std.proofs.Common.{◌≡◌, ℕ, ◌+◌, ◌-◌, ◌<◌, ◌≤◌, ◌⊎◌, inl, inr, length, nat_lt, cond, sym, subst, ap, ◌∙◌, arith}
use Rattle.std.proofs.lemmas.Bool.{cases_lt, cond-true, cond-false, lt-ltb, le-ltb}
use Rattle.pv_flow.specs.Automata.{Parts}
use Rattle.pv_flow.specs.Calls.{Blocks, Work, Numbered, base_of, place_in, callee_work}
use Rattle.pv_flow.specs.Fitting.{IsFit}
use Rattle.pv_inline.specs.Numbers.{MOST}
use Rattle.pv_call_terms.specs.Numbers.{narrow}
use Rattle.pv_call_terms.proofs.ForCallers.{narrow_is}
use Rattle.pv_inline.specs.Walking.{callee_place, entry_place}
use Rattle.pv_inline.proofs.Agreeing.{Agree}

below : {X : Type 0} (a b : ℕ) (x y : X) → a < b → cond (nat_lt a b) x y ≡ x
below a b x y lt = cond-true (nat_lt a b) x y (lt-ltb a b lt)

beyond : {X : Type 0} (a b : ℕ) (x y : X) → b ≤ a → cond (nat_lt a b) x y ≡ y
beyond a b x y le = cond-false (nat_lt a b) x y (le-ltb a b le)

-- the copy's places are those of the block at work, where its first shared variable lies too
pub record Lies (n : ℕ) (k : Work) (place : ℕ → ℕ) (shared_at : ℕ) : Type 0 where
  pub own : Agree n place k.place
  pub shared : (y : ℕ) → y < k.parts.shared → k.place (k.parts.bound + y) ≡ shared_at + y

-- ---- the entry's

pub entry_lies : (b s n x : ℕ) → n ≤ MOST → x < n → entry_place b s x ≡ x
entry_lies b s n x few lt = by (cases_lt x b) (cases_lt x (b + s))
  where
    last : ℕ
    last = narrow (narrow (b + s) + (x - (b + s)))

    whole : (a x n : ℕ) → a ≤ x → x < n → n ≤ MOST → narrow (a + (x - a)) ≡ x
    whole a x n le lt few = narrow_is (a + (x - a)) (within MOST a x n le lt few) ∙ back a x le
      where
        within : (most a x n : ℕ) → a ≤ x → x < n → n ≤ most → a + (x - a) ≤ most
        within most a x n le lt few = omega (arith, le, lt, few)

        back : (a x : ℕ) → a ≤ x → a + (x - a) ≡ x
        back a x le = omega (arith, le)

    by : (x < b) ⊎ (b ≤ x) → (x < b + s) ⊎ (b + s ≤ x) → entry_place b s x ≡ x
    by (inl small) other = below x b x (cond (nat_lt x (b + s)) (narrow (b + (x - b))) last) small
    by (inr low) (inl small) =
        beyond x b x (cond (nat_lt x (b + s)) (narrow (b + (x - b))) last) low
        ∙ (below x (b + s) (narrow (b + (x - b))) last small ∙ whole b x n low lt few)
    by (inr low) (inr high) =
        beyond x b x (cond (nat_lt x (b + s)) (narrow (b + (x - b))) last) low
        ∙ (beyond x (b + s) (narrow (b + (x - b))) last high
        ∙ (ap (λ (m : ℕ). narrow (m + (x - (b + s)))) (narrow_is (b + s) (fits MOST (b + s) x n high lt few)) ∙ whole (b + s) x n high lt few))
      where
        fits : (most a x n : ℕ) → a ≤ x → x < n → n ≤ most → a ≤ most
        fits most a x n le lt few = omega (arith, le, lt, few)

-- ---- a callee's

pub callee_lies : (blocks : Blocks) (k : Work) (c : Numbered) (q : Parts) (place : ℕ → ℕ) (shared_at base : ℕ) → Lies (length k.parts.vars) k place shared_at
    → IsFit k.parts c.call q → base ≡ base_of blocks k c.number
    → ((x : ℕ) → x < length q.vars → (callee_work blocks k c q).place x ≤ MOST)
    → Lies (length q.vars) (callee_work blocks k c q) (callee_place place c.call.instance q.bound q.shared shared_at base) shared_at
callee_lies blocks k c q place shared_at base lie fit is small = record { own = own; shared = shared }
  where
    own_from : ℕ
    own_from = q.bound + q.shared

    whole : ℕ
    whole = base_of blocks k c.number

    there : ℕ → ℕ
    there x = place_in k c.call q whole x

    later : ℕ → ℕ
    later x = cond (nat_lt x own_from) (k.place (k.parts.bound + (x - q.bound))) (whole + (x - own_from))

    later_code : ℕ → ℕ
    later_code x = cond (nat_lt x own_from) (narrow (shared_at + (x - q.bound))) (narrow (base + (x - own_from)))

    less : (b s x : ℕ) → b ≤ x → x < b + s → x - b < s
    less b s x low lt = omega (arith, low, lt)

    room : (i b n x : ℕ) → i + b ≤ n → x < b → i + x < n
    room i b n x le lt = omega (arith, le, lt)

    by : (x : ℕ) → x < length q.vars → there x ≤ MOST → (x < q.bound) ⊎ (q.bound ≤ x) → (x < own_from) ⊎ (own_from ≤ x)
        → callee_place place c.call.instance q.bound q.shared shared_at base x ≡ there x
    by x lt few (inl lies) other =
        below x q.bound (place (c.call.instance + x)) (later_code x) lies
        ∙ (lie.own (c.call.instance + x) (room c.call.instance q.bound (length k.parts.vars) x fit.room lies)
        ∙ sym (below x q.bound (k.place (c.call.instance + x)) (later x) lies))
    by x lt few (inr low) (inl lies) =
        beyond x q.bound (place (c.call.instance + x)) (later_code x) low
        ∙ (below x own_from (narrow (shared_at + (x - q.bound))) (narrow (base + (x - own_from))) lies
        ∙ (narrow_is (shared_at + (x - q.bound)) (subst (λ (n : ℕ). n ≤ MOST) at few) ∙ sym at))
      where
        at : there x ≡ shared_at + (x - q.bound)
        at = beyond x q.bound (k.place (c.call.instance + x)) (later x) low
            ∙ (below x own_from (k.place (k.parts.bound + (x - q.bound))) (whole + (x - own_from)) lies
            ∙ lie.shared (x - q.bound) (subst (λ (n : ℕ). x - q.bound < n) fit.count (less q.bound q.shared x low lies)))
    by x lt few (inr low) (inr high) =
        beyond x q.bound (place (c.call.instance + x)) (later_code x) low
        ∙ (beyond x own_from (narrow (shared_at + (x - q.bound))) (narrow (base + (x - own_from))) high
        ∙ (ap (λ (n : ℕ). narrow (n + (x - own_from))) is
        ∙ (narrow_is (whole + (x - own_from)) (subst (λ (n : ℕ). n ≤ MOST) at few) ∙ sym at)))
      where
        at : there x ≡ whole + (x - own_from)
        at = beyond x q.bound (k.place (c.call.instance + x)) (later x) low
            ∙ beyond x own_from (k.place (k.parts.bound + (x - q.bound))) (whole + (x - own_from)) high

    own : Agree (length q.vars) (callee_place place c.call.instance q.bound q.shared shared_at base) (callee_work blocks k c q).place
    own x lt = by x lt (small x lt) (cases_lt x q.bound) (cases_lt x own_from)

    shared : (y : ℕ) → y < q.shared → there (q.bound + y) ≡ shared_at + y
    shared y lt =
        beyond (q.bound + y) q.bound (k.place (c.call.instance + (q.bound + y))) (later (q.bound + y)) (omega arith)
        ∙ (below (q.bound + y) own_from (k.place (k.parts.bound + ((q.bound + y) - q.bound))) (whole + ((q.bound + y) - own_from)) (more q.bound q.shared y lt)
        ∙ (ap (λ (n : ℕ). k.place (k.parts.bound + n)) (forth q.bound y)
        ∙ lie.shared y (subst (λ (n : ℕ). y < n) fit.count lt)))
      where
        more : (b s y : ℕ) → y < s → b + y < b + s
        more b s y lt = omega (arith, lt)

        forth : (b y : ℕ) → (b + y) - b ≡ y
        forth b y = omega arith
