-- Where variables lie.
use Rattle.std.proofs.Common.{◌≡◌, ℕ, ◌+◌, ◌-◌, ◌<◌, ◌≤◌, ◌⊎◌, inl, inr, List, [], ◌∷◌, ◌++◌, length, length-append, nat_lt, cond, sym, subst, ap, ◌∙◌, arith}
use Rattle.std.specs.Prelude.{slice_index_or}
use Rattle.std.proofs.lemmas.Bool.{cases_lt}
use Rattle.std.proofs.lemmas.List.{get_or_append_left, get_or_push}
use Rattle.pv_flow.specs.Automata.{Parts}
use Rattle.pv_flow.specs.Calls.{Blocks, Work, Numbered, base_of, place_in}
use Rattle.pv_flow.specs.Fitting.{IsFit}
use Rattle.pv_call_terms.specs.declared.numbers.TheConstants.{MOST}
use Rattle.pv_call_terms.specs.declared.places.Places.{Places}
use Rattle.pv_call_terms.specs.Numbers.{narrow}
use Rattle.pv_call_terms.specs.Places.{place_of, IsCallee}
use Rattle.pv_call_terms.specs.Correct.{Lie, EntryLies, CalleesLie}
use Rattle.pv_call_terms.proofs.Small.{narrow_is, below, beyond}

-- ---- numbers that are pushed one by one

pub pushed_long : (xs ys : List ℕ) (n v : ℕ) → ys ≡ xs ++ v ∷ [] → length xs ≡ n → length ys ≡ n + 1
pushed_long xs ys n v is long = ap (λ (zs : List ℕ). length zs) is ∙ length-append xs (v ∷ []) ∙ ap (λ (m : ℕ). m + 1) long

pub pushed_each : (f : ℕ → ℕ) (xs ys : List ℕ) (n : ℕ) → ys ≡ xs ++ f n ∷ [] → length xs ≡ n
    → ((y : ℕ) → y < n → slice_index_or xs y 0 ≡ f y) → (y : ℕ) → y < n + 1 → slice_index_or ys y 0 ≡ f y
pushed_each f xs ys n is long each y lt = by (cases_lt y n)
  where
    last : y < n + 1 → n ≤ y → n ≡ y
    last small le = omega (arith, small, le)

    by : (y < n) ⊎ (n ≤ y) → slice_index_or ys y 0 ≡ f y
    by (inl less) =
        ap (λ (zs : List ℕ). slice_index_or zs y 0) is
        ∙ get_or_append_left xs (f n ∷ []) 0 y (subst (λ (m : ℕ). y < m) (sym long) less)
        ∙ each y less
    by (inr le) =
        ap (λ (zs : List ℕ). slice_index_or zs y 0) is
        ∙ get_or_push xs (f n) 0 y (long ∙ last lt le)
        ∙ ap f (last lt le)

-- ---- a place by the kind of its variable

abbrev later_of : Places → ℕ → ℕ
later_of p x = cond (nat_lt x p.own) (narrow (p.shared_at + (x - p.shared))) (narrow (p.own_at + (x - p.own)))

pub of_bound : (p : Places) (bound x : ℕ) → p.shared ≡ bound → x < bound → place_of p x ≡ slice_index_or p.bound.items x 0
of_bound p bound x is lt = below x p.shared (slice_index_or p.bound.items x 0) (later_of p x) (omega (arith, is, lt))

pub of_shared : (p : Places) (bound own x : ℕ) → p.shared ≡ bound → p.own ≡ own → bound ≤ x → x < own
    → place_of p x ≡ narrow (p.shared_at + (x - bound))
of_shared p bound own x first is low lt =
    beyond x p.shared (slice_index_or p.bound.items x 0) (later_of p x) (omega (arith, first, low))
    ∙ below x p.own (narrow (p.shared_at + (x - p.shared))) (narrow (p.own_at + (x - p.own))) (omega (arith, is, lt))
    ∙ ap (λ (n : ℕ). narrow (p.shared_at + (x - n))) first

pub of_own : (p : Places) (bound own x : ℕ) → p.shared ≡ bound → p.own ≡ own → bound ≤ own → own ≤ x
    → place_of p x ≡ narrow (p.own_at + (x - own))
of_own p bound own x first is within low =
    beyond x p.shared (slice_index_or p.bound.items x 0) (later_of p x) (omega (arith, first, within, low))
    ∙ beyond x p.own (narrow (p.shared_at + (x - p.shared))) (narrow (p.own_at + (x - p.own))) (omega (arith, is, low))
    ∙ ap (λ (n : ℕ). narrow (p.own_at + (x - n))) is

-- ---- the entry

back : (n x : ℕ) → n ≤ x → n + (x - n) ≡ x
back n x le = omega (arith, le)

pub entry_lies : EntryLies
entry_lies parts p is = record {
  variables = λ x within small. kind x small (cases_lt x parts.bound) (cases_lt x (parts.bound + parts.shared));
  shared = λ y lt. ap (λ (n : ℕ). n + y) (sym is.shared_at);
}
  where
    kind : (x : ℕ) → x ≤ MOST → (x < parts.bound) ⊎ (parts.bound ≤ x) → (x < parts.bound + parts.shared) ⊎ (parts.bound + parts.shared ≤ x)
        → place_of p x ≡ x
    kind x small (inl lt) other = of_bound p parts.bound x is.shared lt ∙ is.numbers x lt
    kind x small (inr low) (inl lt) =
        of_shared p parts.bound (parts.bound + parts.shared) x is.shared is.own low lt
        ∙ ap (λ (n : ℕ). narrow (n + (x - parts.bound))) is.shared_at
        ∙ ap narrow (back parts.bound x low)
        ∙ narrow_is x small
    kind x small (inr low) (inr high) =
        of_own p parts.bound (parts.bound + parts.shared) x is.shared is.own (omega arith) high
        ∙ ap (λ (n : ℕ). narrow (n + (x - (parts.bound + parts.shared)))) (is.own_at ∙ narrow_is (parts.bound + parts.shared) (omega (arith, small, high)))
        ∙ ap narrow (back (parts.bound + parts.shared) x high)
        ∙ narrow_is x small

-- ---- a called block

forth : (n y : ℕ) → (n + y) - n ≡ y
forth n y = omega arith

less : (bound shared x : ℕ) → bound ≤ x → x < bound + shared → x - bound < shared
less bound shared x le h = omega (arith, le, h)

abbrev own_from : Parts → ℕ
own_from callee = callee.bound + callee.shared

-- beyond the bound ones
abbrev other_place : Blocks → Work → Numbered → Parts → ℕ → ℕ
other_place blocks k c callee x = cond (nat_lt x (callee.bound + callee.shared)) (k.place (k.parts.bound + (x - callee.bound)))
    (base_of blocks k c.number + (x - (callee.bound + callee.shared)))

abbrev place_at : Blocks → Work → Numbered → Parts → ℕ → ℕ
place_at blocks k c callee x = place_in k c.call callee (base_of blocks k c.number) x

at_bound : (blocks : Blocks) (k : Work) (c : Numbered) (callee : Parts) (x : ℕ) → x < callee.bound
    → place_at blocks k c callee x ≡ k.place (c.call.instance + x)
at_bound blocks k c callee x lt = below x callee.bound (k.place (c.call.instance + x)) (other_place blocks k c callee x) lt

at_shared : (blocks : Blocks) (k : Work) (c : Numbered) (callee : Parts) (x : ℕ) → callee.bound ≤ x → x < own_from callee
    → place_at blocks k c callee x ≡ k.place (k.parts.bound + (x - callee.bound))
at_shared blocks k c callee x low lt =
    beyond x callee.bound (k.place (c.call.instance + x)) (other_place blocks k c callee x) low
    ∙ below x (callee.bound + callee.shared) (k.place (k.parts.bound + (x - callee.bound)))
    (base_of blocks k c.number + (x - (callee.bound + callee.shared))) lt

at_own : (blocks : Blocks) (k : Work) (c : Numbered) (callee : Parts) (x : ℕ) → callee.bound ≤ x → own_from callee ≤ x
    → place_at blocks k c callee x ≡ base_of blocks k c.number + (x - own_from callee)
at_own blocks k c callee x low high =
    beyond x callee.bound (k.place (c.call.instance + x)) (other_place blocks k c callee x) low
    ∙ beyond x (callee.bound + callee.shared) (k.place (k.parts.bound + (x - callee.bound)))
    (base_of blocks k c.number + (x - (callee.bound + callee.shared))) high

kind_lies : (blocks : Blocks) (k : Work) (c : Numbered) (callee : Parts) (p q : Places) → Lie k p → IsFit k.parts c.call callee
    → IsCallee p c.call.instance callee.bound callee.shared (base_of blocks k c.number) q
    → (x : ℕ) → place_at blocks k c callee x ≤ MOST → (x < callee.bound) ⊎ (callee.bound ≤ x) → (x < own_from callee) ⊎ (own_from callee ≤ x)
    → place_of q x ≡ place_at blocks k c callee x
kind_lies blocks k c callee p q lie fit is x small (inl lt) other =
    of_bound q callee.bound x is.shared lt
    ∙ is.passed x lt
    ∙ lie.variables (c.call.instance + x) (omega (arith, fit.room, lt)) (subst (λ (n : ℕ). n ≤ MOST) (at_bound blocks k c callee x lt) small)
    ∙ sym (at_bound blocks k c callee x lt)
kind_lies blocks k c callee p q lie fit is x small (inr low) (inl lt) =
    of_shared q callee.bound (own_from callee) x is.shared is.own low lt
    ∙ ap (λ (n : ℕ). narrow (n + (x - callee.bound))) is.shared_at
    ∙ narrow_is (p.shared_at + (x - callee.bound)) (subst (λ (n : ℕ). n ≤ MOST) at small)
    ∙ sym at
  where
    at : place_at blocks k c callee x ≡ p.shared_at + (x - callee.bound)
    at = at_shared blocks k c callee x low lt
        ∙ lie.shared (x - callee.bound)
        (subst (λ (n : ℕ). x - callee.bound < n) fit.count (less callee.bound callee.shared x low lt))
kind_lies blocks k c callee p q lie fit is x small (inr low) (inr high) =
    of_own q callee.bound (own_from callee) x is.shared is.own (omega arith) high
    ∙ ap (λ (n : ℕ). narrow (n + (x - own_from callee))) is.own_at
    ∙ narrow_is (base_of blocks k c.number + (x - own_from callee))
    (subst (λ (n : ℕ). n ≤ MOST) (at_own blocks k c callee x low high) small)
    ∙ sym (at_own blocks k c callee x low high)

shared_lie : (blocks : Blocks) (k : Work) (c : Numbered) (callee : Parts) (p q : Places) → Lie k p → IsFit k.parts c.call callee
    → IsCallee p c.call.instance callee.bound callee.shared (base_of blocks k c.number) q
    → (y : ℕ) → y < callee.shared → place_at blocks k c callee (callee.bound + y) ≡ q.shared_at + y
shared_lie blocks k c callee p q lie fit is y lt =
    at_shared blocks k c callee (callee.bound + y) (omega arith) (omega (arith, lt))
    ∙ ap (λ (z : ℕ). k.place (k.parts.bound + z)) (forth callee.bound y)
    ∙ lie.shared y (subst (λ (n : ℕ). y < n) fit.count lt)
    ∙ ap (λ (n : ℕ). n + y) (sym is.shared_at)

pub callees_lie : CalleesLie
callees_lie blocks k c callee p q lie fit is = record {
  variables = λ x within small. kind_lies blocks k c callee p q lie fit is x small (cases_lt x callee.bound) (cases_lt x (own_from callee));
  shared = shared_lie blocks k c callee p q lie fit is;
}
