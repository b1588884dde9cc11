-- What expressions derive, they derive by their own productions: the names and the kinds in these are among their own, and the
-- productions behind them are of other names.
use Rattle.std.proofs.Common.{◌≡◌, ◌⊎◌, inl, inr, ℕ, zero, suc, ◌<◌, ◌≤◌, Bool, true, List, [], ◌∷◌, ◌++◌, Some, All, ap, ◌∙◌, sym, subst, arith}
use Rattle.std.specs.Prelude.{slice_get, nat_lt, nat_le}
use Rattle.std.specs.List.{list_all}
use Rattle.std.proofs.lemmas.Bool.{and_parts, ltb-true, leb-true}
use Rattle.std.proofs.lemmas.List.Elements.{All-nil, All-cons, All-append}
use Rattle.pv_ll.specs.declared.table.Symbol.{Symbol}
use Rattle.pv_ll.specs.declared.table.Symbol.TheVariants.{Token, Name}
use Rattle.pv_ll.specs.Grammar.{Grammar, Production, ◌⟶◌, IsProduction, Derives}
use Rattle.pv_ll.specs.Grammar.Derives.{nothing, token, name}

-- a symbol is among the first names and kinds, so many of each
abbrev pub is_inner : ℕ → ℕ → Symbol → Bool
is_inner names kinds (Token t) = nat_lt t kinds
is_inner names kinds (Name n) = nat_lt n names

abbrev pub are_inner : ℕ → ℕ → List Symbol → Bool
are_inner names kinds ss = list_all (is_inner names kinds) ss

-- ---- productions of the front, and those behind it

pub in_front : {X : Type 0} (front rest : List X) (k : ℕ) (x : X) → slice_get front k ≡ Some x → slice_get (front ++ rest) k ≡ Some x
in_front [] rest k x e = absurd (cc (e))
in_front (y ∷ front) rest zero x e = e
in_front (y ∷ front) rest (suc k) x e = in_front front rest k x e

either_part : {X : Type 0} (front rest : List X) (k : ℕ) (x : X) → slice_get (front ++ rest) k ≡ Some x
    → (slice_get front k ≡ Some x) ⊎ ((j : ℕ) × (slice_get rest j ≡ Some x))
either_part [] rest k x e = inr (k, e)
either_part (y ∷ front) rest zero x e = inl e
either_part (y ∷ front) rest (suc k) x e = either_part front rest k x e

pub holds_at : {X : Type 0} (test : X → Bool) (xs : List X) (k : ℕ) (x : X) → list_all test xs ≡ true → slice_get xs k ≡ Some x → test x ≡ true
holds_at test [] k x h e = absurd (cc (e))
holds_at test (y ∷ xs) zero x h e =
    let same : y ≡ x = cc (e) in
    ap test (sym same) ∙ (and_parts (test y) (list_all test xs) h).0
holds_at test (y ∷ xs) (suc k) x h e = holds_at test xs k x (and_parts (test y) (list_all test xs) h).1 e

-- ---- derivations

pub record Inside (front : Grammar) (kinds : ℕ) (ss : List Symbol) (w : List ℕ) : Type 0 where
  pub derives : Derives front ss w
  pub below : All (λ (t : ℕ). t < kinds) w

inside_name : (front : Grammar) (kinds n k : ℕ) (ss body : List Symbol) (u v w : List ℕ) → IsProduction front k n body → Inside front kinds body u
    → Inside front kinds ss v → w ≡ u ++ v → Inside front kinds (Name n ∷ ss) w
inside_name front kinds n k ss body u v w p x y e = record {
  derives = name k p x.derives y.derives e;
  below = subst (λ (z : List ℕ). All (λ (t : ℕ). t < kinds) z) (sym e) (All-append (λ (t : ℕ). t < kinds) u v x.below y.below);
}

-- a name of the front has its productions there alone
pub own_production : (front rest : Grammar) (names kinds k n : ℕ) (body : List Symbol) → list_all (λ (p : Production). nat_le names p.name) rest ≡ true
    → nat_lt n names ≡ true → IsProduction (front ++ rest) k n body → IsProduction front k n body
own_production front rest names kinds k n body apart below p =
    elim (either_part front rest k (n ⟶ body) p) [
      | inl q ↦ q
      | inr q ↦
          let above : names ≤ n = leb-true names n (holds_at (λ (x : Production). nat_le names x.name) rest q.0 (n ⟶ body) apart q.1) in
          let under : n < names = ltb-true n names below in
          absurd (omega arith)
    ]

pub closed : (front rest : Grammar) (names kinds : ℕ) → list_all (λ (p : Production). are_inner names kinds p.body) front ≡ true
    → list_all (λ (p : Production). nat_le names p.name) rest ≡ true → {ss : List Symbol} {w : List ℕ} → are_inner names kinds ss ≡ true
    → Derives (front ++ rest) ss w → Inside front kinds ss w
closed front rest names kinds inner apart h nothing = record { derives = nothing; below = All-nil (λ (t : ℕ). t < kinds) }
closed front rest names kinds inner apart h (token {t = t} {ss = ss} {w = w} d) =
    let p = and_parts (nat_lt t kinds) (are_inner names kinds ss) h in
    let x : Inside front kinds ss w = closed front rest names kinds inner apart p.1 d in
    record { derives = token x.derives; below = All-cons (λ (z : ℕ). z < kinds) t w (ltb-true t kinds p.0) x.below }
closed front rest names kinds inner apart h (name {n = n} {ss = ss} {body = body} {u = u} {v = v} {w = w} k p d e q) =
    let both = and_parts (nat_lt n names) (are_inner names kinds ss) h in
    let own : IsProduction front k n body = own_production front rest names kinds k n body apart both.0 p in
    inside_name front kinds n k ss body u v w own
    (closed front rest names kinds inner apart (holds_at (λ (x : Production). are_inner names kinds x.body) front k (n ⟶ body) inner own) d)
    (closed front rest names kinds inner apart both.1 e) q
