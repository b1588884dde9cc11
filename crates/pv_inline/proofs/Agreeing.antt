-- Terms whose variables are renamed alike.
use Rattle.std.proofs.Common.{◌≡◌, ℕ, ◌<◌, List, [], ◌∷◌, true, ◌&&◌, nat_lt, refl, ap, ◌∙◌}
use Rattle.std.specs.List.{list_all}
use Rattle.std.proofs.lemmas.Bool.{ltb-true, and_parts}
use Rattle.pv_flow.specs.Terms.{Term, constant, variable, unary, binary, select, names_below}
use Rattle.pv_flow.specs.Automata.{Set}
use Rattle.pv_flow.specs.Faults.{set_below}
use Rattle.pv_call_copies.specs.Renaming.{renamed, renamed_sets}

-- of the first n variables
abbrev pub Agree : ℕ → (ℕ → ℕ) → (ℕ → ℕ) → Type 0
Agree n f g = (x : ℕ) → x < n → f x ≡ g x

pub renamed_alike : (n : ℕ) (f g : ℕ → ℕ) → Agree n f g → (t : Term) → names_below n t ≡ true → renamed f t ≡ renamed g t
renamed_alike n f g same (constant ty v) below = refl
renamed_alike n f g same (variable x) below = ap variable (same x (ltb-true x n below))
renamed_alike n f g same (unary op ty t) below = ap (unary op ty) (renamed_alike n f g same t below)
renamed_alike n f g same (binary op ty s t) below =
    let both = and_parts (names_below n s) (names_below n t) below in
    ap (λ (u : Term). binary op ty u (renamed f t)) (renamed_alike n f g same s both.0)
    ∙ ap (binary op ty (renamed g s)) (renamed_alike n f g same t both.1)
renamed_alike n f g same (select ty c s t) below =
    let all = and_parts (names_below n c && names_below n s) (names_below n t) below in
    let both = and_parts (names_below n c) (names_below n s) all.0 in
    ap (λ (u : Term). select ty u (renamed f s) (renamed f t)) (renamed_alike n f g same c both.0)
    ∙ (ap (λ (u : Term). select ty (renamed g c) u (renamed f t)) (renamed_alike n f g same s both.1)
    ∙ ap (select ty (renamed g c) (renamed g s)) (renamed_alike n f g same t all.1))

abbrev set_to : ℕ → Term → Set
set_to x t = record { variable = x; value = t }

pub sets_alike : (n : ℕ) (f g : ℕ → ℕ) → Agree n f g → (sets : List Set) → list_all (set_below n) sets ≡ true
    → renamed_sets f sets ≡ renamed_sets g sets
sets_alike n f g same [] below = refl
sets_alike n f g same (set ∷ sets) below =
    let both = and_parts (set_below n set) (list_all (set_below n) sets) below in
    let own = and_parts (nat_lt set.variable n) (names_below n set.value) both.0 in
    ap (λ (x : ℕ). set_to x (renamed f set.value) ∷ renamed_sets f sets) (same set.variable (ltb-true set.variable n own.0))
    ∙ (ap (λ (t : Term). set_to (g set.variable) t ∷ renamed_sets f sets) (renamed_alike n f g same set.value own.1)
    ∙ ap (λ (ss : List Set). set_to (g set.variable) (renamed g set.value) ∷ ss) (sets_alike n f g same sets both.1))
