-- What symbols mean comes to pass: from a law for each production, by recursion on the derivation.
use Rattle.std.proofs.Common.{◌≡◌, ℕ, zero, suc, ◌+◌, List, [], ◌∷◌, ◌++◌, length, map, refl, ap, ◌∙◌, subst, arith}
use Rattle.pv_ll.specs.declared.table.Symbol.{Symbol}
use Rattle.pv_ll.specs.declared.table.Symbol.TheVariants.{Token, Name}
use Rattle.pv_ll.specs.Grammar.{Grammar, Production, ◌⟶◌, Derives, IsProduction}
use Rattle.pv_ll.specs.Grammar.Derives.{nothing, token, name}
use Rattle.pv_ll.specs.Making.{Making}
use Rattle.pv_ll.specs.Making.Runs.{none, leaf, node}
use Rattle.pv_ll.specs.Meaning.{Meaning, WantsAll, Reduces, Law, May, Each, Outcome}
use Rattle.pv_ll.specs.Meaning.DoesAll.{nil, tok, val}

-- ---- a law for each production

each_from : (P : ℕ → ℕ → List Symbol → Type 0) (first : ℕ) (g : Grammar) → Each P first g → (k n : ℕ) (body : List Symbol) → IsProduction g k n body → P (first + k) n body
each_from P first [] h k n body e = absurd (cc (e))
each_from P first (p ∷ g) h zero n body e =
    let same : p ≡ (n ⟶ body) = cc (e) in
    let at : first ≡ first + 0 = omega arith in
    subst (λ (i : ℕ). P i n body) at (subst (λ (q : Production). P first q.name q.body) same h.0)
each_from P first (p ∷ g) h (suc k) n body e =
    let at : suc first + k ≡ first + suc k = omega arith in
    subst (λ (i : ℕ). P i n body) at (each_from P (suc first) g h.1 k n body e)

-- what holds of each production of a grammar, in its order, holds of any of its productions
pub each : (P : ℕ → ℕ → List Symbol → Type 0) (g : Grammar) → Each P 0 g → (k n : ℕ) (body : List Symbol) → IsProduction g k n body → P k n body
each P g h k n body e =
    let at : 0 + k ≡ k = omega arith in
    subst (λ (i : ℕ). P i n body) at (each_from P 0 g h k n body e)

-- a product is written `law1 ⋄ law2 ⋄ .. ⋄ tt`: a tuple of more than two doesn't fit `Each`
infixr 4 ◌⋄◌
abbrev pub ◌⋄◌ : {A B : Type 0} → A → B → A × B
a ⋄ b = (a, b)

-- so of a grammar that is written in parts
pub each_beside : (P : ℕ → ℕ → List Symbol → Type 0) (first : ℕ) (a b : Grammar) → Each P first a → Each P (first + length a) b → Each P first (a ++ b)
each_beside P first [] b h i =
    let at : first + 0 ≡ first = omega arith in
    subst (λ (n : ℕ). Each P n b) at i
each_beside P first (p ∷ a) b h i =
    let at : first + suc (length a) ≡ suc first + length a = omega arith in
    (h.0, each_beside P (suc first) a b h.1 (subst (λ (n : ℕ). Each P n b) at i))

-- ---- tokens of two lists of kinds in a row

pub record Halves (T : Type 0) (kind : T → ℕ) (ts : List T) (u v : List ℕ) : Type 0 where
  pub front : List T
  pub rest : List T
  pub fronts : map kind front ≡ u
  pub rests : map kind rest ≡ v
  pub whole : ts ≡ front ++ rest

pub halves : {T : Type 0} (kind : T → ℕ) (ts : List T) (u v : List ℕ) → map kind ts ≡ u ++ v → Halves T kind ts u v
halves kind ts [] v e = record { front = []; rest = ts; fronts = refl; rests = e; whole = refl }
halves kind [] (x ∷ u) v e = absurd (cc (e))
halves kind (t ∷ ts) (x ∷ u) v e =
    let x : Halves _ kind ts u v = halves kind ts u v (cc (e)) in
    record {
      front = t ∷ x.front;
      rest = x.rest;
      fronts = cc (e, x.fronts);
      rests = x.rests;
      whole = ap (λ z. t ∷ z) x.whole;
    }

-- ---- a derivation of these tokens does what its symbols mean

outcome_token : {T V : Type 0} {g : Grammar} {m : Making T V} {f : Meaning T V} {ss : List Symbol} {s : List V} {ts : List T} (k : ℕ) (t : T) → m.kind t ≡ k
    → Outcome g m f ss ts (m.leaf t ∷ s) → Outcome g m f (Token k ∷ ss) (t ∷ ts) s
outcome_token k t p x = record { behind = x.behind; runs = leaf p x.runs; does = tok p x.does }

outcome_name : {T V : Type 0} {g : Grammar} {m : Making T V} {f : Meaning T V} {ss body : List Symbol} {s : List V} {us vs ts : List T} (n k : ℕ)
    → IsProduction g k n body → (x : Outcome g m f body us s) → (y : Reduces m f k n s us x.behind) → Outcome g m f ss vs y.after → ts ≡ us ++ vs
    → Outcome g m f (Name n ∷ ss) ts s
outcome_name n k p x y z w = record { behind = z.behind; runs = node k p x.runs y.makes z.runs w; does = val y.mean z.does w }

pub outcome : {T V : Type 0} {g : Grammar} {m : Making T V} {f : Meaning T V}
    → ((k n : ℕ) (body : List Symbol) → IsProduction g k n body → May m f k n body) → ((k n : ℕ) (body : List Symbol) → IsProduction g k n body → Law m f k n body)
    → {ss : List Symbol} {w : List ℕ} → Derives g ss w → (ts : List T) → map m.kind ts ≡ w → (s : List V) → WantsAll m f ss s → Outcome g m f ss ts s
outcome may law nothing [] e s h = record { behind = s; runs = none; does = nil }
outcome may law nothing (t ∷ ts) e s h = absurd (cc (e))
outcome may law (token d) [] e s h = absurd (cc (e))
outcome {m = m} may law (token {t = k} d) (t ∷ ts) e s h =
    let p : m.kind t ≡ k = cc (e) in
    outcome_token k t p (outcome may law d ts (cc (e)) (m.leaf t ∷ s) (h t p))
outcome {T} {V} {g} {m} {f} may law (name {n = n} {ss = ss} {body = body} {u = u} {v = v} k p d others w) ts e s h =
    let half : Halves T m.kind ts u v = halves m.kind ts u v (e ∙ w) in
    let x : Outcome g m f body half.front s = outcome may law d half.front half.fronts s (may k n body p s h.0) in
    let y : Reduces m f k n s half.front x.behind = law k n body p s x.behind half.front h.0 x.does in
    outcome_name n k p x y (outcome may law others half.rest half.rests y.after (h.1 half.front y.after y.mean)) half.whole
