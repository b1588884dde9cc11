-- Where a language keeps to its shapes, a grammar that is typed gives each production what its body wants.
use Rattle.std.proofs.Common.{◌≡◌, ℕ, zero, suc, Bool, true, false, cond, List, [], ◌∷◌, ◌++◌, Some, None, Option, option_and_then, refl, ap, ◌∙◌, sym, subst, eqb-true}
use Rattle.std.specs.Prelude.{◌==◌}
use Rattle.std.proofs.lemmas.Bool.{and_parts}
use Rattle.pv_ll.specs.declared.table.Symbol.{Symbol}
use Rattle.pv_ll.specs.declared.table.Symbol.TheVariants.{Token, Name}
use Rattle.pv_ll.specs.Grammar.{Grammar, Production, ◌⟶◌, IsProduction}
use Rattle.pv_ll.specs.Making.{Making}
use Rattle.pv_ll.specs.Meaning.{Meaning, WantsAll, May}
use Rattle.pv_ll.specs.Shapes.{Shaping, IsTopped, below, shapes_behind, is_some, are_typed, Keeps}

-- what is below others
below_is : (above shapes left : List ℕ) → below above shapes ≡ Some left → shapes ≡ above ++ left
below_is [] shapes left e = cc (e)
below_is (x ∷ above) [] left e = absurd (cc (e))
below_is (x ∷ above) (y ∷ shapes) left e =
    let p = both (x == y) (below above shapes) left e in
    let same : x ≡ y = eqb-true x y p.0 in
    ap (λ (z : ℕ). z ∷ shapes) (sym same) ∙ ap (λ (z : List ℕ). x ∷ z) (below_is above shapes left p.1)
  where
    both : (b : Bool) (o : Option (List ℕ)) (left : List ℕ) → cond b o None ≡ Some left → (b ≡ true) × (o ≡ Some left)
    both true o left e = (refl, e)
    both false o left e = absurd (cc (e))

-- the shapes of the front are on top where those of the whole are
topped_front : {V : Type 0} (shape : V → ℕ) (above rest : List ℕ) (s : List V) → IsTopped shape (above ++ rest) s → IsTopped shape above s
topped_front shape [] rest s h = tt
topped_front shape (x ∷ above) rest [] h = h
topped_front shape (x ∷ above) rest (v ∷ s) h = (h.0, topped_front shape above rest s h.1)

record Found (shaping : Shaping) (n : ℕ) (ss : List Symbol) (shapes : List ℕ) : Type 0 where
  left : List ℕ
  is : shapes ≡ shaping.takes n ++ left
  others : is_some (shapes_behind shaping ss (shaping.puts n ++ left)) ≡ true

found_name : (shaping : Shaping) (n : ℕ) (ss : List Symbol) (shapes : List ℕ) (o : Option (List ℕ)) → below (shaping.takes n) shapes ≡ o
    → is_some (option_and_then (λ (left : List ℕ). shapes_behind shaping ss (shaping.puts n ++ left)) o) ≡ true → Found shaping n ss shapes
found_name shaping n ss shapes None e h = absurd (cc (h))
found_name shaping n ss shapes (Some left) e h = record { left = left; is = below_is (shaping.takes n) shapes left e; others = h }

-- symbols that are typed on shapes can begin on a stack that has them on top
wants_all : {T V : Type 0} {shaping : Shaping} {shape : V → ℕ} {m : Making T V} {f : Meaning T V} → Keeps shaping shape m f
    → (ss : List Symbol) (shapes : List ℕ) (s : List V) → is_some (shapes_behind shaping ss shapes) ≡ true → IsTopped shape shapes s → WantsAll m f ss s
wants_all keeps [] shapes s h i = tt
wants_all {shaping = shaping} keeps (Token k ∷ ss) shapes s h i = λ t p.
    wants_all keeps ss (shaping.token ∷ shapes) (_ ∷ s) h (keeps.token t, i)
wants_all {shaping = shaping} {shape} keeps (Name n ∷ ss) shapes s h i =
    let x : Found shaping n ss shapes = found_name shaping n ss shapes (below (shaping.takes n) shapes) refl h in
    let top : IsTopped shape (shaping.takes n ++ x.left) s = subst (λ (z : List ℕ). IsTopped shape z s) x.is i in (
      keeps.meets n s (topped_front shape (shaping.takes n) x.left s top),
      λ ts behind d. wants_all keeps ss (shaping.puts n ++ x.left) behind x.others (keeps.leaves n s behind ts x.left d top),
    )

typed_at : (shaping : Shaping) (g : Grammar) → are_typed shaping g ≡ true → (k n : ℕ) (body : List Symbol) → IsProduction g k n body
    → is_some (shapes_behind shaping body (shaping.takes n)) ≡ true
typed_at shaping [] h k n body e = absurd (cc (e))
typed_at shaping (p ∷ g) h zero n body e =
    let same : p ≡ (n ⟶ body) = cc (e) in
    subst (λ (q : Production). is_some (shapes_behind shaping q.body (shaping.takes q.name)) ≡ true) same
    (and_parts (is_some (shapes_behind shaping p.body (shaping.takes p.name))) (are_typed shaping g) h).0
typed_at shaping (p ∷ g) h (suc k) n body e =
    typed_at shaping g (and_parts (is_some (shapes_behind shaping p.body (shaping.takes p.name))) (are_typed shaping g) h).1 k n body e

-- a production finds what its body wants
pub may : {T V : Type 0} {shaping : Shaping} {shape : V → ℕ} {m : Making T V} {f : Meaning T V} → Keeps shaping shape m f
    → (g : Grammar) → are_typed shaping g ≡ true → (k n : ℕ) (body : List Symbol) → IsProduction g k n body → May m f k n body
may {shaping = shaping} keeps g typed k n body p = λ s w.
    wants_all keeps body (shaping.takes n) s (typed_at shaping g typed k n body p) (keeps.asks n s w)
