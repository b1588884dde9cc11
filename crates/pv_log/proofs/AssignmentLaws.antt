-- What marks and list keep.
-- A table and a trail behind an `impl Model` whose value is a plain list (`Partial`): everything above it is about lists, and most
-- of it proves with no file. The invariant says of every index what the table reads (`slice_index_or marks lit false`, so no bound
-- is needed); set and unset are one lemma each, here. Facts of the value come inside by `subst (λ p. ..) (sym c.self.view_is)`.
use Rattle.std.proofs.Common.{◌≡◌, ℕ, ◌<◌, Bool, true, false, ◌||◌, List, [], ◌∷◌, ◌++◌, length, set, refl, sym, ap, ◌∙◌, arith, inl, inr}
use Rattle.std.proofs.lemmas.Bool.{eq-eqb, ne_eqb, cases_eq, or_right}
use Rattle.std.proofs.lemmas.List.{length-set, length-append, get_or-set_same, get_or-set_other}
use Rattle.pv_cnf.specs.Literal.{complement, is_outside}
use Rattle.pv_log.specs.Propagation.{is_false}
use Rattle.pv_log.specs.Assignment.{Agree}
use Rattle.pv_log.proofs.Literals.{double-push, double-front, alone-last, false-push, outside-push, outside-front, outside-last, inside-bounds, length-le-variables}

or-false-right : (b : Bool) → (b || false) ≡ b
or-false-right true = refl
or-false-right false = refl

pub Agree-set : (v : ℕ) (marks : List Bool) (falses : List ℕ) (lit : ℕ) → Agree v marks falses → is_outside v lit ≡ false → is_false falses lit ≡ false → is_false falses (complement lit) ≡ false → Agree v (set marks lit true) (falses ++ lit ∷ [])
Agree-set v marks falses lit a inside other opposite =
    let b = inside-bounds v lit inside in
    let lt : lit < length marks = omega (arith, a.size) in
    record {
      size = length-set marks lit true ∙ a.size;
      marked = λ l. elim (cases_eq l lit) [
        | inl e ↦ (rw (e, false-push falses lit lit, get_or-set_same marks lit true false lt, eq-eqb lit lit refl) (sym (or_right (is_false falses lit) (true || false) refl)))
        | inr ne ↦ (rw (false-push falses lit l, get_or-set_other marks lit l true false ne, ne_eqb l lit ne) (a.marked l ∙ sym (or-false-right (is_false falses l))))
      ];
      inside = outside-push v falses lit a.inside inside;
      distinct = double-push falses lit a.distinct other opposite;
    }

pub Agree-unset : (v : ℕ) (marks : List Bool) (falses : List ℕ) (lit : ℕ) → Agree v marks (falses ++ lit ∷ []) → Agree v (set marks lit false) falses
Agree-unset v marks falses lit a =
    let b = inside-bounds v lit (outside-last v falses lit a.inside) in
    let lt : lit < length marks = omega (arith, a.size) in
    record {
      size = length-set marks lit false ∙ a.size;
      marked = λ l. elim (cases_eq l lit) [
        | inl e ↦ (rw (e, get_or-set_same marks lit false false lt) (sym (alone-last falses lit a.distinct)))
        | inr ne ↦ (rw (get_or-set_other marks lit l false false ne) (a.marked l ∙ false-push falses lit l ∙ ap (λ (t : Bool). is_false falses l || (t || false)) (ne_eqb l lit ne) ∙ or-false-right (is_false falses l)))
      ];
      inside = outside-front v falses (lit ∷ []) a.inside;
      distinct = double-front falses (lit ∷ []) a.distinct;
    }

-- there is room for a literal without a value
pub room : (v : ℕ) (marks : List Bool) (falses : List ℕ) (lit : ℕ) → Agree v marks falses → is_outside v lit ≡ false → is_false falses lit ≡ false → is_false falses (complement lit) ≡ false → length falses < v
room v marks falses lit a inside other opposite =
    let longer = length-le-variables v (falses ++ lit ∷ []) (outside-push v falses lit a.inside inside) (double-push falses lit a.distinct other opposite) in
    omega (arith, length-append falses (lit ∷ []))
