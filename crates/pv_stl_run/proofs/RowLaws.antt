-- Sums, by what the code makes of the accumulators.
use Rattle.std.proofs.Common.{◌≡◌, ℤ, Some, ap, sym, ◌∙◌}
use Rattle.pv_place.specs.declared.place.Place.{Place}
use Rattle.pv_mean.specs.Endings.{Tried, got, and_then}
use Rattle.pv_mean.specs.Registers.{Codes, Registers, had}
use Rattle.pv_mean.specs.Accumulators.{Part, signed, put, codes_by, overflows, number, with_both, became, summed}

both_are : {A : Type 0} (place : Place) (r : Registers) (b a : ℤ) (next : ℤ → ℤ → Tried A)
    → r.accu2 ≡ Some b → r.accu1 ≡ Some a → with_both place r next ≡ next b a
both_are place r b a next p q =
    ap (λ x. and_then (had place x) (λ y. and_then (had place r.accu1) (λ z. next y z))) p
    ∙ ap (λ x. and_then (had place x) (λ z. next b z)) q

made_is : (r : Registers) (accu x : ℤ) (codes y : Codes) → accu ≡ x → codes ≡ y → got (became r accu codes) ≡ got (became r x y)
made_is r accu x codes y p q = ap (λ a. got (became r a codes)) p ∙ ap (λ c. got (became r x c)) q

sum_row : (op : ℤ → ℤ → ℤ) (part : Part) (place : Place) (r : Registers) (b a n accu : ℤ) (codes : Codes)
    → r.accu2 ≡ Some b → r.accu1 ≡ Some a → n ≡ op (number part b) (number part a) → accu ≡ put part a n
    → codes ≡ codes_by (overflows (signed part) n) (number part n) → got (became r accu codes) ≡ summed op part place r
sum_row op part place r b a n accu codes p q e f g =
    made_is r accu (put part a n) codes (codes_by (overflows (signed part) n) (number part n)) f g
    ∙ ap (λ m. got (became r (put part a m) (codes_by (overflows (signed part) m) (number part m)))) e
    ∙ sym (both_are place r b a (λ y x. let m = op (number part y) (number part x) in
    got (became r (put part x m) (codes_by (overflows (signed part) m) (number part m)))) p q)

-- sums, where the code passes its numbers on
pub sum_made : (op : ℤ → ℤ → ℤ) (part : Part) (place : Place) (r : Registers) (b a x n accu : ℤ) (codes : Codes)
    → r.accu2 ≡ Some b → r.accu1 ≡ Some a → x ≡ a → accu ≡ put part x n → codes ≡ codes_by (overflows (signed part) n) (number part n)
    → n ≡ op (number part b) (number part a) → got (became r accu codes) ≡ summed op part place r
sum_made op part place r b a x n accu codes p q h f g e =
    sum_row op part place r b a n accu codes p q e (f ∙ ap (λ y. put part y n) h) g
