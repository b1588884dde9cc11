-- Terms that read spots.
use Rattle.std.proofs.Common.{◌≡◌, ℕ, zero, suc, ◌+◌, ◌*◌, ◌-◌, ◌<◌, ℤ, pos, Bool, true, false, ◌||◌, ◌&&◌, inl, inr, refl, sym, ap, ◌∙◌, arith}
use Rattle.std.specs.Prelude.{◌==◌, nat_le, nat_lt}
use Rattle.std.specs.List.{list_any}
use Rattle.std.proofs.lemmas.Bool.{cases_lt, le-leb, lt-ltb, le-ltb, eq-eqb, ne_eqb}
use Rattle.std.proofs.lemmas.Bool.Decides.{leb_tells}
use Rattle.pv_word.specs.declared.types.Ty.{Ty}
use Rattle.pv_word.specs.Types.{wrap_of}
use Rattle.pv_mean.specs.Endings.{Value, got}
use Rattle.pv_mean.specs.Spots as m
use Rattle.pv_mean.specs.Spots.{byte_in}
use Rattle.pv_eval.specs.declared.node.OneOp.TheVariants.{Wrap}
use Rattle.pv_pattern.specs.declared.term.Term.{Term, Constant, Cell, Bit, Byte, Word, Double}
use Rattle.pv_pattern.specs.Reads.{numbers_from}
use Rattle.pv_pattern.specs.Terms.{frame_by, is_among}
use Rattle.pv_pattern_read.specs.Making.{IsSpotTerm, IsOne}

or_none : (x : Bool) → (x || false) ≡ x
or_none true = refl
or_none false = refl

and_none : (x : Bool) → (x && false) ≡ false
and_none true = refl
and_none false = refl

-- ---- one of so many numbers in a row

above : (a b : ℕ) → b < a → nat_le a b ≡ false
above a b h = elim (leb_tells a b) [
  | inl y ↦ absurd (omega (arith, y.1, h))
  | inr n ↦ n.0
]

none_among : (k n count : ℕ) → k < n → is_among k n count ≡ false
none_among k n count h = ap (λ b. b && nat_lt (k - n) count) (above n k h)

among_none : (k n : ℕ) → is_among k n 0 ≡ false
among_none k n = ap (λ b. nat_le n k && b) (le-ltb (k - n) 0 (omega arith)) ∙ and_none (nat_le n k)

among_first : (n count : ℕ) → is_among n n (suc count) ≡ true
among_first n count =
    ap (λ b. b && nat_lt (n - n) (suc count)) (le-leb n n (omega arith)) ∙ lt-ltb (n - n) (suc count) (omega arith)

fewer : (k n count : ℕ) → n < k → nat_lt (k - n) (suc count) ≡ nat_lt (k - (n + 1)) count
fewer k n count h = elim (cases_lt (k - (n + 1)) count) [
  | inl less ↦ lt-ltb (k - n) (suc count) (omega (arith, h, less)) ∙ sym (lt-ltb (k - (n + 1)) count less)
  | inr more ↦ le-ltb (k - n) (suc count) (omega (arith, h, more)) ∙ sym (le-ltb (k - (n + 1)) count more)
]

among_later : (k n count : ℕ) → n < k → is_among k n (suc count) ≡ is_among k (n + 1) count
among_later k n count h =
    ap (λ b. b && nat_lt (k - n) (suc count)) (le-leb n k (omega (arith, h)) ∙ sym (le-leb (n + 1) k (omega (arith, h))))
    ∙ ap (λ b. nat_le (n + 1) k && b) (fewer k n count h)

among_next : (k n count : ℕ) → is_among k n (suc count) ≡ ((k == n) || is_among k (n + 1) count)
among_next k n count = elim (cases_lt k n) [
  | inl less ↦
      none_among k n (suc count) less ∙ sym (none_among k (n + 1) count (omega (arith, less)))
      ∙ sym (ap (λ b. b || is_among k (n + 1) count) (ne_eqb k n (λ e. omega (arith, less, e))))
  | inr more ↦ elim (cases_lt n k) [
    | inl less ↦
        among_later k n count less ∙ sym (ap (λ b. b || is_among k (n + 1) count) (ne_eqb k n (λ e. omega (arith, less, e))))
    | inr same ↦
        let e : k ≡ n = omega (arith, more, same) in
        ap (λ x. is_among x n (suc count)) e ∙ among_first n count ∙ sym (ap (λ b. b || is_among k (n + 1) count) (eq-eqb k n e))
  ]
]

pub among_numbers : (k n count : ℕ) → is_among k n count ≡ list_any (λ m. k == m) (numbers_from n count)
among_numbers k n zero = among_none k n
among_numbers k n (suc count) = among_next k n count ∙ ap (λ b. (k == n) || b) (among_numbers k (n + 1) count)

-- ---- spots

pub cell_spot : (n : ℕ) → IsSpotTerm (m.visible n) (Cell n)
cell_spot n = record { value = λ values place. refl; reads = λ k. sym (or_none (k == n)) }

pub bit_spot : (n b : ℕ) → IsSpotTerm (m.bit n b) (Bit n b)
bit_spot n b = record { value = λ values place. refl; reads = λ k. sym (or_none (k == n)) }

pub fixed_spot : (v : ℤ) → IsSpotTerm (m.fixed v) (Constant v)
fixed_spot v = record { value = λ values place. refl; reads = λ k. refl }

pub no_spot : IsSpotTerm m.nowhere (Constant (pos 0))
no_spot = record { value = λ values place. refl; reads = λ k. refl }

plus_none : (x : ℕ) → 0 * 256 + x ≡ x
plus_none x = omega arith

pub byte_spot : (ty : Ty) (n : ℕ) (t : Term) → IsOne Wrap ty (Byte n) t → IsSpotTerm (m.bytes ty n 1) t
byte_spot ty n t made = record {
  value = λ values place.
      ap (λ (x : ℕ). let y : Value = got (wrap_of ty (pos x)) in y) (plus_none (byte_in (frame_by values) n)) ∙ ap (λ x. let y : Value = got x in y) (sym (made.value values));
  reads = λ k. made.reads k ∙ sym (or_none (k == n));
}

pub word_spot : (ty : Ty) (n : ℕ) → IsSpotTerm (m.bytes ty n 2) (Word ty n)
word_spot ty n = record { value = λ values place. refl; reads = λ k. among_numbers k n 2 }

pub double_spot : (ty : Ty) (n : ℕ) → IsSpotTerm (m.bytes ty n 4) (Double ty n)
double_spot ty n = record { value = λ values place. refl; reads = λ k. among_numbers k n 4 }
