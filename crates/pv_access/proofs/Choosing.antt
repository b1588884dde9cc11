-- Writes where a term is true, form by form.
use Rattle.std.proofs.Common.{◌≡◌, ◌<◌, ◌≤◌, ℕ, suc, ◌+◌, ◌-◌, ◌*◌, ◌/◌, ◌%◌, ◌^◌, ℤ, pos, Bool as Truth, true, false, refl, sym, ap, subst, ◌∙◌, arith}
use Rattle.std.specs.Prelude.{if◌then◌else◌}
use Rattle.std.proofs.lemmas.Nat.{mul-le}
use Rattle.std.proofs.Math.Nat.{div-mul-le_self}
use Rattle.pv_word.specs.declared.types.Ty.TheVariants.{Bool, Byte}
use Rattle.pv_word.specs.Types.{InRange, pattern_of, bit_of}
use Rattle.pv_mean.specs.Spots.{with_bit}
use Rattle.pv_flow.specs.Terms.{Term, select, Valuation, value_of, holds_in}
use Rattle.pv_flow.specs.Runs.{put}
use Rattle.pv_terms.specs.Correct.{ConversionsHold}
use Rattle.pv_access.specs.declared.access.Storage.TheVariants.{Cell, Brief, Bit, Bytes, Fixed, Nowhere}
use Rattle.pv_access.specs.Accesses.{choosing, bit_term, with_bit_term}
use Rattle.pv_access.specs.Correct.{moved_by, through, ChoicesHold}
use Rattle.pv_access.proofs.AreaValues.{plain_in_range, plain_pattern, small_pattern, bit_value, with_bit_value}
use Rattle.pv_access.proofs.Accessing.{put_one, put_both, put_cell, put_brief}

-- what is there is put once more
put_same : (w : Valuation) (n x : ℕ) → put w n (w n) x ≡ w x
put_same w n x = put_one w n (w n) x (w x) (λ e. ap w (sym e)) (λ ne. refl)

put_choice : (w : Valuation) (n : ℕ) (a : ℤ) (x : ℕ) (b : Truth)
    → put w n (if b then a else w n) x ≡ (if b then put w n a x else w x)
put_choice w n a x true = refl
put_choice w n a x false = put_same w n x

both_choice : (place : ℕ → ℕ) (w : Valuation) (c : ℕ) (a p : ℤ) (x : ℕ) (b : Truth)
    → put_both place w c (if b then a else w (place c)) (if b then p else w (place (suc c))) x
    ≡ (if b then put_both place w c a p x else w x)
both_choice place w c a p x true = refl
both_choice place w c a p x false =
    put_one (put w (place c) (w (place c))) (place (suc c)) (w (place (suc c))) x (w x) (λ e. ap w (sym e)) (λ ne. put_same w (place c) x)

-- ---- bits

-- a byte with the bit that it has
with_own : (byte b : ℕ) → with_bit byte b (byte / 2 ^ b % 2) ≡ byte
with_own byte b = back byte (byte / 2 ^ b % 2 * 2 ^ b) (least byte b)
  where
    back : (m n : ℕ) → n ≤ m → m - n + n ≡ m
    back m n le = omega (arith, le)

    least : (byte b : ℕ) → byte / 2 ^ b % 2 * 2 ^ b ≤ byte
    least byte b =
        let some : byte / 2 ^ b % 2 ≤ byte / 2 ^ b = small (byte / 2 ^ b) in
        let part = mul-le (byte / 2 ^ b % 2) (2 ^ b) (byte / 2 ^ b) (2 ^ b) some (same (2 ^ b)) in
        let whole = div-mul-le_self byte (2 ^ b) in
        omega (arith, part, whole)
      where
        small : (m : ℕ) → m % 2 ≤ m
        small m = omega arith

        same : (m : ℕ) → m ≤ m
        same m = omega arith

bit_small : (m : ℕ) → m % 2 < 2 ^ 1
bit_small m = omega arith

bit_range : (m : ℕ) → InRange Bool (pos (m % 2))
bit_range m = plain_in_range Bool (m % 2) refl (bit_small m)

bit_choice : ConversionsHold → (place : ℕ → ℕ) (w : Valuation) (n b : ℕ) (on t : Term) (x : ℕ) → b < 8
    → InRange Bool (value_of (through place w) t) → InRange Byte (w (place n))
    → put w (place n) (value_of (through place w) (with_bit_term n b (select Bool on t (bit_term n b)))) x
    ≡ (if holds_in (through place w) on
    then put w (place n) (pos (with_bit (pattern_of Byte (w (place n))) b (pattern_of Bool (value_of (through place w) t)))) x else w x)
bit_choice conv place w n b on t x few bit byte = lead (holds_in (through place w) on) refl
  where
    s : Term
    s = select Bool on t (bit_term n b)

    old : value_of (through place w) (bit_term n b) ≡ pos (bit_of Byte (w (place n)) b)
    old = bit_value conv (through place w) n b byte

    lead : (d : Truth) → holds_in (through place w) on ≡ d
        → put w (place n) (value_of (through place w) (with_bit_term n b s)) x
        ≡ (if holds_in (through place w) on
        then put w (place n) (pos (with_bit (pattern_of Byte (w (place n))) b (pattern_of Bool (value_of (through place w) t)))) x else w x)
    lead true e =
        let is : value_of (through place w) s ≡ value_of (through place w) t =
        ap (λ (d : Truth). if d then value_of (through place w) t else value_of (through place w) (bit_term n b)) e in
        ap (λ (v : ℤ). put w (place n) v x)
        (with_bit_value conv (through place w) n b s few (subst (λ (v : ℤ). InRange Bool v) (sym is) bit)
        ∙ ap (λ (v : ℤ). pos (with_bit (pattern_of Byte (w (place n))) b (pattern_of Bool v))) is)
        ∙ sym (ap (λ (d : Truth). if d
        then put w (place n) (pos (with_bit (pattern_of Byte (w (place n))) b (pattern_of Bool (value_of (through place w) t)))) x else w x) e)
    lead false e =
        let is : value_of (through place w) s ≡ pos (bit_of Byte (w (place n)) b) =
        ap (λ (d : Truth). if d then value_of (through place w) t else value_of (through place w) (bit_term n b)) e ∙ old in
        ap (λ (v : ℤ). put w (place n) v x)
        (with_bit_value conv (through place w) n b s few
        (subst (λ (v : ℤ). InRange Bool v) (sym is) (bit_range (pattern_of Byte (w (place n)) / 2 ^ b)))
        ∙ ap (λ (v : ℤ). pos (with_bit (pattern_of Byte (w (place n))) b (pattern_of Bool v))) is
        ∙ ap (λ (k : ℕ). pos (with_bit (pattern_of Byte (w (place n))) b k))
        (small_pattern Bool (bit_of Byte (w (place n)) b) (bit_small (pattern_of Byte (w (place n)) / 2 ^ b)))
        ∙ ap pos (with_own (pattern_of Byte (w (place n))) b)
        ∙ plain_pattern Byte (w (place n)) refl byte)
        ∙ put_same w (place n) x
        ∙ sym (ap (λ (d : Truth). if d
        then put w (place n) (pos (with_bit (pattern_of Byte (w (place n))) b (pattern_of Bool (value_of (through place w) t)))) x else w x) e)

-- ---- writes

pub chooses : ConversionsHold → ChoicesHold
chooses conv place w (Cell ty n) moves on t x inside can may =
    let c = n + moved_by (through place w) moves in
    put_cell place w ty (choosing on t) moves n c x inside can.0 can.1 refl
    ∙ put_choice w (place c) (value_of (through place w) t) x (holds_in (through place w) on)
chooses conv place w (Brief ty n) moves on t x inside can may =
    let c = n + moved_by (through place w) moves * 2 in
    put_brief place w ty (choosing on t) moves n c x inside can.0 can.1 refl
    ∙ both_choice place w c (value_of (through place w) t) (pos 1) x (holds_in (through place w) on)
chooses conv place w (Bit n b) moves on t x inside can may = bit_choice conv place w n b on t x can.0 can.1 may
chooses conv place w (Bytes ty n count) moves on t x inside can may = absurd may
chooses conv place w (Fixed v) moves on t x inside can may = same (holds_in (through place w) on) (w x)
  where
    same : (b : Truth) (v : ℤ) → v ≡ (if b then v else v)
    same true v = refl
    same false v = refl
chooses conv place w Nowhere moves on t x inside can may = same (holds_in (through place w) on) (w x)
  where
    same : (b : Truth) (v : ℤ) → v ≡ (if b then v else v)
    same true v = refl
    same false v = refl
