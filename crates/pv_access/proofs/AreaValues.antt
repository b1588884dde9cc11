-- Bits and bytes of areas: what the terms that read them are worth, and those that are put.
use Rattle.std.proofs.Common.{◌≡◌, ◌<◌, ◌≤◌, ℕ, zero, suc, ◌+◌, ◌-◌, ◌*◌, ◌/◌, ◌%◌, ◌^◌, ℤ, pos, refl, sym, ap, subst, ◌∙◌, arith}
use Rattle.std.specs.Prelude.{◌-ℤ◌, ◌≤ℤ◌, bit_and, bit_or, Bool as Truth, true, false, if◌then◌else◌, ◌==◌}
use Rattle.std.proofs.lemmas.Bool.{eqb-true}
use Rattle.std.proofs.lemmas.Int.{ints}
use Rattle.std.proofs.lemmas.Nat.{and_le_r, and_comm, or_disjoint, or_lt, or_shifted, and-not, pow-add, pow_pos, shr_le, mul-le}
use Rattle.std.proofs.lemmas.Nat.Bits.{and_pow}
use Rattle.std.proofs.lemmas.Grind.{and-not_self}
use Rattle.std.proofs.Math.Nat.{pow-le-pow_right, mod-eq_of_lt, mul-le-mul_right}
use Rattle.pv_word.specs.declared.types.Ty.{Ty}
use Rattle.pv_word.specs.declared.types.Ty.TheVariants.{Bool, Byte}
use Rattle.pv_word.specs.Range.{least_at, IsInRange}
use Rattle.pv_word.specs.Types.{width_of, is_signed_of, InRange, wrap_of, pattern_of, bit_of, or_of}
use Rattle.pv_word.proofs.ForCallers.{wide, wrap-own, wrap-in_range, pattern-lt, pattern-pos, pattern-wrap, pattern-not_negative}
use Rattle.pv_mean.specs.Frames.{Frame, visible_value}
use Rattle.pv_mean.specs.Spots.{byte_in, number_of_bytes, with_bit}
use Rattle.pv_flow.specs.declared.op.UnaryOp.TheVariants.{Left, Right}
use Rattle.pv_flow.specs.declared.op.BinaryOp.TheVariants.{Or}
use Rattle.pv_flow.specs.Terms.{Term, variable, unary, binary, Valuation, value_of}
use Rattle.pv_terms.specs.Forms.{converted}
use Rattle.pv_terms.specs.Correct.{ConversionsHold}
use Rattle.pv_access.specs.Accesses.{left_by, right_by, bit_term, others_term, wide_bit, with_bit_term, byte_term, bytes_behind, pattern_type, pattern_term, bytes_term}
use Rattle.pv_access.specs.Correct.{AreBytes}

-- ---- numbers of types without a sign

pub plain_in_range : (ty : Ty) (n : ℕ) → is_signed_of ty ≡ false → n < 2 ^ width_of ty → InRange ty (pos n)
plain_in_range ty n plain lt =
    subst (λ s. IsInRange (width_of ty) s (pos n)) (sym plain) (record { from = omega (arith, ints); to = omega (arith, ints, lt) })

plain_above : (ty : Ty) (v : ℤ) → is_signed_of ty ≡ false → InRange ty v → pos 0 ≤ℤ v
plain_above ty v plain is = subst (λ s. least_at (width_of ty) s ≤ℤ v) plain is.from

pub plain_pattern : (ty : Ty) (v : ℤ) → is_signed_of ty ≡ false → InRange ty v → pos (pattern_of ty v) ≡ v
plain_pattern ty v plain is = pattern-not_negative (width_of ty) (is_signed_of ty) v (wide ty) is (plain_above ty v plain is)

pub plain_wrap : (ty : Ty) (n : ℕ) → is_signed_of ty ≡ false → wrap_of ty (pos n) ≡ pos (n % 2 ^ width_of ty)
plain_wrap ty n plain =
    sym (plain_pattern ty (wrap_of ty (pos n)) plain (wrap-in_range (width_of ty) (is_signed_of ty) (pos n) (wide ty)))
    ∙ ap pos (pattern-wrap (width_of ty) (is_signed_of ty) (pos n) (wide ty) ∙ pattern-pos (width_of ty) n)

plain_small : (ty : Ty) (n : ℕ) → is_signed_of ty ≡ false → n < 2 ^ width_of ty → wrap_of ty (pos n) ≡ pos n
plain_small ty n plain lt = wrap-own (wide ty) (plain_in_range ty n plain lt)

pub small_pattern : (ty : Ty) (n : ℕ) → n < 2 ^ width_of ty → pattern_of ty (pos n) ≡ n
small_pattern ty n lt = pattern-pos (width_of ty) n ∙ mod-eq_of_lt lt

-- ---- shifts

by_none : (m n : ℕ) → n ≡ 0 → m ≡ m / 2 ^ n
by_none m n e = one m ∙ ap (λ (k : ℕ). m / 2 ^ k) (sym e)
  where
    one : (m : ℕ) → m ≡ m / 1
    one m = omega arith

times_none : (m n : ℕ) → n ≡ 0 → m ≡ m * 2 ^ n
times_none m n e = one m ∙ ap (λ (k : ℕ). m * 2 ^ k) (sym e)
  where
    one : (m : ℕ) → m ≡ m * 1
    one m = omega arith

pub right_value : (w : Valuation) (ty : Ty) (n : ℕ) (t : Term) → is_signed_of ty ≡ false → InRange ty (value_of w t)
    → value_of w (right_by ty n t) ≡ pos (pattern_of ty (value_of w t) / 2 ^ n)
right_value w ty n t plain is = lead (n == 0) refl
  where
    lead : (b : Truth) → (n == 0) ≡ b → value_of w (if b then t else unary (Right n) ty t) ≡ pos (pattern_of ty (value_of w t) / 2 ^ n)
    lead true e = sym (plain_pattern ty (value_of w t) plain is) ∙ ap pos (by_none (pattern_of ty (value_of w t)) n (eqb-true n 0 e))
    lead false e =
        let less = shr_le (pattern_of ty (value_of w t)) n in
        let lt = pattern-lt (width_of ty) (value_of w t) in
        plain_small ty (pattern_of ty (value_of w t) / 2 ^ n) plain (omega (arith, less, lt))

longer : (m p : ℕ) → 0 < p → m ≤ m * p
longer m p some = let all = mul-le m 1 m p (omega arith) (omega (arith, some)) in omega (arith, all)

pub left_value : (w : Valuation) (ty : Ty) (n : ℕ) (t : Term) (m : ℕ) → is_signed_of ty ≡ false → value_of w t ≡ pos m
    → m * 2 ^ n < 2 ^ width_of ty → value_of w (left_by ty n t) ≡ pos (m * 2 ^ n)
left_value w ty n t m plain e lt = lead (n == 0) refl
  where
    lead : (b : Truth) → (n == 0) ≡ b → value_of w (if b then t else unary (Left n) ty t) ≡ pos (m * 2 ^ n)
    lead true f = e ∙ ap pos (times_none m n (eqb-true n 0 f))
    lead false f =
        let l = longer m (2 ^ n) (pow_pos n) in
        ap (λ (v : ℤ). wrap_of ty (pos (pattern_of ty v * 2 ^ n))) e
        ∙ ap (λ (k : ℕ). wrap_of ty (pos (k * 2 ^ n))) (small_pattern ty m (omega (arith, l, lt)))
        ∙ plain_small ty (m * 2 ^ n) plain lt

-- ---- parts of a pattern that have no bit in common

or_value : (w : Valuation) (ty : Ty) (s t : Term) (a b : ℕ) → is_signed_of ty ≡ false → value_of w s ≡ pos a → value_of w t ≡ pos b
    → bit_or a b ≡ a + b → a + b < 2 ^ width_of ty → value_of w (binary Or ty s t) ≡ pos (a + b)
or_value w ty s t a b plain p q apart lt =
    ap (λ (x : ℤ). or_of ty x (value_of w t)) p ∙ ap (λ (x : ℤ). or_of ty (pos a) x) q
    ∙ ap (λ (x : ℕ). wrap_of ty (pos (bit_or x (pattern_of ty (pos b))))) (small_pattern ty a (omega (arith, lt)))
    ∙ ap (λ (x : ℕ). wrap_of ty (pos (bit_or a x))) (small_pattern ty b (omega (arith, lt)))
    ∙ ap (λ (x : ℕ). wrap_of ty (pos x)) apart
    ∙ plain_small ty (a + b) plain lt

-- ---- bits

-- a BYTE's number, as one of another type
pub bit_value : ConversionsHold → (w : Valuation) (n b : ℕ) → InRange Byte (w n)
    → value_of w (bit_term n b) ≡ pos (bit_of Byte (w n) b)
bit_value conv w n b is =
    let right = right_value w Byte b (variable n) refl is in
    conv w Byte Bool (right_by Byte b (variable n)) (subst (λ v. InRange Byte v) (sym right) (fits b))
    ∙ ap (λ (v : ℤ). wrap_of Bool v) right
    ∙ plain_wrap Bool (pattern_of Byte (w n) / 2 ^ b) refl
  where
    fits : (b : ℕ) → InRange Byte (pos (pattern_of Byte (w n) / 2 ^ b))
    fits b =
        let less = shr_le (pattern_of Byte (w n)) b in
        let lt = pattern-lt 8 (w n) in
        plain_in_range Byte (pattern_of Byte (w n) / 2 ^ b) refl (omega (arith, less, lt))

weight_small : (b : ℕ) → b < 8 → 2 ^ b ≤ 2 ^ 7
weight_small b few = pow-le-pow_right (omega arith) {i = b} {j = 7} (omega arith)

-- without its bit b
cleared : (byte b : ℕ) → byte < 256 → b < 8 → bit_and byte (255 - 2 ^ b) ≡ byte - byte / 2 ^ b % 2 * 2 ^ b
cleared byte b small few =
    let most = weight_small b few in
    let whole = and-not 8 (2 ^ b) byte (omega (arith, most)) small in
    let own = and_comm (2 ^ b) byte ∙ and_pow byte b in
    let turned = and_comm byte (255 - 2 ^ b) in
    turned ∙ rest (bit_and (255 - 2 ^ b) byte) (bit_and (2 ^ b) byte) (byte / 2 ^ b % 2 * 2 ^ b) whole own
  where
    rest : (x y z : ℕ) → x + y ≡ byte → y ≡ z → x ≡ byte - z
    rest x y z e f = omega (arith, e, f)

apart : (byte b value : ℕ) → b < 8 → value ≤ 1 → bit_and (bit_and byte (255 - 2 ^ b)) (value * 2 ^ b) ≡ 0
apart byte b zero few one =
    let le = and_le_r (bit_and byte (255 - 2 ^ b)) 0 in
    ap (λ (m : ℕ). bit_and (bit_and byte (255 - 2 ^ b)) m) (nothing (2 ^ b)) ∙ none (bit_and (bit_and byte (255 - 2 ^ b)) 0) le
  where
    nothing : (m : ℕ) → 0 * m ≡ 0
    nothing m = omega arith

    none : (m : ℕ) → m ≤ 0 → m ≡ 0
    none m le = omega (arith, le)
apart byte b (suc zero) few one =
    let most = weight_small b few in
    ap (λ (m : ℕ). bit_and (bit_and byte (255 - 2 ^ b)) m) (once (2 ^ b))
    ∙ and-not_self byte 255 (2 ^ b) (2 ^ b) refl (omega (arith, most)) refl
  where
    once : (m : ℕ) → suc zero * m ≡ m
    once m = omega arith
apart byte b (suc (suc v)) few one = absurd (omega (arith, one))

with_bit_joined : (byte b value : ℕ) → byte < 256 → b < 8 → value ≤ 1
    → bit_or (bit_and byte (255 - 2 ^ b)) (value * 2 ^ b) ≡ with_bit byte b value
with_bit_joined byte b value small few one =
    or_disjoint (bit_and byte (255 - 2 ^ b)) (value * 2 ^ b) (apart byte b value few one)
    ∙ ap (λ (m : ℕ). m + value * 2 ^ b) (cleared byte b small few)

others_value : (w : Valuation) (n b : ℕ) → b < 8 → value_of w (others_term n b) ≡ pos (bit_and (pattern_of Byte (w n)) (255 - 2 ^ b))
others_value w n b few =
    let most = weight_small b few in
    let le = and_le_r (pattern_of Byte (w n)) (255 - 2 ^ b) in
    ap (λ (v : ℤ). wrap_of Byte (pos (bit_and (pattern_of Byte (w n)) (pattern_of Byte v)))) (mask (2 ^ b) (omega (arith, most)))
    ∙ ap (λ (x : ℕ). wrap_of Byte (pos (bit_and (pattern_of Byte (w n)) x))) (small_pattern Byte (255 - 2 ^ b) (omega arith))
    ∙ plain_small Byte (bit_and (pattern_of Byte (w n)) (255 - 2 ^ b)) refl (omega (arith, le))
  where
    mask : (m : ℕ) → m ≤ 255 → pos 255 -ℤ pos m ≡ pos (255 - m)
    mask m le = omega (arith, ints, le)

placed_value : ConversionsHold → (w : Valuation) (b : ℕ) (t : Term) → b < 8 → InRange Bool (value_of w t)
    → value_of w (left_by Byte b (wide_bit t)) ≡ pos (pattern_of Bool (value_of w t) * 2 ^ b)
placed_value conv w b t few is =
    let most = weight_small b few in
    let lt = pattern-lt 1 (value_of w t) in
    let room = mul-le (pattern_of Bool (value_of w t)) (2 ^ b) 1 (2 ^ 7) (omega (arith, lt)) most in
    left_value w Byte b (wide_bit t) (pattern_of Bool (value_of w t)) refl
    (conv w Bool Byte t is
    ∙ sym (ap (λ (v : ℤ). wrap_of Byte v) (plain_pattern Bool (value_of w t) refl is))
    ∙ plain_small Byte (pattern_of Bool (value_of w t)) refl (omega (arith, lt)))
    (omega (arith, room))

pub with_bit_value : ConversionsHold → (w : Valuation) (n b : ℕ) (t : Term) → b < 8 → InRange Bool (value_of w t)
    → value_of w (with_bit_term n b t) ≡ pos (with_bit (pattern_of Byte (w n)) b (pattern_of Bool (value_of w t)))
with_bit_value conv w n b t few bit =
    ap (λ (x : ℤ). or_of Byte x (value_of w (left_by Byte b (wide_bit t)))) (others_value w n b few)
    ∙ ap (λ (x : ℤ). or_of Byte (pos (bit_and byte (255 - 2 ^ b))) x) (placed_value conv w b t few bit)
    ∙ ap (λ (x : ℕ). wrap_of Byte (pos (bit_or x (pattern_of Byte (pos (value * 2 ^ b)))))) (small_pattern Byte (bit_and byte (255 - 2 ^ b)) left)
    ∙ ap (λ (x : ℕ). wrap_of Byte (pos (bit_or (bit_and byte (255 - 2 ^ b)) x))) (small_pattern Byte (value * 2 ^ b) right)
    ∙ plain_small Byte (bit_or (bit_and byte (255 - 2 ^ b)) (value * 2 ^ b)) refl (or_lt 8 (bit_and byte (255 - 2 ^ b)) (value * 2 ^ b) left right)
    ∙ ap pos (with_bit_joined byte b value (pattern-lt 8 (w n)) few one)
  where
    byte : ℕ
    byte = pattern_of Byte (w n)

    value : ℕ
    value = pattern_of Bool (value_of w t)

    one : value ≤ 1
    one = let lt = pattern-lt 1 (value_of w t) in omega (arith, lt)

    left : bit_and byte (255 - 2 ^ b) < 2 ^ 8
    left = let le = and_le_r byte (255 - 2 ^ b) in omega (arith, le)

    right : value * 2 ^ b < 2 ^ 8
    right = let room = mul-le value (2 ^ b) 1 (2 ^ 7) one (weight_small b few) in omega (arith, room)

-- ---- bytes

weight : (k : ℕ) → 256 ^ k ≡ 2 ^ (8 * k)
weight zero = refl
weight (suc k) =
    let first = pow-add 256 k 1 in
    let second = pow-add 2 (8 * k) 8 in
    ap (λ (n : ℕ). 256 ^ n) (next k) ∙ both (256 ^ (k + 1)) (256 ^ k) (2 ^ (8 * k + 8)) (2 ^ (8 * k)) first second (weight k)
    ∙ ap (λ (n : ℕ). 2 ^ n) (eight k)
  where
    next : (k : ℕ) → suc k ≡ k + 1
    next k = omega arith

    eight : (k : ℕ) → 8 * k + 8 ≡ 8 * suc k
    eight k = omega arith

    both : (a b x y : ℕ) → a ≡ b * 256 ^ 1 → x ≡ y * 2 ^ 8 → b ≡ y → a ≡ x
    both a b x y e f g = omega (arith, e, f, g)

weight_next : (k : ℕ) → 256 ^ suc k ≡ 256 * 256 ^ k
weight_next k =
    let next : suc k ≡ k + 1 = omega arith in
    ap (λ n. 256 ^ n) next ∙ (let e = pow-add 256 k 1 in omega (arith, e))

weight_some : (k : ℕ) → 0 < 256 ^ k
weight_some k =
    let least : 256 ^ 0 ≤ 256 ^ k = pow-le-pow_right (omega arith) {i = 0} {j = k} (omega arith) in
    omega arith

-- the byte in variable n, so many bytes from the lowest
byte_value : ConversionsHold → (w : Valuation) (ty : Ty) (n k : ℕ) → is_signed_of ty ≡ false → InRange Byte (w n)
    → pattern_of Byte (w n) * 256 ^ k < 2 ^ width_of ty
    → value_of w (byte_term ty n k) ≡ pos (pattern_of Byte (w n) * 256 ^ k)
byte_value conv w ty n k plain is lt =
    let all = longer (pattern_of Byte (w n)) (256 ^ k) (weight_some k) in
    left_value w ty (8 * k) (converted Byte ty (variable n)) (pattern_of Byte (w n)) plain
    (conv w Byte ty (variable n) is
    ∙ sym (ap (λ (v : ℤ). wrap_of ty v) (plain_pattern Byte (w n) refl is))
    ∙ plain_small ty (pattern_of Byte (w n)) plain (omega (arith, lt, all)))
    (subst (λ (p : ℕ). pattern_of Byte (w n) * p < 2 ^ width_of ty) (weight k) lt)
    ∙ ap (λ (p : ℕ). pos (pattern_of Byte (w n) * p)) (sym (weight k))

-- those from one on are those from the next on
next_bytes : (frame : Frame) (w : Valuation) (n m count : ℕ) → AreBytes frame w n m (suc count) → AreBytes frame w (suc n) (m + 1) count
next_bytes frame w n m count are = λ k lt.
    let here = are (suc k) (omega (arith, lt)) in
    (ap w (over n k) ∙ here.0 ∙ ap (λ (x : ℕ). visible_value frame x) (sym (behind m k)), subst (λ (x : ℕ). InRange Byte (w x)) (sym (over n k)) here.1)
  where
    over : (n k : ℕ) → suc n + k ≡ n + suc k
    over n k = omega arith

    behind : (m k : ℕ) → m + 1 + k ≡ m + suc k
    behind m k = omega arith

-- the first of them
first_byte : (frame : Frame) (w : Valuation) (n m count : ℕ) → AreBytes frame w n m (suc count)
    → (pattern_of Byte (w n) ≡ byte_in frame m) × InRange Byte (w n)
first_byte frame w n m count are =
    let here = are 0 (omega arith) in (
      ap (λ (x : ℕ). pattern_of Byte (w x)) (sym (none n)) ∙ ap (λ (v : ℤ). pattern_of Byte v) here.0 ∙ ap (λ (x : ℕ). byte_in frame x) (none m),
      subst (λ (x : ℕ). InRange Byte (w x)) (none n) here.1,
    )
  where
    none : (n : ℕ) → n + 0 ≡ n
    none n = omega arith

joined : (before byte p q : ℕ) → q ≡ 256 * p → before * q + byte * p ≡ (before * 256 + byte) * p
joined before byte p q e = subst (λ (x : ℕ). before * x + byte * p ≡ (before * 256 + byte) * p) (sym e) (omega arith)

room : (before byte p q most : ℕ) → q ≡ 256 * p → byte < 256 → (before + 1) * q ≤ most → (before * 256 + byte + 1) * p ≤ most
room before byte p q most e lt le =
    let part : (byte + 1) * p ≤ 256 * p = mul-le-mul_right p (omega (arith, lt)) in
    let whole : (before + 1) * (256 * p) ≤ most = subst (λ (x : ℕ). (before + 1) * x ≤ most) e le in
    omega (arith, part, whole)

below : (a p most : ℕ) → 0 < p → (a + 1) * p ≤ most → a * p < most
below a p most some le = omega (arith, some, le)

less_byte : (byte p : ℕ) → byte < 256 → 0 < p → byte * p < 256 * p
less_byte byte p lt some =
    let part : (byte + 1) * p ≤ 256 * p = mul-le-mul_right p (omega (arith, lt)) in
    omega (arith, part, some)

-- the next byte has no bit in common with those before it
apart_bytes : (before byte count : ℕ) → byte < 256
    → bit_or (before * 256 ^ suc count) (byte * 256 ^ count) ≡ before * 256 ^ suc count + byte * 256 ^ count
apart_bytes before byte count lt =
    subst (λ (q : ℕ). bit_or (before * q) (byte * 256 ^ count) ≡ before * q + byte * 256 ^ count) (sym (weight (suc count)))
    (or_shifted before (8 * suc count) (byte * 256 ^ count)
    (subst (λ (q : ℕ). byte * 256 ^ count < q) (sym (weight_next count) ∙ weight (suc count)) (less_byte byte (256 ^ count) lt (weight_some count))))

part_below : (before byte p most : ℕ) → (before * 256 + byte) * p < most → byte * p < most
part_below before byte p most lt = omega (arith, lt)

-- behind the pattern of those before
behind_value : ConversionsHold → (w : Valuation) (frame : Frame) (ty : Ty) → is_signed_of ty ≡ false
    → (count n m : ℕ) (t : Term) (before : ℕ) → value_of w t ≡ pos (before * 256 ^ count)
    → (before + 1) * 256 ^ count ≤ 2 ^ width_of ty → AreBytes frame w n m count
    → value_of w (bytes_behind ty n count t) ≡ pos (number_of_bytes frame m count before)
behind_value conv w frame ty plain zero n m t before e le are = e ∙ ap pos (one before)
  where
    one : (m : ℕ) → m * 1 ≡ m
    one m = omega arith
behind_value conv w frame ty plain (suc count) n m t before e le are =
    let first = first_byte frame w n m count are in
    let lt = pattern-lt 8 (w n) in
    let fits = room before (pattern_of Byte (w n)) (256 ^ count) (256 ^ suc count) (2 ^ width_of ty) (weight_next count) lt le in
    let whole = below (before * 256 + pattern_of Byte (w n)) (256 ^ count) (2 ^ width_of ty) (weight_some count) fits in
    let sum = joined before (pattern_of Byte (w n)) (256 ^ count) (256 ^ suc count) (weight_next count) in
    behind_value conv w frame ty plain count (suc n) (m + 1) (binary Or ty t (byte_term ty n count)) (before * 256 + pattern_of Byte (w n))
    (or_value w ty t (byte_term ty n count) (before * 256 ^ suc count) (pattern_of Byte (w n) * 256 ^ count) plain e
    (byte_value conv w ty n count plain first.1 (part_below before (pattern_of Byte (w n)) (256 ^ count) (2 ^ width_of ty) whole))
    (apart_bytes before (pattern_of Byte (w n)) count lt)
    (subst (λ (x : ℕ). x < 2 ^ width_of ty) (sym sum) whole)
    ∙ ap pos sum)
    fits (next_bytes frame w n m count are)
    ∙ ap (λ (x : ℕ). pos (number_of_bytes frame (m + 1) count (before * 256 + x))) first.0

-- a pattern's type has the bits of so many bytes
wide_enough : (count : ℕ) → count ≤ 4 → (is_signed_of (pattern_type count) ≡ false) × (2 ^ (8 * count) ≤ 2 ^ width_of (pattern_type count))
wide_enough zero le = (refl, omega arith)
wide_enough (suc zero) le = (refl, omega arith)
wide_enough (suc (suc zero)) le = (refl, omega arith)
wide_enough (suc (suc (suc zero))) le = (refl, omega arith)
wide_enough (suc (suc (suc (suc zero)))) le = (refl, omega arith)
wide_enough (suc (suc (suc (suc (suc k))))) le = absurd (omega (arith, le))

pattern_value : ConversionsHold → (w : Valuation) (frame : Frame) (ty : Ty) → is_signed_of ty ≡ false
    → (count n m : ℕ) → 2 ^ (8 * count) ≤ 2 ^ width_of ty → AreBytes frame w n m count
    → value_of w (pattern_term ty n count) ≡ pos (number_of_bytes frame m count 0)
pattern_value conv w frame ty plain zero n m le are = refl
pattern_value conv w frame ty plain (suc count) n m le are =
    let first = first_byte frame w n m count are in
    let lt = pattern-lt 8 (w n) in
    let most = subst (λ (q : ℕ). q ≤ 2 ^ width_of ty) (sym (weight (suc count)) ∙ weight_next count) le in
    let fits = part (pattern_of Byte (w n)) (256 ^ count) (2 ^ width_of ty) lt most in
    behind_value conv w frame ty plain count (suc n) (m + 1) (byte_term ty n count) (pattern_of Byte (w n))
    (byte_value conv w ty n count plain first.1 (below (pattern_of Byte (w n)) (256 ^ count) (2 ^ width_of ty) (weight_some count) fits))
    fits (next_bytes frame w n m count are)
    ∙ ap (λ (x : ℕ). pos (number_of_bytes frame (m + 1) count x)) (first.0 ∙ none (byte_in frame m))
  where
    none : (x : ℕ) → x ≡ 0 * 256 + x
    none x = omega arith

    part : (byte p most : ℕ) → byte < 256 → 256 * p ≤ most → (byte + 1) * p ≤ most
    part byte p most lt le = let all : (byte + 1) * p ≤ 256 * p = mul-le-mul_right p (omega (arith, lt)) in omega (arith, all, le)

-- the number of so many bytes has their bits alone
number_below : (frame : Frame) (count m before : ℕ) → number_of_bytes frame m count before < (before + 1) * 256 ^ count
number_below frame zero m before = one before
  where
    one : (x : ℕ) → x < (x + 1) * 1
    one x = omega arith
number_below frame (suc count) m before =
    let lt = pattern-lt 8 (visible_value frame m) in
    let rest = number_below frame count (m + 1) (before * 256 + byte_in frame m) in
    let le = room before (byte_in frame m) (256 ^ count) (256 ^ suc count) ((before + 1) * 256 ^ suc count) (weight_next count) lt (same ((before + 1) * 256 ^ suc count)) in
    omega (arith, rest, le)
  where
    same : (x : ℕ) → x ≤ x
    same x = omega arith

pub bytes_value : ConversionsHold → (w : Valuation) (frame : Frame) (ty : Ty) (n m count : ℕ) → count ≤ 4 → AreBytes frame w n m count
    → value_of w (bytes_term ty n count) ≡ wrap_of ty (pos (number_of_bytes frame m count 0))
bytes_value conv w frame ty n m count few are =
    let wide = wide_enough count few in
    let is = pattern_value conv w frame (pattern_type count) wide.0 count n m wide.1 are in
    let lt = number_below frame count m 0 in
    let all = weight count in
    conv w (pattern_type count) ty (pattern_term (pattern_type count) n count)
    (subst (λ (v : ℤ). InRange (pattern_type count) v) (sym is)
    (plain_in_range (pattern_type count) (number_of_bytes frame m count 0) wide.0
    (fits (number_of_bytes frame m count 0) (256 ^ count) (2 ^ (8 * count)) (2 ^ width_of (pattern_type count)) lt all wide.1)))
    ∙ ap (λ (v : ℤ). wrap_of ty v) is
  where
    fits : (x p q most : ℕ) → x < (0 + 1) * p → p ≡ q → q ≤ most → x < most
    fits x p q most a b c = omega (arith, a, b, c)

-- the byte of a pattern that is so many bytes from the lowest
pub byte_put : ConversionsHold → (w : Valuation) (ty : Ty) (k : ℕ) (t : Term) → is_signed_of ty ≡ false → InRange ty (value_of w t)
    → value_of w (converted ty Byte (right_by ty (8 * k) t)) ≡ pos (pattern_of ty (value_of w t) / 256 ^ k % 256)
byte_put conv w ty k t plain is =
    let right = right_value w ty (8 * k) t plain is in
    let less = shr_le (pattern_of ty (value_of w t)) (8 * k) in
    let lt = pattern-lt (width_of ty) (value_of w t) in
    conv w ty Byte (right_by ty (8 * k) t)
    (subst (λ (v : ℤ). InRange ty v) (sym right) (plain_in_range ty (pattern_of ty (value_of w t) / 2 ^ (8 * k)) plain (omega (arith, less, lt))))
    ∙ ap (λ (v : ℤ). wrap_of Byte v) right
    ∙ plain_wrap Byte (pattern_of ty (value_of w t) / 2 ^ (8 * k)) refl
    ∙ ap (λ (p : ℕ). pos (pattern_of ty (value_of w t) / p % 256)) (sym (weight k))
