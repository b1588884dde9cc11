-- A bit and the bytes of an area, as they are read behind a write.
use Rattle.std.proofs.Common.{◌≡◌, inl, ◌<◌, ◌≤◌, ℕ, zero, suc, ◌+◌, ◌*◌, ◌/◌, ◌%◌, ◌^◌, ℤ, pos, length, false, ap, sym, subst, ◌∙◌, arith}
use Rattle.std.proofs.lemmas.List.{length-set, get_or-set_same}
use Rattle.std.proofs.Math.Nat.{pow-le-pow_right, mod-eq_of_lt}
use Rattle.std.proofs.lemmas.Nat.{pow-add}
use Rattle.std.proofs.Math.Arith.{mod-mul}
use Rattle.std.proofs.lemmas.Int.{ints}
use Rattle.std.specs.Int.{bit_at}
use Rattle.pv_word.specs.declared.types.Ty.{Ty}
use Rattle.pv_word.specs.declared.types.Ty.TheVariants.{Bool as BoolTy, Byte, Word, Dword, Int, Dint, Time}
use Rattle.pv_word.specs.Types.{width_of, is_signed_of, InRange, wrap_of, pattern_of}
use Rattle.pv_word.proofs.ForCallers.{wide, wrap-own, wrap-congruent_same, pattern-lt, pattern-pos, pattern-wrap, pattern-congruent}
use Rattle.pv_place.specs.declared.place.Place.{Place}
use Rattle.pv_mean.specs.Sources.{Source}
use Rattle.pv_mean.specs.Frames.{Frame, visible_cells, type_of_visible, visible_value, with_visible}
use Rattle.pv_mean.specs.Endings.{got}
use Rattle.pv_mean.specs.Spots.{bit, bytes, byte_in, number_of_bytes, with_bytes, with_bit, read_spot, write_spot}
use Rattle.pv_mean.proofs.ForCallers.{bytes-miss}
use Rattle.pv_laws_scans.specs.Areas.{AreBytes}

-- ---- a value and its bits

wrapped-pattern : (ty : Ty) (v : ℤ) → wrap_of ty (pos (pattern_of ty v)) ≡ wrap_of ty v
wrapped-pattern ty v = wrap-congruent_same (is_signed_of ty) (wide ty) (pattern-congruent (width_of ty) v)

pub own-value : (ty : Ty) (v : ℤ) → InRange ty v → wrap_of ty v ≡ v
own-value ty v is = wrap-own (wide ty) is

bit-wrapped : (v : ℤ) → pos (pattern_of BoolTy v) ≡ wrap_of BoolTy v
bit-wrapped v = sym (own-value BoolTy (pos (pattern_of BoolTy v)) (small (pattern_of BoolTy v) (pattern-lt 1 v))) ∙ wrapped-pattern BoolTy v
  where
    small : (n : ℕ) → n < 2 ^ 1 → InRange BoolTy (pos n)
    small n lt = record { from = omega (arith, ints); to = omega (arith, ints) }

-- ---- bits

bit-set : (b byte value : ℕ) → b < 8 → byte < 256 → value < 2 → bit_at (with_bit byte b value % 256) b ≡ value
bit-set zero byte value few small one = omega arith
bit-set (suc zero) byte value few small one = omega arith
bit-set (suc (suc zero)) byte value few small one = omega arith
bit-set (suc (suc (suc zero))) byte value few small one = omega arith
bit-set (suc (suc (suc (suc zero)))) byte value few small one = omega arith
bit-set (suc (suc (suc (suc (suc zero))))) byte value few small one = omega arith
bit-set (suc (suc (suc (suc (suc (suc zero)))))) byte value few small one = omega arith
bit-set (suc (suc (suc (suc (suc (suc (suc zero))))))) byte value few small one = omega arith
bit-set (suc (suc (suc (suc (suc (suc (suc (suc b)))))))) byte value few small one = absurd (omega arith)

-- the byte that a cell of a byte has behind a write
byte-written : (source : Source) (frame : Frame) (n m : ℕ) → n < length frame.visible
    → type_of_visible (visible_cells source.cells) n ≡ Byte → byte_in (with_visible source frame n (pos m)) n ≡ m % 256
byte-written source frame n m within is =
    ap (λ v. pattern_of Byte v) (get_or-set_same frame.visible n _ (pos 0) within)
    ∙ (ap (λ ty. pattern_of Byte (wrap_of ty (pos m))) is ∙ (pattern-wrap 8 false (pos m) (omega arith) ∙ pattern-pos 8 m))

pub bit-read : (source : Source) (frame : Frame) (n b : ℕ) (v : ℤ) (place : Place) → n < length frame.visible
    → type_of_visible (visible_cells source.cells) n ≡ Byte → b < 8
    → read_spot (write_spot source frame (bit n b) v) place (bit n b) ≡ got (wrap_of BoolTy v)
bit-read source frame n b v place within is few =
    ap (λ m. got (pos (bit_at m b)))
    (byte-written source frame n (with_bit (byte_in frame n) b (pattern_of BoolTy v)) within is)
    ∙ (ap (λ m. got (pos m)) (bit-set b (byte_in frame n) (pattern_of BoolTy v) few (pattern-lt 8 (visible_value frame n)) (pattern-lt 1 v))
    ∙ ap got (bit-wrapped v))

-- ---- bytes

weight-some : (k : ℕ) → 0 < 256 ^ k
weight-some k =
    let least : 256 ^ 0 ≤ 256 ^ k = pow-le-pow_right (omega arith) {i = 0} {j = k} (omega arith) in
    omega arith

weight-next : (k : ℕ) → 256 ^ suc k ≡ 256 * 256 ^ k
weight-next k =
    let next : suc k ≡ k + 1 = omega arith in
    ap (λ n. 256 ^ n) next ∙ (let e = pow-add 256 k 1 in omega (arith, e))

one-more : (before byte p r low : ℕ) → low ≡ byte * p + r → (before * 256 + byte) * p + r ≡ before * (256 * p) + low
one-more before byte p r low e = omega (arith, e)

bytes-written : (source : Source) (count : ℕ) (frame : Frame) (n number before : ℕ) → n + count ≤ length frame.visible
    → AreBytes source n count
    → number_of_bytes (with_bytes source frame n count number) n count before ≡ before * 256 ^ count + number % 256 ^ count
bytes-written source zero frame n number before within are = omega arith
bytes-written source (suc count) frame n number before within are =
    ap (λ b. number_of_bytes (with_bytes source next (n + 1) count number) (n + 1) count (before * 256 + b)) byte
    ∙ (bytes-written source count next (n + 1) number (before * 256 + number / 256 ^ count % 256) room
    (λ k lt. ap (λ m. type_of_visible (visible_cells source.cells) m) (shift k) ∙ are (suc k) (omega arith))
    ∙ (one-more before (number / 256 ^ count % 256) (256 ^ count) (number % 256 ^ count) (number % (256 * 256 ^ count))
    (mod-mul number (omega arith) (weight-some count))
    ∙ ap (λ p. before * p + number % p) (sym (weight-next count))))
  where
    next : Frame
    next = with_visible source frame n (pos (number / 256 ^ count % 256))

    shift : (k : ℕ) → n + 1 + k ≡ n + suc k
    shift k = omega arith

    first : type_of_visible (visible_cells source.cells) n ≡ Byte
    first = let e : n ≡ n + 0 = omega arith in ap (λ m. type_of_visible (visible_cells source.cells) m) e ∙ are 0 (omega arith)

    small : (m : ℕ) → m % 256 % 256 ≡ m % 256
    small m = omega arith

    byte : byte_in (with_bytes source next (n + 1) count number) n ≡ number / 256 ^ count % 256
    byte = ap (λ v. pattern_of Byte v) (bytes-miss source n count (n + 1) number next (inl (omega arith)))
        ∙ (byte-written source frame n (number / 256 ^ count % 256) (omega arith) first ∙ small (number / 256 ^ count))

    room : n + 1 + count ≤ length next.visible
    room = let e : length next.visible ≡ length frame.visible = length-set frame.visible n _ in omega (arith, e)

room_of : (ty : Ty) (count : ℕ) → 8 * count ≡ width_of ty → 2 ^ width_of ty ≡ 256 ^ count
room_of BoolTy count is = absurd (omega arith)
room_of Byte count is = let e : count ≡ 1 = omega arith in ap (λ k. 256 ^ k) (sym e)
room_of Word count is = let e : count ≡ 2 = omega arith in ap (λ k. 256 ^ k) (sym e)
room_of Dword count is = let e : count ≡ 4 = omega arith in ap (λ k. 256 ^ k) (sym e)
room_of Int count is = let e : count ≡ 2 = omega arith in ap (λ k. 256 ^ k) (sym e)
room_of Dint count is = let e : count ≡ 4 = omega arith in ap (λ k. 256 ^ k) (sym e)
room_of Time count is = let e : count ≡ 4 = omega arith in ap (λ k. 256 ^ k) (sym e)

pub bytes-read : (source : Source) (frame : Frame) (ty : Ty) (n count : ℕ) (v : ℤ) (place : Place) → n + count ≤ length frame.visible
    → AreBytes source n count → 8 * count ≡ width_of ty
    → read_spot (write_spot source frame (bytes ty n count) v) place (bytes ty n count) ≡ got (wrap_of ty v)
bytes-read source frame ty n count v place within are wide_is =
    ap (λ m. got (wrap_of ty (pos m)))
    (bytes-written source count frame n (pattern_of ty v) 0 within are ∙ whole (pattern_of ty v) (256 ^ count) fits)
    ∙ ap got (wrapped-pattern ty v)
  where
    fits : pattern_of ty v < 256 ^ count
    fits = subst (λ (m : ℕ). pattern_of ty v < m) (room_of ty count wide_is) (pattern-lt (width_of ty) v)

    whole : (m p : ℕ) → m < p → 0 * p + m % p ≡ m
    whole m p lt = let e = mod-eq_of_lt lt in omega (arith, e)
