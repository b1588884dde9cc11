-- A FOR's variable takes the next count, also where the code hands on what is wrapped to 32 bits, as no type has more.
use Rattle.std.proofs.Common.{◌≡◌, ℕ, ◌*◌, ◌^◌, ℤ, pos, ◌+ℤ◌, true, Some, refl, sym, ap, ◌∙◌, arith}
use Rattle.std.specs.Prelude.{slice_set}
use Rattle.pv_word.specs.declared.types.Ty.{Ty}
use Rattle.pv_word.specs.declared.types.Ty.TheVariants.{Bool, Byte, Word, Dword, Int, Dint, Time}
use Rattle.pv_word.specs.Types.{width_of, is_signed_of, wrap_of}
use Rattle.pv_word.specs.Wrap.{IsCongruent}
use Rattle.pv_word.proofs.ForCallers.{wide, wrap-congruent, wrap-congruent_same, pattern-congruent_same}
use Rattle.pv_place.specs.declared.place.Place.{Place}
use Rattle.pv_mean.specs.Sources.{Source}
use Rattle.pv_mean.specs.Frames.{Frame, visible_cells, type_of_visible}
use Rattle.pv_mean.specs.Endings.{got, ended, end_of, and_then}
use Rattle.pv_mean.specs.Spots.{Spot, visible, brief, bit, bytes, fixed, nowhere, byte_in, with_bit, with_bytes, read_spot, write_spot}
use Rattle.pv_mean.specs.Frames.{with_visible}
use Rattle.pv_run.specs.Turns.{Stepped, for_step}

divisor : {m M : ℕ} (k : ℕ) {a b : ℤ} → M ≡ k * m → IsCongruent M a b → IsCongruent m a b
divisor {m} {M} k {a} {b} e c = record {
  left = c.left * k;
  right = c.right * k;
  equal = ap (λ n. a +ℤ pos n) (part c.left) ∙ c.equal ∙ ap (λ n. b +ℤ pos n) (sym (part c.right));
}
  where
    part : (x : ℕ) → x * k * m ≡ x * M
    part x = let f : x * M ≡ x * (k * m) = ap (λ y. x * y) e in omega (arith, f)

factor : Ty → ℕ
factor Bool = 2 ^ 31
factor Byte = 2 ^ 24
factor Word = 2 ^ 16
factor Dword = 1
factor Int = 2 ^ 16
factor Dint = 1
factor Time = 1

whole : (ty : Ty) → 2 ^ 32 ≡ factor ty * 2 ^ width_of ty
unfolding factor
whole Bool = refl
whole Byte = refl
whole Word = refl
whole Dword = refl
whole Int = refl
whole Dint = refl
whole Time = refl

narrow : (ty : Ty) (z : ℤ) → IsCongruent (2 ^ width_of ty) (wrap_of Dint z) z
narrow ty z = divisor (factor ty) (whole ty) (wrap-congruent 32 true z (omega arith))

write_wrapped : (source : Source) (frame : Frame) (spot : Spot) (z : ℤ)
    → write_spot source frame spot (wrap_of Dint z) ≡ write_spot source frame spot z
write_wrapped source frame (visible n) z =
    let ty = type_of_visible (visible_cells source.cells) n in
    ap (λ x. let f : Frame = record { visible = slice_set frame.visible n x; brief = frame.brief } in f)
    (wrap-congruent_same (is_signed_of ty) (wide ty) (narrow ty z))
write_wrapped source frame (brief ty n) z =
    ap (λ x. let f : Frame = record { visible = frame.visible; brief = slice_set frame.brief n (Some x) } in f)
    (wrap-congruent_same (is_signed_of ty) (wide ty) (narrow ty z))
write_wrapped source frame (bit n b) z =
    ap (λ x. with_visible source frame n (pos (with_bit (byte_in frame n) b x))) (pattern-congruent_same 1 (narrow Bool z))
write_wrapped source frame (bytes ty n count) z =
    ap (λ x. with_bytes source frame n count x) (pattern-congruent_same (width_of ty) (narrow ty z))
write_wrapped source frame (fixed v) z = refl
write_wrapped source frame nowhere z = refl

pub stepped : (source : Source) (place : Place) (by v n w : ℤ) (spot : Spot) (frame after : Frame) → got v ≡ read_spot frame place spot
    → n ≡ v +ℤ by → w ≡ wrap_of Dint n → write_spot source frame spot w ≡ after
    → ended (record { count = n; frame = after }) ≡ end_of (for_step source place by spot frame)
stepped source place by v n w spot frame after r e f p =
    let wrote : after ≡ write_spot source frame spot (v +ℤ by) =
    sym p ∙ ap (λ x. write_spot source frame spot x) f ∙ write_wrapped source frame spot n ∙ ap (λ x. write_spot source frame spot x) e in
    ap (λ x. let s : Stepped = record { count = x; frame = after } in ended s) e
    ∙ ap (λ x. let s : Stepped = record { count = v +ℤ by; frame = x } in ended s) wrote
    ∙ ap (λ t. end_of (and_then t (λ u. let s : Stepped = record {
      count = u +ℤ by;
      frame = write_spot source frame spot (u +ℤ by);
    } in got s))) r
