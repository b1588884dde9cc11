-- With what a stretch begins, and one scan over a frame.
use Rattle.std.proofs.Common.{◌≡◌, ℕ, ℤ, true, false, List, length, map, replicate, refl, ap, sym, subst, ◌∙◌}
use Rattle.std.proofs.lemmas.List.{length-map}
use Rattle.pv_place.specs.Ranges.{Range, AreWithin}
use Rattle.pv_stretch.specs.declared.ends.StretchStart.{StretchStart}
use Rattle.pv_stretch.specs.declared.ends.StretchStart.TheVariants as from
use Rattle.pv_bool.specs.declared.program.Bit.{Bit}
use Rattle.pv_bool.specs.Tree.{AssignmentTree, ProgramTree}
use Rattle.pv_bool.specs.Scans.{Bits, state_len, start, state_of, input_of, run_body, scan_end}
use Rattle.pv_bool.specs.Machine.{bit_of, numbers_of, bits_of}
use Rattle.pv_bool.proofs.ForCallers.{length-within, numbers_of-bits_of, state_of-begin}
use Rattle.pv_valid.specs.declared.facts.Facts.{Facts}
use Rattle.pv_valid.specs.Cases.{range_between, Bounds}
use Rattle.pv_valid.specs.Starts.{IsStart, state_from}
use Rattle.pv_bool_judged.specs.Bounds.{bit_bounds}
use Rattle.pv_bool_judged.specs.Placing.{placed, IsFitting, begun_bits}
use Rattle.pv_bool_judged.specs.Cases.{case_of}
use Rattle.pv_bool_judged.specs.Sound.{ranges-are}
use Rattle.pv_bool_judged.proofs.Placed.{placed-input, placed-state, state-starts}

-- ---- starts

pub begun-params : (bits : List Bit) (s o : StretchStart) (frame : Bits) → s ≡ o → begun_bits bits o ≡ start bits
    → frame ≡ map (λ (b : Bit). b.start) bits → state_of bits frame ≡ begun_bits bits s
begun-params bits s o frame is begins e =
    ap (state_of bits) e ∙ state-starts bits ∙ sym begins ∙ sym (ap (begun_bits bits) is)

pub begun-image : (bits : List Bit) (s o : StretchStart) (values : List ℤ) (frame before : Bits) → s ≡ o → begun_bits bits o ≡ bits_of values
    → (IsFitting bits o → length values ≡ state_len bits) → IsFitting bits s → frame ≡ placed true bits (bits_of values) before
    → state_of bits frame ≡ begun_bits bits s
begun-image bits s o values frame before is begins long fits e =
    ap (state_of bits) (e ∙ placed-state bits (bits_of values) before)
    ∙ state_of-begin bits (bits_of values) (input_of bits before) (length-map values bit_of ∙ long (subst (IsFitting bits) is fits))
    ∙ sym begins ∙ sym (ap (begun_bits bits) is)

-- a start with its values in range
pub start-is : (program : ProgramTree) (facts : Facts) (gates : ℕ) (s : StretchStart)
    → facts.image ≡ replicate (state_len program.bits) bit_bounds → IsStart (case_of program facts gates) s
    → IsFitting program.bits s × (state_from (case_of program facts gates) s ≡ numbers_of (begun_bits program.bits s))
start-is program facts gates (from.Params params) image at = (tt, refl)
start-is program facts gates (from.Image values prev) image at =
    let within = subst (λ (rs : List Range). AreWithin rs values.now)
    (ap (λ (bs : List Bounds). map range_between bs) image ∙ ranges-are (state_len program.bits)) at.0 in
    (length-within (state_len program.bits) values.now within, sym (numbers_of-bits_of (state_len program.bits) values.now within))

-- ---- one scan

pub scan-ends : (program : ProgramTree) (input before begun end : Bits) (bits : List Bit) (body : List AssignmentTree) → bits ≡ program.bits
    → body ≡ program.body → begun ≡ placed false bits input before → end ≡ run_body body begun
    → end ≡ scan_end program (state_of program.bits before) input
scan-ends program input before begun end bits body is_bits is_body begins ends =
    ends
    ∙ ap (λ (b : List AssignmentTree). run_body b begun) is_body
    ∙ ap (run_body program.body) (begins ∙ ap (λ (bs : List Bit). placed false bs input before) is_bits ∙ placed-input program.bits input before)
