-- No write takes a brief cell's value away, nor a brief cell.
use Rattle.std.proofs.Common.{◌≡◌, ◌≤◌, ℕ, zero, suc, ◌+◌, ℤ, pos, List, [], ◌∷◌, length, Bool as Truth, true, false, refl, sym, ap, subst}
use Rattle.std.specs.Prelude.{◌≢◌, ◌/◌, ◌%◌, ◌^◌, slice_index_or, slice_set, if◌then◌else◌, Option, Some, None}
use Rattle.std.proofs.lemmas.List.{length-set}
use Rattle.std.proofs.lemmas.Option.{none-some}
use Rattle.pv_word.specs.Types.{wrap_of}
use Rattle.pv_mean.specs.Sources.{Source}
use Rattle.pv_mean.specs.Frames.{Frame, brief_value, with_visible}
use Rattle.pv_mean.specs.Spots.{Spot, visible, brief, bit, bytes, fixed, nowhere, with_bytes, write_spot}
use Rattle.pv_mean.specs.Activations.{Activation}
use Rattle.pv_laws_lower.specs.Agrees.{named_count, HasBriefCells}

set_stays : (n j : ℕ) (xs : List (Option ℤ)) (v : ℤ) → slice_index_or xs j None ≢ None
    → slice_index_or (slice_set xs n (Some v)) j None ≢ None
set_stays n j [] v is = is
set_stays zero zero (x ∷ xs) v is = λ e. none-some v (sym e)
set_stays zero (suc j) (x ∷ xs) v is = is
set_stays (suc n) zero (x ∷ xs) v is = is
set_stays (suc n) (suc j) (x ∷ xs) v is = set_stays n j xs v is

bytes_stay : (source : Source) (frame : Frame) (n count number j : ℕ) → brief_value frame j ≢ None
    → brief_value (with_bytes source frame n count number) j ≢ None
bytes_stay source frame n zero number j is = is
bytes_stay source frame n (suc count) number j is =
    bytes_stay source (with_visible source frame n (pos (number / 256 ^ count % 256))) (n + 1) count number j is

pub stays : (source : Source) (frame : Frame) (spot : Spot) (v : ℤ) (j : ℕ) → brief_value frame j ≢ None
    → brief_value (write_spot source frame spot v) j ≢ None
stays source frame (visible n) v j is = is
stays source frame (brief ty n) v j is = set_stays n j frame.brief (wrap_of ty v) is
stays source frame (bit n b) v j is = is
stays source frame (bytes ty n count) v j is = bytes_stay source frame n count _ j is
stays source frame (fixed u) v j is = is
stays source frame nowhere v j is = is

-- ---- how many there are

bytes_leave : (source : Source) (frame : Frame) (n count number : ℕ) → (with_bytes source frame n count number).brief ≡ frame.brief
bytes_leave source frame n zero number = refl
bytes_leave source frame n (suc count) number =
    bytes_leave source (with_visible source frame n (pos (number / 256 ^ count % 256))) (n + 1) count number

as_many : (source : Source) (frame : Frame) (spot : Spot) (v : ℤ) → length frame.brief ≡ length (write_spot source frame spot v).brief
as_many source frame (visible n) v = refl
as_many source frame (brief ty n) v = sym (length-set frame.brief n (Some (wrap_of ty v)))
as_many source frame (bit n b) v = refl
as_many source frame (bytes ty n count) v = sym (ap length (bytes_leave source frame n count _))
as_many source frame (fixed u) v = refl
as_many source frame nowhere v = refl

pub cells_stay : (source : Source) (act : Activation) (frame : Frame) (spot : Spot) (v : ℤ) → HasBriefCells source act frame
    → HasBriefCells source act (write_spot source frame spot v)
cells_stay source act frame spot v h = subst (λ (n : ℕ). named_count source act.block ≤ n) (as_many source frame spot v) h

pub cells_stay_where : (source : Source) (act : Activation) (frame : Frame) (spot : Spot) (v : ℤ) (on : Truth) → HasBriefCells source act frame
    → HasBriefCells source act (if on then write_spot source frame spot v else frame)
cells_stay_where source act frame spot v true h = cells_stay source act frame spot v h
cells_stay_where source act frame spot v false h = h
