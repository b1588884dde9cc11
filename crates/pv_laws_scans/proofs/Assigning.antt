-- An assignment writes the expression's value to its target's spot.
use Rattle.std.proofs.Common.{◌≡◌, ◌<◌, ◌≤◌, ◌+◌, ◌*◌, ℕ, ℤ, pos, length, Some, None, ap, sym, subst, ◌∙◌}
use Rattle.std.proofs.lemmas.List.{get_or-set_same}
use Rattle.pv_word.specs.declared.types.Ty.{Ty}
use Rattle.pv_word.specs.declared.types.Ty.TheVariants.{Bool, Byte}
use Rattle.pv_word.specs.Types.{wrap_of, width_of}
use Rattle.pv_place.specs.declared.place.Place.{Place}
use Rattle.pv_tree.specs.Tree.{ExprTree, OperandTree, assign}
use Rattle.pv_mean.specs.Sources.{Source}
use Rattle.pv_mean.specs.Frames.{Frame, visible_cells, type_of_visible, visible_value, brief_value}
use Rattle.pv_mean.specs.Endings.{Tried, got, Value, normal, when_got}
use Rattle.pv_mean.specs.Spots.{Spot, visible, brief, bit, bytes, read_spot, write_spot}
use Rattle.pv_mean.specs.Activations.{Activation}
use Rattle.pv_mean.specs.Values.{value, locate}
use Rattle.pv_mean.specs.Statements.{Calls, store, run_stmt}
use Rattle.pv_mean.specs.Doings.{HoldsAt}
use Rattle.pv_laws_scans.specs.Areas.{AreBytes}
use Rattle.pv_laws_scans.proofs.Areas.{bit-read, bytes-read}

pub assigned : (source : Source) (calls : Calls) (act : Activation) (frame : Frame) (target : OperandTree) (place : Place) (e : ExprTree)
    (v : ℤ) (spot : Spot) → value source act frame e ≡ got v → locate source act frame target ≡ got spot
    → run_stmt source calls act (assign target place e) frame ≡ normal (write_spot source frame spot v)
assigned source calls act frame target place e v spot is at =
    ap (λ (x : Value). when_got x (λ w. store source act target frame w)) is
    ∙ ap (λ (x : Tried Spot). when_got x (λ s. normal (write_spot source frame s v))) at

-- what holds of the frame that is written holds of the one in which it ends
of_assigned : (P : Frame → Type 0) (source : Source) (calls : Calls) (act : Activation) (frame ended : Frame) (target : OperandTree)
    (place : Place) (e : ExprTree) (v : ℤ) (spot : Spot) → value source act frame e ≡ got v → locate source act frame target ≡ got spot
    → run_stmt source calls act (assign target place e) frame ≡ normal ended → P (write_spot source frame spot v) → P ended
of_assigned P source calls act frame ended target place e v spot is at ends holds =
    subst (HoldsAt P) (sym (assigned source calls act frame target place e v spot is at) ∙ ends) holds

pub visible-assigned : (source : Source) (calls : Calls) (act : Activation) (frame ended : Frame) (target : OperandTree) (place : Place)
    (e : ExprTree) (v : ℤ) (n : ℕ) → n < length frame.visible → value source act frame e ≡ got v
    → locate source act frame target ≡ got (visible n) → run_stmt source calls act (assign target place e) frame ≡ normal ended
    → visible_value ended n ≡ wrap_of (type_of_visible (visible_cells source.cells) n) v
visible-assigned source calls act frame ended target place e v n within is at ends =
    of_assigned (λ f. visible_value f n ≡ wrap_of (type_of_visible (visible_cells source.cells) n) v) source calls act frame ended target
    place e v (visible n) is at ends (get_or-set_same frame.visible n _ (pos 0) within)

pub brief-assigned : (source : Source) (calls : Calls) (act : Activation) (frame ended : Frame) (target : OperandTree) (place : Place)
    (e : ExprTree) (v : ℤ) (ty : Ty) (n : ℕ) → n < length frame.brief → value source act frame e ≡ got v
    → locate source act frame target ≡ got (brief ty n) → run_stmt source calls act (assign target place e) frame ≡ normal ended
    → brief_value ended n ≡ Some (wrap_of ty v)
brief-assigned source calls act frame ended target place e v ty n within is at ends =
    of_assigned (λ f. brief_value f n ≡ Some (wrap_of ty v)) source calls act frame ended target
    place e v (brief ty n) is at ends (get_or-set_same frame.brief n (Some (wrap_of ty v)) None within)

pub bit-assigned : (source : Source) (calls : Calls) (act : Activation) (frame ended : Frame) (target : OperandTree) (place at_read : Place)
    (e : ExprTree) (v : ℤ) (n b : ℕ) → n < length frame.visible → type_of_visible (visible_cells source.cells) n ≡ Byte → b < 8
    → value source act frame e ≡ got v → locate source act frame target ≡ got (bit n b)
    → run_stmt source calls act (assign target place e) frame ≡ normal ended → read_spot ended at_read (bit n b) ≡ got (wrap_of Bool v)
bit-assigned source calls act frame ended target place at_read e v n b within byte few is at ends =
    of_assigned (λ f. read_spot f at_read (bit n b) ≡ got (wrap_of Bool v)) source calls act frame ended target place e v (bit n b) is at ends
    (bit-read source frame n b v at_read within byte few)

pub bytes-assigned : (source : Source) (calls : Calls) (act : Activation) (frame ended : Frame) (target : OperandTree)
    (place at_read : Place) (e : ExprTree) (v : ℤ) (ty : Ty) (n count : ℕ) → n + count ≤ length frame.visible → AreBytes source n count
    → 8 * count ≡ width_of ty → value source act frame e ≡ got v → locate source act frame target ≡ got (bytes ty n count)
    → run_stmt source calls act (assign target place e) frame ≡ normal ended
    → read_spot ended at_read (bytes ty n count) ≡ got (wrap_of ty v)
bytes-assigned source calls act frame ended target place at_read e v ty n count within are wide is at ends =
    of_assigned (λ f. read_spot f at_read (bytes ty n count) ≡ got (wrap_of ty v)) source calls act frame ended target place e v
    (bytes ty n count) is at ends (bytes-read source frame ty n count v at_read within are wide)
