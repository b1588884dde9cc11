-- Writes by the types of visible cells are those of the definitions.
use Rattle.std.proofs.Common.{◌≡◌, ℕ, zero, suc, ◌+◌, ◌/◌, ◌%◌, ◌^◌, ℤ, pos, List, [], ◌∷◌, map, refl, sym, ◌∙◌, ap}
use Rattle.std.specs.Prelude.{slice_set, slice_index_or, Option}
use Rattle.pv_word.specs.declared.types.Ty.{Ty}
use Rattle.pv_word.specs.declared.types.Ty.TheVariants.{Bool, Byte, Dint}
use Rattle.pv_word.specs.Types.{wrap_of, pattern_of}
use Rattle.pv_mean.specs.declared.cell.Cell.{Cell}
use Rattle.pv_mean.specs.Sources.{Source}
use Rattle.pv_mean.specs.Frames.{Frame, visible_cells, type_of_visible, with_visible}
use Rattle.pv_mean.specs.Spots.{with_bit, with_bytes, write_spot}
use Rattle.pv_eval.specs.declared.node.Spot.{Spot}
use Rattle.pv_eval.specs.declared.node.Spot.TheVariants.{Visible, Bit, Bytes}
use Rattle.pv_eval.specs.Operands.{spot_of}
use Rattle.pv_eval.specs.Writes.{TypesOf, with_cell, with_byte_cells}

type_at : (cells : List Cell) (n : ℕ) → slice_index_or (map (λ c. c.ty) cells) n Dint ≡ type_of_visible cells n
type_at [] n = refl
type_at (c ∷ cs) zero = refl
type_at (c ∷ cs) (suc n) = type_at cs n

pub type_in : (source : Source) (types : List Ty) (n : ℕ) → TypesOf source types → slice_index_or types n Dint ≡ type_of_visible (visible_cells source.cells) n
type_in source types n h = ap (λ l. slice_index_or l n Dint) h.are ∙ type_at (visible_cells source.cells) n

pub written_visible : (source : Source) (types : List Ty) (visible : List ℤ) (brief : List (Option ℤ)) (n : ℕ) (v : ℤ) → TypesOf source types → with_visible source (record { visible = visible; brief = brief }) n v ≡ record { visible = with_cell types visible n v; brief = brief }
written_visible source types visible brief n v h = ap (λ ty. let f : Frame = record { visible = slice_set visible n (wrap_of ty v); brief = brief } in f) (sym (type_in source types n h))

pub written_bytes : (source : Source) (types : List Ty) (visible : List ℤ) (brief : List (Option ℤ)) (n count number : ℕ) → TypesOf source types → with_bytes source (record { visible = visible; brief = brief }) n count number ≡ record { visible = with_byte_cells types visible n count number; brief = brief }
written_bytes source types visible brief n zero number h = refl
written_bytes source types visible brief n (suc count) number h =
    ap (λ f. with_bytes source f (n + 1) count number) (written_visible source types visible brief n (pos (number / 256 ^ count % 256)) h)
    ∙ written_bytes source types (with_cell types visible n (pos (number / 256 ^ count % 256))) brief (n + 1) count number h

module _ (source : Source) (types : List Ty) (visible new : List ℤ) (brief : List (Option ℤ)) (spot : Spot) (v : ℤ) (h : TypesOf source types) where
  pub spot_visible : (n : ℕ) (w : ℤ) → spot ≡ Visible n → new ≡ with_cell types visible n w → w ≡ v → write_spot source (record { visible = visible; brief = brief }) (spot_of spot) v ≡ record { visible = new; brief = brief }
  spot_visible n w is grown e =
      ap (λ s. write_spot source (record { visible = visible; brief = brief }) (spot_of s) v) is
      ∙ written_visible source types visible brief n v h
      ∙ ap (λ l. let f : Frame = record { visible = l; brief = brief } in f) (sym (grown ∙ ap (with_cell types visible n) e))

  pub spot_bit : (n b : ℕ) (w : ℤ) → spot ≡ Bit n b → new ≡ with_cell types visible n w → w ≡ pos (with_bit (pattern_of Byte (slice_index_or visible n (pos 0))) b (pattern_of Bool v)) → write_spot source (record { visible = visible; brief = brief }) (spot_of spot) v ≡ record { visible = new; brief = brief }
  spot_bit n b w is grown e =
      ap (λ s. write_spot source (record { visible = visible; brief = brief }) (spot_of s) v) is
      ∙ written_visible source types visible brief n (pos (with_bit (pattern_of Byte (slice_index_or visible n (pos 0))) b (pattern_of Bool v))) h
      ∙ ap (λ l. let f : Frame = record { visible = l; brief = brief } in f) (sym (grown ∙ ap (with_cell types visible n) e))

  pub spot_bytes : (ty : Ty) (n count number : ℕ) → spot ≡ Bytes ty n count → new ≡ with_byte_cells types visible n count number → number ≡ pattern_of ty v → write_spot source (record { visible = visible; brief = brief }) (spot_of spot) v ≡ record { visible = new; brief = brief }
  spot_bytes ty n count number is grown e =
      ap (λ s. write_spot source (record { visible = visible; brief = brief }) (spot_of s) v) is
      ∙ written_bytes source types visible brief n count (pattern_of ty v) h
      ∙ ap (λ l. let f : Frame = record { visible = l; brief = brief } in f) (sym (grown ∙ ap (with_byte_cells types visible n count) e))
