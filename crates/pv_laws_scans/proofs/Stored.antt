-- What an assignment writes is a value of its target's type, which the wrap leaves as it is.
use Rattle.std.proofs.Common.{◌≡◌, ◌<◌, ◌≤◌, ◌+◌, ◌*◌, ℕ, zero, suc, ℤ, List, [], ◌∷◌, map, length, Some, Contains, sym, ap, subst, ◌∙◌, arith}
use Rattle.std.specs.Prelude.{slice_get}
use Rattle.std.proofs.lemmas.Option.{none-some, same_Some}
use Rattle.pv_word.specs.declared.types.Ty.{Ty}
use Rattle.pv_word.specs.declared.types.Ty.TheVariants.{Bool, Byte}
use Rattle.pv_word.specs.Types.{InRange, wrap_of, width_of}
use Rattle.pv_place.specs.declared.place.Place.{Place}
use Rattle.pv_place.specs.Ranges.{range_of, AreWithin}
use Rattle.pv_tree.specs.Tree.{ExprTree, OperandTree, assign}
use Rattle.pv_tree.specs.Parts.{Spot as Statement, spots_of_body}
use Rattle.pv_mean.specs.declared.cell.Cell.{Cell}
use Rattle.pv_mean.specs.Sources.{Source}
use Rattle.pv_mean.specs.Frames.{Frame, visible_cells, type_of_visible, visible_value, brief_value}
use Rattle.pv_mean.specs.Endings.{got, normal}
use Rattle.pv_mean.specs.Spots.{Spot, visible, brief, bit, bytes, read_spot}
use Rattle.pv_mean.specs.Activations.{Activation}
use Rattle.pv_mean.specs.Values.{value, locate}
use Rattle.pv_mean.specs.Statements.{Calls, run_stmt}
use Rattle.pv_laws_types.specs.Typed.{types_of_cells, SpotHas, IsTyped}
use Rattle.pv_laws_scans.specs.Areas.{AreBytes}
use Rattle.pv_laws_scans.proofs.Areas.{own-value}
use Rattle.pv_laws_scans.proofs.Assigning.{visible-assigned, brief-assigned, bit-assigned, bytes-assigned}

type-there : (cells : List Cell) (n : ℕ) (ty : Ty) → slice_get (types_of_cells cells) n ≡ Some ty → type_of_visible cells n ≡ ty
type-there [] n ty e = absurd (none-some ty e)
type-there (c ∷ cs) zero ty e = same_Some c.ty ty e
type-there (c ∷ cs) (suc n) ty e = type-there cs n ty e

cell-there : (cells : List Cell) (values : List ℤ) (n : ℕ) (ty : Ty) → AreWithin (map (λ c. range_of c.ty) cells) values
    → slice_get (types_of_cells cells) n ≡ Some ty → n < length values
cell-there [] values n ty w e = absurd (none-some ty e)
cell-there (c ∷ cs) [] n ty w e = absurd w
cell-there (c ∷ cs) (v ∷ vs) zero ty w e = omega arith
cell-there (c ∷ cs) (v ∷ vs) (suc n) ty w e = let l = cell-there cs vs n ty w.1 e in omega (arith, l)

-- what the law on assigned values says
abbrev pub Lies : Type 0
Lies = (source : Source) (act : Activation) (frame : Frame) (target : OperandTree) (place : Place) (e : ExprTree) (statement : Statement)
    (v : ℤ) (spot : Spot) → IsTyped source act frame → Contains (spots_of_body act.block.body) statement
    → statement.stmt ≡ assign target place e → value source act frame e ≡ got v → locate source act frame target ≡ got spot
    → (ty : Ty) × SpotHas source act ty spot × InRange ty v

module _ (lies : Lies) (source : Source) (calls : Calls) (act : Activation) (frame ended : Frame) (target : OperandTree) (place : Place)
    (e : ExprTree) (statement : Statement) (v : ℤ) (t : IsTyped source act frame) (there : Contains (spots_of_body act.block.body) statement)
    (is : statement.stmt ≡ assign target place e) (has : value source act frame e ≡ got v)
    (ends : run_stmt source calls act (assign target place e) frame ≡ normal ended) where
  pub visible-stored : (n : ℕ) → locate source act frame target ≡ got (visible n) → visible_value ended n ≡ v
  visible-stored n at =
      let w = lies source act frame target place e statement v (visible n) t there is has at in
      visible-assigned source calls act frame ended target place e v n (cell-there (visible_cells source.cells) frame.visible n w.0 t.cells.visible w.1)
      has at ends
      ∙ (ap (λ ty. wrap_of ty v) (type-there (visible_cells source.cells) n w.0 w.1) ∙ own-value w.0 v w.2)

  pub brief-stored : (ty : Ty) (n : ℕ) → n < length frame.brief → locate source act frame target ≡ got (brief ty n)
      → brief_value ended n ≡ Some v
  brief-stored ty n within at =
      let w = lies source act frame target place e statement v (brief ty n) t there is has at in
      brief-assigned source calls act frame ended target place e v ty n within has at ends
      ∙ ap Some (own-value ty v (subst (λ x. InRange x v) (sym w.1.0) w.2))

  pub bit-stored : (at_read : Place) (n b : ℕ) → n < length frame.visible → type_of_visible (visible_cells source.cells) n ≡ Byte → b < 8
      → locate source act frame target ≡ got (bit n b) → read_spot ended at_read (bit n b) ≡ got v
  bit-stored at_read n b within byte few at =
      let w = lies source act frame target place e statement v (bit n b) t there is has at in
      bit-assigned source calls act frame ended target place at_read e v n b within byte few has at ends
      ∙ ap got (own-value Bool v (subst (λ x. InRange x v) w.1 w.2))

  pub bytes-stored : (at_read : Place) (ty : Ty) (n count : ℕ) → n + count ≤ length frame.visible → AreBytes source n count
      → 8 * count ≡ width_of ty → locate source act frame target ≡ got (bytes ty n count)
      → read_spot ended at_read (bytes ty n count) ≡ got v
  bytes-stored at_read ty n count within are wide at =
      let w = lies source act frame target place e statement v (bytes ty n count) t there is has at in
      bytes-assigned source calls act frame ended target place at_read e v ty n count within are wide has at ends
      ∙ ap got (own-value ty v (subst (λ x. InRange x v) (sym w.1) w.2))
