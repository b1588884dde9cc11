-- The entered block is at work on the table's first cells; and a pattern's expression over it has a value of its type.
use Rattle.std.proofs.Common.{◌≡◌, ℕ, zero, suc, ℤ, [], Option, Some, None, Contains, refl, sym, ◌∙◌}
use Rattle.std.specs.Prelude.{slice_index_or}
use Rattle.std.proofs.lemmas.Option.{none-some}
use Rattle.pv_word.specs.declared.types.Ty.{Ty}
use Rattle.pv_word.specs.Types.{InRange}
use Rattle.pv_place.specs.declared.place.Place.{Place}
use Rattle.pv_place.specs.Ranges.{AreWithin}
use Rattle.pv_tree.specs.Tree.{ExprTree}
use Rattle.pv_tree.specs.LiteralTypes.{Want, nothing, holds, type_of_literal}
use Rattle.pv_tree.specs.Scopes.{Scope}
use Rattle.pv_tree.specs.Things.{first_place}
use Rattle.pv_tree.specs.Types.{Written, literal_of, type_of}
use Rattle.pv_tree.specs.Parts.{parts_of}
use Rattle.pv_tree.specs.Rules.{KeepsRules, Rule, out_of_range, BreaksInPattern}
use Rattle.pv_tree.specs.Rules.OutOfRange.{IsWrittenOutside}
use Rattle.pv_mean.specs.Sources.{Source}
use Rattle.pv_mean.specs.Frames.{visible_ranges}
use Rattle.pv_mean.specs.Endings.{got}
use Rattle.pv_mean.specs.Scans.{Visible, entry_activation, pattern_value}
use Rattle.pv_laws_types.specs.Typed.{HasTable, IsAtWork, SymbolsSuit, IsTyped}
use Rattle.pv_laws_types.proofs.Rooted.{in_range}
use Rattle.pv_laws_types.proofs.Tables.{Shows, entry_stands}
use Rattle.pv_laws_types.proofs.Valued.{WrittenLies, PartLies, value_lies}
use Rattle.pv_laws_types.proofs.Kept.{all_of, is_not}
use Rattle.pv_laws_types.proofs.Assigned.{reads_lie}

pub entered : Shows → (source : Source) → HasTable source → Contains source.project.blocks source.entry
    → IsAtWork source (entry_activation source)
entered shows source table there = record { block = there; instance = λ fb. entry_stands shows source table }

no_brief : (n : ℕ) → slice_index_or {A = Option ℤ} [] n None ≡ None
no_brief zero = refl
no_brief (suc n) = refl

pattern_typed : Shows → (source : Source) (values : Visible) → KeepsRules source.project → SymbolsSuit source.project → HasTable source
    → Contains source.project.blocks source.entry → AreWithin (visible_ranges source.cells) values
    → IsTyped source (entry_activation source) (record { visible = values; brief = [] })
pattern_typed shows source values keeps symbols table there within = record {
  rules = keeps;
  symbols = symbols;
  table = table;
  work = entered shows source table there;
  cells = record { visible = within; brief = λ n ty v g e. absurd (none-some v (sym (no_brief n) ∙ e)) };
}

pub pattern_lies : Shows → (source : Source) (values : Visible) (e : ExprTree) (ty : Ty) (v : ℤ) → KeepsRules source.project
    → SymbolsSuit source.project → HasTable source → Contains source.project.blocks source.entry
    → AreWithin (visible_ranges source.cells) values
    → ((rule : Rule) (at : Place) → BreaksInPattern rule (record { project = source.project; block = source.entry }) e at → ⊥)
    → type_of (record { project = source.project; block = source.entry }) nothing e ≡ Some ty
    → pattern_value source values e ≡ got v → InRange ty v
pattern_lies shows source values e ty v keeps symbols table there within unbroken is has =
    value_lies source (entry_activation source) (record { visible = values; brief = [] })
    (reads_lie shows source (entry_activation source) (record { visible = values; brief = [] })
    (pattern_typed shows source values keeps symbols table there within)) nothing e
    (all_of PartLies (parts_of scope nothing e) (λ p d. lies p.want (literal_of p.expr)
    (λ out. unbroken out_of_range (first_place p.expr) (d.0, p, d.1, d.2, (refl, out))))) ty v is has
  where
    scope : Scope
    scope = record { project = source.project; block = source.entry }

    lies : (want : Want) (o : Option Written) → (IsWrittenOutside want o → ⊥) → WrittenLies want o
    lies want None f = tt
    lies want (Some w) f = in_range (type_of_literal want w.ty w.value) w.value (is_not (holds (type_of_literal want w.ty w.value) w.value) f)
