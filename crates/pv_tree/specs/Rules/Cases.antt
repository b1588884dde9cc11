-- The selector of a CASE isn't INT or DINT, or a value of it isn't a literal or a constant of the selector's type; values don't
-- widen. The place is the first token of the selector or of the value.
use Rattle.std.specs.Prelude.{◌≡◌, ◌≢◌, ◌⊎◌, false, Any, IsTrue}
use Rattle.pv_word.specs.declared.types.Ty.{Ty}
use Rattle.pv_place.specs.declared.place.Place.{Place}
use Rattle.pv_types.specs.Tree.{plain}
use Rattle.pv_tree.specs.declared.stmt.Choice.{Choice}
use Rattle.pv_tree.specs.declared.stmt.Choice.TheVariants.{Lit, Const}
use Rattle.pv_tree.specs.Tree.{ExprTree, StmtTree, case_}
use Rattle.pv_tree.specs.LiteralTypes.{Want, nothing, this, unsure, is_whole_number, type_of_literal}
use Rattle.pv_tree.specs.Sorts.{taken}
use Rattle.pv_tree.specs.Scopes.{ProjectTree, Scope}
use Rattle.pv_tree.specs.Things.{Thing, constant, no_name, thing_of_word, first_place}
use Rattle.pv_tree.specs.Types.{sort_of}
use Rattle.pv_tree.specs.Parts.{spots_of_body}
use Rattle.pv_tree.specs.Fits.{is_of_other_type}
use Rattle.pv_tree.specs.Rules.MissingNames.{values_of_case}
use Rattle.pv_tree.specs.Rules.OutOfRange.{want_of_selector}

-- another type than the one that is wanted, where that is known
abbrev pub IsOtherType : Want → Ty → Type 0
IsOtherType (this ty) other = other ≢ ty
IsOtherType nothing other = ⊥
IsOtherType unsure other = ⊥

-- a word that is a constant of another type, or no constant; one that isn't declared breaks another rule
abbrev pub IsNoConstant : Want → Thing → Type 0
IsNoConstant want (constant (plain ty)) = IsOtherType want ty
IsNoConstant want (no_name place) = ⊥
IsNoConstant want thing = Unit {0}

abbrev pub IsWrongValue : Scope → Want → Place → Choice → Type 0
IsWrongValue scope want at (Lit literal) =
    (literal.place ≡ at) × IsOtherType want (type_of_literal want literal.ty literal.value)
IsWrongValue scope want at (Const name place) =
    (place ≡ at) × IsNoConstant want (thing_of_word scope name.key false place)

abbrev pub IsWrongSelector : Scope → Place → ExprTree → Type 0
IsWrongSelector scope at e = (first_place e ≡ at) × IsTrue (is_of_other_type is_whole_number
    (taken nothing (sort_of scope e)))

abbrev pub ChoosesWrong : Scope → Place → StmtTree → Type 0
ChoosesWrong scope at (case_ selector choices other place) =
    IsWrongSelector scope at selector
    ⊎ Any (IsWrongValue scope (want_of_selector scope selector) at) (values_of_case
    (case_ selector choices other place))
ChoosesWrong scope at s = ⊥

abbrev pub IsWrongCase : ProjectTree → Place → Type 0
IsWrongCase project at =
    Any (λ b. Any (λ s. ChoosesWrong (record { project = project; block = b }) at s.stmt)
    (spots_of_body b.body)) project.blocks
