-- What a case says of the cells and what its requirement is, or why it says nothing.
use Rattle.std.proofs.Common.{◌≡◌, ℕ, ℤ, List, Result, Ok, refl, subst}
use Rattle.std.specs.Prelude.{String, string_bytes}
use Rattle.std.specs.declared.alloc.Global.{Global}
use Rattle.pv_mean.specs.declared.cell.Cell.{Cell}
use Rattle.pv_mean.specs.declared.view.CaseView.{CaseView}
use Rattle.pv_mean.specs.Cells.{View}
use Rattle.pv_rules_decl.specs.Names.{rule_of}
use Rattle.pv_case.specs.declared.case.PatternKind.{PatternKind}
use Rattle.pv_pattern.specs.declared.pattern.Pattern.{Pattern as Found}
use Rattle.pv_pattern.specs.Patterns.{Pattern}
use Rattle.pv_pattern_read.specs.declared.fault.PatternFault.{PatternFault}
use Rattle.pv_pattern_read.specs.declared.fault.PatternFault.TheVariants as pattern_fault
use Rattle.pv_pattern_read.specs.Answers.{FailsBy, AnswersPattern}
use Rattle.pv_case_fit.specs.declared.fault.InputFault.{InputFault}
use Rattle.pv_case_fit.specs.declared.fault.InputFault.TheVariants as input_fault
use Rattle.pv_case_fit.specs.Inputs.{Views, IsStray, IsMisfit}
use Rattle.pv_command_load.specs.Subjects.{Given, Entered, cells_of, scope_of, HasView}
use Rattle.pv_command_load.specs.Stops.{StopsFit}
use Rattle.pv_command_load.specs.Faults.{of_input, of_pattern}
use Rattle.pv_command_load.specs.Made.{view_tree, source_with, IsFit}

-- ---- cells, parameters and bound values that are those of what is given

pub record AreOf (given : Given) (entered : Entered) (cells : List Cell) (params : List (List ℕ)) (bind : List (List ℕ × ℤ)) : Type 0 where
  pub of_cells : cells ≡ cells_of given entered
  pub of_params : params ≡ given.case.params
  pub of_bind : bind ≡ given.case.bind

moved : (given : Given) (entered : Entered) (cells : List Cell) (params : List (List ℕ)) (bind : List (List ℕ × ℤ))
    (P : List Cell → List (List ℕ) → List (List ℕ × ℤ) → Type 0) → AreOf given entered cells params bind → P cells params bind
    → P (cells_of given entered) given.case.params given.case.bind
moved given entered cells params bind P are h =
    subst (λ b. P (cells_of given entered) given.case.params b) are.of_bind
    (subst (λ p. P (cells_of given entered) p bind) are.of_params (subst (λ c. P c params bind) are.of_cells h))

pub stops_input : (given : Given) (entered : Entered) (cells : List Cell) (params : List (List ℕ)) (bind : List (List ℕ × ℤ))
    (fault : InputFault) → AreOf given entered cells params bind
    → ((field : String Global) → fault ≡ input_fault.NotAnInput field → IsStray cells params bind (string_bytes field))
    → ((field : String Global) → fault ≡ input_fault.BoundRange field → IsMisfit cells params bind (string_bytes field))
    → StopsFit given entered (of_input fault)
stops_input given entered cells params bind (input_fault.NotAnInput field) are stray misfit =
    moved given entered cells params bind (λ c p b. IsStray c p b (string_bytes field)) are (stray field refl)
stops_input given entered cells params bind (input_fault.BoundRange field) are stray misfit =
    moved given entered cells params bind (λ c p b. IsMisfit c p b (string_bytes field)) are (misfit field refl)
stops_input given entered cells params bind input_fault.NoMemory are stray misfit = tt

pub has_view : (given : Given) (entered : Entered) (cells : List Cell) (params : List (List ℕ)) (bind : List (List ℕ × ℤ)) (view : View)
    → AreOf given entered cells params bind → Views cells params bind view.params view.bound → HasView given entered view
has_view given entered cells params bind view are views =
    moved given entered cells params bind (λ c p b. Views c p b view.params view.bound) are views

-- ---- the requirement

pub stops_pattern : (given : Given) (entered : Entered) (view : View) (fault : PatternFault) → HasView given entered view
    → FailsBy (scope_of given entered) given.case.expressions fault → StopsFit given entered (of_pattern fault)
stops_pattern given entered view (pattern_fault.Text n) viewed fails = record { view = view; viewed = viewed; fails = fails }
stops_pattern given entered view (pattern_fault.Rule n rule) viewed fails =
    (rule_of rule, record { view = view; viewed = viewed; fails = fails })
stops_pattern given entered view (pattern_fault.BriefCell n) viewed fails = record { view = view; viewed = viewed; fails = fails }
stops_pattern given entered view (pattern_fault.NotBool n) viewed fails = record { view = view; viewed = viewed; fails = fails }
stops_pattern given entered view pattern_fault.NoMemory viewed fails = tt

-- what is answered of the texts, as those that are given
pub answered : (given : Given) (entered : Entered) (view : View) (kind : PatternKind) (all : List (List ℕ))
    (r : Result Found PatternFault) → kind ≡ given.case.kind → all ≡ given.case.expressions
    → AnswersPattern (source_with given entered view) kind all r
    → AnswersPattern (source_with given entered view) given.case.kind given.case.expressions r
answered given entered view kind all r is are h =
    subst (λ l. AnswersPattern (source_with given entered view) given.case.kind l r) are
    (subst (λ k. AnswersPattern (source_with given entered view) k all r) is h)

pub is_fit : (given : Given) (entered : Entered) (entry : ℕ) (view : CaseView) (found : Found) → view.entry ≡ entry
    → view.loop_bound ≡ given.case.limits.loop_bound → HasView given entered (view_tree view)
    → AnswersPattern (source_with given entered (view_tree view)) given.case.kind given.case.expressions (Ok found)
    → (p : Pattern) × IsFit given entered entry view found p
is_fit given entered entry view found is bound viewed h = (
  h.0,
  record { is_entry = is; bound = bound; viewed = viewed; pattern = h.1; is_pattern = h.2 },
)
