-- The files that are asked for, and why a command stops at what it works on, in the order of work: the case by itself; a case that isn't of the first form; its source
-- by itself; the rules; a source that isn't one block of the first form; the entry and the count of cells; the requirement's faults; a
-- requirement that isn't of the first form.
use Rattle.std.specs.Prelude.{◌≡◌, ◌⊎◌, ℕ, List, [], ◌∷◌, Option}
use Rattle.pv_edge.specs.Files.{FileMap}
use Rattle.pv_case.specs.Cases.{SourceData}
use Rattle.pv_bool_form.specs.FirstForm.{IsFirstPattern}
use Rattle.pv_command_load.specs.declared.subject.SubjectStop.{SubjectStop}
use Rattle.pv_command_load.specs.declared.subject.SubjectStop.TheVariants as subject_stop
use Rattle.pv_command_load.specs.Refusals.{Refusal, of_case, of_source, of_project, of_table, of_fit, refusal_status, refusal_line, form_line}
use Rattle.pv_command_load.specs.Sources.{AtOne, IsAsked, IsRefused}
use Rattle.pv_command_load.specs.Subjects.{blocks_of, RefusesProject, RefusesTable, RefusesFit, SubjectData}
use Rattle.pv_command_load.specs.Reads.{OfCase, OfSources, OfProject, OfTable, RefusesCase, Reads}
use Rattle.pv_command_load.specs.Stops.{StopsCase, StopsSource, StopsProject, StopsTable, StopsFit}
use Rattle.pv_bool_case.specs.Forms.{IsFirstCase, IsFirstAlone}
use Rattle.pv_bool_load.specs.Forms.{AreFirst}

-- ---- the files that are asked for, each where all before it is as it should be: the case's, and its source's

abbrev pub AsksFirst : Option FileMap → List ℕ → List ℕ → Type 0
AsksFirst told case_file file =
    (file ≡ case_file)
    ⊎ OfCase told case_file (λ case. IsFirstCase case × AtOne (IsAsked file) told 0 case.sources)

-- ---- the refusals

-- as of any command; or the file of this name isn't of the form: that of the case, or its source
pub data FirstRefusal : Type 0 where
  as_any : Refusal → FirstRefusal
  case_form : List ℕ → FirstRefusal
  source_form : List ℕ → FirstRefusal

abbrev pub first_refusal_status : FirstRefusal → ℕ
first_refusal_status (as_any r) = refusal_status r
first_refusal_status (case_form file) = 4
first_refusal_status (source_form file) = 3

abbrev pub first_refusal_line : FirstRefusal → List ℕ
first_refusal_line (as_any r) = refusal_line r
first_refusal_line (case_form file) = form_line file
first_refusal_line (source_form file) = form_line file

-- ---- what isn't of the form, where all before is as it should be

-- the case
abbrev pub HoldsOtherCase : Option FileMap → List ℕ → Type 0
HoldsOtherCase told file = OfCase told file (λ case. IsFirstCase case → ⊥)

-- the blocks of the case's source, whose file has this name
pub record HoldsOtherProject (told : Option FileMap) (file name : List ℕ) : Type 0 where
  pub source : SourceData
  pub named : name ≡ source.file
  pub reads : OfProject told file (λ given.
      IsFirstCase given.case × (given.case.sources ≡ source ∷ []) × (IsFirstAlone (blocks_of given) → ⊥))

-- the requirement
pub record HoldsOtherRequirement (told : Option FileMap) (file : List ℕ) : Type 0 where
  pub subject : SubjectData
  pub reads : Reads told file subject
  pub are : AreFirst subject.given
  pub other : IsFirstPattern subject.entered.block.vars subject.pattern → ⊥

-- ---- what the files hold is refused so

abbrev pub RefusesAny : Option FileMap → List ℕ → Refusal → Type 0
RefusesAny told file (of_case r) = RefusesCase told file r
RefusesAny told file (of_source r) =
    OfCase told file (λ case. IsFirstCase case × AtOne (IsRefused told r) told 0 case.sources)
RefusesAny told file (of_project r) =
    OfSources told file (λ given. IsFirstCase given.case × RefusesProject given r)
RefusesAny told file (of_table r) =
    OfProject told file (λ given. AreFirst given × RefusesTable given r)
RefusesAny told file (of_fit r) =
    OfTable told file (λ given entered. AreFirst given × RefusesFit given entered r)

abbrev pub RefusesFirst : Option FileMap → List ℕ → FirstRefusal → Type 0
RefusesFirst told file (as_any r) = RefusesAny told file r
RefusesFirst told file (case_form name) =
    (name ≡ file) × (HoldsOtherCase told file ⊎ HoldsOtherRequirement told file)
RefusesFirst told file (source_form name) = HoldsOtherProject told file name

-- ---- why a command stops there as any does: what it stops at is at fault, and all before is as it should be

abbrev pub StopsAsAny : Option FileMap → List ℕ → SubjectStop → Type 0
StopsAsAny told file (subject_stop.Case stop) = StopsCase told file stop
StopsAsAny told file (subject_stop.Source stop) =
    OfCase told file (λ case. IsFirstCase case × StopsSource told case stop)
StopsAsAny told file (subject_stop.Project stop) =
    OfSources told file (λ given. IsFirstCase given.case × StopsProject given stop)
StopsAsAny told file (subject_stop.Table stop) =
    OfProject told file (λ given. AreFirst given × StopsTable given stop)
StopsAsAny told file (subject_stop.Fit stop) =
    OfTable told file (λ given entered. AreFirst given × StopsFit given entered stop)
