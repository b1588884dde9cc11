-- What the files hold for a command, and why that is refused, in the order of work: the case; its sources, one by one; the rules over
-- all of them; the entered block and the count of its cells; the inputs and then the requirement.
use Rattle.std.specs.Prelude.{◌≡◌, ◌⊎◌, ℕ, List, Option}
use Rattle.pv_edge.specs.Files.{FileMap}
use Rattle.pv_tree.specs.Rules.{KeepsRules}
use Rattle.pv_case.specs.Cases.{CaseData, IsCaseText, BreaksFirst, IsNoObject}
use Rattle.pv_command_load.specs.Held.{HoldsBytes}
use Rattle.pv_command_load.specs.Refusals.{CaseRefusal, not_json, broken, Refusal, of_case, of_source, of_project, of_table, of_fit}
use Rattle.pv_command_load.specs.Sources.{HoldSources, AtOne, IsAsked, IsRefused}
use Rattle.pv_command_load.specs.Subjects.{Given, project_of, RefusesProject, Entered, HasTable, RefusesTable, RefusesFit, SubjectData, IsFitted}

-- ---- what is read

-- the file holds this case
abbrev pub HoldsCase : Option FileMap → List ℕ → CaseData → Type 0
HoldsCase told file case = HoldsBytes told file (λ bytes. IsCaseText bytes case)

-- it holds the case that is given, and the files that this names hold the sources
pub record ReadsSources (told : Option FileMap) (file : List ℕ) (given : Given) : Type 0 where
  pub case_held : HoldsCase told file given.case
  pub sources_held : HoldSources told 0 given.case.sources given.sources

-- which keep the rules of the language
pub record ReadsProject (told : Option FileMap) (file : List ℕ) (given : Given) : Type 0 where
  pub sources : ReadsSources told file given
  pub keeps : KeepsRules (project_of given)

-- and have a block that is entered, with no more cells than there may be
pub record ReadsTable (told : Option FileMap) (file : List ℕ) (given : Given) (entered : Entered) : Type 0 where
  pub project : ReadsProject told file given
  pub table : HasTable given entered

-- all that a command works on
pub record Reads (told : Option FileMap) (file : List ℕ) (s : SubjectData) : Type 0 where
  pub table : ReadsTable told file s.given s.entered
  pub fitted : IsFitted s

-- ---- what is said of the next stage, where all before it are as they should be

abbrev pub OfCase : Option FileMap → List ℕ → (CaseData → Type 0) → Type 0
OfCase told file Is = (case : CaseData) × HoldsCase told file case × Is case

abbrev pub OfSources : Option FileMap → List ℕ → (Given → Type 0) → Type 0
OfSources told file Is = (given : Given) × ReadsSources told file given × Is given

abbrev pub OfProject : Option FileMap → List ℕ → (Given → Type 0) → Type 0
OfProject told file Is = (given : Given) × ReadsProject told file given × Is given

abbrev pub OfTable : Option FileMap → List ℕ → (Given → Entered → Type 0) → Type 0
OfTable told file Is =
    (given : Given) × (entered : Entered) × ReadsTable told file given entered × Is given entered

-- ---- the files that are asked for, each where all before it is as it should be: the case's, and each source's

abbrev pub AsksSubject : Option FileMap → List ℕ → List ℕ → Type 0
AsksSubject told case_file file =
    (file ≡ case_file) ⊎ OfCase told case_file (λ case. AtOne (IsAsked file) told 0 case.sources)

-- ---- why it is refused

abbrev pub RefusesCase : Option FileMap → List ℕ → CaseRefusal → Type 0
RefusesCase told file not_json = HoldsBytes told file IsNoObject
RefusesCase told file (broken kind field) =
    HoldsBytes told file (λ bytes. BreaksFirst bytes kind field)

-- what the files hold is refused so: what is told of is at fault, and all before it is as it should be
abbrev pub Refuses : Option FileMap → List ℕ → Refusal → Type 0
Refuses told file (of_case r) = RefusesCase told file r
Refuses told file (of_source r) =
    OfCase told file (λ case. AtOne (IsRefused told r) told 0 case.sources)
Refuses told file (of_project r) = OfSources told file (λ given. RefusesProject given r)
Refuses told file (of_table r) = OfProject told file (λ given. RefusesTable given r)
Refuses told file (of_fit r) = OfTable told file (λ given entered. RefusesFit given entered r)
