-- What laws say of what files hold.
use Rattle.std.specs.Prelude.{◌≡◌, ℕ, List, Option, Some}
use Rattle.pv_place.specs.declared.place.Place.{Place}
use Rattle.pv_edge.specs.Files.{FileMap}
use Rattle.pv_tree.specs.Rules.{Rule, Breaks}
use Rattle.pv_command_load.specs.Positions.{LiesAmong}
use Rattle.pv_command_load.specs.Refusals.{Refusal}
use Rattle.pv_command_load.specs.Subjects.{Given, texts_of, project_of, SubjectData}
use Rattle.pv_command_load.specs.Reads.{ReadsSources, Reads, Refuses}

-- where the files tell what they hold, that is one thing at most that a command works on, or one refusal at most, and not both
pub record FilesDecideOne (files : FileMap) (file : List ℕ) : Type 0 where
  pub one_subject : (s t : SubjectData) → Reads (Some files) file s → Reads (Some files) file t → s ≡ t
  pub one_refusal : (r q : Refusal) → Refuses (Some files) file r → Refuses (Some files) file q → r ≡ q
  pub apart : (s : SubjectData) (r : Refusal) → Reads (Some files) file s → Refuses (Some files) file r → ⊥

-- where these are the sources that the files hold, each place at which they break a rule lies in one of them
abbrev pub BreachesLie : Option FileMap → List ℕ → Given → Type 0
BreachesLie told file given = (rule : Rule) (place : Place) → ReadsSources told file given
    → Breaks rule (project_of given) place → LiesAmong (texts_of given) place
