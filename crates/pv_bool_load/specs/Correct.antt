-- What laws say of what files hold of the form.
use Rattle.std.specs.Prelude.{◌≡◌, ℕ, List, Some}
use Rattle.pv_edge.specs.Files.{FileMap}
use Rattle.pv_bool_case.specs.Sources.{IsSourceOf}
use Rattle.pv_command_load.specs.Subjects.{SubjectData, source_in}
use Rattle.pv_bool_load.specs.Forms.{ReadsFirst}
use Rattle.pv_bool_load.specs.Refusals.{FirstRefusal, RefusesFirst}

-- ---- machines

-- what is run is the source of the one block alone, and its machine with the pattern does what that of the Boolean program does
abbrev pub IsOfProgram : SubjectData → Type 0
IsOfProgram s = IsSourceOf s.entered.block s.given.case.limits.loop_bound s.pattern (source_in s)

-- ---- what files decide

-- where the files tell what they hold, that is one thing of the form that a command works on at most, or one refusal at most, and
-- not both
pub record FilesDecideOneFirst (files : FileMap) (file : List ℕ) : Type 0 where
  pub one_subject : (s t : SubjectData) → ReadsFirst (Some files) file s → ReadsFirst (Some files) file t → s ≡ t
  pub one_refusal : (r q : FirstRefusal) → RefusesFirst (Some files) file r → RefusesFirst (Some files) file q → r ≡ q
  pub apart : (s : SubjectData) (r : FirstRefusal) → ReadsFirst (Some files) file s → RefusesFirst (Some files) file r → ⊥
