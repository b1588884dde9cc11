-- What is made, by the code's types.
use Rattle.std.specs.Prelude.{◌≡◌, ◌≤◌, ℕ, List, length, Option, Some, slice_get}
use Rattle.pv_edge.specs.Files.{FileMap}
use Rattle.pv_types.specs.declared.layout.TheConstants.{MAX_LEAVES}
use Rattle.pv_tree.specs.declared.kept.Project.{Project}
use Rattle.pv_bool.specs.declared.program.Program.{Program}
use Rattle.pv_bool.specs.Programs.{program_tree}
use Rattle.pv_case.specs.declared.case.Case.{Case}
use Rattle.pv_command_load.specs.Subjects.{blocks_of, SubjectData}
use Rattle.pv_command_load.specs.Reads.{Reads}
use Rattle.pv_command_load.specs.Made.{IsCase, IsProjectOf, IsSubject}
use Rattle.pv_bool_load.specs.declared.subject.FirstSubject.{FirstSubject}
use Rattle.pv_bool_load.specs.Forms.{AreFirst, ReadsFirst, program_of}

-- it is what a command works on that is this, with its Boolean program
pub record IsFirstSubject (made : FirstSubject) (s : SubjectData) : Type 0 where
  pub subject : IsSubject made.subject s
  pub program : program_tree made.program ≡ program_of s
  pub few : length made.program.bits.items ≤ MAX_LEAVES

-- ---- what private clauses cite

-- the case, the project and the number of the entered block are of what some files hold whose case and blocks are of the form
pub record AreOfFirst (case : Case) (project : Project) (entry : ℕ) : Type 0 where
  pub told : Option FileMap
  pub file : List ℕ
  pub subject : SubjectData
  pub of_case : IsCase case subject.given.case
  pub are : AreFirst subject.given
  pub reads : Reads told file subject
  pub is : IsProjectOf subject.given project
  pub there : slice_get (blocks_of subject.given) entry ≡ Some subject.entered.block

-- the files hold what a command works on that is this, all of it of the form, and this is its program
pub record IsProgramOf (told : Option FileMap) (file : List ℕ) (s : SubjectData) (program : Program) : Type 0 where
  pub reads : ReadsFirst told file s
  pub same : program_tree program ≡ program_of s
  pub few : length program.bits.items ≤ MAX_LEAVES
