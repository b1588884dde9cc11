-- What a command works on that is of the first form.
use Rattle.std.specs.Prelude.{ℕ, List, Option}
use Rattle.pv_edge.specs.Files.{FileMap}
use Rattle.pv_bool.specs.Tree.{ProgramTree}
use Rattle.pv_bool_form.specs.FirstForm.{IsFirstPattern}
use Rattle.pv_bool_form.specs.Programs.{pattern_program}
use Rattle.pv_bool_case.specs.Forms.{IsFirstCase, IsFirstAlone}
use Rattle.pv_command_load.specs.Subjects.{Given, blocks_of, SubjectData, source_in}
use Rattle.pv_command_load.specs.Reads.{Reads}

-- ---- what is of the form

-- the case is of the form, and so are the blocks of its source
pub record AreFirst (given : Given) : Type 0 where
  pub case : IsFirstCase given.case
  pub project : IsFirstAlone (blocks_of given)

-- what a command works on is of the form, and so is its pattern
pub record IsFirst (s : SubjectData) : Type 0 where
  pub are : AreFirst s.given
  pub pattern : IsFirstPattern s.entered.block.vars s.pattern

-- ---- what a command works on

-- the files hold what the command works on, and all of it is of the form
pub record ReadsFirst (told : Option FileMap) (file : List ℕ) (s : SubjectData) : Type 0 where
  pub reads : Reads told file s
  pub first : IsFirst s

-- the Boolean program of what is run, with its pattern
abbrev pub program_of : SubjectData → ProgramTree
program_of s = pattern_program (source_in s) s.pattern
