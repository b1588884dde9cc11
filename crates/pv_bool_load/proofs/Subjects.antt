-- What files hold of the form is one block with its pattern, and so does what its Boolean program does.
use Rattle.std.proofs.Common.{ℕ, List, map, Option, ap, ◌∙◌}
use Rattle.pv_edge.specs.Files.{FileMap}
use Rattle.pv_case_fit.specs.Inputs.{numbers_of, bounds_of}
use Rattle.pv_command_load.specs.Subjects.{project_of, symbol_of, cells_of, SubjectData}
use Rattle.pv_bool_case.specs.Sources.{IsOneBlock}
use Rattle.pv_bool_case.proofs.ForCallers.{OneReading, of_one_block}
use Rattle.pv_bool_load.specs.Forms.{ReadsFirst}
use Rattle.pv_bool_load.specs.Correct.{IsOfProgram}

one_block : (told : Option FileMap) (file : List ℕ) (s : SubjectData) → ReadsFirst told file s
    → IsOneBlock (project_of s.given) s.entered.block s.entered.operands s.view s.given.case.expressions s.pattern
one_block told file s is =
    let case = is.first.are.case in
    let entered = is.reads.table.table.is_entered in
    let fitted = is.reads.fitted in
    let cells = cells_of s.given s.entered in
    record {
      alone = is.first.are.project;
      symbols = ap (λ ss. map symbol_of ss) case.symbols;
      number = entered.number;
      is_entered = entered.is;
      params = fitted.view.numbers_are ∙ ap (λ paths. numbers_of cells paths) case.params;
      bound = fitted.view.bounds_are ∙ ap (λ bind. bounds_of cells bind) case.bind;
      pattern = is.first.pattern;
      say = fitted.pattern.say;
      are_named = entered.named;
    }

pub of_program : (told : Option FileMap) (file : List ℕ) (s : SubjectData) → OneReading → ReadsFirst told file s → IsOfProgram s
of_program told file s one is =
    of_one_block (project_of s.given) s.entered.block s.entered.operands s.view s.given.case.expressions s.pattern s.given.case.limits.loop_bound one
    (one_block told file s is)
