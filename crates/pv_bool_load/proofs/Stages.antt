-- What the stages make together, and why they stop.
use Rattle.std.proofs.Common.{◌≡◌, ◌≢◌, ℕ, List, [], ◌∷◌, length, map, Option, Some, refl, ap, sym, subst, ◌∙◌, arith}
use Rattle.std.specs.Prelude.{slice_get, String, string_bytes}
use Rattle.std.specs.declared.alloc.Global.{Global}
use Rattle.pv_edge.specs.Files.{FileMap}
use Rattle.pv_tree.specs.Tree.{BlockTree}
use Rattle.pv_tree.specs.Scopes.{ProjectTree, Scope}
use Rattle.pv_tree.specs.declared.kept.Project.{Project}
use Rattle.pv_tree.specs.View.{block_tree}
use Rattle.pv_bool.specs.declared.program.Program.{Program}
use Rattle.pv_bool.specs.Tree.{ProgramTree}
use Rattle.pv_bool.specs.Programs.{program_tree}
use Rattle.pv_mean.specs.Sources.{Source}
use Rattle.pv_mean.specs.ProjectSizes.{project_tree}
use Rattle.pv_bool_form.specs.FirstForm.{IsFirstBlock, IsFirstPattern}
use Rattle.pv_bool_form.specs.Programs.{first_source, pattern_program}
use Rattle.pv_pattern.specs.Patterns.{Pattern, expressions_of}
use Rattle.pv_pattern.specs.Texts.{Say}
use Rattle.pv_pattern_read.specs.Kinds.{IsReadPattern}
use Rattle.pv_case.specs.declared.case.Case.{Case}
use Rattle.pv_case.specs.Cases.{SourceData, CaseData}
use Rattle.pv_command_load.specs.declared.project.ProjectStop.{ProjectStop}
use Rattle.pv_command_load.specs.declared.project.ProjectStop.TheVariants as project_stop
use Rattle.pv_command_load.specs.declared.table.TableStop.{TableStop}
use Rattle.pv_command_load.specs.declared.table.TableStop.TheVariants as table_stop
use Rattle.pv_command_load.specs.declared.fit.FitStop.{FitStop}
use Rattle.pv_command_load.specs.declared.fit.FitStop.TheVariants as fit_stop
use Rattle.pv_command_load.specs.declared.subject.SubjectStop.TheVariants.{Project as At_project, Table as At_table, Fit as At_fit}
use Rattle.pv_command_load.specs.Subjects.{Given, blocks_of, project_of, Entered, HasPattern, SubjectData}
use Rattle.pv_command_load.specs.Reads.{HoldsCase, ReadsSources, ReadsProject, ReadsTable, Reads}
use Rattle.pv_command_load.specs.Stops.{StopsProject, StopsTable, StopsFit, subject_status}
use Rattle.pv_command_load.specs.Made.{IsCase, IsProjectOf}
use Rattle.pv_bool_case.specs.Forms.{IsFirstCase, IsFirstAlone}
use Rattle.pv_bool_load.specs.Forms.{AreFirst, ReadsFirst, program_of}
use Rattle.pv_bool_load.specs.Refusals.{HoldsOtherCase, HoldsOtherProject, HoldsOtherRequirement, StopsAsAny}
use Rattle.pv_bool_load.specs.Made.{IsProgramOf}
use Rattle.pv_bool_case.proofs.ForCallers.{OneReading, only_entered, same_scope}
use Rattle.pv_bool_load.proofs.Subjects.{of_program}

-- ---- stops of stages that ask for no file

pub project_unread : (stop : ProjectStop) → subject_status (At_project stop) ≢ 6
project_unread (project_stop.Broken rule at) = λ e. absurd cc
project_unread project_stop.NoMemory = λ e. absurd cc

pub table_unread : (stop : TableStop) → subject_status (At_table stop) ≢ 6
table_unread table_stop.NoEntry = λ e. absurd cc
table_unread table_stop.TooLarge = λ e. absurd cc
table_unread table_stop.NoMemory = λ e. absurd cc

pub fit_unread : (stop : FitStop) → subject_status (At_fit stop) ≢ 6
fit_unread (fit_stop.NotAnInput field) = λ e. absurd cc
fit_unread (fit_stop.BoundRange field) = λ e. absurd cc
fit_unread (fit_stop.PatternText n) = λ e. absurd cc
fit_unread (fit_stop.PatternRule n) = λ e. absurd cc
fit_unread (fit_stop.BriefCell n) = λ e. absurd cc
fit_unread (fit_stop.NotBool n) = λ e. absurd cc
fit_unread fit_stop.NoMemory = λ e. absurd cc

-- ---- the pattern that the code reads once more

pub entered_there : (given : Given) (entered : Entered) (project : Project) (entry : ℕ) → IsProjectOf given project
    → slice_get (blocks_of given) entry ≡ Some entered.block → slice_get (map block_tree project.blocks.list.items) entry ≡ Some entered.block
entered_there given entered project entry is there =
    let P : List BlockTree → Type 0 = λ bs. slice_get bs entry ≡ Some entered.block in
    subst P (sym (ap (λ (p : ProjectTree). p.blocks) is.same)) there

pub pattern_there : (given : Given) (entered : Entered) (case : Case) (project : Project) (p : Pattern) (texts : List (String Global)) → IsCase case given.case
    → IsProjectOf given project → texts ≡ case.pattern.expressions.items → HasPattern given entered p
    → IsReadPattern (record { project = project_tree project; block = entered.block }) case.pattern.kind (map string_bytes texts) p
pattern_there given entered case project p texts of_case is same has =
    let scope : Scope = record { project = project_of given; block = entered.block } in
    let P : List (List ℕ) → Type 0 = λ all. Say scope all (expressions_of p) in
    let Q : Scope → Type 0 = λ sc. Say sc (map string_bytes texts) (expressions_of p) in
    record {
      of_kind = has.of_kind ∙ sym of_case.kind;
      say = subst Q (same_scope (project_of given) (project_tree project) entered.block entered.block (sym is.same) refl)
          (subst P (sym of_case.expressions ∙ ap (map string_bytes) (sym same)) has.say);
    }

-- ---- the case and the project

module _ (told : Option FileMap) (file : List ℕ) where
  pub other_case : (case : CaseData) → HoldsCase told file case → (IsFirstCase case → ⊥) → HoldsOtherCase told file
  other_case case held other = (case, held, other)

  pub stops_project : (given : Given) (stop : ProjectStop) → ReadsSources told file given → IsFirstCase given.case → StopsProject given stop
      → StopsAsAny told file (At_project stop)
  stops_project given stop reads first is = (given, reads, (first, is))

  pub other_project : (given : Given) (source : SourceData) (name : List ℕ) → ReadsProject told file given → IsFirstCase given.case
      → given.case.sources ≡ source ∷ [] → name ≡ source.file → (IsFirstAlone (blocks_of given) → ⊥) → HoldsOtherProject told file name
  other_project given source name reads first only named other =
      record { source = source; named = named; reads = (given, reads, (first, only, other)) }

  -- ---- the entry and the cells

  pub stops_table : (given : Given) (stop : TableStop) → ReadsProject told file given → AreFirst given → StopsTable given stop
      → StopsAsAny told file (At_table stop)
  stops_table given stop reads are is = (given, reads, (are, is))

  pub stops_fit : (given : Given) (entered : Entered) (stop : FitStop) → ReadsTable told file given entered → AreFirst given
      → StopsFit given entered stop → StopsAsAny told file (At_fit stop)
  stops_fit given entered stop reads are is = (given, entered, reads, (are, is))

  -- ---- the requirement

  -- the code's block is the entered one
  entered_block : (given : Given) (project : Project) (block entered : BlockTree) (entry : ℕ) → IsProjectOf given project
      → map block_tree project.blocks.list.items ≡ block ∷ [] → slice_get (blocks_of given) entry ≡ Some entered → block ≡ entered
  entered_block given project block entered entry is only there =
      let P : List BlockTree → Type 0 = λ bs. slice_get bs entry ≡ Some entered in
      only_entered block entered entry (subst P (sym (ap (λ (p : ProjectTree). p.blocks) is.same) ∙ only) there)

  first_block : (given : Given) (block : BlockTree) → IsFirstAlone (blocks_of given) → blocks_of given ≡ block ∷ [] → IsFirstBlock block
  first_block given block is only = subst IsFirstBlock (only_entered is.block block 0 (ap (λ bs. slice_get bs 0) (sym is.only ∙ only))) is.first

  module _ (s : SubjectData) (project : Project) (entry : ℕ) (block : BlockTree) (are : AreFirst s.given) (reads : Reads told file s)
      (is : IsProjectOf s.given project) (there : slice_get (blocks_of s.given) entry ≡ Some s.entered.block)
      (only : map block_tree project.blocks.list.items ≡ block ∷ []) where
    same_block : block ≡ s.entered.block
    same_block = entered_block s.given project block s.entered.block entry is only there

    pub other_requirement : (IsFirstBlock block × IsFirstPattern block.vars s.pattern → ⊥) → HoldsOtherRequirement told file
    other_requirement other =
        let P : BlockTree → Type 0 = λ b. IsFirstPattern b.vars s.pattern → ⊥ in
        let blocks : blocks_of s.given ≡ block ∷ [] = sym (ap (λ (p : ProjectTree). p.blocks) is.same) ∙ only in
        record {
          subject = s;
          reads = reads;
          are = are;
          other = subst P same_block (λ first. other (first_block s.given block are.project blocks, first));
        }

    pub program_made : (program : Program) → OneReading → IsFirstBlock block × IsFirstPattern block.vars s.pattern
        → program_tree program ≡ pattern_program (first_source block [] s.given.case.limits.loop_bound) s.pattern → IsProgramOf told file s program
    program_made program one first made =
        let turns = s.given.case.limits.loop_bound in
        let P : BlockTree → Type 0 = λ b. IsFirstPattern b.vars s.pattern in
        let so : ReadsFirst told file s = record { reads = reads; first = record { are = are; pattern = subst P same_block first.1 } } in
        let of = of_program told file s one so in
        let same : program_tree program ≡ program_of s = made ∙ ap (λ (b : BlockTree). pattern_program (first_source b [] turns) s.pattern) same_block
        ∙ ap (λ (x : Source). pattern_program x s.pattern) (sym of.same) in
        record { reads = so; same = same; few = omega (arith, of.machines.few, ap (λ (t : ProgramTree). length t.bits) same) }
