-- What all stages make together.
use Rattle.std.proofs.Common.{◌≡◌, ℕ, List, map, Option, Some, refl, sym, ap, subst, ◌∙◌, arith}
use Rattle.std.specs.Prelude.{slice_get}
use Rattle.pv_edge.specs.Files.{FileMap}
use Rattle.pv_tree.specs.declared.kept.Project.{Project}
use Rattle.pv_mean.specs.declared.view.CaseView.{CaseView}
use Rattle.pv_mean.specs.Cells.{with_view}
use Rattle.pv_pattern.specs.declared.pattern.Pattern.{Pattern as Found}
use Rattle.pv_pattern.specs.Patterns.{Pattern}
use Rattle.pv_cells.specs.declared.project_table.Table.{Table}
use Rattle.pv_cells.specs.Named.{wide_bytes}
use Rattle.pv_case.specs.declared.case.Case.{Case}
use Rattle.pv_case.specs.declared.case.Symbol.{Symbol}
use Rattle.pv_case.specs.Cases.{CaseData, data_of, symbol_data}
use Rattle.pv_command_load.specs.declared.position.SourceText.{SourceText}
use Rattle.pv_command_load.specs.declared.subject.Subject.{Subject}
use Rattle.pv_command_load.specs.declared.subject.SubjectStop.TheVariants as stop_at
use Rattle.pv_command_load.specs.declared.sources.Sources.{Sources}
use Rattle.pv_command_load.specs.declared.source.SourceStop.{SourceStop}
use Rattle.pv_command_load.specs.declared.project.ProjectStop.{ProjectStop}
use Rattle.pv_command_load.specs.declared.project.ProjectStop.TheVariants as project_stop
use Rattle.pv_command_load.specs.declared.table.TableStop.{TableStop}
use Rattle.pv_command_load.specs.declared.table.TableStop.TheVariants as table_stop
use Rattle.pv_command_load.specs.declared.fit.FitStop.{FitStop}
use Rattle.pv_command_load.specs.declared.fit.FitStop.TheVariants as fit_stop
use Rattle.pv_command_load.specs.Held.{Counts}
use Rattle.pv_command_load.specs.Gathered.{HasSources}
use Rattle.pv_command_load.specs.Sources.{ReadSource, HoldSources}
use Rattle.pv_command_load.specs.Subjects.{Given, texts_of, blocks_of, Entered, SubjectData}
use Rattle.pv_command_load.specs.Reads.{HoldsCase, ReadsSources, ReadsProject, ReadsTable, Reads}
use Rattle.pv_command_load.specs.Stops.{text_tree, StopsSource, StopsSubject, subject_status}
use Rattle.pv_command_load.specs.Made.{IsCase, AreGiven, IsProjectOf, IsTableOf, IsFit, IsSubject, view_tree}
use Rattle.pv_command_load.proofs.CaseTexts.{HasTexts, has_texts}

pub is_case : (case : Case) → IsCase case (data_of case)
is_case case = record {
  name = refl;
  entry = refl;
  params = refl;
  bind = refl;
  kind = refl;
  expressions = refl;
  limits = refl;
  reductions = refl;
  certificate = refl;
}

pub held_texts : (told : Option FileMap) (file : List ℕ) (case : CaseData) → HoldsCase told file case → HasTexts case
held_texts told file case held = has_texts held.bytes case held.are

-- ---- what is given

abbrev pub given_by : CaseData → List ReadSource → Given
given_by case all = record { case = case; sources = all }

pub are_given : (told : Option FileMap) (case : Case) (kept : Sources) (texts : List SourceText) (symbols : List Symbol)
    → texts ≡ kept.texts.items → symbols ≡ case.symbols.items → (has : HasSources told (data_of case).sources kept)
    → AreGiven texts kept.blocks.list.items symbols (given_by (data_of case) has.read)
are_given told case kept texts symbols those same has = record {
  of_texts = ap (map text_tree) those ∙ has.texts;
  of_blocks = has.blocks;
  of_symbols = ap (map symbol_data) same;
}

pub reads_sources : (told : Option FileMap) (file : List ℕ) (case : CaseData) (all : List ReadSource) → HoldsCase told file case
    → HoldSources told 0 case.sources all → ReadsSources told file (given_by case all)
reads_sources told file case all held sources = record { case_held = held; sources_held = sources }

-- ---- the stages after that

pub reads_project : (told : Option FileMap) (file : List ℕ) (given : Given) (project : Project) → ReadsSources told file given
    → IsProjectOf given project → ReadsProject told file given
reads_project told file given project reads is = record { sources = reads; keeps = is.keeps }

pub reads_table : (told : Option FileMap) (file : List ℕ) (given : Given) (entered : Entered) (entry : ℕ) (table : Table)
    → ReadsProject told file given → IsTableOf given entered entry table → ReadsTable told file given entered
reads_table told file given entered entry table reads is = record { project = reads; table = is.has }

abbrev pub data_by : Given → Entered → CaseView → Pattern → SubjectData
data_by given entered view p = record { given = given; entered = entered; view = view_tree view; pattern = p }

pub reads_all : (told : Option FileMap) (file : List ℕ) (given : Given) (entered : Entered) (entry : ℕ) (view : CaseView) (found : Found)
    (p : Pattern) → ReadsTable told file given entered → IsFit given entered entry view found p
    → Reads told file (data_by given entered view p)
reads_all told file given entered entry view found p reads fit =
    record { table = reads; fitted = record { view = fit.viewed; pattern = fit.pattern } }

pub is_subject : (s : Subject) (given : Given) (entered : Entered) (entry : ℕ) (p : Pattern) (before : Table) → IsCase s.case given.case
    → map text_tree s.sources.items ≡ texts_of given → IsProjectOf given s.project → IsTableOf given entered entry before
    → IsFit given entered entry s.view s.pattern p → s.table.cells.items ≡ with_view (view_tree s.view) before.cells.items
    → s.table.bytes ≡ before.bytes → IsSubject s (data_by given entered s.view p)
is_subject s given entered entry p before case texts project table fit cells bytes = record {
  case = case;
  texts = texts;
  project = project.same;
  entered = subst (λ n. slice_get (blocks_of given) n ≡ Some entered.block) (sym fit.is_entry) table.is;
  bound = fit.bound;
  view = refl;
  bytes = ap wide_bytes bytes ∙ table.bytes;
  cells = cells ∙ ap (with_view (view_tree s.view)) table.cells;
  pattern = fit.is_pattern;
}

-- ---- where it stops

pub at_source : (told now : Option FileMap) (file : List ℕ) (case : CaseData) (stop : SourceStop) → now ≡ told → HoldsCase told file case
    → StopsSource now case stop → StopsSubject told file (stop_at.Source stop)
at_source told now file case stop same held stops = (case, held, subst (λ t. StopsSource t case stop) same stops)

pub reads_kept : (told now : Option FileMap) (file : List ℕ) (case : CaseData) (kept : Sources) → now ≡ told → HoldsCase told file case
    → (has : HasSources now case.sources kept) → ReadsSources told file (given_by case has.read)
reads_kept told now file case kept same held has =
    reads_sources told file case has.read held (subst (λ t. HoldSources t 0 case.sources has.read) same has.held)

-- no stop of a later stage is one at a file
pub no_file_project : (stop : ProjectStop) → subject_status (stop_at.Project stop) ≡ 6 → ⊥
no_file_project (project_stop.Broken rule at) e = omega (arith, e)
no_file_project project_stop.NoMemory e = omega (arith, e)

pub no_file_table : (stop : TableStop) → subject_status (stop_at.Table stop) ≡ 6 → ⊥
no_file_table table_stop.NoEntry e = omega (arith, e)
no_file_table table_stop.TooLarge e = omega (arith, e)
no_file_table table_stop.NoMemory e = omega (arith, e)

pub no_file_fit : (stop : FitStop) → subject_status (stop_at.Fit stop) ≡ 6 → ⊥
no_file_fit (fit_stop.NotAnInput field) e = omega (arith, e)
no_file_fit (fit_stop.BoundRange field) e = omega (arith, e)
no_file_fit (fit_stop.PatternText n) e = omega (arith, e)
no_file_fit (fit_stop.PatternRule n) e = omega (arith, e)
no_file_fit (fit_stop.BriefCell n) e = omega (arith, e)
no_file_fit (fit_stop.NotBool n) e = omega (arith, e)
no_file_fit fit_stop.NoMemory e = omega (arith, e)

stays_same : (status before after : ℕ) → (status ≡ 6 → ⊥) → after ≡ before → Counts status before after
stays_same status before after never same = record {
  rises = λ e. absurd (never e);
  stays = λ a b. same;
  never_falls = omega (arith, same);
}

pub counts_project : (stop : ProjectStop) (before after : ℕ) → after ≡ before → Counts (subject_status (stop_at.Project stop)) before after
counts_project stop before after same = stays_same _ before after (no_file_project stop) same

pub counts_table : (stop : TableStop) (before after : ℕ) → after ≡ before → Counts (subject_status (stop_at.Table stop)) before after
counts_table stop before after same = stays_same _ before after (no_file_table stop) same

pub counts_fit : (stop : FitStop) (before after : ℕ) → after ≡ before → Counts (subject_status (stop_at.Fit stop)) before after
counts_fit stop before after same = stays_same _ before after (no_file_fit stop) same
