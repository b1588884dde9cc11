-- Why a command stops before its second file, by the code's types: what each means, its status and its text.
use Rattle.std.specs.Prelude.{◌≡◌, ℕ, List, Option, Some, None, string_bytes}
use Rattle.pv_edge.specs.Files.{FileMap}
use Rattle.pv_rules_decl.specs.Names.{rule_of}
use Rattle.pv_case.specs.Cases.{SourceData, CaseData}
use Rattle.pv_command_load.specs.declared.position.SourcePosition.{SourcePosition}
use Rattle.pv_command_load.specs.declared.position.SourceText.{SourceText}
use Rattle.pv_command_load.specs.declared.reading.ReadStop.{ReadStop}
use Rattle.pv_command_load.specs.declared.reading.ReadStop.TheVariants as read_stop
use Rattle.pv_command_load.specs.declared.case.CaseStop.{CaseStop}
use Rattle.pv_command_load.specs.declared.case.CaseStop.TheVariants as case_stop
use Rattle.pv_command_load.specs.declared.source.SourceStop.{SourceStop}
use Rattle.pv_command_load.specs.declared.source.SourceStop.TheVariants as source_stop
use Rattle.pv_command_load.specs.declared.project.ProjectStop.{ProjectStop}
use Rattle.pv_command_load.specs.declared.project.ProjectStop.TheVariants as project_stop
use Rattle.pv_command_load.specs.declared.table.TableStop.{TableStop}
use Rattle.pv_command_load.specs.declared.table.TableStop.TheVariants as table_stop
use Rattle.pv_command_load.specs.declared.fit.FitStop.{FitStop}
use Rattle.pv_command_load.specs.declared.fit.FitStop.TheVariants as fit_stop
use Rattle.pv_command_load.specs.declared.subject.SubjectStop.{SubjectStop}
use Rattle.pv_command_load.specs.declared.subject.SubjectStop.TheVariants as subject_stop
use Rattle.pv_command_load.specs.Positions.{FileText, printed}
use Rattle.pv_command_load.specs.Refusals as r
use Rattle.pv_command_load.specs.Refusals.{CaseRefusal, SourceRefusal, ProjectRefusal, TableRefusal, FitRefusal, table_status, case_refusal_line, source_line, project_line, table_line, fit_line}
use Rattle.pv_command_load.specs.Sources.{RefusesSource, AtOne, IsAsked, IsRefused}
use Rattle.pv_command_load.specs.Subjects.{Given, Entered, RefusesProject, RefusesTable, RefusesFit}
use Rattle.pv_command_load.specs.Reads.{RefusesCase, OfCase, OfSources, OfProject, OfTable}
use Rattle.pv_command_load.specs.Stopped.{Stopped, unread, refused, no_memory, StopsAt, asks_none, stopped_status, stopped_unread, stopped_text}

-- ---- the code's types as plain data

abbrev pub text_tree : SourceText → FileText
text_tree text = record { file = string_bytes text.file; bytes = text.bytes.items }

abbrev pub at_text : SourcePosition → List ℕ
at_text at = printed (string_bytes at.file) at.line at.column

-- a file that isn't read; nothing is refused there
abbrev pub read_stopped : {R : Type 0} → ReadStop → Stopped R
read_stopped (read_stop.Unread file) = unread (string_bytes file)
read_stopped read_stop.NoMemory = no_memory

abbrev pub case_stopped : CaseStop → Stopped CaseRefusal
case_stopped (case_stop.Unread file) = unread (string_bytes file)
case_stopped case_stop.NotJson = refused r.not_json
case_stopped (case_stop.Broken kind field) = refused (r.broken kind (string_bytes field))
case_stopped case_stop.NoMemory = no_memory

abbrev pub source_stopped : SourceStop → Stopped SourceRefusal
source_stopped (source_stop.Unread file) = unread (string_bytes file)
source_stopped source_stop.TooLarge = refused r.too_large
source_stopped (source_stop.Lex kind at) = refused (r.lex kind (at_text at))
source_stopped (source_stop.Outside word at) = refused (r.outside (string_bytes word) (at_text at))
source_stopped (source_stop.Syntax at) = refused (r.syntax (at_text at))
source_stopped (source_stop.Deep at) = refused (r.deep (at_text at))
source_stopped source_stop.NoMemory = no_memory

abbrev pub project_stopped : ProjectStop → Stopped ProjectRefusal
project_stopped (project_stop.Broken rule at) = refused (r.rule (rule_of rule) (at_text at))
project_stopped project_stop.NoMemory = no_memory

abbrev pub table_stopped : TableStop → Stopped TableRefusal
table_stopped table_stop.NoEntry = refused r.no_entry
table_stopped table_stop.TooLarge = refused r.too_many_cells
table_stopped table_stop.NoMemory = no_memory

abbrev pub fit_stopped : FitStop → Stopped FitRefusal
fit_stopped (fit_stop.NotAnInput field) = refused (r.not_an_input (string_bytes field))
fit_stopped (fit_stop.BoundRange field) = refused (r.bound_range (string_bytes field))
fit_stopped (fit_stop.PatternText n) = refused (r.pattern_text n)
fit_stopped (fit_stop.PatternRule n) = refused (r.pattern_rule n)
fit_stopped (fit_stop.BriefCell n) = refused (r.brief_cell n)
fit_stopped (fit_stop.NotBool n) = refused (r.not_bool n)
fit_stopped fit_stop.NoMemory = no_memory

-- ---- what the stops of each stage mean

abbrev pub read_status : ReadStop → ℕ
read_status (read_stop.Unread file) = 6
read_status read_stop.NoMemory = 9

abbrev pub case_status : CaseStop → ℕ
case_status stop = stopped_status (λ refusal. 4) (case_stopped stop)

abbrev pub source_status : SourceStop → ℕ
source_status stop = stopped_status (λ refusal. 3) (source_stopped stop)

-- the file that each tells as one that can't be read

abbrev pub read_unread : ReadStop → Option (List ℕ)
read_unread (read_stop.Unread file) = Some (string_bytes file)
read_unread read_stop.NoMemory = None

abbrev pub case_unread : CaseStop → Option (List ℕ)
case_unread stop = stopped_unread (case_stopped stop)

abbrev pub source_unread : SourceStop → Option (List ℕ)
source_unread stop = stopped_unread (source_stopped stop)

abbrev pub StopsRead : List ℕ → ReadStop → Type 0
StopsRead file (read_stop.Unread name) = string_bytes name ≡ file
StopsRead file read_stop.NoMemory = Unit {0}

abbrev pub StopsCase : Option FileMap → List ℕ → CaseStop → Type 0
StopsCase told file stop = StopsAt (λ name. name ≡ file) (RefusesCase told file) (case_stopped stop)

-- a source by its number and its bytes, of which no file is asked for
abbrev pub StopsAtSource : ℕ → SourceData → List ℕ → SourceStop → Type 0
StopsAtSource number source bytes stop =
    StopsAt asks_none (RefusesSource number source bytes) (source_stopped stop)

abbrev pub StopsSource : Option FileMap → CaseData → SourceStop → Type 0
StopsSource told case stop =
    StopsAt (λ name. AtOne (IsAsked name) told 0 case.sources)
    (λ refusal. AtOne (IsRefused told refusal) told 0 case.sources) (source_stopped stop)

abbrev pub StopsProject : Given → ProjectStop → Type 0
StopsProject given stop = StopsAt asks_none (RefusesProject given) (project_stopped stop)

abbrev pub StopsTable : Given → TableStop → Type 0
StopsTable given stop = StopsAt asks_none (RefusesTable given) (table_stopped stop)

abbrev pub StopsFit : Given → Entered → FitStop → Type 0
StopsFit given entered stop = StopsAt asks_none (RefusesFit given entered) (fit_stopped stop)

-- ---- all stages

-- what it stops at is at fault, and all before is as it should be
abbrev pub StopsSubject : Option FileMap → List ℕ → SubjectStop → Type 0
StopsSubject told file (subject_stop.Case stop) = StopsCase told file stop
StopsSubject told file (subject_stop.Source stop) =
    OfCase told file (λ case. StopsSource told case stop)
StopsSubject told file (subject_stop.Project stop) =
    OfSources told file (λ given. StopsProject given stop)
StopsSubject told file (subject_stop.Table stop) =
    OfProject told file (λ given. StopsTable given stop)
StopsSubject told file (subject_stop.Fit stop) =
    OfTable told file (λ given entered. StopsFit given entered stop)

abbrev pub subject_status : SubjectStop → ℕ
subject_status (subject_stop.Case stop) = stopped_status (λ refusal. 4) (case_stopped stop)
subject_status (subject_stop.Source stop) = stopped_status (λ refusal. 3) (source_stopped stop)
subject_status (subject_stop.Project stop) = stopped_status (λ refusal. 3) (project_stopped stop)
subject_status (subject_stop.Table stop) = stopped_status table_status (table_stopped stop)
subject_status (subject_stop.Fit stop) = stopped_status (λ refusal. 4) (fit_stopped stop)

-- the stages behind the sources ask for no file
abbrev pub subject_unread : SubjectStop → Option (List ℕ)
subject_unread (subject_stop.Case stop) = case_unread stop
subject_unread (subject_stop.Source stop) = source_unread stop
subject_unread (subject_stop.Project stop) = None
subject_unread (subject_stop.Table stop) = None
subject_unread (subject_stop.Fit stop) = None

abbrev pub subject_text : SubjectStop → Option (List ℕ)
subject_text (subject_stop.Case stop) = stopped_text case_refusal_line (case_stopped stop)
subject_text (subject_stop.Source stop) = stopped_text source_line (source_stopped stop)
subject_text (subject_stop.Project stop) = stopped_text project_line (project_stopped stop)
subject_text (subject_stop.Table stop) = stopped_text table_line (table_stopped stop)
subject_text (subject_stop.Fit stop) = stopped_text fit_line (fit_stopped stop)
