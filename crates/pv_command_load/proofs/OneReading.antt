-- Where files tell what they hold, that is one thing that a command works on or one refusal, and not both.
use Rattle.std.proofs.Common.{◌≡◌, ℕ, List, Some, ap, ◌∙◌, subst}
use Rattle.pv_edge.specs.Files.{FileMap}
use Rattle.pv_mean.specs.Cells.{View}
use Rattle.pv_pattern.specs.Patterns.{Pattern}
use Rattle.pv_case.specs.Cases.{CaseData}
use Rattle.pv_command_load.specs.Refusals.{CaseRefusal, SourceRefusal, ProjectRefusal, TableRefusal, FitRefusal, Refusal, of_case, of_source, of_project, of_table, of_fit}
use Rattle.pv_command_load.specs.Sources.{HoldSources, AtOne, IsRefused}
use Rattle.pv_command_load.specs.Subjects.{Given, RefusesProject, Entered, HasTable, RefusesTable, HasView, HasPattern, SubjectData, RefusesFit}
use Rattle.pv_command_load.specs.Reads.{HoldsCase, ReadsSources, ReadsProject, ReadsTable, Reads, Refuses}
use Rattle.pv_command_load.specs.Correct.{FilesDecideOne}
use Rattle.pv_command_load.proofs.OneCase.{CaseLaws, one_case, one_refused, case_apart}
use Rattle.pv_command_load.proofs.OneSource.{IsOneJudgement, one_list, one_at, list_apart}
use Rattle.pv_command_load.proofs.OneSubject.{RuleLaws, one_breach, breach_apart, TextLaws, one_table, table_once, table_apart, PatternLaws, fit_once, one_fit, fit_apart}

-- all that is known of texts
pub record Laws : Type 0 where
  pub case : CaseLaws
  pub source : IsOneJudgement
  pub rules : RuleLaws
  pub texts : TextLaws
  pub patterns : PatternLaws

-- what the case says of the inputs and of the requirement
abbrev IsFittedBy : Given → Entered → View → Pattern → Type 0
IsFittedBy given entered view p = HasView given entered view × HasPattern given entered p

module _ (laws : Laws) (files : FileMap) (file : List ℕ) where
  -- ---- what is read

  pub one_given : (a b : Given) → ReadsSources (Some files) file a → ReadsSources (Some files) file b → a ≡ b
  one_given a b r s =
      let case : a.case ≡ b.case = one_case laws.case files file a.case b.case r.case_held s.case_held in
      let sources : a.sources ≡ b.sources = one_list laws.source files 0 b.case.sources a.sources b.sources
      (subst (λ z. HoldSources (Some files) 0 z.sources a.sources) case r.sources_held) s.sources_held in
      ap (λ z. record { case = z; sources = a.sources }) case ∙ ap (λ z. record { case = b.case; sources = z }) sources

  -- a case and its sources, and what is said of them, for another reading of the same
  pub moved : (Is : Given → Type 0) (a b : Given) → ReadsSources (Some files) file a → ReadsSources (Some files) file b → Is a → Is b
  moved Is a b r s h = subst Is (one_given a b r s) h

  -- ---- refusals of one stage

  pub sources_once : (a b : SourceRefusal) → Refuses (Some files) file (of_source a) → Refuses (Some files) file (of_source b) → a ≡ b
  sources_once a b r s =
      one_at laws.source files 0 s.0.sources a b
      (subst (λ z. AtOne (IsRefused (Some files) a) (Some files) 0 z.sources) (one_case laws.case files file r.0 s.0 r.1 s.1) r.2) s.2

  pub project_once : (a b : ProjectRefusal) → Refuses (Some files) file (of_project a) → Refuses (Some files) file (of_project b) → a ≡ b
  project_once a b r s = one_breach laws.rules s.0 a b (moved (λ z. RefusesProject z a) r.0 s.0 r.1 s.1 r.2) s.2

  pub tables_once : (a b : TableRefusal) → Refuses (Some files) file (of_table a) → Refuses (Some files) file (of_table b) → a ≡ b
  tables_once a b r s = table_once laws.texts s.0 a b (moved (λ z. RefusesTable z a) r.0 s.0 r.1.sources s.1.sources r.2) s.2

  -- what is said of the block that is entered, for another reading of the same
  pub record Of (Is : Given → Entered → Type 0) : Type 0 where
    pub given : Given
    pub entered : Entered
    pub reads : ReadsTable (Some files) file given entered
    pub is : Is given entered

  pub entered_again : (Is : Given → Entered → Type 0) (r : Of Is) (given : Given) (entered : Entered) → ReadsTable (Some files) file given entered
      → Is given entered
  entered_again Is r given entered s =
      let table = moved (λ z. HasTable z r.entered) r.given given r.reads.project.sources s.project.sources r.reads.table in
      let is = moved (λ z. Is z r.entered) r.given given r.reads.project.sources s.project.sources r.is in
      subst (Is given) (one_table laws.texts given r.entered entered table s.table) is

  pub fits_once : (a b : FitRefusal) → Refuses (Some files) file (of_fit a) → Refuses (Some files) file (of_fit b) → a ≡ b
  fits_once a b r s =
      fit_once s.0 s.1 laws.patterns a b
      (entered_again (λ given entered. RefusesFit given entered a) (record { given = r.0; entered = r.1; reads = r.2; is = r.3 }) s.0 s.1 s.2) s.3

  -- ---- a stage that is as it should be isn't refused

  pub case_read : (a : CaseData) (b : CaseRefusal) → HoldsCase (Some files) file a → Refuses (Some files) file (of_case b) → ⊥
  case_read a b r s = case_apart laws.case files file a b r s

  pub sources_read : (a : Given) (b : SourceRefusal) → ReadsSources (Some files) file a → Refuses (Some files) file (of_source b) → ⊥
  sources_read a b r s =
      list_apart laws.source files 0 a.case.sources a.sources b r.sources_held
      (subst (λ z. AtOne (IsRefused (Some files) b) (Some files) 0 z.sources) (one_case laws.case files file s.0 a.case s.1 r.case_held) s.2)

  pub project_read : (a : Given) (b : ProjectRefusal) → ReadsProject (Some files) file a → Refuses (Some files) file (of_project b) → ⊥
  project_read a b r s = breach_apart laws.rules a r.keeps b (moved (λ z. RefusesProject z b) s.0 a s.1 r.sources s.2)

  pub table_read : (a : Given) (e : Entered) (b : TableRefusal) → ReadsTable (Some files) file a e → Refuses (Some files) file (of_table b) → ⊥
  table_read a e b r s = table_apart laws.texts a e b r.table (moved (λ z. RefusesTable z b) s.0 a s.1.sources r.project.sources s.2)

  pub fit_read : (a : SubjectData) (b : FitRefusal) → Reads (Some files) file a → Refuses (Some files) file (of_fit b) → ⊥
  fit_read a b r s =
      fit_apart a.given a.entered laws.patterns a.view a.pattern b r.fitted.view r.fitted.pattern
      (entered_again (λ given entered. RefusesFit given entered b) (record { given = s.0; entered = s.1; reads = s.2; is = s.3 }) a.given a.entered r.table)

  -- ---- all stages

  pub one_refusal : (a b : Refusal) → Refuses (Some files) file a → Refuses (Some files) file b → a ≡ b
  one_refusal (of_case a) (of_case b) r s = ap of_case (one_refused laws.case files file a b r s)
  one_refusal (of_case a) (of_source b) r s = absurd (case_read s.0 a s.1 r)
  one_refusal (of_case a) (of_project b) r s = absurd (case_read s.0.case a s.1.case_held r)
  one_refusal (of_case a) (of_table b) r s = absurd (case_read s.0.case a s.1.sources.case_held r)
  one_refusal (of_case a) (of_fit b) r s = absurd (case_read s.0.case a s.2.project.sources.case_held r)
  one_refusal (of_source a) (of_case b) r s = absurd (case_read r.0 b r.1 s)
  one_refusal (of_source a) (of_source b) r s = ap of_source (sources_once a b r s)
  one_refusal (of_source a) (of_project b) r s = absurd (sources_read s.0 a s.1 r)
  one_refusal (of_source a) (of_table b) r s = absurd (sources_read s.0 a s.1.sources r)
  one_refusal (of_source a) (of_fit b) r s = absurd (sources_read s.0 a s.2.project.sources r)
  one_refusal (of_project a) (of_case b) r s = absurd (case_read r.0.case b r.1.case_held s)
  one_refusal (of_project a) (of_source b) r s = absurd (sources_read r.0 b r.1 s)
  one_refusal (of_project a) (of_project b) r s = ap of_project (project_once a b r s)
  one_refusal (of_project a) (of_table b) r s = absurd (project_read s.0 a s.1 r)
  one_refusal (of_project a) (of_fit b) r s = absurd (project_read s.0 a s.2.project r)
  one_refusal (of_table a) (of_case b) r s = absurd (case_read r.0.case b r.1.sources.case_held s)
  one_refusal (of_table a) (of_source b) r s = absurd (sources_read r.0 b r.1.sources s)
  one_refusal (of_table a) (of_project b) r s = absurd (project_read r.0 b r.1 s)
  one_refusal (of_table a) (of_table b) r s = ap of_table (tables_once a b r s)
  one_refusal (of_table a) (of_fit b) r s = absurd (table_read s.0 s.1 a s.2 r)
  one_refusal (of_fit a) (of_case b) r s = absurd (case_read r.0.case b r.2.project.sources.case_held s)
  one_refusal (of_fit a) (of_source b) r s = absurd (sources_read r.0 b r.2.project.sources s)
  one_refusal (of_fit a) (of_project b) r s = absurd (project_read r.0 b r.2.project s)
  one_refusal (of_fit a) (of_table b) r s = absurd (table_read r.0 r.1 b r.2 s)
  one_refusal (of_fit a) (of_fit b) r s = ap of_fit (fits_once a b r s)

  pub apart : (a : SubjectData) (b : Refusal) → Reads (Some files) file a → Refuses (Some files) file b → ⊥
  apart a (of_case b) r s = case_read a.given.case b r.table.project.sources.case_held s
  apart a (of_source b) r s = sources_read a.given b r.table.project.sources s
  apart a (of_project b) r s = project_read a.given b r.table.project s
  apart a (of_table b) r s = table_read a.given a.entered b r.table s
  apart a (of_fit b) r s = fit_read a b r s

  pub one_subject : (a b : SubjectData) → Reads (Some files) file a → Reads (Some files) file b → a ≡ b
  one_subject a b r s =
      let given : a.given ≡ b.given = one_given a.given b.given r.table.project.sources s.table.project.sources in
      let entered : a.entered ≡ b.entered = one_table laws.texts b.given a.entered b.entered
      (subst (λ z. HasTable z a.entered) given r.table.table) s.table.table in
      let fit = entered_again (λ x y. IsFittedBy x y a.view a.pattern)
      (record { given = a.given; entered = a.entered; reads = r.table; is = (r.fitted.view, r.fitted.pattern) }) b.given b.entered s.table in
      let same = one_fit b.given b.entered laws.patterns a.view b.view a.pattern b.pattern fit.0 fit.1 s.fitted.view s.fitted.pattern in
      ap (λ z. record { given = z; entered = a.entered; view = a.view; pattern = a.pattern }) given
      ∙ ap (λ z. record { given = b.given; entered = z; view = a.view; pattern = a.pattern }) entered
      ∙ ap (λ z. record { given = b.given; entered = b.entered; view = z; pattern = a.pattern }) same.0
      ∙ ap (λ z. record { given = b.given; entered = b.entered; view = b.view; pattern = z }) same.1

  pub decide_one : FilesDecideOne files file
  decide_one = record { one_subject = one_subject; one_refusal = one_refusal; apart = apart }
