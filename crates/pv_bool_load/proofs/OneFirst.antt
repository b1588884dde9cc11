-- Where files tell what they hold, that is one thing of the form that a command works on at most, or one refusal at most, and not both: a
-- refusal of any command is one of pv_command_load's, and what isn't of the form is read by then.
use Rattle.std.proofs.Common.{◌≡◌, inl, inr, ℕ, List, [], ◌∷◌, Some, sym, ap, ◌∙◌, subst}
use Rattle.pv_edge.specs.Files.{FileMap}
use Rattle.pv_case.specs.Cases.{SourceData, CaseData}
use Rattle.pv_bool_form.specs.FirstForm.{IsFirstPattern}
use Rattle.pv_command_load.specs.Refusals.{Refusal, of_case, of_source, of_project, of_table, of_fit}
use Rattle.pv_command_load.specs.Subjects.{Given, blocks_of, SubjectData}
use Rattle.pv_command_load.specs.Reads.{HoldsCase, ReadsSources, Refuses}
use Rattle.pv_command_load.proofs.ForCallers.{Laws, one_case, one_given, case_read, sources_read, project_read, one_refusal as one_any, apart as any_apart, one_subject as one_read}
use Rattle.pv_bool_case.specs.Forms.{IsFirstCase, IsFirstAlone}
use Rattle.pv_bool_load.specs.Forms.{ReadsFirst}
use Rattle.pv_bool_load.specs.Refusals.{FirstRefusal, as_any, case_form, source_form, HoldsOtherCase, HoldsOtherProject, HoldsOtherRequirement, RefusesAny, RefusesFirst}
use Rattle.pv_bool_load.specs.Correct.{FilesDecideOneFirst}

same_first : (a b : SourceData) → a ∷ [] ≡ b ∷ [] → a ≡ b
same_first a b e = cc

module _ (laws : Laws) (files : FileMap) (file : List ℕ) where
  -- as any command is refused
  as_refused : (r : Refusal) → RefusesAny (Some files) file r → Refuses (Some files) file r
  as_refused (of_case r) h = h
  as_refused (of_source r) h = (h.0, h.1, h.2.1)
  as_refused (of_project r) h = (h.0, h.1, h.2.1)
  as_refused (of_table r) h = (h.0, h.1, h.2.1)
  as_refused (of_fit r) h = (h.0, h.1, h.2, h.3.1)

  -- ---- the form of a case and of a project, for another reading of the same

  case_again : (a b : CaseData) → HoldsCase (Some files) file a → HoldsCase (Some files) file b → IsFirstCase a → IsFirstCase b
  case_again a b r s is = subst IsFirstCase (one_case laws.case files file a b r s) is

  project_again : (a b : Given) → ReadsSources (Some files) file a → ReadsSources (Some files) file b → IsFirstAlone (blocks_of a)
      → IsFirstAlone (blocks_of b)
  project_again a b r s is = subst (λ z. IsFirstAlone (blocks_of z)) (one_given laws files file a b r s) is

  -- ---- what is read is one thing

  one_subject : (s t : SubjectData) → ReadsFirst (Some files) file s → ReadsFirst (Some files) file t → s ≡ t
  one_subject s t r q = one_read laws files file s t r.reads q.reads

  -- ---- what isn't of the form is no refusal of any command

  case_apart : (r : Refusal) → RefusesAny (Some files) file r → HoldsOtherCase (Some files) file → ⊥
  case_apart (of_case r) h o = case_read laws files file o.0 r o.1 h
  case_apart (of_source r) h o = o.2 (case_again h.0 o.0 h.1 o.1 h.2.0)
  case_apart (of_project r) h o = o.2 (case_again h.0.case o.0 h.1.case_held o.1 h.2.0)
  case_apart (of_table r) h o = o.2 (case_again h.0.case o.0 h.1.sources.case_held o.1 h.2.0.case)
  case_apart (of_fit r) h o = o.2 (case_again h.0.case o.0 h.2.project.sources.case_held o.1 h.3.0.case)

  project_apart : (r : Refusal) (name : List ℕ) → RefusesAny (Some files) file r → HoldsOtherProject (Some files) file name → ⊥
  project_apart (of_case r) name h o = case_read laws files file o.reads.0.case r o.reads.1.sources.case_held h
  project_apart (of_source r) name h o = sources_read laws files file o.reads.0 r o.reads.1.sources (as_refused (of_source r) h)
  project_apart (of_project r) name h o = project_read laws files file o.reads.0 r o.reads.1 (as_refused (of_project r) h)
  project_apart (of_table r) name h o = o.reads.2.2 (project_again h.0 o.reads.0 h.1.sources o.reads.1.sources h.2.0.project)
  project_apart (of_fit r) name h o = o.reads.2.2 (project_again h.0 o.reads.0 h.2.project.sources o.reads.1.sources h.3.0.project)

  requirement_apart : (r : Refusal) → RefusesAny (Some files) file r → HoldsOtherRequirement (Some files) file → ⊥
  requirement_apart r h o = any_apart laws files file o.subject r o.reads (as_refused r h)

  -- ---- nor is it otherwise not of the form

  forms_apart : (name : List ℕ) → HoldsOtherCase (Some files) file → HoldsOtherProject (Some files) file name → ⊥
  forms_apart name c o = c.2 (case_again o.reads.0.case c.0 o.reads.1.sources.case_held c.1 o.reads.2.0)

  requires_apart : (name : List ℕ) → HoldsOtherRequirement (Some files) file → HoldsOtherProject (Some files) file name → ⊥
  requires_apart name c o =
      o.reads.2.2 (project_again c.subject.given o.reads.0 c.reads.table.project.sources o.reads.1.sources c.are.project)

  same_name : (n m : List ℕ) → HoldsOtherProject (Some files) file n → HoldsOtherProject (Some files) file m → n ≡ m
  same_name n m r s =
      let given : r.reads.0 ≡ s.reads.0 = one_given laws files file r.reads.0 s.reads.0 r.reads.1.sources s.reads.1.sources in
      let source : r.source ≡ s.source = same_first r.source s.source
      (sym r.reads.2.1 ∙ ap (λ (z : Given). z.case.sources) given ∙ s.reads.2.1) in
      r.named ∙ ap (λ (z : SourceData). z.file) source ∙ sym s.named

  -- ---- what is of the form isn't refused

  first_requirement : (s : SubjectData) → ReadsFirst (Some files) file s → HoldsOtherRequirement (Some files) file → ⊥
  first_requirement s r o =
      let same : s ≡ o.subject = one_read laws files file s o.subject r.reads o.reads in
      o.other (subst (λ (z : SubjectData). IsFirstPattern z.entered.block.vars z.pattern) same r.first.pattern)

  apart : (s : SubjectData) (r : FirstRefusal) → ReadsFirst (Some files) file s → RefusesFirst (Some files) file r → ⊥
  apart s (as_any q) r h = any_apart laws files file s q r.reads (as_refused q h)
  apart s (case_form name) r (is, inl o) = o.2 (case_again s.given.case o.0 r.reads.table.project.sources.case_held o.1 r.first.are.case)
  apart s (case_form name) r (is, inr o) = first_requirement s r o
  apart s (source_form name) r o =
      o.reads.2.2 (project_again s.given o.reads.0 r.reads.table.project.sources o.reads.1.sources r.first.are.project)

  -- ---- one refusal

  one_refusal : (r q : FirstRefusal) → RefusesFirst (Some files) file r → RefusesFirst (Some files) file q → r ≡ q
  one_refusal (as_any r) (as_any q) h k = ap as_any (one_any laws files file r q (as_refused r h) (as_refused q k))
  one_refusal (as_any r) (case_form m) h (is, inl o) = absurd (case_apart r h o)
  one_refusal (as_any r) (case_form m) h (is, inr o) = absurd (requirement_apart r h o)
  one_refusal (as_any r) (source_form m) h k = absurd (project_apart r m h k)
  one_refusal (case_form n) (as_any q) (is, inl o) k = absurd (case_apart q k o)
  one_refusal (case_form n) (as_any q) (is, inr o) k = absurd (requirement_apart q k o)
  one_refusal (case_form n) (case_form m) h k = ap case_form (h.0 ∙ sym k.0)
  one_refusal (case_form n) (source_form m) (is, inl o) k = absurd (forms_apart m o k)
  one_refusal (case_form n) (source_form m) (is, inr o) k = absurd (requires_apart m o k)
  one_refusal (source_form n) (as_any q) h k = absurd (project_apart q n k h)
  one_refusal (source_form n) (case_form m) h (is, inl o) = absurd (forms_apart n o h)
  one_refusal (source_form n) (case_form m) h (is, inr o) = absurd (requires_apart n o h)
  one_refusal (source_form n) (source_form m) h k = ap source_form (same_name n m h k)

  pub decide_one_first : FilesDecideOneFirst files file
  decide_one_first = record { one_subject = one_subject; one_refusal = one_refusal; apart = apart }
