-- What is read hangs on the files that are asked for alone.
use Rattle.std.proofs.Common.{◌≡◌, inl, inr, ℕ, ◌+◌, List, [], ◌∷◌, Some, refl, subst, ◌∙◌}
use Rattle.std.specs.List.{AllByRecursion}
use Rattle.pv_edge.specs.Files.{FileMap, Puts}
use Rattle.pv_case.specs.Cases.{SourceData}
use Rattle.pv_command_load.specs.Sources.{ReadSource, HoldSources, AtOne, IsAsked}
use Rattle.pv_command_load.specs.Subjects.{SubjectData}
use Rattle.pv_bool_load.specs.Forms.{ReadsFirst}
use Rattle.pv_bool_load.specs.Refusals.{AsksFirst}

module _ (files later : FileMap) where
  -- each source that is read is asked for
  each_asked : (P : List ℕ → Type 0) (n : ℕ) (sources : List SourceData) (reads : List ReadSource) → HoldSources (Some files) n sources reads
      → ((name : List ℕ) → AtOne (IsAsked name) (Some files) n sources → P name)
      → AllByRecursion (λ (source : SourceData). P source.file) sources
  each_asked P n [] reads held of = tt
  each_asked P n (source ∷ more) [] held of = absurd held
  each_asked P n (source ∷ more) (read ∷ others) held of = (
    of source.file (inl refl),
    each_asked P (n + 1) more others held.1 (λ name asked. of name (inr ((read, held.0), asked))),
  )

  sources_stay : (n : ℕ) (sources : List SourceData) (reads : List ReadSource)
      → AllByRecursion (λ (source : SourceData). later source.file ≡ files source.file) sources
      → HoldSources (Some files) n sources reads → HoldSources (Some later) n sources reads
  sources_stay n [] [] same held = tt
  sources_stay n [] (read ∷ others) same held = held
  sources_stay n (source ∷ more) [] same held = held
  sources_stay n (source ∷ more) (read ∷ others) same held = (
    record { named = held.0.named; held = same.0 ∙ held.0.held; reads = held.0.reads },
    sources_stay (n + 1) more others same.1 held.1,
  )

  pub stays : (file : List ℕ) (s : SubjectData) → ReadsFirst (Some files) file s
      → ((asked : List ℕ) → AsksFirst (Some files) file asked → later asked ≡ files asked) → ReadsFirst (Some later) file s
  stays file s read same =
      let project = read.reads.table.project in
      let case = project.sources.case_held in
      let sources = each_asked (λ (name : List ℕ). later name ≡ files name) 0 s.given.case.sources s.given.sources
      project.sources.sources_held (λ name asked. same name (inr (s.given.case, case, (read.first.are.case, asked)))) in
      record {
        reads = record {
          table = record {
            project = record {
              sources = record {
                case_held = record { bytes = case.bytes; held = same file (inl refl) ∙ case.held; are = case.are };
                sources_held = sources_stay 0 s.given.case.sources s.given.sources sources project.sources.sources_held;
              };
              keeps = project.keeps;
            };
            table = read.reads.table.table;
          };
          fitted = read.reads.fitted;
        };
        first = read.first;
      }

  pub stays_behind : (file name bytes : List ℕ) (s : SubjectData) → ReadsFirst (Some files) file s → Puts name bytes files later
      → (AsksFirst (Some files) file name → ⊥) → ReadsFirst (Some later) file s
  stays_behind file name bytes s read puts other =
      stays file s read (λ asked is. puts.others asked (λ same. other (subst (AsksFirst (Some files) file) same is)))
