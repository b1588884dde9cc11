-- What the code's case and project are of, where they are of the form; and that a stop at no file leaves the count of failed reads.
use Rattle.std.proofs.Common.{◌≡◌, ◌≢◌, ◌↔◌, ◌<◌, ◌≤◌, ℕ, List, [], ◌∷◌, length, map, Option, Some, None, is_some, Result, Ok, Err, IfSome, MatchResult, true≢false, refl, sym, ap, subst, ◌∙◌, arith}
use Rattle.std.specs.Prelude.{IsSome, IfNone}
use Rattle.std.specs.Result.{IsErrAnd}
use Rattle.std.proofs.lemmas.List.{length-map}
use Rattle.pv_edge.specs.Files.{FileMap}
use Rattle.pv_tree.specs.declared.kept.Project.{Project}
use Rattle.pv_tree.specs.Scopes.{ProjectTree}
use Rattle.pv_tree.specs.View.{block_tree}
use Rattle.pv_case.specs.declared.case.TheConstants.{MAX_SOURCES}
use Rattle.pv_case.specs.declared.case.Case.{Case}
use Rattle.pv_case.specs.declared.case.Symbol.{Symbol}
use Rattle.pv_case.specs.Cases.{source_data, symbol_data, CaseData, data_of}
use Rattle.pv_command_load.specs.declared.source.SourceStop.{SourceStop}
use Rattle.pv_command_load.specs.declared.subject.SubjectStop.TheVariants.{Source as At_source}
use Rattle.pv_command_load.specs.Held.{Counts, IsUnread}
use Rattle.pv_command_load.specs.Subjects.{Given, blocks_of}
use Rattle.pv_command_load.specs.Reads.{HoldsCase}
use Rattle.pv_command_load.specs.Stops.{StopsSource}
use Rattle.pv_command_load.specs.Made.{IsProjectOf}
use Rattle.pv_command_load.proofs.ForCallers.{none_unread, subject_other}
use Rattle.pv_bool_load.specs.declared.stop.FirstStop.{FirstStop}
use Rattle.pv_bool_load.specs.declared.stop.FirstStop.TheVariants as first_stop
use Rattle.pv_bool_case.specs.Forms.{IsFirstCase, IsFirstAlone}
use Rattle.pv_bool_load.specs.Forms.{AreFirst}
use Rattle.pv_bool_load.specs.Refusals.{StopsAsAny}
use Rattle.pv_bool_load.specs.Stops.{first_stop_status, first_stop_unread}

-- ---- options and stops

pub some_meets : {X : Type 0} (P : X → Type 0) (o : Option X) (x : X) → o ≡ Some x → IfSome o P → P x
some_meets {X = X} P o x is h = let Q : Option X → Type 0 = λ p. IfSome p P in subst Q is h

pub none_meets : {X P : Type 0} (o : Option X) → o ≡ None → IfNone o P → P
none_meets {X = X} {P = P} o is h = let Q : Option X → Type 0 = λ p. IfNone p P in subst Q is h

pub some_is : {X P : Type 0} (o : Option X) (x : X) → o ≡ Some x → IsSome o ↔ P → P
some_is o x is same = same.0 (ap is_some is)

pub none_isnt : {X P : Type 0} (o : Option X) → o ≡ None → IsSome o ↔ P → P → ⊥
none_isnt o is same p = absurd (true≢false (sym (same.1 p) ∙ ap is_some is))

pub passed_counts : {T : Type 0} (r : Result T FirstStop) (stop : FirstStop) (before after : ℕ) (P : T → Type 0) → IsErrAnd r (λ e. e ≡ stop)
    → Counts (first_stop_status stop) before after → MatchResult r P (λ e. Counts (first_stop_status e) before after)
passed_counts (Ok x) stop before after P is counts = absurd is
passed_counts (Err e) stop before after P is counts = subst (λ x. Counts (first_stop_status x) before after) (sym is) counts

-- ---- a case of the form

none_mapped : (xs : List Symbol) → map symbol_data xs ≡ [] → [] ≡ xs
none_mapped [] none = refl
none_mapped (x ∷ xs) none = absurd cc

pub no_symbols : (case : Case) → IsFirstCase (data_of case) → [] ≡ case.symbols.items
no_symbols case is = none_mapped case.symbols.items is.symbols

pub few_sources : (case : Case) → IsFirstCase (data_of case) → length case.sources.items ≤ MAX_SOURCES
few_sources case is =
    let count = sym (length-map case.sources.items source_data) ∙ ap length is.source.only in
    omega (arith, count)

pub few_alone : (given : Given) (project : Project) → IsProjectOf given project × IsFirstAlone (blocks_of given)
    → length project.blocks.list.items < 4294967296
few_alone given project is =
    let same = sym (length-map project.blocks.list.items block_tree) ∙ ap (λ (p : ProjectTree). length p.blocks) is.0.same
    ∙ ap length is.1.only in
    omega (arith, same)

pub are_first : (given : Given) → IsFirstCase given.case → IsFirstAlone (blocks_of given) → AreFirst given
are_first given case project = record { case = case; project = project }

-- ---- counts

pub stays : (status before after : ℕ) → status ≢ 6 → after ≡ before → Counts status before after
stays status before after other same = record {
  rises = λ e. absurd (other e);
  stays = λ a b. same;
  never_falls = omega (arith, same);
}

-- ---- a stop with another status tells no file that can't be read

pub first_other : (stop : FirstStop) (last : Option (List ℕ)) → first_stop_status stop ≢ 6 → IsUnread (first_stop_unread stop) last
first_other (first_stop.Subject stop) last other = subject_other stop last other
first_other (first_stop.CaseForm file) last other = none_unread last
first_other (first_stop.SourceForm file) last other = none_unread last
first_other first_stop.NoMemory last other = none_unread last

-- ---- the sources

pub stops_source : (told now : Option FileMap) (file : List ℕ) (case : CaseData) (stop : SourceStop) → now ≡ told → HoldsCase told file case
    → IsFirstCase case → StopsSource now case stop → StopsAsAny told file (At_source stop)
stops_source told now file case stop same held first is = (case, held, (first, subst (λ t. StopsSource t case stop) same is))
