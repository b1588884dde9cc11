-- What files hold begins in its types, and a run that begins with it.
use Rattle.std.proofs.Common.{◌≡◌, ℕ, List, Bool, Option, None, Result, Ok, Err, sym, ap, subst, ◌∙◌}
use Rattle.std.specs.Prelude.{IfOk}
use Rattle.pv_edge.specs.Files.{FileMap}
use Rattle.pv_mean.specs.Sources.{Source}
use Rattle.pv_mean.specs.Frames.{Input as Inputs, Params}
use Rattle.pv_mean.specs.Runs.{start, run}
use Rattle.pv_pattern.specs.Patterns.{Pattern, asks_for_goal}
use Rattle.pv_stretch.specs.declared.ends.Stretch.{Stretch}
use Rattle.pv_stretch.specs.Stretches.{HasStarts, stretch_of}
use Rattle.pv_laws_starts.proofs.ForCallers.{fitting_has_starts}
use Rattle.pv_command_load.specs.Subjects.{project_of, SubjectData, source_in}
use Rattle.pv_command_load.specs.Reads.{Reads}
use Rattle.pv_command_replay.specs.declared.end.End.{End}
use Rattle.pv_command_replay.specs.Ends.{IsEnd}
use Rattle.pv_command_replay.specs.Judged.{end_behind}
use Rattle.pv_command_replay.proofs.Ending.{run_ends}

-- the project keeps the rules, its entered block is one of its own, and what the case binds fits
pub subject_starts : (told : Option FileMap) (file : List ℕ) (s : SubjectData) → Reads told file s → HasStarts (source_in s)
subject_starts told file s reads =
    fitting_has_starts (project_of s.given) s.entered.block reads.table.table.is_entered.number s.entered.operands
    s.given.case.params s.given.case.bind s.view s.given.case.limits.loop_bound
    reads.table.project.keeps reads.table.table.is_entered.is reads.fitted.view

-- a run whose stretch is known
pub replayed_is : (source : Source) (p : Pattern) (params : Params) (inputs : List Inputs) (goal : Bool) (stretch : Stretch) (end : End)
    → goal ≡ asks_for_goal p → stretch ≡ stretch_of source p None (run source params inputs) → end ≡ end_behind goal stretch
    → IsEnd source p (run source params inputs) end
replayed_is source p params inputs goal stretch end asks is e =
    subst (IsEnd source p (run source params inputs))
    (sym (e ∙ ap (λ g. end_behind g stretch) asks ∙ ap (λ s. end_behind (asks_for_goal p) s) is))
    (run_ends source p (start source params) inputs)

-- what is said of an answer
pub ok_map : {A E : Type 0} (P Q : A → Type 0) (r : Result A E) → ((x : A) → P x → Q x) → IfOk r P → IfOk r Q
ok_map P Q (Ok x) f h = f x h
ok_map P Q (Err e) f h = tt
