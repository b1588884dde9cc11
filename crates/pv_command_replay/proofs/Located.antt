-- The place of a run's end lies in one of the sources.
use Rattle.std.proofs.Common.{◌≡◌, ℕ, zero, suc, List, [], ◌∷◌, map, Bool, true, false, Option, Some, None, sym, ap, subst, arith}
use Rattle.std.specs.Prelude.{Contains, slice_get}
use Rattle.std.specs.List.{AllByRecursion}
use Rattle.std.proofs.lemmas.Option.{none-some, same_Some}
use Rattle.pv_edge.specs.Files.{FileMap}
use Rattle.pv_place.specs.declared.place.Place.{Place}
use Rattle.pv_place.specs.declared.trap.TrapKind.{TrapKind}
use Rattle.pv_tree.specs.Tree.{BlockTree}
use Rattle.pv_tree.specs.Scopes.{SymbolTree, ProjectTree}
use Rattle.pv_mean.specs.Sources.{Source}
use Rattle.pv_mean.specs.Frames.{Image, Input}
use Rattle.pv_mean.specs.Endings.{ended, trapped, over as over_end}
use Rattle.pv_mean.specs.Scans.{Visible, Scan, ScanEnd}
use Rattle.pv_mean.specs.Runs.{start, run, run_from}
use Rattle.pv_pattern.specs.Patterns.{Pattern, judge, asks_for_goal}
use Rattle.pv_pattern.specs.Failing.{Cause, pattern, trap, over, is_failure, ends_by, mark_of, FailsFirstFrom}
use Rattle.pv_stretch.specs.Scans.{trap_of, last_trap}
use Rattle.pv_laws_places.specs.Texts.{LiesInOne}
use Rattle.pv_laws_places.specs.Sources as sources
use Rattle.pv_laws_places.specs.Sources.{SourceRead, AreOfTexts}
use Rattle.pv_laws_places.proofs.ForCallers.{StopsIn}
use Rattle.pv_command_load.specs.Positions.{FileText, LiesAmong}
use Rattle.pv_command_load.specs.Subjects.{texts_of, blocks_of, symbol_of, SubjectData, source_in}
use Rattle.pv_command_load.proofs.ForCallers.{held_read, among}
use Rattle.pv_command_replay.specs.declared.end.Cause.{Cause as EndCause}
use Rattle.pv_command_replay.specs.declared.end.Cause.TheVariants as cause
use Rattle.pv_command_replay.specs.declared.end.End.{End}
use Rattle.pv_command_replay.specs.declared.end.End.TheVariants.{Kept, Broken, Over, Reached, NotReached}
use Rattle.pv_command_replay.specs.Ends.{cause_of, IsEnd}
use Rattle.pv_command_replay.specs.Located.{CauseLies, EndLies}
use Rattle.pv_command_replay.specs.Correct.{EndsLie}

-- ---- where scans stop at places that are so, the first failure is at one, and so is the last trap

module _ (P : Place → Type 0) where
  abbrev CauseHas : Cause → Type 0
  CauseHas pattern = Unit {0}
  CauseHas (trap kind place) = P place
  CauseHas (over place) = P place

  by_pattern : (failure : Bool) (by : Cause) → elim failure [ true ↦ Some pattern | false ↦ None ] ≡ Some by → CauseHas by
  by_pattern true by e = subst CauseHas (same_Some pattern by e) tt
  by_pattern false by e = absurd (none-some by e)

  by_trap : (goal : Bool) (kind : TrapKind) (place : Place) (by : Cause) → P place
      → elim goal [ true ↦ None | false ↦ Some (trap kind place) ] ≡ Some by → CauseHas by
  by_trap true kind place by so e = absurd (none-some by e)
  by_trap false kind place by so e = subst CauseHas (same_Some (trap kind place) by e) so

  by_end : (source : Source) (p : Pattern) (prev : Option Bool) (beginning : Visible) (end : ScanEnd) (by : Cause) → StopsIn P end
      → ends_by source p prev beginning end ≡ Some by → CauseHas by
  by_end source p prev beginning (ended values) by stops e = by_pattern (is_failure p (judge source p prev beginning values)) by e
  by_end source p prev beginning (trapped kind place) by stops e = by_trap (asks_for_goal p) kind place by stops e
  by_end source p prev beginning (over_end place) by stops e = subst CauseHas (same_Some (over place) by e) stops

  first_fails : (source : Source) (p : Pattern) (prev : Option Bool) (scans : List Scan) (n : ℕ) (by : Cause)
      → AllByRecursion (λ (s : Scan). StopsIn P s.end) scans → FailsFirstFrom source p prev scans n by → CauseHas by
  first_fails source p prev [] n by all fails = absurd fails
  first_fails source p prev (s ∷ ss) zero by all fails = absurd fails
  first_fails source p prev (s ∷ ss) (suc zero) by all fails = by_end source p prev s.beginning s.end by all.0 fails
  first_fails source p prev (s ∷ ss) (suc (suc n)) by all fails =
      first_fails source p (mark_of source p s.end) ss (suc n) by all.1 fails.1

  trap_at : (end : ScanEnd) (t : TrapKind × Place) → StopsIn P end → trap_of end ≡ Some t → P t.1
  trap_at (ended values) t stops e = absurd (none-some t e)
  trap_at (trapped kind place) t stops e = subst (λ (x : TrapKind × Place). P x.1) (same_Some (kind, place) t e) stops
  trap_at (over_end place) t stops e = absurd (none-some t e)

  last_at : (scans : List Scan) (t : TrapKind × Place) → AllByRecursion (λ (s : Scan). StopsIn P s.end) scans → last_trap scans ≡ Some t
      → P t.1
  last_at [] t all e = absurd (none-some t e)
  last_at (s ∷ []) t all e = trap_at s.end t all.0 e
  last_at (s ∷ u ∷ more) t all e = last_at (u ∷ more) t all.1 e

-- ---- the end of a run

cause_lies : (texts : List FileText) (by : EndCause) → CauseHas (LiesAmong texts) (cause_of by) → CauseLies texts by
cause_lies texts cause.Pattern h = tt
cause_lies texts (cause.Trap kind place) h = h

ends_in : (texts : List FileText) (source : Source) (p : Pattern) (scans : List Scan) (end : End)
    → AllByRecursion (λ (s : Scan). StopsIn (LiesAmong texts) s.end) scans → IsEnd source p scans end → EndLies texts end
ends_in texts source p scans (Kept n) all is = tt
ends_in texts source p scans (Broken n by) all is =
    cause_lies texts by (first_fails (LiesAmong texts) source p None scans n (cause_of by) all is.1)
ends_in texts source p scans (Over n place) all is = first_fails (LiesAmong texts) source p None scans n (over place) all is
ends_in texts source p scans (Reached n) all is = tt
ends_in texts source p scans (NotReached n None) all is = tt
ends_in texts source p scans (NotReached n (Some t)) all is = last_at (LiesAmong texts) scans t all (sym is.3)

-- ---- the run of what the files hold

stops_wider : (P Q : Place → Type 0) → ((place : Place) → P place → Q place) → (end : ScanEnd) → StopsIn P end → StopsIn Q end
stops_wider P Q f (ended values) h = tt
stops_wider P Q f (trapped kind place) h = f place h
stops_wider P Q f (over_end place) h = f place h

each_wider : (P Q : Place → Type 0) → ((place : Place) → P place → Q place) → (scans : List Scan)
    → AllByRecursion (λ (s : Scan). StopsIn P s.end) scans → AllByRecursion (λ (s : Scan). StopsIn Q s.end) scans
each_wider P Q f [] all = tt
each_wider P Q f (s ∷ ss) all = (stops_wider P Q f s.end all.0, each_wider P Q f ss all.1)

contains_got : (blocks : List BlockTree) (n : ℕ) (block : BlockTree) → slice_get blocks n ≡ Some block → Contains blocks block
contains_got [] n block e = absurd (none-some block e)
contains_got (b ∷ blocks) zero block e = (0, omega arith, same_Some b block e)
contains_got (b ∷ blocks) (suc n) block e =
    let c = contains_got blocks n block e in
    (suc c.0, (let l = c.1 in omega (arith, l)), c.2)

-- each scan of a run of sources that are read is done or stops in one of them
abbrev pub RunsStop : Type 0
RunsStop = (read : List SourceRead) (symbols : List SymbolTree) (source : Source) (image : Image) (inputs : List Input) → AreOfTexts 0 read
    → source.project ≡ sources.project_of read symbols → Contains source.project.blocks source.entry
    → AllByRecursion (λ (s : Scan). StopsIn (LiesInOne (sources.texts_of read)) s.end) (run_from source image inputs)

pub ends_lie : RunsStop → (told : Option FileMap) (file : List ℕ) (s : SubjectData) → EndsLie told file s
ends_lie law told file s = λ params inputs end reads is.
    let texts = texts_of s.given in
    let symbols = map symbol_of s.given.case.symbols in
    let its : List BlockTree → ProjectTree = λ b. record { blocks = b; symbols = symbols } in
    let held = held_read told s.given.case.sources s.given.sources reads.table.project.sources.sources_held in
    let entered = reads.table.table.is_entered in
    let scans = run (source_in s) params inputs in
    let all = law held.read symbols (source_in s) (start (source_in s) params) inputs held.are (ap its held.of_blocks)
    (contains_got (blocks_of s.given) entered.number s.entered.block entered.is) in
    ends_in texts (source_in s) s.pattern scans end
    (each_wider (LiesInOne (sources.texts_of held.read)) (LiesAmong texts)
    (λ place lies. among texts place (subst (λ (l : List (List ℕ)). LiesInOne l place) (sym held.of_texts) lies)) scans all) is
