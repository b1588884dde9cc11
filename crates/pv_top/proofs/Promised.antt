-- From what the words came to, to what the program promises.
--
-- A generic command over `Files` and `Sink` proves with almost no file if each small call says what it leaves (`files`, `counted`,
-- `writes`) and why it stops; the record of promises is then found field by field. What a command's words come to is that command's
-- (`of_check` and those beside it), so each promise is a lemma on one command alone. A `format!` gives its pieces nested to the right:
-- write the definition as `a ++ (b ++ (c ++ d))`, and no lemma is needed.
use Rattle.std.proofs.Common.{◌≡◌, ◌≢◌, ◌⊎◌, ◌↔◌, inl, inr, ℕ, ◌<◌, List, [], Option, Some, None, Result, Ok, Err, refl, sym, subst, ap, ◌∙◌, arith}
use Rattle.std.specs.Prelude.{codes}
use Rattle.std.proofs.lemmas.Bool.{cases_eq}
use Rattle.std.proofs.lemmas.Option.{same_Some, none-some}
use Rattle.pv_edge.specs.Faults.{HasRisen}
use Rattle.pv_edge.specs.Files.{FileMap}
use Rattle.pv_edge.specs.Sink.{Takes}
use Rattle.pv_edge.specs.declared.outside.SinkFault.{SinkFault}
use Rattle.pv_command_show.specs.Handed.{Counts, IsUnread, read_line, report_of, AsksReplay, replay_status, ReplaysExactly}
use Rattle.pv_command_show.proofs.ForCallers.{TellsUnread, tells_of, Laws as ReplayLaws, Came, by_result, one_came, replays_exactly, replay_tells, by_show, show_tells}
use Rattle.pv_command_check.specs.declared.check.Checked.{Checked}
use Rattle.pv_command_check.specs.declared.stop.CheckStop.{CheckStop}
use Rattle.pv_command_check.specs.Refusals.{AsksCheck}
use Rattle.pv_command_check.specs.Checks.{check_status, check_text, check_keeps, SaysCheck}
use Rattle.pv_command_check.specs.Files.{LeavesFiles}
use Rattle.pv_command_check.specs.Decided.{HasVerdict, IsHad, ChecksExactly, FilesDecideOneCheck}
use Rattle.pv_command_check.proofs.ForCallers.{check_tells, CheckCame, check_came, checks_exactly}
use Rattle.pv_command_recheck.specs.Refusals.{AsksRecheck}
use Rattle.pv_command_recheck.specs.Rechecks.{recheck_status}
use Rattle.pv_command_recheck.specs.Decided.{IsTold, RechecksExactly, FilesDecideOneRecheck}
use Rattle.pv_command_recheck.proofs.ForCallers.{recheck_tells, recheck_told, RecheckCame, recheck_came, rechecks_exactly}
use Rattle.pv_command_recheck.proofs.ForCallers as recheck
use Rattle.pv_command_show.specs.Shows.{show_of, show_status}
use Rattle.pv_top.specs.declared.outcome.Outcome.{Outcome}
use Rattle.pv_top.specs.declared.outcome.Outcome.TheVariants.{NoCommand, Check, Replay, Recheck, Show}
use Rattle.pv_top.specs.Words.{AreOfCheck, IsCommand, IsCheck, IsReplay, IsRecheck, IsShow}
use Rattle.pv_top.specs.Outcomes.{status_of, unread_of, text_of, silent_status, keeps_of, kept_by}
use Rattle.pv_top.specs.Calls.{Call, Says, Asks, Leaves, LeavesWrites, Delivers, whole, part, silent, Offers, IsSettled, IsTakenIn, IsKeptIn}
use Rattle.pv_top.specs.Checks.{ChecksSo, KeepsOthers, KeepsChain}
use Rattle.pv_top.specs.Rechecks.{RechecksSo}
use Rattle.pv_top.specs.Promises.{NamesUnread, Promises}
use Rattle.pv_top.proofs.Statuses.{IsOther, verdict_settled, verdict_below, check_not_five, check_seven, replay_other, show_other, recheck_other}
use Rattle.pv_top.proofs.WordsLemmas.{second_word, of_check, of_replay, of_recheck, of_show}
use Rattle.pv_top.specs.declared.outcome.Told.{Told}
use Rattle.pv_top.specs.declared.printing.Printed.{Printed}
use Rattle.pv_top.specs.Printing.{Sinks, Prints, kept_if}
use Rattle.pv_top.proofs.Delivery.{IsToldOf, GoesTo, goes_to, IsWhole, settled, silent_ends}
use Rattle.pv_top.proofs.Checks.{had_by, keeps_chain, keeps_others}

-- ---- what the crates below say of any files

pub record Laws : Type 0 where
  pub checks : (files : FileMap) (case_file : List ℕ) → FilesDecideOneCheck files case_file
  pub replays : ReplayLaws
  pub rechecks : (files : FileMap) (case_file file : List ℕ) → FilesDecideOneRecheck files case_file file

-- ---- only words that are no command's have status 5

unspelled : (told : Option FileMap) (words : List (List ℕ)) (outcome : Outcome) → Says told words outcome → status_of outcome ≡ 5
    → IsCommand words → ⊥
unspelled told words NoCommand says e = says
unspelled told words (Check result) says e = absurd (check_not_five result e)
unspelled told words (Replay result) says e = absurd ((replay_other result).0 e)
unspelled told words (Recheck result) says e = absurd ((recheck_other result).0 e)
unspelled told words (Show result) says e = absurd ((show_other result).0 e)

answered_words : (told : Option FileMap) (words : List (List ℕ)) (outcome : Outcome) → Says told words outcome → (IsCommand words → ⊥)
    → status_of outcome ≡ 5
answered_words told words NoCommand says other = refl
answered_words told words (Check result) says other = absurd (other (inl (says.0, says.1)))
answered_words told words (Replay result) says other = absurd (other (inr (says.0, says.1, inl says.2)))
answered_words told words (Recheck result) says other = absurd (other (inr (says.0, says.1, inr (inl says.2))))
answered_words told words (Show result) says other = absurd (other (inr (says.0, says.1, inr (inr says.2))))

-- ---- a file that can't be read

asks_of : (told : Option FileMap) (words : List (List ℕ)) (outcome : Outcome) → Says told words outcome → status_of outcome ≡ 6
    → TellsUnread (Asks told words) (unread_of outcome) (text_of outcome)
asks_of told words NoCommand says six = absurd (omega (arith, six))
asks_of told words (Check result) says six =
    tells_of (AsksCheck told says.0) (Asks told words) _ _ (λ name asked. inl (says.0, says.1, asked))
    (check_tells told says.0 result says.2 six)
asks_of told words (Replay result) says six =
    tells_of (AsksReplay told says.0 says.1) (Asks told words) _ _ (λ name asked. inr (says.0, says.1, inl (inl says.2, asked)))
    (replay_tells told says.0 says.1 result says.3 six)
asks_of told words (Recheck result) says six =
    tells_of (AsksRecheck told says.0 says.1) (Asks told words) _ _ (λ name asked. inr (says.0, says.1, inr (says.2, asked)))
    (recheck_tells told says.0 says.1 result says.3 six)
asks_of told words (Show result) says six =
    tells_of (AsksReplay told says.0 says.1) (Asks told words) _ _ (λ name asked. inr (says.0, says.1, inl (inr says.2, asked)))
    (show_tells told says.0 says.1 result says.3 six)

-- ---- counts of failed writes

-- with the status of a write fault there is no text
seven_none : (outcome : Outcome) → status_of outcome ≡ 7 → text_of outcome ≡ None
seven_none NoCommand e = absurd (omega (arith, e))
seven_none (Check result) e = check_seven result e
seven_none (Replay result) e = absurd ((replay_other result).1 e)
seven_none (Recheck result) e = absurd ((recheck_other result).1 e)
seven_none (Show result) e = absurd ((show_other result).1 e)

writes_rise : (outcome : Outcome) (before after : ℕ) → LeavesWrites outcome before after → status_of outcome ≡ 7 → HasRisen before after
writes_rise NoCommand before after leaves e = absurd (omega (arith, e))
writes_rise (Check result) before after leaves e = leaves.rises e
writes_rise (Replay result) before after leaves e = absurd ((replay_other result).1 e)
writes_rise (Recheck result) before after leaves e = absurd ((recheck_other result).1 e)
writes_rise (Show result) before after leaves e = absurd ((show_other result).1 e)

writes_stay : (outcome : Outcome) (before after : ℕ) → LeavesWrites outcome before after → status_of outcome ≢ 7 → after ≡ before
writes_stay NoCommand before after leaves other = leaves
writes_stay (Check result) before after leaves other = leaves.stays other
writes_stay (Replay result) before after leaves other = leaves
writes_stay (Recheck result) before after leaves other = leaves
writes_stay (Show result) before after leaves other = leaves

-- ---- words of other commands than a check

module _ (told : Option FileMap) (words : List (List ℕ)) (other : AreOfCheck words → ⊥) where
  other_writes : (outcome : Outcome) (before after : ℕ) → Says told words outcome → LeavesWrites outcome before after → after ≡ before
  other_writes NoCommand before after says leaves = leaves
  other_writes (Check result) before after says leaves = absurd (other (says.0, says.1))
  other_writes (Replay result) before after says leaves = leaves
  other_writes (Recheck result) before after says leaves = leaves
  other_writes (Show result) before after says leaves = leaves

  other_files : (outcome : Outcome) (old new : Option FileMap) → Says told words outcome → Leaves words outcome old new → new ≡ old
  other_files NoCommand old new says leaves = leaves
  other_files (Check result) old new says leaves = absurd (other (says.0, says.1))
  other_files (Replay result) old new says leaves = leaves
  other_files (Recheck result) old new says leaves = leaves
  other_files (Show result) old new says leaves = leaves

  other_keeps : (outcome : Outcome) (kept : List ℕ) → Says told words outcome → kept_by outcome kept ≡ kept
  other_keeps NoCommand kept says = refl
  other_keeps (Check result) kept says = absurd (other (says.0, says.1))
  other_keeps (Replay result) kept says = refl
  other_keeps (Recheck result) kept says = refl
  other_keeps (Show result) kept says = refl

  other_kept : (outcome : Outcome) (status : ℕ) (taken taken_after : Option (List ℕ)) (kept kept_after : List ℕ) → Says told words outcome
      → Delivers outcome status taken taken_after kept kept_after → kept_after ≡ kept
  other_kept outcome status taken taken_after kept kept_after says (whole text is code takes keeps) = keeps ∙ other_keeps outcome kept says
  other_kept outcome status taken taken_after kept kept_after says (part text is ends takes keeps) = keeps
  other_kept outcome status taken taken_after kept kept_after says (silent code same keeps) = keeps

-- ---- one outcome

module _ (laws : Laws) (files : FileMap) (words : List (List ℕ)) where
  abbrev IsOne : Outcome → Outcome → Type 0
  IsOne a b = status_of b ≢ 6 → status_of b ≢ 9 → (status_of a ≡ status_of b) × (text_of a ≡ text_of b)

  pub one_outcome : (a b : Outcome) → (AreOfCheck words → ⊥) → Says (Some files) words a → Says (Some files) words b
      → status_of a ≢ 6 → status_of b ≢ 6 → status_of a ≢ 9 → status_of b ≢ 9 → (status_of a ≡ status_of b) × (text_of a ≡ text_of b)
  one_outcome NoCommand NoCommand other says said read also_read roomy also_roomy = (refl, refl)
  one_outcome NoCommand (Check result) other says said read also_read roomy also_roomy = absurd (other (said.0, said.1))
  one_outcome NoCommand (Replay result) other says said read also_read roomy also_roomy =
      absurd (says (inr (said.0, said.1, inl said.2)))
  one_outcome NoCommand (Recheck result) other says said read also_read roomy also_roomy =
      absurd (says (inr (said.0, said.1, inr (inl said.2))))
  one_outcome NoCommand (Show result) other says said read also_read roomy also_roomy =
      absurd (says (inr (said.0, said.1, inr (inr said.2))))
  one_outcome (Check result) b other says said read also_read roomy also_roomy = absurd (other (says.0, says.1))
  one_outcome (Replay result) b other says said read also_read roomy also_roomy =
      let x = says.0 in let y = says.1 in
      of_replay (Some files) words (IsOne (Replay result)) x y b says.2 said (λ again so readable roomy_too.
      one_came report_of files x y laws.replays _ _ _ _ (by_result files x y result says.3 read roomy)
      (by_result files x y again so readable roomy_too)) also_read also_roomy
  one_outcome (Recheck result) b other says said read also_read roomy also_roomy =
      let x = says.0 in let y = says.1 in
      of_recheck (Some files) words (IsOne (Recheck result)) x y b says.2 said (λ again so readable roomy_too.
      recheck.one_came files x y (laws.rechecks files x y) _ _ _ _ (recheck_came files x y result says.3 read roomy)
      (recheck_came files x y again so readable roomy_too)) also_read also_roomy
  one_outcome (Show result) b other says said read also_read roomy also_roomy =
      let x = says.0 in let y = says.1 in
      of_show (Some files) words (IsOne (Show result)) x y b says.2 said (λ again so readable roomy_too.
      one_came show_of files x y laws.replays _ _ _ _ (by_show files x y result says.3 read roomy)
      (by_show files x y again so readable roomy_too)) also_read also_roomy

-- ---- a command, exactly

module _ (laws : Laws) (files : FileMap) (words : List (List ℕ)) (outcome : Outcome) (says : Says (Some files) words outcome)
    (read : status_of outcome ≢ 6) (roomy : status_of outcome ≢ 9) (text : List ℕ) (told : text_of outcome ≡ Some text)
    (IsTaken : List ℕ → Type 0) (taken : IsTaken text) where
  replay_exactly : (x y : List ℕ) → IsReplay words x y → ReplaysExactly report_of files x y (status_of outcome) IsTaken
  replay_exactly x y is =
      of_replay (Some files) words
      (λ o. status_of o ≢ 6 → status_of o ≢ 9 → text_of o ≡ Some text → ReplaysExactly report_of files x y (status_of o) IsTaken)
      x y outcome is says (λ result said readable room of.
      replays_exactly report_of files x y laws.replays (replay_status result) text IsTaken taken
      (subst (Came report_of files x y (replay_status result)) of (by_result files x y result said readable room))) read roomy told

  show_exactly : (x y : List ℕ) → IsShow words x y → ReplaysExactly show_of files x y (status_of outcome) IsTaken
  show_exactly x y is =
      of_show (Some files) words
      (λ o. status_of o ≢ 6 → status_of o ≢ 9 → text_of o ≡ Some text → ReplaysExactly show_of files x y (status_of o) IsTaken)
      x y outcome is says (λ result said readable room of.
      replays_exactly show_of files x y laws.replays (show_status result) text IsTaken taken
      (subst (Came show_of files x y (show_status result)) of (by_show files x y result said readable room))) read roomy told

  recheck_exactly : (x y : List ℕ) → IsRecheck words x y → RechecksExactly files x y (status_of outcome) IsTaken
  recheck_exactly x y is =
      of_recheck (Some files) words
      (λ o. status_of o ≢ 6 → status_of o ≢ 9 → text_of o ≡ Some text → RechecksExactly files x y (status_of o) IsTaken)
      x y outcome is says (λ result said readable room of.
      rechecks_exactly files x y (laws.rechecks files x y) (recheck_status result) text IsTaken taken
      (subst (RecheckCame files x y (recheck_status result)) of (recheck_came files x y result said readable room))) read roomy told

-- a check, also by what the files hold behind it
module _ (law : (files : FileMap) (case_file : List ℕ) → FilesDecideOneCheck files case_file) (files : FileMap) (after : Option FileMap)
    (words : List (List ℕ)) (outcome : Outcome) (says : Says (Some files) words outcome) (left : Leaves words outcome (Some files) after)
    (read : status_of outcome ≢ 6) (written : status_of outcome ≢ 7) (roomy : status_of outcome ≢ 9) (text : List ℕ)
    (told : text_of outcome ≡ Some text) (IsTaken : List ℕ → Type 0) (IsKept : Option (List ℕ) → Type 0) (taken : IsTaken text)
    (kept : IsKept (keeps_of outcome)) where
  check_exactly : (x : List ℕ) → IsCheck words x → ChecksExactly files after x (status_of outcome) IsTaken IsKept
  check_exactly x is =
      of_check (Some files) words
      (λ o. Leaves words o (Some files) after → status_of o ≢ 6 → status_of o ≢ 7 → status_of o ≢ 9 → text_of o ≡ Some text
      → IsKept (keeps_of o) → ChecksExactly files after x (status_of o) IsTaken IsKept)
      x outcome is says (λ result said leaves readable wrote room of keeps.
      checks_exactly files after x (law files x) (check_status result) text (check_keeps result) IsTaken IsKept taken keeps
      (subst (λ t. CheckCame files after x (check_status result) t (check_keeps result)) of
      (check_came files after x result said (leaves x is) readable wrote room))) left read written roomy told kept

-- ---- the promises

-- what a run came to, and where it went
pub record CameTo {S : Type 0} (sink_call : List ℕ → Result ℕ SinkFault → S → S → Type 0) (call : Call S) (outcome : Outcome) : Type 0 where
  pub says : Says call.told call.words outcome
  pub leaves : Leaves call.words outcome call.told call.told_after
  pub counted : Counts (status_of outcome) call.reads call.reads_after
  pub named : IsUnread (unread_of outcome) call.unread_after
  pub writes : LeavesWrites outcome call.writes call.writes_after
  pub offers : Offers sink_call outcome call.status call.out call.out_after
  pub delivers : Delivers outcome call.status call.taken call.taken_after call.kept call.kept_after
  pub unwritten : call.status ≡ 7 → status_of outcome ≢ 7 → HasRisen call.sink call.sink_after
  pub all_taken : call.status ≢ 7 → call.sink_after ≡ call.sink

-- the sink before and behind a call
abbrev pub sinks_of : {S : Type 0} → Call S → Sinks S
sinks_of call = record { old = call.out; new = call.out_after; taken = call.taken; taken_after = call.taken_after }

-- so it is where what is told of the outcome was printed, and kept
pub came_to : {S : Type 0} (sink_call : List ℕ → Result ℕ SinkFault → S → S → Type 0) (call : Call S) (outcome : Outcome) (told : Told)
    (printed : Printed) → call.status ≡ printed.status → Says call.told call.words outcome
    → Leaves call.words outcome call.told call.told_after → Counts (status_of outcome) call.reads call.reads_after
    → IsUnread (unread_of outcome) call.unread_after → LeavesWrites outcome call.writes call.writes_after → IsToldOf outcome told
    → call.kept_after ≡ kept_if printed.whole told.keep call.kept → Prints sink_call told printed (sinks_of call)
    → (printed.status ≡ 7 → told.status ≢ 7 → HasRisen call.sink call.sink_after) → (printed.status ≢ 7 → call.sink_after ≡ call.sink)
    → CameTo sink_call call outcome
came_to sink_call call outcome told printed same says leaves counted named writes is keeps prints unwritten all_taken =
    let goes : GoesTo sink_call outcome printed.status (sinks_of call) call.kept call.kept_after =
    goes_to sink_call outcome told printed (sinks_of call) call.kept call.kept_after is keeps prints in
    record {
      says = says;
      leaves = leaves;
      counted = counted;
      named = named;
      writes = writes;
      offers = subst (λ n. Offers sink_call outcome n call.out call.out_after) (sym same) goes.offers;
      delivers = subst (λ n. Delivers outcome n call.taken call.taken_after call.kept call.kept_after) (sym same) goes.delivers;
      unwritten = λ e other. unwritten (sym same ∙ e) (λ h. other (sym is.status ∙ h));
      all_taken = λ other. all_taken (λ h. other (same ∙ h));
    }

module _ {S : Type 0} (sink_call : List ℕ → Result ℕ SinkFault → S → S → Type 0) (call : Call S) (outcome : Outcome)
    (came : CameTo sink_call call outcome) where
  whole_is : IsSettled call.status → IsWhole outcome call.status call.taken call.taken_after call.kept call.kept_after
  whole_is is = settled outcome call.status call.taken call.taken_after call.kept call.kept_after is came.delivers

  code_is : IsSettled call.status → call.status ≡ status_of outcome
  code_is is = (whole_is is).code

  read_is : IsSettled call.status → status_of outcome ≢ 6
  read_is is e = is.readable (code_is is ∙ e)

  written_is : IsSettled call.status → status_of outcome ≢ 7
  written_is is e = is.written (code_is is ∙ e)

  roomy_is : IsSettled call.status → status_of outcome ≢ 9
  roomy_is is e = is.roomy (code_is is ∙ e)

  all_read : IsSettled call.status → call.reads_after ≡ call.reads
  all_read is = came.counted.stays (read_is is) (roomy_is is)

  -- ---- a file that can't be read

  names : TellsUnread (Asks call.told call.words) (unread_of outcome) (text_of outcome) → (text : List ℕ) → text_of outcome ≡ Some text
      → IsTakenIn call text → NamesUnread call
  names tells text of takes =
      let same : text ≡ read_line tells.file = same_Some text (read_line tells.file) (sym of ∙ tells.line) in
      let last : IsUnread (Some tells.file) call.unread_after = subst (λ o. IsUnread o call.unread_after) tells.is came.named in
      record { file = tells.file; asked = tells.asked; last = last.last; taken = subst (IsTakenIn call) same takes }

  -- with this status the outcome's text is taken whole
  six_whole : (P : Type 0) → call.status ≡ 6
      → ((text : List ℕ) → text_of outcome ≡ Some text → status_of outcome ≡ 6 → IsTakenIn call text → P)
      → Delivers outcome call.status call.taken call.taken_after call.kept call.kept_after → P
  six_whole P e so (whole text of code takes kept) = so text of (sym code ∙ e) takes
  six_whole P e so (part text of (inl h) takes kept) = absurd (omega (arith, e, h))
  six_whole P e so (part text of (inr h) takes kept) = absurd (omega (arith, e, h))
  six_whole P e so (silent code same kept) = absurd (lead (silent_ends (status_of outcome)))
    where
      lead : (silent_status (status_of outcome) ≡ 7) ⊎ (silent_status (status_of outcome) ≡ 9) → ⊥
      lead (inl h) = let f : 6 ≡ 7 = sym e ∙ code ∙ h in omega (arith, f)
      lead (inr h) = let f : 6 ≡ 9 = sym e ∙ code ∙ h in omega (arith, f)

  unread_is : call.status ≡ 6 → HasRisen call.reads call.reads_after
  unread_is e = six_whole _ e (λ text of six takes. came.counted.rises six) came.delivers

  names_unread : call.status ≡ 6 → NamesUnread call
  names_unread e =
      six_whole _ e (λ text of six takes. names (asks_of call.told call.words outcome came.says six) text of takes) came.delivers

  -- ---- what can't be written

  unwritten_is : call.status ≡ 7 → HasRisen call.writes call.writes_after ⊎ HasRisen call.sink call.sink_after
  unwritten_is e = elim (cases_eq (status_of outcome) 7) [
    | inl is ↦ inl (writes_rise outcome call.writes call.writes_after came.writes is)
    | inr other ↦ inr (came.unwritten e other)
  ]

  -- an outcome with the status of a write fault gives it to the run
  seven_stays : Delivers outcome call.status call.taken call.taken_after call.kept call.kept_after → status_of outcome ≡ 7
      → call.status ≡ 7
  seven_stays (whole text of code takes kept) h = code ∙ h
  seven_stays (part text of ends takes kept) h = absurd (none-some text (sym (seven_none outcome h) ∙ of))
  seven_stays (silent code same kept) h = code ∙ ap silent_status h

  all_written : call.status ≢ 7 → call.writes_after ≡ call.writes
  all_written other = writes_stay outcome call.writes call.writes_after came.writes (λ h. other (seven_stays came.delivers h))

  -- ---- a check

  check_had : (x : List ℕ) → IsCheck call.words x → HasVerdict call.status
      → IsHad call.told call.told_after x call.status (IsTakenIn call) (IsKeptIn call)
  check_had x is verdict =
      let w = whole_is (verdict_settled call.status verdict) in
      of_check call.told call.words
      (λ o. Leaves call.words o call.told call.told_after → text_of o ≡ Some w.text → call.status ≡ status_of o
      → call.kept_after ≡ kept_by o call.kept → IsHad call.told call.told_after x call.status (IsTakenIn call) (IsKeptIn call))
      x outcome is came.says (λ result said leaves of code kept. had_by call x result w.text (leaves x is) of code w.takes kept verdict)
      came.leaves w.is w.code w.kept_is

  check_others : (x : List ℕ) → IsCheck call.words x → KeepsOthers x call.told call.told_after
  check_others x is =
      of_check call.told call.words (λ o. Leaves call.words o call.told call.told_after → KeepsOthers x call.told call.told_after)
      x outcome is came.says (λ result said leaves. keeps_others x result call.told call.told_after (leaves x is)) came.leaves

  check_chain : (x : List ℕ) → IsCheck call.words x → (HasVerdict call.status → ⊥) → KeepsChain call x
  check_chain x is none =
      of_check call.told call.words
      (λ o. Delivers o call.status call.taken call.taken_after call.kept call.kept_after → KeepsChain call x)
      x outcome is came.says (λ result said delivers. keeps_chain call x result said delivers none) came.delivers

  module _ (laws : Laws) where
    check_is : (x : List ℕ) → IsCheck call.words x → (files : FileMap) → call.told ≡ Some files → IsSettled call.status
        → ChecksExactly files call.told_after x call.status (IsTakenIn call) (IsKeptIn call)
    check_is x words files told is =
        let w = whole_is is in
        subst (λ n. ChecksExactly files call.told_after x n (IsTakenIn call) (IsKeptIn call)) (sym w.code)
        (check_exactly laws.checks files call.told_after call.words outcome (subst (λ t. Says t call.words outcome) told came.says)
        (subst (λ t. Leaves call.words outcome t call.told_after) told came.leaves) (read_is is) (written_is is) (roomy_is is) w.text w.is
        (IsTakenIn call) (IsKeptIn call) w.takes w.kept_is x words)

    checks_so : (x : List ℕ) → IsCheck call.words x → ChecksSo call x
    checks_so x is = record {
      verdict = check_had x is;
      others = check_others x is;
      chain = check_chain x is;
      exactly = check_is x is;
    }

    -- ---- a recheck

    recheck_had : (x y : List ℕ) → IsRecheck call.words x y → HasVerdict call.status
        → IsTold call.told x y call.status (IsTakenIn call)
    recheck_had x y is verdict =
        let w = whole_is (verdict_settled call.status verdict) in
        of_recheck call.told call.words
        (λ o. text_of o ≡ Some w.text → call.status ≡ status_of o → IsTold call.told x y call.status (IsTakenIn call))
        x y outcome is came.says (λ result said of code.
        subst (λ n. IsTold call.told x y n (IsTakenIn call)) (sym code)
        (recheck_told call.told x y result w.text (IsTakenIn call) said (subst (λ n. n < 3) code (verdict_below call.status verdict)) of
        w.takes)) w.is w.code

    recheck_is : (x y : List ℕ) → IsRecheck call.words x y → (files : FileMap) → call.told ≡ Some files → IsSettled call.status
        → RechecksExactly files x y call.status (IsTakenIn call)
    recheck_is x y words files told is =
        let w = whole_is is in
        subst (λ n. RechecksExactly files x y n (IsTakenIn call)) (sym w.code)
        (recheck_exactly laws files call.words outcome (subst (λ t. Says t call.words outcome) told came.says) (read_is is) (roomy_is is)
        w.text w.is (IsTakenIn call) w.takes x y words)

    rechecks_so : (x y : List ℕ) → IsRecheck call.words x y → RechecksSo call x y
    rechecks_so x y is = record { verdict = recheck_had x y is; exactly = recheck_is x y is }

    -- ---- a replay and a show

    replay_is : (files : FileMap) (x y : List ℕ) → call.told ≡ Some files → IsReplay call.words x y → IsSettled call.status
        → ReplaysExactly report_of files x y call.status (IsTakenIn call)
    replay_is files x y told words is =
        let w = whole_is is in
        subst (λ n. ReplaysExactly report_of files x y n (IsTakenIn call)) (sym w.code)
        (replay_exactly laws files call.words outcome (subst (λ t. Says t call.words outcome) told came.says) (read_is is) (roomy_is is)
        w.text w.is (IsTakenIn call) w.takes x y words)

    show_is : (files : FileMap) (x y : List ℕ) → call.told ≡ Some files → IsShow call.words x y → IsSettled call.status
        → ReplaysExactly show_of files x y call.status (IsTakenIn call)
    show_is files x y told words is =
        let w = whole_is is in
        subst (λ n. ReplaysExactly show_of files x y n (IsTakenIn call)) (sym w.code)
        (show_exactly laws files call.words outcome (subst (λ t. Says t call.words outcome) told came.says) (read_is is) (roomy_is is)
        w.text w.is (IsTakenIn call) w.takes x y words)

    -- ---- all of them

    pub promised : Promises sink_call call
    promised = record {
      answer = record {
        outcome = outcome;
        says = came.says;
        leaves = came.leaves;
        counted = came.counted;
        named = came.named;
        written = came.writes;
        offers = came.offers;
        delivers = came.delivers;
      };
      no_command = λ is. (
        λ e. unspelled call.told call.words outcome came.says (sym (code_is is) ∙ e),
        λ other. code_is is ∙ answered_words call.told call.words outcome came.says other,
      );
      check = checks_so;
      recheck = rechecks_so;
      replay = replay_is;
      show = show_is;
      files_stay = λ other. other_files call.told call.words other outcome call.told call.told_after came.says came.leaves;
      kept_stays = λ other.
          other_kept call.told call.words other outcome call.status call.taken call.taken_after call.kept call.kept_after came.says
          came.delivers;
      no_writes = λ other. other_writes call.told call.words other outcome call.writes call.writes_after came.says came.writes;
      unread = unread_is;
      names_unread = names_unread;
      all_read = all_read;
      never_falls = came.counted.never_falls;
      unwritten = unwritten_is;
      all_written = all_written;
      all_taken = came.all_taken;
    }

-- ---- what a check leaves, by the words that were read

pub leaves_check : (words : List (List ℕ)) (case : List ℕ) (result : Result Checked CheckStop) (old new : Option FileMap) → IsCheck words case
    → LeavesFiles case result old new → Leaves words (Check result) old new
leaves_check words case result old new is leaves = λ other also.
    subst (λ f. LeavesFiles f result old new) (second_word words (codes "check") case other [] [] is also) leaves
