-- What the words come to, with the status and the text that go with it, and what is kept of it.
use Rattle.std.specs.Prelude.{ℕ, List, codes, ◌==◌, if◌then◌else◌, Option, Some, None, unwrap_or}
use Rattle.pv_command_check.specs.Checks.{check_status, check_unread, check_text, check_keeps}
use Rattle.pv_command_show.specs.Handed.{replay_status, replay_unread, replay_text}
use Rattle.pv_command_recheck.specs.Rechecks.{recheck_status, recheck_unread, recheck_text}
use Rattle.pv_command_show.specs.Shows.{show_status, show_unread, shown_text}
use Rattle.pv_top.specs.declared.outcome.Outcome.{Outcome}
use Rattle.pv_top.specs.declared.outcome.Outcome.TheVariants.{NoCommand, Check, Replay, Recheck, Show}

abbrev pub words_line : List ℕ
words_line = codes "plcv: words\n"

abbrev pub status_of : Outcome → ℕ
status_of NoCommand = 5
status_of (Check result) = check_status result
status_of (Replay result) = replay_status result
status_of (Recheck result) = recheck_status result
status_of (Show result) = show_status result

-- the file that is told as one that can't be read
abbrev pub unread_of : Outcome → Option (List ℕ)
unread_of NoCommand = None
unread_of (Check result) = check_unread result
unread_of (Replay result) = replay_unread result
unread_of (Recheck result) = recheck_unread result
unread_of (Show result) = show_unread result

-- what is printed, none where memory ends or a certificate can't be written
abbrev pub text_of : Outcome → Option (List ℕ)
text_of NoCommand = Some words_line
text_of (Check result) = check_text result
text_of (Replay result) = replay_text result
text_of (Recheck result) = recheck_text result
text_of (Show result) = shown_text result

-- the status of a run whose outcome has this one, where no text is offered: a certificate couldn't be written, or else memory ended
abbrev pub silent_status : ℕ → ℕ
silent_status status = if status == 7 then 7 else 9

-- what there is to keep once the text is taken whole
abbrev pub keeps_of : Outcome → Option (List ℕ)
keeps_of NoCommand = None
keeps_of (Check result) = check_keeps result
keeps_of (Replay result) = None
keeps_of (Recheck result) = None
keeps_of (Show result) = None

-- what is kept then: that, or what was kept before
abbrev pub kept_by : Outcome → List ℕ → List ℕ
kept_by outcome kept = unwrap_or (keeps_of outcome) kept
