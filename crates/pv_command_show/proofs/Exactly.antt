-- From what a show came to, to what the files decide.
use Rattle.std.proofs.Common.{◌≡◌, ◌≢◌, ℕ, List, Option, Some, Result, Ok, Err, map, string_bytes, refl, ap, ◌∙◌}
use Rattle.pv_edge.specs.Files.{FileMap}
use Rattle.pv_command_replay.specs.Handed.{SubjectData, source_in, text_tree}
use Rattle.pv_command_replay.specs.declared.replay.ReplayStop.{ReplayStop}
use Rattle.pv_command_replay.proofs.ForCallers.{TellsUnread, Came, ends, by_stop, end_never_five, stop_never_five, end_never_six, stop_tells}
use Rattle.pv_command_replay.specs.Replays.{AsksReplay}
use Rattle.pv_command_show.specs.declared.show.Shown.{Shown}
use Rattle.pv_command_show.specs.Texts.{shown_scans, show_text}
use Rattle.pv_command_show.specs.Shows.{show_of, IsShown, SaysShow, show_status, show_unread, shown_text}

printed : (files : FileMap) (case_file trace_file : List ℕ) (s : SubjectData) (r : Shown)
    (is : IsShown (Some files) case_file trace_file s r)
    → show_text (string_bytes r.replayed.case) r.scans.items (map text_tree r.replayed.sources.items) r.replayed.end
    ≡ show_of s is.replayed.trace r.replayed.end
printed files case_file trace_file s r is =
    ap (λ z. show_text z r.scans.items (map text_tree r.replayed.sources.items) r.replayed.end) is.reported.name
    ∙ ap (λ z. show_text s.given.case.name z (map text_tree r.replayed.sources.items) r.replayed.end) is.scans
    ∙ ap (λ z. show_text s.given.case.name (shown_scans (source_in s) s.pattern is.replayed.trace r.replayed.end) z r.replayed.end)
    is.reported.texts

pub by_show : (files : FileMap) (case_file trace_file : List ℕ) (result : Result Shown ReplayStop)
    → SaysShow (Some files) case_file trace_file result → show_status result ≢ 6 → show_status result ≢ 9
    → Came show_of files case_file trace_file (show_status result) (shown_text result)
by_show files case_file trace_file (Ok r) h readable roomy =
    ends h.0 r.replayed.end h.1.replayed refl (ap Some (printed files case_file trace_file h.0 r h.1))
by_show files case_file trace_file (Err stop) h readable roomy = by_stop show_of files case_file trace_file stop h readable roomy

-- ---- a show is no other words' answer

pub show_never_five : (result : Result Shown ReplayStop) → show_status result ≡ 5 → ⊥
show_never_five (Ok r) e = end_never_five r.replayed.end e
show_never_five (Err stop) e = stop_never_five stop e

-- ---- a show with the status of a file that can't be read tells one that it asks for

pub show_tells : (told : Option FileMap) (case_file trace_file : List ℕ) (result : Result Shown ReplayStop)
    → SaysShow told case_file trace_file result → show_status result ≡ 6
    → TellsUnread (AsksReplay told case_file trace_file) (show_unread result) (shown_text result)
show_tells told case_file trace_file (Ok r) says six = absurd (end_never_six r.replayed.end six)
show_tells told case_file trace_file (Err stop) says six = stop_tells told case_file trace_file stop says six
