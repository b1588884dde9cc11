use Rattle.std.proofs.Common.{◌≤◌, [], length, refl, sym, subst, ◌∙◌}
use Rattle.pv_types.specs.declared.layout.TheConstants.{MAX_LEAVES}
use Rattle.pv_case.specs.Cases.{data_of}
use Rattle.pv_command_load.specs.Held.{IsUnread}
use Rattle.pv_command_load.specs.declared.subject.SubjectStop.TheVariants as stop_at
use Rattle.pv_command_load.proofs.ForCallers.{passed, are_read, none_unread, code_count, code_short, is_case, held_texts, given_by, are_given, reads_kept, reads_project, reads_table, has_source}
use Rattle.pv_bool_load.specs.declared.stop.FirstStop.TheVariants.{Subject as At_subject}
use Rattle.pv_bool_load.specs.Stops.{first_stop_status, first_stop_unread, StopsFirst}
use Rattle.pv_bool_load.proofs.Working.{no_symbols, few_sources, few_alone, stays, first_other, passed_counts, stops_source, are_first}
use Rattle.pv_bool_load.proofs.Stages.{stops_table, stops_fit, table_unread, fit_unread}
use Rattle.pv_bool_load.proofs.Joining.{joined_found, joined_stopped, joined_counted, joined_named, reads_all, data_by, is_subject}
use Rattle.pv_bool_load.proofs.subject.first_subject_in.Goals as goal

pub returns-in_err-case-clause-stopped : goal.returns-in_err-case-clause-stopped
returns-in_err-case-clause-stopped g c =
    passed (StopsFirst (g.F.Files.told c.args.files.now) c.args.case_file.now) c.from_residual.result c.in_err-case.field-0.0
    c.from_residual.ensures.1 c.in_err-case.ensures.stopped

pub sources_in-requires : goal.sources_in-requires
sources_in-requires g c = record { few = few_sources c.in_ok-case.case c.in_ok-case.ensures.found.1 }

pub returns-in_err-sources-clause-stopped : goal.returns-in_err-sources-clause-stopped
returns-in_err-sources-clause-stopped g c =
    let told = g.F.Files.told c.args.files.now in
    let file = c.args.case_file.now in
    let stop = c.in_err-sources.field-0.0 in
    let found = c.in_ok-case.ensures.found in
    passed (StopsFirst told file) c.from_residual-in_err-sources.result (At_subject (stop_at.Source stop))
    c.from_residual-in_err-sources.ensures.1
    (stops_source told _ file (data_of c.in_ok-case.case) stop c.in_ok-case.ensures.files found.0 found.1 c.in_err-sources.ensures.stopped)

pub first_project-requires-clause-read : goal.first_project-requires-clause-read
first_project-requires-clause-read g c =
    are_read _ _ c.in_ok-sources.sources c.as_slice.result.now c.as_slice.ensures.value c.in_ok-sources.ensures.found

pub returns-in_err-project-clause-stopped : goal.returns-in_err-project-clause-stopped
returns-in_err-project-clause-stopped g c =
    let told = g.F.Files.told c.args.files.now in
    let file = c.args.case_file.now in
    let case = c.in_ok-case.case in
    let sources = c.in_ok-sources.sources in
    let found = c.in_ok-case.ensures.found in
    let has = c.in_ok-sources.ensures.found in
    let given = given_by (data_of case) has.read in
    let are = are_given _ case sources c.as_slice.result.now [] c.as_slice.ensures.value (no_symbols case found.1) has in
    let reads = reads_kept told _ file (data_of case) sources c.in_ok-case.ensures.files found.0 has in
    passed (StopsFirst told file) c.from_residual-in_err-project.result c.in_err-project.field-0.0
    c.from_residual-in_err-project.ensures.1 (c.in_err-project.ensures.stopped told file given refl found.1 are reads)

pub returns-in_err-project-clause-counted : goal.returns-in_err-project-clause-counted
returns-in_err-project-clause-counted g c =
    let stop = c.in_err-project.field-0.0 in
    passed_counts c.from_residual-in_err-project.result stop _ _ _ c.from_residual-in_err-project.ensures.1
    (stays (first_stop_status stop) _ _ c.in_err-project.ensures.unread (c.in_ok-sources.ensures.counted ∙ c.in_ok-case.ensures.counted))

pub table_of-requires-clause-short : goal.table_of-requires-clause-short
table_of-requires-clause-short g c =
    let said = data_of c.in_ok-case.case in code_short said _ (held_texts _ _ said c.in_ok-case.ensures.found.0) refl

pub table_of-requires-clause-few : goal.table_of-requires-clause-few
table_of-requires-clause-few g c =
    let case = c.in_ok-case.case in
    let found = c.in_ok-case.ensures.found in
    let has = c.in_ok-sources.ensures.found in
    let given = given_by (data_of case) has.read in
    let are = are_given _ case c.in_ok-sources.sources c.as_slice.result.now [] c.as_slice.ensures.value (no_symbols case found.1) has in
    few_alone given c.in_ok-project.project (c.in_ok-project.ensures.found given refl found.1 are)

pub returns-in_err-entry-clause-stopped : goal.returns-in_err-entry-clause-stopped
returns-in_err-entry-clause-stopped g c =
    let told = g.F.Files.told c.args.files.now in
    let file = c.args.case_file.now in
    let case = c.in_ok-case.case in
    let sources = c.in_ok-sources.sources in
    let found = c.in_ok-case.ensures.found in
    let has = c.in_ok-sources.ensures.found in
    let given = given_by (data_of case) has.read in
    let are = are_given _ case sources c.as_slice.result.now [] c.as_slice.ensures.value (no_symbols case found.1) has in
    let reads = reads_kept told _ file (data_of case) sources c.in_ok-case.ensures.files found.0 has in
    let project = c.in_ok-project.ensures.found given refl found.1 are in
    let first = are_first given found.1 project.1 in
    let kept = reads_project told file given c.in_ok-project.project reads project.0 in
    let stop = c.in_err-entry.field-0.0 in
    passed (StopsFirst told file) c.from_residual-in_err-entry.result (At_subject (stop_at.Table stop))
    c.from_residual-in_err-entry.ensures.1
    (stops_table told file given stop kept first (c.in_err-entry.ensures.stopped given (is_case case) project.0))

pub returns-in_err-entry-clause-counted : goal.returns-in_err-entry-clause-counted
returns-in_err-entry-clause-counted g c =
    let stop = At_subject (stop_at.Table c.in_err-entry.field-0.0) in
    passed_counts c.from_residual-in_err-entry.result stop _ _ _ c.from_residual-in_err-entry.ensures.1
    (stays (first_stop_status stop) _ _ (table_unread c.in_err-entry.field-0.0) (c.in_ok-sources.ensures.counted ∙ c.in_ok-case.ensures.counted))

pub fitted-requires-clause-count : goal.fitted-requires-clause-count
fitted-requires-clause-count g c =
    let said = data_of c.in_ok-case.case in code_count said _ _ (held_texts _ _ said c.in_ok-case.ensures.found.0) refl refl

pub fitted-requires-clause-short : goal.fitted-requires-clause-short
fitted-requires-clause-short g c =
    let said = data_of c.in_ok-case.case in code_short said _ (held_texts _ _ said c.in_ok-case.ensures.found.0) refl

pub fitted-requires-clause-entered : goal.fitted-requires-clause-entered
fitted-requires-clause-entered g c =
    let told = g.F.Files.told c.args.files.now in
    let file = c.args.case_file.now in
    let case = c.in_ok-case.case in
    let sources = c.in_ok-sources.sources in
    let found = c.in_ok-case.ensures.found in
    let has = c.in_ok-sources.ensures.found in
    let given = given_by (data_of case) has.read in
    let are = are_given _ case sources c.as_slice.result.now [] c.as_slice.ensures.value (no_symbols case found.1) has in
    let reads = reads_kept told _ file (data_of case) sources c.in_ok-case.ensures.files found.0 has in
    let project = c.in_ok-project.ensures.found given refl found.1 are in
    let kept = reads_project told file given c.in_ok-project.project reads project.0 in
    let made = c.in_ok-entry.ensures.found given (is_case case) project.0 in
    let filled = reads_table told file given made.0 c.in_ok-entry.entry c.in_ok-entry.table kept made.1 in
    has_source c.views_keep_paths_types_and_starts.ensures.types told file given made.0 c.in_ok-entry.entry c.in_ok-entry.table
    c.in_ok-project.project filled project.0 made.1

pub fitted-requires-clause-few : goal.fitted-requires-clause-few
fitted-requires-clause-few g c =
    let told = g.F.Files.told c.args.files.now in
    let file = c.args.case_file.now in
    let case = c.in_ok-case.case in
    let sources = c.in_ok-sources.sources in
    let found = c.in_ok-case.ensures.found in
    let has = c.in_ok-sources.ensures.found in
    let given = given_by (data_of case) has.read in
    let are = are_given _ case sources c.as_slice.result.now [] c.as_slice.ensures.value (no_symbols case found.1) has in
    let reads = reads_kept told _ file (data_of case) sources c.in_ok-case.ensures.files found.0 has in
    let project = c.in_ok-project.ensures.found given refl found.1 are in
    let made = c.in_ok-entry.ensures.found given (is_case case) project.0 in
    subst (λ l. length l ≤ MAX_LEAVES) (sym made.1.cells) made.1.has.few

pub returns-in_err-view-clause-stopped : goal.returns-in_err-view-clause-stopped
returns-in_err-view-clause-stopped g c =
    let told = g.F.Files.told c.args.files.now in
    let file = c.args.case_file.now in
    let case = c.in_ok-case.case in
    let sources = c.in_ok-sources.sources in
    let found = c.in_ok-case.ensures.found in
    let has = c.in_ok-sources.ensures.found in
    let given = given_by (data_of case) has.read in
    let are = are_given _ case sources c.as_slice.result.now [] c.as_slice.ensures.value (no_symbols case found.1) has in
    let reads = reads_kept told _ file (data_of case) sources c.in_ok-case.ensures.files found.0 has in
    let project = c.in_ok-project.ensures.found given refl found.1 are in
    let first = are_first given found.1 project.1 in
    let kept = reads_project told file given c.in_ok-project.project reads project.0 in
    let made = c.in_ok-entry.ensures.found given (is_case case) project.0 in
    let filled = reads_table told file given made.0 c.in_ok-entry.entry c.in_ok-entry.table kept made.1 in
    let stop = c.in_err-view.field-0.0 in
    passed (StopsFirst told file) c.from_residual-in_err-view.result (At_subject (stop_at.Fit stop))
    c.from_residual-in_err-view.ensures.1
    (stops_fit told file given made.0 stop filled first (c.in_err-view.ensures.stopped given made.0 (is_case case) project.0 made.1))

pub returns-in_err-view-clause-counted : goal.returns-in_err-view-clause-counted
returns-in_err-view-clause-counted g c =
    let stop = At_subject (stop_at.Fit c.in_err-view.field-0.0) in
    passed_counts c.from_residual-in_err-view.result stop _ _ _ c.from_residual-in_err-view.ensures.1
    (stays (first_stop_status stop) _ _ (fit_unread c.in_err-view.field-0.0) (c.in_ok-sources.ensures.counted ∙ c.in_ok-case.ensures.counted))

pub program_in-made-requires-clause-short : goal.program_in-made-requires-clause-short
program_in-made-requires-clause-short g c =
    let said = data_of c.in_ok-case.case in code_short said _ (held_texts _ _ said c.in_ok-case.ensures.found.0) refl

pub program_in-made-requires-clause-first : goal.program_in-made-requires-clause-first
program_in-made-requires-clause-first g c =
    let told = g.F.Files.told c.args.files.now in
    let file = c.args.case_file.now in
    let case = c.in_ok-case.case in
    let sources = c.in_ok-sources.sources in
    let found = c.in_ok-case.ensures.found in
    let has = c.in_ok-sources.ensures.found in
    let given = given_by (data_of case) has.read in
    let are = are_given _ case sources c.as_slice.result.now [] c.as_slice.ensures.value (no_symbols case found.1) has in
    let reads = reads_kept told _ file (data_of case) sources c.in_ok-case.ensures.files found.0 has in
    let project = c.in_ok-project.ensures.found given refl found.1 are in
    let first = are_first given found.1 project.1 in
    let kept = reads_project told file given c.in_ok-project.project reads project.0 in
    let made = c.in_ok-entry.ensures.found given (is_case case) project.0 in
    let filled = reads_table told file given made.0 c.in_ok-entry.entry c.in_ok-entry.table kept made.1 in
    let fit = c.in_ok-view.ensures.found given made.0 (is_case case) project.0 made.1 in
    let s = data_by given made.0 c.in_ok-view.view fit.0 in
    let all = reads_all told file given made.0 c.in_ok-entry.entry c.in_ok-view.view c.in_ok-view.pattern fit.0 filled fit.1 in
    record { told = told; file = file; subject = s; of_case = is_case case; are = first; reads = all; is = project.0; there = made.1.is }

pub returns-clause-found : goal.returns-clause-found
returns-clause-found g c =
    let told = g.F.Files.told c.args.files.now in
    let file = c.args.case_file.now in
    let case = c.in_ok-case.case in
    let sources = c.in_ok-sources.sources in
    let found = c.in_ok-case.ensures.found in
    let has = c.in_ok-sources.ensures.found in
    let given = given_by (data_of case) has.read in
    let are = are_given _ case sources c.as_slice.result.now [] c.as_slice.ensures.value (no_symbols case found.1) has in
    let reads = reads_kept told _ file (data_of case) sources c.in_ok-case.ensures.files found.0 has in
    let project = c.in_ok-project.ensures.found given refl found.1 are in
    let first = are_first given found.1 project.1 in
    let kept = reads_project told file given c.in_ok-project.project reads project.0 in
    let made = c.in_ok-entry.ensures.found given (is_case case) project.0 in
    let filled = reads_table told file given made.0 c.in_ok-entry.entry c.in_ok-entry.table kept made.1 in
    let fit = c.in_ok-view.ensures.found given made.0 (is_case case) project.0 made.1 in
    let s = data_by given made.0 c.in_ok-view.view fit.0 in
    let all = reads_all told file given made.0 c.in_ok-entry.entry c.in_ok-view.view c.in_ok-view.pattern fit.0 filled fit.1 in
    joined_found told file s c.program_in-made.result c.with_program.result c.with_program.ensures.ok
    (c.program_in-made.ensures.found told s (is_case case) first all project.0 made.1.is)
    (is_subject _ given made.0 c.in_ok-entry.entry fit.0 c.in_ok-entry.table (is_case case) has.texts project.0 made.1 fit.1
    c.in_ok-view.ensures.params c.in_ok-view.ensures.bytes)

pub returns-clause-stopped : goal.returns-clause-stopped
returns-clause-stopped g c =
    let told = g.F.Files.told c.args.files.now in
    let file = c.args.case_file.now in
    let case = c.in_ok-case.case in
    let sources = c.in_ok-sources.sources in
    let found = c.in_ok-case.ensures.found in
    let has = c.in_ok-sources.ensures.found in
    let given = given_by (data_of case) has.read in
    let are = are_given _ case sources c.as_slice.result.now [] c.as_slice.ensures.value (no_symbols case found.1) has in
    let reads = reads_kept told _ file (data_of case) sources c.in_ok-case.ensures.files found.0 has in
    let project = c.in_ok-project.ensures.found given refl found.1 are in
    let first = are_first given found.1 project.1 in
    let kept = reads_project told file given c.in_ok-project.project reads project.0 in
    let made = c.in_ok-entry.ensures.found given (is_case case) project.0 in
    let filled = reads_table told file given made.0 c.in_ok-entry.entry c.in_ok-entry.table kept made.1 in
    let fit = c.in_ok-view.ensures.found given made.0 (is_case case) project.0 made.1 in
    let s = data_by given made.0 c.in_ok-view.view fit.0 in
    let all = reads_all told file given made.0 c.in_ok-entry.entry c.in_ok-view.view c.in_ok-view.pattern fit.0 filled fit.1 in
    joined_stopped told file c.program_in-made.result c.with_program.result
    (c.program_in-made.ensures.stopped told s (is_case case) first all project.0 made.1.is) c.with_program.ensures.err

pub returns-clause-counted : goal.returns-clause-counted
returns-clause-counted g c =
    joined_counted c.program_in-made.result c.with_program.result _ _ c.program_in-made.ensures.unread c.with_program.ensures.err
    (c.in_ok-sources.ensures.counted ∙ c.in_ok-case.ensures.counted)

pub returns-in_err-case-clause-named : goal.returns-in_err-case-clause-named
returns-in_err-case-clause-named g c =
    passed (λ e. IsUnread (first_stop_unread e) _) c.from_residual.result c.in_err-case.field-0.0
    c.from_residual.ensures.1 c.in_err-case.ensures.named

pub returns-in_err-sources-clause-named : goal.returns-in_err-sources-clause-named
returns-in_err-sources-clause-named g c =
    passed (λ e. IsUnread (first_stop_unread e) _) c.from_residual-in_err-sources.result (At_subject (stop_at.Source c.in_err-sources.field-0.0))
    c.from_residual-in_err-sources.ensures.1 c.in_err-sources.ensures.named

pub returns-in_err-project-clause-named : goal.returns-in_err-project-clause-named
returns-in_err-project-clause-named g c =
    passed (λ e. IsUnread (first_stop_unread e) _) c.from_residual-in_err-project.result c.in_err-project.field-0.0
    c.from_residual-in_err-project.ensures.1 (first_other c.in_err-project.field-0.0 _ c.in_err-project.ensures.unread)

pub returns-in_err-entry-clause-named : goal.returns-in_err-entry-clause-named
returns-in_err-entry-clause-named g c =
    passed (λ e. IsUnread (first_stop_unread e) _) c.from_residual-in_err-entry.result (At_subject (stop_at.Table c.in_err-entry.field-0.0))
    c.from_residual-in_err-entry.ensures.1 (none_unread _)

pub returns-in_err-view-clause-named : goal.returns-in_err-view-clause-named
returns-in_err-view-clause-named g c =
    passed (λ e. IsUnread (first_stop_unread e) _) c.from_residual-in_err-view.result (At_subject (stop_at.Fit c.in_err-view.field-0.0))
    c.from_residual-in_err-view.ensures.1 (none_unread _)

pub returns-clause-named : goal.returns-clause-named
returns-clause-named g c =
    joined_named c.program_in-made.result c.with_program.result _ c.program_in-made.ensures.unread c.with_program.ensures.err
