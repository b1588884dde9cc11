use Rattle.std.proofs.Common.{◌≤◌, length, sym, subst}
use Rattle.pv_types.specs.declared.layout.TheConstants.{MAX_LEAVES}
use Rattle.pv_case.specs.Cases.{data_of}
use Rattle.pv_command_load.specs.Held.{IsUnread}
use Rattle.pv_command_load.specs.declared.subject.SubjectStop.TheVariants as stop_at
use Rattle.pv_command_load.specs.Stops.{StopsSubject, subject_unread}
use Rattle.pv_command_load.proofs.Exits.{passed}
use Rattle.pv_command_load.proofs.CaseTexts.{code_count, code_short}
use Rattle.pv_command_load.proofs.SubjectLaws.{is_case, held_texts, given_by, are_given, reads_kept, reads_project, reads_table, reads_all, data_by, is_subject}
use Rattle.pv_command_load.proofs.FewBlocks.{few_blocks}
use Rattle.pv_command_load.proofs.Sourced.{has_source}
use Rattle.pv_command_load.proofs.Unread.{none_unread}
use Rattle.pv_command_load.proofs.Located.{are_read}
use Rattle.pv_command_load.proofs.subject.subject_in.Goals as goal

pub returns-in_err-project-clause-stopped : goal.returns-in_err-project-clause-stopped
returns-in_err-project-clause-stopped g c =
    let told = g.F.Files.told c.args.files.now in
    let file = c.args.case_file.now in
    let case = c.in_ok-case.case in
    let has = c.in_ok-sources.ensures.found in
    let given = given_by (data_of case) has.read in
    let is = c.take_symbols-symbols.ensures.rest (data_of case) (is_case case) in
    let are = are_given _ case c.in_ok-sources.sources c.as_slice.result.now c.take_symbols-symbols.result.items c.as_slice.ensures.value
    c.take_symbols-symbols.ensures.symbols has in
    let reads = reads_kept told _ file (data_of case) c.in_ok-sources.sources c.in_ok-case.ensures.files c.in_ok-case.ensures.found has in
    passed (StopsSubject told file) c.from_residual-in_err-project.result (stop_at.Project c.in_err-project.field-0.0)
    c.from_residual-in_err-project.ensures.1 (given, reads, c.in_err-project.ensures.stopped given are)

pub table_of-requires-clause-short : goal.table_of-requires-clause-short
table_of-requires-clause-short g c =
    let case = c.in_ok-case.case in
    code_short (data_of case) _ (held_texts _ _ (data_of case) c.in_ok-case.ensures.found)
    (c.take_symbols-symbols.ensures.rest (data_of case) (is_case case)).expressions

pub table_of-requires-clause-few : goal.table_of-requires-clause-few
table_of-requires-clause-few g c =
    let case = c.in_ok-case.case in
    let has = c.in_ok-sources.ensures.found in
    let given = given_by (data_of case) has.read in
    let are = are_given _ case c.in_ok-sources.sources c.as_slice.result.now c.take_symbols-symbols.result.items c.as_slice.ensures.value
    c.take_symbols-symbols.ensures.symbols has in
    few_blocks _ case has.read c.in_ok-project.project c.in_ok-case.ensures.few has.held (c.in_ok-project.ensures.found given are)

pub returns-in_err-entry-clause-stopped : goal.returns-in_err-entry-clause-stopped
returns-in_err-entry-clause-stopped g c =
    let told = g.F.Files.told c.args.files.now in
    let file = c.args.case_file.now in
    let case = c.in_ok-case.case in
    let has = c.in_ok-sources.ensures.found in
    let given = given_by (data_of case) has.read in
    let is = c.take_symbols-symbols.ensures.rest (data_of case) (is_case case) in
    let are = are_given _ case c.in_ok-sources.sources c.as_slice.result.now c.take_symbols-symbols.result.items c.as_slice.ensures.value
    c.take_symbols-symbols.ensures.symbols has in
    let reads = reads_kept told _ file (data_of case) c.in_ok-sources.sources c.in_ok-case.ensures.files c.in_ok-case.ensures.found has in
    let project = c.in_ok-project.ensures.found given are in
    let kept = reads_project told file given c.in_ok-project.project reads project in
    passed (StopsSubject told file) c.from_residual-in_err-entry.result (stop_at.Table c.in_err-entry.field-0.0)
    c.from_residual-in_err-entry.ensures.1 (given, kept, c.in_err-entry.ensures.stopped given is project)

pub fitted-requires-clause-count : goal.fitted-requires-clause-count
fitted-requires-clause-count g c =
    let case = c.in_ok-case.case in
    let is = c.take_symbols-symbols.ensures.rest (data_of case) (is_case case) in
    code_count (data_of case) _ _ (held_texts _ _ (data_of case) c.in_ok-case.ensures.found) is.kind is.expressions

pub fitted-requires-clause-short : goal.fitted-requires-clause-short
fitted-requires-clause-short g c =
    let case = c.in_ok-case.case in
    code_short (data_of case) _ (held_texts _ _ (data_of case) c.in_ok-case.ensures.found)
    (c.take_symbols-symbols.ensures.rest (data_of case) (is_case case)).expressions

pub fitted-requires-clause-entered : goal.fitted-requires-clause-entered
fitted-requires-clause-entered g c =
    let told = g.F.Files.told c.args.files.now in
    let file = c.args.case_file.now in
    let case = c.in_ok-case.case in
    let has = c.in_ok-sources.ensures.found in
    let given = given_by (data_of case) has.read in
    let is = c.take_symbols-symbols.ensures.rest (data_of case) (is_case case) in
    let are = are_given _ case c.in_ok-sources.sources c.as_slice.result.now c.take_symbols-symbols.result.items c.as_slice.ensures.value
    c.take_symbols-symbols.ensures.symbols has in
    let reads = reads_kept told _ file (data_of case) c.in_ok-sources.sources c.in_ok-case.ensures.files c.in_ok-case.ensures.found has in
    let project = c.in_ok-project.ensures.found given are in
    let kept = reads_project told file given c.in_ok-project.project reads project in
    let made = c.in_ok-entry.ensures.found given is project in
    let filled = reads_table told file given made.0 c.in_ok-entry.entry c.in_ok-entry.table kept made.1 in
    has_source c.views_keep_paths_types_and_starts.ensures.types told file given made.0 c.in_ok-entry.entry c.in_ok-entry.table c.in_ok-project.project
    filled project made.1

pub fitted-requires-clause-few : goal.fitted-requires-clause-few
fitted-requires-clause-few g c =
    let case = c.in_ok-case.case in
    let has = c.in_ok-sources.ensures.found in
    let given = given_by (data_of case) has.read in
    let is = c.take_symbols-symbols.ensures.rest (data_of case) (is_case case) in
    let are = are_given _ case c.in_ok-sources.sources c.as_slice.result.now c.take_symbols-symbols.result.items c.as_slice.ensures.value
    c.take_symbols-symbols.ensures.symbols has in
    let project = c.in_ok-project.ensures.found given are in
    let made = c.in_ok-entry.ensures.found given is project in
    subst (λ l. length l ≤ MAX_LEAVES) (sym made.1.cells) made.1.has.few

pub returns-in_err-view-clause-stopped : goal.returns-in_err-view-clause-stopped
returns-in_err-view-clause-stopped g c =
    let told = g.F.Files.told c.args.files.now in
    let file = c.args.case_file.now in
    let case = c.in_ok-case.case in
    let has = c.in_ok-sources.ensures.found in
    let given = given_by (data_of case) has.read in
    let is = c.take_symbols-symbols.ensures.rest (data_of case) (is_case case) in
    let are = are_given _ case c.in_ok-sources.sources c.as_slice.result.now c.take_symbols-symbols.result.items c.as_slice.ensures.value
    c.take_symbols-symbols.ensures.symbols has in
    let reads = reads_kept told _ file (data_of case) c.in_ok-sources.sources c.in_ok-case.ensures.files c.in_ok-case.ensures.found has in
    let project = c.in_ok-project.ensures.found given are in
    let kept = reads_project told file given c.in_ok-project.project reads project in
    let made = c.in_ok-entry.ensures.found given is project in
    let filled = reads_table told file given made.0 c.in_ok-entry.entry c.in_ok-entry.table kept made.1 in
    passed (StopsSubject told file) c.from_residual-in_err-view.result (stop_at.Fit c.in_err-view.field-0.0)
    c.from_residual-in_err-view.ensures.1 (given, made.0, filled, c.in_err-view.ensures.stopped given made.0 is project made.1)

pub returns-clause-found : goal.returns-clause-found
returns-clause-found g c =
    let told = g.F.Files.told c.args.files.now in
    let file = c.args.case_file.now in
    let case = c.in_ok-case.case in
    let has = c.in_ok-sources.ensures.found in
    let given = given_by (data_of case) has.read in
    let is = c.take_symbols-symbols.ensures.rest (data_of case) (is_case case) in
    let are = are_given _ case c.in_ok-sources.sources c.as_slice.result.now c.take_symbols-symbols.result.items c.as_slice.ensures.value
    c.take_symbols-symbols.ensures.symbols has in
    let reads = reads_kept told _ file (data_of case) c.in_ok-sources.sources c.in_ok-case.ensures.files c.in_ok-case.ensures.found has in
    let project = c.in_ok-project.ensures.found given are in
    let kept = reads_project told file given c.in_ok-project.project reads project in
    let made = c.in_ok-entry.ensures.found given is project in
    let filled = reads_table told file given made.0 c.in_ok-entry.entry c.in_ok-entry.table kept made.1 in
    let fit = c.in_ok-view.ensures.found given made.0 is project made.1 in (
      data_by given made.0 c.in_ok-view.view fit.0,
      reads_all told file given made.0 c.in_ok-entry.entry c.in_ok-view.view c.in_ok-view.pattern fit.0 filled fit.1,
      is_subject _ given made.0 c.in_ok-entry.entry fit.0 c.in_ok-entry.table is has.texts project made.1 fit.1
          c.in_ok-view.ensures.params c.in_ok-view.ensures.bytes,
    )

pub returns-in_err-case-clause-named : goal.returns-in_err-case-clause-named
returns-in_err-case-clause-named g c =
    passed (λ e. IsUnread (subject_unread e) _) c.from_residual.result (stop_at.Case c.in_err-case.field-0.0)
    c.from_residual.ensures.1 c.in_err-case.ensures.named

pub returns-in_err-sources-clause-named : goal.returns-in_err-sources-clause-named
returns-in_err-sources-clause-named g c =
    passed (λ e. IsUnread (subject_unread e) _) c.from_residual-in_err-sources.result (stop_at.Source c.in_err-sources.field-0.0)
    c.from_residual-in_err-sources.ensures.1 c.in_err-sources.ensures.named

pub returns-in_err-project-clause-named : goal.returns-in_err-project-clause-named
returns-in_err-project-clause-named g c =
    passed (λ e. IsUnread (subject_unread e) _) c.from_residual-in_err-project.result (stop_at.Project c.in_err-project.field-0.0)
    c.from_residual-in_err-project.ensures.1 (none_unread _)

pub returns-in_err-entry-clause-named : goal.returns-in_err-entry-clause-named
returns-in_err-entry-clause-named g c =
    passed (λ e. IsUnread (subject_unread e) _) c.from_residual-in_err-entry.result (stop_at.Table c.in_err-entry.field-0.0)
    c.from_residual-in_err-entry.ensures.1 (none_unread _)

pub returns-in_err-view-clause-named : goal.returns-in_err-view-clause-named
returns-in_err-view-clause-named g c =
    passed (λ e. IsUnread (subject_unread e) _) c.from_residual-in_err-view.result (stop_at.Fit c.in_err-view.field-0.0)
    c.from_residual-in_err-view.ensures.1 (none_unread _)

pub project_of-requires : goal.project_of-requires
project_of-requires g c =
    are_read _ _ c.in_ok-sources.sources c.as_slice.result.now c.as_slice.ensures.value c.in_ok-sources.ensures.found
