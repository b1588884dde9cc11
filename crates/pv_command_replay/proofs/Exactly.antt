-- From what a command that replays came to, to what the files decide: where they tell what they hold, they hold one replay, one refusal
-- or one line of a trace at fault, with one status and one text, whatever it is that the command prints of a replay.
use Rattle.std.proofs.Common.{◌≡◌, ◌≢◌, ◌⊎◌, inl, inr, ℕ, ◌+◌, ◌≤◌, List, Option, Some, Result, Ok, Err, map, string_bytes, refl, sym, ap, subst, ◌∙◌, arith}
use Rattle.std.proofs.lemmas.Option.{same_Some}
use Rattle.pv_edge.specs.Files.{FileMap}
use Rattle.pv_mean.specs.Sources.{Source}
use Rattle.pv_mean.specs.Frames.{Input, Params}
use Rattle.pv_mean.specs.Runs.{run}
use Rattle.pv_pattern.specs.Patterns.{Pattern}
use Rattle.pv_claims.specs.declared.trace.Trace.{Trace}
use Rattle.pv_command_load.specs.Refusals.{Refusal, of_case, of_source, of_project, of_table, of_fit, TableRefusal, no_entry, too_many_cells, table_status, case_refusal_line, source_line, project_line, table_line, fit_line, refusal_status, refusal_line}
use Rattle.pv_command_load.specs.Subjects.{SubjectData, source_in}
use Rattle.pv_command_load.specs.Reads.{Refuses}
use Rattle.pv_command_load.specs.Stopped.{Stopped, unread, refused, no_memory, StopsAt, stopped_status, stopped_text}
use Rattle.pv_command_load.specs.Stops.{text_tree, case_stopped, source_stopped, project_stopped, table_stopped, fit_stopped, StopsSubject, subject_status, subject_text}
use Rattle.pv_command_load.specs.declared.subject.SubjectStop.{SubjectStop}
use Rattle.pv_command_load.specs.declared.subject.SubjectStop.TheVariants as subject_stop
use Rattle.pv_command_load.specs.Correct.{FilesDecideOne}
use Rattle.pv_command_replay.specs.declared.end.End.{End}
use Rattle.pv_command_replay.specs.declared.end.End.TheVariants.{Kept, Broken, Over, Reached, NotReached}
use Rattle.pv_command_replay.specs.declared.replay.Replayed.{Replayed}
use Rattle.pv_command_replay.specs.declared.replay.ReplayStop.{ReplayStop}
use Rattle.pv_command_replay.specs.declared.replay.ReplayStop.TheVariants as replay_stop
use Rattle.pv_command_replay.specs.Ends.{IsEnd}
use Rattle.pv_command_replay.specs.Reports.{end_status, report_text}
use Rattle.pv_command_replay.specs.Traces.{HoldsTrace, HoldsNoTrace, trace_line, trace_stopped}
use Rattle.pv_command_replay.specs.Correct.{FilesDecideOneTrace, RunsEndInOneWay}
use Rattle.pv_command_replay.specs.Replays.{IsReplayed, IsNoTrace, report_of, IsReportOf, StopsReplay, stop_status, stop_text, SaysReplay, replay_status, replay_text, EndsWith, IsRefusedWith, ReplaysExactly}

-- ---- a stage that stops, where all files can be read and memory doesn't end

record Refused {R : Type 0} (Is : R → Type 0) (status_of : R → ℕ) (line_of : R → List ℕ) (status : ℕ) (text : Option (List ℕ)) : Type 0 where
  refusal : R
  is : Is refusal
  of_status : status ≡ status_of refusal
  of_text : text ≡ Some (line_of refusal)

refused_by : {R : Type 0} (Asked : List ℕ → Type 0) (Is : R → Type 0) (status_of : R → ℕ) (line_of : R → List ℕ) (x : Stopped R) → StopsAt Asked Is x
    → stopped_status status_of x ≢ 6 → stopped_status status_of x ≢ 9
    → Refused Is status_of line_of (stopped_status status_of x) (stopped_text line_of x)
refused_by Asked Is status_of line_of (unread file) h readable roomy = absurd (readable refl)
refused_by Asked Is status_of line_of (refused r) h readable roomy = record { refusal = r; is = h; of_status = refl; of_text = refl }
refused_by Asked Is status_of line_of no_memory h readable roomy = absurd (roomy refl)

-- ---- what is known of files and of runs

pub record Laws : Type 0 where
  pub decide : (files : FileMap) (file : List ℕ) → FilesDecideOne files file
  pub decide_trace : (files : FileMap) (file : List ℕ) (source : Source) → FilesDecideOneTrace files file source
  pub end_once : (source : Source) (p : Pattern) (params : Params) (inputs : List Input) → RunsEndInOneWay source p params inputs

-- ---- what a command that prints this of a replay came to

pub data Came (print : SubjectData → Trace → End → List ℕ) (files : FileMap) (case_file trace_file : List ℕ) (status : ℕ) (text : Option (List ℕ))
    : Type 0 where
  ends : (s : SubjectData) (end : End) (replayed : IsReplayed (Some files) case_file trace_file s end) → status ≡ end_status end
      → text ≡ Some (print s replayed.trace end) → Came print files case_file trace_file status text
  refuses : (refusal : Refusal) → Refuses (Some files) case_file refusal → status ≡ refusal_status refusal → text ≡ Some (refusal_line refusal)
      → Came print files case_file trace_file status text
  no_trace : (s : SubjectData) (line : ℕ) → IsNoTrace (Some files) case_file trace_file s line → status ≡ 8 → text ≡ Some (trace_line line)
      → Came print files case_file trace_file status text

module _ (print : SubjectData → Trace → End → List ℕ) (files : FileMap) (case_file trace_file : List ℕ) where
  abbrev Come : ℕ → Option (List ℕ) → Type 0
  Come status text = Came print files case_file trace_file status text

  by_subject : (stop : SubjectStop) → StopsSubject (Some files) case_file stop → subject_status stop ≢ 6 → subject_status stop ≢ 9
      → Come (subject_status stop) (subject_text stop)
  by_subject (subject_stop.Case stop) h readable roomy =
      let r = refused_by _ _ (λ r. 4) case_refusal_line (case_stopped stop) h readable roomy in
      refuses (of_case r.refusal) r.is r.of_status r.of_text
  by_subject (subject_stop.Source stop) h readable roomy =
      let r = refused_by _ _ (λ r. 3) source_line (source_stopped stop) h.2 readable roomy in
      refuses (of_source r.refusal) (h.0, h.1, r.is) r.of_status r.of_text
  by_subject (subject_stop.Project stop) h readable roomy =
      let r = refused_by _ _ (λ r. 3) project_line (project_stopped stop) h.2 readable roomy in
      refuses (of_project r.refusal) (h.0, h.1, r.is) r.of_status r.of_text
  by_subject (subject_stop.Table stop) h readable roomy =
      let r = refused_by _ _ table_status table_line (table_stopped stop) h.2 readable roomy in
      refuses (of_table r.refusal) (h.0, h.1, r.is) r.of_status r.of_text
  by_subject (subject_stop.Fit stop) h readable roomy =
      let r = refused_by _ _ (λ r. 4) fit_line (fit_stopped stop) h.3 readable roomy in
      refuses (of_fit r.refusal) (h.0, h.1, h.2, r.is) r.of_status r.of_text

  pub by_stop : (stop : ReplayStop) → StopsReplay (Some files) case_file trace_file stop → stop_status stop ≢ 6 → stop_status stop ≢ 9
      → Came print files case_file trace_file (stop_status stop) (stop_text stop)
  by_stop (replay_stop.Subject stop) h readable roomy = by_subject stop h readable roomy
  by_stop (replay_stop.Trace stop) h readable roomy =
      let r = refused_by _ _ (λ line. 8) trace_line (trace_stopped stop) h.2 readable roomy in
      no_trace h.0 r.refusal (record { reads = h.1; no_trace = r.is }) r.of_status r.of_text
  by_stop replay_stop.NoMemory h readable roomy = absurd (roomy refl)

  -- ---- it is one

  module _ (laws : Laws) where
    decide : FilesDecideOne files case_file
    decide = laws.decide files case_file

    decide_trace : (source : Source) → FilesDecideOneTrace files trace_file source
    decide_trace source = laws.decide_trace files trace_file source

    same_end : (s t : SubjectData) (end other : End) (r : IsReplayed (Some files) case_file trace_file s end)
        (q : IsReplayed (Some files) case_file trace_file t other) → (end ≡ other) × (print s r.trace end ≡ print t q.trace other)
    same_end s t end other r q =
        let same : s ≡ t = decide.one_subject s t r.reads q.reads in
        let held : HoldsTrace (Some files) trace_file (source_in t) r.trace =
        subst (λ z. HoldsTrace (Some files) trace_file (source_in z) r.trace) same r.trace_held in
        let trace : r.trace ≡ q.trace = (decide_trace (source_in t)).one_trace r.trace q.trace held q.trace_held in
        let here : IsEnd (source_in t) t.pattern (run (source_in t) r.trace.params r.trace.inputs) end =
        subst (λ (z : SubjectData). IsEnd (source_in z) z.pattern (run (source_in z) r.trace.params r.trace.inputs) end) same r.ends in
        let is : end ≡ other =
        (laws.end_once (source_in t) t.pattern q.trace.params q.trace.inputs).one end other
        (subst (λ (x : Trace). IsEnd (source_in t) t.pattern (run (source_in t) x.params x.inputs) end) trace here) q.ends in
        (is, ap (λ z. print z r.trace end) same ∙ ap (λ x. print t x end) trace ∙ ap (λ z. print t q.trace z) is)

    same_line : (s t : SubjectData) (n m : ℕ) → IsNoTrace (Some files) case_file trace_file s n → IsNoTrace (Some files) case_file trace_file t m → n ≡ m
    same_line s t n m r q =
        let same : s ≡ t = decide.one_subject s t r.reads q.reads in
        (decide_trace (source_in t)).one_line n m (subst (λ z. HoldsNoTrace (Some files) trace_file (source_in z) n) same r.no_trace) q.no_trace

    not_both : (s t : SubjectData) (end : End) (n : ℕ) → IsReplayed (Some files) case_file trace_file s end → IsNoTrace (Some files) case_file trace_file t n
        → ⊥
    not_both s t end n r q =
        let same : s ≡ t = decide.one_subject s t r.reads q.reads in
        (decide_trace (source_in t)).apart r.trace n (subst (λ z. HoldsTrace (Some files) trace_file (source_in z) r.trace) same r.trace_held) q.no_trace

    pub one_came : (m n : ℕ) (t u : Option (List ℕ)) → Came print files case_file trace_file m t → Came print files case_file trace_file n u
        → (m ≡ n) × (t ≡ u)
    one_came m n t u (ends s end r a b) (ends q other p c d) =
        let same = same_end s q end other r p in
        (a ∙ ap end_status same.0 ∙ sym c, b ∙ ap Some same.1 ∙ sym d)
    one_came m n t u (ends s end r a b) (refuses refusal p c d) = absurd (decide.apart s refusal r.reads p)
    one_came m n t u (ends s end r a b) (no_trace q line p c d) = absurd (not_both s q end line r p)
    one_came m n t u (refuses refusal r a b) (ends q other p c d) = absurd (decide.apart q refusal p.reads r)
    one_came m n t u (refuses refusal r a b) (refuses also p c d) =
        let same = decide.one_refusal refusal also r p in
        (a ∙ ap refusal_status same ∙ sym c, b ∙ ap (λ z. Some (refusal_line z)) same ∙ sym d)
    one_came m n t u (refuses refusal r a b) (no_trace q line p c d) = absurd (decide.apart q refusal p.reads r)
    one_came m n t u (no_trace s line r a b) (ends q other p c d) = absurd (not_both q s other line p r)
    one_came m n t u (no_trace s line r a b) (refuses refusal p c d) = absurd (decide.apart s refusal r.reads p)
    one_came m n t u (no_trace s line r a b) (no_trace q also p c d) =
        (a ∙ sym c, b ∙ ap (λ z. Some (trace_line z)) (same_line s q line also r p) ∙ sym d)

    -- ---- the statuses

    end_small : (end : End) (n : ℕ) → end_status end ≡ n + 3 → ⊥
    end_small (Kept k) n e = omega (arith, e)
    end_small (Broken k by) n e = omega (arith, e)
    end_small (Over k place) n e = omega (arith, e)
    end_small (Reached k) n e = omega (arith, e)
    end_small (NotReached k trap) n e = omega (arith, e)

    -- a refusal has status 3 or 4
    refusal_among : (refusal : Refusal) → (refusal_status refusal ≡ 3) ⊎ (refusal_status refusal ≡ 4)
    refusal_among (of_case r) = inr refl
    refusal_among (of_source r) = inl refl
    refusal_among (of_project r) = inl refl
    refusal_among (of_table no_entry) = inr refl
    refusal_among (of_table too_many_cells) = inl refl
    refusal_among (of_fit r) = inr refl

    refusal_small : (refusal : Refusal) → refusal_status refusal ≤ 2 → ⊥
    refusal_small refusal le = elim (refusal_among refusal) [ inl e ↦ omega (arith, e, le) | inr e ↦ omega (arith, e, le) ]

    refusal_no_trace : (refusal : Refusal) → refusal_status refusal ≡ 8 → ⊥
    refusal_no_trace refusal is = elim (refusal_among refusal) [ inl e ↦ omega (arith, e, is) | inr e ↦ omega (arith, e, is) ]

    module _ (status : ℕ) (text : List ℕ) (IsTaken : List ℕ → Type 0) (taken : IsTaken text) where
      ends_of : (n : ℕ) → n ≤ 2 → Come status (Some text) → status ≡ n → EndsWith files case_file trace_file n
      ends_of n le (ends s end r a b) e = record { subject = s; end = end; replayed = r; of_status = sym a ∙ e }
      ends_of n le (refuses refusal r a b) e = absurd (refusal_small refusal (omega (arith, a, e, le)))
      ends_of n le (no_trace s line r a b) e = absurd (omega (arith, a, e, le))

      refused_of : (n : ℕ) → (n ≡ 3) ⊎ (n ≡ 4) → Come status (Some text) → status ≡ n → IsRefusedWith files case_file n
      refused_of n le (ends s end r a b) e = elim le [
        | inl is ↦ absurd (end_small end 0 (sym a ∙ e ∙ is))
        | inr is ↦ absurd (end_small end 1 (sym a ∙ e ∙ is))
      ]
      refused_of n le (refuses refusal r a b) e = record { refusal = refusal; refuses = r; of_status = sym a ∙ e }
      refused_of n le (no_trace s line r a b) e = elim le [ inl is ↦ absurd (omega (arith, a, e, is)) | inr is ↦ absurd (omega (arith, a, e, is)) ]

      trace_of : Come status (Some text) → status ≡ 8 → (s : SubjectData) × (line : ℕ) × IsNoTrace (Some files) case_file trace_file s line
      trace_of (ends s end r a b) e = absurd (end_small end 5 (sym a ∙ e))
      trace_of (refuses refusal r a b) e = absurd (refusal_no_trace refusal (sym a ∙ e))
      trace_of (no_trace s line r a b) e = (s, line, r)

      module _ (came : Come status (Some text)) where
        as_came : (n : ℕ) (t : List ℕ) → Come n (Some t) → (status ≡ n) × IsTaken t
        as_came n t other =
            let same = one_came status n (Some text) (Some t) came other in
            (same.0, subst IsTaken (same_Some text t same.1) taken)

        as_end : (s : SubjectData) (end : End) (r : IsReplayed (Some files) case_file trace_file s end)
            → (status ≡ end_status end) × IsTaken (print s r.trace end)
        as_end s end r = as_came (end_status end) (print s r.trace end) (ends s end r refl refl)

        as_refused : (refusal : Refusal) → Refuses (Some files) case_file refusal → (status ≡ refusal_status refusal) × IsTaken (refusal_line refusal)
        as_refused refusal r = as_came (refusal_status refusal) (refusal_line refusal) (refuses refusal r refl refl)

        as_line : (s : SubjectData) (line : ℕ) → IsNoTrace (Some files) case_file trace_file s line → (status ≡ 8) × IsTaken (trace_line line)
        as_line s line r = as_came 8 (trace_line line) (no_trace s line r refl refl)

        with_end : (n : ℕ) → EndsWith files case_file trace_file n → status ≡ n
        with_end n r = (as_end r.subject r.end r.replayed).0 ∙ r.of_status

        with_refusal : (n : ℕ) → IsRefusedWith files case_file n → status ≡ n
        with_refusal n r = (as_refused r.refusal r.refuses).0 ∙ r.of_status

        pub replays_exactly : ReplaysExactly print files case_file trace_file status IsTaken
        replays_exactly = record {
          holds = (ends_of 0 (omega arith) came, with_end 0);
          fails = (ends_of 1 (omega arith) came, with_end 1);
          over = (ends_of 2 (omega arith) came, with_end 2);
          source = (refused_of 3 (inl refl) came, with_refusal 3);
          case = (refused_of 4 (inr refl) came, with_refusal 4);
          trace = (trace_of came, λ r. (as_line r.0 r.1 r.2).0);
          report = λ s end r. (as_end s end r).1;
          refusal_told = λ refusal r. (as_refused refusal r).1;
          trace_told = λ s line r. (as_line s line r).1;
        }

-- ---- what a replay came to

reported : (s : SubjectData) (trace : Trace) (r : Replayed) → IsReportOf s r
    → report_text (string_bytes r.case) r.kind (map text_tree r.sources.items) r.end ≡ report_of s trace r.end
reported s trace r is =
    ap (λ z. report_text z r.kind (map text_tree r.sources.items) r.end) is.name
    ∙ ap (λ z. report_text s.given.case.name z (map text_tree r.sources.items) r.end) is.kind
    ∙ ap (λ z. report_text s.given.case.name s.given.case.kind z r.end) is.texts

pub by_result : (files : FileMap) (case_file trace_file : List ℕ) (result : Result Replayed ReplayStop)
    → SaysReplay (Some files) case_file trace_file result → replay_status result ≢ 6 → replay_status result ≢ 9
    → Came report_of files case_file trace_file (replay_status result) (replay_text result)
by_result files case_file trace_file (Ok r) h readable roomy = ends h.0 r.end h.1 refl (ap Some (reported h.0 h.1.trace r h.2))
by_result files case_file trace_file (Err stop) h readable roomy = by_stop report_of files case_file trace_file stop h readable roomy

-- ---- a replay is no other command's answer, and has a text where memory doesn't end

stopped_never_five : {R : Type 0} (status_of : R → ℕ) → ((r : R) → status_of r ≡ 5 → ⊥) → (x : Stopped R) → stopped_status status_of x ≡ 5 → ⊥
stopped_never_five status_of other (unread file) e = omega (arith, e)
stopped_never_five status_of other (refused r) e = other r e
stopped_never_five status_of other no_memory e = omega (arith, e)

table_never_five : (r : TableRefusal) → table_status r ≡ 5 → ⊥
table_never_five no_entry e = omega (arith, e)
table_never_five too_many_cells e = omega (arith, e)

subject_never_five : (stop : SubjectStop) → subject_status stop ≡ 5 → ⊥
subject_never_five (subject_stop.Case stop) e = stopped_never_five (λ r. 4) (λ r h. omega (arith, h)) (case_stopped stop) e
subject_never_five (subject_stop.Source stop) e = stopped_never_five (λ r. 3) (λ r h. omega (arith, h)) (source_stopped stop) e
subject_never_five (subject_stop.Project stop) e = stopped_never_five (λ r. 3) (λ r h. omega (arith, h)) (project_stopped stop) e
subject_never_five (subject_stop.Table stop) e = stopped_never_five table_status table_never_five (table_stopped stop) e
subject_never_five (subject_stop.Fit stop) e = stopped_never_five (λ r. 4) (λ r h. omega (arith, h)) (fit_stopped stop) e

pub end_never_five : (end : End) → end_status end ≡ 5 → ⊥
end_never_five (Kept k) e = omega (arith, e)
end_never_five (Broken k by) e = omega (arith, e)
end_never_five (Over k place) e = omega (arith, e)
end_never_five (Reached k) e = omega (arith, e)
end_never_five (NotReached k trap) e = omega (arith, e)

pub stop_never_five : (stop : ReplayStop) → stop_status stop ≡ 5 → ⊥
stop_never_five (replay_stop.Subject stop) e = subject_never_five stop e
stop_never_five (replay_stop.Trace stop) e = stopped_never_five (λ line. 8) (λ r h. omega (arith, h)) (trace_stopped stop) e
stop_never_five replay_stop.NoMemory e = omega (arith, e)

pub never_five : (result : Result Replayed ReplayStop) → replay_status result ≡ 5 → ⊥
never_five (Ok r) e = end_never_five r.end e
never_five (Err stop) e = stop_never_five stop e

stopped_has_text : {R : Type 0} (status_of : R → ℕ) (line_of : R → List ℕ) (x : Stopped R) → stopped_status status_of x ≢ 9
    → (text : List ℕ) × (stopped_text line_of x ≡ Some text)
stopped_has_text status_of line_of (unread file) roomy = (_, refl)
stopped_has_text status_of line_of (refused r) roomy = (_, refl)
stopped_has_text status_of line_of no_memory roomy = absurd (roomy refl)

subject_has_text : (stop : SubjectStop) → subject_status stop ≢ 9 → (text : List ℕ) × (subject_text stop ≡ Some text)
subject_has_text (subject_stop.Case stop) roomy = stopped_has_text (λ r. 4) case_refusal_line (case_stopped stop) roomy
subject_has_text (subject_stop.Source stop) roomy = stopped_has_text (λ r. 3) source_line (source_stopped stop) roomy
subject_has_text (subject_stop.Project stop) roomy = stopped_has_text (λ r. 3) project_line (project_stopped stop) roomy
subject_has_text (subject_stop.Table stop) roomy = stopped_has_text table_status table_line (table_stopped stop) roomy
subject_has_text (subject_stop.Fit stop) roomy = stopped_has_text (λ r. 4) fit_line (fit_stopped stop) roomy

pub stop_has_text : (stop : ReplayStop) → stop_status stop ≢ 9 → (text : List ℕ) × (stop_text stop ≡ Some text)
stop_has_text (replay_stop.Subject stop) roomy = subject_has_text stop roomy
stop_has_text (replay_stop.Trace stop) roomy = stopped_has_text (λ line. 8) trace_line (trace_stopped stop) roomy
stop_has_text replay_stop.NoMemory roomy = absurd (roomy refl)

pub has_text : (result : Result Replayed ReplayStop) → replay_status result ≢ 9 → (text : List ℕ) × (replay_text result ≡ Some text)
has_text (Ok r) roomy = (_, refl)
has_text (Err stop) roomy = stop_has_text stop roomy
