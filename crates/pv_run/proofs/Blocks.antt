-- A called block: its cells at the start, its body, and the call as a whole.
use Rattle.std.proofs.Common.{◌≡◌, ℕ, zero, suc, ◌+◌, ◌*◌, ◌<◌, ◌≤◌, ℤ, List, [], ◌∷◌, ◌++◌, length, drop, Option, Some, None, Ok, Err, refl, sym, ap, subst, ◌∙◌, arith}
use Rattle.std.proofs.Math.ListN.{replicate, set}
use Rattle.std.specs.Prelude.{slice_index_or, Result}
use Rattle.pv_tree.specs.Tree.{InstrTree, BodyTree, scl, stl, starts, no_stmts, BlockTree}
use Rattle.pv_tree.specs.Callees.{CallSite}
use Rattle.pv_mean.specs.Cells.{most_calls}
use Rattle.pv_mean.specs.Scans.{scan_from, visible_end}
use Rattle.pv_mean.specs.Sources.{Source}
use Rattle.pv_mean.specs.Frames.{Frame}
use Rattle.pv_mean.specs.Endings.{Ended, ended, Ending, body_end, end_of}
use Rattle.pv_mean.specs.Activations.{Activation}
use Rattle.pv_mean.specs.Statements.{Calls, Returned}
use Rattle.pv_mean.specs.InstructionRuns.{run_stl}
use Rattle.pv_mean.specs.Calls.{Linked, inside, with_inside, linked, run_call, run_code, run_body, calls_within}
use Rattle.pv_eval.specs.Means.{activation}
use Rattle.pv_run.specs.declared.program.Body.{Body}
use Rattle.pv_run.specs.declared.program.Body.TheVariants as body
use Rattle.pv_run.specs.declared.program.Code.{Code}
use Rattle.pv_run.specs.declared.program.Span.{Span}
use Rattle.pv_run.specs.declared.program.List as code
use Rattle.pv_run.specs.declared.program.Program.{Program}
use Rattle.pv_run.specs.declared.program.At.{At}
use Rattle.pv_run.specs.declared.callee.Started.{Started}
use Rattle.pv_run.specs.declared.stop.Stop.{Stop}
use Rattle.pv_run.specs.declared.stop.Stop.TheVariants as stop
use Rattle.pv_run.specs.declared.stop.Flow.{Flow}
use Rattle.pv_run.specs.declared.stop.Flow.TheVariants as flow
use Rattle.pv_run.specs.Ends.{stop_end, stop_ending, flow_ending, end_in}
use Rattle.pv_run.specs.Handing.{handed_in, handed_out}
use Rattle.pv_run.specs.Code.{code_at, HasInstrs, RunsBody, IsCode, IsProgram, AreStmts, no_stmt}
use Rattle.pv_run.specs.Runs.{frame_in, linked_in, HandsIn, HandsOut, Begins}
use Rattle.pv_run.proofs.Calling.{call_stops_in, call_stops_body, call_stops_out, call_done, calls_block}
use Rattle.pv_run.proofs.Lists.{not_both}
use Rattle.pv_run.proofs.Statements.{Ran}
use Rattle.pv_run.proofs.Handing.{all_in}

-- ---- cells without values

pub cleared_next : {A : Type 0} (i : ℕ) (cells old : List A) (a : A) → i < length old → cells ≡ replicate i a ++ drop i old
    → set cells i a ≡ replicate (i + 1) a ++ drop (i + 1) old
cleared_next {A} i cells old a lt e =
    ap (λ xs. set xs i a) e ∙ step i old lt ∙ ap (λ k. replicate k a ++ drop k old) (let p : suc i ≡ i + 1 = omega arith in p)
  where
    step : (k : ℕ) (xs : List A) → k < length xs → set (replicate k a ++ drop k xs) k a ≡ replicate (suc k) a ++ drop (suc k) xs
    step zero [] h = absurd (omega arith)
    step zero (x ∷ xs) h = refl
    step (suc k) [] h = absurd (omega arith)
    step (suc k) (x ∷ xs) h = ap (λ ys. a ∷ ys) (step k xs (omega arith))

pub cleared_all : {A : Type 0} (i : ℕ) (cells old : List A) (a : A) → length old ≡ i → cells ≡ replicate i a ++ drop i old
    → cells ≡ replicate (length old) a
cleared_all {A} i cells old a e is = is ∙ ends i old e ∙ ap (λ k. replicate k a) (sym e)
  where
    ends : (k : ℕ) (xs : List A) → length xs ≡ k → replicate k a ++ drop k xs ≡ replicate k a
    ends zero [] h = refl
    ends zero (x ∷ xs) h = absurd (omega (arith, h))
    ends (suc k) [] h = absurd (omega (arith, h))
    ends (suc k) (x ∷ xs) h = ap (λ ys. a ∷ ys) (ends k xs (omega (arith, h)))

linked_same : (source : Source) (p : Program) (callee : BlockTree) (c : Code) → IsCode source p callee c
    → (visible : List ℤ) (own inner : List (Option ℤ)) → inner ≡ replicate c.brief None
    → linked_in visible own inner ≡ linked source callee (frame_in visible own)
linked_same source p callee c is visible own inner e =
    ap (λ xs. let l : Linked = record { visible = visible; outer = own; inner = xs } in l) (e ∙ ap (λ k. replicate k None) is.brief)

-- ---- bodies

abbrev pub body_by : Source → ℕ → Activation → Frame → Ended Frame
body_by source n act f = run_body source (calls_within source n) act f

-- a body that is run
abbrev pub CodeRan : Source → BlockTree → Program → Calls → Activation → Frame → Body → Ended Frame → Type 0
CodeRan source block p calls act frame b r = (tree : BodyTree) → RunsBody source block p b tree
    → r ≡ run_code source calls act tree frame

list_runs : (source : Source) (calls : Calls) (p : Program) (block : BlockTree) (first : ℕ) (l : code.List) (tree : BodyTree)
    (frame : Frame) (r : Ending)
    → RunsBody source block p (body.Statements l) tree → Ran source block p calls (activation block first) frame l r
    → body_end r ≡ run_code source calls (activation block first) tree frame
list_runs source calls p block first l (scl trees) frame r is ran = ap body_end (ran trees is)
list_runs source calls p block first l (stl instructions) frame r is ran = absurd is
list_runs source calls p block first l (starts values) frame r is ran =
    ap body_end (ran no_stmts (subst (λ m. AreStmts source block p l.first m no_stmts) is no_stmt))

pub any_flow : (f : Flow) (after : Frame) → body_end (flow_ending f after) ≡ ended after
any_flow flow.Normal after = refl
any_flow flow.Exit after = refl
any_flow flow.Continue after = refl
any_flow flow.Return after = refl

pub any_stop : (s : Stop) → body_end (stop_ending s) ≡ stop_end s
any_stop (stop.Trap t) = refl
any_stop (stop.Over place) = refl

pub list_done : (source : Source) (calls : Calls) (p : Program) (block : BlockTree) (first : ℕ) (b : Body) (l : code.List) (tree : BodyTree)
    (frame after : Frame) (f : Flow) → b ≡ body.Statements l
    → RunsBody source block p b tree → Ran source block p calls (activation block first) frame l (flow_ending f after)
    → ended after ≡ run_code source calls (activation block first) tree frame
list_done source calls p block first b l tree frame after f e is ran =
    sym (any_flow f after)
    ∙ list_runs source calls p block first l tree frame (flow_ending f after) (subst (λ x. RunsBody source block p x tree) e is) ran

pub list_stops : (source : Source) (calls : Calls) (p : Program) (block : BlockTree) (first : ℕ) (b : Body) (l : code.List) (tree : BodyTree)
    (frame : Frame) (t : Stop) → b ≡ body.Statements l
    → RunsBody source block p b tree → Ran source block p calls (activation block first) frame l (stop_ending t)
    → stop_end t ≡ run_code source calls (activation block first) tree frame
list_stops source calls p block first b l tree frame t e is ran =
    sym (any_stop t)
    ∙ list_runs source calls p block first l tree frame (stop_ending t) (subst (λ x. RunsBody source block p x tree) e is) ran

pub instrs_run : (source : Source) (calls : Calls) (p : Program) (block : BlockTree) (first : ℕ) (b : Body) (s : Span) (tree : BodyTree)
    (frame : Frame) (r : Ended Frame) → b ≡ body.Instructions s
    → RunsBody source block p b tree
    → ((all : List InstrTree) → HasInstrs source block p s all → r ≡ run_stl source calls (activation block first) all frame)
    → r ≡ run_code source calls (activation block first) tree frame
instrs_run source calls p block first b s tree frame r e is ran =
    by_tree tree (subst (λ x. RunsBody source block p x tree) e is)
  where
    by_tree : (t : BodyTree) → RunsBody source block p (body.Instructions s) t → r ≡ run_code source calls (activation block first) t frame
    by_tree (scl trees) h = absurd h
    by_tree (stl instructions) h = ran instructions h
    by_tree (starts values) h = absurd h

-- ---- the call

one_behind : (n : ℕ) → n + 1 ≡ suc n
one_behind n = omega arith

begun_call : (source : Source) (block : BlockTree) (p : Program) (at : At) (site : CallSite) (s : Started) (frame : Frame)
    (b : Begins source block p at site s)
    → calls_within source (s.at.calls + 1) (activation block at.first) site frame
    ≡ run_call source (body_by source s.at.calls) (activation block at.first) site (activation b.callee s.at.first) frame
begun_call source block p at site s frame b =
    ap (λ k. calls_within source k (activation block at.first) site frame) (one_behind s.at.calls)
    ∙ calls_block source s.at.calls (activation block at.first) site b.callee s.at.first frame b.is b.first

abbrev pub went_in : (source : Source) (block : BlockTree) (p : Program) (at : At) (site : CallSite) (s : Started)
    (b : Begins source block p at site s)
    → List ℤ → List (Option ℤ) → Linked → Type 0
went_in source block p at site s b visible own l =
    ended l ≡ end_of (all_in source (activation block at.first) site b.callee s.at.first (handed_in source b.callee)
    (linked source b.callee (frame_in visible own)))

in_done : (source : Source) (block : BlockTree) (p : Program) (at : At) (site : CallSite) (s : Started)
    (b : Begins source block p at site s) → IsProgram source p
    → (visible : List ℤ) (own inner : List (Option ℤ)) (l : Linked) → inner ≡ replicate s.code.brief None
    → HandsIn p s.call.inward at.first s.at.first (linked_in visible own inner) (Ok tt) l → went_in source block p at site s b visible own l
in_done source block p at site s b program visible own inner l e hands =
    hands source block site b.callee (handed_in source b.callee) program.types b.runs_block.inward
    ∙ ap (λ x. end_of (all_in source (activation block at.first) site b.callee s.at.first (handed_in source b.callee) x))
    (linked_same source p b.callee s.code b.code visible own inner e)

pub block_stops_in : (source : Source) (block : BlockTree) (p : Program) (at : At) (site : CallSite) (s : Started)
    → Begins source block p at site s → IsProgram source p
    → (visible : List ℤ) (own inner : List (Option ℤ)) (l : Linked) (t : Stop) → inner ≡ replicate s.code.brief None
    → HandsIn p s.call.inward at.first s.at.first (linked_in visible own inner) (Err t) l
    → stop_end t ≡ calls_within source (s.at.calls + 1) (activation block at.first) site (frame_in visible own)
block_stops_in source block p at site s b program visible own inner l t e hands =
    call_stops_in source (body_by source s.at.calls) (activation block at.first) site b.callee s.at.first (frame_in visible own) t
    (hands source block site b.callee (handed_in source b.callee) program.types b.runs_block.inward
    ∙ ap (λ x. end_of (all_in source (activation block at.first) site b.callee s.at.first (handed_in source b.callee) x))
    (linked_same source p b.callee s.code b.code visible own inner e))
    ∙ sym (begun_call source block p at site s (frame_in visible own) b)

-- the body of the callee, as it is run
abbrev pub BodyRan : Source → Program → Started → Linked → Ended Frame → Type 0
BodyRan source p s l r = (callee : BlockTree) → CodeRan source callee p (calls_within source s.at.calls) (activation callee s.at.first)
    (inside l) s.code.body r

ran_body : (source : Source) (block : BlockTree) (p : Program) (at : At) (site : CallSite) (s : Started)
    (b : Begins source block p at site s) (l : Linked) (r : Ended Frame)
    → BodyRan source p s l r → r ≡ body_by source s.at.calls (activation b.callee s.at.first) (inside l)
ran_body source block p at site s b l r ran = ran b.callee b.callee.body b.code.body

pub block_stops : (source : Source) (block : BlockTree) (p : Program) (at : At) (site : CallSite) (s : Started)
    → Begins source block p at site s → IsProgram source p
    → (visible : List ℤ) (own inner : List (Option ℤ)) (l : Linked) (t : Stop) → inner ≡ replicate s.code.brief None
    → HandsIn p s.call.inward at.first s.at.first (linked_in visible own inner) (Ok tt) l
    → BodyRan source p s l (stop_end t)
    → stop_end t ≡ calls_within source (s.at.calls + 1) (activation block at.first) site (frame_in visible own)
block_stops source block p at site s b program visible own inner l t e hands ran =
    call_stops_body source (body_by source s.at.calls) (activation block at.first) site b.callee s.at.first (frame_in visible own) l t
    (in_done source block p at site s b program visible own inner l e hands)
    (ran_body source block p at site s b l (stop_end t) ran)
    ∙ sym (begun_call source block p at site s (frame_in visible own) b)

pub block_stops_out : (source : Source) (block : BlockTree) (p : Program) (at : At) (site : CallSite) (s : Started)
    → Begins source block p at site s → IsProgram source p
    → (visible : List ℤ) (own inner : List (Option ℤ)) (l k : Linked) (after : Frame) (t : Stop)
    → inner ≡ replicate s.code.brief None
    → HandsIn p s.call.inward at.first s.at.first (linked_in visible own inner) (Ok tt) l
    → BodyRan source p s l (ended after)
    → HandsOut p s.call.outward s.call.place at.first s.at.first (with_inside l after) (Err t) k
    → stop_end t ≡ calls_within source (s.at.calls + 1) (activation block at.first) site (frame_in visible own)
block_stops_out source block p at site s b program visible own inner l k after t e hands ran out =
    call_stops_out source (body_by source s.at.calls) (activation block at.first) site b.callee s.at.first (frame_in visible own) l after t
    (in_done source block p at site s b program visible own inner l e hands)
    (ran_body source block p at site s b l (ended after) ran)
    (out source block site b.callee (handed_out source site.how b.callee) program.types b.runs_block.place b.runs_block.outward)
    ∙ sym (begun_call source block p at site s (frame_in visible own) b)

pub block_done : (source : Source) (block : BlockTree) (p : Program) (at : At) (site : CallSite) (s : Started)
    → Begins source block p at site s → IsProgram source p
    → (visible : List ℤ) (own inner : List (Option ℤ)) (l k : Linked) (after : Frame) (v : Option ℤ)
    → inner ≡ replicate s.code.brief None
    → HandsIn p s.call.inward at.first s.at.first (linked_in visible own inner) (Ok tt) l
    → BodyRan source p s l (ended after)
    → HandsOut p s.call.outward s.call.place at.first s.at.first (with_inside l after) (Ok tt) k
    → v ≡ slice_index_or k.inner s.code.value None
    → ended (record { frame = frame_in k.visible k.outer; value = v })
    ≡ calls_within source (s.at.calls + 1) (activation block at.first) site (frame_in visible own)
block_done source block p at site s b program visible own inner l k after v e hands ran out value =
    ap (λ x. let r : Returned = record { frame = frame_in k.visible k.outer; value = x } in ended r)
    (value ∙ ap (λ n. slice_index_or k.inner n None) b.code.value)
    ∙ call_done source (body_by source s.at.calls) (activation block at.first) site b.callee s.at.first (frame_in visible own) l k after
    (in_done source block p at site s b program visible own inner l e hands)
    (ran_body source block p at site s b l (ended after) ran)
    (out source block site b.callee (handed_out source site.how b.callee) program.types b.runs_block.place b.runs_block.outward)
    ∙ sym (begun_call source block p at site s (frame_in visible own) b)

-- ---- room

pub room_left : (n k w under rest width : ℕ) → k ≡ n + 1 → k * w ≤ under → width ≤ w → rest + width ≡ under → n * w ≤ rest
room_left n k w under rest width e most small parts =
    let grown : k * w ≡ n * w + w = ap (λ x. x * w) e ∙ omega arith in
    omega (arith, grown, most, small, parts)

-- ---- the entered block

entered : (source : Source) (p : Program) → IsProgram source p → (c : Code) → IsCode source p source.entry c
    → (visible : List ℤ) (own : List (Option ℤ)) → own ≡ replicate c.brief None → (r : Ended Frame)
    → CodeRan source source.entry p (calls_within source most_calls) (activation source.entry 0) (frame_in visible own) c.body r
    → visible_end r ≡ (scan_from source most_calls visible).end
entered source p program c is visible own e r ran =
    ap visible_end (ran source.entry.body is.body
    ∙ ap (λ b. run_code source (calls_within source most_calls) (activation source.entry 0) source.entry.body (frame_in visible b))
    (e ∙ ap (λ n. replicate n None) is.brief))

seen : (r : Result Unit Stop) (after : Frame) → visible_end (end_in (λ done. after) r) ≡ end_in (λ done. after.visible) r
seen (Ok done) after = refl
seen (Err (stop.Trap t)) after = refl
seen (Err (stop.Over place)) after = refl

pub entry_made : (source : Source) (p : Program) → IsProgram source p → code_at p p.entry ≡ None → ⊥
entry_made source p program missing = not_both (code_at p p.entry) program.entered.0 program.entered.1 missing

pub entry_ends : (source : Source) (p : Program) → IsProgram source p
    → (c : Code) → code_at p p.entry ≡ Some c → (visible : List ℤ) (own : List (Option ℤ))
    → (own_is : c.brief ≤ p.widest → own ≡ replicate c.brief None) → (r : Result Unit Stop) (after : Frame)
    → CodeRan source source.entry p (calls_within source most_calls) (activation source.entry 0) (frame_in visible own) c.body
    (end_in (λ done. after) r)
    → end_in (λ done. after.visible) r ≡ (scan_from source most_calls visible).end
entry_ends source p program c is visible own own_is r after ran =
    let code = program.code p.entry source.entry c program.entry is in
    sym (seen r after) ∙ entered source p program c code visible own (own_is code.widest) (end_in (λ done. after) r) ran
