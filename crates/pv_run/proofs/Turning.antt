-- Turns of loops by what the code's calls say of conditions and bodies.
use Rattle.std.proofs.Common.{◌≡◌, ℕ, ◌+◌, ◌-◌, ◌<◌, ◌≤◌, ℤ, true, false, Some, None, Ok, Err, ap, ◌∙◌, arith}
use Rattle.pv_place.specs.declared.place.Place.{Place}
use Rattle.pv_tree.specs.Tree.{ExprTree, BlockTree}
use Rattle.pv_mean.specs.Sources.{Source}
use Rattle.pv_mean.specs.Frames.{Frame}
use Rattle.pv_mean.specs.Endings.{Value, Ending, normal, by_over, ended, end_of}
use Rattle.pv_mean.specs.Values.{value}
use Rattle.pv_mean.specs.Statements.{while_turns, repeat_turns, Counting, is_on_the_way, for_turns}
use Rattle.pv_eval.specs.Means.{activation}
use Rattle.pv_run.specs.declared.program.Program.{Program}
use Rattle.pv_run.specs.declared.stop.Stop.{Stop}
use Rattle.pv_run.specs.declared.stop.Flow.{Flow}
use Rattle.pv_run.specs.Ends.{stop_ending, stop_end, flow_ending, behind_turn}
use Rattle.pv_run.specs.Turns.{for_step}
use Rattle.pv_run.specs.Code.{IsValue}
use Rattle.pv_run.specs.Runs.{Tests}
use Rattle.pv_run.proofs.Loops.{one_more, while_goes_on, while_leaves, while_stops, while_ends, while_untested, while_over, repeat_goes_on, repeat_ends, repeat_untested, repeat_leaves, repeat_stops, for_goes_on, for_unstepped, for_leaves, for_stops, for_over}

-- the condition, in a frame
abbrev pub condition_of : Source → BlockTree → ℕ → ExprTree → Frame → Value
condition_of source block first e f = value source (activation block first) f e

-- ---- WHILE

pub while_false : (source : Source) (block : BlockTree) (p : Program) (n first k : ℕ) (e : ExprTree) (body : Frame
    → Ending) (place : Place) (frame : Frame)
    → IsValue source block p n e → Tests p n first frame (Ok false)
    → while_turns (condition_of source block first e) body place k frame ≡ normal frame
while_false source block p n first k e body place frame is t = while_ends (condition_of source block first e) body place k frame
    (t source block e is)

pub while_stop : (source : Source) (block : BlockTree) (p : Program) (n first k : ℕ) (e : ExprTree) (body : Frame
    → Ending) (place : Place) (frame : Frame) (s : Stop)
    → IsValue source block p n e → Tests p n first frame (Err s)
    → while_turns (condition_of source block first e) body place k frame ≡ stop_ending s
while_stop source block p n first k e body place frame s is t =
    while_untested (condition_of source block first e) body place k frame s (t source block e is)

pub while_next : (source : Source) (block : BlockTree) (p : Program) (n first bound i : ℕ) (e : ExprTree) (body : Frame
    → Ending) (place : Place) (frame after : Frame) (f : Flow)
    → i < bound → IsValue source block p n e → Tests p n first frame (Ok true) → flow_ending f after ≡ body frame → behind_turn f ≡ None
    → while_turns (condition_of source block first e) body place (bound - i) frame ≡ while_turns
    (condition_of source block first e) body place (bound - (i + 1)) after
while_next source block p n first bound i e body place frame after f lt is t q r =
    ap (λ k. while_turns (condition_of source block first e) body place k frame) (one_more bound i lt)
    ∙ while_goes_on (condition_of source block first e) body place (bound - (i + 1)) frame after f (t source block e is) q r

pub while_left : (source : Source) (block : BlockTree) (p : Program) (n first bound i : ℕ) (e : ExprTree) (body : Frame
    → Ending) (place : Place) (frame after : Frame) (f end : Flow)
    → i < bound → IsValue source block p n e → Tests p n first frame (Ok true) → flow_ending f after ≡ body frame → behind_turn f ≡ Some end
    → while_turns (condition_of source block first e) body place (bound - i) frame ≡ flow_ending end after
while_left source block p n first bound i e body place frame after f end lt is t q r =
    ap (λ k. while_turns (condition_of source block first e) body place k frame) (one_more bound i lt)
    ∙ while_leaves (condition_of source block first e) body place (bound - (i + 1)) frame after f end (t source block e is) q r

pub while_stopped : (source : Source) (block : BlockTree) (p : Program) (n first bound i : ℕ) (e : ExprTree) (body : Frame
    → Ending) (place : Place) (frame : Frame) (s : Stop)
    → i < bound → IsValue source block p n e → Tests p n first frame (Ok true) → stop_ending s ≡ body frame
    → while_turns (condition_of source block first e) body place (bound - i) frame ≡ stop_ending s
while_stopped source block p n first bound i e body place frame s lt is t q =
    ap (λ k. while_turns (condition_of source block first e) body place k frame) (one_more bound i lt)
    ∙ while_stops (condition_of source block first e) body place (bound - (i + 1)) frame s (t source block e is) q

pub while_past : (source : Source) (block : BlockTree) (p : Program) (n first bound i : ℕ) (e : ExprTree) (body : Frame
    → Ending) (place : Place) (frame : Frame)
    → bound ≤ i → IsValue source block p n e → Tests p n first frame (Ok true)
    → while_turns (condition_of source block first e) body place (bound - i) frame ≡ by_over place
while_past source block p n first bound i e body place frame h is t =
    let z : bound - i ≡ 0 = omega arith in
    ap (λ k. while_turns (condition_of source block first e) body place k frame) z
    ∙ while_over (condition_of source block first e) body place frame (t source block e is)

-- ---- REPEAT

pub repeat_next : (source : Source) (block : BlockTree) (p : Program) (n first bound i : ℕ) (e : ExprTree) (body : Frame
    → Ending) (place : Place) (frame after : Frame) (f : Flow)
    → i < bound → IsValue source block p n e → flow_ending f after ≡ body frame → behind_turn f ≡ None → Tests p n first after (Ok false)
    → repeat_turns (condition_of source block first e) body place (bound - i) frame ≡ repeat_turns
    (condition_of source block first e) body place (bound - (i + 1)) after
repeat_next source block p n first bound i e body place frame after f lt is q r t =
    ap (λ k. repeat_turns (condition_of source block first e) body place k frame) (one_more bound i lt)
    ∙ repeat_goes_on (condition_of source block first e) body place (bound - (i + 1)) frame after f q r (t source block e is)

pub repeat_done : (source : Source) (block : BlockTree) (p : Program) (n first bound i : ℕ) (e : ExprTree) (body : Frame
    → Ending) (place : Place) (frame after : Frame) (f : Flow)
    → i < bound → IsValue source block p n e → flow_ending f after ≡ body frame → behind_turn f ≡ None → Tests p n first after (Ok true)
    → repeat_turns (condition_of source block first e) body place (bound - i) frame ≡ normal after
repeat_done source block p n first bound i e body place frame after f lt is q r t =
    ap (λ k. repeat_turns (condition_of source block first e) body place k frame) (one_more bound i lt)
    ∙ repeat_ends (condition_of source block first e) body place (bound - (i + 1)) frame after f q r (t source block e is)

pub repeat_stop : (source : Source) (block : BlockTree) (p : Program) (n first bound i : ℕ) (e : ExprTree) (body : Frame
    → Ending) (place : Place) (frame after : Frame) (f : Flow) (s : Stop)
    → i < bound → IsValue source block p n e → flow_ending f after ≡ body frame → behind_turn f ≡ None → Tests p n first after (Err s)
    → repeat_turns (condition_of source block first e) body place (bound - i) frame ≡ stop_ending s
repeat_stop source block p n first bound i e body place frame after f s lt is q r t =
    ap (λ k. repeat_turns (condition_of source block first e) body place k frame) (one_more bound i lt)
    ∙ repeat_untested (condition_of source block first e) body place (bound - (i + 1)) frame after f s q r (t source block e is)

pub repeat_left : (source : Source) (block : BlockTree) (first bound i : ℕ) (e : ExprTree) (body : Frame
    → Ending) (place : Place) (frame after : Frame) (f end : Flow)
    → i < bound → flow_ending f after ≡ body frame → behind_turn f ≡ Some end
    → repeat_turns (condition_of source block first e) body place (bound - i) frame ≡ flow_ending end after
repeat_left source block first bound i e body place frame after f end lt q r =
    ap (λ k. repeat_turns (condition_of source block first e) body place k frame) (one_more bound i lt)
    ∙ repeat_leaves (condition_of source block first e) body place (bound - (i + 1)) frame after f end q r

pub repeat_stopped : (source : Source) (block : BlockTree) (first bound i : ℕ) (e : ExprTree) (body : Frame
    → Ending) (place : Place) (frame : Frame) (s : Stop)
    → i < bound → stop_ending s ≡ body frame → repeat_turns (condition_of source block first e) body place (bound - i) frame ≡ stop_ending s
repeat_stopped source block first bound i e body place frame s lt q =
    ap (λ k. repeat_turns (condition_of source block first e) body place k frame) (one_more bound i lt)
    ∙ repeat_stops (condition_of source block first e) body place (bound - (i + 1)) frame s q

pub repeat_past : (source : Source) (block : BlockTree) (first bound i : ℕ) (e : ExprTree) (body : Frame
    → Ending) (place : Place) (frame : Frame)
    → bound ≤ i → repeat_turns (condition_of source block first e) body place (bound - i) frame ≡ by_over place
repeat_past source block first bound i e body place frame h =
    let z : bound - i ≡ 0 = omega arith in
    ap (λ k. repeat_turns (condition_of source block first e) body place k frame) z

-- ---- FOR

pub for_next : (source : Source) (loop : Counting) (body : Frame
    → Ending) (bound i : ℕ) (count next : ℤ) (frame after stepped : Frame) (f : Flow)
    → i < bound → is_on_the_way loop.by count loop.last ≡ true → flow_ending f after ≡ body frame → behind_turn f ≡ None
    → ended (record { count = next; frame = stepped }) ≡ end_of (for_step source loop.variable_place loop.by loop.variable after)
    → for_turns source loop body (bound - i) count frame ≡ for_turns source loop body (bound - (i + 1)) next stepped
for_next source loop body bound i count next frame after stepped f lt w q r p =
    ap (λ k. for_turns source loop body k count frame) (one_more bound i lt)
    ∙ for_goes_on source loop body (bound - (i + 1)) count frame after f (record { count = next; frame = stepped }) w q r p

pub for_unmade : (source : Source) (loop : Counting) (body : Frame
    → Ending) (bound i : ℕ) (count : ℤ) (frame after : Frame) (f : Flow) (s : Stop)
    → i < bound → is_on_the_way loop.by count loop.last ≡ true → flow_ending f after ≡ body frame → behind_turn f ≡ None
    → stop_end s ≡ end_of (for_step source loop.variable_place loop.by loop.variable after)
    → for_turns source loop body (bound - i) count frame ≡ stop_ending s
for_unmade source loop body bound i count frame after f s lt w q r p =
    ap (λ k. for_turns source loop body k count frame) (one_more bound i lt)
    ∙ for_unstepped source loop body (bound - (i + 1)) count frame after f s w q r p

pub for_left : (source : Source) (loop : Counting) (body : Frame → Ending) (bound i : ℕ) (count : ℤ) (frame after : Frame) (f end : Flow)
    → i < bound → is_on_the_way loop.by count loop.last ≡ true → flow_ending f after ≡ body frame → behind_turn f ≡ Some end
    → for_turns source loop body (bound - i) count frame ≡ flow_ending end after
for_left source loop body bound i count frame after f end lt w q r =
    ap (λ k. for_turns source loop body k count frame) (one_more bound i lt)
    ∙ for_leaves source loop body (bound - (i + 1)) count frame after f end w q r

pub for_stopped : (source : Source) (loop : Counting) (body : Frame → Ending) (bound i : ℕ) (count : ℤ) (frame : Frame) (s : Stop)
    → i < bound → is_on_the_way loop.by count loop.last ≡ true → stop_ending s ≡ body frame
    → for_turns source loop body (bound - i) count frame ≡ stop_ending s
for_stopped source loop body bound i count frame s lt w q =
    ap (λ k. for_turns source loop body k count frame) (one_more bound i lt)
    ∙ for_stops source loop body (bound - (i + 1)) count frame s w q

pub for_past : (source : Source) (loop : Counting) (body : Frame → Ending) (bound i : ℕ) (count : ℤ) (frame : Frame)
    → bound ≤ i → is_on_the_way loop.by count loop.last ≡ true → for_turns source loop body (bound - i) count frame ≡ by_over loop.place
for_past source loop body bound i count frame h w =
    let z : bound - i ≡ 0 = omega arith in
    ap (λ k. for_turns source loop body k count frame) z ∙ for_over source loop body count frame w
