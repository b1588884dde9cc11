-- A turn of a loop, as the code takes it and as the definitions do.
use Rattle.std.proofs.Common.{◌≡◌, ℕ, zero, suc, ◌+◌, ◌-◌, ◌<◌, ℤ, ◌+ℤ◌, true, false, Some, None, refl, sym, ap, ◌∙◌, arith}
use Rattle.pv_place.specs.declared.place.Place.{Place}
use Rattle.pv_mean.specs.Sources.{Source}
use Rattle.pv_mean.specs.Frames.{Frame}
use Rattle.pv_mean.specs.Endings.{got, trap, Value, ended, Ending, normal, by_over, end_of, when_got, and_then}
use Rattle.pv_mean.specs.Spots.{read_spot, write_spot}
use Rattle.pv_mean.specs.Values.{is_true}
use Rattle.pv_mean.specs.Statements.{after_turn, while_turns, repeat_turns, Counting, is_on_the_way, for_turns}
use Rattle.pv_run.specs.declared.stop.Stop.{Stop}
use Rattle.pv_run.specs.declared.stop.Flow.{Flow}
use Rattle.pv_run.specs.Ends.{stop_ending, stop_end, flow_ending, behind_turn}
use Rattle.pv_run.specs.Turns.{Stepped, for_step}
use Rattle.pv_run.proofs.Endings.{tested, true_by, untested, turned, left, stopped, goes_on_by, stops_by}

-- so many turns are left, and one more was
pub one_more : (n i : ℕ) → i < n → n - i ≡ suc (n - (i + 1))
one_more n i h = omega arith

-- ---- WHILE

pub while_goes_on : (condition : Frame → Value) (body : Frame → Ending) (place : Place) (n : ℕ) (frame after : Frame) (f : Flow)
    → tested (condition frame) ≡ ended true → flow_ending f after ≡ body frame → behind_turn f ≡ None
    → while_turns condition body place (suc n) frame ≡ while_turns condition body place n after
while_goes_on condition body place n frame after f p q r =
    true_by (condition frame) true p (λ b. elim b [
      | true ↦ after_turn (body frame) (λ g. while_turns condition body place n g)
      | false ↦ normal frame
    ]) ∙ ap (λ e. after_turn e (λ g. while_turns condition body place n g)) (sym q)
    ∙ turned f after (λ g. while_turns condition body place n g) r

pub while_leaves : (condition : Frame → Value) (body : Frame → Ending) (place : Place) (n : ℕ) (frame after : Frame) (f e : Flow)
    → tested (condition frame) ≡ ended true → flow_ending f after ≡ body frame → behind_turn f ≡ Some e
    → while_turns condition body place (suc n) frame ≡ flow_ending e after
while_leaves condition body place n frame after f e p q r =
    true_by (condition frame) true p (λ b. elim b [
      | true ↦ after_turn (body frame) (λ g. while_turns condition body place n g)
      | false ↦ normal frame
    ]) ∙ ap (λ x. after_turn x (λ g. while_turns condition body place n g)) (sym q)
    ∙ left f e after (λ g. while_turns condition body place n g) r

pub while_stops : (condition : Frame → Value) (body : Frame → Ending) (place : Place) (n : ℕ) (frame : Frame) (s : Stop)
    → tested (condition frame) ≡ ended true → stop_ending s ≡ body frame
    → while_turns condition body place (suc n) frame ≡ stop_ending s
while_stops condition body place n frame s p q =
    true_by (condition frame) true p (λ b. elim b [
      | true ↦ after_turn (body frame) (λ g. while_turns condition body place n g)
      | false ↦ normal frame
    ]) ∙ ap (λ x. after_turn x (λ g. while_turns condition body place n g)) (sym q)
    ∙ stopped s (λ g. while_turns condition body place n g)

pub while_ends : (condition : Frame → Value) (body : Frame → Ending) (place : Place) (n : ℕ) (frame : Frame)
    → tested (condition frame) ≡ ended false → while_turns condition body place n frame ≡ normal frame
while_ends condition body place zero frame p =
    true_by (condition frame) false p (λ b. elim b [
      | true ↦ by_over place
      | false ↦ normal frame
    ])
while_ends condition body place (suc n) frame p =
    true_by (condition frame) false p (λ b. elim b [
      | true ↦ after_turn (body frame) (λ g. while_turns condition body place n g)
      | false ↦ normal frame
    ])

pub while_untested : (condition : Frame → Value) (body : Frame → Ending) (place : Place) (n : ℕ) (frame : Frame) (s : Stop)
    → tested (condition frame) ≡ stop_end s → while_turns condition body place n frame ≡ stop_ending s
while_untested condition body place zero frame s p =
    untested (condition frame) s p (λ v. elim (is_true v) [
      | true ↦ by_over place
      | false ↦ normal frame
    ])
while_untested condition body place (suc n) frame s p =
    untested (condition frame) s p (λ v. elim (is_true v) [
      | true ↦ after_turn (body frame) (λ g. while_turns condition body place n g)
      | false ↦ normal frame
    ])

pub while_over : (condition : Frame → Value) (body : Frame → Ending) (place : Place) (frame : Frame)
    → tested (condition frame) ≡ ended true → while_turns condition body place 0 frame ≡ by_over place
while_over condition body place frame p =
    true_by (condition frame) true p (λ b. elim b [
      | true ↦ by_over place
      | false ↦ normal frame
    ])

-- ---- REPEAT

-- what stands behind a turn
abbrev pub until : (Frame → Value) → (Frame → Ending) → Frame → Ending
until condition next f = when_got (condition f) (λ v. elim (is_true v) [
  | true ↦ normal f
  | false ↦ next f
])

pub repeat_goes_on : (condition : Frame → Value) (body : Frame → Ending) (place : Place) (n : ℕ) (frame after : Frame) (f : Flow)
    → flow_ending f after ≡ body frame → behind_turn f ≡ None → tested (condition after) ≡ ended false
    → repeat_turns condition body place (suc n) frame ≡ repeat_turns condition body place n after
repeat_goes_on condition body place n frame after f q r p =
    let next = until condition (λ g. repeat_turns condition body place n g) in
    ap (λ e. after_turn e next) (sym q) ∙ turned f after next r
    ∙ true_by (condition after) false p (λ b. elim b [
      | true ↦ normal after
      | false ↦ repeat_turns condition body place n after
    ])

pub repeat_ends : (condition : Frame → Value) (body : Frame → Ending) (place : Place) (n : ℕ) (frame after : Frame) (f : Flow)
    → flow_ending f after ≡ body frame → behind_turn f ≡ None → tested (condition after) ≡ ended true
    → repeat_turns condition body place (suc n) frame ≡ normal after
repeat_ends condition body place n frame after f q r p =
    let next = until condition (λ g. repeat_turns condition body place n g) in
    ap (λ e. after_turn e next) (sym q) ∙ turned f after next r
    ∙ true_by (condition after) true p (λ b. elim b [
      | true ↦ normal after
      | false ↦ repeat_turns condition body place n after
    ])

pub repeat_untested : (condition : Frame → Value) (body : Frame → Ending) (place : Place) (n : ℕ) (frame after : Frame) (f : Flow)
    (s : Stop)
    → flow_ending f after ≡ body frame → behind_turn f ≡ None → tested (condition after) ≡ stop_end s
    → repeat_turns condition body place (suc n) frame ≡ stop_ending s
repeat_untested condition body place n frame after f s q r p =
    let next = until condition (λ g. repeat_turns condition body place n g) in
    ap (λ e. after_turn e next) (sym q) ∙ turned f after next r
    ∙ untested (condition after) s p (λ v. elim (is_true v) [
      | true ↦ normal after
      | false ↦ repeat_turns condition body place n after
    ])

pub repeat_leaves : (condition : Frame → Value) (body : Frame → Ending) (place : Place) (n : ℕ) (frame after : Frame) (f e : Flow)
    → flow_ending f after ≡ body frame → behind_turn f ≡ Some e
    → repeat_turns condition body place (suc n) frame ≡ flow_ending e after
repeat_leaves condition body place n frame after f e q r =
    let next = until condition (λ g. repeat_turns condition body place n g) in
    ap (λ x. after_turn x next) (sym q) ∙ left f e after next r

pub repeat_stops : (condition : Frame → Value) (body : Frame → Ending) (place : Place) (n : ℕ) (frame : Frame) (s : Stop)
    → stop_ending s ≡ body frame → repeat_turns condition body place (suc n) frame ≡ stop_ending s
repeat_stops condition body place n frame s q =
    let next = until condition (λ g. repeat_turns condition body place n g) in
    ap (λ x. after_turn x next) (sym q) ∙ stopped s next

-- ---- FOR

-- what stands behind a turn
abbrev pub stepping : Source → Counting → (ℤ → Frame → Ending) → Frame → Ending
stepping source loop next f = when_got (read_spot f loop.variable_place loop.variable)
    (λ v. next (v +ℤ loop.by) (write_spot source f loop.variable (v +ℤ loop.by)))

abbrev pub on_stepped : (ℤ → Frame → Ending) → Stepped → Ending
on_stepped next x = next x.count x.frame

-- by the step as a whole
pub stepped_by : (t : Value) (f : ℤ → Stepped) (next : ℤ → Frame → Ending)
    → when_got t (λ v. next (f v).count (f v).frame) ≡ when_got (and_then t (λ v. got (f v))) (on_stepped next)
stepped_by (got v) f next = refl
stepped_by (trap kind place) f next = refl

pub for_goes_on : (source : Source) (loop : Counting) (body : Frame
    → Ending) (n : ℕ) (count : ℤ) (frame after : Frame) (f : Flow) (x : Stepped)
    → is_on_the_way loop.by count loop.last ≡ true → flow_ending f after ≡ body frame → behind_turn f ≡ None
    → ended x ≡ end_of (for_step source loop.variable_place loop.by loop.variable after)
    → for_turns source loop body (suc n) count frame ≡ for_turns source loop body n x.count x.frame
for_goes_on source loop body n count frame after f x w q r p =
    let next = stepping source loop (λ c g. for_turns source loop body n c g) in
    ap (λ b. elim b [
      | true ↦ after_turn (body frame) next
      | false ↦ normal frame
    ]) w ∙ ap (λ e. after_turn e next) (sym q) ∙ turned f after next r
    ∙ stepped_by (read_spot after loop.variable_place loop.variable) (λ v. record {
      count = v +ℤ loop.by;
      frame = write_spot source after loop.variable (v +ℤ loop.by);
    }) (λ c g. for_turns source loop body n c g)
    ∙ goes_on_by (for_step source loop.variable_place loop.by loop.variable after) x p (on_stepped
    (λ c g. for_turns source loop body n c g))

pub for_unstepped : (source : Source) (loop : Counting) (body : Frame
    → Ending) (n : ℕ) (count : ℤ) (frame after : Frame) (f : Flow) (s : Stop)
    → is_on_the_way loop.by count loop.last ≡ true → flow_ending f after ≡ body frame → behind_turn f ≡ None
    → stop_end s ≡ end_of (for_step source loop.variable_place loop.by loop.variable after)
    → for_turns source loop body (suc n) count frame ≡ stop_ending s
for_unstepped source loop body n count frame after f s w q r p =
    let next = stepping source loop (λ c g. for_turns source loop body n c g) in
    ap (λ b. elim b [
      | true ↦ after_turn (body frame) next
      | false ↦ normal frame
    ]) w ∙ ap (λ e. after_turn e next) (sym q) ∙ turned f after next r
    ∙ stepped_by (read_spot after loop.variable_place loop.variable) (λ v. record {
      count = v +ℤ loop.by;
      frame = write_spot source after loop.variable (v +ℤ loop.by);
    }) (λ c g. for_turns source loop body n c g)
    ∙ stops_by (for_step source loop.variable_place loop.by loop.variable after) s p (on_stepped (λ c g. for_turns source loop body n c g))

pub for_leaves : (source : Source) (loop : Counting) (body : Frame → Ending) (n : ℕ) (count : ℤ) (frame after : Frame) (f e : Flow)
    → is_on_the_way loop.by count loop.last ≡ true → flow_ending f after ≡ body frame → behind_turn f ≡ Some e
    → for_turns source loop body (suc n) count frame ≡ flow_ending e after
for_leaves source loop body n count frame after f e w q r =
    let next = stepping source loop (λ c g. for_turns source loop body n c g) in
    ap (λ b. elim b [
      | true ↦ after_turn (body frame) next
      | false ↦ normal frame
    ]) w ∙ ap (λ x. after_turn x next) (sym q) ∙ left f e after next r

pub for_stops : (source : Source) (loop : Counting) (body : Frame → Ending) (n : ℕ) (count : ℤ) (frame : Frame) (s : Stop)
    → is_on_the_way loop.by count loop.last ≡ true → stop_ending s ≡ body frame
    → for_turns source loop body (suc n) count frame ≡ stop_ending s
for_stops source loop body n count frame s w q =
    let next = stepping source loop (λ c g. for_turns source loop body n c g) in
    ap (λ b. elim b [
      | true ↦ after_turn (body frame) next
      | false ↦ normal frame
    ]) w ∙ ap (λ x. after_turn x next) (sym q) ∙ stopped s next

pub for_ends : (source : Source) (loop : Counting) (body : Frame → Ending) (n : ℕ) (count : ℤ) (frame : Frame)
    → is_on_the_way loop.by count loop.last ≡ false → for_turns source loop body n count frame ≡ normal frame
for_ends source loop body zero count frame w = ap (λ b. elim b [
  | true ↦ by_over loop.place
  | false ↦ normal frame
]) w
for_ends source loop body (suc n) count frame w = ap (λ b. elim b [
  | true ↦ after_turn (body frame) (stepping source loop (λ c g. for_turns source loop body n c g))
  | false ↦ normal frame
]) w

pub for_over : (source : Source) (loop : Counting) (body : Frame → Ending) (count : ℤ) (frame : Frame)
    → is_on_the_way loop.by count loop.last ≡ true → for_turns source loop body 0 count frame ≡ by_over loop.place
for_over source loop body count frame w = ap (λ b. elim b [
  | true ↦ by_over loop.place
  | false ↦ normal frame
]) w
