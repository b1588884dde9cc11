-- Flows: what runs one after another, as a tree, and its big step on valuations. Turns of loops are counted as those of statements: a
-- loop's test is made before one turn too many, and that one is over.
use Rattle.std.specs.Prelude.{ℕ, zero, suc, ◌+◌, List, [], true, false, Option, Some, None}
use Rattle.pv_place.specs.declared.place.Place.{Place}
use Rattle.pv_place.specs.declared.trap.TrapKind.{TrapKind}
use Rattle.pv_flow.specs.Terms.{Term, Valuation}
use Rattle.pv_flow.specs.Automata.{Set}
use Rattle.pv_flow.specs.Runs.{Outcome, done_with, trapped, gone_over}
use Rattle.pv_flow.specs.Calls.{set_through}
use Rattle.pv_layout.specs.Spots.{Check, is_on, failing}

-- out of the loop around it, to the end of its turn, or out of the whole
pub data Leaving : Type 0 where
  by_exit : Leaving
  by_continue : Leaving
  by_return : Leaving

pub data Flow : Type 0 where
  act : List Check → List Set → Flow
  -- the block of this number runs, with its bound variables from this one on
  enter : ℕ → ℕ → Place → Flow
  leave : Leaving → Flow
  -- one after the other
  then_ : Flow → Flow → Flow
  if_ : List Check → Term → Flow → Flow
  choice : List Check → Term → Flow → Flow → Flow
  -- the condition before each turn
  while_ : List Check → Term → Flow → Place → Flow
  -- so too, with sets after each turn
  for_ : List Check → Term → Flow → List Set → Place → Flow
  -- the condition, under which it ends, after each turn
  repeat_ : Flow → List Check → Term → Place → Flow

-- how many calls stand in it
abbrev pub calls_in : Flow → ℕ
calls_in (act checks sets) = 0
calls_in (enter block instance place) = 1
calls_in (leave which) = 0
calls_in (then_ f g) = calls_in f + calls_in g
calls_in (if_ checks c f) = calls_in f
calls_in (choice checks c f g) = calls_in f + calls_in g
calls_in (while_ checks c f place) = calls_in f
calls_in (for_ checks c f sets place) = calls_in f
calls_in (repeat_ f checks c place) = calls_in f

-- ---- endings

pub data Ending : Type 0 where
  normal : Valuation → Ending
  at_exit : Valuation → Ending
  at_continue : Valuation → Ending
  at_return : Valuation → Ending
  by_trap : TrapKind → Place → Ending
  by_over : Place → Ending

-- what follows a normal ending
abbrev pub go_on : Ending → (Valuation → Ending) → Ending
go_on (normal w) next = next w
go_on (at_exit w) next = at_exit w
go_on (at_continue w) next = at_continue w
go_on (at_return w) next = at_return w
go_on (by_trap kind place) next = by_trap kind place
go_on (by_over place) next = by_over place

-- after a turn
abbrev pub after_turn : Ending → (Valuation → Ending) → Ending
after_turn (normal w) next = next w
after_turn (at_exit w) next = normal w
after_turn (at_continue w) next = next w
after_turn (at_return w) next = at_return w
after_turn (by_trap kind place) next = by_trap kind place
after_turn (by_over place) next = by_over place

-- after a call
abbrev pub after_call : Outcome → Ending
after_call (done_with w) = normal w
after_call (trapped kind place) = by_trap kind place
after_call (gone_over place) = by_over place

abbrev pub ending_by : Leaving → Valuation → Ending
ending_by by_exit w = at_exit w
ending_by by_continue w = at_continue w
ending_by by_return w = at_return w

-- ---- where a flow runs

-- where the block's variables lie; what a call does, by its number, its block and the variable from which on the block's bound ones lie;
-- and the loop bound
pub record Setting : Type 0 where
  pub place : ℕ → ℕ
  pub called : ℕ → ℕ → ℕ → Valuation → Outcome
  pub bound : ℕ

-- the block's variables in the valuation
abbrev pub seen_in : Setting → Valuation → Valuation
seen_in s w = λ x. w (s.place x)

-- all at once
abbrev pub assigned_by : Setting → List Set → Valuation → Valuation
assigned_by s sets w = set_through s.place (seen_in s w) sets w

-- the first check that fails is a trap
abbrev pub clear_or : Option Check → Valuation → (Valuation → Ending) → Ending
clear_or None w next = next w
clear_or (Some check) w next = by_trap check.kind check.place

abbrev pub checked : Setting → List Check → Valuation → (Valuation → Ending) → Ending
checked s checks w next = clear_or (failing (seen_in s w) checks) w next

-- then what the condition chooses
abbrev pub tested : Setting → List Check → Term → Valuation → (Valuation → Ending) → (Valuation → Ending) → Ending
tested s checks c w one other = checked s checks w (λ v. elim (is_on (seen_in s v) c) [ true ↦ one v | false ↦ other v ])

-- ---- loops, where so many turns are left

-- with the test before each turn, and sets after it
abbrev pub test_turns : Setting → List Check → Term → (Valuation → Ending) → List Set → Place → ℕ → Valuation → Ending
test_turns s checks c body sets place zero w = tested s checks c w (λ v. by_over place) (λ v. normal v)
test_turns s checks c body sets place (suc n) w = tested s checks c w
    (λ v. after_turn (body v) (λ u. test_turns s checks c body sets place n (assigned_by s sets u))) (λ v. normal v)

-- with the test after each turn
abbrev pub repeat_turns : Setting → List Check → Term → (Valuation → Ending) → Place → ℕ → Valuation → Ending
repeat_turns s checks c body place zero w = by_over place
repeat_turns s checks c body place (suc n) w = after_turn (body w)
    (λ v. tested s checks c v (λ u. normal u) (λ u. repeat_turns s checks c body place n u))

-- ---- the big step

-- its calls are numbered from j on
abbrev pub flow : Setting → ℕ → Flow → Valuation → Ending
flow s j (act checks sets) w = checked s checks w (λ v. normal (assigned_by s sets v))
flow s j (enter block instance place) w = after_call (s.called j block instance w)
flow s j (leave which) w = ending_by which w
flow s j (then_ f g) w = go_on (flow s j f w) (λ v. flow s (j + calls_in f) g v)
flow s j (if_ checks c f) w = tested s checks c w (λ v. flow s j f v) (λ v. normal v)
flow s j (choice checks c f g) w = tested s checks c w (λ v. flow s j f v) (λ v. flow s (j + calls_in f) g v)
flow s j (while_ checks c f place) w = test_turns s checks c (λ v. flow s j f v) [] place s.bound w
flow s j (for_ checks c f sets place) w = test_turns s checks c (λ v. flow s j f v) sets place s.bound w
flow s j (repeat_ f checks c place) w = repeat_turns s checks c (λ v. flow s j f v) place s.bound w

-- of a whole block, wherever it is left
abbrev pub outcome_of_ending : Ending → Outcome
outcome_of_ending (normal w) = done_with w
outcome_of_ending (at_exit w) = done_with w
outcome_of_ending (at_continue w) = done_with w
outcome_of_ending (at_return w) = done_with w
outcome_of_ending (by_trap kind place) = trapped kind place
outcome_of_ending (by_over place) = gone_over place
