-- Runs with calls. A block at work has its automaton and where each of its variables lies: so one valuation serves all blocks, and
-- two names of one cell are one place. The entry's variables lie at their own numbers. A callee's bound variable x lies where the
-- caller's variable `instance` + x does, a shared one where the caller's does, and its own ones at the numbers that copying the
-- call's block gives them: behind the caller's, call edge by call edge, each with all that its calls need.
use Rattle.std.specs.Prelude.{◌≡◌, ℕ, zero, suc, ◌+◌, ◌-◌, pos, List, [], ◌∷◌, length, take, slice_index_or, Bool, true, false, not, ◌&&◌, ◌||◌, ◌==◌, nat_lt, cond, Option, Some, None}
use Rattle.pv_place.specs.declared.role.Role.{Role}
use Rattle.pv_place.specs.declared.role.Role.TheVariants.{Input, Param, Kept, Brief}
use Rattle.pv_flow.specs.Terms.{Valuation, value_of}
use Rattle.pv_flow.specs.Automata.{Variable, Set, CallEdge, Loop, Parts}
use Rattle.pv_flow.specs.Runs.{Outcome, done_with, trapped, gone_over, Way, taken, ended, put, Spot, at, past, moved, exit_of, ways_of, first_spot}

-- the automata of blocks, by the blocks' numbers; a block without code has none
abbrev pub Blocks : Type 0
Blocks = List (Option Parts)

abbrev pub block_at : Blocks → ℕ → Option Parts
block_at blocks b = slice_index_or blocks b None

-- ---- where variables lie

abbrev pub own_count : Parts → ℕ
own_count p = length p.vars - (p.bound + p.shared)

-- of each call edge's block
abbrev pub needed_by_calls : (ℕ → ℕ) → List CallEdge → ℕ
needed_by_calls needed [] = 0
needed_by_calls needed (call ∷ more) = needed call.block + needed_by_calls needed more

abbrev pub needed_in : (ℕ → ℕ) → Option Parts → ℕ
needed_in needed None = 0
needed_in needed (Some p) = own_count p + needed_by_calls needed p.calls

-- how many variables a call of the block adds: its own, and those that its calls add, down so many levels
abbrev pub needed_within : Blocks → ℕ → ℕ → ℕ
needed_within blocks zero b = 0
needed_within blocks (suc levels) b = needed_in (λ c. needed_within blocks levels c) (block_at blocks b)

-- down to the last: where no block calls itself, there are no more levels than blocks
abbrev pub needed : Blocks → ℕ → ℕ
needed blocks b = needed_within blocks (length blocks) b

-- a block at work: its automaton, where its variables lie, and the first number that neither it nor its callers use
pub record Work : Type 0 where
  pub parts : Parts
  pub place : ℕ → ℕ
  pub free : ℕ

abbrev pub entry_work : Parts → Work
entry_work p = record { parts = p; place = λ x. x; free = length p.vars }

-- a call edge with its number
pub record Numbered : Type 0 where
  pub number : ℕ
  pub call : CallEdge

abbrev pub numbered : ℕ → CallEdge → Numbered
numbered j call = record { number = j; call = call }

-- the first call edge that begins at the location; they are numbered from j on
abbrev pub call_from : ℕ → ℕ → List CallEdge → Option Numbered
call_from l j [] = None
call_from l j (call ∷ more) = cond (call.from == l) (Some (numbered j call)) (call_from l (suc j) more)

-- the call edge where a run stands
abbrev pub call_of : Parts → Spot → Option Numbered
call_of p (at l counts) = call_from l 0 p.calls
call_of p (past place) = None

-- the first number that the own variables of the callee of call edge j take: call edges count by their numbers, wherever they begin
abbrev pub base_of : Blocks → Work → ℕ → ℕ
base_of blocks k j = k.free + needed_by_calls (needed blocks) (take j k.parts.calls)

abbrev pub place_in : Work → CallEdge → Parts → ℕ → ℕ → ℕ
place_in k call p base x = cond (nat_lt x p.bound) (k.place (call.instance + x))
    (cond (nat_lt x (p.bound + p.shared)) (k.place (k.parts.bound + (x - p.bound))) (base + (x - (p.bound + p.shared))))

-- the callee at work
abbrev pub callee_work : Blocks → Work → Numbered → Parts → Work
callee_work blocks k c p = record {
  parts = p;
  place = place_in k c.call p (base_of blocks k c.number);
  free = base_of blocks k c.number + own_count p;
}

-- ---- values

-- the block's variables in the valuation
abbrev pub seen : Work → Valuation → Valuation
seen k w = λ x. w (k.place x)

abbrev pub set_through : (ℕ → ℕ) → Valuation → List Set → Valuation → Valuation
set_through place old [] w = w
set_through place old (set ∷ sets) w = set_through place old sets (put w (place set.variable) (value_of old set.value))

-- the block's sets, all at once
abbrev pub assigned_in : Work → List Set → Valuation → Valuation
assigned_in k sets w = set_through k.place (seen k w) sets w

abbrev pub is_brief : Role → Bool
is_brief Input = false
is_brief Param = false
is_brief Kept = false
is_brief Brief = true

-- The block's own variables begin with 0, whatever their roles and starts are, and so do bound ones of the role Brief. A translation
-- gives that role to those that begin without a value, as the outputs and the value of a function, and the role Kept to those that are
-- copied in before the call. Bound and shared variables are the caller's, so a copy of the call has them with the caller's roles, and the
-- own ones as Brief ones that start with 0.
abbrev pub begins_anew : Parts → ℕ → Variable → Bool
begins_anew p x v = not (nat_lt x (p.bound + p.shared)) || (nat_lt x p.bound && is_brief v.role)

-- from variable x on
abbrev pub cleared_from : Parts → (ℕ → ℕ) → ℕ → List Variable → Valuation → Valuation
cleared_from p place x [] w = w
cleared_from p place x (v ∷ vars) w =
    cleared_from p place (suc x) vars (cond (begins_anew p x v) (put w (place x) (pos 0)) w)

-- at a call's beginning
abbrev pub cleared : Work → Valuation → Valuation
cleared k w = cleared_from k.parts k.place 0 k.parts.vars w

-- ---- runs

pub data Stage : Type 0 where
  running : Spot → Valuation → Stage
  finished : Outcome → Stage

-- where the caller goes on
abbrev pub back_at : List Loop → CallEdge → Spot → Spot
back_at loops call (at l counts) = at call.to (moved loops l call.to counts)
back_at loops call (past place) = past place

-- the caller's run after the callee's, whatever its end
abbrev pub returned : List Loop → CallEdge → Spot → Outcome → Stage
returned loops call x (done_with w) = running (back_at loops call x) w
returned loops call x (trapped kind place) = finished (trapped kind place)
returned loops call x (gone_over place) = finished (gone_over place)

-- the run of the block at work, with loop bound n, comes from the stage to this outcome
pub data ComesTo (blocks : Blocks) (n : ℕ) : Work → Stage → Outcome → Type 0 where
  stays : {k : Work} {end out : Outcome} → end ≡ out → ComesTo blocks n k (finished end) out
  ends : {k : Work} {x : Spot} {w : Valuation} {out : Outcome} → ended (exit_of k.parts x) w ≡ Some out → ComesTo blocks n k (running x w) out
  goes : {k : Work} {x : Spot} {w : Valuation} {out : Outcome} (way : Way Spot)
      → exit_of k.parts x ≡ None → call_of k.parts x ≡ None → taken (seen k w) (ways_of k.parts n x) ≡ Some way
      → ComesTo blocks n k (running way.to (assigned_in k way.sets w)) out → ComesTo blocks n k (running x w) out
  calls : {k : Work} {x : Spot} {w : Valuation} {out : Outcome} (c : Numbered) (p : Parts) (middle : Outcome)
      → exit_of k.parts x ≡ None → call_of k.parts x ≡ Some c → block_at blocks c.call.block ≡ Some p
      → ComesTo blocks n (callee_work blocks k c p) (running (first_spot p) (cleared (callee_work blocks k c p) w)) middle
      → ComesTo blocks n k (returned k.parts.loops c.call x middle) out → ComesTo blocks n k (running x w) out

-- the entry's run with this valuation
abbrev pub EndsAs : Blocks → ℕ → Parts → Valuation → Outcome → Type 0
EndsAs blocks n p w out = ComesTo blocks n (entry_work p) (running (first_spot p) w) out
