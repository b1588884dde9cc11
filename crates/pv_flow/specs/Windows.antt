-- For each location from where edges may lead to it, by the loops around it that begin before it. The code finds it in one pass over
-- loops that stand outermost first, with the ranges that are still open on a stack, the innermost on top.
use Rattle.std.specs.Prelude.{◌≡◌, ℕ, suc, ◌+◌, ◌<◌, ◌≤◌, List, [], ◌∷◌, ◌++◌, length, slice_get, slice_index_or, Bool, true, false, not, ◌&&◌, ◌||◌, nat_lt, nat_le, if◌then◌else◌, Option, Some, None, IfSome}
use Rattle.std.specs.List.{AllByRecursion, list_all}
use Rattle.pv_flow.specs.declared.windows.Range.{Range}
use Rattle.pv_flow.specs.declared.parts.Edge.{Edge}
use Rattle.pv_flow.specs.declared.parts.CallEdge.{CallEdge}
use Rattle.pv_flow.specs.declared.parts.Loop.{Loop as CodeLoop}
use Rattle.pv_flow.specs.declared.parts.Parts.{Parts}
use Rattle.pv_flow.specs.Automata.{Loop, holds}
use Rattle.pv_flow.specs.Faults.{cross, enters_well}
use Rattle.pv_flow.specs.WellMade.{stands_before}

-- ---- ranges

-- the location lies in the window; where there is none, each does
abbrev pub lets : Option Range → ℕ → Bool
lets None l = true
lets (Some r) l = nat_le r.first l && nat_le l r.last

abbrev pub range_of : Loop → Range
range_of loop = record { first = loop.first; last = loop.last }

abbrev pub window_at : List (Option Range) → ℕ → Option Range
window_at ws t = slice_index_or ws t None

-- ---- the stack, its top first

abbrev pub top_of : List Range → Option Range
top_of [] = None
top_of (r ∷ stack) = Some r

-- the range on top ends before the location
abbrev pub is_ended : ℕ → List Range → Bool
is_ended t [] = false
is_ended t (r ∷ stack) = nat_lt r.last t

abbrev pub closed : ℕ → List Range → List Range
closed t [] = []
closed t (r ∷ stack) = if nat_lt r.last t then closed t stack else r ∷ stack

-- the first that doesn't
abbrev pub top_at : ℕ → List Range → Option Range
top_at t [] = None
top_at t (r ∷ stack) = if nat_lt r.last t then top_at t stack else Some r

-- further windows, by the ranges that were open
pub record AreFilled (before : List Range) (old : List (Option Range)) (n : ℕ) (stack : List Range) (ws : List (Option Range)) : Type 0 where
  pub least : length old ≤ length ws
  pub most : length old ≤ n → length ws ≤ n
  pub earlier : (t : ℕ) → t < length old → window_at ws t ≡ window_at old t
  pub later : (t : ℕ) → length old ≤ t → t < length ws → window_at ws t ≡ top_at t before
  pub tops : (t : ℕ) → length ws ≤ suc t → top_at t stack ≡ top_at t before

-- ---- loops

-- the one may stand before the other
pub record IsBefore (one other : Loop) : Type 0 where
  pub order : stands_before one other ≡ true
  pub nests : cross one other ≡ false

pub record AreNested (loops : List Loop) : Type 0 where
  pub ranges : (i : ℕ) → IfSome (slice_get loops i) (λ loop. loop.first ≤ loop.last)
  pub pairs : (i j : ℕ) → i < j → IfSome (slice_get loops i) (λ one. IfSome (slice_get loops j) (λ other. IsBefore one other))

-- of the loops around one location each holds the other
abbrev pub hold_all : List Loop → ℕ → ℕ → Bool
hold_all loops t from = list_all (λ loop. not (holds loop t) || holds loop from) loops

-- an edge from the other to the one enters each loop at its first location
abbrev pub enter_all : List Loop → ℕ → ℕ → Bool
enter_all loops t from = list_all (λ loop. enters_well loop from t) loops

-- these loops have been gone through: windows stand up to where the last begins, and the stack answers from there on
pub record AreSwept (loops : List Loop) (stack : List Range) (ws : List (Option Range)) : Type 0 where
  pub ranges : AllByRecursion (λ loop. loop.first ≤ loop.last) loops
  pub firsts : AllByRecursion (λ loop. loop.first < length ws) loops
  pub reach : (m : ℕ) → AllByRecursion (λ loop. loop.first ≤ m) loops → length ws ≤ suc m
  pub windows : (t from : ℕ) → t < length ws → lets (window_at ws t) from ≡ enter_all loops t from
  pub tops : (t from : ℕ) → length ws ≤ suc t → lets (top_at t stack) from ≡ hold_all loops t from

-- the loop isn't empty, and begins no earlier than those before it
abbrev pub goes_on : Loop → ℕ → Bool
goes_on loop count = nat_le loop.first loop.last && nat_le count (loop.first + 1)

-- whether it ends within what is open
abbrev pub Opens : Bool → Loop → List Range → List Range → Type 0
Opens true loop old new = (lets (top_of (closed loop.first old)) loop.last ≡ true) × (new ≡ range_of loop ∷ closed loop.first old)
Opens false loop old new = lets (top_of (closed loop.first old)) loop.last ≡ false

abbrev pub Enters : Bool → List Loop → Loop → List Range → List (Option Range) → Type 0
Enters true loops loop stack ws = AreSwept (loops ++ loop ∷ []) stack ws
Enters false loops loop stack ws = loop.first ≤ loop.last → AllByRecursion (λ one. IsBefore one loop) loops → ⊥

abbrev pub Sweeps : Bool → List Loop → List Range → List (Option Range) → Type 0
Sweeps true loops stack ws = AreSwept loops stack ws
Sweeps false loops stack ws = AreNested loops → ⊥

pub record AreWindows (loops : List Loop) (n : ℕ) (ws : List (Option Range)) : Type 0 where
  pub ranges : AllByRecursion (λ loop. loop.first ≤ loop.last) loops
  pub windows : (t from : ℕ) → t < n → lets (window_at ws t) from ≡ enter_all loops t from

abbrev pub HaveWindows : Bool → List Loop → ℕ → List (Option Range) → Type 0
HaveWindows true loops n ws = AreWindows loops n ws
HaveWindows false loops n ws = AreNested loops → ⊥

-- ---- what is looked at

abbrev pub turns_lie : Parts → Bool
turns_lie p = list_all (λ loop. list_all (λ e. nat_lt e (length p.edges.items)) loop.turns.items) p.loops.items

-- each loop ends within those around its first location that begin before it
abbrev pub ranges_nest : List (Option Range) → List CodeLoop → Bool
ranges_nest ws loops = list_all (λ loop. lets (window_at ws loop.first) loop.last) loops

abbrev pub edges_enter : List (Option Range) → List Edge → Bool
edges_enter ws edges = list_all (λ edge. lets (window_at ws edge.to) edge.from) edges

abbrev pub calls_enter : List (Option Range) → List CallEdge → Bool
calls_enter ws calls = list_all (λ call. lets (window_at ws call.to) call.from) calls

abbrev pub windows_let : Parts → List (Option Range) → Bool
windows_let p ws = (turns_lie p && ranges_nest ws p.loops.items) && (edges_enter ws p.edges.items && calls_enter ws p.calls.items)
