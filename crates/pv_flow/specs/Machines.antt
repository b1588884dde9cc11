-- The machines of automata. A state has the values of the variables of the roles Param and Kept, an input those of the role Input,
-- each in the order of the variables. With a pattern attached, a scan fails as the pattern says; without one where a loop's bound is gone over.
use Rattle.std.specs.Prelude.{◌≡◌, ℕ, suc, ◌+◌, ◌-◌, ◌<◌, ℤ, pos, List, [], ◌∷◌, length, slice_get, slice_index_or, Bool as Truth, true, false, not, ◌&&◌, ◌||◌, ◌==◌, nat_lt, cond, IfSome, Option, Some, None, All}
use Rattle.std.specs.List.{list_any}
use Rattle.std.proofs.Props.{props}
use Rattle.pv_word.specs.declared.types.Ty.{Ty}
use Rattle.pv_word.specs.declared.types.Ty.TheVariants.{Bool}
use Rattle.pv_place.specs.declared.role.Role.TheVariants.{Input, Param, Kept, Brief}
use Rattle.pv_place.specs.Ranges.{Range, AreWithin, range_of, range_at}
use Rattle.pv_machine.specs.Machines as m
use Rattle.pv_flow.specs.Terms.{Term, Types, Valuation, number_of, is_true, value_of, holds_in, type_of, IsTyped, IsTyped-prop, names_below, reads}
use Rattle.pv_flow.specs.Automata.{Variable, Edge, Parts, types_of}
use Rattle.pv_flow.specs.Runs.{Outcome, done_with, trapped, gone_over, put, run, control_of, first_spot, copies}

-- ---- states and inputs

-- of a parameter, which the case may bind to one value
abbrev pub param_range : Ty → Option ℤ → Range
param_range ty None = range_of ty
param_range ty (Some v) = range_at v

abbrev pub state_ranges : List Variable → List Range
state_ranges [] = []
state_ranges (v ∷ vars) = elim v.role [
  | Input ↦ state_ranges vars
  | Param ↦ param_range v.ty v.only ∷ state_ranges vars
  | Kept ↦ range_of v.ty ∷ state_ranges vars
  | Brief ↦ state_ranges vars
]

abbrev pub input_ranges : List Variable → List Range
input_ranges [] = []
input_ranges (v ∷ vars) = elim v.role [
  | Input ↦ range_of v.ty ∷ input_ranges vars
  | Param ↦ input_ranges vars
  | Kept ↦ input_ranges vars
  | Brief ↦ input_ranges vars
]

-- a bound parameter is none of those that a run starts with
abbrev pub free_range : Ty → Option ℤ → List Range → List Range
free_range ty None more = range_of ty ∷ more
free_range ty (Some v) more = more

abbrev pub param_ranges : List Variable → List Range
param_ranges [] = []
param_ranges (v ∷ vars) = elim v.role [
  | Input ↦ param_ranges vars
  | Param ↦ free_range v.ty v.only (param_ranges vars)
  | Kept ↦ param_ranges vars
  | Brief ↦ param_ranges vars
]

-- the first of the values, and the others
abbrev pub first : List ℤ → ℤ
first [] = pos 0
first (v ∷ vs) = v

abbrev pub others : List ℤ → List ℤ
others [] = []
others (v ∷ vs) = vs

-- a parameter begins with the next of these, and a bound one with its value, which takes none of them
abbrev pub start_param : Option ℤ → (List ℤ → List ℤ) → List ℤ → List ℤ
start_param None rest params = first params ∷ rest (others params)
start_param (Some v) rest params = v ∷ rest params

-- the state in which a run with these parameters starts
abbrev pub start_of : List Variable → List ℤ → List ℤ
start_of [] params = []
start_of (v ∷ vars) params = elim v.role [
  | Input ↦ start_of vars params
  | Param ↦ start_param v.only (λ more. start_of vars more) params
  | Kept ↦ v.start ∷ start_of vars params
  | Brief ↦ start_of vars params
]

-- the value of each variable where a scan begins
abbrev pub begin_of : List Variable → List ℤ → List ℤ → List ℤ
begin_of [] state input = []
begin_of (v ∷ vars) state input = elim v.role [
  | Input ↦ first input ∷ begin_of vars state (others input)
  | Param ↦ first state ∷ begin_of vars (others state) input
  | Kept ↦ first state ∷ begin_of vars (others state) input
  | Brief ↦ v.start ∷ begin_of vars state input
]

abbrev pub valuation_of : List ℤ → Valuation
valuation_of values = λ n. slice_index_or values n (pos 0)

abbrev pub begin_at : Parts → List ℤ → List ℤ → Valuation
begin_at p state input = valuation_of (begin_of p.vars state input)

-- the state that is left: variables of the role Kept have their values at the end, parameters their old ones; they are numbered from n on
abbrev pub left_of : ℕ → List Variable → List ℤ → Valuation → List ℤ
left_of n [] state w = []
left_of n (v ∷ vars) state w = elim v.role [
  | Input ↦ left_of (suc n) vars state w
  | Param ↦ first state ∷ left_of (suc n) vars (others state) w
  | Kept ↦ w n ∷ left_of (suc n) vars (others state) w
  | Brief ↦ left_of (suc n) vars state w
]

-- ---- attached patterns

-- the variables 'has prev' and 'prev', and the expression that prev takes at the end of a scan that is done
pub record Looking : Type 0 where
  pub has : ℕ
  pub was : ℕ
  pub now : Term

-- the variable that is set once the assumption, read at a scan's beginning, was false; after it no scan fails
pub record Guarding : Type 0 where
  pub blocked : ℕ
  pub assumed : Term

pub record Attached : Type 0 where
  -- whether `holds` is a goal, which a scan reaches by failing
  pub reach : Truth
  -- Over the variables at the end, and, numbered on, the variables at the beginning. Attached bits have at the end the values that they
  -- have at the beginning: no edge sets them, and what the scan leaves in them is no part of what is judged.
  pub holds : Term
  pub looking : Option Looking
  pub guarding : Option Guarding

-- The valuations at a scan's end, before attached bits are set, and at its beginning as one, of n variables each. So what adds variables
-- to an automaton, or takes some away, makes the terms over both anew.
abbrev pub end_and_begin : ℕ → Valuation → Valuation → Valuation
end_and_begin n end begin = λ x. cond (nat_lt x n) (end x) (begin (x - n))

abbrev pub looked : Option Looking → Valuation → Valuation
looked None end = end
looked (Some l) end = put (put end l.has (pos 1)) l.was (value_of end l.now)

abbrev pub is_allowed : Option Guarding → Valuation → Truth
is_allowed None begin = true
is_allowed (Some g) begin = not (is_true (begin g.blocked)) && holds_in begin g.assumed

abbrev pub guarded : Option Guarding → Valuation → Valuation → Valuation
guarded None begin end = end
guarded (Some g) begin end = put end g.blocked (number_of (not (is_allowed (Some g) begin)))

-- the valuation with the attached bits that a scan leaves
abbrev pub marked : Option Attached → Valuation → Valuation → Valuation
marked None begin end = end
marked (Some a) begin end = guarded a.guarding begin (looked a.looking end)

-- the pattern's judgment of a scan that is done: a goal that is reached fails, and a pattern that doesn't hold
abbrev pub judged : Attached → ℕ → Valuation → Valuation → Truth
judged a n begin end = elim a.reach [
  | true ↦ holds_in (end_and_begin n end begin) a.holds
  | false ↦ not (holds_in (end_and_begin n end begin) a.holds)
]

-- whether a scan that ends so fails
abbrev pub fails_by : Attached → ℕ → Valuation → Outcome → Truth
fails_by a n begin (done_with end) = judged a n begin end
fails_by a n begin (trapped kind place) = not a.reach
fails_by a n begin (gone_over place) = true

abbrev pub is_over : Outcome → Truth
is_over (done_with end) = false
is_over (trapped kind place) = false
is_over (gone_over place) = true

abbrev pub fails_with : Option Attached → ℕ → Valuation → Outcome → Truth
fails_with None n begin out = is_over out
fails_with (Some a) n begin out = is_allowed a.guarding begin && fails_by a n begin out

-- ---- machines

-- what hasn't ended counts as over; runs of automata that are well made do end
abbrev pub outcome_or_over : Option Outcome → Outcome
outcome_or_over None = gone_over (record { file = 0; offset = 0 })
outcome_or_over (Some out) = out

-- how a scan that begins so ends, with loop bound n and so many steps
abbrev pub scan_from : Parts → ℕ → ℕ → Valuation → Outcome
scan_from p n steps begin = outcome_or_over (run (control_of p n) steps (first_spot p) begin)

abbrev pub step_of : Parts → Option Attached → List ℤ → Valuation → Outcome → m.Step
step_of p attached state begin (done_with end) = m.done (left_of 0 p.vars state (marked attached begin end))
step_of p attached state begin (trapped kind place) = m.trap kind place
step_of p attached state begin (gone_over place) = m.over place

abbrev pub machine_of : Parts → ℕ → ℕ → Option Attached → m.Machine
machine_of p n steps attached = record {
  state = state_ranges p.vars;
  input = input_ranges p.vars;
  params = param_ranges p.vars;
  start = λ params. start_of p.vars params;
  step = λ state input. step_of p attached state (begin_at p state input) (scan_from p n steps (begin_at p state input));
  fails = λ state input. fails_with attached (length p.vars) (begin_at p state input) (scan_from p n steps (begin_at p state input));
}

-- with a loop bound, and as many steps as unrolling makes locations
abbrev pub inlined_machine : Parts → ℕ → m.Machine
inlined_machine p n = machine_of p n (copies n p.loops p.locations) None

-- without loops, with as many steps as there are locations
abbrev pub acyclic_machine : Parts → Option Attached → m.Machine
acyclic_machine p attached = machine_of p 1 p.locations attached

-- ---- what the machines' types keep

-- without call edges
abbrev pub IsInlined : Parts → ℕ → Type 0
IsInlined p n = (length p.calls ≡ 0) × (0 < n)

-- neither call edges nor loops, and each edge leads forward
pub record IsAcyclic (p : Parts) : Type 0 where
  pub calls : length p.calls ≡ 0
  pub loops : length p.loops ≡ 0
  pub forward : All (λ edge. edge.from < edge.to) p.edges

-- the types of the variables at the end, and then of those at the beginning
abbrev pub both_types : Parts → Types
both_types p = λ x. cond (nat_lt x (length p.vars)) (types_of p x) (types_of p (x - length p.vars))

-- a term of BOOL over n variables of these types
pub record IsCondition (types : Types) (n : ℕ) (t : Term) : Type 0 where
  pub typed : IsTyped types t
  pub condition : type_of types t ≡ Bool
  pub names : names_below n t ≡ true

abbrev pub touches : ℕ → Edge → Truth
touches x edge = reads x edge.guard || list_any (λ set. (set.variable == x) || reads x set.value) edge.sets

-- a variable of BOOL of the role Kept that starts with 0 and that no edge reads or sets
pub record IsBit (p : Parts) (x : ℕ) : Type 0 where
  pub exists : x < length p.vars
  pub ty : types_of p x ≡ Bool
  pub role : IfSome (slice_get p.vars x) (λ v. v.role ≡ Kept)
  pub start : IfSome (slice_get p.vars x) (λ v. v.start ≡ pos 0)
  pub untouched : All (λ edge. touches x edge ≡ false) p.edges

pub record IsLooking (p : Parts) (l : Looking) : Type 0 where
  pub has : IsBit p l.has
  pub was : IsBit p l.was
  pub now : IsCondition (types_of p) (length p.vars) l.now
  pub different : (l.has == l.was) ≡ false

pub record IsGuarding (p : Parts) (g : Guarding) : Type 0 where
  pub blocked : IsBit p g.blocked
  pub assumed : IsCondition (types_of p) (length p.vars) g.assumed

pub record IsAttached (p : Parts) (a : Attached) : Type 0 where
  pub holds : IsCondition (both_types p) (length p.vars + length p.vars) a.holds
  pub looking : IfSome a.looking (IsLooking p)
  pub guarding : IfSome a.guarding (IsGuarding p)
  pub different : IfSome a.looking (λ l. IfSome a.guarding (λ g. ((l.has == g.blocked) ≡ false) × ((l.was == g.blocked) ≡ false)))

-- ---- facts that a struct may keep have one proof at most

AreWithin-prop : (ranges : List Range) (values : List ℤ) → IsProp (AreWithin ranges values)
AreWithin-prop [] [] = hlevel props
AreWithin-prop [] (v ∷ values) = hlevel props
AreWithin-prop (range ∷ ranges) [] = hlevel props
AreWithin-prop (range ∷ ranges) (v ∷ values) = hlevel (props, AreWithin-prop ranges values)

pub IsLawful-prop : (machine : m.Machine) → IsProp (m.IsLawful machine)
IsLawful-prop machine = hlevel (props, AreWithin-prop)

IsCondition-prop : (types : Types) (n : ℕ) (t : Term) → IsProp (IsCondition types n t)
IsCondition-prop types n t = hlevel (props, IsTyped-prop types t)

IsBit-prop : (p : Parts) (x : ℕ) → IsProp (IsBit p x)
IsBit-prop p x = hlevel props

IsLooking-prop : (p : Parts) (l : Looking) → IsProp (IsLooking p l)
IsLooking-prop p l = hlevel (props, IsBit-prop, IsCondition-prop)

IsGuarding-prop : (p : Parts) (g : Guarding) → IsProp (IsGuarding p g)
IsGuarding-prop p g = hlevel (props, IsBit-prop, IsCondition-prop)

pub IsAttached-prop : (p : Parts) (a : Attached) → IsProp (IsAttached p a)
IsAttached-prop p a = hlevel (props, IsCondition-prop, IsLooking-prop, IsGuarding-prop)
