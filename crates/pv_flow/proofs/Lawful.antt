-- The machine of an automaton with typed parts is lawful.
use Rattle.std.proofs.Common.{◌≡◌, ℕ, zero, suc, ◌+◌, ◌<◌, ℤ, pos, true, not, List, [], ◌∷◌, length, Option, Some, None, IfSome, sym, subst, arith}
use Rattle.std.specs.List.{All, AllByRecursion}
use Rattle.std.proofs.lemmas.Int.{ints}
use Rattle.std.proofs.lemmas.List.Elements.{recursion_from_All}
use Rattle.pv_word.specs.declared.types.Ty.{Ty}
use Rattle.pv_word.specs.declared.types.Ty.TheVariants.{Bool}
use Rattle.pv_word.specs.Types.{InRange}
use Rattle.pv_place.specs.declared.place.Place.{Place}
use Rattle.pv_place.specs.declared.trap.TrapKind.{TrapKind}
use Rattle.pv_place.specs.declared.role.Role.{Role}
use Rattle.pv_place.specs.declared.role.Role.TheVariants.{Input, Param, Kept, Brief}
use Rattle.pv_place.specs.Ranges.{IsWithin, AreWithin, range_of}
use Rattle.pv_machine.specs.Machines as m
use Rattle.pv_flow.specs.Terms.{Valuation, number_of, value_of, Types, type_of}
use Rattle.pv_flow.specs.Automata.{Variable, Parts, type_at, types_of, HasValues}
use Rattle.pv_flow.specs.Faults.{has_variables, IsFaultless}
use Rattle.pv_flow.specs.WellMade.{IsVariable, IsEdge, IsWellMade}
use Rattle.pv_flow.specs.Runs.{put, Outcome, done_with, trapped, gone_over, run, control_of, first_spot, copies}
use Rattle.pv_flow.specs.Machines.{param_range, state_ranges, input_ranges, free_range, param_ranges, start_param, start_of, begin_of, valuation_of, begin_at, left_of, Looking, Guarding, Attached, looked, is_allowed, guarded, marked, outcome_or_over, scan_from, step_of, machine_of, inlined_machine, acyclic_machine, IsBit, IsLooking, IsGuarding, IsAttached}
use Rattle.pv_flow.proofs.Typing.{bit_fits, fits_in, typed_value}
use Rattle.pv_flow.proofs.TypedRuns.{put_typed, IsTypedEnd, automaton_typed}

-- the variable with another role
abbrev as_role : Variable → Role → Variable
as_role v role = record { ty = v.ty; role = role; start = v.start; only = v.only }

within_type : (ty : Ty) (x : ℤ) → InRange ty x → IsWithin (range_of ty) x
within_type ty x h = record { from = h.from; to = h.to }

type_within : (ty : Ty) (x : ℤ) → IsWithin (range_of ty) x → InRange ty x
type_within ty x h = record { from = h.from; to = h.to }

param_fits : (ty : Ty) (only : Option ℤ) (x : ℤ) → IfSome only (λ value. InRange ty value) → IsWithin (param_range ty only) x → InRange ty x
param_fits ty None x ok h = type_within ty x h
param_fits ty (Some v) x ok h = record {
  from = omega (arith, ints, h.from, ok.from);
  to = omega (arith, ints, h.to, ok.to);
}

-- ---- starts

abbrev Starts : List Variable → Type 0
Starts vars = (params : List ℤ) → AreWithin (param_ranges vars) params → AreWithin (state_ranges vars) (start_of vars params)

-- a parameter: where it is bound it takes none of the values
param_starts : (ty : Ty) (vars : List Variable) (only : Option ℤ) → Starts vars → (params : List ℤ)
    → AreWithin (free_range ty only (param_ranges vars)) params
    → AreWithin (param_range ty only ∷ state_ranges vars) (start_param only (λ more. start_of vars more) params)
param_starts ty vars None rest [] h = absurd h
param_starts ty vars None rest (x ∷ more) h = (h.0, rest more h.1)
param_starts ty vars (Some v) rest params h = (record { from = omega (arith, ints); to = omega (arith, ints) }, rest params h)

start_step : (v : Variable) (vars : List Variable) (r : Role) → IsVariable v → Starts vars → Starts (as_role v r ∷ vars)
start_step v vars Input ok rest params h = rest params h
start_step v vars Param ok rest params h = param_starts v.ty vars v.only rest params h
start_step v vars Kept ok rest params h = (within_type v.ty v.start ok.start, rest params h)
start_step v vars Brief ok rest params h = rest params h

starts_within : (vars : List Variable) → AllByRecursion IsVariable vars → Starts vars
starts_within [] all params are = tt
starts_within (v ∷ vars) all params are = start_step v vars v.role all.0 (starts_within vars all.1) params are

-- ---- beginnings

no_number : (n : ℕ) → n < 0 → ⊥
no_number n lt = absurd (omega (arith, lt))

below : (n k : ℕ) → suc n < suc k → n < k
below n k lt = omega (arith, lt)

abbrev pub Begins : List Variable → Type 0
Begins vars = (state input : List ℤ) → AreWithin (state_ranges vars) state → AreWithin (input_ranges vars) input
    → (n : ℕ) → n < length vars → InRange (type_at vars n) (valuation_of (begin_of vars state input) n)

begin_step : (v : Variable) (vars : List Variable) (r : Role) → IsVariable v → Begins vars → Begins (as_role v r ∷ vars)
begin_step v vars Input ok rest state [] s i n lt = absurd i
begin_step v vars Input ok rest state (x ∷ more) s i zero lt = type_within v.ty x i.0
begin_step v vars Input ok rest state (x ∷ more) s i (suc n) lt = rest state more s i.1 n (below n (length vars) lt)
begin_step v vars Param ok rest [] input s i n lt = absurd s
begin_step v vars Param ok rest (x ∷ more) input s i zero lt = param_fits v.ty v.only x ok.only s.0
begin_step v vars Param ok rest (x ∷ more) input s i (suc n) lt = rest more input s.1 i n (below n (length vars) lt)
begin_step v vars Kept ok rest [] input s i n lt = absurd s
begin_step v vars Kept ok rest (x ∷ more) input s i zero lt = type_within v.ty x s.0
begin_step v vars Kept ok rest (x ∷ more) input s i (suc n) lt = rest more input s.1 i n (below n (length vars) lt)
begin_step v vars Brief ok rest state input s i zero lt = ok.start
begin_step v vars Brief ok rest state input s i (suc n) lt = rest state input s i n (below n (length vars) lt)

pub begins_typed : (vars : List Variable) → AllByRecursion IsVariable vars → Begins vars
begins_typed [] all state input s i n lt = absurd (no_number n lt)
begins_typed (v ∷ vars) all state input s i n lt = begin_step v vars v.role all.0 (begins_typed vars all.1) state input s i n lt

-- ---- what is left

-- the variables, numbered from n on, have values of their types
abbrev HaveFrom : ℕ → List Variable → Valuation → Type 0
HaveFrom n vars w = (k : ℕ) → k < length vars → InRange (type_at vars k) (w (n + k))

abbrev Leaves : List Variable → Type 0
Leaves vars = (n : ℕ) (state : List ℤ) (w : Valuation) → AreWithin (state_ranges vars) state → HaveFrom n vars w
    → AreWithin (state_ranges vars) (left_of n vars state w)

some : (n : ℕ) → 0 < suc n
some n = omega arith

here : (v : Variable) (vars : List Variable) (n : ℕ) (w : Valuation) → HaveFrom n (v ∷ vars) w → InRange v.ty (w n)
here v vars n w are = let e : n + 0 ≡ n = omega arith in subst (λ (j : ℕ). InRange v.ty (w j)) e (are 0 (some (length vars)))

above : (n k : ℕ) → n < k → suc n < suc k
above n k lt = omega (arith, lt)

further : (v : Variable) (vars : List Variable) (n : ℕ) (w : Valuation) → HaveFrom n (v ∷ vars) w → HaveFrom (suc n) vars w
further v vars n w are k lt =
    let e : n + suc k ≡ suc n + k = omega arith in
    subst (λ (j : ℕ). InRange (type_at vars k) (w j)) e (are (suc k) (above k (length vars) lt))

leave_step : (v : Variable) (vars : List Variable) (r : Role) → Leaves vars → Leaves (as_role v r ∷ vars)
leave_step v vars Input rest n state w s are = rest (suc n) state w s (further (as_role v Input) vars n w are)
leave_step v vars Param rest n [] w s are = absurd s
leave_step v vars Param rest n (x ∷ more) w s are = (s.0, rest (suc n) more w s.1 (further (as_role v Param) vars n w are))
leave_step v vars Kept rest n [] w s are = absurd s
leave_step v vars Kept rest n (x ∷ more) w s are = (
  within_type v.ty (w n) (here (as_role v Kept) vars n w are),
  rest (suc n) more w s.1 (further (as_role v Kept) vars n w are),
)
leave_step v vars Brief rest n state w s are = rest (suc n) state w s (further (as_role v Brief) vars n w are)

left_within : (vars : List Variable) → Leaves vars
left_within [] n state w s are = tt
left_within (v ∷ vars) n state w s are = leave_step v vars v.role (left_within vars) n state w s are

-- ---- attached bits

set_bit : (p : Parts) (w : Valuation) (x : ℕ) (v : ℤ) → IsBit p x → HasValues p w → InRange Bool v → HasValues p (put w x v)
set_bit p w x v bit are h = put_typed (length p.vars) (types_of p) w x v are (fits_in Bool (types_of p x) v (sym bit.ty) h)

looked_typed : (p : Parts) (looking : Option Looking) (end : Valuation) → IfSome looking (IsLooking p) → HasValues p end
    → HasValues p (looked looking end)
looked_typed p None end is are = are
looked_typed p (Some l) end is are =
    set_bit p (put end l.has (pos 1)) l.was (value_of end l.now) is.was (set_bit p end l.has (pos 1) is.has are (bit_fits true))
    (fits_in (type_of (types_of p) l.now) Bool (value_of end l.now) (is.now).condition (typed_value (length p.vars) (types_of p) end are l.now (is.now).names (is.now).typed))

guarded_typed : (p : Parts) (guarding : Option Guarding) (begin end : Valuation) → IfSome guarding (IsGuarding p) → HasValues p end
    → HasValues p (guarded guarding begin end)
guarded_typed p None begin end is are = are
guarded_typed p (Some g) begin end is are =
    set_bit p end g.blocked (number_of (not (is_allowed (Some g) begin))) is.blocked are (bit_fits (not (is_allowed (Some g) begin)))

marked_typed : (p : Parts) (attached : Option Attached) (begin end : Valuation) → IfSome attached (IsAttached p) → HasValues p end
    → HasValues p (marked attached begin end)
marked_typed p None begin end is are = are
marked_typed p (Some a) begin end is are =
    guarded_typed p a.guarding begin (looked a.looking end) is.guarding (looked_typed p a.looking end is.looking are)

-- ---- steps

done_same : (a b : List ℤ) → m.done a ≡ m.done b → a ≡ b
done_same a b e = cc

trap_not_done : (kind : TrapKind) (place : Place) (t : List ℤ) → m.trap kind place ≡ m.done t → ⊥
trap_not_done kind place t e = cc

over_not_done : (place : Place) (t : List ℤ) → m.over place ≡ m.done t → ⊥
over_not_done place t e = cc

ending_typed : (k : ℕ) (types : Types) (out : Option Outcome) → IsTypedEnd k types out → IsTypedEnd k types (Some (outcome_or_over out))
ending_typed k types None h = tt
ending_typed k types (Some out) h = h

step_within : (p : Parts) (attached : Option Attached) (state : List ℤ) (begin : Valuation) (out : Outcome) (t : List ℤ)
    → IfSome attached (IsAttached p) → IsTypedEnd (length p.vars) (types_of p) (Some out) → AreWithin (state_ranges p.vars) state
    → step_of p attached state begin out ≡ m.done t → AreWithin (state_ranges p.vars) t
step_within p attached state begin (done_with end) t is ends s e =
    subst (λ (u : List ℤ). AreWithin (state_ranges p.vars) u) (done_same (left_of 0 p.vars state (marked attached begin end)) t e)
    (left_within p.vars 0 state (marked attached begin end) s
    (λ k lt. let z : k ≡ 0 + k = omega arith in
    subst (λ (j : ℕ). InRange (type_at p.vars k) (marked attached begin end j)) z (marked_typed p attached begin end is ends k lt)))
step_within p attached state begin (trapped kind place) t is ends s e = absurd (trap_not_done kind place t e)
step_within p attached state begin (gone_over place) t is ends s e = absurd (over_not_done place t e)

pub machine_is_lawful : (p : Parts) (n steps : ℕ) (attached : Option Attached) → has_variables p ≡ true → All IsVariable p.vars
    → All (IsEdge (types_of p)) p.edges → IfSome attached (IsAttached p) → m.IsLawful (machine_of p n steps attached)
machine_is_lawful p n steps attached variables vars edges is =
    let listed : AllByRecursion IsVariable p.vars = recursion_from_All IsVariable p.vars vars in
    record {
      starts = λ params are. starts_within p.vars listed params are;
      steps = λ s i t is_state is_input e. step_within p attached s (begin_at p s i) (scan_from p n steps (begin_at p s i)) t is
          (ending_typed (length p.vars) (types_of p) (run (control_of p n) steps (first_spot p) (begin_at p s i))
          (automaton_typed p n steps (begin_at p s i) variables edges (begins_typed p.vars listed s i is_state is_input)))
          is_state e;
    }

pub inlined_is_lawful : (p : Parts) (n : ℕ) → IsFaultless p → IsWellMade p → m.IsLawful (inlined_machine p n)
inlined_is_lawful p n faultless is = machine_is_lawful p n (copies n p.loops p.locations) None faultless.variables is.vars is.edges tt

pub acyclic_is_lawful : (p : Parts) (attached : Option Attached) → IsFaultless p → IsWellMade p → IfSome attached (IsAttached p)
    → m.IsLawful (acyclic_machine p attached)
acyclic_is_lawful p attached faultless is at = machine_is_lawful p 1 p.locations attached faultless.variables is.vars is.edges at
