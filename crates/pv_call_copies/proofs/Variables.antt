-- The variables that calls add are no part of states, inputs and parameters, and begin with 0: they are brief. So an automaton with copies
-- begins and leaves what the entry's does.
use Rattle.std.proofs.Common.{◌≡◌, ℕ, zero, suc, ◌+◌, ℤ, pos, List, [], ◌∷◌, ◌++◌, map, length, drop, Option, Some, None, refl, ap, ◌∙◌}
use Rattle.std.specs.List.{AllByRecursion}
use Rattle.std.proofs.Math.Path.{fun_ext}
use Rattle.pv_place.specs.declared.role.Role.{Role}
use Rattle.pv_place.specs.declared.role.Role.TheVariants.{Input, Param, Kept, Brief}
use Rattle.pv_place.specs.Ranges.{Range, range_of}
use Rattle.pv_flow.specs.Terms.{Valuation}
use Rattle.pv_flow.specs.Automata.{Variable, CallEdge, Parts}
use Rattle.pv_flow.specs.Calls.{Blocks, block_at}
use Rattle.pv_flow.specs.Machines.{param_range, state_ranges, input_ranges, free_range, param_ranges, first, others, start_param, start_of, begin_of, valuation_of, begin_at, left_of}
use Rattle.pv_call_copies.specs.Levels.{down}
use Rattle.pv_call_copies.specs.Inlined.{own_variable, added_by_calls, added_in, added, inlined}
use Rattle.pv_call_copies.specs.Correct.{KeepsVariables}

-- the variable with another role
abbrev as_role : Variable → Role → Variable
as_role v role = record { ty = v.ty; role = role; start = v.start; only = v.only }

-- each is as a block's own variables are
abbrev pub AreOwn : List Variable → Type 0
AreOwn vars = AllByRecursion (λ (v : Variable). v ≡ own_variable v) vars

-- ---- what calls add

own_append : (xs ys : List Variable) → AreOwn xs → AreOwn ys → AreOwn (xs ++ ys)
own_append [] ys are more = more
own_append (x ∷ xs) ys are more = (are.0, own_append xs ys are.1 more)

own_mapped : (vars : List Variable) → AreOwn (map own_variable vars)
own_mapped [] = tt
own_mapped (v ∷ vars) = (refl, own_mapped vars)

own_by_calls : (f : ℕ → List Variable) → ((c : ℕ) → AreOwn (f c)) → (calls : List CallEdge) → AreOwn (added_by_calls f calls)
own_by_calls f are [] = tt
own_by_calls f are (call ∷ calls) = own_append (f call.block) (added_by_calls f calls) (are call.block) (own_by_calls f are calls)

own_in : (f : ℕ → List Variable) → ((c : ℕ) → AreOwn (f c)) → (o : Option Parts) → AreOwn (added_in f o)
own_in f are None = tt
own_in f are (Some p) = own_append (map own_variable (drop (p.bound + p.shared) p.vars)) (added_by_calls f p.calls)
    (own_mapped (drop (p.bound + p.shared) p.vars)) (own_by_calls f are p.calls)

own_down : (blocks : Blocks) (levels b : ℕ) → AreOwn (down [] added_in blocks levels b)
own_down blocks zero b = tt
own_down blocks (suc levels) b = own_in (λ c. down [] added_in blocks levels c) (λ c. own_down blocks levels c) (block_at blocks b)

pub own_added : (blocks : Blocks) (calls : List CallEdge) → AreOwn (added_by_calls (added blocks) calls)
own_added blocks calls = own_by_calls (added blocks) (λ c. own_down blocks (length blocks) c) calls

-- ---- ranges and starts

state_own : (more : List Variable) → AreOwn more → state_ranges more ≡ []
state_own [] are = refl
state_own (v ∷ more) are = ap (λ (u : Variable). state_ranges (u ∷ more)) are.0 ∙ state_own more are.1

state_step : (v : Variable) (vars more : List Variable) (r : Role) → state_ranges (vars ++ more) ≡ state_ranges vars
    → state_ranges (as_role v r ∷ (vars ++ more)) ≡ state_ranges (as_role v r ∷ vars)
state_step v vars more Input e = e
state_step v vars more Param e = ap (λ (ranges : List Range). param_range v.ty v.only ∷ ranges) e
state_step v vars more Kept e = ap (λ (ranges : List Range). range_of v.ty ∷ ranges) e
state_step v vars more Brief e = e

state_more : (vars more : List Variable) → AreOwn more → state_ranges (vars ++ more) ≡ state_ranges vars
state_more [] more are = state_own more are
state_more (v ∷ vars) more are = state_step v vars more v.role (state_more vars more are)

input_own : (more : List Variable) → AreOwn more → input_ranges more ≡ []
input_own [] are = refl
input_own (v ∷ more) are = ap (λ (u : Variable). input_ranges (u ∷ more)) are.0 ∙ input_own more are.1

input_step : (v : Variable) (vars more : List Variable) (r : Role) → input_ranges (vars ++ more) ≡ input_ranges vars
    → input_ranges (as_role v r ∷ (vars ++ more)) ≡ input_ranges (as_role v r ∷ vars)
input_step v vars more Input e = ap (λ (ranges : List Range). range_of v.ty ∷ ranges) e
input_step v vars more Param e = e
input_step v vars more Kept e = e
input_step v vars more Brief e = e

input_more : (vars more : List Variable) → AreOwn more → input_ranges (vars ++ more) ≡ input_ranges vars
input_more [] more are = input_own more are
input_more (v ∷ vars) more are = input_step v vars more v.role (input_more vars more are)

param_own : (more : List Variable) → AreOwn more → param_ranges more ≡ []
param_own [] are = refl
param_own (v ∷ more) are = ap (λ (u : Variable). param_ranges (u ∷ more)) are.0 ∙ param_own more are.1

param_step : (v : Variable) (vars more : List Variable) (r : Role) → param_ranges (vars ++ more) ≡ param_ranges vars
    → param_ranges (as_role v r ∷ (vars ++ more)) ≡ param_ranges (as_role v r ∷ vars)
param_step v vars more Input e = e
param_step v vars more Param e = ap (λ (ranges : List Range). free_range v.ty v.only ranges) e
param_step v vars more Kept e = e
param_step v vars more Brief e = e

param_more : (vars more : List Variable) → AreOwn more → param_ranges (vars ++ more) ≡ param_ranges vars
param_more [] more are = param_own more are
param_more (v ∷ vars) more are = param_step v vars more v.role (param_more vars more are)

start_own : (more : List Variable) → AreOwn more → (params : List ℤ) → start_of more params ≡ []
start_own [] are params = refl
start_own (v ∷ more) are params = ap (λ (u : Variable). start_of (u ∷ more) params) are.0 ∙ start_own more are.1 params

abbrev SameStarts : List Variable → List Variable → Type 0
SameStarts vars more = (params : List ℤ) → start_of (vars ++ more) params ≡ start_of vars params

param_starts : (only : Option ℤ) (vars more : List Variable) → SameStarts vars more → (params : List ℤ)
    → start_param only (λ ps. start_of (vars ++ more) ps) params ≡ start_param only (λ ps. start_of vars ps) params
param_starts None vars more same params = ap (λ (state : List ℤ). first params ∷ state) (same (others params))
param_starts (Some v) vars more same params = ap (λ (state : List ℤ). v ∷ state) (same params)

start_step : (v : Variable) (vars more : List Variable) (r : Role) → SameStarts vars more → (params : List ℤ)
    → start_of (as_role v r ∷ (vars ++ more)) params ≡ start_of (as_role v r ∷ vars) params
start_step v vars more Input same params = same params
start_step v vars more Param same params = param_starts v.only vars more same params
start_step v vars more Kept same params = ap (λ (state : List ℤ). v.start ∷ state) (same params)
start_step v vars more Brief same params = same params

start_more : (vars more : List Variable) → AreOwn more → SameStarts vars more
start_more [] more are params = start_own more are params
start_more (v ∷ vars) more are params = start_step v vars more v.role (start_more vars more are) params

-- ---- beginnings and what is left

begin_own : (more : List Variable) → AreOwn more → (state input : List ℤ) (n : ℕ) → valuation_of (begin_of more state input) n ≡ pos 0
begin_own [] are state input n = refl
begin_own (v ∷ more) are state input zero = ap (λ (u : Variable). valuation_of (begin_of (u ∷ more) state input) 0) are.0
begin_own (v ∷ more) are state input (suc n) =
    ap (λ (u : Variable). valuation_of (begin_of (u ∷ more) state input) (suc n)) are.0 ∙ begin_own more are.1 state input n

abbrev BeginAlike : List Variable → List Variable → Type 0
BeginAlike vars more = (state input : List ℤ) (n : ℕ)
    → valuation_of (begin_of (vars ++ more) state input) n ≡ valuation_of (begin_of vars state input) n

begin_step : (v : Variable) (vars more : List Variable) (r : Role) → BeginAlike vars more → (state input : List ℤ) (n : ℕ)
    → valuation_of (begin_of (as_role v r ∷ (vars ++ more)) state input) n ≡ valuation_of (begin_of (as_role v r ∷ vars) state input) n
begin_step v vars more Input same state input zero = refl
begin_step v vars more Input same state input (suc n) = same state (others input) n
begin_step v vars more Param same state input zero = refl
begin_step v vars more Param same state input (suc n) = same (others state) input n
begin_step v vars more Kept same state input zero = refl
begin_step v vars more Kept same state input (suc n) = same (others state) input n
begin_step v vars more Brief same state input zero = refl
begin_step v vars more Brief same state input (suc n) = same state input n

begin_more : (vars more : List Variable) → AreOwn more → BeginAlike vars more
begin_more [] more are state input n = begin_own more are state input n
begin_more (v ∷ vars) more are state input n = begin_step v vars more v.role (begin_more vars more are) state input n

left_own : (more : List Variable) → AreOwn more → (n : ℕ) (state : List ℤ) (w : Valuation) → left_of n more state w ≡ []
left_own [] are n state w = refl
left_own (v ∷ more) are n state w = ap (λ (u : Variable). left_of n (u ∷ more) state w) are.0 ∙ left_own more are.1 (suc n) state w

abbrev LeaveAlike : List Variable → List Variable → Type 0
LeaveAlike vars more = (n : ℕ) (state : List ℤ) (w : Valuation) → left_of n (vars ++ more) state w ≡ left_of n vars state w

leave_step : (v : Variable) (vars more : List Variable) (r : Role) → LeaveAlike vars more → (n : ℕ) (state : List ℤ) (w : Valuation)
    → left_of n (as_role v r ∷ (vars ++ more)) state w ≡ left_of n (as_role v r ∷ vars) state w
leave_step v vars more Input same n state w = same (suc n) state w
leave_step v vars more Param same n state w = ap (λ (values : List ℤ). first state ∷ values) (same (suc n) (others state) w)
leave_step v vars more Kept same n state w = ap (λ (values : List ℤ). w n ∷ values) (same (suc n) (others state) w)
leave_step v vars more Brief same n state w = same (suc n) state w

leave_more : (vars more : List Variable) → AreOwn more → LeaveAlike vars more
leave_more [] more are n state w = left_own more are n state w
leave_more (v ∷ vars) more are n state w = leave_step v vars more v.role (leave_more vars more are) n state w

-- ---- the whole

pub begins_alike : (blocks : Blocks) (p : Parts) (state input : List ℤ) → begin_at (inlined blocks p) state input ≡ begin_at p state input
begins_alike blocks p state input =
    fun_ext (λ n. begin_more p.vars (added_by_calls (added blocks) p.calls) (own_added blocks p.calls) state input n)

pub variables_stay : (blocks : Blocks) (p : Parts) → KeepsVariables blocks p
variables_stay blocks p = record {
  state = state_more p.vars extra own;
  input = input_more p.vars extra own;
  params = param_more p.vars extra own;
  start = λ params. start_more p.vars extra own params;
  begin = λ state input. begins_alike blocks p state input;
  left = λ state w. leave_more p.vars extra own 0 state w;
}
  where
    extra : List Variable
    extra = added_by_calls (added blocks) p.calls

    own : AreOwn extra
    own = own_added blocks p.calls
