-- Small automata: which faults they have, and how they run.
use Rattle.std.proofs.Common.{◌≡◌, ℕ, ℤ, pos, Bool as Truth, true, false, List, [], ◌∷◌, Option, Some, None, refl}
use Rattle.pv_word.specs.declared.types.Ty.TheVariants.{Bool, Int}
use Rattle.pv_word.specs.Wrap.{wrap_at}
use Rattle.pv_word.specs.Bits.{pattern_at}
use Rattle.pv_place.specs.declared.place.Place.{Place}
use Rattle.pv_place.specs.declared.role.Role.TheVariants.{Kept}
use Rattle.pv_flow.specs.declared.op.UnaryOp.TheVariants.{Not}
use Rattle.pv_flow.specs.declared.op.BinaryOp.TheVariants.{And, Add, Less, SumOverflow}
use Rattle.pv_flow.specs.Terms.{Term, constant, variable, unary, binary, Valuation}
use Rattle.pv_flow.specs.Automata.{Variable, Set, Edge, CallEdge, Loop, Parts}
use Rattle.pv_flow.specs.Faults.{has_locations, has_variables, has_loops}
use Rattle.pv_flow.specs.Runs.{Outcome, done_with, trapped, gone_over, run, control_of, first_spot, copies}
use Rattle.pv_flow.specs.Calls.{Blocks, entry_work, base_of}

abbrev pub here : Place
here = record { file = 0; offset = 0 }

abbrev pub yes_term : Term
yes_term = constant Bool (pos 1)

abbrev pub var : Variable
var = record { ty = Bool; role = Kept; start = pos 0; only = None }

abbrev pub int_var : Variable
int_var = record { ty = Int; role = Kept; start = pos 0; only = None }

abbrev pub edge : ℕ → ℕ → Term → List Set → Edge
edge from to guard sets = record { from = from; to = to; guard = guard; sets = sets }

abbrev pub set : ℕ → Term → Set
set x t = record { variable = x; value = t }

abbrev pub range : ℕ → ℕ → Truth → List ℕ → Loop
range first last entry_turn turns = record { first = first; last = last; entry_turn = entry_turn; turns = turns; place = here }

abbrev pub automaton : List Variable → ℕ → List Edge → List Loop → ℕ → Parts
automaton vars locations edges loops done = record {
  vars = vars;
  bound = 0;
  shared = 0;
  locations = locations;
  edges = edges;
  calls = [];
  loops = loops;
  done = done;
  traps = [];
  overs = [];
}

-- what a run leaves in variable x, if it is done
abbrev pub left_in : ℕ → Option Outcome → Option ℤ
left_in x None = None
left_in x (Some (done_with w)) = Some (w x)
left_in x (Some (trapped kind place)) = None
left_in x (Some (gone_over place)) = None

abbrev pub runs : Parts → ℕ → Valuation → Option Outcome
runs p n w = run (control_of p n) (copies n p.loops p.locations) (first_spot p) w

-- ---- faults

-- an edge to location 2 of 2
edge_past_the_last : has_locations (automaton [] 2 (edge 0 2 yes_term [] ∷ []) [] 1) ≡ false
edge_past_the_last = refl

-- a set of variable 3 of 3
set_past_the_last : has_variables (automaton (var ∷ var ∷ var ∷ []) 2 (edge 0 1 yes_term (set 3 yes_term ∷ []) ∷ []) [] 1) ≡ false
set_past_the_last = refl

-- loops that cross
crossing : has_loops (automaton [] 6 [] (range 0 2 true [] ∷ range 1 3 true [] ∷ []) 5) ≡ false
crossing = refl

-- an edge from 3 to 1 into a loop from 0 to 2
entered_within : has_loops (automaton [] 5 (edge 3 1 yes_term [] ∷ []) (range 0 2 true [] ∷ []) 4) ≡ false
entered_within = refl

-- loops with one first location don't cross
one_first : has_loops (automaton [] 5 [] (range 0 2 true [] ∷ range 0 1 true [] ∷ []) 4) ≡ true
one_first = refl

-- ---- runs

-- a loop without entry turn from 0 to 0: while variable 0 is true
abbrev while_true : Parts
while_true = automaton (var ∷ []) 2 (edge 0 0 (variable 0) [] ∷ edge 0 1 (unary Not Bool (variable 0)) [] ∷ []) (range 0 0 false (0 ∷ []) ∷ []) 1

goes_over : runs while_true 2 (λ x. pos 1) ≡ Some (gone_over here)
goes_over = refl

is_done : left_in 0 (runs while_true 2 (λ x. pos 0)) ≡ Some (pos 0)
unfolding wrap_at pattern_at
is_done = refl

-- FOR i := 1 TO 16 DO s := s + 1; END_FOR: s, i, whether i has a value, the end, and whether i is past its type
abbrev pub test : Term
test = binary And Bool (unary Not Bool (variable 4)) (unary Not Bool (binary Less Bool (variable 3) (variable 1)))

abbrev pub one_more : ℕ → Term
one_more x = binary Add Int (variable x) (constant Int (pos 1))

abbrev pub counted : Parts
counted = automaton (int_var ∷ int_var ∷ var ∷ int_var ∷ var ∷ []) 6
    (edge 0 1 yes_term (set 1 (constant Int (pos 1)) ∷ set 2 yes_term ∷ set 3 (constant Int (pos 16)) ∷ set 4 (constant Bool (pos 0)) ∷ [])
    ∷ edge 1 2 yes_term []
    ∷ edge 2 3 test []
    ∷ edge 2 5 (unary Not Bool test) []
    ∷ edge 3 4 yes_term (set 0 (one_more 0) ∷ [])
    ∷ edge 4 2 yes_term (set 1 (one_more 1) ∷ set 4 (binary (SumOverflow Int) Bool (variable 1) (constant Int (pos 1))) ∷ [])
    ∷ [])
    (range 2 4 false (2 ∷ []) ∷ []) 5

sixteen_turns : left_in 0 (runs counted 16 (λ x. pos 0)) ≡ Some (pos 16)
unfolding wrap_at pattern_at
sixteen_turns = refl

fifteen_turns : runs counted 15 (λ x. pos 0) ≡ Some (gone_over here)
unfolding wrap_at pattern_at
fifteen_turns = refl

-- ---- calls

-- a block without calls, with variables of its own
abbrev leaf : List Variable → Parts
leaf vars = automaton vars 1 [] [] 0

abbrev call : ℕ → ℕ → ℕ → CallEdge
call from to block = record { from = from; to = to; block = block; instance = 0; place = here }

-- block 0 calls block 1 and then block 2
abbrev caller : Parts
caller = record {
  vars = var ∷ [];
  bound = 0;
  shared = 0;
  locations = 3;
  edges = [];
  calls = call 0 1 1 ∷ call 1 2 2 ∷ [];
  loops = [];
  done = 2;
  traps = [];
  overs = [];
}

abbrev blocks : Blocks
blocks = Some caller ∷ Some (leaf (var ∷ var ∷ [])) ∷ Some (leaf (var ∷ [])) ∷ []

-- the own variables of the first call's block lie behind the caller's one, those of the second's behind the first's two
first_base : base_of blocks (entry_work caller) 0 ≡ 1
first_base = refl

second_base : base_of blocks (entry_work caller) 1 ≡ 3
second_base = refl
