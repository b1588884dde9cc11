-- Small automata that run: a loop with an entry turn, a trap, a call, and patterns that are attached. Their values are worked out by
-- hand.
use Rattle.std.proofs.Common.{◌≡◌, ℤ, pos, true, false, List, [], ◌∷◌, Option, Some, None, refl}
use Rattle.pv_word.specs.declared.types.Ty.TheVariants.{Bool, Int}
use Rattle.pv_word.specs.Wrap.{wrap_at}
use Rattle.pv_word.specs.Bits.{pattern_at}
use Rattle.pv_place.specs.declared.role.Role.TheVariants.{Param, Brief}
use Rattle.pv_place.specs.declared.trap.TrapKind.TheVariants.{DivideByZero}
use Rattle.pv_place.specs.Ranges.{range_of, range_at}
use Rattle.pv_machine.specs.Machines as m
use Rattle.pv_flow.specs.declared.op.UnaryOp.TheVariants.{Not}
use Rattle.pv_flow.specs.declared.op.BinaryOp.TheVariants.{And, Divide, Less, Equal}
use Rattle.pv_flow.specs.Terms.{Term, constant, variable, unary, binary, Valuation}
use Rattle.pv_flow.specs.Automata.{Variable, CallEdge, Parts}
use Rattle.pv_flow.specs.Runs.{done_with, trapped, gone_over, copies}
use Rattle.pv_flow.specs.Calls.{Blocks, Work, entry_work, numbered, callee_work, assigned_in, cleared, ends, goes, calls, EndsAs}
use Rattle.pv_flow.specs.Machines.{state_ranges, param_ranges, start_of, Attached, acyclic_machine}
use Rattle.pv_flow.proofs.Examples.{here, var, int_var, edge, set, range, automaton, left_in, runs, yes_term, one_more, counted}

abbrev negated : Term → Term
negated t = unary Not Bool t

-- ---- a loop with an entry turn

-- REPEAT n := n + 1; UNTIL n >= 3 END_REPEAT
abbrev fewer_than_three : Term
fewer_than_three = binary Less Bool (variable 0) (constant Int (pos 3))

abbrev repeated : Parts
repeated = automaton (int_var ∷ []) 3
    (edge 0 1 yes_term (set 0 (one_more 0) ∷ [])
    ∷ edge 1 2 (negated fewer_than_three) []
    ∷ edge 1 0 fewer_than_three []
    ∷ [])
    (range 0 1 true (2 ∷ []) ∷ []) 2

-- entering is the first turn, so three turns are within the bound 3
three_turns : left_in 0 (runs repeated 3 (λ x. pos 0)) ≡ Some (pos 3)
unfolding wrap_at pattern_at
three_turns = refl

two_turns : runs repeated 2 (λ x. pos 0) ≡ Some (gone_over here)
unfolding wrap_at pattern_at
two_turns = refl

-- each of its two locations three times, and the end
copies_of_repeated : copies 3 repeated.loops repeated.locations ≡ 7
copies_of_repeated = refl

-- the FOR loop's opening two, its test 17 times, body and step 16 times, and the end
copies_of_counted : copies 16 counted.loops counted.locations ≡ 52
copies_of_counted = refl

-- ---- a trap

-- n := 10 DIV d, with a check of the divisor
abbrev by_zero : Term
by_zero = binary Equal Bool (variable 1) (constant Int (pos 0))

abbrev divided : Parts
divided = record {
  vars = int_var ∷ int_var ∷ [];
  bound = 0;
  shared = 0;
  locations = 3;
  edges = edge 0 2 by_zero [] ∷ edge 0 1 (negated by_zero) (set 0 (binary Divide Int (constant Int (pos 10)) (variable 1)) ∷ []) ∷ [];
  calls = [];
  loops = [];
  done = 1;
  traps = (record { location = 2; kind = DivideByZero; place = here }) ∷ [];
  overs = [];
}

traps_at_zero : runs divided 1 (λ x. pos 0) ≡ Some (trapped DivideByZero here)
traps_at_zero = refl

three_by_three : left_in 0 (runs divided 1 (λ x. pos 3)) ≡ Some (pos 3)
unfolding wrap_at pattern_at
three_by_three = refl

-- ---- a call

-- a block with one bound variable and one of its own: it adds 1 to the first and sets the second
abbrev adding : Parts
adding = record {
  vars = int_var ∷ (record { ty = Bool; role = Brief; start = pos 0; only = None }) ∷ [];
  bound = 1;
  shared = 0;
  locations = 2;
  edges = edge 0 1 yes_term (set 0 (one_more 0) ∷ set 1 yes_term ∷ []) ∷ [];
  calls = [];
  loops = [];
  done = 1;
  traps = [];
  overs = [];
}

-- a block that calls it on its second variable
abbrev calling : Parts
calling = record {
  vars = int_var ∷ int_var ∷ [];
  bound = 0;
  shared = 0;
  locations = 2;
  edges = [];
  calls = (record { from = 0; to = 1; block = 1; instance = 1; place = here }) ∷ [];
  loops = [];
  done = 1;
  traps = [];
  overs = [];
}

abbrev two_blocks : Blocks
two_blocks = Some calling ∷ Some adding ∷ []

abbrev the_call : CallEdge
the_call = record { from = 0; to = 1; block = 1; instance = 1; place = here }

abbrev callee : Work
callee = callee_work two_blocks (entry_work calling) (numbered 0 the_call) adding

-- what the callee leaves: the caller's second variable is one more, and the callee's own, behind the caller's two, is set
abbrev left_by_call : Valuation
left_by_call = assigned_in callee (set 0 (one_more 0) ∷ set 1 yes_term ∷ []) (cleared callee (λ y. pos 7))

one_call : EndsAs two_blocks 1 calling (λ y. pos 7) (done_with left_by_call)
one_call = calls (numbered 0 the_call) adding (done_with left_by_call) refl refl refl (goes _ refl refl refl (ends refl)) (ends refl)

first_stays : left_by_call 0 ≡ pos 7
first_stays = refl

second_is_more : left_by_call 1 ≡ pos 8
unfolding wrap_at pattern_at
second_is_more = refl

own_is_set : left_by_call 2 ≡ pos 1
own_is_set = refl

-- ---- attached patterns

-- n := n + 1, and two attached bits
abbrev growing : Parts
growing = automaton (int_var ∷ var ∷ var ∷ []) 2 (edge 0 1 yes_term (set 0 (one_more 0) ∷ []) ∷ []) [] 1

-- n is never 2 behind a scan and then looked back on: it fails where `prev` was true at the beginning, so one scan later
abbrev looking_back : Attached
looking_back = record {
  reach = false;
  holds = negated (binary And Bool (variable 1) (variable 2));
  looking = Some (record { has = 1; was = 2; now = binary Equal Bool (variable 0) (constant Int (pos 2)) });
  guarding = None;
}

abbrev watched : m.Machine
watched = acyclic_machine growing (Some looking_back)

bits_are_left : watched.step (pos 1 ∷ pos 0 ∷ pos 0 ∷ []) [] ≡ m.done (pos 2 ∷ pos 1 ∷ pos 1 ∷ [])
unfolding wrap_at pattern_at
bits_are_left = refl

does_not_fail : watched.fails (pos 1 ∷ pos 0 ∷ pos 0 ∷ []) [] ≡ false
unfolding wrap_at pattern_at
does_not_fail = refl

-- the bits have their values of the beginning where it is judged, whatever the scan leaves in them
fails_one_later : watched.fails (pos 2 ∷ pos 1 ∷ pos 1 ∷ []) [] ≡ true
unfolding wrap_at pattern_at
fails_one_later = refl

bits_are_left_later : watched.step (pos 2 ∷ pos 1 ∷ pos 1 ∷ []) [] ≡ m.done (pos 3 ∷ pos 1 ∷ pos 0 ∷ [])
unfolding wrap_at pattern_at
bits_are_left_later = refl

-- n grows, as long as it is below 3 where scans begin; variable 3 is n at the beginning
abbrev assuming : Attached
assuming = record {
  reach = false;
  holds = binary Less Bool (variable 0) (variable 3);
  looking = None;
  guarding = Some (record { blocked = 1; assumed = binary Less Bool (variable 0) (constant Int (pos 3)) });
}

abbrev guarded : m.Machine
guarded = acyclic_machine growing (Some assuming)

fails_within : guarded.fails (pos 2 ∷ pos 0 ∷ pos 0 ∷ []) [] ≡ true
unfolding wrap_at pattern_at
fails_within = refl

never_after : guarded.fails (pos 3 ∷ pos 0 ∷ pos 0 ∷ []) [] ≡ false
unfolding wrap_at pattern_at
never_after = refl

blocked_after : guarded.step (pos 3 ∷ pos 0 ∷ pos 0 ∷ []) [] ≡ m.done (pos 4 ∷ pos 1 ∷ pos 0 ∷ [])
unfolding wrap_at pattern_at
blocked_after = refl

-- ---- parameters

abbrev parameter : Option ℤ → Variable
parameter only = record { ty = Int; role = Param; start = pos 0; only = only }

-- one that is bound to 7, a free one and a kept variable
abbrev configured : List Variable
configured = parameter (Some (pos 7)) ∷ parameter None ∷ int_var ∷ []

-- a run starts with a value for the free one alone
one_is_free : param_ranges configured ≡ range_of Int ∷ []
one_is_free = refl

both_are_kept : state_ranges configured ≡ range_at (pos 7) ∷ range_of Int ∷ range_of Int ∷ []
both_are_kept = refl

bound_begins : start_of configured (pos 3 ∷ []) ≡ pos 7 ∷ pos 3 ∷ pos 0 ∷ []
bound_begins = refl
