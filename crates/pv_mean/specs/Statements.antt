-- The run of a list of statements in a frame (the manual S7-SCL for S7-300/S7-400, "Control Statements"). A turn of a loop is one
-- start of its body; an entry into a loop that would start one turn more than the source's bound is over, at the loop's word.
use Rattle.std.specs.Prelude.{ℕ, zero, suc, ℤ, pos, ◌+ℤ◌, int_lt, int_le, [], ◌∷◌, Bool as Truth, true, false, ◌&&◌, ◌||◌, Option, Some, None}
use Rattle.std.specs.Ordering.{int_eq}
use Rattle.pv_place.specs.declared.place.Place.{Place}
use Rattle.pv_types.specs.declared.name.Name.{Name}
use Rattle.pv_types.specs.declared.declaration.Literal.{Literal}
use Rattle.pv_types.specs.Tree.{VarTree}
use Rattle.pv_types.specs.View.{start_of}
use Rattle.pv_types.specs.Leaves.{start_value}
use Rattle.pv_tree.specs.declared.expr.Root.TheVariants.{Local}
use Rattle.pv_tree.specs.declared.stmt.Choice.{Choice}
use Rattle.pv_tree.specs.declared.stmt.Choice.TheVariants.{Lit, Const}
use Rattle.pv_tree.specs.Tree.{OperandTree, operand, no_steps, Choices, StmtTree, assign, assign_call, if_, case_, for_, while_, repeat_, exit_, continue_, return_, call_, empty_, StmtTrees, no_stmts, stmts, ArmTrees, no_arms, arms, BranchTrees, no_branches, branches, ElseTree, no_else, else_}
use Rattle.pv_tree.specs.Scopes.{first_var}
use Rattle.pv_tree.specs.Callees.{as_statement, as_value, CallSite}
use Rattle.pv_mean.specs.Sources.{Source}
use Rattle.pv_mean.specs.Frames.{Frame}
use Rattle.pv_mean.specs.Endings.{Value, Ended, Ending, normal, at_exit, at_continue, at_return, by_trap, by_over, go_on, when_got, when_ended}
use Rattle.pv_mean.specs.Spots.{Spot, told, read_spot, write_spot}
use Rattle.pv_mean.specs.Activations.{Activation}
use Rattle.pv_mean.specs.Values.{is_true, value, locate}

-- what a call leaves: the caller's frame, and the function's value, if it has one
pub record Returned : Type 0 where
  pub frame : Frame
  pub value : Option ℤ

-- what each call does in its caller's activation and frame
abbrev pub Calls : Type 0
Calls = Activation → CallSite → Frame → Ended Returned

-- ---- CASE

abbrev pub value_of_constant : Option VarTree → ℤ
value_of_constant None = pos 0
value_of_constant (Some v) = start_value (start_of v)

abbrev pub choice_value : Activation → Choice → ℤ
choice_value act (Lit literal) = literal.value
choice_value act (Const name place) = value_of_constant (first_var act.block.vars name.key)

-- one value, or a range with its ends; a range whose low is over its high has none
abbrev pub is_chosen_by : Activation → ℤ → Choice → Option Choice → Truth
is_chosen_by act v low None = int_eq v (choice_value act low)
is_chosen_by act v low (Some high) =
    int_le (choice_value act low) v && int_le v (choice_value act high)

abbrev pub is_chosen : Activation → ℤ → Choices → Truth
is_chosen act v [] = false
is_chosen act v (c ∷ cs) = is_chosen_by act v c.0 c.1 || is_chosen act v cs

-- ---- loops

-- after a turn: EXIT leaves the loop, and CONTINUE ends the turn
abbrev pub after_turn : Ending → (Frame → Ending) → Ending
after_turn (normal frame) next = next frame
after_turn (at_exit frame) next = normal frame
after_turn (at_continue frame) next = next frame
after_turn (at_return frame) next = at_return frame
after_turn (by_trap kind place) next = by_trap kind place
after_turn (by_over place) next = by_over place

-- WHILE, where so many turns are left: its condition is evaluated before each turn, also before one too many
abbrev pub while_turns : (Frame → Value) → (Frame → Ending) → Place → ℕ → Frame → Ending
while_turns condition body place zero frame =
    when_got (condition frame) (λ v. elim (is_true v) [
      | true ↦ by_over place
      | false ↦ normal frame
    ])
while_turns condition body place (suc n) frame =
    when_got (condition frame) (λ v. elim (is_true v) [
      | true ↦ after_turn (body frame) (λ f. while_turns condition body place n f)
      | false ↦ normal frame
    ])

-- REPEAT: its condition is evaluated after each turn
abbrev pub repeat_turns : (Frame → Value) → (Frame → Ending) → Place → ℕ → Frame → Ending
repeat_turns condition body place zero frame = by_over place
repeat_turns condition body place (suc n) frame =
    after_turn (body frame) (λ f. when_got (condition f) (λ v. elim (is_true v) [
      | true ↦ normal f
      | false ↦ repeat_turns condition body place n f
    ]))

-- FOR: the spot of its variable with the variable's place, the step, the end, and the loop's place
pub record Counting : Type 0 where
  pub variable : Spot
  pub variable_place : Place
  pub by : ℤ
  pub last : ℤ
  pub place : Place

-- the count isn't past the end
abbrev pub is_on_the_way : ℤ → ℤ → ℤ → Truth
is_on_the_way by count last = elim (int_lt by (pos 0)) [
  | true ↦ int_le last count
  | false ↦ int_le count last
]

-- the count is a whole number, which isn't wrapped; after each turn it is the variable's value and the step, and the variable
-- takes it, wrapped
abbrev pub for_turns : Source → Counting → (Frame → Ending) → ℕ → ℤ → Frame → Ending
for_turns source loop body zero count frame = elim (is_on_the_way loop.by count loop.last) [
  | true ↦ by_over loop.place
  | false ↦ normal frame
]
for_turns source loop body (suc n) count frame = elim (is_on_the_way loop.by count loop.last) [
  | true ↦ after_turn (body frame) (λ f.
      when_got (read_spot f loop.variable_place loop.variable)
      (λ v. for_turns source loop body n (v +ℤ loop.by)
      (write_spot source f loop.variable (v +ℤ loop.by))))
  | false ↦ normal frame
]

-- the variable of a FOR, as an operand
abbrev pub counter : Name → Place → OperandTree
counter name place = operand (Local name false place) no_steps place

abbrev pub step_of : Option Literal → ℤ
step_of None = pos 1
step_of (Some literal) = literal.value

-- ---- statements

-- a value goes to its target, whose indexes are evaluated behind it
abbrev pub store : Source → Activation → OperandTree → Frame → ℤ → Ending
store source act target frame v =
    when_got (locate source act frame target) (λ spot. normal (write_spot source frame spot v))

abbrev mutual
  pub run_stmt : Source → Calls → Activation → StmtTree → Frame → Ending
  run_stmt source calls act (assign target place e) frame =
      when_got (value source act frame e) (λ v. store source act target frame v)
  run_stmt source calls act (assign_call target place call) frame =
      when_ended (calls act (record { how = as_value; call = call }) frame) (λ back.
      when_got (told back.value call.place) (λ v. store source act target back.frame v))
  run_stmt source calls act (if_ conditions other place) frame =
      run_arms source calls act (λ f. run_else source calls act other f) conditions frame
  run_stmt source calls act (case_ selector choices other place) frame =
      when_got (value source act frame selector) (λ v. run_branches source calls act v
      (λ f. run_else source calls act other f) choices frame)
  run_stmt source calls act (for_ name name_place first last by body place) frame =
      when_got (value source act frame first) (λ v. when_got (value source act frame last)
      (λ end. when_got (locate source act frame (counter name name_place)) (λ spot. for_turns source
      (record {
        variable = spot;
        variable_place = name_place;
        by = step_of by;
        last = end;
        place = place;
      })
      (λ f. run_stmts source calls act body f) source.bound v (write_spot source frame spot v))))
  run_stmt source calls act (while_ condition body place) frame =
      while_turns (λ f. value source act f condition) (λ f. run_stmts source calls act body f) place
      source.bound frame
  run_stmt source calls act (repeat_ body condition place) frame =
      repeat_turns (λ f. value source act f condition) (λ f. run_stmts source calls act body f)
      place source.bound frame
  run_stmt source calls act (exit_ place) frame = at_exit frame
  run_stmt source calls act (continue_ place) frame = at_continue frame
  run_stmt source calls act (return_ place) frame = at_return frame
  run_stmt source calls act (call_ call) frame =
      when_ended (calls act (record { how = as_statement; call = call }) frame)
      (λ back. normal back.frame)
  run_stmt source calls act (empty_ place) frame = normal frame

  -- the statements one after the other
  pub run_stmts : Source → Calls → Activation → StmtTrees → Frame → Ending
  run_stmts source calls act no_stmts frame = normal frame
  run_stmts source calls act (stmts s more) frame =
      go_on (run_stmt source calls act s frame) (λ f. run_stmts source calls act more f)

  -- the statements behind the first condition that is true, else these
  pub run_arms : Source → Calls → Activation → (Frame → Ending) → ArmTrees → Frame → Ending
  run_arms source calls act otherwise no_arms frame = otherwise frame
  run_arms source calls act otherwise (arms condition body more) frame =
      when_got (value source act frame condition) (λ v. elim (is_true v) [
        | true ↦ run_stmts source calls act body frame
        | false ↦ run_arms source calls act otherwise more frame
      ])

  -- the first branch that has the value, else these
  pub run_branches : Source → Calls → Activation → ℤ → (Frame → Ending) → BranchTrees → Frame
      → Ending
  run_branches source calls act v otherwise no_branches frame = otherwise frame
  run_branches source calls act v otherwise (branches choices body more) frame =
      elim (is_chosen act v choices) [
        | true ↦ run_stmts source calls act body frame
        | false ↦ run_branches source calls act v otherwise more frame
      ]

  pub run_else : Source → Calls → Activation → ElseTree → Frame → Ending
  run_else source calls act no_else frame = normal frame
  run_else source calls act (else_ body) frame = run_stmts source calls act body frame
