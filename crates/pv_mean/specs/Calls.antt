-- Calls. A called block's brief cells have no value at its start; inputs and in-outs are copied in, one by one in the order of the
-- declarations; the block runs; outputs and in-outs are copied out in that order, and then a function's value. An instance keeps
-- the value of an input that has no argument. (The manual S7-SCL for S7-300/S7-400, "Calling Function Blocks", "Calling
-- Functions"; that parameters are copied is this project's own.)
use Rattle.std.specs.Prelude.{ℕ, zero, suc, ℤ, List, [], ◌∷◌, ◌++◌, map, filter, find, bytes_eq, Bool as Truth, true, false, ◌||◌, if◌then◌else◌, Option, Some, None}
use Rattle.pv_types.specs.declared.name.Name.{Name}
use Rattle.pv_types.specs.declared.declaration.Section.{Section}
use Rattle.pv_tree.specs.Tree.{OperandTree, ArgTree, CallPlain, BodyTree, scl, stl, starts, BlockTree}
use Rattle.pv_tree.specs.Callees.{How, CallSite, Callee, runs, not_declared, not_callable, unknown, callee_of, is_word, is_input, is_output, is_in_out, Param, params_of_vars, value_param, param_for}
use Rattle.pv_tree.specs.Parts.{operand_of}
use Rattle.pv_mean.specs.Sources.{Source}
use Rattle.pv_mean.specs.Frames.{Frame, brief_value}
use Rattle.pv_mean.specs.Endings.{Tried, got, and_then, Ended, ended, and_end, end_of, body_end}
use Rattle.pv_mean.specs.Spots.{Spot, brief, nowhere, read_spot, write_spot}
use Rattle.pv_mean.specs.Activations.{Activation, scope_in, value_number, unset_brief, Begins, word_begins, name_begins, spot_of, first_visible}
use Rattle.pv_mean.specs.Values.{value, locate}
use Rattle.pv_mean.specs.Statements.{Calls, Returned, run_stmts}
use Rattle.pv_mean.specs.InstructionRuns.{run_stl}

-- ---- two activations at once

-- the visible cells, the caller's brief ones, and those of the called block
pub record Linked : Type 0 where
  pub visible : List ℤ
  pub outer : List (Option ℤ)
  pub inner : List (Option ℤ)

abbrev pub outside : Linked → Frame
outside l = record { visible = l.visible; brief = l.outer }

abbrev pub inside : Linked → Frame
inside l = record { visible = l.visible; brief = l.inner }

abbrev pub with_outside : Linked → Frame → Linked
with_outside l frame = record { visible = frame.visible; outer = frame.brief; inner = l.inner }

abbrev pub with_inside : Linked → Frame → Linked
with_inside l frame = record { visible = frame.visible; outer = l.outer; inner = frame.brief }

-- ---- whose instance

-- what a called name, or the second of two, begins
abbrev pub called_begins : Source → Activation → Name → Truth → Begins
called_begins source act name hash =
    if is_word name then word_begins source act name.key hash else name_begins source act name.key

-- the first visible cell of the instance that a call works on: that of the second name, else that of the called one
abbrev pub instance_first : Source → Activation → CallPlain → ℕ
instance_first source act call = first_visible (elim call.base [
  | None ↦ called_begins source act call.name call.hash
  | Some second ↦ called_begins source act second.0 false
])

-- ---- parameters

-- a parameter, and its spot in the called block's activation
pub record Passed : Type 0 where
  pub param : Param
  pub spot : Spot

-- the parameters that are declared in such sections, in the order of the declarations
abbrev pub passed_in_sections : Source → Activation → (Section → Truth) → List Passed
passed_in_sections source callee test =
    map (λ p. record { param = p; spot = spot_of (word_begins source callee p.key true) })
    (filter (λ p. test p.section) (params_of_vars callee.block.vars))

abbrev pub passed_in : Source → Activation → List Passed
passed_in source callee =
    passed_in_sections source callee (λ s. is_input s || is_in_out s)

-- where STL calls a function its value is the last output
abbrev pub value_spot : Source → BlockTree → Spot
value_spot source block = elim block.value [
  | None ↦ nowhere
  | Some ty ↦ brief ty (value_number source block)
]

abbrev pub passed_out : Source → How → Activation → List Passed
passed_out source how callee =
    passed_in_sections source callee (λ s. is_output s || is_in_out s)
    ++ map (λ p. record { param = p; spot = value_spot source callee.block })
    (value_param how callee.block)

-- the argument for a parameter
abbrev pub is_for : How → BlockTree → List ℕ → ArgTree → Truth
is_for how block key arg = elim (param_for how block arg) [
  | None ↦ false
  | Some p ↦ bytes_eq key p.key
]

abbrev pub argument_for : CallSite → BlockTree → Passed → Option ArgTree
argument_for site block p = find (is_for site.how block p.param.key) site.call.args

-- ---- copying

-- an argument's value, evaluated in the caller, goes to its parameter
abbrev pub copy_in : Source → Activation → CallSite → Activation → Passed → Linked → Tried Linked
copy_in source caller site callee p l = elim (argument_for site callee.block p) [
  | None ↦ got l
  | Some arg ↦ and_then (value source caller (outside l) arg.value)
      (λ v. got (with_inside l (write_spot source (inside l) p.spot v)))
]

abbrev pub copy_all_in : Source → Activation → CallSite → Activation → List Passed → Linked
    → Tried Linked
copy_all_in source caller site callee [] l = got l
copy_all_in source caller site callee (p ∷ ps) l =
    and_then (copy_in source caller site callee p l)
    (λ m. copy_all_in source caller site callee ps m)

-- an operand takes a value as the target of an assignment does; an argument that is no operand breaks a rule
abbrev pub hand_over : Source → Activation → Option OperandTree → ℤ → Linked → Tried Linked
hand_over source caller None v l = got l
hand_over source caller (Some target) v l =
    and_then (locate source caller (outside l) target)
    (λ spot. got (with_outside l (write_spot source (outside l) spot v)))

-- a parameter is read, at the call's first token, and its value goes to the operand that its argument is, whose indexes are
-- evaluated now
abbrev pub copy_out : Source → Activation → CallSite → Activation → Passed → Linked → Tried Linked
copy_out source caller site callee p l = elim (argument_for site callee.block p) [
  | None ↦ got l
  | Some arg ↦ and_then (read_spot (inside l) site.call.place p.spot)
      (λ v. hand_over source caller (operand_of arg.value) v l)
]

abbrev pub copy_all_out : Source → Activation → CallSite → Activation → List Passed → Linked
    → Tried Linked
copy_all_out source caller site callee [] l = got l
copy_all_out source caller site callee (p ∷ ps) l =
    and_then (copy_out source caller site callee p l)
    (λ m. copy_all_out source caller site callee ps m)

-- ---- a call

-- what is left of a call: the caller's frame, and the value that the function has, if it has one
abbrev pub returned : Source → BlockTree → Linked → Returned
returned source block l = record {
  frame = outside l;
  value = brief_value (inside l) (value_number source block);
}

-- before anything is copied in
abbrev pub linked : Source → BlockTree → Frame → Linked
linked source block frame =
    record { visible = frame.visible; outer = frame.brief; inner = unset_brief source block }

-- a call of a block, by what its body does in its activation
abbrev pub run_call : Source → (Activation → Frame → Ended Frame) → Activation → CallSite
    → Activation → Frame → Ended Returned
run_call source body caller site callee frame =
    and_end (end_of (copy_all_in source caller site callee (passed_in source callee)
    (linked source callee.block frame)))
    (λ l. and_end (body callee (inside l))
    (λ f. and_end (end_of (copy_all_out source caller site callee (passed_out source site.how callee)
    (with_inside l f)))
    (λ m. ended (returned source callee.block m))))

-- ---- bodies

-- what a body does in an activation
abbrev pub run_code : Source → Calls → Activation → BodyTree → Frame → Ended Frame
run_code source calls act (scl statements) frame =
    body_end (run_stmts source calls act statements frame)
run_code source calls act (stl instructions) frame = run_stl source calls act instructions frame
run_code source calls act (starts values) frame = ended frame

abbrev pub run_body : Source → Calls → Activation → Frame → Ended Frame
run_body source calls act frame = run_code source calls act act.block.body frame

-- a call that can't be made breaks a rule; it does nothing
abbrev pub not_made : Frame → Ended Returned
not_made frame = ended (record { frame = frame; value = None })

abbrev pub run_callee : Source → (Activation → Frame → Ended Frame) → Activation → CallSite → Callee
    → Frame → Ended Returned
run_callee source body caller site (runs b) frame =
    run_call source body caller site
    (record { block = b; first = instance_first source caller site.call }) frame
run_callee source body caller site (not_declared place) frame = not_made frame
run_callee source body caller site (not_callable place) frame = not_made frame
run_callee source body caller site unknown frame = not_made frame

-- calls, of which so many may stand behind one another; one more does nothing. By the rules no chain of calls has more than
-- seven
abbrev pub calls_within : Source → ℕ → Calls
calls_within source zero caller site frame = not_made frame
calls_within source (suc n) caller site frame =
    run_callee source (λ callee f. run_body source (calls_within source n) callee f) caller site
    (callee_of (scope_in source caller) site) frame
