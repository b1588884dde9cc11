-- What the alternatives of STL's grammar do, in its order.
use Rattle.std.specs.Prelude.{List, [], ◌∷◌, ◌++◌}
use Rattle.pv_parse.specs.declared.action.Action.{Action}
use Rattle.pv_parse.specs.declared.action.Action.TheVariants.{Keep, Call, Stmt, Instr}
use Rattle.pv_parse.specs.declared.action.CallAction.TheVariants as c
use Rattle.pv_parse.specs.declared.action.StmtAction.TheVariants as t
use Rattle.pv_parse.specs.declared.action.InstrAction.TheVariants as a
use Rattle.pv_parse.specs.Deeds.{expression_actions, declaration_actions, call_actions}

-- bodies of blocks
abbrev pub body_actions : List Action
body_actions =
    -- body
    Instr a.Begun ∷
    -- data_body
    Keep ∷ []

-- instructions and calls
abbrev pub instruction_actions : List Action
instruction_actions =
    -- new_code
    Instr a.NewCode ∷
    -- instructions
    Keep ∷ Keep ∷
    -- instruction
    Stmt t.Drop ∷ Stmt t.Drop ∷
    -- no_label
    Instr a.NoLabel ∷
    -- labelled
    Keep ∷ Keep ∷ Keep ∷ Keep ∷ Keep ∷ Keep ∷
    -- label
    Instr a.Label ∷
    -- after_bit_op
    Keep ∷ Keep ∷
    -- after_or_op
    Keep ∷ Keep ∷
    -- after_value_op
    Keep ∷ Keep ∷
    -- after_free_op
    Keep ∷ Keep ∷
    -- operation
    Keep ∷ Keep ∷ Keep ∷ Keep ∷ Keep ∷
    -- firm_operation
    Keep ∷ Keep ∷ Keep ∷ Keep ∷ Keep ∷ Instr a.Call ∷ Instr a.Call ∷
    -- bit_operand
    Keep ∷ Keep ∷
    -- or_operand
    Keep ∷ Keep ∷
    -- opening
    Instr a.Opening ∷
    -- maybe_value
    Keep ∷ Instr a.Alone ∷
    -- value
    Instr a.Operand ∷ Instr a.Literal ∷
    -- operand
    Keep ∷ Keep ∷ Keep ∷ Keep ∷
    -- hashed_word
    Keep ∷ Keep ∷
    -- number_value
    Instr a.Number ∷ Instr a.Negative ∷ Instr a.Truth ∷
    -- called_name
    Keep ∷ Keep ∷
    -- plain_called
    Keep ∷ Keep ∷
    -- hashed_name
    Keep ∷ Keep ∷ Keep ∷ Keep ∷
    -- hashed_prefix
    Keep ∷ Keep ∷
    -- base
    Keep ∷ Keep ∷
    -- base_name
    Instr a.Base ∷
    -- call_arguments
    Call c.Call ∷ Keep ∷
    -- bare_call
    Instr a.Bare ∷ []

-- all
abbrev pub stl_actions : List Action
stl_actions =
    expression_actions ++ declaration_actions ++ call_actions ++ body_actions ++ instruction_actions
