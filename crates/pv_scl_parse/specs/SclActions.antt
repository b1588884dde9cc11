-- What the alternatives of SCL's grammar do, in its order.
use Rattle.std.specs.Prelude.{List, [], ◌∷◌, ◌++◌}
use Rattle.pv_parse.specs.declared.action.Action.{Action}
use Rattle.pv_parse.specs.declared.action.Action.TheVariants.{Keep, Expr, Block, Call, Stmt}
use Rattle.pv_parse.specs.declared.action.ExprAction.TheVariants as a
use Rattle.pv_parse.specs.declared.action.BlockAction.TheVariants as block
use Rattle.pv_parse.specs.declared.action.CallAction.TheVariants as c
use Rattle.pv_parse.specs.declared.action.StmtAction.TheVariants as t
use Rattle.pv_parse.specs.Deeds.{expression_actions, declaration_actions, call_actions}

-- bodies of blocks
abbrev pub body_actions : List Action
body_actions =
    -- body, data_body
    Block block.BegunBody ∷ Block block.SclBody ∷ Keep ∷ Block block.NoData ∷ []

-- statements and calls
abbrev pub statement_actions : List Action
statement_actions =
    -- list
    Keep ∷
    -- new_list
    Stmt t.NewList ∷
    -- items
    Keep ∷ Keep ∷
    -- item
    Stmt t.Add ∷ Stmt t.Add ∷
    -- firm_item
    Stmt t.Empty ∷ Stmt t.Drop ∷
    -- word_item
    Stmt t.Drop ∷
    -- other_statement
    Keep ∷ Keep ∷ Keep ∷ Stmt t.If ∷ Stmt t.Case ∷ Stmt t.For ∷ Stmt t.While ∷ Stmt t.Repeat ∷ Stmt t.Single ∷
    -- first_arm
    Stmt t.FirstArm ∷
    -- elsifs
    Keep ∷ Keep ∷
    -- elsif
    Stmt t.NextArm ∷
    -- maybe_else
    Stmt t.Else ∷ Stmt t.NoElse ∷
    -- maybe_by
    Stmt t.By ∷ Stmt t.NoBy ∷
    -- branches
    Stmt t.Branches ∷ Stmt t.NewBranches ∷
    -- new_branches
    Stmt t.NewBranches ∷
    -- label
    Stmt t.Label ∷
    -- label_rest
    Stmt t.Drop ∷
    -- first_range
    Stmt t.FirstRange ∷ Stmt t.FirstChoice ∷
    -- more_choices
    Keep ∷ Keep ∷
    -- next_choice
    Keep ∷
    -- next_range
    Stmt t.NextRange ∷ Stmt t.NextChoice ∷
    -- choice
    Keep ∷ Keep ∷
    -- literal_choice
    Stmt t.LiteralChoice ∷
    -- word_choice
    Stmt t.WordChoice ∷
    -- case_items
    Keep ∷ Keep ∷
    -- case_item
    Stmt t.Add ∷ Stmt t.NextLabel ∷ Keep ∷
    -- after_case_word
    Stmt t.NextLabel ∷ Stmt t.Add ∷
    -- case_else
    Stmt t.Else ∷ Stmt t.NoElse ∷
    -- maybe_colon
    Stmt t.Drop ∷ Keep ∷
    -- after_word
    Stmt t.Call ∷ Keep ∷ Keep ∷
    -- after_dot
    Keep ∷ Keep ∷ Stmt t.Call ∷ Stmt t.Call ∷
    -- after_prefix
    Stmt t.Call ∷ Keep ∷
    -- after_second
    Stmt t.Call ∷ Keep ∷
    -- after_hash
    Keep ∷ Keep ∷ Stmt t.Call ∷ Stmt t.Call ∷
    -- after_hash_prefix
    Stmt t.Call ∷ Keep ∷
    -- assignment
    Stmt t.Assign ∷
    -- maybe_index
    Keep ∷ Keep ∷
    -- first_index
    Expr a.Index ∷
    -- plain_second
    Call c.PlainSecond ∷
    -- quoted_second
    Call c.QuotedSecond ∷
    -- numbered_second
    Call c.NumberedSecond ∷
    -- called
    Keep ∷ Keep ∷
    -- second_name
    Keep ∷ Keep ∷ Keep ∷ Keep ∷
    -- second_number
    Keep ∷ Keep ∷
    -- call_arguments
    Call c.Call ∷
    -- arguments
    Keep ∷ Call c.Alone ∷ Call c.NoArgument ∷
    -- after_argument_word
    Keep ∷ Call c.Alone ∷
    -- value
    Keep ∷ Keep ∷ Keep ∷ Call c.ExprValue ∷
    -- value_after_word
    Call c.CallValue ∷ Keep ∷ Call c.ExprValue ∷
    -- value_after_dot
    Keep ∷ Keep ∷ Call c.CallValue ∷ Call c.CallValue ∷
    -- value_after_prefix
    Call c.CallValue ∷ Keep ∷
    -- value_after_second
    Call c.CallValue ∷ Call c.ExprValue ∷
    -- value_after_hash
    Keep ∷ Keep ∷ Call c.CallValue ∷ Call c.CallValue ∷
    -- value_after_hash_prefix
    Call c.CallValue ∷ Keep ∷
    -- first_read
    Expr a.Read ∷
    -- second_read
    Expr a.Read ∷
    -- chain
    Keep ∷
    []

-- all
abbrev pub scl_actions : List Action
scl_actions =
    expression_actions ++ declaration_actions ++ call_actions ++ body_actions ++ statement_actions
