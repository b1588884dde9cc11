-- What alternatives make of what lies on the stack, by their numbers.
use Rattle.std.specs.Prelude.{ℕ, Bool, List, [], ◌∷◌, Option, Some, slice_index_or}
use Rattle.pv_tree.specs.declared.expr.UnaryOp.TheVariants as u
use Rattle.pv_tree.specs.declared.expr.BinaryOp.TheVariants as b
use Rattle.pv_tree.specs.Lexemes.{Lexeme}
use Rattle.pv_ll.specs.Making.{Making}
use Rattle.pv_parse.specs.declared.action.Action.{Action}
use Rattle.pv_parse.specs.declared.action.Action.TheVariants.{Keep, Expr, Decl, Block, Call, Stmt, Instr}
use Rattle.pv_parse.specs.declared.action.ExprAction.TheVariants as a
use Rattle.pv_parse.specs.declared.action.DeclAction.TheVariants as d
use Rattle.pv_parse.specs.declared.action.BlockAction.TheVariants as block
use Rattle.pv_parse.specs.declared.action.CallAction.TheVariants as c
use Rattle.pv_parse.specs.Kinds.{kind_of, marks}
use Rattle.pv_parse.specs.Items.{ItemTree, Stack, token}
use Rattle.pv_parse.specs.ExprDeeds.{expr_deed}
use Rattle.pv_parse.specs.DeclDeeds.{decl_deed}
use Rattle.pv_parse.specs.BlockDeeds.{block_deed}
use Rattle.pv_parse.specs.CallDeeds.{call_action_deed}
use Rattle.pv_parse.specs.StmtDeeds.{stmt_deed}
use Rattle.pv_parse.specs.InstrDeeds.{instr_deed}

abbrev pub deed : Action → Stack → Option Stack
deed Keep s = Some s
deed (Expr action) s = expr_deed action s
deed (Decl action) s = decl_deed action s
deed (Block action) s = block_deed action s
deed (Call action) s = call_action_deed action s
deed (Stmt action) s = stmt_deed action s
deed (Instr action) s = instr_deed action s

-- the actions of the alternatives of expressions and operands, in the grammar's order
abbrev pub expression_actions : List Action
expression_actions =
    -- word, label_word
    Expr a.Word ∷ Expr a.Word ∷ Expr a.Word ∷ Expr a.Word ∷ Expr a.Word ∷ Keep ∷ Keep ∷ Keep ∷
    Keep ∷ Keep ∷ Keep ∷ Keep ∷ Keep ∷ Keep ∷
    -- firm_name, field
    Expr a.Quoted ∷ Expr a.NumberedPair ∷ Expr a.Numbered ∷ Expr a.Word ∷ Expr a.Word ∷
    -- chains, tails and links
    Keep ∷ Keep ∷ Keep ∷ Expr (a.Binary b.Or) ∷ Keep ∷ Keep ∷ Keep ∷ Expr (a.Binary b.Xor) ∷ Keep ∷
    Keep ∷ Keep ∷ Expr (a.Binary b.And) ∷ Keep ∷ Keep ∷ Keep ∷ Expr (a.Binary b.Equal) ∷
    Expr (a.Binary b.NotEqual) ∷ Keep ∷ Keep ∷ Keep ∷ Expr a.Compare ∷ Keep ∷ Keep ∷ Keep ∷
    Expr (a.Binary b.Add) ∷ Expr (a.Binary b.Sub) ∷ Keep ∷ Keep ∷ Keep ∷ Expr a.Times ∷
    Expr (a.Binary b.Mod) ∷
    -- factor, word_read, other_factor, name_read
    Keep ∷ Keep ∷ Expr a.Read ∷ Keep ∷ Keep ∷ Expr a.HashRead ∷ Expr a.Read ∷
    -- firm_factor
    Expr a.Read ∷ Expr a.Number ∷ Expr a.Truth ∷ Expr a.Paren ∷ Keep ∷ Expr (a.Unary u.Plus) ∷
    Expr (a.Unary u.Minus) ∷ Expr (a.Unary u.Not) ∷
    -- function
    Expr a.One ∷ Expr a.Two ∷ Expr a.Three ∷ Expr a.Three ∷ Expr a.Two ∷
    -- steps, step, area
    Keep ∷ Keep ∷ Expr a.Field ∷ Expr a.Index ∷ Expr a.Area ∷ []

-- those of blocks and declarations, up to the values of data blocks
abbrev pub declaration_actions : List Action
declaration_actions =
    -- source, new_source, blocks, block
    Keep ∷ Block block.NewSource ∷ Keep ∷ Keep ∷ Block block.FunctionBlock ∷
    Block block.Function ∷ Block block.OrganizationBlock ∷ Block block.Data ∷
    Block block.Structure ∷
    -- block_name, name, value_type
    Block block.Name ∷ Decl d.Name ∷ Decl d.Name ∷ Block block.Value ∷ Block block.Void ∷
    -- sections, section, section_head, const_head
    Keep ∷ Keep ∷ Block block.Closed ∷ Block block.Closed ∷ Decl d.SectionHead ∷
    Decl d.ConstHead ∷
    -- constants, constant
    Keep ∷ Keep ∷ Decl d.Constant ∷
    -- declarations, first_word, declared_words, next_word, declared
    Keep ∷ Keep ∷ Decl d.FirstWord ∷ Keep ∷ Keep ∷ Decl d.NextWord ∷ Decl d.Declared ∷
    -- type_head, declared_type, array_head
    Decl d.TypeHead ∷ Decl d.Simple ∷ Decl d.Unread ∷ Decl d.Named ∷ Keep ∷ Decl d.Array ∷
    Decl d.ArrayHead ∷
    -- struct, struct_head, own_fields, own_head
    Decl d.Struct ∷ Decl d.StructHead ∷ Block block.Closed ∷ Decl d.OwnHead ∷
    -- start_value, maybe_semicolon, literal, integer
    Decl d.Start ∷ Decl d.NoStart ∷ Decl d.Dropped ∷ Keep ∷ Keep ∷ Decl d.Truth ∷
    Decl d.Negative ∷ Decl d.Number ∷
    -- data_type, data_head, data_values, data_value
    Block block.DataOf ∷ Keep ∷ Block block.DataHead ∷ Keep ∷ Keep ∷ Block block.DataValue ∷
    -- path_steps, path_step
    Keep ∷ Keep ∷ Expr a.Field ∷ Block block.PathIndex ∷ []

-- those that calls of both languages share
abbrev pub call_actions : List Action
call_actions =
    -- plain_hash
    Call c.PlainHash ∷
    -- quoted_hash
    Call c.QuotedHash ∷
    -- numbered_hash
    Call c.NumberedHash ∷
    -- first_argument
    Call c.FirstArgument ∷
    -- argument_value
    Keep ∷ Keep ∷
    -- more_arguments
    Keep ∷ Keep ∷
    -- next_argument
    Call c.NextArgument ∷
    []

-- the action of an alternative, by its number
abbrev pub reduce_by : List Action → ℕ → Stack → Option Stack
reduce_by actions k s = deed (slice_index_or actions k Keep) s

-- a token with its kind
pub record Kinded : Type 0 where
  pub lexeme : Lexeme
  pub kind : ℕ

-- tokens with their kinds, the first of them directly behind `#` or `.` or not
abbrev pub kinded : Bool → List Lexeme → List Kinded
kinded marked [] = []
kinded marked (t ∷ others) = record { lexeme = t; kind = kind_of marked t } ∷ kinded (marks t) others

-- the making of values by these actions, of which a token's value hangs on the token alone
abbrev pub kinded_making : {V : Type 0} → (Lexeme → V) → (ℕ → List V → Option (List V))
    → Making Kinded V
kinded_making leaf reduce = record { kind = λ t. t.kind; leaf = λ t. leaf t.lexeme; reduce = reduce }

-- that of trees
abbrev pub making : List Action → Making Kinded ItemTree
making actions = kinded_making token (reduce_by actions)
