-- What the alternatives of blocks and of the values of data blocks make of what lies on the stack.
use Rattle.std.specs.Prelude.{[], ◌∷◌, ◌++◌, Option, Some, None, option_and_then}
use Rattle.pv_tree.specs.declared.block.BlockKind.{BlockKind}
use Rattle.pv_tree.specs.declared.block.BlockKind.TheVariants as kind
use Rattle.pv_tree.specs.Tree.{PlacedName, lit, index, BodyTree, scl, starts, BlockTree}
use Rattle.pv_tree.specs.View.{stmts_of}
use Rattle.pv_parse.specs.declared.action.BlockAction.{BlockAction}
use Rattle.pv_parse.specs.declared.action.BlockAction.TheVariants as a
use Rattle.pv_parse.specs.DeclTexts.{type_of_word}
use Rattle.pv_parse.specs.Items.{Stack, HeadTree, path, heading, body, values, blocks, token_on, path_on, literal_on}
use Rattle.pv_parse.specs.ExprDeeds.{stepped, operand_of}
use Rattle.pv_parse.specs.CodeStack.{stmts_on}
use Rattle.pv_parse.specs.DeclStack.{name_on, fields_on, heading_on, body_on, values_on, blocks_on}

-- ---- before the body

-- a block of this name, with nothing else yet
abbrev pub named_block : PlacedName → HeadTree
named_block n = record { name = n.0; place = n.1; vars = []; value = None; of = None }

abbrev pub block_name_deed : Stack → Option Stack
block_name_deed s = option_and_then (λ n. Some (heading (named_block n.0) ∷ n.1)) (name_on s)

-- the type of a function's value behind the colon, and VOID
abbrev pub value_deed : Stack → Option Stack
value_deed s =
    option_and_then (λ t. option_and_then (λ colon. option_and_then (λ h. Some
    (heading (record h.0 { value = Some (type_of_word t.0.bytes) }) ∷ h.1))
    (heading_on colon.1)) (token_on t.1)) (token_on s)

abbrev pub void_deed : Stack → Option Stack
void_deed s =
    option_and_then (λ t. option_and_then (λ colon. option_and_then (λ h. Some
    (heading (record h.0 { value = None }) ∷ h.1))
    (heading_on colon.1)) (token_on t.1)) (token_on s)

-- the variables of a section, or of a block's own fields, are the block's
abbrev pub closed_deed : Stack → Option Stack
closed_deed s =
    option_and_then (λ end. option_and_then (λ f. option_and_then (λ h. Some
    (heading (record h.0 { vars = h.0.vars ++ f.0.vars }) ∷ h.1))
    (heading_on f.1)) (fields_on end.1)) (token_on s)

-- what a data block is of
abbrev pub data_of_deed : Stack → Option Stack
data_of_deed s =
    option_and_then (λ n. option_and_then (λ h. Some
    (heading (record h.0 { of = Some n.0 }) ∷ h.1)) (heading_on n.1)) (name_on s)

-- ---- values of a data block

abbrev pub path_index_deed : Stack → Option Stack
path_index_deed s =
    option_and_then (λ end. option_and_then (λ l. option_and_then (λ begin. option_and_then (λ p.
    Some (path (stepped p.0 (index (lit l.0.ty l.0.value l.0.place) begin.0.place)) ∷ p.1))
    (path_on begin.1)) (token_on l.1)) (literal_on end.1)) (token_on s)

abbrev pub data_head_deed : Stack → Option Stack
data_head_deed s = option_and_then (λ t. Some (values [] ∷ t.1)) (token_on s)

abbrev pub no_data_deed : Stack → Option Stack
no_data_deed s = Some (values [] ∷ s)

abbrev pub data_value_deed : Stack → Option Stack
data_value_deed s =
    option_and_then (λ end. option_and_then (λ l. option_and_then (λ sign. option_and_then (λ p.
    option_and_then (λ v. Some (values (v.0 ++ (operand_of p.0, l.0) ∷ []) ∷ v.1))
    (values_on p.1)) (path_on sign.1)) (token_on l.1)) (literal_on end.1)) (token_on s)

-- ---- bodies of SCL

abbrev pub scl_body_deed : Stack → Option Stack
scl_body_deed s = option_and_then (λ l. Some (body (scl (stmts_of l.0)) ∷ l.1)) (stmts_on s)

-- behind BEGIN
abbrev pub begun_body_deed : Stack → Option Stack
begun_body_deed s =
    option_and_then (λ l. option_and_then (λ t. Some (body (scl (stmts_of l.0)) ∷ t.1))
    (token_on l.1)) (stmts_on s)

-- ---- blocks

abbrev pub new_source_deed : Stack → Option Stack
new_source_deed s = Some (blocks [] ∷ s)

abbrev pub block_of : BlockKind → HeadTree → BodyTree → BlockTree
block_of its_kind h its_body = record {
  kind = its_kind;
  name = h.name;
  vars = h.vars;
  value = h.value;
  body = its_body;
  place = h.place;
}

-- a block with code, one of data, and a named structure
abbrev pub code_deed : BlockKind → Stack → Option Stack
code_deed its_kind s =
    option_and_then (λ end. option_and_then (λ b. option_and_then (λ h. option_and_then (λ begin.
    option_and_then (λ l. Some (blocks (l.0 ++ block_of its_kind h.0 b.0 ∷ []) ∷ l.1))
    (blocks_on begin.1)) (token_on h.1)) (heading_on b.1)) (body_on end.1)) (token_on s)

abbrev pub data_deed : Stack → Option Stack
data_deed s =
    option_and_then (λ end. option_and_then (λ v. option_and_then (λ h. option_and_then (λ begin.
    option_and_then (λ l. Some
    (blocks (l.0 ++ block_of (kind.Db h.0.of) h.0 (starts v.0) ∷ []) ∷ l.1))
    (blocks_on begin.1)) (token_on h.1)) (heading_on v.1)) (values_on end.1)) (token_on s)

abbrev pub structure_deed : Stack → Option Stack
structure_deed s =
    option_and_then (λ end. option_and_then (λ h. option_and_then (λ begin.
    option_and_then (λ l. Some (blocks (l.0 ++ block_of kind.Udt h.0 (starts []) ∷ []) ∷ l.1))
    (blocks_on begin.1)) (token_on h.1)) (heading_on end.1)) (token_on s)

-- ---- by the action

abbrev pub block_deed : BlockAction → Stack → Option Stack
block_deed a.Name s = block_name_deed s
block_deed a.Value s = value_deed s
block_deed a.Void s = void_deed s
block_deed a.Closed s = closed_deed s
block_deed a.DataOf s = data_of_deed s
block_deed a.PathIndex s = path_index_deed s
block_deed a.DataHead s = data_head_deed s
block_deed a.NoData s = no_data_deed s
block_deed a.DataValue s = data_value_deed s
block_deed a.SclBody s = scl_body_deed s
block_deed a.BegunBody s = begun_body_deed s
block_deed a.NewSource s = new_source_deed s
block_deed a.FunctionBlock s = code_deed kind.Fb s
block_deed a.Function s = code_deed kind.Fc s
block_deed a.OrganizationBlock s = code_deed kind.Ob s
block_deed a.Data s = data_deed s
block_deed a.Structure s = structure_deed s
