-- What the alternatives of expressions and operands make of what lies on the stack.
use Rattle.std.specs.Prelude.{true, false, [], ◌∷◌, ◌++◌, Option, Some, option_and_then}
use Rattle.pv_word.specs.declared.types.Ty.TheVariants as ty
use Rattle.pv_place.specs.declared.place.Place.{Place}
use Rattle.pv_tree.specs.declared.expr.Root.{Root}
use Rattle.pv_tree.specs.declared.expr.Root.TheVariants.{Local, Named}
use Rattle.pv_tree.specs.declared.expr.UnaryOp.{UnaryOp}
use Rattle.pv_tree.specs.declared.expr.BinaryOp.{BinaryOp}
use Rattle.pv_tree.specs.Tree.{ExprTree, lit, read, unary, binary, std, paren, no_exprs, exprs, ExprTrees, OperandTree, operand, StepTree, field, index}
use Rattle.pv_tree.specs.View.{steps_of}
use Rattle.pv_tree.specs.Lexemes.{Lexeme}
use Rattle.pv_tree.specs.Words.{plain_name, pair_name, quoted_name}
use Rattle.pv_tree.specs.Literals.{number_type}
use Rattle.pv_parse.specs.declared.action.ExprAction.{ExprAction}
use Rattle.pv_parse.specs.declared.action.ExprAction.TheVariants as a
use Rattle.pv_parse.specs.TokenTexts.{times_of, compare_of, truth_of, function_of, area_of}
use Rattle.pv_parse.specs.Items.{Stack, PathTree, path, expr, token_on, path_on, expr_on, word_of}

-- ---- operands

-- an operand without steps
abbrev pub rooted : Root → Place → PathTree
rooted root place = record { root = root; steps = []; place = place }

-- what is read or assigned along a path
abbrev pub operand_of : PathTree → OperandTree
operand_of p = operand p.root (steps_of p.steps) p.place

-- one step more
abbrev pub stepped : PathTree → StepTree → PathTree
stepped p step = record p { steps = p.steps ++ step ∷ [] }

-- a word, a quoted name, a numbered one, and an address, by their token
abbrev pub word_deed : Stack → Option Stack
word_deed s = option_and_then (λ t. Some
    (path (rooted (Local (plain_name t.0.bytes) false t.0.place) t.0.place) ∷ t.1)) (token_on s)

abbrev pub quoted_deed : Stack → Option Stack
quoted_deed s = option_and_then (λ t. Some
    (path (rooted (Named (quoted_name t.0.bytes)) t.0.place) ∷ t.1)) (token_on s)

abbrev pub numbered_deed : Stack → Option Stack
numbered_deed s = option_and_then (λ t. Some
    (path (rooted (Named (plain_name t.0.bytes)) t.0.place) ∷ t.1)) (token_on s)

abbrev pub pair_deed : Stack → Option Stack
pair_deed s =
    option_and_then (λ n. option_and_then (λ t. Some
    (path (rooted (Named (pair_name (t.0.bytes ++ n.0.bytes))) t.0.place) ∷ t.1))
    (token_on n.1)) (token_on s)

abbrev pub area_deed : Stack → Option Stack
area_deed s = option_and_then (λ t. Some (path (rooted (area_of t.0.bytes) t.0.place) ∷ t.1))
    (token_on s)

-- a step to a field, which was read as a word behind its dot, and one to an element
abbrev pub field_deed : Stack → Option Stack
field_deed s =
    option_and_then (λ f. option_and_then (λ w. option_and_then (λ dot. option_and_then (λ p. Some
    (path (stepped p.0 (field w.0 w.1)) ∷ p.1))
    (path_on dot.1)) (token_on f.1)) (word_of f.0.root)) (path_on s)

abbrev pub index_deed : Stack → Option Stack
index_deed s =
    option_and_then (λ end. option_and_then (λ e. option_and_then (λ begin. option_and_then (λ p.
    Some (path (stepped p.0 (index e.0 begin.0.place)) ∷ p.1))
    (path_on begin.1)) (token_on e.1)) (expr_on end.1)) (token_on s)

-- ---- operands that are read

abbrev pub read_deed : Stack → Option Stack
read_deed s = option_and_then (λ p. Some (expr (read (operand_of p.0)) ∷ p.1)) (path_on s)

-- one that begins with a word behind `#`
abbrev pub hashed : PathTree → Place → Option PathTree
hashed p place =
    option_and_then (λ w. Some
    (record { root = Local w.0 true w.1; steps = p.steps; place = place })) (word_of p.root)

abbrev pub hash_read_deed : Stack → Option Stack
hash_read_deed s =
    option_and_then (λ p. option_and_then (λ hash. option_and_then (λ q. Some
    (expr (read (operand_of q)) ∷ hash.1))
    (hashed p.0 hash.0.place)) (token_on p.1)) (path_on s)

-- ---- literals and parentheses

abbrev pub number_deed : Stack → Option Stack
number_deed s = option_and_then (λ t. Some
    (expr (lit (number_type t.0.bytes) t.0.value t.0.place) ∷ t.1)) (token_on s)

abbrev pub truth_deed : Stack → Option Stack
truth_deed s = option_and_then (λ t. Some
    (expr (lit (Some ty.Bool) (truth_of t.0.bytes) t.0.place) ∷ t.1)) (token_on s)

abbrev pub paren_deed : Stack → Option Stack
paren_deed s =
    option_and_then (λ end. option_and_then (λ e. option_and_then (λ begin. Some
    (expr (paren begin.0.place e.0) ∷ begin.1))
    (token_on e.1)) (expr_on end.1)) (token_on s)

-- ---- operators

abbrev pub unary_deed : UnaryOp → Stack → Option Stack
unary_deed op s =
    option_and_then (λ e. option_and_then (λ t. Some (expr (unary op t.0.place e.0) ∷ t.1))
    (token_on e.1)) (expr_on s)

-- an operator between two operands, by its token
abbrev pub link_deed : (Lexeme → BinaryOp) → Stack → Option Stack
link_deed op_of s =
    option_and_then (λ r. option_and_then (λ t. option_and_then (λ l. Some
    (expr (binary (op_of t.0) t.0.place l.0 r.0) ∷ l.1))
    (expr_on t.1)) (token_on r.1)) (expr_on s)

-- ---- functions

-- an argument with its word and `:=`
abbrev pub argument_on : Stack → Option (ExprTree × Stack)
argument_on s =
    option_and_then (λ e. option_and_then (λ sign. option_and_then (λ word. Some (e.0, word.1))
    (token_on sign.1)) (token_on e.1)) (expr_on s)

-- one behind a comma
abbrev pub later_on : Stack → Option (ExprTree × Stack)
later_on s =
    option_and_then (λ e. option_and_then (λ comma. Some (e.0, comma.1)) (token_on e.1))
    (argument_on s)

-- the word of a function and `(`
abbrev pub opening_on : Stack → Option (Lexeme × Stack)
opening_on s = option_and_then (λ begin. token_on begin.1) (token_on s)

abbrev pub function_expr : Lexeme → ExprTrees → ExprTree
function_expr t args = std (function_of t.bytes) t.place args

abbrev pub one_deed : Stack → Option Stack
one_deed s =
    option_and_then (λ end. option_and_then (λ x. option_and_then (λ f. Some
    (expr (function_expr f.0 (exprs x.0 no_exprs)) ∷ f.1))
    (opening_on x.1)) (expr_on end.1)) (token_on s)

abbrev pub two_deed : Stack → Option Stack
two_deed s =
    option_and_then (λ end. option_and_then (λ y. option_and_then (λ x. option_and_then (λ f. Some
    (expr (function_expr f.0 (exprs x.0 (exprs y.0 no_exprs))) ∷ f.1))
    (opening_on x.1)) (argument_on y.1)) (later_on end.1)) (token_on s)

abbrev pub three_deed : Stack → Option Stack
three_deed s =
    option_and_then (λ end. option_and_then (λ z. option_and_then (λ y. option_and_then (λ x.
    option_and_then (λ f. Some
    (expr (function_expr f.0 (exprs x.0 (exprs y.0 (exprs z.0 no_exprs)))) ∷ f.1))
    (opening_on x.1)) (argument_on y.1)) (later_on z.1)) (later_on end.1)) (token_on s)

-- ---- by the action

abbrev pub expr_deed : ExprAction → Stack → Option Stack
expr_deed a.Word s = word_deed s
expr_deed a.Quoted s = quoted_deed s
expr_deed a.Numbered s = numbered_deed s
expr_deed a.NumberedPair s = pair_deed s
expr_deed a.Area s = area_deed s
expr_deed a.Field s = field_deed s
expr_deed a.Index s = index_deed s
expr_deed a.Read s = read_deed s
expr_deed a.HashRead s = hash_read_deed s
expr_deed a.Number s = number_deed s
expr_deed a.Truth s = truth_deed s
expr_deed a.Paren s = paren_deed s
expr_deed (a.Unary op) s = unary_deed op s
expr_deed (a.Binary op) s = link_deed (λ t. op) s
expr_deed a.Times s = link_deed (λ t. times_of t.bytes) s
expr_deed a.Compare s = link_deed (λ t. compare_of t.bytes) s
expr_deed a.One s = one_deed s
expr_deed a.Two s = two_deed s
expr_deed a.Three s = three_deed s
