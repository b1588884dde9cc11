-- What the alternatives of calls make of what lies on the stack.
use Rattle.std.specs.Prelude.{Bool, true, false, List, [], ◌∷◌, ◌++◌, Option, Some, None, option_and_then}
use Rattle.pv_place.specs.declared.place.Place.{Place}
use Rattle.pv_tree.specs.declared.expr.Root.{Root}
use Rattle.pv_tree.specs.declared.expr.Root.TheVariants.{Local, Named, Area}
use Rattle.pv_tree.specs.Tree.{PlacedName, ExprTree, StepTree, field, ArgTree, CallPlain}
use Rattle.pv_tree.specs.Words.{plain_name, pair_name, quoted_name}
use Rattle.pv_tree.specs.Nesting.{first_of}
use Rattle.pv_parse.specs.declared.action.CallAction.{CallAction}
use Rattle.pv_parse.specs.declared.action.CallAction.TheVariants as a
use Rattle.pv_parse.specs.CodeItems.{of_expr, of_call, arguments, called, value}
use Rattle.pv_parse.specs.CodeStack.{args_on, call_on}
use Rattle.pv_parse.specs.Items.{Stack, PathTree, path, code, token_on, path_on, expr_on}
use Rattle.pv_parse.specs.ExprDeeds.{rooted, stepped}

-- ---- names

-- the name with which a path begins, with its own place; an address has none, and never stands for one
abbrev pub name_of_root : Root → Place → PlacedName
name_of_root (Local name hash at) place = (name, at)
name_of_root (Named name) place = (name, place)
name_of_root (Area area bits byte bit) place = (plain_name [], place)

abbrev pub named_of : PathTree → PlacedName
named_of p = name_of_root p.root p.place

-- `#` stands before it
abbrev pub is_hashed : Root → Bool
is_hashed (Local name hash at) = hash
is_hashed _ = false

-- the name of a field to which a step leads
abbrev pub field_of : StepTree → Option PlacedName
field_of (field name place) = Some (name, place)
field_of _ = None

-- the name to which the last step leads, where it leads to a field
abbrev pub base_of : List StepTree → Option PlacedName
base_of [] = None
base_of (step ∷ []) = field_of step
base_of (step ∷ next ∷ others) = base_of (next ∷ others)

-- the name of a word, of a quoted name, and of a word with its number
abbrev pub plain_on : Stack → Option (PlacedName × Stack)
plain_on s = option_and_then (λ t. Some ((plain_name t.0.bytes, t.0.place), t.1)) (token_on s)

abbrev pub quoted_on : Stack → Option (PlacedName × Stack)
quoted_on s = option_and_then (λ t. Some ((quoted_name t.0.bytes, t.0.place), t.1)) (token_on s)

abbrev pub pair_on : Stack → Option (PlacedName × Stack)
pair_on s =
    option_and_then (λ n. option_and_then (λ t. Some
    ((pair_name (t.0.bytes ++ n.0.bytes), t.0.place), t.1)) (token_on n.1)) (token_on s)

-- a name behind `#`
abbrev pub hashed_name : Option (PlacedName × Stack) → Option Stack
hashed_name found =
    option_and_then (λ w. option_and_then (λ hash. Some
    (path (rooted (Local w.0.0 true w.0.1) hash.0.place) ∷ hash.1)) (token_on w.1)) found

-- a name behind `.`: a step to a field
abbrev pub second_name : Option (PlacedName × Stack) → Option Stack
second_name found =
    option_and_then (λ w. option_and_then (λ dot. option_and_then (λ p. Some
    (path (stepped p.0 (field w.0.0 w.0.1)) ∷ p.1)) (path_on dot.1)) (token_on w.1)) found

-- ---- arguments

-- an argument with its word
abbrev pub named_on : Stack → Option (ArgTree × Stack)
named_on s =
    option_and_then (λ e. option_and_then (λ sign. option_and_then (λ p. Some
    (record { name = Some (named_of p.0); value = e.0; place = sign.0.place }, p.1))
    (path_on sign.1)) (token_on e.1)) (expr_on s)

abbrev pub first_argument_deed : Stack → Option Stack
first_argument_deed s =
    option_and_then (λ arg. Some (code (arguments (arg.0 ∷ [])) ∷ arg.1)) (named_on s)

abbrev pub next_argument_deed : Stack → Option Stack
next_argument_deed s =
    option_and_then (λ arg. option_and_then (λ comma. option_and_then (λ args. Some
    (code (arguments (args.0 ++ arg.0 ∷ [])) ∷ args.1)) (args_on comma.1)) (token_on arg.1))
    (named_on s)

abbrev pub no_argument_deed : Stack → Option Stack
no_argument_deed s = Some (code (arguments []) ∷ s)

-- an argument without a word, alone
abbrev pub unnamed : ExprTree → ArgTree
unnamed e = record { name = None; value = e; place = first_of e }

abbrev pub alone_deed : Stack → Option Stack
alone_deed s =
    option_and_then (λ e. Some (code (arguments (unnamed e.0 ∷ [])) ∷ e.1)) (expr_on s)

-- ---- calls

-- what a path leads to, called with these arguments
abbrev pub call_of : PathTree → List ArgTree → CallPlain
call_of p args =
    record {
      name = (named_of p).0;
      name_place = (named_of p).1;
      hash = is_hashed p.root;
      base = base_of p.steps;
      args = args;
      place = p.place;
    }

abbrev pub call_deed : Stack → Option Stack
call_deed s =
    option_and_then (λ end. option_and_then (λ args. option_and_then (λ begin.
    option_and_then (λ p. Some (code (called (call_of p.0 args.0)) ∷ p.1))
    (path_on begin.1)) (token_on args.1)) (args_on end.1)) (token_on s)

-- ---- the right sides of assignments

abbrev pub call_value_deed : Stack → Option Stack
call_value_deed s =
    option_and_then (λ call. Some (code (value (of_call call.0)) ∷ call.1)) (call_on s)

abbrev pub expr_value_deed : Stack → Option Stack
expr_value_deed s = option_and_then (λ e. Some (code (value (of_expr e.0)) ∷ e.1)) (expr_on s)

-- ---- by the action

abbrev pub call_action_deed : CallAction → Stack → Option Stack
call_action_deed a.PlainHash s = hashed_name (plain_on s)
call_action_deed a.QuotedHash s = hashed_name (quoted_on s)
call_action_deed a.NumberedHash s = hashed_name (pair_on s)
call_action_deed a.PlainSecond s = second_name (plain_on s)
call_action_deed a.QuotedSecond s = second_name (quoted_on s)
call_action_deed a.NumberedSecond s = second_name (pair_on s)
call_action_deed a.FirstArgument s = first_argument_deed s
call_action_deed a.NextArgument s = next_argument_deed s
call_action_deed a.NoArgument s = no_argument_deed s
call_action_deed a.Alone s = alone_deed s
call_action_deed a.Call s = call_deed s
call_action_deed a.CallValue s = call_value_deed s
call_action_deed a.ExprValue s = expr_value_deed s
