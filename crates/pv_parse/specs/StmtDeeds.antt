-- What the alternatives of statements make of what lies on the stack.
use Rattle.std.specs.Prelude.{ℕ, if◌then◌else◌, List, [], ◌∷◌, ◌++◌, codes, Option, Some, None, option_and_then}
use Rattle.pv_place.specs.declared.place.Place.{Place}
use Rattle.pv_tree.specs.declared.stmt.Choice.{Choice}
use Rattle.pv_tree.specs.declared.stmt.Choice.TheVariants as of
use Rattle.pv_tree.specs.Tree.{OperandTree, Choices, StmtTree, assign, assign_call, if_, case_, for_, while_, repeat_, exit_, continue_, return_, call_, empty_}
use Rattle.pv_tree.specs.View.{stmts_of, arms_of, branches_of, else_of}
use Rattle.pv_parse.specs.declared.action.StmtAction.{StmtAction}
use Rattle.pv_parse.specs.declared.action.StmtAction.TheVariants as a
use Rattle.pv_parse.specs.TokenTexts.{is_text}
use Rattle.pv_parse.specs.CodeItems.{ValueTree, of_expr, of_call, ArmTree, BranchTree, statement, statements, conditions, otherwise, stepping, choice, choices, cases}
use Rattle.pv_parse.specs.CodeStack.{call_on, value_on, stmt_on, stmts_on, arms_on, else_on, by_on, choice_on, choices_on, branches_on}
use Rattle.pv_parse.specs.Items.{Stack, code, token_on, path_on, expr_on, literal_on}
use Rattle.pv_parse.specs.ExprDeeds.{operand_of}
use Rattle.pv_parse.specs.CallDeeds.{named_of}

-- ---- statements by themselves

-- a token is passed and forgotten
abbrev pub drop_deed : Stack → Option Stack
drop_deed s = option_and_then (λ t. Some t.1) (token_on s)

abbrev pub empty_deed : Stack → Option Stack
empty_deed s =
    option_and_then (λ end. Some (code (statement (empty_ end.0.place)) ∷ end.1)) (token_on s)

-- EXIT, CONTINUE, and any other word as RETURN
unfoldable pub single_of : List ℕ → Place → StmtTree
single_of bytes place =
    if is_text (codes "EXIT") bytes then exit_ place
    else (if is_text (codes "CONTINUE") bytes then continue_ place else return_ place)

abbrev pub single_deed : Stack → Option Stack
single_deed s =
    option_and_then (λ t. Some (code (statement (single_of t.0.bytes t.0.place)) ∷ t.1)) (token_on s)

abbrev pub call_statement_deed : Stack → Option Stack
call_statement_deed s =
    option_and_then (λ call. Some (code (statement (call_ call.0)) ∷ call.1)) (call_on s)

abbrev pub assigned : OperandTree → Place → ValueTree → StmtTree
assigned target place (of_expr e) = assign target place e
assigned target place (of_call c) = assign_call target place c

abbrev pub assign_deed : Stack → Option Stack
assign_deed s =
    option_and_then (λ v. option_and_then (λ sign. option_and_then (λ p. Some
    (code (statement (assigned (operand_of p.0) sign.0.place v.0)) ∷ p.1))
    (path_on sign.1)) (token_on v.1)) (value_on s)

-- ---- lists

abbrev pub new_list_deed : Stack → Option Stack
new_list_deed s = Some (code (statements []) ∷ s)

abbrev pub add_deed : Stack → Option Stack
add_deed s =
    option_and_then (λ x. option_and_then (λ list. Some
    (code (statements (list.0 ++ x.0 ∷ [])) ∷ list.1)) (stmts_on x.1)) (stmt_on s)

-- ---- IF

-- a condition, THEN, and statements
abbrev pub arm_on : Stack → Option (ArmTree × Stack)
arm_on s =
    option_and_then (λ body. option_and_then (λ word. option_and_then (λ e. Some
    ((e.0, stmts_of body.0), e.1)) (expr_on word.1)) (token_on body.1)) (stmts_on s)

abbrev pub first_arm_deed : Stack → Option Stack
first_arm_deed s = option_and_then (λ arm. Some (code (conditions (arm.0 ∷ [])) ∷ arm.1)) (arm_on s)

abbrev pub next_arm_deed : Stack → Option Stack
next_arm_deed s =
    option_and_then (λ arm. option_and_then (λ word. option_and_then (λ arms. Some
    (code (conditions (arms.0 ++ arm.0 ∷ [])) ∷ arms.1)) (arms_on word.1)) (token_on arm.1))
    (arm_on s)

abbrev pub else_deed : Stack → Option Stack
else_deed s =
    option_and_then (λ body. option_and_then (λ word. Some
    (code (otherwise (Some (stmts_of body.0))) ∷ word.1)) (token_on body.1)) (stmts_on s)

abbrev pub no_else_deed : Stack → Option Stack
no_else_deed s = Some (code (otherwise None) ∷ s)

abbrev pub if_deed : Stack → Option Stack
if_deed s =
    option_and_then (λ end. option_and_then (λ other. option_and_then (λ arms.
    option_and_then (λ word. Some
    (code (statement (if_ (arms_of arms.0) (else_of other.0) word.0.place)) ∷ word.1))
    (token_on arms.1)) (arms_on other.1)) (else_on end.1)) (token_on s)

-- ---- CASE

abbrev pub literal_choice_deed : Stack → Option Stack
literal_choice_deed s =
    option_and_then (λ l. Some (code (choice (of.Lit l.0)) ∷ l.1)) (literal_on s)

-- a word that was read is a constant
abbrev pub word_choice_deed : Stack → Option Stack
word_choice_deed s =
    option_and_then (λ p. Some
    (code (choice (of.Const (named_of p.0).0 (named_of p.0).1)) ∷ p.1)) (path_on s)

-- the upper end of a range
abbrev pub upper_on : Stack → Option (Choice × Stack)
upper_on s =
    option_and_then (λ upper. option_and_then (λ dots. Some (upper.0, dots.1)) (token_on upper.1))
    (choice_on s)

abbrev pub first_range_deed : Stack → Option Stack
first_range_deed s =
    option_and_then (λ upper. option_and_then (λ lower. Some
    (code (choices ((lower.0, Some upper.0) ∷ [])) ∷ lower.1)) (choice_on upper.1)) (upper_on s)

abbrev pub first_choice_deed : Stack → Option Stack
first_choice_deed s =
    option_and_then (λ x. Some (code (choices ((x.0, None) ∷ [])) ∷ x.1)) (choice_on s)

-- a further value, behind its comma
abbrev pub added_choice : Option Choice → Stack → Option Stack
added_choice upper s =
    option_and_then (λ lower. option_and_then (λ comma. option_and_then (λ label. Some
    (code (choices (label.0 ++ (lower.0, upper) ∷ [])) ∷ label.1)) (choices_on comma.1))
    (token_on lower.1)) (choice_on s)

abbrev pub next_range_deed : Stack → Option Stack
next_range_deed s = option_and_then (λ upper. added_choice (Some upper.0) upper.1) (upper_on s)

abbrev pub next_choice_deed : Stack → Option Stack
next_choice_deed s = added_choice None s

-- no branch yet; a label with no statement yet behind it
abbrev pub new_branches_deed : Stack → Option Stack
new_branches_deed s = Some (code (cases []) ∷ s)

abbrev pub opened : Choices → List BranchTree → Stack → Stack
opened label branches s =
    code (statements []) ∷ code (choices label) ∷ code (cases branches) ∷ s

abbrev pub label_deed : Stack → Option Stack
label_deed s =
    option_and_then (λ label. option_and_then (λ branches. Some
    (opened label.0 branches.0 branches.1)) (branches_on label.1)) (choices_on s)

-- the branch that is read, with those before it
abbrev pub closed_on : Stack → Option (List BranchTree × Stack)
closed_on s =
    option_and_then (λ body. option_and_then (λ label. option_and_then (λ branches. Some
    (branches.0 ++ (label.0, stmts_of body.0) ∷ [], branches.1)) (branches_on label.1))
    (choices_on body.1)) (stmts_on s)

abbrev pub next_label_deed : Stack → Option Stack
next_label_deed s =
    option_and_then (λ label. option_and_then (λ branches. Some
    (opened label.0 branches.0 branches.1)) (closed_on label.1)) (choices_on s)

abbrev pub branches_deed : Stack → Option Stack
branches_deed s = option_and_then (λ branches. Some (code (cases branches.0) ∷ branches.1)) (closed_on s)

abbrev pub case_deed : Stack → Option Stack
case_deed s =
    option_and_then (λ end. option_and_then (λ other. option_and_then (λ branches.
    option_and_then (λ word_of. option_and_then (λ e. option_and_then (λ word. Some
    (code (statement (case_ e.0 (branches_of branches.0) (else_of other.0) word.0.place)) ∷ word.1))
    (token_on e.1)) (expr_on word_of.1)) (token_on branches.1)) (branches_on other.1))
    (else_on end.1)) (token_on s)

-- ---- loops

abbrev pub by_deed : Stack → Option Stack
by_deed s =
    option_and_then (λ l. option_and_then (λ word. Some (code (stepping (Some l.0)) ∷ word.1))
    (token_on l.1)) (literal_on s)

abbrev pub no_by_deed : Stack → Option Stack
no_by_deed s = Some (code (stepping None) ∷ s)

-- what stands between a word and the end of its statement: statements behind DO
abbrev pub body_on : Stack → Option (List StmtTree × Stack)
body_on s =
    option_and_then (λ end. option_and_then (λ body. option_and_then (λ word. Some
    (body.0, word.1)) (token_on body.1)) (stmts_on end.1)) (token_on s)

abbrev pub for_deed : Stack → Option Stack
for_deed s =
    option_and_then (λ body. option_and_then (λ by. option_and_then (λ last.
    option_and_then (λ to. option_and_then (λ first. option_and_then (λ sign.
    option_and_then (λ p. option_and_then (λ word. Some
    (code (statement (for_ (named_of p.0).0 (named_of p.0).1 first.0 last.0 by.0 (stmts_of body.0)
    word.0.place)) ∷ word.1))
    (token_on p.1)) (path_on sign.1)) (token_on first.1)) (expr_on to.1)) (token_on last.1))
    (expr_on by.1)) (by_on body.1)) (body_on s)

abbrev pub while_deed : Stack → Option Stack
while_deed s =
    option_and_then (λ body. option_and_then (λ e. option_and_then (λ word. Some
    (code (statement (while_ e.0 (stmts_of body.0) word.0.place)) ∷ word.1))
    (token_on e.1)) (expr_on body.1)) (body_on s)

abbrev pub repeat_deed : Stack → Option Stack
repeat_deed s =
    option_and_then (λ end. option_and_then (λ e. option_and_then (λ until.
    option_and_then (λ body. option_and_then (λ word. Some
    (code (statement (repeat_ (stmts_of body.0) e.0 word.0.place)) ∷ word.1))
    (token_on body.1)) (stmts_on until.1)) (token_on e.1)) (expr_on end.1)) (token_on s)

-- ---- by the action

abbrev pub stmt_deed : StmtAction → Stack → Option Stack
stmt_deed a.Drop s = drop_deed s
stmt_deed a.Empty s = empty_deed s
stmt_deed a.Single s = single_deed s
stmt_deed a.Call s = call_statement_deed s
stmt_deed a.Assign s = assign_deed s
stmt_deed a.NewList s = new_list_deed s
stmt_deed a.Add s = add_deed s
stmt_deed a.FirstArm s = first_arm_deed s
stmt_deed a.NextArm s = next_arm_deed s
stmt_deed a.Else s = else_deed s
stmt_deed a.NoElse s = no_else_deed s
stmt_deed a.If s = if_deed s
stmt_deed a.LiteralChoice s = literal_choice_deed s
stmt_deed a.WordChoice s = word_choice_deed s
stmt_deed a.FirstRange s = first_range_deed s
stmt_deed a.FirstChoice s = first_choice_deed s
stmt_deed a.NextRange s = next_range_deed s
stmt_deed a.NextChoice s = next_choice_deed s
stmt_deed a.NewBranches s = new_branches_deed s
stmt_deed a.Label s = label_deed s
stmt_deed a.NextLabel s = next_label_deed s
stmt_deed a.Branches s = branches_deed s
stmt_deed a.Case s = case_deed s
stmt_deed a.By s = by_deed s
stmt_deed a.NoBy s = no_by_deed s
stmt_deed a.For s = for_deed s
stmt_deed a.While s = while_deed s
stmt_deed a.Repeat s = repeat_deed s
