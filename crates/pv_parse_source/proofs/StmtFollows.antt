-- What actions of statements make of the shades on the stack is the shades of what they make of the things on it.
use Rattle.std.proofs.Common.{◌≡◌, ℕ, Bool, true, false, List, [], ◌∷◌, ◌++◌, map, Option, Some, None, refl, ap, ◌∙◌, sym}
use Rattle.std.specs.Prelude.{if◌then◌else◌, codes}
use Rattle.std.proofs.lemmas.Option.{same_Some, option_and_then_some}
use Rattle.pv_place.specs.declared.place.Place.{Place}
use Rattle.pv_tree.specs.declared.stmt.Choice.{Choice}
use Rattle.pv_tree.specs.Tree.{ExprTree, Choices, StmtTree, exit_, continue_, return_}
use Rattle.pv_tree.specs.View.{steps_of, stmts_of, arms_of, branches_of}
use Rattle.pv_tree.specs.Lexemes.{Lexeme}
use Rattle.pv_tree.specs.Nesting.{first_of_stmt}
use Rattle.pv_parse.specs.declared.action.StmtAction.{StmtAction}
use Rattle.pv_parse.specs.declared.action.StmtAction.TheVariants as a
use Rattle.pv_parse.specs.declared.shade.Shading.TheVariants.{Take, Group, Part, Branch}
use Rattle.pv_parse.specs.TokenTexts.{is_text}
use Rattle.pv_parse.specs.CodeItems.{ValueTree, of_expr, of_call, ArmTree, BranchTree, called, value, statement, statements, conditions, otherwise, stepping, choice, choices, cases}
use Rattle.pv_parse.specs.CodeStack.{call_on, value_on, stmt_on, stmts_on, arms_on, else_on, by_on, choice_on, choices_on, branches_on}
use Rattle.pv_parse.specs.Items.{Stack, PathTree, token, path, expr, literal, code, token_on, path_on, expr_on, literal_on}
use Rattle.pv_parse.specs.ExprDeeds.{operand_of}
use Rattle.pv_parse.specs.StmtDeeds.{drop_deed, empty_deed, single_of, single_deed, call_statement_deed, assigned, assign_deed, new_list_deed, add_deed, arm_on, first_arm_deed, next_arm_deed, else_deed, no_else_deed, if_deed, literal_choice_deed, word_choice_deed, upper_on, first_range_deed, first_choice_deed, added_choice, next_range_deed, new_branches_deed, opened, label_deed, closed_on, next_label_deed, branches_deed, case_deed, by_deed, no_by_deed, body_on, for_deed, while_deed, repeat_deed, stmt_deed}
use Rattle.pv_parse.specs.Shades.{Shade, all, merged, part_places}
use Rattle.pv_parse.specs.ExprShades.{places_of, places_of_steps}
use Rattle.pv_parse.specs.StmtShades.{places_within, places_of_stmts, places_of_arms, places_of_branches, shade_of_value, anywhere, stmt_shading}
use Rattle.pv_parse.specs.ItemShades.{shade_of}
use Rattle.pv_parse.proofs.ForCallers.{merged-assoc, token_popped, path_popped, expr_popped, seen, under, Keeps}
use Rattle.pv_parse_source.proofs.CodePopped.{literal_popped, call_popped, value_popped, stmt_popped, stmts_popped, arms_popped, else_popped, by_popped, choice_popped, choices_popped, branches_popped}
use Rattle.pv_parse_source.proofs.CallFollows.{listed}

abbrev shade : Place → List Place → Shade
shade first parts = record { first = first; parts = parts }

-- ---- statements by themselves

drop_keeps : Keeps drop_deed (Take 1)
drop_keeps s left e =
    option_and_then_some _ (token_on s) left e (λ t on_t is.
    under (Take 1) s (token t.0 ∷ t.1) (map shade_of left)
    (token_popped s t on_t)
    (seen _ left is))

empty_keeps : Keeps empty_deed (Part 1 0)
empty_keeps s left e =
    option_and_then_some _ (token_on s) left e (λ end on_end is.
    under (Part 1 0) s (token end.0 ∷ end.1) (map shade_of left)
    (token_popped s end on_end)
    (seen _ left is))

-- EXIT, CONTINUE and RETURN are at the word's place, and nothing is in them
single_first : (b c : Bool) (place : Place) → first_of_stmt (if b then exit_ place else (if c then continue_ place else return_ place)) ≡ place
single_first true c place = refl
single_first false true place = refl
single_first false false place = refl

single_within : (b c : Bool) (place : Place) → places_within (if b then exit_ place else (if c then continue_ place else return_ place)) ≡ []
single_within true c place = refl
single_within false true place = refl
single_within false false place = refl

of_single : (bytes : List ℕ) (place : Place) (below : List Shade) → Some (shade place (part_places place []) ∷ below)
    ≡ Some (shade_of (code (statement (single_of bytes place))) ∷ below)
unfolding single_of
of_single bytes place below =
    let b = is_text (codes "EXIT") bytes in
    let c = is_text (codes "CONTINUE") bytes in
    ap (λ (z : List Place). Some (shade place (part_places place z) ∷ below)) (sym (single_within b c place))
    ∙ ap (λ (z : Place). Some (shade z (part_places z (places_within (single_of bytes place))) ∷ below)) (sym (single_first b c place))

single_keeps : Keeps single_deed (Part 1 0)
single_keeps s left e =
    option_and_then_some _ (token_on s) left e (λ t on_t is.
    under (Part 1 0) s (token t.0 ∷ t.1) (map shade_of left)
    (token_popped s t on_t)
    (of_single t.0.bytes t.0.place (map shade_of t.1) ∙ seen _ left is))

call_statement_keeps : Keeps call_statement_deed (Part 1 0)
call_statement_keeps s left e =
    option_and_then_some _ (call_on s) left e (λ c on_c is.
    under (Part 1 0) s (code (called c.0) ∷ c.1) (map shade_of left)
    (call_popped s c on_c)
    (seen _ left is))

-- the right side's shade, and a statement's that assigns it
assigned_shade : (p : PathTree) (place : Place) (v : ValueTree) (below : List Shade)
    → Some (shade p.place (part_places p.place (all (places_of_steps (steps_of p.steps) ∷ (shade_of_value v).parts ∷ []))) ∷ below)
    ≡ Some (shade_of (code (statement (assigned (operand_of p) place v))) ∷ below)
assigned_shade p place (of_expr e) below = refl
assigned_shade p place (of_call c) below = refl

assign_keeps : Keeps assign_deed (Part 3 0)
assign_keeps s left e =
    option_and_then_some _ (value_on s) left e (λ v on_v r0.
    option_and_then_some _ (token_on v.1) left r0 (λ sign on_sign r1.
    option_and_then_some _ (path_on sign.1) left r1 (λ p on_p is.
    under (Part 3 0) s (code (value v.0) ∷ token sign.0 ∷ path p.0 ∷ p.1) (map shade_of left)
    (value_popped s v on_v ∙ ap (λ (z : Stack). code (value v.0) ∷ z) (token_popped v.1 sign on_sign) ∙ ap (λ (z : Stack). code (value v.0)
    ∷ token sign.0 ∷ z) (path_popped sign.1 p on_p))
    (assigned_shade p.0 sign.0.place v.0 (map shade_of p.1) ∙ seen _ left is))))

-- ---- lists

new_list_keeps : Keeps new_list_deed (Group 0 0)
new_list_keeps s left e = seen _ left e

-- lists of statements, arms and branches, with one more
stmts-append : (xs ys : List StmtTree) → places_of_stmts (stmts_of (xs ++ ys)) ≡ merged (places_of_stmts (stmts_of xs)) (places_of_stmts (stmts_of ys))
stmts-append [] ys = refl
stmts-append (x ∷ xs) ys =
    ap (λ (z : List Place). merged (part_places (first_of_stmt x) (places_within x)) z) (stmts-append xs ys)
    ∙ sym (merged-assoc (part_places (first_of_stmt x) (places_within x)) (places_of_stmts (stmts_of xs)) (places_of_stmts (stmts_of ys)))

arms-append : (xs ys : List ArmTree) → places_of_arms (arms_of (xs ++ ys)) ≡ merged (places_of_arms (arms_of xs)) (places_of_arms (arms_of ys))
arms-append [] ys = refl
arms-append (x ∷ xs) ys =
    ap (λ (z : List Place). merged (places_of x.0) (merged (places_of_stmts x.1) z)) (arms-append xs ys)
    ∙ ap (λ (z : List Place). merged (places_of x.0) z)
    (sym (merged-assoc (places_of_stmts x.1) (places_of_arms (arms_of xs)) (places_of_arms (arms_of ys))))
    ∙ sym (merged-assoc (places_of x.0) (merged (places_of_stmts x.1) (places_of_arms (arms_of xs))) (places_of_arms (arms_of ys)))

branches-append : (xs ys : List BranchTree)
    → places_of_branches (branches_of (xs ++ ys)) ≡ merged (places_of_branches (branches_of xs)) (places_of_branches (branches_of ys))
branches-append [] ys = refl
branches-append (x ∷ xs) ys =
    ap (λ (z : List Place). merged (places_of_stmts x.1) z) (branches-append xs ys)
    ∙ sym (merged-assoc (places_of_stmts x.1) (places_of_branches (branches_of xs)) (places_of_branches (branches_of ys)))

add_keeps : Keeps add_deed (Group 2 0)
add_keeps s left e =
    option_and_then_some _ (stmt_on s) left e (λ x on_x r0.
    option_and_then_some _ (stmts_on x.1) left r0 (λ list on_list is.
    under (Group 2 0) s (code (statement x.0) ∷ code (statements list.0) ∷ list.1) (map shade_of left)
    (stmt_popped s x on_x ∙ ap (λ (z : Stack). code (statement x.0) ∷ z) (stmts_popped x.1 list on_list))
    (listed (map shade_of list.1) _ _ (sym (stmts-append list.0 (x.0 ∷ []))) ∙ seen _ left is)))

-- ---- IF

-- a condition, THEN and statements
arm_popped : (P : Type 0) (s : Stack) (x : ArmTree × Stack) → arm_on s ≡ Some x
    → ((body : List StmtTree) (word : Lexeme) (e : ExprTree) (below : Stack) → s ≡ code (statements body) ∷ token word ∷ expr e ∷ below
    → ◌≡◌ {A = ArmTree × Stack} ((e, stmts_of body), below) x → P) → P
arm_popped P s x h k =
    option_and_then_some _ (stmts_on s) x h (λ body on_body r0.
    option_and_then_some _ (token_on body.1) x r0 (λ word on_word r1.
    option_and_then_some _ (expr_on word.1) x r1 (λ e on_e is.
    k body.0 word.0 e.0 e.1
    (stmts_popped s body on_body ∙ ap (λ (z : Stack). code (statements body.0) ∷ z) (token_popped body.1 word on_word)
    ∙ ap (λ (z : Stack). code (statements body.0) ∷ token word.0 ∷ z) (expr_popped word.1 e on_e))
    (same_Some ((e.0, stmts_of body.0), e.1) x is))))

first_arm_keeps : Keeps first_arm_deed (Group 3 0)
first_arm_keeps s left h =
    option_and_then_some _ (arm_on s) left h (λ arm on is.
    arm_popped _ s arm on (λ body word e below eq same.
    under (Group 3 0) s (code (statements body) ∷ token word ∷ expr e ∷ below) (map shade_of left) eq
    (seen _ left (ap (λ (y : ArmTree × Stack). Some (code (conditions (y.0 ∷ [])) ∷ y.1)) same ∙ is))))

next_arm_keeps : Keeps next_arm_deed (Group 5 0)
next_arm_keeps s left h =
    option_and_then_some _ (arm_on s) left h (λ arm on r0.
    option_and_then_some _ (token_on arm.1) left r0 (λ elsif on_elsif r1.
    option_and_then_some _ (arms_on elsif.1) left r1 (λ arms on_arms is.
    arm_popped _ s arm on (λ body word e below eq same.
    under (Group 5 0) s (code (statements body) ∷ token word ∷ expr e ∷ token elsif.0 ∷ code (conditions arms.0) ∷ arms.1) (map shade_of left)
    (eq ∙ ap (λ (z : Stack). code (statements body) ∷ token word ∷ expr e ∷ z)
    (ap (λ (y : ArmTree × Stack). y.1) same ∙ token_popped arm.1 elsif on_elsif ∙ ap (λ (z : Stack). token elsif.0 ∷ z) (arms_popped elsif.1 arms on_arms)))
    (listed (map shade_of arms.1) _ _ (sym (arms-append arms.0 ((e, stmts_of body) ∷ [])))
    ∙ seen _ left (ap (λ (y : ArmTree × Stack). Some (code (conditions (arms.0 ++ y.0 ∷ [])) ∷ arms.1)) same ∙ is))))))

else_keeps : Keeps else_deed (Group 2 0)
else_keeps s left e =
    option_and_then_some _ (stmts_on s) left e (λ body on_body r0.
    option_and_then_some _ (token_on body.1) left r0 (λ word on_word is.
    under (Group 2 0) s (code (statements body.0) ∷ token word.0 ∷ word.1) (map shade_of left)
    (stmts_popped s body on_body ∙ ap (λ (z : Stack). code (statements body.0) ∷ z) (token_popped body.1 word on_word))
    (seen _ left is)))

no_else_keeps : Keeps no_else_deed (Group 0 0)
no_else_keeps s left e = seen _ left e

if_keeps : Keeps if_deed (Part 4 0)
if_keeps s left e =
    option_and_then_some _ (token_on s) left e (λ end on_end r0.
    option_and_then_some _ (else_on end.1) left r0 (λ other on_other r1.
    option_and_then_some _ (arms_on other.1) left r1 (λ arms on_arms r2.
    option_and_then_some _ (token_on arms.1) left r2 (λ word on_word is.
    under (Part 4 0) s (token end.0 ∷ code (otherwise other.0) ∷ code (conditions arms.0) ∷ token word.0 ∷ word.1) (map shade_of left)
    (token_popped s end on_end ∙ ap (λ (z : Stack). token end.0 ∷ z) (else_popped end.1 other on_other) ∙ ap (λ (z : Stack). token end.0 ∷
    code (otherwise other.0) ∷ z) (arms_popped other.1 arms on_arms) ∙ ap (λ (z : Stack). token end.0 ∷ code (otherwise other.0) ∷ code
    (conditions arms.0) ∷ z) (token_popped arms.1 word on_word))
    (seen _ left is)))))

-- ---- CASE

literal_choice_keeps : Keeps literal_choice_deed (Group 1 0)
literal_choice_keeps s left e =
    option_and_then_some _ (literal_on s) left e (λ l on_l is.
    under (Group 1 0) s (literal l.0 ∷ l.1) (map shade_of left)
    (literal_popped s l on_l)
    (seen _ left is))

word_choice_keeps : Keeps word_choice_deed (Group 1 1)
word_choice_keeps s left e =
    option_and_then_some _ (path_on s) left e (λ p on_p is.
    under (Group 1 1) s (path p.0 ∷ p.1) (map shade_of left)
    (path_popped s p on_p)
    (seen _ left is))

-- the upper end of a range
upper_popped : (P : Type 0) (s : Stack) (x : Choice × Stack) → upper_on s ≡ Some x
    → ((upper : Choice) (dots : Lexeme) (below : Stack) → s ≡ code (choice upper) ∷ token dots ∷ below
    → ◌≡◌ {A = Choice × Stack} (upper, below) x → P) → P
upper_popped P s x h k =
    option_and_then_some _ (choice_on s) x h (λ upper on_upper r0.
    option_and_then_some _ (token_on upper.1) x r0 (λ dots on_dots is.
    k upper.0 dots.0 dots.1
    (choice_popped s upper on_upper ∙ ap (λ (z : Stack). code (choice upper.0) ∷ z) (token_popped upper.1 dots on_dots))
    (same_Some (upper.0, dots.1) x is)))

first_range_keeps : Keeps first_range_deed (Group 3 0)
first_range_keeps s left h =
    option_and_then_some _ (upper_on s) left h (λ u on r0.
    option_and_then_some _ (choice_on u.1) left r0 (λ lower on_lower is.
    upper_popped _ s u on (λ upper dots below eq same.
    under (Group 3 0) s (code (choice upper) ∷ token dots ∷ code (choice lower.0) ∷ lower.1) (map shade_of left)
    (eq ∙ ap (λ (z : Stack). code (choice upper) ∷ token dots ∷ z) (ap (λ (y : Choice × Stack). y.1) same ∙ choice_popped u.1 lower on_lower))
    (seen _ left is))))

first_choice_keeps : Keeps first_choice_deed (Group 1 0)
first_choice_keeps s left e =
    option_and_then_some _ (choice_on s) left e (λ x on_x is.
    under (Group 1 0) s (code (choice x.0) ∷ x.1) (map shade_of left)
    (choice_popped s x on_x)
    (seen _ left is))

added_choice_keeps : (upper : Option Choice) → Keeps (added_choice upper) (Group 3 0)
added_choice_keeps upper s left e =
    option_and_then_some _ (choice_on s) left e (λ lower on_lower r0.
    option_and_then_some _ (token_on lower.1) left r0 (λ comma on_comma r1.
    option_and_then_some _ (choices_on comma.1) left r1 (λ label on_label is.
    under (Group 3 0) s (code (choice lower.0) ∷ token comma.0 ∷ code (choices label.0) ∷ label.1) (map shade_of left)
    (choice_popped s lower on_lower ∙ ap (λ (z : Stack). code (choice lower.0) ∷ z) (token_popped lower.1 comma on_comma) ∙ ap (λ (z :
    Stack). code (choice lower.0) ∷ token comma.0 ∷ z) (choices_popped comma.1 label on_label))
    (seen _ left is))))

next_range_keeps : Keeps next_range_deed (Group 5 0)
next_range_keeps s left h =
    option_and_then_some _ (upper_on s) left h (λ u on r.
    option_and_then_some _ (choice_on u.1) left r (λ lower on_lower r0.
    option_and_then_some _ (token_on lower.1) left r0 (λ comma on_comma r1.
    option_and_then_some _ (choices_on comma.1) left r1 (λ label on_label is.
    upper_popped _ s u on (λ upper dots below eq same.
    under (Group 5 0) s (code (choice upper) ∷ token dots ∷ code (choice lower.0) ∷ token comma.0 ∷ code (choices label.0) ∷ label.1) (map shade_of left)
    (eq ∙ ap (λ (z : Stack). code (choice upper) ∷ token dots ∷ z)
    (ap (λ (y : Choice × Stack). y.1) same ∙ choice_popped u.1 lower on_lower
    ∙ ap (λ (z : Stack). code (choice lower.0) ∷ z) (token_popped lower.1 comma on_comma
    ∙ ap (λ (z : Stack). token comma.0 ∷ z) (choices_popped comma.1 label on_label))))
    (seen _ left is))))))

new_branches_keeps : Keeps new_branches_deed (Group 0 0)
new_branches_keeps s left e = seen _ left e

label_keeps : Keeps label_deed (Group 0 0)
label_keeps s left e =
    option_and_then_some _ (choices_on s) left e (λ label on_label r0.
    option_and_then_some _ (branches_on label.1) left r0 (λ all_ on_all_ is.
    under (Group 0 0) s (code (choices label.0) ∷ code (cases all_.0) ∷ all_.1) (map shade_of left)
    (choices_popped s label on_label ∙ ap (λ (z : Stack). code (choices label.0) ∷ z) (branches_popped label.1 all_ on_all_))
    (seen _ left is)))

-- the branch that is read, with those before it
closed_popped : (P : Type 0) (s : Stack) (x : List BranchTree × Stack) → closed_on s ≡ Some x
    → ((body : List StmtTree) (label : Choices) (before : List BranchTree) (below : Stack)
    → s ≡ code (statements body) ∷ code (choices label) ∷ code (cases before) ∷ below
    → ◌≡◌ {A = List BranchTree × Stack} (before ++ (label, stmts_of body) ∷ [], below) x → P) → P
closed_popped P s x h k =
    option_and_then_some _ (stmts_on s) x h (λ body on_body r0.
    option_and_then_some _ (choices_on body.1) x r0 (λ label on_label r1.
    option_and_then_some _ (branches_on label.1) x r1 (λ before on_before is.
    k body.0 label.0 before.0 before.1
    (stmts_popped s body on_body ∙ ap (λ (z : Stack). code (statements body.0) ∷ z) (choices_popped body.1 label on_label)
    ∙ ap (λ (z : Stack). code (statements body.0) ∷ code (choices label.0) ∷ z) (branches_popped label.1 before on_before))
    (same_Some (before.0 ++ (label.0, stmts_of body.0) ∷ [], before.1) x is))))

next_label_keeps : Keeps next_label_deed (Branch 3)
next_label_keeps s left h =
    option_and_then_some _ (choices_on s) left h (λ label on_label r.
    option_and_then_some _ (closed_on label.1) left r (λ closed on_closed is.
    closed_popped _ label.1 closed on_closed (λ body old before below eq same.
    under (Branch 3) s (code (choices label.0) ∷ code (statements body) ∷ code (choices old) ∷ code (cases before) ∷ below) (map shade_of left)
    (choices_popped s label on_label ∙ ap (λ (z : Stack). code (choices label.0) ∷ z) eq)
    (ap (λ (z : List Place). Some (anywhere [] ∷ anywhere [] ∷ anywhere z ∷ map shade_of below))
    (sym (branches-append before ((old, stmts_of body) ∷ [])))
    ∙ seen _ left (ap (λ (y : List BranchTree × Stack). Some (opened label.0 y.0 y.1)) same ∙ is)))))

branches_keeps : Keeps branches_deed (Group 3 0)
branches_keeps s left h =
    option_and_then_some _ (closed_on s) left h (λ closed on_closed is.
    closed_popped _ s closed on_closed (λ body label before below eq same.
    under (Group 3 0) s (code (statements body) ∷ code (choices label) ∷ code (cases before) ∷ below) (map shade_of left) eq
    (listed (map shade_of below) _ _ (sym (branches-append before ((label, stmts_of body) ∷ [])))
    ∙ seen _ left (ap (λ (y : List BranchTree × Stack). Some (code (cases y.0) ∷ y.1)) same ∙ is))))

case_keeps : Keeps case_deed (Part 6 0)
case_keeps s left e =
    option_and_then_some _ (token_on s) left e (λ end on_end r0.
    option_and_then_some _ (else_on end.1) left r0 (λ other on_other r1.
    option_and_then_some _ (branches_on other.1) left r1 (λ all_ on_all_ r2.
    option_and_then_some _ (token_on all_.1) left r2 (λ of_word on_of_word r3.
    option_and_then_some _ (expr_on of_word.1) left r3 (λ x on_x r4.
    option_and_then_some _ (token_on x.1) left r4 (λ word on_word is.
    under (Part 6 0) s (token end.0 ∷ code (otherwise other.0) ∷ code (cases all_.0) ∷ token of_word.0 ∷ expr x.0 ∷ token word.0 ∷ word.1)
    (map shade_of left)
    (token_popped s end on_end ∙ ap (λ (z : Stack). token end.0 ∷ z) (else_popped end.1 other on_other) ∙ ap (λ (z : Stack). token end.0 ∷
    code (otherwise other.0) ∷ z) (branches_popped other.1 all_ on_all_) ∙ ap (λ (z : Stack). token end.0 ∷ code (otherwise other.0) ∷ code
    (cases all_.0) ∷ z) (token_popped all_.1 of_word on_of_word) ∙ ap (λ (z : Stack). token end.0 ∷ code (otherwise other.0) ∷ code (cases
    all_.0) ∷ token of_word.0 ∷ z) (expr_popped of_word.1 x on_x) ∙ ap (λ (z : Stack). token end.0 ∷ code (otherwise other.0) ∷ code (cases
    all_.0) ∷ token of_word.0 ∷ expr x.0 ∷ z) (token_popped x.1 word on_word))
    (seen _ left is)))))))

-- ---- loops

by_keeps : Keeps by_deed (Group 2 0)
by_keeps s left e =
    option_and_then_some _ (literal_on s) left e (λ l on_l r0.
    option_and_then_some _ (token_on l.1) left r0 (λ word on_word is.
    under (Group 2 0) s (literal l.0 ∷ token word.0 ∷ word.1) (map shade_of left)
    (literal_popped s l on_l ∙ ap (λ (z : Stack). literal l.0 ∷ z) (token_popped l.1 word on_word))
    (seen _ left is)))

no_by_keeps : Keeps no_by_deed (Group 0 0)
no_by_keeps s left e = seen _ left e

-- statements between a word and the end
body_popped : (P : Type 0) (s : Stack) (x : List StmtTree × Stack) → body_on s ≡ Some x
    → ((end word : Lexeme) (below : Stack) → s ≡ token end ∷ code (statements x.0) ∷ token word ∷ below → below ≡ x.1 → P) → P
body_popped P s x h k =
    option_and_then_some _ (token_on s) x h (λ end on_end r0.
    option_and_then_some _ (stmts_on end.1) x r0 (λ body on_body r1.
    option_and_then_some _ (token_on body.1) x r1 (λ word on_word is.
    let same : ◌≡◌ {A = List StmtTree × Stack} (body.0, word.1) x = same_Some (body.0, word.1) x is in
    k end.0 word.0 word.1
    (token_popped s end on_end ∙ ap (λ (z : Stack). token end.0 ∷ z) (stmts_popped end.1 body on_body)
    ∙ ap (λ (z : Stack). token end.0 ∷ code (statements body.0) ∷ z) (token_popped body.1 word on_word)
    ∙ ap (λ (y : List StmtTree × Stack). token end.0 ∷ code (statements y.0) ∷ token word.0 ∷ word.1) same)
    (ap (λ (y : List StmtTree × Stack). y.1) same))))

for_keeps : Keeps for_deed (Part 10 256)
for_keeps s left h =
    option_and_then_some _ (body_on s) left h (λ body on_body r0.
    option_and_then_some _ (by_on body.1) left r0 (λ by on_by r1.
    option_and_then_some _ (expr_on by.1) left r1 (λ last on_last r2.
    option_and_then_some _ (token_on last.1) left r2 (λ to on_to r3.
    option_and_then_some _ (expr_on to.1) left r3 (λ first on_first r4.
    option_and_then_some _ (token_on first.1) left r4 (λ sign on_sign r5.
    option_and_then_some _ (path_on sign.1) left r5 (λ p on_p r6.
    option_and_then_some _ (token_on p.1) left r6 (λ word on_word is.
    body_popped _ s body on_body (λ end do_ below eq same.
    under (Part 10 256) s
    (token end ∷ code (statements body.0) ∷ token do_ ∷ code (stepping by.0) ∷ expr last.0 ∷ token to.0 ∷ expr first.0 ∷ token sign.0 ∷ path p.0
    ∷ token word.0 ∷ word.1) (map shade_of left)
    (eq ∙ ap (λ (z : Stack). token end ∷ code (statements body.0) ∷ token do_ ∷ z)
    (same ∙ by_popped body.1 by on_by ∙ ap (λ (z : Stack). code (stepping by.0) ∷ z) (expr_popped by.1 last on_last
    ∙ ap (λ (z : Stack). expr last.0 ∷ z) (token_popped last.1 to on_to ∙ ap (λ (z : Stack). token to.0 ∷ z) (expr_popped to.1 first on_first
    ∙ ap (λ (z : Stack). expr first.0 ∷ z) (token_popped first.1 sign on_sign ∙ ap (λ (z : Stack). token sign.0 ∷ z) (path_popped sign.1 p on_p
    ∙ ap (λ (z : Stack). path p.0 ∷ z) (token_popped p.1 word on_word))))))))
    (seen _ left is))))))))))

while_keeps : Keeps while_deed (Part 5 0)
while_keeps s left h =
    option_and_then_some _ (body_on s) left h (λ body on_body r0.
    option_and_then_some _ (expr_on body.1) left r0 (λ x on_x r1.
    option_and_then_some _ (token_on x.1) left r1 (λ word on_word is.
    body_popped _ s body on_body (λ end do_ below eq same.
    under (Part 5 0) s (token end ∷ code (statements body.0) ∷ token do_ ∷ expr x.0 ∷ token word.0 ∷ word.1) (map shade_of left)
    (eq ∙ ap (λ (z : Stack). token end ∷ code (statements body.0) ∷ token do_ ∷ z)
    (same ∙ expr_popped body.1 x on_x ∙ ap (λ (z : Stack). expr x.0 ∷ z) (token_popped x.1 word on_word)))
    (seen _ left is)))))

repeat_keeps : Keeps repeat_deed (Part 5 0)
repeat_keeps s left e =
    option_and_then_some _ (token_on s) left e (λ end on_end r0.
    option_and_then_some _ (expr_on end.1) left r0 (λ x on_x r1.
    option_and_then_some _ (token_on x.1) left r1 (λ until on_until r2.
    option_and_then_some _ (stmts_on until.1) left r2 (λ body on_body r3.
    option_and_then_some _ (token_on body.1) left r3 (λ word on_word is.
    under (Part 5 0) s (token end.0 ∷ expr x.0 ∷ token until.0 ∷ code (statements body.0) ∷ token word.0 ∷ word.1) (map shade_of left)
    (token_popped s end on_end ∙ ap (λ (z : Stack). token end.0 ∷ z) (expr_popped end.1 x on_x) ∙ ap (λ (z : Stack). token end.0 ∷ expr x.0
    ∷ z) (token_popped x.1 until on_until) ∙ ap (λ (z : Stack). token end.0 ∷ expr x.0 ∷ token until.0 ∷ z) (stmts_popped until.1 body
    on_body) ∙ ap (λ (z : Stack). token end.0 ∷ expr x.0 ∷ token until.0 ∷ code (statements body.0) ∷ z) (token_popped body.1 word
    on_word))
    (seen _ left is))))))

-- ---- by the action

pub stmt_keeps : (action : StmtAction) → Keeps (stmt_deed action) (stmt_shading action)
stmt_keeps a.Drop = drop_keeps
stmt_keeps a.Empty = empty_keeps
stmt_keeps a.Single = single_keeps
stmt_keeps a.Call = call_statement_keeps
stmt_keeps a.Assign = assign_keeps
stmt_keeps a.NewList = new_list_keeps
stmt_keeps a.Add = add_keeps
stmt_keeps a.FirstArm = first_arm_keeps
stmt_keeps a.NextArm = next_arm_keeps
stmt_keeps a.Else = else_keeps
stmt_keeps a.NoElse = no_else_keeps
stmt_keeps a.If = if_keeps
stmt_keeps a.LiteralChoice = literal_choice_keeps
stmt_keeps a.WordChoice = word_choice_keeps
stmt_keeps a.FirstRange = first_range_keeps
stmt_keeps a.FirstChoice = first_choice_keeps
stmt_keeps a.NextRange = next_range_keeps
stmt_keeps a.NextChoice = added_choice_keeps None
stmt_keeps a.NewBranches = new_branches_keeps
stmt_keeps a.Label = label_keeps
stmt_keeps a.NextLabel = next_label_keeps
stmt_keeps a.Branches = branches_keeps
stmt_keeps a.Case = case_keeps
stmt_keeps a.By = by_keeps
stmt_keeps a.NoBy = no_by_keeps
stmt_keeps a.For = for_keeps
stmt_keeps a.While = while_keeps
stmt_keeps a.Repeat = repeat_keeps
