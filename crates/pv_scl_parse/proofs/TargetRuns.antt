-- Assignments, made of what spells them: their targets, and the expressions on their right sides.
use Rattle.std.proofs.Common.{◌≡◌, ℕ, true, false, List, [], ◌∷◌, ◌++◌, All, refl, ap, ◌∙◌, sym, subst}
use Rattle.std.proofs.lemmas.List.{append-nil, append_assoc}
use Rattle.pv_place.specs.declared.place.Place.{Place}
use Rattle.pv_types.specs.declared.name.Name.{Name as NameOf}
use Rattle.pv_ll.specs.declared.table.Symbol.TheVariants.{Name}
use Rattle.pv_tree.specs.declared.expr.Area.{Area as AreaOf}
use Rattle.pv_tree.specs.declared.expr.Root.{Root}
use Rattle.pv_tree.specs.declared.expr.Root.TheVariants.{Local, Named, Area}
use Rattle.pv_tree.specs.Tree.{ExprTree, read, OperandTree, operand, StepTree, StepTrees, no_steps, steps, field, index, CallPlain, StmtTree, assign, assign_call, call_}
use Rattle.pv_tree.specs.View.{steps_of, list_of_steps}
use Rattle.pv_tree.specs.Lexemes.{Lexeme, ◌⨾◌, sign_at}
use Rattle.pv_tree.specs.Words.{SpellsWord, IsFree}
use Rattle.pv_tree.specs.Expressions.{SpellsExpr, IsFormedExpr, SpellsSteps, AreFormedSteps, SpellsRoot, SpellsOperand, IsFormedOperand}
use Rattle.pv_tree.specs.Calls.{SpellsCall, IsFormedArg, IsFormedCall}
use Rattle.pv_tree.specs.Statements.{SpellsStmt}
use Rattle.pv_parse.specs.KindNumbers as n
use Rattle.pv_parse.specs.FrontNames as f
use Rattle.pv_parse.specs.CodeItems.{ValueTree, of_expr, of_call, value, statement}
use Rattle.pv_parse.specs.Items.{Stack, PathTree, path, token, expr, code}
use Rattle.pv_parse.specs.ExprDeeds.{rooted, stepped, operand_of}
use Rattle.pv_parse.specs.StmtDeeds.{assigned}
use Rattle.pv_parse.proofs.ForCallers.{empty, on, to, then, by, pass, name_made, firm_made, area_made, area_rooted, steps_back, joined}
use Rattle.pv_parse_stmt.proofs.ForCallers.{Fronts, a_read, a_firm_one, Split, split}
use Rattle.pv_scl_parse.specs.OwnNames as o
use Rattle.pv_scl_parse.specs.OwnBodies as b
use Rattle.pv_scl_parse.proofs.Serving as kind
use Rattle.pv_scl_parse.proofs.Got.{others, other_acts, Got}
use Rattle.pv_scl_parse.proofs.NameRuns.{Going, called_made, dot_word, hash_word, hash_firm, after_word_call, value_dot_word, value_hash_word}
use Rattle.pv_scl_parse.proofs.CallRuns.{steps_made, index_made, chain_made, value_call_made, calling, Naming, by_hash_word, by_hash_firm, by_word, by_firm, naming}

-- a path with these steps more
abbrev pub along : PathTree → StepTrees → PathTree
along p l = record p { steps = p.steps ++ list_of_steps l }

-- steps of which the first is an index, or none
step_then : (p : PathTree) (x : StepTree) (l : StepTrees) (s : Stack) → ◌≡◌ {A = Stack} (path (along (stepped p x) l) ∷ s) (path (along p (steps x l)) ∷ s)
step_then p x l s = ap (λ (z : List StepTree). path (record p { steps = z }) ∷ s) (append_assoc p.steps (x ∷ []) (list_of_steps l))

no_index : (p : PathTree) (s : Stack) → Got (Name o.maybe_index ∷ []) [] (path p ∷ s) (path (along p no_steps) ∷ s)
no_index p s =
    to (ap (λ (z : List StepTree). path (record p { steps = z }) ∷ s) (sym (append-nil p.steps))) (by b.maybe_index_2 b.maybe_index_2_body refl empty refl)

index_first : (e : ExprTree) (place : Place) (l : StepTrees) (ts : List Lexeme) → (d : SpellsSteps (steps (index e place) l) ts)
    → AreFormedSteps (steps (index e place) l) → (p : PathTree) (s : Stack)
    → Got (Name o.maybe_index ∷ []) ts (path p ∷ s) (path (along p (steps (index e place) l)) ∷ s)
index_first e place l ts d c p s =
    to (step_then p (index e place) l s) (on (sym d.parts) (by b.maybe_index_1 b.maybe_index_1_body refl
    (then (index_made e place d.front d.in_front c.0 p s) (steps_made l d.back d.behind c.1 (stepped p (index e place)) s)) refl))

-- ---- behind the name that begins a target

-- `:=` and the right side, of this target
abbrev pub Assigning : PathTree → StmtTree → List Lexeme → Type 0
Assigning p x ts = Going o.assignment p (code (statement x)) ts

pub target_behind : (l : StepTrees) (p : PathTree) (x : StmtTree) (us vs : List Lexeme) → SpellsSteps l us → AreFormedSteps l → Assigning (along p l) x vs
    → Going o.after_word p (code (statement x)) (us ++ vs)
target_behind no_steps p x us vs d c fin s =
    on (ap (λ (z : List Lexeme). z ++ vs) (sym d)) (by b.after_word_3 b.after_word_3_body refl (then (no_index p s) (fin s)) refl)
target_behind (steps (index e place) l) p x us vs d c fin s =
    by b.after_word_3 b.after_word_3_body refl (then (index_first e place l us d c p s) (fin s)) refl
target_behind (steps (field y place) l) p x us vs d c fin s =
    let dot = d.in_front.in_front in
    let w = d.in_front.behind in
    on (sym (ap (λ (z : List Lexeme). z ++ vs) (d.parts ∙ ap (λ (z : List Lexeme). z ++ d.back) (d.in_front.parts
    ∙ ap (λ (z : List Lexeme). z ++ d.in_front.back) dot.alone)) ∙ ap (λ (z : List Lexeme). dot.token ∷ z) (append_assoc d.in_front.back d.back vs)))
    (by b.after_word_2 b.after_word_2_body refl (dot_word p dot.token y place (code (statement x)) d.in_front.back (d.back ++ vs) dot.is w
    (λ z. by b.after_second_2 b.after_second_2_body refl
    (then (to (step_then p (field y place) l z) (steps_made l d.back d.behind c.1 (stepped p (field y place)) z)) (fin z)) refl) s) refl)

-- ---- behind the name that begins an operand on the right side

-- the tails behind what is read along this path
abbrev pub Reading : PathTree → ExprTree → List Lexeme → Type 0
Reading p e ts = (s : Stack) → Got (Name o.chain ∷ []) ts (expr (read (operand_of p)) ∷ s) (expr e ∷ s)

read_behind : (l : StepTrees) (p : PathTree) (e : ExprTree) (us vs : List Lexeme) → SpellsSteps l us → AreFormedSteps l → Reading (along p l) e vs
    → Going o.value_after_word p (code (value (of_expr e))) (us ++ vs)
read_behind no_steps p e us vs d c fin s =
    on (ap (λ (z : List Lexeme). z ++ vs) (sym d)) (by b.value_after_word_3 b.value_after_word_3_body refl
    (then (by b.first_read_1 b.first_read_1_body refl (no_index p s) refl) (fin s)) refl)
read_behind (steps (index x place) l) p e us vs d c fin s =
    by b.value_after_word_3 b.value_after_word_3_body refl
    (then (by b.first_read_1 b.first_read_1_body refl (index_first x place l us d c p s) refl) (fin s)) refl
read_behind (steps (field y place) l) p e us vs d c fin s =
    let dot = d.in_front.in_front in
    let w = d.in_front.behind in
    on (sym (ap (λ (z : List Lexeme). z ++ vs) (d.parts ∙ ap (λ (z : List Lexeme). z ++ d.back) (d.in_front.parts
    ∙ ap (λ (z : List Lexeme). z ++ d.in_front.back) dot.alone)) ∙ ap (λ (z : List Lexeme). dot.token ∷ z) (append_assoc d.in_front.back d.back vs)))
    (by b.value_after_word_2 b.value_after_word_2_body refl (value_dot_word p dot.token y place (code (value (of_expr e))) d.in_front.back (d.back ++ vs) dot.is w
    (λ z. by b.value_after_second_2 b.value_after_second_2_body refl
    (then (by b.second_read_1 b.second_read_1_body refl
    (to (step_then p (field y place) l z) (steps_made l d.back d.behind c.1 (stepped p (field y place)) z)) refl) (fin z)) refl) s) refl)

-- the tails behind an operand as the tree has it, behind its path
reading : (r : Root) (at p : Place) (l : StepTrees) (e : ExprTree) (ts : List Lexeme) → at ≡ p
    → ((s : Stack) → Got (Name o.chain ∷ []) ts (expr (read (operand r l p)) ∷ s) (expr e ∷ s)) → Reading (along (rooted r at) l) e ts
reading r at p l e ts q chain s =
    subst (λ (z : Place). Got (Name o.chain ∷ []) ts (expr (read (operand r (steps_of (list_of_steps l)) z)) ∷ s) (expr e ∷ s)) (sym q)
    (subst (λ (z : StepTrees). Got (Name o.chain ∷ []) ts (expr (read (operand r z p)) ∷ s) (expr e ∷ s)) (sym (steps_back l)) (chain s))

value_expr_by : (e first : ExprTree) (us vs ts : List Lexeme) → ts ≡ us ++ vs → Fronts others other_acts first us
    → ((s : Stack) → Got (Name o.chain ∷ []) vs (expr first ∷ s) (expr e ∷ s)) → (s : Stack) → Got (Name o.value ∷ []) ts s (code (value (of_expr e)) ∷ s)
value_expr_by e first us vs ts q (a_firm_one g) chain s = on (sym q) (by b.value_4 b.value_4_body refl (then (g s) (chain s)) refl)
value_expr_by e first us vs ts q (a_read (operand (Area its bits byte bit) l p) d c) chain s =
    on (sym q) (by b.value_4 b.value_4_body refl
    (then (area_made others other_acts its bits byte bit l p us d (steps_made l d.back d.behind c.1) s) (chain s)) refl)
value_expr_by e first us vs ts q (a_read (operand (Named x) l p) d c) chain s =
    on (sym (q ∙ ap (λ (z : List Lexeme). z ++ vs) d.parts ∙ append_assoc d.front d.back vs)) (by b.value_3 b.value_3_body refl
    (then (firm_made others other_acts x p d.front d.in_front s) (read_behind l (rooted (Named x) p) e d.back vs d.behind c.1
    (reading (Named x) p p l e vs refl chain) s)) refl)
value_expr_by e first us vs ts q (a_read (operand (Local x false at) l p) d c) chain s =
    let w = d.in_front in
    let word : SpellsWord x at d.front = record { token = w.token; alone = w.alone; is = w.is.is } in
    on (sym (q ∙ ap (λ (z : List Lexeme). z ++ vs) d.parts ∙ append_assoc d.front d.back vs)) (by b.value_1 b.value_1_body refl
    (then (name_made others other_acts x at d.front word c.0 s) (read_behind l (rooted (Local x false at) at) e d.back vs d.behind c.1
    (reading (Local x false at) at p l e vs (sym w.is.is.at ∙ w.is.at) chain) s)) refl)
value_expr_by e first us vs ts q (a_read (operand (Local x true at) l p) d c) chain s =
    let root = d.in_front in
    let h = root.in_front in
    on (sym (q ∙ ap (λ (z : List Lexeme). z ++ vs) (d.parts ∙ ap (λ (z : List Lexeme). z ++ d.back) (root.parts
    ∙ ap (λ (z : List Lexeme). z ++ root.back) h.alone)) ∙ ap (λ (z : List Lexeme). h.token ∷ z) (append_assoc root.back d.back vs)))
    (by b.value_2 b.value_2_body refl (value_hash_word h.token x at (code (value (of_expr e))) root.back (d.back ++ vs) h.is.is root.behind
    (read_behind l (rooted (Local x true at) h.token.place) e d.back vs d.behind c.1 (reading (Local x true at) h.token.place p l e vs h.is.at chain)) s) refl)

pub value_expr_made : (e : ExprTree) (ts : List Lexeme) → SpellsExpr e ts → IsFormedExpr e → (s : Stack)
    → Got (Name o.value ∷ []) ts s (code (value (of_expr e)) ∷ s)
value_expr_made e ts d c s =
    let x : Split others other_acts e ts = split others other_acts e ts d c in
    value_expr_by e x.first x.us x.vs ts x.parts x.begins (λ z. chain_made e ts x z) s

-- ---- assignments

-- a statement that begins with a word, or not
pub data Began (x : StmtTree) : List Lexeme → Type 0 where
  began_firm : {ts : List Lexeme} → ((s : Stack) → Got (Name o.other_statement ∷ []) ts s (code (statement x) ∷ s)) → Began x ts
  began_word : {ts : List Lexeme} (y : NameOf) (at : Place) (us vs : List Lexeme) → SpellsWord y at us → IsFree y → ts ≡ us ++ vs
      → Going o.after_word (rooted (Local y false at) at) (code (statement x)) vs → Began x ts

-- the target as the tree has it
target_back : (r : Root) (l : StepTrees) (at p : Place) → at ≡ p → operand_of (along (rooted r at) l) ≡ operand r l p
target_back r l at p q = ap (λ (z : StepTrees). operand r z at) (steps_back l) ∙ ap (λ (z : Place). operand r l z) q

-- `:=` and a right side that is made
right_made : (p : PathTree) (target : OperandTree) (v : ValueTree) (place : Place) (us vs ts : List Lexeme) → operand_of p ≡ target → sign_at ":=" place us
    → ((s : Stack) → Got (Name o.value ∷ []) vs s (code (value v) ∷ s)) → ts ≡ us ++ vs → Assigning p (assigned target place v) ts
right_made p target v place us vs ts e d made q s =
    to (ap (λ (z : OperandTree). code (statement (assigned z d.token.place v)) ∷ s) e ∙ ap (λ (z : Place). code (statement (assigned target z v)) ∷ s) d.is.at)
    (on (sym (q ∙ ap (λ (z : List Lexeme). z ++ vs) d.alone)) (by b.assignment_1 b.assignment_1_body refl
    (then (pass n.assign d.token (kind.assign d.token d.is.is)) (made (token d.token ∷ path p ∷ s))) refl))

-- the right side is made of these tokens
abbrev Making : ValueTree → List Lexeme → Type 0
Making v ts = (s : Stack) → Got (Name o.value ∷ []) ts s (code (value v) ∷ s)

-- an address alone
area_path : (its : AreaOf) (bits byte bit : ℕ) (p : Place) (ts : List Lexeme) → SpellsRoot (Area its bits byte bit) p ts → (s : Stack)
    → Got (Name f.area ∷ []) ts s (path (rooted (Area its bits byte bit) p) ∷ s)
area_path its bits byte bit p ts a s = area_rooted others other_acts its bits byte bit p ts a s

assigned_began : (o_ : OperandTree) (v : ValueTree) (place : Place) (us vs ts : List Lexeme) → SpellsOperand o_ us → IsFormedOperand o_
    → (sign_at ":=" place ⨾ Making v) vs → ts ≡ us ++ vs → Began (assigned o_ place v) ts
assigned_began (operand (Area its bits byte bit) l p) v place us vs ts d c g q =
    began_firm (λ s. on (sym (q ∙ ap (λ (z : List Lexeme). z ++ vs) d.parts ∙ append_assoc d.front d.back vs))
    (by b.other_statement_3 b.other_statement_3_body refl
    (then (area_path its bits byte bit p d.front d.in_front s) (then (steps_made l d.back d.behind c.1 (rooted (Area its bits byte bit) p) s)
    (right_made (along (rooted (Area its bits byte bit) p) l) (operand (Area its bits byte bit) l p) v place g.front g.back vs
    (target_back (Area its bits byte bit) l p p refl) g.in_front g.behind g.parts s))) refl))
assigned_began (operand (Named x) l p) v place us vs ts d c g q =
    began_firm (λ s. on (sym (q ∙ ap (λ (z : List Lexeme). z ++ vs) d.parts ∙ append_assoc d.front d.back vs))
    (by b.other_statement_2 b.other_statement_2_body refl (then (firm_made others other_acts x p d.front d.in_front s)
    (target_behind l (rooted (Named x) p) (assigned (operand (Named x) l p) place v) d.back vs d.behind c.1
    (right_made (along (rooted (Named x) p) l) (operand (Named x) l p) v place g.front g.back vs
    (target_back (Named x) l p p refl) g.in_front g.behind g.parts) s)) refl))
assigned_began (operand (Local x false at) l p) v place us vs ts d c g q =
    let w = d.in_front in
    let word : SpellsWord x at d.front = record { token = w.token; alone = w.alone; is = w.is.is } in
    began_word x at d.front (d.back ++ vs) word c.0 (q ∙ ap (λ (z : List Lexeme). z ++ vs) d.parts ∙ append_assoc d.front d.back vs)
    (target_behind l (rooted (Local x false at) at) (assigned (operand (Local x false at) l p) place v) d.back vs d.behind c.1
    (right_made (along (rooted (Local x false at) at) l) (operand (Local x false at) l p) v place g.front g.back vs
    (target_back (Local x false at) l at p (sym w.is.is.at ∙ w.is.at)) g.in_front g.behind g.parts))
assigned_began (operand (Local x true at) l p) v place us vs ts d c g q =
    let root = d.in_front in
    let h = root.in_front in
    began_firm (λ s. on (sym (q ∙ ap (λ (z : List Lexeme). z ++ vs) (d.parts ∙ ap (λ (z : List Lexeme). z ++ d.back) (root.parts
    ∙ ap (λ (z : List Lexeme). z ++ root.back) h.alone)) ∙ ap (λ (z : List Lexeme). h.token ∷ z) (append_assoc root.back d.back vs)))
    (by b.other_statement_1 b.other_statement_1_body refl
    (hash_word h.token x at (code (statement (assigned (operand (Local x true at) l p) place v))) root.back (d.back ++ vs) h.is.is root.behind
    (target_behind l (rooted (Local x true at) h.token.place) (assigned (operand (Local x true at) l p) place v) d.back vs d.behind c.1
    (right_made (along (rooted (Local x true at) h.token.place) l) (operand (Local x true at) l p) v place g.front g.back vs
    (target_back (Local x true at) l h.token.place p h.is.at) g.in_front g.behind g.parts)) s) refl))

pub assign_began : (target : OperandTree) (place : Place) (e : ExprTree) (ts : List Lexeme) → SpellsStmt (assign target place e) ts → IsFormedOperand target
    → IsFormedExpr e → Began (assign target place e) ts
assign_began target place e ts d c g =
    let v = d.behind in
    assigned_began target (of_expr e) place d.front d.back ts d.in_front c
    (joined v.front v.back d.back v.parts v.in_front (λ s. value_expr_made e v.back v.behind g s)) d.parts

pub assign_call_began : (target : OperandTree) (place : Place) (e : CallPlain) (ts : List Lexeme) → SpellsStmt (assign_call target place e) ts
    → IsFormedOperand target → IsFormedCall e → Began (assign_call target place e) ts
assign_call_began target place e ts d c g =
    let v = d.behind in
    assigned_began target (of_call e) place d.front d.back ts d.in_front c
    (joined v.front v.back d.back v.parts v.in_front (λ s. value_call_made e v.back v.behind g s)) d.parts

-- ---- calls

call_by : (c : CallPlain) (ts : List Lexeme) → All IsFormedArg c.args → Naming c ts → Began (call_ c) ts
call_by c ts k (by_hash_word h us vs i w e q d) =
    began_firm (λ s. on (sym (q ∙ ap (λ (z : List Lexeme). h ∷ (us ++ z)) d.parts)) (by b.other_statement_1 b.other_statement_1_body refl
    (hash_word h c.name c.name_place (code (statement (call_ c))) us (d.front ++ d.back) i w
    (after_word_call (rooted (Local c.name true c.name_place) h.place) c.base c d.front d.back d.in_front
    (calling c (rooted (Local c.name true c.name_place) h.place) d.back e d.behind k)) s) refl))
call_by c ts k (by_hash_firm h us vs i w e q d) =
    began_firm (λ s. on (sym (q ∙ ap (λ (z : List Lexeme). h ∷ (us ++ z)) d.parts)) (by b.other_statement_1 b.other_statement_1_body refl
    (hash_firm h c.name c.name_place c us (d.front ++ d.back) i w
    (called_made (rooted (Local c.name true c.name_place) h.place) c.base c d.front d.back d.in_front
    (calling c (rooted (Local c.name true c.name_place) h.place) d.back e d.behind k)) s) refl))
call_by c ts k (by_word us vs w free e q d) =
    began_word c.name c.name_place us (d.front ++ d.back) w free (q ∙ ap (λ (z : List Lexeme). us ++ z) d.parts)
    (after_word_call (rooted (Local c.name false c.name_place) c.name_place) c.base c d.front d.back d.in_front
    (calling c (rooted (Local c.name false c.name_place) c.name_place) d.back e d.behind k))
call_by c ts k (by_firm us vs w e q d) =
    began_firm (λ s. on (sym (q ∙ ap (λ (z : List Lexeme). us ++ z) d.parts)) (by b.other_statement_2 b.other_statement_2_body refl
    (then (firm_made others other_acts c.name c.name_place us w s)
    (after_word_call (rooted (Named c.name) c.name_place) c.base c d.front d.back d.in_front
    (calling c (rooted (Named c.name) c.name_place) d.back e d.behind k) s)) refl))

pub call_began : (c : CallPlain) (ts : List Lexeme) → SpellsCall c ts → IsFormedCall c → Began (call_ c) ts
call_began c ts d k = call_by c ts k.args (naming c ts d k)
