-- Statements, made of what spells them.
use Rattle.std.proofs.Common.{◌≡◌, inl, inr, Bool, true, false, List, [], ◌∷◌, ◌++◌, Option, Some, None, refl, ap, ◌∙◌, sym, subst, arith}
use Rattle.std.proofs.lemmas.List.{append-nil, append_assoc}
use Rattle.pv_place.specs.declared.place.Place.{Place}
use Rattle.pv_types.specs.declared.name.Name.{Name as NameOf}
use Rattle.pv_types.specs.declared.declaration.Literal.{Literal}
use Rattle.pv_ll.specs.declared.table.Symbol.{Symbol}
use Rattle.pv_ll.specs.declared.table.Symbol.TheVariants.{Token, Name}
use Rattle.pv_tree.specs.declared.expr.Root.TheVariants.{Local}
use Rattle.pv_tree.specs.Tree.{ExprTree, Choices, StmtTree, StmtTrees, no_stmts, stmts, ArmTrees, no_arms, arms, BranchTrees, no_branches, branches, ElseTree, no_else, else_}
use Rattle.pv_tree.specs.View.{stmts_of, list_of_stmts, arms_of, branches_of, else_of}
use Rattle.pv_tree.specs.Lexemes.{Lexeme, IsWord, sign, word, maybe}
use Rattle.pv_tree.specs.Words.{SpellsWord, IsFree}
use Rattle.pv_tree.specs.Expressions.{SpellsExpr, IsFormedExpr}
use Rattle.pv_tree.specs.Statements.{SpellsBy}
use Rattle.pv_parse.specs.KindNumbers as n
use Rattle.pv_parse.specs.FrontNames as f
use Rattle.pv_parse.specs.CodeItems.{ArmTree, BranchTree, statement, statements, conditions, otherwise, stepping, choices, cases}
use Rattle.pv_parse.specs.Items.{Stack, token, expr, code}
use Rattle.pv_parse.specs.ExprDeeds.{rooted}
use Rattle.pv_parse.proofs.ForCallers.{empty, on, to, then, by, pass, can, name_made, closed}
use Rattle.pv_scl_parse.specs.OwnNames as o
use Rattle.pv_scl_parse.specs.OwnBodies as b
use Rattle.pv_scl_parse.proofs.Serving as kind
use Rattle.pv_scl_parse.proofs.Got.{others, other_acts, Got}
use Rattle.pv_scl_parse.proofs.NameRuns.{Going}
use Rattle.pv_scl_parse.proofs.TargetRuns.{Began, began_firm, began_word}
use Rattle.pv_scl_parse.proofs.LabelRuns.{LiteralsMade, Parts, label_made, next_label_made}

-- ---- a statement with its `;`

-- one that begins with a word, or not
pub data Itemed (x : StmtTree) : List Lexeme → Type 0 where
  item_firm : {ts : List Lexeme} → ((s : Stack) → Got (Name o.firm_item ∷ []) ts s (code (statement x) ∷ s)) → Itemed x ts
  item_word : {ts : List Lexeme} (y : NameOf) (at : Place) (us vs : List Lexeme) → SpellsWord y at us → IsFree y → ts ≡ us ++ vs
      → Going o.word_item (rooted (Local y false at) at) (code (statement x)) vs → Itemed x ts

pub ended : (x : StmtTree) (us vs ts : List Lexeme) → Began x us → sign ";" vs → ts ≡ us ++ vs → Itemed x ts
ended x us vs ts (began_firm g) d q =
    item_firm (λ s. on (sym (q ∙ ap (λ (z : List Lexeme). us ++ z) d.alone)) (by b.firm_item_2 b.firm_item_2_body refl
    (then (g s) (pass n.semicolon d.token (kind.semicolon d.token d.is))) refl))
ended x us vs ts (began_word y at front back w free e fin) d q =
    item_word y at front (back ++ d.token ∷ []) w free
    (q ∙ ap (λ (z : List Lexeme). z ++ vs) e ∙ append_assoc front back vs ∙ ap (λ (z : List Lexeme). front ++ (back ++ z)) d.alone)
    (λ s. by b.word_item_1 b.word_item_1_body refl (then (fin s) (pass n.semicolon d.token (kind.semicolon d.token d.is))) refl)

item_made : (x : StmtTree) (ts : List Lexeme) → Itemed x ts → (l : List StmtTree) (s : Stack)
    → Got (Name o.item ∷ []) ts (code (statements l) ∷ s) (code (statements (l ++ x ∷ [])) ∷ s)
item_made x ts (item_firm g) l s = by b.item_1 b.item_1_body refl (g (code (statements l) ∷ s)) refl
item_made x ts (item_word y at us vs w free q fin) l s =
    on (sym q) (by b.item_2 b.item_2_body refl (then (name_made others other_acts y at us w free (code (statements l) ∷ s)) (fin (code (statements l) ∷ s))) refl)

case_item_made : (x : StmtTree) (ts : List Lexeme) → Itemed x ts → (l : List StmtTree) (c : Choices) (a : List BranchTree) (s : Stack)
    → Got (Name o.case_item ∷ []) ts (code (statements l) ∷ code (choices c) ∷ code (cases a) ∷ s)
    (code (statements (l ++ x ∷ [])) ∷ code (choices c) ∷ code (cases a) ∷ s)
case_item_made x ts (item_firm g) l c a s =
    by b.case_item_1 b.case_item_1_body refl (g (code (statements l) ∷ code (choices c) ∷ code (cases a) ∷ s)) refl
case_item_made x ts (item_word y at us vs w free q fin) l c a s =
    let below : Stack = code (statements l) ∷ code (choices c) ∷ code (cases a) ∷ s in
    on (sym q) (by b.case_item_3 b.case_item_3_body refl (then (name_made others other_acts y at us w free below)
    (by b.after_case_word_2 b.after_case_word_2_body refl (fin below) refl)) refl)

-- ---- lists

pub data Itemeds : StmtTrees → List Lexeme → Type 0 where
  no_item : {ts : List Lexeme} → ts ≡ [] → Itemeds no_stmts ts
  items : {x : StmtTree} {l : StmtTrees} {ts : List Lexeme} (us vs : List Lexeme) → ts ≡ us ++ vs → Itemed x us → Itemeds l vs → Itemeds (stmts x l) ts

items_made : (l : StmtTrees) (ts : List Lexeme) → Itemeds l ts → (before : List StmtTree) (s : Stack)
    → Got (Name o.items ∷ []) ts (code (statements before) ∷ s) (code (statements (before ++ list_of_stmts l)) ∷ s)
items_made no_stmts ts (no_item q) before s =
    on (sym q) (to (ap (λ (z : List StmtTree). code (statements z) ∷ s) (sym (append-nil before))) (by b.items_2 b.items_2_body refl empty refl))
items_made (stmts x l) ts (items us vs q h k) before s =
    to (ap (λ (z : List StmtTree). code (statements z) ∷ s) (append_assoc before (x ∷ []) (list_of_stmts l)))
    (on (sym q) (by b.items_1 b.items_1_body refl (then (item_made x us h before s) (items_made l vs k (before ++ x ∷ []) s)) refl))

pub list_made : (l : StmtTrees) (ts : List Lexeme) → Itemeds l ts → (s : Stack) → Got (Name o.list ∷ []) ts s (code (statements (list_of_stmts l)) ∷ s)
list_made l ts h s = by b.list_1 b.list_1_body refl (then (by b.new_list_1 b.new_list_1_body refl empty refl) (items_made l ts h [] s)) refl

-- statements of a branch, and what stands behind them
branch_items : (l : StmtTrees) (us vs ts : List Lexeme) → Itemeds l us → (before : List StmtTree) (c : Choices) (a : List BranchTree) (s final : Stack)
    → Got (Name o.case_items ∷ []) vs (code (statements (before ++ list_of_stmts l)) ∷ code (choices c) ∷ code (cases a) ∷ s) final → ts ≡ us ++ vs
    → Got (Name o.case_items ∷ []) ts (code (statements before) ∷ code (choices c) ∷ code (cases a) ∷ s) final
branch_items no_stmts us vs ts (no_item e) before c a s final g q =
    on (sym (q ∙ ap (λ (z : List Lexeme). z ++ vs) e))
    (subst (λ (z : List StmtTree). Got (Name o.case_items ∷ []) vs (code (statements z) ∷ code (choices c) ∷ code (cases a) ∷ s) final) (append-nil before) g)
branch_items (stmts x l) us vs ts (items front back e h k) before c a s final g q =
    let rest : Got (Name o.case_items ∷ []) (back ++ vs) (code (statements (before ++ x ∷ [])) ∷ code (choices c) ∷ code (cases a) ∷ s) final =
    branch_items l back vs (back ++ vs) k (before ++ x ∷ []) c a s final
    (subst (λ (z : List StmtTree). Got (Name o.case_items ∷ []) vs (code (statements z) ∷ code (choices c) ∷ code (cases a) ∷ s) final)
    (sym (append_assoc before (x ∷ []) (list_of_stmts l))) g) refl in
    on (sym (q ∙ ap (λ (z : List Lexeme). z ++ vs) e ∙ append_assoc front back vs))
    (by b.case_items_1 b.case_items_1_body refl (then (case_item_made x front h before c a s) rest) refl)

-- ---- trees as lists, and back

pub stmts_back : (l : StmtTrees) → stmts_of (list_of_stmts l) ≡ l
stmts_back no_stmts = refl
stmts_back (stmts x l) = ap (λ (z : StmtTrees). stmts x z) (stmts_back l)

abbrev pub list_of_arms : ArmTrees → List ArmTree
list_of_arms no_arms = []
list_of_arms (arms c body l) = (c, body) ∷ list_of_arms l

pub arms_back : (l : ArmTrees) → arms_of (list_of_arms l) ≡ l
arms_back no_arms = refl
arms_back (arms c body l) = ap (λ (z : ArmTrees). arms c body z) (arms_back l)

abbrev pub list_of_branches : BranchTrees → List BranchTree
list_of_branches no_branches = []
list_of_branches (branches c body l) = (c, body) ∷ list_of_branches l

pub branches_back : (l : BranchTrees) → branches_of (list_of_branches l) ≡ l
branches_back no_branches = refl
branches_back (branches c body l) = ap (λ (z : BranchTrees). branches c body z) (branches_back l)

abbrev pub option_of : ElseTree → Option StmtTrees
option_of no_else = None
option_of (else_ body) = Some body

pub else_back : (e : ElseTree) → else_of (option_of e) ≡ e
else_back no_else = refl
else_back (else_ body) = refl

-- ---- IF

-- a condition, THEN, and statements
abbrev arm_symbols : List Symbol
arm_symbols = Name f.expression ∷ Token n.then_word ∷ Name o.list ∷ []

arm_made : (c : ExprTree) (body : StmtTrees) (us vs xs : List Lexeme) → SpellsExpr c us → IsFormedExpr c → (d : word "THEN" vs) → Itemeds body xs
    → (s : Stack) → Got arm_symbols (us ++ (vs ++ xs)) s (code (statements (list_of_stmts body)) ∷ token d.token ∷ expr c ∷ s)
arm_made c body us vs xs h g d k s =
    on (ap (λ (z : List Lexeme). us ++ (z ++ xs)) (sym d.alone)) (then ((can others other_acts c us h g).whole 0 (omega arith) (omega arith) s)
    (then (pass n.then_word d.token (kind.then_word d.token d.is)) (list_made body xs k (token d.token ∷ expr c ∷ s))))

pub data Armed : ArmTrees → List Lexeme → Type 0 where
  no_arm : {ts : List Lexeme} → ts ≡ [] → Armed no_arms ts
  an_arm : {c : ExprTree} {body : StmtTrees} {l : ArmTrees} {ts : List Lexeme} (t : Lexeme) (us vs xs ys : List Lexeme) → IsWord "ELSIF" t → SpellsExpr c us
      → IsFormedExpr c → word "THEN" vs → Itemeds body xs → Armed l ys → ts ≡ t ∷ (us ++ (vs ++ xs)) ++ ys → Armed (arms c body l) ts

pub arms_made : (l : ArmTrees) (ts : List Lexeme) → Armed l ts → (before : List ArmTree) (s : Stack)
    → Got (Name o.elsifs ∷ []) ts (code (conditions before) ∷ s) (code (conditions (before ++ list_of_arms l)) ∷ s)
arms_made no_arms ts (no_arm q) before s =
    on (sym q) (to (ap (λ (z : List ArmTree). code (conditions z) ∷ s) (sym (append-nil before))) (by b.elsifs_2 b.elsifs_2_body refl empty refl))
arms_made (arms c body l) ts (an_arm t us vs xs ys i h g d k rest q) before s =
    to (ap (λ (z : List ArmTree). code (conditions z) ∷ s) (append_assoc before ((c, body) ∷ []) (list_of_arms l)))
    (on (sym q) (by b.elsifs_1 b.elsifs_1_body refl
    (then (to (ap (λ (z : StmtTrees). code (conditions (before ++ (c, z) ∷ [])) ∷ s) (stmts_back body)) (by b.elsif_1 b.elsif_1_body refl
    (then (pass n.elsif_word t (kind.elsif_word t i)) (arm_made c body us vs xs h g d k (token t ∷ code (conditions before) ∷ s))) refl))
    (arms_made l ys rest (before ++ (c, body) ∷ []) s)) refl))

pub first_arm : (c : ExprTree) (body : StmtTrees) (us vs xs : List Lexeme) → SpellsExpr c us → IsFormedExpr c → word "THEN" vs → Itemeds body xs → (s : Stack)
    → Got (Name o.first_arm ∷ []) (us ++ (vs ++ xs)) s (code (conditions ((c, body) ∷ [])) ∷ s)
first_arm c body us vs xs h g d k s =
    to (ap (λ (z : StmtTrees). code (conditions ((c, z) ∷ [])) ∷ s) (stmts_back body))
    (by b.first_arm_1 b.first_arm_1_body refl (arm_made c body us vs xs h g d k s) refl)

-- ---- ELSE

pub data Elsed : Bool → ElseTree → List Lexeme → Type 0 where
  none_else : {colon : Bool} {ts : List Lexeme} → ts ≡ [] → Elsed colon no_else ts
  an_else : {body : StmtTrees} {ts : List Lexeme} (us vs : List Lexeme) → word "ELSE" us → Itemeds body vs → ts ≡ us ++ vs → Elsed false (else_ body) ts
  a_case_else : {body : StmtTrees} {ts : List Lexeme} (us ws vs : List Lexeme) → word "ELSE" us → maybe (sign ":") ws → Itemeds body vs
      → ts ≡ us ++ (ws ++ vs) → Elsed true (else_ body) ts

pub else_made : (e : ElseTree) (ts : List Lexeme) → Elsed false e ts → (s : Stack) → Got (Name o.maybe_else ∷ []) ts s (code (otherwise (option_of e)) ∷ s)
else_made no_else ts (none_else q) s = on (sym q) (by b.maybe_else_2 b.maybe_else_2_body refl empty refl)
else_made (else_ body) ts (an_else us vs d k q) s =
    to (ap (λ (z : StmtTrees). code (otherwise (Some z)) ∷ s) (stmts_back body))
    (on (sym (q ∙ ap (λ (z : List Lexeme). z ++ vs) d.alone)) (by b.maybe_else_1 b.maybe_else_1_body refl
    (then (pass n.else_word d.token (kind.else_word d.token d.is)) (list_made body vs k (token d.token ∷ s))) refl))

colon_made : (ts : List Lexeme) → maybe (sign ":") ts → (s : Stack) → Got (Name o.maybe_colon ∷ []) ts s s
colon_made ts (inl q) s = on (sym q) (by b.maybe_colon_2 b.maybe_colon_2_body refl empty refl)
colon_made ts (inr d) s =
    on (sym d.alone) (by b.maybe_colon_1 b.maybe_colon_1_body refl (pass n.colon d.token (kind.colon d.token d.is)) refl)

pub case_else_made : (e : ElseTree) (ts : List Lexeme) → Elsed true e ts → (s : Stack) → Got (Name o.case_else ∷ []) ts s (code (otherwise (option_of e)) ∷ s)
case_else_made no_else ts (none_else q) s = on (sym q) (by b.case_else_2 b.case_else_2_body refl empty refl)
case_else_made (else_ body) ts (a_case_else us ws vs d c k q) s =
    to (ap (λ (z : StmtTrees). code (otherwise (Some z)) ∷ s) (stmts_back body))
    (on (sym (q ∙ ap (λ (z : List Lexeme). z ++ (ws ++ vs)) d.alone)) (by b.case_else_1 b.case_else_1_body refl
    (then (pass n.else_word d.token (kind.else_word d.token d.is)) (then (colon_made ws c (token d.token ∷ s)) (list_made body vs k (token d.token ∷ s)))) refl))

-- ---- CASE

pub data Branched : BranchTrees → List Lexeme → Type 0 where
  no_branch : {ts : List Lexeme} → ts ≡ [] → Branched no_branches ts
  a_branch : {c : Choices} {body : StmtTrees} {l : BranchTrees} {ts : List Lexeme} (us vs ws : List Lexeme) → Parts c us → Itemeds body vs → Branched l ws
      → ts ≡ us ++ (vs ++ ws) → Branched (branches c body l) ts

-- branches behind the one that is read
record Ends (l : BranchTrees) (ts : List Lexeme) (a : List BranchTree) (c : Choices) (body : List StmtTree) : Type 0 where
  last_body : List StmtTree
  last_label : Choices
  before : List BranchTree
  is : closed before last_label last_body ≡ closed a c body ++ list_of_branches l
  gets : (s : Stack) → Got (Name o.case_items ∷ []) ts (code (statements body) ∷ code (choices c) ∷ code (cases a) ∷ s)
      (code (statements last_body) ∷ code (choices last_label) ∷ code (cases before) ∷ s)

further : LiteralsMade → (l : BranchTrees) (ts : List Lexeme) → Branched l ts → (a : List BranchTree) (c : Choices) (body : List StmtTree) → Ends l ts a c body
further lit no_branches ts (no_branch q) a c body = record {
  last_body = body;
  last_label = c;
  before = a;
  is = sym (append-nil (closed a c body));
  gets = λ s. on (sym q) (by b.case_items_2 b.case_items_2_body refl empty refl);
}
further lit (branches d own l) ts (a_branch us vs ws x k rest q) a c body =
    let more : Ends l ws (closed a c body) d (list_of_stmts own) = further lit l ws rest (closed a c body) d (list_of_stmts own) in
    record {
      last_body = more.last_body;
      last_label = more.last_label;
      before = more.before;
      is = more.is ∙ append_assoc (closed a c body) ((d, stmts_of (list_of_stmts own)) ∷ []) (list_of_branches l)
          ∙ ap (λ (z : StmtTrees). closed a c body ++ (d, z) ∷ list_of_branches l) (stmts_back own);
      gets = λ s. on (sym q) (by b.case_items_1 b.case_items_1_body refl (then (next_label_made lit d us x body c a s)
          (branch_items own vs ws (vs ++ ws) k [] d (closed a c body) s (code (statements more.last_body) ∷ code (choices more.last_label)
          ∷ code (cases more.before) ∷ s) (more.gets s) refl)) refl);
    }

pub branches_made : LiteralsMade → (l : BranchTrees) (ts : List Lexeme) → Branched l ts → (s : Stack)
    → Got (Name o.branches ∷ []) ts s (code (cases (list_of_branches l)) ∷ s)
branches_made lit no_branches ts (no_branch q) s = on (sym q) (by b.branches_2 b.branches_2_body refl empty refl)
branches_made lit (branches d own l) ts (a_branch us vs ws x k rest q) s =
    let more : Ends l ws [] d (list_of_stmts own) = further lit l ws rest [] d (list_of_stmts own) in
    to (ap (λ (z : List BranchTree). code (cases z) ∷ s) (more.is ∙ ap (λ (z : StmtTrees). (d, z) ∷ list_of_branches l) (stmts_back own)))
    (on (sym q) (by b.branches_1 b.branches_1_body refl (then (by b.new_branches_1 b.new_branches_1_body refl empty refl)
    (then (label_made lit d us x [] s) (branch_items own vs ws (vs ++ ws) k [] d [] s (code (statements more.last_body) ∷ code (choices more.last_label)
    ∷ code (cases more.before) ∷ s) (more.gets s) refl))) refl))

pub by_made : LiteralsMade → (o_ : Option Literal) (ts : List Lexeme) → SpellsBy o_ ts → (s : Stack) → Got (Name o.maybe_by ∷ []) ts s (code (stepping o_) ∷ s)
by_made lit None ts d s = on (sym d) (by b.maybe_by_2 b.maybe_by_2_body refl empty refl)
by_made lit (Some l) ts d s =
    let w = d.in_front in
    on (sym (d.parts ∙ ap (λ (z : List Lexeme). z ++ d.back) w.alone)) (by b.maybe_by_1 b.maybe_by_1_body refl
    (then (pass n.by_word w.token (kind.by_word w.token w.is)) (lit l d.back d.behind (token w.token ∷ s))) refl)
