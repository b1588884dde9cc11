-- A well-formed statement is made of each spelling of it.
use Rattle.std.proofs.Common.{◌≡◌, true, false, List, [], ◌∷◌, ◌++◌, Option, None, refl, ap, ◌∙◌, sym, arith}
use Rattle.std.proofs.lemmas.List.{append_assoc}
use Rattle.pv_place.specs.declared.place.Place.{Place}
use Rattle.pv_types.specs.declared.name.Name.{Name as NameOf}
use Rattle.pv_types.specs.declared.declaration.Literal.{Literal}
use Rattle.pv_ll.specs.declared.table.Symbol.TheVariants.{Name}
use Rattle.pv_tree.specs.declared.expr.Root.TheVariants.{Local}
use Rattle.pv_tree.specs.Tree.{ExprTree, StmtTree, assign, assign_call, if_, case_, for_, while_, repeat_, exit_, continue_, return_, call_, empty_, StmtTrees, no_stmts, stmts, ArmTrees, no_arms, arms, BranchTrees, no_branches, branches, ElseTree, no_else, else_}
use Rattle.pv_tree.specs.View.{list_of_stmts, else_of}
use Rattle.pv_tree.specs.Lexemes.{Lexeme, IsOne, IsJoined, ◌⨾◌}
use Rattle.pv_tree.specs.Expressions.{IsFormedExpr}
use Rattle.pv_tree.specs.Words.{IsFree}
use Rattle.pv_tree.specs.Statements.{SpellsEnd, SpellsStmt, SpellsStmts, SpellsArms, SpellsBranches, SpellsElse, IsFormedStmt, AreFormedStmts, AreFormedArms, AreFormedBranches, IsFormedElse}
use Rattle.pv_parse.specs.KindNumbers as n
use Rattle.pv_parse.specs.CodeItems.{statement, statements, conditions, stepping, cases}
use Rattle.pv_parse.specs.Items.{Stack, path, token, expr, code}
use Rattle.pv_parse.specs.ExprDeeds.{rooted}
use Rattle.pv_parse.proofs.ForCallers.{on, to, then, by, pass, can, name_made}
use Rattle.pv_parse_stmt.proofs.ForCallers.{single-exit, single-continue, single-return}
use Rattle.pv_scl_parse.specs.OwnNames as o
use Rattle.pv_scl_parse.specs.OwnBodies as b
use Rattle.pv_scl_parse.proofs.Serving as kind
use Rattle.pv_scl_parse.proofs.Got.{others, other_acts, Got}
use Rattle.pv_scl_parse.proofs.TargetRuns.{Began, began_firm, assign_began, assign_call_began, call_began}
use Rattle.pv_scl_parse.proofs.LabelRuns.{LiteralsMade, label_parts}
use Rattle.pv_scl_parse.proofs.StmtRuns.{Itemed, item_firm, ended, Itemeds, no_item, items, list_made, stmts_back, list_of_arms, arms_back, list_of_branches, branches_back, option_of, else_back, Armed, no_arm, an_arm, arms_made, first_arm, Elsed, none_else, an_else, a_case_else, else_made, case_else_made, Branched, no_branch, a_branch, branches_made, by_made}

-- ---- lists of tokens

-- a token before others
opened : {P : Lexeme → Type 0} {R : List Lexeme → Type 0} (ts : List Lexeme) (d : IsJoined (IsOne P) R ts) → ts ≡ d.in_front.token ∷ d.back
opened ts d = d.parts ∙ ap (λ (z : List Lexeme). z ++ d.back) d.in_front.alone

-- others before a token
shut : {P : Lexeme → Type 0} {R : List Lexeme → Type 0} (ts : List Lexeme) (d : IsJoined R (IsOne P) ts) → ts ≡ d.front ++ d.behind.token ∷ []
shut ts d = d.parts ∙ ap (λ (z : List Lexeme). d.front ++ z) d.behind.alone

-- five lists, put together otherwise
five : (a c d e r : List Lexeme) → (a ++ (c ++ (d ++ e))) ++ r ≡ (a ++ (c ++ d)) ++ (e ++ r)
five a c d e r =
    append_assoc a (c ++ (d ++ e)) r ∙ ap (λ (z : List Lexeme). a ++ z) (append_assoc c (d ++ e) r ∙ ap (λ (z : List Lexeme). c ++ z) (append_assoc d e r)
    ∙ sym (append_assoc c d (e ++ r))) ∙ sym (append_assoc a (c ++ d) (e ++ r))

-- ---- single statements

empty_item : (place : Place) (ts : List Lexeme) → (SpellsStmt (empty_ place) ⨾ SpellsEnd (empty_ place)) ts → Itemed (empty_ place) ts
empty_item place ts d =
    let t = d.behind in
    item_firm (λ s. to (ap (λ (z : Place). code (statement (empty_ z)) ∷ s) t.is.at)
    (on (sym (d.parts ∙ ap (λ (z : List Lexeme). z ++ d.back) d.in_front ∙ t.alone)) (by b.firm_item_1 b.firm_item_1_body refl
    (pass n.semicolon t.token (kind.semicolon t.token t.is.is)) refl)))

exit_began : (place : Place) (ts : List Lexeme) → SpellsStmt (exit_ place) ts → Began (exit_ place) ts
exit_began place ts d =
    began_firm (λ s. to (ap (λ (z : StmtTree). code (statement z) ∷ s) (single-exit d.token d.is.is ∙ ap (λ (z : Place). exit_ z) d.is.at))
    (on (sym d.alone) (by b.other_statement_9 b.other_statement_9_body refl (pass n.single_word d.token (kind.exit_word d.token d.is.is)) refl)))

continue_began : (place : Place) (ts : List Lexeme) → SpellsStmt (continue_ place) ts → Began (continue_ place) ts
continue_began place ts d =
    began_firm (λ s. to (ap (λ (z : StmtTree). code (statement z) ∷ s) (single-continue d.token d.is.is ∙ ap (λ (z : Place). continue_ z) d.is.at))
    (on (sym d.alone) (by b.other_statement_9 b.other_statement_9_body refl (pass n.single_word d.token (kind.continue_word d.token d.is.is)) refl)))

return_began : (place : Place) (ts : List Lexeme) → SpellsStmt (return_ place) ts → Began (return_ place) ts
return_began place ts d =
    began_firm (λ s. to (ap (λ (z : StmtTree). code (statement z) ∷ s) (single-return d.token d.is.is ∙ ap (λ (z : Place). return_ z) d.is.at))
    (on (sym d.alone) (by b.other_statement_9 b.other_statement_9_body refl (pass n.single_word d.token (kind.return_word d.token d.is.is)) refl)))

-- ---- statements with others in them, where these can be made

if_began : (c : ExprTree) (body : StmtTrees) (l : ArmTrees) (e : ElseTree) (place : Place) (ts : List Lexeme)
    → (d : SpellsStmt (if_ (arms c body l) e place) ts) → IsFormedExpr c → Itemeds body d.in_front.behind.behind.behind.front
    → Armed l d.in_front.behind.behind.behind.back → Elsed false e d.behind.front → Began (if_ (arms c body l) e place) ts
if_began c body l e place ts d g k h m =
    let a = d.in_front in
    let x = a.behind in
    let y = x.behind in
    let z = y.behind in
    let end = d.behind.behind in
    began_firm (λ s.
    to (ap (λ (q : ArmTrees). code (statement (if_ (arms c body q) (else_of (option_of e)) a.in_front.token.place)) ∷ s) (arms_back l)
    ∙ ap (λ (q : ElseTree). code (statement (if_ (arms c body l) q a.in_front.token.place)) ∷ s) (else_back e)
    ∙ ap (λ (q : Place). code (statement (if_ (arms c body l) e q)) ∷ s) a.in_front.is.at)
    (on (sym (d.parts ∙ ap (λ (q : List Lexeme). q ++ d.back) (opened d.front a ∙ ap (λ (q : List Lexeme). a.in_front.token ∷ q)
    (x.parts ∙ ap (λ (q : List Lexeme). x.front ++ q) (y.parts ∙ ap (λ (q : List Lexeme). y.front ++ q) z.parts)))
    ∙ ap (λ (q : List Lexeme). a.in_front.token ∷ q) (five x.front y.front z.front z.back d.back
    ∙ ap (λ (q : List Lexeme). (x.front ++ (y.front ++ z.front)) ++ (z.back ++ q)) (shut d.back d.behind))))
    (by b.other_statement_4 b.other_statement_4_body refl (then (pass n.if_word a.in_front.token (kind.if_word a.in_front.token a.in_front.is.is))
    (then (first_arm c body x.front y.front z.front x.in_front g y.in_front k (token a.in_front.token ∷ s))
    (then (arms_made l z.back h ((c, body) ∷ []) (token a.in_front.token ∷ s))
    (then (else_made e d.behind.front m (code (conditions ((c, body) ∷ list_of_arms l)) ∷ token a.in_front.token ∷ s))
    (pass n.end_if end.token (kind.end_if end.token end.is)))))) refl)))

case_began : LiteralsMade → (c : ExprTree) (l : BranchTrees) (e : ElseTree) (place : Place) (ts : List Lexeme) → (d : SpellsStmt (case_ c l e place) ts)
    → IsFormedExpr c → Branched l d.behind.behind.behind.front → Elsed true e d.behind.behind.behind.behind.front → Began (case_ c l e place) ts
case_began lit c l e place ts d g h m =
    let t = d.in_front in
    let x = d.behind in
    let of_ = x.behind in
    let y = of_.behind in
    let z = y.behind in
    let end = z.behind in
    began_firm (λ s.
    to (ap (λ (q : BranchTrees). code (statement (case_ c q (else_of (option_of e)) t.token.place)) ∷ s) (branches_back l)
    ∙ ap (λ (q : ElseTree). code (statement (case_ c l q t.token.place)) ∷ s) (else_back e)
    ∙ ap (λ (q : Place). code (statement (case_ c l e q)) ∷ s) t.is.at)
    (on (sym (opened ts d ∙ ap (λ (q : List Lexeme). t.token ∷ q) (x.parts ∙ ap (λ (q : List Lexeme). x.front ++ q) (opened x.back of_
    ∙ ap (λ (q : List Lexeme). of_.in_front.token ∷ q) (y.parts ∙ ap (λ (q : List Lexeme). y.front ++ q) (shut y.back z))))))
    (by b.other_statement_5 b.other_statement_5_body refl (then (pass n.case_word t.token (kind.case_word t.token t.is.is))
    (then ((can others other_acts c x.front x.in_front g).whole 0 (omega arith) (omega arith) (token t.token ∷ s))
    (then (pass n.of_word of_.in_front.token (kind.of_word of_.in_front.token of_.in_front.is))
    (then (branches_made lit l y.front h (token of_.in_front.token ∷ expr c ∷ token t.token ∷ s))
    (then (case_else_made e z.front m (code (cases (list_of_branches l)) ∷ token of_.in_front.token ∷ expr c ∷ token t.token ∷ s))
    (pass n.end_case end.token (kind.end_case end.token end.is))))))) refl)))

for_began : LiteralsMade → (var : NameOf) (at : Place) (first last : ExprTree) (by_ : Option Literal) (body : StmtTrees) (place : Place) (ts : List Lexeme)
    → (d : SpellsStmt (for_ var at first last by_ body place) ts) → IsFree var → IsFormedExpr first → IsFormedExpr last
    → Itemeds body d.behind.behind.behind.behind.behind.behind.behind.behind.front → Began (for_ var at first last by_ body place) ts
for_began lit var at first last by_ body place ts d free g h k =
    let t = d.in_front in
    let v = d.behind in
    let a = v.behind in
    let x = a.behind in
    let to_ = x.behind in
    let y = to_.behind in
    let z = y.behind in
    let do_ = z.behind in
    let w = do_.behind in
    let s1 : Lexeme = a.in_front.token in
    let end = w.behind in
    began_firm (λ s.
    to (ap (λ (q : StmtTrees). code (statement (for_ var at first last by_ q t.token.place)) ∷ s) (stmts_back body)
    ∙ ap (λ (q : Place). code (statement (for_ var at first last by_ body q)) ∷ s) t.is.at)
    (on (sym (opened ts d ∙ ap (λ (q : List Lexeme). t.token ∷ q) (v.parts ∙ ap (λ (q : List Lexeme). v.front ++ q) (opened v.back a
    ∙ ap (λ (q : List Lexeme). s1 ∷ q) (x.parts ∙ ap (λ (q : List Lexeme). x.front ++ q) (opened x.back to_
    ∙ ap (λ (q : List Lexeme). to_.in_front.token ∷ q) (y.parts ∙ ap (λ (q : List Lexeme). y.front ++ q) (z.parts ∙ ap (λ (q : List Lexeme). z.front ++ q)
    (opened z.back do_ ∙ ap (λ (q : List Lexeme). do_.in_front.token ∷ q) (shut do_.back w))))))))))
    (by b.other_statement_6 b.other_statement_6_body refl (then (pass n.for_word t.token (kind.for_word t.token t.is.is))
    (then (name_made others other_acts var at v.front v.in_front free (token t.token ∷ s))
    (then (pass n.assign s1 (kind.assign s1 a.in_front.is))
    (then ((can others other_acts first x.front x.in_front g).whole 0 (omega arith) (omega arith) (token s1 ∷ path (rooted (Local var false at) at) ∷ token t.token ∷ s))
    (then (pass n.to_word to_.in_front.token (kind.to_word to_.in_front.token to_.in_front.is))
    (then ((can others other_acts last y.front y.in_front h).whole 0 (omega arith) (omega arith) (token to_.in_front.token ∷ expr first ∷ token s1
    ∷ path (rooted (Local var false at) at) ∷ token t.token ∷ s))
    (then (by_made lit by_ z.front z.in_front (expr last ∷ token to_.in_front.token ∷ expr first ∷ token s1 ∷ path (rooted (Local var false at) at) ∷ token t.token ∷ s))
    (then (pass n.do_word do_.in_front.token (kind.do_word do_.in_front.token do_.in_front.is))
    (then (list_made body w.front k (token do_.in_front.token ∷ code (stepping by_) ∷ expr last ∷ token to_.in_front.token ∷ expr first ∷ token s1
    ∷ path (rooted (Local var false at) at) ∷ token t.token ∷ s))
    (pass n.end_for end.token (kind.end_for end.token end.is))))))))))) refl)))

while_began : (c : ExprTree) (body : StmtTrees) (place : Place) (ts : List Lexeme) → (d : SpellsStmt (while_ c body place) ts) → IsFormedExpr c
    → Itemeds body d.behind.behind.behind.front → Began (while_ c body place) ts
while_began c body place ts d g k =
    let t = d.in_front in
    let x = d.behind in
    let do_ = x.behind in
    let w = do_.behind in
    let end = w.behind in
    began_firm (λ s.
    to (ap (λ (q : StmtTrees). code (statement (while_ c q t.token.place)) ∷ s) (stmts_back body)
    ∙ ap (λ (q : Place). code (statement (while_ c body q)) ∷ s) t.is.at)
    (on (sym (opened ts d ∙ ap (λ (q : List Lexeme). t.token ∷ q) (x.parts ∙ ap (λ (q : List Lexeme). x.front ++ q) (opened x.back do_
    ∙ ap (λ (q : List Lexeme). do_.in_front.token ∷ q) (shut do_.back w)))))
    (by b.other_statement_7 b.other_statement_7_body refl (then (pass n.while_word t.token (kind.while_word t.token t.is.is))
    (then ((can others other_acts c x.front x.in_front g).whole 0 (omega arith) (omega arith) (token t.token ∷ s))
    (then (pass n.do_word do_.in_front.token (kind.do_word do_.in_front.token do_.in_front.is))
    (then (list_made body w.front k (token do_.in_front.token ∷ expr c ∷ token t.token ∷ s))
    (pass n.end_while end.token (kind.end_while end.token end.is)))))) refl)))

repeat_began : (body : StmtTrees) (c : ExprTree) (place : Place) (ts : List Lexeme) → (d : SpellsStmt (repeat_ body c place) ts) → IsFormedExpr c
    → Itemeds body d.behind.front → Began (repeat_ body c place) ts
repeat_began body c place ts d g k =
    let t = d.in_front in
    let x = d.behind in
    let until = x.behind in
    let w = until.behind in
    let end = w.behind in
    began_firm (λ s.
    to (ap (λ (q : StmtTrees). code (statement (repeat_ q c t.token.place)) ∷ s) (stmts_back body)
    ∙ ap (λ (q : Place). code (statement (repeat_ body c q)) ∷ s) t.is.at)
    (on (sym (opened ts d ∙ ap (λ (q : List Lexeme). t.token ∷ q) (x.parts ∙ ap (λ (q : List Lexeme). x.front ++ q) (opened x.back until
    ∙ ap (λ (q : List Lexeme). until.in_front.token ∷ q) (shut until.back w)))))
    (by b.other_statement_8 b.other_statement_8_body refl (then (pass n.repeat_word t.token (kind.repeat_word t.token t.is.is))
    (then (list_made body x.front k (token t.token ∷ s))
    (then (pass n.until_word until.in_front.token (kind.until_word until.in_front.token until.in_front.is))
    (then ((can others other_acts c w.front w.in_front g).whole 0 (omega arith) (omega arith) (token until.in_front.token
    ∷ code (statements (list_of_stmts body)) ∷ token t.token ∷ s))
    (pass n.end_repeat end.token (kind.end_repeat end.token end.is)))))) refl)))

-- ---- all

mutual
  can_item : LiteralsMade → (x : StmtTree) (ts : List Lexeme) → (SpellsStmt x ⨾ SpellsEnd x) ts → IsFormedStmt x → Itemed x ts
  can_item lit (assign target place e) ts d f =
      ended (assign target place e) d.front d.back ts (assign_began target place e d.front d.in_front f.0 f.1) d.behind d.parts
  can_item lit (assign_call target place c) ts d f =
      ended (assign_call target place c) d.front d.back ts (assign_call_began target place c d.front d.in_front f.0 f.1) d.behind d.parts
  can_item lit (if_ no_arms e place) ts d f = absurd d.in_front.in_front
  can_item lit (if_ (arms c body l) e place) ts d f =
      let x = d.in_front in
      let z = x.in_front.behind.behind.behind in
      ended (if_ (arms c body l) e place) d.front d.back ts (if_began c body l e place d.front x f.0.0 (can_list lit body z.front z.in_front f.0.1)
      (can_arms lit l z.back z.behind f.0.2) (can_else lit e x.behind.front x.behind.in_front f.1)) d.behind d.parts
  can_item lit (case_ c l e place) ts d f =
      let x = d.in_front in
      let y = x.behind.behind.behind in
      ended (case_ c l e place) d.front d.back ts (case_began lit c l e place d.front x f.0 (can_branches lit l y.front y.in_front f.1)
      (can_case_else lit e y.behind.front y.behind.in_front f.2)) d.behind d.parts
  can_item lit (for_ var at first last by_ body place) ts d f =
      let x = d.in_front in
      let w = x.behind.behind.behind.behind.behind.behind.behind.behind in
      ended (for_ var at first last by_ body place) d.front d.back ts (for_began lit var at first last by_ body place d.front x f.0 f.1 f.2
      (can_list lit body w.front w.in_front f.3)) d.behind d.parts
  can_item lit (while_ c body place) ts d f =
      let x = d.in_front in
      let w = x.behind.behind.behind in
      ended (while_ c body place) d.front d.back ts (while_began c body place d.front x f.0 (can_list lit body w.front w.in_front f.1)) d.behind d.parts
  can_item lit (repeat_ body c place) ts d f =
      let x = d.in_front in
      let w = x.behind in
      ended (repeat_ body c place) d.front d.back ts (repeat_began body c place d.front x f.1 (can_list lit body w.front w.in_front f.0)) d.behind d.parts
  can_item lit (exit_ place) ts d f = ended (exit_ place) d.front d.back ts (exit_began place d.front d.in_front) d.behind d.parts
  can_item lit (continue_ place) ts d f = ended (continue_ place) d.front d.back ts (continue_began place d.front d.in_front) d.behind d.parts
  can_item lit (return_ place) ts d f = ended (return_ place) d.front d.back ts (return_began place d.front d.in_front) d.behind d.parts
  can_item lit (call_ c) ts d f = ended (call_ c) d.front d.back ts (call_began c d.front d.in_front f) d.behind d.parts
  can_item lit (empty_ place) ts d f = empty_item place ts d

  pub can_list : LiteralsMade → (l : StmtTrees) (ts : List Lexeme) → SpellsStmts l ts → AreFormedStmts l → Itemeds l ts
  can_list lit no_stmts ts d f = no_item d
  can_list lit (stmts x l) ts d f =
      let k = d.behind in
      items (d.front ++ k.front) k.back (d.parts ∙ ap (λ (z : List Lexeme). d.front ++ z) k.parts ∙ sym (append_assoc d.front k.front k.back))
      (can_item lit x (d.front ++ k.front) (record { front = d.front; back = k.front; parts = refl; in_front = d.in_front; behind = k.in_front }) f.0)
      (can_list lit l k.back k.behind f.1)

  can_arms : LiteralsMade → (l : ArmTrees) (ts : List Lexeme) → SpellsArms None l ts → AreFormedArms l → Armed l ts
  can_arms lit no_arms ts d f = no_arm d
  can_arms lit (arms c body l) ts d f =
      let x = d.behind in
      let y = x.behind in
      let z = y.behind in
      an_arm d.in_front.token x.front y.front z.front z.back d.in_front.is x.in_front f.0 y.in_front (can_list lit body z.front z.in_front f.1)
      (can_arms lit l z.back z.behind f.2)
      (opened ts d ∙ ap (λ (q : List Lexeme). d.in_front.token ∷ q) (x.parts ∙ ap (λ (q : List Lexeme). x.front ++ q) (y.parts
      ∙ ap (λ (q : List Lexeme). y.front ++ q) z.parts ∙ sym (append_assoc y.front z.front z.back)) ∙ sym (append_assoc x.front (y.front ++ z.front) z.back)))

  can_branches : LiteralsMade → (l : BranchTrees) (ts : List Lexeme) → SpellsBranches l ts → AreFormedBranches l → Branched l ts
  can_branches lit no_branches ts d f = no_branch d
  can_branches lit (branches c body l) ts d f =
      let x = d.behind in
      let y = x.behind in
      a_branch (d.front ++ x.front) y.front y.back
      (label_parts lit c (d.front ++ x.front) (record { front = d.front; back = x.front; parts = refl; in_front = d.in_front; behind = x.in_front }) f.0)
      (can_list lit body y.front y.in_front f.1) (can_branches lit l y.back y.behind f.2)
      (d.parts ∙ ap (λ (q : List Lexeme). d.front ++ q) (x.parts ∙ ap (λ (q : List Lexeme). x.front ++ q) y.parts)
      ∙ sym (append_assoc d.front x.front (y.front ++ y.back)))

  can_else : LiteralsMade → (e : ElseTree) (ts : List Lexeme) → SpellsElse false e ts → IsFormedElse e → Elsed false e ts
  can_else lit no_else ts d f = none_else d
  can_else lit (else_ body) ts d f = an_else d.front d.back d.in_front (can_list lit body d.back d.behind f) d.parts

  can_case_else : LiteralsMade → (e : ElseTree) (ts : List Lexeme) → SpellsElse true e ts → IsFormedElse e → Elsed true e ts
  can_case_else lit no_else ts d f = none_else d
  can_case_else lit (else_ body) ts d f =
      let x = d.in_front in
      a_case_else x.front x.back d.back x.in_front x.behind (can_list lit body d.back d.behind f)
      (d.parts ∙ ap (λ (q : List Lexeme). q ++ d.back) x.parts ∙ append_assoc x.front x.back d.back)

-- a list of statements
pub stmts_made : LiteralsMade → (l : StmtTrees) (ts : List Lexeme) → SpellsStmts l ts → AreFormedStmts l → (s : Stack)
    → Got (Name o.list ∷ []) ts s (code (statements (list_of_stmts l)) ∷ s)
stmts_made lit l ts d f s = list_made l ts (can_list lit l ts d f) s
