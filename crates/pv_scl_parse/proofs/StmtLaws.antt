-- Laws of the productions of statements.
use Rattle.std.proofs.Common.{◌≡◌, ◌⊎◌, inl, inr, List, [], ◌∷◌, ◌++◌, Some, None, refl, ap, ◌∙◌, sym, subst}
use Rattle.std.proofs.lemmas.List.{append-nil, append_assoc}
use Rattle.pv_tree.specs.Tree.{ExprTree, StmtTree, StmtTrees, if_, case_, for_, while_, repeat_, exit_, continue_, return_, empty_}
use Rattle.pv_tree.specs.View.{stmts_of, arms_of, branches_of, else_of}
use Rattle.pv_tree.specs.Lexemes.{Lexeme, ◌⨾◌, IsSign, IsWord, word}
use Rattle.pv_tree.specs.Literals.{SpellsLiteral}
use Rattle.pv_tree.specs.Expressions.{SpellsExpr}
use Rattle.pv_tree.specs.Statements.{SpellsStmt, SpellsEnd, SpellsStmts, SpellsArms, IsFormedStmt, AreFormedArms}
use Rattle.pv_ll.specs.Meaning.DoesAll.{nil, tok, val}
use Rattle.pv_parse.specs.CodeItems.{ArmTree, statement, statements, conditions, otherwise, stepping}
use Rattle.pv_parse.specs.Items.{code}
use Rattle.pv_parse.specs.StmtDeeds.{single_of}
use Rattle.pv_parse.proofs.ForCallers.{Sure, lexemes, a_word, a_firm, a_root, walks, an_expr, a_literal_of, codes, bare, top_stmts, top_arms, Unended, Ended, Listed, goes_word, goes_hash, assigns, an_unended, an_ended, goes_item, a_list, adds_stmts, an_arm, adds_arms, an_else_of, a_by_of, a_branching, last, parted, single, single_at, led, joined}
use Rattle.pv_parse_stmt.proofs.ForCallers.{target_to, area_target, word_target, firm_target, word_callee, firm_callee, single-exit, single-continue, single-return}
use Rattle.pv_scl_parse.specs.OwnNames as n
use Rattle.pv_scl_parse.specs.OwnBodies as b
use Rattle.pv_scl_parse.proofs.SclSorts.{Lawful}
use Rattle.pv_scl_parse.proofs.Facts as fact
use Rattle.pv_scl_parse.proofs.Groups.{two}

-- ---- lists

-- a list behind another
pub lists_append : (xs ys : List StmtTree) (us vs ws : List Lexeme) → Listed xs us → Listed ys vs → ws ≡ us ++ vs → Listed (xs ++ ys) ws
lists_append [] ys us vs ws g h e = subst (λ (z : List Lexeme). Listed ys z) (sym (e ∙ ap (λ (z : List Lexeme). z ++ vs) g.spelled)) h
lists_append (x ∷ xs) ys us vs ws g h e =
    let d = g.spelled in
    let q = d.behind in
    let rest : Listed (xs ++ ys) (q.back ++ vs) =
    lists_append xs ys q.back vs (q.back ++ vs) (record { spelled = q.behind; formed = g.formed.1 }) h refl in
    record {
      spelled = joined d.front (d.back ++ vs) ws (e ∙ ap (λ (z : List Lexeme). z ++ vs) d.parts ∙ append_assoc d.front d.back vs) d.in_front
          (joined q.front (q.back ++ vs) (d.back ++ vs) (ap (λ (z : List Lexeme). z ++ vs) q.parts ∙ append_assoc q.front q.back vs) q.in_front rest.spelled);
      formed = (g.formed.0, rest.formed);
    }

-- one statement
pub one_listed : (x : StmtTree) (ts : List Lexeme) → Ended x ts → Listed (x ∷ []) ts
one_listed x ts h =
    let d = h.spelled in
    record {
      spelled = joined d.front d.back ts d.parts d.in_front (joined d.back [] d.back (sym (append-nil d.back)) d.behind refl);
      formed = (h.formed, tt);
    }

-- a statement with its `;`
pub with_end : (x : StmtTree) (t : Lexeme) (us ws : List Lexeme) → Unended x us → IsSign ";" t → ws ≡ us ++ t ∷ [] → Ended x ws
with_end x t us ws h i e = record { spelled = joined us (t ∷ []) ws e h.spelled (h.ends t i); formed = h.formed }

pub list_1 : Lawful b.list_1 n.list b.list_1_body
list_1 s inner ws u (val {us = us} {ts = rest} (codes (a_list l g)) (val {us = vs} (codes (adds_stmts {s = below} _ new after h j)) nil e) q) = record {
  after = code (statements after) ∷ below;
  makes = refl;
  mean = codes (a_list after (subst (λ (z : List StmtTree). Listed z (lexemes ws)) (sym j)
      (lists_append l new (lexemes us) (lexemes vs) (lexemes ws) g h (two ws us rest vs q e))));
}

pub new_list_1 : Lawful b.new_list_1 n.new_list b.new_list_1_body
new_list_1 s inner ws u nil = record {
  after = code (statements []) ∷ s;
  makes = refl;
  mean = codes (a_list [] (record { spelled = refl; formed = tt }));
}

pub items_1 : Lawful b.items_1 n.items b.items_1_body
items_1 s inner ws u (val {us = us} {ts = rest} (codes (adds_stmts {s = below} before new mid g j)) (val {us = vs} (codes (adds_stmts _ more after h k)) nil e) q) = record {
  after = code (statements after) ∷ below;
  makes = refl;
  mean = codes (adds_stmts before (new ++ more) after (lists_append new more (lexemes us) (lexemes vs) (lexemes ws) g h (two ws us rest vs q e))
      (k ∙ ap (λ (z : List StmtTree). z ++ more) j ∙ append_assoc before new more));
}

pub items_2 : Lawful b.items_2 n.items b.items_2_body
items_2 s inner ws (top_stmts {s = below} l bare) nil = record {
  after = code (statements l) ∷ below;
  makes = refl;
  mean = codes (adds_stmts l [] l (record { spelled = refl; formed = tt }) (sym (append-nil l)));
}

pub item_1 : Lawful b.item_1 n.item b.item_1_body
item_1 s inner ws (top_stmts {s = below} l bare) (val {us = us} (codes (an_ended x h)) nil q) = record {
  after = code (statements (l ++ x ∷ [])) ∷ below;
  makes = refl;
  mean = codes (adds_stmts l (x ∷ []) (l ++ x ∷ []) (subst (λ (z : List Sure). Listed (x ∷ []) (lexemes z)) (sym (last ws us q)) (one_listed x (lexemes us) h)) refl);
}

pub item_2 : Lawful b.item_2 n.item b.item_2_body
item_2 s inner ws (top_stmts {s = below} l bare) (val {us = us} {ts = rest} (a_word y at g f) (val {us = vs} (codes (goes_item _ x h)) nil e) q) = record {
  after = code (statements (l ++ x ∷ [])) ∷ below;
  makes = refl;
  mean = codes (adds_stmts l (x ∷ []) (l ++ x ∷ []) (subst (λ (z : List Lexeme). Listed (x ∷ []) z) (sym (two ws us rest vs q e))
      (one_listed x (lexemes us ++ lexemes vs) (h (lexemes us) (word_target y at (lexemes us) g f) (word_callee y at (lexemes us) g f)))) refl);
}

-- ---- statements

pub firm_item_1 : Lawful b.firm_item_1 n.firm_item b.firm_item_1_body
firm_item_1 s inner ws u (tok {t = t} i nil) = record {
  after = code (statement (empty_ t.lexeme.place)) ∷ s;
  makes = refl;
  mean = codes (an_ended (empty_ t.lexeme.place) (record { spelled = joined [] (t.lexeme ∷ []) (t.lexeme ∷ []) refl refl (single_at t.lexeme (fact.semicolon t i)); formed = tt }));
}

pub firm_item_2 : Lawful b.firm_item_2 n.firm_item b.firm_item_2_body
firm_item_2 s inner ws u (val {us = us} {ts = rest} (codes (an_unended {s = below} x h)) (tok {t = t} i nil) q) = record {
  after = code (statement x) ∷ below;
  makes = refl;
  mean = codes (an_ended x (with_end x t.lexeme (lexemes us) (lexemes ws) h (fact.semicolon t i) (parted ws us (t ∷ []) q)));
}

pub word_item_1 : Lawful b.word_item_1 n.word_item b.word_item_1_body
word_item_1 s inner ws u (val {us = us} (codes (goes_word {s = below} p m h)) (tok {t = t} i nil) q) = record {
  after = code (statement m) ∷ below;
  makes = refl;
  mean = codes (goes_item p m (λ xs g k. with_end m t.lexeme (xs ++ lexemes us) (xs ++ lexemes ws) (h xs g k) (fact.semicolon t i)
      (ap (λ (z : List Lexeme). xs ++ z) (parted ws us (t ∷ []) q) ∙ sym (append_assoc xs (lexemes us) (t.lexeme ∷ [])))));
}

pub other_statement_1 : Lawful b.other_statement_1 n.other_statement b.other_statement_1_body
other_statement_1 s inner ws u (tok {t = t} i (val {us = us} {ws = all} (codes (goes_hash {s = below} _ m h)) nil q)) = record {
  after = code (statement m) ∷ below;
  makes = refl;
  mean = codes (an_unended m (subst (λ (z : List Sure). Unended m (t.lexeme ∷ lexemes z)) (sym (last all us q)) (h (fact.hash t i))));
}

pub other_statement_2 : Lawful b.other_statement_2 n.other_statement b.other_statement_2_body
other_statement_2 s inner ws u (val {us = us} {ts = rest} (a_firm x at g f) (val {us = vs} (codes (goes_word {s = below} _ m h)) nil e) q) = record {
  after = code (statement m) ∷ below;
  makes = refl;
  mean = codes (an_unended m (subst (λ (z : List Lexeme). Unended m z) (sym (two ws us rest vs q e))
      (h (lexemes us) (firm_target x at (lexemes us) g) (firm_callee x at (lexemes us) g f))));
}

pub other_statement_3 : Lawful b.other_statement_3 n.other_statement b.other_statement_3_body
other_statement_3 s inner ws u (val {us = us} {ts = rest} (a_root r at g f) (val {us = vs} {ts = more} (walks _ _ before new after j k l) (val {us = xs} (codes (assigns {s = below} _ x h)) nil e) d) q) = record {
  after = code (statement x) ∷ below;
  makes = refl;
  mean = codes (an_unended x (subst (λ (z : List Lexeme). Unended x z)
      (sym (parted ws us rest q ∙ ap (λ (z : List Lexeme). lexemes us ++ z) (two rest vs more xs d e) ∙ sym (append_assoc (lexemes us) (lexemes vs) (lexemes xs))))
      (h (lexemes us ++ lexemes vs) (target_to r at before new after (lexemes us) (lexemes vs) (lexemes us ++ lexemes vs) (area_target r at (lexemes us) g f) j k l refl))));
}

-- a statement whose first token is its word, and that `;` alone doesn't spell
unended_by : (x : StmtTree) (ts : List Lexeme) → SpellsStmt x ts → IsFormedStmt x → ((t : Lexeme) → IsSign ";" t → SpellsEnd x (t ∷ [])) → Unended x ts
unended_by x ts h f e = record { spelled = h; formed = f; ends = e }

-- an arm before others
arm_before : (c : ExprTree) (l : StmtTrees) (new : List ArmTree) (us vs : List Lexeme) → (SpellsExpr c ⨾ word "THEN" ⨾ SpellsStmts l) us
    → SpellsArms None (arms_of new) vs → (SpellsExpr c ⨾ word "THEN" ⨾ SpellsStmts l ⨾ SpellsArms None (arms_of new)) (us ++ vs)
arm_before c l new us vs g h =
    let d = g.behind in
    let e = d.behind in
    joined g.front (g.back ++ vs) (us ++ vs) (ap (λ (z : List Lexeme). z ++ vs) g.parts ∙ append_assoc g.front g.back vs) g.in_front
    (joined d.front (d.back ++ vs) (g.back ++ vs) (ap (λ (z : List Lexeme). z ++ vs) d.parts ∙ append_assoc d.front d.back vs) d.in_front
    (joined d.back vs (d.back ++ vs) refl e h))

pub other_statement_4 : Lawful b.other_statement_4 n.other_statement b.other_statement_4_body
other_statement_4 s inner ws u (tok {t = t} i (val {us = us} {ts = r1} {ws = w1} (codes (an_arm c l g f k)) (val {us = vs} {ts = r2} (codes (adds_arms _ new after h m j)) (val {us = xs} {ts = r3} (codes (an_else_of o d z)) (tok {t = c2} i2 nil) q3) q2) q1)) = record {
  after = code (statement (if_ (arms_of after) (else_of o) t.lexeme.place)) ∷ s;
  makes = refl;
  mean = codes (an_unended (if_ (arms_of after) (else_of o) t.lexeme.place)
      (subst (λ (y : List ArmTree). Unended (if_ (arms_of y) (else_of o) t.lexeme.place) (t.lexeme ∷ lexemes w1)) (sym j)
      (unended_by (if_ (arms_of ((c, l) ∷ new)) (else_of o) t.lexeme.place) (t.lexeme ∷ lexemes w1)
      (joined (t.lexeme ∷ (lexemes us ++ lexemes vs)) (lexemes xs ++ c2.lexeme ∷ []) (t.lexeme ∷ lexemes w1)
      (ap (λ (y : List Lexeme). t.lexeme ∷ y) (parted w1 us r1 q1 ∙ ap (λ (y : List Lexeme). lexemes us ++ y)
      (parted r1 vs r2 q2 ∙ ap (λ (y : List Lexeme). lexemes vs ++ y) (parted r2 xs (c2 ∷ []) q3))
      ∙ sym (append_assoc (lexemes us) (lexemes vs) (lexemes xs ++ c2.lexeme ∷ []))))
      (led t.lexeme (lexemes us ++ lexemes vs) (single_at t.lexeme (fact.if_word t i)) (arm_before c l new (lexemes us) (lexemes vs) g h))
      (joined (lexemes xs) (c2.lexeme ∷ []) (lexemes xs ++ c2.lexeme ∷ []) refl d (single c2.lexeme (fact.end_if c2 i2))))
      ((f, k, m), z) (λ y v. single y v))));
}

pub other_statement_5 : Lawful b.other_statement_5 n.other_statement b.other_statement_5_body
other_statement_5 s inner ws u (tok {t = t} i (val {us = us} {ts = r1} {ws = w1} (an_expr e a) (tok {t = c1} i1 (val {us = vs} {ts = r2} {ws = w2} (codes (a_branching l h)) (val {us = xs} {ts = r3} (codes (an_else_of o d z)) (tok {t = c2} i2 nil) q3) q2)) q1)) = record {
  after = code (statement (case_ e (branches_of l) (else_of o) t.lexeme.place)) ∷ s;
  makes = refl;
  mean = codes (an_unended (case_ e (branches_of l) (else_of o) t.lexeme.place)
      (unended_by (case_ e (branches_of l) (else_of o) t.lexeme.place) (t.lexeme ∷ lexemes w1)
      (led t.lexeme (lexemes w1) (single_at t.lexeme (fact.case_word t i)) (joined (lexemes us) (c1.lexeme ∷ lexemes w2) (lexemes w1) (parted w1 us (c1 ∷ w2) q1) a.spelled
      (led c1.lexeme (lexemes w2) (single c1.lexeme (fact.of_word c1 i1)) (joined (lexemes vs) (lexemes r2) (lexemes w2) (parted w2 vs r2 q2) h.spelled
      (joined (lexemes xs) (c2.lexeme ∷ []) (lexemes r2) (parted r2 xs (c2 ∷ []) q3) d (single c2.lexeme (fact.end_case c2 i2)))))))
      (a.formed, h.formed, z) (λ y v. single y v)));
}

pub other_statement_6 : Lawful b.other_statement_6 n.other_statement b.other_statement_6_body
other_statement_6 s inner ws u (tok {t = t} i (val {us = us} {ts = r1} {ws = w1} (a_word x at g f) (tok {t = c1} i1 (val {us = vs} {ws = w2} (an_expr e a)
    (tok {t = c2} i2 (val {us = xs} {ts = r3} {ws = w3} (an_expr e2 a2) (val {us = ys} {ws = w4} (codes (a_by_of o d))
    (tok {t = c3} i3 (val {us = zs} {ws = w5} (codes (a_list l h)) (tok {t = c4} i4 nil) q5)) q4) q3)) q2)) q1)) = record {
      after = code (statement (for_ x at e e2 o (stmts_of l) t.lexeme.place)) ∷ s;
      makes = refl;
      mean = codes (an_unended (for_ x at e e2 o (stmts_of l) t.lexeme.place)
          (unended_by (for_ x at e e2 o (stmts_of l) t.lexeme.place) (t.lexeme ∷ lexemes w1)
          (led t.lexeme (lexemes w1) (single_at t.lexeme (fact.for_word t i)) (joined (lexemes us) (c1.lexeme ∷ lexemes w2) (lexemes w1) (parted w1 us (c1 ∷ w2) q1) g
          (led c1.lexeme (lexemes w2) (single c1.lexeme (fact.assign c1 i1)) (joined (lexemes vs) (c2.lexeme ∷ lexemes w3) (lexemes w2) (parted w2 vs (c2 ∷ w3) q2) a.spelled
          (led c2.lexeme (lexemes w3) (single c2.lexeme (fact.to_word c2 i2)) (joined (lexemes xs) (lexemes w4) (lexemes w3) (parted w3 xs w4 q3) a2.spelled
          (joined (lexemes ys) (c3.lexeme ∷ lexemes w5) (lexemes w4) (parted w4 ys (c3 ∷ w5) q4) d
          (led c3.lexeme (lexemes w5) (single c3.lexeme (fact.do_word c3 i3)) (joined (lexemes zs) (c4.lexeme ∷ []) (lexemes w5) (parted w5 zs (c4 ∷ []) q5) h.spelled
          (single c4.lexeme (fact.end_for c4 i4)))))))))))
          (f, a.formed, a2.formed, h.formed) (λ y v. single y v)));
    }

pub other_statement_7 : Lawful b.other_statement_7 n.other_statement b.other_statement_7_body
other_statement_7 s inner ws u (tok {t = t} i (val {us = us} {ws = w1} (an_expr e a) (tok {t = c1} i1 (val {us = vs} {ws = w2} (codes (a_list l h)) (tok {t = c2} i2 nil) q2)) q1)) = record {
  after = code (statement (while_ e (stmts_of l) t.lexeme.place)) ∷ s;
  makes = refl;
  mean = codes (an_unended (while_ e (stmts_of l) t.lexeme.place)
      (unended_by (while_ e (stmts_of l) t.lexeme.place) (t.lexeme ∷ lexemes w1)
      (led t.lexeme (lexemes w1) (single_at t.lexeme (fact.while_word t i)) (joined (lexemes us) (c1.lexeme ∷ lexemes w2) (lexemes w1) (parted w1 us (c1 ∷ w2) q1) a.spelled
      (led c1.lexeme (lexemes w2) (single c1.lexeme (fact.do_word c1 i1)) (joined (lexemes vs) (c2.lexeme ∷ []) (lexemes w2) (parted w2 vs (c2 ∷ []) q2) h.spelled
      (single c2.lexeme (fact.end_while c2 i2))))))
      (a.formed, h.formed) (λ y v. single y v)));
}

pub other_statement_8 : Lawful b.other_statement_8 n.other_statement b.other_statement_8_body
other_statement_8 s inner ws u (tok {t = t} i (val {us = vs} {ws = w1} (codes (a_list l h)) (tok {t = c1} i1 (val {us = us} {ws = w2} (an_expr e a) (tok {t = c2} i2 nil) q2)) q1)) = record {
  after = code (statement (repeat_ (stmts_of l) e t.lexeme.place)) ∷ s;
  makes = refl;
  mean = codes (an_unended (repeat_ (stmts_of l) e t.lexeme.place)
      (unended_by (repeat_ (stmts_of l) e t.lexeme.place) (t.lexeme ∷ lexemes w1)
      (led t.lexeme (lexemes w1) (single_at t.lexeme (fact.repeat_word t i)) (joined (lexemes vs) (c1.lexeme ∷ lexemes w2) (lexemes w1) (parted w1 vs (c1 ∷ w2) q1) h.spelled
      (led c1.lexeme (lexemes w2) (single c1.lexeme (fact.until_word c1 i1)) (joined (lexemes us) (c2.lexeme ∷ []) (lexemes w2) (parted w2 us (c2 ∷ []) q2) a.spelled
      (single c2.lexeme (fact.end_repeat c2 i2))))))
      (h.formed, a.formed) (λ y v. single y v)));
}

-- EXIT, CONTINUE and RETURN by their texts
single_means : (t : Lexeme) → IsWord "EXIT" t ⊎ (IsWord "CONTINUE" t ⊎ IsWord "RETURN" t) → Unended (single_of t.bytes t.place) (t ∷ [])
single_means t (inl h) = subst (λ (x : StmtTree). Unended x (t ∷ [])) (sym (single-exit t h))
    (unended_by (exit_ t.place) (t ∷ []) (single_at t h) tt (λ y v. single y v))
single_means t (inr (inl h)) = subst (λ (x : StmtTree). Unended x (t ∷ [])) (sym (single-continue t h))
    (unended_by (continue_ t.place) (t ∷ []) (single_at t h) tt (λ y v. single y v))
single_means t (inr (inr h)) = subst (λ (x : StmtTree). Unended x (t ∷ [])) (sym (single-return t h))
    (unended_by (return_ t.place) (t ∷ []) (single_at t h) tt (λ y v. single y v))

pub other_statement_9 : Lawful b.other_statement_9 n.other_statement b.other_statement_9_body
other_statement_9 s inner ws u (tok {t = t} i nil) = record {
  after = code (statement (single_of t.lexeme.bytes t.lexeme.place)) ∷ s;
  makes = refl;
  mean = codes (an_unended (single_of t.lexeme.bytes t.lexeme.place) (single_means t.lexeme (fact.single_word t i)));
}

-- ---- parts of IF and FOR

pub first_arm_1 : Lawful b.first_arm_1 n.first_arm b.first_arm_1_body
first_arm_1 s inner ws u (val {us = us} {ws = w1} (an_expr e a) (tok {t = t} i (val {us = vs} {ws = w2} (codes (a_list l h)) nil q2)) q1) = record {
  after = code (conditions ((e, stmts_of l) ∷ [])) ∷ s;
  makes = refl;
  mean = codes (an_arm e (stmts_of l) (joined (lexemes us) (t.lexeme ∷ lexemes w2) (lexemes ws) (parted ws us (t ∷ w2) q1) a.spelled
      (led t.lexeme (lexemes w2) (single t.lexeme (fact.then_word t i)) (subst (λ (z : List Sure). SpellsStmts (stmts_of l) (lexemes z)) (sym (last w2 vs q2)) h.spelled)))
      a.formed h.formed);
}

-- arms behind others
arms_append : (xs ys : List ArmTree) (us vs ws : List Lexeme) → SpellsArms None (arms_of xs) us → SpellsArms None (arms_of ys) vs → ws ≡ us ++ vs
    → SpellsArms None (arms_of (xs ++ ys)) ws
arms_append [] ys us vs ws g h e = subst (λ (z : List Lexeme). SpellsArms None (arms_of ys) z) (sym (e ∙ ap (λ (z : List Lexeme). z ++ vs) g)) h
arms_append (x ∷ xs) ys us vs ws g h e =
    let a = g.behind in
    let b = a.behind in
    let c = b.behind in
    joined g.front (g.back ++ vs) ws (e ∙ ap (λ (z : List Lexeme). z ++ vs) g.parts ∙ append_assoc g.front g.back vs) g.in_front
    (joined a.front (a.back ++ vs) (g.back ++ vs) (ap (λ (z : List Lexeme). z ++ vs) a.parts ∙ append_assoc a.front a.back vs) a.in_front
    (joined b.front (b.back ++ vs) (a.back ++ vs) (ap (λ (z : List Lexeme). z ++ vs) b.parts ∙ append_assoc b.front b.back vs) b.in_front
    (joined c.front (c.back ++ vs) (b.back ++ vs) (ap (λ (z : List Lexeme). z ++ vs) c.parts ∙ append_assoc c.front c.back vs) c.in_front
    (arms_append xs ys c.back vs (c.back ++ vs) c.behind h refl))))

arms_formed : (xs ys : List ArmTree) → AreFormedArms (arms_of xs) → AreFormedArms (arms_of ys) → AreFormedArms (arms_of (xs ++ ys))
arms_formed [] ys g h = h
arms_formed (x ∷ xs) ys g h = (g.0, g.1, arms_formed xs ys g.2 h)

pub elsifs_1 : Lawful b.elsifs_1 n.elsifs b.elsifs_1_body
elsifs_1 s inner ws u (val {us = us} {ts = rest} (codes (adds_arms {s = below} before new mid g f j)) (val {us = vs} (codes (adds_arms _ more after h k l)) nil e) q) = record {
  after = code (conditions after) ∷ below;
  makes = refl;
  mean = codes (adds_arms before (new ++ more) after (arms_append new more (lexemes us) (lexemes vs) (lexemes ws) g h (two ws us rest vs q e)) (arms_formed new more f k)
      (l ∙ ap (λ (z : List ArmTree). z ++ more) j ∙ append_assoc before new more));
}

pub elsifs_2 : Lawful b.elsifs_2 n.elsifs b.elsifs_2_body
elsifs_2 s inner ws (top_arms {s = below} l bare) nil = record {
  after = code (conditions l) ∷ below;
  makes = refl;
  mean = codes (adds_arms l [] l refl tt (sym (append-nil l)));
}

pub elsif_1 : Lawful b.elsif_1 n.elsif b.elsif_1_body
elsif_1 s inner ws (top_arms {s = below} m bare) (tok {t = t} i (val {us = us} {ws = w1} (an_expr e a) (tok {t = c} j (val {us = vs} {ws = w2} (codes (a_list l h)) nil q2)) q1)) = record {
  after = code (conditions (m ++ (e, stmts_of l) ∷ [])) ∷ below;
  makes = refl;
  mean = codes (adds_arms m ((e, stmts_of l) ∷ []) (m ++ (e, stmts_of l) ∷ [])
      (led t.lexeme (lexemes w1) (single t.lexeme (fact.elsif_word t i)) (joined (lexemes us) (c.lexeme ∷ lexemes w2) (lexemes w1) (parted w1 us (c ∷ w2) q1) a.spelled
      (led c.lexeme (lexemes w2) (single c.lexeme (fact.then_word c j)) (joined (lexemes vs) [] (lexemes w2) (parted w2 vs [] q2) h.spelled refl))))
      (a.formed, h.formed, tt) refl);
}

pub maybe_else_1 : Lawful b.maybe_else_1 n.maybe_else b.maybe_else_1_body
maybe_else_1 s inner ws u (tok {t = t} i (val {us = us} {ws = w1} (codes (a_list l h)) nil q)) = record {
  after = code (otherwise (Some (stmts_of l))) ∷ s;
  makes = refl;
  mean = codes (an_else_of (Some (stmts_of l)) (led t.lexeme (lexemes w1) (single t.lexeme (fact.else_word t i))
      (subst (λ (z : List Sure). SpellsStmts (stmts_of l) (lexemes z)) (sym (last w1 us q)) h.spelled)) h.formed);
}

pub maybe_else_2 : Lawful b.maybe_else_2 n.maybe_else b.maybe_else_2_body
maybe_else_2 s inner ws u nil = record {
  after = code (otherwise None) ∷ s;
  makes = refl;
  mean = codes (an_else_of None refl tt);
}

pub maybe_by_1 : Lawful b.maybe_by_1 n.maybe_by b.maybe_by_1_body
maybe_by_1 s inner ws u (tok {t = t} i (val {us = us} {ws = w1} (a_literal_of l h) nil q)) = record {
  after = code (stepping (Some l)) ∷ s;
  makes = refl;
  mean = codes (a_by_of (Some l) (led t.lexeme (lexemes w1) (single t.lexeme (fact.by_word t i)) (subst (λ (z : List Sure). SpellsLiteral l (lexemes z)) (sym (last w1 us q)) h)));
}

pub maybe_by_2 : Lawful b.maybe_by_2 n.maybe_by b.maybe_by_2_body
maybe_by_2 s inner ws u nil = record {
  after = code (stepping None) ∷ s;
  makes = refl;
  mean = codes (a_by_of None refl);
}
