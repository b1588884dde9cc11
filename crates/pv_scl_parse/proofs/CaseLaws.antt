-- Laws of the productions of CASE: labels and statements in one list.
use Rattle.std.proofs.Common.{◌≡◌, inl, inr, List, [], ◌∷◌, ◌++◌, All, Option, Some, None, refl, ap, ◌∙◌, sym, subst}
use Rattle.std.proofs.lemmas.List.{append-nil, append_assoc}
use Rattle.std.proofs.lemmas.List.Elements.{All-nil, All-cons, All-append}
use Rattle.pv_tree.specs.declared.stmt.Choice.{Choice}
use Rattle.pv_tree.specs.declared.stmt.Choice.TheVariants as of
use Rattle.pv_tree.specs.Tree.{Choices, StmtTree, no_stmts}
use Rattle.pv_tree.specs.View.{stmts_of}
use Rattle.pv_tree.specs.Lexemes.{Lexeme, IsSign, each_behind}
use Rattle.pv_tree.specs.Words.{SpellsWord}
use Rattle.pv_tree.specs.Literals.{SpellsLiteral}
use Rattle.pv_tree.specs.Statements.{SpellsChoice, SpellsUpTo, SpellsRange, SpellsStmts, IsFormedChoice, IsFormedUpTo, IsFormedRange, AreFormedStmts}
use Rattle.pv_ll.specs.Meaning.DoesAll.{nil, tok, val}
use Rattle.pv_parse.specs.CodeItems.{BranchTree, statements, otherwise, choice, choices, cases}
use Rattle.pv_parse.specs.Items.{code}
use Rattle.pv_parse.specs.CallDeeds.{named_of}
use Rattle.pv_parse.proofs.ForCallers.{Sure, lexemes, a_word, a_literal_of, codes, bare, top_token, top_path, top_stmts, top_choice, top_choices, top_branches, Ended, Listed, Labelled, Cased, closed, an_ended, goes_item, a_list, an_else_of, a_colon, a_choice_of, marks_choice, a_first_range, a_next_range, adds_choices, goes_label, a_label_of, a_branching, goes_case, goes_case_word, last, parted, single, led, joined}
use Rattle.pv_parse_stmt.proofs.ForCallers.{word_path, word_target, word_callee, behind_append, one_behind}
use Rattle.pv_scl_parse.specs.OwnNames as n
use Rattle.pv_scl_parse.specs.OwnBodies as b
use Rattle.pv_scl_parse.proofs.SclSorts.{Lawful}
use Rattle.pv_scl_parse.proofs.Facts as fact
use Rattle.pv_scl_parse.proofs.Groups.{two, regroup}
use Rattle.pv_scl_parse.proofs.StmtLaws.{lists_append, one_listed}

-- ---- labels

pub choice_1 : Lawful b.choice_1 n.choice b.choice_1_body
choice_1 s inner ws u (val {us = us} (codes (a_choice_of x h f)) nil q) = record {
  after = code (choice x) ∷ s;
  makes = refl;
  mean = codes (a_choice_of x (subst (λ (z : List Sure). SpellsChoice x (lexemes z)) (sym (last ws us q)) h) f);
}

pub choice_2 : Lawful b.choice_2 n.choice b.choice_2_body
choice_2 s inner ws u (val {us = us} {ts = rest} (a_word y at g f) (val (codes (marks_choice p)) nil e) q) = record {
  after = code (choice (of.Const y at)) ∷ s;
  makes = refl;
  mean = codes (a_choice_of (of.Const y at) (subst (λ (z : List Sure). SpellsWord y at (lexemes z)) (sym (q ∙ ap (λ (z : List Sure). us ++ z) e ∙ append-nil us)) g) f);
}

pub literal_choice_1 : Lawful b.literal_choice_1 n.literal_choice b.literal_choice_1_body
literal_choice_1 s inner ws u (val {us = us} (a_literal_of l h) nil q) = record {
  after = code (choice (of.Lit l)) ∷ s;
  makes = refl;
  mean = codes (a_choice_of (of.Lit l) (subst (λ (z : List Sure). SpellsLiteral l (lexemes z)) (sym (last ws us q)) h) tt);
}

pub word_choice_1 : Lawful b.word_choice_1 n.word_choice b.word_choice_1_body
word_choice_1 s inner ws (top_path {s = below} p bare) nil = record {
  after = code (choice (of.Const (named_of p).0 (named_of p).1)) ∷ below;
  makes = refl;
  mean = codes (marks_choice p);
}

pub first_range_1 : Lawful b.first_range_1 n.first_range b.first_range_1_body
first_range_1 s inner ws (top_choice {s = below} x bare) (tok {t = t} i (val {us = us} {ws = all} (codes (a_choice_of y h f)) nil q)) = record {
  after = code (choices ((x, Some y) ∷ [])) ∷ below;
  makes = refl;
  mean = codes (a_first_range x (Some y) (led t.lexeme (lexemes all) (single t.lexeme (fact.dots t i))
      (subst (λ (z : List Sure). SpellsChoice y (lexemes z)) (sym (last all us q)) h)) f);
}

pub first_range_2 : Lawful b.first_range_2 n.first_range b.first_range_2_body
first_range_2 s inner ws (top_choice {s = below} x bare) nil = record {
  after = code (choices ((x, None) ∷ [])) ∷ below;
  makes = refl;
  mean = codes (a_first_range x None refl tt);
}

pub next_range_1 : Lawful b.next_range_1 n.next_range b.next_range_1_body
next_range_1 s inner ws (top_choice x (top_token d (top_choices {s = below} l bare))) (tok {t = t} i (val {us = us} {ws = all} (codes (a_choice_of y h f)) nil q)) = record {
  after = code (choices (l ++ (x, Some y) ∷ [])) ∷ below;
  makes = refl;
  mean = codes (a_next_range x d l (Some y) (led t.lexeme (lexemes all) (single t.lexeme (fact.dots t i))
      (subst (λ (z : List Sure). SpellsChoice y (lexemes z)) (sym (last all us q)) h)) f);
}

pub next_range_2 : Lawful b.next_range_2 n.next_range b.next_range_2_body
next_range_2 s inner ws (top_choice x (top_token d (top_choices {s = below} l bare))) nil = record {
  after = code (choices (l ++ (x, None) ∷ [])) ∷ below;
  makes = refl;
  mean = codes (a_next_range x d l None refl tt);
}

pub next_choice_1 : Lawful b.next_choice_1 n.next_choice b.next_choice_1_body
next_choice_1 s inner ws u (tok {t = t} i (val {us = us} {ts = rest} {ws = all} (codes (a_choice_of x g f)) (val {us = vs} (codes (a_next_range {s = below} _ d l upper h k)) nil e) q)) = record {
  after = code (choices (l ++ (x, upper) ∷ [])) ∷ below;
  makes = refl;
  mean = codes (adds_choices l ((x, upper) ∷ []) (l ++ (x, upper) ∷ [])
      (one_behind SpellsRange (x, upper) t.lexeme (lexemes all) (single t.lexeme (fact.comma t i))
      (joined (lexemes us) (lexemes vs) (lexemes all) (two all us rest vs q e) g h))
      (All-cons IsFormedRange (x, upper) [] (f, k) (All-nil IsFormedRange)) refl);
}

pub more_choices_1 : Lawful b.more_choices_1 n.more_choices b.more_choices_1_body
more_choices_1 s inner ws u (val {us = us} {ts = rest} (codes (adds_choices {s = below} before new mid g f j)) (val {us = vs} (codes (adds_choices _ more after h k l)) nil e) q) = record {
  after = code (choices after) ∷ below;
  makes = refl;
  mean = codes (adds_choices before (new ++ more) after (behind_append SpellsRange new more (lexemes us) (lexemes vs) (lexemes ws) g h (two ws us rest vs q e))
      (All-append IsFormedRange new more f k) (l ∙ ap (λ (z : Choices). z ++ more) j ∙ append_assoc before new more));
}

pub more_choices_2 : Lawful b.more_choices_2 n.more_choices b.more_choices_2_body
more_choices_2 s inner ws (top_choices {s = below} l bare) nil = record {
  after = code (choices l) ∷ below;
  makes = refl;
  mean = codes (adds_choices l [] l refl (All-nil IsFormedRange) (sym (append-nil l)));
}

-- a label from its first value on
labelled_by : (x : Choice) (upper : Option Choice) (new after : Choices) (t : Lexeme) (xs us vs ws : List Lexeme) → SpellsChoice x xs → IsFormedChoice x
    → SpellsUpTo upper us → IsFormedUpTo upper → each_behind SpellsRange new vs → All IsFormedRange new → after ≡ (x, upper) ∷ [] ++ new → IsSign ":" t
    → ws ≡ us ++ (vs ++ t ∷ []) → Labelled after (xs ++ ws)
labelled_by x upper new after t xs us vs ws a b g f h k j i q =
    subst (λ (z : Choices). Labelled z (xs ++ ws)) (sym j)
    (record {
      spelled = joined ((xs ++ us) ++ vs) (t ∷ []) (xs ++ ws)
          (ap (λ (z : List Lexeme). xs ++ z) q ∙ sym (append_assoc xs us (vs ++ t ∷ [])) ∙ sym (append_assoc (xs ++ us) vs (t ∷ [])))
          (joined (xs ++ us) vs ((xs ++ us) ++ vs) refl (joined xs us (xs ++ us) refl a g) h) (single t i);
      formed = All-cons IsFormedRange (x, upper) new (b, f) k;
    })

pub label_rest_1 : Lawful b.label_rest_1 n.label_rest b.label_rest_1_body
label_rest_1 s inner ws u (val {us = us} {ts = rest} (codes (a_first_range {s = below} x upper g f)) (val {us = vs} {ts = more} (codes (adds_choices _ new after h k j)) (tok {t = t} i nil) e) q) = record {
  after = code (choices after) ∷ below;
  makes = refl;
  mean = codes (goes_label x after (λ xs a b. labelled_by x upper new after t.lexeme xs (lexemes us) (lexemes vs) (lexemes ws) a b g f h k j (fact.colon t i)
      (parted ws us rest q ∙ ap (λ (z : List Lexeme). lexemes us ++ z) (parted rest vs (t ∷ []) e))));
}

-- ---- branches

-- the empty list of a new branch
new_cased : (l : Choices) (ts : List Lexeme) → Labelled l ts → Cased ((l, no_stmts) ∷ []) ts
new_cased l ts h =
    let d = h.spelled in
    record {
      spelled = joined d.front d.back ts d.parts d.in_front (joined d.back [] d.back (sym (append-nil d.back)) d.behind (joined [] [] [] refl refl refl));
      formed = (h.formed, tt, tt);
    }

-- branches behind others
cased_append : (xs ys : List BranchTree) (us vs ws : List Lexeme) → Cased xs us → Cased ys vs → ws ≡ us ++ vs → Cased (xs ++ ys) ws
cased_append [] ys us vs ws g h e = subst (λ (z : List Lexeme). Cased ys z) (sym (e ∙ ap (λ (z : List Lexeme). z ++ vs) g.spelled)) h
cased_append (x ∷ xs) ys us vs ws g h e =
    let d = g.spelled in
    let c = d.behind in
    let q = c.behind in
    let rest : Cased (xs ++ ys) (q.back ++ vs) =
    cased_append xs ys q.back vs (q.back ++ vs) (record { spelled = q.behind; formed = g.formed.2 }) h refl in
    record {
      spelled = joined d.front (d.back ++ vs) ws (e ∙ ap (λ (z : List Lexeme). z ++ vs) d.parts ∙ append_assoc d.front d.back vs) d.in_front
          (joined c.front (c.back ++ vs) (d.back ++ vs) (ap (λ (z : List Lexeme). z ++ vs) c.parts ∙ append_assoc c.front c.back vs) c.in_front
          (joined q.front (q.back ++ vs) (c.back ++ vs) (ap (λ (z : List Lexeme). z ++ vs) q.parts ∙ append_assoc q.front q.back vs) q.in_front rest.spelled));
      formed = (g.formed.0, g.formed.1, rest.formed);
    }

-- a statement more in the last branch
stmts_append : (l : List StmtTree) (x : StmtTree) (us vs ws : List Lexeme) → SpellsStmts (stmts_of l) us → AreFormedStmts (stmts_of l) → Ended x vs → ws ≡ us ++ vs
    → Listed (l ++ x ∷ []) ws
stmts_append l x us vs ws g f h e = lists_append l (x ∷ []) us vs ws (record { spelled = g; formed = f }) (one_listed x vs h) e

more_in_last : (a : List BranchTree) (c : Choices) (l : List StmtTree) (x : StmtTree) (us vs ws : List Lexeme) → Cased (closed a c l) us → Ended x vs
    → ws ≡ us ++ vs → Cased (closed a c (l ++ x ∷ [])) ws
more_in_last [] c l x us vs ws g h e =
    let d = g.spelled in
    let k = d.behind in
    let q = k.behind in
    let body : Listed (l ++ x ∷ []) (k.back ++ vs) =
    stmts_append l x q.front vs (k.back ++ vs) q.in_front g.formed.1 h
    (ap (λ (z : List Lexeme). z ++ vs) (q.parts ∙ ap (λ (z : List Lexeme). q.front ++ z) q.behind ∙ append-nil q.front)) in
    record {
      spelled = joined d.front (d.back ++ vs) ws (e ∙ ap (λ (z : List Lexeme). z ++ vs) d.parts ∙ append_assoc d.front d.back vs) d.in_front
          (joined k.front (k.back ++ vs) (d.back ++ vs) (ap (λ (z : List Lexeme). z ++ vs) k.parts ∙ append_assoc k.front k.back vs) k.in_front
          (joined (k.back ++ vs) [] (k.back ++ vs) (sym (append-nil (k.back ++ vs))) body.spelled refl));
      formed = (g.formed.0, body.formed, tt);
    }
more_in_last (y ∷ a) c l x us vs ws g h e =
    let d = g.spelled in
    let k = d.behind in
    let q = k.behind in
    let rest : Cased (closed a c (l ++ x ∷ [])) (q.back ++ vs) =
    more_in_last a c l x q.back vs (q.back ++ vs) (record { spelled = q.behind; formed = g.formed.2 }) h refl in
    record {
      spelled = joined d.front (d.back ++ vs) ws (e ∙ ap (λ (z : List Lexeme). z ++ vs) d.parts ∙ append_assoc d.front d.back vs) d.in_front
          (joined k.front (k.back ++ vs) (d.back ++ vs) (ap (λ (z : List Lexeme). z ++ vs) k.parts ∙ append_assoc k.front k.back vs) k.in_front
          (joined q.front (q.back ++ vs) (k.back ++ vs) (ap (λ (z : List Lexeme). z ++ vs) q.parts ∙ append_assoc q.front q.back vs) q.in_front rest.spelled));
      formed = (g.formed.0, g.formed.1, rest.formed);
    }

pub new_branches_1 : Lawful b.new_branches_1 n.new_branches b.new_branches_1_body
new_branches_1 s inner ws u nil = record {
  after = code (cases []) ∷ s;
  makes = refl;
  mean = codes (a_branching [] (record { spelled = refl; formed = tt }));
}

pub branches_2 : Lawful b.branches_2 n.branches b.branches_2_body
branches_2 s inner ws u nil = record {
  after = code (cases []) ∷ s;
  makes = refl;
  mean = codes (a_branching [] (record { spelled = refl; formed = tt }));
}

pub branches_1 : Lawful b.branches_1 n.branches b.branches_1_body
branches_1 s inner ws u (val {us = us} {ts = rest} (codes (a_branching a g)) (val {us = vs} {ts = more} (codes (a_label_of l _ h)) (val {us = xs} (codes (goes_case {s = below} _ m _ d _ b k)) nil e) r) q) = record {
  after = code (cases (closed b d m)) ∷ below;
  makes = refl;
  mean = codes (a_branching (closed b d m) (subst (λ (z : List Lexeme). Cased (closed b d m) z)
      (sym (parted ws us rest q ∙ ap (λ (z : List Lexeme). lexemes us ++ z) (two rest vs more xs r e) ∙ sym (append_assoc (lexemes us) (lexemes vs) (lexemes xs))))
      (k (lexemes us ++ lexemes vs) (cased_append a ((l, no_stmts) ∷ []) (lexemes us) (lexemes vs) (lexemes us ++ lexemes vs) g (new_cased l (lexemes vs) h) refl))));
}

pub label_1 : Lawful b.label_1 n.label b.label_1_body
label_1 s inner ws (top_branches {s = below} a bare) (val {us = us} {ts = rest} (codes (a_choice_of x g f)) (val {us = vs} (codes (goes_label _ l h)) nil e) q) = record {
  after = code (statements []) ∷ code (choices l) ∷ code (cases a) ∷ below;
  makes = refl;
  mean = codes (a_label_of l a (subst (λ (z : List Lexeme). Labelled l z) (sym (two ws us rest vs q e)) (h (lexemes us) g f)));
}

pub case_items_1 : Lawful b.case_items_1 n.case_items b.case_items_1_body
case_items_1 s inner ws u (val {us = us} {ts = rest} (codes (goes_case {s = below} l m c d a b g)) (val {us = vs} (codes (goes_case _ m2 _ d2 _ b2 h)) nil e) q) = record {
  after = code (statements m2) ∷ code (choices d2) ∷ code (cases b2) ∷ below;
  makes = refl;
  mean = codes (goes_case l m2 c d2 a b2 (λ xs k. regroup (Cased (closed b2 d2 m2)) xs (lexemes us) (lexemes vs) (lexemes ws) (two ws us rest vs q e)
      (h (xs ++ lexemes us) (g xs k))));
}

pub case_items_2 : Lawful b.case_items_2 n.case_items b.case_items_2_body
case_items_2 s inner ws (top_stmts l (top_choices c (top_branches {s = below} a bare))) nil = record {
  after = code (statements l) ∷ code (choices c) ∷ code (cases a) ∷ below;
  makes = refl;
  mean = codes (goes_case l l c c a a (λ xs k. subst (λ (z : List Lexeme). Cased (closed a c l) z) (sym (append-nil xs)) k));
}

pub case_item_1 : Lawful b.case_item_1 n.case_item b.case_item_1_body
case_item_1 s inner ws (top_stmts l (top_choices c (top_branches {s = below} a bare))) (val {us = us} (codes (an_ended x h)) nil q) = record {
  after = code (statements (l ++ x ∷ [])) ∷ code (choices c) ∷ code (cases a) ∷ below;
  makes = refl;
  mean = codes (goes_case l (l ++ x ∷ []) c c a a (λ xs k. more_in_last a c l x xs (lexemes us) (xs ++ lexemes ws) k h
      (ap (λ (z : List Sure). xs ++ lexemes z) (last ws us q))));
}

pub case_item_2 : Lawful b.case_item_2 n.case_item b.case_item_2_body
case_item_2 s inner ws (top_stmts l (top_choices c (top_branches {s = below} a bare))) (val {us = us} {ts = rest} (codes (a_choice_of x g f)) (val {us = vs} (codes (goes_label _ d h)) nil e) q) = record {
  after = code (statements []) ∷ code (choices d) ∷ code (cases (closed a c l)) ∷ below;
  makes = refl;
  mean = codes (goes_case l [] c d a (closed a c l) (λ xs k. cased_append (closed a c l) ((d, no_stmts) ∷ []) xs (lexemes ws) (xs ++ lexemes ws) k
      (new_cased d (lexemes ws) (subst (λ (z : List Lexeme). Labelled d z) (sym (two ws us rest vs q e)) (h (lexemes us) g f))) refl));
}

pub case_item_3 : Lawful b.case_item_3 n.case_item b.case_item_3_body
case_item_3 s inner ws u (val {us = us} {ts = rest} (a_word y at g f) (val {us = vs} (codes (goes_case_word {s = below} _ l m c d a b h)) nil e) q) = record {
  after = code (statements m) ∷ code (choices d) ∷ code (cases b) ∷ below;
  makes = refl;
  mean = codes (goes_case l m c d a b (λ xs k. subst (λ (z : List Lexeme). Cased (closed b d m) (xs ++ z)) (sym (two ws us rest vs q e))
      (h xs (lexemes us) k (word_path y at (lexemes us) g f) (word_target y at (lexemes us) g f) (word_callee y at (lexemes us) g f))));
}

pub after_case_word_1 : Lawful b.after_case_word_1 n.after_case_word b.after_case_word_1_body
after_case_word_1 s inner ws (top_path p (top_stmts l (top_choices c (top_branches {s = below} a bare)))) (val {ts = rest} (codes (marks_choice _)) (val {us = vs} (codes (goes_label _ d h)) nil e) q) = record {
  after = code (statements []) ∷ code (choices d) ∷ code (cases (closed a c l)) ∷ below;
  makes = refl;
  mean = codes (goes_case_word p l [] c d a (closed a c l) (λ xs ys k w t o.
      cased_append (closed a c l) ((d, no_stmts) ∷ []) xs (ys ++ lexemes ws) (xs ++ (ys ++ lexemes ws)) k
      (new_cased d (ys ++ lexemes ws) (subst (λ (z : List Sure). Labelled d (ys ++ lexemes z)) (sym (q ∙ last rest vs e)) (h ys w.word w.free))) refl));
}

pub after_case_word_2 : Lawful b.after_case_word_2 n.after_case_word b.after_case_word_2_body
after_case_word_2 s inner ws (top_path p (top_stmts l (top_choices c (top_branches {s = below} a bare)))) (val {us = us} (codes (goes_item _ x h)) nil q) = record {
  after = code (statements (l ++ x ∷ [])) ∷ code (choices c) ∷ code (cases a) ∷ below;
  makes = refl;
  mean = codes (goes_case_word p l (l ++ x ∷ []) c c a a (λ xs ys k w t o. more_in_last a c l x xs (ys ++ lexemes us) (xs ++ (ys ++ lexemes ws)) k (h ys t o)
      (ap (λ (z : List Sure). xs ++ (ys ++ lexemes z)) (last ws us q))));
}

-- ---- ELSE of a CASE

pub case_else_1 : Lawful b.case_else_1 n.case_else b.case_else_1_body
case_else_1 s inner ws u (tok {t = t} i (val {us = us} {ts = rest} {ws = all} (codes (a_colon g)) (val {us = vs} (codes (a_list l h)) nil e) q)) = record {
  after = code (otherwise (Some (stmts_of l))) ∷ s;
  makes = refl;
  mean = codes (an_else_of (Some (stmts_of l)) (joined (t.lexeme ∷ lexemes us) (lexemes vs) (t.lexeme ∷ lexemes all) (ap (λ (z : List Lexeme). t.lexeme ∷ z) (two all us rest vs q e))
      (led t.lexeme (lexemes us) (single t.lexeme (fact.else_word t i)) g) h.spelled) h.formed);
}

pub case_else_2 : Lawful b.case_else_2 n.case_else b.case_else_2_body
case_else_2 s inner ws u nil = record {
  after = code (otherwise None) ∷ s;
  makes = refl;
  mean = codes (an_else_of None refl tt);
}

pub maybe_colon_1 : Lawful b.maybe_colon_1 n.maybe_colon b.maybe_colon_1_body
maybe_colon_1 s inner ws u (tok {t = t} i nil) = record {
  after = s;
  makes = refl;
  mean = codes (a_colon (inr (single t.lexeme (fact.colon t i))));
}

pub maybe_colon_2 : Lawful b.maybe_colon_2 n.maybe_colon b.maybe_colon_2_body
maybe_colon_2 s inner ws u nil = record {
  after = s;
  makes = refl;
  mean = codes (a_colon (inl refl));
}
