-- Laws of the productions of calls, of the right sides of assignments, and of what goes on behind the name that begins a statement.
use Rattle.std.proofs.Common.{◌≡◌, inl, inr, ℕ, ◌≤◌, List, [], ◌∷◌, ◌++◌, All, Some, None, refl, ap, ◌∙◌, sym, subst, arith}
use Rattle.std.proofs.lemmas.List.{append-nil, append_assoc}
use Rattle.std.proofs.lemmas.List.Elements.{All-nil, All-cons}
use Rattle.pv_place.specs.declared.place.Place.{Place}
use Rattle.pv_tree.specs.Tree.{ExprTree, read, OperandTree, StepTree, field, index, ArgTree}
use Rattle.pv_tree.specs.Lexemes.{Lexeme, ◌⨾◌, IsSign, each_behind}
use Rattle.pv_tree.specs.Words.{plain_name, pair_name, quoted_name, SpellsName}
use Rattle.pv_tree.specs.Expressions.{SpellsExpr, IsFormedExpr, SpellsOperand, IsFormedOperand}
use Rattle.pv_tree.specs.Calls.{SpellsArrow, SpellsArg, SpellsArgs, IsFormedArg}
use Rattle.pv_tree.proofs.ForCallers.{first-expr}
use Rattle.pv_ll.specs.Meaning.DoesAll.{nil, tok, val}
use Rattle.pv_parse.specs.CodeItems.{ValueTree, of_expr, of_call, arguments, called, value, statement}
use Rattle.pv_parse.specs.Items.{PathTree, path, expr, code}
use Rattle.pv_parse.specs.ExprDeeds.{stepped, operand_of}
use Rattle.pv_parse.specs.CallDeeds.{unnamed, call_of}
use Rattle.pv_parse.specs.StmtDeeds.{assigned}
use Rattle.pv_parse.proofs.ForCallers.{Sure, lexemes, Holds, weaker, a_word, a_firm, walks, an_expr, leads, codes, bare, top_token, top_path, IsWordPath, Called, Valued, Unended, an_args, a_first_arg, adds_args, goes_arg, a_call_of, a_bare_call, reads, a_right_side, goes_word, goes_hash, marks_plain_second, marks_quoted_second, marks_numbered_second, a_second, a_second_number, assigns, last, parted, single, single_at, led, joined, on_path, one_step, steps_append, formed_append, on_lexemes}
use Rattle.pv_parse_stmt.proofs.ForCallers.{argument_of, target_to, target_read, word_target, firm_target, word_callee, firm_callee, callee_second, word_path, called_by}
use Rattle.pv_scl_parse.specs.OwnNames as n
use Rattle.pv_scl_parse.specs.OwnBodies as b
use Rattle.pv_scl_parse.proofs.SclSorts.{Lawful}
use Rattle.pv_scl_parse.proofs.Facts as fact
use Rattle.pv_scl_parse.proofs.Groups.{along, along_one, two, regroup}
use Rattle.pv_scl_parse.proofs.SecondNames.{prefix_pair, prefix_word, free_word_spelled, free_numbered_spelled, quoted_spelled}

pub plain_second_1 : Lawful b.plain_second_1 n.plain_second b.plain_second_1_body
plain_second_1 s inner ws (top_token w (top_token d (top_path {s = below} p bare))) nil =
    record { after = path (stepped p (field (plain_name w.bytes) w.place)) ∷ below; makes = refl; mean = codes (marks_plain_second w d p) }

pub quoted_second_1 : Lawful b.quoted_second_1 n.quoted_second b.quoted_second_1_body
quoted_second_1 s inner ws (top_token w (top_token d (top_path {s = below} p bare))) nil =
    record { after = path (stepped p (field (quoted_name w.bytes) w.place)) ∷ below; makes = refl; mean = codes (marks_quoted_second w d p) }

pub numbered_second_1 : Lawful b.numbered_second_1 n.numbered_second b.numbered_second_1_body
numbered_second_1 s inner ws (top_token w (top_token d (top_path {s = below} p bare))) (tok {t = m} i nil) =
    record { after = path (stepped p (field (pair_name (w.bytes ++ m.lexeme.bytes)) w.place)) ∷ below; makes = refl; mean = codes (marks_numbered_second m w d p (fact.number m i)) }

pub second_name_1 : Lawful b.second_name_1 n.second_name b.second_name_1_body
second_name_1 s inner ws u (tok {t = t} i (val (codes (marks_plain_second {s = below} w d p)) nil q)) =
    record { after = path (stepped p (field (plain_name t.lexeme.bytes) t.lexeme.place)) ∷ below; makes = refl; mean = codes (a_second d p (plain_name t.lexeme.bytes) t.lexeme.place (subst (λ (z : List Sure). SpellsName (plain_name t.lexeme.bytes) t.lexeme.place (t.lexeme ∷ lexemes z)) (sym q) (inl (free_word_spelled t i)))) }

pub second_name_3 : Lawful b.second_name_3 n.second_name b.second_name_3_body
second_name_3 s inner ws u (tok {t = t} i (val (codes (marks_plain_second {s = below} w d p)) nil q)) =
    record { after = path (stepped p (field (plain_name t.lexeme.bytes) t.lexeme.place)) ∷ below; makes = refl; mean = codes (a_second d p (plain_name t.lexeme.bytes) t.lexeme.place (subst (λ (z : List Sure). SpellsName (plain_name t.lexeme.bytes) t.lexeme.place (t.lexeme ∷ lexemes z)) (sym q) (free_numbered_spelled t i))) }

pub second_name_4 : Lawful b.second_name_4 n.second_name b.second_name_4_body
second_name_4 s inner ws u (tok {t = t} i (val (codes (marks_quoted_second {s = below} w d p)) nil q)) =
    record { after = path (stepped p (field (quoted_name t.lexeme.bytes) t.lexeme.place)) ∷ below; makes = refl; mean = codes (a_second d p (quoted_name t.lexeme.bytes) t.lexeme.place (subst (λ (z : List Sure). SpellsName (quoted_name t.lexeme.bytes) t.lexeme.place (t.lexeme ∷ lexemes z)) (sym q) (quoted_spelled t i))) }

pub second_name_2 : Lawful b.second_name_2 n.second_name b.second_name_2_body
second_name_2 s inner ws u (tok {t = t} i (val {us = us} {ws = all} (codes (a_second_number {s = below} w d p x at h)) nil q)) =
    record { after = path (stepped p (field x at)) ∷ below; makes = refl; mean = codes (a_second d p x at (subst (λ (z : List Sure). SpellsName x at (t.lexeme ∷ lexemes z)) (sym (last all us q)) (h (fact.free_prefix t i)))) }

pub second_number_1 : Lawful b.second_number_1 n.second_number b.second_number_1_body
second_number_1 s inner ws u (val {us = us} (codes (marks_numbered_second {s = below} m w d p c)) nil q) =
    record {
      after = path (stepped p (field (pair_name (w.bytes ++ m.lexeme.bytes)) w.place)) ∷ below;
      makes = refl;
      mean = codes (a_second_number w d p (pair_name (w.bytes ++ m.lexeme.bytes)) w.place
          (λ i. subst (λ (z : List Sure). SpellsName (pair_name (w.bytes ++ m.lexeme.bytes)) w.place (w ∷ lexemes z)) (sym (last ws us q)) (prefix_pair w m.lexeme i c)));
    }

pub second_number_2 : Lawful b.second_number_2 n.second_number b.second_number_2_body
second_number_2 s inner ws u (val {us = us} (codes (marks_plain_second {s = below} w d p)) nil q) =
    record {
      after = path (stepped p (field (plain_name w.bytes) w.place)) ∷ below;
      makes = refl;
      mean = codes (a_second_number w d p (plain_name w.bytes) w.place
          (λ i. subst (λ (z : List Sure). SpellsName (plain_name w.bytes) w.place (w ∷ lexemes z)) (sym (last ws us q)) (inl (prefix_word w i))));
    }

-- ---- calls

pub call_arguments_1 : Lawful b.call_arguments_1 n.call_arguments b.call_arguments_1_body
call_arguments_1 s inner ws (top_path {s = below} p bare) (tok {t = o} i (val {us = us} {ws = all} (codes (an_args l h f)) (tok {t = c} j nil) q)) = record {
  after = code (called (call_of p l)) ∷ below;
  makes = refl;
  mean = codes (a_call_of p (call_of p l) (λ base xs t. called_by p l base o.lexeme c.lexeme xs (lexemes us) (xs ++ o.lexeme ∷ lexemes all) t
      (fact.paren_open o i) h f (fact.paren_close c j) (ap (λ (z : List Lexeme). xs ++ o.lexeme ∷ z) (parted all us (c ∷ []) q))));
}

pub called_1 : Lawful b.called_1 n.called b.called_1_body
called_1 s inner ws u (val {us = us} (codes (a_call_of {s = below} p c h)) nil q) = record {
  after = code (called c) ∷ below;
  makes = refl;
  mean = codes (a_bare_call p c (λ xs t. along (Called c) ws us xs q (h None xs t)));
}

pub called_2 : Lawful b.called_2 n.called b.called_2_body
called_2 s inner ws u (tok {t = d} i (val {us = us} {ts = rest} {ws = all} (codes (a_second {s = below} _ p x at g)) (val {us = vs} (codes (a_call_of _ c h)) nil r) q)) = record {
  after = code (called c) ∷ below;
  makes = refl;
  mean = codes (a_bare_call p c (λ xs t. regroup (Called c) xs (d.lexeme ∷ lexemes us) (lexemes vs) (d.lexeme ∷ lexemes all)
      (ap (λ (z : List Lexeme). d.lexeme ∷ z) (two all us rest vs q r))
      (h (Some (x, at)) (xs ++ d.lexeme ∷ lexemes us) (callee_second p x at d.lexeme xs (lexemes us) (xs ++ d.lexeme ∷ lexemes us) t (fact.dot d i) g refl))));
}

-- ---- arguments

alone_spelled : (e : ExprTree) (ts : List Lexeme) → Holds 0 e ts → SpellsArgs (unnamed e ∷ []) ts × All IsFormedArg (unnamed e ∷ [])
alone_spelled e ts h = (
  inl (record { unnamed = refl; value = h.spelled; at = first-expr e ts h.spelled }),
  All-cons IsFormedArg (unnamed e) [] (record { name = tt; value = h.formed }) (All-nil IsFormedArg),
)

-- arguments with words
named_spelled : (a : ArgTree) (l : List ArgTree) (ts : List Lexeme) → (SpellsArg a ⨾ each_behind SpellsArg l) ts → SpellsArgs (a ∷ l) ts
named_spelled a [] ts h =
    inr (subst (λ (z : List Lexeme). SpellsArg a z) (sym (h.parts ∙ ap (λ (z : List Lexeme). h.front ++ z) h.behind ∙ append-nil h.front)) h.in_front)
named_spelled a (x ∷ l) ts h = h

pub arguments_1 : Lawful b.arguments_1 n.arguments b.arguments_1_body
arguments_1 s inner ws u (val {us = us} {ts = rest} (a_word x at g f) (val {us = vs} (codes (goes_arg {s = below} _ l h)) nil r) q) = record {
  after = code (arguments l) ∷ s;
  makes = refl;
  mean = codes (let both = h (lexemes us) (word_path x at (lexemes us) g f) (word_target x at (lexemes us) g f) in
      an_args l (subst (λ (z : List Lexeme). SpellsArgs l z) (sym (two ws us rest vs q r)) both.0) both.1);
}

pub arguments_2 : Lawful b.arguments_2 n.arguments b.arguments_2_body
arguments_2 s inner ws u (val {us = us} {ts = rest} (an_expr e a) (val {us = vs} (leads _ f h) nil r) q) = record {
  after = code (arguments (unnamed f ∷ [])) ∷ s;
  makes = refl;
  mean = codes (let both = alone_spelled f (lexemes ws) (on_lexemes 0 f (lexemes us ++ lexemes vs) (lexemes ws) (sym (two ws us rest vs q r)) (h (lexemes us) a)) in
      an_args (unnamed f ∷ []) both.0 both.1);
}

pub arguments_3 : Lawful b.arguments_3 n.arguments b.arguments_3_body
arguments_3 s inner ws u nil = record { after = code (arguments []) ∷ s; makes = refl; mean = codes (an_args [] refl (All-nil IsFormedArg)) }

first_then : (p : PathTree) (e : ExprTree) (at : Place) (new after : List ArgTree) (xs us vs ws : List Lexeme) → IsWordPath p xs
    → (SpellsArrow at ⨾ SpellsExpr e) us → IsFormedExpr e → each_behind SpellsArg new vs → All IsFormedArg new → after ≡ argument_of p e at ∷ [] ++ new
    → ws ≡ us ++ vs → SpellsArgs after (xs ++ ws) × All IsFormedArg after
first_then p e at new after xs us vs ws t g f h k j q = (
  subst (λ (z : List ArgTree). SpellsArgs z (xs ++ ws)) (sym j) (named_spelled (argument_of p e at) new (xs ++ ws)
      (joined (xs ++ us) vs (xs ++ ws) (ap (λ (z : List Lexeme). xs ++ z) q ∙ sym (append_assoc xs us vs)) (joined xs us (xs ++ us) refl t.word g) h)),
  subst (λ (z : List ArgTree). All IsFormedArg z) (sym j)
      (All-cons IsFormedArg (argument_of p e at) new (record { name = t.free; value = f }) k),
)

pub after_argument_word_1 : Lawful b.after_argument_word_1 n.after_argument_word b.after_argument_word_1_body
after_argument_word_1 s inner ws u (val {us = us} {ts = rest} (codes (a_first_arg {s = below} p e at g f)) (val {us = vs} (codes (adds_args _ new after h k j)) nil r) q) = record {
  after = code (arguments after) ∷ below;
  makes = refl;
  mean = codes (goes_arg p after (λ xs t w. first_then p e at new after xs (lexemes us) (lexemes vs) (lexemes ws) t g f h k j (two ws us rest vs q r)));
}

pub after_argument_word_2 : Lawful b.after_argument_word_2 n.after_argument_word b.after_argument_word_2_body
after_argument_word_2 s inner ws u (val {us = us} {ts = rest} (codes (reads {s = below} p e g)) (val {us = vs} (leads _ f h) nil r) q) = record {
  after = code (arguments (unnamed f ∷ [])) ∷ below;
  makes = refl;
  mean = codes (goes_arg p (unnamed f ∷ []) (λ xs t w. alone_spelled f (xs ++ lexemes ws)
      (regroup (Holds 0 f) xs (lexemes us) (lexemes vs) (lexemes ws) (two ws us rest vs q r) (h (xs ++ lexemes us) (g xs w)))));
}

-- ---- operands that are read or assigned

pub first_read_1 : Lawful b.first_read_1 n.first_read b.first_read_1_body
first_read_1 s inner ws u (val {us = us} (walks {s = below} r p before new after g f j) nil q) = record {
  after = expr (read (operand_of (record { root = r; steps = after; place = p }))) ∷ below;
  makes = refl;
  mean = codes (reads (record { root = r; steps = before; place = p }) (read (operand_of (record { root = r; steps = after; place = p })))
      (λ xs t. along (Holds 7 (read (operand_of (record { root = r; steps = after; place = p })))) ws us xs q
      (target_read (record { root = r; steps = after; place = p }) (xs ++ lexemes us)
      (target_to r p before new after xs (lexemes us) (xs ++ lexemes us) t g f j refl))));
}

pub second_read_1 : Lawful b.second_read_1 n.second_read b.second_read_1_body
second_read_1 s inner ws u (val {us = us} (walks {s = below} r p before new after g f j) nil q) = record {
  after = expr (read (operand_of (record { root = r; steps = after; place = p }))) ∷ below;
  makes = refl;
  mean = codes (reads (record { root = r; steps = before; place = p }) (read (operand_of (record { root = r; steps = after; place = p })))
      (λ xs t. along (Holds 7 (read (operand_of (record { root = r; steps = after; place = p })))) ws us xs q
      (target_read (record { root = r; steps = after; place = p }) (xs ++ lexemes us)
      (target_to r p before new after xs (lexemes us) (xs ++ lexemes us) t g f j refl))));
}

pub maybe_index_1 : Lawful b.maybe_index_1 n.maybe_index b.maybe_index_1_body
maybe_index_1 s inner ws u
    (val {us = us} {ts = rest} (walks {s = below} r p before new mid g i j) (val {us = vs} (walks _ _ _ more after h k l) nil q) e) = record {
      after = path (record { root = r; steps = after; place = p }) ∷ below;
      makes = refl;
      mean = walks r p before (new ++ more) after (steps_append new more (lexemes us) (lexemes vs) (lexemes ws) g h (two ws us rest vs e q))
          (formed_append new more i k) (l ∙ ap (λ (z : List StepTree). z ++ more) j ∙ append_assoc before new more);
    }

pub maybe_index_2 : Lawful b.maybe_index_2 n.maybe_index b.maybe_index_2_body
maybe_index_2 s inner ws (on_path q below) nil =
    record { after = path q ∷ below; makes = refl; mean = walks q.root q.place q.steps [] q.steps refl tt (sym (append-nil q.steps)) }

pub first_index_1 : Lawful b.first_index_1 n.first_index b.first_index_1_body
first_index_1 s inner ws (on_path q below) (tok {t = t} p (val {us = us} {ws = all} (an_expr e a) (tok {t = d} r nil) eq)) = record {
  after = path (stepped q (index e t.lexeme.place)) ∷ below;
  makes = refl;
  mean = one_step q (index e t.lexeme.place) (t ∷ all) (led t.lexeme (lexemes all) (single_at t.lexeme (fact.bracket_open t p))
      (joined (lexemes us) (d.lexeme ∷ []) (lexemes all) (parted all us (d ∷ []) eq) a.spelled (single d.lexeme (fact.bracket_close d r)))) a.formed;
}

-- ---- chains behind an operand

abbrev Leads : ℕ → ℕ → ExprTree → ExprTree → List Lexeme → Type 0
Leads l m e f ts = (xs : List Lexeme) → Holds l e xs → Holds m f (xs ++ ts)

leads_then : (l m n : ℕ) (e f g : ExprTree) (ws us vs : List Sure) → Leads l l e f (lexemes us) → m ≤ l → Leads m n f g (lexemes vs) → ws ≡ us ++ vs
    → Leads l n e g (lexemes ws)
leads_then l m n e f g ws us vs h i k q xs a =
    regroup (Holds n g) xs (lexemes us) (lexemes vs) (lexemes ws) (parted ws us vs q)
    (k (xs ++ lexemes us) (weaker m l f (xs ++ lexemes us) i (h xs a)))

-- the links of all levels
pub chain_1 : Lawful b.chain_1 n.chain b.chain_1_body
chain_1 s inner ws u (val {us = u6} {ts = r6} (leads {s = below} e e6 h6) (val {us = u5} {ts = r5} (leads _ e5 h5) (val {us = u4} {ts = r4} (leads _ e4 h4)
    (val {us = u3} {ts = r3} (leads _ e3 h3) (val {us = u2} {ts = r2} (leads _ e2 h2) (val {us = u1} {ts = r1} (leads _ e1 h1) (val {us = u0} (leads _ e0 h0) nil q0) q1)
    q2) q3) q4) q5) q6) =
    let l0 : Leads 0 0 e1 e0 (lexemes r1) = λ xs a. along (Holds 0 e0) r1 u0 xs q0 (h0 xs a) in
    let l1 : Leads 1 0 e2 e0 (lexemes r2) = leads_then 1 0 0 e2 e1 e0 r2 u1 r1 h1 (omega arith) l0 q1 in
    let l2 : Leads 2 0 e3 e0 (lexemes r3) = leads_then 2 1 0 e3 e2 e0 r3 u2 r2 h2 (omega arith) l1 q2 in
    let l3 : Leads 3 0 e4 e0 (lexemes r4) = leads_then 3 2 0 e4 e3 e0 r4 u3 r3 h3 (omega arith) l2 q3 in
    let l4 : Leads 4 0 e5 e0 (lexemes r5) = leads_then 4 3 0 e5 e4 e0 r5 u4 r4 h4 (omega arith) l3 q4 in
    let l5 : Leads 5 0 e6 e0 (lexemes r6) = leads_then 5 4 0 e6 e5 e0 r6 u5 r5 h5 (omega arith) l4 q5 in
    let l6 : Leads 6 0 e e0 (lexemes ws) = leads_then 6 5 0 e e6 e0 ws u6 r6 h6 (omega arith) l5 q6 in
    record { after = expr e0 ∷ below; makes = refl; mean = leads e e0 (λ xs a. l6 xs (weaker 6 7 e xs (omega arith) a)) }

-- ---- what is assigned

assigned_means : (target : OperandTree) (v : ValueTree) (t : Lexeme) (us vs ws : List Lexeme) → SpellsOperand target us → IsFormedOperand target → IsSign ":=" t
    → Valued v vs → ws ≡ us ++ t ∷ vs → Unended (assigned target t.place v) ws
assigned_means target (of_expr e) t us vs ws h f i a q = record {
  spelled = joined us (t ∷ vs) ws q h (led t vs (single_at t i) a.spelled);
  formed = (f, a.formed);
  ends = λ c j. single c j;
}
assigned_means target (of_call e) t us vs ws h f i a q = record {
  spelled = joined us (t ∷ vs) ws q h (led t vs (single_at t i) a.spelled);
  formed = (f, a.formed);
  ends = λ c j. single c j;
}

pub assignment_1 : Lawful b.assignment_1 n.assignment b.assignment_1_body
assignment_1 s inner ws (top_path {s = below} p bare) (tok {t = t} i (val {us = us} {ws = all} (codes (a_right_side v h)) nil q)) = record {
  after = code (statement (assigned (operand_of p) t.lexeme.place v)) ∷ below;
  makes = refl;
  mean = codes (assigns p (assigned (operand_of p) t.lexeme.place v) (λ xs g. along_one (Unended (assigned (operand_of p) t.lexeme.place v)) all us xs t.lexeme q
      (assigned_means (operand_of p) v t.lexeme xs (lexemes us) (xs ++ t.lexeme ∷ lexemes us) g.spelled g.formed (fact.assign t i) h refl)));
}

-- ---- right sides of assignments

pub value_1 : Lawful b.value_1 n.value b.value_1_body
value_1 s inner ws u (val {us = us} {ts = rest} (a_word x at g f) (val {us = vs} (codes (goes_word {s = below} _ m h)) nil e) q) = record {
  after = code (value m) ∷ below;
  makes = refl;
  mean = codes (a_right_side m (subst (λ (z : List Lexeme). Valued m z) (sym (two ws us rest vs q e))
      (h (lexemes us) (word_target x at (lexemes us) g f) (word_callee x at (lexemes us) g f))));
}

pub value_2 : Lawful b.value_2 n.value b.value_2_body
value_2 s inner ws u (tok {t = t} i (val {us = us} {ws = all} (codes (goes_hash {s = below} _ m h)) nil q)) = record {
  after = code (value m) ∷ below;
  makes = refl;
  mean = codes (a_right_side m (subst (λ (z : List Sure). Valued m (t.lexeme ∷ lexemes z)) (sym (last all us q)) (h (fact.hash t i))));
}

pub value_3 : Lawful b.value_3 n.value b.value_3_body
value_3 s inner ws u (val {us = us} {ts = rest} (a_firm x at g f) (val {us = vs} (codes (goes_word {s = below} _ m h)) nil e) q) = record {
  after = code (value m) ∷ below;
  makes = refl;
  mean = codes (a_right_side m (subst (λ (z : List Lexeme). Valued m z) (sym (two ws us rest vs q e))
      (h (lexemes us) (firm_target x at (lexemes us) g) (firm_callee x at (lexemes us) g f))));
}

pub value_4 : Lawful b.value_4 n.value b.value_4_body
value_4 s inner ws u (val {us = us} {ts = rest} (an_expr x a) (val {us = vs} (leads {s = below} _ y h) nil e) q) = record {
  after = code (value (of_expr y)) ∷ below;
  makes = refl;
  mean = codes (a_right_side (of_expr y) (on_lexemes 0 y (lexemes us ++ lexemes vs) (lexemes ws) (sym (two ws us rest vs q e)) (h (lexemes us) a)));
}
