-- Laws of the productions of what goes on behind the name that begins a statement, or the right side of an assignment.
use Rattle.std.proofs.Common.{inl, List, [], ◌∷◌, ◌++◌, Some, None, refl, ap, ◌∙◌, sym, subst}
use Rattle.pv_tree.specs.Tree.{CallPlain, call_}
use Rattle.pv_tree.specs.Lexemes.{Lexeme}
use Rattle.pv_tree.specs.Words.{plain_name, pair_name, quoted_name}
use Rattle.pv_ll.specs.Meaning.DoesAll.{nil, tok, val}
use Rattle.pv_parse.specs.CodeItems.{of_expr, of_call, value, statement}
use Rattle.pv_parse.specs.Items.{code}
use Rattle.pv_parse.proofs.ForCallers.{Sure, lexemes, Holds, walks, leads, codes, Goal, for_value, for_stmt, Made, Means, Called, a_call_of, a_bare_call, reads, goes_word, goes_second, goes_dot, goes_prefix, goes_hash, goes_hash_prefix, marks_plain_hash, marks_quoted_hash, marks_numbered_hash, marks_plain_second, marks_quoted_second, marks_numbered_second, assigns, last, single}
use Rattle.pv_parse_stmt.proofs.ForCallers.{target_to, target_field, hash_target, hash_callee, callee_second}
use Rattle.pv_scl_parse.specs.OwnNames as n
use Rattle.pv_scl_parse.specs.OwnBodies as b
use Rattle.pv_scl_parse.proofs.SclSorts.{Lawful}
use Rattle.pv_scl_parse.proofs.Facts as fact
use Rattle.pv_scl_parse.proofs.Groups.{along, along_one, two, regroup}
use Rattle.pv_scl_parse.proofs.SecondNames.{prefix_pair, prefix_word, free_word_spelled, free_numbered_spelled, quoted_spelled}

-- ---- what is made of a call

abbrev pub of_called : (g : Goal) → CallPlain → Made g
of_called for_value c = of_call c
of_called for_stmt c = call_ c

-- a call as a statement, and as a right side
pub call_means : (g : Goal) (c : CallPlain) (ts : List Lexeme) → Called c ts → Means g (of_called g c) ts
call_means for_value c ts h = h
call_means for_stmt c ts h = record { spelled = h.spelled; formed = h.formed; ends = λ t i. single t i }

-- ---- behind a name that begins a statement

pub after_word_1 : Lawful b.after_word_1 n.after_word b.after_word_1_body
after_word_1 s inner ws u (val {us = us} (codes (a_call_of {s = below} p c h)) nil q) = record {
  after = code (statement (call_ c)) ∷ below;
  makes = refl;
  mean = codes (goes_word p (call_ c) (λ xs t i. along (Means for_stmt (call_ c)) ws us xs q (call_means for_stmt c (xs ++ lexemes us) (h None xs i))));
}

pub after_word_2 : Lawful b.after_word_2 n.after_word b.after_word_2_body
after_word_2 s inner ws u (tok {t = d} i (val {us = us} {ws = all} (codes (goes_dot {s = below} _ p m h)) nil q)) = record {
  after = code (statement m) ∷ below;
  makes = refl;
  mean = codes (goes_word p m (λ xs t c. along_one (Means for_stmt m) all us xs d.lexeme q (h xs t c (fact.dot d i))));
}

pub after_word_3 : Lawful b.after_word_3 n.after_word b.after_word_3_body
after_word_3 s inner ws u (val {us = us} {ts = rest} (walks {s = below} r p before new after g f j) (val {us = vs} (codes (assigns _ x h)) nil e) q) = record {
  after = code (statement x) ∷ below;
  makes = refl;
  mean = codes (goes_word (record { root = r; steps = before; place = p }) x (λ xs t c. regroup (Means for_stmt x) xs (lexemes us) (lexemes vs) (lexemes ws) (two ws us rest vs q e)
      (h (xs ++ lexemes us) (target_to r p before new after xs (lexemes us) (xs ++ lexemes us) t g f j refl))));
}

pub after_second_2 : Lawful b.after_second_2 n.after_second b.after_second_2_body
after_second_2 s inner ws u (val {us = us} {ts = rest} (walks {s = below} r p before new after g f j) (val {us = vs} (codes (assigns _ x h)) nil e) q) = record {
  after = code (statement x) ∷ below;
  makes = refl;
  mean = codes (goes_second (record { root = r; steps = before; place = p }) x (λ base xs t c. regroup (Means for_stmt x) xs (lexemes us) (lexemes vs) (lexemes ws) (two ws us rest vs q e)
      (h (xs ++ lexemes us) (target_to r p before new after xs (lexemes us) (xs ++ lexemes us) t g f j refl))));
}

pub after_second_1 : Lawful b.after_second_1 n.after_second b.after_second_1_body
after_second_1 s inner ws u (val {us = us} (codes (a_call_of {s = below} p c h)) nil q) = record {
  after = code (statement (call_ c)) ∷ below;
  makes = refl;
  mean = codes (goes_second p (call_ c) (λ base xs t i. along (Means for_stmt (call_ c)) ws us xs q (call_means for_stmt c (xs ++ lexemes us) (h base xs i))));
}

pub after_dot_1 : Lawful b.after_dot_1 n.after_dot b.after_dot_1_body
after_dot_1 s inner ws u (tok {t = t} i (val {ts = rest} {ws = all} (codes (marks_plain_second {s = below} w d p)) (val {us = vs} (codes (goes_second _ m h)) nil e) q)) = record {
  after = code (statement m) ∷ below;
  makes = refl;
  mean = codes (goes_dot d p m (λ xs k c j.
      let second = callee_second p (plain_name t.lexeme.bytes) t.lexeme.place d xs (t.lexeme ∷ []) (xs ++ d ∷ t.lexeme ∷ []) c j (inl (free_word_spelled t i)) refl in
      let target = target_field p (plain_name t.lexeme.bytes) t.lexeme.place d xs (t.lexeme ∷ []) (xs ++ d ∷ t.lexeme ∷ []) k j (free_word_spelled t i) refl in
      regroup (Means for_stmt m) xs (d ∷ t.lexeme ∷ []) (lexemes vs) (d ∷ t.lexeme ∷ lexemes all)
      (ap (λ (z : List Sure). d ∷ t.lexeme ∷ lexemes z) (q ∙ last rest vs e))
      (h (Some (plain_name t.lexeme.bytes, t.lexeme.place)) (xs ++ d ∷ t.lexeme ∷ []) target second)));
}

pub after_dot_2 : Lawful b.after_dot_2 n.after_dot b.after_dot_2_body
after_dot_2 s inner ws u (tok {t = t} i (val {us = us} {ws = all} (codes (goes_prefix {s = below} _ d p m h)) nil q)) = record {
  after = code (statement m) ∷ below;
  makes = refl;
  mean = codes (goes_dot d p m (λ xs k c j. subst (λ (z : List Sure). Means for_stmt m (xs ++ d ∷ t.lexeme ∷ lexemes z)) (sym (last all us q))
      (h xs k c j (fact.free_prefix t i))));
}

pub after_dot_3 : Lawful b.after_dot_3 n.after_dot b.after_dot_3_body
after_dot_3 s inner ws u (tok {t = t} i (val {ts = rest} {ws = all} (codes (marks_plain_second {s = below} w d p)) (val {us = vs} (codes (a_call_of _ c h)) nil e) q)) = record {
  after = code (statement (call_ c)) ∷ below;
  makes = refl;
  mean = codes (goes_dot d p (call_ c) (λ xs k b j.
      let second = callee_second p (plain_name t.lexeme.bytes) t.lexeme.place d xs (t.lexeme ∷ []) (xs ++ d ∷ t.lexeme ∷ []) b j (free_numbered_spelled t i) refl in
      regroup (Means for_stmt (call_ c)) xs (d ∷ t.lexeme ∷ []) (lexemes vs) (d ∷ t.lexeme ∷ lexemes all)
      (ap (λ (z : List Sure). d ∷ t.lexeme ∷ lexemes z) (q ∙ last rest vs e))
      (call_means for_stmt c ((xs ++ d ∷ t.lexeme ∷ []) ++ lexemes vs)
      (h (Some (plain_name t.lexeme.bytes, t.lexeme.place)) (xs ++ d ∷ t.lexeme ∷ []) second))));
}

pub after_dot_4 : Lawful b.after_dot_4 n.after_dot b.after_dot_4_body
after_dot_4 s inner ws u (tok {t = t} i (val {ts = rest} {ws = all} (codes (marks_quoted_second {s = below} w d p)) (val {us = vs} (codes (a_call_of _ c h)) nil e) q)) = record {
  after = code (statement (call_ c)) ∷ below;
  makes = refl;
  mean = codes (goes_dot d p (call_ c) (λ xs k b j.
      let second = callee_second p (quoted_name t.lexeme.bytes) t.lexeme.place d xs (t.lexeme ∷ []) (xs ++ d ∷ t.lexeme ∷ []) b j (quoted_spelled t i) refl in
      regroup (Means for_stmt (call_ c)) xs (d ∷ t.lexeme ∷ []) (lexemes vs) (d ∷ t.lexeme ∷ lexemes all)
      (ap (λ (z : List Sure). d ∷ t.lexeme ∷ lexemes z) (q ∙ last rest vs e))
      (call_means for_stmt c ((xs ++ d ∷ t.lexeme ∷ []) ++ lexemes vs)
      (h (Some (quoted_name t.lexeme.bytes, t.lexeme.place)) (xs ++ d ∷ t.lexeme ∷ []) second))));
}

pub after_prefix_1 : Lawful b.after_prefix_1 n.after_prefix b.after_prefix_1_body
after_prefix_1 s inner ws u (val {us = us} {ts = rest} (codes (marks_numbered_second {s = below} o w d p j)) (val {us = vs} (codes (a_call_of _ c h)) nil e) q) = record {
  after = code (statement (call_ c)) ∷ below;
  makes = refl;
  mean = codes (goes_prefix w d p (call_ c) (λ xs k b i pre.
      let name = pair_name (w.bytes ++ o.lexeme.bytes) in
      let second = callee_second p name w.place d xs (w ∷ o.lexeme ∷ []) (xs ++ d ∷ w ∷ o.lexeme ∷ []) b i (prefix_pair w o.lexeme pre j) refl in
      regroup (Means for_stmt (call_ c)) xs (d ∷ w ∷ o.lexeme ∷ []) (lexemes vs) (d ∷ w ∷ lexemes ws)
      (ap (λ (z : List Lexeme). d ∷ w ∷ z) (two ws us rest vs q e))
      (call_means for_stmt c ((xs ++ d ∷ w ∷ o.lexeme ∷ []) ++ lexemes vs) (h (Some (name, w.place)) (xs ++ d ∷ w ∷ o.lexeme ∷ []) second))));
}

pub after_prefix_2 : Lawful b.after_prefix_2 n.after_prefix b.after_prefix_2_body
after_prefix_2 s inner ws u (val {ts = rest} (codes (marks_plain_second {s = below} w d p)) (val {us = vs} (codes (goes_second _ m h)) nil e) q) = record {
  after = code (statement m) ∷ below;
  makes = refl;
  mean = codes (goes_prefix w d p m (λ xs k b i pre.
      let second = callee_second p (plain_name w.bytes) w.place d xs (w ∷ []) (xs ++ d ∷ w ∷ []) b i (inl (prefix_word w pre)) refl in
      let target = target_field p (plain_name w.bytes) w.place d xs (w ∷ []) (xs ++ d ∷ w ∷ []) k i (prefix_word w pre) refl in
      regroup (Means for_stmt m) xs (d ∷ w ∷ []) (lexemes vs) (d ∷ w ∷ lexemes ws) (ap (λ (z : List Sure). d ∷ w ∷ lexemes z) (q ∙ last rest vs e))
      (h (Some (plain_name w.bytes, w.place)) (xs ++ d ∷ w ∷ []) target second)));
}

pub after_hash_1 : Lawful b.after_hash_1 n.after_hash b.after_hash_1_body
after_hash_1 s inner ws u (tok {t = t} i (val {ts = rest} {ws = all} (codes (marks_plain_hash {s = below} w o)) (val {us = vs} (codes (goes_word _ m h)) nil e) q)) = record {
  after = code (statement m) ∷ below;
  makes = refl;
  mean = codes (goes_hash o m (λ j.
      subst (λ (z : List Sure). Means for_stmt m (o ∷ t.lexeme ∷ lexemes z)) (sym (q ∙ last rest vs e))
      (h (o ∷ t.lexeme ∷ []) (hash_target (plain_name t.lexeme.bytes) t.lexeme.place o (t.lexeme ∷ []) j (free_word_spelled t i))
      (hash_callee (plain_name t.lexeme.bytes) t.lexeme.place o (t.lexeme ∷ []) j (inl (free_word_spelled t i))))));
}

pub after_hash_2 : Lawful b.after_hash_2 n.after_hash b.after_hash_2_body
after_hash_2 s inner ws u (tok {t = t} i (val {us = us} {ws = all} (codes (goes_hash_prefix {s = below} _ o m h)) nil q)) = record {
  after = code (statement m) ∷ below;
  makes = refl;
  mean = codes (goes_hash o m (λ j. subst (λ (z : List Sure). Means for_stmt m (o ∷ t.lexeme ∷ lexemes z)) (sym (last all us q)) (h j (fact.free_prefix t i))));
}

pub after_hash_3 : Lawful b.after_hash_3 n.after_hash b.after_hash_3_body
after_hash_3 s inner ws u (tok {t = t} i (val {ts = rest} {ws = all} (codes (marks_plain_hash {s = below} w o)) (val {us = vs} (codes (a_bare_call _ c h)) nil e) q)) = record {
  after = code (statement (call_ c)) ∷ below;
  makes = refl;
  mean = codes (goes_hash o (call_ c) (λ j.
      subst (λ (z : List Sure). Means for_stmt (call_ c) (o ∷ t.lexeme ∷ lexemes z)) (sym (q ∙ last rest vs e))
      (call_means for_stmt c (o ∷ t.lexeme ∷ lexemes vs)
      (h (o ∷ t.lexeme ∷ []) (hash_callee (plain_name t.lexeme.bytes) t.lexeme.place o (t.lexeme ∷ []) j (free_numbered_spelled t i))))));
}

pub after_hash_4 : Lawful b.after_hash_4 n.after_hash b.after_hash_4_body
after_hash_4 s inner ws u (tok {t = t} i (val {ts = rest} {ws = all} (codes (marks_quoted_hash {s = below} w o)) (val {us = vs} (codes (a_bare_call _ c h)) nil e) q)) = record {
  after = code (statement (call_ c)) ∷ below;
  makes = refl;
  mean = codes (goes_hash o (call_ c) (λ j.
      subst (λ (z : List Sure). Means for_stmt (call_ c) (o ∷ t.lexeme ∷ lexemes z)) (sym (q ∙ last rest vs e))
      (call_means for_stmt c (o ∷ t.lexeme ∷ lexemes vs)
      (h (o ∷ t.lexeme ∷ []) (hash_callee (quoted_name t.lexeme.bytes) t.lexeme.place o (t.lexeme ∷ []) j (quoted_spelled t i))))));
}

pub after_hash_prefix_1 : Lawful b.after_hash_prefix_1 n.after_hash_prefix b.after_hash_prefix_1_body
after_hash_prefix_1 s inner ws u (val {us = us} {ts = rest} (codes (marks_numbered_hash {s = below} x w o j)) (val {us = vs} (codes (a_bare_call _ c h)) nil e) q) = record {
  after = code (statement (call_ c)) ∷ below;
  makes = refl;
  mean = codes (goes_hash_prefix w o (call_ c) (λ i pre.
      subst (λ (z : List Lexeme). Means for_stmt (call_ c) (o ∷ w ∷ z)) (sym (two ws us rest vs q e))
      (call_means for_stmt c (o ∷ w ∷ x.lexeme ∷ lexemes vs)
      (h (o ∷ w ∷ x.lexeme ∷ []) (hash_callee (pair_name (w.bytes ++ x.lexeme.bytes)) w.place o (w ∷ x.lexeme ∷ []) i (prefix_pair w x.lexeme pre j))))));
}

pub after_hash_prefix_2 : Lawful b.after_hash_prefix_2 n.after_hash_prefix b.after_hash_prefix_2_body
after_hash_prefix_2 s inner ws u (val {ts = rest} (codes (marks_plain_hash {s = below} w o)) (val {us = vs} (codes (goes_word _ m h)) nil e) q) = record {
  after = code (statement m) ∷ below;
  makes = refl;
  mean = codes (goes_hash_prefix w o m (λ i pre.
      subst (λ (z : List Sure). Means for_stmt m (o ∷ w ∷ lexemes z)) (sym (q ∙ last rest vs e))
      (h (o ∷ w ∷ []) (hash_target (plain_name w.bytes) w.place o (w ∷ []) i (prefix_word w pre))
      (hash_callee (plain_name w.bytes) w.place o (w ∷ []) i (inl (prefix_word w pre))))));
}

-- ---- behind a name that begins the right side of an assignment

pub value_after_word_1 : Lawful b.value_after_word_1 n.value_after_word b.value_after_word_1_body
value_after_word_1 s inner ws u (val {us = us} (codes (a_call_of {s = below} p c h)) nil q) = record {
  after = code (value (of_call c)) ∷ below;
  makes = refl;
  mean = codes (goes_word p (of_call c) (λ xs t i. along (Means for_value (of_call c)) ws us xs q (call_means for_value c (xs ++ lexemes us) (h None xs i))));
}

pub value_after_word_2 : Lawful b.value_after_word_2 n.value_after_word b.value_after_word_2_body
value_after_word_2 s inner ws u (tok {t = d} i (val {us = us} {ws = all} (codes (goes_dot {s = below} _ p m h)) nil q)) = record {
  after = code (value m) ∷ below;
  makes = refl;
  mean = codes (goes_word p m (λ xs t c. along_one (Means for_value m) all us xs d.lexeme q (h xs t c (fact.dot d i))));
}

pub value_after_word_3 : Lawful b.value_after_word_3 n.value_after_word b.value_after_word_3_body
value_after_word_3 s inner ws u (val {us = us} {ts = rest} (codes (reads {s = below} p x h)) (val {us = vs} (leads _ y l) nil e) q) = record {
  after = code (value (of_expr y)) ∷ below;
  makes = refl;
  mean = codes (goes_word p (of_expr y) (λ xs t c. regroup (Holds 0 y) xs (lexemes us) (lexemes vs) (lexemes ws) (two ws us rest vs q e)
      (l (xs ++ lexemes us) (h xs t))));
}

pub value_after_second_2 : Lawful b.value_after_second_2 n.value_after_second b.value_after_second_2_body
value_after_second_2 s inner ws u (val {us = us} {ts = rest} (codes (reads {s = below} p x h)) (val {us = vs} (leads _ y l) nil e) q) = record {
  after = code (value (of_expr y)) ∷ below;
  makes = refl;
  mean = codes (goes_second p (of_expr y) (λ base xs t c. regroup (Holds 0 y) xs (lexemes us) (lexemes vs) (lexemes ws) (two ws us rest vs q e)
      (l (xs ++ lexemes us) (h xs t))));
}

pub value_after_second_1 : Lawful b.value_after_second_1 n.value_after_second b.value_after_second_1_body
value_after_second_1 s inner ws u (val {us = us} (codes (a_call_of {s = below} p c h)) nil q) = record {
  after = code (value (of_call c)) ∷ below;
  makes = refl;
  mean = codes (goes_second p (of_call c) (λ base xs t i. along (Means for_value (of_call c)) ws us xs q (call_means for_value c (xs ++ lexemes us) (h base xs i))));
}

pub value_after_dot_1 : Lawful b.value_after_dot_1 n.value_after_dot b.value_after_dot_1_body
value_after_dot_1 s inner ws u (tok {t = t} i (val {ts = rest} {ws = all} (codes (marks_plain_second {s = below} w d p)) (val {us = vs} (codes (goes_second _ m h)) nil e) q)) = record {
  after = code (value m) ∷ below;
  makes = refl;
  mean = codes (goes_dot d p m (λ xs k c j.
      let second = callee_second p (plain_name t.lexeme.bytes) t.lexeme.place d xs (t.lexeme ∷ []) (xs ++ d ∷ t.lexeme ∷ []) c j (inl (free_word_spelled t i)) refl in
      let target = target_field p (plain_name t.lexeme.bytes) t.lexeme.place d xs (t.lexeme ∷ []) (xs ++ d ∷ t.lexeme ∷ []) k j (free_word_spelled t i) refl in
      regroup (Means for_value m) xs (d ∷ t.lexeme ∷ []) (lexemes vs) (d ∷ t.lexeme ∷ lexemes all)
      (ap (λ (z : List Sure). d ∷ t.lexeme ∷ lexemes z) (q ∙ last rest vs e))
      (h (Some (plain_name t.lexeme.bytes, t.lexeme.place)) (xs ++ d ∷ t.lexeme ∷ []) target second)));
}

pub value_after_dot_2 : Lawful b.value_after_dot_2 n.value_after_dot b.value_after_dot_2_body
value_after_dot_2 s inner ws u (tok {t = t} i (val {us = us} {ws = all} (codes (goes_prefix {s = below} _ d p m h)) nil q)) = record {
  after = code (value m) ∷ below;
  makes = refl;
  mean = codes (goes_dot d p m (λ xs k c j. subst (λ (z : List Sure). Means for_value m (xs ++ d ∷ t.lexeme ∷ lexemes z)) (sym (last all us q))
      (h xs k c j (fact.free_prefix t i))));
}

pub value_after_dot_3 : Lawful b.value_after_dot_3 n.value_after_dot b.value_after_dot_3_body
value_after_dot_3 s inner ws u (tok {t = t} i (val {ts = rest} {ws = all} (codes (marks_plain_second {s = below} w d p)) (val {us = vs} (codes (a_call_of _ c h)) nil e) q)) = record {
  after = code (value (of_call c)) ∷ below;
  makes = refl;
  mean = codes (goes_dot d p (of_call c) (λ xs k b j.
      let second = callee_second p (plain_name t.lexeme.bytes) t.lexeme.place d xs (t.lexeme ∷ []) (xs ++ d ∷ t.lexeme ∷ []) b j (free_numbered_spelled t i) refl in
      regroup (Means for_value (of_call c)) xs (d ∷ t.lexeme ∷ []) (lexemes vs) (d ∷ t.lexeme ∷ lexemes all)
      (ap (λ (z : List Sure). d ∷ t.lexeme ∷ lexemes z) (q ∙ last rest vs e))
      (call_means for_value c ((xs ++ d ∷ t.lexeme ∷ []) ++ lexemes vs)
      (h (Some (plain_name t.lexeme.bytes, t.lexeme.place)) (xs ++ d ∷ t.lexeme ∷ []) second))));
}

pub value_after_dot_4 : Lawful b.value_after_dot_4 n.value_after_dot b.value_after_dot_4_body
value_after_dot_4 s inner ws u (tok {t = t} i (val {ts = rest} {ws = all} (codes (marks_quoted_second {s = below} w d p)) (val {us = vs} (codes (a_call_of _ c h)) nil e) q)) = record {
  after = code (value (of_call c)) ∷ below;
  makes = refl;
  mean = codes (goes_dot d p (of_call c) (λ xs k b j.
      let second = callee_second p (quoted_name t.lexeme.bytes) t.lexeme.place d xs (t.lexeme ∷ []) (xs ++ d ∷ t.lexeme ∷ []) b j (quoted_spelled t i) refl in
      regroup (Means for_value (of_call c)) xs (d ∷ t.lexeme ∷ []) (lexemes vs) (d ∷ t.lexeme ∷ lexemes all)
      (ap (λ (z : List Sure). d ∷ t.lexeme ∷ lexemes z) (q ∙ last rest vs e))
      (call_means for_value c ((xs ++ d ∷ t.lexeme ∷ []) ++ lexemes vs)
      (h (Some (quoted_name t.lexeme.bytes, t.lexeme.place)) (xs ++ d ∷ t.lexeme ∷ []) second))));
}

pub value_after_prefix_1 : Lawful b.value_after_prefix_1 n.value_after_prefix b.value_after_prefix_1_body
value_after_prefix_1 s inner ws u (val {us = us} {ts = rest} (codes (marks_numbered_second {s = below} o w d p j)) (val {us = vs} (codes (a_call_of _ c h)) nil e) q) = record {
  after = code (value (of_call c)) ∷ below;
  makes = refl;
  mean = codes (goes_prefix w d p (of_call c) (λ xs k b i pre.
      let name = pair_name (w.bytes ++ o.lexeme.bytes) in
      let second = callee_second p name w.place d xs (w ∷ o.lexeme ∷ []) (xs ++ d ∷ w ∷ o.lexeme ∷ []) b i (prefix_pair w o.lexeme pre j) refl in
      regroup (Means for_value (of_call c)) xs (d ∷ w ∷ o.lexeme ∷ []) (lexemes vs) (d ∷ w ∷ lexemes ws)
      (ap (λ (z : List Lexeme). d ∷ w ∷ z) (two ws us rest vs q e))
      (call_means for_value c ((xs ++ d ∷ w ∷ o.lexeme ∷ []) ++ lexemes vs) (h (Some (name, w.place)) (xs ++ d ∷ w ∷ o.lexeme ∷ []) second))));
}

pub value_after_prefix_2 : Lawful b.value_after_prefix_2 n.value_after_prefix b.value_after_prefix_2_body
value_after_prefix_2 s inner ws u (val {ts = rest} (codes (marks_plain_second {s = below} w d p)) (val {us = vs} (codes (goes_second _ m h)) nil e) q) = record {
  after = code (value m) ∷ below;
  makes = refl;
  mean = codes (goes_prefix w d p m (λ xs k b i pre.
      let second = callee_second p (plain_name w.bytes) w.place d xs (w ∷ []) (xs ++ d ∷ w ∷ []) b i (inl (prefix_word w pre)) refl in
      let target = target_field p (plain_name w.bytes) w.place d xs (w ∷ []) (xs ++ d ∷ w ∷ []) k i (prefix_word w pre) refl in
      regroup (Means for_value m) xs (d ∷ w ∷ []) (lexemes vs) (d ∷ w ∷ lexemes ws) (ap (λ (z : List Sure). d ∷ w ∷ lexemes z) (q ∙ last rest vs e))
      (h (Some (plain_name w.bytes, w.place)) (xs ++ d ∷ w ∷ []) target second)));
}

pub value_after_hash_1 : Lawful b.value_after_hash_1 n.value_after_hash b.value_after_hash_1_body
value_after_hash_1 s inner ws u (tok {t = t} i (val {ts = rest} {ws = all} (codes (marks_plain_hash {s = below} w o)) (val {us = vs} (codes (goes_word _ m h)) nil e) q)) = record {
  after = code (value m) ∷ below;
  makes = refl;
  mean = codes (goes_hash o m (λ j.
      subst (λ (z : List Sure). Means for_value m (o ∷ t.lexeme ∷ lexemes z)) (sym (q ∙ last rest vs e))
      (h (o ∷ t.lexeme ∷ []) (hash_target (plain_name t.lexeme.bytes) t.lexeme.place o (t.lexeme ∷ []) j (free_word_spelled t i))
      (hash_callee (plain_name t.lexeme.bytes) t.lexeme.place o (t.lexeme ∷ []) j (inl (free_word_spelled t i))))));
}

pub value_after_hash_2 : Lawful b.value_after_hash_2 n.value_after_hash b.value_after_hash_2_body
value_after_hash_2 s inner ws u (tok {t = t} i (val {us = us} {ws = all} (codes (goes_hash_prefix {s = below} _ o m h)) nil q)) = record {
  after = code (value m) ∷ below;
  makes = refl;
  mean = codes (goes_hash o m (λ j. subst (λ (z : List Sure). Means for_value m (o ∷ t.lexeme ∷ lexemes z)) (sym (last all us q)) (h j (fact.free_prefix t i))));
}

pub value_after_hash_3 : Lawful b.value_after_hash_3 n.value_after_hash b.value_after_hash_3_body
value_after_hash_3 s inner ws u (tok {t = t} i (val {ts = rest} {ws = all} (codes (marks_plain_hash {s = below} w o)) (val {us = vs} (codes (a_bare_call _ c h)) nil e) q)) = record {
  after = code (value (of_call c)) ∷ below;
  makes = refl;
  mean = codes (goes_hash o (of_call c) (λ j.
      subst (λ (z : List Sure). Means for_value (of_call c) (o ∷ t.lexeme ∷ lexemes z)) (sym (q ∙ last rest vs e))
      (call_means for_value c (o ∷ t.lexeme ∷ lexemes vs)
      (h (o ∷ t.lexeme ∷ []) (hash_callee (plain_name t.lexeme.bytes) t.lexeme.place o (t.lexeme ∷ []) j (free_numbered_spelled t i))))));
}

pub value_after_hash_4 : Lawful b.value_after_hash_4 n.value_after_hash b.value_after_hash_4_body
value_after_hash_4 s inner ws u (tok {t = t} i (val {ts = rest} {ws = all} (codes (marks_quoted_hash {s = below} w o)) (val {us = vs} (codes (a_bare_call _ c h)) nil e) q)) = record {
  after = code (value (of_call c)) ∷ below;
  makes = refl;
  mean = codes (goes_hash o (of_call c) (λ j.
      subst (λ (z : List Sure). Means for_value (of_call c) (o ∷ t.lexeme ∷ lexemes z)) (sym (q ∙ last rest vs e))
      (call_means for_value c (o ∷ t.lexeme ∷ lexemes vs)
      (h (o ∷ t.lexeme ∷ []) (hash_callee (quoted_name t.lexeme.bytes) t.lexeme.place o (t.lexeme ∷ []) j (quoted_spelled t i))))));
}

pub value_after_hash_prefix_1 : Lawful b.value_after_hash_prefix_1 n.value_after_hash_prefix b.value_after_hash_prefix_1_body
value_after_hash_prefix_1 s inner ws u (val {us = us} {ts = rest} (codes (marks_numbered_hash {s = below} x w o j)) (val {us = vs} (codes (a_bare_call _ c h)) nil e) q) = record {
  after = code (value (of_call c)) ∷ below;
  makes = refl;
  mean = codes (goes_hash_prefix w o (of_call c) (λ i pre.
      subst (λ (z : List Lexeme). Means for_value (of_call c) (o ∷ w ∷ z)) (sym (two ws us rest vs q e))
      (call_means for_value c (o ∷ w ∷ x.lexeme ∷ lexemes vs)
      (h (o ∷ w ∷ x.lexeme ∷ []) (hash_callee (pair_name (w.bytes ++ x.lexeme.bytes)) w.place o (w ∷ x.lexeme ∷ []) i (prefix_pair w x.lexeme pre j))))));
}

pub value_after_hash_prefix_2 : Lawful b.value_after_hash_prefix_2 n.value_after_hash_prefix b.value_after_hash_prefix_2_body
value_after_hash_prefix_2 s inner ws u (val {ts = rest} (codes (marks_plain_hash {s = below} w o)) (val {us = vs} (codes (goes_word _ m h)) nil e) q) = record {
  after = code (value m) ∷ below;
  makes = refl;
  mean = codes (goes_hash_prefix w o m (λ i pre.
      subst (λ (z : List Sure). Means for_value m (o ∷ w ∷ lexemes z)) (sym (q ∙ last rest vs e))
      (h (o ∷ w ∷ []) (hash_target (plain_name w.bytes) w.place o (w ∷ []) i (prefix_word w pre))
      (hash_callee (plain_name w.bytes) w.place o (w ∷ []) i (inl (prefix_word w pre))))));
}
