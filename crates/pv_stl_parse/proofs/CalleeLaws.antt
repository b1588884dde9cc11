-- Laws of the productions of operands, literals and called names behind an instruction's word.
use Rattle.std.proofs.Common.{◌≡◌, inl, inr, true, false, List, [], ◌∷◌, ◌++◌, All, Some, None, refl, ap, ◌∙◌, sym, subst}
use Rattle.std.specs.Prelude.{neg_ℤ}
use Rattle.std.proofs.lemmas.List.{append-nil, append_assoc}
use Rattle.std.proofs.lemmas.List.Elements.{All-nil, All-cons}
use Rattle.pv_word.specs.declared.types.Ty.TheVariants as ty
use Rattle.pv_place.specs.declared.place.Place.{Place}
use Rattle.pv_types.specs.declared.name.Name.{Name}
use Rattle.pv_tree.specs.declared.expr.Root.TheVariants.{Local, Named}
use Rattle.pv_tree.specs.Tree.{field, ExprTree, ArgTree}
use Rattle.pv_tree.specs.Lexemes.{Lexeme, IsSign, sign, ◌⨾◌, each_behind}
use Rattle.pv_tree.specs.Words.{IsFree, plain_name, pair_name, quoted_name, SpellsWord, SpellsName}
use Rattle.pv_tree.specs.Expressions.{SpellsExpr, IsFormedExpr}
use Rattle.pv_tree.specs.Calls.{SpellsArrow, SpellsArg, SpellsArgsStl, IsFormedArg}
use Rattle.pv_ll.specs.Meaning.DoesAll.{nil, tok, val}
use Rattle.pv_parse.specs.TokenTexts.{truth_of}
use Rattle.pv_parse.specs.Items.{token, path, literal, code}
use Rattle.pv_parse.specs.CodeItems.{called}
use Rattle.pv_parse.specs.ExprDeeds.{rooted, stepped}
use Rattle.pv_parse.specs.CallDeeds.{named_of, call_of}
use Rattle.pv_parse.specs.InstrDeeds.{number_behind}
use Rattle.pv_parse.proofs.ForCallers.{Sure, lexemes, bare, top_token, top_path, a_word, a_firm, a_root, walks, codes, instrs, a_first_arg, adds_args, marks_plain_hash, marks_quoted_hash, marks_numbered_hash, IsCalleeStl, an_operand, a_hashed_word, a_value_literal, a_callee, a_callee_alone, a_callee_hash, a_callee_prefix, adds_base, a_call_behind, a_bare_one, last, parted, single, led, joined, minus_is, number_is, truth_said}
use Rattle.pv_parse_stmt.proofs.ForCallers.{argument_of, area_target, firm_target, hash_target, target_to, word_target}
use Rattle.pv_stl_parse.specs.OwnNames as n
use Rattle.pv_stl_parse.specs.OwnBodies as b
use Rattle.pv_stl_parse.proofs.StlSorts.{Lawful}
use Rattle.pv_stl_parse.proofs.Facts as fact
use Rattle.pv_stl_parse.proofs.Groups.{along, two}
use Rattle.pv_stl_parse.proofs.SecondNames.{prefix_pair, prefix_word, free_word_spelled, free_numbered_spelled, quoted_spelled}
use Rattle.pv_stl_parse.proofs.InstrForms.{number_spelled, negative_spelled, truth_spelled, callee_alone_is, callee_hash_is, callee_based, called_stl}

-- ---- operands

pub operand_1 : Lawful b.operand_1 n.operand b.operand_1_body
operand_1 s inner ws u (val {us = us} {ts = rest} (a_word x p g f) (val {us = vs} (walks _ _ _ new after h j e) nil q) r) = record {
  after = path (record { root = Local x false p; steps = after; place = p }) ∷ s;
  makes = refl;
  mean = instrs (an_operand (record { root = Local x false p; steps = after; place = p })
      (target_to (Local x false p) p [] new after (lexemes us) (lexemes vs) (lexemes ws) (word_target x p (lexemes us) g f) h j e (two ws us rest vs r q)));
}

pub operand_2 : Lawful b.operand_2 n.operand b.operand_2_body
operand_2 s inner ws u
    (tok {t = t} p (val {us = us} {ts = rest} {ws = all} (instrs (a_hashed_word _ x at g)) (val {us = vs} (walks _ _ _ new after h j e) nil q) r)) = record {
      after = path (record { root = Local x true at; steps = after; place = t.lexeme.place }) ∷ s;
      makes = refl;
      mean = instrs (an_operand (record { root = Local x true at; steps = after; place = t.lexeme.place })
          (target_to (Local x true at) t.lexeme.place [] new after (t.lexeme ∷ lexemes us) (lexemes vs) (t.lexeme ∷ lexemes all)
          (hash_target x at t.lexeme (lexemes us) (fact.hash t p) g) h j e (ap (λ (z : List Lexeme). t.lexeme ∷ z) (two all us rest vs r q))));
    }

pub operand_3 : Lawful b.operand_3 n.operand b.operand_3_body
operand_3 s inner ws u (val {us = us} {ts = rest} (a_firm x p g f) (val {us = vs} (walks _ _ _ new after h j e) nil q) r) = record {
  after = path (record { root = Named x; steps = after; place = p }) ∷ s;
  makes = refl;
  mean = instrs (an_operand (record { root = Named x; steps = after; place = p })
      (target_to (Named x) p [] new after (lexemes us) (lexemes vs) (lexemes ws) (firm_target x p (lexemes us) g) h j e (two ws us rest vs r q)));
}

pub operand_4 : Lawful b.operand_4 n.operand b.operand_4_body
operand_4 s inner ws u (val {us = us} {ts = rest} (a_root x p g f) (val {us = vs} (walks _ _ _ new after h j e) nil q) r) = record {
  after = path (record { root = x; steps = after; place = p }) ∷ s;
  makes = refl;
  mean = instrs (an_operand (record { root = x; steps = after; place = p })
      (target_to x p [] new after (lexemes us) (lexemes vs) (lexemes ws) (area_target x p (lexemes us) g f) h j e (two ws us rest vs r q)));
}

pub hashed_word_1 : Lawful b.hashed_word_1 n.hashed_word b.hashed_word_1_body
hashed_word_1 s inner ws (top_token h bare) (tok {t = t} i (val (codes (marks_plain_hash {s = below} w _)) nil q)) = record {
  after = path (rooted (Local (plain_name t.lexeme.bytes) true t.lexeme.place) h.place) ∷ below;
  makes = refl;
  mean = instrs (a_hashed_word h (plain_name t.lexeme.bytes) t.lexeme.place
      (subst (λ (z : List Sure). SpellsWord (plain_name t.lexeme.bytes) t.lexeme.place (t.lexeme ∷ lexemes z)) (sym q) (free_word_spelled t i)));
}

pub hashed_word_2 : Lawful b.hashed_word_2 n.hashed_word b.hashed_word_2_body
hashed_word_2 s inner ws (top_token h bare) (tok {t = t} i (val (codes (marks_plain_hash {s = below} w _)) nil q)) = record {
  after = path (rooted (Local (plain_name t.lexeme.bytes) true t.lexeme.place) h.place) ∷ below;
  makes = refl;
  mean = instrs (a_hashed_word h (plain_name t.lexeme.bytes) t.lexeme.place
      (subst (λ (z : List Sure). SpellsWord (plain_name t.lexeme.bytes) t.lexeme.place (t.lexeme ∷ lexemes z)) (sym q)
      (prefix_word t.lexeme (fact.free_prefix t i))));
}

-- ---- literals

pub number_value_1 : Lawful b.number_value_1 n.number_value b.number_value_1_body
number_value_1 s inner ws (top_token {s = below} o bare) (tok {t = t} p nil) = record {
  after = literal (number_behind o t.lexeme t.lexeme.value t.lexeme.place) ∷ token o ∷ below;
  makes = refl;
  mean = instrs (a_value_literal o (number_behind o t.lexeme t.lexeme.value t.lexeme.place) (number_spelled o t.lexeme (number_is t p)));
}

pub number_value_2 : Lawful b.number_value_2 n.number_value b.number_value_2_body
number_value_2 s inner ws (top_token {s = below} o bare) (tok {t = m} p (tok {t = t} q nil)) = record {
  after = literal (number_behind o t.lexeme (neg_ℤ t.lexeme.value) m.lexeme.place) ∷ token o ∷ below;
  makes = refl;
  mean = instrs (a_value_literal o (number_behind o t.lexeme (neg_ℤ t.lexeme.value) m.lexeme.place)
      (negative_spelled o m.lexeme t.lexeme (minus_is m p) (number_is t q)));
}

pub number_value_3 : Lawful b.number_value_3 n.number_value b.number_value_3_body
number_value_3 s inner ws (top_token {s = below} o bare) (tok {t = t} p nil) = record {
  after = literal (record { ty = Some ty.Bool; value = truth_of t.lexeme.bytes; place = t.lexeme.place }) ∷ token o ∷ below;
  makes = refl;
  mean = instrs (a_value_literal o (record { ty = Some ty.Bool; value = truth_of t.lexeme.bytes; place = t.lexeme.place })
      (truth_spelled o t.lexeme (Some ty.Bool) (truth_of t.lexeme.bytes) (truth_said t p)));
}

-- ---- called names

pub called_name_1 : Lawful b.called_name_1 n.called_name b.called_name_1_body
called_name_1 s inner ws u (val {us = us} (instrs (a_callee_alone p h)) nil q) = record {
  after = path p ∷ s;
  makes = refl;
  mean = instrs (a_callee p (along (IsCalleeStl p None) ws us [] q (callee_alone_is p (lexemes us) h)));
}

pub called_name_2 : Lawful b.called_name_2 n.called_name b.called_name_2_body
called_name_2 s inner ws u (tok {t = t} i (val {us = us} {ws = all} (instrs (a_callee_hash _ x at g)) nil q)) = record {
  after = path (rooted (Local x true at) t.lexeme.place) ∷ s;
  makes = refl;
  mean = instrs (a_callee (rooted (Local x true at) t.lexeme.place)
      (along (IsCalleeStl (rooted (Local x true at) t.lexeme.place) None) all us (t.lexeme ∷ []) q
      (callee_hash_is t.lexeme x at (lexemes us) (fact.hash t i) g)));
}

pub plain_called_1 : Lawful b.plain_called_1 n.plain_called b.plain_called_1_body
plain_called_1 s inner ws u (val {us = us} (a_word x p g f) nil q) = record {
  after = path (rooted (Local x false p) p) ∷ s;
  makes = refl;
  mean = instrs (a_callee_alone (rooted (Local x false p) p) (record {
    steps_are = refl;
    unhashed = refl;
    spelled = along (SpellsName x p) ws us [] q (inl g);
    free = f;
  }));
}

pub plain_called_2 : Lawful b.plain_called_2 n.plain_called b.plain_called_2_body
plain_called_2 s inner ws u (val {us = us} (a_firm x p g f) nil q) = record {
  after = path (rooted (Named x) p) ∷ s;
  makes = refl;
  mean = instrs (a_callee_alone (rooted (Named x) p) (record {
    steps_are = refl;
    unhashed = refl;
    spelled = along (SpellsName x p) ws us [] q (inr g);
    free = f;
  }));
}

pub hashed_name_1 : Lawful b.hashed_name_1 n.hashed_name b.hashed_name_1_body
hashed_name_1 s inner ws (top_token h bare) (tok {t = t} i (val (codes (marks_plain_hash {s = below} w _)) nil q)) = record {
  after = path (rooted (Local (plain_name t.lexeme.bytes) true t.lexeme.place) h.place) ∷ below;
  makes = refl;
  mean = instrs (a_callee_hash h (plain_name t.lexeme.bytes) t.lexeme.place
      (subst (λ (z : List Sure). SpellsName (plain_name t.lexeme.bytes) t.lexeme.place (t.lexeme ∷ lexemes z)) (sym q) (inl (free_word_spelled t i))));
}

pub hashed_name_2 : Lawful b.hashed_name_2 n.hashed_name b.hashed_name_2_body
hashed_name_2 s inner ws (top_token h bare) (tok {t = t} i (val {us = us} {ws = all} (instrs (a_callee_prefix {s = below} w _ x at g)) nil q)) = record {
  after = path (rooted (Local x true at) h.place) ∷ below;
  makes = refl;
  mean = instrs (a_callee_hash h x at
      (subst (λ (z : List Sure). SpellsName x at (t.lexeme ∷ lexemes z)) (sym (last all us q)) (g (fact.free_prefix t i))));
}

pub hashed_name_3 : Lawful b.hashed_name_3 n.hashed_name b.hashed_name_3_body
hashed_name_3 s inner ws (top_token h bare) (tok {t = t} i (val (codes (marks_plain_hash {s = below} w _)) nil q)) = record {
  after = path (rooted (Local (plain_name t.lexeme.bytes) true t.lexeme.place) h.place) ∷ below;
  makes = refl;
  mean = instrs (a_callee_hash h (plain_name t.lexeme.bytes) t.lexeme.place
      (subst (λ (z : List Sure). SpellsName (plain_name t.lexeme.bytes) t.lexeme.place (t.lexeme ∷ lexemes z)) (sym q) (free_numbered_spelled t i)));
}

pub hashed_name_4 : Lawful b.hashed_name_4 n.hashed_name b.hashed_name_4_body
hashed_name_4 s inner ws (top_token h bare) (tok {t = t} i (val (codes (marks_quoted_hash {s = below} w _)) nil q)) = record {
  after = path (rooted (Local (quoted_name t.lexeme.bytes) true t.lexeme.place) h.place) ∷ below;
  makes = refl;
  mean = instrs (a_callee_hash h (quoted_name t.lexeme.bytes) t.lexeme.place
      (subst (λ (z : List Sure). SpellsName (quoted_name t.lexeme.bytes) t.lexeme.place (t.lexeme ∷ lexemes z)) (sym q) (quoted_spelled t i)));
}

pub hashed_prefix_1 : Lawful b.hashed_prefix_1 n.hashed_prefix b.hashed_prefix_1_body
hashed_prefix_1 s inner ws u (val {us = us} (codes (marks_numbered_hash {s = below} m w h c)) nil q) = record {
  after = path (rooted (Local (pair_name (w.bytes ++ m.lexeme.bytes)) true w.place) h.place) ∷ below;
  makes = refl;
  mean = instrs (a_callee_prefix w h (pair_name (w.bytes ++ m.lexeme.bytes)) w.place (λ i.
      subst (λ (z : List Sure). SpellsName (pair_name (w.bytes ++ m.lexeme.bytes)) w.place (w ∷ lexemes z)) (sym (last ws us q)) (prefix_pair w m.lexeme i c)));
}

pub hashed_prefix_2 : Lawful b.hashed_prefix_2 n.hashed_prefix b.hashed_prefix_2_body
hashed_prefix_2 s inner ws u (val {us = us} (codes (marks_plain_hash {s = below} w h)) nil q) = record {
  after = path (rooted (Local (plain_name w.bytes) true w.place) h.place) ∷ below;
  makes = refl;
  mean = instrs (a_callee_prefix w h (plain_name w.bytes) w.place (λ i.
      subst (λ (z : List Sure). SpellsName (plain_name w.bytes) w.place (w ∷ lexemes z)) (sym (last ws us q)) (inl (prefix_word w i))));
}

-- ---- second names

pub base_1 : Lawful b.base_1 n.base b.base_1_body
base_1 s inner ws u (val {us = us} (instrs (adds_base {s = below} p r base h)) nil q) = record {
  after = path r ∷ below;
  makes = refl;
  mean = instrs (adds_base p r base (λ xs k. along (IsCalleeStl r base) ws us xs q (h xs k)));
}

pub base_2 : Lawful b.base_2 n.base b.base_2_body
base_2 s inner ws (top_path {s = below} p bare) nil = record {
  after = path p ∷ below;
  makes = refl;
  mean = instrs (adds_base p p None (λ xs k. subst (λ (z : List Lexeme). IsCalleeStl p None z) (sym (append-nil xs)) k));
}

pub base_name_1 : Lawful b.base_name_1 n.base_name b.base_name_1_body
base_name_1 s inner ws (top_path {s = below} p bare) (tok {t = t} i (val {us = us} {ws = all} (instrs (a_callee_alone o g)) nil q)) =
    let r = stepped p (field (named_of o).0 (named_of o).1) in
    record {
      after = path r ∷ below;
      makes = refl;
      mean = instrs (adds_base p r (Some (named_of o)) (λ xs k. callee_based p o t.lexeme xs (lexemes us) (xs ++ t.lexeme ∷ lexemes all) k (fact.comma t i) g
          (ap (λ (z : List Sure). xs ++ t.lexeme ∷ lexemes z) (last all us q))));
    }

-- ---- arguments

-- an argument with its word, and further ones, in parentheses
args_spelled : (x : Name) (at place : Place) (e : ExprTree) (new after : List ArgTree) (o c : Lexeme) (us vs xs ws : List Lexeme) → SpellsWord x at us
    → (SpellsArrow place ⨾ SpellsExpr e) vs → each_behind SpellsArg new xs → after ≡ argument_of (rooted (Local x false at) at) e place ∷ [] ++ new
    → IsSign "(" o → IsSign ")" c → ws ≡ o ∷ (us ++ (vs ++ (xs ++ c ∷ []))) → SpellsArgsStl after ws
args_spelled x at place e new after o c us vs xs ws d g h j i k q =
    subst (λ (z : List ArgTree). SpellsArgsStl z ws) (sym j)
    (subst (λ (z : List Lexeme). (sign "(" ⨾ (SpellsArg (argument_of (rooted (Local x false at) at) e place) ⨾ each_behind SpellsArg new) ⨾ sign ")") z)
    (sym q) (led o (us ++ (vs ++ (xs ++ c ∷ []))) (single o i)
    (joined ((us ++ vs) ++ xs) (c ∷ []) (us ++ (vs ++ (xs ++ c ∷ [])))
    (ap (λ (z : List Lexeme). us ++ z) (sym (append_assoc vs xs (c ∷ []))) ∙ sym (append_assoc us (vs ++ xs) (c ∷ []))
    ∙ ap (λ (z : List Lexeme). z ++ c ∷ []) (sym (append_assoc us vs xs)))
    (joined (us ++ vs) xs ((us ++ vs) ++ xs) refl (joined us vs (us ++ vs) refl d g) h) (single c k))))

args_formed : (x : Name) (at place : Place) (e : ExprTree) (new after : List ArgTree) → IsFree x → IsFormedExpr e → All IsFormedArg new
    → after ≡ argument_of (rooted (Local x false at) at) e place ∷ [] ++ new → All IsFormedArg after
args_formed x at place e new after f g h j =
    subst (λ (z : List ArgTree). All IsFormedArg z) (sym j)
    (All-cons IsFormedArg (argument_of (rooted (Local x false at) at) e place) new (record { name = f; value = g }) h)

four : (all us r1 vs r2 xs : List Sure) (c : Sure) → all ≡ us ++ r1 → r1 ≡ vs ++ r2 → r2 ≡ xs ++ c ∷ []
    → lexemes all ≡ lexemes us ++ (lexemes vs ++ (lexemes xs ++ c.lexeme ∷ []))
four all us r1 vs r2 xs c p q r =
    parted all us r1 p ∙ ap (λ (z : List Lexeme). lexemes us ++ z) (parted r1 vs r2 q ∙ ap (λ (z : List Lexeme). lexemes vs ++ z) (parted r2 xs (c ∷ []) r))

pub call_arguments_1 : Lawful b.call_arguments_1 n.call_arguments b.call_arguments_1_body
call_arguments_1 s inner ws (top_path {s = below} p bare) (tok {t = o} i (val {us = us} {ts = r1} {ws = all} (a_word x at d f)
    (val {us = vs} {ts = r2} (codes (a_first_arg _ e place g k)) (val {us = xs} (codes (adds_args _ new after h l j)) (tok {t = c} m nil) q3) q2) q1)) = record {
      after = code (called (call_of p after)) ∷ below;
      makes = refl;
      mean = instrs (a_call_behind p (call_of p after) (λ base zs t. called_stl p after base zs (o.lexeme ∷ lexemes all) (zs ++ o.lexeme ∷ lexemes all) t
          (args_spelled x at place e new after o.lexeme c.lexeme (lexemes us) (lexemes vs) (lexemes xs) (o.lexeme ∷ lexemes all) d g h j
          (fact.paren_open o i) (fact.paren_close c m) (ap (λ (z : List Lexeme). o.lexeme ∷ z) (four all us r1 vs r2 xs c q1 q2 q3)))
          (args_formed x at place e new after f k l j) refl));
    }

pub call_arguments_2 : Lawful b.call_arguments_2 n.call_arguments b.call_arguments_2_body
call_arguments_2 s inner ws u (val {us = us} (instrs (a_bare_one {s = below} p e)) nil q) = record {
  after = code (called (call_of p [])) ∷ below;
  makes = refl;
  mean = instrs (a_call_behind p (call_of p []) (λ base zs t. called_stl p [] base zs (lexemes ws) (zs ++ lexemes ws) t
      (ap (λ (z : List Sure). lexemes z) (last ws us q ∙ e)) (All-nil IsFormedArg) refl));
}

pub bare_call_1 : Lawful b.bare_call_1 n.bare_call b.bare_call_1_body
bare_call_1 s inner ws (top_path {s = below} p bare) nil =
    record { after = code (called (call_of p [])) ∷ below; makes = refl; mean = instrs (a_bare_one p refl) }
