-- Laws of the productions of expressions and operands: where its body did what its symbols mean, so did its name.
use Prim.Native.String.{String}
use Rattle.std.proofs.Common.{◌≡◌, inl, inr, ℕ, ◌≤◌, Bool, true, false, cond, List, [], ◌∷◌, ◌++◌, Option, Some, None, refl, ap, ◌∙◌, sym, subst, arith}
use Rattle.std.proofs.lemmas.List.{append-nil, append_assoc}
use Rattle.pv_word.specs.declared.types.Ty.TheVariants as ty
use Rattle.pv_place.specs.declared.place.Place.{Place}
use Rattle.pv_types.specs.declared.name.Name.{Name}
use Rattle.pv_tree.specs.declared.expr.Root.{Root}
use Rattle.pv_tree.specs.declared.expr.Root.TheVariants.{Local, Named}
use Rattle.pv_tree.specs.declared.expr.UnaryOp.{UnaryOp}
use Rattle.pv_tree.specs.declared.expr.UnaryOp.TheVariants as u
use Rattle.pv_tree.specs.declared.expr.BinaryOp.TheVariants as o
use Rattle.pv_tree.specs.Tree.{ExprTree, lit, read, unary, binary, paren, ExprTrees, no_exprs, exprs, operand, StepTree, field, index}
use Rattle.pv_tree.specs.View.{steps_of}
use Rattle.pv_tree.specs.Lexemes.{Lexeme, IsJoined, IsSign, IsWord, sign}
use Rattle.pv_tree.specs.Words.{plain_name, pair_name, quoted_name, SpellsWord, SpellsFirm}
use Rattle.pv_tree.specs.Literals.{number_type}
use Rattle.pv_tree.specs.Expressions.{SpellsExpr, SpellsArguments, SpellsRoot, SpellsSteps, SpellsStep, IsFormedRoot, AreFormedSteps, IsFormedStep, IsBefore, AreFormedExprs, strength_of}
use Rattle.pv_ll.specs.declared.table.Symbol.{Symbol}
use Rattle.pv_ll.specs.Meaning.{Law}
use Rattle.pv_ll.specs.Meaning.DoesAll.{nil, tok, val}
use Rattle.pv_parse.specs.declared.action.Action.{Action}
use Rattle.pv_parse.specs.KindNumbers as n
use Rattle.pv_parse.specs.FrontNames as name
use Rattle.pv_parse.specs.FrontBodies as b
use Rattle.pv_parse.specs.TokenTexts.{times_of, compare_of, truth_of, area_of}
use Rattle.pv_parse.specs.Items.{Stack, PathTree, token, path, expr}
use Rattle.pv_parse.specs.ExprDeeds.{rooted, stepped, function_expr}
use Rattle.pv_parse.specs.Deeds.{expression_actions}
use Rattle.pv_parse.proofs.Sure.{IsPrefix}
use Rattle.pv_parse.proofs.Sorts.{Sure, lexemes, sure_making, Holds, IsFreeWord, Sort, Does, a_label, a_word, a_firm, a_root, a_field, walks, an_expr, leads, word, walk, chain, on_path, on_expr, expression_sorts, meaning}
use Rattle.pv_parse.proofs.Forms.{last, parted, single, single_at, led, joined}
use Rattle.pv_parse.proofs.ChainLaws.{on_lexemes, weaker, first_then, link_then, no_link, linked}
use Rattle.pv_parse.proofs.TokenFacts as fact
use Rattle.pv_parse.proofs.TokenFacts.{IsFunctionOf}

-- a law in each grammar that begins with the productions of expressions
abbrev pub Lawful : List Action → List Sort → ℕ → ℕ → List Symbol → Type 0
Lawful acts sorts k m body = Law (sure_making (expression_actions ++ acts)) (meaning (expression_sorts ++ sorts)) k m body

-- two names alone
two : (ws us rest vs : List Sure) → ws ≡ us ++ rest → rest ≡ vs ++ [] → ws ≡ us ++ vs
two ws us rest vs p q = p ∙ ap (λ (z : List Sure). us ++ z) (last rest vs q)

-- what one name made is what another makes
same_expr : {s : Stack} (l m : ℕ) (e : ExprTree) (ws us : List Sure) → l ≤ m → Holds m e (lexemes us) → ws ≡ us ++ [] → Does (chain l) s ws (expr e ∷ s)
same_expr l m e ws us h a p =
    an_expr e (on_lexemes l e (lexemes us) (lexemes ws) (ap (λ z. lexemes z) (sym (last ws us p))) (weaker l m e (lexemes us) h a))

-- ---- words and names

word_root : {s : Stack} (t : Sure) (ws : List Sure) → IsFreeWord t.lexeme → ws ≡ t ∷ []
    → Does word s ws (path (rooted (Local (plain_name t.lexeme.bytes) false t.lexeme.place) t.lexeme.place) ∷ s)
word_root {s} t ws h p =
    subst (λ (z : List Sure). Does word s z (path (rooted (Local (plain_name t.lexeme.bytes) false t.lexeme.place) t.lexeme.place) ∷ s)) (sym p)
    (a_word (plain_name t.lexeme.bytes) t.lexeme.place
    (single_at t.lexeme (record { kind = h.kind; unnumbered = h.unnumbered; names = refl })) h.free)

pub word_1 : (acts : List Action) (sorts : List Sort) → Lawful acts sorts b.word_1 name.word b.word_1_body
word_1 acts sorts s inner ws w (val (a_label t h) nil e) =
    record { after = path (rooted (Local (plain_name t.lexeme.bytes) false t.lexeme.place) t.lexeme.place) ∷ s; makes = refl; mean = word_root t ws h (last ws (t ∷ []) e) }

pub word_2 : (acts : List Action) (sorts : List Sort) → Lawful acts sorts b.word_2 name.word b.word_2_body
word_2 acts sorts s inner ws w (tok {t = t} p nil) = record {
  after = path (rooted (Local (plain_name t.lexeme.bytes) false t.lexeme.place) t.lexeme.place) ∷ s;
  makes = refl;
  mean = word_root t (t ∷ []) (fact.free_bit_op t p) refl;
}

pub word_3 : (acts : List Action) (sorts : List Sort) → Lawful acts sorts b.word_3 name.word b.word_3_body
word_3 acts sorts s inner ws w (tok {t = t} p nil) = record {
  after = path (rooted (Local (plain_name t.lexeme.bytes) false t.lexeme.place) t.lexeme.place) ∷ s;
  makes = refl;
  mean = word_root t (t ∷ []) (fact.free_or_op t p) refl;
}

pub word_4 : (acts : List Action) (sorts : List Sort) → Lawful acts sorts b.word_4 name.word b.word_4_body
word_4 acts sorts s inner ws w (tok {t = t} p nil) = record {
  after = path (rooted (Local (plain_name t.lexeme.bytes) false t.lexeme.place) t.lexeme.place) ∷ s;
  makes = refl;
  mean = word_root t (t ∷ []) (fact.free_value_op t p) refl;
}

pub word_5 : (acts : List Action) (sorts : List Sort) → Lawful acts sorts b.word_5 name.word b.word_5_body
word_5 acts sorts s inner ws w (tok {t = t} p nil) = record {
  after = path (rooted (Local (plain_name t.lexeme.bytes) false t.lexeme.place) t.lexeme.place) ∷ s;
  makes = refl;
  mean = word_root t (t ∷ []) (fact.free_free_op t p) refl;
}

pub label_word_1 : (acts : List Action) (sorts : List Sort) → Lawful acts sorts b.label_word_1 name.label_word b.label_word_1_body
label_word_1 acts sorts s inner ws w (tok {t = t} p nil) =
    record { after = token t.lexeme ∷ s; makes = refl; mean = a_label t (fact.free_plain t p) }

pub label_word_2 : (acts : List Action) (sorts : List Sort) → Lawful acts sorts b.label_word_2 name.label_word b.label_word_2_body
label_word_2 acts sorts s inner ws w (tok {t = t} p nil) =
    record { after = token t.lexeme ∷ s; makes = refl; mean = a_label t (fact.free_in_word t p) }

pub label_word_3 : (acts : List Action) (sorts : List Sort) → Lawful acts sorts b.label_word_3 name.label_word b.label_word_3_body
label_word_3 acts sorts s inner ws w (tok {t = t} p nil) =
    record { after = token t.lexeme ∷ s; makes = refl; mean = a_label t (fact.free_in0_word t p) }

pub label_word_4 : (acts : List Action) (sorts : List Sort) → Lawful acts sorts b.label_word_4 name.label_word b.label_word_4_body
label_word_4 acts sorts s inner ws w (tok {t = t} p nil) =
    record { after = token t.lexeme ∷ s; makes = refl; mean = a_label t (fact.free_in1_word t p) }

pub label_word_5 : (acts : List Action) (sorts : List Sort) → Lawful acts sorts b.label_word_5 name.label_word b.label_word_5_body
label_word_5 acts sorts s inner ws w (tok {t = t} p nil) =
    record { after = token t.lexeme ∷ s; makes = refl; mean = a_label t (fact.free_in2_word t p) }

pub label_word_6 : (acts : List Action) (sorts : List Sort) → Lawful acts sorts b.label_word_6 name.label_word b.label_word_6_body
label_word_6 acts sorts s inner ws w (tok {t = t} p nil) =
    record { after = token t.lexeme ∷ s; makes = refl; mean = a_label t (fact.free_mn_word t p) }

pub label_word_7 : (acts : List Action) (sorts : List Sort) → Lawful acts sorts b.label_word_7 name.label_word b.label_word_7_body
label_word_7 acts sorts s inner ws w (tok {t = t} p nil) =
    record { after = token t.lexeme ∷ s; makes = refl; mean = a_label t (fact.free_mx_word t p) }

pub label_word_8 : (acts : List Action) (sorts : List Sort) → Lawful acts sorts b.label_word_8 name.label_word b.label_word_8_body
label_word_8 acts sorts s inner ws w (tok {t = t} p nil) =
    record { after = token t.lexeme ∷ s; makes = refl; mean = a_label t (fact.free_g_word t p) }

pub label_word_9 : (acts : List Action) (sorts : List Sort) → Lawful acts sorts b.label_word_9 name.label_word b.label_word_9_body
label_word_9 acts sorts s inner ws w (tok {t = t} p nil) =
    record { after = token t.lexeme ∷ s; makes = refl; mean = a_label t (fact.free_n_word t p) }

pub firm_name_1 : (acts : List Action) (sorts : List Sort) → Lawful acts sorts b.firm_name_1 name.firm_name b.firm_name_1_body
firm_name_1 acts sorts s inner ws w (tok {t = t} p nil) = record {
  after = path (rooted (Named (quoted_name t.lexeme.bytes)) t.lexeme.place) ∷ s;
  makes = refl;
  mean = a_firm (quoted_name t.lexeme.bytes) t.lexeme.place (inl (single_at t.lexeme (fact.quoted t p))) (fact.quoted_free t p);
}

pair_spelled : (t m : Sure) → IsPrefix t.lexeme → (q : m.kind ≡ n.number)
    → SpellsFirm (pair_name (t.lexeme.bytes ++ m.lexeme.bytes)) t.lexeme.place (t.lexeme ∷ m.lexeme ∷ [])
pair_spelled t m h q = inr (inr (record {
  prefix = t.lexeme;
  number = m.lexeme;
  parts = refl;
  at = refl;
  word = h.word;
  is_prefix = h.is_prefix;
  counts = fact.number m q;
  names = refl;
}))

pub firm_name_2 : (acts : List Action) (sorts : List Sort) → Lawful acts sorts b.firm_name_2 name.firm_name b.firm_name_2_body
firm_name_2 acts sorts s inner ws w (tok {t = t} p (tok {t = m} q nil)) = record {
  after = path (rooted (Named (pair_name (t.lexeme.bytes ++ m.lexeme.bytes))) t.lexeme.place) ∷ s;
  makes = refl;
  mean = a_firm (pair_name (t.lexeme.bytes ++ m.lexeme.bytes)) t.lexeme.place (pair_spelled t m (fact.prefix t p) q) (fact.pair_free t m (fact.prefix t p) q);
}

pub firm_name_3 : (acts : List Action) (sorts : List Sort) → Lawful acts sorts b.firm_name_3 name.firm_name b.firm_name_3_body
firm_name_3 acts sorts s inner ws w (tok {t = t} p nil) = record {
  after = path (rooted (Named (plain_name t.lexeme.bytes)) t.lexeme.place) ∷ s;
  makes = refl;
  mean = a_firm (plain_name t.lexeme.bytes) t.lexeme.place (inr (inl (single_at t.lexeme (fact.numbered t p)))) (fact.numbered_free t p);
}

pub field_1 : (acts : List Action) (sorts : List Sort) → Lawful acts sorts b.field_1 name.field b.field_1_body
field_1 acts sorts s inner ws w (tok {t = t} p nil) = record {
  after = path (rooted (Local (plain_name t.lexeme.bytes) false t.lexeme.place) t.lexeme.place) ∷ s;
  makes = refl;
  mean = a_field (plain_name t.lexeme.bytes) t.lexeme.place (single_at t.lexeme (fact.marked_word t (inl p)));
}

pub field_2 : (acts : List Action) (sorts : List Sort) → Lawful acts sorts b.field_2 name.field b.field_2_body
field_2 acts sorts s inner ws w (tok {t = t} p nil) = record {
  after = path (rooted (Local (plain_name t.lexeme.bytes) false t.lexeme.place) t.lexeme.place) ∷ s;
  makes = refl;
  mean = a_field (plain_name t.lexeme.bytes) t.lexeme.place (single_at t.lexeme (fact.marked_word t (inr p)));
}

-- ---- chains

pub expression_1 : (acts : List Action) (sorts : List Sort) → Lawful acts sorts b.expression_1 name.expression b.expression_1_body
expression_1 acts sorts s inner ws w (val {us = us} {ts = rest} (an_expr e a) (val {us = vs} (leads _ f k) nil q) p) =
    record { after = expr f ∷ s; makes = refl; mean = first_then 0 1 ws us vs e f (omega arith) a k (two ws us rest vs p q) }

pub or_tail_1 : (acts : List Action) (sorts : List Sort) → Lawful acts sorts b.or_tail_1 name.or_tail b.or_tail_1_body
or_tail_1 acts sorts s inner ws w (val {us = us} {ts = rest} (leads {s = below} e f h) (val {us = vs} (leads _ g k) nil q) p) =
    record { after = expr g ∷ below; makes = refl; mean = link_then 0 0 0 ws us vs e f g h k (two ws us rest vs p q) }

pub or_tail_2 : (acts : List Action) (sorts : List Sort) → Lawful acts sorts b.or_tail_2 name.or_tail b.or_tail_2_body
or_tail_2 acts sorts s inner ws (on_expr e below) nil = record { after = expr e ∷ below; makes = refl; mean = no_link 0 e }

pub xor_chain_1 : (acts : List Action) (sorts : List Sort) → Lawful acts sorts b.xor_chain_1 name.xor_chain b.xor_chain_1_body
xor_chain_1 acts sorts s inner ws w (val {us = us} {ts = rest} (an_expr e a) (val {us = vs} (leads _ f k) nil q) p) =
    record { after = expr f ∷ s; makes = refl; mean = first_then 1 2 ws us vs e f (omega arith) a k (two ws us rest vs p q) }

pub xor_tail_1 : (acts : List Action) (sorts : List Sort) → Lawful acts sorts b.xor_tail_1 name.xor_tail b.xor_tail_1_body
xor_tail_1 acts sorts s inner ws w (val {us = us} {ts = rest} (leads {s = below} e f h) (val {us = vs} (leads _ g k) nil q) p) =
    record { after = expr g ∷ below; makes = refl; mean = link_then 1 1 1 ws us vs e f g h k (two ws us rest vs p q) }

pub xor_tail_2 : (acts : List Action) (sorts : List Sort) → Lawful acts sorts b.xor_tail_2 name.xor_tail b.xor_tail_2_body
xor_tail_2 acts sorts s inner ws (on_expr e below) nil = record { after = expr e ∷ below; makes = refl; mean = no_link 1 e }

pub and_chain_1 : (acts : List Action) (sorts : List Sort) → Lawful acts sorts b.and_chain_1 name.and_chain b.and_chain_1_body
and_chain_1 acts sorts s inner ws w (val {us = us} {ts = rest} (an_expr e a) (val {us = vs} (leads _ f k) nil q) p) =
    record { after = expr f ∷ s; makes = refl; mean = first_then 2 3 ws us vs e f (omega arith) a k (two ws us rest vs p q) }

pub and_tail_1 : (acts : List Action) (sorts : List Sort) → Lawful acts sorts b.and_tail_1 name.and_tail b.and_tail_1_body
and_tail_1 acts sorts s inner ws w (val {us = us} {ts = rest} (leads {s = below} e f h) (val {us = vs} (leads _ g k) nil q) p) =
    record { after = expr g ∷ below; makes = refl; mean = link_then 2 2 2 ws us vs e f g h k (two ws us rest vs p q) }

pub and_tail_2 : (acts : List Action) (sorts : List Sort) → Lawful acts sorts b.and_tail_2 name.and_tail b.and_tail_2_body
and_tail_2 acts sorts s inner ws (on_expr e below) nil = record { after = expr e ∷ below; makes = refl; mean = no_link 2 e }

pub equal_chain_1 : (acts : List Action) (sorts : List Sort) → Lawful acts sorts b.equal_chain_1 name.equal_chain b.equal_chain_1_body
equal_chain_1 acts sorts s inner ws w (val {us = us} {ts = rest} (an_expr e a) (val {us = vs} (leads _ f k) nil q) p) =
    record { after = expr f ∷ s; makes = refl; mean = first_then 3 4 ws us vs e f (omega arith) a k (two ws us rest vs p q) }

pub equal_tail_1 : (acts : List Action) (sorts : List Sort) → Lawful acts sorts b.equal_tail_1 name.equal_tail b.equal_tail_1_body
equal_tail_1 acts sorts s inner ws w (val {us = us} {ts = rest} (leads {s = below} e f h) (val {us = vs} (leads _ g k) nil q) p) =
    record { after = expr g ∷ below; makes = refl; mean = link_then 3 3 3 ws us vs e f g h k (two ws us rest vs p q) }

pub equal_tail_2 : (acts : List Action) (sorts : List Sort) → Lawful acts sorts b.equal_tail_2 name.equal_tail b.equal_tail_2_body
equal_tail_2 acts sorts s inner ws (on_expr e below) nil = record { after = expr e ∷ below; makes = refl; mean = no_link 3 e }

pub compare_chain_1 : (acts : List Action) (sorts : List Sort) → Lawful acts sorts b.compare_chain_1 name.compare_chain b.compare_chain_1_body
compare_chain_1 acts sorts s inner ws w (val {us = us} {ts = rest} (an_expr e a) (val {us = vs} (leads _ f k) nil q) p) =
    record { after = expr f ∷ s; makes = refl; mean = first_then 4 5 ws us vs e f (omega arith) a k (two ws us rest vs p q) }

pub compare_tail_1 : (acts : List Action) (sorts : List Sort) → Lawful acts sorts b.compare_tail_1 name.compare_tail b.compare_tail_1_body
compare_tail_1 acts sorts s inner ws w (val {us = us} {ts = rest} (leads {s = below} e f h) (val {us = vs} (leads _ g k) nil q) p) =
    record { after = expr g ∷ below; makes = refl; mean = link_then 4 4 4 ws us vs e f g h k (two ws us rest vs p q) }

pub compare_tail_2 : (acts : List Action) (sorts : List Sort) → Lawful acts sorts b.compare_tail_2 name.compare_tail b.compare_tail_2_body
compare_tail_2 acts sorts s inner ws (on_expr e below) nil = record { after = expr e ∷ below; makes = refl; mean = no_link 4 e }

pub sum_chain_1 : (acts : List Action) (sorts : List Sort) → Lawful acts sorts b.sum_chain_1 name.sum_chain b.sum_chain_1_body
sum_chain_1 acts sorts s inner ws w (val {us = us} {ts = rest} (an_expr e a) (val {us = vs} (leads _ f k) nil q) p) =
    record { after = expr f ∷ s; makes = refl; mean = first_then 5 6 ws us vs e f (omega arith) a k (two ws us rest vs p q) }

pub sum_tail_1 : (acts : List Action) (sorts : List Sort) → Lawful acts sorts b.sum_tail_1 name.sum_tail b.sum_tail_1_body
sum_tail_1 acts sorts s inner ws w (val {us = us} {ts = rest} (leads {s = below} e f h) (val {us = vs} (leads _ g k) nil q) p) =
    record { after = expr g ∷ below; makes = refl; mean = link_then 5 5 5 ws us vs e f g h k (two ws us rest vs p q) }

pub sum_tail_2 : (acts : List Action) (sorts : List Sort) → Lawful acts sorts b.sum_tail_2 name.sum_tail b.sum_tail_2_body
sum_tail_2 acts sorts s inner ws (on_expr e below) nil = record { after = expr e ∷ below; makes = refl; mean = no_link 5 e }

pub product_chain_1 : (acts : List Action) (sorts : List Sort) → Lawful acts sorts b.product_chain_1 name.product_chain b.product_chain_1_body
product_chain_1 acts sorts s inner ws w (val {us = us} {ts = rest} (an_expr e a) (val {us = vs} (leads _ f k) nil q) p) =
    record { after = expr f ∷ s; makes = refl; mean = first_then 6 7 ws us vs e f (omega arith) a k (two ws us rest vs p q) }

pub product_tail_1 : (acts : List Action) (sorts : List Sort) → Lawful acts sorts b.product_tail_1 name.product_tail b.product_tail_1_body
product_tail_1 acts sorts s inner ws w (val {us = us} {ts = rest} (leads {s = below} e f h) (val {us = vs} (leads _ g k) nil q) p) =
    record { after = expr g ∷ below; makes = refl; mean = link_then 6 6 6 ws us vs e f g h k (two ws us rest vs p q) }

pub product_tail_2 : (acts : List Action) (sorts : List Sort) → Lawful acts sorts b.product_tail_2 name.product_tail b.product_tail_2_body
product_tail_2 acts sorts s inner ws (on_expr e below) nil = record { after = expr e ∷ below; makes = refl; mean = no_link 6 e }

compares : (x y z : Bool) → strength_of (cond x o.Less (cond y o.Greater (cond z o.LessEqual o.GreaterEqual))) ≡ 4
compares true y z = refl
compares false true z = refl
compares false false true = refl
compares false false false = refl

compare_level : (bytes : List ℕ) → strength_of (compare_of bytes) ≡ 4
unfolding compare_of
compare_level bytes = compares _ _ _

multiplies : (x : Bool) → strength_of (cond x o.Mul o.Div) ≡ 6
multiplies true = refl
multiplies false = refl

times_level : (bytes : List ℕ) → strength_of (times_of bytes) ≡ 6
unfolding times_of
times_level bytes = multiplies _

pub or_link_1 : (acts : List Action) (sorts : List Sort) → Lawful acts sorts b.or_link_1 name.or_link b.or_link_1_body
or_link_1 acts sorts s inner ws (on_expr e below) (tok {t = t} p (val {us = us} {ws = rest} (an_expr r a) nil q)) = record {
  after = expr (binary o.Or t.lexeme.place e r) ∷ below;
  makes = refl;
  mean = linked 0 o.Or e r t rest us (refl) (fact.or_word t p) a (last rest us q);
}

pub xor_link_1 : (acts : List Action) (sorts : List Sort) → Lawful acts sorts b.xor_link_1 name.xor_link b.xor_link_1_body
xor_link_1 acts sorts s inner ws (on_expr e below) (tok {t = t} p (val {us = us} {ws = rest} (an_expr r a) nil q)) = record {
  after = expr (binary o.Xor t.lexeme.place e r) ∷ below;
  makes = refl;
  mean = linked 1 o.Xor e r t rest us (refl) (fact.xor_word t p) a (last rest us q);
}

pub and_link_1 : (acts : List Action) (sorts : List Sort) → Lawful acts sorts b.and_link_1 name.and_link b.and_link_1_body
and_link_1 acts sorts s inner ws (on_expr e below) (tok {t = t} p (val {us = us} {ws = rest} (an_expr r a) nil q)) = record {
  after = expr (binary o.And t.lexeme.place e r) ∷ below;
  makes = refl;
  mean = linked 2 o.And e r t rest us (refl) (fact.and_word t p) a (last rest us q);
}

pub equal_link_1 : (acts : List Action) (sorts : List Sort) → Lawful acts sorts b.equal_link_1 name.equal_link b.equal_link_1_body
equal_link_1 acts sorts s inner ws (on_expr e below) (tok {t = t} p (val {us = us} {ws = rest} (an_expr r a) nil q)) = record {
  after = expr (binary o.Equal t.lexeme.place e r) ∷ below;
  makes = refl;
  mean = linked 3 o.Equal e r t rest us (refl) (fact.equals t p) a (last rest us q);
}

pub equal_link_2 : (acts : List Action) (sorts : List Sort) → Lawful acts sorts b.equal_link_2 name.equal_link b.equal_link_2_body
equal_link_2 acts sorts s inner ws (on_expr e below) (tok {t = t} p (val {us = us} {ws = rest} (an_expr r a) nil q)) = record {
  after = expr (binary o.NotEqual t.lexeme.place e r) ∷ below;
  makes = refl;
  mean = linked 3 o.NotEqual e r t rest us (refl) (fact.unequal t p) a (last rest us q);
}

pub compare_link_1 : (acts : List Action) (sorts : List Sort) → Lawful acts sorts b.compare_link_1 name.compare_link b.compare_link_1_body
compare_link_1 acts sorts s inner ws (on_expr e below) (tok {t = t} p (val {us = us} {ws = rest} (an_expr r a) nil q)) = record {
  after = expr (binary (compare_of t.lexeme.bytes) t.lexeme.place e r) ∷ below;
  makes = refl;
  mean = linked 4 (compare_of t.lexeme.bytes) e r t rest us (compare_level t.lexeme.bytes) (fact.compare t p) a (last rest us q);
}

pub sum_link_1 : (acts : List Action) (sorts : List Sort) → Lawful acts sorts b.sum_link_1 name.sum_link b.sum_link_1_body
sum_link_1 acts sorts s inner ws (on_expr e below) (tok {t = t} p (val {us = us} {ws = rest} (an_expr r a) nil q)) = record {
  after = expr (binary o.Add t.lexeme.place e r) ∷ below;
  makes = refl;
  mean = linked 5 o.Add e r t rest us (refl) (fact.plus t p) a (last rest us q);
}

pub sum_link_2 : (acts : List Action) (sorts : List Sort) → Lawful acts sorts b.sum_link_2 name.sum_link b.sum_link_2_body
sum_link_2 acts sorts s inner ws (on_expr e below) (tok {t = t} p (val {us = us} {ws = rest} (an_expr r a) nil q)) = record {
  after = expr (binary o.Sub t.lexeme.place e r) ∷ below;
  makes = refl;
  mean = linked 5 o.Sub e r t rest us (refl) (fact.minus t p) a (last rest us q);
}

pub product_link_1 : (acts : List Action) (sorts : List Sort) → Lawful acts sorts b.product_link_1 name.product_link b.product_link_1_body
product_link_1 acts sorts s inner ws (on_expr e below) (tok {t = t} p (val {us = us} {ws = rest} (an_expr r a) nil q)) = record {
  after = expr (binary (times_of t.lexeme.bytes) t.lexeme.place e r) ∷ below;
  makes = refl;
  mean = linked 6 (times_of t.lexeme.bytes) e r t rest us (times_level t.lexeme.bytes) (fact.times t p) a (last rest us q);
}

pub product_link_2 : (acts : List Action) (sorts : List Sort) → Lawful acts sorts b.product_link_2 name.product_link b.product_link_2_body
product_link_2 acts sorts s inner ws (on_expr e below) (tok {t = t} p (val {us = us} {ws = rest} (an_expr r a) nil q)) = record {
  after = expr (binary o.Mod t.lexeme.place e r) ∷ below;
  makes = refl;
  mean = linked 6 o.Mod e r t rest us (refl) (fact.mod_word t p) a (last rest us q);
}

-- ---- factors

pub factor_1 : (acts : List Action) (sorts : List Sort) → Lawful acts sorts b.factor_1 name.factor b.factor_1_body
factor_1 acts sorts s inner ws w (val {us = us} (an_expr e a) nil p) =
    record { after = expr e ∷ s; makes = refl; mean = same_expr 7 7 e ws us (omega arith) a p }

pub factor_2 : (acts : List Action) (sorts : List Sort) → Lawful acts sorts b.factor_2 name.factor b.factor_2_body
factor_2 acts sorts s inner ws w (val {us = us} (an_expr e a) nil p) =
    record { after = expr e ∷ s; makes = refl; mean = same_expr 7 7 e ws us (omega arith) a p }

pub other_factor_1 : (acts : List Action) (sorts : List Sort) → Lawful acts sorts b.other_factor_1 name.other_factor b.other_factor_1_body
other_factor_1 acts sorts s inner ws w (val {us = us} (an_expr e a) nil p) =
    record { after = expr e ∷ s; makes = refl; mean = same_expr 7 7 e ws us (omega arith) a p }

pub other_factor_2 : (acts : List Action) (sorts : List Sort) → Lawful acts sorts b.other_factor_2 name.other_factor b.other_factor_2_body
other_factor_2 acts sorts s inner ws w (val {us = us} (an_expr e a) nil p) =
    record { after = expr e ∷ s; makes = refl; mean = same_expr 7 7 e ws us (omega arith) a p }

pub firm_factor_5 : (acts : List Action) (sorts : List Sort) → Lawful acts sorts b.firm_factor_5 name.firm_factor b.firm_factor_5_body
firm_factor_5 acts sorts s inner ws w (val {us = us} (an_expr e a) nil p) =
    record { after = expr e ∷ s; makes = refl; mean = same_expr 7 7 e ws us (omega arith) a p }

-- an operand that is read
read_along : (r : Root) (p : Place) (path_ : List StepTree) (xs ys ws : List Lexeme) → ws ≡ xs ++ ys → SpellsRoot r p xs → IsFormedRoot r
    → SpellsSteps (steps_of path_) ys → AreFormedSteps (steps_of path_) → Holds 7 (read (operand r (steps_of path_) p)) ws
read_along r p path_ xs ys ws e h f g i = record { spelled = joined xs ys ws e h g; formed = (f, i); strong = omega arith }

-- a word alone begins an operand
pub word_begins : (n : Name) (p : Place) (ts : List Lexeme) → SpellsWord n p ts → SpellsRoot (Local n false p) p ts
word_begins n p ts d = record { token = d.token; alone = d.alone; is = record { is = d.is; at = d.is.at } }

pub word_read_1 : (acts : List Action) (sorts : List Sort) → Lawful acts sorts b.word_read_1 name.word_read b.word_read_1_body
word_read_1 acts sorts s inner ws w (val {us = us} {ts = rest} (a_word x p h f) (val {us = vs} (walks _ _ before new after g i j) nil q) e) = record {
  after = expr (read (operand (Local x false p) (steps_of after) p)) ∷ s;
  makes = refl;
  mean = an_expr (read (operand (Local x false p) (steps_of after) p)) (read_along (Local x false p) p after (lexemes us) (lexemes vs) (lexemes ws)
      (parted ws us vs (two ws us rest vs e q)) (word_begins x p (lexemes us) h) f (subst (λ (z : List StepTree). SpellsSteps (steps_of z) (lexemes vs)) (sym j) g)
      (subst (λ (z : List StepTree). AreFormedSteps (steps_of z)) (sym j) i));
}

pub name_read_2 : (acts : List Action) (sorts : List Sort) → Lawful acts sorts b.name_read_2 name.name_read b.name_read_2_body
name_read_2 acts sorts s inner ws w (val {us = us} {ts = rest} (a_firm x p h free) (val {us = vs} (walks _ _ before new after g i j) nil q) e) = record {
  after = expr (read (operand (Named x) (steps_of after) p)) ∷ s;
  makes = refl;
  mean = an_expr (read (operand (Named x) (steps_of after) p)) (read_along (Named x) p after (lexemes us) (lexemes vs) (lexemes ws)
      (parted ws us vs (two ws us rest vs e q)) h tt (subst (λ (z : List StepTree). SpellsSteps (steps_of z) (lexemes vs)) (sym j) g)
      (subst (λ (z : List StepTree). AreFormedSteps (steps_of z)) (sym j) i));
}

pub firm_factor_1 : (acts : List Action) (sorts : List Sort) → Lawful acts sorts b.firm_factor_1 name.firm_factor b.firm_factor_1_body
firm_factor_1 acts sorts s inner ws w (val {us = us} {ts = rest} (a_root r p h f) (val {us = vs} (walks _ _ before new after g i j) nil q) e) = record {
  after = expr (read (operand r (steps_of after) p)) ∷ s;
  makes = refl;
  mean = an_expr (read (operand r (steps_of after) p)) (read_along r p after (lexemes us) (lexemes vs) (lexemes ws)
      (parted ws us vs (two ws us rest vs e q)) h f (subst (λ (z : List StepTree). SpellsSteps (steps_of z) (lexemes vs)) (sym j) g)
      (subst (λ (z : List StepTree). AreFormedSteps (steps_of z)) (sym j) i));
}

pub name_read_1 : (acts : List Action) (sorts : List Sort) → Lawful acts sorts b.name_read_1 name.name_read b.name_read_1_body
name_read_1 acts sorts s inner ws w (tok {t = t} m (val {us = us} {ts = rest} {ws = all} (a_field x p h) (val {us = vs} (walks _ _ before new after g i j) nil q) e)) = record {
  after = expr (read (operand (Local x true p) (steps_of after) t.lexeme.place)) ∷ s;
  makes = refl;
  mean = an_expr (read (operand (Local x true p) (steps_of after) t.lexeme.place)) (read_along (Local x true p) t.lexeme.place after
      (t.lexeme ∷ lexemes us) (lexemes vs) (t.lexeme ∷ lexemes all)
      (ap (λ (z : List Lexeme). t.lexeme ∷ z) (parted all us vs (two all us rest vs e q)))
      (led t.lexeme (lexemes us) (single_at t.lexeme (fact.hash t m)) h) tt
      (subst (λ (z : List StepTree). SpellsSteps (steps_of z) (lexemes vs)) (sym j) g)
      (subst (λ (z : List StepTree). AreFormedSteps (steps_of z)) (sym j) i));
}

pub firm_factor_2 : (acts : List Action) (sorts : List Sort) → Lawful acts sorts b.firm_factor_2 name.firm_factor b.firm_factor_2_body
firm_factor_2 acts sorts s inner ws w (tok {t = t} p nil) = record {
  after = expr (lit (number_type t.lexeme.bytes) t.lexeme.value t.lexeme.place) ∷ s;
  makes = refl;
  mean = an_expr (lit (number_type t.lexeme.bytes) t.lexeme.value t.lexeme.place) (record {
    spelled = inl (single_at t.lexeme (record { kind = fact.number t p; typed = refl; valued = refl }));
    formed = tt;
    strong = omega arith;
  });
}

pub firm_factor_3 : (acts : List Action) (sorts : List Sort) → Lawful acts sorts b.firm_factor_3 name.firm_factor b.firm_factor_3_body
firm_factor_3 acts sorts s inner ws w (tok {t = t} p nil) = record {
  after = expr (lit (Some ty.Bool) (truth_of t.lexeme.bytes) t.lexeme.place) ∷ s;
  makes = refl;
  mean = an_expr (lit (Some ty.Bool) (truth_of t.lexeme.bytes) t.lexeme.place)
      (record { spelled = inr (single_at t.lexeme (fact.truth t p)); formed = tt; strong = omega arith });
}

pub firm_factor_4 : (acts : List Action) (sorts : List Sort) → Lawful acts sorts b.firm_factor_4 name.firm_factor b.firm_factor_4_body
firm_factor_4 acts sorts s inner ws w (tok {t = t} p (val {us = us} {ws = all} (an_expr e a) (tok {t = d} q nil) eq)) = record {
  after = expr (paren t.lexeme.place e) ∷ s;
  makes = refl;
  mean = an_expr (paren t.lexeme.place e) (record {
    spelled = led t.lexeme (lexemes all) (single_at t.lexeme (fact.paren_open t p)) (joined (lexemes us) (d.lexeme ∷ []) (lexemes all)
        (parted all us (d ∷ []) eq) a.spelled (single d.lexeme (fact.paren_close d q)));
    formed = a.formed;
    strong = omega arith;
  });
}

before_operand : {s : Stack} (op : UnaryOp) (t : Sure) (e : ExprTree) (all us : List Sure) → IsBefore op t.lexeme → Holds 7 e (lexemes us) → all ≡ us ++ []
    → Does (chain 7) s (t ∷ all) (expr (unary op t.lexeme.place e) ∷ s)
before_operand op t e all us h a p =
    let b : Holds 7 e (lexemes all) = on_lexemes 7 e (lexemes us) (lexemes all) (ap (λ z. lexemes z) (sym (last all us p))) a in
    an_expr (unary op t.lexeme.place e)
    (record { spelled = led t.lexeme (lexemes all) (single_at t.lexeme h) b.spelled; formed = (b.strong, b.formed); strong = omega arith })

pub firm_factor_6 : (acts : List Action) (sorts : List Sort) → Lawful acts sorts b.firm_factor_6 name.firm_factor b.firm_factor_6_body
firm_factor_6 acts sorts s inner ws w (tok {t = t} p (val {us = us} {ws = all} (an_expr e a) nil q)) =
    record { after = expr (unary u.Plus t.lexeme.place e) ∷ s; makes = refl; mean = before_operand u.Plus t e all us (fact.plus t p) a q }

pub firm_factor_7 : (acts : List Action) (sorts : List Sort) → Lawful acts sorts b.firm_factor_7 name.firm_factor b.firm_factor_7_body
firm_factor_7 acts sorts s inner ws w (tok {t = t} p (val {us = us} {ws = all} (an_expr e a) nil q)) =
    record { after = expr (unary u.Minus t.lexeme.place e) ∷ s; makes = refl; mean = before_operand u.Minus t e all us (fact.minus t p) a q }

pub firm_factor_8 : (acts : List Action) (sorts : List Sort) → Lawful acts sorts b.firm_factor_8 name.firm_factor b.firm_factor_8_body
firm_factor_8 acts sorts s inner ws w (tok {t = t} p (val {us = us} {ws = all} (an_expr e a) nil q)) =
    record { after = expr (unary u.Not t.lexeme.place e) ∷ s; makes = refl; mean = before_operand u.Not t e all us (fact.not_word t p) a q }

-- ---- functions

-- arguments, and `)` behind them
abbrev Closed : Bool → List (Option String) → ExprTrees → List Lexeme → Type 0
Closed first parameters args ts = IsJoined (SpellsArguments first parameters args) (sign ")") ts

bare : (e : ExprTree) (us ts : List Lexeme) (d : Lexeme) → SpellsExpr e us → IsSign ")" d → ts ≡ us ++ d ∷ [] → Closed true (None ∷ []) (exprs e no_exprs) ts
bare e us ts d h c p = joined us (d ∷ []) ts p
    (joined [] us us refl refl (joined [] us us refl refl (joined us [] us (sym (append-nil us)) h refl))) (single d c)

closing : (d : Lexeme) → IsSign ")" d → Closed false [] no_exprs (d ∷ [])
closing d c = joined [] (d ∷ []) (d ∷ []) refl refl (single d c)

worded : (w : String) (t m : Lexeme) (e : ExprTree) (us rest ts : List Lexeme) (ps : List (Option String)) (es : ExprTrees) → IsWord w t → IsSign ":=" m
    → SpellsExpr e us → ts ≡ us ++ rest → Closed false ps es rest → Closed true (Some w ∷ ps) (exprs e es) (t ∷ m ∷ ts)
worded w t m e us rest ts ps es h i a p c = record {
  front = t ∷ m ∷ (us ++ c.front);
  back = c.back;
  parts = ap (λ (z : List Lexeme). t ∷ m ∷ z) (p ∙ ap (λ (z : List Lexeme). us ++ z) c.parts ∙ sym (append_assoc us c.front c.back));
  in_front = joined [] (t ∷ m ∷ (us ++ c.front)) (t ∷ m ∷ (us ++ c.front)) refl refl (joined (t ∷ m ∷ []) (us ++ c.front) (t ∷ m ∷ (us ++ c.front)) refl
      (led t (m ∷ []) (single t h) (single m i)) (joined us c.front (us ++ c.front) refl a c.in_front));
  behind = c.behind;
}

later : (w : String) (k t m : Lexeme) (e : ExprTree) (us rest ts : List Lexeme) (ps : List (Option String)) (es : ExprTrees) → IsSign "," k → IsWord w t
    → IsSign ":=" m → SpellsExpr e us → ts ≡ us ++ rest → Closed false ps es rest → Closed false (Some w ∷ ps) (exprs e es) (k ∷ t ∷ m ∷ ts)
later w k t m e us rest ts ps es j h i a p c = record {
  front = k ∷ t ∷ m ∷ (us ++ c.front);
  back = c.back;
  parts = ap (λ (z : List Lexeme). k ∷ t ∷ m ∷ z) (p ∙ ap (λ (z : List Lexeme). us ++ z) c.parts ∙ sym (append_assoc us c.front c.back));
  in_front = led k (t ∷ m ∷ (us ++ c.front)) (single k j) (joined (t ∷ m ∷ []) (us ++ c.front) (t ∷ m ∷ (us ++ c.front)) refl
      (led t (m ∷ []) (single t h) (single m i)) (joined us c.front (us ++ c.front) refl a c.in_front));
  behind = c.behind;
}

-- a function with its arguments
called : {s : Stack} (t d : Sure) (all : List Sure) (ps : List (Option String)) (es : ExprTrees) → IsFunctionOf ps t.lexeme → d.kind ≡ n.paren_open
    → AreFormedExprs es → Closed true ps es (lexemes all) → Does (chain 7) s (t ∷ d ∷ all) (expr (function_expr t.lexeme es) ∷ s)
called t d all ps es f p g c =
    an_expr (function_expr t.lexeme es) (record {
      spelled = led t.lexeme (d.lexeme ∷ lexemes all) (single_at t.lexeme f.of_function) (led d.lexeme (lexemes all) (single d.lexeme (fact.paren_open d p))
          (subst (λ (z : List (Option String)). Closed true z es (lexemes all)) (sym f.parameters_are) c));
      formed = g;
      strong = omega arith;
    })

pub function_1 : (acts : List Action) (sorts : List Sort) → Lawful acts sorts b.function_1 name.function b.function_1_body
function_1 acts sorts s inner ws w (tok {t = t} p (tok {t = d} q (val {us = us} {ws = all} (an_expr e a) (tok {t = c} r nil) eq))) = record {
  after = expr (function_expr t.lexeme (exprs e no_exprs)) ∷ s;
  makes = refl;
  mean = called t d all (None ∷ []) (exprs e no_exprs) (fact.one_function t p) q (a.formed, tt)
      (bare e (lexemes us) (lexemes all) c.lexeme a.spelled (fact.paren_close c r) (parted all us (c ∷ []) eq));
}

pub function_2 : (acts : List Action) (sorts : List Sort) → Lawful acts sorts b.function_2 name.function b.function_2_body
function_2 acts sorts s inner ws w (tok {t = t} p (tok {t = d} q (tok {t = a1} i1 (tok {t = m1} j1 (val {us = us} {ws = all} (an_expr e a)
    (tok {t = k2} o2 (tok {t = a2} i2 (tok {t = m2} j2 (val {us = vs} {ws = back} (an_expr f g) (tok {t = c} r nil) eq2)))) eq1))))) = record {
      after = expr (function_expr t.lexeme (exprs e (exprs f no_exprs))) ∷ s;
      makes = refl;
      mean = called t d (a1 ∷ m1 ∷ all) (Some "IN1" ∷ Some "IN2" ∷ []) (exprs e (exprs f no_exprs)) (fact.two_function t p) q (a.formed, (g.formed, tt))
          (worded "IN1" a1.lexeme m1.lexeme e (lexemes us) (k2.lexeme ∷ a2.lexeme ∷ m2.lexeme ∷ lexemes back) (lexemes all) (Some "IN2" ∷ []) (exprs f no_exprs)
          (fact.in1_word a1 i1) (fact.assign m1 j1) a.spelled (parted all us (k2 ∷ a2 ∷ m2 ∷ back) eq1)
          (later "IN2" k2.lexeme a2.lexeme m2.lexeme f (lexemes vs) (c.lexeme ∷ []) (lexemes back) [] no_exprs (fact.comma k2 o2) (fact.in2_word a2 i2)
          (fact.assign m2 j2) g.spelled (parted back vs (c ∷ []) eq2) (closing c.lexeme (fact.paren_close c r))));
    }

pub function_3 : (acts : List Action) (sorts : List Sort) → Lawful acts sorts b.function_3 name.function b.function_3_body
function_3 acts sorts s inner ws w (tok {t = t} p (tok {t = d} q (tok {t = a1} i1 (tok {t = m1} j1 (val {us = us} {ws = all} (an_expr e a)
    (tok {t = k2} o2 (tok {t = a2} i2 (tok {t = m2} j2 (val {us = vs} {ws = back} (an_expr f g)
    (tok {t = k3} o3 (tok {t = a3} i3 (tok {t = m3} j3 (val {us = xs} {ws = end_} (an_expr h l) (tok {t = c} r nil) eq3)))) eq2)))) eq1))))) = record {
      after = expr (function_expr t.lexeme (exprs e (exprs f (exprs h no_exprs)))) ∷ s;
      makes = refl;
      mean = called t d (a1 ∷ m1 ∷ all) (Some "MN" ∷ Some "IN" ∷ Some "MX" ∷ []) (exprs e (exprs f (exprs h no_exprs))) (fact.limit_function t p) q
          (a.formed, (g.formed, (l.formed, tt)))
          (worded "MN" a1.lexeme m1.lexeme e (lexemes us) (k2.lexeme ∷ a2.lexeme ∷ m2.lexeme ∷ lexemes back) (lexemes all) (Some "IN" ∷ Some "MX" ∷ [])
          (exprs f (exprs h no_exprs)) (fact.mn_word a1 i1) (fact.assign m1 j1) a.spelled (parted all us (k2 ∷ a2 ∷ m2 ∷ back) eq1)
          (later "IN" k2.lexeme a2.lexeme m2.lexeme f (lexemes vs) (k3.lexeme ∷ a3.lexeme ∷ m3.lexeme ∷ lexemes end_) (lexemes back) (Some "MX" ∷ [])
          (exprs h no_exprs) (fact.comma k2 o2) (fact.in_word a2 i2) (fact.assign m2 j2) g.spelled (parted back vs (k3 ∷ a3 ∷ m3 ∷ end_) eq2)
          (later "MX" k3.lexeme a3.lexeme m3.lexeme h (lexemes xs) (c.lexeme ∷ []) (lexemes end_) [] no_exprs (fact.comma k3 o3)
          (fact.mx_word a3 i3) (fact.assign m3 j3) l.spelled (parted end_ xs (c ∷ []) eq3) (closing c.lexeme (fact.paren_close c r)))));
    }

pub function_4 : (acts : List Action) (sorts : List Sort) → Lawful acts sorts b.function_4 name.function b.function_4_body
function_4 acts sorts s inner ws w (tok {t = t} p (tok {t = d} q (tok {t = a1} i1 (tok {t = m1} j1 (val {us = us} {ws = all} (an_expr e a)
    (tok {t = k2} o2 (tok {t = a2} i2 (tok {t = m2} j2 (val {us = vs} {ws = back} (an_expr f g)
    (tok {t = k3} o3 (tok {t = a3} i3 (tok {t = m3} j3 (val {us = xs} {ws = end_} (an_expr h l) (tok {t = c} r nil) eq3)))) eq2)))) eq1))))) = record {
      after = expr (function_expr t.lexeme (exprs e (exprs f (exprs h no_exprs)))) ∷ s;
      makes = refl;
      mean = called t d (a1 ∷ m1 ∷ all) (Some "G" ∷ Some "IN0" ∷ Some "IN1" ∷ []) (exprs e (exprs f (exprs h no_exprs))) (fact.sel_function t p) q
          (a.formed, (g.formed, (l.formed, tt)))
          (worded "G" a1.lexeme m1.lexeme e (lexemes us) (k2.lexeme ∷ a2.lexeme ∷ m2.lexeme ∷ lexemes back) (lexemes all) (Some "IN0" ∷ Some "IN1" ∷ [])
          (exprs f (exprs h no_exprs)) (fact.g_word a1 i1) (fact.assign m1 j1) a.spelled (parted all us (k2 ∷ a2 ∷ m2 ∷ back) eq1)
          (later "IN0" k2.lexeme a2.lexeme m2.lexeme f (lexemes vs) (k3.lexeme ∷ a3.lexeme ∷ m3.lexeme ∷ lexemes end_) (lexemes back) (Some "IN1" ∷ [])
          (exprs h no_exprs) (fact.comma k2 o2) (fact.in0_word a2 i2) (fact.assign m2 j2) g.spelled (parted back vs (k3 ∷ a3 ∷ m3 ∷ end_) eq2)
          (later "IN1" k3.lexeme a3.lexeme m3.lexeme h (lexemes xs) (c.lexeme ∷ []) (lexemes end_) [] no_exprs (fact.comma k3 o3)
          (fact.in1_word a3 i3) (fact.assign m3 j3) l.spelled (parted end_ xs (c ∷ []) eq3) (closing c.lexeme (fact.paren_close c r)))));
    }

pub function_5 : (acts : List Action) (sorts : List Sort) → Lawful acts sorts b.function_5 name.function b.function_5_body
function_5 acts sorts s inner ws w (tok {t = t} p (tok {t = d} q (tok {t = a1} i1 (tok {t = m1} j1 (val {us = us} {ws = all} (an_expr e a)
    (tok {t = k2} o2 (tok {t = a2} i2 (tok {t = m2} j2 (val {us = vs} {ws = back} (an_expr f g) (tok {t = c} r nil) eq2)))) eq1))))) = record {
      after = expr (function_expr t.lexeme (exprs e (exprs f no_exprs))) ∷ s;
      makes = refl;
      mean = called t d (a1 ∷ m1 ∷ all) (Some "IN" ∷ Some "N" ∷ []) (exprs e (exprs f no_exprs)) (fact.shift_function t p) q (a.formed, (g.formed, tt))
          (worded "IN" a1.lexeme m1.lexeme e (lexemes us) (k2.lexeme ∷ a2.lexeme ∷ m2.lexeme ∷ lexemes back) (lexemes all) (Some "N" ∷ []) (exprs f no_exprs)
          (fact.in_word a1 i1) (fact.assign m1 j1) a.spelled (parted all us (k2 ∷ a2 ∷ m2 ∷ back) eq1)
          (later "N" k2.lexeme a2.lexeme m2.lexeme f (lexemes vs) (c.lexeme ∷ []) (lexemes back) [] no_exprs (fact.comma k2 o2) (fact.n_word a2 i2)
          (fact.assign m2 j2) g.spelled (parted back vs (c ∷ []) eq2) (closing c.lexeme (fact.paren_close c r))));
    }

-- ---- steps

pub steps_append : (xs ys : List StepTree) (us vs ws : List Lexeme) → SpellsSteps (steps_of xs) us → SpellsSteps (steps_of ys) vs → ws ≡ us ++ vs
    → SpellsSteps (steps_of (xs ++ ys)) ws
steps_append [] ys us vs ws g h p =
    subst (λ (z : List Lexeme). SpellsSteps (steps_of ys) z) (sym (p ∙ ap (λ (z : List Lexeme). z ++ vs) g)) h
steps_append (x ∷ xs) ys us vs ws g h p =
    joined g.front (g.back ++ vs) ws (p ∙ ap (λ (z : List Lexeme). z ++ vs) g.parts ∙ append_assoc g.front g.back vs) g.in_front
    (steps_append xs ys g.back vs (g.back ++ vs) g.behind h refl)

pub formed_append : (xs ys : List StepTree) → AreFormedSteps (steps_of xs) → AreFormedSteps (steps_of ys) → AreFormedSteps (steps_of (xs ++ ys))
formed_append [] ys g h = h
formed_append (x ∷ xs) ys g h = (g.0, formed_append xs ys g.1 h)

pub steps_1 : (acts : List Action) (sorts : List Sort) → Lawful acts sorts b.steps_1 name.steps b.steps_1_body
steps_1 acts sorts s inner ws w (val {us = us} {ts = rest} (walks {s = below} r p before new mid g i j) (val {us = vs} (walks _ _ _ more after h k l) nil q) e) = record {
  after = path (record { root = r; steps = after; place = p }) ∷ below;
  makes = refl;
  mean = walks r p before (new ++ more) after (steps_append new more (lexemes us) (lexemes vs) (lexemes ws) g h (parted ws us vs (two ws us rest vs e q)))
      (formed_append new more i k) (l ∙ ap (λ (z : List StepTree). z ++ more) j ∙ append_assoc before new more);
}

pub steps_2 : (acts : List Action) (sorts : List Sort) → Lawful acts sorts b.steps_2 name.steps b.steps_2_body
steps_2 acts sorts s inner ws (on_path q below) nil =
    record { after = path q ∷ below; makes = refl; mean = walks q.root q.place q.steps [] q.steps refl tt (sym (append-nil q.steps)) }

-- one step
pub one_step : {s : Stack} (q : PathTree) (x : StepTree) (ws : List Sure) → SpellsStep x (lexemes ws) → IsFormedStep x
    → Does walk (path q ∷ s) ws (path (stepped q x) ∷ s)
one_step q x ws g i =
    walks q.root q.place q.steps (x ∷ []) (q.steps ++ x ∷ []) (joined (lexemes ws) [] (lexemes ws) (sym (append-nil (lexemes ws))) g refl) (i, tt) refl

pub step_1 : (acts : List Action) (sorts : List Sort) → Lawful acts sorts b.step_1 name.step b.step_1_body
step_1 acts sorts s inner ws (on_path q below) (tok {t = t} p (val {us = us} {ws = all} (a_field x at h) nil e)) = record {
  after = path (stepped q (field x at)) ∷ below;
  makes = refl;
  mean = one_step q (field x at) (t ∷ all) (led t.lexeme (lexemes all) (single t.lexeme (fact.dot t p))
      (subst (λ (z : List Sure). SpellsWord x at (lexemes z)) (sym (last all us e)) h)) tt;
}

pub step_2 : (acts : List Action) (sorts : List Sort) → Lawful acts sorts b.step_2 name.step b.step_2_body
step_2 acts sorts s inner ws (on_path q below) (tok {t = t} p (val {us = us} {ws = all} (an_expr e a) (tok {t = d} r nil) eq)) = record {
  after = path (stepped q (index e t.lexeme.place)) ∷ below;
  makes = refl;
  mean = one_step q (index e t.lexeme.place) (t ∷ all) (led t.lexeme (lexemes all) (single_at t.lexeme (fact.bracket_open t p))
      (joined (lexemes us) (d.lexeme ∷ []) (lexemes all) (parted all us (d ∷ []) eq) a.spelled (single d.lexeme (fact.bracket_close d r)))) a.formed;
}

pub area_1 : (acts : List Action) (sorts : List Sort) → Lawful acts sorts b.area_1 name.area b.area_1_body
unfolding area_of
area_1 acts sorts s inner ws w (tok {t = t} p nil) = record {
  after = path (rooted (area_of t.lexeme.bytes) t.lexeme.place) ∷ s;
  makes = refl;
  mean = a_root (area_of t.lexeme.bytes) t.lexeme.place (single_at t.lexeme (fact.address t p)) tt;
}
