-- Laws of the productions of instructions: where its body did what its symbols mean, so did its name.
use Rattle.std.proofs.Common.{◌≡◌, inl, inr, List, [], ◌∷◌, ◌++◌, Option, Some, None, refl, ap, ◌∙◌, sym, subst}
use Rattle.std.proofs.lemmas.List.{append-nil, append_assoc}
use Rattle.std.proofs.lemmas.List.Elements.{All-nil, All-cons, All-append}
use Rattle.pv_tree.specs.Tree.{PlacedName, StepTree, CallPlain, InstrTree, BodyTree, stl}
use Rattle.pv_tree.specs.Lexemes.{Lexeme, IsWord, IsSign}
use Rattle.pv_tree.specs.Instructions.{Shape, must, may, calls, calls_alone, SpellsBehind, IsFormedInstr}
use Rattle.pv_tree.specs.Words.{plain_name, SpellsName}
use Rattle.pv_tree.specs.Calls.{IsFreeOption, IsFormedArg}
use Rattle.pv_ll.specs.Meaning.DoesAll.{nil, tok, val}
use Rattle.pv_parse.specs.OpTexts.{op_of, opening_of}
use Rattle.pv_parse.specs.Items.{PathTree, words, body}
use Rattle.pv_parse.specs.ExprDeeds.{operand_of}
use Rattle.pv_parse.specs.CallDeeds.{named_of, is_hashed, base_of, call_of}
use Rattle.pv_parse.specs.InstrStack.{instrs_of, last_word, FrontTree}
use Rattle.pv_parse.specs.InstrDeeds.{instr_of as instr_tree_of}
use Rattle.pv_parse.proofs.ForCallers.{Sure, lexemes, bare, top_token, top_words, top_body, a_label, instrs, Operated, Laid, IsOp, IsOpening, IsCalledAlone, CalledStl, begins_code, adds_instrs, has_no_label, lays, signs_label, goes_after, operates, goes_behind, an_operand, a_value_literal, a_callee, a_callee_alone, adds_base, a_call_behind, a_bare_one, last, parted, single, single_at, led}
use Rattle.pv_stl_parse.specs.OwnNames as n
use Rattle.pv_stl_parse.specs.OwnBodies as b
use Rattle.pv_stl_parse.proofs.StlSorts.{Lawful}
use Rattle.pv_stl_parse.proofs.Facts as fact
use Rattle.pv_stl_parse.proofs.OpFacts as op
use Rattle.pv_stl_parse.proofs.Groups.{along, along_one, two}
use Rattle.pv_stl_parse.proofs.InstrForms.{instrs_append, one_instr, laid_alone, laid_behind, operated_by, literal_behind, call_placed, free_behind}

-- ---- bodies

pub new_code_1 : Lawful b.new_code_1 n.new_code b.new_code_1_body
new_code_1 s inner ws u nil = record { after = body (stl []) ∷ s; makes = refl; mean = instrs (begins_code refl) }

pub instructions_1 : Lawful b.instructions_1 n.instructions b.instructions_1_body
instructions_1 s inner ws u
    (val {us = us} {ts = rest} (instrs (adds_instrs {s = below} x y new h f e)) (val {us = vs} (instrs (adds_instrs _ z more g j d)) nil q) p) = record {
      after = body z ∷ below;
      makes = refl;
      mean = instrs (adds_instrs x z (new ++ more) (instrs_append new more (lexemes us) (lexemes vs) (lexemes ws) h g (two ws us rest vs p q))
          (All-append IsFormedInstr new more f j)
          (λ l r. d (l ++ new) (e l r) ∙ ap (λ (w : List InstrTree). stl w) (append_assoc l new more)));
    }

-- a body with no instruction more
same_body : (x : BodyTree) (l : List InstrTree) → x ≡ stl l → x ≡ stl (l ++ [])
same_body x l e = e ∙ ap (λ (w : List InstrTree). stl w) (sym (append-nil l))

pub instructions_2 : Lawful b.instructions_2 n.instructions b.instructions_2_body
instructions_2 s inner ws (top_body {s = below} x bare) nil =
    record { after = body x ∷ below; makes = refl; mean = instrs (adds_instrs x x [] (All-nil (IsWord "NETWORK")) (All-nil IsFormedInstr) (same_body x)) }

pub instruction_1 : Lawful b.instruction_1 n.instruction b.instruction_1_body
instruction_1 s inner ws (top_body {s = below} x bare) (tok {t = t} p nil) = record {
  after = body x ∷ below;
  makes = refl;
  mean = instrs (adds_instrs x x [] (All-cons (IsWord "NETWORK") t.lexeme [] (fact.network_word t p) (All-nil (IsWord "NETWORK")))
      (All-nil IsFormedInstr) (same_body x));
}

-- tokens behind a name without any
behind_none : (ws us rest vs : List Sure) (t : Sure) → ws ≡ us ++ rest → us ≡ [] → rest ≡ vs ++ t ∷ [] → lexemes ws ≡ lexemes vs ++ t.lexeme ∷ []
behind_none ws us rest vs t p e q =
    ap (λ (z : List Sure). lexemes z) (p ∙ ap (λ (z : List Sure). z ++ rest) e) ∙ parted rest vs (t ∷ []) q

pub instruction_2 : Lawful b.instruction_2 n.instruction b.instruction_2_body
instruction_2 s inner ws (top_body {s = below} x bare)
    (val {us = us} {ts = rest} (instrs (has_no_label e)) (val {us = vs} (instrs (lays _ _ i h)) (tok {t = t} p nil) q) r) = record {
      after = body (stl (instrs_of x ++ i ∷ [])) ∷ below;
      makes = refl;
      mean = instrs (let laid : Laid i (lexemes vs) = h refl in
          adds_instrs x (stl (instrs_of x ++ i ∷ [])) (i ∷ [])
          (one_instr i t.lexeme (lexemes vs) (lexemes ws) laid (fact.semicolon t p) (behind_none ws us rest vs t r e q))
          (All-cons IsFormedInstr i [] laid.formed (All-nil IsFormedInstr))
          (λ l g. ap (λ (z : BodyTree). stl (instrs_of z ++ i ∷ [])) g));
    }

-- ---- labels

pub no_label_1 : Lawful b.no_label_1 n.no_label b.no_label_1_body
no_label_1 s inner ws u nil = record { after = words [] ∷ s; makes = refl; mean = instrs (has_no_label refl) }

pub label_1 : Lawful b.label_1 n.label b.label_1_body
label_1 s inner ws (top_token t (top_words {s = below} w bare)) (tok {t = c} p nil) =
    record {
      after = words ((plain_name t.bytes, t.place) ∷ []) ∷ below;
      makes = refl;
      mean = instrs (signs_label t w (single c.lexeme (fact.colon c p)));
    }

-- a label that is a word alone, and one that was read as an instruction's word
pub labelled_1 : Lawful b.labelled_1 n.labelled b.labelled_1_body
labelled_1 s inner ws (top_words w (top_body {s = below} x bare))
    (val {ts = rest} (a_label t f) (val {us = vs} {ts = more} (instrs (signs_label _ _ c)) (val {us = xs} (instrs (operates _ _ i e h)) nil q) r) p) = record {
      after = body (stl (instrs_of x ++ i ∷ [])) ∷ below;
      makes = refl;
      mean = instrs (lays w x i (λ none. laid_behind t.lexeme i (lexemes vs) (lexemes xs) (lexemes ws) f c e h
          (parted ws (t ∷ []) rest p ∙ ap (λ (z : List Lexeme). t.lexeme ∷ z) (two rest vs more xs r q))));
    }

none_last : (w : List PlacedName) → w ≡ [] → last_word w ≡ None
none_last w e = ap (λ (z : List PlacedName). last_word z) e

pub labelled_2 : Lawful b.labelled_2 n.labelled b.labelled_2_body
labelled_2 s inner ws (top_words w (top_body {s = below} x bare)) (tok {t = t} p (val {us = us} {ws = all} (instrs (goes_after _ _ _ i h)) nil q)) = record {
  after = body (stl (instrs_of x ++ i ∷ [])) ∷ below;
  makes = refl;
  mean = instrs (lays w x i (λ none. along_one (Laid i) all us t.lexeme q (h none (op.known_bit t p) (fact.free_bit_op t p))));
}

pub labelled_3 : Lawful b.labelled_3 n.labelled b.labelled_3_body
labelled_3 s inner ws (top_words w (top_body {s = below} x bare)) (tok {t = t} p (val {us = us} {ws = all} (instrs (goes_after _ _ _ i h)) nil q)) = record {
  after = body (stl (instrs_of x ++ i ∷ [])) ∷ below;
  makes = refl;
  mean = instrs (lays w x i (λ none. along_one (Laid i) all us t.lexeme q (h none (op.known_or t p) (fact.free_or_op t p))));
}

pub labelled_4 : Lawful b.labelled_4 n.labelled b.labelled_4_body
labelled_4 s inner ws (top_words w (top_body {s = below} x bare)) (tok {t = t} p (val {us = us} {ws = all} (instrs (goes_after _ _ _ i h)) nil q)) = record {
  after = body (stl (instrs_of x ++ i ∷ [])) ∷ below;
  makes = refl;
  mean = instrs (lays w x i (λ none. along_one (Laid i) all us t.lexeme q (h none (op.known_value t p) (fact.free_value_op t p))));
}

pub labelled_5 : Lawful b.labelled_5 n.labelled b.labelled_5_body
labelled_5 s inner ws (top_words w (top_body {s = below} x bare)) (tok {t = t} p (val {us = us} {ws = all} (instrs (goes_after _ _ _ i h)) nil q)) = record {
  after = body (stl (instrs_of x ++ i ∷ [])) ∷ below;
  makes = refl;
  mean = instrs (lays w x i (λ none. along_one (Laid i) all us t.lexeme q (h none (op.known_free t p) (fact.free_free_op t p))));
}

pub labelled_6 : Lawful b.labelled_6 n.labelled b.labelled_6_body
labelled_6 s inner ws (top_words w (top_body {s = below} x bare)) (val {us = us} (instrs (operates _ _ i e h)) nil q) = record {
  after = body (stl (instrs_of x ++ i ∷ [])) ∷ below;
  makes = refl;
  mean = instrs (lays w x i (λ none. laid_alone i (lexemes ws) (e ∙ none_last w none) (along (Operated i) ws us [] q h)));
}

-- ---- what goes on behind a word that is a label or an instruction

pub after_bit_op_1 : Lawful b.after_bit_op_1 n.after_bit_op b.after_bit_op_1_body
after_bit_op_1 s inner ws (top_token t (top_words w (top_body {s = below} x bare)))
    (val {us = vs} {ts = rest} (instrs (signs_label _ _ c)) (val {us = xs} (instrs (operates _ _ i e h)) nil q) r) = record {
      after = body (stl (instrs_of x ++ i ∷ [])) ∷ below;
      makes = refl;
      mean = instrs (goes_after t w x i (λ none known free. laid_behind t i (lexemes vs) (lexemes xs) (t ∷ lexemes ws) free c e h
          (ap (λ (z : List Lexeme). t ∷ z) (two ws vs rest xs r q))));
    }

pub after_bit_op_2 : Lawful b.after_bit_op_2 n.after_bit_op b.after_bit_op_2_body
after_bit_op_2 s inner ws (top_token t (top_words w (top_body {s = below} x bare))) (val {us = us} (instrs (goes_behind _ _ _ i e h)) nil q) = record {
  after = body (stl (instrs_of x ++ i ∷ [])) ∷ below;
  makes = refl;
  mean = instrs (goes_after t w x i (λ none known free. laid_alone i (t ∷ lexemes ws) (e ∙ none_last w none) (along_one (Operated i) ws us t q (h known))));
}

pub after_or_op_1 : Lawful b.after_or_op_1 n.after_or_op b.after_or_op_1_body
after_or_op_1 s inner ws (top_token t (top_words w (top_body {s = below} x bare)))
    (val {us = vs} {ts = rest} (instrs (signs_label _ _ c)) (val {us = xs} (instrs (operates _ _ i e h)) nil q) r) = record {
      after = body (stl (instrs_of x ++ i ∷ [])) ∷ below;
      makes = refl;
      mean = instrs (goes_after t w x i (λ none known free. laid_behind t i (lexemes vs) (lexemes xs) (t ∷ lexemes ws) free c e h
          (ap (λ (z : List Lexeme). t ∷ z) (two ws vs rest xs r q))));
    }

pub after_or_op_2 : Lawful b.after_or_op_2 n.after_or_op b.after_or_op_2_body
after_or_op_2 s inner ws (top_token t (top_words w (top_body {s = below} x bare))) (val {us = us} (instrs (goes_behind _ _ _ i e h)) nil q) = record {
  after = body (stl (instrs_of x ++ i ∷ [])) ∷ below;
  makes = refl;
  mean = instrs (goes_after t w x i (λ none known free. laid_alone i (t ∷ lexemes ws) (e ∙ none_last w none) (along_one (Operated i) ws us t q (h known))));
}

pub after_value_op_1 : Lawful b.after_value_op_1 n.after_value_op b.after_value_op_1_body
after_value_op_1 s inner ws (top_token t (top_words w (top_body {s = below} x bare)))
    (val {us = vs} {ts = rest} (instrs (signs_label _ _ c)) (val {us = xs} (instrs (operates _ _ i e h)) nil q) r) = record {
      after = body (stl (instrs_of x ++ i ∷ [])) ∷ below;
      makes = refl;
      mean = instrs (goes_after t w x i (λ none known free. laid_behind t i (lexemes vs) (lexemes xs) (t ∷ lexemes ws) free c e h
          (ap (λ (z : List Lexeme). t ∷ z) (two ws vs rest xs r q))));
    }

pub after_value_op_2 : Lawful b.after_value_op_2 n.after_value_op b.after_value_op_2_body
after_value_op_2 s inner ws (top_token t (top_words w (top_body {s = below} x bare))) (val {us = us} (instrs (goes_behind _ _ _ i e h)) nil q) = record {
  after = body (stl (instrs_of x ++ i ∷ [])) ∷ below;
  makes = refl;
  mean = instrs (goes_after t w x i (λ none known free. laid_alone i (t ∷ lexemes ws) (e ∙ none_last w none) (along_one (Operated i) ws us t q (h (inl known)))));
}

pub after_free_op_1 : Lawful b.after_free_op_1 n.after_free_op b.after_free_op_1_body
after_free_op_1 s inner ws (top_token t (top_words w (top_body {s = below} x bare)))
    (val {us = vs} {ts = rest} (instrs (signs_label _ _ c)) (val {us = xs} (instrs (operates _ _ i e h)) nil q) r) = record {
      after = body (stl (instrs_of x ++ i ∷ [])) ∷ below;
      makes = refl;
      mean = instrs (goes_after t w x i (λ none known free. laid_behind t i (lexemes vs) (lexemes xs) (t ∷ lexemes ws) free c e h
          (ap (λ (z : List Lexeme). t ∷ z) (two ws vs rest xs r q))));
    }

pub after_free_op_2 : Lawful b.after_free_op_2 n.after_free_op b.after_free_op_2_body
after_free_op_2 s inner ws (top_token t (top_words w (top_body {s = below} x bare))) (val {us = us} (instrs (goes_behind _ _ _ i e h)) nil q) = record {
  after = body (stl (instrs_of x ++ i ∷ [])) ∷ below;
  makes = refl;
  mean = instrs (goes_after t w x i (λ none known free. laid_alone i (t ∷ lexemes ws) (e ∙ none_last w none) (along_one (Operated i) ws us t q (h known))));
}

-- ---- instructions

pub operation_1 : Lawful b.operation_1 n.operation b.operation_1_body
operation_1 s inner ws (top_words w (top_body {s = below} x bare)) (tok {t = t} p (val {us = us} {ws = all} (instrs (goes_behind _ _ _ i e h)) nil q)) = record {
  after = body (stl (instrs_of x ++ i ∷ [])) ∷ below;
  makes = refl;
  mean = instrs (operates w x i e (along_one (Operated i) all us t.lexeme q (h (op.known_bit t p))));
}

pub operation_2 : Lawful b.operation_2 n.operation b.operation_2_body
operation_2 s inner ws (top_words w (top_body {s = below} x bare)) (tok {t = t} p (val {us = us} {ws = all} (instrs (goes_behind _ _ _ i e h)) nil q)) = record {
  after = body (stl (instrs_of x ++ i ∷ [])) ∷ below;
  makes = refl;
  mean = instrs (operates w x i e (along_one (Operated i) all us t.lexeme q (h (op.known_or t p))));
}

pub operation_3 : Lawful b.operation_3 n.operation b.operation_3_body
operation_3 s inner ws (top_words w (top_body {s = below} x bare)) (tok {t = t} p (val {us = us} {ws = all} (instrs (goes_behind _ _ _ i e h)) nil q)) = record {
  after = body (stl (instrs_of x ++ i ∷ [])) ∷ below;
  makes = refl;
  mean = instrs (operates w x i e (along_one (Operated i) all us t.lexeme q (h (inl (op.known_value t p)))));
}

pub operation_4 : Lawful b.operation_4 n.operation b.operation_4_body
operation_4 s inner ws (top_words w (top_body {s = below} x bare)) (tok {t = t} p (val {us = us} {ws = all} (instrs (goes_behind _ _ _ i e h)) nil q)) = record {
  after = body (stl (instrs_of x ++ i ∷ [])) ∷ below;
  makes = refl;
  mean = instrs (operates w x i e (along_one (Operated i) all us t.lexeme q (h (op.known_free t p))));
}

pub operation_5 : Lawful b.operation_5 n.operation b.operation_5_body
operation_5 s inner ws (top_words w (top_body {s = below} x bare)) (val {us = us} (instrs (operates _ _ i e h)) nil q) = record {
  after = body (stl (instrs_of x ++ i ∷ [])) ∷ below;
  makes = refl;
  mean = instrs (operates w x i e (along (Operated i) ws us [] q h));
}

-- the instruction of a token, with its operand, its literal or its call
abbrev front : Lexeme → List PlacedName → BodyTree → FrontTree
front t w x = record { token = t; label = last_word w; list = instrs_of x }

-- a call of a name alone
alone_spelled : (t : Lexeme) (w : List PlacedName) (x : BodyTree) (o : PathTree) (us vs : List Lexeme) → IsOp calls_alone t → IsCalledAlone o us → vs ≡ us
    → Operated (instr_tree_of (front t w x) (op_of t.bytes) None None (Some (record (call_of o []) { place = t.place }))) (t ∷ vs)
alone_spelled t w x o us vs k g e =
    let base : base_of o.steps ≡ None = ap (λ (z : List StepTree). base_of z) g.steps_are in
    operated_by calls_alone t (instr_tree_of (front t w x) (op_of t.bytes) None None (Some (record (call_of o []) { place = t.place }))) vs refl refl k
    ((refl, refl), (refl, ((g.unhashed, base, refl), subst (λ (z : List Lexeme). SpellsName (named_of o).0 (named_of o).1 z) (sym e) g.spelled)))
    tt (record {
      as_in_scl = record { name = free_behind (is_hashed o.root) (named_of o).0 g.free; args = All-nil IsFormedArg };
      base = subst (λ (z : Option PlacedName). IsFreeOption z) (sym base) tt;
    })

-- an instruction with `(`
opened : (t : Lexeme) (w : List PlacedName) (x : BodyTree) (o : Lexeme) → IsOpening t → IsSign "(" o
    → Operated (instr_tree_of (front t w x) (opening_of t.bytes) None None None) (t ∷ o ∷ [])
opened t w x o k c = record {
  spelled = led t (o ∷ []) (single_at t k.said)
      (subst (λ (z : Shape). SpellsBehind z (instr_tree_of (front t w x) (opening_of t.bytes) None None None) (o ∷ [])) (sym k.shaped)
      (((refl, refl), refl), single o c));
  its_operand = tt;
  its_call = tt;
}

pub firm_operation_1 : Lawful b.firm_operation_1 n.firm_operation b.firm_operation_1_body
firm_operation_1 s inner ws (top_words w (top_body {s = below} x bare)) (tok {t = t} p (val {us = us} {ws = all} (instrs (goes_behind _ _ _ i e h)) nil q)) = record {
  after = body (stl (instrs_of x ++ i ∷ [])) ∷ below;
  makes = refl;
  mean = instrs (operates w x i e (along_one (Operated i) all us t.lexeme q (h (inl (op.known_equals t p)))));
}

pub firm_operation_2 : Lawful b.firm_operation_2 n.firm_operation b.firm_operation_2_body
firm_operation_2 s inner ws (top_words w (top_body {s = below} x bare)) (tok {t = t} p (val {us = us} {ws = all} (instrs (goes_behind _ _ _ i e h)) nil q)) = record {
  after = body (stl (instrs_of x ++ i ∷ [])) ∷ below;
  makes = refl;
  mean = instrs (operates w x i e (along_one (Operated i) all us t.lexeme q (h (op.known_sign t p))));
}

pub firm_operation_3 : Lawful b.firm_operation_3 n.firm_operation b.firm_operation_3_body
firm_operation_3 s inner ws (top_words w (top_body {s = below} x bare)) (tok {t = t} p (val {us = us} {ws = all} (instrs (goes_behind _ _ _ i e h)) nil q)) = record {
  after = body (stl (instrs_of x ++ i ∷ [])) ∷ below;
  makes = refl;
  mean = instrs (operates w x i e (along_one (Operated i) all us t.lexeme q (h (op.known_close t p))));
}

pub firm_operation_4 : Lawful b.firm_operation_4 n.firm_operation b.firm_operation_4_body
firm_operation_4 s inner ws (top_words w (top_body {s = below} x bare)) (tok {t = t} p (val {us = us} {ws = all} (instrs (goes_behind _ _ _ i e h)) nil q)) = record {
  after = body (stl (instrs_of x ++ i ∷ [])) ∷ below;
  makes = refl;
  mean = instrs (operates w x i e (along_one (Operated i) all us t.lexeme q (h (op.known_not t p))));
}

pub firm_operation_5 : Lawful b.firm_operation_5 n.firm_operation b.firm_operation_5_body
firm_operation_5 s inner ws (top_words w (top_body {s = below} x bare)) (tok {t = t} p (val {us = us} {ws = all} (instrs (goes_behind _ _ _ i e h)) nil q)) = record {
  after = body (stl (instrs_of x ++ i ∷ [])) ∷ below;
  makes = refl;
  mean = instrs (operates w x i e (along_one (Operated i) all us t.lexeme q (h (op.known_mod t p))));
}

call_spelled : (t : Lexeme) (w : List PlacedName) (x : BodyTree) (c : CallPlain) (vs : List Lexeme) → IsOp calls t → CalledStl c vs
    → Operated (instr_tree_of (front t w x) (op_of t.bytes) None None (Some (record c { place = t.place }))) (t ∷ vs)
call_spelled t w x c vs k h =
    operated_by calls t (instr_tree_of (front t w x) (op_of t.bytes) None None (Some (record c { place = t.place }))) vs refl refl k
    ((refl, refl), (refl, h.spelled)) tt (call_placed c t.place h.formed)

pub firm_operation_6 : Lawful b.firm_operation_6 n.firm_operation b.firm_operation_6_body
firm_operation_6 s inner ws (top_words w (top_body {s = below} x bare)) (tok {t = t} p (val {us = us} {ts = r1} {ws = all} (instrs (a_callee _ g))
    (val {us = vs} {ts = r2} (instrs (adds_base _ _ base k)) (val {us = xs} (instrs (a_call_behind _ c h)) nil q3) q2) q1)) =
    let i : InstrTree = instr_tree_of (front t.lexeme w x) (op_of t.lexeme.bytes) None None (Some (record c { place = t.lexeme.place })) in
    let parts : lexemes all ≡ (lexemes us ++ lexemes vs) ++ lexemes xs =
    parted all us r1 q1 ∙ ap (λ (z : List Lexeme). lexemes us ++ z) (two r1 vs r2 xs q2 q3) ∙ sym (append_assoc (lexemes us) (lexemes vs) (lexemes xs)) in
    record {
      after = body (stl (instrs_of x ++ i ∷ [])) ∷ below;
      makes = refl;
      mean = instrs (operates w x i refl (call_spelled t.lexeme w x c (lexemes all) (op.known_call t p)
          (subst (λ (z : List Lexeme). CalledStl c z) (sym parts) (h base (lexemes us ++ lexemes vs) (k (lexemes us) g)))));
    }

pub firm_operation_7 : Lawful b.firm_operation_7 n.firm_operation b.firm_operation_7_body
firm_operation_7 s inner ws (top_words w (top_body {s = below} x bare))
    (tok {t = t} p (val {us = us} {ts = r1} {ws = all} (instrs (a_callee_alone o g)) (val {us = vs} (instrs (a_bare_one _ e)) nil q2) q1)) =
    let c : CallPlain = record (call_of o []) { place = t.lexeme.place } in
    let i : InstrTree = instr_tree_of (front t.lexeme w x) (op_of t.lexeme.bytes) None None (Some c) in
    let parts : lexemes all ≡ lexemes us =
    parted all us r1 q1 ∙ ap (λ (z : List Sure). lexemes us ++ lexemes z) (last r1 vs q2 ∙ e) ∙ append-nil (lexemes us) in
    record {
      after = body (stl (instrs_of x ++ i ∷ [])) ∷ below;
      makes = refl;
      mean = instrs (operates w x i refl (alone_spelled t.lexeme w x o (lexemes us) (lexemes all) (op.known_uc t p) g parts));
    }

-- ---- what stands behind them

pub bit_operand_1 : Lawful b.bit_operand_1 n.bit_operand b.bit_operand_1_body
bit_operand_1 s inner ws (top_token t (top_words w (top_body {s = below} x bare))) (val {us = us} (instrs (goes_behind _ _ _ i e h)) nil q) = record {
  after = body (stl (instrs_of x ++ i ∷ [])) ∷ below;
  makes = refl;
  mean = instrs (goes_behind t w x i e (λ known. along_one (Operated i) ws us t q (h known.1)));
}

pub bit_operand_2 : Lawful b.bit_operand_2 n.bit_operand b.bit_operand_2_body
bit_operand_2 s inner ws (top_token t (top_words w (top_body {s = below} x bare))) (val {us = us} (instrs (goes_behind _ _ _ i e h)) nil q) = record {
  after = body (stl (instrs_of x ++ i ∷ [])) ∷ below;
  makes = refl;
  mean = instrs (goes_behind t w x i e (λ known. along_one (Operated i) ws us t q (h (inl known.0))));
}

pub or_operand_1 : Lawful b.or_operand_1 n.or_operand b.or_operand_1_body
or_operand_1 s inner ws (top_token t (top_words w (top_body {s = below} x bare))) (val {us = us} (instrs (goes_behind _ _ _ i e h)) nil q) = record {
  after = body (stl (instrs_of x ++ i ∷ [])) ∷ below;
  makes = refl;
  mean = instrs (goes_behind t w x i e (λ known. along_one (Operated i) ws us t q (h known.1)));
}

pub or_operand_2 : Lawful b.or_operand_2 n.or_operand b.or_operand_2_body
or_operand_2 s inner ws (top_token t (top_words w (top_body {s = below} x bare))) (val {us = us} (instrs (goes_behind _ _ _ i e h)) nil q) = record {
  after = body (stl (instrs_of x ++ i ∷ [])) ∷ below;
  makes = refl;
  mean = instrs (goes_behind t w x i e (λ known. along_one (Operated i) ws us t q (h known.0)));
}

pub maybe_value_1 : Lawful b.maybe_value_1 n.maybe_value b.maybe_value_1_body
maybe_value_1 s inner ws (top_token t (top_words w (top_body {s = below} x bare))) (val {us = us} (instrs (goes_behind _ _ _ i e h)) nil q) = record {
  after = body (stl (instrs_of x ++ i ∷ [])) ∷ below;
  makes = refl;
  mean = instrs (goes_behind t w x i e (λ known. along_one (Operated i) ws us t q (h (inr known))));
}

pub opening_1 : Lawful b.opening_1 n.opening b.opening_1_body
opening_1 s inner ws (top_token t (top_words w (top_body {s = below} x bare))) (tok {t = o} p nil) =
    let i : InstrTree = instr_tree_of (front t w x) (opening_of t.bytes) None None None in
    record {
      after = body (stl (instrs_of x ++ i ∷ [])) ∷ below;
      makes = refl;
      mean = instrs (goes_behind t w x i refl (λ k. opened t w x o.lexeme k (fact.paren_open o p)));
    }

pub maybe_value_2 : Lawful b.maybe_value_2 n.maybe_value b.maybe_value_2_body
maybe_value_2 s inner ws (top_token t (top_words w (top_body {s = below} x bare))) nil =
    let i : InstrTree = instr_tree_of (front t w x) (op_of t.bytes) None None None in
    record {
      after = body (stl (instrs_of x ++ i ∷ [])) ∷ below;
      makes = refl;
      mean = instrs (goes_behind t w x i refl (λ k. operated_by may t i [] refl refl k (refl, refl) tt tt));
    }

pub value_1 : Lawful b.value_1 n.value b.value_1_body
value_1 s inner ws (top_token t (top_words w (top_body {s = below} x bare))) (val {us = us} (instrs (an_operand p h)) nil q) =
    let i : InstrTree = instr_tree_of (front t w x) (op_of t.bytes) (Some (operand_of p)) None None in
    record {
      after = body (stl (instrs_of x ++ i ∷ [])) ∷ below;
      makes = refl;
      mean = instrs (goes_behind t w x i refl (λ k. along_one (Operated i) ws us t q (elim k [
        | inl m ↦ operated_by must t i (lexemes us) refl refl m (refl, h.spelled) h.formed tt
        | inr m ↦ operated_by may t i (lexemes us) refl refl m (refl, h.spelled) h.formed tt
      ])));
    }

pub value_2 : Lawful b.value_2 n.value b.value_2_body
value_2 s inner ws (top_token t (top_words w (top_body {s = below} x bare))) (val {us = us} (instrs (a_value_literal _ l h)) nil q) =
    let i : InstrTree = instr_tree_of (front t w x) (op_of t.bytes) None (Some l) None in
    record {
      after = body (stl (instrs_of x ++ i ∷ [])) ∷ below;
      makes = refl;
      mean = instrs (goes_behind t w x i refl (λ k. along_one (Operated i) ws us t q (elim k [
        | inl m ↦ operated_by must t i (lexemes us) refl refl m (refl, literal_behind must t l (lexemes us) m h) tt tt
        | inr m ↦ operated_by may t i (lexemes us) refl refl m (refl, literal_behind may t l (lexemes us) m h) tt tt
      ])));
    }
