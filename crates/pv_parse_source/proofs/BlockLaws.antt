-- Laws of the productions of sections, blocks and the values of data blocks: where its body did what its symbols mean, so did its name.
use Rattle.std.proofs.Common.{◌≡◌, inl, inr, ℕ, false, List, [], ◌∷◌, ◌++◌, All, Some, None, refl, ap, ◌∙◌, sym, subst}
use Rattle.std.proofs.lemmas.List.{append-nil, append_assoc}
use Rattle.std.proofs.lemmas.List.Elements.{All-nil, All-cons, All-append}
use Rattle.pv_types.specs.declared.declaration.Section.{Section}
use Rattle.pv_types.specs.declared.declaration.Section.TheVariants as section
use Rattle.pv_types.specs.Tree.{VarTree}
use Rattle.pv_types.specs.View.{listed}
use Rattle.pv_lex.specs.declared.token.Language.{Language}
use Rattle.pv_tree.specs.declared.expr.Root.TheVariants.{Local}
use Rattle.pv_tree.specs.declared.block.BlockKind.TheVariants as kind
use Rattle.pv_tree.specs.Tree.{lit, operand, StepTree, field, index, StartTree, starts, BlockTree}
use Rattle.pv_tree.specs.View.{steps_of}
use Rattle.pv_tree.specs.Lexemes.{Lexeme, ◌⨾◌, maybe, sign, word, each}
use Rattle.pv_tree.specs.Words.{SpellsName, SpellsWord}
use Rattle.pv_tree.specs.Expressions.{AreFormedSteps}
use Rattle.pv_tree.specs.Declarations.{SpellsVars, AreFormedVars, SpellsSectionWord, SpellsSection, SpellsSections}
use Rattle.pv_tree.specs.Declarations.SpellsSections.{no_sections, sections}
use Rattle.pv_tree.specs.Blocks.{SpellsPathSteps, SpellsDataValue, IsFormedStart, SpellsOwnFields, SpellsBlock, IsFormedBlock}
use Rattle.pv_ll.specs.declared.table.Symbol.{Symbol}
use Rattle.pv_ll.specs.Meaning.DoesAll.{nil, tok, val}
use Rattle.pv_parse.specs.declared.action.Action.{Action}
use Rattle.pv_parse.specs.FrontNames as name
use Rattle.pv_parse.specs.FrontBodies as b
use Rattle.pv_parse.specs.DeclTexts.{type_of_word}
use Rattle.pv_parse.specs.Items as i
use Rattle.pv_parse.specs.ExprDeeds.{stepped}
use Rattle.pv_parse.specs.BlockDeeds.{named_block, block_of}
use Rattle.pv_parse.proofs.ForCallers.{Sure, lexemes, bare, top_token, top_path, top_heading, top_values, top_blocks, DoesDecl, more_blocks, a_name, a_numeral, declare, name_constants, opens_own, heads, heads_constants, are_sections, names, has_value, has_fields, is_of, is_own, drops, begins_data, are_values, walks_data, a_body, a_data_body, no_blocks, are_blocks, a_source, Sort, a_word, a_field, a_literal_of, decls, call_sorts, body_sorts, last, parted, single, single_at, led, joined, assign_is, bracket_close_is, bracket_open_is, dot_is, formed_append}
use Rattle.pv_parse_source.proofs.DeclFacts as decl
use Rattle.pv_parse_source.proofs.DeclLaws.{DeclLawful, moved, beside, both, each_append, formed_beside}

-- a law where the bodies of blocks mean what they should
abbrev pub BlockLawful : List Action → List Sort → Language → ℕ → ℕ → List Symbol → Type 0
BlockLawful acts sorts l k m body = DeclLawful acts (call_sorts ++ (body_sorts l ++ sorts)) l k m body

-- two symbols, with tokens of one form behind another
two : (ws us rest vs : List Sure) → ws ≡ us ++ rest → rest ≡ vs ++ [] → lexemes ws ≡ lexemes us ++ lexemes vs
two ws us rest vs e q = parted ws us vs (e ∙ ap (λ (z : List Sure). us ++ z) (last rest vs q))

-- ---- sections

section_of_vars : (a : Section) (vars : List VarTree) (ts : List Lexeme) → (SpellsSectionWord a ⨾ SpellsVars a (listed vars) ⨾ word "END_VAR") ts
    → SpellsSection a vars ts
section_of_vars section.Input vars ts h = h
section_of_vars section.Output vars ts h = h
section_of_vars section.InOut vars ts h = h
section_of_vars section.Static vars ts h = h
section_of_vars section.Temp vars ts h = h
section_of_vars section.Const vars ts h = absurd h.in_front

-- one section
one_section : (a : Section) (vars : List VarTree) (ts : List Lexeme) → SpellsSection a vars ts → SpellsSections vars ts
one_section a vars ts h = sections a vars [] vars ts [] ts h no_sections (sym (append-nil vars)) (sym (append-nil ts))

sections_append : (xs ys all : List VarTree) (us vs ts : List Lexeme) → SpellsSections xs us → SpellsSections ys vs → all ≡ xs ++ ys → ts ≡ us ++ vs
    → SpellsSections all ts
sections_append xs ys all us vs ts no_sections h e p =
    subst (λ (z : List Lexeme). SpellsSections all z) (sym p) (subst (λ (z : List VarTree). SpellsSections z vs) (sym e) h)
sections_append xs ys all us vs ts (sections a inner others its front back its_tokens g d q r) h e p =
    sections a inner (others ++ ys) all front (back ++ vs) ts g (sections_append others ys (others ++ ys) back vs (back ++ vs) d h refl refl)
    (e ∙ ap (λ (z : List VarTree). z ++ ys) q ∙ append_assoc inner others ys) (p ∙ ap (λ (z : List Lexeme). z ++ vs) r ∙ append_assoc front back vs)

pub section_1 : (acts : List Action) (sorts : List Sort) (l : Language) → BlockLawful acts sorts l b.section_1 name.section b.section_1_body
section_1 acts sorts l s inner ws (top_heading {s = below} x bare) (val {us = us} {ts = rest} (decls (heads a k)) (val {us = vs} {ts = others} (decls (declare _ before new after h f r)) (tok {t = d} q nil) e2) e1) = record {
  after = i.heading (record x { vars = x.vars ++ after }) ∷ below;
  makes = refl;
  mean = decls (are_sections x new (x.vars ++ after) (one_section a new (lexemes ws) (section_of_vars a new (lexemes ws)
      (beside ws us rest e1 k (beside rest vs (d ∷ []) e2 h (single d.lexeme (decl.end_var d q)))))) f (ap (λ (z : List VarTree). x.vars ++ z) r));
}

pub section_2 : (acts : List Action) (sorts : List Sort) (l : Language) → BlockLawful acts sorts l b.section_2 name.section b.section_2_body
section_2 acts sorts l s inner ws (top_heading {s = below} x bare) (val {us = us} {ts = rest} (decls (heads_constants k)) (val {us = vs} {ts = others} (decls (name_constants _ before new after h f r)) (tok {t = d} q nil) e2) e1) = record {
  after = i.heading (record x { vars = x.vars ++ after }) ∷ below;
  makes = refl;
  mean = decls (are_sections x new (x.vars ++ after) (one_section section.Const new (lexemes ws)
      (beside ws us rest e1 k (beside rest vs (d ∷ []) e2 h (single d.lexeme (decl.end_const d q))))) f (ap (λ (z : List VarTree). x.vars ++ z) r));
}

pub sections_1 : (acts : List Action) (sorts : List Sort) (l : Language) → BlockLawful acts sorts l b.sections_1 name.sections b.sections_1_body
sections_1 acts sorts l s inner ws w (val {us = us} {ts = rest} (decls (are_sections {s = below} x new mid h f q)) (val {us = vs} (decls (are_sections _ more after g fo r)) nil e2) e1) = record {
  after = i.heading (record x { vars = after }) ∷ below;
  makes = refl;
  mean = decls (are_sections x (new ++ more) after (sections_append new more (new ++ more) (lexemes us) (lexemes vs) (lexemes ws) h g refl (two ws us rest vs e1 e2))
      (formed_beside new more f fo) (r ∙ ap (λ (z : List VarTree). z ++ more) q ∙ append_assoc x.vars new more));
}

pub sections_2 : (acts : List Action) (sorts : List Sort) (l : Language) → BlockLawful acts sorts l b.sections_2 name.sections b.sections_2_body
sections_2 acts sorts l s inner ws (top_heading {s = below} x bare) nil = record {
  after = i.heading x ∷ below;
  makes = refl;
  mean = decls (are_sections x [] x.vars no_sections tt (sym (append-nil x.vars)));
}

-- ---- before the body

pub block_name_1 : (acts : List Action) (sorts : List Sort) (l : Language) → BlockLawful acts sorts l b.block_name_1 name.block_name b.block_name_1_body
block_name_1 acts sorts l s inner ws w (val {us = us} (decls (a_name n p h f)) nil e) = record {
  after = i.heading (named_block (n, p)) ∷ s;
  makes = refl;
  mean = decls (names n p (moved (SpellsName n p) ws us e h) f);
}

pub value_type_1 : (acts : List Action) (sorts : List Sort) (l : Language) → BlockLawful acts sorts l b.value_type_1 name.value_type b.value_type_1_body
value_type_1 acts sorts l s inner ws (top_token c (top_heading {s = below} x bare)) (tok {t = t} q nil) = record {
  after = i.heading (record x { value = Some (type_of_word t.lexeme.bytes) }) ∷ below;
  makes = refl;
  mean = decls (has_value c x (Some (type_of_word t.lexeme.bytes)) (single t.lexeme (decl.simple_type t q)));
}

pub value_type_2 : (acts : List Action) (sorts : List Sort) (l : Language) → BlockLawful acts sorts l b.value_type_2 name.value_type b.value_type_2_body
value_type_2 acts sorts l s inner ws (top_token c (top_heading {s = below} x bare)) (tok {t = t} q nil) = record {
  after = i.heading (record x { value = None }) ∷ below;
  makes = refl;
  mean = decls (has_value c x None (single t.lexeme (decl.void_word t q)));
}

pub maybe_semicolon_1 : (acts : List Action) (sorts : List Sort) (l : Language) → BlockLawful acts sorts l b.maybe_semicolon_1 name.maybe_semicolon b.maybe_semicolon_1_body
maybe_semicolon_1 acts sorts l s inner ws w (tok {t = t} q nil) = record {
  after = s;
  makes = refl;
  mean = decls (drops (inr (single t.lexeme (decl.semicolon t q))));
}

pub maybe_semicolon_2 : (acts : List Action) (sorts : List Sort) (l : Language) → BlockLawful acts sorts l b.maybe_semicolon_2 name.maybe_semicolon b.maybe_semicolon_2_body
maybe_semicolon_2 acts sorts l s inner ws w nil = record {
  after = s;
  makes = refl;
  mean = decls (drops (inl refl));
}

pub own_fields_1 : (acts : List Action) (sorts : List Sort) (l : Language) → BlockLawful acts sorts l b.own_fields_1 name.own_fields b.own_fields_1_body
own_fields_1 acts sorts l s inner ws (top_heading {s = below} x bare) (val {us = us} {ts = rest} (decls (opens_own k)) (val {us = vs} {ts = others} (decls (declare _ before new after h f r))
    (tok {t = d} q (val {us = xs} {ws = ends} (decls (drops g)) nil e3)) e2) e1) = record {
      after = i.heading (record x { vars = x.vars ++ after }) ∷ below;
      makes = refl;
      mean = decls (has_fields x new (x.vars ++ after) (beside ws us rest e1 k (beside rest vs (d ∷ ends) e2 h (led d.lexeme (lexemes ends)
          (single d.lexeme (decl.end_struct d q)) (moved (maybe (sign ";")) ends xs e3 g)))) f (ap (λ (z : List VarTree). x.vars ++ z) r));
    }

pub data_type_1 : (acts : List Action) (sorts : List Sort) (l : Language) → BlockLawful acts sorts l b.data_type_1 name.data_type b.data_type_1_body
data_type_1 acts sorts l s inner ws (top_heading {s = below} x bare) (val {us = us} (decls (a_name n p h f)) nil e) = record {
  after = i.heading (record x { of = Some (n, p) }) ∷ below;
  makes = refl;
  mean = decls (is_of x n p (moved (SpellsName n p) ws us e h) f);
}

pub data_type_2 : (acts : List Action) (sorts : List Sort) (l : Language) → BlockLawful acts sorts l b.data_type_2 name.data_type b.data_type_2_body
data_type_2 acts sorts l s inner ws w (val {us = us} (decls (has_fields {s = below} x new after h f r)) nil e) = record {
  after = i.heading (record x { vars = after }) ∷ below;
  makes = refl;
  mean = decls (is_own x new after (moved (SpellsOwnFields new) ws us e h) f r);
}

-- ---- values of data blocks

pub data_head_1 : (acts : List Action) (sorts : List Sort) (l : Language) → BlockLawful acts sorts l b.data_head_1 name.data_head b.data_head_1_body
data_head_1 acts sorts l s inner ws w (tok {t = t} q nil) = record {
  after = i.values [] ∷ s;
  makes = refl;
  mean = decls (begins_data (single t.lexeme (decl.begin_word t q)));
}

pub data_values_1 : (acts : List Action) (sorts : List Sort) (l : Language) → BlockLawful acts sorts l b.data_values_1 name.data_values b.data_values_1_body
data_values_1 acts sorts l s inner ws w (val {us = us} {ts = rest} (decls (are_values {s = below} before new mid h f q)) (val {us = vs} (decls (are_values _ more after g fo r)) nil e2) e1) = record {
  after = i.values after ∷ below;
  makes = refl;
  mean = decls (are_values before (new ++ more) after (each_append SpellsDataValue new more (lexemes us) (lexemes vs) (lexemes ws) (two ws us rest vs e1 e2) h g)
      (All-append IsFormedStart new more f fo) (r ∙ ap (λ (z : List StartTree). z ++ more) q ∙ append_assoc before new more));
}

pub data_values_2 : (acts : List Action) (sorts : List Sort) (l : Language) → BlockLawful acts sorts l b.data_values_2 name.data_values b.data_values_2_body
data_values_2 acts sorts l s inner ws (top_values {s = below} v bare) nil = record {
  after = i.values v ∷ below;
  makes = refl;
  mean = decls (are_values v [] v refl (All-nil IsFormedStart) (sym (append-nil v)));
}

pub data_value_1 : (acts : List Action) (sorts : List Sort) (l : Language) → BlockLawful acts sorts l b.data_value_1 name.data_value b.data_value_1_body
data_value_1 acts sorts l s inner ws (top_values {s = below} v bare) (val {us = us} {ts = rest1} (a_word n p h f) (val {us = vs} {ts = rest2} (decls (walks_data _ _ before new after g fo r))
    (tok {t = m} q (val {us = xs} {ts = rest3} {ws = all} (a_literal_of x k) (tok {t = d} o nil) e3)) e2) e1) = record {
      after = i.values (v ++ (operand (Local n false p) (steps_of after) p, x) ∷ []) ∷ below;
      makes = refl;
      mean = decls (are_values v ((operand (Local n false p) (steps_of after) p, x) ∷ []) (v ++ (operand (Local n false p) (steps_of after) p, x) ∷ [])
          (joined (lexemes ws) [] (lexemes ws) (sym (append-nil (lexemes ws))) (joined (lexemes us ++ lexemes vs) (m.lexeme ∷ lexemes all) (lexemes ws)
          (parted ws us rest1 e1 ∙ ap (λ (z : List Lexeme). lexemes us ++ z) (parted rest1 vs rest2 e2) ∙ sym (append_assoc (lexemes us) (lexemes vs) (lexemes rest2)))
          (joined (lexemes us) (lexemes vs) (lexemes us ++ lexemes vs) refl (refl, h) (subst (λ (z : List StepTree). SpellsPathSteps (steps_of z) (lexemes vs)) (sym r) g))
          (led m.lexeme (lexemes all) (single m.lexeme (assign_is m q)) (beside all xs (d ∷ []) e3 k (single d.lexeme (decl.semicolon d o))))) refl)
          (All-cons IsFormedStart (operand (Local n false p) (steps_of after) p, x) [] (f, subst (λ (z : List StepTree). AreFormedSteps (steps_of z)) (sym r) fo)
          (All-nil IsFormedStart)) refl);
    }

path_steps_append : (xs ys : List StepTree) (us vs ws : List Lexeme) → SpellsPathSteps (steps_of xs) us → SpellsPathSteps (steps_of ys) vs → ws ≡ us ++ vs
    → SpellsPathSteps (steps_of (xs ++ ys)) ws
path_steps_append [] ys us vs ws g h p =
    subst (λ (z : List Lexeme). SpellsPathSteps (steps_of ys) z) (sym (p ∙ ap (λ (z : List Lexeme). z ++ vs) g)) h
path_steps_append (x ∷ xs) ys us vs ws g h p =
    joined g.front (g.back ++ vs) ws (p ∙ ap (λ (z : List Lexeme). z ++ vs) g.parts ∙ append_assoc g.front g.back vs) g.in_front
    (path_steps_append xs ys g.back vs (g.back ++ vs) g.behind h refl)

pub path_steps_1 : (acts : List Action) (sorts : List Sort) (l : Language) → BlockLawful acts sorts l b.path_steps_1 name.path_steps b.path_steps_1_body
path_steps_1 acts sorts l s inner ws w (val {us = us} {ts = rest} (decls (walks_data {s = below} r p before new mid g f q)) (val {us = vs} (decls (walks_data _ _ _ more after h k o)) nil e2) e1) = record {
  after = i.path (record { root = r; steps = after; place = p }) ∷ below;
  makes = refl;
  mean = decls (walks_data r p before (new ++ more) after (path_steps_append new more (lexemes us) (lexemes vs) (lexemes ws) g h (two ws us rest vs e1 e2))
      (formed_append new more f k) (o ∙ ap (λ (z : List StepTree). z ++ more) q ∙ append_assoc before new more));
}

pub path_steps_2 : (acts : List Action) (sorts : List Sort) (l : Language) → BlockLawful acts sorts l b.path_steps_2 name.path_steps b.path_steps_2_body
path_steps_2 acts sorts l s inner ws (top_path {s = below} q bare) nil = record {
  after = i.path q ∷ below;
  makes = refl;
  mean = decls (walks_data q.root q.place q.steps [] q.steps refl tt (sym (append-nil q.steps)));
}

pub path_step_1 : (acts : List Action) (sorts : List Sort) (l : Language) → BlockLawful acts sorts l b.path_step_1 name.path_step b.path_step_1_body
path_step_1 acts sorts l s inner ws (top_path {s = below} q bare) (tok {t = t} p (val {us = us} {ws = all} (a_field x at h) nil e)) = record {
  after = i.path (stepped q (field x at)) ∷ below;
  makes = refl;
  mean = decls (walks_data q.root q.place q.steps (field x at ∷ []) (q.steps ++ field x at ∷ []) (joined (t.lexeme ∷ lexemes all) [] (t.lexeme ∷ lexemes all)
      (sym (append-nil (t.lexeme ∷ lexemes all))) (led t.lexeme (lexemes all) (single t.lexeme (dot_is t p)) (moved (SpellsWord x at) all us e h)) refl) (tt, tt) refl);
}

pub path_step_2 : (acts : List Action) (sorts : List Sort) (l : Language) → BlockLawful acts sorts l b.path_step_2 name.path_step b.path_step_2_body
path_step_2 acts sorts l s inner ws (top_path {s = below} q bare) (tok {t = t} p (val {us = us} {ws = all} (decls (a_numeral x h)) (tok {t = d} r nil) e)) = record {
  after = i.path (stepped q (index (lit x.ty x.value x.place) t.lexeme.place)) ∷ below;
  makes = refl;
  mean = decls (walks_data q.root q.place q.steps (index (lit x.ty x.value x.place) t.lexeme.place ∷ []) (q.steps ++ index (lit x.ty x.value x.place) t.lexeme.place ∷ [])
      (joined (t.lexeme ∷ lexemes all) [] (t.lexeme ∷ lexemes all) (sym (append-nil (t.lexeme ∷ lexemes all))) (led t.lexeme (lexemes all)
      (single_at t.lexeme (bracket_open_is t p)) (beside all us (d ∷ []) e h (single d.lexeme (bracket_close_is d r)))) refl) (tt, tt) refl);
}

-- ---- blocks

pub new_source_1 : (acts : List Action) (sorts : List Sort) (l : Language) → BlockLawful acts sorts l b.new_source_1 name.new_source b.new_source_1_body
new_source_1 acts sorts l s inner ws w nil = record {
  after = i.blocks [] ∷ s;
  makes = refl;
  mean = decls (no_blocks refl);
}

pub source_1 : (acts : List Action) (sorts : List Sort) (l : Language) → BlockLawful acts sorts l b.source_1 name.source b.source_1_body
source_1 acts sorts l s inner ws w (val {us = us} {ts = rest} (decls (no_blocks h)) (val {us = vs} (decls (are_blocks _ new after g f r)) nil e2) e1) = record {
  after = i.blocks after ∷ s;
  makes = refl;
  mean = decls (a_source after (both (each (SpellsBlock l) after) ws us rest vs e1 e2 (subst (λ (z : List Sure). each (SpellsBlock l) after (lexemes z ++ lexemes vs)) (sym h)
      (subst (λ (z : List BlockTree). each (SpellsBlock l) z (lexemes vs)) (sym r) g))) (subst (λ (z : List BlockTree). All IsFormedBlock z) (sym r) f));
}

pub blocks_1 : (acts : List Action) (sorts : List Sort) (l : Language) → BlockLawful acts sorts l b.blocks_1 name.blocks b.blocks_1_body
blocks_1 acts sorts l s inner ws w (val {us = us} {ts = rest} (decls (are_blocks {s = below} before new mid h f q)) (val {us = vs} (decls (are_blocks _ more after g fo r)) nil e2) e1) = record {
  after = i.blocks after ∷ below;
  makes = refl;
  mean = decls (are_blocks before (new ++ more) after (each_append (SpellsBlock l) new more (lexemes us) (lexemes vs) (lexemes ws) (two ws us rest vs e1 e2) h g)
      (All-append IsFormedBlock new more f fo) (r ∙ ap (λ (z : List BlockTree). z ++ more) q ∙ append_assoc before new more));
}

pub blocks_2 : (acts : List Action) (sorts : List Sort) (l : Language) → BlockLawful acts sorts l b.blocks_2 name.blocks b.blocks_2_body
blocks_2 acts sorts l s inner ws (top_blocks {s = below} v bare) nil = record {
  after = i.blocks v ∷ below;
  makes = refl;
  mean = decls (are_blocks v [] v refl (All-nil IsFormedBlock) (sym (append-nil v)));
}

-- one block behind others
one_block : {below : i.Stack} (l : Language) (before : List BlockTree) (x : BlockTree) (ws : List Sure) → SpellsBlock l x (lexemes ws) → IsFormedBlock x
    → DoesDecl (more_blocks l) (i.blocks before ∷ below) ws (i.blocks (before ++ x ∷ []) ∷ below)
one_block l before x ws h f =
    are_blocks before (x ∷ []) (before ++ x ∷ []) (joined (lexemes ws) [] (lexemes ws) (sym (append-nil (lexemes ws))) h refl)
    (All-cons IsFormedBlock x [] f (All-nil IsFormedBlock)) refl

pub block_1 : (acts : List Action) (sorts : List Sort) (l : Language) → BlockLawful acts sorts l b.block_1 name.block b.block_1_body
block_1 acts sorts l s inner ws (top_blocks {s = below} v bare) (tok {t = t} o (val {us = us} {ts = rest1} {ws = all} (decls (names n p h f)) (val {us = vs} {ts = rest2} (decls (are_sections _ new after g fo r))
    (val {us = xs} {ts = rest3} (decls (a_body y k fb)) (tok {t = d} q nil) e3) e2) e1)) = record {
      after = i.blocks (v ++ block_of kind.Fb (record { name = n; place = p; vars = after; value = None; of = None }) y ∷ []) ∷ below;
      makes = refl;
      mean = decls (one_block l v (block_of kind.Fb (record { name = n; place = p; vars = after; value = None; of = None }) y) (t ∷ all) (
        refl,
        led t.lexeme (lexemes all) (single t.lexeme (decl.function_block t o))
            (beside all us rest1 e1 h (beside rest1 vs rest2 e2 (subst (λ (z : List VarTree). SpellsSections z (lexemes vs)) (sym r) g)
            (beside rest2 xs (d ∷ []) e3 k (single d.lexeme (decl.end_function_block d q))))),
      ) (record {
        its_kind = tt;
        its_name = f;
        its_vars = subst (λ (z : List VarTree). AreFormedVars (listed z)) (sym r) fo;
        its_body = fb;
      }));
    }

pub block_2 : (acts : List Action) (sorts : List Sort) (l : Language) → BlockLawful acts sorts l b.block_2 name.block b.block_2_body
block_2 acts sorts l s inner ws (top_blocks {s = below} v bare) (tok {t = t} o (val {us = us} {ts = rest1} {ws = all} (decls (names n p h f)) (tok {t = c} m (val {us = zs} {ts = rest4} {ws = all2} (decls (has_value _ _ z u))
    (val {us = vs} {ts = rest2} (decls (are_sections _ new after g fo r)) (val {us = xs} {ts = rest3} (decls (a_body y k fb)) (tok {t = d} q nil) e3) e2) e4)) e1)) = record {
      after = i.blocks (v ++ block_of kind.Fc (record { name = n; place = p; vars = after; value = z; of = None }) y ∷ []) ∷ below;
      makes = refl;
      mean = decls (one_block l v (block_of kind.Fc (record { name = n; place = p; vars = after; value = z; of = None }) y) (t ∷ all) (led t.lexeme (lexemes all) (single t.lexeme (decl.function_word t o))
          (beside all us rest1 e1 h (led c.lexeme (lexemes all2) (single c.lexeme (decl.colon c m)) (beside all2 zs rest4 e4 u
          (beside rest4 vs rest2 e2 (subst (λ (x : List VarTree). SpellsSections x (lexemes vs)) (sym r) g)
          (beside rest2 xs (d ∷ []) e3 k (single d.lexeme (decl.end_function d q)))))))) (record {
            its_kind = tt;
            its_name = f;
            its_vars = subst (λ (x : List VarTree). AreFormedVars (listed x)) (sym r) fo;
            its_body = fb;
          }));
    }

pub block_3 : (acts : List Action) (sorts : List Sort) (l : Language) → BlockLawful acts sorts l b.block_3 name.block b.block_3_body
block_3 acts sorts l s inner ws (top_blocks {s = below} v bare) (tok {t = t} o (val {us = us} {ts = rest1} {ws = all} (decls (names n p h f)) (val {us = vs} {ts = rest2} (decls (are_sections _ new after g fo r))
    (val {us = xs} {ts = rest3} (decls (a_body y k fb)) (tok {t = d} q nil) e3) e2) e1)) = record {
      after = i.blocks (v ++ block_of kind.Ob (record { name = n; place = p; vars = after; value = None; of = None }) y ∷ []) ∷ below;
      makes = refl;
      mean = decls (one_block l v (block_of kind.Ob (record { name = n; place = p; vars = after; value = None; of = None }) y) (t ∷ all) (
        refl,
        led t.lexeme (lexemes all) (single t.lexeme (decl.organization_block t o))
            (beside all us rest1 e1 h (beside rest1 vs rest2 e2 (subst (λ (z : List VarTree). SpellsSections z (lexemes vs)) (sym r) g)
            (beside rest2 xs (d ∷ []) e3 k (single d.lexeme (decl.end_organization_block d q))))),
      ) (record {
        its_kind = tt;
        its_name = f;
        its_vars = subst (λ (z : List VarTree). AreFormedVars (listed z)) (sym r) fo;
        its_body = fb;
      }));
    }

pub block_4 : (acts : List Action) (sorts : List Sort) (l : Language) → BlockLawful acts sorts l b.block_4 name.block b.block_4_body
block_4 acts sorts l s inner ws (top_blocks {s = below} v bare) (tok {t = t} o (val {us = us} {ts = rest1} {ws = all} (decls (names n p h f)) (val {us = vs} {ts = rest2} (decls (is_of _ m at g fo))
    (val {us = xs} {ts = rest3} (decls (a_data_body y k fb)) (tok {t = d} q nil) e3) e2) e1)) = record {
      after = i.blocks (v ++ block_of (kind.Db (Some (m, at))) (record { name = n; place = p; vars = []; value = None; of = Some (m, at) }) (starts y) ∷ []) ∷ below;
      makes = refl;
      mean = decls (one_block l v (block_of (kind.Db (Some (m, at))) (record { name = n; place = p; vars = []; value = None; of = Some (m, at) }) (starts y)) (t ∷ all) (
        refl,
        led t.lexeme (lexemes all) (single t.lexeme (decl.data_block t o))
            (beside all us rest1 e1 h (beside rest1 vs rest2 e2 (refl, g)
            (beside rest2 xs (d ∷ []) e3 k (single d.lexeme (decl.end_data_block d q))))),
      ) (record {
        its_kind = fo;
        its_name = f;
        its_vars = tt;
        its_body = fb;
      }));
    }
block_4 acts sorts l s inner ws (top_blocks {s = below} v bare) (tok {t = t} o (val {us = us} {ts = rest1} {ws = all} (decls (names n p h f)) (val {us = vs} {ts = rest2} (decls (is_own _ new after g fo r))
    (val {us = xs} {ts = rest3} (decls (a_data_body y k fb)) (tok {t = d} q nil) e3) e2) e1)) = record {
      after = i.blocks (v ++ block_of (kind.Db None) (record { name = n; place = p; vars = after; value = None; of = None }) (starts y) ∷ []) ∷ below;
      makes = refl;
      mean = decls (one_block l v (block_of (kind.Db None) (record { name = n; place = p; vars = after; value = None; of = None }) (starts y)) (t ∷ all) (
        refl,
        led t.lexeme (lexemes all) (single t.lexeme (decl.data_block t o))
            (beside all us rest1 e1 h (beside rest1 vs rest2 e2 (subst (λ (z : List VarTree). SpellsOwnFields z (lexemes vs)) (sym r) g)
            (beside rest2 xs (d ∷ []) e3 k (single d.lexeme (decl.end_data_block d q))))),
      ) (record {
        its_kind = tt;
        its_name = f;
        its_vars = subst (λ (z : List VarTree). AreFormedVars (listed z)) (sym r) fo;
        its_body = fb;
      }));
    }

pub block_5 : (acts : List Action) (sorts : List Sort) (l : Language) → BlockLawful acts sorts l b.block_5 name.block b.block_5_body
block_5 acts sorts l s inner ws (top_blocks {s = below} v bare) (tok {t = t} o (val {us = us} {ts = rest1} {ws = all} (decls (names n p h f)) (val {us = vs} {ts = rest2} (decls (has_fields _ new after g fo r))
    (tok {t = d} q nil) e2) e1)) = record {
      after = i.blocks (v ++ block_of kind.Udt (record { name = n; place = p; vars = after; value = None; of = None }) (starts []) ∷ []) ∷ below;
      makes = refl;
      mean = decls (one_block l v (block_of kind.Udt (record { name = n; place = p; vars = after; value = None; of = None }) (starts [])) (t ∷ all) (
        (refl, refl),
        led t.lexeme (lexemes all) (single t.lexeme (decl.type_word_of t o))
            (beside all us rest1 e1 h (beside rest1 vs (d ∷ []) e2 (subst (λ (z : List VarTree). SpellsOwnFields z (lexemes vs)) (sym r) g)
            (single d.lexeme (decl.end_type d q)))),
      ) (record {
        its_kind = tt;
        its_name = f;
        its_vars = subst (λ (z : List VarTree). AreFormedVars (listed z)) (sym r) fo;
        its_body = All-nil IsFormedStart;
      }));
    }
