-- Laws of the productions of names, literals and declarations: where its body did what its symbols mean, so did its name.
use Rattle.std.proofs.Common.{◌≡◌, inl, inr, ℕ, zero, suc, List, [], ◌∷◌, ◌++◌, Option, Some, None, refl, ap, ◌∙◌, sym, subst}
use Rattle.std.specs.Prelude.{ℤ, pos, negsuc, neg_ℤ}
use Rattle.std.proofs.lemmas.List.{append-nil, append_assoc, map-append}
use Rattle.pv_types.specs.declared.declaration.Literal.{Literal}
use Rattle.pv_types.specs.declared.declaration.Section.{Section}
use Rattle.pv_types.specs.declared.declaration.Section.TheVariants as section
use Rattle.pv_types.specs.Tree.{TypeTree, plain, array, structure, named, unread, VarTree, var}
use Rattle.pv_types.specs.View.{listed}
use Rattle.pv_lex.specs.declared.token.Language.{Language}
use Rattle.pv_tree.specs.Tree.{PlacedName}
use Rattle.pv_tree.specs.Lexemes.{Lexeme, Form, ◌⨾◌, each}
use Rattle.pv_tree.specs.Words.{SpellsWord, SpellsName}
use Rattle.pv_tree.specs.Literals.{number_type, SpellsNumber, SpellsLiteral, SpellsInteger}
use Rattle.pv_tree.specs.Declarations.{SpellsType, SpellsVars, AreFormedVars, SpellsConstant}
use Rattle.pv_ll.specs.declared.table.Symbol.{Symbol}
use Rattle.pv_ll.specs.Meaning.DoesAll.{nil, tok, val}
use Rattle.pv_parse.specs.declared.action.Action.{Action}
use Rattle.pv_parse.specs.FrontNames as name
use Rattle.pv_parse.specs.FrontBodies as b
use Rattle.pv_parse.specs.DeclTexts.{type_of_word, section_of_word}
use Rattle.pv_parse.specs.Items as i
use Rattle.pv_parse.specs.DeclDeeds.{declared, with_vars, number_literal, negative_literal, truth_literal, constant_of}
use Rattle.pv_parse.specs.Deeds.{declaration_actions}
use Rattle.pv_parse.proofs.ForCallers.{Sure, lexemes, bare, top_words, top_around, top_fields, Behind, a_name, a_numeral, begins, follows, turns, a_type, bounded, opens, opens_own, a_start, gives, goes_on, declare, name_constants, heads, heads_constants, Sort, a_word, a_firm, a_literal_of, decls, declaration_sorts, last, parted, single, single_at, led, joined, assign_is, bracket_close_is, bracket_open_is, comma_is, minus_is, number_is, truth_said, Lawful}
use Rattle.pv_parse_source.proofs.DeclFacts as decl

-- a law in each grammar that begins with the productions of expressions, declarations and blocks of this language
abbrev pub DeclLawful : List Action → List Sort → Language → ℕ → ℕ → List Symbol → Type 0
DeclLawful acts sorts l k m body = Lawful (declaration_actions ++ acts) (declaration_sorts l ++ sorts) k m body

-- ---- forms

-- the last symbol of a body
pub moved : (F : Form) (ws us : List Sure) → ws ≡ us ++ [] → F (lexemes us) → F (lexemes ws)
moved F ws us e h = subst (λ (z : List Sure). F (lexemes z)) (sym (last ws us e)) h

-- a symbol and those behind it
pub beside : {F G : List Lexeme → Type 0} (ws us rest : List Sure) → ws ≡ us ++ rest → F (lexemes us) → G (lexemes rest) → (F ⨾ G) (lexemes ws)
beside ws us rest e f g = joined (lexemes us) (lexemes rest) (lexemes ws) (parted ws us rest e) f g

-- the same before further tokens
pub parted_more : (ws us rest : List Sure) (xs : List Lexeme) → ws ≡ us ++ rest → lexemes ws ++ xs ≡ lexemes us ++ (lexemes rest ++ xs)
parted_more ws us rest xs e = ap (λ (z : List Lexeme). z ++ xs) (parted ws us rest e) ∙ append_assoc (lexemes us) (lexemes rest) xs

pub beside_more : {F G : List Lexeme → Type 0} (ws us rest : List Sure) (xs : List Lexeme) → ws ≡ us ++ rest → F (lexemes us) → G (lexemes rest ++ xs)
    → (F ⨾ G) (lexemes ws ++ xs)
beside_more ws us rest xs e f g = joined (lexemes us) (lexemes rest ++ xs) (lexemes ws ++ xs) (parted_more ws us rest xs e) f g

-- tokens of a form that are in two parts, the second of which is the last symbol
pub both : (F : Form) (ws us rest vs : List Sure) → ws ≡ us ++ rest → rest ≡ vs ++ [] → F (lexemes us ++ lexemes vs) → F (lexemes ws)
both F ws us rest vs e q h =
    subst (λ (z : List Lexeme). F z) (sym (parted ws us rest e ∙ ap (λ (z : List Sure). lexemes us ++ lexemes z) (last rest vs q))) h

-- ---- names

pub name_1 : (acts : List Action) (sorts : List Sort) (l : Language) → DeclLawful acts sorts l b.name_1 name.name b.name_1_body
name_1 acts sorts l s inner ws w (val {us = us} (a_word n p h f) nil e) = record {
  after = i.name (n, p) ∷ s;
  makes = refl;
  mean = decls (a_name n p (moved (SpellsName n p) ws us e (inl h)) f);
}

pub name_2 : (acts : List Action) (sorts : List Sort) (l : Language) → DeclLawful acts sorts l b.name_2 name.name b.name_2_body
name_2 acts sorts l s inner ws w (val {us = us} (a_firm n p h f) nil e) = record {
  after = i.name (n, p) ∷ s;
  makes = refl;
  mean = decls (a_name n p (moved (SpellsName n p) ws us e (inr h)) f);
}

-- ---- literals

neg_twice : (k : ℤ) → k ≡ neg_ℤ (neg_ℤ k)
neg_twice (pos zero) = refl
neg_twice (pos (suc n)) = refl
neg_twice (negsuc n) = refl

pub literal_1 : (acts : List Action) (sorts : List Sort) (l : Language) → DeclLawful acts sorts l b.literal_1 name.literal b.literal_1_body
literal_1 acts sorts l s inner ws w (val {us = us} (decls (a_numeral x h)) nil e) = record {
  after = i.literal x ∷ s;
  makes = refl;
  mean = a_literal_of x (moved (SpellsLiteral x) ws us e (inl h));
}

pub literal_2 : (acts : List Action) (sorts : List Sort) (l : Language) → DeclLawful acts sorts l b.literal_2 name.literal b.literal_2_body
literal_2 acts sorts l s inner ws w (tok {t = t} p nil) = record {
  after = i.literal (truth_literal t.lexeme) ∷ s;
  makes = refl;
  mean = a_literal_of (truth_literal t.lexeme) (inr (single_at t.lexeme (truth_said t p)));
}

pub integer_1 : (acts : List Action) (sorts : List Sort) (l : Language) → DeclLawful acts sorts l b.integer_1 name.integer b.integer_1_body
integer_1 acts sorts l s inner ws w (tok {t = m} p (tok {t = t} q nil)) = record {
  after = i.literal (negative_literal t.lexeme m.lexeme.place) ∷ s;
  makes = refl;
  mean = decls (a_numeral (negative_literal t.lexeme m.lexeme.place) (inr (led m.lexeme (t.lexeme ∷ []) (single_at m.lexeme (minus_is m p))
      (single t.lexeme (record { kind = number_is t q; typed = refl; valued = neg_twice t.lexeme.value })))));
}

pub integer_2 : (acts : List Action) (sorts : List Sort) (l : Language) → DeclLawful acts sorts l b.integer_2 name.integer b.integer_2_body
integer_2 acts sorts l s inner ws w (tok {t = t} q nil) = record {
  after = i.literal (number_literal t.lexeme) ∷ s;
  makes = refl;
  mean = decls (a_numeral (number_literal t.lexeme) (inl (single_at t.lexeme (record { kind = number_is t q; typed = refl; valued = refl }))));
}

-- a number whose value alone is kept
value_alone : (l : Literal) (ts : List Lexeme) → SpellsNumber number_type l ts → SpellsInteger l.value ts
value_alone l ts (inl d) = inl (record { token = d.token; alone = d.alone; is = record { kind = d.is.is.kind; valued = d.is.is.valued } })
value_alone l ts (inr d) = inr (record {
  front = d.front;
  back = d.back;
  parts = d.parts;
  in_front = record { token = d.in_front.token; alone = d.in_front.alone; is = d.in_front.is.is };
  behind = record { token = d.behind.token; alone = d.behind.alone; is = record { kind = d.behind.is.kind; valued = d.behind.is.valued } };
})

-- ---- the words of a declaration

pub first_word_1 : (acts : List Action) (sorts : List Sort) (l : Language) → DeclLawful acts sorts l b.first_word_1 name.first_word b.first_word_1_body
first_word_1 acts sorts l s inner ws w (val {us = us} (a_word n p h f) nil e) = record {
  after = i.words ((n, p) ∷ []) ∷ s;
  makes = refl;
  mean = decls (begins n p (moved (SpellsWord n p) ws us e h) f);
}

pub next_word_1 : (acts : List Action) (sorts : List Sort) (l : Language) → DeclLawful acts sorts l b.next_word_1 name.next_word b.next_word_1_body
next_word_1 acts sorts l s inner ws (top_words {s = below} x bare) (tok {t = c} q (val {us = us} {ws = all} (a_word n p h f) nil e)) = record {
  after = i.words (x ++ (n, p) ∷ []) ∷ below;
  makes = refl;
  mean = decls (follows x n p (led c.lexeme (lexemes all) (single c.lexeme (comma_is c q)) (moved (SpellsWord n p) all us e h)) f);
}

-- ---- types

pub type_head_1 : (acts : List Action) (sorts : List Sort) (l : Language) → DeclLawful acts sorts l b.type_head_1 name.type_head b.type_head_1_body
type_head_1 acts sorts l s inner ws (top_words x (top_fields {s = below} f bare)) (tok {t = c} q nil) = record {
  after = i.around f.section ∷ i.words x ∷ i.fields f ∷ below;
  makes = refl;
  mean = decls (turns x f (single c.lexeme (decl.colon c q)));
}

pub declared_type_1 : (acts : List Action) (sorts : List Sort) (l : Language) → DeclLawful acts sorts l b.declared_type_1 name.declared_type b.declared_type_1_body
declared_type_1 acts sorts l s inner ws (top_around {s = below} a bare) (tok {t = t} q nil) = record {
  after = i.typed (plain (type_of_word t.lexeme.bytes)) ∷ below;
  makes = refl;
  mean = decls (a_type a (plain (type_of_word t.lexeme.bytes)) (single t.lexeme (decl.simple_type t q)) tt);
}

pub declared_type_2 : (acts : List Action) (sorts : List Sort) (l : Language) → DeclLawful acts sorts l b.declared_type_2 name.declared_type b.declared_type_2_body
declared_type_2 acts sorts l s inner ws (top_around {s = below} a bare) (tok {t = t} q nil) = record {
  after = i.typed unread ∷ below;
  makes = refl;
  mean = decls (a_type a unread (single t.lexeme (decl.date_and_time t q)) tt);
}

pub declared_type_3 : (acts : List Action) (sorts : List Sort) (l : Language) → DeclLawful acts sorts l b.declared_type_3 name.declared_type b.declared_type_3_body
declared_type_3 acts sorts l s inner ws (top_around {s = below} a bare) (val {us = us} (decls (a_name n p h f)) nil e) = record {
  after = i.typed (named n p) ∷ below;
  makes = refl;
  mean = decls (a_type a (named n p) (moved (SpellsName n p) ws us e h) f);
}

pub declared_type_4 : (acts : List Action) (sorts : List Sort) (l : Language) → DeclLawful acts sorts l b.declared_type_4 name.declared_type b.declared_type_4_body
declared_type_4 acts sorts l s inner ws w (val {us = us} (decls (a_type {s = below} a t h f)) nil e) = record {
  after = i.typed t ∷ below;
  makes = refl;
  mean = decls (a_type a t (moved (SpellsType a t) ws us e h) f);
}

pub declared_type_5 : (acts : List Action) (sorts : List Sort) (l : Language) → DeclLawful acts sorts l b.declared_type_5 name.declared_type b.declared_type_5_body
declared_type_5 acts sorts l s inner ws w (val {us = us} {ts = rest} (decls (bounded {s = below} a low high p k)) (val {us = vs} (decls (a_type _ t h f)) nil q) e) = record {
  after = i.typed (array low high t p) ∷ below;
  makes = refl;
  mean = decls (a_type a (array low high t p) (both (SpellsType a (array low high t p)) ws us rest vs e q (k (lexemes vs) t h)) f);
}

pub array_head_1 : (acts : List Action) (sorts : List Sort) (l : Language) → DeclLawful acts sorts l b.array_head_1 name.array_head b.array_head_1_body
array_head_1 acts sorts l s inner ws (top_around {s = below} a bare) (tok {t = a1} p1 (tok {t = b1} p2 (val {us = us} {ts = rest1} {ws = all1} (decls (a_numeral x g))
    (tok {t = d1} p3 (val {us = vs} {ts = rest2} {ws = all2} (decls (a_numeral y h)) (tok {t = c1} p4 (tok {t = o1} p5 nil)) e2)) e1))) = record {
      after = i.around a ∷ i.bounds (record { low = x.value; high = y.value; place = a1.lexeme.place }) ∷ below;
      makes = refl;
      mean = decls (bounded a x.value y.value a1.lexeme.place (λ xs of k. led a1.lexeme (b1.lexeme ∷ (lexemes all1 ++ xs)) (single_at a1.lexeme (decl.array_word a1 p1))
          (led b1.lexeme (lexemes all1 ++ xs) (single b1.lexeme (bracket_open_is b1 p2)) (beside_more all1 us rest1 xs e1 (value_alone x (lexemes us) g)
          (led d1.lexeme (lexemes all2 ++ xs) (single d1.lexeme (decl.dots d1 p3)) (beside_more all2 vs rest2 xs e2 (value_alone y (lexemes vs) h)
          (led c1.lexeme (o1.lexeme ∷ xs) (single c1.lexeme (bracket_close_is c1 p4)) (led o1.lexeme xs (single o1.lexeme (decl.of_word o1 p5)) k))))))));
    }

pub struct_head_1 : (acts : List Action) (sorts : List Sort) (l : Language) → DeclLawful acts sorts l b.struct_head_1 name.struct_head b.struct_head_1_body
struct_head_1 acts sorts l s inner ws (top_around {s = below} a bare) (tok {t = t} q nil) = record {
  after = i.fields (record { section = a; vars = [] }) ∷ below;
  makes = refl;
  mean = decls (opens a (single t.lexeme (decl.struct_word t q)));
}

pub struct_1 : (acts : List Action) (sorts : List Sort) (l : Language) → DeclLawful acts sorts l b.struct_1 name.struct b.struct_1_body
struct_1 acts sorts l s inner ws w (val {us = us} {ts = rest} (decls (opens {s = below} a k)) (val {us = vs} {ts = others} (decls (declare _ before new after h f r)) (tok {t = d} q nil) e2) e1) = record {
  after = i.typed (structure (listed after)) ∷ below;
  makes = refl;
  mean = decls (a_type a (structure (listed after)) (beside ws us rest e1 k (beside rest vs (d ∷ []) e2
      (subst (λ (z : List VarTree). SpellsVars a (listed z) (lexemes vs)) (sym r) h) (single d.lexeme (decl.end_struct d q))))
      (subst (λ (z : List VarTree). AreFormedVars (listed z)) (sym r) f));
}

pub own_head_1 : (acts : List Action) (sorts : List Sort) (l : Language) → DeclLawful acts sorts l b.own_head_1 name.own_head b.own_head_1_body
own_head_1 acts sorts l s inner ws w (tok {t = t} q nil) = record {
  after = i.fields (record { section = section.Static; vars = [] }) ∷ s;
  makes = refl;
  mean = decls (opens_own (single t.lexeme (decl.struct_word t q)));
}

-- ---- declarations

pub start_value_1 : (acts : List Action) (sorts : List Sort) (l : Language) → DeclLawful acts sorts l b.start_value_1 name.start_value b.start_value_1_body
start_value_1 acts sorts l s inner ws w (tok {t = t} q (val {us = us} {ws = all} (a_literal_of x h) nil e)) = record {
  after = i.start (Some x) ∷ s;
  makes = refl;
  mean = decls (a_start (Some x) (led t.lexeme (lexemes all) (single t.lexeme (assign_is t q)) (moved (SpellsLiteral x) all us e h)));
}

pub start_value_2 : (acts : List Action) (sorts : List Sort) (l : Language) → DeclLawful acts sorts l b.start_value_2 name.start_value b.start_value_2_body
start_value_2 acts sorts l s inner ws w nil = record {
  after = i.start None ∷ s;
  makes = refl;
  mean = decls (a_start None refl);
}

pub declared_1 : (acts : List Action) (sorts : List Sort) (l : Language) → DeclLawful acts sorts l b.declared_1 name.declared b.declared_1_body
declared_1 acts sorts l s inner ws w (val {us = us} {ts = rest1} (decls (turns {s = below} x f h0)) (val {us = vs} {ts = rest2} (decls (a_type _ t h1 g))
    (val {us = xs} {ts = rest3} (decls (a_start o h2)) (tok {t = d} q nil) e3) e2) e1) = record {
      after = i.fields (with_vars f (declared f.section t o x)) ∷ below;
      makes = refl;
      mean = decls (gives x f t o (λ others more k. beside_more ws us rest1 more e1 h0 (beside_more rest1 vs rest2 more e2 h1 (beside_more rest2 xs rest3 more e3 h2
          (led d.lexeme more (single d.lexeme (decl.semicolon d q)) k)))) g);
    }

-- one word more of a declaration, before variables behind it
one_more : (a : Section) (t : TypeTree) (o : Option Literal) (x : List PlacedName) (y : PlacedName) (before new after : List VarTree)
    → after ≡ before ++ (declared a t o (x ++ y ∷ []) ++ new) → after ≡ before ++ (declared a t o x ++ var y.0 a t o y.1 ∷ new)
one_more a t o x y before new after e =
    e ∙ ap (λ (z : List VarTree). before ++ (z ++ new)) (map-append (λ (w : PlacedName). var w.0 a t o w.1) x (y ∷ []))
    ∙ ap (λ (z : List VarTree). before ++ z) (append_assoc (declared a t o x) (declared a t o (y ∷ [])) new)

pub declared_words_1 : (acts : List Action) (sorts : List Sort) (l : Language) → DeclLawful acts sorts l b.declared_words_1 name.declared_words b.declared_words_1_body
declared_words_1 acts sorts l s inner ws w (val {us = us} {ts = rest} (decls (follows x n p h f)) (val {us = vs} (decls (goes_on {s = below} _ a before t o new after k g fo r)) nil e2) e1) = record {
  after = i.fields (record { section = a; vars = after }) ∷ below;
  makes = refl;
  mean = decls (goes_on x a before t o (var n a t o p ∷ new) after (both (Behind a t o (listed (var n a t o p ∷ new))) ws us rest vs e1 e2
      (inr (
        (refl, refl),
        joined h.front (h.back ++ lexemes vs) (lexemes us ++ lexemes vs)
            (ap (λ (z : List Lexeme). z ++ lexemes vs) h.parts ∙ append_assoc h.front h.back (lexemes vs)) h.in_front
            (refl, joined h.back (lexemes vs) (h.back ++ lexemes vs) refl h.behind k),
      ))) g (f, g, fo) (one_more a t o x (n, p) before new after r));
}

pub declared_words_2 : (acts : List Action) (sorts : List Sort) (l : Language) → DeclLawful acts sorts l b.declared_words_2 name.declared_words b.declared_words_2_body
declared_words_2 acts sorts l s inner ws w (val {us = us} {ts = rest} (decls (gives {s = below} x f t o k g)) (val {us = vs} (decls (declare _ before new after h fo r)) nil e2) e1) = record {
  after = i.fields (record { section = f.section; vars = after }) ∷ below;
  makes = refl;
  mean = decls (goes_on x f.section f.vars t o new after (both (Behind f.section t o (listed new)) ws us rest vs e1 e2 (inl (k (listed new) (lexemes vs) h))) g fo
      (r ∙ append_assoc f.vars (declared f.section t o x) new));
}

pub declarations_1 : (acts : List Action) (sorts : List Sort) (l : Language) → DeclLawful acts sorts l b.declarations_1 name.declarations b.declarations_1_body
declarations_1 acts sorts l s inner ws w (val {us = us} {ts = rest} (decls (begins n p h f)) (val {us = vs} (decls (goes_on {s = below} _ a before t o new after k g fo r)) nil e2) e1) = record {
  after = i.fields (record { section = a; vars = after }) ∷ below;
  makes = refl;
  mean = decls (declare a before (var n a t o p ∷ new) after (refl, beside ws us rest e1 h (moved (Behind a t o (listed new)) rest vs e2 k)) (f, g, fo) r);
}

pub declarations_2 : (acts : List Action) (sorts : List Sort) (l : Language) → DeclLawful acts sorts l b.declarations_2 name.declarations b.declarations_2_body
declarations_2 acts sorts l s inner ws (top_fields {s = below} f bare) nil = record {
  after = i.fields f ∷ below;
  makes = refl;
  mean = decls (declare f.section f.vars [] f.vars refl tt (sym (append-nil f.vars)));
}

-- ---- constants

pub constant_1 : (acts : List Action) (sorts : List Sort) (l : Language) → DeclLawful acts sorts l b.constant_1 name.constant b.constant_1_body
constant_1 acts sorts l s inner ws (top_fields {s = below} c bare) (val {us = us} {ts = rest1} (a_word n p h f) (tok {t = m} q (val {us = vs} {ts = rest2} {ws = all} (a_literal_of x g)
    (tok {t = d} r nil) e2)) e1) = record {
      after = i.fields (with_vars c (constant_of (n, p) x ∷ [])) ∷ below;
      makes = refl;
      mean = decls (name_constants c.section c.vars (constant_of (n, p) x ∷ []) (c.vars ++ constant_of (n, p) x ∷ [])
          (joined (lexemes ws) [] (lexemes ws) (sym (append-nil (lexemes ws))) (
            refl,
            (
              refl,
              beside ws us rest1 e1 h (led m.lexeme (lexemes all)
                  (single m.lexeme (assign_is m q)) (beside all vs (d ∷ []) e2 g (single d.lexeme (decl.semicolon d r)))),
            ),
          ) refl) (f, tt, tt) refl);
    }

-- what stands of each thing of two lists, one behind the other
pub each_append : {A : Type 0} (form : A → Form) (xs ys : List A) (us vs ts : List Lexeme) → ts ≡ us ++ vs → each form xs us → each form ys vs
    → each form (xs ++ ys) ts
each_append form [] ys us vs ts e g h = subst (λ (z : List Lexeme). each form ys z) (sym (e ∙ ap (λ (z : List Lexeme). z ++ vs) g)) h
each_append form (x ∷ xs) ys us vs ts e g h =
    joined g.front (g.back ++ vs) ts (e ∙ ap (λ (z : List Lexeme). z ++ vs) g.parts ∙ append_assoc g.front g.back vs) g.in_front
    (each_append form xs ys g.back vs (g.back ++ vs) refl g.behind h)

pub formed_beside : (xs ys : List VarTree) → AreFormedVars (listed xs) → AreFormedVars (listed ys) → AreFormedVars (listed (xs ++ ys))
formed_beside [] ys g h = h
formed_beside (var n a t o p ∷ xs) ys g h = (g.0, g.1, formed_beside xs ys g.2 h)

pub constants_1 : (acts : List Action) (sorts : List Sort) (l : Language) → DeclLawful acts sorts l b.constants_1 name.constants b.constants_1_body
constants_1 acts sorts l s inner ws w (val {us = us} {ts = rest} (decls (name_constants {s = below} a before new mid h f q)) (val {us = vs} (decls (name_constants _ _ more after g fo r)) nil e2) e1) = record {
  after = i.fields (record { section = a; vars = after }) ∷ below;
  makes = refl;
  mean = decls (name_constants a before (new ++ more) after (each_append SpellsConstant new more (lexemes us) (lexemes vs) (lexemes ws)
      (parted ws us vs (e1 ∙ ap (λ (z : List Sure). us ++ z) (last rest vs e2))) h g) (formed_beside new more f fo)
      (r ∙ ap (λ (z : List VarTree). z ++ more) q ∙ append_assoc before new more));
}

pub constants_2 : (acts : List Action) (sorts : List Sort) (l : Language) → DeclLawful acts sorts l b.constants_2 name.constants b.constants_2_body
constants_2 acts sorts l s inner ws (top_fields {s = below} f bare) nil = record {
  after = i.fields f ∷ below;
  makes = refl;
  mean = decls (name_constants f.section f.vars [] f.vars refl tt (sym (append-nil f.vars)));
}

pub section_head_1 : (acts : List Action) (sorts : List Sort) (l : Language) → DeclLawful acts sorts l b.section_head_1 name.section_head b.section_head_1_body
section_head_1 acts sorts l s inner ws w (tok {t = t} q nil) = record {
  after = i.fields (record { section = section_of_word t.lexeme.bytes; vars = [] }) ∷ s;
  makes = refl;
  mean = decls (heads (section_of_word t.lexeme.bytes) (decl.section_word t q));
}

pub const_head_1 : (acts : List Action) (sorts : List Sort) (l : Language) → DeclLawful acts sorts l b.const_head_1 name.const_head b.const_head_1_body
const_head_1 acts sorts l s inner ws w (tok {t = t} q nil) = record {
  after = i.fields (record { section = section.Const; vars = [] }) ∷ s;
  makes = refl;
  mean = decls (heads_constants (single t.lexeme (decl.const_word t q)));
}
