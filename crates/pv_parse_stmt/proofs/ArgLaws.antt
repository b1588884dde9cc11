-- Laws of the productions that calls of SCL and of STL share: names behind `#`, and arguments with their words.
use Rattle.std.proofs.Common.{◌≡◌, inl, inr, ℕ, true, false, List, [], ◌∷◌, ◌++◌, Some, refl, ap, ◌∙◌, sym, subst}
use Rattle.std.proofs.lemmas.List.{append-nil, append_assoc}
use Rattle.std.proofs.lemmas.List.Elements.{All-nil, All-cons, All-append}
use Rattle.pv_place.specs.declared.place.Place.{Place}
use Rattle.pv_lex.specs.declared.token.Language.{Language}
use Rattle.pv_tree.specs.declared.expr.Root.TheVariants.{Local}
use Rattle.pv_tree.specs.Tree.{ExprTree, ArgTree}
use Rattle.pv_tree.specs.Lexemes.{Lexeme, Form, ◌⨾◌, sign, each_behind}
use Rattle.pv_tree.specs.Words.{plain_name, pair_name, quoted_name}
use Rattle.pv_tree.specs.Expressions.{SpellsExpr}
use Rattle.pv_tree.specs.Calls.{SpellsArrow, SpellsArg, IsFormedArg}
use Rattle.pv_ll.specs.declared.table.Symbol.{Symbol}
use Rattle.pv_ll.specs.Meaning.{Law}
use Rattle.pv_ll.specs.Meaning.DoesAll.{nil, tok, val}
use Rattle.pv_parse.specs.declared.action.Action.{Action}
use Rattle.pv_parse.specs.FrontNames as name
use Rattle.pv_parse.specs.FrontBodies as b
use Rattle.pv_parse.specs.CodeItems.{arguments}
use Rattle.pv_parse.specs.Items.{PathTree, token, path, expr, code}
use Rattle.pv_parse.specs.ExprDeeds.{rooted}
use Rattle.pv_parse.specs.CallDeeds.{named_of}
use Rattle.pv_parse.specs.Deeds.{expression_actions, declaration_actions, call_actions}
use Rattle.pv_parse.proofs.ForCallers.{Sure, lexemes, sure_making, Sort, a_word, an_expr, codes, expression_sorts, declaration_sorts, call_sorts, meaning, bare, top_token, top_path, top_args, a_given, a_first_arg, adds_args, marks_plain_hash, marks_quoted_hash, marks_numbered_hash, last, parted, single, single_at, led, joined, arrow_is, assign_is, comma_is, number_is}

-- a law in each grammar that begins with the productions of the front
abbrev pub FrontLawful : List Action → List Sort → Language → ℕ → ℕ → List Symbol → Type 0
FrontLawful acts sorts l k m body =
    Law (sure_making (expression_actions ++ (declaration_actions ++ (call_actions ++ acts))))
    (meaning (expression_sorts ++ (declaration_sorts l ++ (call_sorts ++ sorts)))) k m body

-- ---- names behind `#`

pub plain_hash_1 : (acts : List Action) (sorts : List Sort) (language : Language) → FrontLawful acts sorts language b.plain_hash_1 name.plain_hash b.plain_hash_1_body
plain_hash_1 acts sorts language s inner ws (top_token w (top_token {s = below} h bare)) nil = record {
  after = path (rooted (Local (plain_name w.bytes) true w.place) h.place) ∷ below;
  makes = refl;
  mean = codes (marks_plain_hash w h);
}

pub quoted_hash_1 : (acts : List Action) (sorts : List Sort) (language : Language) → FrontLawful acts sorts language b.quoted_hash_1 name.quoted_hash b.quoted_hash_1_body
quoted_hash_1 acts sorts language s inner ws (top_token w (top_token {s = below} h bare)) nil = record {
  after = path (rooted (Local (quoted_name w.bytes) true w.place) h.place) ∷ below;
  makes = refl;
  mean = codes (marks_quoted_hash w h);
}

pub numbered_hash_1 : (acts : List Action) (sorts : List Sort) (language : Language) → FrontLawful acts sorts language b.numbered_hash_1 name.numbered_hash b.numbered_hash_1_body
numbered_hash_1 acts sorts language s inner ws (top_token w (top_token {s = below} h bare)) (tok {t = n} p nil) = record {
  after = path (rooted (Local (pair_name (w.bytes ++ n.lexeme.bytes)) true w.place) h.place) ∷ below;
  makes = refl;
  mean = codes (marks_numbered_hash n w h (number_is n p));
}

-- ---- arguments

-- an argument of this word
abbrev pub argument_of : PathTree → ExprTree → Place → ArgTree
argument_of p e at = record { name = Some (named_of p); value = e; place = at }

pub first_argument_1 : (acts : List Action) (sorts : List Sort) (language : Language) → FrontLawful acts sorts language b.first_argument_1 name.first_argument b.first_argument_1_body
first_argument_1 acts sorts language s inner ws (top_path {s = below} p bare) (val {us = us} (codes (a_given e t h f)) nil q) = record {
  after = code (arguments (argument_of p e t.place ∷ [])) ∷ below;
  makes = refl;
  mean = codes (a_first_arg p e t.place (subst (λ (z : List Sure). (SpellsArrow t.place ⨾ SpellsExpr e) (lexemes z)) (sym (last ws us q)) h) f);
}

pub argument_value_1 : (acts : List Action) (sorts : List Sort) (language : Language) → FrontLawful acts sorts language b.argument_value_1 name.argument_value b.argument_value_1_body
argument_value_1 acts sorts language s inner ws w (tok {t = t} p (val {us = us} {ws = all} (an_expr e a) nil q)) = record {
  after = expr e ∷ token t.lexeme ∷ s;
  makes = refl;
  mean = codes (a_given e t.lexeme (led t.lexeme (lexemes all) (inl (single_at t.lexeme (assign_is t p)))
      (subst (λ (z : List Sure). SpellsExpr e (lexemes z)) (sym (last all us q)) a.spelled)) a.formed);
}

pub argument_value_2 : (acts : List Action) (sorts : List Sort) (language : Language) → FrontLawful acts sorts language b.argument_value_2 name.argument_value b.argument_value_2_body
argument_value_2 acts sorts language s inner ws w (tok {t = t} p (val {us = us} {ws = all} (an_expr e a) nil q)) = record {
  after = expr e ∷ token t.lexeme ∷ s;
  makes = refl;
  mean = codes (a_given e t.lexeme (led t.lexeme (lexemes all) (inr (single_at t.lexeme (arrow_is t p)))
      (subst (λ (z : List Sure). SpellsExpr e (lexemes z)) (sym (last all us q)) a.spelled)) a.formed);
}

-- each behind a comma, and others behind these
pub behind_append : {A : Type 0} (form : A → Form) (xs ys : List A) (us vs ws : List Lexeme) → each_behind form xs us → each_behind form ys vs
    → ws ≡ us ++ vs → each_behind form (xs ++ ys) ws
behind_append form [] ys us vs ws g h e =
    subst (λ (z : List Lexeme). each_behind form ys z) (sym (e ∙ ap (λ (z : List Lexeme). z ++ vs) g)) h
behind_append form (x ∷ xs) ys us vs ws g h e =
    joined g.front (g.back ++ vs) ws (e ∙ ap (λ (z : List Lexeme). z ++ vs) g.parts ∙ append_assoc g.front g.back vs) g.in_front
    (joined g.behind.front (g.behind.back ++ vs) (g.back ++ vs)
    (ap (λ (z : List Lexeme). z ++ vs) g.behind.parts ∙ append_assoc g.behind.front g.behind.back vs) g.behind.in_front
    (behind_append form xs ys g.behind.back vs (g.behind.back ++ vs) g.behind.behind h refl))

-- one behind its comma
pub one_behind : {A : Type 0} (form : A → Form) (x : A) (t : Lexeme) (us : List Lexeme) → sign "," (t ∷ []) → form x us → each_behind form (x ∷ []) (t ∷ us)
one_behind form x t us c h = led t us c (joined us [] us (sym (append-nil us)) h refl)

pub more_arguments_1 : (acts : List Action) (sorts : List Sort) (language : Language) → FrontLawful acts sorts language b.more_arguments_1 name.more_arguments b.more_arguments_1_body
more_arguments_1 acts sorts language s inner ws w
    (val {us = us} {ts = rest} (codes (adds_args {s = below} before new mid g i j)) (val {us = vs} (codes (adds_args _ more after h k l)) nil q) e) = record {
      after = code (arguments after) ∷ below;
      makes = refl;
      mean = codes (adds_args before (new ++ more) after
          (behind_append SpellsArg new more (lexemes us) (lexemes vs) (lexemes ws) g h
          (parted ws us vs (e ∙ ap (λ (z : List Sure). us ++ z) (last rest vs q)))) (All-append IsFormedArg new more i k)
          (l ∙ ap (λ (z : List ArgTree). z ++ more) j ∙ append_assoc before new more));
    }

pub more_arguments_2 : (acts : List Action) (sorts : List Sort) (language : Language) → FrontLawful acts sorts language b.more_arguments_2 name.more_arguments b.more_arguments_2_body
more_arguments_2 acts sorts language s inner ws (top_args {s = below} l bare) nil =
    record { after = code (arguments l) ∷ below; makes = refl; mean = codes (adds_args l [] l refl (All-nil IsFormedArg) (sym (append-nil l))) }

pub next_argument_1 : (acts : List Action) (sorts : List Sort) (language : Language) → FrontLawful acts sorts language b.next_argument_1 name.next_argument b.next_argument_1_body
next_argument_1 acts sorts language s inner ws (top_args {s = below} l bare)
    (tok {t = t} p (val {us = us} {ts = rest} {ws = all} (a_word n at g f) (val {us = vs} (codes (a_given e d h k)) nil q) eq)) = record {
      after = code (arguments (l ++ argument_of (rooted (Local n false at) at) e d.place ∷ [])) ∷ below;
      makes = refl;
      mean = codes (adds_args l (argument_of (rooted (Local n false at) at) e d.place ∷ []) (l ++ argument_of (rooted (Local n false at) at) e d.place ∷ [])
          (one_behind SpellsArg (argument_of (rooted (Local n false at) at) e d.place) t.lexeme (lexemes all) (single t.lexeme (comma_is t p))
          (joined (lexemes us) (lexemes vs) (lexemes all) (parted all us vs (eq ∙ ap (λ (z : List Sure). us ++ z) (last rest vs q))) g h))
          (All-cons IsFormedArg (argument_of (rooted (Local n false at) at) e d.place) [] (record { name = f; value = k }) (All-nil IsFormedArg)) refl);
    }
