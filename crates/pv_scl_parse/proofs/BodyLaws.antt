-- Laws of the productions of bodies of blocks, for whatever statements mean.
use Rattle.std.proofs.Common.{inl, inr, ℕ, List, [], ◌∷◌, ◌++◌, All, refl, sym, subst}
use Rattle.std.proofs.lemmas.List.Elements.{All-nil}
use Rattle.pv_lex.specs.declared.token.Language.TheVariants.{Scl}
use Rattle.pv_tree.specs.Tree.{StartTree, scl}
use Rattle.pv_tree.specs.View.{stmts_of}
use Rattle.pv_tree.specs.Lexemes.{each}
use Rattle.pv_tree.specs.Statements.{SpellsStmts}
use Rattle.pv_tree.specs.Blocks.{SpellsDataValue, IsFormedStart}
use Rattle.pv_ll.specs.declared.table.Symbol.{Symbol}
use Rattle.pv_ll.specs.Meaning.{Law}
use Rattle.pv_ll.specs.Meaning.DoesAll.{nil, tok, val}
use Rattle.pv_parse.specs.declared.action.Action.{Action}
use Rattle.pv_parse.specs.FrontNames as name
use Rattle.pv_parse.specs.Items as i
use Rattle.pv_parse.specs.Deeds.{expression_actions, declaration_actions, call_actions}
use Rattle.pv_parse.proofs.ForCallers.{Sort, code_of, codes, decls, a_list, list, begins_data, are_values, a_body, a_data_body, expression_sorts, declaration_sorts, call_sorts, body_sorts, sure_making, meaning, lexemes, single, led, joined}
use Rattle.pv_parse_source.proofs.ForCallers.{moved, beside, begin_word_is}
use Rattle.pv_scl_parse.specs.OwnBodies as b
use Rattle.pv_scl_parse.specs.SclActions.{body_actions}

-- a law where `list` means statements
abbrev pub BodyLawful : List Action → List Sort → ℕ → ℕ → List Symbol → Type 0
BodyLawful acts sorts k m body =
    Law (sure_making (expression_actions ++ (declaration_actions ++ (call_actions ++ (body_actions ++ acts)))))
    (meaning (expression_sorts ++ (declaration_sorts Scl ++ (call_sorts ++ (body_sorts Scl ++ (code_of list ∷ sorts)))))) k m body

pub body_1 : (acts : List Action) (sorts : List Sort) → BodyLawful acts sorts b.body_1 name.body b.body_1_body
body_1 acts sorts s inner ws w (tok {t = t} q (val {us = us} {ws = all} (codes (a_list x h)) nil e)) = record {
  after = i.body (scl (stmts_of x)) ∷ s;
  makes = refl;
  mean = decls (a_body (scl (stmts_of x)) (led t.lexeme (lexemes all) (inr (single t.lexeme (begin_word_is t q)))
      (moved (SpellsStmts (stmts_of x)) all us e h.spelled)) h.formed);
}

pub body_2 : (acts : List Action) (sorts : List Sort) → BodyLawful acts sorts b.body_2 name.body b.body_2_body
body_2 acts sorts s inner ws w (val {us = us} (codes (a_list x h)) nil e) = record {
  after = i.body (scl (stmts_of x)) ∷ s;
  makes = refl;
  mean = decls (a_body (scl (stmts_of x)) (joined [] (lexemes ws) (lexemes ws) refl (inl refl)
      (moved (SpellsStmts (stmts_of x)) ws us e h.spelled)) h.formed);
}

pub data_body_1 : (acts : List Action) (sorts : List Sort) → BodyLawful acts sorts b.data_body_1 name.data_body b.data_body_1_body
data_body_1 acts sorts s inner ws w (val {us = us} {ts = rest} (decls (begins_data h)) (val {us = vs} (decls (are_values _ new after g f r)) nil e2) e1) = record {
  after = i.values after ∷ s;
  makes = refl;
  mean = decls (a_data_body after (inr (beside ws us rest e1 h (moved (each SpellsDataValue after) rest vs e2
      (subst (λ (z : List StartTree). each SpellsDataValue z (lexemes vs)) (sym r) g)))) (subst (λ (z : List StartTree). All IsFormedStart z) (sym r) f));
}

pub data_body_2 : (acts : List Action) (sorts : List Sort) → BodyLawful acts sorts b.data_body_2 name.data_body b.data_body_2_body
data_body_2 acts sorts s inner ws w nil = record {
  after = i.values [] ∷ s;
  makes = refl;
  mean = decls (a_data_body [] (inl (refl, refl)) (All-nil IsFormedStart));
}
