-- What spells the bodies of blocks makes them on the stack, where it does so of statements.
use Rattle.std.proofs.Common.{◌≡◌, inl, inr, List, [], ◌∷◌, ◌++◌, All, refl, ap, ◌∙◌, sym}
use Rattle.pv_lex.specs.declared.token.Language.TheVariants.{Scl}
use Rattle.pv_ll.specs.declared.table.Symbol.TheVariants.{Name}
use Rattle.pv_tree.specs.Tree.{StmtTrees, no_stmts, stmts, StartTree, BodyTree, scl, stl, starts}
use Rattle.pv_tree.specs.View.{stmts_of, list_of_stmts}
use Rattle.pv_tree.specs.Lexemes.{Lexeme}
use Rattle.pv_tree.specs.Statements.{SpellsStmts, AreFormedStmts}
use Rattle.pv_tree.specs.Blocks.{SpellsCode, SpellsData, IsFormedBody, IsFormedStart}
use Rattle.pv_parse.specs.declared.action.Action.{Action}
use Rattle.pv_parse.specs.KindNumbers as n
use Rattle.pv_parse.specs.FrontNames as name
use Rattle.pv_parse.specs.CodeItems.{statements}
use Rattle.pv_parse.specs.Items as i
use Rattle.pv_parse.specs.Items.{Stack}
use Rattle.pv_parse.specs.Deeds.{call_actions}
use Rattle.pv_parse.proofs.ForCallers.{empty, on, to, then, by, pass}
use Rattle.pv_parse_source.proofs.ForCallers.{Makes, Bodies, begin_word_serves, begun_values_run}
use Rattle.pv_scl_parse.specs.OwnNames as own
use Rattle.pv_scl_parse.specs.OwnBodies as b
use Rattle.pv_scl_parse.specs.SclActions.{body_actions}
use Rattle.pv_scl_parse.specs.SclGrammar.{statement_productions}

-- what spells statements makes them
abbrev pub StatementsRun : List Action → Type 0
StatementsRun acts = (x : StmtTrees) (ts : List Lexeme) (s : Stack) → SpellsStmts x ts → AreFormedStmts x
    → Makes statement_productions (call_actions ++ (body_actions ++ acts)) (Name own.list ∷ []) ts s (i.code (statements (list_of_stmts x)) ∷ s)

pub stmts_back : (x : StmtTrees) → stmts_of (list_of_stmts x) ≡ x
stmts_back no_stmts = refl
stmts_back (stmts x l) = ap (λ (z : StmtTrees). stmts x z) (stmts_back l)

code_runs : (acts : List Action) → StatementsRun acts → (y : BodyTree) (ts : List Lexeme) (s : Stack) → SpellsCode Scl y ts → IsFormedBody y
    → Makes statement_productions (call_actions ++ (body_actions ++ acts)) (Name name.body ∷ []) ts s (i.body y ∷ s)
code_runs acts can (stl l) ts s d f = absurd d
code_runs acts can (starts l) ts s d f = absurd d
code_runs acts can (scl x) ts s d f =
    to (ap (λ (z : StmtTrees). i.body (scl z) ∷ s) (stmts_back x))
    (elim d.in_front [
      | inl e ↦ on (sym (d.parts ∙ ap (λ (z : List Lexeme). z ++ d.back) e)) (by b.body_2 b.body_2_body refl (can x d.back s d.behind f) refl)
      | inr h ↦
          on (sym (d.parts ∙ ap (λ (z : List Lexeme). z ++ d.back) h.alone)) (by b.body_1 b.body_1_body refl
          (then (pass n.begin_word h.token (begin_word_serves h.token h.is)) (can x d.back (i.token h.token ∷ s) d.behind f)) refl)
    ])

data_runs : (acts : List Action) (v : List StartTree) (ts : List Lexeme) (s : Stack) → SpellsData Scl (starts v) ts → All IsFormedStart v
    → Makes statement_productions (call_actions ++ (body_actions ++ acts)) (Name name.data_body ∷ []) ts s (i.values v ∷ s)
data_runs acts v ts s (inl d) f =
    to (ap (λ (z : List StartTree). i.values z ∷ s) (sym d.0)) (on (sym d.1) (by b.data_body_2 b.data_body_2_body refl empty refl))
data_runs acts v ts s (inr d) f =
    by b.data_body_1 b.data_body_1_body refl (begun_values_run statement_productions (call_actions ++ (body_actions ++ acts)) v ts s d f) refl

pub bodies : (acts : List Action) → StatementsRun acts → Bodies statement_productions (call_actions ++ (body_actions ++ acts)) Scl
bodies acts can = record { code = code_runs acts can; data_of = data_runs acts }
