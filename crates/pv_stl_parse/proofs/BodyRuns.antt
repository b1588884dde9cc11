-- What spells the bodies of blocks makes them on the stack.
use Rattle.std.proofs.Common.{List, [], ◌∷◌, ◌++◌, All, refl, ap, ◌∙◌, sym}
use Rattle.pv_lex.specs.declared.token.Language.TheVariants.{Stl}
use Rattle.pv_ll.specs.declared.table.Symbol.TheVariants.{Name}
use Rattle.pv_tree.specs.Tree.{StartTree, BodyTree, scl, stl, starts}
use Rattle.pv_tree.specs.Lexemes.{Lexeme}
use Rattle.pv_tree.specs.Blocks.{SpellsCode, SpellsData, IsFormedBody, IsFormedStart}
use Rattle.pv_parse.specs.KindNumbers as n
use Rattle.pv_parse.specs.FrontNames as name
use Rattle.pv_parse.specs.Items as i
use Rattle.pv_parse.specs.Items.{Stack}
use Rattle.pv_parse.specs.Deeds.{call_actions}
use Rattle.pv_parse.proofs.ForCallers.{empty, on, then, by, pass}
use Rattle.pv_parse_source.proofs.ForCallers.{Makes, Bodies, begin_word_serves, begun_values_run}
use Rattle.pv_stl_parse.specs.OwnBodies as b
use Rattle.pv_stl_parse.specs.StlGrammar.{instruction_productions}
use Rattle.pv_stl_parse.proofs.Got.{own_acts}
use Rattle.pv_stl_parse.proofs.InstrRuns.{instrs_made}

pub code_runs : (y : BodyTree) (ts : List Lexeme) (s : Stack) → SpellsCode Stl y ts → IsFormedBody y
    → Makes instruction_productions (call_actions ++ own_acts) (Name name.body ∷ []) ts s (i.body y ∷ s)
code_runs (scl l) ts s d f = absurd d
code_runs (starts l) ts s d f = absurd d
code_runs (stl l) ts s d f =
    let t = d.in_front in
    on (sym (d.parts ∙ ap (λ (z : List Lexeme). z ++ d.back) t.alone)) (by b.body_1 b.body_1_body refl
    (then (pass n.begin_word t.token (begin_word_serves t.token t.is))
    (then (by b.new_code_1 b.new_code_1_body refl empty refl) (instrs_made l d.back d.behind f [] (i.token t.token ∷ s)))) refl)

data_runs : (v : List StartTree) (ts : List Lexeme) (s : Stack) → SpellsData Stl (starts v) ts → All IsFormedStart v
    → Makes instruction_productions (call_actions ++ own_acts) (Name name.data_body ∷ []) ts s (i.values v ∷ s)
data_runs v ts s d f =
    by b.data_body_1 b.data_body_1_body refl (begun_values_run instruction_productions (call_actions ++ own_acts) v ts s d f) refl

pub bodies : Bodies instruction_productions (call_actions ++ own_acts) Stl
bodies = record { code = code_runs; data_of = data_runs }
