-- What spells the bodies of SCL's blocks makes of the shades on the stack.
use Rattle.std.proofs.Common.{inl, inr, ℕ, ◌==◌, Bool, ◌&&◌, List, [], ◌∷◌, ◌++◌, All, refl, ap, ◌∙◌, sym}
use Rattle.std.specs.Prelude.{not, ◌||◌, nat_lt, nat_le}
use Rattle.pv_place.specs.declared.place.Place.{Place}
use Rattle.pv_lex.specs.declared.token.Language.TheVariants.{Scl}
use Rattle.pv_ll.specs.declared.table.Symbol.TheVariants.{Name}
use Rattle.pv_tree.specs.Tree.{StmtTrees, StartTree, BodyTree, scl, stl, starts}
use Rattle.pv_tree.specs.Lexemes.{Lexeme}
use Rattle.pv_tree.specs.Statements.{SpellsStmts, AreFormedStmts}
use Rattle.pv_tree.specs.Blocks.{SpellsCode, SpellsData, IsFormedBody, IsFormedStart}
use Rattle.pv_parse.specs.declared.action.Action.{Action}
use Rattle.pv_parse.specs.KindNumbers as n
use Rattle.pv_parse.specs.FrontNames as name
use Rattle.pv_parse.specs.Deeds.{call_actions}
use Rattle.pv_parse.specs.Shades.{Shade}
use Rattle.pv_parse.specs.StmtShades.{places_of_stmts}
use Rattle.pv_parse.specs.ItemShades.{shade_of}
use Rattle.pv_parse.proofs.ForCallers.{followed_among, merged-nil}
use Rattle.pv_parse_source.proofs.ForCallers.{begin_word_serves, above, no_cast, cast_on, cast_to, cast_then, cast_by, cast_pass, Dims, group, begun_values_cast, BodyCast, BodyCasts, marks-stmts, all_followed}
use Rattle.pv_scl_parse.specs.OwnNames as own
use Rattle.pv_scl_parse.specs.OwnBodies as b
use Rattle.pv_scl_parse.specs.SclActions.{body_actions, statement_actions, scl_actions}
use Rattle.pv_scl_parse.specs.SclGrammar.{statement_productions, scl_grammar}
use Rattle.pv_scl_parse.proofs.BodyRuns.{StatementsRun, stmts_back}

abbrev acts : List Action
acts = call_actions ++ (body_actions ++ statement_actions)

-- the names of expressions, literals, calls and statements
abbrev is_of_code : ℕ → Bool
is_of_code m =
    nat_lt m name.source || (m == name.literal || (m == name.integer
    || (nat_le name.plain_hash m && (not (m == name.body) && not (m == name.data_body)))))

-- the shades follow statements
list_cast : StatementsRun statement_actions → (x : StmtTrees) (ts : List Lexeme) (w : List Shade) → SpellsStmts x ts → AreFormedStmts x
    → Dims statement_productions acts (Name own.list ∷ []) ts w (group (places_of_stmts x) ∷ w)
list_cast can x ts w d f =
    let g = can x ts [] d f in
    cast_to (ap (λ (z : StmtTrees). group (places_of_stmts z) ∷ w) (stmts_back x))
    (record {
      runs = above scl_actions w (followed_among shade_of is_of_code (λ t. refl) (λ t. refl) (all_followed is_of_code scl_grammar scl_actions refl) refl g.runs);
      plain = g.plain;
    })

code_cast : StatementsRun statement_actions → (y : BodyTree) (ts : List Lexeme) → SpellsCode Scl y ts → IsFormedBody y
    → BodyCast statement_productions acts y ts
code_cast can (stl l) ts d f = absurd d
code_cast can (starts l) ts d f = absurd d
code_cast can (scl x) ts d f = record {
  places = places_of_stmts x;
  casts = λ w. elim d.in_front [
    | inl e ↦
        cast_on (sym (d.parts ∙ ap (λ (z : List Lexeme). z ++ d.back) e)) (cast_by b.body_2 b.body_2_body refl (list_cast can x d.back w d.behind f) refl)
    | inr h ↦
        cast_to (ap (λ (z : List Place). group z ∷ w) (merged-nil (places_of_stmts x)))
        (cast_on (sym (d.parts ∙ ap (λ (z : List Lexeme). z ++ d.back) h.alone)) (cast_by b.body_1 b.body_1_body refl
        (cast_then (cast_pass n.begin_word h.token (begin_word_serves h.token h.is))
        (list_cast can x d.back (record { first = h.token.place; parts = [] } ∷ w) d.behind f)) refl))
  ];
  marks = marks-stmts 0 x;
}

data_cast : (v : List StartTree) (ts : List Lexeme) (w : List Shade) → SpellsData Scl (starts v) ts → All IsFormedStart v
    → Dims statement_productions acts (Name name.data_body ∷ []) ts w (group [] ∷ w)
data_cast v ts w (inl d) f = cast_on (sym d.1) (cast_by b.data_body_2 b.data_body_2_body refl no_cast refl)
data_cast v ts w (inr d) f =
    cast_by b.data_body_1 b.data_body_1_body refl (begun_values_cast statement_productions acts refl v ts w d f) refl

pub body_casts : StatementsRun statement_actions → BodyCasts statement_productions acts Scl
body_casts can = record { apart = refl; code = code_cast can; data_of = data_cast }
