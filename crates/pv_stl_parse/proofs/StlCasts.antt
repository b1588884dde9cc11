-- What spells the bodies of STL's blocks makes of the shades on the stack.
use Rattle.std.proofs.Common.{ℕ, ◌==◌, Bool, ◌&&◌, List, [], ◌∷◌, ◌++◌, All, refl}
use Rattle.std.specs.Prelude.{not, ◌||◌, nat_lt, nat_le}
use Rattle.pv_lex.specs.declared.token.Language.TheVariants.{Stl}
use Rattle.pv_ll.specs.declared.table.Symbol.TheVariants.{Name}
use Rattle.pv_tree.specs.Tree.{InstrTree, StartTree, BodyTree, scl, stl, starts}
use Rattle.pv_tree.specs.Lexemes.{Lexeme}
use Rattle.pv_tree.specs.Blocks.{SpellsCode, SpellsData, IsFormedBody, IsFormedStart}
use Rattle.pv_parse.specs.FrontNames as name
use Rattle.pv_parse.specs.Deeds.{call_actions}
use Rattle.pv_parse.specs.Shades.{Shade}
use Rattle.pv_parse.specs.InstrShades.{places_of_instrs}
use Rattle.pv_parse.specs.ItemShades.{shade_of}
use Rattle.pv_parse.proofs.ForCallers.{followed_among}
use Rattle.pv_parse_source.proofs.ForCallers.{above, cast_by, Dims, group, begun_values_cast, BodyCast, BodyCasts, marks-instrs, all_followed}
use Rattle.pv_stl_parse.specs.OwnBodies as b
use Rattle.pv_stl_parse.specs.StlActions.{stl_actions}
use Rattle.pv_stl_parse.specs.StlGrammar.{instruction_productions, stl_grammar}
use Rattle.pv_stl_parse.proofs.Got.{own_acts}
use Rattle.pv_stl_parse.proofs.BodyRuns.{code_runs}

-- the names of expressions, calls, bodies and instructions
abbrev is_of_code : ℕ → Bool
is_of_code m = nat_lt m name.source || (nat_le name.plain_hash m && not (m == name.data_body))

-- the shades follow bodies
body_cast : (l : List InstrTree) (ts : List Lexeme) (w : List Shade) → SpellsCode Stl (stl l) ts → IsFormedBody (stl l)
    → Dims instruction_productions (call_actions ++ own_acts) (Name name.body ∷ []) ts w (group (places_of_instrs l) ∷ w)
body_cast l ts w d f =
    let g = code_runs (stl l) ts [] d f in
    record {
      runs = above stl_actions w (followed_among shade_of is_of_code (λ t. refl) (λ t. refl) (all_followed is_of_code stl_grammar stl_actions refl) refl g.runs);
      plain = g.plain;
    }

code_cast : (y : BodyTree) (ts : List Lexeme) → SpellsCode Stl y ts → IsFormedBody y → BodyCast instruction_productions (call_actions ++ own_acts) y ts
code_cast (scl x) ts d f = absurd d
code_cast (starts l) ts d f = absurd d
code_cast (stl l) ts d f = record { places = places_of_instrs l; casts = λ w. body_cast l ts w d f; marks = marks-instrs l }

data_cast : (v : List StartTree) (ts : List Lexeme) (w : List Shade) → SpellsData Stl (starts v) ts → All IsFormedStart v
    → Dims instruction_productions (call_actions ++ own_acts) (Name name.data_body ∷ []) ts w (group [] ∷ w)
data_cast v ts w d f =
    cast_by b.data_body_1 b.data_body_1_body refl (begun_values_cast instruction_productions (call_actions ++ own_acts) refl v ts w d f) refl

pub body_casts : BodyCasts instruction_productions (call_actions ++ own_acts) Stl
body_casts = record { apart = refl; code = code_cast; data_of = data_cast }
