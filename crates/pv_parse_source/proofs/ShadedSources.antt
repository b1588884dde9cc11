-- The shade of a source: what it says of the parts that are too deep.
use Rattle.std.proofs.Common.{◌≡◌, ℕ, false, List, [], ◌∷◌, ◌++◌, ◌∙◌, sym, subst}
use Rattle.pv_ll.specs.declared.table.Language.{Language}
use Rattle.pv_ll.specs.declared.table.Symbol.TheVariants.{Name}
use Rattle.pv_ll.specs.Grammar.{Grammar}
use Rattle.pv_ll.specs.Table.{grammar_of}
use Rattle.pv_ll.specs.Making.{Runs}
use Rattle.pv_lex.specs.declared.token.Language.{Language as Of}
use Rattle.pv_tree.specs.Tree.{BlockTree}
use Rattle.pv_tree.specs.Lexemes.{Lexeme}
use Rattle.pv_tree.specs.Nesting.{Part, most_levels}
use Rattle.pv_tree.specs.Depth.{parts_of_blocks}
use Rattle.pv_tree.specs.Reading.{ReadAsBlocks}
use Rattle.pv_tree.proofs.ForCallers.{along-blocks}
use Rattle.pv_parse.specs.declared.action.Action.{Action}
use Rattle.pv_parse.specs.FrontNames as name
use Rattle.pv_parse.specs.Front.{expression_productions, declaration_productions}
use Rattle.pv_parse.specs.Deeds.{expression_actions, declaration_actions, kinded}
use Rattle.pv_parse.specs.ItemShades.{shade_making}
use Rattle.pv_parse.proofs.ForCallers.{none_above, is_first}
use Rattle.pv_parse_source.specs.SourceAnswers.{IsShaded}
use Rattle.pv_parse_source.proofs.BlockCasts.{group, BodyCasts, SourceCast, source_cast}

pub shaded_source : (its : Of) (l : Language) (actions : List Action) (rest : Grammar) (acts : List Action)
    → grammar_of l ≡ expression_productions ++ (declaration_productions ++ rest) → l.start ≡ name.source
    → actions ≡ expression_actions ++ (declaration_actions ++ acts) → BodyCasts rest acts its
    → (all : List BlockTree) (tokens : List Lexeme) (read : ReadAsBlocks its all tokens) → IsShaded its l actions all tokens read
shaded_source its l actions rest acts e f g can all tokens read =
    let list : List Part = parts_of_blocks its all tokens read.spelled in
    let x : SourceCast rest acts list tokens = source_cast rest acts its can all tokens read.spelled read.formed in
    record {
      shade = group x.places;
      runs = subst (λ (z : Grammar). Runs z (shade_making actions) (Name l.start ∷ []) (kinded false tokens) [] (group x.places ∷ [])) (sym e)
          (subst (λ (z : ℕ). Runs (expression_productions ++ (declaration_productions ++ rest)) (shade_making actions) (Name z ∷ []) (kinded false tokens) []
          (group x.places ∷ [])) (sym f)
          (subst (λ (z : List Action). Runs (expression_productions ++ (declaration_productions ++ rest)) (shade_making z) (Name name.source ∷ [])
          (kinded false tokens) [] (group x.places ∷ [])) (sym g) x.casts.runs));
      shallow = λ none. none_above most_levels list (sym x.deepens ∙ none);
      deepest = λ place order some.
          let first = is_first 0 most_levels tokens list place order (along-blocks its all tokens read.spelled) (sym x.deepens ∙ some) in
          record { there = first.there; least = first.least };
    }
