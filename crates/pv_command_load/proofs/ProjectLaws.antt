-- The project of what is given, and its first breach.
use Rattle.std.proofs.Common.{◌≡◌, List, [], ◌∷◌, map, refl, sym, ap, subst, ◌∙◌}
use Rattle.pv_place.specs.declared.place.Place.{Place}
use Rattle.pv_word.specs.declared.types.Ty.{Ty}
use Rattle.pv_types.specs.declared.name.Name.{Name}
use Rattle.pv_tree.specs.declared.expr.Operand.{Operand}
use Rattle.pv_tree.specs.declared.block.Block.{Block}
use Rattle.pv_tree.specs.Projects.{symbol_tree, project_tree}
use Rattle.pv_tree.specs.declared.kept.Project.{Project}
use Rattle.pv_tree.specs.Scopes.{SymbolTree, ProjectTree}
use Rattle.pv_tree.specs.Tree.{BlockTree}
use Rattle.pv_tree.specs.Rules.{Rule, KeepsRules}
use Rattle.pv_tree.specs.Least.{IsLeastFault}
use Rattle.pv_rules_decl.specs.Answers.{IsKept}
use Rattle.pv_case.specs.declared.case.Symbol.{Symbol}
use Rattle.pv_case.specs.Cases.{symbol_data}
use Rattle.pv_command_load.specs.declared.position.SourceText.{SourceText}
use Rattle.pv_command_load.specs.declared.project.ProjectStop.{ProjectStop}
use Rattle.pv_command_load.specs.Positions.{FileText, place_text, LiesAmong}
use Rattle.pv_command_load.specs.Refusals as r
use Rattle.pv_command_load.specs.Refusals.{ProjectRefusal}
use Rattle.pv_command_load.specs.Subjects.{Given, project_of, symbol_of, texts_of, RefusesProject}
use Rattle.pv_command_load.specs.Stopped.{Stopped, refused, StopsAt, asks_none}
use Rattle.pv_command_load.specs.Stops.{project_stopped, StopsProject}
use Rattle.pv_command_load.specs.Made.{AreGiven, IsProjectOf, in_project}

same_symbols : (symbols : List Symbol) → map symbol_tree (map in_project symbols) ≡ map symbol_of (map symbol_data symbols)
same_symbols [] = refl
same_symbols (s ∷ more) = ap (λ l. symbol_of (symbol_data s) ∷ l) (same_symbols more)

-- the tree of the blocks and of the symbols as a project has them
pub is_project : (texts : List SourceText) (blocks : List Block) (symbols : List Symbol) (list : List (Name × Operand × Ty)) (given : Given)
    → AreGiven texts blocks symbols given → list ≡ map in_project symbols → project_tree blocks list ≡ project_of given
is_project texts blocks symbols list given are made =
    let with_blocks : List BlockTree → ProjectTree = λ b. record { blocks = b; symbols = map symbol_tree list } in
    let with_symbols : List SymbolTree → ProjectTree = λ s. record { blocks = (project_of given).blocks; symbols = s } in
    ap with_blocks are.of_blocks
    ∙ ap with_symbols (ap (map symbol_tree) made ∙ same_symbols symbols ∙ ap (map symbol_of) are.of_symbols)

pub is_kept : (given : Given) (tree : ProjectTree) (project : Project) → tree ≡ project_of given → IsKept tree project
    → IsProjectOf given project
is_kept given tree project is kept = record { keeps = subst KeepsRules is kept.keeps; same = kept.same ∙ is }

pub is_broken : (given : Given) (tree : ProjectTree) (texts : List FileText) (rule : Rule) (place : Place) (stop : ProjectStop)
    → tree ≡ project_of given → texts ≡ texts_of given → IsLeastFault tree rule place → LiesAmong texts place
    → project_stopped stop ≡ refused (r.rule rule (place_text texts place)) → StopsProject given stop
is_broken given tree texts rule place stop is are least lies stopped =
    let refuses : RefusesProject given (r.rule rule (place_text texts place)) = record {
      place = place;
      least = subst (λ p. IsLeastFault p rule place) is least;
      lies = subst (λ t. LiesAmong t place) are lies;
      is_there = ap (λ t. place_text t place) are;
    } in
    subst (λ (s : Stopped ProjectRefusal). StopsAt asks_none (RefusesProject given) s) (sym stopped) refuses
