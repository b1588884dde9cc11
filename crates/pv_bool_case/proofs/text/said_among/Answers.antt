use Rattle.std.proofs.Common.{◌≡◌, ◌∙◌, refl, ap, length, map, arith}
use Rattle.std.proofs.lemmas.List.{length-map}
use Rattle.std.specs.Prelude.{slice_get}
use Rattle.pv_tree.specs.View.{block_tree}
use Rattle.pv_tree.specs.Projects.{symbol_tree}
use Rattle.pv_names.specs.Tables.{blocks_of, symbols_of, project_of}
use Rattle.pv_mean.specs.ProjectSizes.{project_tree}
use Rattle.pv_bool_case.proofs.Scopes.{same_project, same_scope, in_scope}
use Rattle.pv_bool_case.proofs.text.said_among.Goals as goal

pub said_over-requires-clause-there : goal.said_over-requires-clause-there
said_over-requires-clause-there c =
    let blocks = c.args.project.now.blocks.list.items in
    let all : length (blocks_of c.in-Ok.tables) ≡ length (map block_tree blocks) = ap length (c.in-Ok.ensures.blocks ∙ c.requires.tables) in
    omega (arith, c.requires.there, all, length-map blocks block_tree)

pub returns : goal.returns
returns c = λ block there.
    let tables = c.in-Ok.tables in
    let blocks = c.in-Ok.ensures.blocks ∙ c.requires.tables in
    let made = same_project (blocks_of tables) _ (symbols_of tables) _ blocks (c.in-Ok.ensures.symbols ∙ ap (map symbol_tree) c.symbols.ensures) in
    in_scope (record { project = project_of tables; block = block }) (record { project = project_tree c.args.project.now; block = block })
    c.args.text.now c.said_over.result (same_scope (project_of tables) (project_tree c.args.project.now) block block made refl)
    (c.said_over.ensures block (ap (λ l. slice_get l c.args.entry) blocks ∙ there))
