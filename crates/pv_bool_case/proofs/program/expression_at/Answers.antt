use Rattle.std.proofs.Common.{map, arith}
use Rattle.std.proofs.lemmas.List.{length-map}
use Rattle.std.proofs.lemmas.Option.{slice_get_within}
use Rattle.pv_tree.specs.Scopes.{Scope}
use Rattle.pv_tree.specs.View.{block_tree}
use Rattle.pv_mean.specs.ProjectSizes.{project_tree}
use Rattle.pv_bool_case.proofs.Readings.{no_fault}
use Rattle.pv_bool_case.proofs.program.expression_at.Goals as goal

pub said_at-said-requires-clause-there : goal.said_at-said-requires-clause-there
said_at-said-requires-clause-there c =
    let blocks = c.args.project.now.blocks.list.items in
    let within = slice_get_within (map block_tree blocks) c.args.entry c.requires.said.entered c.requires.said.there in
    omega (arith, within, length-map blocks block_tree)

pub kept-requires : goal.kept-requires
kept-requires c =
    let is = c.requires.said in
    let scope : Scope = record { project = project_tree c.args.project.now; block = is.entered } in
    no_fault c.first_fault_is_one.ensures.apart scope c.args.text.now is.e is.says c.said_at-said.result (c.said_at-said.ensures is.entered is.there)

pub returns : goal.returns
returns c = λ block there.
    let scope : Scope = record { project = project_tree c.args.project.now; block = block } in
    c.kept.ensures scope c.args.text.now (c.said_at-said.ensures block there)
