use Rattle.pv_tree.specs.Projects.{project_tree}
use Rattle.pv_rules_decl.proofs.ProjectFirst.{is_kept, is_broken}
use Rattle.pv_rules_decl.proofs.joining.answered.Goals as goal

pub project-requires : goal.project-requires
project-requires c =
    is_kept (project_tree c.args.blocks.list.items c.args.symbols.items) c.args.all.now c.requires.near c.requires.each c.least_of.result
    c.least_of.ensures c.in-None.is

pub returns-in-Some : goal.returns-in-Some
returns-in-Some c =
    is_broken (project_tree c.args.blocks.list.items c.args.symbols.items) c.args.all.now c.requires.near c.requires.each c.least_of.result
    c.in-Some.breach c.least_of.ensures c.in-Some.is
