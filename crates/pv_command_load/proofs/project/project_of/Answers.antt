use Rattle.std.proofs.Common.{map, subst, Err}
use Rattle.pv_tree.specs.View.{block_trees}
use Rattle.pv_tree.specs.Projects.{symbol_tree, project_tree}
use Rattle.pv_rules_decl.specs.Names.{rule_of}
use Rattle.pv_rules_decl.specs.Answers.{AnswersProject}
use Rattle.pv_command_load.specs.Stops.{text_tree}
use Rattle.pv_command_load.proofs.Located.{breach_lies}
use Rattle.pv_command_load.proofs.ProjectLaws.{is_project, is_kept, is_broken}
use Rattle.pv_command_load.proofs.project.project_of.Goals as goal

pub returns-in-Ok-clause-found : goal.returns-in-Ok-clause-found
returns-in-Ok-clause-found c = λ given are.
    let symbols = c.in_ok-symbols.symbols.items in
    is_kept given (project_tree c.args.blocks.list.items symbols) c.in-Ok.project
    (is_project c.args.sources.now c.args.blocks.list.items c.args.symbols.items symbols given are c.in_ok-symbols.ensures) c.in-Ok.ensures

pub broken-requires : goal.broken-requires
broken-requires c =
    let symbols = c.in_ok-symbols.symbols.items in
    let tree = project_tree c.args.blocks.list.items symbols in
    let breach = c.in-Err-Broken.breach in
    let least = subst (λ f. AnswersProject tree (Err f)) c.in-Err-Broken.field-0-is c.in-Err-Broken.ensures in
    breach_lies (map text_tree c.args.sources.now) (block_trees c.args.blocks.list.items) (map symbol_tree symbols) (rule_of breach.rule)
    breach.place c.requires least.broken

pub returns-in_ok-broken-in-Err-Broken-clause-stopped : goal.returns-in_ok-broken-in-Err-Broken-clause-stopped
returns-in_ok-broken-in-Err-Broken-clause-stopped c = λ given are.
    let symbols = c.in_ok-symbols.symbols.items in
    let tree = project_tree c.args.blocks.list.items symbols in
    let breach = c.in-Err-Broken.breach in
    let least = subst (λ f. AnswersProject tree (Err f)) c.in-Err-Broken.field-0-is c.in-Err-Broken.ensures in
    is_broken given tree (map text_tree c.args.sources.now) (rule_of breach.rule) breach.place c.in_ok-broken-in-Err-Broken.field-0
    (is_project c.args.sources.now c.args.blocks.list.items c.args.symbols.items symbols given are c.in_ok-symbols.ensures) are.of_texts least
    (breach_lies (map text_tree c.args.sources.now) (block_trees c.args.blocks.list.items) (map symbol_tree symbols) (rule_of breach.rule)
    breach.place c.requires least.broken) c.in_ok-broken-in-Err-Broken.ensures
