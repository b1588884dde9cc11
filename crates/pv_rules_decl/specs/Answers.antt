-- What is answered of blocks and symbols.
use Rattle.std.specs.Prelude.{◌≡◌, Result, Ok, Err, ⊤}
use Rattle.pv_tree.specs.declared.kept.Project.{Project}
use Rattle.pv_tree.specs.Projects.{project_tree}
use Rattle.pv_tree.specs.Scopes.{ProjectTree}
use Rattle.pv_tree.specs.Rules.{KeepsRules}
use Rattle.pv_tree.specs.Least.{IsLeastFault}
use Rattle.pv_rules_decl.specs.Names.{rule_of}
use Rattle.pv_rules_decl.specs.declared.fault.RuleFault.{RuleFault}
use Rattle.pv_rules_decl.specs.declared.fault.RuleFault.TheVariants.{Broken, NoMemory}

-- they are a project, which breaks no rule
pub record IsKept (tree : ProjectTree) (project : Project) : Type 0 where
  pub keeps : KeepsRules tree
  pub same : project_tree project.blocks.list.items project.symbols.items ≡ tree

-- or this is the first breach; want of memory may come at any time
abbrev pub AnswersProject : ProjectTree → Result Project RuleFault → Type 0
AnswersProject tree (Ok project) = IsKept tree project
AnswersProject tree (Err (Broken breach)) = IsLeastFault tree (rule_of breach.rule) breach.place
AnswersProject tree (Err NoMemory) = ⊤
