-- The nearest places at which the code of a project breaks each rule.
use Rattle.std.specs.Prelude.{Any}
use Rattle.pv_tree.specs.Scopes.{ProjectTree}
use Rattle.pv_tree.specs.Rules.Conditions.{IsWrongCondition}
use Rattle.pv_tree.specs.Rules.Cases.{IsWrongCase}
use Rattle.pv_tree.specs.Rules.Loops.{IsOutsideLoop, IsWrongCounter, IsWrongStep}
use Rattle.pv_tree.specs.Rules.Arguments.{IsWrongArgument}
use Rattle.pv_tree.specs.Rules.Targets.{IsFixedTarget, IsFixedOutput}
use Rattle.pv_rules_expr.specs.Nearest.{IsNearest}
use Rattle.pv_rules_code.specs.InCode.{AddressesIn, MissesIn, MisfitsIn, MisusesIn, OutsideIn, BeyondIn, VoidsIn}
use Rattle.pv_rules_code.specs.declared.near.CodeNear.{CodeNear}

pub record AreInCode (project : ProjectTree) (n : CodeNear) : Type 0 where
  pub condition : IsNearest (IsWrongCondition project) n.condition
  pub leave : IsNearest (IsOutsideLoop project) n.leave
  pub target : IsNearest (IsFixedTarget project) n.target
  pub output : IsNearest (IsFixedOutput project) n.output
  pub counter : IsNearest (IsWrongCounter project) n.counter
  pub step : IsNearest (IsWrongStep project) n.step
  pub choice : IsNearest (IsWrongCase project) n.choice
  pub argument : IsNearest (IsWrongArgument project) n.argument
  pub address : IsNearest (λ at. Any (AddressesIn project at) project.blocks) n.address
  pub missing : IsNearest (λ at. Any (MissesIn project at) project.blocks) n.missing
  pub misfit : IsNearest (λ at. Any (MisfitsIn project at) project.blocks) n.misfit
  pub outside : IsNearest (λ at. Any (OutsideIn project at) project.blocks) n.outside
  pub misused : IsNearest (λ at. Any (MisusesIn project at) project.blocks) n.misused
  pub beyond : IsNearest (λ at. Any (BeyondIn project at) project.blocks) n.beyond
  pub void : IsNearest (λ at. Any (VoidsIn project at) project.blocks) n.void
