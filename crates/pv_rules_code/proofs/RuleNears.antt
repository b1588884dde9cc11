-- The nearest places of what is looked for are those of the rules.
use Rattle.std.proofs.Common.{◌≡◌, ◌∙◌}
use Rattle.pv_tree.specs.Scopes.{ProjectTree}
use Rattle.pv_tree.specs.Rules.Cases.{IsWrongCase}
use Rattle.pv_tree.specs.Rules.Loops.{IsWrongCounter}
use Rattle.pv_tree.specs.Rules.Arguments.{IsWrongArgument}
use Rattle.pv_rules_expr.specs.Nearest.{nearer_of}
use Rattle.pv_rules_expr.proofs.ForCallers.{nearest_is}
use Rattle.pv_rules_expr.specs.declared.search.Look.TheVariants as look
use Rattle.pv_rules_code.specs.AreInCode.{AreInCode}
use Rattle.pv_rules_code.specs.InCode.{AddressesIn, MissesIn, MisfitsIn, MisusesIn, OutsideIn, BeyondIn}
use Rattle.pv_rules_code.specs.Nears.{HasProject}
use Rattle.pv_rules_code.specs.declared.near.CodeNear.{CodeNear}
use Rattle.pv_rules_code.specs.declared.near.SiteNear.{SiteNear}
use Rattle.pv_rules_code.specs.Sought.Aim as aim
use Rattle.pv_rules_code.specs.Sought.Ask as ask
use Rattle.pv_rules_code.specs.Sought.Count as count
use Rattle.pv_rules_code.specs.Sought.Pass as pass
use Rattle.pv_rules_code.specs.Sought.Pick as pick
use Rattle.pv_rules_code.specs.Sought.Stride as stride
use Rattle.pv_rules_code.specs.Sought.Site as site
use Rattle.pv_rules_code.proofs.SiteLaws.{wrong_condition, outside_loop, fixed_target}
use Rattle.pv_rules_code.proofs.CallLaws.{fixed_output}
use Rattle.pv_rules_code.proofs.LoopLaws.{wrong_counter, wrong_step}
use Rattle.pv_rules_code.proofs.CaseLaws.{wrong_case}
use Rattle.pv_rules_code.proofs.GivenLaws.{wrong_argument}
use Rattle.pv_rules_code.proofs.PartLaws.{OnBlocks, wrong_address, misses_in_code, misfits_in_code, outside_in_code, misused_operand, beyond_operand, void_operand}

-- the places of each rule, of those of what is looked for
pub record IsByRules (n : SiteNear) (r : CodeNear) : Type 0 where
  pub condition : r.condition ≡ n.condition
  pub leave : r.leave ≡ n.leave
  pub target : r.target ≡ n.aims.fixed
  pub output : r.output ≡ n.asks.args.output
  pub counter : r.counter ≡ nearer_of n.counts.other (nearer_of n.counted (nearer_of n.asks.args.counter n.counts.inner))
  pub step : r.step ≡ n.strides.wrong
  pub choice : r.choice ≡ nearer_of n.selector n.picks.other
  pub argument : r.argument ≡ nearer_of n.asks.args.unknown (nearer_of n.asks.later n.asks.lacking)
  pub address : r.address ≡ nearer_of n.parts.address n.aims.address
  pub missing : r.missing ≡ nearer_of (nearer_of n.parts.missing n.aims.missing) (nearer_of n.asks.missing (nearer_of n.counts.missing n.picks.missing))
  pub misfit : r.misfit ≡ nearer_of n.parts.misapplied (nearer_of (nearer_of n.misfit (nearer_of n.counts.date n.picks.date)) (nearer_of n.asks.args.misfit n.asks.date))
  pub outside : r.outside ≡ nearer_of n.parts.outside (nearer_of n.strides.outside n.picks.outside)
  pub misused : r.misused ≡ nearer_of n.parts.misused n.aims.misused
  pub beyond : r.beyond ≡ nearer_of n.parts.beyond n.aims.beyond
  pub void : r.void ≡ n.parts.void

pub are_in_code : (project : ProjectTree) (n : SiteNear) (r : CodeNear) → IsByRules n r → HasProject project n → AreInCode project r
are_in_code project n r is h = record {
  condition = wrong_condition project r.condition (is.condition ∙ h site.Condition);
  leave = outside_loop project r.leave (is.leave ∙ h site.Leave);
  target = fixed_target project r.target (is.target ∙ h (site.Target aim.Fixed));
  output = fixed_output project r.output (is.output ∙ h (site.Call (ask.Args pass.Output)));
  counter = nearest_is (IsWrongCounter project) r.counter _ is.counter
      (wrong_counter project n.counts.other n.counted n.asks.args.counter n.counts.inner (h (site.Counter count.Other)) (h site.CountedTarget)
      (h (site.Call (ask.Args pass.Counter))) (h (site.Counter count.Inner)));
  step = wrong_step project r.step (is.step ∙ h (site.By stride.Wrong));
  choice = nearest_is (IsWrongCase project) r.choice _ is.choice
      (wrong_case project n.selector n.picks.other (h site.Selector) (h (site.Value pick.Other)));
  argument = nearest_is (IsWrongArgument project) r.argument _ is.argument
      (wrong_argument project n.asks.args.unknown n.asks.later n.asks.lacking (h (site.Call (ask.Args pass.Unknown))) (h (site.Call ask.Later))
      (h (site.Call ask.Lacking)));
  address = nearest_is (OnBlocks AddressesIn project) r.address _ is.address
      (wrong_address project n.parts.address n.aims.address (h (site.Parts look.Address)) (h (site.Target aim.Address)));
  missing = nearest_is (OnBlocks MissesIn project) r.missing _ is.missing
      (misses_in_code project n.parts.missing n.aims.missing n.asks.missing n.counts.missing n.picks.missing (h (site.Parts look.Missing))
      (h (site.Target aim.Missing)) (h (site.Call ask.Missing)) (h (site.Counter count.Missing)) (h (site.Value pick.Missing)));
  misfit = nearest_is (OnBlocks MisfitsIn project) r.misfit _ is.misfit
      (misfits_in_code project n.parts.misapplied n.misfit n.counts.date n.picks.date n.asks.args.misfit n.asks.date
      (h (site.Parts look.Misapplied)) (h site.Misfit) (h (site.Counter count.Date)) (h (site.Value pick.Date))
      (h (site.Call (ask.Args pass.Misfit))) (h (site.Call ask.Date)));
  outside = nearest_is (OnBlocks OutsideIn project) r.outside _ is.outside
      (outside_in_code project n.parts.outside n.strides.outside n.picks.outside (h (site.Parts look.Outside)) (h (site.By stride.Outside))
      (h (site.Value pick.Outside)));
  misused = nearest_is (OnBlocks MisusesIn project) r.misused _ is.misused
      (misused_operand project n.parts.misused n.aims.misused (h (site.Parts look.Misused)) (h (site.Target aim.Misused)));
  beyond = nearest_is (OnBlocks BeyondIn project) r.beyond _ is.beyond
      (beyond_operand project n.parts.beyond n.aims.beyond (h (site.Parts look.Beyond)) (h (site.Target aim.Beyond)));
  void = void_operand project r.void (is.void ∙ h (site.Parts look.Void));
}
