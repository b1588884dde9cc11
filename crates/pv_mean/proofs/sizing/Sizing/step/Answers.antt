use Rattle.pv_mean.proofs.Searches.{nest_kept, popped_open, stepped, stopped}
use Rattle.pv_mean.proofs.sizing.Sizing.step.Goals as goal

pub take-requires : goal.take-requires
take-requires c = record {
  nest = nest_kept c.args.self.now.types c.pop.new.self.types c.pop.ensures.types c.requires.nest;
  «open» = popped_open c.args.self.now c.pop.new.self c.in-Some.task c.in-Some.ensures.some c.pop.ensures.types c.pop.ensures.known
      c.requires.open;
}

pub returns : goal.returns
returns c =
    stepped c.args.self.now c.pop.new.self c.take.new.self c.in-Some.task c.in-Some.ensures.some c.pop.ensures.types c.in_ok-take.ensures

pub returns-in_default : goal.returns-in_default
returns-in_default c =
    stopped c.args.self.now c.pop.new.self c.in_default.ensures.none c.in_default.ensures.nothing c.pop.ensures.types c.pop.ensures.known
    c.requires.open
