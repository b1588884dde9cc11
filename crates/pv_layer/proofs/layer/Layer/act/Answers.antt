use Rattle.pv_layer.proofs.Layers.{gone_by, act_layer, act_kept}
use Rattle.pv_layer.proofs.layer.Layer.act.Goals as goal

pub returns-clause-terms : goal.returns-clause-terms
returns-clause-terms c = act_kept c.args.self.now c.check.new.self c.go.new.self c.args.checks.now c.in_ok-none.none c.args.way
    (record {
      nodes = c.in_ok-none.ensures.nodes;
      deeds = c.in_ok-none.ensures.deeds;
      count = c.in_ok-none.ensures.count;
      edges = c.in_ok-none.ensures.edges;
      ends = c.in_ok-none.ensures.ends;
      locations = c.in_ok-none.ensures.locations;
      loops = c.in_ok-none.ensures.loops;
      rest = c.in_ok-none.ensures.rest;
    }) (record {
      deeds = c.in_ok-go.ensures.deeds;
      count = c.in_ok-go.ensures.count;
      edges = c.in_ok-go.ensures.edges;
      loops = c.in_ok-go.ensures.loops;
      tables = c.in_ok-go.ensures.tables;
      rest = c.in_ok-go.ensures.rest;
    })

pub returns-clause-stands : goal.returns-clause-stands
returns-clause-stands c = act_layer c.args.self.now c.check.new.self c.go.new.self c.args.checks.now c.args.way
    (record {
      nodes = c.in_ok-none.ensures.nodes;
      deeds = c.in_ok-none.ensures.deeds;
      count = c.in_ok-none.ensures.count;
      edges = c.in_ok-none.ensures.edges;
      ends = c.in_ok-none.ensures.ends;
      locations = c.in_ok-none.ensures.locations;
      loops = c.in_ok-none.ensures.loops;
      rest = c.in_ok-none.ensures.rest;
    }) (gone_by _ _ _ _ _ c.in_ok-none.ensures.none (record {
      deeds = c.in_ok-go.ensures.deeds;
      count = c.in_ok-go.ensures.count;
      edges = c.in_ok-go.ensures.edges;
      loops = c.in_ok-go.ensures.loops;
      tables = c.in_ok-go.ensures.tables;
      rest = c.in_ok-go.ensures.rest;
    }))
    c.requires.checks c.requires.way
