use Rattle.std.proofs.Common.{◌+◌, refl, ap, arith}
use Rattle.pv_layer.proofs.Layers.{gone_by, branch_layer, fork_room, branch_kept}
use Rattle.pv_layer.proofs.layer.Layer.branch.Goals as goal

pub add_fork-requires : goal.add_fork-requires
add_fork-requires c = fork_room c.args.self.now c.check.new.self c.args.checks.now c.requires.room c.in_ok-none.ensures.nodes

pub overflow_add-guard : goal.overflow_add-guard
overflow_add-guard c =
    let room = fork_room c.args.self.now c.check.new.self c.args.checks.now c.requires.room c.in_ok-none.ensures.nodes in
    let is = c.in_ok-guard.ensures.number in
    omega (arith, room, is)

pub returns-clause-terms : goal.returns-clause-terms
returns-clause-terms c = branch_kept c.args.self.now c.check.new.self
    (record { parts = record c.check.new.self.parts { nodes = c.add_fork.new.nodes }; here = c.check.new.self.here; yes = c.check.new.self.yes })
    c.go.new.self c.go-2.new.self c.args.checks.now c.args.condition c.in_ok-none.none _ _ c.args.one c.args.other
    (record {
      nodes = c.in_ok-none.ensures.nodes;
      deeds = c.in_ok-none.ensures.deeds;
      count = c.in_ok-none.ensures.count;
      edges = c.in_ok-none.ensures.edges;
      ends = c.in_ok-none.ensures.ends;
      locations = c.in_ok-none.ensures.locations;
      loops = c.in_ok-none.ensures.loops;
      rest = c.in_ok-none.ensures.rest;
    })
    (record {
      nodes = c.in_ok-guard.ensures.list;
      lists = record { deeds = refl; edges = refl; calls = refl; traps = refl; locations = refl };
      loops = refl;
      rest = record { vars = refl; bound = refl; shared = refl; done = refl; overs = refl; calls = refl; here = refl; yes = refl };
    })
    (record {
      deeds = c.in_ok-go.ensures.deeds;
      count = c.in_ok-go.ensures.count;
      edges = c.in_ok-go.ensures.edges;
      loops = c.in_ok-go.ensures.loops;
      tables = c.in_ok-go.ensures.tables;
      rest = c.in_ok-go.ensures.rest;
    }) (record {
      deeds = c.in_ok-go-2.ensures.deeds;
      count = c.in_ok-go-2.ensures.count;
      edges = c.in_ok-go-2.ensures.edges;
      loops = c.in_ok-go-2.ensures.loops;
      tables = c.in_ok-go-2.ensures.tables;
      rest = c.in_ok-go-2.ensures.rest;
    })

pub returns-clause-stands : goal.returns-clause-stands
returns-clause-stands c = branch_layer c.args.self.now c.check.new.self
    (record { parts = record c.check.new.self.parts { nodes = c.add_fork.new.nodes }; here = c.check.new.self.here; yes = c.check.new.self.yes })
    c.go.new.self c.go-2.new.self c.args.checks.now c.args.condition c.in_ok-none.none c.args.one c.args.other c.in_ok-none.ensures.none
    (record {
      nodes = c.in_ok-none.ensures.nodes;
      deeds = c.in_ok-none.ensures.deeds;
      count = c.in_ok-none.ensures.count;
      edges = c.in_ok-none.ensures.edges;
      ends = c.in_ok-none.ensures.ends;
      locations = c.in_ok-none.ensures.locations;
      loops = c.in_ok-none.ensures.loops;
      rest = c.in_ok-none.ensures.rest;
    })
    (record {
      nodes = c.in_ok-guard.ensures.list;
      lists = record { deeds = refl; edges = refl; calls = refl; traps = refl; locations = refl };
      loops = refl;
      rest = record { vars = refl; bound = refl; shared = refl; done = refl; overs = refl; calls = refl; here = refl; yes = refl };
    })
    (gone_by _ _ _ _ _ c.in_ok-guard.ensures.number (record {
      deeds = c.in_ok-go.ensures.deeds;
      count = c.in_ok-go.ensures.count;
      edges = c.in_ok-go.ensures.edges;
      loops = c.in_ok-go.ensures.loops;
      tables = c.in_ok-go.ensures.tables;
      rest = c.in_ok-go.ensures.rest;
    })) (gone_by _ _ _ _ _ (ap (λ n. n + 2) c.in_ok-guard.ensures.number) (record {
      deeds = c.in_ok-go-2.ensures.deeds;
      count = c.in_ok-go-2.ensures.count;
      edges = c.in_ok-go-2.ensures.edges;
      loops = c.in_ok-go-2.ensures.loops;
      tables = c.in_ok-go-2.ensures.tables;
      rest = c.in_ok-go-2.ensures.rest;
    }))
    c.requires.checks c.requires.condition c.requires.one c.requires.other
