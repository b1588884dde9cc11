use Rattle.std.proofs.Common.{refl}
use Rattle.pv_layer.proofs.Layers.{one_kept, term_is, term_layer}
use Rattle.pv_layer.proofs.layer.Layer.term.Goals as goal

pub returns-clause-term : goal.returns-clause-term
returns-clause-term c = term_is c.args.self.now.parts.nodes.items c.add_node.new.nodes.items c.args.node c.in_ok-number.ensures.list

pub returns-clause-terms : goal.returns-clause-terms
returns-clause-terms c = one_kept c.args.self.now
    (record { parts = record c.args.self.now.parts { nodes = c.add_node.new.nodes }; here = c.args.self.now.here; yes = c.args.self.now.yes })
    c.args.node c.in_ok-number.ensures.list

pub returns-clause-stands : goal.returns-clause-stands
returns-clause-stands c = term_layer c.args.self.now
    (record { parts = record c.args.self.now.parts { nodes = c.add_node.new.nodes }; here = c.args.self.now.here; yes = c.args.self.now.yes })
    c.args.node
    (record {
      nodes = c.in_ok-number.ensures.list;
      lists = record { deeds = refl; edges = refl; calls = refl; traps = refl; locations = refl };
      loops = refl;
      rest = record { vars = refl; bound = refl; shared = refl; done = refl; overs = refl; calls = refl; here = refl; yes = refl };
    }) c.requires.operands
