use Rattle.std.proofs.Common.{rules, refl}
use Rattle.pv_layer.proofs.Layers.{enter_layer}
use Rattle.pv_layer.proofs.layer.Layer.enter.Goals as goal

pub returns-clause-stands : goal.returns-clause-stands
returns-clause-stands c = enter_layer c.args.self.now
    (record { parts = record c.args.self.now.parts { calls = c.push.new.self }; here = c.args.self.now.here; yes = c.args.self.now.yes })
    c.args.block c.args.instance c.args.place c.args.to
    (record {
      head = record { vars = refl; bound = refl; shared = refl; done = refl; overs = refl };
      nodes = refl;
      deeds = refl;
      edges = refl;
      calls = search rules;
      traps = refl;
      loops = refl;
      locations = refl;
    }) refl refl
