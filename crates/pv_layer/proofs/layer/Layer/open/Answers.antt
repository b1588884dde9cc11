use Rattle.std.proofs.Common.{rules, refl}
use Rattle.pv_layer.proofs.Layers.{open_layer}
use Rattle.pv_layer.proofs.layer.Layer.open.Goals as goal

pub returns-clause-stands : goal.returns-clause-stands
returns-clause-stands c = open_layer c.args.self.now
    (record { parts = record c.args.self.now.parts { loops = c.push.new.self }; here = c.args.self.now.here; yes = c.args.self.now.yes })
    (record { first = c.args.first; last = c.args.last; entry_turn = c.args.entry_turn; turns = c.new.result; place = c.args.place })
    (search rules) c.new.ensures.items refl
    (record { deeds = refl; edges = refl; calls = refl; traps = refl; locations = refl })
    (record { vars = refl; bound = refl; shared = refl; done = refl; overs = refl; calls = refl; here = refl; yes = refl })
