use Rattle.std.proofs.Common.{◌≡◌, [], ◌∷◌, ◌++◌, arith}
use Rattle.pv_program.proofs.Growing.{extends-then, keeps-more, last-stands, with-targets}
use Rattle.pv_program.proofs.grow.push_target.Goals as goal

pub returns : goal.returns
returns c =
    let wide = c.make_room.new.program in
    let grown : c.push.new.self.items ≡ wide.targets.items ++ c.args.target ∷ [] = c.in_ok-push.ensures.items in
    record {
      grows = extends-then c.args.program.now wide _ c.make_room.ensures.grows
          (with-targets wide c.push.new.self (keeps-more wide.targets.items c.push.new.self.items (c.args.target ∷ []) grown));
      at = last-stands wide.targets.items c.push.new.self.items c.args.target c.len-n.result (omega arith) grown;
      fits = omega arith;
      memory = tt;
      calls = c.make_room.ensures.calls;
    }
