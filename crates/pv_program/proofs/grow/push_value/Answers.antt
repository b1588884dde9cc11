use Rattle.std.proofs.Common.{◌≡◌, [], ◌∷◌, ◌++◌, arith}
use Rattle.pv_program.proofs.Growing.{extends-then, keeps-more, last-stands, with-values}
use Rattle.pv_program.proofs.grow.push_value.Goals as goal

pub returns : goal.returns
returns c =
    let wide = c.make_room.new.program in
    let grown : c.push.new.self.items ≡ wide.values.items ++ c.args.value ∷ [] = c.in_ok-push.ensures.items in
    record {
      grows = extends-then c.args.program.now wide _ c.make_room.ensures.grows
          (with-values wide c.push.new.self (keeps-more wide.values.items c.push.new.self.items (c.args.value ∷ []) grown));
      at = last-stands wide.values.items c.push.new.self.items c.args.value c.len-n.result (omega arith) grown;
      fits = omega arith;
      memory = tt;
      calls = c.make_room.ensures.calls;
    }
