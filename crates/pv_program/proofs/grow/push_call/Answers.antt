use Rattle.std.proofs.Common.{◌≡◌, [], ◌∷◌, ◌++◌, arith}
use Rattle.pv_program.proofs.Growing.{keeps-more, last-stands, with-calls}
use Rattle.pv_program.proofs.grow.push_call.Goals as goal

pub returns : goal.returns
returns c =
    let grown : c.push.new.self.items ≡ c.args.program.now.calls.items ++ c.args.call ∷ [] = c.in_ok-push.ensures.items in
    record {
      grows = with-calls c.args.program.now c.push.new.self
          (keeps-more c.args.program.now.calls.items c.push.new.self.items (c.args.call ∷ []) grown);
      at = last-stands c.args.program.now.calls.items c.push.new.self.items c.args.call c.len-n.result (omega arith) grown;
      pushed = grown;
      memory = tt;
    }
