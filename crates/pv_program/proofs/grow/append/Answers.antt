use Rattle.std.proofs.Common.{◌≡◌, ◌++◌, arith}
use Rattle.pv_program.proofs.Growing.{stands-behind}
use Rattle.pv_program.proofs.grow.append.Goals as goal

pub returns : goal.returns
returns g c =
    let grown : c.extend_from_slice.new.self.items ≡ c.args.all.now.items ++ c.args.more.now = c.in_ok-extend_from_slice.ensures.items in
    record {
      items = grown;
      stands = stands-behind c.args.all.now.items c.args.more.now c.extend_from_slice.new.self.items c.len-first.result c.len.result
          (omega arith) (omega arith) grown;
      first = omega arith;
      end = omega arith;
    }
