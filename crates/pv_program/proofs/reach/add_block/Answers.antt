use Rattle.std.proofs.Common.{◌<◌, length, sym, subst}
use Rattle.pv_program.proofs.Failing.{passed}
use Rattle.pv_program.proofs.Reaching.{adds-put, codes-more}
use Rattle.pv_program.proofs.reach.add_block.Goals as goal

pub returns : goal.returns
returns c =
    let inside : c.args.block < length c.args.codes.now.items = subst (λ n. c.args.block < n) (sym c.requires) c.in_ok-code.ensures.inside in
    record {
      grows = c.in_ok-code.ensures.grows;
      adds = adds-put c.args.codes.now.items c.put_code.new.codes.items c.args.block c.in_ok-code.code c.put_code.ensures inside;
      are = λ source is.
          codes-more c.args.codes.now.items c.put_code.new.codes.items c.args.block c.in_ok-code.code c.put_code.ensures inside c.in_ok-code.ensures.grows
          (λ b. c.in_ok-code.ensures.is source b is);
      room = λ source is ready led. tt;
      led = c.in_ok-code.ensures.led;
    }

pub returns-in_err-code-clause-room : goal.returns-in_err-code-clause-room
returns-in_err-code-clause-room c = λ source is ready led.
    passed _ _ c.from_residual.ensures.1 (c.in_err-code.ensures.room source is ready led)
