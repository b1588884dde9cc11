use Rattle.std.proofs.Common.{sym, ap, subst, ◌∙◌, arith, Option}
use Rattle.std.specs.Prelude.{IfSome}
use Rattle.std.specs.Option.{option_map}
use Rattle.pv_log.specs.declared.stage.Stage.{Stage}
use Rattle.pv_log.specs.Reading.{StageFits, at_start}
use Rattle.pv_log.proofs.ReadingLaws.{after_bytes-more}
use Rattle.pv_log.proofs.read.read.Goals as goal

pub returns-in-None : goal.returns-in-None
returns-in-None c = record {
  within = omega arith;
  line = c.loop-at.line;
  stage = c.loop-at.stage;
  read = c.loop-at.invariant.read;
  refused = λ lt. after_bytes-more at_start (c.loop-at.line, c.loop-at.stage) c.args.text.now c.loop-at.at lt c.loop-at.invariant.read ∙ sym c.in_ok-next.ensures.read ∙ ap (option_map (λ (s : Stage). (c.read_byte.new.line, s))) c.in-None.is;
  unfinished = λ e. absurd (omega arith);
}

pub loop-at-preserved : goal.loop-at-preserved
loop-at-preserved c = record {
  fits = subst (λ (o : Option Stage). IfSome o StageFits) c.in-Some.is c.in_ok-next.ensures.fits;
  read = after_bytes-more at_start (c.loop-at.line, c.loop-at.stage) c.args.text.now c.loop-at.at c.loop-at-test.true c.loop-at.invariant.read ∙ sym c.in_ok-next.ensures.read ∙ ap (option_map (λ (s : Stage). (c.read_byte.new.line, s))) c.in-Some.is;
}
