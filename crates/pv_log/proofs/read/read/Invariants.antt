use Rattle.std.proofs.Common.{◌≡◌, take, Some}
use Rattle.pv_log.specs.Reading.{StageFits, after_bytes, at_start}
use Rattle.pv_log.proofs.read.read.Given as goal

abbrev pub invariant-loop-at : goal.invariant-loop-at
invariant-loop-at l = record {
  fits : StageFits l.stage;
  read : after_bytes at_start (take l.at l.text) ≡ Some (l.line, l.stage);
}
