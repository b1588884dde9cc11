use Rattle.std.proofs.Common.{length, ◌-◌, ◌≤◌}
use Rattle.pv_lex.specs.Tokens.{CutTo}
use Rattle.pv_lex.proofs.lex.tokens.Given as goal

abbrev pub invariant-loop-at : goal.invariant-loop-at
invariant-loop-at l = record {
  within : l.at ≤ length l.text;
  small : length l.text ≤ 4194304;
  cut : CutTo l.language l.file l.text l.at l.context l.tokens.items;
}

abbrev pub decreases-loop-at : goal.decreases-loop-at
decreases-loop-at l = length l.text - l.at
