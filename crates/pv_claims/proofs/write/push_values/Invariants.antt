use Rattle.std.proofs.Common.{◌≡◌, ◌++◌, take}
use Rattle.pv_claims.specs.TracePart.{AllFit, values_text}
use Rattle.pv_claims.proofs.write.push_values.Given as goal

-- the values so far are written, and have 128 bits
abbrev pub invariant-loop-value : goal.invariant-loop-value
invariant-loop-value l = record {
  text : l.text.items ≡ l.initial.text.items ++ values_text (take l.value-index l.values);
  fits : AllFit (take l.value-index l.values);
}
