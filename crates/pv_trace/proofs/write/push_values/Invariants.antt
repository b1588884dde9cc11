use Rattle.std.proofs.Common.{◌≡◌, ◌++◌, take}
use Rattle.pv_trace.specs.TraceText.{values_text}
use Rattle.pv_trace.proofs.write.push_values.Given as goal

-- the values so far stand behind the text
abbrev pub invariant-loop-value : goal.invariant-loop-value
invariant-loop-value l = l.text.items ≡ l.initial.text.items ++ values_text (take l.value-index l.values)
