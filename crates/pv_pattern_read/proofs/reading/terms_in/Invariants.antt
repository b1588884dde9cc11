use Rattle.std.specs.Prelude.{string_bytes}
use Rattle.pv_pattern_read.proofs.PatternLaws.{HaveRead}
use Rattle.pv_pattern_read.proofs.reading.terms_in.Given as goal

abbrev pub invariant-loop-text : goal.invariant-loop-text
invariant-loop-text l = HaveRead l.context l.terms.items string_bytes l.texts l.n l.text-index
