use Rattle.std.proofs.Common.{◌≡◌, drop, map}
use Rattle.pv_parse.specs.TokenTexts.{function_among, entry_of}
use Rattle.pv_parse.proofs.texts.function_among.Given as goal

abbrev pub invariant-loop-entry : goal.invariant-loop-entry
invariant-loop-entry l = function_among (drop l.entry-index (map entry_of l.entries)) l.bytes ≡ function_among (map entry_of l.entries) l.bytes
