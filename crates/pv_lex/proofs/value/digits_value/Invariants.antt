use Rattle.std.proofs.Common.{◌≡◌, drop}
use Rattle.pv_lex.specs.Values.{value_behind}
use Rattle.pv_lex.proofs.value.digits_value.Given as goal

abbrev pub invariant-loop-byte : goal.invariant-loop-byte
invariant-loop-byte l = value_behind l.base l.value (drop l.byte-index l.digits) ≡ value_behind l.base 0 l.digits
