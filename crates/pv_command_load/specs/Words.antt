-- Kinds of faults by the words with which they are printed.
use Rattle.std.specs.Prelude.{ℕ, List, codes}
use Rattle.pv_case.specs.declared.fault.Kind.{Kind}
use Rattle.pv_case.specs.declared.fault.Kind.TheVariants.{MissingField, WrongKind, UnknownField, OutOfLimit, NoSuchPattern, CountOfExpressions, BadSymbol}
use Rattle.pv_lex.specs.declared.fault.FaultKind.{FaultKind}
use Rattle.pv_lex.specs.declared.fault.FaultKind.TheVariants.{BadByte, OpenComment, OpenQuote, NumberTooWide}

-- the rules on cases
abbrev pub kind_word : Kind → List ℕ
kind_word MissingField = codes "MissingField"
kind_word WrongKind = codes "WrongKind"
kind_word UnknownField = codes "UnknownField"
kind_word OutOfLimit = codes "OutOfLimit"
kind_word NoSuchPattern = codes "NoSuchPattern"
kind_word CountOfExpressions = codes "CountOfExpressions"
kind_word BadSymbol = codes "BadSymbol"

-- what stands where no token begins
abbrev pub lex_word : FaultKind → List ℕ
lex_word BadByte = codes "BadByte"
lex_word OpenComment = codes "OpenComment"
lex_word OpenQuote = codes "OpenQuote"
lex_word NumberTooWide = codes "NumberTooWide"
