-- Reading the text of a line from left to right, byte by byte.
use Rattle.std.specs.Prelude.{◌≡◌, ℕ, ◌+◌, ◌-◌, ◌*◌, ◌<◌, ◌≤◌, ◌==◌, ◌&&◌, nat_le, length, take, Bool, true, false, List, [], ◌∷◌, ◌++◌, Option, Some, None, Result, Ok, Err, if◌then◌else◌}
use Rattle.std.specs.Option.{option_map}
use Rattle.pv_log.specs.declared.line.Line.{Line}
use Rattle.pv_log.specs.declared.fault.LratFault.{LratFault}
use Rattle.pv_log.specs.declared.fault.LratFault.TheVariants.{NotLrat, NoMemory}
use Rattle.pv_log.specs.declared.stage.Stage.{Stage}
use Rattle.pv_log.specs.declared.stage.Stage.TheVariants.{Start, Id, Literals, Minus, Literal, Break, Hints, Hint, End}

-- whether a byte is a digit that isn't below this one
abbrev pub is_digit_from : ℕ → ℕ → Bool
is_digit_from least byte = nat_le least byte && nat_le byte 57

-- a number and a digit behind it: none behind a 0, and none past the greatest number
abbrev pub with_digit : ℕ → ℕ → ℕ → Option ℕ
with_digit greatest n byte =
    if nat_le 1 n && (is_digit_from 48 byte && nat_le (10 * n + (byte - 48)) greatest)
    then Some (10 * n + (byte - 48)) else None

-- a number's first digit, not below this one
abbrev pub first_digit : ℕ → ℕ → Option ℕ
first_digit least byte = if is_digit_from least byte then Some (byte - 48) else None

-- what is read after a byte, if some line goes on so
abbrev pub stage_after : Stage → ℕ → Option Stage
stage_after Start byte = option_map Id (first_digit 48 byte)
stage_after (Id n) byte =
    if byte == 32 then Some Literals else option_map Id (with_digit 4294967295 n byte)
stage_after Literals byte =
    if byte == 48 then Some Break else (if byte == 45 then Some Minus else option_map (Literal false) (first_digit 49 byte))
stage_after Minus byte = option_map (Literal true) (first_digit 49 byte)
stage_after (Literal negated n) byte =
    if byte == 32 then Some Literals else option_map (Literal negated) (with_digit 2147483647 n byte)
stage_after Break byte = if byte == 32 then Some Hints else None
stage_after Hints byte = if byte == 48 then Some End else option_map Hint (first_digit 49 byte)
stage_after (Hint n) byte =
    if byte == 32 then Some Hints else option_map Hint (with_digit 4294967295 n byte)
stage_after End byte = None

-- the code of a literal
abbrev pub code_of : Bool → ℕ → ℕ
code_of negated n = 2 * n + (if negated then 1 else 0)

-- the line so far, with the number that a blank ends
abbrev pub with_number : Line → Stage → Line
with_number line (Id n) = record line { id = n }
with_number line (Literal negated n) = record line { lits = line.lits ++ code_of negated n ∷ [] }
with_number line (Hint n) = record line { hints = line.hints ++ n ∷ [] }
with_number line _ = line

-- the line and the stage after a byte
abbrev pub after_byte : Line × Stage → ℕ → Option (Line × Stage)
after_byte p byte =
    option_map (λ stage. (if byte == 32 then with_number p.0 p.1 else p.0, stage)) (stage_after p.1 byte)

-- the line and the stage after these bytes
abbrev pub after_bytes : Line × Stage → List ℕ → Option (Line × Stage)
after_bytes p [] = Some p
after_bytes p (byte ∷ bytes) = elim (after_byte p byte) [ None ↦ None | Some next ↦ after_bytes next bytes ]

-- whether the line is whole
abbrev pub is_end : Stage → Bool
is_end End = true
is_end _ = false

-- before the first byte
abbrev pub at_start : Line × Stage
at_start = (record { id = 0; lits = []; hints = [] }, Start)

-- the variable of a literal that is being read has a code in 32 bits
abbrev pub StageFits : Stage → Type 0
StageFits (Literal negated n) = n < 2147483648
StageFits _ = Unit {0}

-- where reading stops short of a line
pub record StopsAt (bytes : List ℕ) (at : ℕ) : Type 0 where
  pub within : at ≤ length bytes
  pub line : Line
  pub stage : Stage
  pub read : after_bytes at_start (take at bytes) ≡ Some (line, stage)
  pub refused : at < length bytes → after_bytes at_start (take (at + 1) bytes) ≡ None
  pub unfinished : at ≡ length bytes → is_end stage ≡ false

-- what reading all the bytes gives, unless memory runs out
abbrev pub Reads : List ℕ → Result Line LratFault → Type 0
Reads bytes (Ok line) = after_bytes at_start bytes ≡ Some (line, End)
Reads bytes (Err (NotLrat at)) = StopsAt bytes at
Reads bytes (Err NoMemory) = Unit {0}
