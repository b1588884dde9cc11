-- The text of a line of an LRAT proof (Cruz-Filipe, Heule, Hunt, Kaufmann and Schneider-Kamp, 2017), without
-- the line feed: the id, the clause's literals as DIMACS writes them, 0, the hints, 0, with one blank between.
use Rattle.std.specs.Prelude.{◌≡◌, ℕ, ◌+◌, ◌^◌, ◌<◌, ◌≤◌, List, ◌++◌, length, take, codes, ◌⊎◌, Result, Err}
use Rattle.std.specs.List.{flat_map, AllByRecursion}
use Rattle.std.specs.Fmt.{decimal}
use Rattle.pv_cnf.specs.Dimacs.{literal_text}
use Rattle.pv_log.specs.declared.line.Line.{Line}
use Rattle.pv_log.specs.declared.fault.LratFault.{LratFault}
use Rattle.pv_log.specs.declared.fault.LratFault.TheVariants.{NoMemory}

-- literals, each with a blank after it
abbrev pub literals_text : List ℕ → List ℕ
literals_text lits = flat_map (λ lit. literal_text lit ++ codes " ") lits

-- hints, each with a blank after it
abbrev pub hints_text : List ℕ → List ℕ
hints_text hints = flat_map (λ h. decimal h ++ codes " ") hints

-- the one text of a line
abbrev pub line_text : Line → List ℕ
line_text line = decimal line.id ++ codes " " ++ literals_text line.lits ++ codes "0 " ++ hints_text line.hints ++ codes "0"

-- a code of a literal in 32 bits: the variables are 1 to 2,147,483,647
abbrev pub IsLiteral : ℕ → Type 0
IsLiteral lit = (2 ≤ lit) × (lit < 2 ^ 32)

-- a hint in 32 bits
abbrev pub IsHint : ℕ → Type 0
IsHint h = (1 ≤ h) × (h < 2 ^ 32)

-- what has a text
pub record HasText (line : Line) : Type 0 where
  pub id : line.id < 2 ^ 32
  pub lits : AllByRecursion IsLiteral line.lits
  pub hints : AllByRecursion IsHint line.hints

-- what can be written
pub record IsWritable (line : Line) : Type 0 where
  pub lits : AllByRecursion (λ lit. 2 ≤ lit) line.lits
  pub hints : AllByRecursion (λ hint. 1 ≤ hint) line.hints

-- the bytes are the text of this line
pub record Spells (bytes : List ℕ) (line : Line) : Type 0 where
  pub valid : HasText line
  pub text : bytes ≡ line_text line

-- the text of some line begins so
pub record Begins (front : List ℕ) : Type 0 where
  pub line : Line
  pub rest : List ℕ
  pub spells : Spells (front ++ rest) line

-- The bytes are no line's text, and `at` is the first byte with which no line begins so: the length of the
-- longest front with which some line begins.
pub record IsStuckAt (bytes : List ℕ) (at : ℕ) : Type 0 where
  pub within : at ≤ length bytes
  pub begins : Begins (take at bytes)
  pub stuck : at < length bytes → Begins (take (at + 1) bytes) → ⊥
  pub no_line : (line : Line) → Spells bytes line → ⊥

-- the answer is this one, unless memory ran out
abbrev pub IsUnlessNoMemory : Result Line LratFault → Result Line LratFault → Type 0
IsUnlessNoMemory result answer = (result ≡ answer) ⊎ (result ≡ Err NoMemory)
