-- Names as they are written.
use Rattle.std.specs.Prelude.{ℕ, ◌-◌, Bool, List, length, take, drop}

-- a name: its text with ASCII letters in lower case, its text as it was written, and whether that
-- was in two words
pub record NameText : Type 0 where
  pub key : List ℕ
  pub spelled : List ℕ
  pub paired : Bool

-- a text without its first and its last byte
abbrev pub between_quotes : List ℕ → List ℕ
between_quotes text = take (length text - 2) (drop 1 text)
