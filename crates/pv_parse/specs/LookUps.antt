-- Tables of words and of signs: what a text is, whatever the case of its letters.
use Rattle.std.specs.Prelude.{ℕ, Bool, false, ◌==◌, if◌then◌else◌, List, [], ◌∷◌, map, filter}
use Rattle.std.specs.Str.{str_eq_ignore_ascii_case}
use Rattle.std.specs.Char.{to_ascii_lowercase}
use Rattle.pv_parse.specs.declared.look_up.Entry.{Entry as CodeEntry}

-- a word or a sign, and what it is
abbrev pub Entry : Type 0
Entry = List ℕ × ℕ

-- what the text is; `other` where it isn't in the table
abbrev pub look_up : List Entry → List ℕ → ℕ → ℕ
look_up [] text other = other
look_up (entry ∷ entries) text other =
    if str_eq_ignore_ascii_case text entry.0 then entry.1 else look_up entries text other

-- these words are all the same
abbrev pub all_are : ℕ → List (List ℕ) → List Entry
all_are meaning words = map (λ word. (word, meaning)) words

-- the text begins with this byte, a letter in any case
abbrev pub begins_with : ℕ → List ℕ → Bool
begins_with byte [] = false
begins_with byte (b ∷ others) = to_ascii_lowercase b == byte

-- the part of a table that begins with this byte
abbrev pub entries_with : ℕ → List Entry → List Entry
entries_with byte entries = filter (λ entry. begins_with byte entry.0) entries

-- an entry of the code's tables
abbrev pub entry_of : CodeEntry → Entry
entry_of entry = (entry.spelling.now, entry.meaning)
