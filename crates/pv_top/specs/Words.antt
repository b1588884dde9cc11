-- The forms of words that the program has.
use Rattle.std.specs.Prelude.{◌≡◌, ◌⊎◌, ℕ, List, [], ◌∷◌, codes}
use Rattle.pv_top.specs.declared.words.Command.{Command}
use Rattle.pv_top.specs.declared.words.Command.TheVariants as command

-- the words of a check
abbrev pub IsCheck : List (List ℕ) → List ℕ → Type 0
IsCheck words case_file = words ≡ codes "check" ∷ case_file ∷ []

-- the words of a recheck
abbrev pub IsRecheck : List (List ℕ) → List ℕ → List ℕ → Type 0
IsRecheck words case_file certificate_file = words ≡ codes "recheck" ∷ case_file ∷ certificate_file ∷ []

-- the words of a replay
abbrev pub IsReplay : List (List ℕ) → List ℕ → List ℕ → Type 0
IsReplay words case_file trace_file = words ≡ codes "replay" ∷ case_file ∷ trace_file ∷ []

-- the words of a show
abbrev pub IsShow : List (List ℕ) → List ℕ → List ℕ → Type 0
IsShow words case_file trace_file = words ≡ codes "show" ∷ case_file ∷ trace_file ∷ []

-- the words are a check's
abbrev pub AreOfCheck : List (List ℕ) → Type 0
AreOfCheck words = (case_file : List ℕ) × IsCheck words case_file

-- the words are those of a command with two files
abbrev pub AreOfTwo : List (List ℕ) → Type 0
AreOfTwo words = (first : List ℕ) × (second : List ℕ)
    × (IsReplay words first second ⊎ (IsRecheck words first second ⊎ IsShow words first second))

-- the words are those of a command
abbrev pub IsCommand : List (List ℕ) → Type 0
IsCommand words = AreOfCheck words ⊎ AreOfTwo words

-- the words spell the command
abbrev pub Spells : List (List ℕ) → Command → Type 0
Spells words (command.Check case) = IsCheck words case.now
Spells words (command.Recheck case certificate) = IsRecheck words case.now certificate.now
Spells words (command.Replay case trace) = IsReplay words case.now trace.now
Spells words (command.Show case trace) = IsShow words case.now trace.now
