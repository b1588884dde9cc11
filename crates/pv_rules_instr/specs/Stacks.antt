-- What lies on the stacks with which the ranges around each instruction are found: numbers of instructions, the nearest on top.
use Rattle.std.specs.Prelude.{ℕ, List, [], ◌∷◌, Bool as Truth, false, not, if◌then◌else◌, Option, Some, None}
use Rattle.pv_rules_instr.specs.AtRanges.{Numbers, number_at, is_under, reaches}

-- the first that is the last of a range which begins before this instruction
abbrev pub end_on : Numbers → ℕ → List ℕ → Option ℕ
end_on firsts n [] = None
end_on firsts n (m ∷ met) = if is_under n (number_at firsts m) then Some m else end_on firsts n met

-- the first that is the first of a range which doesn't end before it
abbrev pub start_on : Numbers → ℕ → List ℕ → Option ℕ
start_on lasts n [] = None
start_on lasts n (m ∷ met) = if reaches n (number_at lasts m) then Some m else start_on lasts n met

abbrev pub top_of : List ℕ → Option ℕ
top_of [] = None
top_of (m ∷ met) = Some m

-- without those on top that can't be asked for from this instruction backwards, or onwards
abbrev pub is_late : Numbers → ℕ → List ℕ → Truth
is_late firsts n [] = false
is_late firsts n (m ∷ met) = not (is_under n (number_at firsts m))

abbrev pub without_late : Numbers → ℕ → List ℕ → List ℕ
without_late firsts n [] = []
without_late firsts n (m ∷ met) = if is_under n (number_at firsts m) then m ∷ met else without_late firsts n met

abbrev pub is_early : Numbers → ℕ → List ℕ → Truth
is_early lasts n [] = false
is_early lasts n (m ∷ met) = not (reaches n (number_at lasts m))

abbrev pub without_early : Numbers → ℕ → List ℕ → List ℕ
without_early lasts n [] = []
without_early lasts n (m ∷ met) = if reaches n (number_at lasts m) then m ∷ met else without_early lasts n met
