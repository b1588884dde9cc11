-- How a stage stops: a file can't be read, what is read is refused, or memory ends; with the status and the text that go with it.
use Rattle.std.specs.Prelude.{ℕ, List, Option, Some, None}
use Rattle.pv_command_load.specs.Refusals.{read_line}

pub data Stopped (R : Type 0) : Type 0 where
  unread : List ℕ → Stopped R
  refused : R → Stopped R
  no_memory : Stopped R

-- it stops at a file that is asked for, or at what is so refused; nothing is said of want of memory
abbrev pub StopsAt : {R : Type 0} → (List ℕ → Type 0) → (R → Type 0) → Stopped R → Type 0
StopsAt IsAsked IsRefused (unread file) = IsAsked file
StopsAt IsAsked IsRefused (refused r) = IsRefused r
StopsAt IsAsked IsRefused no_memory = Unit {0}

-- a stage that asks for no file
abbrev pub asks_none : List ℕ → Type 0
asks_none file = ⊥

abbrev pub stopped_status : {R : Type 0} → (R → ℕ) → Stopped R → ℕ
stopped_status status (unread file) = 6
stopped_status status (refused r) = status r
stopped_status status no_memory = 9

-- the file that is told as one that can't be read
abbrev pub stopped_unread : {R : Type 0} → Stopped R → Option (List ℕ)
stopped_unread (unread file) = Some file
stopped_unread (refused r) = None
stopped_unread no_memory = None

-- what is printed, none where memory ends
abbrev pub stopped_text : {R : Type 0} → (R → List ℕ) → Stopped R → Option (List ℕ)
stopped_text line (unread file) = Some (read_line file)
stopped_text line (refused r) = Some (line r)
stopped_text line no_memory = None
