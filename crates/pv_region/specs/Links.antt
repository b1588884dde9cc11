-- Watches as numbers, and the lists that links make of them.
use Rattle.std.specs.Prelude.{◌≡◌, ℕ, zero, suc, ◌+◌, ◌-◌, ◌*◌, ◌/◌, ◌%◌, ◌<◌, ◌≤◌, ◌⊎◌, List, [], ◌∷◌, length, slice_index, Option, None, Some}
use Rattle.pv_region.specs.declared.watch.Watch.{Watch}

-- the code of a watch
abbrev pub code_of : Watch → ℕ
code_of watch = 2 * watch.id + watch.slot

abbrev pub watch_of : ℕ → Watch
watch_of code = record { id = code / 2; slot = code % 2 }

-- the watch of a code: 0 is none's
abbrev pub watch_at : ℕ → Option Watch
watch_at zero = None
watch_at (suc n) = Some (watch_of (suc n))

-- where the record of a clause or lemma begins: three words each, the last record first
abbrev pub record_at : List ℕ → ℕ → ℕ
record_at words id = length words - 3 * id

-- where the link of a watch stands: behind the record's first word
abbrev pub link_at : List ℕ → Watch → ℕ
link_at words watch = record_at words watch.id + 1 + watch.slot

-- where the link stands that leads to the watch behind this one, or to the first one, in the list of a literal
abbrev pub link_before : List ℕ → ℕ → Option Watch → ℕ
link_before words lit None = lit - 2
link_before words lit (Some watch) = link_at words watch

-- the list that begins with the watch of this code, up to a length
abbrev pub walk : List ℕ → ℕ → ℕ → List Watch
walk words zero code = []
walk words (suc most) zero = []
walk words (suc most) (suc n) = watch_of (suc n) ∷ walk words most (slice_index words (link_at words (watch_of (suc n))))

-- a slot of one of the first so many
pub record IsSlot (count : ℕ) (watch : Watch) : Type 0 where
  pub from_one : 0 < watch.id
  pub to_last : watch.id ≤ count
  pub slot : watch.slot < 2

-- this code and the links from it on make the list
abbrev pub Chain : List ℕ → ℕ → ℕ → List Watch → Type 0
Chain words count code [] = code ≡ 0
Chain words count code (w ∷ ws) =
    (code ≡ code_of w) × IsSlot count w × Chain words count (slice_index words (link_at words w)) ws

abbrev pub In : Watch → List Watch → Type 0
In w [] = ⊥
In w (x ∷ xs) = (w ≡ x) ⊎ In w xs

-- none stands twice
abbrev pub EachOnce : List Watch → Type 0
EachOnce [] = Unit {0}
EachOnce (x ∷ xs) = (In x xs → ⊥) × EachOnce xs

-- these are the lists of the first literals, by their places, and no watch stands in two of them or twice in one
pub record AreLists (words : List ℕ) (literals count : ℕ) (list : ℕ → List Watch) : Type 0 where
  pub chain : (i : ℕ) → i < literals → Chain words count (slice_index words i) (list i)
  pub once : (i : ℕ) → i < literals → EachOnce (list i)
  pub apart : (i j : ℕ) (w : Watch) → i < literals → j < literals → In w (list i) → In w (list j) → i ≡ j
