-- What is written into the words of a region.
use Rattle.std.specs.Prelude.{◌≡◌, ℕ, ◌+◌, ◌*◌, ◌<◌, ◌≤◌, ◌⊎◌, List, length, slice_index, slice_set}
use Rattle.std.specs.List.{between}
use Rattle.pv_region.specs.declared.watch.Watch.{Watch}
use Rattle.pv_region.specs.Links.{record_at, link_at, watch_of, code_of}

-- a part was written at a place, and nothing else
pub record Writes (at : ℕ) (part old new : List ℕ) : Type 0 where
  pub size : length new ≡ length old
  pub there : between at (at + length part) new ≡ part
  pub others : (i : ℕ) → (i < at) ⊎ (at + length part ≤ i) → slice_index new i ≡ slice_index old i

-- a clause or lemma was put at `start` as number `id`: what lies before it and the records of earlier ones stay
pub record Puts (start id : ℕ) (old new : List ℕ) : Type 0 where
  pub size : length new ≡ length old
  pub front : (i : ℕ) → i < start → slice_index new i ≡ slice_index old i
  pub records : (i : ℕ) → record_at old id + 3 ≤ i → slice_index new i ≡ slice_index old i
  pub place : slice_index new (record_at old id) ≡ start

-- a watch whose link is one of the words
pub record HasLink (words : List ℕ) (watch : Watch) : Type 0 where
  pub from_one : 0 < watch.id
  pub inside : 3 * watch.id ≤ length words
  pub slot : watch.slot < 2

-- with the watch in front of the list whose first link stands at `head`
abbrev pub linked : List ℕ → ℕ → Watch → List ℕ
linked words head watch =
    slice_set (slice_set words (link_at words watch) (slice_index words head)) head (code_of watch)

-- without the watch to which the link at a place leads
abbrev pub unlinked : List ℕ → ℕ → List ℕ
unlinked words at = slice_set words at (slice_index words (link_at words (watch_of (slice_index words at))))
