-- What files are told to hold. Where they tell nothing, each of these says only that there are such bytes.
use Rattle.std.specs.Prelude.{◌≡◌, ◌≢◌, ◌≤◌, ℕ, List, Option, Some, IfSome}
use Rattle.pv_edge.specs.Faults.{HasRisen}
use Rattle.pv_edge.specs.Files.{FileMap}

-- the file of this name is told to hold these bytes
abbrev pub Holds : Option FileMap → List ℕ → List ℕ → Type 0
Holds told name bytes = IfSome told (λ files. files name ≡ Some bytes)

-- it is told to hold bytes that are so
pub record HoldsBytes (told : Option FileMap) (name : List ℕ) (Are : List ℕ → Type 0) : Type 0 where
  pub bytes : List ℕ
  pub held : Holds told name bytes
  pub are : Are bytes

-- what the count of failed reads does in a call that ends with this status: it rises where a file can't be read, and stays but
-- there and where memory ends; it never falls, also where memory ends behind a failed read
pub record Counts (status before after : ℕ) : Type 0 where
  pub rises : status ≡ 6 → HasRisen before after
  pub stays : status ≢ 6 → status ≢ 9 → after ≡ before
  pub never_falls : before ≤ after

-- where a call ends with a file told as one that can't be read, this is the file of the last read that failed, as far as the files tell
-- that
pub record IsUnread (file unread : Option (List ℕ)) : Type 0 where
  pub last : IfSome file (λ told. IfSome unread (λ name. name ≡ told))
