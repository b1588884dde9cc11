-- What a sink has taken.
use Rattle.std.specs.Prelude.{ℕ, List, [], Option, option_map, Result, Ok, Err, ◌++◌, ◌≡◌, ◌≢◌, ◌⊎◌, ◌≤◌, ◌<◌, ◌==◌, ◌&&◌, nat_lt, take, drop, length, min, if◌then◌else◌}
use Rattle.std.specs.Io.KnownBytes.{Appends}
use Rattle.pv_edge.specs.Calls.{next_count}
use Rattle.pv_edge.specs.declared.outside.SinkFault.{SinkFault}
use Rattle.pv_edge.specs.declared.outside.SinkFault.TheVariants.{Failed, NoMemory}

-- what is told as taken grows by these bytes, or nothing is told before and after
abbrev pub Takes : List ℕ → Option (List ℕ) → Option (List ℕ) → Type 0
Takes bytes old new = new ≡ option_map (λ taken. taken ++ bytes) old

-- what is told as taken grows by a prefix of these bytes, or nothing is told before and after
abbrev pub TakesPart : List ℕ → Option (List ℕ) → Option (List ℕ) → Type 0
TakesPart bytes old new = (n : ℕ) × (n ≤ length bytes) × Takes (take n bytes) old new

-- what is told as taken grows by a part of these bytes that lacks the last, or nothing is told before and after
abbrev pub TakesLess : List ℕ → Option (List ℕ) → Option (List ℕ) → Type 0
TakesLess bytes old new = (n : ℕ) × (n < length bytes) × Takes (take n bytes) old new

-- the count of faults after this answer to an offer of so many bytes: a call that fails counts once, and so does one that takes nothing of what there is
abbrev pub faults_after : ℕ → Result ℕ SinkFault → ℕ → ℕ
faults_after offered (Ok n) faults = if n == 0 && nat_lt 0 offered then next_count faults else faults
faults_after offered (Err Failed) faults = next_count faults
faults_after offered (Err NoMemory) faults = faults

-- what is known of a writer grows by a prefix of these bytes
abbrev pub AppendsPart : List ℕ → Option (List ℕ) → Option (List ℕ) → Type 0
AppendsPart bytes old new = (n : ℕ) × (n ≤ length bytes) × Appends old new (take n bytes)

-- a call of a sink in memory takes as much as there is, up to its piece, and counts once
pub record IsPiece (n : ℕ) (bytes : List ℕ) (piece calls next_piece next_calls : ℕ) : Type 0 where
  pub taken : n ≡ min (length bytes) piece
  pub same : next_piece ≡ piece
  pub counted : next_calls ≡ next_count calls

-- calls one behind the other, from the first that is offered all of the bytes on, each of which is offered what those before it left, which is something, and takes some of it; with what is left behind them and the sink there
pub data Offered {S : Type 0} (call : List ℕ → Result ℕ SinkFault → S → S → Type 0) (bytes : List ℕ) (old : S) : List ℕ → S → Type 0 where
  none : Offered call bytes old bytes old
  more : {n : ℕ} {left : List ℕ} {mid new : S} → Offered call bytes old left mid → left ≢ [] → n ≢ 0 → call left (Ok n) mid new → Offered call bytes old (drop n left) new

-- behind such calls some bytes are left, and the call that is offered them fails so, or takes nothing, which is a failure
pub record StopsOffering {S : Type 0} (call : List ℕ → Result ℕ SinkFault → S → S → Type 0) (bytes : List ℕ) (old : S) (fault : SinkFault) (new : S) : Type 0 where
  pub left : List ℕ
  pub mid : S
  pub before : Offered call bytes old left mid
  pub more : left ≢ []
  pub last : call left (Err fault) mid new ⊎ ((fault ≡ Failed) × call left (Ok 0) mid new)
