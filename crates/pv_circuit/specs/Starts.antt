-- The bits of a state from scan to scan: which values runs begin with, and which a scan leaves.
use Rattle.std.specs.Prelude.{◌≡◌, Bool, true, false, if◌then◌else◌, List, [], ◌∷◌, ⊤}
use Rattle.pv_circuit.specs.declared.start.Start.{Start}
use Rattle.pv_circuit.specs.declared.start.Start.TheVariants.{Fixed, Begins, Free}

-- the value may be the bit's in a state
abbrev pub MayBe : Start → Bool → Type 0
MayBe (Fixed b) x = x ≡ b
MayBe (Begins b) x = ⊤
MayBe Free x = ⊤

-- the value may be the bit's in a state with which runs begin
abbrev pub MayBegin : Start → Bool → Type 0
MayBegin (Fixed b) x = x ≡ b
MayBegin (Begins b) x = x ≡ b
MayBegin Free x = ⊤

-- bits of a state
abbrev pub AreState : List Start → List Bool → Type 0
AreState [] [] = ⊤
AreState [] (x ∷ bits) = ⊥
AreState (s ∷ start) [] = ⊥
AreState (s ∷ start) (x ∷ bits) = MayBe s x × AreState start bits

-- bits of a state with which runs begin
abbrev pub AreStart : List Start → List Bool → Type 0
AreStart [] [] = ⊤
AreStart [] (x ∷ bits) = ⊥
AreStart (s ∷ start) [] = ⊥
AreStart (s ∷ start) (x ∷ bits) = MayBegin s x × AreStart start bits

-- whether a scan changes the bit: one of a parameter stays
abbrev pub is_moved : Start → Bool
is_moved (Fixed b) = false
is_moved (Begins b) = true
is_moved Free = false

-- what the bits have behind a scan, of what they had before it and of what the circuit has at its end
abbrev pub next_of : {A : Type 0} → List Start → List A → List A → List A
next_of [] before end = []
next_of (s ∷ start) [] end = []
next_of (s ∷ start) (x ∷ before) [] = []
next_of (s ∷ start) (x ∷ before) (y ∷ end) = (if is_moved s then y else x) ∷ next_of start before end
