-- What words stand for: numbers, and values of the elementary types.
use Rattle.std.specs.Prelude.{◌≡◌, ◌↔◌, ℕ, ◌+◌, ◌*◌, ℤ, Bool, true, false, List, [], ◌∷◌, length}
use Rattle.pv_gate.specs.declared.netlist.Node.{Node}
use Rattle.pv_gate.specs.Netlist.{IsNetlist}
use Rattle.pv_gate.specs.Building.{Building, Has, Have, Makes}
use Rattle.pv_word.specs.declared.types.Ty.{Ty}
use Rattle.pv_word.specs.Types.{width_of, InRange, pattern_of}
use Rattle.pv_word.specs.Quotients.{quotient_of, remainder_of}

abbrev pub number_of_bit : Bool → ℕ
number_of_bit true = 1
number_of_bit false = 0

-- the number with these bits, the least first
abbrev pub number_of : List Bool → ℕ
number_of [] = 0
number_of (b ∷ bs) = number_of_bit b + 2 * number_of bs

-- the literals are as many as the type has bits, and have those of the value v
pub record IsWord (ty : Ty) (inputs : ℕ → Bool) (nodes : List Node) (literals : List ℤ) (v : ℤ) : Type 0 where
  pub bits : List Bool
  pub have : Have inputs nodes literals bits
  pub width : length literals ≡ width_of ty
  pub in_range : InRange ty v
  pub pattern : number_of bits ≡ pattern_of ty v

-- the literal is true exactly where P holds
pub record Decides (inputs : ℕ → Bool) (nodes : List Node) (literal : ℤ) (P : Type 0) : Type 0 where
  pub truth : Bool
  pub has : Has inputs nodes literal truth
  pub is : (truth ≡ true) ↔ P

-- the words have the quotient and the remainder
pub record Divides (ty : Ty) (v u : ℤ) (inputs : ℕ → Bool) (nodes : List Node) (words : List ℤ × List ℤ) : Type 0 where
  pub quotient_word : IsWord ty inputs nodes words.0 (quotient_of ty v u)
  pub remainder_word : IsWord ty inputs nodes words.1 (remainder_of ty v u)

-- the number is no value of the type
abbrev pub Past : Ty → ℤ → Type 0
Past ty v = InRange ty v → ⊥

-- ---- laws: over any netlist and whatever the inputs are

-- what is made of two words that have values of the type is as P says of the values
abbrev pub OfWords :
    {A : Type 0} → Ty → (List ℤ → List ℤ → Building A) →
    (ℤ → ℤ → (ℕ → Bool) → List Node → A → Type 0) → Type 0
OfWords ty f P =
    (inputs : ℕ → Bool) (nodes : List Node) (a b : List ℤ) (v u : ℤ) → IsNetlist nodes →
    IsWord ty inputs nodes a v → IsWord ty inputs nodes b u →
    Makes nodes (λ ms made. P v u inputs ms made) (f a b)

-- the same of two words and a literal
abbrev pub OfWordsAnd :
    {A : Type 0} → Ty → (ℤ → List ℤ → List ℤ → Building A) →
    (Bool → ℤ → ℤ → (ℕ → Bool) → List Node → A → Type 0) → Type 0
OfWordsAnd ty f P =
    (inputs : ℕ → Bool) (nodes : List Node) (l : ℤ) (z : Bool) (a b : List ℤ) (v u : ℤ) →
    IsNetlist nodes → Has inputs nodes l z →
    IsWord ty inputs nodes a v → IsWord ty inputs nodes b u →
    Makes nodes (λ ms made. P z v u inputs ms made) (f l a b)
