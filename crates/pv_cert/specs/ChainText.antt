-- The line of a chain: the word `chain`, and behind it the words for the reductions that it has.
use Rattle.std.specs.Prelude.{ℕ, ◌+◌, ◌^◌, ◌<◌, ◌≤◌, Bool, true, false, List, [], ◌∷◌, ◌++◌, codes}
use Rattle.std.specs.List.{flat_map}
use Rattle.std.specs.Fmt.{decimal}
use Rattle.pv_cert.specs.declared.proof.Chain.{Chain}

-- the word for constants, where they are replaced
abbrev pub constants_text : Bool → List ℕ
constants_text true = codes " constants"
constants_text false = []

-- the numbers of cells, each with a blank before it
abbrev pub cells_text : List ℕ → List ℕ
cells_text cells = flat_map (λ cell. codes " " ++ decimal cell) cells

-- the word for cells of any value and their numbers, where there are some
abbrev pub havoc_text : List ℕ → List ℕ
havoc_text [] = []
havoc_text (cell ∷ cells) = codes " havoc" ++ cells_text (cell ∷ cells)

-- the word for the cone of influence, where the other cells are left out
abbrev pub cone_text : Bool → List ℕ
cone_text true = codes " cone"
cone_text false = []

-- the one line of a chain
abbrev pub chain_line : Chain → List ℕ
chain_line chain = codes "chain" ++ constants_text chain.constants ++ havoc_text chain.havoc ++ cone_text chain.cone

-- numbers of 32 bits that rise, from this one on
abbrev pub RiseFrom : ℕ → List ℕ → Type 0
RiseFrom least [] = Unit {0}
RiseFrom least (cell ∷ cells) = (least ≤ cell) × (cell < 2 ^ 32) × RiseFrom (cell + 1) cells

-- the cells of a chain that has a line: their numbers rise
abbrev pub HasChainText : Chain → Type 0
HasChainText chain = RiseFrom 0 chain.havoc
