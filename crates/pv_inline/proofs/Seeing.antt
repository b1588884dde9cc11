-- The parts of automata, block by block.
use Rattle.std.proofs.Common.{◌≡◌, ℕ, zero, suc, List, [], ◌∷◌, length, Option, None, refl, ap}
use Rattle.std.specs.Prelude.{slice_index_or}
use Rattle.pv_flow.specs.declared.automaton.Automaton.{Automaton}
use Rattle.pv_inline.specs.Blocks.{code_in, codes_of, code_at}

pub long : (blocks : List (Option Automaton)) → length (codes_of blocks) ≡ length blocks
long [] = refl
long (o ∷ blocks) = ap (λ (n : ℕ). suc n) (long blocks)

pub at_codes : (blocks : List (Option Automaton)) (b : ℕ) → code_at (codes_of blocks) b ≡ code_in (slice_index_or blocks b None)
at_codes [] b = refl
at_codes (o ∷ blocks) zero = refl
at_codes (o ∷ blocks) (suc b) = at_codes blocks b
