-- Blocks by the code's parts are those of the definitions; and automata are such blocks.
use Rattle.std.proofs.Common.{◌≡◌, ℕ, zero, suc, ◌-◌, ◌<◌, List, [], ◌∷◌, Result, Ok, Err, IfOk, Option, Some, None, refl, sym, subst, ap, arith}
use Rattle.std.proofs.lemmas.Option.{none-some, same_Some}
use Rattle.pv_flow.specs.declared.automaton.Automaton.{Automaton}
use Rattle.pv_flow.specs.declared.parts.Parts.{Parts as CodeParts}
use Rattle.pv_flow.specs.AutomatonView.{automaton_of, code_of}
use Rattle.pv_flow.specs.Automata.{Parts}
use Rattle.pv_flow.specs.Calls.{Blocks, block_at}
use Rattle.pv_flow.specs.Fitting.{AreFitting, AreSound}
use Rattle.pv_flow.specs.Tables.{AreTabled}
use Rattle.pv_flow.specs.View.{parts_of}
use Rattle.pv_flow.proofs.ForCallers.{types_keep}
use Rattle.pv_inline.specs.Blocks.{blocks_of, codes_of, blocks_in, code_at}
use Rattle.pv_inline.specs.Copies.{IsCode}
use Rattle.pv_inline.specs.Inlining.{IsThere, AreTabledCodes, CanCopy}

pub ok_by : {A E : Type 0} {P Q : A → Type 0} (r : Result A E) → ((a : A) → P a → Q a) → IfOk r P → IfOk r Q
ok_by (Ok a) more h = more a h
ok_by (Err e) more h = tt

pub some_block : (blocks : List (Option CodeParts)) (b : ℕ) (p : CodeParts) → code_at blocks b ≡ Some p
    → block_at (blocks_in blocks) b ≡ Some (parts_of p)
some_block [] b p at = absurd (none-some p at)
some_block (None ∷ blocks) zero p at = absurd (none-some p at)
some_block (Some q ∷ blocks) zero p at = ap (λ (r : CodeParts). Some (parts_of r)) (same_Some q p at)
some_block (o ∷ blocks) (suc b) p at = some_block blocks b p at

pub none_block : (blocks : List (Option CodeParts)) (b : ℕ) → code_at blocks b ≡ None → block_at (blocks_in blocks) b ≡ None
none_block [] b none = refl
none_block (None ∷ blocks) zero none = refl
none_block (Some q ∷ blocks) zero none = absurd (none-some q (sym none))
none_block (o ∷ blocks) (suc b) none = none_block blocks b none

pub next : (n : ℕ) → 0 < n → n ≡ suc (n - 1)
next n h = omega (arith, h)

-- the code's parts of a block that is there
pub code_of_block : (codes : List (Option CodeParts)) → AreTabledCodes codes → (b : ℕ) (q : Parts) → block_at (blocks_in codes) b ≡ Some q
    → IsCode codes b q
code_of_block [] tabled b q at = absurd (none-some q at)
code_of_block (None ∷ codes) tabled zero q at = absurd (none-some q at)
code_of_block (Some p ∷ codes) tabled zero q at = record { parts = p; at = refl; same = same_Some (parts_of p) q at; tabled = tabled zero p refl }
code_of_block (o ∷ codes) tabled (suc b) q at =
    let h = code_of_block codes (λ c. tabled (suc c)) b q at in record { parts = h.parts; at = h.at; same = h.same; tabled = h.tabled }

-- ---- automata

pub same_blocks : (blocks : List (Option Automaton)) → blocks_in (codes_of blocks) ≡ blocks_of blocks
same_blocks [] = refl
same_blocks (None ∷ blocks) = ap (λ (bs : Blocks). None ∷ bs) (same_blocks blocks)
same_blocks (Some automaton ∷ blocks) = ap (λ (bs : Blocks). Some (automaton_of automaton) ∷ bs) (same_blocks blocks)

pub sound_blocks : (blocks : List (Option Automaton)) → AreSound (blocks_of blocks)
sound_blocks [] b = tt
sound_blocks (None ∷ blocks) zero = tt
sound_blocks (Some automaton ∷ blocks) zero = record { faultless = types_keep.faultless automaton; well_made = types_keep.well_made automaton }
sound_blocks (o ∷ blocks) (suc b) = sound_blocks blocks b

tabled_blocks : (blocks : List (Option Automaton)) → AreTabledCodes (codes_of blocks)
tabled_blocks [] b p at = absurd (none-some p at)
tabled_blocks (None ∷ blocks) zero p at = absurd (none-some p at)
tabled_blocks (Some automaton ∷ blocks) zero p at = subst AreTabled (same_Some (code_of automaton) p at) (types_keep.tabled automaton)
tabled_blocks (o ∷ blocks) (suc b) p at = tabled_blocks blocks b p at

pub can_copy : (blocks : List (Option Automaton)) (b : ℕ) → AreFitting (blocks_of blocks) → IsThere (block_at (blocks_of blocks) b)
    → CanCopy (codes_of blocks) b
can_copy blocks b fit there = record {
  fit = subst AreFitting (sym (same_blocks blocks)) fit;
  sound = subst AreSound (sym (same_blocks blocks)) (sound_blocks blocks);
  tabled = tabled_blocks blocks;
  there = subst (λ (bs : Blocks). IsThere (block_at bs b)) (sym (same_blocks blocks)) there;
}
