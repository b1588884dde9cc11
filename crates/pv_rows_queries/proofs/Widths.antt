-- How many bits values of circuits' sources have.
use Rattle.std.proofs.Common.{◌≡◌, ℕ, zero, suc, ◌+◌, ◌≤◌, cond, List, [], ◌∷◌, length, replicate, refl, ap, arith}
use Rattle.std.specs.List.{filter}
use Rattle.pv_word.specs.declared.types.Ty.TheVariants as types
use Rattle.pv_circuit.specs.Steps.{widths}
use Rattle.pv_bool.specs.declared.program.Bit.{Bit}
use Rattle.pv_bool.specs.declared.program.BitRole.{BitRole}
use Rattle.pv_bool.specs.declared.program.BitRole.TheVariants.{Input, Kept}
use Rattle.pv_bool.specs.Roles.{is_input, is_kept}
use Rattle.pv_bool.specs.Tree.{ProgramTree}
use Rattle.pv_bool.specs.Scans.{state_len, input_len}
use Rattle.pv_step.specs.Circuits.{circuit_of}
use Rattle.pv_step.specs.Steps.{form_of}
use Rattle.pv_rows_queries.specs.Words.{words_form, words_program}
use Rattle.pv_rows_queries.specs.WordSteps.{words_steps}

widths-bools : (n : ℕ) → widths (replicate n types.Bool) ≡ n
widths-bools zero = refl
widths-bools (suc n) = let rest = widths-bools n in omega (arith, rest)

-- each bit is of a state or of an input
both : (bits : List Bit) → state_len bits + input_len bits ≡ length bits
both [] = refl
both (b ∷ bits) = by b.role (both bits)
  where
    by : (r : BitRole) → state_len bits + input_len bits ≡ length bits
        → length (cond (is_kept r) (b ∷ filter (λ c. is_kept c.role) bits) (filter (λ c. is_kept c.role) bits))
        + length (cond (is_input r) (b ∷ filter (λ c. is_input c.role) bits) (filter (λ c. is_input c.role) bits))
        ≡ suc (length bits)
    by Input e = omega (arith, e)
    by Kept e = omega (arith, e)

pub few : (program : ProgramTree) → length program.bits ≤ 2 → widths (form_of program).state + widths (form_of program).input ≤ 28999999
few program le =
    let state = widths-bools (state_len program.bits) in
    let input = widths-bools (input_len program.bits) in
    omega (arith, le, both program.bits, state, input)

pub words_input : length (circuit_of words_program).input ≡ widths words_form.input
words_input = words_steps.bits.input

pub words_state : length (circuit_of words_program).state_in ≡ widths words_form.state
words_state = words_steps.bits.state
