-- Frames, states and inputs have as many values as they should, and a scan begins with its own.
use Rattle.std.proofs.Common.{◌≡◌, ℕ, suc, Bool, true, false, cond, List, [], ◌∷◌, length, refl, ◌∙◌, ap, arith, set}
use Rattle.std.specs.Prelude.{filter}
use Rattle.std.proofs.lemmas.List.{length-map, length-set}
use Rattle.pv_bool.specs.declared.program.BitRole.{BitRole}
use Rattle.pv_bool.specs.declared.program.BitRole.TheVariants.{Input, Kept}
use Rattle.pv_bool.specs.Roles.{is_input, is_kept}
use Rattle.pv_bool.specs.declared.program.Bit.{Bit}
use Rattle.pv_bool.specs.Tree.{AssignmentTree, ProgramTree}
use Rattle.pv_bool.specs.Scans.{Bits, first, others, state_len, input_len, start, begin, state_of, input_of, value_in, run_body, scan_end}
use Rattle.pv_bool.specs.Scans.{next_state}

pub length-start : (bits : List Bit) → length (start bits) ≡ state_len bits
length-start bits = length-map (filter (λ b. is_kept b.role) bits) (λ (b : Bit). b.start)

-- the frame that begins with a bit of this role and those behind it
abbrev begun : List Bit → Bits → Bits → BitRole → Bits
begun bs state input r =
    cond (is_input r) (first input ∷ begin bs state (others input)) (first state ∷ begin bs (others state) input)

pub length-begin : (bits : List Bit) (state input : Bits) → length (begin bits state input) ≡ length bits
length-begin [] state input = refl
length-begin (b ∷ bs) state input = by b.role (λ s i. length-begin bs s i)
  where
    by : (r : BitRole) → ((s i : Bits) → length (begin bs s i) ≡ length bs) → length (begun bs state input r) ≡ suc (length bs)
    by Input h = ap suc (h state (others input))
    by Kept h = ap suc (h (others state) input)

pub length-run_body : (body : List AssignmentTree) (frame : Bits) → length (run_body body frame) ≡ length frame
length-run_body [] frame = refl
length-run_body (a ∷ body) frame = length-run_body body (set frame a.target (value_in frame a.value))
    ∙ length-set frame a.target (value_in frame a.value)

pub length-scan_end : (program : ProgramTree) (state input : Bits) → length (scan_end program state input) ≡ length program.bits
length-scan_end program state input = length-run_body program.body (begin program.bits state input) ∙ length-begin program.bits state input

pub length-state_of : (bits : List Bit) (frame : Bits) → length (state_of bits frame) ≡ state_len bits
length-state_of [] frame = refl
length-state_of (b ∷ bs) frame = by (is_kept b.role) (length-state_of bs (others frame))
  where
    by : (t : Bool) → length (state_of bs (others frame)) ≡ state_len bs
        → length (cond t (first frame ∷ state_of bs (others frame)) (state_of bs (others frame)))
        ≡ length (cond t (b ∷ filter (λ c. is_kept c.role) bs) (filter (λ c. is_kept c.role) bs))
    by true h = ap suc h
    by false h = h

pub length-input_of : (bits : List Bit) (frame : Bits) → length (input_of bits frame) ≡ input_len bits
length-input_of [] frame = refl
length-input_of (b ∷ bs) frame = by (is_input b.role) (length-input_of bs (others frame))
  where
    by : (t : Bool) → length (input_of bs (others frame)) ≡ input_len bs
        → length (cond t (first frame ∷ input_of bs (others frame)) (input_of bs (others frame)))
        ≡ length (cond t (b ∷ filter (λ c. is_input c.role) bs) (filter (λ c. is_input c.role) bs))
    by true h = ap suc h
    by false h = h

pub length-next_state : (program : ProgramTree) (state input : Bits) → length (next_state program state input) ≡ state_len program.bits
length-next_state program state input = length-state_of program.bits (scan_end program state input)

-- ---- a scan begins with its state and its input

none : (vs : Bits) → length vs ≡ 0 → [] ≡ vs
none [] len = refl
none (v ∷ vs) len = absurd (omega arith)

split : (vs : Bits) (n : ℕ) → length vs ≡ suc n → first vs ∷ others vs ≡ vs
split [] n len = absurd (omega arith)
split (v ∷ vs) n len = refl

length-others : (vs : Bits) (n : ℕ) → length vs ≡ suc n → length (others vs) ≡ n
length-others [] n len = absurd (omega arith)
length-others (v ∷ vs) n len = omega (arith, len)

pub state_of-begin : (bits : List Bit) (state input : Bits) → length state ≡ state_len bits → state_of bits (begin bits state input) ≡ state
state_of-begin [] state input len = none state len
state_of-begin (b ∷ bs) state input len = by b.role len (λ s i e. state_of-begin bs s i e)
  where
    by : (r : BitRole) → length state ≡ length (cond (is_kept r) (b ∷ filter (λ c. is_kept c.role) bs) (filter (λ c. is_kept c.role) bs))
        → ((s i : Bits) → length s ≡ state_len bs → state_of bs (begin bs s i) ≡ s)
        → cond (is_kept r) (first (begun bs state input r) ∷ state_of bs (others (begun bs state input r)))
        (state_of bs (others (begun bs state input r))) ≡ state
    by Input e h = h state (others input) e
    by Kept e h = ap (λ vs. first state ∷ vs) (h (others state) input (length-others state (state_len bs) e)) ∙ split state (state_len bs) e

pub input_of-begin : (bits : List Bit) (state input : Bits) → length input ≡ input_len bits → input_of bits (begin bits state input) ≡ input
input_of-begin [] state input len = none input len
input_of-begin (b ∷ bs) state input len = by b.role len (λ s i e. input_of-begin bs s i e)
  where
    by : (r : BitRole) → length input ≡ length (cond (is_input r) (b ∷ filter (λ c. is_input c.role) bs) (filter (λ c. is_input c.role) bs))
        → ((s i : Bits) → length i ≡ input_len bs → input_of bs (begin bs s i) ≡ i)
        → cond (is_input r) (first (begun bs state input r) ∷ input_of bs (others (begun bs state input r)))
        (input_of bs (others (begun bs state input r))) ≡ input
    by Input e h = ap (λ vs. first input ∷ vs) (h state (others input) (length-others input (input_len bs) e))
        ∙ split input (input_len bs) e
    by Kept e h = h (others state) input e
