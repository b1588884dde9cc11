-- The literals of some of the bits: what holds of all bits holds of some. Literals beside the bits are a list like a frame, and a frame of
-- values is `map` over them: `state_of-picked`, `input_of-picked`, `begin_parts` and `begin_given` are all that the laws need.
use Rattle.std.proofs.Common.{◌≡◌, ◌+◌, ◌<◌, ◌++◌, ℕ, suc, ℤ, pos, List, [], ◌∷◌, length, map, Bool, true, false, cond, refl, sym, ◌∙◌, ap}
use Rattle.std.proofs.Common.{arith}
use Rattle.std.proofs.Common.{drop, get_or, drop-cons, append_assoc}
use Rattle.std.specs.Prelude.{filter}
use Rattle.std.specs.List.{AllByRecursion}
use Rattle.std.specs.List.Sorted.{IsPermutation}
use Rattle.std.proofs.lemmas.List.Sorted.{IsPermutation-refl, IsPermutation-cons, IsPermutation-middle, IsPermutation-sym}
use Rattle.std.proofs.lemmas.List.Sorted.{IsPermutation-trans}
use Rattle.pv_bool.specs.declared.program.BitRole.{BitRole}
use Rattle.pv_bool.specs.declared.program.BitRole.TheVariants.{Input, Kept}
use Rattle.pv_bool.specs.Roles.{is_input, is_kept}
use Rattle.pv_bool.specs.declared.program.Bit.{Bit}
use Rattle.pv_bool.specs.Scans.{Bits, first, others, state_of, input_of, begin}
use Rattle.pv_circuit.specs.Circuits.{Literals, input_literals}
use Rattle.pv_step.specs.Circuits.{first_literal, other_literals, picked}

-- ---- the loops that pick them

split_bits : (bits : List Bit) (n : ℕ) (d : Bit) → n < length bits → drop n bits ≡ get_or bits n d ∷ drop (n + 1) bits
split_bits bits n d lt =
    let next : suc n ≡ n + 1 = omega arith in
    drop-cons bits n d lt ∙ ap (λ m. get_or bits n d ∷ drop m bits) next

split_literals : (literals : List ℤ) (n : ℕ) → n < length literals → drop n literals ≡ get_or literals n (pos 0) ∷ drop (n + 1) literals
split_literals literals n lt =
    let next : suc n ≡ n + 1 = omega arith in
    drop-cons literals n (pos 0) lt ∙ ap (λ m. get_or literals n (pos 0) ∷ drop m literals) next

module _ (test : BitRole → Bool) (bits : List Bit) (literals : List ℤ) (n : ℕ) (d : Bit) (lt : n < length bits)
    (len : length literals ≡ length bits) where
  -- those from the next one on
  abbrev later : List ℤ
  later = picked test (drop (n + 1) bits) (drop (n + 1) literals)

  picked_at : picked test (drop n bits) (drop n literals) ≡ cond (test (get_or bits n d).role)
      (get_or literals n (pos 0) ∷ picked test (drop (n + 1) bits) (drop (n + 1) literals))
      (picked test (drop (n + 1) bits) (drop (n + 1) literals))
  picked_at =
      ap (λ bs. picked test bs (drop n literals)) (split_bits bits n d lt)
      ∙ ap (picked test (get_or bits n d ∷ drop (n + 1) bits)) (split_literals literals n (omega arith))

  pub picked_on : (found grown : List ℤ) (t : Bool) → t ≡ test (get_or bits n d).role → t ≡ true
      → picked test bits literals ≡ found ++ picked test (drop n bits) (drop n literals)
      → grown ≡ found ++ get_or literals n (pos 0) ∷ [] → picked test bits literals
      ≡ grown ++ picked test (drop (n + 1) bits) (drop (n + 1) literals)
  picked_on found grown t role on so_far is =
      let l = get_or literals n (pos 0) in
      let split = picked_at ∙ ap (λ b. cond b (l ∷ later) later) (sym role ∙ on) in
      so_far ∙ (ap (λ r. found ++ r) split ∙ (sym (append_assoc found (l ∷ []) later) ∙ ap (λ g. g ++ later) (sym is)))

  pub passed_over : (found grown : List ℤ) (t : Bool) → t ≡ test (get_or bits n d).role → t ≡ false
      → picked test bits literals ≡ found ++ picked test (drop n bits) (drop n literals)
      → grown ≡ found → picked test bits literals ≡ grown ++ picked test (drop (n + 1) bits) (drop (n + 1) literals)
  passed_over found grown t role off so_far is =
      let l = get_or literals n (pos 0) in
      let same = picked_at ∙ ap (λ b. cond b (l ∷ later) later) (sym role ∙ off) in
      so_far ∙ (ap (λ r. found ++ r) same ∙ ap (λ g. g ++ later) (sym is))

-- ---- their values

pub state_of-picked : (f : ℤ → Bool) (bits : List Bit) (ls : Literals) → length ls ≡ length bits
    → map f (picked is_kept bits ls) ≡ state_of bits (map f ls)
state_of-picked f [] ls len = refl
state_of-picked f (b ∷ bs) [] len = absurd (omega arith)
state_of-picked f (b ∷ bs) (l ∷ ls) len = by (is_kept b.role) (state_of-picked f bs ls (omega arith))
  where
    by : (t : Bool) → map f (picked is_kept bs ls) ≡ state_of bs (map f ls)
        → map f (cond t (l ∷ picked is_kept bs ls) (picked is_kept bs ls))
        ≡ cond t (f l ∷ state_of bs (map f ls)) (state_of bs (map f ls))
    by true h = ap (λ xs. f l ∷ xs) h
    by false h = h

pub input_of-picked : (f : ℤ → Bool) (bits : List Bit) (ls : Literals) → length ls ≡ length bits
    → map f (picked is_input bits ls) ≡ input_of bits (map f ls)
input_of-picked f [] ls len = refl
input_of-picked f (b ∷ bs) [] len = absurd (omega arith)
input_of-picked f (b ∷ bs) (l ∷ ls) len = by (is_input b.role) (input_of-picked f bs ls (omega arith))
  where
    by : (t : Bool) → map f (picked is_input bs ls) ≡ input_of bs (map f ls)
        → map f (cond t (l ∷ picked is_input bs ls) (picked is_input bs ls))
        ≡ cond t (f l ∷ input_of bs (map f ls)) (input_of bs (map f ls))
    by true h = ap (λ xs. f l ∷ xs) h
    by false h = h

pub length-picked : (test : BitRole → Bool) (bits : List Bit) (ls : Literals)
    → length (picked test bits ls) ≡ length (filter (λ b. test b.role) bits)
length-picked test [] ls = refl
length-picked test (b ∷ bs) ls = by (test b.role) (length-picked test bs (other_literals ls))
  where
    by : (t : Bool) → length (picked test bs (other_literals ls)) ≡ length (filter (λ c. test c.role) bs)
        → length (cond t (first_literal ls ∷ picked test bs (other_literals ls)) (picked test bs (other_literals ls)))
        ≡ length (cond t (b ∷ filter (λ c. test c.role) bs) (filter (λ c. test c.role) bs))
    by true h = ap suc h
    by false h = h

-- ---- a scan begins with the values of its literals

-- the state and the input that a frame has for a bit of this role and those behind it, and the frame that begins with them
abbrev stated : BitRole → List Bit → Bits → Bits
stated r bs v = cond (is_kept r) (first v ∷ state_of bs (others v)) (state_of bs (others v))

abbrev taken : BitRole → List Bit → Bits → Bits
taken r bs v = cond (is_input r) (first v ∷ input_of bs (others v)) (input_of bs (others v))

abbrev begun : BitRole → List Bit → Bits → Bits
begun r bs v =
    cond (is_input r) (first (taken r bs v) ∷ begin bs (stated r bs v) (others (taken r bs v)))
    (first (stated r bs v) ∷ begin bs (others (stated r bs v)) (taken r bs v))

-- the values of the literals with which the scan begins are those of a state and an input
pub begin_parts : (f : ℤ → Bool) (m : ℕ) (bits : List Bit)
    → begin bits (state_of bits (map f (input_literals m (length bits)))) (input_of bits (map f (input_literals m (length bits))))
    ≡ map f (input_literals m (length bits))
begin_parts f m [] = refl
begin_parts f m (b ∷ bs) = by b.role (begin_parts f (m + 1) bs)
  where
    by : (r : BitRole) → begin bs (state_of bs (map f (input_literals (m + 1) (length bs))))
        (input_of bs (map f (input_literals (m + 1) (length bs)))) ≡ map f (input_literals (m + 1) (length bs))
        → begun r bs (f (pos (2 + m)) ∷ map f (input_literals (m + 1) (length bs)))
        ≡ f (pos (2 + m)) ∷ map f (input_literals (m + 1) (length bs))
    by Input h = ap (λ vs. f (pos (2 + m)) ∷ vs) h
    by Kept h = ap (λ vs. f (pos (2 + m)) ∷ vs) h

-- the values of a state and an input one after the other, as the inputs take them
pub given_of : List Bit → Bits → Bits → Bits
given_of [] state input = []
given_of (b ∷ bs) state input =
    cond (is_input b.role) (first input ∷ given_of bs state (others input)) (first state ∷ given_of bs (others state) input)

-- where the inputs from m on have them, the literals have the values of the frame that begins
pub begin_given : (f : ℤ → Bool) (m : ℕ) (bits : List Bit) (state input : Bits)
    → ((k : ℕ) → k < length bits → f (pos (2 + (m + k))) ≡ get_or (given_of bits state input) k false)
    → map f (input_literals m (length bits)) ≡ begin bits state input
unfolding given_of
begin_given f m [] state input has = refl
begin_given f m (b ∷ bs) state input has = by b.role (λ s i h. begin_given f (m + 1) bs s i h) has
  where
    next : (v : Bool) (vs rest : Bits) → ((k : ℕ) → k < suc (length bs) → f (pos (2 + (m + k))) ≡ get_or (v ∷ vs) k false)
        → (((k : ℕ) → k < length bs → f (pos (2 + (m + 1 + k))) ≡ get_or vs k false) → map f (input_literals (m + 1) (length bs)) ≡ rest)
        → f (pos (2 + m)) ∷ map f (input_literals (m + 1) (length bs)) ≡ v ∷ rest
    next v vs rest h up =
        let here : 2 + (m + 0) ≡ 2 + m = omega arith in
        ap (λ x. x ∷ map f (input_literals (m + 1) (length bs))) (sym (ap (λ i. f (pos i)) here) ∙ h 0 (omega arith))
        ∙ ap (λ xs. v ∷ xs) (up (λ k lt.
        let there : 2 + (m + 1 + k) ≡ 2 + (m + suc k) = omega arith in
        ap (λ i. f (pos i)) there ∙ h (suc k) (omega arith)))

    by : (r : BitRole)
        → ((s i : Bits) → ((k : ℕ) → k < length bs → f (pos (2 + (m + 1 + k))) ≡ get_or (given_of bs s i) k false)
        → map f (input_literals (m + 1) (length bs)) ≡ begin bs s i)
        → ((k : ℕ) → k < suc (length bs) → f (pos (2 + (m + k)))
        ≡ get_or (cond (is_input r) (first input ∷ given_of bs state (others input))
        (first state ∷ given_of bs (others state) input)) k false)
        → f (pos (2 + m)) ∷ map f (input_literals (m + 1) (length bs))
        ≡ cond (is_input r) (first input ∷ begin bs state (others input)) (first state ∷ begin bs (others state) input)
    by Input up h = next (first input) (given_of bs state (others input)) (begin bs state (others input)) h
        (λ g. up state (others input) g)
    by Kept up h = next (first state) (given_of bs (others state) input) (begin bs (others state) input) h
        (λ g. up (others state) input g)

-- ---- each of some, and all once

pub picked_all : (P : ℤ → Type 0) (test : BitRole → Bool) (bits : List Bit) (ls : Literals) → length ls ≡ length bits → AllByRecursion P ls
    → AllByRecursion P (picked test bits ls)
picked_all P test [] ls len all = tt
picked_all P test (b ∷ bs) [] len all = absurd (omega arith)
picked_all P test (b ∷ bs) (l ∷ ls) len all = by (test b.role) (picked_all P test bs ls (omega arith) all.1)
  where
    by : (t : Bool) → AllByRecursion P (picked test bs ls) → AllByRecursion P (cond t (l ∷ picked test bs ls) (picked test bs ls))
    by true h = (all.0, h)
    by false h = h

-- the literals of some of a bit of this role and those behind it
abbrev pick : (BitRole → Bool) → BitRole → List Bit → Literals → Literals
pick test r bs ls = cond (test r) (first_literal ls ∷ picked test bs (other_literals ls)) (picked test bs (other_literals ls))

-- those that a state and an input take are all that there are
pub parts_all : (m : ℕ) (bits : List Bit) → IsPermutation (input_literals m (length bits))
    (picked is_kept bits (input_literals m (length bits)) ++ picked is_input bits (input_literals m (length bits)))
parts_all m [] = IsPermutation-refl []
parts_all m (b ∷ bs) = by b.role (parts_all (m + 1) bs)
  where
    behind : (all xs ys : Literals) → IsPermutation all (xs ++ ys) → IsPermutation (pos (2 + m) ∷ all) (xs ++ pos (2 + m) ∷ ys)
    behind all xs ys h =
        IsPermutation-trans (pos (2 + m) ∷ all) (pos (2 + m) ∷ (xs ++ ys)) (xs ++ pos (2 + m) ∷ ys)
        (IsPermutation-cons (pos (2 + m)) all (xs ++ ys) h)
        (IsPermutation-sym (xs ++ pos (2 + m) ∷ ys) (pos (2 + m) ∷ (xs ++ ys)) (IsPermutation-middle xs (pos (2 + m)) ys))

    by : (r : BitRole) → IsPermutation (input_literals (m + 1) (length bs))
        (picked is_kept bs (input_literals (m + 1) (length bs)) ++ picked is_input bs (input_literals (m + 1) (length bs)))
        → IsPermutation (pos (2 + m) ∷ input_literals (m + 1) (length bs))
        (pick is_kept r bs (pos (2 + m) ∷ input_literals (m + 1) (length bs))
        ++ pick is_input r bs (pos (2 + m) ∷ input_literals (m + 1) (length bs)))
    by Input h =
        let rest = input_literals (m + 1) (length bs) in
        behind rest (picked is_kept bs rest) (picked is_input bs rest) h
    by Kept h =
        let rest = input_literals (m + 1) (length bs) in
        IsPermutation-cons (pos (2 + m)) rest (picked is_kept bs rest ++ picked is_input bs rest) h
