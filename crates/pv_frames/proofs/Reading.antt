-- Bits that are read frame by frame.
use Rattle.std.proofs.Common.{◌≡◌, ℕ, ℤ, ◌+◌, ◌<◌, ◌≤◌, suc, Bool, false, eqb, ltb, List, [], ◌∷◌, ◌++◌, length, take, map, get_or, All, refl, sym, ◌∙◌, ap, arith, inl, inr}
use Rattle.std.specs.List.{range_with_len}
use Rattle.std.proofs.lemmas.Bool.{cases_eq, eqb-false, ltb-false, or_parts}
use Rattle.std.proofs.lemmas.List.{take_more}
use Rattle.std.proofs.lemmas.List.FromFn.{map-range_with_len_more}
use Rattle.pv_gate.specs.Node.{Names}
use Rattle.pv_circuit.specs.declared.start.Start.{Start}
use Rattle.pv_circuit.specs.Circuits.{Circuit}
use Rattle.pv_cert.specs.declared.proof.Query.{Query}
use Rattle.pv_cnf.specs.Literal.{variable_of, literal_value, is_outside}
use Rattle.pv_frames.specs.Frames.{Frame, literal_in}
use Rattle.pv_frames.specs.Queries.{table, frames}
use Rattle.pv_frames.specs.Runs.{run_with, input_in, run_of}
use Rattle.pv_frames.proofs.Agreeing.{Agree, literal-same}

-- a literal over the variables 1 to v
pub inside-some : (v lit : ℕ) → is_outside v lit ≡ false → 0 < variable_of lit
inside-some v lit h =
    let parts = or_parts (eqb (variable_of lit) 0) (ltb v (variable_of lit)) h in
    elim (cases_eq (variable_of lit) 0) [
      | inl e ↦ absurd (eqb-false (variable_of lit) 0 parts.0 e)
      | inr ne ↦ omega (arith, ne)
    ]

pub inside-last : (v lit : ℕ) → is_outside v lit ≡ false → variable_of lit ≤ v
inside-last v lit h =
    let parts = or_parts (eqb (variable_of lit) 0) (ltb v (variable_of lit)) h in
    ltb-false v (variable_of lit) parts.1

map-append-one : {A B : Type 0} (f : A → B) (xs : List A) (x : A) → map f (xs ++ x ∷ []) ≡ map f xs ++ f x ∷ []
map-append-one f [] x = refl
map-append-one f (y ∷ xs) x = ap (λ ys. f y ∷ ys) (map-append-one f xs x)

-- one more is read
pub read-more : {A B : Type 0} (f : A → B) (xs : List A) (k : ℕ) (d : A) (old new : List B) (b : B) → k < length xs → b ≡ f (get_or xs k d)
    → old ≡ map f (take k xs) → new ≡ old ++ b ∷ [] → new ≡ map f (take (k + 1) xs)
read-more f xs k d old new b lt is before pushed =
    pushed
    ∙ (ap (λ ys. ys ++ b ∷ []) before
    ∙ (ap (λ y. map f (take k xs) ++ y ∷ []) is
    ∙ (sym (map-append-one f (take k xs) (get_or xs k d)) ∙ ap (map f) (sym (take_more xs k d lt)))))

-- the bits of one more frame
pub inputs-more : (c : Circuit) (start : List Start) (q : Query) (values : ℕ → Bool) (old new : List (List Bool)) (bits : List Bool) (j : ℕ)
    → bits ≡ input_in c values (table c start q j) → old ≡ map (input_in c values) (map (table c start q) (range_with_len 0 j))
    → new ≡ old ++ bits ∷ [] → new ≡ map (input_in c values) (map (table c start q) (range_with_len 0 (j + 1)))
inputs-more c start q values old new bits j is before pushed =
    pushed
    ∙ (ap (λ (bss : List (List Bool)). bss ++ bits ∷ []) before
    ∙ (ap (λ (bs : List Bool). map (input_in c values) (map (table c start q) (range_with_len 0 j)) ++ bs ∷ []) is
    ∙ (sym (map-append-one (input_in c values) (map (table c start q) (range_with_len 0 j)) (table c start q j))
    ∙ ap (map (input_in c values)) (sym (map-range_with_len_more (table c start q) 0 j j (omega arith))))))

-- frames that give nodes the same literals have the same bits
pub bits-same : (values : ℕ → Bool) (f g : Frame) (m : ℕ) (ls : List ℤ) → Agree m f g → All (Names m) ls
    → map (λ l. literal_value values (literal_in f l)) ls ≡ map (λ l. literal_value values (literal_in g l)) ls
bits-same values f g m [] same names = refl
bits-same values f g m (l ∷ ls) same names =
    ap (λ (lit : ℕ). literal_value values lit ∷ map (λ z. literal_value values (literal_in f z)) ls) (literal-same f g m l same (names 0 l (omega arith)))
    ∙ ap (λ (bs : List Bool). literal_value values (literal_in g l) ∷ bs) (bits-same values f g m ls same (λ k d lt. names (suc k) d (omega arith)))

-- a run that is read
pub run-read : (c : Circuit) (start : List Start) (q : Query) (values : ℕ → Bool) (f : Frame) (state : List Bool) (inputs : List (List Bool))
    → Agree (length c.nodes) f (table c start q 0) → All (Names (length c.nodes)) c.state_in
    → state ≡ map (λ l. literal_value values (literal_in f l)) c.state_in → inputs ≡ map (input_in c values) (frames c start q)
    → run_with state inputs ≡ run_of c start q values
run-read c start q values f state inputs same names is are =
    ap (λ (bs : List Bool). run_with bs inputs) (is ∙ bits-same values f (table c start q 0) (length c.nodes) c.state_in same names)
    ∙ ap (λ (bss : List (List Bool)). run_with (map (λ l. literal_value values (literal_in (table c start q 0) l)) c.state_in) bss) are
