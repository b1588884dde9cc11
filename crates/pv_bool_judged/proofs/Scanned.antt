-- Scans of a program, one after another, as a stretch of its machine.
use Rattle.std.proofs.Common.{◌≡◌, ◌+◌, ℕ, suc, ◌<◌, List, [], ◌∷◌, length, true, false, not, get_or, drop, Option, Some, None, refl, ap, sym, subst, ◌∙◌, arith}
use Rattle.std.proofs.Math.Seq.{drop-cons}
use Rattle.std.proofs.lemmas.List.{drop_all}
use Rattle.pv_machine.specs.Machines.{Values, done}
use Rattle.pv_machine.specs.Queries.{IsGoodScan}
use Rattle.pv_claims.specs.declared.trace.Ending.TheVariants as ending
use Rattle.pv_stretch.specs.declared.ends.StretchEnd.{StretchEnd}
use Rattle.pv_stretch.specs.declared.ends.StretchEnd.TheVariants as end
use Rattle.pv_bool.specs.Tree.{ProgramTree}
use Rattle.pv_bool.specs.Scans.{Bits, next_state, keeps}
use Rattle.pv_bool.specs.Machine.{numbers_of, bits_of, machine_of}
use Rattle.pv_bool.proofs.ForCallers.{bits_of-numbers_of}
use Rattle.pv_valid.specs.Shown.{EndsStretch, IsStretch}

-- n scans were good, and the frame has the state that they leave
pub record GoesOn (program : ProgramTree) (state : Bits) (inputs : List Values) (n : ℕ) (now : Bits) : Type 0 where
  pub on : (good : ℕ) (end : Option StretchEnd) → IsStretch (machine_of program) (numbers_of now) (drop n inputs) good end
      → IsStretch (machine_of program) (numbers_of state) inputs (n + good) end

module _ (program : ProgramTree) where
  good-scan : (state next : Bits) (i : Values) → keeps program state (bits_of i) ≡ true → next ≡ next_state program state (bits_of i)
      → IsGoodScan (machine_of program) (numbers_of state) i (numbers_of next)
  good-scan state next i holds is = record {
    done = ap (λ (s : Bits). done (numbers_of (next_state program s (bits_of i)))) (bits_of-numbers_of state)
        ∙ ap (λ (s : Bits). done (numbers_of s)) (sym is);
    keeps = ap (λ (s : Bits). not (keeps program s (bits_of i))) (bits_of-numbers_of state) ∙ ap not holds;
  }

  last-scan : (state : Bits) (i : Values) → keeps program state (bits_of i) ≡ false
      → EndsStretch (machine_of program) (numbers_of state) i (end.Fails ending.Pattern)
  last-scan state i fails = (ap (λ (s : Bits). not (keeps program s (bits_of i))) (bits_of-numbers_of state) ∙ ap not fails, refl)

  pub none-scanned : (state : Bits) (inputs : List Values) → GoesOn program state inputs 0 state
  none-scanned state inputs = record {
    on = λ good end h.
        let same : good ≡ 0 + good = omega arith in
        subst (λ (k : ℕ). IsStretch (machine_of program) (numbers_of state) inputs k end) same h;
  }

  pub one-scanned : (state now next : Bits) (inputs : List Values) (n : ℕ) (d i : Values) → n < length inputs → i ≡ get_or inputs n d
      → keeps program now (bits_of i) ≡ true → next ≡ next_state program now (bits_of i)
      → GoesOn program state inputs n now → GoesOn program state inputs (n + 1) next
  one-scanned state now next inputs n d i lt at holds is so_far = record {
    on = λ good end h.
        let more : n + suc good ≡ n + 1 + good = omega arith in
        let behind : n + 1 ≡ suc n = omega arith in
        let left : i ∷ drop (suc n) inputs ≡ drop n inputs =
        sym (drop-cons inputs n d lt ∙ ap (λ (x : Values). x ∷ drop (suc n) inputs) (sym at)) in
        let rest = subst (λ (k : ℕ). IsStretch (machine_of program) (numbers_of next) (drop k inputs) good end) behind h in
        let whole : IsStretch (machine_of program) (numbers_of now) (i ∷ drop (suc n) inputs) (suc good) end =
        (numbers_of next, good-scan now next i holds is, rest) in
        subst (λ (k : ℕ). IsStretch (machine_of program) (numbers_of state) inputs k end) more
        (so_far.on (suc good) end (subst (λ (is : List Values). IsStretch (machine_of program) (numbers_of now) is (suc good) end) left whole));
  }

  pub fails-there : (state now : Bits) (inputs : List Values) (n : ℕ) (d i : Values) → n < length inputs → i ≡ get_or inputs n d
      → keeps program now (bits_of i) ≡ false → GoesOn program state inputs n now
      → IsStretch (machine_of program) (numbers_of state) inputs n (Some (end.Fails ending.Pattern))
  fails-there state now inputs n d i lt at fails so_far =
      let none : n + 0 ≡ n = omega arith in
      let left : i ∷ drop (suc n) inputs ≡ drop n inputs =
      sym (drop-cons inputs n d lt ∙ ap (λ (x : Values). x ∷ drop (suc n) inputs) (sym at)) in
      let last : IsStretch (machine_of program) (numbers_of now) (i ∷ drop (suc n) inputs) 0 (Some (end.Fails ending.Pattern)) = last-scan now i fails in
      subst (λ (k : ℕ). IsStretch (machine_of program) (numbers_of state) inputs k (Some (end.Fails ending.Pattern))) none
      (so_far.on 0 (Some (end.Fails ending.Pattern))
      (subst (λ (is : List Values). IsStretch (machine_of program) (numbers_of now) is 0 (Some (end.Fails ending.Pattern))) left last))

  pub none-fails : (state now : Bits) (inputs : List Values) (n : ℕ) → n ≡ length inputs → GoesOn program state inputs n now
      → IsStretch (machine_of program) (numbers_of state) inputs (length inputs) None
  none-fails state now inputs n is so_far =
      let all : n + 0 ≡ length inputs = omega (arith, is) in
      let empty : [] ≡ drop n inputs = sym (drop_all n inputs (omega (arith, is))) in
      let none : IsStretch (machine_of program) (numbers_of now) [] 0 None = tt in
      subst (λ (k : ℕ). IsStretch (machine_of program) (numbers_of state) inputs k None) all
      (so_far.on 0 None (subst (λ (is : List Values). IsStretch (machine_of program) (numbers_of now) is 0 None) empty none))
