-- Values put into their bits of a frame, one after another.
use Rattle.std.proofs.Common.{◌≡◌, ◌++◌, ℕ, zero, suc, ◌<◌, ◌≤◌, List, [], ◌∷◌, length, Bool, true, false, cond, get_or, set, take, drop, refl, ap, sym, subst, ◌∙◌, append_assoc, append-nil, arith, map, filter}
use Rattle.std.proofs.Math.Seq.{take-suc-set, take-suc, drop-cons}
use Rattle.std.proofs.lemmas.List.{drop-set-lt, take_all, drop_all, length-map}
use Rattle.pv_bool.specs.declared.program.BitRole.{BitRole}
use Rattle.pv_bool.specs.declared.program.BitRole.TheVariants.{Input, Kept}
use Rattle.pv_bool.specs.declared.program.Bit.{Bit}
use Rattle.pv_bool.specs.Roles.{is_input, is_kept}
use Rattle.pv_bool.specs.Scans.{Bits, first, others, state_of, input_of, begin, start}
use Rattle.pv_bool_judged.specs.Placing.{takes, placed}

-- ---- the frame is that of a scan's beginning

pub placed-input : (bits : List Bit) (input frame : Bits) → placed false bits input frame ≡ begin bits (state_of bits frame) input
placed-input [] input frame = refl
placed-input (b ∷ bits) input frame = by b.role (placed-input bits (others input) (others frame)) (placed-input bits input (others frame))
  where
    by : (r : BitRole) → placed false bits (others input) (others frame) ≡ begin bits (state_of bits (others frame)) (others input)
        → placed false bits input (others frame) ≡ begin bits (state_of bits (others frame)) input
        → cond (is_input r) (first input ∷ placed false bits (others input) (others frame)) (first frame ∷ placed false bits input (others frame))
        ≡ cond (is_input r) (first input ∷ begin bits (cond (is_kept r) (first frame ∷ state_of bits (others frame)) (state_of bits (others frame))) (others input))
        (first (cond (is_kept r) (first frame ∷ state_of bits (others frame)) (state_of bits (others frame)))
        ∷ begin bits (others (cond (is_kept r) (first frame ∷ state_of bits (others frame)) (state_of bits (others frame)))) input)
    by Input taken left = ap (λ (rest : Bits). first input ∷ rest) taken
    by Kept taken left = ap (λ (rest : Bits). first frame ∷ rest) left

pub placed-state : (bits : List Bit) (state frame : Bits) → placed true bits state frame ≡ begin bits state (input_of bits frame)
placed-state [] state frame = refl
placed-state (b ∷ bits) state frame = by b.role (placed-state bits state (others frame)) (placed-state bits (others state) (others frame))
  where
    by : (r : BitRole) → placed true bits state (others frame) ≡ begin bits state (input_of bits (others frame))
        → placed true bits (others state) (others frame) ≡ begin bits (others state) (input_of bits (others frame))
        → cond (is_kept r) (first state ∷ placed true bits (others state) (others frame)) (first frame ∷ placed true bits state (others frame))
        ≡ cond (is_input r) (first (cond (is_input r) (first frame ∷ input_of bits (others frame)) (input_of bits (others frame)))
        ∷ begin bits state (others (cond (is_input r) (first frame ∷ input_of bits (others frame)) (input_of bits (others frame)))))
        (first state ∷ begin bits (others state) (cond (is_input r) (first frame ∷ input_of bits (others frame)) (input_of bits (others frame))))
    by Input left taken = ap (λ (rest : Bits). first frame ∷ rest) left
    by Kept left taken = ap (λ (rest : Bits). first state ∷ rest) taken

-- the starts of all bits have the state's
pub state-starts : (bits : List Bit) → state_of bits (map (λ (b : Bit). b.start) bits) ≡ start bits
state-starts [] = refl
state-starts (b ∷ bits) = by b.role (state-starts bits)
  where
    by : (r : BitRole) → state_of bits (map (λ (c : Bit). c.start) bits) ≡ start bits
        → cond (is_kept r) (b.start ∷ state_of bits (map (λ (c : Bit). c.start) bits)) (state_of bits (map (λ (c : Bit). c.start) bits))
        ≡ map (λ (c : Bit). c.start) (cond (is_kept r) (b ∷ filter (λ (c : Bit). is_kept c.role) bits) (filter (λ (c : Bit). is_kept c.role) bits))
    by Input more = more
    by Kept more = ap (λ (rest : Bits). b.start ∷ rest) more

-- ---- the loop

first-drop : (l : Bits) (n : ℕ) → first (drop n l) ≡ get_or l n false
first-drop [] zero = refl
first-drop [] (suc n) = refl
first-drop (x ∷ xs) zero = refl
first-drop (x ∷ xs) (suc n) = first-drop xs n

others-drop : (l : Bits) (n : ℕ) → others (drop n l) ≡ drop (suc n) l
others-drop [] zero = refl
others-drop [] (suc n) = refl
others-drop (x ∷ xs) zero = refl
others-drop (x ∷ xs) (suc n) = others-drop xs n

-- the bits before n have their values
pub record IsPut (kept : Bool) (bits : List Bit) (values begun : Bits) (n next : ℕ) (frame : Bits) : Type 0 where
  pub few : next ≤ n
  pub same : take n frame ++ placed kept (drop n bits) (drop next values) (drop n frame) ≡ placed kept bits values begun

module _ (kept : Bool) (bits : List Bit) (values : Bits) where
  -- what is placed from bit n on begins with it
  placed-at : (n next : ℕ) (frame : Bits) (b : Bit) (taken : Bool) → n < length bits → takes kept (get_or bits n b).role ≡ taken
      → placed kept (drop n bits) (drop next values) (drop n frame)
      ≡ cond taken (get_or values next false ∷ placed kept (drop (suc n) bits) (drop (suc next) values) (drop (suc n) frame))
      (get_or frame n false ∷ placed kept (drop (suc n) bits) (drop next values) (drop (suc n) frame))
  placed-at n next frame b taken lt role =
      ap (λ (bs : List Bit). placed kept bs (drop next values) (drop n frame)) (drop-cons bits n b lt)
      ∙ ap (λ (x : Bool). cond x (first (drop next values) ∷ placed kept (drop (suc n) bits) (others (drop next values)) (others (drop n frame)))
      (first (drop n frame) ∷ placed kept (drop (suc n) bits) (drop next values) (others (drop n frame)))) role
      ∙ ap (λ (fs : Bits). cond taken (first (drop next values) ∷ placed kept (drop (suc n) bits) (others (drop next values)) fs)
      (first (drop n frame) ∷ placed kept (drop (suc n) bits) (drop next values) fs)) (others-drop frame n)
      ∙ ap (λ (v : Bool). cond taken (first (drop next values) ∷ placed kept (drop (suc n) bits) (others (drop next values)) (drop (suc n) frame))
      (v ∷ placed kept (drop (suc n) bits) (drop next values) (drop (suc n) frame))) (first-drop frame n)
      ∙ ap (λ (v : Bool). cond taken (v ∷ placed kept (drop (suc n) bits) (others (drop next values)) (drop (suc n) frame))
      (get_or frame n false ∷ placed kept (drop (suc n) bits) (drop next values) (drop (suc n) frame))) (first-drop values next)
      ∙ ap (λ (vs : Bits). cond taken (get_or values next false ∷ placed kept (drop (suc n) bits) vs (drop (suc n) frame))
      (get_or frame n false ∷ placed kept (drop (suc n) bits) (drop next values) (drop (suc n) frame))) (others-drop values next)

  -- a bit that takes a value
  pub put-taken : (begun frame changed : Bits) (n next to after : ℕ) (b : Bit) (v : Bool) → length frame ≡ length bits → n < length bits
      → takes kept (get_or bits n b).role ≡ true → to ≡ suc n → after ≡ suc next → changed ≡ set frame n v → v ≡ get_or values next false
      → IsPut kept bits values begun n next frame → IsPut kept bits values begun to after changed
  put-taken begun frame changed n next to after b v len lt role is_to is_after is_changed is so_far =
      let rest = placed kept (drop (suc n) bits) (drop (suc next) values) (drop (suc n) frame) in
      subst (λ (m : ℕ). IsPut kept bits values begun m after changed) (sym is_to)
      (subst (λ (m : ℕ). IsPut kept bits values begun (suc n) m changed) (sym is_after)
      (subst (λ (l : Bits). IsPut kept bits values begun (suc n) (suc next) l) (sym is_changed) (record {
        few = omega (arith, so_far.few);
        same = ap (λ (f : Bits). f ++ placed kept (drop (suc n) bits) (drop (suc next) values) (drop (suc n) (set frame n v)))
            (take-suc-set frame n v (omega (arith, len, lt)))
            ∙ ap (λ (f : Bits). (take n frame ++ v ∷ []) ++ placed kept (drop (suc n) bits) (drop (suc next) values) f)
            (drop-set-lt (suc n) frame n v (omega arith))
            ∙ append_assoc (take n frame) (v ∷ []) rest
            ∙ ap (λ (x : Bool). take n frame ++ x ∷ rest) is
            ∙ ap (λ (l : Bits). take n frame ++ l) (sym (placed-at n next frame b true lt role))
            ∙ so_far.same;
      })))

  -- a bit that doesn't
  pub put-left : (begun frame changed : Bits) (n next to after : ℕ) (b : Bit) → length frame ≡ length bits → n < length bits
      → takes kept (get_or bits n b).role ≡ false → to ≡ suc n → after ≡ next → changed ≡ frame
      → IsPut kept bits values begun n next frame → IsPut kept bits values begun to after changed
  put-left begun frame changed n next to after b len lt role is_to is_after is_changed so_far =
      let rest = placed kept (drop (suc n) bits) (drop next values) (drop (suc n) frame) in
      subst (λ (m : ℕ). IsPut kept bits values begun m after changed) (sym is_to)
      (subst (λ (m : ℕ). IsPut kept bits values begun (suc n) m changed) (sym is_after)
      (subst (λ (l : Bits). IsPut kept bits values begun (suc n) next l) (sym is_changed) (record {
        few = omega (arith, so_far.few);
        same = ap (λ (f : Bits). f ++ rest) (take-suc frame n false (omega (arith, len, lt)))
            ∙ append_assoc (take n frame) (get_or frame n false ∷ []) rest
            ∙ ap (λ (l : Bits). take n frame ++ l) (sym (placed-at n next frame b false lt role))
            ∙ so_far.same;
      })))

  pub put-none : (begun : Bits) → IsPut kept bits values begun 0 0 begun
  put-none begun = record { few = omega arith; same = refl }

  pub put-all : (begun frame : Bits) (n next : ℕ) → length frame ≡ length bits → length bits ≤ n → IsPut kept bits values begun n next frame
      → frame ≡ placed kept bits values begun
  put-all begun frame n next len le so_far =
      sym (ap (λ (f : Bits). f ++ placed kept (drop n bits) (drop next values) (drop n frame)) (take_all n frame (omega (arith, len, le)))
      ∙ ap (λ (bs : List Bit). frame ++ placed kept bs (drop next values) (drop n frame)) (drop_all n bits le)
      ∙ append-nil frame)
      ∙ so_far.same

-- ---- the starts

pub starts-put : (bits : List Bit) (frame changed : Bits) (n to : ℕ) (v : Bool) (b : Bit) → length frame ≡ length bits → n < length bits → to ≡ suc n
    → changed ≡ set frame n v → v ≡ (get_or bits n b).start → take n frame ≡ take n (map (λ (c : Bit). c.start) bits)
    → take to changed ≡ take to (map (λ (c : Bit). c.start) bits)
starts-put bits frame changed n to v b len lt is_to is_changed is so_far =
    ap (λ (m : ℕ). take m changed) is_to
    ∙ ap (λ (f : Bits). take (suc n) f) is_changed
    ∙ take-suc-set frame n v (omega (arith, len, lt))
    ∙ ap (λ (f : Bits). f ++ v ∷ []) so_far
    ∙ ap (λ (x : Bool). take n (map (λ (c : Bit). c.start) bits) ++ x ∷ []) (is ∙ sym (get-start bits n b lt))
    ∙ sym (take-suc (map (λ (c : Bit). c.start) bits) n false (omega (arith, lt, length-map bits (λ (c : Bit). c.start))))
    ∙ ap (λ (m : ℕ). take m (map (λ (c : Bit). c.start) bits)) (sym is_to)
  where
    get-start : (bits : List Bit) (n : ℕ) (b : Bit) → n < length bits → get_or (map (λ (c : Bit). c.start) bits) n false ≡ (get_or bits n b).start
    get-start [] n b lt = absurd (omega (arith, lt))
    get-start (c ∷ bits) zero b lt = refl
    get-start (c ∷ bits) (suc n) b lt = get-start bits n b (omega (arith, lt))

pub starts-all : (bits : List Bit) (frame : Bits) (n : ℕ) → length frame ≡ length bits → length bits ≤ n
    → take n frame ≡ take n (map (λ (c : Bit). c.start) bits) → frame ≡ map (λ (c : Bit). c.start) bits
starts-all bits frame n len le so_far =
    let long = length-map bits (λ (c : Bit). c.start) in
    sym (take_all n frame (omega (arith, len, le))) ∙ so_far ∙ take_all n (map (λ (c : Bit). c.start) bits) (omega (arith, le, long))
