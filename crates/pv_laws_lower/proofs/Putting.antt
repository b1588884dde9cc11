-- A cell that takes a value in the frame, and its variable in the valuation: they agree behind it.
use Rattle.std.proofs.Common.{◌≡◌, ◌≢◌, ◌⊎◌, inl, inr, ◌≤◌, ◌<◌, ℕ, zero, suc, ℤ, pos, List, [], ◌∷◌, length, map, true, false, cond, Option, Some, None, refl, sym, ap, subst, ◌∙◌, arith}
use Rattle.std.specs.Prelude.{slice_get, slice_set, slice_index_or, ◌==◌}
use Rattle.std.proofs.lemmas.Bool.{eq-eqb, ne_eqb}
use Rattle.std.proofs.lemmas.Bool.Decides.{eqb_tells}
use Rattle.std.proofs.lemmas.Int.{ints}
use Rattle.std.proofs.lemmas.Option.{none-some, same_Some}
use Rattle.pv_word.specs.declared.types.Ty.{Ty}
use Rattle.pv_word.specs.declared.types.Ty.TheVariants.{Byte}
use Rattle.pv_word.specs.Types.{InRange, wrap_of}
use Rattle.pv_word.proofs.ForCallers.{wide, wrap-own}
use Rattle.pv_place.specs.Ranges.{range_of, AreWithin}
use Rattle.pv_mean.specs.declared.cell.Cell.{Cell}
use Rattle.pv_mean.specs.Sources.{Source}
use Rattle.pv_mean.specs.Frames.{Frame, visible_cells, visible_len, type_of_visible, visible_value, brief_value, with_visible, with_brief}
use Rattle.pv_mean.specs.Spots.{with_bit}
use Rattle.pv_mean.specs.Activations.{Activation}
use Rattle.pv_flow.specs.Terms.{Valuation}
use Rattle.pv_flow.specs.Runs.{put}
use Rattle.pv_variables.specs.Variables.{brief_variable}
use Rattle.pv_variables.specs.Correct.{BriefCellsAreApart}
use Rattle.pv_access.specs.Correct.{IsTold, through}
use Rattle.pv_laws_types.specs.Typed.{types_of_cells, visible_types, brief_types}
use Rattle.pv_laws_lower.specs.Agrees.{named_count, IsBrief, LieAt, Agrees, HasBriefCells}
use Rattle.pv_laws_lower.proofs.Roots.{visible_counted}
use Rattle.pv_laws_lower.proofs.Shown.{within_list}

-- ---- lists in which one element is set

set_here : {X : Type 0} (xs : List X) (n : ℕ) (y d : X) → n < length xs → slice_index_or (slice_set xs n y) n d ≡ y
set_here [] n y d lt = absurd (omega (arith, lt))
set_here (x ∷ xs) zero y d lt = refl
set_here (x ∷ xs) (suc n) y d lt = set_here xs n y d (omega (arith, lt))

set_other : {X : Type 0} (xs : List X) (n m : ℕ) (y d : X) → (m ≡ n → ⊥) → slice_index_or (slice_set xs n y) m d ≡ slice_index_or xs m d
set_other [] n m y d ne = refl
set_other (x ∷ xs) zero zero y d ne = absurd (ne refl)
set_other (x ∷ xs) zero (suc m) y d ne = refl
set_other (x ∷ xs) (suc n) zero y d ne = refl
set_other (x ∷ xs) (suc n) (suc m) y d ne = set_other xs n m y d (λ e. ne (ap suc e))

within_put : (cells : List Cell) (values : List ℤ) (n : ℕ) (ty : Ty) (x : ℤ) → AreWithin (map (λ c. range_of c.ty) cells) values
    → slice_get (types_of_cells cells) n ≡ Some ty → InRange ty x
    → AreWithin (map (λ c. range_of c.ty) cells) (slice_set values n x)
within_put [] values n ty x w is lies = absurd (none-some ty is)
within_put (c ∷ cs) [] n ty x w is lies = absurd w
within_put (c ∷ cs) (v ∷ vs) zero ty x w is lies =
    let here = subst (λ t. InRange t x) (sym (same_Some c.ty ty is)) lies in (record { from = here.from; to = here.to }, w.1)
within_put (c ∷ cs) (v ∷ vs) (suc n) ty x w is lies = (w.0, within_put cs vs n ty x w.1 is lies)

within_counted : (cells : List Cell) (values : List ℤ) → AreWithin (map (λ c. range_of c.ty) cells) values → length values ≡ length cells
within_counted [] [] w = refl
within_counted [] (v ∷ vs) w = absurd w
within_counted (c ∷ cs) [] w = absurd w
within_counted (c ∷ cs) (v ∷ vs) w = ap suc (within_counted cs vs w.1)

type_there : (cells : List Cell) (n : ℕ) (ty : Ty) → slice_get (types_of_cells cells) n ≡ Some ty → type_of_visible cells n ≡ ty
type_there [] n ty is = absurd (none-some ty is)
type_there (c ∷ cs) zero ty is = same_Some c.ty ty is
type_there (c ∷ cs) (suc n) ty is = type_there cs n ty is

-- ---- valuations in which one variable is put

put_here : (v : Valuation) (n m : ℕ) (x : ℤ) → m ≡ n → put v n x m ≡ x
put_here v n m x e = ap (λ b. cond b x (v m)) (eq-eqb m n e)

put_other : (v : Valuation) (n m : ℕ) (x : ℤ) → (m ≡ n → ⊥) → put v n x m ≡ v m
put_other v n m x ne = ap (λ b. cond b x (v m)) (ne_eqb m n ne)

told_same : (v u : Valuation) (n : ℕ) (o : Option ℤ) → u n ≡ v n → u (suc n) ≡ v (suc n) → IsTold v n o → IsTold u n o
told_same v u n None e f h = f ∙ h
told_same v u n (Some x) e f h = (e ∙ h.0, f ∙ h.1)

pub bit_fits : (b byte value : ℕ) → b < 8 → byte < 256 → value < 2 → with_bit byte b value < 256
bit_fits zero byte value few small one = omega arith
bit_fits (suc zero) byte value few small one = omega arith
bit_fits (suc (suc zero)) byte value few small one = omega arith
bit_fits (suc (suc (suc zero))) byte value few small one = omega arith
bit_fits (suc (suc (suc (suc zero)))) byte value few small one = omega arith
bit_fits (suc (suc (suc (suc (suc zero))))) byte value few small one = omega arith
bit_fits (suc (suc (suc (suc (suc (suc zero)))))) byte value few small one = omega arith
bit_fits (suc (suc (suc (suc (suc (suc (suc zero))))))) byte value few small one = omega arith
bit_fits (suc (suc (suc (suc (suc (suc (suc (suc b)))))))) byte value few small one = absurd (omega arith)

pub byte_fits : (n : ℕ) → n < 256 → InRange Byte (pos n)
byte_fits n lt = record { from = omega (arith, ints); to = omega (arith, ints) }

module _ (source : Source) (act : Activation) (place : ℕ → ℕ) (lie : LieAt source act place) where
  -- which variables a valuation has is all that counts
  pub agrees_same : (frame : Frame) (v u : Valuation) → ((n : ℕ) → u n ≡ v n) → Agrees source act place frame v
      → Agrees source act place frame u
  agrees_same frame v u same a = record {
    cells = a.cells;
    visible = λ n lt. same n ∙ a.visible n lt;
    brief = λ j lt. told_same (through place v) (through place u) (brief_variable source act.block j) (brief_value frame j)
        (same (place (brief_variable source act.block j))) (same (place (suc (brief_variable source act.block j)))) (a.brief j lt);
  }

  -- ---- visible cells

  is_first : (j : ℕ) → j < named_count source act.block → IsBrief source act.block (brief_variable source act.block j)
  is_first j lt = record { cell = j; within = lt; is = inl refl }

  is_set : (j : ℕ) → j < named_count source act.block → IsBrief source act.block (suc (brief_variable source act.block j))
  is_set j lt = record { cell = j; within = lt; is = inr refl }

  pub visible_put : (frame : Frame) (v : Valuation) (m : ℕ) (ty : Ty) (x : ℤ) → slice_get (visible_types source) m ≡ Some ty → InRange ty x
      → Agrees source act place frame v → Agrees source act place (with_visible source frame m x) (put v m x)
  visible_put frame v m ty x has lies a =
      subst (λ (f : Frame). Agrees source act place f (put v m x))
      (ap (λ (y : ℤ). record { visible = slice_set frame.visible m y; brief = frame.brief }) (sym own)) there
    where
      own : wrap_of (type_of_visible (visible_cells source.cells) m) x ≡ x
      own = ap (λ (t : Ty). wrap_of t x) (type_there (visible_cells source.cells) m ty has) ∙ wrap-own (wide ty) lies

      within : m < visible_len source.cells
      within = let lt = within_list (visible_types source) m ty has in let e = visible_counted source in omega (arith, lt, e)

      room : m < length frame.visible
      room = let e = within_counted (visible_cells source.cells) frame.visible a.cells.visible in let lt = within in omega (arith, e, lt)

      apart : (n : ℕ) → visible_len source.cells ≤ n → n ≡ m → ⊥
      apart n le e = let lt = within in omega (arith, lt, le, e)

      to : Frame
      to = record { visible = slice_set frame.visible m x; brief = frame.brief }

      shows : (n : ℕ) → n < visible_len source.cells → (((n == m) ≡ true) × (n ≡ m)) ⊎ (((n == m) ≡ false) × (n ≢ m))
          → put v m x n ≡ visible_value to n
      shows n lt (inl e) =
          put_here v m n x e.1 ∙ sym (ap (λ (k : ℕ). slice_index_or (slice_set frame.visible m x) k (pos 0)) e.1 ∙ set_here frame.visible m x (pos 0) room)
      shows n lt (inr e) = put_other v m n x e.1 ∙ a.visible n lt ∙ sym (set_other frame.visible m n x (pos 0) e.1)

      there : Agrees source act place to (put v m x)
      there = record {
        cells = record {
          visible = within_put (visible_cells source.cells) frame.visible m ty x a.cells.visible has lies;
          brief = a.cells.brief;
        };
        visible = λ n lt. shows n lt (eqb_tells n m);
        brief = λ j lt. told_same (through place v) (through place (put v m x)) (brief_variable source act.block j) (brief_value frame j)
            (put_other v m (place (brief_variable source act.block j)) x (apart (place (brief_variable source act.block j)) (lie.behind _ (is_first j lt))))
            (put_other v m (place (suc (brief_variable source act.block j))) x
            (apart (place (suc (brief_variable source act.block j))) (lie.behind _ (is_set j lt)))) (a.brief j lt);
      }

  -- ---- brief cells

  pub brief_put : BriefCellsAreApart → (frame : Frame) (v : Valuation) (j : ℕ) (ty : Ty) (x : ℤ) → HasBriefCells source act frame
      → j < named_count source act.block
      → slice_get (brief_types source act) j ≡ Some ty → InRange ty x → Agrees source act place frame v
      → Agrees source act place (with_brief frame ty j x)
      (put (put v (place (brief_variable source act.block j)) x) (place (suc (brief_variable source act.block j))) (pos 1))
  brief_put cells frame v j ty x full within has lies a =
      subst (λ (y : ℤ). Agrees source act place (record { visible = frame.visible; brief = slice_set frame.brief j (Some y) }) u)
      (sym (wrap-own (wide ty) lies)) there
    where
      n : ℕ
      n = brief_variable source act.block j

      u : Valuation
      u = put (put v (place n) x) (place (suc n)) (pos 1)

      to : Frame
      to = record { visible = frame.visible; brief = slice_set frame.brief j (Some x) }

      room : j < length frame.brief
      room = omega (arith, full, within)

      -- any other variable stays
      other : (m : ℕ) → (m ≡ place n → ⊥) → (m ≡ place (suc n) → ⊥) → u m ≡ v m
      other m p q = put_other (put v (place n) x) (place (suc n)) m (pos 1) q ∙ put_other v (place n) m x p

      not_next : (k : ℕ) → k ≡ suc k → ⊥
      not_next k e = omega (arith, e)

      told_here : IsTold (through place u) n (Some x)
      told_here = (
        put_other (put v (place n) x) (place (suc n)) (place n) (pos 1) (λ e. not_next n (lie.apart n (suc n) (is_first j within) (is_set j within) e))
            ∙ put_here v (place n) (place n) x refl,
        put_here (put v (place n) x) (place (suc n)) (place (suc n)) (pos 1) refl,
      )

      two : (p q : ℕ) → suc p ≡ suc q → p ≡ q
      two p q e = omega (arith, e)

      told_there : (i : ℕ) → i < named_count source act.block → (i ≡ j → ⊥)
          → IsTold (through place u) (brief_variable source act.block i) (brief_value to i)
      told_there i lt ne =
          let b = brief_variable source act.block i in
          let c = cells.apart source act.block i j lt within ne in
          let d = cells.apart source act.block j i within lt (λ e. ne (sym e)) in
          told_same (through place v) (through place u) b (brief_value to i)
          (other (place b) (λ e. c.0 (lie.apart b n (is_first i lt) (is_first j within) e)) (λ e. c.1 (lie.apart b (suc n) (is_first i lt) (is_set j within) e)))
          (other (place (suc b)) (λ e. d.1 (sym (lie.apart (suc b) n (is_set i lt) (is_first j within) e)))
          (λ e. c.0 (two b n (lie.apart (suc b) (suc n) (is_set i lt) (is_set j within) e))))
          (subst (IsTold (through place v) b) (sym (set_other frame.brief j i (Some x) None ne)) (a.brief i lt))

      told_any : (i : ℕ) → i < named_count source act.block → (((i == j) ≡ true) × (i ≡ j)) ⊎ (((i == j) ≡ false) × (i ≢ j))
          → IsTold (through place u) (brief_variable source act.block i) (brief_value to i)
      told_any i lt (inl e) =
          subst (λ (k : ℕ). IsTold (through place u) (brief_variable source act.block k) (brief_value to k)) (sym e.1)
          (subst (IsTold (through place u) n) (sym (set_here frame.brief j (Some x) None room)) told_here)
      told_any i lt (inr e) = told_there i lt e.1

      lies_any : (i : ℕ) (t : Ty) (y : ℤ) → slice_get (brief_types source act) i ≡ Some t → brief_value to i ≡ Some y
          → (((i == j) ≡ true) × (i ≡ j)) ⊎ (((i == j) ≡ false) × (i ≢ j)) → InRange t y
      lies_any i t y is value (inl e) =
          let same_type = same_Some ty t (sym has ∙ ap (slice_get (brief_types source act)) (sym e.1) ∙ is) in
          let same_value = same_Some x y (sym (set_here frame.brief j (Some x) None room) ∙ ap (brief_value to) (sym e.1) ∙ value) in
          subst (λ (z : ℤ). InRange t z) same_value (subst (λ (s : Ty). InRange s x) same_type lies)
      lies_any i t y is value (inr e) = a.cells.brief i t y is (sym (set_other frame.brief j i (Some x) None e.1) ∙ value)

      visible_other : (k m : ℕ) → k < visible_len source.cells → visible_len source.cells ≤ m → k ≡ m → ⊥
      visible_other k m lt le e = omega (arith, lt, le, e)

      there : Agrees source act place to u
      there = record {
        cells = record { visible = a.cells.visible; brief = λ i t y is value. lies_any i t y is value (eqb_tells i j) };
        visible = λ k lt. other k (visible_other k (place n) lt (lie.behind n (is_first j within)))
            (visible_other k (place (suc n)) lt (lie.behind (suc n) (is_set j within))) ∙ a.visible k lt;
        brief = λ i lt. told_any i lt (eqb_tells i j);
      }
