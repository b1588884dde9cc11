-- A walk's stack: what a frame put on it, or taken off it, means for the leaves and the steps that are left.
use Rattle.std.specs.Prelude.{◌≡◌, ℕ, ◌+◌, ◌≤◌, List, [], ◌∷◌, ◌++◌, length, take, refl}
use Rattle.std.proofs.Common.{ap, subst, sym, ◌∙◌, append_assoc, arith}
use Rattle.std.proofs.lemmas.List.{take-append-le, append-nil}
use Rattle.std.proofs.Math.Seq.{take-length}
use Rattle.pv_types.specs.declared.leaf.Leaf.{Leaf}
use Rattle.pv_types.specs.declared.walk.Frame.{Frame}
use Rattle.pv_types.specs.Named.{NamedType}
use Rattle.pv_types.specs.declared.walk.Walk.{Walk}
use Rattle.pv_types.specs.declared.walk.Rest.{Rest}
use Rattle.pv_types.specs.declared.layout.TheConstants.{MAX_LEAVES}
use Rattle.pv_types.specs.Walk.{IsSound, Adds, leaves_of_rest, work_of_rest, pending, work_left, AreAbove, AreLow}

module _ (types : List NamedType) where
  abbrev pub leaves_of_frame : List ℕ → Frame → List Leaf
  leaves_of_frame path f = leaves_of_rest types f.levels (take f.path_len path) f.rest

  -- the top's leaves come first
  pub pending_push : (path : List ℕ) (fs : List Frame) (f : Frame)
      → pending types path (fs ++ f ∷ []) ≡ leaves_of_frame path f ++ pending types path fs
  pending_push path [] f = sym (append-nil (leaves_of_frame path f))
  pending_push path (g ∷ gs) f =
      ap (λ l. l ++ leaves_of_frame path g) (pending_push path gs f)
      ∙ append_assoc (leaves_of_frame path f) (pending types path gs) (leaves_of_frame path g)

  pub work_push : (fs : List Frame) (f : Frame) → work_left types (fs ++ f ∷ []) ≡ work_left types fs + work_of_rest types f.levels f.rest
  work_push [] f = omega arith
  work_push (g ∷ gs) f = omega (arith, work_push gs f)

  -- the leaves of the stack depend on no more of the path than its frames have
  pub pending_front : (path more : List ℕ) (fs : List Frame) → AreLow fs (length path)
      → pending types (path ++ more) fs ≡ pending types path fs
  pending_front path more [] low = refl
  pending_front path more (f ∷ fs) low =
      ap (λ front. pending types (path ++ more) fs ++ leaves_of_rest types f.levels front f.rest)
      (take-append-le f.path_len path more low.0)
      ∙ ap (λ l. l ++ leaves_of_frame path f) (pending_front path more fs low.2)

above_push : (m : ℕ) (fs : List Frame) (f : Frame) → AreAbove m fs → m ≤ f.path_len → AreAbove m (fs ++ f ∷ [])
above_push m [] f a le = (le, tt)
above_push m (g ∷ gs) f a le = (a.0, above_push m gs f a.1 le)

above_last : (m : ℕ) (fs : List Frame) (f : Frame) → AreAbove m (fs ++ f ∷ []) → AreAbove m fs × (m ≤ f.path_len)
above_last m [] f a = (tt, a.0)
above_last m (g ∷ gs) f a = let rest = above_last m gs f a.1 in ((a.0, rest.0), rest.1)

pub low_raise : (fs : List Frame) (m n : ℕ) → AreLow fs m → m ≤ n → AreLow fs n
low_raise [] m n low le = tt
low_raise (f ∷ fs) m n low le = (omega (arith, low.0, le), low.1, low_raise fs m n low.2 le)

pub low_push : (fs : List Frame) (f : Frame) (n : ℕ) → AreLow fs n → f.path_len ≡ n → AreLow (fs ++ f ∷ []) n
low_push [] f n low e = (omega (arith, e), tt, tt)
low_push (g ∷ gs) f n low e = (low.0, above_push g.path_len gs f low.1 (omega (arith, e, low.0)), low_push gs f n low.2 e)

pub low_pop : (fs : List Frame) (f : Frame) (n : ℕ) → AreLow (fs ++ f ∷ []) n → AreLow fs f.path_len × (f.path_len ≤ n)
low_pop [] f n low = (tt, low.0)
low_pop (g ∷ gs) f n low =
    let above = above_last g.path_len gs f low.1 in
    let rest = low_pop gs f n low.2 in
    ((above.1, above.0, rest.0), rest.1)

take-all : (path : List ℕ) → take (length path) path ≡ path
take-all path = take-length path

-- a frame on the whole path adds its leaves
pub framed : (types : List NamedType) (old new : Walk) (rest : Rest) (levels len : ℕ) → IsSound old → len ≡ length old.path.items
    → new.frames.items ≡ old.frames.items ++ record { rest = rest; path_len = len; levels = levels } ∷ []
    → new.path.items ≡ old.path.items → new.leaves.items ≡ old.leaves.items
    → Adds types old new (leaves_of_rest types levels old.path.items rest) (work_of_rest types levels rest)
framed types old new rest levels len sound e frames path leaves =
    let f : Frame = record { rest = rest; path_len = len; levels = levels } in
    let front : take len old.path.items ≡ old.path.items = ap (λ n. take n old.path.items) e ∙ take-all old.path.items in
    let found : pending types new.path.items new.frames.items ≡ leaves_of_rest types levels old.path.items rest
    ++ pending types old.path.items old.frames.items =
    ap (λ p. pending types p new.frames.items) path ∙ ap (pending types old.path.items) frames
    ∙ pending_push types old.path.items old.frames.items f
    ∙ ap (λ p. leaves_of_rest types levels p rest ++ pending types old.path.items old.frames.items) front in
    record {
      sound = record {
        low = subst (λ p. AreLow new.frames.items (length p)) (sym path)
            (subst (λ fs. AreLow fs (length old.path.items)) (sym frames)
            (low_push old.frames.items f (length old.path.items) sound.low e));
        room = subst (λ ls. length ls ≤ MAX_LEAVES) (sym leaves) sound.room;
      };
      total = ap (λ l. l ++ pending types new.path.items new.frames.items) leaves ∙ ap (λ l. old.leaves.items ++ l) found;
      work_falls = omega (arith, ap (work_left types) frames, work_push types old.frames.items f);
    }
