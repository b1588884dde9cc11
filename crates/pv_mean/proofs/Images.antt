-- Images at a scan's beginning and behind it: their lengths and their ranges. A step goes by the role of its cell, so it has a name
-- of its own, over the fields of the cell.
use Rattle.std.proofs.Common.{◌≡◌, ℕ, zero, suc, List, [], ◌∷◌, length, ℤ, set, Option, Some, None, refl, ap, subst, ◌∙◌, map, arith}
use Rattle.std.specs.Prelude.{◌≤ℤ◌}
use Rattle.std.proofs.lemmas.Int.{ints}
use Rattle.std.specs.List.{AllByRecursion}
use Rattle.std.proofs.lemmas.List.{length-set}
use Rattle.pv_word.specs.declared.types.Ty.{Ty}
use Rattle.pv_word.specs.Types.{InRange, wrap_of, width_of, is_signed_of}
use Rattle.pv_word.proofs.ForCallers.{wide, wrap-in_range}
use Rattle.pv_place.specs.declared.role.Role.{Role}
use Rattle.pv_place.specs.declared.role.Role.TheVariants.{Input as InputRole, Param, Kept, Brief}
use Rattle.pv_place.specs.Ranges.{range_of, range_at, IsWithin, AreWithin}
use Rattle.pv_mean.specs.declared.cell.Cell.{Cell}
use Rattle.pv_mean.specs.Sources.{Source}
use Rattle.pv_mean.specs.Frames.{Image, Input, Params, others, visible_cells, image_len, visible_len, visible_ranges, image_ranges, input_ranges, param_ranges, start_image, begin, image_after, type_of_visible}
use Rattle.pv_mean.specs.Endings.{Ended, ended}
use Rattle.pv_mean.specs.Scans.{scan}
use Rattle.pv_mean.specs.Doings.{HoldsOf}
use Rattle.pv_mean.specs.Correct.{BindsInRange}
use Rattle.pv_mean.specs.Cells.{most_calls}
use Rattle.pv_mean.proofs.VisibleCells.{IsSafe, safe-scan}

-- ---- how long they are

pub length-begin : (cells : List Cell) (image : Image) (input : Input) → length (begin cells image input) ≡ visible_len cells
length-begin [] image input = refl
length-begin (c ∷ cs) image input = lead (λ im inp. length-begin cs im inp) c.path c.ty c.start c.role c.bound
  where
    lead : ((im : Image) (inp : Input) → length (begin cs im inp) ≡ visible_len cs) → (p : List ℕ) (t : Ty) (s : ℤ) (r : Role) (b : Option ℤ)
        → length (begin (record { path = p; ty = t; start = s; role = r; bound = b } ∷ cs) image input)
        ≡ visible_len (record { path = p; ty = t; start = s; role = r; bound = b } ∷ cs)
    lead ih p t s InputRole b = ap suc (ih image (others input))
    lead ih p t s Param b = ap suc (ih (others image) input)
    lead ih p t s Kept b = ap suc (ih (others image) input)
    lead ih p t s Brief b = ih image input

pub length-image_after : (cells : List Cell) (begun end : List ℤ) → length (image_after cells begun end) ≡ image_len cells
length-image_after [] begun end = refl
length-image_after (c ∷ cs) begun end = lead (λ bg en. length-image_after cs bg en) c.path c.ty c.start c.role c.bound
  where
    lead : ((bg en : List ℤ) → length (image_after cs bg en) ≡ image_len cs) → (p : List ℕ) (t : Ty) (s : ℤ) (r : Role) (b : Option ℤ)
        → length (image_after (record { path = p; ty = t; start = s; role = r; bound = b } ∷ cs) begun end)
        ≡ image_len (record { path = p; ty = t; start = s; role = r; bound = b } ∷ cs)
    lead ih p t s InputRole b = ih (others begun) (others end)
    lead ih p t s Param b = ap suc (ih (others begun) (others end))
    lead ih p t s Kept b = ap suc (ih (others begun) (others end))
    lead ih p t s Brief b = ih begun end

pub length-start_image : (cells : List Cell) (params : Params) → length (start_image cells params) ≡ image_len cells
length-start_image [] params = refl
length-start_image (c ∷ cs) params = lead (λ ps. length-start_image cs ps) c.path c.ty c.start c.role c.bound
  where
    lead : ((ps : Params) → length (start_image cs ps) ≡ image_len cs) → (p : List ℕ) (t : Ty) (s : ℤ) (r : Role) (b : Option ℤ)
        → length (start_image (record { path = p; ty = t; start = s; role = r; bound = b } ∷ cs) params)
        ≡ image_len (record { path = p; ty = t; start = s; role = r; bound = b } ∷ cs)
    lead ih p t s InputRole b = ih params
    lead ih p t s Param None = ap suc (ih (others params))
    lead ih p t s Param (Some v) = ap suc (ih params)
    lead ih p t s Kept b = ap suc (ih params)
    lead ih p t s Brief b = ih params

-- ---- ranges

pub within-wrap : (ty : Ty) (v : ℤ) → IsWithin (range_of ty) (wrap_of ty v)
within-wrap ty v =
    let h = wrap-in_range (width_of ty) (is_signed_of ty) v (wide ty) in
    record { from = h.from; to = h.to }

pub within-set : (cells : List Cell) (values : List ℤ) (n : ℕ) (v : ℤ) → AreWithin (map (λ c. range_of c.ty) cells) values
    → AreWithin (map (λ c. range_of c.ty) cells) (set values n (wrap_of (type_of_visible cells n) v))
within-set [] [] n v is = is
within-set [] (w ∷ ws) n v is = absurd is
within-set (c ∷ cs) [] n v is = absurd is
within-set (c ∷ cs) (w ∷ ws) zero v is = (within-wrap c.ty v, is.1)
within-set (c ∷ cs) (w ∷ ws) (suc n) v is = (is.0, within-set cs ws n v is.1)

safe-ranges : (source : Source) → IsSafe (AreWithin (visible_ranges source.cells)) source
safe-ranges source values n v is = within-set (visible_cells source.cells) values n v is

-- at a scan's beginning all visible cells have values of their types, where the bindings are such
pub within-begin : (cells : List Cell) (image : Image) (input : Input) → AllByRecursion BindsInRange cells
    → AreWithin (image_ranges cells) image → AreWithin (input_ranges cells) input
    → AreWithin (visible_ranges cells) (begin cells image input)
within-begin [] image input binds im inp = tt
within-begin (c ∷ cs) image input binds im inp = lead (λ im inp i j. within-begin cs im inp binds.1 i j) c.path c.ty c.start c.role c.bound image input binds.0 im inp
  where
    lead : ((im : Image) (inp : Input) → AreWithin (image_ranges cs) im → AreWithin (input_ranges cs) inp → AreWithin (visible_ranges cs) (begin cs im inp)) → (p : List ℕ) (t : Ty) (s : ℤ) (r : Role) (b : Option ℤ) (image' : Image) (input' : Input)
        → BindsInRange (record { path = p; ty = t; start = s; role = r; bound = b })
        → AreWithin (image_ranges (record { path = p; ty = t; start = s; role = r; bound = b } ∷ cs)) image'
        → AreWithin (input_ranges (record { path = p; ty = t; start = s; role = r; bound = b } ∷ cs)) input'
        → AreWithin (visible_ranges (record { path = p; ty = t; start = s; role = r; bound = b } ∷ cs))
        (begin (record { path = p; ty = t; start = s; role = r; bound = b } ∷ cs) image' input')
    lead ih p t s InputRole b im' [] bind i j = absurd j
    lead ih p t s InputRole b im' (v ∷ vs) bind i j = (bind v j.0, ih im' vs i j.1)
    lead ih p t s Param b [] in' bind i j = absurd i
    lead ih p t s Param b (v ∷ vs) in' bind i j = (bind v i.0, ih vs in' i.1 j)
    lead ih p t s Kept b [] in' bind i j = absurd i
    lead ih p t s Kept b (v ∷ vs) in' bind i j = (bind v i.0, ih vs in' i.1 j)
    lead ih p t s Brief b im' in' bind i j = ih im' in' i j

-- what a scan leaves lies in the image's ranges, bound parameters included
pub within-image_after : (cells : List Cell) (image : Image) (input : Input) (end : List ℤ) → AreWithin (image_ranges cells) image
    → AreWithin (visible_ranges cells) end → AreWithin (image_ranges cells) (image_after cells (begin cells image input) end)
within-image_after [] image input end im e = tt
within-image_after (c ∷ cs) image input end im e = lead (λ im inp en i j. within-image_after cs im inp en i j) c.path c.ty c.start c.role c.bound image end im e
  where
    lead : ((im : Image) (inp : Input) (en : List ℤ) → AreWithin (image_ranges cs) im → AreWithin (visible_ranges cs) en → AreWithin (image_ranges cs) (image_after cs (begin cs im inp) en)) → (p : List ℕ) (t : Ty) (s : ℤ) (r : Role) (b : Option ℤ) (image' : Image) (end' : List ℤ)
        → AreWithin (image_ranges (record { path = p; ty = t; start = s; role = r; bound = b } ∷ cs)) image'
        → AreWithin (visible_ranges (record { path = p; ty = t; start = s; role = r; bound = b } ∷ cs)) end'
        → AreWithin (image_ranges (record { path = p; ty = t; start = s; role = r; bound = b } ∷ cs))
        (image_after (record { path = p; ty = t; start = s; role = r; bound = b } ∷ cs)
        (begin (record { path = p; ty = t; start = s; role = r; bound = b } ∷ cs) image' input) end')
    lead ih p t s InputRole b im' [] i j = absurd j
    lead ih p t s InputRole b im' (v ∷ vs) i j = ih im' (others input) vs i j.1
    lead ih p t s Param b [] end' i j = absurd i
    lead ih p t s Param b (v ∷ vs) [] i j = absurd j
    lead ih p t s Param b (v ∷ vs) (w ∷ ws) i j = (i.0, ih vs input ws i.1 j.1)
    lead ih p t s Kept b [] end' i j = absurd i
    lead ih p t s Kept b (v ∷ vs) [] i j = absurd j
    lead ih p t s Kept b (v ∷ vs) (w ∷ ws) i j = (j.0, ih vs input ws i.1 j.1)
    lead ih p t s Brief b im' end' i j = ih im' input end' i j

-- so does a start image
pub within-start : (cells : List Cell) (params : Params) → AllByRecursion (λ c. InRange c.ty c.start) cells
    → AreWithin (param_ranges cells) params → AreWithin (image_ranges cells) (start_image cells params)
within-start [] params starts is = tt
within-start (c ∷ cs) params starts is = lead (λ ps i. within-start cs ps starts.1 i) c.path c.ty c.start c.role c.bound params starts.0 is
  where
    own : (v : ℤ) → IsWithin (range_at v) v
    own v = record { from = refl-le v; to = refl-le v }
      where
        refl-le : (z : ℤ) → z ≤ℤ z
        refl-le z = omega (arith, ints)

    lead : ((ps : Params) → AreWithin (param_ranges cs) ps → AreWithin (image_ranges cs) (start_image cs ps)) → (p : List ℕ) (t : Ty) (s : ℤ) (r : Role) (b : Option ℤ) (params' : Params) → InRange t s
        → AreWithin (param_ranges (record { path = p; ty = t; start = s; role = r; bound = b } ∷ cs)) params'
        → AreWithin (image_ranges (record { path = p; ty = t; start = s; role = r; bound = b } ∷ cs))
        (start_image (record { path = p; ty = t; start = s; role = r; bound = b } ∷ cs) params')
    lead ih p t s InputRole b ps st i = ih ps i
    lead ih p t s Param None [] st i = absurd i
    lead ih p t s Param None (v ∷ vs) st i = (i.0, ih vs i.1)
    lead ih p t s Param (Some v) ps st i = (own v, ih ps i)
    lead ih p t s Kept b ps st i = (record { from = st.from; to = st.to }, ih ps i)
    lead ih p t s Brief b ps st i = ih ps i

-- ---- scans

of_done : {A : Type 0} (P : A → Type 0) (e : Ended A) (a : A) → HoldsOf P e → e ≡ ended a → P a
of_done P e a is done = subst (HoldsOf P) done is

pub length-scan : (source : Source) (image : Image) (input : Input) (values : List ℤ) → (scan source image input).end ≡ ended values
    → length values ≡ visible_len source.cells
length-scan source image input values done =
    of_done (λ (vs : List ℤ). length vs ≡ visible_len source.cells) (scan source image input).end values
    (safe-scan (λ vs. length vs ≡ visible_len source.cells) source (λ vs n v is. length-set vs n _ ∙ is) most_calls
    (begin source.cells image input) (length-begin source.cells image input)) done

pub within-scan : (source : Source) (image : Image) (input : Input) (values : List ℤ) → AllByRecursion BindsInRange source.cells
    → AreWithin (image_ranges source.cells) image → AreWithin (input_ranges source.cells) input
    → (scan source image input).end ≡ ended values → AreWithin (visible_ranges source.cells) values
within-scan source image input values binds im inp done =
    of_done (AreWithin (visible_ranges source.cells)) (scan source image input).end values
    (safe-scan (AreWithin (visible_ranges source.cells)) source (safe-ranges source) most_calls
    (begin source.cells image input) (within-begin source.cells image input binds im inp)) done

pub within-next : (source : Source) (image : Image) (input : Input) (values : List ℤ) → AllByRecursion BindsInRange source.cells
    → AreWithin (image_ranges source.cells) image → AreWithin (input_ranges source.cells) input
    → (scan source image input).end ≡ ended values
    → AreWithin (image_ranges source.cells) (image_after source.cells (begin source.cells image input) values)
within-next source image input values binds im inp done =
    within-image_after source.cells image input values im (within-scan source image input values binds im inp done)
