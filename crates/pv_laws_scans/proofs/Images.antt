-- Where images and inputs stand at a scan's beginning and behind it. A step goes by the role of its cell, so it has a name of its own,
-- over the fields of the cell.
use Rattle.std.proofs.Common.{◌≡◌, ◌++◌, ℕ, suc, List, [], ◌∷◌, length, ℤ, pos, true, get_or, Option, refl, ap, sym, subst, ◌∙◌, arith}
use Rattle.std.proofs.lemmas.Bool.{false≢true}
use Rattle.pv_word.specs.declared.types.Ty.{Ty}
use Rattle.pv_place.specs.declared.role.Role.{Role}
use Rattle.pv_place.specs.declared.role.Role.TheVariants.{Input as InputRole, Param, Kept, Brief}
use Rattle.pv_place.specs.Roles.{is_input, is_stored}
use Rattle.pv_mean.specs.declared.cell.Cell.{Cell}
use Rattle.pv_mean.specs.Frames.{Image, Input, first, others, image_len, input_len, visible_len, begin_by, begin, left_by, image_after}
use Rattle.pv_mean.proofs.ForCallers.{length-image_after}
use Rattle.pv_laws_scans.specs.Parts.{image_of, input_of}

-- a cell by its fields
abbrev cell : List ℕ → Ty → ℤ → Role → Option ℤ → Cell
cell p t s r b = record { path = p; ty = t; start = s; role = r; bound = b }

-- ---- what stands at a scan's beginning

pub input_of-begin : (cells : List Cell) (image : Image) (input : Input) → length input ≡ input_len cells
    → input_of cells (begin cells image input) ≡ input
input_of-begin [] image [] len = refl
input_of-begin [] image (v ∷ vs) len = absurd (omega arith)
input_of-begin (c ∷ cs) image input len = lead (λ im i l. input_of-begin cs im i l) c.path c.ty c.start c.role c.bound input len
  where
    lead : ((im : Image) (i : Input) → length i ≡ input_len cs → input_of cs (begin cs im i) ≡ i)
        → (p : List ℕ) (t : Ty) (s : ℤ) (r : Role) (b : Option ℤ) (i : Input) → length i ≡ input_len (cell p t s r b ∷ cs)
        → input_of (cell p t s r b ∷ cs) (begin (cell p t s r b ∷ cs) image i) ≡ i
    lead same p t s InputRole b [] h = absurd (omega arith)
    lead same p t s InputRole b (v ∷ vs) h = ap (λ l. v ∷ l) (same image vs (omega arith))
    lead same p t s Param b i h = same (others image) i h
    lead same p t s Kept b i h = same (others image) i h
    lead same p t s Brief b i h = same image i h

pub image_of-begin : (cells : List Cell) (image : Image) (input : Input) → length image ≡ image_len cells
    → image_of cells (begin cells image input) ≡ image
image_of-begin [] [] input len = refl
image_of-begin [] (v ∷ vs) input len = absurd (omega arith)
image_of-begin (c ∷ cs) image input len = lead (λ im i l. image_of-begin cs im i l) c.path c.ty c.start c.role c.bound image len
  where
    lead : ((jm : Image) (i : Input) → length jm ≡ image_len cs → image_of cs (begin cs jm i) ≡ jm)
        → (p : List ℕ) (t : Ty) (s : ℤ) (r : Role) (b : Option ℤ) (im : Image) → length im ≡ image_len (cell p t s r b ∷ cs)
        → image_of (cell p t s r b ∷ cs) (begin (cell p t s r b ∷ cs) im input) ≡ im
    lead same p t s InputRole b im h = same im (others input) h
    lead same p t s Param b [] h = absurd (omega arith)
    lead same p t s Param b (v ∷ vs) h = ap (λ l. v ∷ l) (same vs input (omega arith))
    lead same p t s Kept b [] h = absurd (omega arith)
    lead same p t s Kept b (v ∷ vs) h = ap (λ l. v ∷ l) (same vs input (omega arith))
    lead same p t s Brief b im h = same im input h

-- the image that a scan leaves stands in the next one's beginning
pub image_of-carried : (cells : List Cell) (beginning end : List ℤ) (input : Input)
    → image_of cells (begin cells (image_after cells beginning end) input) ≡ image_after cells beginning end
image_of-carried cells beginning end input =
    image_of-begin cells (image_after cells beginning end) input (length-image_after cells beginning end)

-- ---- where the values of an image and of an input stand then

first_is : (values : List ℤ) → first values ≡ get_or values 0 (pos 0)
first_is [] = refl
first_is (v ∷ vs) = refl

others_at : (values : List ℤ) (n : ℕ) → get_or (others values) n (pos 0) ≡ get_or values (suc n) (pos 0)
others_at [] n = refl
others_at (v ∷ vs) n = refl

-- an input cell has the input's value of its number among the input cells
pub input_place : (before : List Cell) (c : Cell) (after : List Cell) (image : Image) (input : Input) → is_input c.role ≡ true
    → get_or (begin (before ++ c ∷ after) image input) (visible_len before) (pos 0) ≡ get_or input (input_len before) (pos 0)
input_place [] c after image input is = lead c.role is ∙ first_is input
  where
    lead : (r : Role) → is_input r ≡ true
        → get_or (begin_by r (λ im i. begin after im i) image input) 0 (pos 0) ≡ first input
    lead InputRole h = refl
    lead Param h = absurd (false≢true h)
    lead Kept h = absurd (false≢true h)
    lead Brief h = absurd (false≢true h)
input_place (x ∷ xs) c after image input is = lead (λ im i. input_place xs c after im i is) x.path x.ty x.start x.role x.bound
  where
    lead : ((im : Image) (i : Input) → get_or (begin (xs ++ c ∷ after) im i) (visible_len xs) (pos 0)
        ≡ get_or i (input_len xs) (pos 0)) → (p : List ℕ) (t : Ty) (s : ℤ) (r : Role) (b : Option ℤ)
        → get_or (begin (cell p t s r b ∷ (xs ++ c ∷ after)) image input) (visible_len (cell p t s r b ∷ xs)) (pos 0)
        ≡ get_or input (input_len (cell p t s r b ∷ xs)) (pos 0)
    lead h p t s InputRole b = h image (others input) ∙ others_at input (input_len xs)
    lead h p t s Param b = h (others image) input
    lead h p t s Kept b = h (others image) input
    lead h p t s Brief b = h image input

-- a stored cell has the image's value of its number among the stored cells
pub image_place : (before : List Cell) (c : Cell) (after : List Cell) (image : Image) (input : Input) → is_stored c.role ≡ true
    → get_or (begin (before ++ c ∷ after) image input) (visible_len before) (pos 0) ≡ get_or image (image_len before) (pos 0)
image_place [] c after image input is = lead c.role is ∙ first_is image
  where
    lead : (r : Role) → is_stored r ≡ true
        → get_or (begin_by r (λ im i. begin after im i) image input) 0 (pos 0) ≡ first image
    lead InputRole h = absurd (false≢true h)
    lead Param h = refl
    lead Kept h = refl
    lead Brief h = absurd (false≢true h)
image_place (x ∷ xs) c after image input is = lead (λ im i. image_place xs c after im i is) x.path x.ty x.start x.role x.bound
  where
    lead : ((im : Image) (i : Input) → get_or (begin (xs ++ c ∷ after) im i) (visible_len xs) (pos 0)
        ≡ get_or im (image_len xs) (pos 0)) → (p : List ℕ) (t : Ty) (s : ℤ) (r : Role) (b : Option ℤ)
        → get_or (begin (cell p t s r b ∷ (xs ++ c ∷ after)) image input) (visible_len (cell p t s r b ∷ xs)) (pos 0)
        ≡ get_or image (image_len (cell p t s r b ∷ xs)) (pos 0)
    lead h p t s InputRole b = h image (others input)
    lead h p t s Param b = h (others image) input ∙ others_at image (image_len xs)
    lead h p t s Kept b = h (others image) input ∙ others_at image (image_len xs)
    lead h p t s Brief b = h image input

-- ---- where the values stand that a scan leaves

-- a kept cell has the value of the end
pub kept_place : (before : List Cell) (c : Cell) (after : List Cell) (beginning end : List ℤ) → c.role ≡ Kept
    → get_or (image_after (before ++ c ∷ after) beginning end) (image_len before) (pos 0) ≡ get_or end (visible_len before) (pos 0)
kept_place [] c after beginning end is =
    let P : Role → Type 0 = λ r. get_or (left_by r (λ b e. image_after after b e) beginning end) 0 (pos 0) ≡ first end in
    subst P (sym is) refl ∙ first_is end
kept_place (x ∷ xs) c after beginning end is = lead (λ b e. kept_place xs c after b e is) x.path x.ty x.start x.role x.bound
  where
    lead : ((bg en : List ℤ) → get_or (image_after (xs ++ c ∷ after) bg en) (image_len xs) (pos 0) ≡ get_or en (visible_len xs) (pos 0))
        → (p : List ℕ) (t : Ty) (s : ℤ) (r : Role) (b : Option ℤ)
        → get_or (image_after (cell p t s r b ∷ (xs ++ c ∷ after)) beginning end) (image_len (cell p t s r b ∷ xs)) (pos 0)
        ≡ get_or end (visible_len (cell p t s r b ∷ xs)) (pos 0)
    lead h p t s InputRole b = h (others beginning) (others end) ∙ others_at end (visible_len xs)
    lead h p t s Param b = h (others beginning) (others end) ∙ others_at end (visible_len xs)
    lead h p t s Kept b = h (others beginning) (others end) ∙ others_at end (visible_len xs)
    lead h p t s Brief b = h beginning end

-- a parameter that of the beginning
pub param_place : (before : List Cell) (c : Cell) (after : List Cell) (beginning end : List ℤ) → c.role ≡ Param
    → get_or (image_after (before ++ c ∷ after) beginning end) (image_len before) (pos 0)
    ≡ get_or beginning (visible_len before) (pos 0)
param_place [] c after beginning end is =
    let P : Role → Type 0 = λ r. get_or (left_by r (λ b e. image_after after b e) beginning end) 0 (pos 0) ≡ first beginning in
    subst P (sym is) refl ∙ first_is beginning
param_place (x ∷ xs) c after beginning end is = lead (λ b e. param_place xs c after b e is) x.path x.ty x.start x.role x.bound
  where
    lead : ((bg en : List ℤ) → get_or (image_after (xs ++ c ∷ after) bg en) (image_len xs) (pos 0) ≡ get_or bg (visible_len xs) (pos 0))
        → (p : List ℕ) (t : Ty) (s : ℤ) (r : Role) (b : Option ℤ)
        → get_or (image_after (cell p t s r b ∷ (xs ++ c ∷ after)) beginning end) (image_len (cell p t s r b ∷ xs)) (pos 0)
        ≡ get_or beginning (visible_len (cell p t s r b ∷ xs)) (pos 0)
    lead h p t s InputRole b = h (others beginning) (others end) ∙ others_at beginning (visible_len xs)
    lead h p t s Param b = h (others beginning) (others end) ∙ others_at beginning (visible_len xs)
    lead h p t s Kept b = h (others beginning) (others end) ∙ others_at beginning (visible_len xs)
    lead h p t s Brief b = h beginning end
