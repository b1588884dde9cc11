-- Images and the visible cells at a scan's beginning, made in place.
use Rattle.std.proofs.Common.{◌≡◌, ◌++◌, ◌+◌, ℕ, zero, suc, ◌<◌, ◌≤◌, List, [], ◌∷◌, length, ℤ, pos, Bool, true, false, cond, not, get_or, set, take, drop, replicate, Option, Some, None, refl, ap, sym, subst, ◌∙◌, append_assoc, append-nil, arith, map}
use Rattle.std.specs.Prelude.{filter, All}
use Rattle.std.specs.List.{AllByRecursion}
use Rattle.std.proofs.Math.Seq.{take-suc-set, take-suc, drop-cons}
use Rattle.std.proofs.lemmas.Int.{ints}
use Rattle.std.proofs.lemmas.List.{drop-set-lt, take_all, drop_all}
use Rattle.std.proofs.lemmas.List.Elements.{All-nil, All-push, All-replicate}
use Rattle.pv_word.specs.declared.types.Ty.{Ty}
use Rattle.pv_word.specs.declared.types.Ty.TheVariants.{Bool as BoolType, Byte, Word, Dword, Int, Dint, Time}
use Rattle.pv_word.specs.Types.{InRange}
use Rattle.pv_place.specs.declared.role.Role.{Role}
use Rattle.pv_place.specs.declared.role.Role.TheVariants.{Input, Param, Kept, Brief}
use Rattle.pv_place.specs.Roles.{is_stored}
use Rattle.pv_place.specs.Ranges.{Range, range_of, range_at, IsWithin, AreWithin}
use Rattle.pv_mean.specs.declared.cell.Cell.{Cell}
use Rattle.pv_mean.specs.Frames.{first, others, is_free, range_of_cell, range_by, image_len, stored_cells, begin, image_after, start_image}
use Rattle.pv_mean.specs.Correct.{BindsInRange}
use Rattle.pv_replay.specs.Images.{IsLong, AreLong, roles_of, stored_count, begun, behind, begin_by_roles, left, left_of, started, BeginsLong, BeginLong}

-- ---- by roles alone

pub begin-roles : (cells : List Cell) (image input : List ℤ) → begin cells image input ≡ begin_by_roles (roles_of cells) image input
begin-roles [] image input = refl
begin-roles (c ∷ cs) image input = lead (λ im inp. begin-roles cs im inp) c.path c.ty c.start c.role c.bound
  where
    lead : ((im inp : List ℤ) → begin cs im inp ≡ begin_by_roles (roles_of cs) im inp) → (p : List ℕ) (t : Ty) (s : ℤ) (r : Role) (b : Option ℤ)
        → begin (record { path = p; ty = t; start = s; role = r; bound = b } ∷ cs) image input
        ≡ begin_by_roles (roles_of (record { path = p; ty = t; start = s; role = r; bound = b } ∷ cs)) image input
    lead ih p t s Input b = ap (λ l. first input ∷ l) (ih image (others input))
    lead ih p t s Param b = ap (λ l. first image ∷ l) (ih (others image) input)
    lead ih p t s Kept b = ap (λ l. first image ∷ l) (ih (others image) input)
    lead ih p t s Brief b = ih image input

pub left-roles : (cells : List Cell) (image input ended : List ℤ) → image_after cells (begin cells image input) ended ≡ left_of (roles_of cells) image ended
left-roles [] image input ended = refl
left-roles (c ∷ cs) image input ended = lead (λ im inp e. left-roles cs im inp e) c.path c.ty c.start c.role c.bound
  where
    lead : ((im inp e : List ℤ) → image_after cs (begin cs im inp) e ≡ left_of (roles_of cs) im e) → (p : List ℕ) (t : Ty) (s : ℤ) (r : Role) (b : Option ℤ)
        → image_after (record { path = p; ty = t; start = s; role = r; bound = b } ∷ cs) (begin (record { path = p; ty = t; start = s; role = r; bound = b } ∷ cs) image input) ended
        ≡ left_of (roles_of (record { path = p; ty = t; start = s; role = r; bound = b } ∷ cs)) image ended
    lead ih p t s Input b = ih image (others input) (others ended)
    lead ih p t s Param b = ap (λ l. first image ∷ l) (ih (others image) input (others ended))
    lead ih p t s Kept b = ap (λ l. first ended ∷ l) (ih (others image) input (others ended))
    lead ih p t s Brief b = ih image input ended

-- ---- values one by one

first-drop : (l : List ℤ) (n : ℕ) → first (drop n l) ≡ get_or l n (pos 0)
first-drop [] zero = refl
first-drop [] (suc n) = refl
first-drop (x ∷ xs) zero = refl
first-drop (x ∷ xs) (suc n) = first-drop xs n

others-drop : (l : List ℤ) (n : ℕ) → others (drop n l) ≡ drop (suc n) l
others-drop [] zero = refl
others-drop [] (suc n) = refl
others-drop (x ∷ xs) zero = refl
others-drop (x ∷ xs) (suc n) = others-drop xs n

-- ---- a scan's beginning

-- the cells before n have their values
pub record IsBegun (roles : List Role) (image input : List ℤ) (n stored given : ℕ) (values : List ℤ) : Type 0 where
  pub stored_few : stored ≤ n
  pub given_few : given ≤ n
  pub same : AreLong input → take n values ++ begin_by_roles (drop n roles) (drop stored image) (drop given input) ≡ begin_by_roles roles image input

-- what begins from cell n on begins with its value
begin-at : (roles : List Role) (image input : List ℤ) (n stored given : ℕ) (r : Role) (b : Bool) → n < length roles → is_stored (get_or roles n r) ≡ b
    → begin_by_roles (drop n roles) (drop stored image) (drop given input)
    ≡ begun b (get_or image stored (pos 0)) (get_or input given (pos 0)) ∷ begin_by_roles (drop (suc n) roles) (behind b (drop stored image)) (behind (not b) (drop given input))
begin-at roles image input n stored given r b lt role =
    let rest = λ (x : Bool). begin_by_roles (drop (suc n) roles) (behind x (drop stored image)) (behind (not x) (drop given input)) in
    ap (λ l. begin_by_roles l (drop stored image) (drop given input)) (drop-cons roles n r lt)
    ∙ ap (λ x. begun x (first (drop stored image)) (first (drop given input)) ∷ rest x) role
    ∙ ap (λ v. begun b v (first (drop given input)) ∷ rest b) (first-drop image stored)
    ∙ ap (λ v. begun b (get_or image stored (pos 0)) v ∷ rest b) (first-drop input given)

put : (n : ℕ) (values : List ℤ) (v w : ℤ) (rest whole : List ℤ) → n < length values → v ≡ w → take n values ++ w ∷ rest ≡ whole → take (suc n) (set values n v) ++ rest ≡ whole
put n values v w rest whole lt is so_far =
    ap (λ f. f ++ rest) (take-suc-set values n v lt)
    ∙ append_assoc (take n values) (v ∷ []) rest
    ∙ ap (λ x. take n values ++ x ∷ rest) is
    ∙ so_far

-- an input takes the next value of the input
pub begin-input : (roles : List Role) (image input : List ℤ) (n stored given next after : ℕ) (values changed : List ℤ) (r : Role) (v : ℤ) → length values ≡ length roles → n < length roles
    → r ≡ get_or roles n r → is_stored r ≡ false → next ≡ suc n → after ≡ suc given → changed ≡ set values n v → (AreLong input → v ≡ get_or input given (pos 0))
    → IsBegun roles image input n stored given values → IsBegun roles image input next stored after changed
begin-input roles image input n stored given next after values changed r v len lt at role is_next is_after is_changed is so_far =
    let P : ℕ → Type 0 = λ m. IsBegun roles image input m stored after changed in
    let Q : ℕ → Type 0 = λ m. IsBegun roles image input (suc n) stored m changed in
    let R : List ℤ → Type 0 = λ l. IsBegun roles image input (suc n) stored (suc given) l in
    subst P (sym is_next) (subst Q (sym is_after) (subst R (sym is_changed) (record {
      stored_few = omega (arith, so_far.stored_few);
      given_few = omega (arith, so_far.given_few);
      same = λ long. put n values v (get_or input given (pos 0)) (begin_by_roles (drop (suc n) roles) (drop stored image) (drop (suc given) input)) (begin_by_roles roles image input) (omega (arith, len, lt)) (is long)
          (ap (λ l. take n values ++ get_or input given (pos 0) ∷ begin_by_roles (drop (suc n) roles) (drop stored image) l) (sym (others-drop input given))
          ∙ ap (λ l. take n values ++ l) (sym (begin-at roles image input n stored given r false lt (ap is_stored (sym at) ∙ role)))
          ∙ so_far.same long);
    })))

-- a stored cell takes the next value of the image
pub begin-stored : (roles : List Role) (image input : List ℤ) (n stored given next after : ℕ) (values changed : List ℤ) (r : Role) (v : ℤ) → length values ≡ length roles → n < length roles
    → r ≡ get_or roles n r → is_stored r ≡ true → next ≡ suc n → after ≡ suc stored → changed ≡ set values n v → v ≡ get_or image stored (pos 0)
    → IsBegun roles image input n stored given values → IsBegun roles image input next after given changed
begin-stored roles image input n stored given next after values changed r v len lt at role is_next is_after is_changed is so_far =
    let P : ℕ → Type 0 = λ m. IsBegun roles image input m after given changed in
    let Q : ℕ → Type 0 = λ m. IsBegun roles image input (suc n) m given changed in
    let R : List ℤ → Type 0 = λ l. IsBegun roles image input (suc n) (suc stored) given l in
    subst P (sym is_next) (subst Q (sym is_after) (subst R (sym is_changed) (record {
      stored_few = omega (arith, so_far.stored_few);
      given_few = omega (arith, so_far.given_few);
      same = λ long. put n values v (get_or image stored (pos 0)) (begin_by_roles (drop (suc n) roles) (drop (suc stored) image) (drop given input)) (begin_by_roles roles image input) (omega (arith, len, lt)) is
          (ap (λ l. take n values ++ get_or image stored (pos 0) ∷ begin_by_roles (drop (suc n) roles) l (drop given input)) (sym (others-drop image stored))
          ∙ ap (λ l. take n values ++ l) (sym (begin-at roles image input n stored given r true lt (ap is_stored (sym at) ∙ role)))
          ∙ so_far.same long);
    })))

pub begin-none : (roles : List Role) (image input values : List ℤ) → IsBegun roles image input 0 0 0 values
begin-none roles image input values = record { stored_few = omega arith; given_few = omega arith; same = λ long. refl }

pub begin-all : (roles : List Role) (image input : List ℤ) (n stored given : ℕ) (values : List ℤ) → length values ≡ length roles → length roles ≤ n
    → IsBegun roles image input n stored given values → AreLong input → values ≡ begin_by_roles roles image input
begin-all roles image input n stored given values len le so_far long =
    sym (ap (λ f. f ++ begin_by_roles (drop n roles) (drop stored image) (drop given input)) (take_all n values (omega (arith, len, le)))
    ∙ ap (λ l. values ++ begin_by_roles l (drop stored image) (drop given input)) (drop_all n roles le)
    ∙ append-nil values)
    ∙ so_far.same long

-- ---- what a scan leaves

-- the cells before n have left what they leave
pub record IsKept (roles : List Role) (start values : List ℤ) (n stored : ℕ) (image : List ℤ) : Type 0 where
  pub count : stored + stored_count (drop n roles) ≡ length image
  pub same : take stored image ++ left_of (drop n roles) (drop stored image) (drop n values) ≡ left_of roles start values

count-input : (r : Role) (rs : List Role) → is_stored r ≡ false → stored_count (r ∷ rs) ≡ stored_count rs
count-input r rs h = ap (λ b. length (cond b (r ∷ filter is_stored rs) (filter is_stored rs))) h

count-stored : (r : Role) (rs : List Role) → is_stored r ≡ true → stored_count (r ∷ rs) ≡ suc (stored_count rs)
count-stored r rs h = ap (λ b. length (cond b (r ∷ filter is_stored rs) (filter is_stored rs))) h

left-input : (r : Role) (rs : List Role) (image values : List ℤ) → is_stored r ≡ false → left_of (r ∷ rs) image values ≡ left_of rs image (others values)
left-input r rs image values h = ap (λ b. cond b (left r (first image) (first values) ∷ left_of rs (others image) (others values)) (left_of rs image (others values))) h

left-stored : (r : Role) (rs : List Role) (image values : List ℤ) → is_stored r ≡ true
    → left_of (r ∷ rs) image values ≡ left r (first image) (first values) ∷ left_of rs (others image) (others values)
left-stored r rs image values h = ap (λ b. cond b (left r (first image) (first values) ∷ left_of rs (others image) (others values)) (left_of rs image (others values))) h

pub keep-input : (roles : List Role) (start values : List ℤ) (n stored next : ℕ) (image : List ℤ) (r : Role) → n < length roles
    → r ≡ get_or roles n r → is_stored r ≡ false → next ≡ suc n
    → IsKept roles start values n stored image → IsKept roles start values next stored image
keep-input roles start values n stored next image r lt at role is_next so_far =
    let P : ℕ → Type 0 = λ m. IsKept roles start values m stored image in
    let own : is_stored (get_or roles n r) ≡ false = ap is_stored (sym at) ∙ role in
    let counted : stored_count (drop n roles) ≡ stored_count (drop (suc n) roles) = ap stored_count (drop-cons roles n r lt) ∙ count-input (get_or roles n r) (drop (suc n) roles) own in
    subst P (sym is_next) (record {
      count = omega (arith, so_far.count, counted);
      same = ap (λ l. take stored image ++ left_of (drop (suc n) roles) (drop stored image) l) (sym (others-drop values n))
          ∙ ap (λ l. take stored image ++ l) (sym (ap (λ l. left_of l (drop stored image) (drop n values)) (drop-cons roles n r lt) ∙ left-input (get_or roles n r) (drop (suc n) roles) (drop stored image) (drop n values) own))
          ∙ so_far.same;
    })

pub keep-within : (roles : List Role) (start values : List ℤ) (n stored : ℕ) (image : List ℤ) (r : Role) → n < length roles
    → r ≡ get_or roles n r → is_stored r ≡ true → IsKept roles start values n stored image → stored < length image
keep-within roles start values n stored image r lt at role so_far =
    let counted : stored_count (drop n roles) ≡ suc (stored_count (drop (suc n) roles)) = ap stored_count (drop-cons roles n r lt) ∙ count-stored (get_or roles n r) (drop (suc n) roles) (ap is_stored (sym at) ∙ role) in
    omega (arith, so_far.count, counted)

pub keep-stored : (roles : List Role) (start values : List ℤ) (n stored next after : ℕ) (image changed : List ℤ) (r : Role) (v : ℤ) → n < length roles
    → r ≡ get_or roles n r → is_stored r ≡ true → next ≡ suc n → after ≡ suc stored → changed ≡ set image stored v → length changed ≡ length image
    → v ≡ left r (get_or image stored (pos 0)) (get_or values n (pos 0))
    → IsKept roles start values n stored image → IsKept roles start values next after changed
keep-stored roles start values n stored next after image changed r v lt at role is_next is_after is_changed len is so_far =
    let P : ℕ → Type 0 = λ m. IsKept roles start values m after changed in
    let Q : ℕ → Type 0 = λ m. IsKept roles start values (suc n) m changed in
    let own : is_stored (get_or roles n r) ≡ true = ap is_stored (sym at) ∙ role in
    let counted : stored_count (drop n roles) ≡ suc (stored_count (drop (suc n) roles)) = ap stored_count (drop-cons roles n r lt) ∙ count-stored (get_or roles n r) (drop (suc n) roles) own in
    let within : stored < length image = keep-within roles start values n stored image r lt at role so_far in
    let rest = left_of (drop (suc n) roles) (drop (suc stored) image) (drop (suc n) values) in
    let begins : left_of (drop n roles) (drop stored image) (drop n values) ≡ v ∷ rest =
    ap (λ l. left_of l (drop stored image) (drop n values)) (drop-cons roles n r lt)
    ∙ left-stored (get_or roles n r) (drop (suc n) roles) (drop stored image) (drop n values) own
    ∙ ap (λ q. left q (first (drop stored image)) (first (drop n values)) ∷ left_of (drop (suc n) roles) (others (drop stored image)) (others (drop n values))) (sym at)
    ∙ ap (λ x. left r x (first (drop n values)) ∷ left_of (drop (suc n) roles) (others (drop stored image)) (others (drop n values))) (first-drop image stored)
    ∙ ap (λ x. left r (get_or image stored (pos 0)) x ∷ left_of (drop (suc n) roles) (others (drop stored image)) (others (drop n values))) (first-drop values n)
    ∙ ap (λ x. x ∷ left_of (drop (suc n) roles) (others (drop stored image)) (others (drop n values))) (sym is)
    ∙ ap (λ l. v ∷ left_of (drop (suc n) roles) l (others (drop n values))) (others-drop image stored)
    ∙ ap (λ l. v ∷ left_of (drop (suc n) roles) (drop (suc stored) image) l) (others-drop values n) in
    subst P (sym is_next) (subst Q (sym is_after) (record {
      count = omega (arith, so_far.count, counted, len);
      same = ap (λ f. take (suc stored) f ++ left_of (drop (suc n) roles) (drop (suc stored) f) (drop (suc n) values)) is_changed
          ∙ ap (λ l. take (suc stored) (set image stored v) ++ left_of (drop (suc n) roles) l (drop (suc n) values)) (drop-set-lt (suc stored) image stored v (omega arith))
          ∙ put stored image v v rest (left_of roles start values) within refl
          (ap (λ l. take stored image ++ l) (sym begins) ∙ so_far.same);
    }))

pub keep-none : (roles : List Role) (values image : List ℤ) → length image ≡ stored_count roles → IsKept roles image values 0 0 image
keep-none roles values image len = record { count = omega (arith, len); same = refl }

pub keep-all : (roles : List Role) (start values : List ℤ) (n stored : ℕ) (image : List ℤ) → length roles ≤ n → IsKept roles start values n stored image → image ≡ left_of roles start values
keep-all roles start values n stored image le so_far =
    let none : stored_count (drop n roles) ≡ 0 = ap stored_count (drop_all n roles le) in
    sym (ap (λ f. f ++ left_of (drop n roles) (drop stored image) (drop n values)) (take_all stored image (omega (arith, so_far.count, none)))
    ∙ ap (λ l. image ++ left_of l (drop stored image) (drop n values)) (drop_all n roles le)
    ∙ append-nil image)
    ∙ so_far.same

-- ---- a run's beginning

pub record IsStarted (cells : List Cell) (params : List ℤ) (n stored given : ℕ) (image : List ℤ) : Type 0 where
  pub count : stored + image_len (drop n cells) ≡ length image
  pub given_few : given ≤ n
  pub same : BeginLong cells → AreLong params → take stored image ++ start_image (drop n cells) (drop given params) ≡ start_image cells params

stored-one : (c : Cell) (cs : List Cell) → is_stored c.role ≡ true → image_len (c ∷ cs) ≡ suc (image_len cs)
stored-one c cs h = ap (λ b. length (cond b (c ∷ stored_cells cs) (stored_cells cs))) h

stored-no : (c : Cell) (cs : List Cell) → is_stored c.role ≡ false → image_len (c ∷ cs) ≡ image_len cs
stored-no c cs h = ap (λ b. length (cond b (c ∷ stored_cells cs) (stored_cells cs))) h

start-stored : (c : Cell) (cs : List Cell) (params : List ℤ) → is_stored c.role ≡ true
    → start_image (c ∷ cs) params ≡ started c.role c.bound c.start (first params) ∷ start_image cs (behind (is_free c.role c.bound) params)
start-stored c cs params h = lead c.path c.ty c.start c.role c.bound h
  where
    lead : (p : List ℕ) (t : Ty) (s : ℤ) (r : Role) (b : Option ℤ) → is_stored r ≡ true
        → start_image (record { path = p; ty = t; start = s; role = r; bound = b } ∷ cs) params ≡ started r b s (first params) ∷ start_image cs (behind (is_free r b) params)
    lead p t s Input b h' = absurd cc
    lead p t s Param None h' = refl
    lead p t s Param (Some v) h' = refl
    lead p t s Kept b h' = refl
    lead p t s Brief b h' = absurd cc

start-other : (c : Cell) (cs : List Cell) (params : List ℤ) → is_stored c.role ≡ false → start_image (c ∷ cs) params ≡ start_image cs params
start-other c cs params h = lead c.path c.ty c.start c.role c.bound h
  where
    lead : (p : List ℕ) (t : Ty) (s : ℤ) (r : Role) (b : Option ℤ) → is_stored r ≡ false
        → start_image (record { path = p; ty = t; start = s; role = r; bound = b } ∷ cs) params ≡ start_image cs params
    lead p t s Input b h' = refl
    lead p t s Param b h' = absurd cc
    lead p t s Kept b h' = absurd cc
    lead p t s Brief b h' = refl

pub start-within : (cells : List Cell) (params : List ℤ) (n stored given : ℕ) (image : List ℤ) (c : Cell) → n < length cells → c ≡ get_or cells n c → is_stored c.role ≡ true
    → IsStarted cells params n stored given image → stored < length image
start-within cells params n stored given image c lt at role so_far =
    let counted : image_len (drop n cells) ≡ suc (image_len (drop (suc n) cells)) = ap image_len (drop-cons cells n c lt) ∙ stored-one (get_or cells n c) (drop (suc n) cells) (ap (λ (d : Cell). is_stored d.role) (sym at) ∙ role) in
    omega (arith, so_far.count, counted)

pub start-one : (cells : List Cell) (params : List ℤ) (n stored given next after given_after : ℕ) (image changed : List ℤ) (c : Cell) (free : Bool) (v : ℤ) → n < length cells
    → c ≡ get_or cells n c → is_stored c.role ≡ true → is_free c.role c.bound ≡ free → next ≡ suc n → after ≡ suc stored → given_after ≡ cond free (suc given) given
    → changed ≡ set image stored v → length changed ≡ length image
    → (BeginLong cells → AreLong params → v ≡ started c.role c.bound c.start (get_or params given (pos 0)))
    → IsStarted cells params n stored given image → IsStarted cells params next after given_after changed
start-one cells params n stored given next after given_after image changed c free v lt at role is_free_so is_next is_after is_given is_changed len is so_far =
    let P : ℕ → Type 0 = λ m. IsStarted cells params m after given_after changed in
    let Q : ℕ → Type 0 = λ m. IsStarted cells params (suc n) m given_after changed in
    let own : is_stored (get_or cells n c).role ≡ true = ap (λ (d : Cell). is_stored d.role) (sym at) ∙ role in
    let counted : image_len (drop n cells) ≡ suc (image_len (drop (suc n) cells)) = ap image_len (drop-cons cells n c lt) ∙ stored-one (get_or cells n c) (drop (suc n) cells) own in
    let within : stored < length image = start-within cells params n stored given image c lt at role so_far in
    let rest = start_image (drop (suc n) cells) (drop given_after params) in
    let begins : BeginLong cells → AreLong params → start_image (drop n cells) (drop given params) ≡ v ∷ rest = λ starts long.
    ap (λ l. start_image l (drop given params)) (drop-cons cells n c lt)
    ∙ start-stored (get_or cells n c) (drop (suc n) cells) (drop given params) own
    ∙ ap (λ (d : Cell). started d.role d.bound d.start (first (drop given params)) ∷ start_image (drop (suc n) cells) (behind (is_free d.role d.bound) (drop given params))) (sym at)
    ∙ ap (λ x. started c.role c.bound c.start x ∷ start_image (drop (suc n) cells) (behind (is_free c.role c.bound) (drop given params))) (first-drop params given)
    ∙ ap (λ x. x ∷ start_image (drop (suc n) cells) (behind (is_free c.role c.bound) (drop given params))) (sym (is starts long))
    ∙ ap (λ b. v ∷ start_image (drop (suc n) cells) (behind b (drop given params))) is_free_so
    ∙ ap (λ l. v ∷ start_image (drop (suc n) cells) l) (taken free)
    ∙ ap (λ m. v ∷ start_image (drop (suc n) cells) (drop m params)) (sym is_given) in
    subst P (sym is_next) (subst Q (sym is_after) (record {
      count = omega (arith, so_far.count, counted, len);
      given_few = few free is_given;
      same = λ starts long. ap (λ f. take (suc stored) f ++ rest) is_changed
          ∙ put stored image v v rest (start_image cells params) within refl (ap (λ l. take stored image ++ l) (sym (begins starts long)) ∙ so_far.same starts long);
    }))
  where
    taken : (b : Bool) → behind b (drop given params) ≡ drop (cond b (suc given) given) params
    taken true = others-drop params given
    taken false = refl

    few : (b : Bool) → given_after ≡ cond b (suc given) given → given_after ≤ suc n
    few true e = omega (arith, e, so_far.given_few)
    few false e = omega (arith, e, so_far.given_few)

pub start-none : (cells : List Cell) (params : List ℤ) (n stored given next : ℕ) (image : List ℤ) (c : Cell) → n < length cells
    → c ≡ get_or cells n c → is_stored c.role ≡ false → next ≡ suc n
    → IsStarted cells params n stored given image → IsStarted cells params next stored given image
start-none cells params n stored given next image c lt at role is_next so_far =
    let P : ℕ → Type 0 = λ m. IsStarted cells params m stored given image in
    let own : is_stored (get_or cells n c).role ≡ false = ap (λ (d : Cell). is_stored d.role) (sym at) ∙ role in
    let counted : image_len (drop n cells) ≡ image_len (drop (suc n) cells) = ap image_len (drop-cons cells n c lt) ∙ stored-no (get_or cells n c) (drop (suc n) cells) own in
    subst P (sym is_next) (record {
      count = omega (arith, so_far.count, counted);
      given_few = omega (arith, so_far.given_few);
      same = λ starts long. ap (λ l. take stored image ++ l)
          (sym (ap (λ l. start_image l (drop given params)) (drop-cons cells n c lt) ∙ start-other (get_or cells n c) (drop (suc n) cells) (drop given params) own))
          ∙ so_far.same starts long;
    })

pub start-begin : (cells : List Cell) (params image : List ℤ) → length image ≡ image_len cells → IsStarted cells params 0 0 0 image
start-begin cells params image len = record { count = omega (arith, len); given_few = omega arith; same = λ starts long. refl }

pub start-all : (cells : List Cell) (params : List ℤ) (n stored given : ℕ) (image : List ℤ) → length cells ≤ n → IsStarted cells params n stored given image
    → BeginLong cells → AreLong params → image ≡ start_image cells params
start-all cells params n stored given image le so_far starts long =
    let none : image_len (drop n cells) ≡ 0 = ap image_len (drop_all n cells le) in
    sym (ap (λ f. f ++ start_image (drop n cells) (drop given params)) (take_all stored image (omega (arith, so_far.count, none)))
    ∙ ap (λ l. image ++ start_image l (drop given params)) (drop_all n cells le)
    ∙ append-nil image)
    ∙ so_far.same starts long

-- ---- copies

pub copy-next : (from to : List ℤ) (n next : ℕ) (v : ℤ) → length to ≡ length from → n < length from → next ≡ suc n → v ≡ get_or from n (pos 0)
    → take n to ≡ take n from → take next (set to n v) ≡ take next from
copy-next from to n next v len lt is_next is so_far =
    ap (λ m. take m (set to n v)) is_next
    ∙ take-suc-set to n v (omega (arith, len, lt))
    ∙ ap (λ l. l ++ v ∷ []) so_far
    ∙ ap (λ x. take n from ++ x ∷ []) is
    ∙ sym (take-suc from n (pos 0) lt)
    ∙ ap (λ m. take m from) (sym is_next)

pub copy-all : (from to : List ℤ) (n : ℕ) → length to ≡ length from → length from ≤ n → take n to ≡ take n from → to ≡ from
copy-all from to n len le so_far = sym (take_all n to (omega (arith, len, le))) ∙ so_far ∙ take_all n from le

-- values that 64 bits hold, copied up to this number
pub record IsWidened (from to : List ℤ) (n : ℕ) : Type 0 where
  pub same : take n to ≡ take n from
  pub long : All IsLong (take n to)

pub widen-none : (from to : List ℤ) → IsWidened from to 0
widen-none from to = record { same = refl; long = All-nil IsLong }

pub widen-next : (from to changed : List ℤ) (n next : ℕ) (v : ℤ) → length to ≡ length from → n < length from → next ≡ suc n → v ≡ get_or from n (pos 0) → changed ≡ set to n v
    → IsLong v → IsWidened from to n → IsWidened from changed next
widen-next from to changed n next v len lt is_next is is_changed fits so_far =
    let P : List ℤ → Type 0 = λ l. IsWidened from l next in
    subst P (sym is_changed) (record {
      same = copy-next from to n next v len lt is_next is so_far.same;
      long = subst (All IsLong) (sym (ap (λ m. take m (set to n v)) is_next ∙ take-suc-set to n v (omega (arith, len, lt))))
          (All-push IsLong (take n to) v so_far.long fits);
    })

pub widen-all : (from to : List ℤ) (n : ℕ) → length to ≡ length from → length from ≤ n → IsWidened from to n → (to ≡ from) × All IsLong to
widen-all from to n len le so_far =
    (copy-all from to n len le so_far.same, subst (All IsLong) (take_all n to (omega (arith, len, le))) so_far.long)

-- ---- numbers that 64 bits hold

long-zero : IsLong (pos 0)
long-zero = (omega (arith, ints), omega (arith, ints))

pub long-zeros : (vs : List ℤ) (n : ℕ) → vs ≡ replicate n (pos 0) → All IsLong vs
long-zeros vs n is = subst (All IsLong) (sym is) (All-replicate IsLong n (pos 0) long-zero)

pub long-of : (ty : Ty) (v : ℤ) → IsWithin (range_of ty) v → IsLong v
long-of BoolType v h = (omega (arith, ints, h.from, h.to), omega (arith, ints, h.from, h.to))
long-of Byte v h = (omega (arith, ints, h.from, h.to), omega (arith, ints, h.from, h.to))
long-of Word v h = (omega (arith, ints, h.from, h.to), omega (arith, ints, h.from, h.to))
long-of Dword v h = (omega (arith, ints, h.from, h.to), omega (arith, ints, h.from, h.to))
long-of Int v h = (omega (arith, ints, h.from, h.to), omega (arith, ints, h.from, h.to))
long-of Dint v h = (omega (arith, ints, h.from, h.to), omega (arith, ints, h.from, h.to))
long-of Time v h = (omega (arith, ints, h.from, h.to), omega (arith, ints, h.from, h.to))

pub long-values : (p : Cell → Bool) (cells : List Cell) (vs : List ℤ) → AllByRecursion BindsInRange cells → AreWithin (map range_of_cell (filter p cells)) vs → AreLong vs
long-values p [] [] binds is n = none n
  where
    none : (k : ℕ) → IsLong (get_or [] k (pos 0))
    none zero = long-zero
    none (suc k) = long-zero
long-values p [] (v ∷ vs) binds is n = absurd is
long-values p (c ∷ cs) vs binds is n = lead (λ ws i. long-values p cs ws binds.1 i) (p c) vs is n
  where
    lead : ((ws : List ℤ) → AreWithin (map range_of_cell (filter p cs)) ws → AreLong ws) → (b : Bool) (ws : List ℤ)
        → AreWithin (map range_of_cell (cond b (c ∷ filter p cs) (filter p cs))) ws → AreLong ws
    lead ih true [] i k = absurd i
    lead ih true (w ∷ ws) i zero = long-of c.ty w (binds.0 w i.0)
    lead ih true (w ∷ ws) i (suc k) = ih ws i.1 k
    lead ih false ws i k = ih ws i k

pub begin-long : (cells : List Cell) → AllByRecursion (λ c. InRange c.ty c.start) cells → AllByRecursion BindsInRange cells → BeginLong cells
begin-long [] starts binds n c lt at = absurd (omega (arith, lt))
begin-long (d ∷ ds) starts binds zero c lt at =
    let P : Cell → Type 0 = λ e. BeginsLong e in
    subst P (sym at) (record { start = starts.0; bound = binds.0 })
begin-long (d ∷ ds) starts binds (suc n) c lt at = begin-long ds starts.1 binds.1 n c (omega (arith, lt)) at

pub start-long : (c : Cell) → BeginsLong c → IsLong c.start
start-long c h = long-of c.ty c.start (record { from = h.start.from; to = h.start.to })

pub bound-long : (c : Cell) (v : ℤ) → c.role ≡ Param → c.bound ≡ Some v → BeginsLong c → IsLong v
bound-long c v role bound h =
    let own : IsWithin (range_at v) v = record { from = omega (arith, ints); to = omega (arith, ints) } in
    let P : Range → Type 0 = λ r. IsWithin r v in
    long-of c.ty v (h.bound v (subst P (sym (ap (λ r. range_by r c.bound c.ty) role ∙ ap (λ b. range_by Param b c.ty) bound)) own))

-- ---- how many values an image has

pub count-roles : (cells : List Cell) → stored_count (roles_of cells) ≡ image_len cells
count-roles [] = refl
count-roles (c ∷ cs) = lead (count-roles cs) c.path c.ty c.start c.role c.bound
  where
    lead : stored_count (roles_of cs) ≡ image_len cs → (p : List ℕ) (t : Ty) (s : ℤ) (r : Role) (b : Option ℤ)
        → stored_count (roles_of (record { path = p; ty = t; start = s; role = r; bound = b } ∷ cs))
        ≡ image_len (record { path = p; ty = t; start = s; role = r; bound = b } ∷ cs)
    lead ih p t s Input b = ih
    lead ih p t s Param b = ap suc ih
    lead ih p t s Kept b = ap suc ih
    lead ih p t s Brief b = ih

pub length-within : (p : Cell → Bool) (cells : List Cell) (vs : List ℤ) → AreWithin (map range_of_cell (filter p cells)) vs → length vs ≡ length (filter p cells)
length-within p cells vs is = along (filter p cells) vs is
  where
    along : (cs : List Cell) (ws : List ℤ) → AreWithin (map range_of_cell cs) ws → length ws ≡ length cs
    along [] [] i = refl
    along [] (w ∷ ws) i = absurd i
    along (c ∷ cs) [] i = absurd i
    along (c ∷ cs) (w ∷ ws) i = ap suc (along cs ws i.1)
