-- Parts of states: the values of free parameters in an image that runs begin with, an image and a mark in a state.
use Rattle.std.proofs.Common.{◌≡◌, ℕ, zero, suc, ◌+◌, ◌≤◌, ℤ, pos, Bool, true, false, List, [], ◌∷◌, ◌++◌, length, take, drop, cond, Option, Some, None, refl, sym, ◌∙◌, ap, arith, append_assoc, ◌<◌}
use Rattle.std.specs.Prelude.{slice_index_or, if◌then◌else◌}
use Rattle.std.proofs.Math.Seq.{take-suc}
use Rattle.std.proofs.lemmas.List.{length-map, drop_more}
use Rattle.pv_place.specs.declared.role.Role.{Role}
use Rattle.pv_place.specs.declared.role.Role.TheVariants.{Input, Param, Kept, Brief}
use Rattle.pv_place.specs.Roles.{is_stored}
use Rattle.pv_place.specs.Ranges.{Range, AreWithin}
use Rattle.pv_machine.specs.Machines.{Values}
use Rattle.pv_mean.specs.declared.cell.Cell.{Cell}
use Rattle.pv_mean.specs.Frames.{first, others, is_free, free_cells, start_by, start_image, param_ranges, range_of_cell}
use Rattle.pv_pattern.specs.Sources.{ranges_by, mark_in, mark_by}
use Rattle.pv_mean.specs.Values.{is_true}
use Rattle.pv_lift.specs.Traces.{behind, and_first, free_in, MayFollow}

-- ---- ranges

pub within-length : (rs : List Range) (vs : Values) → AreWithin rs vs → length vs ≡ length rs
within-length [] [] h = refl
within-length [] (v ∷ vs) h = absurd h
within-length (r ∷ rs) [] h = absurd h
within-length (r ∷ rs) (v ∷ vs) h = ap suc (within-length rs vs h.1)

pub within-front : (rs qs : List Range) (vs : Values) (n : ℕ) → length rs ≡ n → AreWithin (rs ++ qs) vs → AreWithin rs (take n vs)
within-front [] qs vs zero e h = tt
within-front [] qs vs (suc n) e h = absurd (omega (arith, e))
within-front (r ∷ rs) qs vs zero e h = absurd (omega (arith, e))
within-front (r ∷ rs) qs [] (suc n) e h = absurd h
within-front (r ∷ rs) qs (v ∷ vs) (suc n) e h = (h.0, within-front rs qs vs n (omega (arith, e)) h.1)

pub within-rest : (rs qs : List Range) (vs : Values) (n : ℕ) → length rs ≡ n → AreWithin (rs ++ qs) vs → AreWithin qs (drop n vs)
within-rest [] qs vs zero e h = h
within-rest [] qs vs (suc n) e h = absurd (omega (arith, e))
within-rest (r ∷ rs) qs vs zero e h = absurd (omega (arith, e))
within-rest (r ∷ rs) qs [] (suc n) e h = absurd h
within-rest (r ∷ rs) qs (v ∷ vs) (suc n) e h = within-rest rs qs vs n (omega (arith, e)) h.1

-- a mark stands where there are bits for one
pub mark-may : (back : Bool) (bits : Values) → AreWithin (ranges_by back) bits → MayFollow back (mark_in bits)
mark-may true bits h = any (mark_in bits)
  where
    any : (prev : Option Bool) → MayFollow true prev
    any None = tt
    any (Some mark) = refl
mark-may false [] h = tt
mark-may false (v ∷ bits) h = absurd h

-- ---- parameters

start-one : (r : Role) (b : Option ℤ) (s : ℤ) (cs : List Cell) (params more : List ℤ)
    → ((ps : List ℤ) → length ps ≡ length (free_cells cs) → free_in cs (start_image cs ps ++ more) ≡ ps)
    → (c : Cell) → length params ≡ length (cond (is_free r b) (c ∷ free_cells cs) (free_cells cs))
    → and_first (is_free r b) (first (start_by r b s (λ ps. start_image cs ps) params ++ more))
    (free_in cs (behind (is_stored r) (start_by r b s (λ ps. start_image cs ps) params ++ more))) ≡ params
start-one Input b s cs params more rest c e = rest params e
start-one Param None s cs [] more rest c e = absurd (omega (arith, e))
start-one Param None s cs (p ∷ params) more rest c e = ap (λ (ps : List ℤ). p ∷ ps) (rest params (omega (arith, e)))
start-one Param (Some v) s cs params more rest c e = rest params e
start-one Kept b s cs params more rest c e = rest params e
start-one Brief b s cs params more rest c e = rest params e

pub free-start : (cells : List Cell) (params more : List ℤ) → length params ≡ length (free_cells cells) → free_in cells (start_image cells params ++ more) ≡ params
free-start [] [] more e = refl
free-start [] (p ∷ params) more e = absurd (omega (arith, e))
free-start (c ∷ cs) params more e = start-one c.role c.bound c.start cs params more (λ ps same. free-start cs ps more same) c e

pub params-long : (cells : List Cell) (params : List ℤ) → AreWithin (param_ranges cells) params → length params ≡ length (free_cells cells)
params-long cells params are = within-length (param_ranges cells) params are ∙ length-map (free_cells cells) range_of_cell

-- ---- the walk over the cells

pub first-others : (values : List ℤ) (n : ℕ) → others (drop n values) ≡ drop (n + 1) values
first-others [] zero = refl
first-others [] (suc n) = let e : suc (n + 1) ≡ suc n + 1 = omega arith in ap (λ (k : ℕ). drop k []) e
first-others (v ∷ values) zero = refl
first-others (v ∷ values) (suc n) =
    let e : suc (n + 1) ≡ suc n + 1 = omega arith in
    first-others values n ∙ ap (λ (k : ℕ). drop k (v ∷ values)) e

and-first : (b : Bool) (v : ℤ) (xs : List ℤ) → and_first b v [] ++ xs ≡ and_first b v xs
and-first true v xs = refl
and-first false v xs = refl

behind-drop : (b : Bool) (image : List ℤ) (at : ℕ) → behind b (drop at image) ≡ drop (at + cond b 1 0) image
behind-drop true image at = first-others image at
behind-drop false image at = let e : at ≡ at + 0 = omega arith in ap (λ (n : ℕ). drop n image) e

pub first-at : (values : List ℤ) (n : ℕ) → slice_index_or values n (pos 0) ≡ first (drop n values)
first-at [] zero = refl
first-at [] (suc n) = refl
first-at (v ∷ values) zero = refl
first-at (v ∷ values) (suc n) = first-at values n

if-first : (b : Bool) (v : ℤ) → (if b then v ∷ [] else []) ≡ and_first b v []
if-first true v = refl
if-first false v = refl

-- one cell more of the walk
pub free-more : (cells : List Cell) (c : Cell) (k at more : ℕ) (image values new whole : List ℤ) (v : ℤ) → k < length cells → c ≡ slice_index_or cells k c
    → v ≡ slice_index_or image at (pos 0) → new ≡ values ++ (if is_free c.role c.bound then v ∷ [] else []) → more ≡ cond (is_stored c.role) 1 0
    → values ++ free_in (drop k cells) (drop at image) ≡ whole → new ++ free_in (drop (k + 1) cells) (drop (at + more) image) ≡ whole
free-more cells c k at more image values new whole v lt is at_is pushed step all =
    let b : Bool = is_free c.role c.bound in
    let x : ℤ = first (drop at image) in
    let next : drop k cells ≡ c ∷ drop (k + 1) cells = drop_more cells k c lt ∙ ap (λ (d : Cell). d ∷ drop (k + 1) cells) (sym is) in
    let grown : new ≡ values ++ and_first b x [] = pushed
    ∙ ap (λ (vs : List ℤ). values ++ vs) (if-first b v ∙ ap (λ (y : ℤ). and_first b y []) (at_is ∙ first-at image at)) in
    let later : free_in (drop (k + 1) cells) (drop (at + more) image) ≡ free_in (drop (k + 1) cells) (behind (is_stored c.role) (drop at image)) =
    ap (λ (n : ℕ). free_in (drop (k + 1) cells) (drop (at + n) image)) step
    ∙ ap (free_in (drop (k + 1) cells)) (sym (behind-drop (is_stored c.role) image at)) in
    let rest : List ℤ = free_in (drop (k + 1) cells) (behind (is_stored c.role) (drop at image)) in
    ap (λ (vs : List ℤ). vs ++ free_in (drop (k + 1) cells) (drop (at + more) image)) grown
    ∙ (ap (λ (vs : List ℤ). (values ++ and_first b x []) ++ vs) later
    ∙ (append_assoc values (and_first b x []) rest
    ∙ (ap (λ (vs : List ℤ). values ++ vs) (and-first b x rest)
    ∙ (ap (λ (cs : List Cell). values ++ free_in cs (drop at image)) (sym next) ∙ all))))

pub take-more : (values : List ℤ) (n : ℕ) → n < length values → take (n + 1) values ≡ take n values ++ slice_index_or values n (pos 0) ∷ []
take-more values n lt = let e : n + 1 ≡ suc n = omega arith in ap (λ (k : ℕ). take k values) e ∙ take-suc values n (pos 0) lt

-- ---- marks

pub mark-none : (bits : List ℤ) → length bits < 2 → mark_in bits ≡ None
mark-none [] lt = refl
mark-none (has ∷ []) lt = refl
mark-none (has ∷ was ∷ bits) lt = absurd (omega (arith, lt))

pub mark-some : (bits : List ℤ) (has was : Bool) → 2 ≤ length bits → has ≡ is_true (slice_index_or bits 0 (pos 0))
    → was ≡ is_true (slice_index_or bits 1 (pos 0)) → mark_by has was ≡ mark_in bits
mark-some [] has was le e f = absurd (omega (arith, le))
mark-some (v ∷ []) has was le e f = absurd (omega (arith, le))
mark-some (v ∷ w ∷ bits) has was le e f = ap (λ (b : Bool). mark_by b was) e ∙ ap (λ (b : Bool). mark_by (is_true v) b) f
