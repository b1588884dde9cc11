-- One step of each definition, as the code takes it.
use Rattle.std.proofs.Common.{◌≡◌, ℕ, suc, ◌+◌, ◌-◌, ◌*◌, ℤ, pos, List, [], ◌∷◌, ◌++◌, length, take, length-append, Bool as Truth, true, false, refl, sym, ap, subst, ◌∙◌, arith}
use Rattle.std.specs.Prelude.{unsigned_abs, ◌-ℤ◌, not}
use Rattle.std.proofs.Math.Seq.{take-append_seam}
use Rattle.pv_word.specs.declared.types.Ty.{Ty}
use Rattle.pv_flow.specs.declared.op.BinaryOp.TheVariants.{Or}
use Rattle.pv_flow.specs.Terms.{Term, constant, binary, select}
use Rattle.pv_flow.specs.Automata.{Set}
use Rattle.pv_flow.specs.declared.term.Node.{Node}
use Rattle.pv_access.specs.declared.access.Move.{Move as CodeMove}
use Rattle.pv_access.specs.Accesses.{Move, Writing, steps_of, is_at, chosen_up, element_term, width_of, each_below, element_sets, value_set, present_set, cell_sets, byte_term, bytes_behind, pattern_term, byte_set, pattern_sets}
use Rattle.pv_access.specs.Given.{IsMove}

pub next_one : (n next : ℕ) → next ≡ n + 1 → next ≡ suc n
next_one n next e = omega (arith, e)

-- ---- bytes

pub behind_none : (ty : Ty) (n count : ℕ) (t : Term) → count ≡ 0 → t ≡ bytes_behind ty n count t
behind_none ty n count t e = ap (λ (k : ℕ). bytes_behind ty n k t) (sym e)

pub behind_some : (ty : Ty) (n next count less : ℕ) (t : Term) → count ≡ suc less → next ≡ n + 1
    → bytes_behind ty next less (binary Or ty t (byte_term ty n less)) ≡ bytes_behind ty n count t
behind_some ty n next count less t e is =
    let one : next ≡ suc n = omega (arith, is) in
    ap (λ (m : ℕ). bytes_behind ty m less (binary Or ty t (byte_term ty n less))) one
    ∙ ap (λ (k : ℕ). bytes_behind ty n k t) (sym e)

pub pattern_none : (ty : Ty) (n count : ℕ) → count ≡ 0 → constant ty (pos 0) ≡ pattern_term ty n count
pattern_none ty n count e = ap (λ (k : ℕ). pattern_term ty n k) (sym e)

pub pattern_some : (ty : Ty) (n next count less : ℕ) → count ≡ suc less → next ≡ n + 1
    → bytes_behind ty next less (byte_term ty n less) ≡ pattern_term ty n count
pattern_some ty n next count less e is =
    let one : next ≡ suc n = omega (arith, is) in
    ap (λ (m : ℕ). bytes_behind ty m less (byte_term ty n less)) one ∙ ap (λ (k : ℕ). pattern_term ty n k) (sym e)

pub sets_none : (ty : Ty) (n count : ℕ) (t : Term) → count ≡ 0 → [] ≡ pattern_sets ty n count t
sets_none ty n count t e = ap (λ (k : ℕ). pattern_sets ty n k t) (sym e)

pub sets_some : (ty : Ty) (n next count less : ℕ) (t : Term) → count ≡ suc less → next ≡ n + 1
    → byte_set ty n less t ∷ pattern_sets ty next less t ≡ pattern_sets ty n count t
sets_some ty n next count less t e is =
    let one : next ≡ suc n = omega (arith, is) in
    ap (λ (m : ℕ). byte_set ty n less t ∷ pattern_sets ty m less t) one ∙ ap (λ (k : ℕ). pattern_sets ty n k t) (sym e)

-- ---- elements

-- as many steps as the code counts
pub steps_same : (nodes : List Node) (c : CodeMove) (m : Move) (steps : ℕ) → IsMove nodes c m → steps ≡ unsigned_abs (c.high -ℤ c.low)
    → steps ≡ steps_of m
steps_same nodes c m steps is e =
    e ∙ ap (λ (h : ℤ). unsigned_abs (h -ℤ c.low)) is.high ∙ ap (λ (l : ℤ). unsigned_abs (m.high -ℤ l)) is.low

-- the variable of the k-th element
pub further_same : (nodes : List Node) (c : CodeMove) (m : Move) (n k width at : ℕ) → IsMove nodes c m → at ≡ n + k * (c.stride * width)
    → at ≡ n + k * (m.stride * width)
further_same nodes c m n k width at is e = e ∙ ap (λ (s : ℕ). n + k * (s * width)) is.stride

-- the element at each index of one move
abbrev pub element_of : Ty → ℕ → Move → List Move → ℕ → ℕ → Term
element_of ty width m more n k = element_term ty width more (n + k * (m.stride * width))

pub chosen_first : (ty : Ty) (width : ℕ) (m : Move) (more : List Move) (n : ℕ)
    → element_term ty width more n ≡ chosen_up ty m (element_of ty width m more n) 0
chosen_first ty width m more n = ap (element_term ty width more) (none n (m.stride * width))
  where
    none : (n s : ℕ) → n ≡ n + 0 * s
    none n s = omega arith

pub chosen_next : (ty : Ty) (width : ℕ) (m : Move) (more : List Move) (n k next : ℕ) → next ≡ k + 1
    → select ty (is_at m next) (element_of ty width m more n next) (chosen_up ty m (element_of ty width m more n) k)
    ≡ chosen_up ty m (element_of ty width m more n) next
chosen_next ty width m more n k next e =
    let one : next ≡ suc k = omega (arith, e) in
    subst (λ (j : ℕ). select ty (is_at m j) (element_of ty width m more n j) (chosen_up ty m (element_of ty width m more n) k)
    ≡ chosen_up ty m (element_of ty width m more n) j) (sym one) refl

pub chosen_all : (ty : Ty) (width : ℕ) (m : Move) (more : List Move) (n k : ℕ) → k ≡ steps_of m
    → chosen_up ty m (element_of ty width m more n) k ≡ element_term ty width (m ∷ more) n
chosen_all ty width m more n k e = ap (chosen_up ty m (element_of ty width m more n)) e

-- the sets of each element of one move
abbrev pub sets_at : Truth → Ty → Writing → List Term → Move → List Move → ℕ → ℕ → List Set
sets_at paired ty w conditions m more n k =
    element_sets paired ty w (conditions ++ is_at m k ∷ []) more (n + k * (m.stride * width_of paired))

pub each_next : (sets : ℕ → List Set) (k next : ℕ) → next ≡ k + 1 → each_below sets k ++ sets k ≡ each_below sets next
each_next sets k next e =
    let one : next ≡ suc k = omega (arith, e) in ap (each_below sets) (sym one)

pub each_all : (paired : Truth) (ty : Ty) (w : Writing) (conditions : List Term) (m : Move) (more : List Move) (n count steps : ℕ)
    → count ≡ steps + 1 → steps ≡ steps_of m
    → each_below (sets_at paired ty w conditions m more n) count ≡ element_sets paired ty w conditions (m ∷ more) n
each_all paired ty w conditions m more n count steps e is =
    let one : count ≡ suc steps = omega (arith, e) in
    ap (each_below (sets_at paired ty w conditions m more n)) (one ∙ ap suc is)

-- ---- cells

pub cell_one : (paired : Truth) (ty : Ty) (conditions : List Term) (n : ℕ) (w : Writing) → not paired ≡ true
    → value_set ty conditions n w ∷ [] ≡ cell_sets paired ty conditions n w
cell_one false ty conditions n w e = refl
cell_one true ty conditions n w e = cc

pub cell_two : (paired : Truth) (ty : Ty) (conditions : List Term) (n next : ℕ) (w : Writing) → not paired ≡ false → next ≡ n + 1
    → value_set ty conditions n w ∷ present_set conditions next w ∷ [] ≡ cell_sets paired ty conditions n w
cell_two false ty conditions n next w e is = cc
cell_two true ty conditions n next w e is =
    ap (λ (m : ℕ). value_set ty conditions n w ∷ present_set conditions m w ∷ []) (next_one n next is)

-- ---- a list that one is put behind, and taken off

pub popped : (xs : List ℕ) (a n : ℕ) (ys zs : List ℕ) → ys ≡ xs ++ a ∷ [] → n ≡ length ys → zs ≡ take (n - 1) ys → zs ≡ xs
popped xs a n ys zs e len is =
    let long = length-append xs (a ∷ []) in
    let whole : length ys ≡ length (xs ++ a ∷ []) = ap length e in
    let count : n - 1 ≡ length xs = omega (arith, len, long, whole) in
    is ∙ ap (λ (k : ℕ). take k ys) count ∙ ap (take (length xs)) e ∙ take-append_seam xs (a ∷ [])
