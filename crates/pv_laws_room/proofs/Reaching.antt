-- A block to which calls lead works on an instance among the visible cells, and its brief cells are among those of the table.
use Rattle.std.proofs.Common.{◌≡◌, ℕ, zero, suc, ◌+◌, ◌<◌, ◌≤◌, List, [], ◌∷◌, ◌++◌, map, length, Bool, true, false, cond, not, Contains, refl, sym, ap, subst, ◌∙◌, arith}
use Rattle.std.specs.Prelude.{⊤, filter, flat_map, if◌then◌else◌}
use Rattle.std.proofs.lemmas.List.{length-append}
use Rattle.pv_word.specs.declared.types.Ty.{Ty}
use Rattle.pv_types.specs.declared.declaration.Section.{Section}
use Rattle.pv_types.specs.declared.declaration.Section.TheVariants.{Input, Output, InOut, Static, Temp, Const}
use Rattle.pv_types.specs.declared.leaf.Leaf.{Leaf}
use Rattle.pv_types.specs.Tree.{VarTree, var}
use Rattle.pv_tree.specs.Tree.{BlockTree}
use Rattle.pv_tree.specs.Scopes.{ProjectTree, is_fb, is_const, is_of_instance}
use Rattle.pv_tree.specs.Callees.{CallSite, Callee, runs, callee_of}
use Rattle.pv_tree.specs.Parts.{calls_of}
use Rattle.pv_tree.specs.Rules.{KeepsRules}
use Rattle.pv_mean.specs.declared.cell.Cell.{Cell}
use Rattle.pv_mean.specs.Layout.{size_in, size_among, is_temp, is_brief_in}
use Rattle.pv_mean.specs.Cells.{brief_cell, brief_variables, own_brief_cells, nameless, most_calls, brief_of_callee, brief_below, brief_cells, leaves_of_block}
use Rattle.pv_laws_types.proofs.ForCallers.{among_counted, leaf_types, types_among, but_constants, block_types, among_same}

-- ---- lengths

flat_longer : {X Y : Type 0} (f : X → List Y) (xs : List X) (x : X) → Contains xs x → length (f x) ≤ length (flat_map f xs)
flat_longer f [] x (k, lt, e) = absurd (omega (arith, lt))
flat_longer f (z ∷ zs) x (zero, lt, e) =
    let w = length-append (f z) (flat_map f zs) in
    let same = ap (λ y. length (f y)) e in omega (arith, w, same)
flat_longer f (z ∷ zs) x (suc k, lt, e) =
    let w = length-append (f z) (flat_map f zs) in
    let below = flat_longer f zs x (k, omega (arith, lt), e) in omega (arith, w, below)

pub mapped_length : {X Y : Type 0} (f : X → Y) (xs : List X) → length (map f xs) ≡ length xs
mapped_length f [] = refl
mapped_length f (x ∷ xs) = ap suc (mapped_length f xs)

-- ---- brief cells down chains of calls

-- so many calls lead from one block to the other
abbrev pub Chain : ProjectTree → ℕ → BlockTree → BlockTree → Type 0
Chain project zero b last = b ≡ last
Chain project (suc n) b last =
    (s : CallSite) × (called : BlockTree) × Contains (calls_of b) s × (callee_of (record { project = project; block = b }) s ≡ runs called)
    × Chain project n called last

-- the brief cells of a callee, and those below it, are among those below its caller
called_below : (project : ProjectTree) (m : ℕ) (b called : BlockTree) (s : CallSite) → Contains (calls_of b) s
    → callee_of (record { project = project; block = b }) s ≡ runs called
    → length (own_brief_cells project called) + length (brief_below project m called) ≤ length (brief_below project (suc m) b)
called_below project m b called s there is =
    let w = flat_longer (λ x. brief_of_callee project (brief_below project m) (callee_of (record { project = project; block = b }) x))
    (calls_of b) s there in
    let same : length (brief_of_callee project (brief_below project m) (callee_of (record { project = project; block = b }) s))
    ≡ length (map nameless (own_brief_cells project called) ++ brief_below project m called) =
    ap (λ x. length (brief_of_callee project (brief_below project m) x)) is in
    let l = length-append (map nameless (own_brief_cells project called)) (brief_below project m called) in
    let k = mapped_length nameless (own_brief_cells project called) in
    omega (arith, w, same, l, k)

-- those of a block are among those below each block from which a call leads to it, and so on
chain_below : (project : ProjectTree) (n m : ℕ) (b last : BlockTree) → Chain project (suc n) b last → n < m
    → length (own_brief_cells project last) ≤ length (brief_below project m b)
chain_below project n zero b last c lt = absurd (omega (arith, lt))
chain_below project zero (suc m) b last (s, called, there, is, same) lt =
    let w = called_below project m b called s there is in
    let e = ap (λ x. length (own_brief_cells project x)) same in
    omega (arith, w, e)
chain_below project (suc n) (suc m) b last (s, called, there, is, more) lt =
    let w = called_below project m b called s there is in
    let below = chain_below project n m called last more (omega (arith, lt)) in
    omega (arith, w, below)

pub chain_brief : (project : ProjectTree) (n : ℕ) (b last : BlockTree) → Chain project n b last → n ≤ most_calls
    → length (own_brief_cells project last) ≤ length (brief_cells project b)
chain_brief project zero b last same le =
    let l = length-append (own_brief_cells project b) (brief_below project most_calls b) in
    let e = ap (λ x. length (own_brief_cells project x)) same in
    omega (arith, l, e)
chain_brief project (suc n) b last c le =
    let l = length-append (own_brief_cells project b) (brief_below project most_calls b) in
    let w = chain_below project n most_calls b last c (omega (arith, le)) in omega (arith, l, w)

-- ---- a block's own

brief_lengths : (leaves : List Leaf) → length (map (λ l. brief_cell l.path l.ty l.start) leaves) ≡ length (leaf_types leaves)
brief_lengths [] = refl
brief_lengths (l ∷ ls) = ap suc (brief_lengths ls)

brief_kept : (b : BlockTree) (s : Section) → but_constants (is_brief_in b) s ≡ is_brief_in b s
brief_kept b s = lead s (is_fb b.kind)
  where
    lead : (x : Section) (fb : Bool) → cond (is_const x) false (if fb then is_temp x else not (is_const x))
        ≡ (if fb then is_temp x else not (is_const x))
    lead Input fb = refl
    lead Output fb = refl
    lead InOut fb = refl
    lead Static fb = refl
    lead Temp fb = refl
    lead Const true = refl
    lead Const false = refl

pub brief_counted : (project : ProjectTree) (b : BlockTree) → length (brief_variables project b) ≡ size_among project (is_brief_in b) b.vars
brief_counted project b =
    brief_lengths (filter (λ l. is_brief_in b l.section) (leaves_of_block project b))
    ∙ ap length (block_types project (is_brief_in b) b.vars ∙ among_same project (but_constants (is_brief_in b)) (is_brief_in b) (brief_kept b) b.vars)
    ∙ among_counted project (is_brief_in b) b.vars

-- of a block without an instance all but constants are brief
pub own_among_brief : (project : ProjectTree) (b : BlockTree) → is_fb b.kind ≡ false → (vars : List VarTree)
    → size_among project is_of_instance vars ≤ size_among project (is_brief_in b) vars
own_among_brief project b none [] = omega arith
own_among_brief project b none (var name section ty start place ∷ more) = lead section (is_fb b.kind) none (own_among_brief project b none more)
  where
    n : ℕ
    n = size_in project ty

    x : ℕ
    x = size_among project is_of_instance more

    y : ℕ
    y = size_among project (is_brief_in b) more

    lead : (s : Section) (fb : Bool) → fb ≡ false → x ≤ y
        → (if is_of_instance s then n + x else x) ≤ (if (if fb then is_temp s else not (is_const s)) then n + y else y)
    lead s true e le = absurd (cc)
    lead Input false e le = omega (arith, le)
    lead Output false e le = omega (arith, le)
    lead InOut false e le = omega (arith, le)
    lead Static false e le = omega (arith, le)
    lead Temp false e le = omega (arith, le)
    lead Const false e le = le
