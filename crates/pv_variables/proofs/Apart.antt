-- Brief cells have variables of their own: a bound one lies among the bound variables, any other among the block's own.
use Rattle.std.proofs.Common.{◌≡◌, ◌≤◌, ◌<◌, ℕ, zero, suc, ◌+◌, ◌-◌, ◌*◌, List, [], ◌∷◌, ◌++◌, map, length, refl, ap, arith, ◌⊎◌, inl, inr}
use Rattle.std.specs.Prelude.{◌≢◌, is_some, nat_lt, filter, flat_map, Bool as Truth, true, false, ◌&&◌, not, if◌then◌else◌}
use Rattle.std.proofs.lemmas.Bool.{ltb-true, ltb-false}
use Rattle.std.proofs.lemmas.List.{length-append, length-map}
use Rattle.pv_types.specs.declared.declaration.Section.{Section}
use Rattle.pv_types.specs.declared.declaration.Section.TheVariants.{Input, Output, InOut, Static, Temp, Const}
use Rattle.pv_types.specs.declared.leaf.Leaf.{Leaf}
use Rattle.pv_types.specs.Tree.{VarTree, var}
use Rattle.pv_tree.specs.declared.block.BlockKind.{BlockKind}
use Rattle.pv_tree.specs.declared.block.BlockKind.TheVariants.{Fb, Fc, Ob, Db, Udt}
use Rattle.pv_tree.specs.Tree.{BlockTree}
use Rattle.pv_tree.specs.Scopes.{ProjectTree, is_fb, is_fc, is_const}
use Rattle.pv_tree.specs.Callees.{is_param}
use Rattle.pv_mean.specs.Layout.{size_in, size_among, is_temp, is_brief_in}
use Rattle.pv_mean.specs.Cells.{leaves_of_block}
use Rattle.pv_mean.specs.Sources.{Source}
use Rattle.pv_mean.specs.Activations.{value_number}
use Rattle.pv_place.specs.declared.role.Role.TheVariants.{Brief}
use Rattle.pv_variables.specs.Variables.{is_bound_in, value_count, bound_count, shared_cells, shared_count, own_first, behind, brief_among, brief_variable, with_set, variable_of_cell, bound_variables, register_variables, own_variables, variables_of}
use Rattle.pv_variables.proofs.Counted.{all-kept, pairs}

-- ---- which cells

abbrev is_own_in : BlockTree → Section → Truth
is_own_in block s = is_brief_in block s && not (is_bound_in block s)

bound_is_brief : (k : BlockKind) (s : Section) → (is_fc k && is_param s) ≡ true
    → (if is_fb k then is_temp s else not (is_const s)) ≡ true
bound_is_brief Fc Input h = refl
bound_is_brief Fc Output h = refl
bound_is_brief Fc InOut h = refl
bound_is_brief Fc Static h = refl
bound_is_brief Fc Temp h = refl
bound_is_brief Fc Const h = cc
bound_is_brief Fb s h = cc
bound_is_brief Ob s h = cc
bound_is_brief (Db of) s h = cc
bound_is_brief Udt s h = cc

own-never : (block : BlockTree) → is_own_in block Const ≡ false
own-never block = lead (is_fb block.kind)
  where
    lead : (b : Truth) → ((if b then false else false) && not (is_bound_in block Const)) ≡ false
    lead true = refl
    lead false = refl

-- ---- where they lie

data Lies (b bc o oc r : ℕ) : Type 0 where
  bound_there : b ≤ r → r + 2 ≤ b + 2 * bc → Lies b bc o oc r
  own_there : o ≤ r → r + 2 ≤ o + 2 * oc → Lies b bc o oc r

wider-bound : (b bc o oc s r : ℕ) → Lies (b + 2 * s) bc o oc r → Lies b (s + bc) o oc r
wider-bound b bc o oc s r (bound_there p q) = bound_there (omega (arith, p)) (omega (arith, q))
wider-bound b bc o oc s r (own_there p q) = own_there p q

wider-own : (b bc o oc s r : ℕ) → Lies b bc (o + 2 * s) oc r → Lies b bc o (s + oc) r
wider-own b bc o oc s r (bound_there p q) = bound_there p q
wider-own b bc o oc s r (own_there p q) = own_there (omega (arith, p)) (omega (arith, q))

regroup : (b s bc vc o oc r : ℕ) → Lies b (s + (bc + vc)) o oc r → Lies b (s + bc + vc) o oc r
regroup b s bc vc o oc r (bound_there p q) = bound_there p (omega (arith, q))
regroup b s bc vc o oc r (own_there p q) = own_there p q

lies : (project : ProjectTree) (block : BlockTree) (vc : ℕ) (vars : List VarTree) (j b o : ℕ)
    → j < size_among project (is_brief_in block) vars + vc
    → Lies b (size_among project (is_bound_in block) vars + vc) o (size_among project (is_own_in block) vars)
    (brief_among project block vars j b o)
lies project block vc [] j b o le = bound_there (omega arith) (omega (arith, le))
lies project block vc (var name section ty start place ∷ more) j b o le =
    lead (is_brief_in block section) (is_bound_in block section) (nat_lt j s) refl (bound_is_brief block.kind section) le
    (λ j' b' o' h. lies project block vc more j' b' o' h)
  where
    s : ℕ
    s = size_in project ty

    among : ℕ
    among = size_among project (is_brief_in block) more

    bounds : ℕ
    bounds = size_among project (is_bound_in block) more

    owns : ℕ
    owns = size_among project (is_own_in block) more

    lead : (br bd lt : Truth) → nat_lt j s ≡ lt → (bd ≡ true → br ≡ true)
        → j < (if br then s + among else among) + vc
        → ((j' b' o' : ℕ) → j' < among + vc → Lies b' (bounds + vc) o' owns (brief_among project block more j' b' o'))
        → Lies b ((if bd then s + bounds else bounds) + vc) o (if br && not bd then s + owns else owns)
        (if br then (if lt then (if bd then b else o) + 2 * j
        else brief_among project block more (j - s) (behind bd b s) (behind (not bd) o s))
        else brief_among project block more j b o)
    lead true true true e h le rest = bound_there (omega arith) (omega (arith, ltb-true j s e))
    lead true true false e h le rest =
        regroup b s bounds vc o owns (brief_among project block more (j - s) (b + 2 * s) o)
        (wider-bound b (bounds + vc) o owns s (brief_among project block more (j - s) (b + 2 * s) o)
        (rest (j - s) (b + 2 * s) o (omega (arith, ltb-false j s e, le))))
    lead true false true e h le rest = own_there (omega arith) (omega (arith, ltb-true j s e))
    lead true false false e h le rest =
        wider-own b (bounds + vc) o owns s (brief_among project block more (j - s) b (o + 2 * s))
        (rest (j - s) b (o + 2 * s) (omega (arith, ltb-false j s e, le)))
    lead false true lt e h le rest = let x = h refl in cc
    lead false false lt e h le rest = rest j b o le

-- ---- two of them

data Far (x y : ℕ) : Type 0 where
  before : x + 2 ≤ y → Far x y
  after : y + 2 ≤ x → Far x y

turned : (x y : ℕ) → Far x y → Far y x
turned x y (before p) = after p
turned x y (after p) = before p

differ : (i j : ℕ) → i ≢ j → (i < j) ⊎ (j < i)
differ zero zero ne = absurd (ne refl)
differ zero (suc j) ne = inl (omega arith)
differ (suc i) zero ne = inr (omega arith)
differ (suc i) (suc j) ne = further (differ i j (λ e. ne (ap suc e)))
  where
    further : (i < j) ⊎ (j < i) → (suc i < suc j) ⊎ (suc j < suc i)
    further (inl p) = inl (omega (arith, p))
    further (inr p) = inr (omega (arith, p))

in_one : (c i j : ℕ) → (i < j) ⊎ (j < i) → Far (c + 2 * i) (c + 2 * j)
in_one c i j (inl p) = before (omega (arith, p))
in_one c i j (inr p) = after (omega (arith, p))

-- one in front of the others, among the bound ones or the block's own
front-bound : (b o s i bc oc r : ℕ) → i < s → b + 2 * (s + bc) ≤ o → Lies (b + 2 * s) bc o oc r → Far (b + 2 * i) r
front-bound b o s i bc oc r lt le (bound_there p q) = before (omega (arith, lt, p))
front-bound b o s i bc oc r lt le (own_there p q) = before (omega (arith, lt, le, p))

front-own : (b o s i bc oc r : ℕ) → i < s → b + 2 * bc ≤ o → Lies b bc (o + 2 * s) oc r → Far (o + 2 * i) r
front-own b o s i bc oc r lt le (bound_there p q) = after (omega (arith, le, q))
front-own b o s i bc oc r lt le (own_there p q) = before (omega (arith, lt, p))

shifted : (i j s : ℕ) → s ≤ i → s ≤ j → i ≢ j → (i - s) ≢ (j - s)
shifted i j s p q ne e = ne (omega (arith, p, q, e))

far : (project : ProjectTree) (block : BlockTree) (vc : ℕ) → vc ≤ 1 → (vars : List VarTree) (i j b o : ℕ)
    → b + 2 * (size_among project (is_bound_in block) vars + vc) ≤ o
    → i < size_among project (is_brief_in block) vars + vc → j < size_among project (is_brief_in block) vars + vc → i ≢ j
    → Far (brief_among project block vars i b o) (brief_among project block vars j b o)
far project block vc one [] i j b o room p q ne = absurd (ne (omega (arith, one, p, q)))
far project block vc one (var name section ty start place ∷ more) i j b o room p q ne =
    lead (is_brief_in block section) (is_bound_in block section) (nat_lt i s) (nat_lt j s) refl refl
    (bound_is_brief block.kind section) room p q
    (λ b' o' r. far project block vc one more (i - s) (j - s) b' o' r)
    (λ r x y. far project block vc one more i j b o r x y ne)
  where
    s : ℕ
    s = size_in project ty

    among : ℕ
    among = size_among project (is_brief_in block) more

    bounds : ℕ
    bounds = size_among project (is_bound_in block) more

    there : (k b' o' : ℕ) → k < among + vc
        → Lies b' (bounds + vc) o' (size_among project (is_own_in block) more) (brief_among project block more k b' o')
    there k b' o' h = lies project block vc more k b' o' h

    lead : (br bd lti ltj : Truth) → nat_lt i s ≡ lti → nat_lt j s ≡ ltj → (bd ≡ true → br ≡ true)
        → b + 2 * ((if bd then s + bounds else bounds) + vc) ≤ o
        → i < (if br then s + among else among) + vc → j < (if br then s + among else among) + vc
        → ((b' o' : ℕ) → b' + 2 * (bounds + vc) ≤ o' → i - s < among + vc → j - s < among + vc → (i - s) ≢ (j - s)
        → Far (brief_among project block more (i - s) b' o') (brief_among project block more (j - s) b' o'))
        → (b + 2 * (bounds + vc) ≤ o → i < among + vc → j < among + vc
        → Far (brief_among project block more i b o) (brief_among project block more j b o))
        → Far (if br then (if lti then (if bd then b else o) + 2 * i
        else brief_among project block more (i - s) (behind bd b s) (behind (not bd) o s))
        else brief_among project block more i b o)
        (if br then (if ltj then (if bd then b else o) + 2 * j
        else brief_among project block more (j - s) (behind bd b s) (behind (not bd) o s))
        else brief_among project block more j b o)
    lead true true true true ei ej h room p q both none = in_one b i j (differ i j ne)
    lead true true true false ei ej h room p q both none =
        front-bound b o s i (bounds + vc) (size_among project (is_own_in block) more)
        (brief_among project block more (j - s) (b + 2 * s) o) (ltb-true i s ei) (omega (arith, room))
        (there (j - s) (b + 2 * s) o (omega (arith, ltb-false j s ej, q)))
    lead true true false true ei ej h room p q both none =
        turned (b + 2 * j) (brief_among project block more (i - s) (b + 2 * s) o)
        (front-bound b o s j (bounds + vc) (size_among project (is_own_in block) more)
        (brief_among project block more (i - s) (b + 2 * s) o) (ltb-true j s ej) (omega (arith, room))
        (there (i - s) (b + 2 * s) o (omega (arith, ltb-false i s ei, p))))
    lead true true false false ei ej h room p q both none =
        both (b + 2 * s) o (omega (arith, room)) (omega (arith, ltb-false i s ei, p)) (omega (arith, ltb-false j s ej, q))
        (shifted i j s (ltb-false i s ei) (ltb-false j s ej) ne)
    lead true false true true ei ej h room p q both none = in_one o i j (differ i j ne)
    lead true false true false ei ej h room p q both none =
        front-own b o s i (bounds + vc) (size_among project (is_own_in block) more)
        (brief_among project block more (j - s) b (o + 2 * s)) (ltb-true i s ei) room
        (there (j - s) b (o + 2 * s) (omega (arith, ltb-false j s ej, q)))
    lead true false false true ei ej h room p q both none =
        turned (o + 2 * j) (brief_among project block more (i - s) b (o + 2 * s))
        (front-own b o s j (bounds + vc) (size_among project (is_own_in block) more)
        (brief_among project block more (i - s) b (o + 2 * s)) (ltb-true j s ej) room
        (there (i - s) b (o + 2 * s) (omega (arith, ltb-false i s ei, p))))
    lead true false false false ei ej h room p q both none =
        both b (o + 2 * s) (omega (arith, room)) (omega (arith, ltb-false i s ei, p)) (omega (arith, ltb-false j s ej, q))
        (shifted i j s (ltb-false i s ei) (ltb-false j s ej) ne)
    lead false true lti ltj ei ej h room p q both none = let x = h refl in cc
    lead false false lti ltj ei ej h room p q both none = none room p q

not_same : (x y : ℕ) → Far x y → x ≢ y
not_same x y (before p) e = omega (arith, p, e)
not_same x y (after p) e = omega (arith, p, e)

not_next : (x y : ℕ) → Far x y → x ≢ suc y
not_next x y (before p) e = omega (arith, p, e)
not_next x y (after p) e = omega (arith, p, e)

one_value : (b : Truth) → (if b then 1 else 0) ≤ 1
one_value true = omega arith
one_value false = omega arith

-- ---- in a block

two_apart : (source : Source) (block : BlockTree) (i j : ℕ)
    → i < value_number source block + value_count block → j < value_number source block + value_count block
    → i ≢ j → Far (brief_variable source block i) (brief_variable source block j)
two_apart source block i j p q ne =
    far source.project block (value_count block) (one_value (is_some block.value)) block.vars i j 0 (own_first source block) (omega arith) p q ne

pub apart : (source : Source) (block : BlockTree) (i j : ℕ)
    → i < value_number source block + value_count block → j < value_number source block + value_count block
    → i ≢ j → (brief_variable source block i ≢ brief_variable source block j)
    × (brief_variable source block i ≢ suc (brief_variable source block j))
apart source block i j p q ne =
    let f = two_apart source block i j p q ne in (not_same _ _ f, not_next _ _ f)

own-length : (source : Source) (block : BlockTree)
    → 2 * size_among source.project (is_own_in block) block.vars ≤ length (own_variables source block)
own-length source block =
    let owns = filter (λ (l : Leaf). is_own_in block l.section) (leaves_of_block source.project block) in
    let a = length-append (flat_map (λ (l : Leaf). with_set Brief l.ty) owns) (register_variables block) in
    let b = pairs (λ (l : Leaf). with_set Brief l.ty) owns (λ l. refl) in
    let c = all-kept source.project (is_own_in block) block.vars (own-never block) in
    omega (arith, a, b, c)

ends : (r bc oc bound shared whole b s o : ℕ) → Lies 0 bc (bound + shared) oc r → 2 * bc ≤ bound → b ≡ bound → s ≡ shared → 2 * oc ≤ o
    → whole ≡ b + s + o → suc r < whole
ends r bc oc bound shared whole b s o (bound_there p q) le eb es eo ew = omega (arith, q, le, eb, es, ew)
ends r bc oc bound shared whole b s o (own_there p q) le eb es eo ew = omega (arith, q, eb, es, eo, ew)

pub within : (source : Source) (block : BlockTree) (j : ℕ) → length (bound_variables source block) ≡ bound_count source block
    → j < value_number source block + value_count block
    → suc (brief_variable source block j) < length (variables_of source block)
within source block j counted le =
    let there = lies source.project block (value_count block) block.vars j 0 (own_first source block) le in
    let a = length-append (bound_variables source block ++ map variable_of_cell (shared_cells source)) (own_variables source block) in
    let b = length-append (bound_variables source block) (map variable_of_cell (shared_cells source)) in
    ends (brief_variable source block j) (size_among source.project (is_bound_in block) block.vars + value_count block)
    (size_among source.project (is_own_in block) block.vars) (bound_count source block) (shared_count source)
    (length (variables_of source block)) (length (bound_variables source block)) (length (map variable_of_cell (shared_cells source)))
    (length (own_variables source block)) there (omega arith) counted (length-map (shared_cells source) variable_of_cell)
    (own-length source block) (omega (arith, a, b))
