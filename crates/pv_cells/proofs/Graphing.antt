-- Blocks with their calls as numbers, and the counts of the cells below them.
use Rattle.std.proofs.Common.{◌≡◌, ℕ, zero, suc, ◌+◌, ◌-◌, ◌<◌, ◌≤◌, List, [], ◌∷◌, ◌++◌, Bool, true, false, cond, map, drop, take, get_or, is_some, IfSome, IfNone, nat_lt, length, Option, Some, None, refl, sym, ap, ◌∙◌, subst, append_assoc, arith}
use Rattle.std.specs.Prelude.{flat_map, option_map, option_to_list, bytes_eq, min, replicate}
use Rattle.std.specs.List.{slice_get, AllByRecursion}
use Rattle.std.proofs.lemmas.Bool.{ltb-true, ltb-false}
use Rattle.std.proofs.lemmas.Simd.{map-map}
use Rattle.std.proofs.lemmas.List.{append-nil, length-map, length-append, map-append, drop_all, take_all}
use Rattle.std.proofs.lemmas.Option.{slice_get-map, slice_get-get_or, get_or_from_slice_get, slice_get_past}
use Rattle.std.proofs.lemmas.List.Concat.{flat_map-append}
use Rattle.pv_tree.specs.Tree.{BlockTree}
use Rattle.pv_tree.specs.Scopes.{ProjectTree, has_key, first_block}
use Rattle.pv_names.specs.Firsts.{first_number}
use Rattle.pv_types.specs.declared.layout.TheConstants.{MAX_LEAVES}
use Rattle.pv_mean.specs.declared.count.TheConstants.{BEYOND}
use Rattle.pv_mean.specs.Counts.{capped}
use Rattle.pv_mean.specs.declared.cell.Cell.{Cell}
use Rattle.pv_mean.specs.Cells.{most_calls, nameless, own_brief_cells, brief_below, brief_cells}
use Rattle.pv_cells.specs.declared.node.Node.{Node}
use Rattle.pv_cells.specs.declared.variables.Form.TheVariants.{Brief, Nameless}
use Rattle.pv_cells.specs.Forms.{own_formed}
use Rattle.pv_cells.specs.Below.{at_numbers, cells_of_path, size_of_path, size_of_paths}
use Rattle.pv_cells.specs.Drawn.{IsEmptyAt}
use Rattle.pv_cells.specs.Graphs.{node_tree, IsNode, NodesAre, counts, at_number}
use Rattle.pv_cells.proofs.Sums.{beyond-next}
use Rattle.pv_cells.proofs.Pushing.{dropped, taken}
use Rattle.pv_cells.proofs.OwnCells.{own-formed, own-nameless}
use Rattle.pv_cells.proofs.Below.{below-callees, below-counted, below-within, path-counted}

-- ---- numbers of names

pub first_at : (bs : List BlockTree) (key : List ℕ)
    → at_number bs (first_number (bytes_eq key) (map (λ b. b.name.key) bs)) ≡ first_block bs key
first_at [] key = refl
first_at (b ∷ bs) key = lead (first_at bs key) (has_key key b.name)
  where
    later : (o : Option ℕ) → at_number (b ∷ bs) (option_map (λ n. suc n) o) ≡ at_number bs o
    later None = refl
    later (Some n) = refl

    lead : at_number bs (first_number (bytes_eq key) (map (λ c. c.name.key) bs)) ≡ first_block bs key → (t : Bool)
        → at_number (b ∷ bs) (cond t (Some 0) (option_map (λ n. suc n) (first_number (bytes_eq key) (map (λ c. c.name.key) bs))))
        ≡ cond t (Some b) (first_block bs key)
    lead same true = refl
    lead same false = later (first_number (bytes_eq key) (map (λ c. c.name.key) bs)) ∙ same

pub numbers-push : {X : Type 0} (xs : List X) (ns : List ℕ) (n : ℕ)
    → at_numbers xs (ns ++ n ∷ []) ≡ at_numbers xs ns ++ option_to_list (slice_get xs n)
numbers-push xs ns n =
    flat_map-append (λ i. option_to_list (slice_get xs i)) ns (n ∷ [])
    ∙ ap (λ l. at_numbers xs ns ++ l) (append-nil (option_to_list (slice_get xs n)))

-- ---- nodes

pub node-block : (project : ProjectTree) (nodes : List Node) → NodesAre project nodes → (i : ℕ) (n : Node) → slice_get nodes i ≡ Some n
    → slice_get project.blocks i ≡ Some (node_tree n)
node-block project nodes are i n is =
    ap (λ bs. slice_get bs i) (sym are.blocks) ∙ slice_get-map node_tree nodes i ∙ ap (option_map node_tree) is

all-at : (P : Node → Type 0) (nodes : List Node) → AllByRecursion P nodes → (i : ℕ) (n : Node) → slice_get nodes i ≡ Some n → P n
all-at P [] all i n is = absurd (cc)
all-at P (m ∷ ms) all zero n is = let e : m ≡ n = cc in subst P e all.0
all-at P (m ∷ ms) all (suc i) n is = all-at P ms all.1 i n is

pub node-is : (project : ProjectTree) (nodes : List Node) → NodesAre project nodes → (i : ℕ) (n : Node) → slice_get nodes i ≡ Some n
    → IsNode project n
node-is project nodes are i n is = all-at (IsNode project) nodes are.each i n is

pub no-block : (project : ProjectTree) (nodes : List Node) → NodesAre project nodes → (i : ℕ) → slice_get nodes i ≡ None
    → slice_get project.blocks i ≡ None
no-block project nodes are i is =
    ap (λ bs. slice_get bs i) (sym are.blocks) ∙ slice_get-map node_tree nodes i ∙ ap (option_map node_tree) is

-- ---- counts

capped_both : (a b m n : ℕ) → a ≡ capped m → b ≡ capped n → capped (a + b) ≡ capped (m + n)
capped_both a b m n e f = by BEYOND a b m n e f
  where
    by : (c a b m n : ℕ) → a ≡ min m c → b ≡ min n c → min (a + b) c ≡ min (m + n) c
    by c a b m n e f = omega (arith, e, f)

-- the count at a number
pub count-at : (project : ProjectTree) (n : ℕ) (below : List ℕ) → below ≡ counts project n → (i : ℕ) (b : BlockTree) (d : ℕ)
    → slice_get project.blocks i ≡ Some b → get_or below i d ≡ capped (length (brief_below project n b))
count-at project n below are i b d is =
    get_or_from_slice_get below i (capped (length (brief_below project n b))) d
    (ap (λ l. slice_get l i) are ∙ slice_get-map (λ c. capped (length (brief_below project n c))) project.blocks i
    ∙ ap (option_map (λ c. capped (length (brief_below project n c)))) is)

-- a block with what lies below it
pub size-at : (project : ProjectTree) (n : ℕ) (nodes : List Node) (below : List ℕ) → NodesAre project nodes → below ≡ counts project n
    → (i : ℕ) (x : Node) (r own at d : ℕ) → slice_get nodes i ≡ Some x → own ≡ x.own → at ≡ get_or below i d → r ≡ capped (own + at)
    → r ≡ capped (size_of_paths project n (option_to_list (slice_get project.blocks i)))
size-at project n nodes below are count i x r own at d is o a e =
    e ∙ capped_both own at (length (own_brief_cells project (node_tree x))) (length (brief_below project n (node_tree x)))
    (o ∙ (node-is project nodes are i x is).own) (a ∙ count-at project n below count i (node_tree x) d (node-block project nodes are i x is))
    ∙ (let z : size_of_path project n (node_tree x) ≡ size_of_path project n (node_tree x) + 0 = omega arith in ap capped z)
    ∙ ap (λ q. capped (size_of_paths project n (option_to_list q))) (sym (node-block project nodes are i x is))

pub size-none : (project : ProjectTree) (n : ℕ) (nodes : List Node) → NodesAre project nodes → (i : ℕ) → slice_get nodes i ≡ None
    → 0 ≡ capped (size_of_paths project n (option_to_list (slice_get project.blocks i)))
size-none project n nodes are i is =
    ap (λ q. capped (size_of_paths project n (option_to_list q))) (sym (no-block project nodes are i is))

-- the next count of a block
pub count-next : (project : ProjectTree) (n : ℕ) (x : Node) (r : ℕ) → IsNode project x
    → r ≡ capped (size_of_paths project n (at_numbers project.blocks x.calls.items))
    → r ≡ capped (length (brief_below project (suc n) (node_tree x)))
count-next project n x r is e =
    e ∙ ap (λ l. capped (size_of_paths project n l)) is.calls ∙ ap capped (sym (below-counted project n (node_tree x)))

-- at first nothing is below
zeros : (project : ProjectTree) (bs : List BlockTree) → replicate (length bs) 0 ≡ map (λ b. capped (length (brief_below project 0 b))) bs
zeros project [] = refl
zeros project (b ∷ bs) = ap (λ l. 0 ∷ l) (zeros project bs)

pub counts-none : (project : ProjectTree) (nodes : List Node) → NodesAre project nodes → replicate (length nodes) 0 ≡ counts project 0
counts-none project nodes are =
    ap (λ n. replicate n 0) (sym (length-map nodes node_tree) ∙ ap length are.blocks) ∙ zeros project project.blocks

-- ---- what nothing is put for

none_of : {X : Type 0} (xs : List X) → length xs ≡ 0 → xs ≡ []
none_of [] e = refl
none_of (x ∷ xs) e = absurd (omega (arith, e))

capped-none : (n : ℕ) → 0 ≡ capped n → n ≡ 0
capped-none n e = by MAX_LEAVES BEYOND n beyond-next e
  where
    by : (m c n : ℕ) → c ≡ suc m → 0 ≡ min n c → n ≡ 0
    by m c n next e = omega (arith, next, e)

-- a block without a cell on all its paths has none on shorter ones
path-empty : (project : ProjectTree) (b : BlockTree) (left : ℕ) → left < most_calls → length (brief_cells project b) ≡ 0
    → cells_of_path project left b ≡ []
path-empty project b left less none =
    let k : left + (most_calls - left) ≡ most_calls = omega (arith, less) in
    let e = length-append (own_brief_cells project b) (brief_below project most_calls b) in
    let within = below-within project left (most_calls - left) b in
    let same = ap (λ n. length (brief_below project n b)) k in
    let counted = path-counted project left b in
    none_of (cells_of_path project left b) (omega (arith, none, e, within, same, counted))

pub empty-at : (project : ProjectTree) (number size : ℕ)
    → ((b : BlockTree) → slice_get project.blocks number ≡ Some b → size ≡ capped (length (brief_cells project b))) → size ≡ 0
    → IsEmptyAt project number
empty-at project number size counted none = λ left less. lead left less (slice_get project.blocks number) (λ b e. counted b e)
  where
    lead : (left : ℕ) → left < most_calls → (o : Option BlockTree)
        → ((b : BlockTree) → o ≡ Some b → size ≡ capped (length (brief_cells project b)))
        → flat_map (cells_of_path project left) (option_to_list o) ≡ []
    lead left less None is = refl
    lead left less (Some b) is =
        append-nil (cells_of_path project left b)
        ∙ path-empty project b left less (capped-none (length (brief_cells project b)) (sym none ∙ is b refl))

pub empty-past : (project : ProjectTree) (number : ℕ) → slice_get project.blocks number ≡ None → IsEmptyAt project number
empty-past project number is = λ left less. ap (λ o. flat_map (cells_of_path project left) (option_to_list o)) is

-- the cells of a path, where no call is left, and where one more is
pub path-ends : (project : ProjectTree) (n : Node) (old cells : List Cell) (left : ℕ) → left ≡ 0
    → cells ≡ old ++ own_formed Nameless project (node_tree n) → cells ≡ old ++ cells_of_path project left (node_tree n)
path-ends project n old cells left none own =
    own ∙ ap (λ l. old ++ l) (sym (own-nameless project (node_tree n)) ∙ sym (append-nil (map nameless (own_brief_cells project (node_tree n))))
    ∙ ap (λ m. map nameless (own_brief_cells project (node_tree n)) ++ brief_below project m (node_tree n)) (sym none))

pub path-goes_on : (project : ProjectTree) (n : Node) (old mid cells : List Cell) (left less : ℕ) → left ≡ less + 1 → IsNode project n
    → mid ≡ old ++ own_formed Nameless project (node_tree n)
    → cells ≡ mid ++ flat_map (cells_of_path project less) (at_numbers project.blocks n.calls.items)
    → cells ≡ old ++ cells_of_path project left (node_tree n)
path-goes_on project n old mid cells left less next is own below =
    let b = node_tree n in
    let k : suc less ≡ left = omega (arith, next) in
    below ∙ ap (λ l. l ++ flat_map (cells_of_path project less) (at_numbers project.blocks n.calls.items)) own
    ∙ append_assoc old (own_formed Nameless project b) (flat_map (cells_of_path project less) (at_numbers project.blocks n.calls.items))
    ∙ ap (λ l. old ++ (l ++ flat_map (cells_of_path project less) (at_numbers project.blocks n.calls.items))) (sym (own-nameless project b))
    ∙ ap (λ l. old ++ (map nameless (own_brief_cells project b) ++ l))
    (ap (flat_map (cells_of_path project less)) is.calls ∙ sym (below-callees project less b) ∙ ap (λ m. brief_below project m b) k)

-- how many there are at most, part by part
pub path-few : (project : ProjectTree) (b : BlockTree) (left m : ℕ) → length (cells_of_path project left b) ≤ m
    → length (own_brief_cells project b) ≤ m
path-few project b left m few = let e = path-counted project left b in omega (arith, few, e)

pub below-few : (project : ProjectTree) (n : Node) (left less m : ℕ) → left ≡ less + 1 → IsNode project n
    → length (cells_of_path project left (node_tree n)) ≤ m
    → length (flat_map (cells_of_path project less) (at_numbers project.blocks n.calls.items)) ≤ m
below-few project n left less m next is few =
    let b = node_tree n in
    let k : suc less ≡ left = omega (arith, next) in
    let e = path-counted project left b in
    let f = ap (λ l. length (flat_map (cells_of_path project less) l)) is.calls ∙ ap length (sym (below-callees project less b))
    ∙ ap (λ m. length (brief_below project m b)) k in
    omega (arith, few, e, f)

-- ---- elements by their numbers

-- what a slice gives at a number
pub given : {X B : Type 0} (now : B → X) (xs : List X) (n : ℕ) (r : Option B) → is_some r ≡ nat_lt n (length xs)
    → IfSome r (λ b. now b ≡ get_or xs n (now b)) → option_map now r ≡ slice_get xs n
given now xs n None e h = sym (slice_get_past xs n (ltb-false n (length xs) (sym e)))
given now xs n (Some b) e h = ap Some h ∙ sym (slice_get-get_or xs n (now b) (ltb-true n (length xs) (sym e)))

pub there : {X : Type 0} (xs : List X) (i : ℕ) (x : X) → i < length xs → x ≡ get_or xs i x → slice_get xs i ≡ Some x
there xs i x inside is = slice_get-get_or xs i x inside ∙ ap Some (sym is)

-- ---- counts along a list of calls

paths-append : (project : ProjectTree) (n : ℕ) (xs ys : List BlockTree)
    → size_of_paths project n (xs ++ ys) ≡ size_of_paths project n xs + size_of_paths project n ys
paths-append project n [] ys = omega arith
paths-append project n (x ∷ xs) ys = let e = paths-append project n xs ys in omega (arith, e)

pub calls-split : (project : ProjectTree) (n : ℕ) (calls : List ℕ) (i j number : ℕ) → i < length calls → number ≡ get_or calls i number → j ≡ i + 1
    → size_of_paths project n (at_numbers project.blocks (drop i calls))
    ≡ size_of_paths project n (option_to_list (slice_get project.blocks number)) + size_of_paths project n (at_numbers project.blocks (drop j calls))
calls-split project n calls i j number inside is next =
    ap (λ l. size_of_paths project n (at_numbers project.blocks l)) (dropped calls i j number inside is next)
    ∙ paths-append project n (option_to_list (slice_get project.blocks number)) (at_numbers project.blocks (drop j calls))

pub calls-done : (project : ProjectTree) (n : ℕ) (calls : List ℕ) (i total whole : ℕ) → length calls ≤ i → capped total ≡ total
    → capped (total + size_of_paths project n (at_numbers project.blocks (drop i calls))) ≡ capped whole → total ≡ capped whole
calls-done project n calls i total whole past within left =
    let z : total ≡ total + 0 = omega arith in
    sym within ∙ ap capped z ∙ ap (λ l. capped (total + size_of_paths project n (at_numbers project.blocks l))) (sym (drop_all i calls past)) ∙ left

-- ---- the next counts

abbrev next_count : ProjectTree → ℕ → Node → ℕ
next_count project n x = capped (length (brief_below project (suc n) (node_tree x)))

pub next-counted : (project : ProjectTree) (n : ℕ) (nodes : List Node) → NodesAre project nodes → (i j : ℕ) (x : Node) → i < length nodes
    → x ≡ get_or nodes i x → j ≡ i + 1 → (old new : List ℕ) (r : ℕ) → new ≡ old ++ r ∷ []
    → r ≡ capped (size_of_paths project n (at_numbers project.blocks x.calls.items))
    → old ≡ map (next_count project n) (take i nodes) → new ≡ map (next_count project n) (take j nodes)
next-counted project n nodes are i j x inside is next old new r grown size before =
    grown ∙ ap (λ c. old ++ c ∷ []) (count-next project n x r (node-is project nodes are i x (there nodes i x inside is)) size)
    ∙ ap (λ l. l ++ next_count project n x ∷ []) before
    ∙ sym (ap (map (next_count project n)) (taken nodes i j x inside is next) ∙ map-append (next_count project n) (take i nodes) (x ∷ []))

pub next-done : (project : ProjectTree) (n : ℕ) (nodes : List Node) → NodesAre project nodes → (i : ℕ) (new : List ℕ) → length nodes ≤ i
    → new ≡ map (next_count project n) (take i nodes) → new ≡ counts project (suc n)
next-done project n nodes are i new past is =
    is ∙ ap (map (next_count project n)) (take_all i nodes past)
    ∙ sym (map-map (λ b. capped (length (brief_below project (suc n) b))) node_tree nodes)
    ∙ ap (map (λ b. capped (length (brief_below project (suc n) b)))) are.blocks

-- ---- the paths from a block

pub number-cells : (project : ProjectTree) (nodes : List Node) → NodesAre project nodes → (number : ℕ) (n : Node) → slice_get nodes number ≡ Some n
    → (left : ℕ)
    → flat_map (cells_of_path project left) (option_to_list (slice_get project.blocks number)) ≡ cells_of_path project left (node_tree n)
number-cells project nodes are number n is left =
    ap (λ o. flat_map (cells_of_path project left) (option_to_list o)) (node-block project nodes are number n is)
    ∙ append-nil (cells_of_path project left (node_tree n))

pub numbers-first : (project : ProjectTree) (left number : ℕ) (rest : List ℕ)
    → flat_map (cells_of_path project left) (at_numbers project.blocks (number ∷ rest))
    ≡ flat_map (cells_of_path project left) (option_to_list (slice_get project.blocks number))
    ++ flat_map (cells_of_path project left) (at_numbers project.blocks rest)
numbers-first project left number rest =
    flat_map-append (cells_of_path project left) (option_to_list (slice_get project.blocks number)) (at_numbers project.blocks rest)

-- the brief cells of the entered block, and how many of its parts there are at most
pub entered-cells : (project : ProjectTree) (n : Node) (old mid cells : List Cell) → IsNode project n
    → mid ≡ old ++ own_formed Brief project (node_tree n)
    → cells ≡ mid ++ flat_map (cells_of_path project 6) (at_numbers project.blocks n.calls.items)
    → cells ≡ old ++ brief_cells project (node_tree n)
entered-cells project n old mid cells is own below =
    let b = node_tree n in
    below ∙ ap (λ l. l ++ flat_map (cells_of_path project 6) (at_numbers project.blocks n.calls.items)) own
    ∙ append_assoc old (own_formed Brief project b) (flat_map (cells_of_path project 6) (at_numbers project.blocks n.calls.items))
    ∙ ap (λ l. old ++ (l ++ flat_map (cells_of_path project 6) (at_numbers project.blocks n.calls.items))) (sym (own-formed project b))
    ∙ ap (λ l. old ++ (own_brief_cells project b ++ l)) (ap (flat_map (cells_of_path project 6)) is.calls ∙ sym (below-callees project 6 b))

pub entered-few : (project : ProjectTree) (n : Node) (m : ℕ) → IsNode project n → length (brief_cells project (node_tree n)) ≤ m
    → (length (own_brief_cells project (node_tree n)) ≤ m)
    × (length (flat_map (cells_of_path project 6) (at_numbers project.blocks n.calls.items)) ≤ m)
entered-few project n m is few =
    let b = node_tree n in
    let e = length-append (own_brief_cells project b) (brief_below project 7 b) in
    let f : length (flat_map (cells_of_path project 6) (at_numbers project.blocks n.calls.items)) ≡ length (brief_below project 7 b) =
    ap (λ l. length (flat_map (cells_of_path project 6) l)) is.calls ∙ ap length (sym (below-callees project 6 b)) in
    (omega (arith, few, e), omega (arith, few, e, f))

-- the brief cells of an entered block, counted
pub size-brief : (project : ProjectTree) (number : ℕ) (b : BlockTree) → slice_get project.blocks number ≡ Some b
    → capped (size_of_paths project most_calls (option_to_list (slice_get project.blocks number))) ≡ capped (length (brief_cells project b))
size-brief project number b is =
    ap (λ o. capped (size_of_paths project most_calls (option_to_list o))) is
    ∙ ap capped (let z : size_of_path project most_calls b + 0 ≡ size_of_path project most_calls b = omega arith in
    z ∙ sym (length-append (own_brief_cells project b) (brief_below project most_calls b)))

-- what is found at a number
module _ {B : Type 0} (project : ProjectTree) (nodes : List Node) (are : NodesAre project nodes) (i : ℕ) where
  pub found-node : (now : B → Node) (r : Option B) → option_map now r ≡ slice_get nodes i → IfSome r (λ b. IsNode project (now b))
  found-node now None at = tt
  found-node now (Some b) at = node-is project nodes are i (now b) (sym at)

  pub found-block : (now : B → Node) (r : Option B) → option_map now r ≡ slice_get nodes i
      → IfSome r (λ b. slice_get project.blocks i ≡ Some (node_tree (now b)))
  found-block now None at = tt
  found-block now (Some b) at = node-block project nodes are i (now b) (sym at)

  pub found-none : (now : B → Node) (r : Option B) → option_map now r ≡ slice_get nodes i → IfNone r (slice_get project.blocks i ≡ None)
  found-none now None at = no-block project nodes are i (sym at)
  found-none now (Some b) at = tt

  pub found-empty : (now : B → Node) (r : Option B) → option_map now r ≡ slice_get nodes i → IfNone r (IsEmptyAt project i)
  found-empty now None at = empty-past project i (no-block project nodes are i (sym at))
  found-empty now (Some b) at = tt
