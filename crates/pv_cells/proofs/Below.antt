-- The cells below a block: those of each block that its calls run, and how many they are.
use Rattle.std.proofs.Common.{◌≡◌, ℕ, zero, suc, ◌+◌, ◌≤◌, List, [], ◌∷◌, ◌++◌, map, length, refl, sym, ap, ◌∙◌, arith}
use Rattle.std.specs.Prelude.{flat_map, option_to_list}
use Rattle.std.proofs.lemmas.List.{length-append, length-map, append-nil}
use Rattle.std.proofs.lemmas.List.Concat.{flat_map-append}
use Rattle.pv_tree.specs.Tree.{BlockTree}
use Rattle.pv_tree.specs.Scopes.{ProjectTree, Scope}
use Rattle.pv_tree.specs.Callees.{CallSite, Callee, runs, not_declared, not_callable, unknown, callee_of, block_of_callee}
use Rattle.pv_tree.specs.Parts.{calls_of}
use Rattle.pv_mean.specs.Cells.{nameless, own_brief_cells, brief_below, brief_of_callee}
use Rattle.pv_cells.specs.Below.{callees_in, cells_of_path, size_of_path, size_of_paths}

-- ---- as a list of blocks

callee_cells : (project : ProjectTree) (n : ℕ) (c : Callee)
    → brief_of_callee project (brief_below project n) c ≡ flat_map (cells_of_path project n) (option_to_list (block_of_callee c))
callee_cells project n (runs b) = sym (append-nil (cells_of_path project n b))
callee_cells project n (not_declared place) = refl
callee_cells project n (not_callable place) = refl
callee_cells project n unknown = refl

calls_cells : (project : ProjectTree) (n : ℕ) (scope : Scope) (ss : List CallSite)
    → flat_map (λ s. brief_of_callee project (brief_below project n) (callee_of scope s)) ss
    ≡ flat_map (cells_of_path project n) (flat_map (λ s. option_to_list (block_of_callee (callee_of scope s))) ss)
calls_cells project n scope [] = refl
calls_cells project n scope (s ∷ more) =
    ap (λ l. l ++ flat_map (λ s. brief_of_callee project (brief_below project n) (callee_of scope s)) more)
    (callee_cells project n (callee_of scope s))
    ∙ ap (λ l. flat_map (cells_of_path project n) (option_to_list (block_of_callee (callee_of scope s))) ++ l) (calls_cells project n scope more)
    ∙ sym (flat_map-append (cells_of_path project n) (option_to_list (block_of_callee (callee_of scope s)))
    (flat_map (λ s. option_to_list (block_of_callee (callee_of scope s))) more))

pub below-callees : (project : ProjectTree) (n : ℕ) (b : BlockTree)
    → brief_below project (suc n) b ≡ flat_map (cells_of_path project n) (callees_in project b)
below-callees project n b = calls_cells project n (record { project = project; block = b }) (calls_of b)

-- ---- how many

pub path-counted : (project : ProjectTree) (n : ℕ) (b : BlockTree) → length (cells_of_path project n b) ≡ size_of_path project n b
path-counted project n b =
    length-append (map nameless (own_brief_cells project b)) (brief_below project n b)
    ∙ ap (λ m. m + length (brief_below project n b)) (length-map (own_brief_cells project b) nameless)

pub paths-counted : (project : ProjectTree) (n : ℕ) (bs : List BlockTree)
    → length (flat_map (cells_of_path project n) bs) ≡ size_of_paths project n bs
paths-counted project n [] = refl
paths-counted project n (b ∷ more) =
    length-append (cells_of_path project n b) (flat_map (cells_of_path project n) more)
    ∙ ap (λ m. m + length (flat_map (cells_of_path project n) more)) (path-counted project n b)
    ∙ ap (λ m. size_of_path project n b + m) (paths-counted project n more)

pub below-counted : (project : ProjectTree) (n : ℕ) (b : BlockTree)
    → length (brief_below project (suc n) b) ≡ size_of_paths project n (callees_in project b)
below-counted project n b = ap length (below-callees project n b) ∙ paths-counted project n (callees_in project b)

-- ---- where more calls may stand behind one another, there are no fewer

sums_grow : (project : ProjectTree) (n : ℕ)
    → ((b : BlockTree) → length (brief_below project n b) ≤ length (brief_below project (suc n) b)) → (bs : List BlockTree)
    → size_of_paths project n bs ≤ size_of_paths project (suc n) bs
sums_grow project n each [] = omega arith
sums_grow project n each (b ∷ more) = omega (arith, each b, sums_grow project n each more)

below-grows : (project : ProjectTree) (n : ℕ) (b : BlockTree)
    → length (brief_below project n b) ≤ length (brief_below project (suc n) b)
below-grows project zero b = omega arith
below-grows project (suc n) b =
    let grown = sums_grow project n (below-grows project n) (callees_in project b) in
    omega (arith, below-counted project n b, below-counted project (suc n) b, grown)

pub below-within : (project : ProjectTree) (n k : ℕ) (b : BlockTree)
    → length (brief_below project n b) ≤ length (brief_below project (n + k) b)
below-within project n zero b = let e : n + zero ≡ n = omega arith in
    let l = ap (λ m. length (brief_below project m b)) e in omega (arith, l)
below-within project n (suc k) b =
    let e : n + suc k ≡ suc (n + k) = omega arith in
    let l = ap (λ m. length (brief_below project m b)) e in
    omega (arith, l, below-within project n k b, below-grows project (n + k) b)
