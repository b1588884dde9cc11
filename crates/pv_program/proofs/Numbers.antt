-- The number of a block that is the first of its name.
use Rattle.std.proofs.Common.{◌≡◌, ℕ, suc, List, [], ◌∷◌, map, Option, Some, None, Bool, true, false, cond, option_map, bytes_eq, refl, ap, ◌∙◌}
use Rattle.std.specs.Prelude.{slice_get, if◌then◌else◌}
use Rattle.std.proofs.lemmas.Option.{same_Some}
use Rattle.pv_tree.specs.Tree.{BlockTree}
use Rattle.pv_tree.specs.Scopes.{first_block}
use Rattle.pv_names.specs.Firsts.{first_number}

later : (o : Option ℕ) (x : BlockTree) (xs : List BlockTree) (n : ℕ) (b : BlockTree) → ((m : ℕ) → Some m ≡ o → slice_get xs m ≡ Some b)
    → Some n ≡ option_map (λ n. suc n) o → slice_get (x ∷ xs) n ≡ Some b
later None x xs n b f e = cc
later (Some m) x xs n b f e = ap (slice_get (x ∷ xs)) (same_Some n (suc m) e) ∙ f m refl

pub number-finds : (key : List ℕ) (blocks : List BlockTree) (n : ℕ) (b : BlockTree)
    → Some n ≡ first_number (bytes_eq key) (map (λ b. b.name.key) blocks) → first_block blocks key ≡ Some b → slice_get blocks n ≡ Some b
number-finds key [] n b e f = cc
number-finds key (x ∷ xs) n b e f = lead (bytes_eq key x.name.key) (λ m is rest. number-finds key xs m b is rest) e f
  where
    lead : (t : Bool)
        → ((m : ℕ) → Some m ≡ first_number (bytes_eq key) (map (λ b. b.name.key) xs) → first_block xs key ≡ Some b → slice_get xs m ≡ Some b)
        → Some n ≡ (if t then Some 0 else option_map (λ n. suc n) (first_number (bytes_eq key) (map (λ b. b.name.key) xs)))
        → cond t (Some x) (first_block xs key) ≡ Some b → slice_get (x ∷ xs) n ≡ Some b
    lead true ih is found = ap (slice_get (x ∷ xs)) (same_Some n 0 is) ∙ found
    lead false ih is found = later (first_number (bytes_eq key) (map (λ b. b.name.key) xs)) x xs n b (λ m at. ih m at found) is

-- by the number of its name in a table
pub block-number : (blocks other : List BlockTree) (key : List ℕ) (b : BlockTree) (n : ℕ) → other ≡ blocks → key ≡ b.name.key
    → Some n ≡ first_number (bytes_eq key) (map (λ b. b.name.key) other) → first_block blocks b.name.key ≡ Some b
    → slice_get blocks n ≡ Some b
block-number blocks other key b n same name found first =
    number-finds b.name.key blocks n b
    (found ∙ ap (λ l. first_number (bytes_eq key) (map (λ b. b.name.key) l)) same
    ∙ ap (λ k. first_number (bytes_eq k) (map (λ b. b.name.key) blocks)) name) first

-- such a block has a number
none-suc : (o : Option ℕ) → None ≡ option_map (λ n. suc n) o → None ≡ o
none-suc None e = refl
none-suc (Some m) e = cc

no-first : (key : List ℕ) (blocks : List BlockTree) (b : BlockTree) → None ≡ first_number (bytes_eq key) (map (λ b. b.name.key) blocks)
    → first_block blocks key ≡ Some b → ⊥
no-first key [] b e f = cc
no-first key (x ∷ xs) b e f = lead (bytes_eq key x.name.key) (λ g h. no-first key xs b g h) e f
  where
    lead : (t : Bool)
        → (None ≡ first_number (bytes_eq key) (map (λ b. b.name.key) xs) → first_block xs key ≡ Some b → ⊥)
        → None ≡ (if t then Some 0 else option_map (λ n. suc n) (first_number (bytes_eq key) (map (λ b. b.name.key) xs)))
        → cond t (Some x) (first_block xs key) ≡ Some b → ⊥
    lead true ih is found = cc
    lead false ih is found = ih (none-suc (first_number (bytes_eq key) (map (λ b. b.name.key) xs)) is) found

pub no-number : (blocks other : List BlockTree) (key : List ℕ) (b : BlockTree) → other ≡ blocks → key ≡ b.name.key
    → None ≡ first_number (bytes_eq key) (map (λ b. b.name.key) other) → first_block blocks b.name.key ≡ Some b → ⊥
no-number blocks other key b same name none first =
    no-first b.name.key blocks b
    (none ∙ ap (λ l. first_number (bytes_eq key) (map (λ b. b.name.key) l)) same
    ∙ ap (λ k. first_number (bytes_eq k) (map (λ b. b.name.key) blocks)) name) first
