-- The numbers of blocks by their names, block by block, and which block has a number.
use Rattle.std.proofs.Common.{◌≡◌, ℕ, suc, ◌+◌, ◌<◌, ◌≤◌, List, [], ◌∷◌, ◌++◌, Bool, true, false, cond, Option, Some, None, length, map, take, get_or, option_map, slice_get, refl, sym, ap, ◌∙◌, arith}
use Rattle.std.specs.Prelude.{bytes_eq, is_some, nat_lt, option_and_then, IfSome, if◌then◌else◌}
use Rattle.std.proofs.Math.Seq.{take-suc}
use Rattle.std.proofs.lemmas.Bool.{ltb-true, ltb-false}
use Rattle.std.proofs.lemmas.List.{map-append, length-map, length-take-le}
use Rattle.std.proofs.lemmas.Option.{slice_get-map, slice_get-get_or, slice_get_past}
use Rattle.pv_tree.specs.declared.block.Block.{Block}
use Rattle.pv_tree.specs.View.{block_tree}
use Rattle.pv_tree.specs.Tree.{BlockTree}
use Rattle.pv_tree.specs.Scopes.{first_block}
use Rattle.pv_mean.specs.BlockNames.{number_after, number_named}

later : (o : Option ℕ) (b : Bool) (n : ℕ) → option_map (λ n. suc n) (number_after o b n) ≡ number_after (option_map (λ n. suc n) o) b (suc n)
later (Some i) b n = refl
later None true n = refl
later None false n = refl

one_more : (blocks : List BlockTree) (key : List ℕ) (x : BlockTree)
    → number_named (blocks ++ x ∷ []) key ≡ number_after (number_named blocks key) (bytes_eq key x.name.key) (length blocks)
one_more [] key x = elim (bytes_eq key x.name.key) as (λ b. (if b then Some 0 else None) ≡ number_after None b 0) [ true ↦ refl | false ↦ refl ]
one_more (y ∷ ys) key x =
    elim (bytes_eq key y.name.key) as (λ b. (if b then Some 0 else option_map (λ n. suc n) (number_named (ys ++ x ∷ []) key))
    ≡ number_after (if b then Some 0 else option_map (λ n. suc n) (number_named ys key)) (bytes_eq key x.name.key) (suc (length ys))) [
      | true ↦ refl
      | false ↦ ap (option_map (λ n. suc n)) (one_more ys key x) ∙ later (number_named ys key) (bytes_eq key x.name.key) (length ys)
    ]

-- a block more, as a loop goes along them
pub number_added : (blocks : List Block) (key : List ℕ) (i j : ℕ) (x : Block) → i < length blocks → x ≡ get_or blocks i x → j ≡ i + 1
    → number_named (map block_tree (take j blocks)) key
    ≡ number_after (number_named (map block_tree (take i blocks)) key) (bytes_eq key (block_tree x).name.key) i
number_added blocks key i j x inside is e =
    let below : i ≤ length blocks = omega (arith, inside) in
    let next : j ≡ suc i = omega (arith, e) in
    ap (λ l. number_named (map block_tree l) key) (ap (λ n. take n blocks) next ∙ take-suc blocks i x inside ∙ ap (λ y. take i blocks ++ y ∷ []) (sym is))
    ∙ ap (λ l. number_named l key) (map-append block_tree (take i blocks) (x ∷ []))
    ∙ one_more (map block_tree (take i blocks)) key (block_tree x)
    ∙ ap (number_after (number_named (map block_tree (take i blocks)) key) (bytes_eq key (block_tree x).name.key))
    (length-map (take i blocks) block_tree ∙ length-take-le i blocks below)

-- the block of that number is the first of its name
moved : (x : BlockTree) (xs : List BlockTree) (o : Option ℕ)
    → option_and_then (slice_get (x ∷ xs)) (option_map (λ n. suc n) o) ≡ option_and_then (slice_get xs) o
moved x xs None = refl
moved x xs (Some n) = refl

first_found : (blocks : List BlockTree) (key : List ℕ) → option_and_then (slice_get blocks) (number_named blocks key) ≡ first_block blocks key
first_found [] key = refl
first_found (x ∷ xs) key =
    elim (bytes_eq key x.name.key) as (λ b. option_and_then (slice_get (x ∷ xs)) (if b then Some 0 else option_map (λ n. suc n) (number_named xs key))
    ≡ cond b (Some x) (first_block xs key)) [
      | true ↦ refl
      | false ↦ moved x xs (number_named xs key) ∙ first_found xs key
    ]

seen_at : {B : Type 0} (now : B → Block) (xs : List Block) (n : ℕ) (r : Option B) → is_some r ≡ nat_lt n (length xs)
    → IfSome r (λ b. now b ≡ get_or xs n (now b)) → option_map (λ b. block_tree (now b)) r ≡ slice_get (map block_tree xs) n
seen_at now xs n None e h =
    sym (slice_get-map block_tree xs n ∙ ap (option_map block_tree) (slice_get_past xs n (ltb-false n (length xs) (sym e))))
seen_at now xs n (Some b) e h =
    sym (slice_get-map block_tree xs n
    ∙ ap (option_map block_tree) (slice_get-get_or xs n (now b) (ltb-true n (length xs) (sym e)) ∙ ap Some (sym h)))

pub block_found : {B : Type 0} (now : B → Block) (xs all : List Block) (key : List ℕ) (n : ℕ) (o : Option ℕ) (r : Option B) → Some n ≡ o
    → o ≡ number_named (map block_tree all) key → xs ≡ all → is_some r ≡ nat_lt n (length xs) → IfSome r (λ b. now b ≡ get_or xs n (now b))
    → option_map (λ b. block_tree (now b)) r ≡ first_block (map block_tree all) key
block_found now xs all key n o r is number same e h =
    seen_at now xs n r e h ∙ ap (λ l. slice_get (map block_tree l) n) same
    ∙ ap (option_and_then (slice_get (map block_tree all))) (is ∙ number) ∙ first_found (map block_tree all) key

pub no_block : (all : List BlockTree) (key : List ℕ) (o : Option ℕ) → None ≡ o → o ≡ number_named all key → None ≡ first_block all key
no_block all key o is number = ap (option_and_then (slice_get all)) (is ∙ number) ∙ first_found all key
