-- Where data blocks begin, found block by block.
use Rattle.std.proofs.Common.{◌≡◌, ℕ, suc, ◌+◌, ◌<◌, List, [], ◌∷◌, Bool, true, false, cond, Option, Some, None, length, map, drop, get_or, refl, sym, ap, ◌∙◌, arith, add-one}
use Rattle.std.specs.Prelude.{unwrap_or, bytes_eq}
use Rattle.std.proofs.Math.Seq.{drop-cons}
use Rattle.pv_types.specs.declared.declaration.Section.{Section}
use Rattle.pv_types.specs.declared.declaration.Section.TheVariants.{Input, Output, InOut, Static, Temp, Const}
use Rattle.pv_types.specs.Tree.{TypeTree, plain, array, structure, named, unread, VarTree, var, VarTrees, no_vars, _then_}
use Rattle.pv_types.specs.View.{listed}
use Rattle.pv_types.specs.Leaves.{instance, section_within}
use Rattle.pv_types.specs.Named.{AllNamed, AllNamedIn}
use Rattle.pv_types.specs.Sizes.{number_where, size_of_type, size_of_vars}
use Rattle.pv_tree.specs.declared.block.Block.{Block}
use Rattle.pv_tree.specs.View.{block_tree}
use Rattle.pv_tree.specs.Tree.{BlockTree}
use Rattle.pv_tree.specs.Scopes.{ProjectTree, is_of_instance}
use Rattle.pv_mean.specs.Layout.{size_of_name, size_in, size_among, is_db, data_type, data_first, data_size}
use Rattle.pv_mean.specs.Counts.{capped, size_known}
use Rattle.pv_mean.specs.ProjectSizes.{begin_in, begin_after, AddsBlock, AreSizesOf}
use Rattle.pv_mean.specs.declared.data_blocks.DataBlocks.{DataBlocks}
use Rattle.pv_mean.specs.declared.known.Known.{Known}
use Rattle.pv_mean.proofs.Capping.{capped_twice, capped_sum, capped_type, capped_vars}

-- what holds of all keys holds of each that is named
module _ (P : List ℕ → Type 0) (all : (key : List ℕ) → P key) where
  mutual
    pub each_named : (t : TypeTree) → AllNamed P t
    each_named (plain ty) = tt
    each_named (array low high of place) = each_named of
    each_named (structure vars) = each_named_in vars
    each_named (named name place) = all name.key
    each_named unread = tt

    pub each_named_in : (vars : VarTrees) → AllNamedIn P vars
    each_named_in no_vars = tt
    each_named_in (_then_ (var name section ty start place) xs) = (each_named ty, each_named_in xs)

-- by known sizes a type has its size up to the bound
pub alike_by : (known : Known) (project : ProjectTree) → AreSizesOf known project → (key : List ℕ)
    → capped (size_known known key) ≡ capped (size_of_name project key)
alike_by known project are key = ap capped (are key) ∙ capped_twice (size_of_name project key)

pub type_sized : (known : Known) (project : ProjectTree) → AreSizesOf known project → (t : TypeTree)
    → capped (size_of_type (size_known known) t) ≡ capped (size_in project t)
type_sized known project are t =
    capped_type (size_known known) (size_of_name project) t
    (each_named (λ key. capped (size_known known key) ≡ capped (size_of_name project key)) (alike_by known project are) t)

-- where a search for a block begins matters up to the bound alone
first_alike : (project : ProjectTree) (bs : List BlockTree) (key : List ℕ) (x y : ℕ) → capped x ≡ capped y
    → capped (data_first project bs key x) ≡ capped (data_first project bs key y)
first_alike project [] key x y e = e
first_alike project (b ∷ bs) key x y e = by (λ u v. first_alike project bs key u v) (is_db b.kind) (bytes_eq key b.name.key)
  where
    by : ((u v : ℕ) → capped u ≡ capped v → capped (data_first project bs key u) ≡ capped (data_first project bs key v)) → (db same : Bool)
        → capped (cond db (cond same x (data_first project bs key (x + size_in project (data_type b)))) (data_first project bs key x))
        ≡ capped (cond db (cond same y (data_first project bs key (y + size_in project (data_type b)))) (data_first project bs key y))
    by more true true = e
    by more true false = more (x + size_in project (data_type b)) (y + size_in project (data_type b))
        (capped_sum x y (size_in project (data_type b)) (size_in project (data_type b)) e refl)
    by more false same = more x y e

-- it is counted from there
pub first_from : (project : ProjectTree) (bs : List BlockTree) (key : List ℕ) (x : ℕ)
    → data_first project bs key x ≡ x + data_first project bs key 0
first_from project [] key x = omega arith
first_from project (b ∷ bs) key x = by (λ u. first_from project bs key u) (is_db b.kind) (bytes_eq key b.name.key)
  where
    by : ((u : ℕ) → data_first project bs key u ≡ u + data_first project bs key 0) → (db same : Bool)
        → cond db (cond same x (data_first project bs key (x + size_in project (data_type b)))) (data_first project bs key x)
        ≡ x + cond db (cond same 0 (data_first project bs key (0 + size_in project (data_type b)))) (data_first project bs key 0)
    by more true true = omega arith
    by more true false =
        let p = more (x + size_in project (data_type b)) in let q = more (0 + size_in project (data_type b)) in omega (arith, p, q)
    by more false same = more x

-- one more block
module _ (known : Known) (project : ProjectTree) (are : AreSizesOf known project) (b : BlockTree) (bs : List BlockTree) where
  pub begins_on : (key : List ℕ) (begin : Option ℕ) (total : ℕ) → capped total ≡ total
      → unwrap_or (begin_after (is_db b.kind) (bytes_eq key b.name.key) begin total)
      (capped (data_first project bs key
      (cond (is_db b.kind) (capped (total + size_of_type (size_known known) (data_type b))) total)))
      ≡ unwrap_or begin (capped (data_first project (b ∷ bs) key total))
  begins_on key (Some n) total within = refl
  begins_on key None total within = by (is_db b.kind) (bytes_eq key b.name.key)
    where
      by : (db same : Bool)
          → unwrap_or (cond db (cond same (Some total) None) None)
          (capped (data_first project bs key (cond db (capped (total + size_of_type (size_known known) (data_type b))) total)))
          ≡ capped (cond db (cond same total (data_first project bs key (total + size_in project (data_type b))))
          (data_first project bs key total))
      by true true = sym within
      by true false =
          first_alike project bs key (capped (total + size_of_type (size_known known) (data_type b))) (total + size_in project (data_type b))
          (capped_twice (total + size_of_type (size_known known) (data_type b))
          ∙ capped_sum total total (size_of_type (size_known known) (data_type b)) (size_in project (data_type b)) refl
          (type_sized known project are (data_type b)))
      by false same = refl

  pub total_on : (total : ℕ) → capped (cond (is_db b.kind) (capped (total + size_of_type (size_known known) (data_type b))) total
      + data_size project bs)
      ≡ capped (total + data_size project (b ∷ bs))
  total_on total = by (is_db b.kind)
    where
      by : (db : Bool) → capped (cond db (capped (total + size_of_type (size_known known) (data_type b))) total + data_size project bs)
          ≡ capped (total + cond db (size_in project (data_type b) + data_size project bs) (data_size project bs))
      by true =
          capped_sum (capped (total + size_of_type (size_known known) (data_type b))) (total + size_in project (data_type b))
          (data_size project bs) (data_size project bs)
          (capped_twice (total + size_of_type (size_known known) (data_type b))
          ∙ capped_sum total total (size_of_type (size_known known) (data_type b)) (size_in project (data_type b)) refl
          (type_sized known project are (data_type b))) refl
          ∙ (let e : (total + size_in project (data_type b)) + data_size project bs
          ≡ total + (size_in project (data_type b) + data_size project bs) = omega arith in ap capped e)
      by false = refl

-- the blocks from one on are it and those behind it
pub blocks_from : (blocks : List Block) (i : ℕ) (b : Block) → i < length blocks → b ≡ get_or blocks i b
    → map block_tree (drop i blocks) ≡ block_tree b ∷ map block_tree (drop (i + 1) blocks)
blocks_from blocks i b inside is =
    ap (λ l. map block_tree l) (drop-cons blocks i b inside)
    ∙ ap (λ w. block_tree w ∷ map block_tree (drop (suc i) blocks)) (sym is)
    ∙ ap (λ n. block_tree b ∷ map block_tree (drop n blocks)) (sym (add-one i))

module _ (known : Known) (old new : DataBlocks) (b : BlockTree) (adds : AddsBlock (size_known known) old new b) where
  pub added_within : capped old.total ≡ old.total → capped new.total ≡ new.total
  added_within within = ap capped adds.total ∙ by (is_db b.kind) ∙ sym adds.total
    where
      by : (db : Bool) → capped (cond db (capped (old.total + size_of_type (size_known known) (data_type b))) old.total)
          ≡ cond db (capped (old.total + size_of_type (size_known known) (data_type b))) old.total
      by true = capped_twice (old.total + size_of_type (size_known known) (data_type b))
      by false = within

  pub begins_added : (project : ProjectTree) → AreSizesOf known project → (all bs : List BlockTree) → all ≡ b ∷ bs
      → capped old.total ≡ old.total
      → (key : List ℕ) (whole : ℕ)
      → unwrap_or (begin_in old key) (capped (data_first project all key old.total)) ≡ whole
      → unwrap_or (begin_in new key) (capped (data_first project bs key new.total)) ≡ whole
  begins_added project are all bs split within key whole before =
      ap (λ o. unwrap_or o (capped (data_first project bs key new.total))) (adds.begins key)
      ∙ ap (λ n. unwrap_or (begin_after (is_db b.kind) (bytes_eq key b.name.key) (begin_in old key) old.total)
      (capped (data_first project bs key n))) adds.total
      ∙ begins_on known project are b bs key (begin_in old key) old.total within
      ∙ ap (λ l. unwrap_or (begin_in old key) (capped (data_first project l key old.total))) (sym split)
      ∙ before

  pub total_added : (project : ProjectTree) → AreSizesOf known project → (all bs : List BlockTree) → all ≡ b ∷ bs → (whole : ℕ)
      → capped (old.total + data_size project all) ≡ whole
      → capped (new.total + data_size project bs) ≡ whole
  total_added project are all bs split whole before =
      ap (λ n. capped (n + data_size project bs)) adds.total
      ∙ total_on known project are b bs old.total
      ∙ ap (λ l. capped (old.total + data_size project l)) (sym split)
      ∙ before

-- ---- instances

in_instance : (s : Section) (n : ℕ) → number_where (section_within (instance Static) s) n ≡ cond (is_of_instance s) n 0
in_instance Input n = refl
in_instance Output n = refl
in_instance InOut n = refl
in_instance Static n = refl
in_instance Temp n = refl
in_instance Const n = refl

one_more : (b : Bool) (n m : ℕ) → cond b n 0 + m ≡ cond b (n + m) m
one_more true n m = refl
one_more false n m = omega arith

pub instance_among : (project : ProjectTree) (vars : List VarTree)
    → size_of_vars (size_of_name project) (instance Static) (listed vars) ≡ size_among project is_of_instance vars
instance_among project [] = refl
instance_among project (var name section ty start place ∷ more) =
    ap (λ n. n + size_of_vars (size_of_name project) (instance Static) (listed more)) (in_instance section (size_in project ty))
    ∙ ap (λ n. cond (is_of_instance section) (size_in project ty) 0 + n) (instance_among project more)
    ∙ one_more (is_of_instance section) (size_in project ty) (size_among project is_of_instance more)

pub instance_sized : (known : Known) (project : ProjectTree) → AreSizesOf known project → (vars : List VarTree)
    → capped (size_of_vars (size_known known) (instance Static) (listed vars)) ≡ capped (size_among project is_of_instance vars)
instance_sized known project are vars =
    capped_vars (size_known known) (size_of_name project) (instance Static) (listed vars)
    (each_named_in (λ key. capped (size_known known key) ≡ capped (size_of_name project key)) (alike_by known project are) (listed vars))
    ∙ ap capped (instance_among project vars)
