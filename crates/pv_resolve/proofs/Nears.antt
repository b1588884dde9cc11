-- What the code finds is near enough to be told exactly, where the block has room.
use Rattle.std.proofs.Common.{◌≡◌, ℕ, ◌+◌, ◌<◌, ◌≤◌, ◌^◌, ℤ, pos, List, [], ◌∷◌, ◌++◌, length, Option, Some, None, option_map, refl, sym, ap, subst, ◌∙◌, arith}
use Rattle.std.specs.Prelude.{IfSome, IfNone, FitsSigned}
use Rattle.std.specs.Int.{w64}
use Rattle.std.proofs.lemmas.Option.{same_Some}
use Rattle.pv_place.specs.declared.place.Place.{Place}
use Rattle.pv_types.specs.declared.var.Var.{Var}
use Rattle.pv_types.specs.Tree.{TypeTree, array}
use Rattle.pv_types.specs.View.{var_tree}
use Rattle.pv_types.specs.Leaves.{start_value}
use Rattle.pv_tree.specs.declared.expr.Operand.{Operand}
use Rattle.pv_tree.specs.Tree.{BlockTree}
use Rattle.pv_tree.specs.View.{operand_tree}
use Rattle.pv_tree.specs.Scopes.{ProjectTree, first_var}
use Rattle.pv_tree.specs.Rules.{KeepsRules}
use Rattle.pv_tree.proofs.ForCallers.{operand_seen}
use Rattle.pv_names.specs.Views.{held_tree}
use Rattle.pv_mean.specs.declared.count.TheConstants.{BEYOND}
use Rattle.pv_mean.specs.Counts.{capped}
use Rattle.pv_mean.specs.LaidOut.{capped_laid}
use Rattle.pv_mean.specs.Layout as layout
use Rattle.pv_mean.specs.Sized.{sized_project}
use Rattle.pv_mean.specs.Sources.{Source, data_block_first}
use Rattle.pv_mean.specs.AreaBytes.{Bytes}
use Rattle.pv_eval.specs.Operands.{span}
use Rattle.pv_eval.specs.declared.node.Node.{Node}
use Rattle.pv_eval.specs.declared.node.Node.TheVariants.{Element}
use Rattle.pv_eval.specs.declared.node.Spot.TheVariants.{Nowhere}
use Rattle.pv_eval.specs.Order.{most_of, most_at, IsMost}
use Rattle.pv_resolve.specs.declared.context.Context.{Context}
use Rattle.pv_resolve.specs.declared.laid.LaidLevel.{LaidLevel}
use Rattle.pv_resolve.specs.declared.begin.Where.{Where}
use Rattle.pv_resolve.specs.declared.begin.Where.TheVariants.{Own, Visible, Brief}
use Rattle.pv_resolve.specs.Contexts.{IsContext, block_in}
use Rattle.pv_resolve.specs.Laying.{laid_tree}
use Rattle.pv_resolve.specs.Begins.{begins_in}
use Rattle.pv_resolve.specs.Growing.{Adds}
use Rattle.pv_resolve.specs.declared.begin.Begin.TheVariants.{In, At}
use Rattle.pv_resolve.specs.Rooms.{HasRoom, FitsRoot, FitsSymbol, IsRoomy, BeginsRoomy, WalkRoomy}
use Rattle.pv_resolve.proofs.Beginning.{exact_number}
use Rattle.pv_resolve.proofs.Naming.{start_seen}
use Rattle.pv_resolve.proofs.Ordered.{most_last}
use Rattle.pv_resolve.proofs.Rooms.{field_roomy, ElementRoomy, element_roomy}
use Rattle.pv_resolve.proofs.Roots.{constant_fits, data_near}

abbrev pub IsNear : layout.Laid → Type 0
IsNear l = l.first < BEYOND

-- ---- what was found

pub not_beyond : (found l : layout.Laid) → found ≡ capped_laid l → IsNear l → BEYOND ≤ found.first → ⊥
not_beyond found l e near far = let s = ap (λ (x : layout.Laid). x.first) e in omega (arith, s, near, far)

pub none_beyond : (o : Option layout.Laid) (seen : layout.Laid) → Some seen ≡ option_map capped_laid o → IfSome o IsNear
    → ((l : layout.Laid) → seen ≡ capped_laid l → IsNear l → ⊥) → ⊥
none_beyond None seen e near f = cc
none_beyond (Some l) seen e near f = f l (same_Some seen (capped_laid l) e) near

pub roomy_near : (project : ProjectTree) (more : ℕ) (o : Option layout.Laid) → IfSome o (IsRoomy project more) → IfSome o IsNear
roomy_near project more None h = tt
roomy_near project more (Some l) h = let w = h.within in omega (arith, w)

-- ---- parts of an instance begin where their instance does

pub part_roomy : (project : ProjectTree) (more : ℕ) (part : Where) (l : layout.Laid) → BeginsRoomy project more (begins_in part 0 l)
    → IsRoomy project more l
part_roomy project more Own l h = record { sound = h.sound; within = (let w = h.within in omega (arith, w)) }
part_roomy project more Visible l h = h
part_roomy project more Brief l h = h

pub part_begins : (project : ProjectTree) (more : ℕ) (part : Where) (l : layout.Laid) → IsRoomy project more l
    → BeginsRoomy project more (begins_in part 0 l)
part_begins project more Own l h = record { sound = h.sound; within = (let w = h.within in omega (arith, w)) }
part_begins project more Visible l h = h
part_begins project more Brief l h = h

pub field_near : (project : ProjectTree) → KeepsRules project → (more : ℕ) (part : Where) (l : layout.Laid) (key : List ℕ)
    → BeginsRoomy project more (begins_in part 0 l) → IfSome (layout.field_laid project l key) IsNear
field_near project keeps more part l key h =
    roomy_near project more (layout.field_laid project l key) (field_roomy project keeps more l key (part_roomy project more part l h))

-- ---- numbers of cells

pub data_beyond : (c : Context) (source : Source) (key : List ℕ) (n : ℕ) → IsContext c source → HasRoom source (block_in c)
    → n ≡ capped (layout.data_first (sized_project c.sizes.now) (sized_project c.sizes.now).blocks key c.data_first) → BEYOND ≤ n → ⊥
data_beyond c source key n is h e far =
    let near = data_near source (block_in c) h key in
    let same : layout.data_first (sized_project c.sizes.now) (sized_project c.sizes.now).blocks key c.data_first ≡ data_block_first source key =
    ap (λ (p : ProjectTree). layout.data_first p p.blocks key c.data_first) is.sizes
    ∙ ap (layout.data_first source.project source.project.blocks key) is.data_blocks in
    omega (arith, e, far, near, same)

pub value_beyond : (c : Context) (source : Source) (n : ℕ) (seen : BlockTree) → IsContext c source → HasRoom source (block_in c) → seen ≡ block_in c
    → n ≡ capped (layout.size_among (sized_project c.sizes.now) (layout.is_brief_in seen) seen.vars) → BEYOND ≤ n → ⊥
value_beyond c source n seen is h same e far =
    let near = h.brief in
    let all : layout.size_among (sized_project c.sizes.now) (layout.is_brief_in seen) seen.vars
    ≡ layout.size_among source.project (layout.is_brief_in (block_in c)) (block_in c).vars =
    ap (λ p. layout.size_among p (layout.is_brief_in seen) seen.vars) is.sizes
    ∙ ap (λ (b : BlockTree). layout.size_among source.project (layout.is_brief_in b) b.vars) same in
    omega (arith, e, far, near, all)

pub byte_near : (c : Context) (source : Source) (block : BlockTree) (place : ℕ) → IsContext c source → HasRoom source block
    → place ≤ length c.bytes.inputs.now + length c.bytes.outputs.now + length c.bytes.flags.now → c.bytes_first + place < BEYOND
byte_near c source block place is h within =
    let v = h.visible in
    let a = is.areas in
    let i = ap (λ (b : Bytes). length b.inputs) is.bytes in
    let q = ap (λ (b : Bytes). length b.outputs) is.bytes in
    let m = ap (λ (b : Bytes). length b.flags) is.bytes in
    omega (arith, within, v, a, i, q, m)

-- ---- constants and symbols

pub declared_fits : (source : Source) (block : BlockTree) → HasRoom source block → (key : List ℕ) (v : Var)
    → Some (var_tree v) ≡ first_var block.vars key → FitsSigned w64 (start_value v.of.now.start)
declared_fits source block h key v found =
    subst (λ o. FitsSigned w64 (start_value o)) (start_seen v) (constant_fits source block h key (var_tree v) (sym found))

pub symbol_root_fits : (o : Operand) → FitsSymbol (operand_tree o) → FitsRoot o.root.value
symbol_root_fits o h = subst FitsSymbol (operand_seen o) h

-- ---- elements

pub added_most : (old new : List Node) (x : Node) (n m : ℕ) → Adds old new x n → most_of x ≡ Some m → most_at new n ≡ Some m
added_most old new x n m adds is =
    subst (λ ns. most_at ns n ≡ Some m) (sym adds.nodes)
    (subst (λ k. most_at (old ++ x ∷ []) k ≡ Some m) (sym adds.number) (most_last old x ∙ is))

-- of an array that begins there
pub array_roomy : (project : ProjectTree) (more : ℕ) (part : Where) (laid : LaidLevel) (low high : ℤ) (of : TypeTree) (p : Place)
    → held_tree laid.ty ≡ array low high of p → BeginsRoomy project more (begins_in part 0 (laid_tree laid))
    → ElementRoomy project more low high of laid.first
array_roomy project more part laid low high of p is h =
    element_roomy project more low high of p laid.first
    (subst (λ t. IsRoomy project more (record { ty = t; first = laid.first })) is (part_roomy project more part (laid_tree laid) h))

pub stride_beyond : (c : Context) (source : Source) (of : TypeTree) (stride : ℕ) → IsContext c source
    → stride ≡ capped (layout.size_in (sized_project c.sizes.now) of) → BEYOND ≤ stride → layout.size_in source.project of < BEYOND → ⊥
stride_beyond c source of stride is e far near =
    let same = ap (λ q. layout.size_in q of) is.sizes in omega (arith, e, far, near, same)

pub small : (n : ℕ) → n < BEYOND → n < 2 ^ 32
small n lt = omega (arith, lt)

pub begins_small : (project : ProjectTree) (more : ℕ) (part : Where) (l : layout.Laid) → BeginsRoomy project more (begins_in part 0 l) → more < BEYOND
begins_small project more part l h = let w = (part_roomy project more part l h).within in omega (arith, w)

-- the numbers of an array's elements
module _ (c : Context) (source : Source) (is : IsContext c source) (more : ℕ) (part : Where) (laid : LaidLevel) (lo hi low high : ℤ) (stride : ℕ)
    (of : TypeTree) (p : Place) (ty : held_tree laid.ty ≡ array low high of p)
    (size : stride ≡ capped (layout.size_in (sized_project c.sizes.now) of)) (below : stride < BEYOND) (same_low : lo ≡ low) (same_high : hi ≡ high)
    (h : BeginsRoomy source.project more (begins_in part 0 (laid_tree laid))) where
  exact_stride : stride ≡ layout.size_in source.project of
  exact_stride = exact_number stride (layout.size_in (sized_project c.sizes.now) of) size below ∙ ap (λ q. layout.size_in q of) is.sizes

  same_span : span lo hi stride ≡ span low high (layout.size_in source.project of)
  same_span = ap (λ z. span z hi stride) same_low ∙ ap (λ z. span low z stride) same_high ∙ ap (λ s. span low high s) exact_stride

  there : ElementRoomy source.project more low high of laid.first
  there = array_roomy source.project more part laid low high of p ty h

  pub span_small : more + span lo hi stride < 2 ^ 32
  span_small =
      let w = there.roomy.within in
      let s = same_span in omega (arith, w, s)

  pub walk_array : (inner : LaidLevel) (old new : List Node) (from index n : ℕ) (place : Place) → held_tree inner.ty ≡ of → inner.first ≡ laid.first
      → Adds old new (Element from index lo hi stride (more + span lo hi stride) place) n
      → WalkRoomy source.project new (record { begin = In part inner; address = Some n; block = None })
  walk_array inner old new from index n place inner_ty same_first adds = record {
    most = more + span lo hi stride;
    is_most = added_most old new (Element from index lo hi stride (more + span lo hi stride) place) n (more + span lo hi stride) adds refl;
    roomy = part_begins source.project (more + span lo hi stride) part (laid_tree inner)
        (subst (λ m. IsRoomy source.project m (laid_tree inner)) (ap (λ s. more + s) (sym same_span))
        (subst (λ t. IsRoomy source.project (more + span low high (layout.size_in source.project of)) (record { ty = t; first = inner.first }))
        (sym inner_ty)
        (subst (λ f. IsRoomy source.project (more + span low high (layout.size_in source.project of)) (record { ty = of; first = f }))
        (sym same_first) there.roomy)));
    holds = tt;
  }

-- an index behind what is no array
pub trap_small : (more : ℕ) → more < BEYOND → more + span (pos 1) (pos 0) 0 < 2 ^ 32
trap_small more lt = omega (arith, lt)

pub walk_trap : (project : ProjectTree) (more : ℕ) (old new : List Node) (from index n : ℕ) (place : Place)
    → Adds old new (Element from index (pos 1) (pos 0) 0 (more + span (pos 1) (pos 0) 0) place) n
    → WalkRoomy project new (record { begin = At Nowhere; address = Some n; block = None })
walk_trap project more old new from index n place adds = record {
  most = more + span (pos 1) (pos 0) 0;
  is_most = added_most old new (Element from index (pos 1) (pos 0) 0 (more + span (pos 1) (pos 0) 0) place) n _ adds refl;
  roomy = tt;
  holds = tt;
}

-- ---- sums that 32 bits hold

pub behind_most : (r : Option ℕ) (before s : ℕ) → IfSome r (λ m. before + s ≡ m) → IfSome r (IsMost (Some before) s)
behind_most None before s h = tt
behind_most (Some m) before s h = omega (arith, h)

pub behind_is : (r : Option ℕ) (before b s : ℕ) → Some before ≡ Some b → IfSome r (λ m. before + s ≡ m) → IfNone r (2 ^ 32 ≤ before + s)
    → b + s < 2 ^ 32 → r ≡ Some (b + s)
behind_is None before b s same h none lt = let e = same_Some before b same in absurd (omega (arith, e, none, lt))
behind_is (Some m) before b s same h none lt = let e = same_Some before b same in ap Some (omega (arith, e, h))
