-- Where names begin: a variable of an instance, one of an activation, a data block.
use Rattle.std.proofs.Common.{◌≡◌, ◌≢◌, ℕ, List, Bool, true, false, cond, Option, Some, None, refl, ap, sym, subst, ◌∙◌}
use Rattle.std.proofs.lemmas.Bool.{false≢true}
use Rattle.std.proofs.lemmas.Option.{same_Some}
use Rattle.pv_types.specs.declared.declaration.Section.{Section}
use Rattle.pv_types.specs.declared.declaration.Section.TheVariants.{Input, Output, InOut, Static, Temp, Const}
use Rattle.pv_types.specs.Tree.{VarTree}
use Rattle.pv_types.specs.View.{section_of, declared_type_of, start_of}
use Rattle.pv_types.specs.Leaves.{start_value}
use Rattle.pv_tree.specs.Tree.{BlockTree}
use Rattle.pv_tree.specs.Scopes.{is_fb, is_const, is_of_instance, first_block, first_var, own_value}
use Rattle.pv_mean.specs.Layout.{Laid, laid_among, size_among, is_db, data_type, is_brief_in, entry_size, data_size}
use Rattle.pv_mean.specs.Sources.{Source, data_block_first}
use Rattle.pv_mean.specs.Spots.{fixed, nowhere}
use Rattle.pv_mean.specs.Activations.{Activation, Begins, in_visible, in_brief, at, visible_where, brief_where, value_number, variable_or, value_or, block_or, word_begins, block_begins}
use Rattle.pv_mean.specs.Scans.{entry_activation}
use Rattle.pv_laws_scans.specs.Naming.{LiesIn, AreApart}
use Rattle.pv_laws_scans.proofs.LaidOut.{var-found, vars-apart, block_named, data-found, data-apart}

-- ---- words

-- the part that begins there
abbrev laid_in : Begins → Option Laid
laid_in (in_visible laid) = Some laid
laid_in (in_brief laid) = Some laid
laid_in (at spot) = None

visible-back : (o : Option Laid) → laid_in (visible_where o) ≡ o
visible-back None = refl
visible-back (Some laid) = refl

brief-back : (o : Option Laid) → laid_in (brief_where o) ≡ o
brief-back None = refl
brief-back (Some laid) = refl

-- what a word is that names no variable
abbrev otherwise : Source → Activation → List ℕ → Bool → Begins
otherwise source act key hash = value_or source act (own_value act.block key hash)
    (cond hash (at nowhere) (block_or source (first_block source.project.blocks key) (at nowhere)))

instance-word : (source : Source) (act : Activation) (key : List ℕ) (hash : Bool) (v : VarTree) → is_fb act.block.kind ≡ true
    → first_var act.block.vars key ≡ Some v → is_of_instance (section_of v) ≡ true
    → word_begins source act key hash ≡ visible_where (laid_among source.project is_of_instance act.block.vars key act.first)
instance-word source act key hash v fb is inst =
    ap (λ o. variable_or source act key o (otherwise source act key hash)) is ∙ lead (section_of v) inst
  where
    X : Begins
    X = at (fixed (start_value (start_of v)))

    Y : Begins
    Y = brief_where (laid_among source.project (is_brief_in act.block) act.block.vars key 0)

    Z : Begins
    Z = visible_where (laid_among source.project is_of_instance act.block.vars key act.first)

    of_fb : cond (cond (is_fb act.block.kind) false true) Y Z ≡ Z
    of_fb = ap (λ b. cond (cond b false true) Y Z) fb

    lead : (s : Section) → is_of_instance s ≡ true → cond (is_const s) X (cond (is_brief_in act.block s) Y Z) ≡ Z
    lead Input h = of_fb
    lead Output h = of_fb
    lead InOut h = of_fb
    lead Static h = of_fb
    lead Temp h = absurd (false≢true h)
    lead Const h = absurd (false≢true h)

brief-word : (source : Source) (act : Activation) (key : List ℕ) (hash : Bool) (v : VarTree) → first_var act.block.vars key ≡ Some v
    → is_const (section_of v) ≡ false → is_brief_in act.block (section_of v) ≡ true
    → word_begins source act key hash ≡ brief_where (laid_among source.project (is_brief_in act.block) act.block.vars key 0)
brief-word source act key hash v is const brief =
    ap (λ o. variable_or source act key o (otherwise source act key hash)) is
    ∙ (ap (λ b. cond b X (cond (is_brief_in act.block (section_of v)) Y Z)) const ∙ ap (λ b. cond b Y Z) brief)
  where
    X : Begins
    X = at (fixed (start_value (start_of v)))

    Y : Begins
    Y = brief_where (laid_among source.project (is_brief_in act.block) act.block.vars key 0)

    Z : Begins
    Z = visible_where (laid_among source.project is_of_instance act.block.vars key act.first)

-- ---- they have cells

pub instance-cells : (source : Source) (act : Activation) (key : List ℕ) (hash : Bool) (v : VarTree) → is_fb act.block.kind ≡ true
    → first_var act.block.vars key ≡ Some v → is_of_instance (section_of v) ≡ true
    → (laid : Laid) × (word_begins source act key hash ≡ in_visible laid) × (laid.ty ≡ declared_type_of v)
    × LiesIn source.project act.first (size_among source.project is_of_instance act.block.vars) laid
instance-cells source act key hash v fb is inst =
    let f = var-found source.project is_of_instance act.block.vars key act.first v is inst in
    (f.laid, instance-word source act key hash v fb is inst ∙ ap visible_where f.is, f.typed, record { from = f.from; to = f.to })

pub entered-cells : (source : Source) (key : List ℕ) (hash : Bool) (v : VarTree) → is_fb source.entry.kind ≡ true
    → first_var source.entry.vars key ≡ Some v → is_of_instance (section_of v) ≡ true
    → (laid : Laid) × (word_begins source (entry_activation source) key hash ≡ in_visible laid) × (laid.ty ≡ declared_type_of v)
    × LiesIn source.project 0 (entry_size source.project source.entry) laid
entered-cells source key hash v fb is inst =
    let i = instance-cells source (entry_activation source) key hash v fb is inst in (
      i.0,
      i.1,
      i.2,
      subst (λ n. LiesIn source.project 0 n i.0)
          (sym (ap (λ b. cond b (size_among source.project is_of_instance source.entry.vars) 0) fb)) i.3,
    )

pub brief-cells : (source : Source) (act : Activation) (key : List ℕ) (hash : Bool) (v : VarTree) → first_var act.block.vars key ≡ Some v
    → is_const (section_of v) ≡ false → is_brief_in act.block (section_of v) ≡ true
    → (laid : Laid) × (word_begins source act key hash ≡ in_brief laid) × (laid.ty ≡ declared_type_of v)
    × LiesIn source.project 0 (value_number source act.block) laid
brief-cells source act key hash v is const brief =
    let f = var-found source.project (is_brief_in act.block) act.block.vars key 0 v is brief in
    (f.laid, brief-word source act key hash v is const brief ∙ ap brief_where f.is, f.typed, record { from = f.from; to = f.to })

-- the cells of a data block
abbrev data_laid : Source → BlockTree → Laid
data_laid source b = record { ty = data_type b; first = data_block_first source b.name.key }

data-begins : (source : Source) (b : BlockTree) → is_db b.kind ≡ true → block_begins source b ≡ in_visible (data_laid source b)
data-begins source b db = ap (λ k. cond k (in_visible (data_laid source b)) (at nowhere)) db

own-name : (source : Source) (key : List ℕ) (b : BlockTree) → first_block source.project.blocks key ≡ Some b
    → first_block source.project.blocks b.name.key ≡ Some b
own-name source key b is = subst (λ k. first_block source.project.blocks k ≡ Some b) (block_named source.project.blocks key b is) is

pub data-cells : (source : Source) (key : List ℕ) (b : BlockTree) → first_block source.project.blocks key ≡ Some b → is_db b.kind ≡ true
    → (laid : Laid) × (block_begins source b ≡ in_visible laid) × (laid.ty ≡ data_type b)
    × LiesIn source.project (entry_size source.project source.entry) (data_size source.project source.project.blocks) laid
data-cells source key b is db = (
  data_laid source b,
  data-begins source b db,
  refl,
  data-found source.project source.project.blocks b.name.key (entry_size source.project source.entry) b (own-name source key b is) db,
)

-- ---- of their own

visible-found : (o : Option Laid) (word : Begins) (a : Laid) → word ≡ visible_where o → word ≡ in_visible a → o ≡ Some a
visible-found o word a is at_a = sym (visible-back o) ∙ ap laid_in (sym is ∙ at_a)

brief-found : (o : Option Laid) (word : Begins) (a : Laid) → word ≡ brief_where o → word ≡ in_brief a → o ≡ Some a
brief-found o word a is at_a = sym (brief-back o) ∙ ap laid_in (sym is ∙ at_a)

pub instance-apart : (source : Source) (act : Activation) (key other : List ℕ) (hash : Bool) (v w : VarTree) (a b : Laid) → key ≢ other
    → is_fb act.block.kind ≡ true → first_var act.block.vars key ≡ Some v → is_of_instance (section_of v) ≡ true
    → first_var act.block.vars other ≡ Some w → is_of_instance (section_of w) ≡ true → word_begins source act key hash ≡ in_visible a
    → word_begins source act other hash ≡ in_visible b → AreApart source.project a b
instance-apart source act key other hash v w a b differ fb is inst also inst' at_a at_b =
    vars-apart source.project is_of_instance act.block.vars key other act.first a b differ
    (visible-found _ _ a (instance-word source act key hash v fb is inst) at_a)
    (visible-found _ _ b (instance-word source act other hash w fb also inst') at_b)

pub brief-apart : (source : Source) (act : Activation) (key other : List ℕ) (hash : Bool) (v w : VarTree) (a b : Laid) → key ≢ other
    → first_var act.block.vars key ≡ Some v → is_const (section_of v) ≡ false → is_brief_in act.block (section_of v) ≡ true
    → first_var act.block.vars other ≡ Some w → is_const (section_of w) ≡ false → is_brief_in act.block (section_of w) ≡ true
    → word_begins source act key hash ≡ in_brief a → word_begins source act other hash ≡ in_brief b → AreApart source.project a b
brief-apart source act key other hash v w a b differ is const brief also const' brief' at_a at_b =
    vars-apart source.project (is_brief_in act.block) act.block.vars key other 0 a b differ
    (brief-found _ _ a (brief-word source act key hash v is const brief) at_a)
    (brief-found _ _ b (brief-word source act other hash w also const' brief') at_b)

pub data-apart_of : (source : Source) (key other : List ℕ) (block more : BlockTree) (a b : Laid) → key ≢ other
    → first_block source.project.blocks key ≡ Some block → is_db block.kind ≡ true
    → first_block source.project.blocks other ≡ Some more → is_db more.kind ≡ true → block_begins source block ≡ in_visible a
    → block_begins source more ≡ in_visible b → AreApart source.project a b
data-apart_of source key other block more a b differ is db also dc at_a at_b =
    subst (λ l. AreApart source.project l b) (part block a db at_a)
    (subst (λ l. AreApart source.project (data_laid source block) l) (part more b dc at_b)
    (data-apart source.project source.project.blocks block.name.key more.name.key (entry_size source.project source.entry) block more
    (λ e. differ (block_named source.project.blocks key block is ∙ e ∙ sym (block_named source.project.blocks other more also)))
    (own-name source key block is) db (own-name source other more also) dc))
  where
    part : (x : BlockTree) (l : Laid) → is_db x.kind ≡ true → block_begins source x ≡ in_visible l → data_laid source x ≡ l
    part x l d at_l = same_Some (data_laid source x) l (ap laid_in (sym (data-begins source x d) ∙ at_l))
