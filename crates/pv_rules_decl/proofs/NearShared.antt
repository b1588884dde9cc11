-- The nearest start value of variables that are declared at once: they share it, so it is looked at once.
use Rattle.std.proofs.Common.{◌≡◌, ◌<◌, ◌+◌, ℕ, List, [], ◌∷◌, ◌++◌, drop, length, get_or, map, refl, ap, sym, ◌∙◌, true, false}
use Rattle.std.specs.Prelude.{Option, Some, None, flat_map, cond, Bool as Truth}
use Rattle.std.proofs.Math.Seq.{drop-cons}
use Rattle.std.proofs.Common.{add-one, suc}
use Rattle.pv_place.specs.declared.place.Place.{Place}
use Rattle.pv_types.specs.declared.name.Name.{Name}
use Rattle.pv_types.specs.declared.declaration.Literal.{Literal}
use Rattle.pv_types.specs.declared.declaration.Section.{Section}
use Rattle.pv_types.specs.declared.declaration.Vars.{Vars}
use Rattle.pv_types.specs.Tree.{TypeTree}
use Rattle.pv_types.specs.View.{type_tree, vars_tree, word_tree}
use Rattle.pv_types.proofs.ForCallers.{vars_seen}
use Rattle.pv_rules_expr.specs.Nearest.{is_before, nearer_of}
use Rattle.pv_rules_expr.specs.NearestIn.{nearest_in}
use Rattle.pv_rules_expr.specs.Places.{place_where}
use Rattle.pv_rules_expr.proofs.ForCallers.{in_append}
use Rattle.pv_rules_decl.specs.Starts.{start_at, near_vars}

pub nearer_none : (n : Option Place) → n ≡ nearer_of n None
nearer_none None = refl
nearer_none (Some a) = refl

-- looking twice is looking once
pub nearer_twice : (n p : Option Place) → nearer_of (nearer_of n p) p ≡ nearer_of n p
nearer_twice None None = refl
nearer_twice None (Some b) = elim (is_before b b) as (λ t. cond t (Some b) (Some b) ≡ Some b) [ true ↦ refl | false ↦ refl ]
nearer_twice (Some a) None = refl
nearer_twice (Some a) (Some b) = by (is_before a b) refl
  where
    by : (t : Truth) → is_before a b ≡ t → nearer_of (cond t (Some a) (Some b)) (Some b) ≡ cond t (Some a) (Some b)
    by true is = ap (λ u. cond u (Some a) (Some b)) is
    by false is = elim (is_before b b) as (λ u. cond u (Some b) (Some b) ≡ Some b) [ true ↦ refl | false ↦ refl ]

module _ (test : TypeTree → Literal → Truth) where
  words_near : (s : Section) (t : TypeTree) (start : Option Literal) (w : Name × Place) (ws : List (Name × Place)) (n : Option Place)
      → near_vars test (map (word_tree s t start) (w ∷ ws)) n ≡ nearer_of n (start_at test (word_tree s t start w))
  words_near s t None w [] n = refl
  words_near s t (Some l) w [] n = refl
  words_near s t None w (v ∷ ws) n =
      words_near s t None v ws (nearer_of n None) ∙ nearer_twice n None
  words_near s t (Some l) w (v ∷ ws) n =
      words_near s t (Some l) v ws (nearer_of n (start_at test (word_tree s t (Some l) w)))
      ∙ nearer_twice n (start_at test (word_tree s t (Some l) w))

  -- by the place that the declaration's start value gives, where there are names
  pub declared_near : (v : Vars) (w : Name × Place) (ws : List (Name × Place)) (p n : Option Place) → v.names.items ≡ w ∷ ws
      → p ≡ start_at test (word_tree v.section (type_tree v.ty) v.start w) → near_vars test (vars_tree v) n ≡ nearer_of n p
  declared_near v w ws p n some is =
      ap (λ l. near_vars test l n) (vars_seen v)
      ∙ ap (λ l. near_vars test (map (word_tree v.section (type_tree v.ty) v.start) l) n) some
      ∙ words_near v.section (type_tree v.ty) v.start w ws n ∙ ap (nearer_of n) (sym is)

  pub nameless_near : (v : Vars) (n : Option Place) → v.names.items ≡ [] → near_vars test (vars_tree v) n ≡ nearer_of n None
  nameless_near v n none =
      ap (λ l. near_vars test l n) (vars_seen v)
      ∙ ap (λ l. near_vars test (map (word_tree v.section (type_tree v.ty) v.start) l) n) none ∙ nearer_none n

module _ (test : TypeTree → Literal → Truth) (v : Vars) where
  -- with a start value, and without
  pub some_near : (l : Literal) (p n : Option Place) → (v.names.items ≡ [] → ⊥) → v.start ≡ Some l
      → p ≡ place_where (test (type_tree v.ty) l) l.place → near_vars test (vars_tree v) n ≡ nearer_of n p
  some_near l p n some starts is = by v.names.items refl
    where
      by : (ws : List (Name × Place)) → v.names.items ≡ ws → near_vars test (vars_tree v) n ≡ nearer_of n p
      by [] none = absurd (some none)
      by (w ∷ ws) are =
          declared_near test v w ws p n are (is ∙ ap (λ o. start_at test (word_tree v.section (type_tree v.ty) o w)) (sym starts))

  pub none_near : (n : Option Place) → (v.names.items ≡ [] → ⊥) → v.start ≡ None → near_vars test (vars_tree v) n ≡ nearer_of n None
  none_near n some starts = by v.names.items refl
    where
      by : (ws : List (Name × Place)) → v.names.items ≡ ws → near_vars test (vars_tree v) n ≡ nearer_of n None
      by [] none = absurd (some none)
      by (w ∷ ws) are = declared_near test v w ws None n are (ap (λ o. start_at test (word_tree v.section (type_tree v.ty) o w)) (sym starts))

-- an element more, each of which stands for a list, as a loop goes along them
pub next_list : {X Y : Type 0} (f : Y → Option Place) (g : X → List Y) (xs : List X) (i : ℕ) (x : X) (n m p total : Option Place)
    → i < length xs → x ≡ get_or xs i x → m ≡ nearer_of n p → ((o : Option Place) → nearest_in f (g x) o ≡ nearer_of o p)
    → nearest_in f (flat_map g (drop i xs)) n ≡ total → nearest_in f (flat_map g (drop (i + 1) xs)) m ≡ total
next_list f g xs i x n m p total inside is so looked before =
    ap (nearest_in f (flat_map g (drop (i + 1) xs))) (so ∙ sym (looked n))
    ∙ sym (in_append f (g x) (flat_map g (drop (i + 1) xs)) n)
    ∙ ap (λ l. nearest_in f l n) (sym (ap (flat_map g) (drop-cons xs i x inside)
    ∙ ap (λ y. g y ++ flat_map g (drop (suc i) xs)) (sym is) ∙ ap (λ k. g x ++ flat_map g (drop k xs)) (sym (add-one i))))
    ∙ before
