-- Variables that are declared at once are all misplaced, or none is.
use Rattle.std.proofs.Common.{◌≡◌, ◌≤◌, ℕ, List, [], ◌∷◌, map, take, length, true, false, ap, sym, subst, ◌∙◌, inl, inr}
use Rattle.std.specs.Prelude.{◌&&◌, not, Option}
use Rattle.std.proofs.lemmas.Bool.{false≢true}
use Rattle.pv_place.specs.declared.place.Place.{Place}
use Rattle.pv_types.specs.declared.name.Name.{Name}
use Rattle.pv_types.specs.declared.declaration.Literal.{Literal}
use Rattle.pv_types.specs.declared.declaration.Section.{Section}
use Rattle.pv_types.specs.declared.declaration.Vars.{Vars}
use Rattle.pv_types.specs.Tree.{TypeTree}
use Rattle.pv_types.specs.View.{type_tree, word_tree, vars_tree, place_of}
use Rattle.pv_types.proofs.ForCallers.{vars_seen}
use Rattle.pv_tree.specs.declared.block.BlockKind.{BlockKind}
use Rattle.pv_tree.specs.Scopes.{is_ob}
use Rattle.pv_tree.specs.Things.{is_date}
use Rattle.pv_tree.specs.Rules.Misfits.{is_temporary}
use Rattle.pv_rules_expr.specs.Members.{HasSome}
use Rattle.pv_rules_expr.specs.Nearest.{Nears}
use Rattle.pv_rules_expr.proofs.ForCallers.{near_same, near_none, near_all}
use Rattle.pv_rules_decl.specs.OnDeclarations.{IsMisplacedDate}

module _ (kind : BlockKind) (s : Section) (t : TypeTree) (start : Option Literal) (at : Place) where
  to_date : (ws : List (Name × Place)) → (is_date t && not (is_ob kind && is_temporary s)) ≡ true
      → HasSome (λ v. place_of v ≡ at) (map (word_tree s t start) ws) → HasSome (IsMisplacedDate kind at) (map (word_tree s t start) ws)
  to_date [] so h = absurd h
  to_date (w ∷ ws) so (inl p) = inl (p, so)
  to_date (w ∷ ws) so (inr h) = inr (to_date ws so h)

  of_date : (ws : List (Name × Place)) → HasSome (IsMisplacedDate kind at) (map (word_tree s t start) ws)
      → HasSome (λ v. place_of v ≡ at) (map (word_tree s t start) ws)
  of_date [] h = absurd h
  of_date (w ∷ ws) (inl p) = inl p.0
  of_date (w ∷ ws) (inr h) = inr (of_date ws h)

  no_date : (ws : List (Name × Place)) → (is_date t && not (is_ob kind && is_temporary s)) ≡ false
      → HasSome (IsMisplacedDate kind at) (map (word_tree s t start) ws) → ⊥
  no_date [] miss h = h
  no_date (w ∷ ws) miss (inl p) = false≢true (sym miss ∙ p.1)
  no_date (w ∷ ws) miss (inr h) = no_date ws miss h

module _ (kind : BlockKind) (v : Vars) (old new : Option Place) (b : _) where
  pub all_misplaced : b ≡ (is_date (type_tree v.ty) && not (is_ob kind && is_temporary v.section)) → b ≡ true
      → Nears (λ at. HasSome (λ x. place_of x ≡ at) (vars_tree v)) old new → Nears (λ at. HasSome (IsMisplacedDate kind at) (vars_tree v)) old new
  all_misplaced is so n =
      subst (λ l. Nears (λ at. HasSome (IsMisplacedDate kind at) l) old new) (sym (vars_seen v))
      (near_same (λ at. HasSome (λ x. place_of x ≡ at) (map (word_tree v.section (type_tree v.ty) v.start) v.names.items))
      (λ at. HasSome (IsMisplacedDate kind at) (map (word_tree v.section (type_tree v.ty) v.start) v.names.items)) old new
      (λ at. to_date kind v.section (type_tree v.ty) v.start at v.names.items (sym is ∙ so))
      (λ at. of_date kind v.section (type_tree v.ty) v.start at v.names.items)
      (subst (λ l. Nears (λ at. HasSome (λ x. place_of x ≡ at) l) old new) (vars_seen v) n))

  pub none_misplaced : b ≡ (is_date (type_tree v.ty) && not (is_ob kind && is_temporary v.section)) → b ≡ false
      → Nears (λ at. HasSome (IsMisplacedDate kind at) (vars_tree v)) old old
  none_misplaced is miss =
      subst (λ l. Nears (λ at. HasSome (IsMisplacedDate kind at) l) old old) (sym (vars_seen v))
      (near_same (λ at. ⊥) (λ at. HasSome (IsMisplacedDate kind at) (map (word_tree v.section (type_tree v.ty) v.start) v.names.items)) old old
      (λ at never. absurd never)
      (λ at. no_date kind v.section (type_tree v.ty) v.start at v.names.items (sym is ∙ miss))
      (near_none old))

pub all_named : (v : Vars) (xs : List (Name × Place)) (n : ℕ) (old new : Option Place) → xs ≡ v.names.items → length xs ≤ n
    → Nears (λ at. HasSome (λ x. place_of x ≡ at) (map (word_tree v.section (type_tree v.ty) v.start) (take n xs))) old new
    → Nears (λ at. HasSome (λ x. place_of x ≡ at) (vars_tree v)) old new
all_named v xs n old new same le seen =
    subst (λ l. Nears (λ at. HasSome (λ x. place_of x ≡ at) l) old new)
    (ap (map (word_tree v.section (type_tree v.ty) v.start)) same ∙ sym (vars_seen v))
    (near_all (λ at x. place_of x ≡ at) (word_tree v.section (type_tree v.ty) v.start) xs n old new le seen)
