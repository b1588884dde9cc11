-- Tokens are one list of blocks at most, and where these nest too deep is one place: their derivation makes both.
use Rattle.std.proofs.Common.{◌≡◌, ℕ, true, List, [], ◌∷◌, Option, Some, None, option_map, inl, inr, refl, ap, sym, ◌∙◌}
use Rattle.std.specs.List.{slice_get}
use Rattle.std.proofs.Math.Nat.{le_antisymm}
use Rattle.std.proofs.lemmas.Option.{same_Some}
use Rattle.pv_place.specs.declared.place.Place.{Place}
use Rattle.pv_lex.specs.declared.token.Language.{Language as Of}
use Rattle.pv_ll.specs.declared.table.Language.{Language}
use Rattle.pv_ll.specs.Check.{is_ll1}
use Rattle.pv_ll.proofs.ForCallers.{ll1_from, one_end}
use Rattle.pv_tree.specs.Tree.{BlockTree}
use Rattle.pv_tree.specs.Lexemes.{Lexeme}
use Rattle.pv_tree.specs.Nesting.{Part, part, most_levels}
use Rattle.pv_tree.specs.Order.{HasAbove, HasPart}
use Rattle.pv_tree.specs.Depth.{parts_of_blocks, IsShallow, IsDeepest}
use Rattle.pv_tree.specs.Reading.{ReadAsBlocks}
use Rattle.pv_parse.specs.declared.action.Action.{Action}
use Rattle.pv_parse.specs.InOrder.{LieInOrder}
use Rattle.pv_parse.specs.DeclItems.{DeclTree, the_blocks}
use Rattle.pv_parse.specs.Items.{Stack, decl_on, blocks}
use Rattle.pv_parse.specs.Shades.{Shade}
use Rattle.pv_parse_source.specs.SourceAnswers.{ReadsSources, IsShaded}

-- ---- what lies on a stack alone

abbrev blocks_in : DeclTree → List BlockTree → List BlockTree
blocks_in (the_blocks all) d = all
blocks_in _ d = d

abbrev blocks_on : Option (DeclTree × Stack) → List BlockTree → List BlockTree
blocks_on (Some x) d = blocks_in x.0 d
blocks_on None d = d

same_blocks : (a b : List BlockTree) (s t : Stack) → s ≡ blocks a ∷ [] → t ≡ blocks b ∷ [] → s ≡ t → a ≡ b
same_blocks a b s t p q e = ap (λ (z : Stack). blocks_on (decl_on z) a) (sym p ∙ e ∙ q)

abbrev shade_on : List Shade → Shade → Shade
shade_on [] d = d
shade_on (x ∷ xs) d = x

-- ---- parts

above_of : (list : List Part) (m : ℕ) (p : Place) → HasPart list (part m p) → HasAbove list m
above_of [] m p h = absurd h
above_of (q ∷ others) m p (inl e) = inl (ap (λ z. z.above) e)
above_of (q ∷ others) m p (inr h) = inr (above_of others m p h)

abbrev offset_in : Option Place → Option ℕ
offset_in o = option_map (λ p. p.offset) o

module _ (its : Of) (l : Language) (actions : List Action) (fits : is_ll1 l ≡ true) (reads : ReadsSources its l actions) where
  pub one_source : (ls : List Lexeme) (a b : List BlockTree) → ReadAsBlocks its a ls → ReadAsBlocks its b ls → a ≡ b
  one_source ls a b r s =
      same_blocks a b (blocks a ∷ []) (blocks b ∷ []) refl refl (one_end (ll1_from l fits) (reads.complete a ls r) (reads.complete b ls s))

  abbrev shaded : (all : List BlockTree) (ls : List Lexeme) (r : ReadAsBlocks its all ls) → IsShaded its l actions all ls r
  shaded all ls r = reads.shaded all ls r

  -- the place that the derivation finds
  abbrev found : (all : List BlockTree) (ls : List Lexeme) → ReadAsBlocks its all ls → Option Place
  found all ls r = slice_get (shaded all ls r).shade.parts most_levels

  same_found : (ls : List Lexeme) (a b : List BlockTree) (r : ReadAsBlocks its a ls) (s : ReadAsBlocks its b ls) → found a ls r ≡ found b ls s
  same_found ls a b r s =
      let x = shaded a ls r in
      let y = shaded b ls s in
      ap (λ (z : List Shade). slice_get (shade_on z x.shade).parts most_levels) (one_end (ll1_from l fits) x.runs y.runs)

  module _ (all : List BlockTree) (ls : List Lexeme) (r : ReadAsBlocks its all ls) where
    deep_by : (o : Option Place) (p : Place) → found all ls r ≡ o → LieInOrder 0 ls → IsDeepest (parts_of_blocks its all ls r.spelled) p
        → offset_in o ≡ Some p.offset
    deep_by None p is order d = absurd ((shaded all ls r).shallow is (above_of (parts_of_blocks its all ls r.spelled) most_levels p d.there))
    deep_by (Some q) p is order d =
        let e = (shaded all ls r).deepest q order is in
        ap Some (le_antisymm (e.least p d.there) (d.least q e.there))

    shallow_by : (o : Option Place) → found all ls r ≡ o → LieInOrder 0 ls → IsShallow (parts_of_blocks its all ls r.spelled) → offset_in o ≡ None
    shallow_by None is order h = refl
    shallow_by (Some q) is order h =
        let e = (shaded all ls r).deepest q order is in
        absurd (h (above_of (parts_of_blocks its all ls r.spelled) most_levels q e.there))

  pub one_deepest : (ls : List Lexeme) (a b : List BlockTree) (r : ReadAsBlocks its a ls) (s : ReadAsBlocks its b ls) (p q : Place) → LieInOrder 0 ls
      → IsDeepest (parts_of_blocks its a ls r.spelled) p → IsDeepest (parts_of_blocks its b ls s.spelled) q → p.offset ≡ q.offset
  one_deepest ls a b r s p q order d e =
      same_Some p.offset q.offset
      (sym (deep_by a ls r (found a ls r) p refl order d) ∙ ap offset_in (same_found ls a b r s) ∙ deep_by b ls s (found b ls s) q refl order e)

  pub not_both : (ls : List Lexeme) (a b : List BlockTree) (r : ReadAsBlocks its a ls) (s : ReadAsBlocks its b ls) (q : Place) → LieInOrder 0 ls
      → IsShallow (parts_of_blocks its a ls r.spelled) → IsDeepest (parts_of_blocks its b ls s.spelled) q → ⊥
  not_both ls a b r s q order h e =
      let no : ◌≡◌ {A = Option ℕ} None (Some q.offset) = sym (shallow_by a ls r (found a ls r) refl order h) ∙ ap offset_in (same_found ls a b r s)
      ∙ deep_by b ls s (found b ls s) q refl order e in
      absurd cc
