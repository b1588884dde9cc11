-- What lies on top of a stack where something is found there, and what the shades of a stack come to.
use Rattle.std.proofs.Common.{◌≡◌, List, [], ◌∷◌, map, Option, Some, ap, ◌∙◌, sym, subst}
use Rattle.std.specs.Prelude.{option_map}
use Rattle.std.proofs.lemmas.Option.{same_Some, option_and_then_some}
use Rattle.pv_tree.specs.Tree.{ExprTree}
use Rattle.pv_tree.specs.Lexemes.{Lexeme}
use Rattle.pv_parse.specs.declared.shade.Shading.{Shading}
use Rattle.pv_parse.specs.Items.{Stack, PathTree, token, path, expr, token_on, path_on, expr_on}
use Rattle.pv_parse.specs.ExprDeeds.{argument_on, later_on, opening_on}
use Rattle.pv_parse.specs.Shades.{Shade, sink}
use Rattle.pv_parse.specs.ItemShades.{shade_of}

pub token_popped : (s : Stack) (x : Lexeme × Stack) → token_on s ≡ Some x → s ≡ token x.0 ∷ x.1
token_popped (token t ∷ s) x e = let p : ◌≡◌ {A = Lexeme × Stack} (t, s) x = same_Some (t, s) x e in ap (λ (y : Lexeme × Stack). token y.0 ∷ y.1) p
token_popped [] x e = absurd (cc (e))
token_popped _ x e = absurd (cc (e))

pub path_popped : (s : Stack) (x : PathTree × Stack) → path_on s ≡ Some x → s ≡ path x.0 ∷ x.1
path_popped (path t ∷ s) x e = let p : ◌≡◌ {A = PathTree × Stack} (t, s) x = same_Some (t, s) x e in ap (λ (y : PathTree × Stack). path y.0 ∷ y.1) p
path_popped [] x e = absurd (cc (e))
path_popped _ x e = absurd (cc (e))

pub expr_popped : (s : Stack) (x : ExprTree × Stack) → expr_on s ≡ Some x → s ≡ expr x.0 ∷ x.1
expr_popped (expr t ∷ s) x e = let p : ◌≡◌ {A = ExprTree × Stack} (t, s) x = same_Some (t, s) x e in ap (λ (y : ExprTree × Stack). expr y.0 ∷ y.1) p
expr_popped [] x e = absurd (cc (e))
expr_popped _ x e = absurd (cc (e))

-- an argument with its word and sign, and one behind a comma
pub argument_popped : (s : Stack) (x : ExprTree × Stack) → argument_on s ≡ Some x
    → (sign : Lexeme) × (word : Lexeme) × (s ≡ expr x.0 ∷ token sign ∷ token word ∷ x.1)
argument_popped s x e =
    option_and_then_some _ (expr_on s) x e (λ v on_v rest.
    option_and_then_some _ (token_on v.1) x rest (λ sign on_sign more.
    option_and_then_some _ (token_on sign.1) x more (λ word on_word is.
    let p : ◌≡◌ {A = ExprTree × Stack} (v.0, word.1) x = same_Some (v.0, word.1) x is in (
      sign.0,
      word.0,
      expr_popped s v on_v ∙ ap (λ (z : Stack). expr v.0 ∷ z) (token_popped v.1 sign on_sign)
          ∙ ap (λ (z : Stack). expr v.0 ∷ token sign.0 ∷ z) (token_popped sign.1 word on_word)
          ∙ ap (λ (y : ExprTree × Stack). expr y.0 ∷ token sign.0 ∷ token word.0 ∷ y.1) p,
    ))))

pub later_popped : (s : Stack) (x : ExprTree × Stack) → later_on s ≡ Some x
    → (sign : Lexeme) × (word : Lexeme) × (comma : Lexeme) × (s ≡ expr x.0 ∷ token sign ∷ token word ∷ token comma ∷ x.1)
later_popped s x e =
    option_and_then_some _ (argument_on s) x e (λ v on_v rest.
    option_and_then_some _ (token_on v.1) x rest (λ comma on_comma is.
    let a = argument_popped s v on_v in
    let p : ◌≡◌ {A = ExprTree × Stack} (v.0, comma.1) x = same_Some (v.0, comma.1) x is in (
      a.0,
      a.1,
      comma.0,
      a.2 ∙ ap (λ (z : Stack). expr v.0 ∷ token a.0 ∷ token a.1 ∷ z) (token_popped v.1 comma on_comma)
          ∙ ap (λ (y : ExprTree × Stack). expr y.0 ∷ token a.0 ∷ token a.1 ∷ token comma.0 ∷ y.1) p,
    )))

pub opening_popped : (s : Stack) (x : Lexeme × Stack) → opening_on s ≡ Some x → (begin : Lexeme) × (s ≡ token begin ∷ token x.0 ∷ x.1)
opening_popped s x e =
    option_and_then_some _ (token_on s) x e (λ begin on_begin is.
    (begin.0, token_popped s begin on_begin ∙ ap (λ (z : Stack). token begin.0 ∷ z) (token_popped begin.1 x is)))

-- ---- shades

-- what an action leaves, seen as shades
pub seen : (u left : Stack) → Some u ≡ Some left → Some (map shade_of u) ≡ Some (map shade_of left)
seen u left e = ap (λ (o : Option Stack). option_map (λ (z : Stack). map shade_of z) o) e

-- what it does to an equal stack
pub under : (sh : Shading) (s t : Stack) (left : List Shade) → s ≡ t → sink sh (map shade_of t) ≡ Some left → sink sh (map shade_of s) ≡ Some left
under sh s t left e h = subst (λ (z : Stack). sink sh (map shade_of z) ≡ Some left) (sym e) h
