-- What actions of instructions make of the shades on the stack is the shades of what they make of the things on it.
use Rattle.std.proofs.Common.{◌≡◌, List, [], ◌∷◌, ◌++◌, map, Some, None, refl, ap, ◌∙◌, sym}
use Rattle.std.proofs.lemmas.Option.{same_Some, option_and_then_some}
use Rattle.pv_place.specs.declared.place.Place.{Place}
use Rattle.pv_tree.specs.Tree.{PlacedName, field, InstrTree, BodyTree}
use Rattle.pv_parse.specs.declared.action.InstrAction.{InstrAction}
use Rattle.pv_parse.specs.declared.action.InstrAction.TheVariants as a
use Rattle.pv_parse.specs.declared.shade.Shading.TheVariants.{Join, Group}
use Rattle.pv_parse.specs.OpTexts.{op_of, opening_of}
use Rattle.pv_parse.specs.Items.{Stack, token, path, literal, words, body, code, decl, token_on, path_on, literal_on}
use Rattle.pv_parse.specs.DeclItems.{the_words, the_body}
use Rattle.pv_parse.specs.CodeItems.{called}
use Rattle.pv_parse.specs.CodeStack.{call_on}
use Rattle.pv_parse.specs.DeclStack.{words_on, body_on}
use Rattle.pv_parse.specs.ExprDeeds.{operand_of}
use Rattle.pv_parse.specs.CallDeeds.{named_of}
use Rattle.pv_parse.specs.InstrStack.{instrs_of, instrs_on, last_word, FrontTree, front_on}
use Rattle.pv_parse.specs.InstrDeeds.{instr_of, new_code_deed, begun_deed, no_label_deed, label_deed, number_deed, negative_deed, truth_deed, opening_deed, operand_deed, literal_deed, alone_deed, base_deed, bare_deed, call_deed, instr_deed}
use Rattle.pv_parse.specs.Shades.{Shade, merged, nowhere}
use Rattle.pv_parse.specs.StmtShades.{places_of_call}
use Rattle.pv_parse.specs.InstrShades.{places_of_instr, places_of_instrs, instr_shading}
use Rattle.pv_parse.specs.ItemShades.{shade_of}
use Rattle.pv_parse.proofs.ForCallers.{Keeps, token_popped, path_popped, seen, under, stepped_shade, merged-nil, merged-assoc}
use Rattle.pv_parse_source.proofs.CodePopped.{literal_popped, call_popped}

-- ---- what lies on top

words_popped : (s : Stack) (x : List PlacedName × Stack) → words_on s ≡ Some x → s ≡ words x.0 ∷ x.1
words_popped (decl (the_words t) ∷ s) x e =
    let p : ◌≡◌ {A = List PlacedName × Stack} (t, s) x = same_Some (t, s) x e in ap (λ (y : List PlacedName × Stack). words y.0 ∷ y.1) p
words_popped [] x e = absurd (cc (e))
words_popped _ x e = absurd (cc (e))

body_popped : (s : Stack) (x : BodyTree × Stack) → body_on s ≡ Some x → s ≡ body x.0 ∷ x.1
body_popped (decl (the_body t) ∷ s) x e =
    let p : ◌≡◌ {A = BodyTree × Stack} (t, s) x = same_Some (t, s) x e in ap (λ (y : BodyTree × Stack). body y.0 ∷ y.1) p
body_popped [] x e = absurd (cc (e))
body_popped _ x e = absurd (cc (e))

instrs_popped : (s : Stack) (x : List InstrTree × Stack) → instrs_on s ≡ Some x → (b : BodyTree) × (s ≡ body b ∷ x.1) × (instrs_of b ≡ x.0)
instrs_popped s x e = option_and_then_some _ (body_on s) x e (λ b on is.
    let p : ◌≡◌ {A = List InstrTree × Stack} (instrs_of b.0, b.1) x = same_Some (instrs_of b.0, b.1) x is in
    (b.0, body_popped s b on ∙ ap (λ (y : List InstrTree × Stack). body b.0 ∷ y.1) p, ap (λ (y : List InstrTree × Stack). y.0) p))

front_popped : (s : Stack) (x : FrontTree × Stack) → front_on s ≡ Some x
    → (w : List PlacedName) × (b : BodyTree) × (s ≡ token x.0.token ∷ words w ∷ body b ∷ x.1) × (instrs_of b ≡ x.0.list)
front_popped s x e = option_and_then_some _ (token_on s) x e (λ t on_t rest.
    option_and_then_some _ (words_on t.1) x rest (λ w on_w more.
    option_and_then_some _ (instrs_on w.1) x more (λ l on_l is.
    let b = instrs_popped w.1 l on_l in
    let f : FrontTree = record { token = t.0; label = last_word w.0; list = l.0 } in
    let p : ◌≡◌ {A = FrontTree × Stack} (f, l.1) x = same_Some (f, l.1) x is in (
      w.0,
      b.0,
      token_popped s t on_t ∙ ap (λ (z : Stack). token t.0 ∷ z) (words_popped t.1 w on_w) ∙ ap (λ (z : Stack). token t.0 ∷ words w.0 ∷ z) b.1
          ∙ ap (λ (y : FrontTree × Stack). token y.0.token ∷ words w.0 ∷ body b.0 ∷ y.1) p,
      b.2 ∙ ap (λ (y : FrontTree × Stack). y.0.list) p,
    ))))

-- ---- instructions

instrs-append : (xs ys : List InstrTree) → places_of_instrs (xs ++ ys) ≡ merged (places_of_instrs xs) (places_of_instrs ys)
instrs-append [] ys = refl
instrs-append (x ∷ xs) ys =
    ap (λ (z : List Place). merged (places_of_instr x) z) (instrs-append xs ys)
    ∙ sym (merged-assoc (places_of_instr x) (places_of_instrs xs) (places_of_instrs ys))

abbrev grouped : List Place → Shade
grouped parts = record { first = nowhere; parts = parts }

-- the shade of a body with one instruction more
added_shade : (below : List Shade) (b : BodyTree) (l : List InstrTree) (i : InstrTree) (inner : List Place) → instrs_of b ≡ l → inner ≡ places_of_instr i
    → Some (grouped (merged (places_of_instrs (instrs_of b)) inner) ∷ below) ≡ Some (grouped (places_of_instrs (l ++ i ∷ [])) ∷ below)
added_shade below b l i inner e f =
    ap (λ (z : List Place). Some (grouped z ∷ below))
    (ap (λ (z : List InstrTree). merged (places_of_instrs z) inner) e
    ∙ ap (λ (z : List Place). merged (places_of_instrs l) z) (f ∙ sym (merged-nil (places_of_instr i))) ∙ sym (instrs-append l (i ∷ [])))

-- that of these instructions
same_shade : (below : List Shade) (b : BodyTree) (l : List InstrTree) → instrs_of b ≡ l
    → Some (grouped (merged (places_of_instrs (instrs_of b)) []) ∷ below) ≡ Some (grouped (places_of_instrs l) ∷ below)
same_shade below b l e =
    ap (λ (z : List Place). Some (grouped z ∷ below))
    (merged-nil (places_of_instrs (instrs_of b)) ∙ ap (λ (z : List InstrTree). places_of_instrs z) e)

-- ---- bodies and labels

new_code_keeps : Keeps new_code_deed (Group 0 0)
new_code_keeps s left e = seen _ left e

begun_keeps : Keeps begun_deed (Group 2 0)
begun_keeps s left e = option_and_then_some _ (instrs_on s) left e (λ l on_l rest.
    option_and_then_some _ (token_on l.1) left rest (λ t on is.
    let b = instrs_popped s l on_l in
    under (Group 2 0) s (body b.0 ∷ token t.0 ∷ t.1) (map shade_of left)
    (b.1 ∙ ap (λ (z : Stack). body b.0 ∷ z) (token_popped l.1 t on)) (same_shade (map shade_of t.1) b.0 l.0 b.2 ∙ seen _ left is)))

no_label_keeps : Keeps no_label_deed (Group 0 0)
no_label_keeps s left e = seen _ left e

label_keeps : Keeps label_deed (Group 3 0)
label_keeps s left e = option_and_then_some _ (token_on s) left e (λ c on_c rest.
    option_and_then_some _ (token_on c.1) left rest (λ t on_t more.
    option_and_then_some _ (words_on t.1) left more (λ w on is.
    under (Group 3 0) s (token c.0 ∷ token t.0 ∷ words w.0 ∷ w.1) (map shade_of left)
    (token_popped s c on_c ∙ ap (λ (z : Stack). token c.0 ∷ z) (token_popped c.1 t on_t)
    ∙ ap (λ (z : Stack). token c.0 ∷ token t.0 ∷ z) (words_popped t.1 w on)) (seen _ left is))))

-- ---- literals

number_keeps : Keeps number_deed (Join 1 0)
number_keeps s left e = option_and_then_some _ (token_on s) left e (λ t on_t rest.
    option_and_then_some _ (token_on t.1) left rest (λ o on is.
    under (Join 1 0) s (token t.0 ∷ token o.0 ∷ o.1) (map shade_of left)
    (token_popped s t on_t ∙ ap (λ (z : Stack). token t.0 ∷ z) (token_popped t.1 o on)) (seen _ left is)))

negative_keeps : Keeps negative_deed (Join 2 0)
negative_keeps s left e = option_and_then_some _ (token_on s) left e (λ t on_t rest.
    option_and_then_some _ (token_on t.1) left rest (λ m on_m more.
    option_and_then_some _ (token_on m.1) left more (λ o on is.
    under (Join 2 0) s (token t.0 ∷ token m.0 ∷ token o.0 ∷ o.1) (map shade_of left)
    (token_popped s t on_t ∙ ap (λ (z : Stack). token t.0 ∷ z) (token_popped t.1 m on_m)
    ∙ ap (λ (z : Stack). token t.0 ∷ token m.0 ∷ z) (token_popped m.1 o on)) (seen _ left is))))

truth_keeps : Keeps truth_deed (Join 1 0)
truth_keeps s left e = option_and_then_some _ (token_on s) left e (λ t on is.
    under (Join 1 0) s (token t.0 ∷ t.1) (map shade_of left) (token_popped s t on) (seen _ left is))

-- ---- instructions

opening_keeps : Keeps opening_deed (Group 4 0)
opening_keeps s left e = option_and_then_some _ (token_on s) left e (λ begin on_begin rest.
    option_and_then_some _ (front_on begin.1) left rest (λ f on_f is.
    let x = front_popped begin.1 f on_f in
    under (Group 4 0) s (token begin.0 ∷ token f.0.token ∷ words x.0 ∷ body x.1 ∷ f.1) (map shade_of left)
    (token_popped s begin on_begin ∙ ap (λ (z : Stack). token begin.0 ∷ z) x.2)
    (added_shade (map shade_of f.1) x.1 f.0.list (instr_of f.0 (opening_of f.0.token.bytes) None None None) [] x.3 refl ∙ seen _ left is)))

operand_keeps : Keeps operand_deed (Group 4 0)
operand_keeps s left e = option_and_then_some _ (path_on s) left e (λ p on_p rest.
    option_and_then_some _ (front_on p.1) left rest (λ f on_f is.
    let x = front_popped p.1 f on_f in
    under (Group 4 0) s (path p.0 ∷ token f.0.token ∷ words x.0 ∷ body x.1 ∷ f.1) (map shade_of left)
    (path_popped s p on_p ∙ ap (λ (z : Stack). path p.0 ∷ z) x.2)
    (added_shade (map shade_of f.1) x.1 f.0.list (instr_of f.0 (op_of f.0.token.bytes) (Some (operand_of p.0)) None None) _ x.3 refl ∙ seen _ left is)))

literal_keeps : Keeps literal_deed (Group 4 0)
literal_keeps s left e = option_and_then_some _ (literal_on s) left e (λ l on_l rest.
    option_and_then_some _ (front_on l.1) left rest (λ f on_f is.
    let x = front_popped l.1 f on_f in
    under (Group 4 0) s (literal l.0 ∷ token f.0.token ∷ words x.0 ∷ body x.1 ∷ f.1) (map shade_of left)
    (literal_popped s l on_l ∙ ap (λ (z : Stack). literal l.0 ∷ z) x.2)
    (added_shade (map shade_of f.1) x.1 f.0.list (instr_of f.0 (op_of f.0.token.bytes) None (Some l.0) None) [] x.3 refl ∙ seen _ left is)))

alone_keeps : Keeps alone_deed (Group 3 0)
alone_keeps s left e = option_and_then_some _ (front_on s) left e (λ f on_f is.
    let x = front_popped s f on_f in
    under (Group 3 0) s (token f.0.token ∷ words x.0 ∷ body x.1 ∷ f.1) (map shade_of left) x.2
    (added_shade (map shade_of f.1) x.1 f.0.list (instr_of f.0 (op_of f.0.token.bytes) None None None) [] x.3 refl ∙ seen _ left is))

-- ---- calls

base_keeps : Keeps base_deed (Join 3 1)
base_keeps s left e = option_and_then_some _ (path_on s) left e (λ b on_b rest.
    option_and_then_some _ (token_on b.1) left rest (λ comma on_comma more.
    option_and_then_some _ (path_on comma.1) left more (λ p on is.
    under (Join 3 1) s (path b.0 ∷ token comma.0 ∷ path p.0 ∷ p.1) (map shade_of left)
    (path_popped s b on_b ∙ ap (λ (z : Stack). path b.0 ∷ z) (token_popped b.1 comma on_comma)
    ∙ ap (λ (z : Stack). path b.0 ∷ token comma.0 ∷ z) (path_popped comma.1 p on))
    (stepped_shade p.0.place (map shade_of p.1) p.0.steps (field (named_of b.0).0 (named_of b.0).1) [] refl ∙ seen _ left is))))

bare_keeps : Keeps bare_deed (Join 1 1)
bare_keeps s left e = option_and_then_some _ (path_on s) left e (λ p on is.
    under (Join 1 1) s (path p.0 ∷ p.1) (map shade_of left) (path_popped s p on) (seen _ left is))

call_keeps : Keeps call_deed (Group 4 0)
call_keeps s left e = option_and_then_some _ (call_on s) left e (λ c on_c rest.
    option_and_then_some _ (front_on c.1) left rest (λ f on_f is.
    let x = front_popped c.1 f on_f in
    under (Group 4 0) s (code (called c.0) ∷ token f.0.token ∷ words x.0 ∷ body x.1 ∷ f.1) (map shade_of left)
    (call_popped s c on_c ∙ ap (λ (z : Stack). code (called c.0) ∷ z) x.2)
    (added_shade (map shade_of f.1) x.1 f.0.list
    (instr_of f.0 (op_of f.0.token.bytes) None None (Some (record c.0 { place = f.0.token.place }))) _ x.3 (merged-nil (places_of_call c.0))
    ∙ seen _ left is)))

-- ---- by the action

pub instr_keeps : (action : InstrAction) → Keeps (instr_deed action) (instr_shading action)
instr_keeps a.NewCode = new_code_keeps
instr_keeps a.Begun = begun_keeps
instr_keeps a.NoLabel = no_label_keeps
instr_keeps a.Label = label_keeps
instr_keeps a.Number = number_keeps
instr_keeps a.Negative = negative_keeps
instr_keeps a.Truth = truth_keeps
instr_keeps a.Opening = opening_keeps
instr_keeps a.Operand = operand_keeps
instr_keeps a.Literal = literal_keeps
instr_keeps a.Alone = alone_keeps
instr_keeps a.Base = base_keeps
instr_keeps a.Bare = bare_keeps
instr_keeps a.Call = call_keeps
