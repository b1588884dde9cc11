-- What actions of expressions and operands make of the shades on the stack is the shades of what they make of the things on it.
use Rattle.std.proofs.Common.{◌≡◌, List, [], ◌∷◌, ◌++◌, map, Option, Some, refl, ap, ◌∙◌, sym}
use Rattle.std.proofs.lemmas.Option.{same_Some, option_and_then_some}
use Rattle.pv_place.specs.declared.place.Place.{Place}
use Rattle.pv_tree.specs.declared.expr.UnaryOp.{UnaryOp}
use Rattle.pv_tree.specs.declared.expr.BinaryOp.{BinaryOp}
use Rattle.pv_tree.specs.Tree.{StepTree, field, index}
use Rattle.pv_tree.specs.View.{steps_of}
use Rattle.pv_tree.specs.Lexemes.{Lexeme}
use Rattle.pv_parse.specs.declared.action.ExprAction.{ExprAction}
use Rattle.pv_parse.specs.declared.action.ExprAction.TheVariants as a
use Rattle.pv_parse.specs.declared.shade.Shading.{Shading}
use Rattle.pv_parse.specs.declared.shade.Shading.TheVariants.{Join, Part}
use Rattle.pv_parse.specs.TokenTexts.{times_of, compare_of}
use Rattle.pv_parse.specs.Items.{Stack, PathTree, token, path, expr, token_on, path_on, expr_on, word_of}
use Rattle.pv_parse.specs.ExprDeeds.{hashed, word_deed, quoted_deed, numbered_deed, pair_deed, area_deed, field_deed, index_deed, read_deed, hash_read_deed, number_deed, truth_deed, paren_deed, unary_deed, link_deed, one_deed, two_deed, three_deed, argument_on, later_on, opening_on, expr_deed}
use Rattle.pv_parse.specs.Shades.{Shade, merged, part_places, sink}
use Rattle.pv_parse.specs.ExprShades.{places_of_steps, places_of_step, expr_shading}
use Rattle.pv_parse.specs.ItemShades.{shade_of}
use Rattle.pv_parse.proofs.Merging.{merged-assoc}
use Rattle.pv_parse.proofs.Popped.{token_popped, path_popped, expr_popped, argument_popped, later_popped, opening_popped, seen, under}

-- an action whose deed is this one keeps to this shading
abbrev pub Keeps : (Stack → Option Stack) → Shading → Type 0
Keeps deed sh = (s left : Stack) → deed s ≡ Some left → sink sh (map shade_of s) ≡ Some (map shade_of left)

-- one token
word_keeps : Keeps word_deed (Join 1 0)
word_keeps s left e = option_and_then_some _ (token_on s) left e (λ t on is.
    under (Join 1 0) s (token t.0 ∷ t.1) (map shade_of left) (token_popped s t on) (seen _ left is))

quoted_keeps : Keeps quoted_deed (Join 1 0)
quoted_keeps s left e = option_and_then_some _ (token_on s) left e (λ t on is.
    under (Join 1 0) s (token t.0 ∷ t.1) (map shade_of left) (token_popped s t on) (seen _ left is))

numbered_keeps : Keeps numbered_deed (Join 1 0)
numbered_keeps s left e = option_and_then_some _ (token_on s) left e (λ t on is.
    under (Join 1 0) s (token t.0 ∷ t.1) (map shade_of left) (token_popped s t on) (seen _ left is))

area_keeps : Keeps area_deed (Join 1 0)
area_keeps s left e = option_and_then_some _ (token_on s) left e (λ t on is.
    under (Join 1 0) s (token t.0 ∷ t.1) (map shade_of left) (token_popped s t on) (seen _ left is))

number_keeps : Keeps number_deed (Part 1 0)
number_keeps s left e = option_and_then_some _ (token_on s) left e (λ t on is.
    under (Part 1 0) s (token t.0 ∷ t.1) (map shade_of left) (token_popped s t on) (seen _ left is))

truth_keeps : Keeps truth_deed (Part 1 0)
truth_keeps s left e = option_and_then_some _ (token_on s) left e (λ t on is.
    under (Part 1 0) s (token t.0 ∷ t.1) (map shade_of left) (token_popped s t on) (seen _ left is))

pair_keeps : Keeps pair_deed (Join 2 0)
pair_keeps s left e = option_and_then_some _ (token_on s) left e (λ n on_n rest.
    option_and_then_some _ (token_on n.1) left rest (λ t on is.
    under (Join 2 0) s (token n.0 ∷ token t.0 ∷ t.1) (map shade_of left)
    (token_popped s n on_n ∙ ap (λ (z : Stack). token n.0 ∷ z) (token_popped n.1 t on)) (seen _ left is)))

-- ---- paths

steps-append : (xs ys : List StepTree) → places_of_steps (steps_of (xs ++ ys)) ≡ merged (places_of_steps (steps_of xs)) (places_of_steps (steps_of ys))
steps-append [] ys = refl
steps-append (x ∷ xs) ys =
    ap (λ (z : List Place). merged (places_of_step x) z) (steps-append xs ys)
    ∙ sym (merged-assoc (places_of_step x) (places_of_steps (steps_of xs)) (places_of_steps (steps_of ys)))

abbrev shade : Place → List Place → Shade
shade first parts = record { first = first; parts = parts }

-- the shade of a path with one step more
pub stepped_shade : (first : Place) (below : List Shade) (xs : List StepTree) (step : StepTree) (inner : List Place) → inner ≡ merged (places_of_step step) []
    → Some (shade first (merged (places_of_steps (steps_of xs)) inner) ∷ below) ≡ Some (shade first (places_of_steps (steps_of (xs ++ step ∷ []))) ∷ below)
stepped_shade first below xs step inner e =
    ap (λ (z : List Place). Some (shade first z ∷ below))
    (ap (λ (z : List Place). merged (places_of_steps (steps_of xs)) z) e ∙ sym (steps-append xs (step ∷ [])))

field_keeps : Keeps field_deed (Join 3 1)
field_keeps s left e = option_and_then_some _ (path_on s) left e (λ f on_f rest.
    option_and_then_some _ (word_of f.0.root) left rest (λ w on_w more.
    option_and_then_some _ (token_on f.1) left more (λ dot on_dot others.
    option_and_then_some _ (path_on dot.1) left others (λ p on is.
    under (Join 3 1) s (path f.0 ∷ token dot.0 ∷ path p.0 ∷ p.1) (map shade_of left)
    (path_popped s f on_f ∙ ap (λ (z : Stack). path f.0 ∷ z) (token_popped f.1 dot on_dot)
    ∙ ap (λ (z : Stack). path f.0 ∷ token dot.0 ∷ z) (path_popped dot.1 p on))
    (stepped_shade p.0.place (map shade_of p.1) p.0.steps (field w.0 w.1) [] refl ∙ seen _ left is)))))

index_keeps : Keeps index_deed (Join 4 0)
index_keeps s left e = option_and_then_some _ (token_on s) left e (λ end on_end rest.
    option_and_then_some _ (expr_on end.1) left rest (λ v on_v more.
    option_and_then_some _ (token_on v.1) left more (λ begin on_begin others.
    option_and_then_some _ (path_on begin.1) left others (λ p on is.
    under (Join 4 0) s (token end.0 ∷ expr v.0 ∷ token begin.0 ∷ path p.0 ∷ p.1) (map shade_of left)
    (token_popped s end on_end ∙ ap (λ (z : Stack). token end.0 ∷ z) (expr_popped end.1 v on_v)
    ∙ ap (λ (z : Stack). token end.0 ∷ expr v.0 ∷ z) (token_popped v.1 begin on_begin)
    ∙ ap (λ (z : Stack). token end.0 ∷ expr v.0 ∷ token begin.0 ∷ z) (path_popped begin.1 p on))
    (stepped_shade p.0.place (map shade_of p.1) p.0.steps (index v.0 begin.0.place) _ refl ∙ seen _ left is)))))

read_keeps : Keeps read_deed (Part 1 0)
read_keeps s left e = option_and_then_some _ (path_on s) left e (λ p on is.
    under (Part 1 0) s (path p.0 ∷ p.1) (map shade_of left) (path_popped s p on) (seen _ left is))

-- a path behind `#` has the steps of the word's
hashed_steps : (p q : PathTree) (place : Place) → hashed p place ≡ Some q → (q.steps ≡ p.steps) × (q.place ≡ place)
hashed_steps p q place e = option_and_then_some _ (word_of p.root) q e (λ w on is.
    let same = same_Some _ q is in (sym (ap (λ (z : PathTree). z.steps) same), sym (ap (λ (z : PathTree). z.place) same)))

hashed_shade : (q : PathTree) (first : Place) (xs : List StepTree) (below : List Shade) → q.steps ≡ xs → q.place ≡ first
    → Some (shade first (part_places first (merged (places_of_steps (steps_of xs)) [])) ∷ below)
    ≡ Some (shade q.place (part_places q.place (merged (places_of_steps (steps_of q.steps)) [])) ∷ below)
hashed_shade q first xs below e f =
    ap (λ (z : List StepTree). Some (shade first (part_places first (merged (places_of_steps (steps_of z)) [])) ∷ below)) (sym e)
    ∙ ap (λ (z : Place). Some (shade z (part_places z (merged (places_of_steps (steps_of q.steps)) [])) ∷ below)) (sym f)

hash_read_keeps : Keeps hash_read_deed (Part 2 0)
hash_read_keeps s left e = option_and_then_some _ (path_on s) left e (λ p on_p rest.
    option_and_then_some _ (token_on p.1) left rest (λ hash on_hash more.
    option_and_then_some _ (hashed p.0 hash.0.place) left more (λ q on is.
    let h = hashed_steps p.0 q hash.0.place on in
    under (Part 2 0) s (path p.0 ∷ token hash.0 ∷ hash.1) (map shade_of left)
    (path_popped s p on_p ∙ ap (λ (z : Stack). path p.0 ∷ z) (token_popped p.1 hash on_hash))
    (hashed_shade q hash.0.place p.0.steps (map shade_of hash.1) h.0 h.1 ∙ seen _ left is))))

-- ---- parentheses, operators, functions

paren_keeps : Keeps paren_deed (Part 3 0)
paren_keeps s left e = option_and_then_some _ (token_on s) left e (λ end on_end rest.
    option_and_then_some _ (expr_on end.1) left rest (λ v on_v more.
    option_and_then_some _ (token_on v.1) left more (λ begin on is.
    under (Part 3 0) s (token end.0 ∷ expr v.0 ∷ token begin.0 ∷ begin.1) (map shade_of left)
    (token_popped s end on_end ∙ ap (λ (z : Stack). token end.0 ∷ z) (expr_popped end.1 v on_v)
    ∙ ap (λ (z : Stack). token end.0 ∷ expr v.0 ∷ z) (token_popped v.1 begin on)) (seen _ left is))))

unary_keeps : (op : UnaryOp) → Keeps (unary_deed op) (Part 2 0)
unary_keeps op s left e = option_and_then_some _ (expr_on s) left e (λ v on_v rest.
    option_and_then_some _ (token_on v.1) left rest (λ t on is.
    under (Part 2 0) s (expr v.0 ∷ token t.0 ∷ t.1) (map shade_of left)
    (expr_popped s v on_v ∙ ap (λ (z : Stack). expr v.0 ∷ z) (token_popped v.1 t on)) (seen _ left is)))

link_keeps : (op_of : Lexeme → BinaryOp) → Keeps (link_deed op_of) (Part 3 0)
link_keeps op_of s left e = option_and_then_some _ (expr_on s) left e (λ r on_r rest.
    option_and_then_some _ (token_on r.1) left rest (λ t on_t more.
    option_and_then_some _ (expr_on t.1) left more (λ l on is.
    under (Part 3 0) s (expr r.0 ∷ token t.0 ∷ expr l.0 ∷ l.1) (map shade_of left)
    (expr_popped s r on_r ∙ ap (λ (z : Stack). expr r.0 ∷ z) (token_popped r.1 t on_t)
    ∙ ap (λ (z : Stack). expr r.0 ∷ token t.0 ∷ z) (expr_popped t.1 l on)) (seen _ left is))))

one_keeps : Keeps one_deed (Part 4 0)
one_keeps s left e = option_and_then_some _ (token_on s) left e (λ end on_end rest.
    option_and_then_some _ (expr_on end.1) left rest (λ x on_x more.
    option_and_then_some _ (opening_on x.1) left more (λ f on is.
    let o = opening_popped x.1 f on in
    under (Part 4 0) s (token end.0 ∷ expr x.0 ∷ token o.0 ∷ token f.0 ∷ f.1) (map shade_of left)
    (token_popped s end on_end ∙ ap (λ (z : Stack). token end.0 ∷ z) (expr_popped end.1 x on_x)
    ∙ ap (λ (z : Stack). token end.0 ∷ expr x.0 ∷ z) o.1) (seen _ left is))))

two_keeps : Keeps two_deed (Part 10 0)
two_keeps s left e = option_and_then_some _ (token_on s) left e (λ end on_end rest.
    option_and_then_some _ (later_on end.1) left rest (λ y on_y more.
    option_and_then_some _ (argument_on y.1) left more (λ x on_x others.
    option_and_then_some _ (opening_on x.1) left others (λ f on is.
    let b = later_popped end.1 y on_y in
    let c = argument_popped y.1 x on_x in
    let o = opening_popped x.1 f on in
    under (Part 10 0) s
    (token end.0 ∷ expr y.0 ∷ token b.0 ∷ token b.1 ∷ token b.2 ∷ expr x.0 ∷ token c.0 ∷ token c.1 ∷ token o.0 ∷ token f.0 ∷ f.1)
    (map shade_of left)
    (token_popped s end on_end ∙ ap (λ (z : Stack). token end.0 ∷ z) b.3
    ∙ ap (λ (z : Stack). token end.0 ∷ expr y.0 ∷ token b.0 ∷ token b.1 ∷ token b.2 ∷ z) c.2
    ∙ ap (λ (z : Stack). token end.0 ∷ expr y.0 ∷ token b.0 ∷ token b.1 ∷ token b.2 ∷ expr x.0 ∷ token c.0 ∷ token c.1 ∷ z) o.1)
    (seen _ left is)))))

three_keeps : Keeps three_deed (Part 14 0)
three_keeps s left e = option_and_then_some _ (token_on s) left e (λ end on_end rest.
    option_and_then_some _ (later_on end.1) left rest (λ w on_w more.
    option_and_then_some _ (later_on w.1) left more (λ y on_y others.
    option_and_then_some _ (argument_on y.1) left others (λ x on_x last.
    option_and_then_some _ (opening_on x.1) left last (λ f on is.
    let d = later_popped end.1 w on_w in
    let b = later_popped w.1 y on_y in
    let c = argument_popped y.1 x on_x in
    let o = opening_popped x.1 f on in
    under (Part 14 0) s
    (token end.0 ∷ expr w.0 ∷ token d.0 ∷ token d.1 ∷ token d.2 ∷ expr y.0 ∷ token b.0 ∷ token b.1 ∷ token b.2 ∷ expr x.0 ∷ token c.0
    ∷ token c.1 ∷ token o.0 ∷ token f.0 ∷ f.1)
    (map shade_of left)
    (token_popped s end on_end ∙ ap (λ (z : Stack). token end.0 ∷ z) d.3
    ∙ ap (λ (z : Stack). token end.0 ∷ expr w.0 ∷ token d.0 ∷ token d.1 ∷ token d.2 ∷ z) b.3
    ∙ ap (λ (z : Stack). token end.0 ∷ expr w.0 ∷ token d.0 ∷ token d.1 ∷ token d.2 ∷ expr y.0 ∷ token b.0 ∷ token b.1 ∷ token b.2 ∷ z) c.2
    ∙ ap (λ (z : Stack). token end.0 ∷ expr w.0 ∷ token d.0 ∷ token d.1 ∷ token d.2 ∷ expr y.0 ∷ token b.0 ∷ token b.1 ∷ token b.2 ∷ expr x.0
    ∷ token c.0 ∷ token c.1 ∷ z) o.1)
    (seen _ left is))))))

-- ---- by the action

pub expr_keeps : (action : ExprAction) → Keeps (expr_deed action) (expr_shading action)
expr_keeps a.Word = word_keeps
expr_keeps a.Quoted = quoted_keeps
expr_keeps a.Numbered = numbered_keeps
expr_keeps a.NumberedPair = pair_keeps
expr_keeps a.Area = area_keeps
expr_keeps a.Field = field_keeps
expr_keeps a.Index = index_keeps
expr_keeps a.Read = read_keeps
expr_keeps a.HashRead = hash_read_keeps
expr_keeps a.Number = number_keeps
expr_keeps a.Truth = truth_keeps
expr_keeps a.Paren = paren_keeps
expr_keeps (a.Unary op) = unary_keeps op
expr_keeps (a.Binary op) = link_keeps (λ t. op)
expr_keeps a.Times = link_keeps (λ t. times_of t.bytes)
expr_keeps a.Compare = link_keeps (λ t. compare_of t.bytes)
expr_keeps a.One = one_keeps
expr_keeps a.Two = two_keeps
expr_keeps a.Three = three_keeps
