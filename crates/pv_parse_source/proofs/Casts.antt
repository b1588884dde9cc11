-- What tokens make of the shades on the stack, without a text around them: put together as the grammar is.
use Rattle.std.proofs.Common.{◌≡◌, ℕ, zero, suc, ◌/◌, ◌%◌, ◌==◌, Bool, true, false, List, [], ◌∷◌, ◌++◌, map, Option, Some, refl, ap, ◌∙◌, sym, subst}
use Rattle.std.specs.Prelude.{option_and_then}
use Rattle.std.proofs.lemmas.Option.{same_Some, option_and_then_some}
use Rattle.pv_ll.specs.declared.table.Symbol.{Symbol}
use Rattle.pv_ll.specs.declared.table.Symbol.TheVariants.{Token, Name}
use Rattle.pv_ll.specs.Grammar.{Grammar, IsProduction}
use Rattle.pv_ll.specs.Making.{Runs}
use Rattle.pv_ll.specs.Making.Runs.{none, leaf, node}
use Rattle.pv_ll.proofs.ForCallers.{on_tokens, beside, alone}
use Rattle.pv_tree.specs.Lexemes.{Lexeme}
use Rattle.pv_parse.specs.declared.action.Action.{Action}
use Rattle.pv_parse.specs.declared.shade.Shading.{Shading}
use Rattle.pv_parse.specs.declared.shade.Shading.TheVariants.{Take, Join, Group, Part, Branch}
use Rattle.pv_parse.specs.FrontNames as name
use Rattle.pv_parse.specs.Kinds.{marked_behind}
use Rattle.pv_parse.specs.Front.{expression_productions}
use Rattle.pv_parse.specs.ExprAnswers.{AreOthers}
use Rattle.pv_parse.specs.Items.{Stack}
use Rattle.pv_parse.specs.Deeds.{Kinded, kinded, expression_actions}
use Rattle.pv_parse.specs.Shades.{Shade, shade_of_token, over, empty as no_shade, group_of, part_of, gathered, left_below, shade_on, sink}
use Rattle.pv_parse.specs.ItemShades.{shade_of, shade_by, shade_making}
use Rattle.pv_parse.proofs.ForCallers.{Serves, own_production, are_among, followed_among, Gets, kinded_append, behind_append, is_of_expressions, alternative_followed}

-- ---- what lies below doesn't matter

gathered_above : (n drops : ℕ) (one : Shade) (s w : List Shade) (x : Shade × List Shade) → gathered n drops one s ≡ Some x
    → gathered n drops one (s ++ w) ≡ Some (x.0, x.1 ++ w)
gathered_above zero drops one s w x e =
    ap (λ (p : Shade × List Shade). Some (p.0, p.1 ++ w)) (same_Some (one, s) x e)
gathered_above (suc n) drops one [] w x e = absurd (cc (e))
gathered_above (suc n) drops one (y ∷ s) w x e = gathered_above n (drops / 2) (over (drops % 2 == 0) y one) s w x e

left_above : (n : ℕ) (s left w : List Shade) → left_below n s ≡ Some left → left_below n (s ++ w) ≡ Some (left ++ w)
left_above zero s left w e = ap (λ (z : List Shade). Some (z ++ w)) (same_Some s left e)
left_above (suc n) [] left w e = absurd (cc (e))
left_above (suc n) (y ∷ s) left w e = left_above n s left w e

made_above : (f : Shade → Shade) (n drops : ℕ) (s left w : List Shade)
    → option_and_then (λ (one : Shade × List Shade). Some (f one.0 ∷ one.1)) (gathered n drops no_shade s) ≡ Some left
    → option_and_then (λ (one : Shade × List Shade). Some (f one.0 ∷ one.1)) (gathered n drops no_shade (s ++ w)) ≡ Some (left ++ w)
made_above f n drops s left w e = option_and_then_some _ (gathered n drops no_shade s) left e (λ one on is.
    ap (λ (o : Option (Shade × List Shade)). option_and_then (λ (one : Shade × List Shade). Some (f one.0 ∷ one.1)) o)
    (gathered_above n drops no_shade s w one on)
    ∙ ap (λ (z : List Shade). Some (z ++ w)) (same_Some (f one.0 ∷ one.1) left is))

top_above : (s w : List Shade) (x : Shade × List Shade) → shade_on s ≡ Some x → shade_on (s ++ w) ≡ Some (x.0, x.1 ++ w)
top_above [] w x e = absurd (cc (e))
top_above (y ∷ s) w x e = ap (λ (p : Shade × List Shade). Some (p.0, p.1 ++ w)) (same_Some (y, s) x e)

branch_above : (n : ℕ) (s left w : List Shade) → sink (Branch n) s ≡ Some left → sink (Branch n) (s ++ w) ≡ Some (left ++ w)
branch_above n s left w e = option_and_then_some _ (shade_on s) left e (λ top on_top rest.
    option_and_then_some _ (gathered n 0 no_shade top.1) left rest (λ one on is.
    ap (λ (o : Option (Shade × List Shade)). option_and_then (λ (t : Shade × List Shade).
    option_and_then (λ (x : Shade × List Shade). Some (no_shade ∷ t.0 ∷ group_of x.0 ∷ x.1)) (gathered n 0 no_shade t.1)) o) (top_above s w top on_top)
    ∙ ap (λ (o : Option (Shade × List Shade)). option_and_then (λ (x : Shade × List Shade). Some (no_shade ∷ top.0 ∷ group_of x.0 ∷ x.1)) o)
    (gathered_above n 0 no_shade top.1 w one on)
    ∙ ap (λ (z : List Shade). Some (z ++ w)) (same_Some (no_shade ∷ top.0 ∷ group_of one.0 ∷ one.1) left is)))

sink_above : (sh : Shading) (s left w : List Shade) → sink sh s ≡ Some left → sink sh (s ++ w) ≡ Some (left ++ w)
sink_above (Take n) s left w e = left_above n s left w e
sink_above (Join n drops) s left w e = made_above (λ x. x) n drops s left w e
sink_above (Group n drops) s left w e = made_above group_of n drops s left w e
sink_above (Part n drops) s left w e = made_above part_of n drops s left w e
sink_above (Branch n) s left w e = branch_above n s left w e

pub above : {g : Grammar} (acts : List Action) {ss : List Symbol} {ts : List Kinded} {s behind : List Shade} (w : List Shade)
    → Runs g (shade_making acts) ss ts s behind → Runs g (shade_making acts) ss ts (s ++ w) (behind ++ w)
above acts w none = none
above acts w (leaf p r) = leaf p (above acts w r)
above acts w (node {s = s} {inner = inner} {left = left} k p d r e q) =
    node k p (above acts w d) (sink_above _ inner left w r) (above acts w e) q

-- ---- put together

-- in each grammar that begins with the productions of expressions, symbols make of these tokens, which aren't directly behind `#` or
-- `.`, one stack of shades of the other; and no such sign is the last of them
pub record Casts (rest : Grammar) (acts : List Action) (ss : List Symbol) (ts : List Lexeme) (s behind : List Shade) : Type 0 where
  pub runs : Runs (expression_productions ++ rest) (shade_making (expression_actions ++ acts)) ss (kinded false ts) s behind
  pub plain : marked_behind false ts ≡ false

pub empty : {rest : Grammar} {acts : List Action} {s : List Shade} → Casts rest acts [] [] s s
empty = record { runs = none; plain = refl }

-- the same of equal tokens
pub on : {rest : Grammar} {acts : List Action} {ss : List Symbol} {ts us : List Lexeme} {s behind : List Shade} → ts ≡ us → Casts rest acts ss ts s behind
    → Casts rest acts ss us s behind
on {rest} {acts} {ss} {ts} {us} {s} {behind} e g = subst (λ (z : List Lexeme). Casts rest acts ss z s behind) e g

-- the same to equal stacks
pub to : {rest : Grammar} {acts : List Action} {ss : List Symbol} {ts : List Lexeme} {s left behind : List Shade} → left ≡ behind
    → Casts rest acts ss ts s left → Casts rest acts ss ts s behind
to {rest} {acts} {ss} {ts} {s} {left} {behind} e g = subst (λ (z : List Shade). Casts rest acts ss ts s z) e g

-- symbols behind others
pub then : {rest : Grammar} {acts : List Action} {a b : List Symbol} {us vs : List Lexeme} {s left behind : List Shade} → Casts rest acts a us s left
    → Casts rest acts b vs left behind → Casts rest acts (a ++ b) (us ++ vs) s behind
then {rest} {acts} {a} {b} {us} {vs} {s} {left} {behind} g h =
    let second : Runs (expression_productions ++ rest) (shade_making (expression_actions ++ acts)) b (kinded (marked_behind false us) vs) left behind =
    subst (λ (m : Bool). Runs (expression_productions ++ rest) (shade_making (expression_actions ++ acts)) b (kinded m vs) left behind) (sym g.plain) h.runs in
    record {
      runs = on_tokens (sym (kinded_append false us vs)) (beside g.runs second);
      plain = behind_append false us vs ∙ ap (λ (m : Bool). marked_behind m vs) g.plain ∙ h.plain;
    }

-- a name, by one of its productions
pub by : {rest : Grammar} {acts : List Action} {n : ℕ} {ts : List Lexeme} {s inner behind : List Shade} (k : ℕ) (body : List Symbol)
    → IsProduction (expression_productions ++ rest) k n body → Casts rest acts body ts s inner
    → shade_by (expression_actions ++ acts) k inner ≡ Some behind → Casts rest acts (Name n ∷ []) ts s behind
by k body p g e = record { runs = alone k body p g.runs e; plain = g.plain }

-- a token
pub pass : {rest : Grammar} {acts : List Action} {s : List Shade} (kind : ℕ) (t : Lexeme) → Serves kind t
    → Casts rest acts (Token kind ∷ []) (t ∷ []) s (shade_of_token t ∷ s)
pass kind t h = record { runs = leaf h.is none; plain = h.plain }

-- what symbols of expressions make of the empty stack, they make of the shades on each stack
pub of_expressions : (rest : Grammar) (acts : List Action) → AreOthers rest → {ss : List Symbol} {ts : List Lexeme} {left : Stack} (w : List Shade)
    → are_among is_of_expressions ss ≡ true → Gets rest acts ss ts [] left → Casts rest acts ss ts w (map shade_of left ++ w)
of_expressions rest acts others w among g = record {
  runs = above (expression_actions ++ acts) w (followed_among shade_of is_of_expressions (λ t. refl) (λ t. refl)
      (λ k n body p in_. alternative_followed acts k n body (own_production expression_productions rest name.source 0 k n body others in_ p))
      among g.runs);
  plain = g.plain;
}
