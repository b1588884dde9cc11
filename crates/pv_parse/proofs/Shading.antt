-- The shades of a text that is an expression: those of its tree.
use Rattle.std.proofs.Common.{◌≡◌, ℕ, ◌<◌, Bool, true, false, List, [], ◌∷◌, ◌++◌, refl, ap, ◌∙◌, sym}
use Rattle.std.specs.Prelude.{slice_index_or, nat_lt}
use Rattle.std.proofs.lemmas.Option.{slice_get_within}
use Rattle.std.proofs.lemmas.Bool.{true≢false}
use Rattle.pv_ll.specs.declared.table.Symbol.{Symbol}
use Rattle.pv_ll.specs.declared.table.Symbol.TheVariants.{Name}
use Rattle.pv_ll.specs.Grammar.{Grammar, Production, ◌⟶◌, IsProduction}
use Rattle.pv_ll.specs.Making.{Runs}
use Rattle.pv_tree.specs.Tree.{ExprTree}
use Rattle.pv_tree.specs.Lexemes.{Lexeme}
use Rattle.pv_tree.specs.Reading.{ReadAsExpression}
use Rattle.pv_parse.specs.declared.action.Action.{Action}
use Rattle.pv_parse.specs.declared.action.Action.TheVariants.{Keep, Expr, Decl, Block, Call, Stmt, Instr}
use Rattle.pv_parse.specs.FrontNames as name
use Rattle.pv_parse.specs.Front.{expression_productions}
use Rattle.pv_parse.specs.ExprAnswers.{AreOthers}
use Rattle.pv_parse.specs.Items.{expr}
use Rattle.pv_parse.specs.Deeds.{deed, making, kinded, expression_actions}
use Rattle.pv_parse.specs.ItemShades.{shade_of, shading_of, shade_making}
use Rattle.pv_parse.proofs.Popped.{seen}
use Rattle.pv_parse.proofs.ExprFollows.{Keeps, expr_keeps}
use Rattle.pv_parse.proofs.Following.{are_among, IsFollowed, followed_among, front_item, all_items}
use Rattle.pv_parse.proofs.Closed.{own_production, holds_at}
use Rattle.pv_parse.proofs.Readings.{complete}

-- actions whose shading follows the deed for any stack
abbrev pub is_followed : Action → Bool
is_followed Keep = true
is_followed (Expr action) = true
is_followed (Decl action) = false
is_followed (Block action) = false
is_followed (Call action) = false
is_followed (Stmt action) = false
is_followed (Instr action) = false

pub action_keeps : (action : Action) → is_followed action ≡ true → Keeps (deed action) (shading_of action)
action_keeps Keep e s left h = seen s left h
action_keeps (Expr action) e s left h = expr_keeps action s left h
action_keeps (Decl action) e s left h = absurd (true≢false (sym e))
action_keeps (Block action) e s left h = absurd (true≢false (sym e))
action_keeps (Call action) e s left h = absurd (true≢false (sym e))
action_keeps (Stmt action) e s left h = absurd (true≢false (sym e))
action_keeps (Instr action) e s left h = absurd (true≢false (sym e))

-- the names of expressions
abbrev pub is_of_expressions : ℕ → Bool
is_of_expressions n = nat_lt n name.source

pub alternative_followed : (acts : List Action) (k n : ℕ) (body : List Symbol) → IsProduction expression_productions k n body
    → IsFollowed shade_of (making (expression_actions ++ acts)) (shade_making (expression_actions ++ acts)) is_of_expressions k body
alternative_followed acts k n body p =
    let within : k < 75 = slice_get_within expression_productions k (n ⟶ body) p in
    let same = front_item expression_actions acts k Keep within in
    record {
      among = holds_at (λ (x : Production). are_among is_of_expressions x.body) expression_productions k (n ⟶ body) refl p;
      reduces = λ s left h.
          action_keeps (slice_index_or (expression_actions ++ acts) k Keep)
          (ap is_followed same ∙ all_items is_followed expression_actions k Keep refl within) s left h;
    }

-- the derivation of a text that reads as an expression makes the shade of the tree
pub shaded : (rest : Grammar) (acts : List Action) (e : ExprTree) (ls : List Lexeme) → AreOthers rest → ReadAsExpression e ls
    → Runs (expression_productions ++ rest) (shade_making (expression_actions ++ acts)) (Name name.expression ∷ []) (kinded false ls) []
    (shade_of (expr e) ∷ [])
shaded rest acts e ls others r =
    followed_among shade_of is_of_expressions (λ t. refl) (λ t. refl)
    (λ k n body p in_. alternative_followed acts k n body (own_production expression_productions rest name.source 0 k n body others in_ p))
    refl (complete rest acts e ls r)
