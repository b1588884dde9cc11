-- Which actions the shades follow on any stack, and the names that only derive by such actions.
use Rattle.std.proofs.Common.{◌≡◌, ℕ, zero, suc, Bool, true, false, ◌&&◌, List, [], ◌∷◌, Some, refl, ap, ◌∙◌, sym}
use Rattle.std.specs.Prelude.{not, ◌||◌, slice_get, slice_index_or}
use Rattle.std.proofs.lemmas.Bool.{and_parts, true≢false}
use Rattle.pv_ll.specs.declared.table.Symbol.{Symbol}
use Rattle.pv_ll.specs.Grammar.{Grammar, Production, ◌⟶◌, IsProduction}
use Rattle.pv_parse.specs.declared.action.Action.{Action}
use Rattle.pv_parse.specs.declared.action.Action.TheVariants.{Keep, Expr, Decl, Block, Call, Stmt, Instr}
use Rattle.pv_parse.specs.declared.action.DeclAction.TheVariants as d
use Rattle.pv_parse.specs.Deeds.{deed, making}
use Rattle.pv_parse.specs.ItemShades.{shade_of, shading_of, shade_making}
use Rattle.pv_parse.proofs.ForCallers.{Keeps, expr_keeps, seen, are_among, IsFollowed}
use Rattle.pv_parse_source.proofs.DeclFollows.{number_keeps, negative_keeps, truth_keeps}
use Rattle.pv_parse_source.proofs.CallFollows.{call_keeps_of}
use Rattle.pv_parse_source.proofs.StmtFollows.{stmt_keeps}
use Rattle.pv_parse_source.proofs.InstrFollows.{instr_keeps}

-- all but those of declarations and blocks, of which those of literals are
abbrev pub is_followed : Action → Bool
is_followed Keep = true
is_followed (Expr action) = true
is_followed (Decl d.Number) = true
is_followed (Decl d.Negative) = true
is_followed (Decl d.Truth) = true
is_followed (Decl _) = false
is_followed (Block action) = false
is_followed (Call action) = true
is_followed (Stmt action) = true
is_followed (Instr action) = true

action_keeps : (action : Action) → is_followed action ≡ true → Keeps (deed action) (shading_of action)
action_keeps Keep e s left h = seen s left h
action_keeps (Expr action) e s left h = expr_keeps action s left h
action_keeps (Decl d.Number) e s left h = number_keeps s left h
action_keeps (Decl d.Negative) e s left h = negative_keeps s left h
action_keeps (Decl d.Truth) e s left h = truth_keeps s left h
action_keeps (Decl _) e s left h = absurd (true≢false (sym e))
action_keeps (Block action) e s left h = absurd (true≢false (sym e))
action_keeps (Call action) e s left h = call_keeps_of action s left h
action_keeps (Stmt action) e s left h = stmt_keeps action s left h
action_keeps (Instr action) e s left h = instr_keeps action s left h

-- each alternative of these names is of these names, and has an action that is followed
abbrev pub are_followed : (ℕ → Bool) → Grammar → List Action → Bool
are_followed inner [] actions = true
are_followed inner (p ∷ ps) [] = (not (inner p.name) || are_among inner p.body) && are_followed inner ps []
are_followed inner (p ∷ ps) (a ∷ actions) =
    (not (inner p.name) || (are_among inner p.body && is_followed a)) && are_followed inner ps actions

there : (b c : Bool) → (not b || c) ≡ true → b ≡ true → c ≡ true
there true c h e = h
there false c h e = absurd (true≢false (sym e))

followed_at : (inner : ℕ → Bool) (g : Grammar) (actions : List Action) (k m : ℕ) (body : List Symbol) → are_followed inner g actions ≡ true
    → slice_get g k ≡ Some (m ⟶ body) → inner m ≡ true
    → (are_among inner body ≡ true) × (is_followed (slice_index_or actions k Keep) ≡ true)
followed_at inner [] actions k m body h e i = absurd (cc (e))
followed_at inner (p ∷ ps) [] zero m body h e i =
    let same : p ≡ (m ⟶ body) = cc (e) in
    let both = and_parts (not (inner p.name) || are_among inner p.body) (are_followed inner ps []) h in (
      ap (λ (z : Production). are_among inner z.body) (sym same)
          ∙ there (inner p.name) (are_among inner p.body) both.0 (ap (λ (z : Production). inner z.name) same ∙ i),
      refl,
    )
followed_at inner (p ∷ ps) [] (suc k) m body h e i =
    let both = and_parts (not (inner p.name) || are_among inner p.body) (are_followed inner ps []) h in
    ((followed_at inner ps [] k m body both.1 e i).0, refl)
followed_at inner (p ∷ ps) (a ∷ actions) zero m body h e i =
    let same : p ≡ (m ⟶ body) = cc (e) in
    let both = and_parts (not (inner p.name) || (are_among inner p.body && is_followed a)) (are_followed inner ps actions) h in
    let two = and_parts (are_among inner p.body) (is_followed a)
    (there (inner p.name) (are_among inner p.body && is_followed a) both.0 (ap (λ (z : Production). inner z.name) same ∙ i)) in
    (ap (λ (z : Production). are_among inner z.body) (sym same) ∙ two.0, two.1)
followed_at inner (p ∷ ps) (a ∷ actions) (suc k) m body h e i =
    let both = and_parts (not (inner p.name) || (are_among inner p.body && is_followed a)) (are_followed inner ps actions) h in
    followed_at inner ps actions k m body both.1 e i

pub all_followed : (inner : ℕ → Bool) (g : Grammar) (actions : List Action) → are_followed inner g actions ≡ true → (k m : ℕ) (body : List Symbol)
    → IsProduction g k m body → inner m ≡ true → IsFollowed shade_of (making actions) (shade_making actions) inner k body
all_followed inner g actions h k m body p i =
    let x = followed_at inner g actions k m body h p i in
    record { among = x.0; reduces = λ s left e. action_keeps (slice_index_or actions k Keep) x.1 s left e }
