-- One step of an operand, as the code takes it.
use Rattle.std.proofs.Common.{◌≡◌, ℕ, ℤ, List, [], ◌∷◌, ◌++◌, sym, ap, subst, ◌∙◌}
use Rattle.std.specs.Prelude.{Option, Some, None}
use Rattle.pv_word.specs.declared.types.Ty.TheVariants.{Dint}
use Rattle.pv_place.specs.declared.place.Place.{Place}
use Rattle.pv_place.specs.declared.trap.TrapKind.TheVariants.{Index}
use Rattle.pv_types.specs.declared.name.Name.{Name}
use Rattle.pv_tree.specs.Tree.{ExprTree, StepTree, field, index, BlockTree}
use Rattle.pv_tree.specs.LiteralTypes.{nothing}
use Rattle.pv_tree.specs.Scopes.{ProjectTree}
use Rattle.pv_tree.specs.Types.{Written, literal_of}
use Rattle.pv_mean.specs.Sources.{Source}
use Rattle.pv_mean.specs.Spots.{nowhere}
use Rattle.pv_flow.specs.declared.term.Node.{Node}
use Rattle.pv_flow.specs.Terms.{Term}
use Rattle.pv_terms.specs.Forms.{outside_term}
use Rattle.pv_terms.specs.Pushed.{IsTable, IsAt}
use Rattle.pv_terms.proofs.ForCallers.{keeps}
use Rattle.pv_variables.specs.declared.begun.Elements.{Elements as CodeElements}
use Rattle.pv_variables.specs.Begun.{origin_of, IsElements}
use Rattle.pv_variables.specs.Origins.{Origin, Elements, at_spot, field_placed, elements_placed}
use Rattle.pv_access.specs.declared.access.Move.{Move as CodeMove}
use Rattle.pv_access.specs.declared.check.Check.{Check as CodeCheck}
use Rattle.pv_access.specs.Accesses.{Check}
use Rattle.pv_access.specs.Given.{AreMoves}
use Rattle.pv_access.specs.Pushed.{Checks}
use Rattle.pv_lower.specs.declared.access.Access.{Access as CodeAccess}
use Rattle.pv_lower.specs.Storages.{Access}
use Rattle.pv_lower.specs.Lowered.{Accessed, scope_of, as_type, to_known, to_moved, to_checked, index_check, move_of, lowered, stepped}
use Rattle.pv_lower.specs.Lowering.{Lowers, IsAccess, Accesses}
use Rattle.pv_lower.proofs.Behind.{itself, no_checks, checks_say, moves_keep, one_more, accesses_behind}

-- ---- by what the step is

module _ (source : Source) (block : BlockTree) where
  pub of_field : (a : Access) (s : StepTree) (name : Name) (place : Place) (code next : CodeAccess) (old : List Node) (before : List CodeCheck)
      → s ≡ field name place → IsTable old → IsAccess old code a
      → origin_of next.begin ≡ field_placed source.project (origin_of code.begin) name.key → next.moves.items ≡ code.moves.items
      → Accesses old old before before next (stepped source block a s)
  of_field a s name place code next old before seen table is leads same =
      subst (λ (t : StepTree). Accesses old old before before next (stepped source block a t)) (sym seen) (record {
        checks = no_checks old old before (itself old table);
        access = record {
          origin = leads ∙ ap (λ (o : Origin). field_placed source.project o name.key) is.origin;
          moves = subst (λ (ms : List CodeMove). AreMoves old ms a.moves) (sym same) is.moves;
        };
      })

  -- an index that is a literal, or any other
  abbrev element_with : Access → Place → ExprTree → Option Written → Accessed
  element_with a place e o = elim o [
    | Some w ↦ to_known source.project a w.value
    | None ↦ to_checked source.project a place (as_type Dint (scope_of source block) nothing e (lowered source block nothing e))
  ]

  pub of_known : (a : Access) (s : StepTree) (e : ExprTree) (place : Place) (w : Written) (next : CodeAccess) (old : List Node)
      (before : List CodeCheck) → s ≡ index e place → Some w ≡ literal_of e → IsTable old
      → IsAccess old next (to_known source.project a w.value).access
      → Accesses old old before before next (stepped source block a s)
  of_known a s e place w next old before seen is table leads =
      subst (λ (t : StepTree). Accesses old old before before next (stepped source block a t)) (sym seen)
      (subst (λ (o : Option Written). Accesses old old before before next (element_with a place e o)) is
      (record { checks = no_checks old old before (itself old table); access = leads }))

  pub of_index : (a : Access) (s : StepTree) (e : ExprTree) (place : Place) (code next : CodeAccess) (old mid new : List Node)
      (before between after : List CodeCheck) (i : ℕ) → s ≡ index e place → None ≡ literal_of e → origin_of code.begin ≡ a.origin
      → Lowers old mid before between i (as_type Dint (scope_of source block) nothing e (lowered source block nothing e))
      → Accesses mid new between after next
      (to_moved source.project a place (as_type Dint (scope_of source block) nothing e (lowered source block nothing e)).term
      (elements_placed (origin_of code.begin)))
      → Accesses old new before after next (stepped source block a s)
  of_index a s e place code next old mid new before between after i seen none is x y =
      let l = as_type Dint (scope_of source block) nothing e (lowered source block nothing e) in
      subst (λ (t : StepTree). Accesses old new before after next (stepped source block a t)) (sym seen)
      (subst (λ (o : Option Written). Accesses old new before after next (element_with a place e o)) none
      (accesses_behind old mid new before between after next l.checks (to_moved source.project a place l.term (elements_placed a.origin)) x.checks
      (subst (λ (o : Origin). Accesses mid new between after next (to_moved source.project a place l.term (elements_placed o))) is y)))

-- ---- on to the elements of an array

module _ (project : ProjectTree) (a : Access) (place : Place) (t : Term) (old new : List Node) (before after : List CodeCheck)
    (code next : CodeAccess) where
  pub of_array : (o : Option Elements) (e : CodeElements) (m : CodeMove) → IsElements project o (Some e) → IsAccess old code a
      → IsAt old m.index t → m.low ≡ e.low → m.high ≡ e.high → m.stride ≡ e.stride → next.begin ≡ e.head
      → Checks old new before after (record { term = outside_term t m.low m.high; kind = Index; place = place } ∷ [])
      → next.moves.items ≡ code.moves.items ++ m ∷ []
      → Accesses old new before after next (to_moved project a place t o)
  of_array None e m are is at low high stride head checks moves = absurd are
  of_array (Some d) e m are is at low high stride head checks moves = record {
    checks = checks_say old new before after (record { term = outside_term t m.low m.high; kind = Index; place = place } ∷ [])
        (index_check place t d ∷ [])
        (ap (λ (l : ℤ). let c : List Check = record { term = outside_term t l m.high; kind = Index; place = place } ∷ [] in c) (low ∙ are.low)
        ∙ ap (λ (h : ℤ). let c : List Check = record { term = outside_term t d.low h; kind = Index; place = place } ∷ [] in c) (high ∙ are.high))
        checks;
    access = record {
      origin = ap origin_of head ∙ are.head;
      moves = subst (λ (ms : List CodeMove). AreMoves new ms (a.moves ++ move_of project t d ∷ [])) (sym moves)
          (one_more new code.moves.items a.moves m (move_of project t d) (moves_keep old new code.moves.items a.moves checks.grows is.moves)
          (record { index = keeps old new m.index t checks.grows at; low = low ∙ are.low; high = high ∙ are.high; stride = stride ∙ are.stride }));
    };
  }

  pub of_none : (o : Option Elements) → IsElements project o None → IsTable old → old ≡ new → before ≡ after → IsAccess old code a
      → origin_of next.begin ≡ at_spot nowhere → next.moves.items ≡ code.moves.items
      → Accesses old new before after next (to_moved project a place t o)
  of_none None none table same unchanged is begin moves =
      subst (λ (n : List Node). Accesses old n before after next (to_moved project a place t None)) same
      (subst (λ (cs : List CodeCheck). Accesses old old before cs next (to_moved project a place t None)) unchanged (record {
        checks = no_checks old old before (itself old table);
        access = record { origin = begin; moves = subst (λ (ms : List CodeMove). AreMoves old ms a.moves) (sym moves) is.moves };
      }))
  of_none (Some d) none table same unchanged is begin moves = absurd none
