-- What is nearest at the statements and instructions of a project is the least place at which its rule is broken.
use Rattle.std.proofs.Common.{◌≡◌, inl, inr, refl, sym, ap, subst, ◌∙◌, List, [], ◌∷◌, ◌++◌, Option, Some, None, Bool, true, false, true≢false, IsTrue, is_some}
use Rattle.std.specs.Prelude.{◌⊎◌, Any, flat_map, option_to_list, unwrap_or}
use Rattle.pv_place.specs.declared.place.Place.{Place}
use Rattle.pv_tree.specs.Tree.{StmtTree, assign, assign_call, if_, case_, for_, while_, repeat_, exit_, continue_, return_, call_, empty_, InstrTree}
use Rattle.pv_tree.specs.Scopes.{ProjectTree, Scope}
use Rattle.pv_tree.specs.Things.{first_place, place_of_operand, thing_of}
use Rattle.pv_tree.specs.InstructionGroups.{written_operand}
use Rattle.pv_tree.specs.Parts.{Loop, Spot, spots_of_body, instructions_of, target_of}
use Rattle.pv_tree.specs.Rules.Conditions.{conditions_of_stmt, IsNoCondition, IsWrongCondition}
use Rattle.pv_tree.specs.Rules.Loops.{LeavesNothing, IsOutsideLoop}
use Rattle.pv_tree.specs.Rules.Targets.{IsFixedOperand, IsFixedTarget, is_fixed}
use Rattle.pv_rules_expr.specs.Nearest.{is_before, IsNearest}
use Rattle.pv_rules_code.specs.AtTargets.{fixed_at}
use Rattle.pv_rules_code.specs.AtStatements.{condition_at, leave_of, leave_place}
use Rattle.pv_rules_code.specs.Sites.{site_place, instr_place, in_block, block_place, project_place}
use Rattle.pv_rules_expr.specs.Looks.{nearer_of}
use Rattle.pv_rules_expr.specs.NearestIn.{nearest_in}
use Rattle.pv_rules_code.specs.Sought.Site.{Site}
use Rattle.pv_rules_code.specs.Sought.Site as site
use Rattle.pv_rules_code.specs.Sought.Aim as aim
use Rattle.pv_rules_expr.proofs.ForCallers.{itself}
use Rattle.pv_rules_expr.proofs.ForCallers.{nearest_same, nearest_both, nearest_where}
use Rattle.pv_rules_expr.proofs.ForCallers.{in_all_any, in_any, nearest_is}
use Rattle.pv_rules_code.proofs.AnyLaws.{any_append, any_of_append, any_flat, any_of_flat, any_map, any_either, any_never, of_option_any}

-- ---- over a project

-- what a rule says of statements and of instructions, in the blocks of a project
-- what a rule says of statements alone
abbrev pub OnSpots : (Scope → Place → Spot → Type 0) → ProjectTree → Place → Type 0
OnSpots P project at = Any (λ b. Any (P (in_block project b) at) (spots_of_body b.body)) project.blocks

abbrev pub InProject : (Scope → Place → Spot → Type 0) → (Scope → Place → InstrTree → Type 0) → ProjectTree → Place → Type 0
InProject P Q project at = Any (λ b. Any (P (in_block project b) at) (spots_of_body b.body)
    ⊎ Any (Q (in_block project b) at) (instructions_of b.body)) project.blocks

pub over_project : (what : Site) (P : Scope → Place → Spot → Type 0) (Q : Scope → Place → InstrTree → Type 0)
    → ((scope : Scope) (s : Spot) → IsNearest (λ at. P scope at s) (site_place what scope s))
    → ((scope : Scope) (i : InstrTree) → IsNearest (λ at. Q scope at i) (instr_place what scope i))
    → (project : ProjectTree) → IsNearest (InProject P Q project) (project_place what project)
over_project what P Q one other project =
    in_any (λ b at. Any (P (in_block project b) at) (spots_of_body b.body) ⊎ Any (Q (in_block project b) at) (instructions_of b.body))
    (block_place what project)
    (λ b. in_all_any (λ i at. Q (in_block project b) at i) (instr_place what (in_block project b)) (other (in_block project b))
    (λ at. Any (P (in_block project b) at) (spots_of_body b.body)) (instructions_of b.body)
    (nearest_in (site_place what (in_block project b)) (spots_of_body b.body) None)
    (in_any (λ s at. P (in_block project b) at s) (site_place what (in_block project b)) (one (in_block project b)) (spots_of_body b.body)))
    project.blocks

-- a rule on statements alone
pub never_at : (scope : Scope) (i : InstrTree) → IsNearest (λ at. ⊥) None
never_at scope i = λ at h. h

pub on_spots : (P : Scope → Place → Spot → Type 0) (project : ProjectTree) (o : Option Place)
    → IsNearest (InProject P (λ scope at i. ⊥) project) o
    → IsNearest (λ at. Any (λ b. Any (P (in_block project b) at) (spots_of_body b.body)) project.blocks) o
on_spots P project o h =
    nearest_same (InProject P (λ scope at i. ⊥) project) (λ at. Any (λ b. Any (P (in_block project b) at) (spots_of_body b.body)) project.blocks) o
    (λ at a. any_map (λ b. Any (P (in_block project b) at) (spots_of_body b.body) ⊎ Any (λ i. ⊥) (instructions_of b.body))
    (λ b. Any (P (in_block project b) at) (spots_of_body b.body))
    (λ b e. elim e [ inl s ↦ s | inr i ↦ absurd (any_never (λ i. ⊥) (λ i n. n) (instructions_of b.body) i) ]) project.blocks a)
    (λ at a. any_map (λ b. Any (P (in_block project b) at) (spots_of_body b.body))
    (λ b. Any (P (in_block project b) at) (spots_of_body b.body) ⊎ Any (λ i. ⊥) (instructions_of b.body)) (λ b s. inl s) project.blocks a)
    h

-- a rule on what statements and instructions have
pub on_both : {X : Type 0} (f : Scope → Spot → List X) (g : Scope → InstrTree → List X) (R : Scope → Place → X → Type 0) (project : ProjectTree) (o : Option Place)
    → IsNearest (InProject (λ scope at s. Any (R scope at) (f scope s)) (λ scope at i. Any (R scope at) (g scope i)) project) o
    → IsNearest (λ at. Any (λ b. Any (R (in_block project b) at) (flat_map (f (in_block project b)) (spots_of_body b.body) ++ flat_map (g (in_block project b)) (instructions_of b.body)))
    project.blocks) o
on_both f g R project o h =
    nearest_same (InProject (λ scope at s. Any (R scope at) (f scope s)) (λ scope at i. Any (R scope at) (g scope i)) project)
    (λ at. Any (λ b. Any (R (in_block project b) at) (flat_map (f (in_block project b)) (spots_of_body b.body) ++ flat_map (g (in_block project b)) (instructions_of b.body))) project.blocks) o
    (λ at a. any_map (λ b. Any (λ s. Any (R (in_block project b) at) (f (in_block project b) s)) (spots_of_body b.body)
    ⊎ Any (λ i. Any (R (in_block project b) at) (g (in_block project b) i)) (instructions_of b.body))
    (λ b. Any (R (in_block project b) at) (flat_map (f (in_block project b)) (spots_of_body b.body) ++ flat_map (g (in_block project b)) (instructions_of b.body)))
    (λ b e. any_append (R (in_block project b) at) (flat_map (f (in_block project b)) (spots_of_body b.body)) (flat_map (g (in_block project b)) (instructions_of b.body))
    (elim e [
      | inl s ↦ inl (any_flat (R (in_block project b) at) (f (in_block project b)) (spots_of_body b.body) s)
      | inr i ↦ inr (any_flat (R (in_block project b) at) (g (in_block project b)) (instructions_of b.body) i)
    ])) project.blocks a)
    (λ at a. any_map (λ b. Any (R (in_block project b) at) (flat_map (f (in_block project b)) (spots_of_body b.body) ++ flat_map (g (in_block project b)) (instructions_of b.body)))
    (λ b. Any (λ s. Any (R (in_block project b) at) (f (in_block project b) s)) (spots_of_body b.body)
    ⊎ Any (λ i. Any (R (in_block project b) at) (g (in_block project b) i)) (instructions_of b.body))
    (λ b e. elim (any_of_append (R (in_block project b) at) (flat_map (f (in_block project b)) (spots_of_body b.body)) (flat_map (g (in_block project b)) (instructions_of b.body)) e) [
      | inl s ↦ inl (any_of_flat (R (in_block project b) at) (f (in_block project b)) (spots_of_body b.body) s)
      | inr i ↦ inr (any_of_flat (R (in_block project b) at) (g (in_block project b)) (instructions_of b.body) i)
    ]) project.blocks a)
    h

-- two rules on statements as one
pub join_spots : (P Q : Scope → Place → Spot → Type 0) (project : ProjectTree) (x y : Option Place) → IsNearest (OnSpots P project) x
    → IsNearest (OnSpots Q project) y → IsNearest (OnSpots (λ scope at s. P scope at s ⊎ Q scope at s) project) (nearer_of x y)
join_spots P Q project x y hx hy =
    nearest_same (λ at. OnSpots P project at ⊎ OnSpots Q project at) (OnSpots (λ scope at s. P scope at s ⊎ Q scope at s) project) (nearer_of x y)
    (λ at e. elim e [
      | inl a ↦ any_map (λ b. Any (P (in_block project b) at) (spots_of_body b.body))
          (λ b. Any (λ s. P (in_block project b) at s ⊎ Q (in_block project b) at s) (spots_of_body b.body))
          (λ b g. any_map (P (in_block project b) at) (λ s. P (in_block project b) at s ⊎ Q (in_block project b) at s) (λ s p. inl p)
          (spots_of_body b.body) g) project.blocks a
      | inr a ↦ any_map (λ b. Any (Q (in_block project b) at) (spots_of_body b.body))
          (λ b. Any (λ s. P (in_block project b) at s ⊎ Q (in_block project b) at s) (spots_of_body b.body))
          (λ b g. any_map (Q (in_block project b) at) (λ s. P (in_block project b) at s ⊎ Q (in_block project b) at s) (λ s q. inr q)
          (spots_of_body b.body) g) project.blocks a
    ])
    (λ at a. any_either (λ b. Any (P (in_block project b) at) (spots_of_body b.body)) (λ b. Any (Q (in_block project b) at) (spots_of_body b.body))
    project.blocks
    (any_map (λ b. Any (λ s. P (in_block project b) at s ⊎ Q (in_block project b) at s) (spots_of_body b.body))
    (λ b. Any (P (in_block project b) at) (spots_of_body b.body) ⊎ Any (Q (in_block project b) at) (spots_of_body b.body))
    (λ b g. any_either (P (in_block project b) at) (Q (in_block project b) at) (spots_of_body b.body) g) project.blocks a))
    (nearest_both (OnSpots P project) (OnSpots Q project) x y hx hy)

-- the same at each statement
pub same_spots : (P Q : Scope → Place → Spot → Type 0) (project : ProjectTree) (o : Option Place)
    → ((scope : Scope) (at : Place) (s : Spot) → P scope at s → Q scope at s) → ((scope : Scope) (at : Place) (s : Spot) → Q scope at s → P scope at s)
    → IsNearest (OnSpots P project) o → IsNearest (OnSpots Q project) o
same_spots P Q project o to from h =
    nearest_same (OnSpots P project) (OnSpots Q project) o
    (λ at a. any_map (λ b. Any (P (in_block project b) at) (spots_of_body b.body)) (λ b. Any (Q (in_block project b) at) (spots_of_body b.body))
    (λ b g. any_map (P (in_block project b) at) (Q (in_block project b) at) (to (in_block project b) at) (spots_of_body b.body) g) project.blocks a)
    (λ at a. any_map (λ b. Any (Q (in_block project b) at) (spots_of_body b.body)) (λ b. Any (P (in_block project b) at) (spots_of_body b.body))
    (λ b g. any_map (Q (in_block project b) at) (P (in_block project b) at) (from (in_block project b) at) (spots_of_body b.body) g) project.blocks a)
    h

-- ---- conditions

pub wrong_condition : (project : ProjectTree) (o : Option Place) → o ≡ project_place site.Condition project → IsNearest (IsWrongCondition project) o
wrong_condition project o is =
    nearest_is (IsWrongCondition project) o (project_place site.Condition project) is
    (on_spots (λ scope at s. Any (IsNoCondition scope at) (conditions_of_stmt s.stmt)) project (project_place site.Condition project)
    (over_project site.Condition (λ scope at s. Any (IsNoCondition scope at) (conditions_of_stmt s.stmt)) (λ scope at i. ⊥)
    (λ scope s. in_any (λ e at. IsNoCondition scope at e) (condition_at scope) (λ e. nearest_where _ (first_place e)) (conditions_of_stmt s.stmt))
    never_at project))

-- ---- EXIT and CONTINUE

abbrev Leaves : StmtTree → Place → Type 0
Leaves t at = (t ≡ exit_ at) ⊎ (t ≡ continue_ at)

leave_same : (t : StmtTree) (p at : Place) → leave_of t ≡ Some p → Leaves t at → p ≡ at
leave_same t p at is (inl e) = ap (λ o. unwrap_or o p) (sym is ∙ ap leave_of e)
leave_same t p at is (inr e) = ap (λ o. unwrap_or o p) (sym is ∙ ap leave_of e)

leave_never : (t : StmtTree) → leave_of t ≡ None → IsNearest (Leaves t) None
leave_never t none = λ at h. elim h [
  | inl e ↦ true≢false (ap is_some (sym (ap leave_of e) ∙ none))
  | inr e ↦ true≢false (ap is_some (sym (ap leave_of e) ∙ none))
]

leave_once : (t : StmtTree) (p : Place) → leave_of t ≡ Some p → Leaves t p → IsNearest (Leaves t) (Some p)
leave_once t p is l = (l, λ at h. subst (λ x. IsTrue (is_before p x)) (leave_same t p at is h) (itself p))

leave_nearest : (t : StmtTree) → IsNearest (Leaves t) (leave_of t)
leave_nearest (assign target place value) = leave_never (assign target place value) refl
leave_nearest (assign_call target place call) = leave_never (assign_call target place call) refl
leave_nearest (if_ conditions other place) = leave_never (if_ conditions other place) refl
leave_nearest (case_ selector choices other place) = leave_never (case_ selector choices other place) refl
leave_nearest (for_ name name_place first last by body place) = leave_never (for_ name name_place first last by body place) refl
leave_nearest (while_ condition body place) = leave_never (while_ condition body place) refl
leave_nearest (repeat_ body condition place) = leave_never (repeat_ body condition place) refl
leave_nearest (exit_ place) = leave_once (exit_ place) place refl (inl refl)
leave_nearest (continue_ place) = leave_once (continue_ place) place refl (inr refl)
leave_nearest (return_ place) = leave_never (return_ place) refl
leave_nearest (call_ call) = leave_never (call_ call) refl
leave_nearest (empty_ place) = leave_never (empty_ place) refl

abbrev is_nil : List Loop → Bool
is_nil [] = true
is_nil (l ∷ loops) = false

leaves_nearest : (loops : List Loop) (t : StmtTree) → IsNearest (λ at. (loops ≡ []) × Leaves t at) (leave_place loops t)
leaves_nearest [] t =
    nearest_same (Leaves t) (λ at. ([] ≡ []) × Leaves t at) (leave_of t) (λ at h. (refl, h)) (λ at h. h.1) (leave_nearest t)
leaves_nearest (l ∷ loops) t = λ at h. true≢false (sym (ap is_nil h.0))

pub outside_loop : (project : ProjectTree) (o : Option Place) → o ≡ project_place site.Leave project → IsNearest (IsOutsideLoop project) o
outside_loop project o is =
    nearest_is (IsOutsideLoop project) o (project_place site.Leave project) is
    (on_spots (λ scope at s. LeavesNothing at s) project (project_place site.Leave project)
    (over_project site.Leave (λ scope at s. LeavesNothing at s) (λ scope at i. ⊥) (λ scope s. leaves_nearest s.loops s.stmt) never_at project))

-- ---- targets

pub fixed_target : (project : ProjectTree) (o : Option Place) → o ≡ project_place (site.Target aim.Fixed) project
    → IsNearest (IsFixedTarget project) o
fixed_target project o is =
    nearest_is (IsFixedTarget project) o (project_place (site.Target aim.Fixed) project) is
    (on_both (λ scope s. option_to_list (target_of s.stmt)) (λ scope i. option_to_list (written_operand i)) IsFixedOperand project
    (project_place (site.Target aim.Fixed) project)
    (over_project (site.Target aim.Fixed) (λ scope at s. Any (IsFixedOperand scope at) (option_to_list (target_of s.stmt)))
    (λ scope at i. Any (IsFixedOperand scope at) (option_to_list (written_operand i)))
    (λ scope s. of_option_any (λ o at. IsFixedOperand scope at o) (fixed_at scope)
    (λ o. nearest_where (is_fixed (thing_of scope o)) (place_of_operand o)) (target_of s.stmt))
    (λ scope i. of_option_any (λ o at. IsFixedOperand scope at o) (fixed_at scope)
    (λ o. nearest_where (is_fixed (thing_of scope o)) (place_of_operand o)) (written_operand i)) project))
