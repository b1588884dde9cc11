-- What a case and its sources say together is one thing that a command works on, or one refusal: stage by stage.
use Rattle.std.proofs.Common.{◌≡◌, ◌↔◌, inl, inr, ℕ, ◌≤◌, List, [], ◌∷◌, ◌++◌, length, Option, Some, None, refl, ap, sym, ◌∙◌, subst, arith}
use Rattle.std.proofs.lemmas.Option.{same_Some}
use Rattle.std.specs.List.{slice_get}
use Rattle.pv_place.specs.declared.place.Place.{Place}
use Rattle.pv_types.specs.declared.layout.TheConstants.{MAX_LEAVES}
use Rattle.pv_types.specs.declared.name.Name.{Name}
use Rattle.pv_tree.specs.Tree.{ExprTree, OperandTree, BlockTree}
use Rattle.pv_tree.specs.Scopes.{ProjectTree, Scope}
use Rattle.pv_tree.specs.Rules.{Rule, KeepsRules}
use Rattle.pv_tree.specs.Least.{IsLeastFault}
use Rattle.pv_mean.specs.declared.cell.Cell.{Cell}
use Rattle.pv_mean.specs.Cells.{View}
use Rattle.pv_case.specs.declared.case.PatternKind.{PatternKind}
use Rattle.pv_pattern.specs.Patterns.{Pattern}
use Rattle.pv_pattern.specs.Texts.{IsTextOf, addresses_in, AreNamed, Fault, unread, broken, brief_cell as reads_brief, no_bool, FailsAt}
use Rattle.pv_pattern_read.specs.Kinds.{IsReadPattern}
use Rattle.pv_case_fit.specs.Entries.{IsNameText, number_of_entry, IsEntry}
use Rattle.pv_case_fit.specs.Inputs.{first_stray, listed, first_misfit, IsStray, IsMisfit}
use Rattle.pv_command_load.specs.Positions.{place_text}
use Rattle.pv_command_load.specs.Refusals.{ProjectRefusal, rule, TableRefusal, no_entry, too_many_cells, FitRefusal, not_an_input, bound_range, pattern_text, pattern_rule, brief_cell, not_bool}
use Rattle.pv_command_load.specs.Subjects.{Given, texts_of, blocks_of, project_of, RefusesProject, Entered, IsEntered, cells_of, HasTable, RefusesTable, scope_of, HasView, HasPattern, HasPatternFault, RefusesFit}

-- ---- the rules

-- a project has one first breach at most, and none where it keeps the rules
pub record RuleLaws : Type 0 where
  pub one : (project : ProjectTree) (r other : Rule) (at place : Place) → IsLeastFault project r at → IsLeastFault project other place
      → (r ≡ other) × (at ≡ place)
  pub none : (project : ProjectTree) → ((r : Rule) (at : Place) → IsLeastFault project r at → ⊥) ↔ KeepsRules project

module _ (laws : RuleLaws) (given : Given) where
  pub one_breach : (a b : ProjectRefusal) → RefusesProject given a → RefusesProject given b → a ≡ b
  one_breach (rule r at) (rule q there) x y =
      let same = laws.one (project_of given) r q x.place y.place x.least y.least in
      ap (λ z. rule z at) same.0 ∙ ap (λ z. rule q z) (x.is_there ∙ ap (place_text (texts_of given)) same.1 ∙ sym y.is_there)

  pub breach_apart : KeepsRules (project_of given) → (b : ProjectRefusal) → RefusesProject given b → ⊥
  breach_apart keeps (rule r at) y = (laws.none (project_of given)).1 keeps r y.place y.least

-- ---- the entry and the addresses

pub record TextLaws : Type 0 where
  pub one_name : (text : List ℕ) (a b : Name) → IsNameText text a → IsNameText text b → a ≡ b
  pub one_text : (text : List ℕ) (a b : ExprTree) → IsTextOf text a → IsTextOf text b → a ≡ b

module _ (laws : TextLaws) where
  one_list : (texts : List (List ℕ)) (a b : List OperandTree) → AreNamed texts a → AreNamed texts b → a ≡ b
  one_list [] a b r s = r ∙ sym s
  one_list (t ∷ texts) a b (inl r) (inl s) =
      let same = laws.one_text t r.0 s.0 r.2 s.2 in
      r.3 ∙ ap (λ z. addresses_in z ++ r.1) same ∙ ap (λ z. addresses_in s.0 ++ z) (one_list texts r.1 s.1 r.4 s.4) ∙ sym s.3
  one_list (t ∷ texts) a b (inl r) (inr s) = absurd (s.0 r.0 r.2)
  one_list (t ∷ texts) a b (inr r) (inl s) = absurd (r.0 s.0 s.2)
  one_list (t ∷ texts) a b (inr r) (inr s) = one_list texts a b r.1 s.1

  one_number : (blocks : List BlockTree) (text : List ℕ) (m n : ℕ) → IsEntry blocks text m → IsEntry blocks text n → m ≡ n
  one_number blocks text m n r s =
      same_Some m n (sym r.is ∙ ap (λ z. number_of_entry blocks z.key) (laws.one_name text r.name s.name r.read s.read) ∙ s.is)

  pub one_entered : (given : Given) (a b : Entered) → IsEntered given a → IsEntered given b → a ≡ b
  one_entered given a b r s =
      let number = one_number (blocks_of given) given.case.entry r.number s.number r.entry s.entry in
      let block : a.block ≡ b.block = same_Some a.block b.block (sym r.is ∙ ap (slice_get (blocks_of given)) number ∙ s.is) in
      let names : a.operands ≡ b.operands = one_list given.case.expressions a.operands b.operands r.named s.named in
      ap (λ z. record { block = z; operands = a.operands }) block ∙ ap (λ z. record { block = b.block; operands = z }) names

  pub one_table : (given : Given) (a b : Entered) → HasTable given a → HasTable given b → a ≡ b
  one_table given a b r s = one_entered given a b r.is_entered s.is_entered

  pub table_once : (given : Given) (a b : TableRefusal) → RefusesTable given a → RefusesTable given b → a ≡ b
  table_once given no_entry no_entry r s = refl
  table_once given no_entry too_many_cells r s = absurd (r s.1.number s.1.entry)
  table_once given too_many_cells no_entry r s = absurd (s r.1.number r.1.entry)
  table_once given too_many_cells too_many_cells r s = refl

  pub table_apart : (given : Given) (a : Entered) (b : TableRefusal) → HasTable given a → RefusesTable given b → ⊥
  table_apart given a no_entry r s = s r.is_entered.number r.is_entered.entry
  table_apart given a too_many_cells r s =
      let few = subst (λ z. length (cells_of given z) ≤ MAX_LEAVES) (one_entered given a s.0 r.is_entered s.1) r.few in
      omega (arith, few, s.2)

-- ---- the inputs and the requirement

pub record PatternLaws : Type 0 where
  pub one : (scope : Scope) (kind : PatternKind) (texts : List (List ℕ)) (p q : Pattern) → IsReadPattern scope kind texts p
      → IsReadPattern scope kind texts q → p ≡ q
  pub one_fault : (scope : Scope) (texts : List (List ℕ)) (n m : ℕ) (f g : Fault) → FailsAt scope texts n f → FailsAt scope texts m g
      → (n ≡ m) × (f ≡ g)
  pub apart : (scope : Scope) (kind : PatternKind) (texts : List (List ℕ)) (p : Pattern) (n : ℕ) (f : Fault) → IsReadPattern scope kind texts p
      → FailsAt scope texts n f → ⊥

-- what is said of them, by what decides it
data Saying : Type 0 where
  stray : List ℕ → Saying
  misfit : List ℕ → Saying
  fails : ℕ → Fault → Saying

abbrev refusal_by : Saying → FitRefusal
refusal_by (stray path) = not_an_input path
refusal_by (misfit path) = bound_range path
refusal_by (fails n unread) = pattern_text n
refusal_by (fails n (broken r)) = pattern_rule n
refusal_by (fails n reads_brief) = brief_cell n
refusal_by (fails n no_bool) = not_bool n

module _ (given : Given) (entered : Entered) where
  abbrev cells : List Cell
  cells = cells_of given entered

  abbrev Says : Saying → Type 0
  Says (stray path) = IsStray cells given.case.params given.case.bind path
  Says (misfit path) = IsMisfit cells given.case.params given.case.bind path
  Says (fails n fault) = HasPatternFault given entered n fault

  record ByRefusal (refusal : FitRefusal) : Type 0 where
    saying : Saying
    says : Says saying
    is : refusal_by saying ≡ refusal

  by_refusal : (r : FitRefusal) → RefusesFit given entered r → ByRefusal r
  by_refusal (not_an_input path) h = record { saying = stray path; says = h; is = refl }
  by_refusal (bound_range path) h = record { saying = misfit path; says = h; is = refl }
  by_refusal (pattern_text n) h = record { saying = fails n unread; says = h; is = refl }
  by_refusal (pattern_rule n) h = record { saying = fails n (broken h.0); says = h.1; is = refl }
  by_refusal (brief_cell n) h = record { saying = fails n reads_brief; says = h; is = refl }
  by_refusal (not_bool n) h = record { saying = fails n no_bool; says = h; is = refl }

  no_stray : (path : List ℕ) → first_stray cells (listed given.case.params given.case.bind) ≡ None
      → first_stray cells (listed given.case.params given.case.bind) ≡ Some path → ⊥
  no_stray path none some = let no : ◌≡◌ {A = Option (List ℕ)} None (Some path) = sym none ∙ some in absurd cc

  no_misfit : (path : List ℕ) → first_misfit cells [] given.case.bind ≡ None → first_misfit cells [] given.case.bind ≡ Some path → ⊥
  no_misfit path none some = let no : ◌≡◌ {A = Option (List ℕ)} None (Some path) = sym none ∙ some in absurd cc

  one_view : (v w : View) → HasView given entered v → HasView given entered w → v ≡ w
  one_view v w r s =
      ap (λ z. record { params = z; bound = v.bound }) (r.numbers_are ∙ sym s.numbers_are)
      ∙ ap (λ z. record { params = w.params; bound = z }) (r.bounds_are ∙ sym s.bounds_are)

  module _ (laws : PatternLaws) where
    one_saying : (a b : Saying) → Says a → Says b → a ≡ b
    one_saying (stray p) (stray q) r s = ap stray (same_Some p q (sym r ∙ s))
    one_saying (stray p) (misfit q) r s = absurd (no_stray p s.all_inputs r)
    one_saying (stray p) (fails n f) r s = absurd (no_stray p s.viewed.all_inputs r)
    one_saying (misfit p) (stray q) r s = absurd (no_stray q r.all_inputs s)
    one_saying (misfit p) (misfit q) r s = ap misfit (same_Some p q (sym r.first ∙ s.first))
    one_saying (misfit p) (fails n f) r s = absurd (no_misfit p s.viewed.all_fit r.first)
    one_saying (fails n f) (stray q) r s = absurd (no_stray q r.viewed.all_inputs s)
    one_saying (fails n f) (misfit q) r s = absurd (no_misfit q r.viewed.all_fit s.first)
    one_saying (fails n f) (fails m g) r s =
        let same = laws.one_fault (scope_of given entered) given.case.expressions n m f g r.fails s.fails in
        ap (λ z. fails z f) same.0 ∙ ap (fails m) same.1

    pub fit_once : (a b : FitRefusal) → RefusesFit given entered a → RefusesFit given entered b → a ≡ b
    fit_once a b r s =
        let x = by_refusal a r in
        let y = by_refusal b s in
        sym x.is ∙ ap refusal_by (one_saying x.saying y.saying x.says y.says) ∙ y.is

    pub one_fit : (v w : View) (p q : Pattern) → HasView given entered v → HasPattern given entered p → HasView given entered w
        → HasPattern given entered q → (v ≡ w) × (p ≡ q)
    one_fit v w p q r h s k = (
      one_view v w r s,
      laws.one (scope_of given entered) given.case.kind given.case.expressions p q h k,
    )

    none_said : (v : View) (p : Pattern) (a : Saying) → HasView given entered v → HasPattern given entered p → Says a → ⊥
    none_said v p (stray path) r h s = no_stray path r.all_inputs s
    none_said v p (misfit path) r h s = no_misfit path r.all_fit s.first
    none_said v p (fails n f) r h s =
        laws.apart (scope_of given entered) given.case.kind given.case.expressions p n f h s.fails

    pub fit_apart : (v : View) (p : Pattern) (b : FitRefusal) → HasView given entered v → HasPattern given entered p → RefusesFit given entered b → ⊥
    fit_apart v p b r h s = let y = by_refusal b s in none_said v p y.saying r h y.says
