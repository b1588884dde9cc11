-- The least breach: the order is one of lists of three numbers, so there is at most one, and where there is none nothing is broken.
use Rattle.std.proofs.Common.{◌≡◌, ◌⊎◌, inl, inr, ℕ, zero, suc, List, [], ◌∷◌, get_or, ◌<◌, refl, sym, ap, ◌∙◌, arith}
use Rattle.std.specs.Prelude.{IsTrue}
use Rattle.std.proofs.lemmas.Bool.{cases_order, cases_lt}
use Rattle.std.proofs.lemmas.Bool.Decides.{nat_tests}
use Rattle.pv_place.specs.declared.place.Place.{Place}
use Rattle.pv_tree.specs.Scopes.{ProjectTree}
use Rattle.pv_tree.specs.Rules.{Rule, number_of, Breaks, KeepsRules, doubled_name, missing_name, missing_type, misfit, wrong_condition, out_of_range, wrong_array, beyond_bounds, fixed_target, wrong_counter, wrong_step, outside_loop, wrong_case, cycle, too_deep, not_callable, wrong_argument, fixed_output, wrong_label, wrong_range, wrong_nesting, refused_operand, wrong_address, no_pattern}
use Rattle.pv_tree.specs.Least.{is_up_to, Breaches, IsLeast, IsLeastFault}

-- ---- the order

abbrev place_of : ℕ → ℕ → Place
place_of file offset = record { file = file; offset = offset }

same_numbers : (m : ℕ) (a : Place) (n : ℕ) (b : Place) → IsTrue (is_up_to m a n b) → IsTrue (is_up_to n b m a)
    → (a.file ≡ b.file) × ((a.offset ≡ b.offset) × (m ≡ n))
same_numbers m a n b h k = grind (arith, nat_tests)

-- of two numbered places each is up to the other, or comes before it
pub before : (m : ℕ) (a : Place) (n : ℕ) (b : Place)
    → IsTrue (is_up_to n b m a)
    ⊎ ((a.file < b.file) ⊎ ((a.file ≡ b.file) × ((a.offset < b.offset) ⊎ ((a.offset ≡ b.offset) × (m < n)))))
before m a n b =
    elim (cases_order a.file b.file) [
      | inl same ↦ elim (cases_order a.offset b.offset) [
        | inl at ↦ elim (cases_lt m n) [ inl lt ↦ inr (inr (same, inr (at, lt))) | inr le ↦ inl (grind (arith, nat_tests)) ]
        | inr (inl lt) ↦ inr (inr (same, inl lt))
        | inr (inr gt) ↦ inl (grind (arith, nat_tests))
      ]
      | inr (inl lt) ↦ inr (inl lt)
      | inr (inr gt) ↦ inl (grind (arith, nat_tests))
    ]

-- ---- rules by their numbers

-- the rules by their numbers; there is no rule 0
abbrev rules : List Rule
rules =
    doubled_name ∷ doubled_name ∷ missing_name ∷ missing_type ∷ misfit ∷ wrong_condition ∷ out_of_range ∷ wrong_array ∷ beyond_bounds ∷ fixed_target ∷ wrong_counter ∷ wrong_step ∷ outside_loop ∷ wrong_case ∷ cycle ∷ too_deep ∷ not_callable ∷ wrong_argument ∷ fixed_output ∷ wrong_label ∷ wrong_range ∷ wrong_nesting ∷ refused_operand ∷ wrong_address ∷ no_pattern ∷ []

abbrev rule_with : ℕ → Rule
rule_with n = get_or rules n no_pattern

back_again : (r : Rule) → rule_with (number_of r) ≡ r
back_again doubled_name = refl
back_again missing_name = refl
back_again missing_type = refl
back_again misfit = refl
back_again wrong_condition = refl
back_again out_of_range = refl
back_again wrong_array = refl
back_again beyond_bounds = refl
back_again fixed_target = refl
back_again wrong_counter = refl
back_again wrong_step = refl
back_again outside_loop = refl
back_again wrong_case = refl
back_again cycle = refl
back_again too_deep = refl
back_again not_callable = refl
back_again wrong_argument = refl
back_again fixed_output = refl
back_again wrong_label = refl
back_again wrong_range = refl
back_again wrong_nesting = refl
back_again refused_operand = refl
back_again wrong_address = refl
back_again no_pattern = refl

pub same_rule : (r s : Rule) → number_of r ≡ number_of s → r ≡ s
same_rule r s e = sym (back_again r) ∙ ap rule_with e ∙ back_again s

same_place : (a b : Place) → a.file ≡ b.file → a.offset ≡ b.offset → a ≡ b
same_place a b file offset = ap (λ f. place_of f a.offset) file ∙ ap (λ o. place_of b.file o) offset

-- ---- there is at most one

pub least-one : (breaks : Breaches) (rule other : Rule) (at place : Place) → IsLeast breaks rule at → IsLeast breaks other place
    → (rule ≡ other) × (at ≡ place)
least-one breaks rule other at place l k =
    let e = same_numbers (number_of rule) at (number_of other) place (l.least other place k.broken) (k.least rule at l.broken) in
    (same_rule rule other e.1.1, same_place at place e.0 e.1.0)

-- ---- where there is none nothing is broken

-- nothing that comes before these numbers is broken
record NoneBefore (breaks : Breaches) (file offset number : ℕ) : Type 0 where
  files : (r : Rule) (p : Place) → breaks r p → p.file < file → ⊥
  offsets : (r : Rule) (p : Place) → breaks r p → p.file ≡ file → p.offset < offset → ⊥
  numbers : (r : Rule) (p : Place) → breaks r p → p.file ≡ file → p.offset ≡ offset → number_of r < number → ⊥

abbrev NoLeast : Breaches → Type 0
NoLeast breaks = (r : Rule) (p : Place) → IsLeast breaks r p → ⊥

-- what is broken and has nothing before it is the least
is_least : (breaks : Breaches) (r : Rule) (p : Place) → breaks r p → NoneBefore breaks p.file p.offset (number_of r) → IsLeast breaks r p
is_least breaks r p b none =
    record {
      broken = b;
      least = λ s q c. elim (before (number_of s) q (number_of r) p) [
        | inl up ↦ up
        | inr (inl lt) ↦ absurd (none.files s q c lt)
        | inr (inr (same, inl lt)) ↦ absurd (none.offsets s q c same lt)
        | inr (inr (same, inr (at, lt))) ↦ absurd (none.numbers s q c same at lt)
      ];
    }

abbrev FreeUpTo : Breaches → ℕ → Type 0
FreeUpTo breaks file = (r : Rule) (p : Place) → breaks r p → p.file < file → ⊥

abbrev FreeAt : Breaches → ℕ → ℕ → Type 0
FreeAt breaks file offset = (r : Rule) (p : Place) → breaks r p → p.file ≡ file → p.offset < offset → ⊥

abbrev FreeOf : Breaches → ℕ → ℕ → ℕ → Type 0
FreeOf breaks file offset number = (r : Rule) (p : Place) → breaks r p → p.file ≡ file → p.offset ≡ offset → number_of r < number → ⊥

step_of : (breaks : Breaches) (file offset number : ℕ) → NoLeast breaks → FreeUpTo breaks file → FreeAt breaks file offset
    → FreeOf breaks file offset number
    → (r : Rule) (p : Place) → breaks r p → p.file ≡ file → p.offset ≡ offset → number_of r ≡ number → ⊥
step_of breaks file offset number never f o n r p b same at is =
    never r p (is_least breaks r p b (record {
      files = λ s q c lt. f s q c (omega (arith, lt, same));
      offsets = λ s q c e lt. o s q c (e ∙ same) (omega (arith, lt, at));
      numbers = λ s q c e g lt. n s q c (e ∙ same) (g ∙ at) (omega (arith, lt, is));
    }))

free_of : (breaks : Breaches) (file offset number : ℕ) → NoLeast breaks → FreeUpTo breaks file → FreeAt breaks file offset
    → FreeOf breaks file offset number
free_of breaks file offset zero never f o r p b same at lt = omega (arith, lt)
free_of breaks file offset (suc number) never f o r p b same at lt =
    let below = free_of breaks file offset number never f o in
    elim (cases_lt (number_of r) number) [
      | inl less ↦ below r p b same at less
      | inr le ↦ step_of breaks file offset number never f o below r p b same at (omega (arith, le, lt))
    ]

free_at : (breaks : Breaches) (file offset : ℕ) → NoLeast breaks → FreeUpTo breaks file → FreeAt breaks file offset
free_at breaks file zero never f r p b same lt = omega (arith, lt)
free_at breaks file (suc offset) never f r p b same lt =
    let below = free_at breaks file offset never f in
    elim (cases_lt p.offset offset) [
      | inl less ↦ below r p b same less
      | inr le ↦ free_of breaks file offset (suc (number_of r)) never f below r p b same (omega (arith, le, lt)) (omega arith)
    ]

free_up_to : (breaks : Breaches) (file : ℕ) → NoLeast breaks → FreeUpTo breaks file
free_up_to breaks zero never r p b lt = omega (arith, lt)
free_up_to breaks (suc file) never r p b lt =
    let below = free_up_to breaks file never in
    elim (cases_lt p.file file) [
      | inl less ↦ below r p b less
      | inr le ↦ free_at breaks file (suc p.offset) never below r p b (omega (arith, le, lt)) (omega arith)
    ]

pub none-least : (breaks : Breaches) → ((r : Rule) (p : Place) → IsLeast breaks r p → ⊥) → (r : Rule) (p : Place) → breaks r p → ⊥
none-least breaks never r p b = free_up_to breaks (suc p.file) never r p b (omega arith)

-- ---- of a project

pub fault-is-one : (project : ProjectTree) (rule other : Rule) (at place : Place) → IsLeastFault project rule at
    → IsLeastFault project other place
    → (rule ≡ other) × (at ≡ place)
fault-is-one project rule other at place l k = least-one (λ r p. Breaks r project p) rule other at place l k

pub no-fault-keeps : (project : ProjectTree) → ((rule : Rule) (at : Place) → IsLeastFault project rule at → ⊥) → KeepsRules project
no-fault-keeps project never = none-least (λ r p. Breaks r project p) never

pub kept-no-fault : (project : ProjectTree) → KeepsRules project → (rule : Rule) (at : Place) → IsLeastFault project rule at → ⊥
kept-no-fault project keeps rule at l = keeps rule at l.broken
