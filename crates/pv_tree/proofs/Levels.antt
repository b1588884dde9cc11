-- Nesting by levels from below and by parts from above agree: some part of a tree has m parts around it exactly where m is among
-- the numbers from those around the tree on, as many as it has levels.
use Rattle.std.proofs.Common.{◌≡◌, ◌⊎◌, ◌↔◌, inl, inr, ℕ, suc, max, List, [], ◌∷◌, ◌++◌, refl, subst, arith}
use Rattle.std.proofs.Math.Nat.{le-max_left, le-max_right, max-eq_left, max-eq_right, eq-or-lt_of_le}
use Rattle.std.proofs.lemmas.Bool.{cases_lt}
use Rattle.pv_place.specs.declared.place.Place.{Place}
use Rattle.pv_tree.specs.Tree.{ExprTree, lit, read, unary, binary, std, paren, ExprTrees, no_exprs, exprs, OperandTree, operand, StepTree, field, index, StepTrees, no_steps, steps, ArgTree, StmtTree, assign, assign_call, if_, case_, for_, while_, repeat_, exit_, continue_, return_, call_, empty_, StmtTrees, no_stmts, stmts, ArmTrees, no_arms, arms, BranchTrees, no_branches, branches, ElseTree, no_else, else_}
use Rattle.pv_tree.specs.Nesting.{Part, part, first_of, first_of_operand, first_of_stmt, levels, levels_of_exprs, levels_of_operand, levels_of_steps, levels_of_step, levels_of_args, levels_within, levels_of_stmts, levels_of_arms, levels_of_branches, levels_of_else, parts, parts_of_exprs, parts_of_operand, parts_of_steps, parts_of_step, parts_of_args, parts_within, parts_of_stmts, parts_of_arms, parts_of_branches, parts_of_else}
use Rattle.pv_tree.specs.Order.{HasAbove, IsAmong}

-- the numbers of parts around those of the list are these
abbrev pub Agrees : List Part → ℕ → ℕ → Type 0
Agrees list n count = (m : ℕ) → HasAbove list m ↔ IsAmong n count m

no_more : (n m count : ℕ) → IsAmong n count m → count ≡ 0 → ⊥
no_more n m count a e = omega (arith, a.from, a.to, e)

pub agrees_none : (n : ℕ) → Agrees [] n 0
agrees_none n m = ((λ h. absurd h), (λ a. absurd (no_more n m 0 a refl)))

has_left : (xs ys : List Part) (m : ℕ) → HasAbove xs m → HasAbove (xs ++ ys) m
has_left [] ys m h = absurd h
has_left (x ∷ xs) ys m (inl e) = inl e
has_left (x ∷ xs) ys m (inr h) = inr (has_left xs ys m h)

has_right : (xs ys : List Part) (m : ℕ) → HasAbove ys m → HasAbove (xs ++ ys) m
has_right [] ys m h = h
has_right (x ∷ xs) ys m h = inr (has_right xs ys m h)

has_cases : (xs ys : List Part) (m : ℕ) → HasAbove (xs ++ ys) m → HasAbove xs m ⊎ HasAbove ys m
has_cases [] ys m h = inr h
has_cases (x ∷ xs) ys m (inl e) = inl (inl e)
has_cases (x ∷ xs) ys m (inr h) = elim (has_cases xs ys m h) [ inl l ↦ inl (inr l) | inr r ↦ inr r ]

-- the numbers of the one count and of the other are those of the greater
wider_left : (n a b m : ℕ) → IsAmong n a m → IsAmong n (max a b) m
wider_left n a b m i = record { from = i.from; to = omega (arith, i.to, le-max_left a b) }

wider_right : (n a b m : ℕ) → IsAmong n b m → IsAmong n (max a b) m
wider_right n a b m i = record { from = i.from; to = omega (arith, i.to, le-max_right a b) }

pub max_cases : (a b : ℕ) → (max a b ≡ a) ⊎ (max a b ≡ b)
max_cases a b = elim (cases_lt a b) [ inl p ↦ inr (max-eq_right (omega (arith, p))) | inr q ↦ inl (max-eq_left q) ]

among_cases : (n a b m : ℕ) → IsAmong n (max a b) m → IsAmong n a m ⊎ IsAmong n b m
among_cases n a b m i =
    elim (max_cases a b) [
      | inl e ↦ inl (subst (λ c. IsAmong n c m) e i)
      | inr e ↦ inr (subst (λ c. IsAmong n c m) e i)
    ]

pub agrees_both : (n a b : ℕ) (xs ys : List Part) → Agrees xs n a → Agrees ys n b → Agrees (xs ++ ys) n (max a b)
agrees_both n a b xs ys f g m = (
  (λ h. elim (has_cases xs ys m h) [ inl l ↦ wider_left n a b m ((f m).0 l) | inr r ↦ wider_right n a b m ((g m).0 r) ]),
  (λ i. elim (among_cases n a b m i) [ inl l ↦ has_left xs ys m ((f m).1 l) | inr r ↦ has_right xs ys m ((g m).1 r) ]),
)

-- a part, and parts within it
up : (n a m : ℕ) → IsAmong (suc n) a m → IsAmong n (suc a) m
up n a m i = record { from = omega (arith, i.from); to = omega (arith, i.to) }

itself : (n a m : ℕ) → n ≡ m → IsAmong n (suc a) m
itself n a m e = record { from = omega (arith, e); to = omega (arith, e) }

down : (n a m : ℕ) → IsAmong n (suc a) m → (n ≡ m) ⊎ IsAmong (suc n) a m
down n a m i = elim (eq-or-lt_of_le i.from) [ inl e ↦ inl e | inr l ↦ inr (record { from = omega (arith, l); to = omega (arith, i.to) }) ]

pub agrees_part : (n a : ℕ) (p : Place) (xs : List Part) → Agrees xs (suc n) a → Agrees (part n p ∷ xs) n (suc a)
agrees_part n a p xs f m = (
  (λ h. elim h [ inl e ↦ itself n a m e | inr r ↦ up n a m ((f m).0 r) ]),
  (λ i. elim (down n a m i) [ inl e ↦ inl e | inr l ↦ inr ((f m).1 l) ]),
)

-- ---- expressions

mutual
  pub agrees-expr : (n : ℕ) (e : ExprTree) → Agrees (parts n e) n (levels e)
  agrees-expr n (lit own value place) = agrees_part n 0 place [] (agrees_none (suc n))
  agrees-expr n (read variable) = agrees_part n _ (first_of_operand variable) _ (agrees-operand (suc n) variable)
  agrees-expr n (unary op place arg) = agrees_part n _ place _ (agrees-expr (suc n) arg)
  agrees-expr n (binary op place left right) =
      agrees_part n _ (first_of left) _
      (agrees_both (suc n) (levels left) (levels right) (parts (suc n) left) (parts (suc n) right) (agrees-expr (suc n) left)
      (agrees-expr (suc n) right))
  agrees-expr n (std function place args) = agrees_part n _ place _ (agrees-exprs (suc n) args)
  agrees-expr n (paren place inner) = agrees_part n _ place _ (agrees-expr (suc n) inner)

  agrees-exprs : (n : ℕ) (args : ExprTrees) → Agrees (parts_of_exprs n args) n (levels_of_exprs args)
  agrees-exprs n no_exprs = agrees_none n
  agrees-exprs n (exprs arg args) =
      agrees_both n (levels arg) (levels_of_exprs args) (parts n arg) (parts_of_exprs n args) (agrees-expr n arg) (agrees-exprs n args)

  pub agrees-operand : (n : ℕ) (o : OperandTree) → Agrees (parts_of_operand n o) n (levels_of_operand o)
  agrees-operand n (operand root path place) = agrees-steps n path

  agrees-steps : (n : ℕ) (path : StepTrees) → Agrees (parts_of_steps n path) n (levels_of_steps path)
  agrees-steps n no_steps = agrees_none n
  agrees-steps n (steps step others) =
      agrees_both n (levels_of_step step) (levels_of_steps others) (parts_of_step n step) (parts_of_steps n others) (agrees-step n step)
      (agrees-steps n others)

  agrees-step : (n : ℕ) (step : StepTree) → Agrees (parts_of_step n step) n (levels_of_step step)
  agrees-step n (field name place) = agrees_none n
  agrees-step n (index at place) = agrees-expr n at

-- ---- statements

pub agrees-args : (n : ℕ) (args : List ArgTree) → Agrees (parts_of_args n args) n (levels_of_args args)
agrees-args n [] = agrees_none n
agrees-args n (arg ∷ args) =
    agrees_both n (levels arg.value) (levels_of_args args) (parts n arg.value) (parts_of_args n args) (agrees-expr n arg.value)
    (agrees-args n args)

mutual
  pub agrees-within : (n : ℕ) (s : StmtTree) → Agrees (parts_within n s) n (levels_within s)
  agrees-within n (assign target place value) =
      agrees_both n (levels_of_operand target) (levels value) (parts_of_operand n target) (parts n value) (agrees-operand n target)
      (agrees-expr n value)
  agrees-within n (assign_call target place call) =
      agrees_both n (levels_of_operand target) (levels_of_args call.args) (parts_of_operand n target) (parts_of_args n call.args)
      (agrees-operand n target) (agrees-args n call.args)
  agrees-within n (if_ first other place) =
      agrees_both n (levels_of_arms first) (levels_of_else other) (parts_of_arms n first) (parts_of_else n other) (agrees-arms n first)
      (agrees-else n other)
  agrees-within n (case_ selector all other place) =
      agrees_both n (levels selector) (max (levels_of_branches all) (levels_of_else other)) (parts n selector)
      (parts_of_branches n all ++ parts_of_else n other)
      (agrees-expr n selector)
      (agrees_both n (levels_of_branches all) (levels_of_else other) (parts_of_branches n all) (parts_of_else n other)
      (agrees-branches n all) (agrees-else n other))
  agrees-within n (for_ var var_place first last by body place) =
      agrees_both n (levels first) (max (levels last) (levels_of_stmts body)) (parts n first) (parts n last ++ parts_of_stmts n body)
      (agrees-expr n first)
      (agrees_both n (levels last) (levels_of_stmts body) (parts n last) (parts_of_stmts n body) (agrees-expr n last) (agrees-stmts n body))
  agrees-within n (while_ cond body place) =
      agrees_both n (levels cond) (levels_of_stmts body) (parts n cond) (parts_of_stmts n body) (agrees-expr n cond) (agrees-stmts n body)
  agrees-within n (repeat_ body cond place) =
      agrees_both n (levels_of_stmts body) (levels cond) (parts_of_stmts n body) (parts n cond) (agrees-stmts n body) (agrees-expr n cond)
  agrees-within n (exit_ place) = agrees_none n
  agrees-within n (continue_ place) = agrees_none n
  agrees-within n (return_ place) = agrees_none n
  agrees-within n (call_ call) = agrees-args n call.args
  agrees-within n (empty_ place) = agrees_none n

  pub agrees-stmts : (n : ℕ) (list : StmtTrees) → Agrees (parts_of_stmts n list) n (levels_of_stmts list)
  agrees-stmts n no_stmts = agrees_none n
  agrees-stmts n (stmts s others) =
      agrees_both n (suc (levels_within s)) (levels_of_stmts others) (part n (first_of_stmt s) ∷ parts_within (suc n) s)
      (parts_of_stmts n others)
      (agrees_part n (levels_within s) (first_of_stmt s) (parts_within (suc n) s) (agrees-within (suc n) s)) (agrees-stmts n others)

  agrees-arms : (n : ℕ) (list : ArmTrees) → Agrees (parts_of_arms n list) n (levels_of_arms list)
  agrees-arms n no_arms = agrees_none n
  agrees-arms n (arms cond body others) =
      agrees_both n (levels cond) (max (levels_of_stmts body) (levels_of_arms others)) (parts n cond)
      (parts_of_stmts n body ++ parts_of_arms n others)
      (agrees-expr n cond)
      (agrees_both n (levels_of_stmts body) (levels_of_arms others) (parts_of_stmts n body) (parts_of_arms n others) (agrees-stmts n body)
      (agrees-arms n others))

  agrees-branches : (n : ℕ) (list : BranchTrees) → Agrees (parts_of_branches n list) n (levels_of_branches list)
  agrees-branches n no_branches = agrees_none n
  agrees-branches n (branches choices body others) =
      agrees_both n (levels_of_stmts body) (levels_of_branches others) (parts_of_stmts n body) (parts_of_branches n others)
      (agrees-stmts n body) (agrees-branches n others)

  agrees-else : (n : ℕ) (other : ElseTree) → Agrees (parts_of_else n other) n (levels_of_else other)
  agrees-else n no_else = agrees_none n
  agrees-else n (else_ body) = agrees-stmts n body
