-- The parts of declared types: they begin along the tokens, and agree with the levels of types.
use Rattle.std.proofs.Common.{◌≡◌, ◌⊎◌, inl, inr, ℕ, suc, ◌≤◌, max, List, [], Option, Some, sym, ap, subst}
use Rattle.std.proofs.Math.Nat.{le-max_left, max-eq_right}
use Rattle.pv_types.specs.declared.declaration.Section.{Section}
use Rattle.pv_types.specs.declared.declaration.Literal.{Literal}
use Rattle.pv_types.specs.Tree.{TypeTree, plain, array, structure, named, unread, var, VarTrees, no_vars, _then_}
use Rattle.pv_tree.specs.Lexemes.{Lexeme, first_place, IsOne}
use Rattle.pv_tree.specs.Declarations.{SpellsType, SpellsVars, Shares}
use Rattle.pv_tree.specs.Nesting.{Part}
use Rattle.pv_tree.specs.Depth.{levels_of_type, levels_of_vars, parts_of_either, parts_of_type, parts_of_vars}
use Rattle.pv_tree.specs.Order.{Along, done}
use Rattle.pv_tree.proofs.Firsts.{first-joined, first-one, first-name}
use Rattle.pv_tree.proofs.Orders.{along_joined, along_second, along_first, along_from}
use Rattle.pv_tree.proofs.Levels.{Agrees, agrees_none, agrees_both, agrees_part}

along-either : {A B : Type 0} (ts : List Lexeme) (x : A ⊎ B) (f : A → List Part) (g : B → List Part) → ((a : A) → Along ts (f a))
    → ((b : B) → Along ts (g b))
    → Along ts (parts_of_either x f g)
along-either ts (inl a) f g p q = p a
along-either ts (inr b) f g p q = q b

agrees-either : {A B : Type 0} (n count : ℕ) (x : A ⊎ B) (f : A → List Part) (g : B → List Part) → ((a : A) → Agrees (f a) n count)
    → ((b : B) → Agrees (g b) n count)
    → Agrees (parts_of_either x f g) n count
agrees-either n count (inl a) f g p q = p a
agrees-either n count (inr b) f g p q = q b

-- ---- levels

-- a type that is shared has no more levels than the variables that share it
shared_le : (ty : TypeTree) (start : Option Literal) (others : VarTrees) → Shares ty start others
    → levels_of_type ty ≤ levels_of_vars others
shared_le ty start no_vars s = absurd s
shared_le ty start (_then_ (var name section other its place) more) s =
    subst (λ t. levels_of_type t ≤ max (levels_of_type other) (levels_of_vars more)) s.0
    (le-max_left (levels_of_type other) (levels_of_vars more))

mutual
  pub agrees-type : (n : ℕ) (around : Section) (ty : TypeTree) (ts : List Lexeme) (d : SpellsType around ty ts)
      → Agrees (parts_of_type n around ty ts d) n (levels_of_type ty)
  agrees-type n around (plain simple) ts d = agrees_part n 0 d.token.place [] (agrees_none (suc n))
  agrees-type n around unread ts d = agrees_part n 0 d.token.place [] (agrees_none (suc n))
  agrees-type n around (named name place) ts d = agrees_part n 0 place [] (agrees_none (suc n))
  agrees-type n around (array low high of place) ts d =
      agrees_part n (levels_of_type of) place _
      (agrees-type (suc n) around of d.behind.behind.behind.behind.behind.behind.back d.behind.behind.behind.behind.behind.behind.behind)
  agrees-type n around (structure inner) ts d =
      agrees_part n (levels_of_vars inner) d.in_front.token.place _ (agrees-vars (suc n) around inner d.behind.front d.behind.in_front)

  pub agrees-vars : (n : ℕ) (around : Section) (vars : VarTrees) (ts : List Lexeme) (d : SpellsVars around vars ts)
      → Agrees (parts_of_vars n around vars ts d) n (levels_of_vars vars)
  agrees-vars n around no_vars ts d = agrees_none n
  agrees-vars n around (_then_ (var name its ty start place) others) ts d =
      agrees-either n (max (levels_of_type ty) (levels_of_vars others)) d.1.behind _ _
      (λ own. agrees_both n (levels_of_type ty) (levels_of_vars others)
      (parts_of_type n around ty own.behind.front own.behind.in_front)
      (parts_of_vars n around others own.behind.behind.behind.back own.behind.behind.behind.behind)
      (agrees-type n around ty own.behind.front own.behind.in_front)
      (agrees-vars n around others own.behind.behind.behind.back own.behind.behind.behind.behind))
      (λ shared. subst (λ c. Agrees (parts_of_vars n around others shared.1.back shared.1.behind) n c)
      (sym (max-eq_right (shared_le ty start others shared.0)))
      (agrees-vars n around others shared.1.back shared.1.behind))

-- ---- order

first-token : {P : Lexeme → Type 0} (ts : List Lexeme) (d : IsOne P ts) → first_place ts ≡ Some d.token.place
first-token ts d = ap first_place d.alone

mutual
  pub along-type : (n : ℕ) (around : Section) (ty : TypeTree) (ts : List Lexeme) (d : SpellsType around ty ts) → Along ts
      (parts_of_type n around ty ts d)
  along-type n around (plain simple) ts d = along_from n d.token.place ts [] (first-token ts d) (done ts)
  along-type n around unread ts d = along_from n d.token.place ts [] (first-token ts d) (done ts)
  along-type n around (named name place) ts d = along_from n place ts [] (first-name name place ts d) (done ts)
  along-type n around (array low high of place) ts d =
      let e = d.behind.behind.behind.behind.behind.behind in
      along_from n place ts _ (first-joined place ts d (first-one place d.front d.in_front))
      (along_second ts d _ (along_second d.back d.behind _ (along_second d.behind.back d.behind.behind _
      (along_second d.behind.behind.back d.behind.behind.behind _ (along_second d.behind.behind.behind.back d.behind.behind.behind.behind _
      (along_second d.behind.behind.behind.behind.back d.behind.behind.behind.behind.behind _
      (along_second d.behind.behind.behind.behind.behind.back e _ (along-type (suc n) around of e.back e.behind))))))))
  along-type n around (structure inner) ts d =
      along_from n d.in_front.token.place ts _ (first-joined d.in_front.token.place ts d (first-token d.front d.in_front))
      (along_second ts d _ (along_first d.back d.behind _ (along-vars (suc n) around inner d.behind.front d.behind.in_front)))

  pub along-vars : (n : ℕ) (around : Section) (vars : VarTrees) (ts : List Lexeme) (d : SpellsVars around vars ts) → Along ts
      (parts_of_vars n around vars ts d)
  along-vars n around no_vars ts d = done ts
  along-vars n around (_then_ (var name its ty start place) others) ts d =
      along_second ts d.1 _ (along-either d.1.back d.1.behind _ _
      (λ own. along_second d.1.back own _ (along_joined own.back own.behind
      (parts_of_type n around ty own.behind.front own.behind.in_front)
      (parts_of_vars n around others own.behind.behind.behind.back own.behind.behind.behind.behind)
      (along-type n around ty own.behind.front own.behind.in_front)
      (along_second own.behind.back own.behind.behind _ (along_second own.behind.behind.back own.behind.behind.behind _
      (along-vars n around others own.behind.behind.behind.back own.behind.behind.behind.behind)))))
      (λ shared. along_second d.1.back shared.1 _ (along-vars n around others shared.1.back shared.1.behind)))
