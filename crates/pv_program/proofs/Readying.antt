-- By the rules the instructions of a block are ready, where tokens spell them and calls lead to the block.
use Rattle.std.proofs.Common.{◌≡◌, inl, inr, ℕ, zero, suc, ◌<◌, List, [], ◌∷◌, ◌++◌, map, take, Bool, true, false, Option, Some, None, Contains, refl, sym, ap, subst, ◌∙◌, arith}
use Rattle.std.specs.Prelude.{slice_get, not, is_some, option_to_list, option_and_then, if◌then◌else◌}
use Rattle.std.specs.List.{AllByRecursion, cons_option}
use Rattle.std.proofs.lemmas.Bool.{false≢true}
use Rattle.std.proofs.lemmas.Option.{none-some, same_Some}
use Rattle.std.proofs.lemmas.Slice.Eq.{bytes_eq-Decides}
use Rattle.pv_place.specs.declared.place.Place.{Place}
use Rattle.pv_tree.specs.Tree.{PlacedName, OperandTree, CallPlain, InstrTree, BlockTree, stl}
use Rattle.pv_tree.specs.Scopes.{Scope}
use Rattle.pv_tree.specs.Things.{place_of_operand}
use Rattle.pv_tree.specs.Lexemes.{Lexeme}
use Rattle.pv_tree.specs.Instructions.{sort_of, shape_of, SpellsInstr}
use Rattle.pv_tree.specs.InstructionGroups.{jump, group_of, is_jump, label_of_operand, label_of_jump, operand_of_instruction}
use Rattle.pv_tree.specs.Interfaces.{IsLater}
use Rattle.pv_tree.specs.Parts.{how_of, site, instructions_of}
use Rattle.pv_tree.specs.Rules.{KeepsRules, wrong_label, wrong_nesting, refused_operand}
use Rattle.pv_tree.specs.Rules.Behind.{takes_literal, refuses_operand}
use Rattle.pv_tree.specs.Rules.Jumps.{labels_of}
use Rattle.pv_tree.specs.Rules.OpenNestings.{NestsWrong}
use Rattle.pv_mean.specs.Sources.{Source}
use Rattle.pv_mean.specs.InstructionRuns.{is_named}
use Rattle.pv_resolve.specs.Rooms.{FitsOperand}
use Rattle.pv_laws_room.specs.Bodies.{FitsOption, FitsInstr}
use Rattle.pv_program.specs.Labels.{IsUnmet}
use Rattle.pv_program.specs.Led.{RunsLed}
use Rattle.pv_program.specs.Ready.{AreReady}
use Rattle.pv_program.proofs.Nestings.{stands}
use Rattle.pv_program.proofs.Words.{Has, Takes, instr_has, works_of, label_of_jump_op, calling_of, count_of, jumps_so}

-- ---- lists

pub contains_got : {X : Type 0} (xs : List X) (j : ℕ) (x : X) → slice_get xs j ≡ Some x → Contains xs x
contains_got [] j x g = absurd (none-some x g)
contains_got (y ∷ ys) zero x g = (0, omega arith, same_Some y x g)
contains_got (y ∷ ys) (suc j) x g = let c = contains_got ys j x g in (suc c.0, (let l = c.1 in omega (arith, l)), c.2)

all_at : {X : Type 0} (P : X → Type 0) (xs : List X) (k : ℕ) (x : X) → AllByRecursion P xs → slice_get xs k ≡ Some x → P x
all_at P [] k x all e = absurd (none-some x e)
all_at P (y ∷ ys) zero x all e = subst P (same_Some y x e) all.0
all_at P (y ∷ ys) (suc k) x all e = all_at P ys k x all.1 e

taken_at : {X : Type 0} (xs : List X) (k n : ℕ) (x : X) → slice_get (take k xs) n ≡ Some x → (n < k) × (slice_get xs n ≡ Some x)
taken_at [] zero n x e = absurd (none-some x e)
taken_at [] (suc k) n x e = absurd (none-some x e)
taken_at (y ∷ ys) zero n x e = absurd (none-some x e)
taken_at (y ∷ ys) (suc k) zero x e = (omega arith, e)
taken_at (y ∷ ys) (suc k) (suc n) x e = let w = taken_at ys k n x e in ((let l = w.0 in omega (arith, l)), w.1)

-- ---- labels

label_split : (all : List InstrTree) (k : ℕ) (i : InstrTree) (l : PlacedName) → slice_get all k ≡ Some i → i.label ≡ Some l
    → (front : List PlacedName) × (back : List PlacedName) × (labels_of all ≡ front ++ l ∷ back)
label_split [] k i l g e = absurd (none-some i g)
label_split (x ∷ more) zero i l g e = ([], labels_of more, lead x.label (ap (λ y. y.label) (same_Some x i g) ∙ e))
  where
    lead : (o : Option PlacedName) → o ≡ Some l
        → cons_option o (labels_of more) ≡ l ∷ labels_of more
    lead None f = absurd (none-some l f)
    lead (Some y) f = ap (λ z. z ∷ labels_of more) (same_Some y l f)
label_split (x ∷ more) (suc k) i l g e = lead x.label (label_split more k i l g e)
  where
    lead : (o : Option PlacedName) → (front : List PlacedName) × (back : List PlacedName) × (labels_of more ≡ front ++ l ∷ back)
        → (front : List PlacedName) × (back : List PlacedName)
        × (cons_option o (labels_of more) ≡ front ++ l ∷ back)
    lead None w = w
    lead (Some y) w = (y ∷ w.0, w.1, ap (λ z. y ∷ z) w.2)

contains_behind : {X : Type 0} (x y : X) (xs : List X) → Contains xs y → Contains (x ∷ xs) y
contains_behind x y xs (k, lt, e) = (suc k, omega (arith, lt), e)

-- a label that stands a second time is doubled there
doubled : (all : List InstrTree) (m k : ℕ) (a b : InstrTree) (l n : PlacedName) → m < k → slice_get all m ≡ Some a
    → a.label ≡ Some l → slice_get all k ≡ Some b → b.label ≡ Some n → l.0.key ≡ n.0.key → IsLater (labels_of all) n.1
doubled [] m k a b l n lt g e h f same = absurd (none-some a g)
doubled (x ∷ more) m zero a b l n lt g e h f same = absurd (omega (arith, lt))
doubled (x ∷ more) zero (suc k) a b l n lt g e h f same =
    lead x.label (ap (λ y. y.label) (same_Some x a g) ∙ e) (label_split more k b n h f)
  where
    lead : (o : Option PlacedName) → o ≡ Some l → (front : List PlacedName) × (back : List PlacedName) × (labels_of more ≡ front ++ n ∷ back)
        → IsLater (cons_option o (labels_of more)) n.1
    lead None i w = absurd (none-some l i)
    lead (Some y) i w = record {
      front = y ∷ w.0;
      later = n;
      back = w.1;
      split = ap (λ z. y ∷ z) w.2;
      is_before = (0, omega arith, ap (λ z. z.0.key) (same_Some y l i) ∙ same);
      is_at = refl;
    }
doubled (x ∷ more) (suc m) (suc k) a b l n lt g e h f same = lead x.label (doubled more m k a b l n (omega (arith, lt)) g e h f same)
  where
    lead : (o : Option PlacedName) → IsLater (labels_of more) n.1
        → IsLater (cons_option o (labels_of more)) n.1
    lead None w = w
    lead (Some y) w = record {
      front = y ∷ w.front;
      later = w.later;
      back = w.back;
      split = ap (λ z. y ∷ z) w.split;
      is_before = contains_behind y.0.key w.later.0.key (map (λ z. z.0.key) w.front) w.is_before;
      is_at = w.is_at;
    }

-- ---- tests

not_so : (b : Bool) → (not b ≡ true → ⊥) → b ≡ true
not_so true h = refl
not_so false h = absurd (h refl)

some_there : {X : Type 0} (o : Option X) → is_some o ≡ true → (x : X) × (o ≡ Some x)
some_there None e = absurd (false≢true e)
some_there (Some x) e = (x, refl)

-- the operand of what isn't a jump
pub variable_fits : (i : InstrTree) (o : OperandTree) → is_jump (group_of i.op) ≡ false → i.operand ≡ Some o → FitsOption (operand_of_instruction i)
    → FitsOperand o
variable_fits i o jumps e h = subst FitsOption (ap (λ b. if b then None else i.operand) jumps ∙ e) h

-- ---- a block

module _ (source : Source) (keeps : KeepsRules source.project) (block : BlockTree) (there : Contains source.project.blocks block)
    (all : List InstrTree) (body : block.body ≡ stl all)
    (spelled : (i : InstrTree) → Contains (instructions_of block.body) i → (tokens : List Lexeme) × SpellsInstr i tokens)
    (led : (i : InstrTree) → Contains all i → (call : CallPlain) → i.call ≡ Some call → RunsLed source block (site (how_of i.op) call))
  where
    abbrev scope_of : Scope
    scope_of = record { project = source.project; block = block }

    of_body : (P : List InstrTree → Type 0) → P all → P (instructions_of block.body)
    of_body P p = subst (λ x. P (instructions_of x)) (sym body) p

    takes : (i : InstrTree) → Contains all i → Takes (group_of i.op) i.literal
    takes i c l e = not_so (takes_literal (group_of i.op) l.ty l.value) (λ bad.
        let d = of_body (λ x. Contains x i) c in
        let mine = subst (λ o. Contains (option_to_list o) l) (sym e) (0, omega arith, refl) in
        keeps refused_operand l.place
        (there.0, block, there.1, there.2, (d.0, i, d.1, d.2, inr (mine.0, l, mine.1, mine.2, (refl, bad)))))

    refuses_none : (i : InstrTree) → Contains all i → (o : OperandTree) → i.operand ≡ Some o → refuses_operand scope_of (group_of i.op) o ≡ true → ⊥
    refuses_none i c o e bad =
        let d = of_body (λ x. Contains x i) c in
        let mine = subst (λ x. Contains (option_to_list x) o) (sym e) (0, omega arith, refl) in
        keeps refused_operand (place_of_operand o)
        (there.0, block, there.1, there.2, (d.0, i, d.1, d.2, inl (mine.0, o, mine.1, mine.2, (refl, bad))))

    has : (i : InstrTree) → Contains all i → Has (shape_of (sort_of i.op)) i.operand i.literal i.call
    has i c = let s = spelled i (of_body (λ x. Contains x i) c) in instr_has i s.0 s.1

    jump_label : (i : InstrTree) → Contains all i → group_of i.op ≡ jump → (o : OperandTree) → i.operand ≡ Some o
        → (l : PlacedName) × (label_of_operand o ≡ Some l)
    jump_label i c g o e =
        some_there (label_of_operand o) (not_so (is_some (label_of_operand o)) (λ bad.
        refuses_none i c o e (ap (λ x. refuses_operand scope_of x o) g ∙ bad)))

    label_there : (i : InstrTree) → Contains all i → is_jump (group_of i.op) ≡ true → (l : PlacedName) × (label_of_jump i ≡ Some l)
    label_there i c j =
        let w = label_of_jump_op i.op i.operand i.literal i.call (has i c) (takes i c) j in
        let l = jump_label i c (jumps_so (group_of i.op) j) w.0 w.1 in (
          l.0,
          ap (λ b. if b then option_and_then label_of_operand i.operand else None) j
              ∙ ap (λ o. option_and_then label_of_operand o) w.1 ∙ l.1,
        )

    unmet_at : (k : ℕ) (i : InstrTree) → slice_get all k ≡ Some i → IsUnmet (take k all) i
    unmet_at k i at n j l before has named = lead j.label refl named
      where
        w : (n < k) × (slice_get all n ≡ Some j)
        w = taken_at all k n j before

        lead : (o : Option PlacedName) → j.label ≡ o → is_named l.0.key o ≡ true → ⊥
        lead None e f = false≢true f
        lead (Some m) e f =
            keeps wrong_label l.1 (
              there.0,
              block,
              there.1,
              there.2,
              inr (of_body (λ x. IsLater (labels_of x) l.1)
                  (doubled all n k j i m l w.0 w.1 e at has (sym ((bytes_eq-Decides l.0.key m.0.key).0 f)))),
            )

    nests_right : (at : Place) → NestsWrong all at → ⊥
    nests_right at wrong =
        keeps wrong_nesting at (there.0, block, there.1, there.2, inl (of_body (λ x. NestsWrong x at) wrong))

    pub instrs_ready : AllByRecursion FitsInstr all → AreReady source block all
    instrs_ready fit = record {
      each = λ k i at.
          let c = contains_got all k i at in
          record {
            fits = all_at FitsInstr all k i fit at;
            count = count_of (group_of i.op) i.literal (takes i c);
            label = label_there i c;
            works = works_of i.op i.operand i.literal i.call (has i c) (takes i c);
            called = λ call e. (calling_of i.op i.operand i.literal i.call (has i c) call e, led i c call e);
          };
      labels = unmet_at;
      nests = stands all nests_right;
    }
