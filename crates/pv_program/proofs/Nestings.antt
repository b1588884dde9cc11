-- Open nestings: what the rules say of them, and that code opens and closes as its words do.
use Rattle.std.proofs.Common.{◌≡◌, ◌⊎◌, inl, inr, ℕ, zero, suc, ◌-◌, ◌<◌, ◌≤◌, List, [], ◌∷◌, ◌++◌, length, take, drop, Bool, true, false, Some, refl, sym, ap, subst, ◌∙◌, arith}
use Rattle.std.specs.Prelude.{slice_get, fold, nat_lt, ◌||◌, is_some}
use Rattle.std.proofs.lemmas.Bool.{true≢false, ltb-true, ltb-false}
use Rattle.std.proofs.lemmas.Option.{none-some, same_Some}
use Rattle.pv_place.specs.declared.place.Place.{Place}
use Rattle.pv_tree.specs.Tree.{InstrTree}
use Rattle.pv_tree.specs.InstructionGroups.{Group, bit_read, bit_written, load, transfer, word_logic, double_logic, word_shift, double_shift, no_operation, display, jump, opening, closing, block_end, calling, alone, group_of, first_place_of}
use Rattle.pv_tree.specs.Rules.OpenNestings.{closed, open_behind, open_after, is_kept_outside, NestsWrong}
use Rattle.pv_stl_run.specs.declared.instr.Change.{Change}
use Rattle.pv_stl_run.specs.declared.instr.Change.TheVariants as change
use Rattle.pv_stl_run.specs.declared.instr.Action.{Action}
use Rattle.pv_stl_run.specs.declared.instr.Action.TheVariants as action
use Rattle.pv_stl_run.specs.Code.{opened_by, opened, MayOpen, MayDo}
use Rattle.pv_program.specs.Bodies.{Outside}
use Rattle.pv_program.specs.Ready.{is_nesting, MayStand, ChangeSuits, Suits, IsOpenAt}

-- ---- lists

pub split_at : {X : Type 0} (xs : List X) (k : ℕ) (x : X) → slice_get xs k ≡ Some x → xs ≡ take k xs ++ x ∷ drop (suc k) xs
split_at [] k x e = absurd (none-some x e)
split_at (y ∷ ys) zero x e = ap (λ z. z ∷ ys) (same_Some y x e)
split_at (y ∷ ys) (suc k) x e = ap (λ l. y ∷ l) (split_at ys k x e)

open_from : (pending : List Place) (all : List InstrTree) (k : ℕ) (i : InstrTree) → slice_get all k ≡ Some i
    → fold (λ p x. open_behind p (group_of x.op) x.place) pending (take (suc k) all)
    ≡ open_behind (fold (λ p x. open_behind p (group_of x.op) x.place) pending (take k all)) (group_of i.op) i.place
open_from pending [] k i e = absurd (none-some i e)
open_from pending (x ∷ xs) zero i e = ap (λ (y : InstrTree). open_behind pending (group_of y.op) y.place) (same_Some x i e)
open_from pending (x ∷ xs) (suc k) i e = open_from (open_behind pending (group_of x.op) x.place) xs k i e

-- those open behind an instruction
open_next : (all : List InstrTree) (k : ℕ) (i : InstrTree) → slice_get all k ≡ Some i
    → open_after (take (suc k) all) ≡ open_behind (open_after (take k all)) (group_of i.op) i.place
open_next all k i e = open_from [] all k i e

-- ---- the rules

less_or : (n m : ℕ) → (n < m) ⊎ (m ≤ n)
less_or n m = lead (nat_lt n m) refl
  where
    lead : (b : Bool) → nat_lt n m ≡ b → (n < m) ⊎ (m ≤ n)
    lead true e = inl (ltb-true n m e)
    lead false e = inr (ltb-false n m e)

none_nil : (p : Place) (ps : List Place) → p ∷ ps ≡ [] → ⊥
none_nil p ps e = let n = ap length e in omega (arith, n)

may_stand : (all : List InstrTree) → ((at : Place) → NestsWrong all at → ⊥) → (k : ℕ) (i : InstrTree) → slice_get all k ≡ Some i
    → (g : Group) → group_of i.op ≡ g → MayStand g (length (open_after (take k all)))
may_stand all right k i at opening e =
    elim (less_or (length (open_after (take k all))) 7) [
      | inl lt ↦ lt
      | inr ge ↦ absurd (right i.place (record {
        front = take k all;
        instruction = i;
        back = drop (suc k) all;
        split = split_at all k i at;
        is_wrong = inl (refl, e, ge);
      }))
    ]
may_stand all right k i at jump e = lead (open_after (take k all)) refl
  where
    lead : (pending : List Place) → open_after (take k all) ≡ pending → length pending ≡ 0
    lead [] same = refl
    lead (p ∷ ps) same = absurd (right (first_place_of i) (record {
      front = take k all;
      instruction = i;
      back = drop (suc k) all;
      split = split_at all k i at;
      is_wrong = inr (inr (
        refl,
        ap (λ g. is_kept_outside g || is_some i.label) e,
        (λ none. none_nil p ps (sym same ∙ none)),
      ));
    }))
may_stand all right k i at closing e = tt
may_stand all right k i at bit_read e = tt
may_stand all right k i at bit_written e = tt
may_stand all right k i at load e = tt
may_stand all right k i at transfer e = tt
may_stand all right k i at word_logic e = tt
may_stand all right k i at double_logic e = tt
may_stand all right k i at word_shift e = tt
may_stand all right k i at double_shift e = tt
may_stand all right k i at no_operation e = tt
may_stand all right k i at display e = tt
may_stand all right k i at block_end e = tt
may_stand all right k i at calling e = tt
may_stand all right k i at alone e = tt

pub stands : (all : List InstrTree) → ((at : Place) → NestsWrong all at → ⊥) → (k : ℕ) (i : InstrTree) → slice_get all k ≡ Some i
    → MayStand (group_of i.op) (length (open_after (take k all)))
stands all right k i at = may_stand all right k i at (group_of i.op) refl

-- ---- code

-- an action of a word that may stand there may be done
change_may : (c : Change) (g : Group) (n : ℕ) → ChangeSuits c g → MayStand g n → MayOpen c n
change_may change.Nothing g n s m = tt
change_may change.KeepOr g n s m = tt
change_may (change.Open j) g n s m = subst (λ x. MayStand x n) s m
change_may change.Close g n s m = tt
change_may change.Negate g n s m = tt
change_may (change.Put b) g n s m = tt
change_may (change.Load v) g n s m = tt
change_may (change.Calculate x) g n s m = tt
change_may (change.Compare x p) g n s m = tt
change_may (change.Combine x p v) g n s m = tt
change_may (change.Shift x p v) g n s m = tt
change_may change.Extend g n s m = tt
change_may change.Swap g n s m = tt
change_may change.Push g n s m = tt
change_may change.Pop g n s m = tt

pub may_do : (d : Action) (g : Group) (n : ℕ) → Suits d g → MayStand g n → MayDo d n × Outside d n
may_do (action.Change c) g n s m = (change_may c g n s m, tt)
may_do (action.Join j t) g n s m = (tt, tt)
may_do (action.Write w t) g n s m = (tt, tt)
may_do (action.Edge rising t) g n s m = (tt, tt)
may_do (action.Load ty t) g n s m = (tt, tt)
may_do (action.Transfer ty t) g n s m = (tt, tt)
may_do (action.Jump w goal) g n s m = (tt, subst (λ x. MayStand x n) s m)
may_do action.End g n s m = (tt, tt)
may_do action.EndWhere g n s m = (tt, tt)
may_do (action.Call t) g n s m = (tt, tt)

-- what neither opens nor closes leaves those open that are
stays : (g : Group) (pending : List Place) (place : Place) → is_nesting g ≡ false → open_behind pending g place ≡ pending
stays opening pending place e = absurd (true≢false e)
stays closing pending place e = absurd (true≢false e)
stays jump pending place e = refl
stays bit_read pending place e = refl
stays bit_written pending place e = refl
stays load pending place e = refl
stays transfer pending place e = refl
stays word_logic pending place e = refl
stays double_logic pending place e = refl
stays word_shift pending place e = refl
stays double_shift pending place e = refl
stays no_operation pending place e = refl
stays display pending place e = refl
stays block_end pending place e = refl
stays calling pending place e = refl
stays alone pending place e = refl

closed_fewer : (pending : List Place) → length pending - 1 ≡ length (closed pending)
closed_fewer [] = refl
closed_fewer (p ∷ ps) = omega arith

same_open : (g : Group) (pending : List Place) (place : Place) → is_nesting g ≡ false → length pending ≡ length (open_behind pending g place)
same_open g pending place e = ap length (sym (stays g pending place e))

change_opens : (c : Change) (g : Group) (pending : List Place) (place : Place) → ChangeSuits c g
    → opened_by c (length pending) ≡ length (open_behind pending g place)
change_opens change.Nothing g pending place s = same_open g pending place s
change_opens change.KeepOr g pending place s = same_open g pending place s
change_opens (change.Open j) g pending place s = ap (λ x. length (open_behind pending x place)) (sym s)
change_opens change.Close g pending place s = closed_fewer pending ∙ ap (λ x. length (open_behind pending x place)) (sym s)
change_opens change.Negate g pending place s = same_open g pending place s
change_opens (change.Put b) g pending place s = same_open g pending place s
change_opens (change.Load v) g pending place s = same_open g pending place s
change_opens (change.Calculate x) g pending place s = same_open g pending place s
change_opens (change.Compare x p) g pending place s = same_open g pending place s
change_opens (change.Combine x p v) g pending place s = same_open g pending place s
change_opens (change.Shift x p v) g pending place s = same_open g pending place s
change_opens change.Extend g pending place s = same_open g pending place s
change_opens change.Swap g pending place s = same_open g pending place s
change_opens change.Push g pending place s = same_open g pending place s
change_opens change.Pop g pending place s = same_open g pending place s

action_opens : (d : Action) (g : Group) (pending : List Place) (place : Place) → Suits d g
    → opened d (length pending) ≡ length (open_behind pending g place)
action_opens (action.Change c) g pending place s = change_opens c g pending place s
action_opens (action.Join j t) g pending place s = same_open g pending place s
action_opens (action.Write w t) g pending place s = same_open g pending place s
action_opens (action.Edge rising t) g pending place s = same_open g pending place s
action_opens (action.Load ty t) g pending place s = same_open g pending place s
action_opens (action.Transfer ty t) g pending place s = same_open g pending place s
action_opens (action.Jump w goal) g pending place s = ap (λ x. length (open_behind pending x place)) (sym s)
action_opens action.End g pending place s = same_open g pending place s
action_opens action.EndWhere g pending place s = same_open g pending place s
action_opens (action.Call t) g pending place s = same_open g pending place s

-- so many are open behind the code of an instruction
pub opens_as : (d : Action) (all : List InstrTree) (k depth n m : ℕ) (i : InstrTree) → slice_get all k ≡ Some i → Suits d (group_of i.op)
    → n ≡ opened d depth → m ≡ suc k → IsOpenAt all k depth → IsOpenAt all m n
opens_as d all k depth n m i at s is next same =
    is ∙ ap (opened d) same ∙ action_opens d (group_of i.op) (open_after (take k all)) i.place s ∙ ap length (sym (open_next all k i at))
    ∙ ap (λ j. length (open_after (take j all))) (sym next)

pub none_open : (all : List InstrTree) → IsOpenAt all 0 0
none_open [] = refl
none_open (i ∷ more) = refl
