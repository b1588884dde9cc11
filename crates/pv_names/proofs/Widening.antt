-- The widest type from the last part on is the one to which all widen.
use Rattle.std.proofs.Common.{◌≡◌, ℕ, ◌<◌, ◌+◌, suc, refl, sym, ap, ◌∙◌, List, [], ◌∷◌, Option, Some, None, Bool, true, false, map, drop, get_or, length, true≢false, ◌||◌, if◌then◌else◌, arith}
use Rattle.std.proofs.Math.Seq.{drop-cons}
use Rattle.std.specs.Prelude.{filter_map, option_and_then}
use Rattle.std.specs.List.{list_any, cons_option}
use Rattle.pv_word.specs.declared.types.Ty.{Ty}
use Rattle.pv_tree.specs.LiteralTypes as literals
use Rattle.pv_tree.specs.Sorts as sorts
use Rattle.pv_tree.specs.Sorts.{Sort, untyped, typed, one, whole, broken, own_type, wider, widest_from}
use Rattle.pv_names.specs.Sorts.{sort_tree, want_tree}
use Rattle.pv_names.specs.Widest.{of_or_clash, widest_step, step_where, type_in, gathered, widest_type}
use Rattle.pv_names.specs.declared.sort.Sort as code
use Rattle.pv_names.specs.declared.sort.Want.{Want}
use Rattle.pv_names.specs.declared.operator.Widest.{Widest}
use Rattle.pv_names.specs.declared.operator.Widest.TheVariants.{Empty}

-- what types come to
abbrev state_of : List Ty → Widest
state_of [] = Empty
state_of (t ∷ ts) = of_or_clash (widest_from t ts)

step_of_clash : (t : Ty) (o : Option Ty) → widest_step t (of_or_clash o) ≡ of_or_clash (option_and_then (wider t) o)
step_of_clash t None = refl
step_of_clash t (Some u) = refl

state_step : (t : Ty) (ts : List Ty) → widest_step t (state_of ts) ≡ state_of (t ∷ ts)
state_step t [] = refl
state_step t (u ∷ us) = step_of_clash t (widest_from u us)

state_type : (ts : List Ty) → widest_type (state_of ts) ≡ sorts.widest ts
state_type [] = refl
state_type (t ∷ ts) = by (widest_from t ts)
  where
    by : (o : Option Ty) → widest_type (of_or_clash o) ≡ o
    by None = refl
    by (Some u) = refl

stepped : (o : Option Ty) (ts : List Ty) → step_where o (state_of ts) ≡ state_of (cons_option o ts)
stepped None ts = refl
stepped (Some t) ts = state_step t ts

gathered_state : (want : Option Want) (ss : List Sort) → gathered want ss ≡ state_of (filter_map (type_in want) ss)
gathered_state want [] = refl
gathered_state want (s ∷ ss) = ap (step_where (type_in want s)) (gathered_state want ss) ∙ stepped (type_in want s) (filter_map (type_in want) ss)

-- the widest of the types that parts have by themselves
pub widest_own : (ss : List Sort) → widest_type (gathered None ss) ≡ sorts.widest (filter_map own_type ss)
widest_own ss = ap widest_type (gathered_state None ss) ∙ state_type (filter_map own_type ss)

abbrev is_told : Sort → Bool
is_told s = sorts.is_whole s || sorts.is_broken s

-- the common type, where each has one
told_type : (w : literals.Want) (s : Sort) (o : Option (List Ty)) → is_told s ≡ false
    → option_and_then (λ ty. option_and_then (λ tys. Some (ty ∷ tys)) o) (own_type (sorts.taken w s))
    ≡ option_and_then (λ tys. Some (cons_option (own_type (sorts.taken w s)) tys)) o
told_type w (untyped v) o e = refl
told_type w (typed ty v) o e = refl
told_type w (one ty) o e = refl
told_type w whole o e = absurd (true≢false e)
told_type w broken o e = absurd (true≢false e)

untold_type : (w : literals.Want) (s : Sort) → is_told s ≡ true → own_type (sorts.taken w s) ≡ None
untold_type w (untyped v) e = absurd (true≢false (sym e))
untold_type w (typed ty v) e = absurd (true≢false (sym e))
untold_type w (one ty) e = absurd (true≢false (sym e))
untold_type w whole e = refl
untold_type w broken e = refl

all_typed : (w : literals.Want) (ss : List Sort) → list_any is_told ss ≡ false
    → sorts.types_of_sorts (map (sorts.taken w) ss) ≡ Some (filter_map (λ s. own_type (sorts.taken w s)) ss)
all_typed w [] e = refl
all_typed w (s ∷ ss) e = by (is_told s) refl e (all_typed w ss)
  where
    by : (b : Bool) → is_told s ≡ b → (b || list_any is_told ss) ≡ false
        → (list_any is_told ss ≡ false → sorts.types_of_sorts (map (sorts.taken w) ss) ≡ Some (filter_map (λ s. own_type (sorts.taken w s)) ss))
        → sorts.types_of_sorts (sorts.taken w s ∷ map (sorts.taken w) ss)
        ≡ Some (cons_option (own_type (sorts.taken w s)) (filter_map (λ s. own_type (sorts.taken w s)) ss))
    by true t e ih = absurd (true≢false e)
    by false t e ih =
        told_type w s (sorts.types_of_sorts (map (sorts.taken w) ss)) t
        ∙ ap (option_and_then (λ tys. Some (cons_option (own_type (sorts.taken w s)) tys))) (ih e)

none_typed : (w : literals.Want) (ss : List Sort) → list_any is_told ss ≡ true → sorts.types_of_sorts (map (sorts.taken w) ss) ≡ None
none_typed w [] e = absurd (true≢false (sym e))
none_typed w (s ∷ ss) e = by (is_told s) refl e (none_typed w ss)
  where
    rest : Option Ty → Option (List Ty) → Option (List Ty)
    rest t o = option_and_then (λ ty. option_and_then (λ tys. Some (ty ∷ tys)) o) t

    nothing_behind : (t : Option Ty) → rest t None ≡ None
    nothing_behind None = refl
    nothing_behind (Some u) = refl

    by : (b : Bool) → is_told s ≡ b → (b || list_any is_told ss) ≡ true
        → (list_any is_told ss ≡ true → sorts.types_of_sorts (map (sorts.taken w) ss) ≡ None)
        → option_and_then (λ ty. option_and_then (λ tys. Some (ty ∷ tys)) (sorts.types_of_sorts (map (sorts.taken w) ss)))
        (own_type (sorts.taken w s)) ≡ None
    by true t e ih = ap (option_and_then (λ ty. option_and_then (λ tys. Some (ty ∷ tys)) (sorts.types_of_sorts (map (sorts.taken w) ss))))
        (untold_type w s t)
    by false t e ih = ap (λ o. option_and_then (λ ty. option_and_then (λ tys. Some (ty ∷ tys)) o) (own_type (sorts.taken w s))) (ih e)
        ∙ nothing_behind (own_type (sorts.taken w s))

pub common_none : (w : Want) (ss : List Sort) → list_any is_told ss ≡ true → None ≡ sorts.common_type (map (sorts.taken (want_tree w)) ss)
common_none w ss e = sym (ap (option_and_then sorts.widest) (none_typed (want_tree w) ss e))

pub common_some : (w : Want) (ss : List Sort) → list_any is_told ss ≡ false
    → widest_type (gathered (Some w) ss) ≡ sorts.common_type (map (sorts.taken (want_tree w)) ss)
common_some w ss e =
    ap widest_type (gathered_state (Some w) ss) ∙ state_type (filter_map (type_in (Some w)) ss)
    ∙ sym (ap (option_and_then sorts.widest) (all_typed (want_tree w) ss e))

-- ---- the loops

-- a part more in front
pub one_earlier : (want : Option Want) (xs : List code.Sort) (i j : ℕ) (x : code.Sort) → j < length xs → x ≡ get_or xs j x → i ≡ j + 1
    → gathered want (map sort_tree (drop j xs)) ≡ step_where (type_in want (sort_tree x)) (gathered want (map sort_tree (drop i xs)))
one_earlier want xs i j x inside is e =
    let next : i ≡ suc j = omega (arith, e) in
    ap (λ l. gathered want (map sort_tree l)) (drop-cons xs j x inside ∙ ap (λ y. y ∷ drop (suc j) xs) (sym is))
    ∙ ap (λ n. step_where (type_in want (sort_tree x)) (gathered want (map sort_tree (drop n xs)))) (sym next)

pub beside_told : (ss : List Sort) (o : Option Ty) → list_any is_told ss ≡ false → o ≡ widest_type (gathered None ss)
    → sorts.want_where o ≡ sorts.wanted_beside ss
beside_told ss o told is =
    ap sorts.want_where (is ∙ widest_own ss)
    ∙ sym (ap (λ b. if b then literals.unsure else sorts.want_where (sorts.widest (filter_map own_type ss))) told)
