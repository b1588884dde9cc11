-- What the types of parts say of one another: an operator's operands widen to the type at which they meet.
use Rattle.std.proofs.Common.{◌≡◌, ℤ, List, [], ◌∷◌, Bool as Truth, true, false, cond, Option, Some, None, IsTrue, refl, sym, ap, subst, ◌∙◌}
use Rattle.std.specs.Prelude.{⊤, option_and_then, unwrap_or, is_some}
use Rattle.std.specs.List.{AllByRecursion}
use Rattle.std.proofs.lemmas.Bool.{false≢true}
use Rattle.std.proofs.lemmas.Option.{none-some, same_Some}
use Rattle.pv_word.specs.declared.types.Ty.{Ty}
use Rattle.pv_word.specs.declared.types.Ty.TheVariants.{Dint}
use Rattle.pv_word.specs.Types.{InRange}
use Rattle.pv_tree.specs.LiteralTypes.{Want}
use Rattle.pv_tree.specs.Sorts.{Sort, own_type, one_of, taken, widens, wider, widest_from, widest, types_of_sorts, common_type, type_where}
use Rattle.pv_laws_types.proofs.ForCallers.{widens_lies}

-- the values of one type lie in the other
abbrev pub LieIn : Ty → Ty → Type 0
LieIn from to = (v : ℤ) → InRange from v → InRange to v

wider_within : (a b c : Ty) → wider a b ≡ Some c → LieIn a c × LieIn b c
wider_within a b c e = lead (widens a b) refl (widens b a) refl e
  where
    lead : (x : Truth) → widens a b ≡ x → (y : Truth) → widens b a ≡ y → cond x (Some b) (cond y (Some a) None) ≡ Some c → LieIn a c × LieIn b c
    lead true p y q f = subst (λ t. LieIn a t × LieIn b t) (same_Some b c f) (widens_lies a b p, λ v h. h)
    lead false p true q f = subst (λ t. LieIn a t × LieIn b t) (same_Some a c f) (λ v h. h, widens_lies b a q)
    lead false p false q f = absurd (none-some c f)

wider_all : (b c : Ty) → LieIn b c → (types : List Ty) → AllByRecursion (λ t. LieIn t b) types → AllByRecursion (λ t. LieIn t c) types
wider_all b c w [] a = tt
wider_all b c w (t ∷ ts) a = (λ v h. w v (a.0 v h), wider_all b c w ts a.1)

widest_all : (t : Ty) (types : List Ty) (c : Ty) → widest_from t types ≡ Some c → AllByRecursion (λ x. LieIn x c) (t ∷ types)
widest_all t [] c e = (subst (LieIn t) (same_Some t c e) (λ v h. h), tt)
widest_all t (next ∷ more) c e = lead (λ b is. widest_all next more b is) (widest_from next more) refl e
  where
    lead : ((b : Ty) → widest_from next more ≡ Some b → AllByRecursion (λ x. LieIn x b) (next ∷ more)) → (o : Option Ty)
        → widest_from next more ≡ o → option_and_then (wider t) o ≡ Some c → AllByRecursion (λ x. LieIn x c) (t ∷ next ∷ more)
    lead below None is f = absurd (none-some c f)
    lead below (Some b) is f =
        let w = wider_within t b c f in (w.0, wider_all b c w.1 (next ∷ more) (below b is))

-- sorts with these types
abbrev pub HaveTypes : List Sort → List Ty → Type 0
HaveTypes [] [] = ⊤
HaveTypes [] (t ∷ ts) = ⊥
HaveTypes (s ∷ ss) [] = ⊥
HaveTypes (s ∷ ss) (t ∷ ts) = (own_type s ≡ Some t) × HaveTypes ss ts

types_told : (ss : List Sort) (ts : List Ty) → HaveTypes ss ts → types_of_sorts ss ≡ Some ts
types_told [] [] h = refl
types_told [] (t ∷ ts) h = absurd h
types_told (s ∷ ss) [] h = absurd h
types_told (s ∷ ss) (t ∷ ts) h =
    ap (λ o. option_and_then (λ ty. option_and_then (λ tys. Some (ty ∷ tys)) (types_of_sorts ss)) o) h.0
    ∙ ap (λ o. option_and_then (λ tys. Some (t ∷ tys)) o) (types_told ss ts h.1)

-- each lies in the common one
pub common_all : (ss : List Sort) (ts : List Ty) (c : Ty) → HaveTypes ss ts → common_type ss ≡ Some c → AllByRecursion (λ t. LieIn t c) ts
common_all ss ts c h e = by ts (ap (option_and_then widest) (sym (types_told ss ts h)) ∙ e)
  where
    by : (xs : List Ty) → widest xs ≡ Some c → AllByRecursion (λ t. LieIn t c) xs
    by [] f = absurd (none-some c f)
    by (t ∷ more) f = widest_all t more c f

-- the common type of one is its own
pub common_alone : (s : Sort) → common_type (s ∷ []) ≡ own_type s
common_alone s = lead (own_type s)
  where
    lead : (o : Option Ty)
        → option_and_then widest (option_and_then (λ ty. option_and_then (λ tys. Some (ty ∷ tys)) (Some [])) o) ≡ o
    lead None = refl
    lead (Some t) = refl

-- ---- results

pub one_told : (want : Want) (o : Option Ty) (ty : Ty) → own_type (taken want (one_of o)) ≡ Some ty → o ≡ Some ty
one_told want None ty e = absurd (none-some ty e)
one_told want (Some t) ty e = e

pub own_told : (o : Option Ty) (ty : Ty) → o ≡ Some ty → own_type (one_of o) ≡ Some ty
own_told o ty e = ap (λ x. own_type (one_of x)) e

where_told : (test : Ty → Truth) (t ty : Ty) → type_where test t ≡ Some ty → t ≡ ty
where_told test t ty e = lead (test t) e
  where
    lead : (b : Truth) → cond b (Some t) None ≡ Some ty → t ≡ ty
    lead true f = same_Some t ty f
    lead false f = absurd (none-some ty f)

-- the common type is that of the result, where the operator gives its operands' type
pub common_told : (test : Ty → Truth) (o : Option Ty) (ty : Ty) → option_and_then (type_where test) o ≡ Some ty → o ≡ Some ty
common_told test None ty e = absurd (none-some ty e)
common_told test (Some t) ty e = ap Some (where_told test t ty e)

-- operands meet at a type where there is a result
pub met_told : (f : Ty → Option Ty) (o : Option Ty) (ty : Ty) → option_and_then f o ≡ Some ty → o ≡ Some (unwrap_or o Dint)
met_told f None ty e = absurd (none-some ty e)
met_told f (Some t) ty e = refl

pub some_told : (o : Option Ty) → IsTrue (is_some o) → o ≡ Some (unwrap_or o Dint)
some_told None h = absurd (false≢true h)
some_told (Some t) h = refl

pub unwrapped : (o : Option Ty) (ty : Ty) → o ≡ Some ty → unwrap_or o Dint ≡ ty
unwrapped o ty e = ap (λ x. unwrap_or x Dint) e
