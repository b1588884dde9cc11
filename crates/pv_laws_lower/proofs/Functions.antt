-- What functions come to, by what their arguments come to: each argument as one of the type that the function takes has its value.
use Rattle.std.proofs.Common.{◌≡◌, ◌⊎◌, inl, inr, ℕ, ℤ, pos, List, [], ◌∷◌, map, Bool as Truth, true, false, Some, None, refl, sym, ap, subst, ◌∙◌}
use Rattle.std.specs.Prelude.{option_and_then, unsigned_abs, if◌then◌else◌}
use Rattle.std.specs.List.{AllByRecursion}
use Rattle.std.proofs.lemmas.Bool.{false≢true}
use Rattle.std.proofs.lemmas.Option.{none-some, same_Some}
use Rattle.pv_word.specs.declared.types.Ty.{Ty}
use Rattle.pv_word.specs.declared.types.Ty.TheVariants.{Bool, Byte, Word, Dword, Int, Dint, Time}
use Rattle.pv_word.specs.Types.{InRange, wrap_of, shl_of, shr_of}
use Rattle.pv_word.proofs.ForCallers.{wide, wrap-own}
use Rattle.pv_tree.specs.declared.expr.StdFunction.{StdFunction}
use Rattle.pv_tree.specs.declared.expr.StdFunction.TheVariants.{Convert, Abs, Min, Max, Limit, Sel, Shl, Shr}
use Rattle.pv_tree.specs.LiteralTypes.{is_whole_number}
use Rattle.pv_tree.specs.Sorts.{Sort, own_type, widens, common_type, is_bool, is_count, is_shifted, type_where, result_of_function, choice_result, convert_result, shift_result}
use Rattle.pv_mean.specs.Values.{lesser, greater, is_true, argument, arguments_behind, function_result}
use Rattle.pv_flow.specs.Terms.{Valuation, value_of}
use Rattle.pv_terms.specs.Forms.{Typed, at_type, argument_term, function_term}
use Rattle.pv_terms.specs.Correct.{ConversionsHold, FunctionsHold, argument_values, first_type}
use Rattle.pv_laws_types.proofs.ForCallers.{widens_lies}
use Rattle.pv_laws_lower.proofs.Sorts.{LieIn, HaveTypes, common_all, common_told}

-- ---- arguments

abbrev pub values_of : Valuation → List Typed → List ℤ
values_of w ts = map (λ t. value_of w t.term) ts

abbrev pub types_of_terms : List Typed → List Ty
types_of_terms ts = map (λ t. t.ty) ts

-- each argument has a value of its type, and of another
abbrev pub EachLies : Valuation → List Typed → Type 0
EachLies w ts = AllByRecursion (λ t. InRange t.ty (value_of w t.term)) ts

abbrev pub EachIn : Valuation → Ty → List Typed → Type 0
EachIn w ty ts = AllByRecursion (λ t. InRange t.ty (value_of w t.term) × InRange ty (value_of w t.term)) ts

-- a term as one of a type in which its value lies has its value
pub at_value : ConversionsHold → (w : Valuation) (ty : Ty) (t : Typed) → InRange t.ty (value_of w t.term) → InRange ty (value_of w t.term)
    → value_of w (at_type ty t) ≡ value_of w t.term
at_value hold w ty t a b = hold w t.ty ty t.term a ∙ wrap-own (wide ty) b

pub each_in : (w : Valuation) (ty : Ty) (ts : List Typed) → EachLies w ts → AllByRecursion (λ t. LieIn t ty) (types_of_terms ts) → EachIn w ty ts
each_in w ty [] a l = tt
each_in w ty (t ∷ ts) a l = ((a.0, l.0 (value_of w t.term) a.0), each_in w ty ts a.1 l.1)

module _ (conversions : ConversionsHold) (w : Valuation) where
  first_is : (ty : Ty) (ts : List Typed) → EachIn w ty ts → argument (values_of w ts) ≡ value_of w (argument_term 0 ty ts)
  first_is ty [] a = refl
  first_is ty (t ∷ ts) a = sym (at_value conversions w ty t a.0.0 a.0.1)

  second_is : (ty : Ty) (ts : List Typed) → EachIn w ty ts
      → argument (arguments_behind (values_of w ts)) ≡ value_of w (argument_term 1 ty ts)
  second_is ty [] a = refl
  second_is ty (t ∷ ts) a = first_is ty ts a.1

  third_is : (ty : Ty) (ts : List Typed) → EachIn w ty ts
      → argument (arguments_behind (arguments_behind (values_of w ts))) ≡ value_of w (argument_term 2 ty ts)
  third_is ty [] a = refl
  third_is ty (t ∷ ts) a = second_is ty ts a.1

  first_in : (ty : Ty) (t : Typed) (ts : List Typed) → EachIn w ty (t ∷ ts) → InRange ty (value_of w (argument_term 0 ty (t ∷ ts)))
  first_in ty t ts a = subst (InRange ty) (sym (at_value conversions w ty t a.0.0 a.0.1)) a.0.1

  -- ---- functions

  module _ (functions : FunctionsHold) (count : ℕ) where
    -- the arguments are those that the function takes
    by_values : (f : StdFunction) (ty : Ty) (ts : List Typed) → InRange (first_type f ty) (value_of w (argument_term 0 (first_type f ty) ts))
        → function_result f ty (values_of w ts) ≡ function_result f ty (argument_values f w ty count ts)
        → function_result f ty (values_of w ts) ≡ value_of w (function_term f ty count ts)
    by_values f ty ts first same = same ∙ sym (functions w f ty count ts first)

    common_in : (ss : List Sort) (ts : List Typed) (ty : Ty) → HaveTypes ss (types_of_terms ts) → EachLies w ts → common_type ss ≡ Some ty
        → EachIn w ty ts
    common_in ss ts ty h a e = each_in w ty ts a (common_all ss (types_of_terms ts) ty h e)

    two_same : (f : ℤ → ℤ → ℤ) (a b c d : ℤ) → a ≡ c → b ≡ d → f a b ≡ f c d
    two_same f a b c d p q = ap (λ x. f x b) p ∙ ap (λ y. f c y) q

    -- where a common type of none is asked for
    abs_is : (ss : List Sort) (ts : List Typed) (ty : Ty) → HaveTypes ss (types_of_terms ts) → EachLies w ts → common_type ss ≡ Some ty
        → function_result Abs ty (values_of w ts) ≡ value_of w (function_term Abs ty count ts)
    abs_is [] [] ty h a e = absurd (none-some ty e)
    abs_is [] (t ∷ ts) ty h a e = absurd h
    abs_is (s ∷ ss) [] ty h a e = absurd h
    abs_is (s ∷ ss) (t ∷ ts) ty h a e =
        let i = common_in (s ∷ ss) (t ∷ ts) ty h a e in
        by_values Abs ty (t ∷ ts) (first_in ty t ts i)
        (ap (λ (x : ℤ). wrap_of ty (pos (unsigned_abs x))) (first_is ty (t ∷ ts) i))

    min_is : (ss : List Sort) (ts : List Typed) (ty : Ty) → HaveTypes ss (types_of_terms ts) → EachLies w ts → common_type ss ≡ Some ty
        → function_result Min ty (values_of w ts) ≡ value_of w (function_term Min ty count ts)
    min_is [] [] ty h a e = absurd (none-some ty e)
    min_is [] (t ∷ ts) ty h a e = absurd h
    min_is (s ∷ ss) [] ty h a e = absurd h
    min_is (s ∷ ss) (t ∷ ts) ty h a e =
        let i = common_in (s ∷ ss) (t ∷ ts) ty h a e in
        by_values Min ty (t ∷ ts) (first_in ty t ts i)
        (two_same lesser _ _ _ _ (first_is ty (t ∷ ts) i) (second_is ty (t ∷ ts) i))

    max_is : (ss : List Sort) (ts : List Typed) (ty : Ty) → HaveTypes ss (types_of_terms ts) → EachLies w ts → common_type ss ≡ Some ty
        → function_result Max ty (values_of w ts) ≡ value_of w (function_term Max ty count ts)
    max_is [] [] ty h a e = absurd (none-some ty e)
    max_is [] (t ∷ ts) ty h a e = absurd h
    max_is (s ∷ ss) [] ty h a e = absurd h
    max_is (s ∷ ss) (t ∷ ts) ty h a e =
        let i = common_in (s ∷ ss) (t ∷ ts) ty h a e in
        by_values Max ty (t ∷ ts) (first_in ty t ts i)
        (two_same greater _ _ _ _ (first_is ty (t ∷ ts) i) (second_is ty (t ∷ ts) i))

    limit_is : (ss : List Sort) (ts : List Typed) (ty : Ty) → HaveTypes ss (types_of_terms ts) → EachLies w ts → common_type ss ≡ Some ty
        → function_result Limit ty (values_of w ts) ≡ value_of w (function_term Limit ty count ts)
    limit_is [] [] ty h a e = absurd (none-some ty e)
    limit_is [] (t ∷ ts) ty h a e = absurd h
    limit_is (s ∷ ss) [] ty h a e = absurd h
    limit_is (s ∷ ss) (t ∷ ts) ty h a e =
        let i = common_in (s ∷ ss) (t ∷ ts) ty h a e in
        by_values Limit ty (t ∷ ts) (first_in ty t ts i)
        (two_same lesser _ _ _ _ (third_is ty (t ∷ ts) i)
        (two_same greater _ _ _ _ (first_is ty (t ∷ ts) i) (second_is ty (t ∷ ts) i)))

    bool_told : (t : Ty) → is_bool t ≡ true → t ≡ Bool
    bool_told Bool e = refl
    bool_told Byte e = absurd (false≢true e)
    bool_told Word e = absurd (false≢true e)
    bool_told Dword e = absurd (false≢true e)
    bool_told Int e = absurd (false≢true e)
    bool_told Dint e = absurd (false≢true e)
    bool_told Time e = absurd (false≢true e)

    sel_is : (ss : List Sort) (ts : List Typed) (ty : Ty) → HaveTypes ss (types_of_terms ts) → EachLies w ts → choice_result ss ≡ Some ty
        → function_result Sel ty (values_of w ts) ≡ value_of w (function_term Sel ty count ts)
    sel_is [] ts ty h a e = absurd (none-some ty e)
    sel_is (s ∷ ss) [] ty h a e = absurd h
    sel_is (s ∷ ss) (t ∷ ts) ty h a e =
        by (is_bool t.ty) refl (ap (λ o. option_and_then (λ x. if is_bool x then common_type ss else None) o) (sym h.0) ∙ e)
      where
        by : (b : Truth) → is_bool t.ty ≡ b → (if b then common_type ss else None) ≡ Some ty
            → function_result Sel ty (values_of w (t ∷ ts)) ≡ value_of w (function_term Sel ty count (t ∷ ts))
        by true k f =
            let lies = subst (λ (x : Ty). InRange x (value_of w t.term)) (bool_told t.ty k) a.0 in
            let at_bool = at_value conversions w Bool t a.0 lies in
            let i = common_in ss ts ty h.1 a.1 f in
            by_values Sel ty (t ∷ ts) (subst (InRange Bool) (sym at_bool) lies)
            (ap (λ (x : ℤ). if is_true x then argument (arguments_behind (values_of w ts)) else argument (values_of w ts)) (sym at_bool)
            ∙ two_same (λ x y. if is_true (value_of w (at_type Bool t)) then x else y) _ _ _ _ (second_is ty ts i) (first_is ty ts i))
        by false k f = absurd (none-some ty f)

    convert_is : (from to : Ty) (ss : List Sort) (ts : List Typed) (ty : Ty) → HaveTypes ss (types_of_terms ts) → EachLies w ts
        → convert_result from to ss ≡ Some ty
        → function_result (Convert from to) ty (values_of w ts) ≡ value_of w (function_term (Convert from to) ty count ts)
    convert_is from to [] ts ty h a e = absurd (none-some ty e)
    convert_is from to (s ∷ x ∷ more) ts ty h a e = absurd (none-some ty e)
    convert_is from to (s ∷ []) [] ty h a e = absurd h
    convert_is from to (s ∷ []) (t ∷ ts) ty h a e =
        by (widens t.ty from) refl (ap (λ o. option_and_then (λ x. if widens x from then Some to else None) o) (sym h.0) ∙ e)
      where
        by : (b : Truth) → widens t.ty from ≡ b → (if b then Some to else None) ≡ Some ty
            → function_result (Convert from to) ty (values_of w (t ∷ ts)) ≡ value_of w (function_term (Convert from to) ty count (t ∷ ts))
        by true k f =
            let lies = widens_lies t.ty from k (value_of w t.term) a.0 in
            let same = at_value conversions w from t a.0 lies in
            by_values (Convert from to) ty (t ∷ ts) (subst (InRange from) (sym same) lies) (ap (wrap_of to) (sym same))
        by false k f = absurd (none-some ty f)

    -- what is shifted by is the number that the term has
    abbrev Counts : List Typed → Type 0
    Counts ts = unsigned_abs (argument (arguments_behind (values_of w ts))) ≡ count

    shifted_in : (s n : Sort) (t : Typed) (ty : Ty) → own_type s ≡ Some t.ty → InRange t.ty (value_of w t.term)
        → shift_result (s ∷ n ∷ []) ≡ Some ty → InRange ty (value_of w t.term)
    shifted_in s n t ty is a e = by (is_count n) e
      where
        by : (b : Truth) → (if b then option_and_then (type_where is_shifted) (own_type s) else None) ≡ Some ty → InRange ty (value_of w t.term)
        by true f = subst (λ (x : Ty). InRange x (value_of w t.term))
            (same_Some t.ty ty (sym is ∙ common_told is_shifted (own_type s) ty f)) a
        by false f = absurd (none-some ty f)

    shifts : (shift : Ty → ℤ → ℕ → ℤ) (ss : List Sort) (ts : List Typed) (ty : Ty) → HaveTypes ss (types_of_terms ts) → EachLies w ts
        → Counts ts → shift_result ss ≡ Some ty
        → (InRange ty (value_of w (argument_term 0 ty ts)))
        × (shift ty (argument (values_of w ts)) (unsigned_abs (argument (arguments_behind (values_of w ts))))
        ≡ shift ty (value_of w (argument_term 0 ty ts)) count)
    shifts shift [] ts ty h a c e = absurd (none-some ty e)
    shifts shift (s ∷ []) ts ty h a c e = absurd (none-some ty e)
    shifts shift (s ∷ n ∷ x ∷ more) ts ty h a c e = absurd (none-some ty e)
    shifts shift (s ∷ n ∷ []) [] ty h a c e = absurd h
    shifts shift (s ∷ n ∷ []) (t ∷ ts) ty h a c e =
        let lies = shifted_in s n t ty h.0 a.0 e in
        let same = at_value conversions w ty t a.0 lies in (
          subst (InRange ty) (sym same) lies,
          ap (λ (x : ℤ). shift ty x (unsigned_abs (argument (values_of w ts)))) (sym same)
              ∙ ap (λ (k : ℕ). shift ty (value_of w (at_type ty t)) k) c,
        )

    pub function_is : (f : StdFunction) (ss : List Sort) (ts : List Typed) (ty : Ty) → HaveTypes ss (types_of_terms ts) → EachLies w ts
        → ((f ≡ Shl) ⊎ (f ≡ Shr) → Counts ts) → result_of_function f ss ≡ Some ty
        → function_result f ty (values_of w ts) ≡ value_of w (function_term f ty count ts)
    function_is (Convert from to) ss ts ty h a c e = convert_is from to ss ts ty h a e
    function_is Abs ss ts ty h a c e = abs_is ss ts ty h a (common_told is_whole_number (common_type ss) ty e)
    function_is Min ss ts ty h a c e = min_is ss ts ty h a (common_told is_whole_number (common_type ss) ty e)
    function_is Max ss ts ty h a c e = max_is ss ts ty h a (common_told is_whole_number (common_type ss) ty e)
    function_is Limit ss ts ty h a c e = limit_is ss ts ty h a (common_told is_whole_number (common_type ss) ty e)
    function_is Sel ss ts ty h a c e = sel_is ss ts ty h a e
    function_is Shl ss ts ty h a c e =
        let s = shifts shl_of ss ts ty h a (c (inl refl)) e in by_values Shl ty ts s.0 s.1
    function_is Shr ss ts ty h a c e =
        let s = shifts shr_of ss ts ty h a (c (inr refl)) e in by_values Shr ty ts s.0 s.1
