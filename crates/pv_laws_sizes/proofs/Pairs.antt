-- What is counted argument by argument is what is counted parameter by parameter, where no two parameters have one key and no two
-- arguments are for one: both are the sum over all pairs of an argument and the parameter that it is for.
use Rattle.std.proofs.Common.{◌≡◌, ℕ, ◌+◌, ◌≤◌, List, [], ◌∷◌, length, filter, find, Bool, true, false, cond, Option, Some, None, is_some, bytes_eq, IfSome, IsTrue, true≢false, inl, inr, refl, sym, ap, subst, ◌∙◌, arith}
use Rattle.std.specs.Prelude.{if◌then◌else◌}
use Rattle.std.specs.List.{AllByRecursion, cons_option}
use Rattle.std.proofs.lemmas.Slice.Eq.{bytes_eq-Decides}
use Rattle.pv_tree.specs.Tree.{PlacedName, ExprTree, ArgTree, BlockTree}
use Rattle.pv_tree.specs.Scopes.{Scope, is_fc}
use Rattle.pv_tree.specs.Callees.{How, is_input, Param, params_of_vars, value_param, params_of, first_param, only, only_input, param_for}
use Rattle.pv_tree.specs.Rules.Arguments.{words_of_args}
use Rattle.pv_mean.specs.Calls.{is_for}
use Rattle.pv_rules_expr.specs.Members.{Has}
use Rattle.pv_rules_expr.proofs.ForCallers.{has_front}
use Rattle.pv_sizes.specs.Sizes.{size_of_copy, size_of_param, size_of_arg, size_of_args}
use Rattle.pv_laws_sizes.specs.Copies.{AreOrdinary, sum_of}
use Rattle.pv_laws_sizes.proofs.Sums.{sum_each, sum_swap}
use Rattle.pv_laws_sizes.proofs.Apart.{Apart, keys_of, keys_of_params}

-- the parameter that an argument is for has this key
abbrev is_it : List ℕ → Option Param → Bool
is_it key o = elim o [ None ↦ false | Some p ↦ bytes_eq key p.key ]

not_true : (b : Bool) → (b ≡ true → ⊥) → b ≡ false
not_true true lacks = absurd (lacks refl)
not_true false lacks = refl

zero_and : (a b c : ℕ) → a ≡ 0 → b ≡ c → a + b ≡ c
zero_and a b c e f = omega (arith, e, f)

and_zero : (a b : ℕ) → b ≡ 0 → a + b ≡ a
and_zero a b e = omega (arith, e)

-- ---- of one argument, over all parameters

has_key_of : (ps : List Param) (q : Param) → Has ps q → Has (keys_of_params ps) q.key
has_key_of [] q h = h
has_key_of (p ∷ ps) q (inl is) = inl (ap (λ x. x.key) is)
has_key_of (p ∷ ps) q (inr h) = inr (has_key_of ps q h)

module _ (scope : Scope) (callee : BlockTree) (value : ExprTree) where
  abbrev counted : Option Param → Param → ℕ
  counted o p = cond (is_it p.key o) (size_of_copy scope callee value p.section) 0

  for_none : (ps : List Param) → sum_of (counted None) ps ≡ 0
  for_none [] = refl
  for_none (p ∷ ps) = zero_and 0 (sum_of (counted None) ps) 0 refl (for_none ps)

  for_other : (q : Param) (ps : List Param) → (Has (keys_of_params ps) q.key → ⊥) → sum_of (counted (Some q)) ps ≡ 0
  for_other q [] lacks = refl
  for_other q (p ∷ ps) lacks =
      zero_and (counted (Some q) p) (sum_of (counted (Some q)) ps) 0
      (ap (λ t. cond t (size_of_copy scope callee value p.section) 0)
      (not_true (bytes_eq p.key q.key) (λ on. lacks (inl ((bytes_eq-Decides p.key q.key).0 on)))))
      (for_other q ps (λ h. lacks (inr h)))

  for_one : (q : Param) (ps : List Param) → Has ps q → Apart (keys_of_params ps)
      → sum_of (counted (Some q)) ps ≡ size_of_copy scope callee value q.section
  for_one q [] h a = absurd h
  for_one q (p ∷ ps) (inl is) a =
      let same : p.key ≡ q.key = ap (λ x. x.key) is in
      and_zero (counted (Some q) p) (sum_of (counted (Some q)) ps) (for_other q ps (λ h. a.0 (subst (Has (keys_of_params ps)) (sym same) h)))
      ∙ (ap (λ t. cond t (size_of_copy scope callee value p.section) 0) ((bytes_eq-Decides p.key q.key).1 same)
      ∙ ap (λ x. size_of_copy scope callee value x.section) is)
  for_one q (p ∷ ps) (inr h) a =
      zero_and (counted (Some q) p) (sum_of (counted (Some q)) ps) (size_of_copy scope callee value q.section)
      (ap (λ t. cond t (size_of_copy scope callee value p.section) 0)
      (not_true (bytes_eq p.key q.key)
      (λ on. a.0 (subst (Has (keys_of_params ps)) (sym ((bytes_eq-Decides p.key q.key).0 on)) (has_key_of ps q h)))))
      (for_one q ps h a.1)

  by_params : (o : Option Param) (ps : List Param) → IfSome o (Has ps) → Apart (keys_of_params ps)
      → sum_of (counted o) ps ≡ size_of_param scope callee value o
  by_params None ps known a = for_none ps
  by_params (Some q) ps known a = for_one q ps known a

-- ---- for one parameter, over all arguments

abbrev NoneOf : (ArgTree → Bool) → List ArgTree → Type 0
NoneOf t [] = Unit {0}
NoneOf t (a ∷ more) = (t a ≡ false) × NoneOf t more

abbrev Once : (ArgTree → Bool) → List ArgTree → Type 0
Once t [] = Unit {0}
Once t (a ∷ more) = (t a ≡ true → NoneOf t more) × Once t more

abbrev pub of_found : (ArgTree → ℕ) → Option ArgTree → ℕ
of_found f None = 0
of_found f (Some a) = f a

none_counts : (t : ArgTree → Bool) (f : ArgTree → ℕ) (args : List ArgTree) → NoneOf t args → sum_of (λ a. cond (t a) (f a) 0) args ≡ 0
none_counts t f [] none = refl
none_counts t f (a ∷ more) none =
    zero_and (cond (t a) (f a) 0) (sum_of (λ b. cond (t b) (f b) 0) more) 0 (ap (λ b. cond b (f a) 0) none.0) (none_counts t f more none.1)

one_counts : (t : ArgTree → Bool) (f : ArgTree → ℕ) (args : List ArgTree) → Once t args
    → sum_of (λ a. cond (t a) (f a) 0) args ≡ of_found f (find t args)
one_counts t f [] once = refl
one_counts t f (a ∷ more) once =
    lead (t a) (sum_of (λ b. cond (t b) (f b) 0) more) (λ on. none_counts t f more (once.0 on)) (one_counts t f more once.1)
  where
    lead : (b : Bool) (m : ℕ) → (b ≡ true → m ≡ 0) → m ≡ of_found f (find t more)
        → cond b (f a) 0 + m ≡ of_found f (cond b (Some a) (find t more))
    lead true m zero rest = and_zero (f a) m (zero refl)
    lead false m zero rest = zero_and 0 m (of_found f (find t more)) refl rest

-- ---- over all pairs

module _ (scope : Scope) (how : How) (callee : BlockTree) where
  args_summed : (args : List ArgTree) → size_of_args scope how callee args ≡ sum_of (size_of_arg scope how callee) args
  args_summed [] = refl
  args_summed (a ∷ more) = ap (λ n. size_of_arg scope how callee a + n) (args_summed more)

  abbrev pair : ArgTree → Param → ℕ
  pair a p = cond (is_for how callee p.key a) (size_of_copy scope callee a.value p.section) 0

  abbrev found : List ArgTree → Param → ℕ
  found args p = of_found (λ a. size_of_copy scope callee a.value p.section) (find (is_for how callee p.key) args)

  pub paired : (args : List ArgTree) → Apart (keys_of_params (params_of how callee))
      → ((a : ArgTree) → IfSome (param_for how callee a) (Has (params_of how callee)))
      → ((key : List ℕ) → Once (is_for how callee key) args)
      → size_of_args scope how callee args
      ≡ sum_of (λ p. of_found (λ a. size_of_copy scope callee a.value p.section) (find (is_for how callee p.key) args)) (params_of how callee)
  paired args apart known once =
      args_summed args
      ∙ (sum_each (size_of_arg scope how callee) (λ a. sum_of (pair a) (params_of how callee)) args
      (λ a. sym (by_params scope callee a.value (param_for how callee a) (params_of how callee) (known a) apart))
      ∙ (sum_swap pair args (params_of how callee)
      ∙ sum_each (λ p. sum_of (λ a. pair a p) args) (found args) (params_of how callee)
      (λ p. one_counts (is_for how callee p.key) (λ a. size_of_copy scope callee a.value p.section) args (once p.key))))

-- ---- an argument is for one of the parameters

found_in : {X : Type 0} (t : X → Bool) (xs : List X) → IfSome (find t xs) (Has xs)
found_in t [] = tt
found_in {X = X} t (x ∷ xs) = lead (t x) (find t xs) (found_in t xs)
  where
    lead : (b : Bool) (o : Option X) → IfSome o (Has xs) → IfSome (cond b (Some x) o) (Has (x ∷ xs))
    lead true o rest = inl refl
    lead false None rest = tt
    lead false (Some y) rest = inr rest

filtered_in : {X : Type 0} (t : X → Bool) (xs : List X) (y : X) → Has (filter t xs) y → Has xs y
filtered_in t [] y h = h
filtered_in {X = X} t (x ∷ xs) y h = lead (t x) (filtered_in t xs y) h
  where
    lead : (b : Bool) → (Has (filter t xs) y → Has xs y) → Has (cond b (x ∷ filter t xs) (filter t xs)) y → Has (x ∷ xs) y
    lead true rest (inl is) = inl is
    lead true rest (inr k) = inr (rest k)
    lead false rest k = inr (rest k)

only_in : (ps all : List Param) → ((p : Param) → Has ps p → Has all p) → IfSome (only ps) (Has all)
only_in [] all f = tt
only_in (p ∷ []) all f = f p (inl refl)
only_in (p ∷ q ∷ more) all f = tt

pub param_known : (how : How) (block : BlockTree) (a : ArgTree) → IfSome (param_for how block a) (Has (params_of how block))
param_known how block a = by_name a.name
  where
    input : (t : Bool) → IfSome (if t then only (filter (λ p. is_input p.section) (params_of_vars block.vars)) else None) (Has (params_of how block))
    input true = only_in (filter (λ p. is_input p.section) (params_of_vars block.vars)) (params_of how block)
        (λ p h. has_front (λ q. q ≡ p) (params_of_vars block.vars) (value_param how block)
        (filtered_in (λ q. is_input q.section) (params_of_vars block.vars) p h))
    input false = tt

    by_name : (o : Option PlacedName) → IfSome (elim o [
      | None ↦ only_input block
      | Some word ↦ first_param (params_of how block) word.0.key
    ]) (Has (params_of how block))
    by_name None = input (is_fc block.kind)
    by_name (Some word) = found_in (λ p. bytes_eq word.0.key p.key) (params_of how block)

-- ---- no two arguments are for one

abbrev param_by : How → BlockTree → Option PlacedName → Option Param
param_by how block o = elim o [ None ↦ only_input block | Some word ↦ first_param (params_of how block) word.0.key ]

found_key : (key other : List ℕ) (ps : List Param) → is_it key (find (λ p. bytes_eq other p.key) ps) ≡ true → other ≡ key
found_key key other [] is = absurd (true≢false (sym is))
found_key key other (p ∷ ps) is = lead (bytes_eq other p.key) (λ on. (bytes_eq-Decides other p.key).0 on) (found_key key other ps) is
  where
    lead : (b : Bool) → (b ≡ true → other ≡ p.key) → (is_it key (find (λ q. bytes_eq other q.key) ps) ≡ true → other ≡ key)
        → is_it key (cond b (Some p) (find (λ q. bytes_eq other q.key) ps)) ≡ true → other ≡ key
    lead true on rest it = on refl ∙ sym ((bytes_eq-Decides key p.key).0 it)
    lead false on rest it = rest it

word_for : (how : How) (block : BlockTree) (key : List ℕ) (a : ArgTree) (word : PlacedName) → a.name ≡ Some word
    → is_for how block key a ≡ true → word.0.key ≡ key
word_for how block key a word is on =
    found_key key word.0.key (params_of how block) (subst (λ o. is_it key (param_by how block o) ≡ true) is on)

none_named : (how : How) (block : BlockTree) (key : List ℕ) (args : List ArgTree) → AllByRecursion (λ a. IsTrue (is_some a.name)) args
    → (Has (keys_of (words_of_args args)) key → ⊥) → NoneOf (is_for how block key) args
none_named how block key [] all lacks = tt
none_named how block key (a ∷ more) all lacks = lead a.name refl all.0 (none_named how block key more all.1) lacks
  where
    lead : (o : Option PlacedName) → a.name ≡ o → IsTrue (is_some o)
        → ((Has (keys_of (words_of_args more)) key → ⊥) → NoneOf (is_for how block key) more)
        → (Has (keys_of (cons_option o (words_of_args more))) key → ⊥)
        → (is_for how block key a ≡ false) × NoneOf (is_for how block key) more
    lead None is some rest never = absurd (true≢false (sym some))
    lead (Some word) is some rest never = (
      not_true (is_for how block key a) (λ on. never (inl (word_for how block key a word is on))),
      rest (λ h. never (inr h)),
    )

once_named : (how : How) (block : BlockTree) (key : List ℕ) (args : List ArgTree) → AllByRecursion (λ a. IsTrue (is_some a.name)) args
    → Apart (keys_of (words_of_args args)) → Once (is_for how block key) args
once_named how block key [] all apart = tt
once_named how block key (a ∷ more) all apart = lead a.name refl all.0 (once_named how block key more all.1) apart
  where
    lead : (o : Option PlacedName) → a.name ≡ o → IsTrue (is_some o)
        → (Apart (keys_of (words_of_args more)) → Once (is_for how block key) more)
        → Apart (keys_of (cons_option o (words_of_args more)))
        → (is_for how block key a ≡ true → NoneOf (is_for how block key) more) × Once (is_for how block key) more
    lead None is some rest its = absurd (true≢false (sym some))
    lead (Some word) is some rest its = (
      λ on. none_named how block key more all.1
          (λ h. its.0 (subst (Has (keys_of (words_of_args more))) (sym (word_for how block key a word is on)) h)),
      rest its.1,
    )

once_few : (t : ArgTree → Bool) (args : List ArgTree) → length args ≤ 1 → Once t args
once_few t [] few = tt
once_few t (a ∷ []) few = (λ on. tt, tt)
once_few t (a ∷ b ∷ more) few = absurd (omega (arith, few))

pub given_once : (how : How) (block : BlockTree) (args : List ArgTree) → AreOrdinary args → Apart (keys_of (words_of_args args))
    → (key : List ℕ) → Once (is_for how block key) args
given_once how block args (inl named) apart key = once_named how block key args named apart
given_once how block args (inr few) apart key = once_few (is_for how block key) args few
