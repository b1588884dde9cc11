-- Numbers of variables that have arguments: one variable and one argument more, and that none lies between two numbers.
use Rattle.std.proofs.Common.{◌≡◌, ℕ, suc, ◌<◌, List, [], ◌∷◌, ◌++◌, length, map, get_or, slice_get, Option, Some, None, option_map, Bool, true, false, cond, refl, sym, ap, ◌∙◌}
use Rattle.std.specs.Prelude.{find, bytes_eq, nat_eq, ◌||◌, is_some, if◌then◌else◌}
use Rattle.std.specs.Option.{option_or}
use Rattle.std.specs.List.Sorted.{IsPermutation}
use Rattle.std.proofs.lemmas.Bool.{true≢false, false≢true, eq-eqb, or_parts}
use Rattle.std.proofs.lemmas.List.Folds.{list_any-append, find-append}
use Rattle.std.proofs.lemmas.List.Sorted.{list_any-IsPermutation}
use Rattle.std.proofs.lemmas.Option.{same_Some, none-some, slice_get-map, slice_get-get_or}
use Rattle.std.proofs.lemmas.Slice.Eq.{bytes_eq-Decides}
use Rattle.pv_types.specs.Tree.{VarTree}
use Rattle.pv_types.specs.declared.var.Var.{Var}
use Rattle.pv_types.specs.View.{name_of, var_tree}
use Rattle.pv_tree.specs.Tree.{ArgTree, PlacedName, BlockTree}
use Rattle.pv_tree.specs.Scopes.{first_var}
use Rattle.pv_tree.specs.Callees.{How, Param, params_of, first_param, only_input}
use Rattle.pv_names.specs.Firsts.{first_number}
use Rattle.pv_names.specs.Unique.{HaveUniqueNames}
use Rattle.pv_names.proofs.ForCallers.{first_of_its_name, for_none, for_some}
use Rattle.pv_mean.specs.Calls.{is_for}
use Rattle.pv_program.specs.Sought.{keys_of, has_number, HaveAll}

-- ---- the number that an argument leads to

same-name : (key own : List ℕ) (ps : List Param) → elim (first_param ps own) [ None ↦ false | Some p ↦ bytes_eq key p.key ] ≡ true → own ≡ key
same-name key own [] e = absurd (false≢true e)
same-name key own (p ∷ ps) e = lead (bytes_eq own p.key) refl e (λ f. same-name key own ps f)
  where
    lead : (b : Bool) → bytes_eq own p.key ≡ b → elim (cond b (Some p) (first_param ps own)) [ None ↦ false | Some p ↦ bytes_eq key p.key ] ≡ true
        → (elim (first_param ps own) [ None ↦ false | Some p ↦ bytes_eq key p.key ] ≡ true → own ≡ key) → own ≡ key
    lead true h e later = (bytes_eq-Decides own p.key).0 h ∙ sym ((bytes_eq-Decides key p.key).0 e)
    lead false h e later = later e

-- by its word
pub named-number : (how : How) (block : BlockTree) (key : List ℕ) (arg : ArgTree) (word : PlacedName) → arg.name ≡ Some word
    → is_for how block key arg ≡ true → first_number (bytes_eq word.0.key) (keys_of block.vars) ≡ first_number (bytes_eq key) (keys_of block.vars)
named-number how block key arg word is e =
    ap (λ k. first_number (bytes_eq k) (keys_of block.vars))
    (same-name key word.0.key (params_of how block)
    (ap (λ (o : Option Param). elim o [ None ↦ false | Some p ↦ bytes_eq key p.key ]) (for_some how block arg word is) ∙ e))

-- without a word
pub only-for : (how : How) (block : BlockTree) (key : List ℕ) (arg : ArgTree) (R : Type 0) → arg.name ≡ None → is_for how block key arg ≡ true
    → ((p : Param) → only_input block ≡ Some p → bytes_eq key p.key ≡ true → R) → R
only-for how block key arg R is e go =
    lead (only_input block) refl (ap (λ (o : Option Param). elim o [ None ↦ false | Some p ↦ bytes_eq key p.key ]) (for_none how block arg is) ∙ e)
  where
    lead : (o : Option Param) → only_input block ≡ o → elim o [ None ↦ false | Some p ↦ bytes_eq key p.key ] ≡ true → R
    lead None same f = absurd (false≢true f)
    lead (Some p) same f = go p same f

-- whether there is one of the name
some-later : (o : Option ℕ) → is_some (option_map (λ n. suc n) o) ≡ is_some o
some-later None = refl
some-later (Some n) = refl

pub some-first : (key : List ℕ) (vars : List VarTree) → is_some (first_number (bytes_eq key) (keys_of vars)) ≡ is_some (first_var vars key)
some-first key [] = refl
some-first key (v ∷ vars) =
    elim (bytes_eq key (name_of v).key) as (λ b. is_some (if b then Some 0 else option_map (λ n. suc n) (first_number (bytes_eq key) (keys_of vars)))
    ≡ is_some (cond b (Some v) (first_var vars key))) [
      | true ↦ refl
      | false ↦ some-later (first_number (bytes_eq key) (keys_of vars)) ∙ some-first key vars
    ]

-- ---- arguments that were found

pub found-passes : (test : ArgTree → Bool) (args : List ArgTree) (arg : ArgTree) → Some arg ≡ find test args → test arg ≡ true
found-passes test [] arg e = absurd (none-some arg (sym e))
found-passes test (x ∷ args) arg e = lead (test x) refl e (λ f. found-passes test args arg f)
  where
    lead : (b : Bool) → test x ≡ b → Some arg ≡ cond b (Some x) (find test args) → (Some arg ≡ find test args → test arg ≡ true) → test arg ≡ true
    lead true h f later = ap test (same_Some arg x f) ∙ h
    lead false h f later = later f

-- ---- a variable of the code by its number

pub var-at : (vars : List VarTree) (xs : List Var) (i : ℕ) (x : Var) → map var_tree xs ≡ vars → i < length xs → x ≡ get_or xs i x
    → slice_get vars i ≡ Some (var_tree x)
var-at vars xs i x seen inside at =
    ap (λ l. slice_get l i) (sym seen) ∙ slice_get-map var_tree xs i ∙ ap (option_map var_tree) (slice_get-get_or xs i x inside)
    ∙ ap (λ y. Some (var_tree y)) (sym at)

-- ---- one argument more

misses : (test : ArgTree → Bool) (args : List ArgTree) (arg : ArgTree) → find test args ≡ None → (test arg ≡ true → ⊥)
    → find test (args ++ arg ∷ []) ≡ None
misses test args arg e not_it = find-append test args (arg ∷ []) ∙ ap (λ o. option_or o (find test (arg ∷ []))) e ∙ lead (test arg) refl
  where
    lead : (b : Bool) → test arg ≡ b → cond b (Some arg) None ≡ None
    lead true h = absurd (not_it h)
    lead false h = refl

pub sought-more : (how : How) (block : BlockTree) (args : List ArgTree) (arg : ArgTree) (m : ℕ) (numbers new : List ℕ)
    → ((key : List ℕ) → is_for how block key arg ≡ true → Some m ≡ first_number (bytes_eq key) (keys_of block.vars))
    → new ≡ numbers ++ m ∷ [] → HaveUniqueNames block.vars → HaveAll how block args 0 numbers → HaveAll how block (args ++ arg ∷ []) 0 new
sought-more how block args arg m numbers new leads grown unique all n v from is without =
    misses (is_for how block (name_of v).key) args arg (all n v from is none.0) (λ e.
    true≢false (sym (eq-eqb n m (sym (same_Some m n (leads (name_of v).key e ∙ first_of_its_name block.vars unique n v is))))
    ∙ (or_parts (nat_eq n m) false none.1).0))
  where
    none : (has_number numbers n ≡ false) × ((nat_eq n m || false) ≡ false)
    none = or_parts (has_number numbers n) (nat_eq n m || false)
        (sym (list_any-append (nat_eq n) numbers (m ∷ [])) ∙ ap (λ l. has_number l n) (sym grown) ∙ without)

pub sought-none : (how : How) (block : BlockTree) (args : List ArgTree) (arg : ArgTree) (numbers : List ℕ)
    → ((key : List ℕ) → is_for how block key arg ≡ true → None ≡ first_number (bytes_eq key) (keys_of block.vars))
    → HaveUniqueNames block.vars → HaveAll how block args 0 numbers → HaveAll how block (args ++ arg ∷ []) 0 numbers
sought-none how block args arg numbers leads unique all n v from is without =
    misses (is_for how block (name_of v).key) args arg (all n v from is without) (λ e.
    none-some n (leads (name_of v).key e ∙ first_of_its_name block.vars unique n v is))

-- ---- in their order

pub sought-sorted : (how : How) (block : BlockTree) (args : List ArgTree) (old new : List ℕ) → IsPermutation old new
    → HaveAll how block args 0 old → HaveAll how block args 0 new
sought-sorted how block args old new moved all n v from is without =
    all n v from is (list_any-IsPermutation (nat_eq n) old new moved ∙ without)
