-- Keys no two of which are the same: those of names of which none stands behind one of its key, and those of parameters.
use Rattle.std.proofs.Common.{◌≡◌, ℕ, List, [], ◌∷◌, ◌++◌, map, Bool, true, false, not, ◌&&◌, cond, Option, Some, None, is_some, is_none, ◌⊎◌, inl, inr, true≢false, append-nil, refl, sym, ap, subst, ◌∙◌}
use Rattle.std.specs.Prelude.{if◌then◌else◌, Contains}
use Rattle.std.proofs.lemmas.Slice.Eq.{bytes_eq-Decides}
use Rattle.pv_word.specs.declared.types.Ty.{Ty}
use Rattle.pv_place.specs.declared.place.Place.{Place}
use Rattle.pv_types.specs.declared.declaration.Section.TheVariants.{Output}
use Rattle.pv_types.specs.Tree.{plain, VarTree, var}
use Rattle.pv_types.specs.View.{name_of}
use Rattle.pv_tree.specs.Tree.{PlacedName, BlockTree}
use Rattle.pv_tree.specs.Scopes.{ProjectTree, has_key, first_var, value_key}
use Rattle.pv_tree.specs.Callees.{How, is_by_stl, is_param, CallSite, runs, callee_of, Param, params_of_vars, params_of}
use Rattle.pv_tree.specs.Parts.{calls_of}
use Rattle.pv_tree.specs.Interfaces.{names_of_vars}
use Rattle.pv_tree.specs.Rules.{KeepsRules, doubled_name, wrong_argument}
use Rattle.pv_tree.specs.Rules.Arguments.{words_of_args}
use Rattle.pv_rules_expr.specs.Members.{Has, IsLaterBehind}
use Rattle.pv_rules_expr.proofs.ForCallers.{has_front, has_behind, later_is}

-- no two are the same
abbrev pub Apart : List (List ℕ) → Type 0
Apart [] = Unit {0}
Apart (k ∷ ks) = (Has ks k → ⊥) × Apart ks

-- ---- names

abbrev pub keys_of : List PlacedName → List (List ℕ)
keys_of names = map (λ n. n.0.key) names

-- none has one of these keys or one of a name before it
abbrev Fresh : List (List ℕ) → List PlacedName → Type 0
Fresh keys [] = Unit {0}
Fresh keys (n ∷ more) = (Has keys n.0.key → ⊥) × Fresh (keys ++ n.0.key ∷ []) more

fresh : (keys : List (List ℕ)) (names : List PlacedName) → ((at : Place) → IsLaterBehind keys names at → ⊥) → Fresh keys names
fresh keys [] lacks = tt
fresh keys (n ∷ more) lacks = (λ h. lacks n.1 (inl (h, refl)), fresh (keys ++ n.0.key ∷ []) more (λ at h. lacks at (inr h)))

not_known : (keys : List (List ℕ)) (names : List PlacedName) → Fresh keys names → (k : List ℕ) → Has keys k → Has (keys_of names) k → ⊥
not_known keys [] f k has h = absurd h
not_known keys (n ∷ more) f k has (inl is) = f.0 (subst (Has keys) (sym is) has)
not_known keys (n ∷ more) f k has (inr h) =
    not_known (keys ++ n.0.key ∷ []) more f.1 k (has_front (λ y. y ≡ k) keys (n.0.key ∷ []) has) h

apart : (keys : List (List ℕ)) (names : List PlacedName) → Fresh keys names → Apart (keys_of names)
apart keys [] f = tt
apart keys (n ∷ more) f = (
  λ h. not_known (keys ++ n.0.key ∷ []) more f.1 n.0.key (has_behind (λ y. y ≡ n.0.key) keys (n.0.key ∷ []) (inl refl)) h,
  apart (keys ++ n.0.key ∷ []) more f.1,
)

-- by the rules neither a block's variables nor a call's words stand twice
pub vars_apart : (project : ProjectTree) (block : BlockTree) → KeepsRules project → Contains project.blocks block
    → Apart (keys_of (names_of_vars block.vars))
vars_apart project block keeps c =
    apart [] (names_of_vars block.vars) (fresh [] (names_of_vars block.vars)
    (λ at h. keeps doubled_name at (inr (c.0, block, c.1, c.2, inl (later_is (names_of_vars block.vars) at h)))))

pub words_apart : (project : ProjectTree) (caller callee : BlockTree) (s : CallSite) → KeepsRules project → Contains project.blocks caller
    → Contains (calls_of caller) s → callee_of (record { project = project; block = caller }) s ≡ runs callee
    → Apart (keys_of (words_of_args s.call.args))
words_apart project caller callee s keeps c d is =
    apart [] (words_of_args s.call.args) (fresh [] (words_of_args s.call.args)
    (λ at h. keeps wrong_argument at
    (c.0, caller, c.1, c.2, (d.0, s, d.1, d.2, (callee, is, inr (inl (later_is (words_of_args s.call.args) at h)))))))

-- ---- parameters

abbrev pub keys_of_params : List Param → List (List ℕ)
keys_of_params ps = map (λ p. p.key) ps

has_param : (vars : List VarTree) (key : List ℕ) → Has (keys_of_params (params_of_vars vars)) key → Has (keys_of (names_of_vars vars)) key
has_param [] key h = h
has_param (var name section ty start place ∷ more) key h = lead (is_param section) (has_param more key) h
  where
    lead : (t : Bool) → (Has (keys_of_params (params_of_vars more)) key → Has (keys_of (names_of_vars more)) key)
        → Has (keys_of_params (if t then record { key = name.key; section = section; ty = ty } ∷ params_of_vars more else params_of_vars more)) key
        → Has (keys_of (names_of_vars (var name section ty start place ∷ more))) key
    lead true rest (inl is) = inl is
    lead true rest (inr k) = inr (rest k)
    lead false rest k = inr (rest k)

vars_params : (vars : List VarTree) → Apart (keys_of (names_of_vars vars)) → Apart (keys_of_params (params_of_vars vars))
vars_params [] a = tt
vars_params (var name section ty start place ∷ more) a = lead (is_param section) (vars_params more a.1)
  where
    lead : (t : Bool) → Apart (keys_of_params (params_of_vars more))
        → Apart (keys_of_params (if t then record { key = name.key; section = section; ty = ty } ∷ params_of_vars more else params_of_vars more))
    lead true rest = (λ h. a.0 (has_param more name.key h), rest)
    lead false rest = rest

-- a declared name is found
found_var : (vars : List VarTree) (key : List ℕ) → Has (keys_of (names_of_vars vars)) key → is_some (first_var vars key) ≡ true
found_var [] key h = absurd h
found_var (v ∷ more) key (inl is) = lead (has_key key (name_of v)) ((bytes_eq-Decides key (name_of v).key).1 (sym is))
  where
    lead : (t : Bool) → t ≡ true → is_some (cond t (Some v) (first_var more key)) ≡ true
    lead true on = refl
    lead false on = absurd (true≢false (sym on))
found_var (v ∷ more) key (inr h) = lead (has_key key (name_of v)) (found_var more key h)
  where
    lead : (t : Bool) → is_some (first_var more key) ≡ true → is_some (cond t (Some v) (first_var more key)) ≡ true
    lead true rest = refl
    lead false rest = rest

has_pushed : (ps : List Param) (q : Param) (key : List ℕ) → Has (keys_of_params (ps ++ q ∷ [])) key → Has (keys_of_params ps) key ⊎ (q.key ≡ key)
has_pushed [] q key (inl is) = inr is
has_pushed [] q key (inr never) = absurd never
has_pushed (p ∷ ps) q key (inl is) = inl (inl is)
has_pushed (p ∷ ps) q key (inr h) = elim (has_pushed ps q key h) [ inl k ↦ inl (inr k) | inr is ↦ inr is ]

apart_pushed : (ps : List Param) (q : Param) → Apart (keys_of_params ps) → (Has (keys_of_params ps) q.key → ⊥) → Apart (keys_of_params (ps ++ q ∷ []))
apart_pushed [] q a lacks = (λ h. absurd h, tt)
apart_pushed (p ∷ ps) q a lacks = (
  λ h. elim (has_pushed ps q p.key h) [ inl k ↦ a.0 k | inr is ↦ lacks (inl (sym is)) ],
  apart_pushed ps q a.1 (λ h. lacks (inr h)),
)

second : (a b : Bool) → (a && b) ≡ true → b ≡ true
second true b e = e
second false b e = absurd (true≢false (sym e))

-- a function's value is a parameter of its own where no variable has its name
pub params_apart : (how : How) (block : BlockTree) → Apart (keys_of (names_of_vars block.vars)) → Apart (keys_of_params (params_of how block))
params_apart how block a =
    lead (is_by_stl how && is_none (first_var block.vars value_key))
    (second (is_by_stl how) (is_none (first_var block.vars value_key))) block.value
  where
    its : Apart (keys_of_params (params_of_vars block.vars))
    its = vars_params block.vars a

    alone : Apart (keys_of_params (params_of_vars block.vars ++ []))
    alone = subst (λ l. Apart (keys_of_params l)) (sym (append-nil (params_of_vars block.vars))) its

    lead : (t : Bool) → (t ≡ true → is_none (first_var block.vars value_key) ≡ true) → (o : Option Ty)
        → Apart (keys_of_params (params_of_vars block.vars ++ (if t then (elim o [
          | None ↦ []
          | Some ty ↦ record {
            key = value_key;
            section = Output;
            ty =
                plain ty;
          } ∷ []
        ]) else [])))
    lead true none None = alone
    lead true none (Some ty) =
        apart_pushed (params_of_vars block.vars) (record { key = value_key; section = Output; ty = plain ty }) its
        (λ h. true≢false (sym (none refl) ∙ ap not (found_var block.vars value_key (has_param block.vars value_key h))))
    lead false none o = alone
