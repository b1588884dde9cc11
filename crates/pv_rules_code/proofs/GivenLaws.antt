-- What is nearest at the arguments of calls is the least place at which the rule on arguments is broken.
use Rattle.std.proofs.Common.{◌≡◌, ℕ, inl, inr, refl, sym, ap, subst, ◌∙◌, List, [], ◌∷◌, ◌++◌, Option, Some, None, Bool, true, false, ◌&&◌, ◌||◌, not, true≢false, IsTrue, is_some, is_none, cond}
use Rattle.std.specs.Prelude.{◌⊎◌, Any, option_and_then, unwrap_or, bytes_eq, IsSomeAnd}
use Rattle.std.specs.List.{list_any}
use Rattle.std.proofs.lemmas.List.Folds.{Any-from_list_any, list_any-from_Any}
use Rattle.std.proofs.lemmas.Slice.Eq.{bytes_eq-Decides}
use Rattle.pv_place.specs.declared.place.Place.{Place}
use Rattle.pv_types.specs.Tree.{VarTree, var, plain}
use Rattle.pv_types.specs.View.{name_of, section_of}
use Rattle.pv_types.specs.declared.declaration.Section.TheVariants.{Input, Output, InOut, Static, Temp, Const}
use Rattle.pv_tree.specs.Tree.{PlacedName, ArgTree, BlockTree}
use Rattle.pv_tree.specs.Scopes.{ProjectTree, Scope, is_fc, first_var, value_key}
use Rattle.pv_tree.specs.Callees.{How, CallSite, Callee, runs, not_declared, not_callable, unknown, callee_of, block_of_callee, Param, params_of, params_of_vars, value_param, param_for, is_by_stl, is_param}
use Rattle.pv_tree.specs.Parts.{Loop}
use Rattle.pv_tree.specs.Interfaces.{IsLater}
use Rattle.pv_tree.specs.Rules.Arguments.{place_of_word, words_of_args, IsGiven, Lacks, CallGivesWrong, IsWrongArgument}
use Rattle.pv_rules_expr.specs.Members.{HasSome, Has}
use Rattle.pv_rules_expr.specs.Nearest.{IsNearest}
use Rattle.pv_rules_expr.specs.Looks.{nearer_of}
use Rattle.pv_rules_expr.specs.Places.{place_where}
use Rattle.pv_rules_expr.specs.Members.{IsLaterBehind}
use Rattle.pv_names.specs.Params.{param_of}
use Rattle.pv_names.specs.Needed.{needed_among}
use Rattle.pv_names.specs.declared.firsts.Firsts.{Firsts}
use Rattle.pv_rules_code.specs.AtCalls.{unknown_at, arg_place, call_place}
use Rattle.pv_rules_code.specs.AtGiven.{is_in, gives, is_given, must_be, is_lacking, is_out, lacks_some, lacking_at, later_from, later_word, later_at}
use Rattle.pv_rules_code.specs.Sites.{project_place}
use Rattle.pv_rules_code.specs.Sought.Site as site
use Rattle.pv_rules_code.specs.Sought.Ask as ask
use Rattle.pv_rules_code.specs.Sought.Pass as pass
use Rattle.pv_rules_expr.proofs.ForCallers.{any_has, has_any}
use Rattle.pv_rules_expr.proofs.ForCallers.{nearest_same, nearest_both, nearest_where}
use Rattle.pv_rules_expr.proofs.ForCallers.{in_any, nearest_is}
use Rattle.pv_rules_code.proofs.AnyLaws.{any_map, any_append, any_of_append}
use Rattle.pv_rules_expr.proofs.ForCallers.{later_is, is_later}
use Rattle.pv_rules_code.proofs.CallLaws.{OnCalls, on_calls, join_calls, same_calls}

-- ---- of the block that a call runs

pub of_runs : (c : Callee) (Q : BlockTree → Place → Type 0) (f : BlockTree → Option Place) → ((b : BlockTree) → IsNearest (Q b) (f b))
    → IsNearest (λ at. (block : BlockTree) × (c ≡ runs block) × Q block at) (option_and_then f (block_of_callee c))
of_runs (runs b) Q f one =
    nearest_same (Q b) (λ at. (block : BlockTree) × (runs b ≡ runs block) × Q block at) (f b) (λ at q. (b, refl, q))
    (λ at h. subst (λ x. Q x at) (sym (ap (λ c. unwrap_or (block_of_callee c) b) h.1)) h.2) (one b)
of_runs (not_declared p) Q f one = λ at h. true≢false (sym (ap (λ c. is_some (block_of_callee c)) h.1))
of_runs (not_callable p) Q f one = λ at h. true≢false (sym (ap (λ c. is_some (block_of_callee c)) h.1))
of_runs unknown Q f one = λ at h. true≢false (sym (ap (λ c. is_some (block_of_callee c)) h.1))

-- ---- arguments for no parameter

none_to : {X : Type 0} (o : Option X) → IsTrue (is_none o) → o ≡ None
none_to None h = refl
none_to (Some x) h = absurd (true≢false (sym h))

none_from : {X : Type 0} (o : Option X) → o ≡ None → IsTrue (is_none o)
none_from o e = ap is_none e

abbrev IsUnknown : How → Place → BlockTree → ArgTree → Type 0
IsUnknown how at block a = (place_of_word a ≡ at) × (param_for how block a ≡ None)

unknown_nearest : (how : How) (b : BlockTree) (a : ArgTree) → IsNearest (λ at. IsUnknown how at b a) (unknown_at how b a)
unknown_nearest how b a =
    nearest_same (λ at. (place_of_word a ≡ at) × IsTrue (is_none (param_for how b a))) (λ at. IsUnknown how at b a) (unknown_at how b a)
    (λ at h. (h.0, none_to (param_for how b a) h.1)) (λ at h. (h.0, none_from (param_for how b a) h.1))
    (nearest_where (is_none (param_for how b a)) (place_of_word a))

abbrev Runs : Callee → (BlockTree → Type 0) → Type 0
Runs c Q = (block : BlockTree) × (c ≡ runs block) × Q block

out_of : (c : Callee) (Q : BlockTree → ArgTree → Type 0) (as_ : List ArgTree) → HasSome (λ a. Runs c (λ b. Q b a)) as_
    → Runs c (λ b. HasSome (Q b) as_)
out_of c Q [] h = absurd h
out_of c Q (a ∷ as_) (inl h) = (h.0, h.1, inl h.2)
out_of c Q (a ∷ as_) (inr h) = let r = out_of c Q as_ h in (r.0, r.1, inr r.2)

into : (c : Callee) (Q : BlockTree → ArgTree → Type 0) (as_ : List ArgTree) (b : BlockTree) → c ≡ runs b → HasSome (Q b) as_
    → HasSome (λ a. Runs c (λ b. Q b a)) as_
into c Q [] b is h = absurd h
into c Q (a ∷ as_) b is (inl q) = inl (b, is, q)
into c Q (a ∷ as_) b is (inr h) = inr (into c Q as_ b is h)

abbrev HasUnknown : Scope → Place → CallSite → Type 0
HasUnknown scope at s = Runs (callee_of scope s) (λ b. Any (IsUnknown s.how at b) s.call.args)

unknowns_nearest : (scope : Scope) (loops : List Loop) (s : CallSite)
    → IsNearest (λ at. HasUnknown scope at s) (call_place (ask.Args pass.Unknown) scope loops s)
unknowns_nearest scope loops s =
    let c = callee_of scope s in
    nearest_same (λ at. Any (λ a. Runs c (λ b. IsUnknown s.how at b a)) s.call.args) (λ at. HasUnknown scope at s)
    (call_place (ask.Args pass.Unknown) scope loops s)
    (λ at h. let r = out_of c (IsUnknown s.how at) s.call.args (any_has (λ a. Runs c (λ b. IsUnknown s.how at b a)) s.call.args h) in
    (r.0, r.1, has_any (IsUnknown s.how at r.0) s.call.args r.2))
    (λ at h. has_any (λ a. Runs c (λ b. IsUnknown s.how at b a)) s.call.args
    (into c (IsUnknown s.how at) s.call.args h.0 h.1 (any_has (IsUnknown s.how at h.0) s.call.args h.2)))
    (in_any (λ a at. Runs c (λ b. IsUnknown s.how at b a)) (arg_place pass.Unknown scope loops c s.how)
    (λ a. of_runs c (λ b at. IsUnknown s.how at b a) (λ b. unknown_at s.how b a) (λ b. unknown_nearest s.how b a)) s.call.args)

-- ---- words that stand twice

key_to : (keys : List (List ℕ)) (key : List ℕ) → IsTrue (list_any (bytes_eq key) keys) → Has keys key
key_to [] key h = absurd (true≢false (sym h))
key_to (k ∷ keys) key h = by (bytes_eq key k) refl (λ g. key_to keys key g) h
  where
    by : (b : Bool) → bytes_eq key k ≡ b → (IsTrue (list_any (bytes_eq key) keys) → Has keys key) → IsTrue (b || list_any (bytes_eq key) keys)
        → Has (k ∷ keys) key
    by true e rest g = inl (sym ((bytes_eq-Decides key k).0 e))
    by false e rest g = inr (rest g)

key_from : (keys : List (List ℕ)) (key : List ℕ) → Has keys key → IsTrue (list_any (bytes_eq key) keys)
key_from [] key h = absurd h
key_from (k ∷ keys) key (inl e) = ap (λ b. b || list_any (bytes_eq key) keys) ((bytes_eq-Decides key k).1 (sym e))
key_from (k ∷ keys) key (inr h) = elim (bytes_eq key k) as (λ b. IsTrue (b || list_any (bytes_eq key) keys)) [ true ↦ refl | false ↦ key_from keys key h ]

later_nearest : (A : Place → Type 0) (keys : List (List ℕ)) (names : List PlacedName) (n : Option Place) → IsNearest A n
    → IsNearest (λ at. A at ⊎ IsLaterBehind keys names at) (later_from keys names n)
later_nearest A keys [] n h = nearest_same A (λ at. A at ⊎ ⊥) n (λ at a. inl a) (λ at e. elim e [ inl a ↦ a | inr b ↦ absurd b ]) h
later_nearest A keys (m ∷ more) n h =
    nearest_same (λ at. (A at ⊎ (Has keys m.0.key × (m.1 ≡ at))) ⊎ IsLaterBehind (keys ++ m.0.key ∷ []) more at)
    (λ at. A at ⊎ IsLaterBehind keys (m ∷ more) at) (later_from keys (m ∷ more) n)
    (λ at e. elim e [ inl f ↦ elim f [ inl a ↦ inl a | inr b ↦ inr (inl b) ] | inr b ↦ inr (inr b) ])
    (λ at e. elim e [ inl a ↦ inl (inl a) | inr f ↦ elim f [ inl b ↦ inl (inr b) | inr b ↦ inr b ] ])
    (later_nearest (λ at. A at ⊎ (Has keys m.0.key × (m.1 ≡ at))) (keys ++ m.0.key ∷ []) more
    (nearer_of n (place_where (list_any (bytes_eq m.0.key) keys) m.1))
    (nearest_both A (λ at. Has keys m.0.key × (m.1 ≡ at)) n (place_where (list_any (bytes_eq m.0.key) keys) m.1) h
    (nearest_same (λ at. (m.1 ≡ at) × IsTrue (list_any (bytes_eq m.0.key) keys)) (λ at. Has keys m.0.key × (m.1 ≡ at))
    (place_where (list_any (bytes_eq m.0.key) keys) m.1)
    (λ at g. (key_to keys m.0.key g.1, g.0)) (λ at g. (g.1, key_from keys m.0.key g.0))
    (nearest_where (list_any (bytes_eq m.0.key) keys) m.1))))

later_word_nearest : (args : List ArgTree) → IsNearest (IsLater (words_of_args args)) (later_word args)
later_word_nearest args =
    nearest_same (λ at. ⊥ ⊎ IsLaterBehind [] (words_of_args args) at) (IsLater (words_of_args args)) (later_word args)
    (λ at e. elim e [ inl b ↦ absurd b | inr h ↦ later_is (words_of_args args) at h ]) (λ at h. inr (is_later (words_of_args args) at h))
    (later_nearest (λ at. ⊥) [] (words_of_args args) None (λ at b. b))

abbrev HasLater : Scope → Place → CallSite → Type 0
HasLater scope at s = Runs (callee_of scope s) (λ b. IsLater (words_of_args s.call.args) at)

laters_nearest : (scope : Scope) (loops : List Loop) (s : CallSite) → IsNearest (λ at. HasLater scope at s) (call_place ask.Later scope loops s)
laters_nearest scope loops s =
    of_runs (callee_of scope s) (λ b at. IsLater (words_of_args s.call.args) at) (later_at s) (λ b. later_word_nearest s.call.args)

-- ---- what isn't given

not_true : (b : Bool) → (IsTrue b → ⊥) → IsTrue (not b)
not_true true h = absurd (h refl)
not_true false h = refl

of_not_true : (b : Bool) → IsTrue (not b) → IsTrue b → ⊥
of_not_true true h g = true≢false (sym h)
of_not_true false h g = true≢false (sym g)

and_first : (a b : Bool) → IsTrue (a && b) → IsTrue a
and_first true b h = refl
and_first false b h = h

and_second : (a b : Bool) → IsTrue (a && b) → IsTrue b
and_second true b h = h
and_second false b h = absurd (true≢false (sym h))

and_both : (a b : Bool) → IsTrue a → IsTrue b → IsTrue (a && b)
and_both true b h g = g
and_both false b h g = absurd (true≢false (sym h))

gives_from : (key : List ℕ) (o : Option Param) → IsSomeAnd o (λ q. q.key ≡ key) → IsTrue (gives key o)
gives_from key None h = absurd h
gives_from key (Some q) e = (bytes_eq-Decides key q.key).1 (sym e)

gives_to : (key : List ℕ) (o : Option Param) → IsTrue (gives key o) → IsSomeAnd o (λ q. q.key ≡ key)
gives_to key None h = absurd (true≢false (sym h))
gives_to key (Some q) h = sym ((bytes_eq-Decides key q.key).0 h)

and_never : (a : Bool) → IsTrue ((a && false) || false) → ⊥
and_never true h = true≢false (sym h)
and_never false h = true≢false (sym h)

param_must : (b : BlockTree) (section : _) → IsTrue (must_be b section) → is_param section ≡ true
param_must b Input h = refl
param_must b Output h = absurd (and_never (is_fc b.kind) h)
param_must b InOut h = refl
param_must b Static h = absurd (and_never (is_fc b.kind) h)
param_must b Temp h = absurd (and_never (is_fc b.kind) h)
param_must b Const h = absurd (and_never (is_fc b.kind) h)

module _ (how : How) (b : BlockTree) (args : List ArgTree) where
  given_to : (p : Param) → IsGiven how b args p → IsTrue (is_given how b args p.key)
  given_to p g =
      list_any-from_Any (λ a. gives p.key (param_for how b a)) args
      (any_map (λ a. IsSomeAnd (param_for how b a) (λ q. q.key ≡ p.key)) (λ a. IsTrue (gives p.key (param_for how b a)))
      (λ a h. gives_from p.key (param_for how b a) h) args g)

  given_from : (p : Param) → IsTrue (is_given how b args p.key) → IsGiven how b args p
  given_from p h =
      any_map (λ a. IsTrue (gives p.key (param_for how b a))) (λ a. IsSomeAnd (param_for how b a) (λ q. q.key ≡ p.key))
      (λ a g. gives_to p.key (param_for how b a) g) args (Any-from_list_any (λ a. gives p.key (param_for how b a)) args h)

  abbrev IsLack : VarTree → Type 0
  IsLack v = IsTrue (is_lacking how b args v)

  lack_to : (v : VarTree) → IsLack v → Lacks how b args (param_of v)
  lack_to v h = (
    and_first (must_be b (section_of v)) (not (is_given how b args (name_of v).key)) h,
    λ g. of_not_true (is_given how b args (name_of v).key) (and_second (must_be b (section_of v)) (not (is_given how b args (name_of v).key)) h)
        (given_to (param_of v) g),
  )

  lack_from : (v : VarTree) → Lacks how b args (param_of v) → IsLack v
  lack_from v l =
      and_both (must_be b (section_of v)) (not (is_given how b args (name_of v).key)) l.0
      (not_true (is_given how b args (name_of v).key) (λ t. l.1 (given_from (param_of v) t)))

  lacks_to : (vars : List VarTree) → HasSome IsLack vars → HasSome (Lacks how b args) (params_of_vars vars)
  lacks_to [] h = h
  lacks_to (var name section ty start place ∷ xs) (inl h) =
      subst (λ c. HasSome (Lacks how b args) (cond c (param_of (var name section ty start place) ∷ params_of_vars xs) (params_of_vars xs)))
      (sym (param_must b section (and_first (must_be b section) (not (is_given how b args name.key)) h)))
      (inl (lack_to (var name section ty start place) h))
  lacks_to (var name section ty start place ∷ xs) (inr h) =
      elim (is_param section) as (λ c. HasSome (Lacks how b args)
      (cond c (param_of (var name section ty start place) ∷ params_of_vars xs) (params_of_vars xs))) [
        | true ↦ inr (lacks_to xs h)
        | false ↦ lacks_to xs h
      ]

  lacks_from : (vars : List VarTree) → HasSome (Lacks how b args) (params_of_vars vars) → HasSome IsLack vars
  lacks_from [] h = h
  lacks_from (var name section ty start place ∷ xs) h =
      elim (is_param section) as (λ c. HasSome (Lacks how b args)
      (cond c (param_of (var name section ty start place) ∷ params_of_vars xs) (params_of_vars xs))
      → HasSome IsLack (var name section ty start place ∷ xs)) [
        | true ↦ λ g. elim g [ inl l ↦ inl (lack_from (var name section ty start place) l) | inr r ↦ inr (lacks_from xs r) ]
        | false ↦ λ g. inr (lacks_from xs g)
      ] h

  value_never : HasSome (Lacks how b args) (value_param how b) → ⊥
  value_never h =
      elim (is_by_stl how && is_none (first_var b.vars value_key)) as (λ c. HasSome (Lacks how b args)
      (cond c (elim b.value [ None ↦ [] | Some ty ↦ record { key = value_key; section = Output; ty = plain ty } ∷ [] ]) []) → ⊥) [
        | true ↦ elim b.value as (λ o. HasSome (Lacks how b args)
            (elim o [ None ↦ [] | Some ty ↦ record { key = value_key; section = Output; ty = plain ty } ∷ [] ]) → ⊥) [
              | None ↦ λ g. g
              | Some ty ↦ λ g. elim g [ inl l ↦ and_never (is_fc b.kind) l.0 | inr n ↦ n ]
            ]
        | false ↦ λ g. g
      ] h

  pub some_lacks : IsTrue (lacks_some how b args) → Any (Lacks how b args) (params_of how b)
  some_lacks h =
      any_append (Lacks how b args) (params_of_vars b.vars) (value_param how b)
      (inl (has_any (Lacks how b args) (params_of_vars b.vars)
      (lacks_to b.vars (any_has IsLack b.vars (Any-from_list_any (is_lacking how b args) b.vars h)))))

  pub lacks_some_of : Any (Lacks how b args) (params_of how b) → IsTrue (lacks_some how b args)
  lacks_some_of a =
      list_any-from_Any (is_lacking how b args) b.vars
      (has_any IsLack b.vars (lacks_from b.vars
      (elim (any_of_append (Lacks how b args) (params_of_vars b.vars) (value_param how b) a) [
        | inl l ↦ any_has (Lacks how b args) (params_of_vars b.vars) l
        | inr v ↦ absurd (value_never (any_has (Lacks how b args) (value_param how b) v))
      ])))

-- looked for among those that have to be given
pub lacks_by_needed : (how : How) (b : BlockTree) (args : List ArgTree) (f : Firsts) → ((key : List ℕ) → is_in f key ≡ is_given how b args key)
    → (vars : List VarTree) → list_any (is_out f) (needed_among b.kind vars) ≡ list_any (is_lacking how b args) vars
lacks_by_needed how b args f same [] = refl
lacks_by_needed how b args f same (v ∷ vs) =
    elim (must_be b (section_of v)) as (λ m. list_any (is_out f) (cond m (v ∷ needed_among b.kind vs) (needed_among b.kind vs))
    ≡ ((m && not (is_given how b args (name_of v).key)) || list_any (is_lacking how b args) vs)) [
      | true ↦ ap (λ k. not k || list_any (is_out f) (needed_among b.kind vs)) (same (name_of v).key)
          ∙ ap (λ k. not (is_given how b args (name_of v).key) || k) (lacks_by_needed how b args f same vs)
      | false ↦ lacks_by_needed how b args f same vs
    ]

abbrev HasLack : Scope → Place → CallSite → Type 0
HasLack scope at s = Runs (callee_of scope s) (λ b. (s.call.place ≡ at) × Any (Lacks s.how b s.call.args) (params_of s.how b))

lacks_nearest : (scope : Scope) (loops : List Loop) (s : CallSite) → IsNearest (λ at. HasLack scope at s) (call_place ask.Lacking scope loops s)
lacks_nearest scope loops s =
    of_runs (callee_of scope s) (λ b at. (s.call.place ≡ at) × Any (Lacks s.how b s.call.args) (params_of s.how b)) (lacking_at s)
    (λ b. nearest_same (λ at. (s.call.place ≡ at) × IsTrue (lacks_some s.how b s.call.args))
    (λ at. (s.call.place ≡ at) × Any (Lacks s.how b s.call.args) (params_of s.how b)) (lacking_at s b)
    (λ at h. (h.0, some_lacks s.how b s.call.args h.1)) (λ at h. (h.0, lacks_some_of s.how b s.call.args h.1))
    (nearest_where (lacks_some s.how b s.call.args) s.call.place))

-- ---- the rule

abbrev AllOf : Scope → Place → CallSite → Type 0
AllOf scope at s = HasUnknown scope at s ⊎ (HasLater scope at s ⊎ HasLack scope at s)

all_to : (scope : Scope) (at : Place) (s : CallSite) → AllOf scope at s → CallGivesWrong scope at s
all_to scope at s (inl h) = (h.0, h.1, inl h.2)
all_to scope at s (inr (inl h)) = (h.0, h.1, inr (inl h.2))
all_to scope at s (inr (inr h)) = (h.0, h.1, inr (inr h.2))

all_from : (scope : Scope) (at : Place) (s : CallSite) → CallGivesWrong scope at s → AllOf scope at s
all_from scope at s h = elim h.2 [
  | inl q ↦ inl (h.0, h.1, q)
  | inr r ↦ elim r [ inl q ↦ inr (inl (h.0, h.1, q)) | inr q ↦ inr (inr (h.0, h.1, q)) ]
]

pub wrong_argument : (project : ProjectTree) (x y z : Option Place) → x ≡ project_place (site.Call (ask.Args pass.Unknown)) project
    → y ≡ project_place (site.Call ask.Later) project → z ≡ project_place (site.Call ask.Lacking) project
    → IsNearest (IsWrongArgument project) (nearer_of x (nearer_of y z))
wrong_argument project x y z is_x is_y is_z =
    same_calls AllOf CallGivesWrong project (nearer_of x (nearer_of y z)) all_to all_from
    (join_calls HasUnknown (λ scope at s. HasLater scope at s ⊎ HasLack scope at s) project x (nearer_of y z)
    (nearest_is (OnCalls HasUnknown project) x (project_place (site.Call (ask.Args pass.Unknown)) project) is_x
    (on_calls (ask.Args pass.Unknown) HasUnknown unknowns_nearest project))
    (join_calls HasLater HasLack project y z
    (nearest_is (OnCalls HasLater project) y (project_place (site.Call ask.Later) project) is_y (on_calls ask.Later HasLater laters_nearest project))
    (nearest_is (OnCalls HasLack project) z (project_place (site.Call ask.Lacking) project) is_z (on_calls ask.Lacking HasLack lacks_nearest project))))
