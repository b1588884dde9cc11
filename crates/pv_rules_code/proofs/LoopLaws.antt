-- What is nearest at the FORs of a project is the least place at which their rules are broken.
use Rattle.std.proofs.Common.{◌≡◌, ℕ, inl, inr, refl, sym, List, [], ◌∷◌, Option, Some, None, Bool, true, false, ◌&&◌, ◌||◌, true≢false, IsTrue}
use Rattle.std.specs.Prelude.{◌⊎◌, pos, Any, option_to_list, option_and_then}
use Rattle.std.specs.Ordering.{int_eq}
use Rattle.std.proofs.lemmas.Bool.Decides.{Decides-int_eq}
use Rattle.std.proofs.lemmas.List.Folds.{Any-from_list_any, list_any-from_Any}
use Rattle.pv_place.specs.declared.place.Place.{Place}
use Rattle.pv_types.specs.declared.declaration.Literal.{Literal}
use Rattle.pv_tree.specs.Tree.{OperandTree, ArgTree, StmtTree, assign, assign_call, if_, case_, for_, while_, repeat_, exit_, continue_, return_, call_, empty_, InstrTree}
use Rattle.pv_tree.specs.LiteralTypes.{Want, nothing, this, unsure}
use Rattle.pv_tree.specs.Scopes.{ProjectTree, Scope}
use Rattle.pv_tree.specs.Things.{first_place, place_of_operand}
use Rattle.pv_tree.specs.Callees.{CallSite, callee_of, param_of_arg}
use Rattle.pv_tree.specs.Parts.{Loop, Spot, target_of, calls_of_stmt, calls_of_instruction, operand_of, want_of_counter}
use Rattle.pv_tree.specs.Rules.MissingNames.{counter_of}
use Rattle.pv_tree.specs.Rules.Targets.{goes_out_where}
use Rattle.pv_tree.specs.Rules.Loops.{isnt_counter, counts, IsNoCounter, IsCounted, word_of_operand, IsCountedOperand, WritesCounter, DisturbsCounter, IsWrongCounter, IsWrongBy, StepsWrong, IsWrongStep}
use Rattle.pv_rules_expr.specs.Nearest.{IsNearest}
use Rattle.pv_rules_expr.specs.Looks.{nearer_of}
use Rattle.pv_rules_expr.specs.NearestIn.{nearest_in}
use Rattle.pv_rules_code.specs.Counted.{is_counted, is_counted_operand, is_counted_where}
use Rattle.pv_rules_code.specs.AtCalls.{counter_at, arg_place, call_place}
use Rattle.pv_rules_code.specs.AtTargets.{counted_at}
use Rattle.pv_rules_code.specs.AtLoops.{count_at, is_outside_type, by_at, step_place}
use Rattle.pv_rules_code.specs.Sites.{project_place}
use Rattle.pv_rules_code.specs.Sought.Site as site
use Rattle.pv_rules_code.specs.Sought.Ask as ask
use Rattle.pv_rules_code.specs.Sought.Pass as pass
use Rattle.pv_rules_code.specs.Sought.Count.{Count}
use Rattle.pv_rules_code.specs.Sought.Count as count
use Rattle.pv_rules_code.specs.Sought.Stride as stride
use Rattle.pv_rules_expr.proofs.ForCallers.{any_has, has_any}
use Rattle.pv_rules_expr.proofs.ForCallers.{nearest_same, nearest_where}
use Rattle.pv_rules_expr.proofs.ForCallers.{in_any, nearest_is}
use Rattle.pv_rules_code.proofs.AnyLaws.{any_map, any_never, of_option_any}
use Rattle.pv_rules_code.proofs.SiteLaws.{OnSpots, over_project, on_spots, never_at, join_spots}

-- ---- the step

or_true : (a b : Bool) → IsTrue (a || b) → IsTrue a ⊎ IsTrue b
or_true true b h = inl refl
or_true false b h = inr h

true_or : (a b : Bool) → IsTrue a ⊎ IsTrue b → IsTrue (a || b)
true_or true b h = refl
true_or false b (inl h) = absurd (true≢false (sym h))
true_or false b (inr h) = h

wrong_to : (want : Want) (l : Literal) → IsTrue (int_eq l.value (pos 0) || is_outside_type want l) → IsWrongBy want l
wrong_to (this ty) l h = elim (or_true (int_eq l.value (pos 0)) (is_outside_type (this ty) l) h) [ inl z ↦ inl ((Decides-int_eq l.value (pos 0)).0 z) | inr w ↦ inr w ]
wrong_to nothing l h = elim (or_true (int_eq l.value (pos 0)) false h) [ inl z ↦ (Decides-int_eq l.value (pos 0)).0 z | inr w ↦ absurd (true≢false (sym w)) ]
wrong_to unsure l h = elim (or_true (int_eq l.value (pos 0)) false h) [ inl z ↦ (Decides-int_eq l.value (pos 0)).0 z | inr w ↦ absurd (true≢false (sym w)) ]

wrong_from : (want : Want) (l : Literal) → IsWrongBy want l → IsTrue (int_eq l.value (pos 0) || is_outside_type want l)
wrong_from (this ty) l (inl z) = true_or (int_eq l.value (pos 0)) (is_outside_type (this ty) l) (inl ((Decides-int_eq l.value (pos 0)).1 z))
wrong_from (this ty) l (inr w) = true_or (int_eq l.value (pos 0)) (is_outside_type (this ty) l) (inr w)
wrong_from nothing l z = true_or (int_eq l.value (pos 0)) false (inl ((Decides-int_eq l.value (pos 0)).1 z))
wrong_from unsure l z = true_or (int_eq l.value (pos 0)) false (inl ((Decides-int_eq l.value (pos 0)).1 z))

by_nearest : (want : Want) (l : Literal) → IsNearest (λ at. (l.place ≡ at) × IsWrongBy want l) (by_at stride.Wrong want l)
by_nearest want l =
    nearest_same (λ at. (l.place ≡ at) × IsTrue (int_eq l.value (pos 0) || is_outside_type want l)) (λ at. (l.place ≡ at) × IsWrongBy want l)
    (by_at stride.Wrong want l) (λ at h. (h.0, wrong_to want l h.1)) (λ at h. (h.0, wrong_from want l h.1))
    (nearest_where (int_eq l.value (pos 0) || is_outside_type want l) l.place)

step_nearest : (scope : Scope) (t : StmtTree) → IsNearest (λ at. StepsWrong scope at t) (step_place stride.Wrong scope t)
step_nearest scope (for_ name name_place first last by body place) =
    of_option_any (λ l at. (l.place ≡ at) × IsWrongBy (want_of_counter scope name name_place) l) (by_at stride.Wrong (want_of_counter scope name name_place))
    (by_nearest (want_of_counter scope name name_place)) by
step_nearest scope (assign target place value) = λ at h. h
step_nearest scope (assign_call target place call) = λ at h. h
step_nearest scope (if_ conditions other place) = λ at h. h
step_nearest scope (case_ selector choices other place) = λ at h. h
step_nearest scope (while_ condition body place) = λ at h. h
step_nearest scope (repeat_ body condition place) = λ at h. h
step_nearest scope (exit_ place) = λ at h. h
step_nearest scope (continue_ place) = λ at h. h
step_nearest scope (return_ place) = λ at h. h
step_nearest scope (call_ call) = λ at h. h
step_nearest scope (empty_ place) = λ at h. h

pub wrong_step : (project : ProjectTree) (o : Option Place) → o ≡ project_place (site.By stride.Wrong) project → IsNearest (IsWrongStep project) o
wrong_step project o is =
    nearest_is (IsWrongStep project) o (project_place (site.By stride.Wrong) project) is
    (on_spots (λ scope at s. StepsWrong scope at s.stmt) project (project_place (site.By stride.Wrong) project)
    (over_project (site.By stride.Wrong) (λ scope at s. StepsWrong scope at s.stmt) (λ scope at i. ⊥) (λ scope s. step_nearest scope s.stmt)
    never_at project))

-- ---- the variable

counted_to : (loops : List Loop) (key : List ℕ) → IsTrue (is_counted loops key) → IsCounted loops key
counted_to loops key h = Any-from_list_any (counts key) loops h

counted_from : (loops : List Loop) (key : List ℕ) → IsCounted loops key → IsTrue (is_counted loops key)
counted_from loops key a = list_any-from_Any (counts key) loops a

operand_to : (loops : List Loop) (o : OperandTree) → IsTrue (is_counted_operand loops o) → IsCountedOperand loops o
operand_to loops o h =
    any_map (λ n. IsTrue (is_counted loops n.0.key)) (λ n. IsCounted loops n.0.key) (λ n t. counted_to loops n.0.key t) (word_of_operand o)
    (Any-from_list_any (λ n. is_counted loops n.0.key) (word_of_operand o) h)

operand_from : (loops : List Loop) (o : OperandTree) → IsCountedOperand loops o → IsTrue (is_counted_operand loops o)
operand_from loops o a =
    list_any-from_Any (λ n. is_counted loops n.0.key) (word_of_operand o)
    (any_map (λ n. IsCounted loops n.0.key) (λ n. IsTrue (is_counted loops n.0.key)) (λ n t. counted_from loops n.0.key t) (word_of_operand o) a)

where_to : (loops : List Loop) (o : Option OperandTree) → IsTrue (is_counted_where loops o) → Any (IsCountedOperand loops) (option_to_list o)
where_to loops None h = absurd (true≢false (sym h))
where_to loops (Some o) h = has_any (IsCountedOperand loops) (o ∷ []) (inl (operand_to loops o h))

where_from : (loops : List Loop) (o : Option OperandTree) → Any (IsCountedOperand loops) (option_to_list o) → IsTrue (is_counted_where loops o)
where_from loops None a = absurd (any_has (IsCountedOperand loops) [] a)
where_from loops (Some o) a = elim (any_has (IsCountedOperand loops) (o ∷ []) a) [ inl c ↦ operand_from loops o c | inr b ↦ absurd b ]

abbrev Aims : Place → Spot → Type 0
Aims at s = Any (λ o. (place_of_operand o ≡ at) × IsCountedOperand s.loops o) (option_to_list (target_of s.stmt))

aims_nearest : (s : Spot) → IsNearest (λ at. Aims at s) (option_and_then (counted_at s.loops) (target_of s.stmt))
aims_nearest s =
    of_option_any (λ o at. (place_of_operand o ≡ at) × IsCountedOperand s.loops o) (counted_at s.loops)
    (λ o. nearest_same (λ at. (place_of_operand o ≡ at) × IsTrue (is_counted_operand s.loops o))
    (λ at. (place_of_operand o ≡ at) × IsCountedOperand s.loops o) (counted_at s.loops o)
    (λ at h. (h.0, operand_to s.loops o h.1)) (λ at h. (h.0, operand_from s.loops o h.1))
    (nearest_where (is_counted_operand s.loops o) (place_of_operand o))) (target_of s.stmt)

abbrev Passes : Scope → Place → Spot → Type 0
Passes scope at s = Any (λ c. Any (WritesCounter scope at s.loops c) c.call.args) (calls_of_stmt s.stmt)

and_first : (a b : Bool) → IsTrue (a && b) → IsTrue a
and_first true b h = refl
and_first false b h = h

and_second : (a b : Bool) → IsTrue (a && b) → IsTrue b
and_second true b h = h
and_second false b h = absurd (true≢false (sym h))

and_both : (a b : Bool) → IsTrue a → IsTrue b → IsTrue (a && b)
and_both true b h g = g
and_both false b h g = absurd (true≢false (sym h))

writes_nearest : (scope : Scope) (loops : List Loop) (c : CallSite) (a : ArgTree)
    → IsNearest (λ at. WritesCounter scope at loops c a) (counter_at loops (param_of_arg scope c a) a)
writes_nearest scope loops c a =
    let p = goes_out_where (param_of_arg scope c a) in
    let q = is_counted_where loops (operand_of a.value) in
    nearest_same (λ at. (first_place a.value ≡ at) × IsTrue (p && q)) (λ at. WritesCounter scope at loops c a)
    (counter_at loops (param_of_arg scope c a) a)
    (λ at h. (h.0, and_first p q h.1, where_to loops (operand_of a.value) (and_second p q h.1)))
    (λ at h. (h.0, and_both p q h.1 (where_from loops (operand_of a.value) h.2)))
    (nearest_where (p && q) (first_place a.value))

passes_nearest : (scope : Scope) (s : Spot)
    → IsNearest (λ at. Passes scope at s) (nearest_in (call_place (ask.Args pass.Counter) scope s.loops) (calls_of_stmt s.stmt) None)
passes_nearest scope s =
    in_any (λ c at. Any (WritesCounter scope at s.loops c) c.call.args) (call_place (ask.Args pass.Counter) scope s.loops)
    (λ c. in_any (λ a at. WritesCounter scope at s.loops c a) (arg_place pass.Counter scope s.loops (callee_of scope c) c.how)
    (writes_nearest scope s.loops c) c.call.args) (calls_of_stmt s.stmt)

passes_never : (scope : Scope) (at : Place) (i : InstrTree)
    → Any (λ c. Any (WritesCounter scope at [] c) c.call.args) (calls_of_instruction i) → ⊥
passes_never scope at i a =
    any_never (λ c. Any (WritesCounter scope at [] c) c.call.args)
    (λ c b. any_never (WritesCounter scope at [] c)
    (λ x w. any_never (IsCountedOperand [])
    (λ o k. any_never (λ n. IsCounted [] n.0.key) (λ n l. absurd (any_has (λ m. IsTrue (counts n.0.key m)) [] l)) (word_of_operand o) k)
    (option_to_list (operand_of x.value)) w.2) c.call.args b) (calls_of_instruction i) a

passes_nowhere : (scope : Scope) (i : InstrTree)
    → IsNearest (λ at. ⊥) (nearest_in (call_place (ask.Args pass.Counter) scope []) (calls_of_instruction i) None)
passes_nowhere scope i =
    nearest_same (λ at. Any (λ c. Any (WritesCounter scope at [] c) c.call.args) (calls_of_instruction i)) (λ at. ⊥)
    (nearest_in (call_place (ask.Args pass.Counter) scope []) (calls_of_instruction i) None)
    (λ at a. passes_never scope at i a) (λ at n. absurd n)
    (in_any (λ c at. Any (WritesCounter scope at [] c) c.call.args) (call_place (ask.Args pass.Counter) scope [])
    (λ c. in_any (λ a at. WritesCounter scope at [] c a) (arg_place pass.Counter scope [] (callee_of scope c) c.how)
    (writes_nearest scope [] c) c.call.args) (calls_of_instruction i))

abbrev Repeats : Place → Spot → Type 0
Repeats at s = Any (λ n. (n.1 ≡ at) × IsCounted s.loops n.0.key) (counter_of s.stmt)

repeats_nearest : (scope : Scope) (s : Spot) → IsNearest (λ at. Repeats at s) (nearest_in (count_at count.Inner scope s.loops) (counter_of s.stmt) None)
repeats_nearest scope s =
    in_any (λ n at. (n.1 ≡ at) × IsCounted s.loops n.0.key) (count_at count.Inner scope s.loops)
    (λ n. nearest_same (λ at. (n.1 ≡ at) × IsTrue (is_counted s.loops n.0.key)) (λ at. (n.1 ≡ at) × IsCounted s.loops n.0.key)
    (count_at count.Inner scope s.loops n)
    (λ at h. (h.0, counted_to s.loops n.0.key h.1)) (λ at h. (h.0, counted_from s.loops n.0.key h.1))
    (nearest_where (is_counted s.loops n.0.key) n.1)) (counter_of s.stmt)

is_no_nearest : (scope : Scope) (s : Spot) → IsNearest (λ at. IsNoCounter scope at s) (nearest_in (count_at count.Other scope s.loops) (counter_of s.stmt) None)
is_no_nearest scope s =
    in_any (λ n at. (n.1 ≡ at) × IsTrue (isnt_counter scope n.0.key n.1)) (count_at count.Other scope s.loops)
    (λ n. nearest_where (isnt_counter scope n.0.key n.1) n.1) (counter_of s.stmt)

pub wrong_counter : (project : ProjectTree) (w x y z : Option Place)
    → w ≡ project_place (site.Counter count.Other) project → x ≡ project_place site.CountedTarget project
    → y ≡ project_place (site.Call (ask.Args pass.Counter)) project → z ≡ project_place (site.Counter count.Inner) project
    → IsNearest (IsWrongCounter project) (nearer_of w (nearer_of x (nearer_of y z)))
wrong_counter project w x y z is_w is_x is_y is_z =
    join_spots (λ scope at s. IsNoCounter scope at s) (λ scope at s. DisturbsCounter scope at s) project w (nearer_of x (nearer_of y z))
    (nearest_is (OnSpots (λ scope at s. IsNoCounter scope at s) project) w (project_place (site.Counter count.Other) project) is_w
    (on_spots (λ scope at s. IsNoCounter scope at s) project (project_place (site.Counter count.Other) project)
    (over_project (site.Counter count.Other) (λ scope at s. IsNoCounter scope at s) (λ scope at i. ⊥) is_no_nearest never_at project)))
    (join_spots (λ scope at s. Aims at s) (λ scope at s. Passes scope at s ⊎ Repeats at s) project x (nearer_of y z)
    (nearest_is (OnSpots (λ scope at s. Aims at s) project) x (project_place site.CountedTarget project) is_x
    (on_spots (λ scope at s. Aims at s) project (project_place site.CountedTarget project)
    (over_project site.CountedTarget (λ scope at s. Aims at s) (λ scope at i. ⊥) (λ scope s. aims_nearest s) never_at project)))
    (join_spots (λ scope at s. Passes scope at s) (λ scope at s. Repeats at s) project y z
    (nearest_is (OnSpots (λ scope at s. Passes scope at s) project) y (project_place (site.Call (ask.Args pass.Counter)) project) is_y
    (on_spots (λ scope at s. Passes scope at s) project (project_place (site.Call (ask.Args pass.Counter)) project)
    (over_project (site.Call (ask.Args pass.Counter)) (λ scope at s. Passes scope at s) (λ scope at i. ⊥) passes_nearest passes_nowhere project)))
    (nearest_is (OnSpots (λ scope at s. Repeats at s) project) z (project_place (site.Counter count.Inner) project) is_z
    (on_spots (λ scope at s. Repeats at s) project (project_place (site.Counter count.Inner) project)
    (over_project (site.Counter count.Inner) (λ scope at s. Repeats at s) (λ scope at i. ⊥) repeats_nearest never_at project)))))
