-- What is found in arguments, and along the steps of an operand.
use Rattle.std.proofs.Common.{◌≡◌, ℕ, suc, ◌+◌, ◌<◌, ◌≤◌, refl, sym, ap, subst, ◌∙◌, List, [], ◌∷◌, ◌++◌, map, drop, take, length, get_or, arith, Option, None, Bool, true, false, ◌&&◌, if◌then◌else◌}
use Rattle.std.proofs.Math.Seq.{drop-cons}
use Rattle.std.proofs.lemmas.List.{take_all, drop_all, map-append}
use Rattle.std.proofs.lemmas.Simd.{map-map}
use Rattle.pv_place.specs.declared.place.Place.{Place}
use Rattle.pv_tree.specs.declared.expr.Expr.{Expr}
use Rattle.pv_tree.specs.declared.expr.StdFunction.{StdFunction}
use Rattle.pv_tree.specs.Tree.{ExprTree, read, std, OperandTree, operand, StepTree, index, StepTrees, no_steps, steps}
use Rattle.pv_tree.specs.View.{expr_tree, exprs_of}
use Rattle.pv_tree.specs.LiteralTypes.{Want, nothing}
use Rattle.pv_tree.specs.Sorts.{Sort, broken, wants_of}
use Rattle.pv_tree.specs.Scopes.{Scope}
use Rattle.pv_tree.specs.Things.{Thing, thing_at, last_behind, dated, thing_behind, thing_of, thing_of_root, root_place}
use Rattle.pv_tree.specs.Types.{literal_of, sort_of, sorts_of, sort_of_operand, sort_of_thing, is_indexed}
use Rattle.pv_tree.specs.Parts.{parts_of, parts_of_args, parts_of_operand, parts_of_steps, parts_of_step, IndexAt, path_of, indexes_of, indexes_of_step, indexes_behind}
use Rattle.pv_names.specs.Literals.{written_of}
use Rattle.pv_names.specs.Sorts.{sort_tree}
use Rattle.pv_names.specs.declared.sort.Sort as code
use Rattle.pv_names.proofs.ForCallers.{literal_told, IsOn, on_step, on_end, sorts_mapped}
use Rattle.pv_rules_expr.specs.Near.{near_at}
use Rattle.pv_rules_expr.specs.declared.near.Near.{Near}
use Rattle.pv_rules_expr.specs.Nearest.{nearer_of}
use Rattle.pv_rules_expr.specs.NearestIn.{nearest_in}
use Rattle.pv_rules_expr.specs.Looks.{near_parts, first_then, args_parts}
use Rattle.pv_rules_expr.specs.Indexes.{index_at, misuse_at}
use Rattle.pv_rules_expr.specs.Operands.{name_at, void_where, address_at}
use Rattle.pv_rules_expr.specs.Walks.{IsAdded, AreWritten, place_if, own_place, outside_place, within_place, args_outside, fault_place, end_place, faults_place, step_place, operand_place}
use Rattle.pv_rules_expr.specs.declared.search.Look.{Look}
use Rattle.pv_rules_expr.specs.declared.search.Look.TheVariants.{Misapplied, Outside, Missing, Void, Address, Misused, Beyond, Moving, Divides}
use Rattle.pv_rules_expr.specs.declared.indexes.IndexFault.TheVariants as fault
use Rattle.pv_rules_expr.proofs.NearerLaws.{nearer_none, nearer_commutes, nearer_joins, nearer_pairs, in_from, parts_from}
use Rattle.pv_rules_expr.proofs.MemberLaws.{taken_one}
use Rattle.pv_rules_expr.proofs.NearestLists.{in_append}
use Rattle.pv_rules_expr.proofs.Looking.{near_append, all_args}
use Rattle.pv_rules_expr.proofs.Within.{whole_parts, whole_added}

-- ---- arguments

abbrev pub args_within : Scope → List ExprTree → Look → Option Place
args_within scope [] what = None
args_within scope (e ∷ es) what = nearer_of (within_place scope e what) (args_within scope es what)

args_found : (what : Look) (scope : Scope) (a b : Want) (es : List ExprTree)
    → near_parts what scope (args_parts scope a b es) None ≡ nearer_of (args_within scope es what) (args_outside a b es what)
args_found what scope a b [] = refl
args_found what scope a b (e ∷ es) =
    near_append what scope (parts_of scope a e) (args_parts scope b b es) None
    ∙ parts_from what scope (args_parts scope b b es) (near_parts what scope (parts_of scope a e) None)
    ∙ ap (λ x. nearer_of x (near_parts what scope (args_parts scope b b es) None)) (whole_parts what scope a e)
    ∙ ap (nearer_of (nearer_of (within_place scope e what) (outside_place a e what))) (args_found what scope b b es)
    ∙ nearer_pairs (within_place scope e what) (outside_place a e what) (args_within scope es what) (args_outside b b es what)

-- the arguments that are left, behind one of them
pub args_next : (scope : Scope) (es : List Expr) (i j : ℕ) (e : Expr) (what : Look) (n m total : Option Place) → i < length es → e ≡ get_or es i e
    → j ≡ i + 1 → m ≡ nearer_of n (within_place scope (expr_tree e) what)
    → nearer_of n (args_within scope (map expr_tree (drop i es)) what) ≡ total
    → nearer_of m (args_within scope (map expr_tree (drop j es)) what) ≡ total
args_next scope es i j e what n m total inside is next looked left =
    let k : j ≡ suc i = omega (arith, next) in
    let x = within_place scope (expr_tree e) what in
    let rest = args_within scope (map expr_tree (drop (suc i) es)) what in
    ap (λ k. nearer_of m (args_within scope (map expr_tree (drop k es)) what)) k
    ∙ ap (λ y. nearer_of y rest) looked ∙ nearer_joins n x rest
    ∙ ap (λ l. nearer_of n (args_within scope (map expr_tree l) what))
    (sym (drop-cons es i e inside ∙ ap (λ y. y ∷ drop (suc i) es) (sym is)))
    ∙ left

pub std_within : (scope : Scope) (e : ExprTree) (f : StdFunction) (place : Place) (es : List Expr) (a b : Want) (what : Look)
    (n1 n2 n3 n4 : Option Place) → e ≡ std f place (exprs_of (map expr_tree es))
    → wants_of f (sorts_of scope (exprs_of (map expr_tree es))) ≡ first_then a b (sorts_of scope (exprs_of (map expr_tree es)))
    → n2 ≡ nearer_of n1 (args_within scope (map expr_tree es) what)
    → n3 ≡ nearer_of n2 (args_outside a b (map expr_tree es) what)
    → n4 ≡ nearer_of n3 (own_place scope (std f place (exprs_of (map expr_tree es))) what)
    → n4 ≡ nearer_of n1 (within_place scope e what)
std_within scope e f place es a b what n1 n2 n3 n4 is wants g h i =
    let args = exprs_of (map expr_tree es) in
    let within = args_within scope (map expr_tree es) what in
    let out = args_outside a b (map expr_tree es) what in
    let own = own_place scope (std f place args) what in
    i ∙ ap (λ x. nearer_of x own) (h ∙ ap (λ x. nearer_of x out) g ∙ nearer_joins n1 within out)
    ∙ nearer_joins n1 (nearer_of within out) own ∙ ap (nearer_of n1) (nearer_commutes (nearer_of within out) own)
    ∙ ap (λ x. nearer_of n1 (nearer_of own x))
    (sym (args_found what scope a b (map expr_tree es))
    ∙ ap (λ l. near_parts what scope l None) (sym (ap (λ w. parts_of_args scope w args) wants ∙ all_args what scope a b es)))
    ∙ ap (λ e. nearer_of n1 (within_place scope e what)) (sym is)

-- ---- steps

-- what is still to be found from a thing on
abbrev pub rest_place : Bool → Scope → Place → Thing → StepTrees → Look → Option Place
rest_place reads scope last thing more what =
    nearer_of (near_parts what scope (parts_of_steps scope more) None) (faults_place reads scope (indexes_behind scope last thing more) what)

faults_none : (reads : Bool) (scope : Scope) (what : Look) → faults_place reads scope [] what ≡ None
faults_none true scope what = refl
faults_none false scope what = refl

faults_append : (reads : Bool) (scope : Scope) (xs ys : List IndexAt) (what : Look)
    → faults_place reads scope (xs ++ ys) what ≡ nearer_of (faults_place reads scope xs what) (faults_place reads scope ys what)
faults_append true scope xs ys what =
    in_append (λ i. fault_place scope i what) xs ys None
    ∙ in_from (λ i. fault_place scope i what) ys (nearest_in (λ i. fault_place scope i what) xs None)
faults_append false scope xs ys what = refl

pub rest_none : (reads : Bool) (scope : Scope) (last : Place) (thing : Thing) (what : Look) → rest_place reads scope last thing no_steps what ≡ None
rest_none reads scope last thing what = faults_none reads scope what

rest_steps : (reads : Bool) (scope : Scope) (last : Place) (thing : Thing) (s : StepTree) (rest : StepTrees) (what : Look)
    → rest_place reads scope last thing (steps s rest) what
    ≡ nearer_of (step_place reads scope (dated last thing) s what)
    (rest_place reads scope (last_behind last s) (thing_at scope (dated last thing) s) rest what)
rest_steps reads scope last thing s rest what =
    let d = dated last thing in
    let here = indexes_of_step d s in
    let there = indexes_behind scope (last_behind last s) (thing_at scope d s) rest in
    let p = near_parts what scope (parts_of_step scope s) None in
    let q = near_parts what scope (parts_of_steps scope rest) None in
    ap (λ x. nearer_of x (faults_place reads scope (here ++ there) what))
    (near_append what scope (parts_of_step scope s) (parts_of_steps scope rest) None ∙ parts_from what scope (parts_of_steps scope rest) p)
    ∙ ap (nearer_of (nearer_of p q)) (faults_append reads scope here there what)
    ∙ nearer_pairs p q (faults_place reads scope here what) (faults_place reads scope there what)

-- one step more
pub rest_next : (reads : Bool) (scope : Scope) (last next : Place) (thing dated_one after : Thing) (all rest : StepTrees) (s : StepTree) (what : Look)
    (n m total : Option Place) → all ≡ steps s rest → dated_one ≡ dated last thing → next ≡ last_behind last s → after ≡ thing_at scope dated_one s
    → m ≡ nearer_of n (step_place reads scope dated_one s what)
    → nearer_of n (rest_place reads scope last thing all what) ≡ total
    → nearer_of m (rest_place reads scope next after rest what) ≡ total
rest_next reads scope last next thing dated_one after all rest s what n m total is dates lasts leads looked left =
    let d = dated last thing in
    ap (λ x. nearer_of x (rest_place reads scope next after rest what)) looked
    ∙ ap (λ p. nearer_of (nearer_of n (step_place reads scope dated_one s what)) (rest_place reads scope p after rest what)) lasts
    ∙ ap (λ t. nearer_of (nearer_of n (step_place reads scope dated_one s what)) (rest_place reads scope (last_behind last s) t rest what)) leads
    ∙ ap (λ t. nearer_of (nearer_of n (step_place reads scope t s what)) (rest_place reads scope (last_behind last s) (thing_at scope t s) rest what)) dates
    ∙ nearer_joins n (step_place reads scope d s what) (rest_place reads scope (last_behind last s) (thing_at scope d s) rest what)
    ∙ ap (nearer_of n) (sym (rest_steps reads scope last thing s rest what))
    ∙ ap (λ l. nearer_of n (rest_place reads scope last thing l what)) (sym is)
    ∙ left

-- ---- an operand that is read

none_in : (xs : List IndexAt) → nearest_in (λ i. None) xs None ≡ None
none_in [] = refl
none_in (x ∷ xs) = none_in xs

-- by itself it is what its indexes are, and what it comes to
read_split : (scope : Scope) (o : OperandTree) (what : Look)
    → nearer_of (faults_place true scope (indexes_of scope (path_of scope o)) what) (end_place o (thing_of scope o) what) ≡ own_place scope (read o) what
read_split scope (operand root more place) Misapplied = ap (λ x. nearer_of x None) (none_in (indexes_of scope (path_of scope (operand root more place))))
read_split scope (operand root more place) Outside = ap (λ x. nearer_of x None) (none_in (indexes_of scope (path_of scope (operand root more place))))
read_split scope (operand root more place) Missing = ap (λ x. nearer_of x (name_at (thing_of scope (operand root more place)))) (none_in (indexes_of scope (path_of scope (operand root more place))))
read_split scope (operand root more place) Void =
    ap (λ x. nearer_of x (void_where (thing_of scope (operand root more place)) (operand root more place))) (none_in (indexes_of scope (path_of scope (operand root more place))))
read_split scope (operand root more place) Address = ap (λ x. nearer_of x (address_at (operand root more place))) (none_in (indexes_of scope (path_of scope (operand root more place))))
read_split scope (operand root more place) Misused =
    nearer_commutes (index_at fault.OtherType scope (path_of scope (operand root more place))) (misuse_at (thing_of scope (operand root more place)))
read_split scope (operand root more place) Beyond = nearer_none (index_at fault.Beyond scope (path_of scope (operand root more place)))
read_split scope (operand root more place) Moving = nearer_none (index_at fault.Moving scope (path_of scope (operand root more place)))
read_split scope (operand root more place) Divides = ap (λ x. nearer_of x None) (none_in (indexes_of scope (path_of scope (operand root more place))))

pub read_within : (scope : Scope) (o : OperandTree) (what : Look) → operand_place true scope o what ≡ within_place scope (read o) what
read_within scope o what = nearer_commutes (near_parts what scope (parts_of_operand scope o) None) (own_place scope (read o) what)

-- what is to be found in the whole operand, from its beginning on
abbrev pub begun_place : Bool → Scope → OperandTree → Look → Option Place
begun_place reads scope (operand root more place) what = rest_place reads scope (root_place root place) (thing_of_root scope root place) more what

pub begun_operand : (reads : Bool) (scope : Scope) (o : OperandTree) (what : Look)
    → nearer_of (begun_place reads scope o what) (place_if reads (end_place o (thing_of scope o)) what) ≡ operand_place reads scope o what
begun_operand true scope (operand root more place) what =
    let o = operand root more place in
    nearer_joins (near_parts what scope (parts_of_steps scope more) None) (faults_place true scope (indexes_of scope (path_of scope o)) what)
    (end_place o (thing_of scope o) what)
    ∙ ap (nearer_of (near_parts what scope (parts_of_steps scope more) None)) (read_split scope o what)
begun_operand false scope (operand root more place) what = nearer_none (nearer_of (near_parts what scope (parts_of_steps scope more) None) None)

-- ---- one index

pub index_found : (reads : Bool) (scope : Scope) (thing : Thing) (s : StepTree) (e : ExprTree) (place : Place) (what : Look) (n1 n n2 n3 : Option Place)
    → s ≡ index e place
    → n ≡ nearer_of n1 (within_place scope e what)
    → n2 ≡ nearer_of n (outside_place nothing e what)
    → n3 ≡ nearer_of n2 (place_if reads (fault_place scope (record { within = thing; index = e })) what)
    → n3 ≡ nearer_of n1 (step_place reads scope thing s what)
index_found reads scope thing s e place what n1 n n2 n3 is here there added =
    let looked : n2 ≡ near_parts what scope (parts_of scope nothing e) n1 = whole_added what scope nothing e n1 n n2 here there in
    added ∙ by looked reads ∙ ap (λ s. nearer_of n1 (step_place reads scope thing s what)) (sym is)
  where
    by : n2 ≡ near_parts what scope (parts_of scope nothing e) n1 → (b : Bool) → nearer_of n2 (place_if b (fault_place scope (record { within = thing; index = e })) what)
        ≡ nearer_of n1 (step_place b scope thing (index e place) what)
    by looked true =
        ap (λ x. nearer_of x (fault_place scope (record { within = thing; index = e }) what)) (looked ∙ parts_from what scope (parts_of scope nothing e) n1)
        ∙ nearer_joins n1 (near_parts what scope (parts_of scope nothing e) None) (fault_place scope (record { within = thing; index = e }) what)
    by looked false =
        ap (λ x. nearer_of x None) (looked ∙ parts_from what scope (parts_of scope nothing e) n1)
        ∙ nearer_joins n1 (near_parts what scope (parts_of scope nothing e) None) None

-- ---- so far along a loop

-- the sorts of the arguments so far, and the places in them
pub record ArgsSoFar (scope : Scope) (args : List Expr) (i : ℕ) (parts : List code.Sort) (old now : Near) : Type 0 where
  pub sorts_are : map sort_tree parts ≡ map (λ e. sort_of scope (expr_tree e)) (take i args)
  pub found : (what : Look) → nearer_of (near_at what now) (args_within scope (map expr_tree (drop i args)) what)
      ≡ nearer_of (near_at what old) (args_within scope (map expr_tree args) what)

-- the way along an operand so far, and the places on it
pub record StepsSoFar (reads : Bool) (scope : Scope) (o : OperandTree) (last : Place) (thing : Thing) (indexed : Bool) (rest : StepTrees) (old now : Near) : Type 0 where
  pub on : IsOn scope o last thing indexed rest
  pub found : (what : Look) → nearer_of (near_at what now) (rest_place reads scope last thing rest what)
      ≡ nearer_of (near_at what old) (begun_place reads scope o what)

pub args_step : (scope : Scope) (args : List Expr) (i j : ℕ) (e : Expr) (parts more : List code.Sort) (s : code.Sort) (old now new : Near)
    → i < length args → e ≡ get_or args i e → j ≡ i + 1 → more ≡ parts ++ s ∷ []
    → sort_tree s ≡ sort_of scope (expr_tree e) → IsAdded (within_place scope (expr_tree e)) now new
    → ArgsSoFar scope args i parts old now → ArgsSoFar scope args j more old new
args_step scope args i j e parts more s old now new inside is next pushed same added h = record {
  sorts_are =
      ap (map sort_tree) pushed ∙ map-append sort_tree parts (s ∷ [])
      ∙ ap (λ l. l ++ sort_tree s ∷ []) h.sorts_are
      ∙ ap (λ x. map (λ e. sort_of scope (expr_tree e)) (take i args) ++ x ∷ []) same
      ∙ sym (taken_one (λ e. sort_of scope (expr_tree e)) args i e inside is)
      ∙ ap (λ n. map (λ e. sort_of scope (expr_tree e)) (take n args)) (sym next);
  found = λ what.
      args_next scope args i j e what (near_at what now) (near_at what new) (nearer_of (near_at what old) (args_within scope (map expr_tree args) what))
      inside is next (added what) (h.found what);
}

pub args_end : (scope : Scope) (args : List Expr) (i : ℕ) (parts : List code.Sort) (old now : Near) → length args ≤ i
    → ArgsSoFar scope args i parts old now → map sort_tree parts ≡ sorts_of scope (exprs_of (map expr_tree args))
args_end scope args i parts old now all h =
    h.sorts_are ∙ ap (map (λ e. sort_of scope (expr_tree e))) (take_all i args all) ∙ sorts_mapped scope args

pub args_all : (scope : Scope) (args : List Expr) (i : ℕ) (parts : List code.Sort) (old now : Near) (what : Look) → length args ≤ i
    → ArgsSoFar scope args i parts old now → near_at what now ≡ nearer_of (near_at what old) (args_within scope (map expr_tree args) what)
args_all scope args i parts old now what all h =
    sym (nearer_none (near_at what now))
    ∙ ap (λ l. nearer_of (near_at what now) (args_within scope (map expr_tree l) what)) (sym (drop_all i args all))
    ∙ h.found what

-- the sorts are those of literals where the arguments are literals
pub are_written : (scope : Scope) (args : List Expr) (parts : List code.Sort) → map sort_tree parts ≡ map (λ e. sort_of scope (expr_tree e)) args
    → AreWritten parts args
are_written scope args parts same =
    sym (map-map written_of sort_tree parts) ∙ ap (map written_of) same ∙ map-map written_of (λ e. sort_of scope (expr_tree e)) args
    ∙ each args
  where
    each : (args : List Expr) → map (λ e. written_of (sort_of scope (expr_tree e))) args ≡ map (λ e. literal_of (expr_tree e)) args
    each [] = refl
    each (e ∷ es) = ap (λ x. x ∷ map (λ e. written_of (sort_of scope (expr_tree e))) es) (sym (literal_told scope (expr_tree e)))
        ∙ ap (λ l. literal_of (expr_tree e) ∷ l) (each es)

pub steps_step : (reads : Bool) (scope : Scope) (o : OperandTree) (last next : Place) (thing dated_one after : Thing) (indexed fits both : Bool)
    (all rest : StepTrees) (s : StepTree) (old now new : Near)
    → all ≡ steps s rest → dated_one ≡ dated last thing → next ≡ last_behind last s → after ≡ thing_at scope dated_one s
    → fits ≡ is_indexed scope dated_one s → both ≡ (indexed && fits)
    → IsAdded (step_place reads scope dated_one s) now new
    → StepsSoFar reads scope o last thing indexed all old now → StepsSoFar reads scope o next after both rest old new
steps_step reads scope o last next thing dated_one after indexed fits both all rest s old now new is dates lasts leads fit test added h = record {
  on =
      subst (λ p. IsOn scope o p after both rest) (sym lasts)
      (subst (λ t. IsOn scope o (last_behind last s) t both rest) (sym (leads ∙ ap (λ t. thing_at scope t s) dates))
      (subst (λ b. IsOn scope o (last_behind last s) (thing_at scope (dated last thing) s) b rest)
      (sym (test ∙ ap (λ b. indexed && b) (fit ∙ ap (λ t. is_indexed scope t s) dates)))
      (on_step scope o last thing indexed all s rest is h.on)));
  found = λ what.
      rest_next reads scope last next thing dated_one after all rest s what (near_at what now) (near_at what new)
      (nearer_of (near_at what old) (begun_place reads scope o what)) is dates lasts leads (added what) (h.found what);
}

pub steps_sort : (reads : Bool) (scope : Scope) (o : OperandTree) (last : Place) (thing end : Thing) (indexed : Bool) (rest : StepTrees) (old now : Near)
    (s : Sort) → rest ≡ no_steps → end ≡ dated last thing → s ≡ (if indexed then sort_of_thing scope end else broken)
    → StepsSoFar reads scope o last thing indexed rest old now → s ≡ sort_of_operand scope o
steps_sort reads scope o last thing end indexed rest old now s none dates is h =
    is ∙ ap (λ t. if indexed then sort_of_thing scope t else broken) dates ∙ on_end scope o last thing indexed rest none h.on

pub steps_end : (reads : Bool) (scope : Scope) (o : OperandTree) (last : Place) (thing end : Thing) (indexed : Bool) (rest : StepTrees)
    (old now new : Near) (what : Look) → rest ≡ no_steps → end ≡ dated last thing → IsAdded (place_if reads (end_place o end)) now new
    → StepsSoFar reads scope o last thing indexed rest old now
    → near_at what new ≡ nearer_of (near_at what old) (operand_place reads scope o what)
steps_end reads scope o last thing end indexed rest old now new what none dates added h =
    let begun = begun_place reads scope o what in
    let comes : end ≡ thing_of scope o = dates ∙ ap (thing_behind scope last thing) (sym none) ∙ h.on.thing_is in
    let far : near_at what now ≡ nearer_of (near_at what old) begun =
    sym (nearer_none (near_at what now)) ∙ ap (nearer_of (near_at what now)) (sym (rest_none reads scope last thing what))
    ∙ ap (λ l. nearer_of (near_at what now) (rest_place reads scope last thing l what)) (sym none) ∙ h.found what in
    added what ∙ ap (λ x. nearer_of x (place_if reads (end_place o end) what)) far
    ∙ nearer_joins (near_at what old) begun (place_if reads (end_place o end) what)
    ∙ ap (λ t. nearer_of (near_at what old) (nearer_of begun (place_if reads (end_place o t) what))) comes
    ∙ ap (nearer_of (near_at what old)) (begun_operand reads scope o what)

-- the indexes alone
pub indexes_found : (scope : Scope) (o : OperandTree) (what : Look) (a b : Option Place) → b ≡ nearer_of a (operand_place false scope o what)
    → b ≡ near_parts what scope (parts_of_operand scope o) a
indexes_found scope o what a b added =
    added ∙ ap (nearer_of a) (nearer_none (near_parts what scope (parts_of_operand scope o) None)) ∙ sym (parts_from what scope (parts_of_operand scope o) a)
