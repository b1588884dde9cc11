-- A circuit only grows, and by gates alone. This holds of every gate without a condition, by cases on its tests. It gives the clause on
-- Limit at each `?` (`gate_count-grows`), keeps names and values, and counts nodes (`others-grows`).
--
-- At a `?` whose clause is a record over the result: `at_fault` takes `c.from_residual.ensures.1` and what the fault means; the record's
-- other fields are `tt`. `cond_both _ _ _ P` leaves its `_` open where no proof in it shows the test: a lemma `grown_if` by cases on the
-- test, with tests and branches given, closes.
use Rattle.std.proofs.Common.{◌≡◌, ◌≤◌, ◌<◌, ◌+◌, ℕ, suc, ℤ, pos, neg_ℤ, List, [], ◌∷◌, ◌++◌, length, map, refl, sym, ◌∙◌, ap, subst, arith}
use Rattle.std.proofs.Common.{Option, Some, None, Result, Ok, Err, append-nil, append_assoc, length-append, drop, get_or, drop-cons, Bool}
use Rattle.std.proofs.Common.{true, false, All}
use Rattle.std.proofs.Common.{◌||◌, cond, to_z, of_z, w32}
use Rattle.std.specs.Result.{IsErrAnd}
use Rattle.std.specs.Ordering.{int_eq}
use Rattle.std.proofs.lemmas.Int.{to_z-of_z}
use Rattle.std.proofs.lemmas.List.{length-map, get_or-map}
use Rattle.std.proofs.lemmas.List.Sums.{sum_by-append}
use mir.Val.{SFits}
use Rattle.pv_gate.specs.declared.fault.GateFault.{GateFault}
use Rattle.pv_gate.specs.declared.fault.GateFault.TheVariants.{Limit}
use Rattle.pv_gate.specs.declared.netlist.Node.{Node}
use Rattle.pv_gate.specs.declared.netlist.Node.TheVariants.{And}
use Rattle.pv_gate.specs.Node.{is_gate, is_input, gate_count, input_count, true_literal, false_literal}
use Rattle.pv_gate.specs.Netlist.{Netlist}
use Rattle.pv_gate.specs.Build.{Made, IsBeyond, present, share, shared_at, number_of, lower, higher, and_gate, or_gate}
use Rattle.pv_bool.specs.declared.program.Assignment.{Assignment}
use Rattle.pv_bool.specs.Tree.{TermTree, constant, load, negation, conjunction, disjunction, AssignmentTree, assignment_tree}
use Rattle.pv_bool.specs.Tree.{IsAssignmentOver}
use Rattle.pv_circuit.specs.Circuits.{Literals}
use Rattle.pv_step.specs.Circuits.{Wires, with_made, term_gate, assign_gate, body_gates, scan_gate}
use Rattle.pv_step.specs.Wiring.{Gives}

-- new has the nodes of old, and maybe gates after them
pub record Grows (old new : List Node) : Type 0 where
  pub added : List Node
  pub is : new ≡ old ++ added
  pub gates : gate_count added ≡ length added
  pub inputs : input_count added ≡ 0

pub grows_itself : (nodes : List Node) → Grows nodes nodes
grows_itself nodes = record { added = []; is = sym (append-nil nodes); gates = refl; inputs = refl }

gate_count-append : (xs ys : List Node) → gate_count (xs ++ ys) ≡ gate_count xs + gate_count ys
gate_count-append xs ys = sum_by-append (λ x. cond (is_gate x) 1 0) xs ys

input_count-append : (xs ys : List Node) → input_count (xs ++ ys) ≡ input_count xs + input_count ys
input_count-append xs ys = sum_by-append (λ x. cond (is_input x) 1 0) xs ys

pub grows_twice : (a b c : List Node) → Grows a b → Grows b c → Grows a c
grows_twice a b c p q = record {
  added = p.added ++ q.added;
  is = q.is ∙ (ap (λ xs. xs ++ q.added) p.is ∙ append_assoc a p.added q.added);
  gates = omega (arith, p.gates, q.gates, gate_count-append p.added q.added, length-append p.added q.added);
  inputs = omega (arith, p.inputs, q.inputs, input_count-append p.added q.added);
}

pub gate_count-grows : (a b : List Node) → Grows a b → gate_count a ≤ gate_count b
gate_count-grows a b p = omega (arith, ap gate_count p.is, gate_count-append a p.added)

pub length-grows : (a b : List Node) → Grows a b → length a ≤ length b
length-grows a b p = omega (arith, ap (λ (xs : List Node). length xs) p.is, length-append a p.added)

-- the nodes that aren't gates stay as many
pub others-grows : (a b : List Node) → Grows a b → length b + gate_count a ≡ length a + gate_count b
others-grows a b p = omega (
  arith,
  ap (λ (xs : List Node). length xs) p.is,
  length-append a p.added,
  ap gate_count p.is,
  gate_count-append
      a p.added,
  p.gates,
)

pub input_count-grows : (a b : List Node) → Grows a b → input_count b ≡ input_count a
input_count-grows a b p = omega (arith, ap input_count p.is, input_count-append a p.added, p.inputs)

-- ---- by each thing that is made

-- what is made is made by gates alone
record IsGrown (nodes : List Node) (made : Made) : Type 0 where
  grows : Grows nodes made.nodes

grown_itself : (nodes : List Node) (literal : ℤ) → IsGrown nodes (present nodes literal)
grown_itself nodes literal = record { grows = grows_itself nodes }

grown_shared : (nodes : List Node) (x y : ℤ) (o : Option ℕ) → IsGrown nodes (shared_at nodes (And x y) o)
grown_shared nodes x y (Some n) = grown_itself nodes (pos n)
grown_shared nodes x y None = record { grows = record { added = And x y ∷ []; is = refl; gates = refl; inputs = refl } }

grown_share : (nodes : List Node) (x y : ℤ) → IsGrown nodes (share nodes (And x y))
unfolding share
grown_share nodes x y = grown_shared nodes x y (number_of (And x y) nodes)

grown_if : (b : Bool) (nodes : List Node) (x y : Made) → IsGrown nodes x → IsGrown nodes y → IsGrown nodes (cond b x y)
grown_if true nodes x y p q = p
grown_if false nodes x y p q = q

grown_and : (nodes : List Node) (a b : ℤ) → IsGrown nodes (and_gate nodes a b)
unfolding and_gate
grown_and nodes a b =
    let new = share nodes (And (lower a b) (higher a b)) in
    let same = cond (int_eq b true_literal || int_eq a b) (present nodes a) new in
    let other = cond (int_eq a true_literal) (present nodes b) same in
    grown_if (int_eq a false_literal || (int_eq b false_literal || int_eq a (neg_ℤ b))) nodes (present nodes false_literal) other
    (grown_itself nodes false_literal)
    (grown_if (int_eq a true_literal) nodes (present nodes b) same (grown_itself nodes b)
    (grown_if (int_eq b true_literal || int_eq a b) nodes (present nodes a) new (grown_itself nodes a)
    (grown_share nodes (lower a b) (higher a b))))

pub grows_and : (nodes : List Node) (a b : ℤ) → Grows nodes (and_gate nodes a b).nodes
grows_and nodes a b = (grown_and nodes a b).grows

pub grows_or : (nodes : List Node) (a b : ℤ) → Grows nodes (or_gate nodes a b).nodes
unfolding or_gate
grows_or nodes a b = grows_and nodes (neg_ℤ a) (neg_ℤ b)

-- an operator's gate grows what it is given
pub record GrowsBoth (op : List Node → ℤ → ℤ → Made) : Type 0 where
  pub each : (nodes : List Node) (a b : ℤ) → Grows nodes (op nodes a b).nodes

pub both_and : GrowsBoth and_gate
both_and = record { each = grows_and }

pub both_or : GrowsBoth or_gate
both_or = record { each = grows_or }

-- what an operator makes of two terms
abbrev pub pair_gate : (List Node → ℤ → ℤ → Made) → Literals → List Node → TermTree → TermTree → Made
pair_gate op literals nodes s t =
    with_made (term_gate literals nodes s) (λ ms a. with_made (term_gate literals ms t) (λ ns b. op ns a b))

pub grows_term : (literals : Literals) (nodes : List Node) (t : TermTree) → Grows nodes (term_gate literals nodes t).nodes
grows_term literals nodes (constant b) = grows_itself nodes
grows_term literals nodes (load n) = grows_itself nodes
grows_term literals nodes (negation t) = grows_term literals nodes t
grows_term literals nodes (conjunction s t) =
    let a = term_gate literals nodes s in
    let b = term_gate literals a.nodes t in
    let whole = and_gate b.nodes a.literal b.literal in
    grows_twice nodes a.nodes whole.nodes (grows_term literals nodes s)
    (grows_twice a.nodes b.nodes whole.nodes (grows_term literals a.nodes t) (grows_and b.nodes a.literal b.literal))
grows_term literals nodes (disjunction s t) =
    let a = term_gate literals nodes s in
    let b = term_gate literals a.nodes t in
    let whole = or_gate b.nodes a.literal b.literal in
    grows_twice nodes a.nodes whole.nodes (grows_term literals nodes s)
    (grows_twice a.nodes b.nodes whole.nodes (grows_term literals a.nodes t) (grows_or b.nodes a.literal b.literal))

pub grows_body : (body : List AssignmentTree) (w : Wires) → Grows w.nodes (body_gates body w).nodes
grows_body [] w = grows_itself w.nodes
grows_body (a ∷ body) w =
    let next = assign_gate w a in
    grows_twice w.nodes next.nodes (body_gates body next).nodes (grows_term w.literals w.nodes a.value) (grows_body body next)

-- ---- what calls give

-- what a call returns at the exit of a `?` whose fault is the callee's
pub at_fault : (old new : Netlist) (made : Made) (result : Result ℤ GateFault) (fault : GateFault) → IsErrAnd result (λ f. f ≡ fault)
    → (fault ≡ Limit → IsBeyond old made)
    → Gives old new made result
at_fault old new made (Ok z) fault is beyond = absurd is
at_fault old new made (Err f) fault is beyond = record { literal = tt; nodes = tt; limit = λ e. beyond (sym is ∙ cc) }

-- what a part of it goes beyond, the whole does
beyond_more : (old middle : Netlist) (part made : Made) → middle.limit ≡ old.limit → Grows part.nodes made.nodes → IsBeyond middle part
    → IsBeyond old made
beyond_more old middle part made same more far = omega (arith, gate_count-grows part.nodes made.nodes more)

pub passed : (x y : ℤ) → SFits w32 x → x ≡ y → to_z w32 (of_z w32 x) ≡ y
passed x y fits e = to_z-of_z w32 x fits ∙ e

pub passed_complement : (x a : ℤ) → SFits w32 x → SFits w32 a → x ≡ neg_ℤ (to_z w32 (of_z w32 a)) → to_z w32 (of_z w32 x) ≡ neg_ℤ a
passed_complement x a fits fits_a e = to_z-of_z w32 x fits ∙ (e ∙ ap neg_ℤ (to_z-of_z w32 a fits_a))

-- ---- where an operand goes beyond the limit, the whole does

module _ (op : List Node → ℤ → ℤ → Made) (more : GrowsBoth op) (old : Netlist) (literals : Literals) where
  pub beyond_left : (l s t : TermTree) (made : Made) → l ≡ s → made ≡ pair_gate op literals old.nodes s t
      → IsBeyond old (term_gate literals old.nodes l) → IsBeyond old made
  beyond_left l s t made e is far =
      let a = term_gate literals old.nodes s in
      let b = term_gate literals a.nodes t in
      let whole = op b.nodes a.literal b.literal in
      let P : TermTree → Type 0 = λ x. IsBeyond old (term_gate literals old.nodes x) in
      let Q : Made → Type 0 = λ m. IsBeyond old m in
      subst Q (sym is) (beyond_more old old a whole refl (grows_twice a.nodes b.nodes whole.nodes (grows_term literals a.nodes t)
      (more.each b.nodes a.literal b.literal)) (subst P e far))

  pub beyond_right : (middle : Netlist) (l s r t : TermTree) (made : Made) → l ≡ s → r ≡ t
      → middle ≡ record old { nodes = (term_gate literals old.nodes l).nodes } → made ≡ pair_gate op literals old.nodes s t
      → IsBeyond middle (term_gate literals middle.nodes r) → IsBeyond old made
  beyond_right middle l s r t made e f there is far =
      let a = term_gate literals old.nodes s in
      let b = term_gate literals a.nodes t in
      let whole = op b.nodes a.literal b.literal in
      let after_left : Netlist = record old { nodes = a.nodes } in
      let at : middle ≡ after_left = there ∙ ap (λ x. let n : Netlist = record old { nodes = (term_gate literals old.nodes x).nodes } in
      n) e in
      let P : TermTree → Type 0 = λ x. IsBeyond after_left (term_gate literals after_left.nodes x) in
      let Q : Netlist → Type 0 = λ m. IsBeyond m (term_gate literals m.nodes r) in
      let R : Made → Type 0 = λ m. IsBeyond old m in
      subst R (sym is) (beyond_more old after_left b whole refl (more.each b.nodes a.literal b.literal) (subst P f (subst Q at far)))

-- where an assignment goes beyond the limit, all of them do
pub beyond_later : (all : List Assignment) (i : ℕ) (a : Assignment) (w start : Wires) (before limit : ℕ) → i < length all
    → a ≡ get_or all i a
    → body_gates (map assignment_tree (drop i all)) w ≡ body_gates (map assignment_tree all) start → before ≡ limit
    → before < gate_count (assign_gate w (assignment_tree a)).nodes
    → limit < gate_count (body_gates (map assignment_tree all) start).nodes
beyond_later all i a w start before limit lt is same same_limit far =
    let rest = map assignment_tree (drop (suc i) all) in
    let split : drop i all ≡ a ∷ drop (suc i) all = drop-cons all i a lt ∙ ap (λ x. x ∷ drop (suc i) all) (sym is) in
    let next = assign_gate w (assignment_tree a) in
    let more = gate_count-grows next.nodes (body_gates rest next).nodes (grows_body rest next) in
    let whole : body_gates rest next ≡ body_gates (map assignment_tree all) start = sym
    (ap (λ (xs : List Assignment). body_gates (map assignment_tree xs) w) split) ∙ same in
    omega (arith, more, ap (λ (v : Wires). gate_count v.nodes) whole)

-- where the assignments go beyond the limit, the scan does
pub beyond_scan : (body all : List Assignment) (w : Wires) (holds : TermTree) (limit : ℕ) → body ≡ all
    → limit < gate_count (body_gates (map assignment_tree body) w).nodes
    → limit < gate_count (scan_gate (map assignment_tree all) w holds).nodes
beyond_scan body all w holds limit same far =
    let end = body_gates (map assignment_tree all) w in
    let P : List Assignment → Type 0 = λ xs. limit < gate_count (body_gates (map assignment_tree xs) w).nodes in
    let at : limit < gate_count end.nodes = subst P same far in
    omega (arith, gate_count-grows end.nodes (scan_gate (map assignment_tree all) w holds).nodes (grows_term end.literals end.nodes holds))

-- ---- the assignment that the loop has come to

pub over_at : (n m : ℕ) (all : List Assignment) (i : ℕ) (a : Assignment) → m ≡ n → i < length all → a ≡ get_or all i a
    → All (IsAssignmentOver n) (map assignment_tree all) → IsAssignmentOver m (assignment_tree a)
over_at n m all i a same lt is over =
    let below : i < length (map assignment_tree all) = omega (arith, length-map all assignment_tree) in
    let at : get_or (map assignment_tree all) i (assignment_tree a)
    ≡ assignment_tree a = get_or-map assignment_tree all i a (assignment_tree a) lt ∙ ap assignment_tree (sym is) in
    let P : AssignmentTree → Type 0 = λ t. IsAssignmentOver n t in
    let Q : ℕ → Type 0 = λ k. IsAssignmentOver k (assignment_tree a) in
    subst Q (sym same) (subst P at (over i (assignment_tree a) below))

-- all assignments of a program, as a call has them
pub over_all : (n m : ℕ) (body all : List Assignment) → m ≡ n → body ≡ all → All (IsAssignmentOver n) (map assignment_tree all)
    → All (IsAssignmentOver m) (map assignment_tree body)
over_all n m body all e f over =
    let P : List Assignment → Type 0 = λ xs. All (IsAssignmentOver n) (map assignment_tree xs) in
    let Q : ℕ → Type 0 = λ k. All (IsAssignmentOver k) (map assignment_tree body) in
    subst Q (sym e) (subst P (sym f) over)
