-- The gates name nodes and have the values of the terms: what stands beside each bit has the bit's value.
--
-- Three inductions over a term are kept apart: it grows (no condition), it names nodes (it names bits that there are), it has the value.
-- Each then is a few lines.
use Rattle.std.proofs.Common.{◌≡◌, ◌<◌, ℕ, suc, ℤ, pos, neg_ℤ, List, [], ◌∷◌, length, Bool, true, false, not, ◌&&◌, ◌||◌, cond}
use Rattle.std.proofs.Common.{refl, sym, ◌∙◌, ap, subst, inl, inr, arith}
use Rattle.std.proofs.Common.{get_or, set, Some, None, Option, All}
use Rattle.std.specs.List.{AllByRecursion}
use Rattle.std.specs.Ordering.{int_eq}
use Rattle.std.proofs.lemmas.Bool.{cases_eq}
use Rattle.std.proofs.lemmas.List.{length-set, get_or-set_same, get_or-set_other, get_or-map, map-set}
use Rattle.pv_gate.specs.declared.netlist.Node.{Node}
use Rattle.pv_gate.specs.declared.netlist.Node.TheVariants.{And}
use Rattle.pv_gate.specs.Node.{Names, true_literal, false_literal}
use Rattle.pv_gate.specs.Netlist.{IsNetlist, MayFollow}
use Rattle.pv_gate.specs.Value.{value_of}
use Rattle.pv_gate.specs.Build.{Made, present, share, shared_at, number_of, lower, higher, and_gate, or_gate}
use Rattle.pv_gate.proofs.ForCallers.{Names-neg, Names-more, Names-lower, Names-higher, IsNetlist-push, one_node, value_of-append}
use Rattle.pv_gate.proofs.ForCallers.{value_of-neg, value_of-true, value_of-false, and_builds, or_builds}
use Rattle.pv_bool.specs.Tree.{TermTree, constant, load, negation, conjunction, disjunction, AssignmentTree, IsTermOver, IsAssignmentOver}
use Rattle.pv_bool.specs.Scans.{value_in, run_body}
use Rattle.pv_circuit.specs.Circuits.{Literals, values_of}
use Rattle.pv_step.specs.Circuits.{Wires, constant_literal, term_gate, assign_gate, body_gates}
use Rattle.pv_step.proofs.Growth.{Grows, length-grows, grows_term}

-- ---- nodes in order

netlist_if : (b : Bool) (x y : Made) → IsNetlist x.nodes → IsNetlist y.nodes → IsNetlist (cond b x y).nodes
netlist_if true x y p q = p
netlist_if false x y p q = q

netlist_shared : (nodes : List Node) (node : Node) (o : Option ℕ) → IsNetlist nodes → MayFollow nodes node
    → IsNetlist (shared_at nodes node o).nodes
netlist_shared nodes node (Some n) h next = h
netlist_shared nodes node None h next = IsNetlist-push nodes node h next

netlist_share : (nodes : List Node) (node : Node) → IsNetlist nodes → MayFollow nodes node → IsNetlist (share nodes node).nodes
unfolding share
netlist_share nodes node h next = netlist_shared nodes node (number_of node nodes) h next

netlist_and : (nodes : List Node) (a b : ℤ) → IsNetlist nodes → Names (length nodes) a → Names (length nodes) b
    → IsNetlist (and_gate nodes a b).nodes
unfolding and_gate
netlist_and nodes a b h p q =
    let new = share nodes (And (lower a b) (higher a b)) in
    let same = cond (int_eq b true_literal || int_eq a b) (present nodes a) new in
    let other = cond (int_eq a true_literal) (present nodes b) same in
    netlist_if (int_eq a false_literal || (int_eq b false_literal || int_eq a (neg_ℤ b))) (present nodes false_literal) other h
    (netlist_if (int_eq a true_literal) (present nodes b) same h
    (netlist_if (int_eq b true_literal || int_eq a b) (present nodes a) new h
    (netlist_share nodes (And (lower a b) (higher a b)) h (Names-lower (length nodes) a b p q, Names-higher (length nodes) a b p q))))

netlist_or : (nodes : List Node) (a b : ℤ) → IsNetlist nodes → Names (length nodes) a → Names (length nodes) b
    → IsNetlist (or_gate nodes a b).nodes
unfolding or_gate
netlist_or nodes a b h p q = netlist_and nodes (neg_ℤ a) (neg_ℤ b) h (Names-neg (length nodes) a p) (Names-neg (length nodes) b q)

-- ---- what literals stand for

-- each literal names a node
pub record AreNamed (nodes : List Node) (literals : Literals) : Type 0 where
  pub each : (k : ℕ) → k < length literals → Names (length nodes) (get_or literals k (pos 0))

-- what is made names a node
pub record IsNamed (made : Made) : Type 0 where
  pub netlist : IsNetlist made.nodes
  pub names : Names (length made.nodes) made.literal

pub value-grows : (inputs : ℕ → Bool) (a b : List Node) (l : ℤ) → Grows a b → Names (length a) l → value_of inputs b l ≡ value_of inputs a l
value-grows inputs a b l more names = ap (λ ns. value_of inputs ns l) more.is ∙ value_of-append inputs a more.added l names

pub named-grows : (a b : List Node) (literals : Literals) → Grows a b → AreNamed a literals → AreNamed b literals
named-grows a b literals more named =
    record { each = λ k lt. Names-more (length a) (length b) (get_or literals k (pos 0)) (length-grows a b more) (named.each k lt) }

pub values-grow : (inputs : ℕ → Bool) (a b : List Node) (literals : Literals) → Grows a b → AreNamed a literals
    → values_of inputs b literals ≡ values_of inputs a literals
values-grow inputs a b [] more named = refl
values-grow inputs a b (l ∷ ls) more named =
    ap (λ v. v ∷ values_of inputs b ls) (value-grows inputs a b l more (named.each 0 (omega arith)))
    ∙ ap (λ vs. value_of inputs a l ∷ vs) (values-grow inputs a b ls more (record { each = λ k lt. named.each (suc k) (omega arith) }))

pub named_from_all : (nodes : List Node) (literals : Literals) → All (Names (length nodes)) literals → AreNamed nodes literals
named_from_all nodes literals all = record { each = λ k lt. all k (pos 0) lt }

-- ---- terms name nodes

named_and : (nodes : List Node) (a b : ℤ) → IsNetlist nodes → Names (length nodes) a → Names (length nodes) b → IsNamed (and_gate nodes a b)
named_and nodes a b h p q = record { netlist = netlist_and nodes a b h p q; names = (and_builds nodes a b h p q).names }

named_or : (nodes : List Node) (a b : ℤ) → IsNetlist nodes → Names (length nodes) a → Names (length nodes) b → IsNamed (or_gate nodes a b)
named_or nodes a b h p q = record { netlist = netlist_or nodes a b h p q; names = (or_builds nodes a b h p q).names }

named_constant : (nodes : List Node) (b : Bool) → IsNetlist nodes → Names (length nodes) (constant_literal b)
named_constant nodes true h = record { from_one = omega arith; to_last = omega (arith, one_node nodes h) }
named_constant nodes false h = record { from_one = omega arith; to_last = omega (arith, one_node nodes h) }

pub named_term : (literals : Literals) (nodes : List Node) (t : TermTree) → IsNetlist nodes → AreNamed nodes literals
    → IsTermOver (length literals) t → IsNamed (term_gate literals nodes t)
named_term literals nodes (constant b) h named over = record { netlist = h; names = named_constant nodes b h }
named_term literals nodes (load n) h named over = record { netlist = h; names = named.each n over }
named_term literals nodes (negation t) h named over =
    let a = term_gate literals nodes t in
    let is = named_term literals nodes t h named over in
    record { netlist = is.netlist; names = Names-neg (length a.nodes) a.literal is.names }
named_term literals nodes (conjunction s t) h named over =
    let a = term_gate literals nodes s in
    let b = term_gate literals a.nodes t in
    let l = named_term literals nodes s h named over.0 in
    let r = named_term literals a.nodes t l.netlist (named-grows nodes a.nodes literals (grows_term literals nodes s) named) over.1 in
    named_and b.nodes a.literal b.literal r.netlist (Names-more (length a.nodes) (length b.nodes) a.literal
    (length-grows a.nodes b.nodes (grows_term literals a.nodes t)) l.names) r.names
named_term literals nodes (disjunction s t) h named over =
    let a = term_gate literals nodes s in
    let b = term_gate literals a.nodes t in
    let l = named_term literals nodes s h named over.0 in
    let r = named_term literals a.nodes t l.netlist (named-grows nodes a.nodes literals (grows_term literals nodes s) named) over.1 in
    named_or b.nodes a.literal b.literal r.netlist (Names-more (length a.nodes) (length b.nodes) a.literal
    (length-grows a.nodes b.nodes (grows_term literals a.nodes t)) l.names) r.names

-- ---- assignments name nodes

named_set : (nodes : List Node) (literals : Literals) (n : ℕ) (l : ℤ) → n < length literals → AreNamed nodes literals
    → Names (length nodes) l → AreNamed nodes (set literals n l)
named_set nodes literals n l lt named names =
    let P : ℤ → Type 0 = λ z. Names (length nodes) z in
    record {
      each = λ k below. elim (cases_eq k n) [
        | inl e ↦ subst P (sym (ap (λ j. get_or (set literals n l) j (pos 0)) e ∙ get_or-set_same literals n l (pos 0) lt)) names
        | inr ne ↦ subst P (sym (get_or-set_other literals n k l (pos 0) ne)) (named.each k (omega (arith, length-set literals n l)))
      ];
    }

-- the wires name nodes, with a literal for each of n bits
pub record AreWires (n : ℕ) (w : Wires) : Type 0 where
  pub same_length : length w.literals ≡ n
  pub netlist : IsNetlist w.nodes
  pub named : AreNamed w.nodes w.literals

over_literals : (n m : ℕ) (t : TermTree) → m ≡ n → IsTermOver n t → IsTermOver m t
over_literals n m t e over = subst (λ k. IsTermOver k t) (sym e) over

pub wires_named : (n : ℕ) (w : Wires) (t : TermTree) → AreWires n w → IsTermOver n t → IsNamed (term_gate w.literals w.nodes t)
wires_named n w t is over = named_term w.literals w.nodes t is.netlist is.named (over_literals n (length w.literals) t is.same_length over)

pub wires_assign : (n : ℕ) (w : Wires) (a : AssignmentTree) → AreWires n w → IsAssignmentOver n a → AreWires n (assign_gate w a)
wires_assign n w a is over =
    let made = term_gate w.literals w.nodes a.value in
    let named = wires_named n w a.value is over.value in
    record {
      same_length = length-set w.literals a.target made.literal ∙ is.same_length;
      netlist = named.netlist;
      named = named_set made.nodes w.literals a.target made.literal (omega (arith, over.target, is.same_length))
          (named-grows w.nodes made.nodes w.literals (grows_term w.literals w.nodes a.value) is.named) named.names;
    }

pub wires_body : (n : ℕ) (body : List AssignmentTree) (w : Wires) → AreWires n w → AllByRecursion (IsAssignmentOver n) body
    → AreWires n (body_gates body w)
wires_body n [] w is over = is
wires_body n (a ∷ body) w is over = wires_body n body (assign_gate w a) (wires_assign n w a is over.0) over.1

-- ---- values

or_is : (x y : Bool) → not (not x && not y) ≡ (x || y)
or_is true y = refl
or_is false true = refl
or_is false false = refl

constant_value : (inputs : ℕ → Bool) (nodes : List Node) (b : Bool) → IsNetlist nodes → value_of inputs nodes (constant_literal b) ≡ b
constant_value inputs nodes true h = value_of-true inputs nodes h
constant_value inputs nodes false h = value_of-false inputs nodes h

module _ (inputs : ℕ → Bool) where
  pub value_term : (literals : Literals) (nodes : List Node) (t : TermTree) → IsNetlist nodes → AreNamed nodes literals
      → IsTermOver (length literals) t
      → value_of inputs (term_gate literals nodes t).nodes (term_gate literals nodes t).literal
      ≡ value_in (values_of inputs nodes literals) t
  value_term literals nodes (constant b) h named over = constant_value inputs nodes b h
  value_term literals nodes (load n) h named over = sym (get_or-map (value_of inputs nodes) literals n (pos 0) false over)
  value_term literals nodes (negation t) h named over =
      let a = term_gate literals nodes t in
      let is = named_term literals nodes t h named over in
      value_of-neg inputs a.nodes (length a.nodes) a.literal is.names ∙ ap not (value_term literals nodes t h named over)
  value_term literals nodes (conjunction s t) h named over =
      let a = term_gate literals nodes s in
      let b = term_gate literals a.nodes t in
      let grown = grows_term literals nodes s in
      let more = grows_term literals a.nodes t in
      let l = named_term literals nodes s h named over.0 in
      let at_a = named-grows nodes a.nodes literals grown named in
      let r = named_term literals a.nodes t l.netlist at_a over.1 in
      let left = value-grows inputs a.nodes b.nodes a.literal more l.names ∙ value_term literals nodes s h named over.0 in
      let right = value_term literals a.nodes t l.netlist at_a over.1
      ∙ ap (λ f. value_in f t) (values-grow inputs nodes a.nodes literals grown named) in
      (and_builds b.nodes a.literal b.literal r.netlist (Names-more (length a.nodes) (length b.nodes) a.literal
      (length-grows a.nodes b.nodes more) l.names) r.names).value inputs
      ∙ (ap (λ x. x && value_of inputs b.nodes b.literal) left ∙ ap (λ y. value_in (values_of inputs nodes literals) s && y) right)
  value_term literals nodes (disjunction s t) h named over =
      let a = term_gate literals nodes s in
      let b = term_gate literals a.nodes t in
      let grown = grows_term literals nodes s in
      let more = grows_term literals a.nodes t in
      let l = named_term literals nodes s h named over.0 in
      let at_a = named-grows nodes a.nodes literals grown named in
      let r = named_term literals a.nodes t l.netlist at_a over.1 in
      let left = value-grows inputs a.nodes b.nodes a.literal more l.names ∙ value_term literals nodes s h named over.0 in
      let right = value_term literals a.nodes t l.netlist at_a over.1
      ∙ ap (λ f. value_in f t) (values-grow inputs nodes a.nodes literals grown named) in
      (or_builds b.nodes a.literal b.literal r.netlist (Names-more (length a.nodes) (length b.nodes) a.literal
      (length-grows a.nodes b.nodes more) l.names) r.names).value inputs
      ∙ (or_is (value_of inputs b.nodes a.literal) (value_of inputs b.nodes b.literal)
      ∙ (ap (λ x. x || value_of inputs b.nodes b.literal) left ∙ ap (λ y. value_in (values_of inputs nodes literals) s || y) right))

  -- the literals behind the assignments have the values of the frame behind them
  pub value_body : (n : ℕ) (body : List AssignmentTree) (w : Wires) → AreWires n w → AllByRecursion (IsAssignmentOver n) body
      → values_of inputs (body_gates body w).nodes (body_gates body w).literals ≡ run_body body (values_of inputs w.nodes w.literals)
  value_body n [] w is over = refl
  value_body n (a ∷ body) w is over =
      let made = term_gate w.literals w.nodes a.value in
      let frame = values_of inputs w.nodes w.literals in
      let one : values_of inputs made.nodes (set w.literals a.target made.literal) ≡ set frame a.target (value_in frame a.value) =
      map-set (value_of inputs made.nodes) w.literals a.target made.literal
      ∙ (ap (λ f. set f a.target (value_of inputs made.nodes made.literal))
      (values-grow inputs w.nodes made.nodes w.literals (grows_term w.literals w.nodes a.value) is.named)
      ∙ ap (λ v. set frame a.target v) (value_term w.literals w.nodes a.value is.netlist is.named
      (over_literals n (length w.literals) a.value is.same_length over.0.value))) in
      value_body n body (assign_gate w a) (wires_assign n w a is over.0) over.1 ∙ ap (run_body body) one
