-- The terms that checks add: after the nodes so far stand the guards of their edges, and last that none of them fails.
use Rattle.std.proofs.Common.{◌≡◌, ℕ, suc, ◌+◌, ◌*◌, ◌<◌, ◌≤◌, List, [], ◌∷◌, ◌++◌, map, length, true, nat_lt, refl, sym, subst, ap, ◌∙◌, arith}
use Rattle.std.specs.List.{AllByRecursion}
use Rattle.std.proofs.lemmas.Bool.{and_parts, and_from, lt-ltb}
use Rattle.pv_flow.specs.declared.term.Node.{Node}
use Rattle.pv_flow.specs.Terms.{Term}
use Rattle.pv_flow.specs.View.{term_at, term_of, terms_of}
use Rattle.pv_flow.specs.Tables.{has_operands, are_ordered}
use Rattle.pv_layout.specs.Spots.{Check, both, negated, none_of}
use Rattle.pv_layer.specs.declared.types.Check.{Check as CodeCheck}
use Rattle.pv_layer.specs.Making.{both_node, not_node, guard_nodes, last_none, way_nodes}
use Rattle.pv_layer.specs.Standing.{check_of}
use Rattle.pv_layer.proofs.Appended.{append_more, append_none, one_term, count_terms, same_term, last_term}

-- of each check's edge
abbrev pub guards_of : Term → List Check → List Term
guards_of none [] = []
guards_of none (check ∷ checks) = both check.fails none ∷ guards_of (both none (negated check.fails)) checks

-- where they stand, from node k on
abbrev pub trap_guards : ℕ → List CodeCheck → List ℕ
trap_guards k [] = []
trap_guards k (check ∷ checks) = k ∷ trap_guards (k + 3) checks

abbrev pub AreThere : ℕ → List CodeCheck → Type 0
AreThere k checks = AllByRecursion (λ (check : CodeCheck). check.fails < k) checks

-- ---- one node more

pub record HasMore (nodes : List Node) (n : Node) (t : Term) : Type 0 where
  pub same : (i : ℕ) → i < length nodes → term_at (terms_of (nodes ++ n ∷ [])) i ≡ term_at (terms_of nodes) i
  pub last : term_at (terms_of (nodes ++ n ∷ [])) (length nodes) ≡ t
  pub count : length (nodes ++ n ∷ []) ≡ suc (length nodes)

one_longer : (nodes : List Node) (n : Node) → length (nodes ++ n ∷ []) ≡ suc (length nodes)
one_longer [] n = refl
one_longer (x ∷ nodes) n = ap (λ (m : ℕ). suc m) (one_longer nodes n)

pub has_more : (nodes : List Node) (n : Node) → HasMore nodes n (term_of (terms_of nodes) n)
has_more nodes n = record {
  same = λ i lt. ap (λ (ts : List Term). term_at ts i) (one_term nodes n)
      ∙ same_term (terms_of nodes) (term_of (terms_of nodes) n ∷ []) i (let e = count_terms nodes in omega (arith, e, lt));
  last = ap (λ (ts : List Term). term_at ts (length nodes)) (one_term nodes n)
      ∙ (let e : length nodes ≡ length (terms_of nodes) = sym (count_terms nodes) in
      ap (λ (i : ℕ). term_at (terms_of nodes ++ term_of (terms_of nodes) n ∷ []) i) e ∙ last_term (terms_of nodes) (term_of (terms_of nodes) n));
  count = one_longer nodes n;
}

-- ---- operands stand before

ordered_more : (k : ℕ) (nodes : List Node) (n : Node) → are_ordered k nodes ≡ true → has_operands (k + length nodes) n ≡ true
    → are_ordered k (nodes ++ n ∷ []) ≡ true
ordered_more k [] n all has = and_from (has_operands k n) true (subst (λ (m : ℕ). has_operands m n ≡ true) here has) refl
  where
    here : k + 0 ≡ k
    here = omega arith
ordered_more k (x ∷ nodes) n all has =
    let parts = and_parts (has_operands k x) (are_ordered (suc k) nodes) all in
    and_from (has_operands k x) (are_ordered (suc k) (nodes ++ n ∷ [])) parts.0
    (ordered_more (suc k) nodes n parts.1 (subst (λ (m : ℕ). has_operands m n ≡ true) here has))
  where
    here : k + suc (length nodes) ≡ suc k + length nodes
    here = omega arith

pub one_ordered : (nodes : List Node) (n : Node) → are_ordered 0 nodes ≡ true → has_operands (length nodes) n ≡ true
    → are_ordered 0 (nodes ++ n ∷ []) ≡ true
one_ordered nodes n all has = ordered_more 0 nodes n all (subst (λ (m : ℕ). has_operands m n ≡ true) here has)
  where
    here : length nodes ≡ 0 + length nodes
    here = omega arith

both_below : (k a b : ℕ) → a < k → b < k → has_operands k (both_node a b) ≡ true
both_below k a b one other = and_from (nat_lt a k) (nat_lt b k) (lt-ltb a k one) (lt-ltb b k other)

not_below : (k a : ℕ) → a < k → has_operands k (not_node a) ≡ true
not_below k a lt = lt-ltb a k lt

-- ---- the nodes of one check

abbrev pub with_check : List Node → ℕ → ℕ → List Node
with_check nodes none fails =
    ((nodes ++ both_node fails none ∷ []) ++ not_node fails ∷ []) ++ both_node none (length nodes + 1) ∷ []

pub record HasCheck (nodes : List Node) (none fails : ℕ) : Type 0 where
  pub same : (i : ℕ) → i < length nodes → term_at (terms_of (with_check nodes none fails)) i ≡ term_at (terms_of nodes) i
  pub guard : term_at (terms_of (with_check nodes none fails)) (length nodes)
      ≡ both (term_at (terms_of nodes) fails) (term_at (terms_of nodes) none)
  pub next : term_at (terms_of (with_check nodes none fails)) (length nodes + 2)
      ≡ both (term_at (terms_of nodes) none) (negated (term_at (terms_of nodes) fails))
  pub count : length (with_check nodes none fails) ≡ length nodes + 3
  pub ordered : are_ordered 0 nodes ≡ true → are_ordered 0 (with_check nodes none fails) ≡ true

pub has_check : (nodes : List Node) (none fails : ℕ) → none < length nodes → fails < length nodes → HasCheck nodes none fails
has_check nodes none fails low high = record {
  same = λ i lt. c.same i (let x = a.count in let y = b.count in omega (arith, x, y, lt))
      ∙ (b.same i (let x = a.count in omega (arith, x, lt)) ∙ a.same i lt);
  guard = c.same (length nodes) (let x = a.count in let y = b.count in omega (arith, x, y))
      ∙ (b.same (length nodes) (let x = a.count in omega (arith, x)) ∙ a.last);
  next = ap (λ (i : ℕ). term_at (terms_of (with_check nodes none fails)) i) at_two ∙ (c.last
      ∙ (ap (λ (t : Term). both t (term_at (terms_of two) (length nodes + 1)))
      (b.same none (let x = a.count in omega (arith, x, low)) ∙ a.same none low)
      ∙ ap (λ (t : Term). both (term_at (terms_of nodes) none) t)
      (ap (λ (i : ℕ). term_at (terms_of two) i) at_one ∙ (b.last ∙ ap negated (a.same fails high)))));
  count = let x = a.count in let y = b.count in let z = c.count in omega (arith, x, y, z);
  ordered = λ o. one_ordered two (both_node none (length nodes + 1))
      (one_ordered one (not_node fails)
      (one_ordered nodes (both_node fails none) o (both_below (length nodes) fails none high low))
      (not_below (length one) fails (let x = a.count in omega (arith, x, high))))
      (both_below (length two) none (length nodes + 1) (let x = a.count in let y = b.count in omega (arith, x, y, low))
      (let x = a.count in let y = b.count in omega (arith, x, y)));
}
  where
    one : List Node
    one = nodes ++ both_node fails none ∷ []

    two : List Node
    two = one ++ not_node fails ∷ []

    a : HasMore nodes (both_node fails none) (both (term_at (terms_of nodes) fails) (term_at (terms_of nodes) none))
    a = has_more nodes (both_node fails none)

    b : HasMore one (not_node fails) (negated (term_at (terms_of one) fails))
    b = has_more one (not_node fails)

    c : HasMore two (both_node none (length nodes + 1)) (both (term_at (terms_of two) none) (term_at (terms_of two) (length nodes + 1)))
    c = has_more two (both_node none (length nodes + 1))

    at_one : length nodes + 1 ≡ length one
    at_one = let x = a.count in omega (arith, x)

    at_two : length nodes + 2 ≡ length two
    at_two = let x = a.count in let y = b.count in omega (arith, x, y)

-- ---- the nodes of all checks

checks_same : (ts us : List Term) (k : ℕ) (checks : List CodeCheck) → ((i : ℕ) → i < k → term_at ts i ≡ term_at us i) → AreThere k checks
    → map (check_of ts) checks ≡ map (check_of us) checks
checks_same ts us k [] same there = refl
checks_same ts us k (check ∷ checks) same there =
    ap (λ (t : Term). record { fails = t; kind = check.kind; place = check.place } ∷ map (check_of ts) checks) (same check.fails there.0)
    ∙ ap (λ (more : List Check). check_of us check ∷ more) (checks_same ts us k checks same there.1)

there_more : (k m : ℕ) (checks : List CodeCheck) → k ≤ m → AreThere k checks → AreThere m checks
there_more k m [] le there = tt
there_more k m (check ∷ checks) le there = (let lt = there.0 in omega (arith, lt, le), there_more k m checks le there.1)

pub record HasChecks (nodes : List Node) (none : ℕ) (checks : List CodeCheck) (all : List Node) : Type 0 where
  pub same : (i : ℕ) → i < length nodes → term_at (terms_of all) i ≡ term_at (terms_of nodes) i
  pub guards : map (λ (i : ℕ). term_at (terms_of all) i) (trap_guards (length nodes) checks)
      ≡ guards_of (term_at (terms_of nodes) none) (map (check_of (terms_of nodes)) checks)
  pub last : term_at (terms_of all) (last_none (length nodes) none checks)
      ≡ none_of (term_at (terms_of nodes) none) (map (check_of (terms_of nodes)) checks)
  pub count : length all ≡ length nodes + 3 * length checks
  pub there : last_none (length nodes) none checks < length all
  pub ordered : are_ordered 0 nodes ≡ true → are_ordered 0 all ≡ true

one_check : (nodes : List Node) (none : ℕ) (check : CodeCheck) (checks : List CodeCheck) (all : List Node) → none < length nodes
    → check.fails < length nodes → AreThere (length nodes) checks
    → HasChecks (with_check nodes none check.fails) (length nodes + 2) checks all → HasChecks nodes none (check ∷ checks) all
one_check nodes none check checks all low high there h = record {
  same = λ i lt. h.same i (let e = one.count in omega (arith, e, lt)) ∙ one.same i lt;
  guards = ap (λ (t : Term). t ∷ map (λ (i : ℕ). term_at (terms_of all) i) (trap_guards (length nodes + 3) checks)) first
      ∙ ap (λ (ts : List Term). both (term_at (terms_of nodes) check.fails) (term_at (terms_of nodes) none) ∷ ts)
      (ap (λ (k : ℕ). map (λ (i : ℕ). term_at (terms_of all) i) (trap_guards k checks)) (sym one.count)
      ∙ (h.guards ∙ (ap (λ (t : Term). guards_of t (map (check_of (terms_of (with_check nodes none check.fails))) checks)) one.next
      ∙ ap (λ (cs : List Check). guards_of next cs) rest)));
  last = ap (λ (k : ℕ). term_at (terms_of all) (last_none k (length nodes + 2) checks)) (sym one.count)
      ∙ (h.last ∙ (ap (λ (t : Term). none_of t (map (check_of (terms_of (with_check nodes none check.fails))) checks)) one.next
      ∙ ap (λ (cs : List Check). none_of next cs) rest));
  count = let e = one.count in let f = h.count in omega (arith, e, f);
  there = subst (λ (k : ℕ). last_none k (length nodes + 2) checks < length all) one.count h.there;
  ordered = λ o. h.ordered (one.ordered o);
}
  where
    one : HasCheck nodes none check.fails
    one = has_check nodes none check.fails low high

    next : Term
    next = both (term_at (terms_of nodes) none) (negated (term_at (terms_of nodes) check.fails))

    first : term_at (terms_of all) (length nodes) ≡ both (term_at (terms_of nodes) check.fails) (term_at (terms_of nodes) none)
    first = h.same (length nodes) (let e = one.count in omega (arith, e)) ∙ one.guard

    rest : map (check_of (terms_of (with_check nodes none check.fails))) checks ≡ map (check_of (terms_of nodes)) checks
    rest = checks_same (terms_of (with_check nodes none check.fails)) (terms_of nodes) (length nodes) checks one.same there

nodes_split : (nodes : List Node) (x y z : Node) (more : List Node)
    → (((nodes ++ x ∷ []) ++ y ∷ []) ++ z ∷ []) ++ more ≡ nodes ++ x ∷ y ∷ z ∷ more
nodes_split nodes x y z more = append_more ((nodes ++ x ∷ []) ++ y ∷ []) (z ∷ []) more
    ∙ (append_more (nodes ++ x ∷ []) (y ∷ []) (z ∷ more) ∙ append_more nodes (x ∷ []) (y ∷ z ∷ more))

pub has_checks : (nodes : List Node) (none : ℕ) (checks : List CodeCheck) → none < length nodes → AreThere (length nodes) checks
    → HasChecks nodes none checks (nodes ++ guard_nodes (length nodes) none checks)
has_checks nodes none [] low there = subst (λ (all : List Node). HasChecks nodes none [] all) (sym (append_none nodes))
    (record { same = λ i lt. refl; guards = refl; last = refl; count = omega arith; there = low; ordered = λ o. o })
has_checks nodes none (check ∷ checks) low there = one_check nodes none check checks
    (nodes ++ guard_nodes (length nodes) none (check ∷ checks)) low there.0 there.1
    (subst (λ (all : List Node). HasChecks (with_check nodes none check.fails) (length nodes + 2) checks all) whole
    (has_checks (with_check nodes none check.fails) (length nodes + 2) checks (let e = one.count in omega (arith, e))
    (there_more (length nodes) (length (with_check nodes none check.fails)) checks (let e = one.count in omega (arith, e)) there.1)))
  where
    one : HasCheck nodes none check.fails
    one = has_check nodes none check.fails low there.0

    whole : with_check nodes none check.fails ++ guard_nodes (length (with_check nodes none check.fails)) (length nodes + 2) checks
        ≡ nodes ++ guard_nodes (length nodes) none (check ∷ checks)
    whole = ap (λ (k : ℕ). with_check nodes none check.fails ++ guard_nodes k (length nodes + 2) checks) one.count
        ∙ nodes_split nodes (both_node check.fails none) (not_node check.fails) (both_node none (length nodes + 1))
        (guard_nodes (length nodes + 3) (length nodes + 2) checks)

-- ---- the guards of two ways

abbrev pub with_fork : List Node → ℕ → ℕ → List Node
with_fork nodes condition none =
    ((nodes ++ both_node condition none ∷ []) ++ not_node condition ∷ []) ++ both_node (length nodes + 1) none ∷ []

pub record HasFork (nodes : List Node) (condition none : ℕ) (all : List Node) : Type 0 where
  pub same : (i : ℕ) → i < length nodes → term_at (terms_of all) i ≡ term_at (terms_of nodes) i
  pub first : term_at (terms_of all) (length nodes) ≡ both (term_at (terms_of nodes) condition) (term_at (terms_of nodes) none)
  pub second : term_at (terms_of all) (length nodes + 2) ≡ both (negated (term_at (terms_of nodes) condition)) (term_at (terms_of nodes) none)
  pub count : length all ≡ length nodes + 3
  pub ordered : are_ordered 0 nodes ≡ true → are_ordered 0 all ≡ true

fork_made : (nodes : List Node) (condition none : ℕ) → condition < length nodes → none < length nodes
    → HasFork nodes condition none (with_fork nodes condition none)
fork_made nodes condition none high low = record {
  same = λ i lt. c.same i (let x = a.count in let y = b.count in omega (arith, x, y, lt))
      ∙ (b.same i (let x = a.count in omega (arith, x, lt)) ∙ a.same i lt);
  first = c.same (length nodes) (let x = a.count in let y = b.count in omega (arith, x, y))
      ∙ (b.same (length nodes) (let x = a.count in omega (arith, x)) ∙ a.last);
  second = ap (λ (i : ℕ). term_at (terms_of (with_fork nodes condition none)) i) at_two ∙ (c.last
      ∙ (ap (λ (t : Term). both t (term_at (terms_of two) none))
      (ap (λ (i : ℕ). term_at (terms_of two) i) at_one ∙ (b.last ∙ ap negated (a.same condition high)))
      ∙ ap (λ (t : Term). both (negated (term_at (terms_of nodes) condition)) t)
      (b.same none (let x = a.count in omega (arith, x, low)) ∙ a.same none low)));
  count = let x = a.count in let y = b.count in let z = c.count in omega (arith, x, y, z);
  ordered = λ o. one_ordered two (both_node (length nodes + 1) none)
      (one_ordered one (not_node condition)
      (one_ordered nodes (both_node condition none) o (both_below (length nodes) condition none high low))
      (not_below (length one) condition (let x = a.count in omega (arith, x, high))))
      (both_below (length two) (length nodes + 1) none (let x = a.count in let y = b.count in omega (arith, x, y))
      (let x = a.count in let y = b.count in omega (arith, x, y, low)));
}
  where
    one : List Node
    one = nodes ++ both_node condition none ∷ []

    two : List Node
    two = one ++ not_node condition ∷ []

    a : HasMore nodes (both_node condition none) (both (term_at (terms_of nodes) condition) (term_at (terms_of nodes) none))
    a = has_more nodes (both_node condition none)

    b : HasMore one (not_node condition) (negated (term_at (terms_of one) condition))
    b = has_more one (not_node condition)

    c : HasMore two (both_node (length nodes + 1) none) (both (term_at (terms_of two) (length nodes + 1)) (term_at (terms_of two) none))
    c = has_more two (both_node (length nodes + 1) none)

    at_one : length nodes + 1 ≡ length one
    at_one = let x = a.count in omega (arith, x)

    at_two : length nodes + 2 ≡ length two
    at_two = let x = a.count in let y = b.count in omega (arith, x, y)

pub has_fork : (nodes : List Node) (condition none : ℕ) → condition < length nodes → none < length nodes
    → HasFork nodes condition none (nodes ++ way_nodes (length nodes) condition none)
has_fork nodes condition none high low = subst (λ (all : List Node). HasFork nodes condition none all) whole (fork_made nodes condition none high low)
  where
    whole : with_fork nodes condition none ≡ nodes ++ way_nodes (length nodes) condition none
    whole = sym (append_none (with_fork nodes condition none))
        ∙ nodes_split nodes (both_node condition none) (not_node condition) (both_node (length nodes + 1) none) []

-- ---- more nodes of any kind

pub same_before : (nodes more : List Node) (i : ℕ) → i < length nodes → term_at (terms_of (nodes ++ more)) i ≡ term_at (terms_of nodes) i
same_before nodes [] i lt = ap (λ (all : List Node). term_at (terms_of all) i) (append_none nodes)
same_before nodes (n ∷ more) i lt = ap (λ (all : List Node). term_at (terms_of all) i) (sym (append_more nodes (n ∷ []) more))
    ∙ (same_before (nodes ++ n ∷ []) more i (let e = one_longer nodes n in omega (arith, e, lt)) ∙ (has_more nodes n).same i lt)
