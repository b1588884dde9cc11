-- What is made has the value that is meant, and older literals keep theirs.
use Rattle.std.proofs.Common.{◌≡◌, ℕ, ◌≤◌, ℤ, pos, negsuc, suc, zero, Bool, true, false, not, List, [], ◌∷◌, ◌++◌, length, get_or, refl, sym, ◌∙◌, ap, subst, arith, Some, None, Option, length-append, append-nil, unsigned_abs, neg_ℤ, int_eq, Ok}
use Rattle.pv_gate.specs.declared.literal.Literal.{Literal}
use Rattle.pv_gate.specs.Given.{Gives}
use Rattle.std.specs.Bool.{nat_le}
use Rattle.std.specs.Int.{is_negative}
use Rattle.std.specs.Cmp.{signed_Decides}
use Rattle.std.specs.List.{slice_get}
use Rattle.std.proofs.lemmas.Bool.{cond_both, le-ltb}
use Rattle.std.proofs.lemmas.List.{length_push}
use Rattle.std.proofs.lemmas.Option.{slice_get_within}
use Rattle.pv_gate.specs.declared.netlist.Node.{Node}
use Rattle.pv_gate.specs.declared.netlist.Node.TheVariants.{True, Input}
use Rattle.pv_gate.specs.Node.{Names, true_literal, false_literal, input_count}
use Rattle.pv_gate.specs.Netlist.{Netlist, IsNetlist, MayFollow, Extends, KeepsValues}
use Rattle.pv_gate.specs.Value.{exclusive_or, literal_value, node_value, node_values, value_of}
use Rattle.pv_gate.specs.Build.{Made, present, complemented, complemented_if, added, share, shared_at, number_of, lower, higher}
use Rattle.pv_gate.proofs.Lists.{number_from-found}
use Rattle.pv_gate.proofs.Values.{value_of-append, node_values_at, value_of_next}

-- the literal names a node, it has the value v, and the older nodes are there
pub record Builds (nodes : List Node) (v : (ℕ → Bool) → Bool) (made : Made) : Type 0 where
  pub extends : Extends nodes made.nodes
  pub names : Names (length made.nodes) made.literal
  pub value : (inputs : ℕ → Bool) → value_of inputs made.nodes made.literal ≡ v inputs

-- ---- literals

pub Names-neg : (n : ℕ) (l : ℤ) → Names n l → Names n (neg_ℤ l)
Names-neg n (pos zero) h = h
Names-neg n (pos (suc k)) h = record { from_one = omega (arith, h.from_one); to_last = omega (arith, h.to_last) }
Names-neg n (negsuc k) h = record { from_one = omega (arith, h.from_one); to_last = omega (arith, h.to_last) }

pub Names-abs : (n : ℕ) (l : ℤ) → Names n l → Names n (pos (unsigned_abs l))
Names-abs n (pos k) h = h
Names-abs n (negsuc k) h = record { from_one = omega (arith, h.from_one); to_last = omega (arith, h.to_last) }

pub Names-more : (m n : ℕ) (l : ℤ) → m ≤ n → Names m l → Names n l
Names-more m n l le h = record { from_one = h.from_one; to_last = omega (arith, h.to_last) }

pub Names-lower : (n : ℕ) (a b : ℤ) → Names n a → Names n b → Names n (lower a b)
Names-lower n a b p q = cond_both (nat_le (unsigned_abs a) (unsigned_abs b)) a b (Names n) (λ _. p) (λ _. q)

pub Names-higher : (n : ℕ) (a b : ℤ) → Names n a → Names n b → Names n (higher a b)
Names-higher n a b p q = cond_both (nat_le (unsigned_abs a) (unsigned_abs b)) b a (Names n) (λ _. q) (λ _. p)

not-not : (b : Bool) → not (not b) ≡ b
not-not true = refl
not-not false = refl

literal_value-neg : (vs : List Bool) (n : ℕ) (l : ℤ) → Names n l → literal_value vs (neg_ℤ l) ≡ not (literal_value vs l)
literal_value-neg vs n (pos zero) h = absurd (omega (arith, h.from_one))
literal_value-neg vs n (pos (suc k)) h = refl
literal_value-neg vs n (negsuc k) h = sym (not-not (get_or vs k false))

literal_value-abs : (vs : List Bool) (l : ℤ) → literal_value vs (pos (unsigned_abs l)) ≡ exclusive_or (is_negative l) (literal_value vs l)
literal_value-abs vs (pos zero) = refl
literal_value-abs vs (pos (suc k)) = ap (λ b. exclusive_or b (get_or vs k false)) (sym (le-ltb (suc k) 0 (omega arith)))
literal_value-abs vs (negsuc k) = sym (not-not (get_or vs k false))

pub value_of-neg : (inputs : ℕ → Bool) (nodes : List Node) (n : ℕ) (l : ℤ) → Names n l → value_of inputs nodes (neg_ℤ l) ≡ not (value_of inputs nodes l)
unfolding value_of
value_of-neg inputs nodes n l h = literal_value-neg (node_values inputs nodes) n l h

pub value_of-abs : (inputs : ℕ → Bool) (nodes : List Node) (l : ℤ) → value_of inputs nodes (pos (unsigned_abs l)) ≡ exclusive_or (is_negative l) (value_of inputs nodes l)
unfolding value_of
value_of-abs inputs nodes l = literal_value-abs (node_values inputs nodes) l

pub value_of-true : (inputs : ℕ → Bool) (nodes : List Node) → IsNetlist nodes → value_of inputs nodes true_literal ≡ true
unfolding value_of
value_of-true inputs nodes h = node_values_at inputs nodes 0 True h h.first

pub value_of-false : (inputs : ℕ → Bool) (nodes : List Node) → IsNetlist nodes → value_of inputs nodes false_literal ≡ false
unfolding value_of
value_of-false inputs nodes h = ap not (node_values_at inputs nodes 0 True h h.first)

pub int_eq-true : (x y : ℤ) → int_eq x y ≡ true → x ≡ y
int_eq-true x y h = (signed_Decides x y).0 h

-- ---- how one thing that is made is made of another

pub builds_present : (nodes : List Node) (v : (ℕ → Bool) → Bool) (l : ℤ) → Names (length nodes) l → ((inputs : ℕ → Bool) → value_of inputs nodes l ≡ v inputs) → Builds nodes v (present nodes l)
builds_present nodes v l names value = record {
  extends = record { added = []; is = sym (append-nil nodes) };
  names = names;
  value = value;
}

pub builds_same : (nodes : List Node) (v w : (ℕ → Bool) → Bool) (made : Made) → ((inputs : ℕ → Bool) → v inputs ≡ w inputs) → Builds nodes v made → Builds nodes w made
builds_same nodes v w made e h = record { extends = h.extends; names = h.names; value = λ inputs. h.value inputs ∙ e inputs }

pub builds_complemented : (nodes : List Node) (v : (ℕ → Bool) → Bool) (made : Made) → Builds nodes v made → Builds nodes (λ inputs. not (v inputs)) (complemented made)
builds_complemented nodes v made h = record {
  extends = h.extends;
  names = Names-neg (length made.nodes) made.literal h.names;
  value = λ inputs. value_of-neg inputs made.nodes (length made.nodes) made.literal h.names ∙ ap not (h.value inputs);
}

pub builds_complemented_if : (nodes : List Node) (v : (ℕ → Bool) → Bool) (flip : Bool) (made : Made) → Builds nodes v made → Builds nodes (λ inputs. exclusive_or flip (v inputs)) (complemented_if flip made)
builds_complemented_if nodes v true made h = builds_complemented nodes v made h
builds_complemented_if nodes v false made h = h

pub builds_added : (nodes : List Node) (node : Node) → IsNetlist nodes → MayFollow nodes node → Builds nodes (λ inputs. node_value inputs (node_values inputs nodes) node) (added nodes node)
builds_added nodes node h next = record {
  extends = record { added = node ∷ []; is = refl };
  names = record { from_one = omega arith; to_last = omega (arith, length_push nodes node) };
  value = λ inputs. value_of_next inputs nodes node;
}

builds_found : (nodes : List Node) (node : Node) (k : ℕ) → IsNetlist nodes → slice_get nodes k ≡ Some node → Builds nodes (λ inputs. node_value inputs (node_values inputs nodes) node) (present nodes (pos (suc k)))
unfolding value_of
builds_found nodes node k h at =
    builds_present nodes (λ inputs. node_value inputs (node_values inputs nodes) node) (pos (suc k))
    (record { from_one = omega arith; to_last = omega (arith, slice_get_within nodes k node at) })
    (λ inputs. node_values_at inputs nodes k node h at)

builds_shared : (nodes : List Node) (node : Node) (o : Option ℕ) → number_of node nodes ≡ o → IsNetlist nodes → MayFollow nodes node → Builds nodes (λ inputs. node_value inputs (node_values inputs nodes) node) (shared_at nodes node o)
builds_shared nodes node (Some m) e h next =
    let p = number_from-found 1 node nodes m e in
    let n : suc p.0 ≡ m = omega (arith, p.1) in
    subst (λ i. Builds nodes (λ inputs. node_value inputs (node_values inputs nodes) node) (present nodes (pos i))) n (builds_found nodes node p.0 h p.2)
builds_shared nodes node None e h next = builds_added nodes node h next

pub builds_share : (nodes : List Node) (node : Node) → IsNetlist nodes → MayFollow nodes node → Builds nodes (λ inputs. node_value inputs (node_values inputs nodes) node) (share nodes node)
unfolding share
builds_share nodes node h next = builds_shared nodes node _ refl h next

-- ---- in the terms of the calls

-- the clauses of a call that made this
pub record Told (old new : Netlist) (v : (ℕ → Bool) → Bool) (literal : ℤ) : Type 0 where
  pub value : (inputs : ℕ → Bool) → value_of inputs new.nodes literal ≡ v inputs
  pub names : Names (length new.nodes) literal
  pub extends : Extends old.nodes new.nodes
  pub longer : length old.nodes ≤ length new.nodes
  pub older : KeepsValues old.nodes new.nodes

pub told : (old new : Netlist) (v : (ℕ → Bool) → Bool) (made : Made) (literal : ℤ) → Builds old.nodes v made → literal ≡ made.literal → new ≡ record old { nodes = made.nodes } → Told old new v literal
told old new v made literal h e f =
    subst (λ (n : Netlist). Told old n v literal) (sym f)
    (subst (λ l. Told old (record old { nodes = made.nodes }) v l) (sym e) (record {
      value = h.value;
      names = h.names;
      extends = h.extends;
      longer = omega (arith, ap (λ (ns : List Node). length ns) h.extends.is, length-append old.nodes h.extends.added);
      older = λ inputs l names. ap (λ ns. value_of inputs ns l) h.extends.is ∙ value_of-append inputs old.nodes h.extends.added l names;
    }))

pub told_given : (old new : Netlist) (v : (ℕ → Bool) → Bool) (made other : Made) (l : Literal) (literal : ℤ) → Builds old.nodes v made → made ≡ other → Gives old new other (Ok l) → literal ≡ l.code → Told old new v literal
told_given old new v made other l literal h e g f =
    told old new v other literal (subst (λ (m : Made). Builds old.nodes v m) e h) (f ∙ g.literal) g.nodes

-- a new input, in the terms of the code
pub told_input : (old : Netlist) (nodes new : List Node) (limit inputs : ℕ) → record { nodes = nodes; limit = limit } ≡ old → IsNetlist nodes → new ≡ nodes ++ Input inputs ∷ [] → inputs ≡ input_count nodes → (literal : ℤ) → literal ≡ pos (suc (length old.nodes)) → Told old (record { nodes = new; limit = limit }) (λ values. values (input_count old.nodes)) literal
told_input old nodes new limit inputs e h f g literal =
    subst (λ (o : Netlist). literal ≡ pos (suc (length o.nodes)) → Told o (record { nodes = new; limit = limit }) (λ values. values (input_count o.nodes)) literal) e
    (λ l. told (record { nodes = nodes; limit = limit }) (record { nodes = new; limit = limit }) (λ values. values (input_count nodes)) (added nodes (Input (input_count nodes))) literal
    (builds_added nodes (Input (input_count nodes)) h refl) l
    (ap (λ (xs : List Node). let n : Netlist = record { nodes = xs; limit = limit } in n) (f ∙ ap (λ n. nodes ++ Input n ∷ []) g)))
