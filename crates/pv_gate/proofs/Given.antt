-- How a call gives what it is to make: a literal that is there, another call's literal, or its complement.
use Rattle.std.proofs.Common.{◌≡◌, ◌<◌, ◌≤◌, refl, sym, ◌∙◌, ap, subst, arith, Ok, Err, ◌+◌, pos, Some, None, Option, ◌++◌, [], ◌∷◌, List, ℤ, neg_ℤ, Result, ℕ, cond, Bool, true, false, not, IfOk, OnOk, OnErr}
use Rattle.std.specs.Bool.{beq}
use Rattle.pv_gate.specs.Value.{exclusive_or}
use Rattle.std.specs.Option.{option_map}
use Rattle.std.proofs.lemmas.List.Sums.{sum_by_push}
use Rattle.pv_gate.specs.declared.netlist.Node.{Node}
use Rattle.std.specs.Result.{MatchResult, IsOkAnd}
use Rattle.pv_gate.specs.declared.fault.GateFault.{GateFault}
use Rattle.pv_gate.specs.declared.fault.GateFault.TheVariants.{Limit, NoMemory}
use Rattle.pv_gate.specs.declared.literal.Literal.{Literal}
use Rattle.pv_gate.specs.Node.{is_gate, gate_count}
use Rattle.pv_gate.specs.Netlist.{Netlist}
use Rattle.pv_gate.specs.Build.{Made, present, complemented, added, share, shared_at, number_of}
use Rattle.pv_gate.specs.Given.{Gives}

pub gives_present : (old : Netlist) (made : Made) (literal : Literal) → gate_count old.nodes ≤ old.limit → made ≡ present old.nodes literal.code → Gives old old made (Ok literal)
gives_present old made literal within e =
    subst (λ (m : Made). Gives old old m (Ok literal)) (sym e) (record {
      literal = refl;
      nodes = refl;
      limit = (λ h. cc, λ h. absurd (omega arith));
      err = tt;
    })

pub gives_same : (old new : Netlist) (made other : Made) (result : Result Literal GateFault) → made ≡ other → Gives old new other result → Gives old new made result
gives_same old new made other result e h = subst (λ (m : Made). Gives old new m result) (sym e) h

-- what the complement of a call's literal gives
pub gives_complemented : (old new : Netlist) (made : Made) (result other : Result Literal GateFault) → MatchResult result (λ literal. IsOkAnd other (λ l. l.code ≡ neg_ℤ literal.code)) (λ fault. other ≡ Err fault) → Gives old new made result → Gives old new (complemented made) other
gives_complemented old new made (Ok literal) (Ok l) e h = record {
  literal = e ∙ ap neg_ℤ h.literal;
  nodes = h.nodes;
  limit = (λ x. cc, λ x. cc (h.limit.1 x));
  err = tt;
}
gives_complemented old new made (Ok literal) (Err fault) e h = absurd e
gives_complemented old new made (Err fault) other e h =
    subst (λ (r : Result Literal GateFault). Gives old new (complemented made) r) (sym e) (record {
      literal = tt;
      nodes = tt;
      limit = h.limit;
      err = h.err;
    })

xor_is : (r s : Bool) → exclusive_or r s ≡ not (beq r s)
xor_is true true = refl
xor_is true false = refl
xor_is false true = refl
xor_is false false = refl

pub xor_from_tests : (r s x y t : Bool) → r ≡ x → s ≡ y → not (beq r s) ≡ t → exclusive_or x y ≡ t
xor_from_tests r s x y t p q h = ap (λ z. exclusive_or z y) (sym p) ∙ (ap (exclusive_or r) (sym q) ∙ (xor_is r s ∙ h))

-- ---- a gate that is there, and one that isn't

shared_found : (nodes : List Node) (node : Node) (l : ℤ) (o : Option ℕ) → Some l ≡ option_map pos o → shared_at nodes node o ≡ present nodes l
shared_found nodes node l (Some n) h = let e : pos n ≡ l = cc in ap (present nodes) e
shared_found nodes node l None h = cc

pub share_found : (nodes : List Node) (node : Node) (l : ℤ) → Some l ≡ option_map pos (number_of node nodes) → share nodes node ≡ present nodes l
unfolding share
share_found nodes node l h = shared_found nodes node l _ h

none_from_map : (o : Option ℕ) → None ≡ option_map pos o → o ≡ None
none_from_map (Some n) h = cc
none_from_map None h = refl

pub number_of_none : (nodes : List Node) (node : Node) → None ≡ option_map pos (number_of node nodes) → number_of node nodes ≡ None
number_of_none nodes node h = none_from_map _ h

pub share_absent : (nodes : List Node) (node : Node) → None ≡ option_map pos (number_of node nodes) → share nodes node ≡ added nodes node
unfolding share
share_absent nodes node h = ap (shared_at nodes node) (number_of_none nodes node h)

pub gate_count-push : (nodes : List Node) (node : Node) → is_gate node ≡ true → gate_count (nodes ++ node ∷ []) ≡ gate_count nodes + 1
gate_count-push nodes node h = sum_by_push _ nodes node ∙ ap (λ b. gate_count nodes + cond b 1 0) h

-- no room for another gate
pub gives_limit : (old : Netlist) (node : Node) → share old.nodes node ≡ added old.nodes node → is_gate node ≡ true → gate_count old.nodes ≡ old.limit → Gives old old (share old.nodes node) (Err Limit)
gives_limit old node e gate full = gives_same old old _ _ _ e (record {
  literal = tt;
  nodes = tt;
  limit = (λ h. omega (arith, gate_count-push old.nodes node gate), λ h. refl);
  err = refl;
})

-- another gate, or no memory for one
pub gives_added : (old new : Netlist) (node : Node) (result : Result Literal GateFault) → share old.nodes node ≡ added old.nodes node → is_gate node ≡ true → gate_count old.nodes < old.limit → IfOk result (λ literal. literal.code ≡ (added old.nodes node).literal) → OnOk result (new ≡ record old { nodes = (added old.nodes node).nodes }) → OnErr result ((result ≡ Err NoMemory) × (new ≡ old)) → Gives old new (share old.nodes node) result
gives_added old new node (Ok l) e gate room literal nodes err = gives_same old new _ _ _ e (record {
  literal = literal;
  nodes = nodes;
  limit = (λ h. cc, λ h. absurd (omega (arith, gate_count-push old.nodes node gate)));
  err = tt;
})
gives_added old new node (Err f) e gate room literal nodes err = gives_same old new _ _ _ e (record {
  literal = tt;
  nodes = tt;
  limit = (λ h. cc (h, err.0), λ h. absurd (omega (arith, gate_count-push old.nodes node gate)));
  err = err.1;
})
