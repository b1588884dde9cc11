-- What a call that makes a gate has done, in the terms of buildings.
use Rattle.std.proofs.Common.{◌≡◌, ◌<◌, ◌≤◌, ℤ, List, refl, sym, ◌∙◌, ap, subst, arith, Result, Ok, Err}
use Rattle.std.specs.Result.{IsErrAnd}
use Rattle.std.proofs.lemmas.Result.{err_from_is_err_and}
use Rattle.pv_gate.specs.declared.fault.GateFault.{GateFault}
use Rattle.pv_gate.specs.declared.literal.Literal.{Literal}
use Rattle.pv_gate.specs.declared.netlist.Node.{Node}
use Rattle.pv_gate.specs.Node.{gate_count}
use Rattle.pv_gate.specs.Netlist.{Netlist, Extends}
use Rattle.pv_gate.specs.Build.{Made}
use Rattle.pv_gate.specs.Building.{Built, built, Gives as Builds}
use Rattle.pv_gate.specs.Given.{Gives}
use Rattle.pv_gate.proofs.Again.{IsMade}
use Rattle.pv_gate.proofs.CallerLemmas.{extends_itself}

pub built_ok : (old new : Netlist) (g : List Node → Made) (other : Made) (l : Literal) (literal : ℤ) → IsMade g → g old.nodes ≡ other → Gives old new other (Ok l) → literal ≡ l.code → Builds old new (λ ns. built (g ns)) (Ok literal)
built_ok old new g other l literal is e h f =
    let P : Made → Type 0 = λ m. Gives old new m (Ok l) in
    let k : Gives old new (g old.nodes) (Ok l) = subst P (sym e) h in
    let within : gate_count (g old.nodes).nodes ≤ old.limit =
    let not_beyond : old.limit < gate_count (g old.nodes).nodes → ⊥ = λ far. cc (k.limit.1 far) in
    omega arith in
    let Q : Netlist → Type 0 = λ n. Builds old n (λ ns. built (g ns)) (Ok literal) in
    subst Q (sym k.nodes) (record {
      made = ap (λ z. let b : Built ℤ = record { out = z; nodes = (g old.nodes).nodes } in b) (sym (f ∙ k.literal));
      within = within;
      limit = λ x. cc;
      older = is.extends old.nodes;
      same_limit = refl;
    })

pub built_err : (old new : Netlist) (g : List Node → Made) (other : Made) (fault : GateFault) (result : Result ℤ GateFault) → IsErrAnd result (λ f. f ≡ fault) → g old.nodes ≡ other → Gives old new other (Err fault) → Builds old new (λ ns. built (g ns)) result
built_err old new g other fault result is e h =
    let P : Made → Type 0 = λ m. Gives old new m (Err fault) in
    let k : Gives old new (g old.nodes) (Err fault) = subst P (sym e) h in
    let p = err_from_is_err_and result is in
    let at : result ≡ Err fault = p.1 ∙ ap Err p.2 in
    let Q : Result ℤ GateFault → Type 0 = λ r. Builds old new (λ ns. built (g ns)) r in
    subst Q (sym at) (record {
      made = tt;
      within = tt;
      limit = λ x. k.limit.0 (cc x);
      older = subst (λ (n : Netlist). Extends old.nodes n.nodes) (sym k.err) (extends_itself old.nodes);
      same_limit = ap (λ (n : Netlist). n.limit) k.err;
    })

-- a gate of the literals that the call was given
pub of_two : (g : ℤ → ℤ → Made) (a b x y : ℤ) → x ≡ a → y ≡ b → g a b ≡ g x y
of_two g a b x y p q = ap (λ z. g z b) (sym p) ∙ ap (g x) (sym q)

pub of_three : (g : ℤ → ℤ → ℤ → Made) (s a b t x y : ℤ) → t ≡ s → x ≡ a → y ≡ b → g s a b ≡ g t x y
of_three g s a b t x y o p q = ap (λ z. g z a b) (sym o) ∙ of_two (g t) a b x y p q
