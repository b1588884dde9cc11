use Rattle.std.proofs.Common.{◌≡◌, ◌↔◌, ◌<◌, ◌+◌, Bool, IsTrue, ap, sym, ◌∙◌, refl, subst, bytes_eq, ℕ, List, map, take, length, Some, slice_get, arith}
use Rattle.std.proofs.lemmas.List.{length-map, length-take-le, take_all}
use Rattle.std.proofs.lemmas.Option.{slice_get_within}
use Rattle.pv_types.specs.declared.var.Var.{Var}
use Rattle.pv_names.specs.Firsts.{number_in, or_number, first_number}
use Rattle.pv_names.proofs.FirstNumbers.{grown}
use Rattle.pv_names.proofs.UniqueNames.{key_at, one_unique, number_within}
use Rattle.pv_names.proofs.firsts.Firsts.of_vars.Goals as goal

pub loop-i-preserved : goal.loop-i-preserved
loop-i-preserved c =
    let i = c.loop-i.i in
    let vars = c.args.vars.now in
    let v = c.index-vars-i.result in
    let key : Var → List ℕ = λ v. v.name.now.key in
    let below : (q : List ℕ) (m : ℕ) → number_in c.loop-i.firsts q ≡ Some m → m < i = λ q m is.
    let less : m < length (map key (take i vars)) = number_within (bytes_eq q) (map key (take i vars)) m (sym (c.loop-i.invariant.firsts q) ∙ is) in
    omega (arith, less, length-map (take i vars) key, length-take-le i vars (omega (arith, c.loop-i-test.true))) in
    record {
      firsts = λ q.
          c.in_ok-new.ensures.pushed q
          ∙ ap (λ o. or_number o (bytes_eq q (key v)) i) (c.loop-i.invariant.firsts q)
          ∙ sym (grown key q vars i _ v c.loop-i-test.true c.index-vars-i.is refl);
      unique = subst (λ (b : Bool). IsTrue b ↔ ((n : ℕ) (q : List ℕ) → n < i + 1 → slice_get (map key vars) n ≡ Some q
          → number_in c.push_new.new.self q ≡ Some n)) (sym c.both-unique.ensures) (one_unique (number_in c.loop-i.firsts) (number_in c.push_new.new.self) (map key vars) i (key v)
          (key_at key vars i v c.loop-i-test.true c.index-vars-i.is) c.in_ok-new.ensures.pushed below c.loop-i.unique c.in_ok-new.new
          c.in_ok-new.ensures.new c.loop-i.invariant.unique);
    }

pub returns-clause-firsts : goal.returns-clause-firsts
returns-clause-firsts c =
    let key : Var → List ℕ = λ v. v.name.now.key in
    λ q. c.loop-i.invariant.firsts q
    ∙ ap (λ (vs : List Var). first_number (bytes_eq q) (map key vs)) (take_all c.loop-i.i c.args.vars.now (omega (arith, c.loop-i-test.false)))

pub returns-clause-unique : goal.returns-clause-unique
returns-clause-unique c =
    let vars = c.args.vars.now in
    let key : Var → List ℕ = λ v. v.name.now.key in (
      λ t n q at. c.loop-i.invariant.unique.0 t n q
          (let within : n < length (map key vars) = slice_get_within (map key vars) n q at in
          omega (arith, within, length-map vars key, c.loop-i-test.false)) at,
      λ each. c.loop-i.invariant.unique.1 (λ n q less at. each n q at),
    )
