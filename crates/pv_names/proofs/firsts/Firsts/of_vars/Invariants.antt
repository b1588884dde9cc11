use Rattle.std.proofs.Common.{◌≡◌, ◌↔◌, ◌<◌, ℕ, List, Some, IsTrue, slice_get, map, take}
use Rattle.pv_names.specs.Firsts.{FindsFirsts, number_in}
use Rattle.pv_names.proofs.firsts.Firsts.of_vars.Given as goal

abbrev pub invariant-loop-i : goal.invariant-loop-i
invariant-loop-i l = record {
  firsts : FindsFirsts l.firsts (map (λ v. v.name.now.key) (take l.i l.vars));
  unique : IsTrue l.unique ↔ ((n : ℕ) (key : List ℕ) → n < l.i → slice_get (map (λ v. v.name.now.key) l.vars) n ≡ Some key
      → number_in l.firsts key ≡ Some n);
}
