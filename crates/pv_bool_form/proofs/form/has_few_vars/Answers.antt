use Rattle.std.proofs.Common.{◌≡◌, ◌≤◌, ℕ, Bool, true, length, sym, subst, ◌∙◌, arith}
use Rattle.std.specs.Prelude.{◌↔◌, nat_le}
use Rattle.std.proofs.lemmas.Bool.Decides.{nat_tests}
use Rattle.pv_types.specs.declared.layout.TheConstants.{MAX_LEAVES}
use Rattle.pv_types.specs.View.{var_trees}
use Rattle.pv_bool_form.proofs.form.has_few_vars.Goals as goal

is_few : (n m : ℕ) → nat_le n m ≡ true → n ≤ m
is_few n m so = grind (arith, nat_tests)

few_is : (n m : ℕ) → n ≤ m → nat_le n m ≡ true
few_is n m le = grind (arith, nat_tests)

few : (b : Bool) (n m : ℕ) → b ≡ nat_le n m → (b ≡ true) ↔ (n ≤ m)
few b n m is = ((λ t. is_few n m (sym is ∙ t)), (λ le. is ∙ few_is n m le))

pub returns : goal.returns
returns c =
    subst (λ l. (c.are_at_most.result ≡ true) ↔ (length (var_trees l) ≤ MAX_LEAVES)) c.as_slice.ensures.value
    (few c.are_at_most.result (length (var_trees c.as_slice.result.now)) MAX_LEAVES c.are_at_most.ensures)
