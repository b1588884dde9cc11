use Rattle.std.proofs.Common.{◌≡◌, ◌∙◌, ℕ, ap, rules, nat_lt, None}
use Rattle.pv_region.specs.Stored.{Stored, list_of, HasNext}
use Rattle.pv_rows_tests.proofs.region.a_list_of_two_watches.Goals as goal

pub first_two-requires-2 : goal.first_two-requires-2
first_two-requires-2 g c =
    let h : HasNext None (list_of c.watch-2.new.self 2) = search rules in
    let four : c.watch-2.new.self.variables ≡ 4 = search rules in
    ap (λ (s : Stored). nat_lt s.variables 1) (c.unwatch.ensures.out h.gone h.left h.without) ∙ ap (λ (n : ℕ). nat_lt n 1) four
