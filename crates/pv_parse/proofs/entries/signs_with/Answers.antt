use Rattle.std.proofs.Common.{[], ◌∷◌, refl, ap, sym, arith}
use Rattle.pv_parse.proofs.LookUps.{none-begins}
use Rattle.pv_parse.specs.LookUps.{entries_with}
use Rattle.pv_parse.specs.Kinds.{sign_entries, stl_signs}
use Rattle.pv_parse.proofs.entries.signs_with.Goals as goal

pub returns-in-58 : goal.returns-in-58
unfolding sign_entries stl_signs
returns-in-58 c = ap (λ b. entries_with b sign_entries) (sym c.in-58.is)

pub returns-in-61 : goal.returns-in-61
unfolding sign_entries stl_signs
returns-in-61 c = ap (λ b. entries_with b sign_entries) (sym c.in-61.is)

pub returns-in-46 : goal.returns-in-46
unfolding sign_entries stl_signs
returns-in-46 c = ap (λ b. entries_with b sign_entries) (sym c.in-46.is)

pub returns-in-40 : goal.returns-in-40
unfolding sign_entries stl_signs
returns-in-40 c = ap (λ b. entries_with b sign_entries) (sym c.in-40.is)

pub returns-in-41 : goal.returns-in-41
unfolding sign_entries stl_signs
returns-in-41 c = ap (λ b. entries_with b sign_entries) (sym c.in-41.is)

pub returns-in-91 : goal.returns-in-91
unfolding sign_entries stl_signs
returns-in-91 c = ap (λ b. entries_with b sign_entries) (sym c.in-91.is)

pub returns-in-93 : goal.returns-in-93
unfolding sign_entries stl_signs
returns-in-93 c = ap (λ b. entries_with b sign_entries) (sym c.in-93.is)

pub returns-in-59 : goal.returns-in-59
unfolding sign_entries stl_signs
returns-in-59 c = ap (λ b. entries_with b sign_entries) (sym c.in-59.is)

pub returns-in-44 : goal.returns-in-44
unfolding sign_entries stl_signs
returns-in-44 c = ap (λ b. entries_with b sign_entries) (sym c.in-44.is)

pub returns-in-35 : goal.returns-in-35
unfolding sign_entries stl_signs
returns-in-35 c = ap (λ b. entries_with b sign_entries) (sym c.in-35.is)

pub returns-in-43 : goal.returns-in-43
unfolding sign_entries stl_signs
returns-in-43 c = ap (λ b. entries_with b sign_entries) (sym c.in-43.is)

pub returns-in-45 : goal.returns-in-45
unfolding sign_entries stl_signs
returns-in-45 c = ap (λ b. entries_with b sign_entries) (sym c.in-45.is)

pub returns-in-42 : goal.returns-in-42
unfolding sign_entries stl_signs
returns-in-42 c = ap (λ b. entries_with b sign_entries) (sym c.in-42.is)

pub returns-in-47 : goal.returns-in-47
unfolding sign_entries stl_signs
returns-in-47 c = ap (λ b. entries_with b sign_entries) (sym c.in-47.is)

pub returns-in-60 : goal.returns-in-60
unfolding sign_entries stl_signs
returns-in-60 c = ap (λ b. entries_with b sign_entries) (sym c.in-60.is)

pub returns-in-62 : goal.returns-in-62
unfolding sign_entries stl_signs
returns-in-62 c = ap (λ b. entries_with b sign_entries) (sym c.in-62.is)

pub returns-in-38 : goal.returns-in-38
unfolding sign_entries stl_signs
returns-in-38 c = ap (λ b. entries_with b sign_entries) (sym c.in-38.is)

pub returns-in_default : goal.returns-in_default
unfolding sign_entries stl_signs
returns-in_default c =
    sym (none-begins c.args.byte (58 ∷ 61 ∷ 46 ∷ 40 ∷ 41 ∷ 91 ∷ 93 ∷ 59 ∷ 44 ∷ 35 ∷ 43 ∷ 45 ∷ 42 ∷ 47 ∷ 60 ∷ 62 ∷ 38 ∷ []) sign_entries refl
    (omega arith, (omega arith, (omega arith, (omega arith, (omega arith, (omega arith, (omega arith, (omega arith, (omega arith, (omega arith, (omega arith, (omega arith, (omega arith, (omega arith, (omega arith, (omega arith, (omega arith, tt))))))))))))))))))
