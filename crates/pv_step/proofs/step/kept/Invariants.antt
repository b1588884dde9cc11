use Rattle.std.proofs.Common.{◌≡◌, ◌++◌, drop}
use Rattle.pv_bool.specs.Roles.{is_kept}
use Rattle.pv_step.specs.Circuits.{picked}
use Rattle.pv_step.proofs.step.kept.Given as goal

-- those that were found, and those of the bits from here on, are all
abbrev pub invariant-loop-number : goal.invariant-loop-number
invariant-loop-number l = picked is_kept l.bits l.literals ≡ l.found.items ++ picked is_kept (drop l.number l.bits)
    (drop l.number l.literals)
