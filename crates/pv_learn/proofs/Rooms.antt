-- Room for the line at hand.
use Rattle.std.proofs.Common.{ℕ, arith}
use Rattle.std.specs.Prelude.{vec_capacity}
use Rattle.pv_learn.specs.declared.draft.Draft.{Draft}
use Rattle.pv_learn.specs.Learning.{HasRoom, KeepsRoom}

pub room-self : (d : Draft) → KeepsRoom d d
room-self d = record { lits = omega arith; hints = omega arith }

pub room-on : (a b c : Draft) → KeepsRoom a b → KeepsRoom b c → KeepsRoom a c
room-on a b c f g = record { lits = omega (arith, f.lits, g.lits); hints = omega (arith, f.hints, g.hints) }

-- there is still room
pub room-kept : (v : ℕ) (old new : Draft) → HasRoom v (vec_capacity old.lits) (vec_capacity old.hints) → KeepsRoom old new
    → HasRoom v (vec_capacity new.lits) (vec_capacity new.hints)
room-kept v old new r k = record { lits = omega (arith, r.lits, k.lits); hints = omega (arith, r.hints, k.hints) }
