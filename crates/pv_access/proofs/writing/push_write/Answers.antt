use Rattle.std.proofs.Common.{inl, inr, sym, ap}
use Rattle.std.proofs.lemmas.Result.{on_ok_weaker}
use Rattle.pv_access.specs.Accesses.{write_sets}
use Rattle.pv_access.proofs.Pushing.{sets_say, no_sets}
use Rattle.pv_access.proofs.writing.push_write.Goals as goal

pub returns-in-Cell : goal.returns-in-Cell
returns-in-Cell c = λ w ms table is moves.
    on_ok_weaker c.set_cells.result (λ z. sets_say _ _ _ _ _ _ (sym (ap (λ s. write_sets s ms w) c.in-Cell.is)) z)
    (c.set_cells.ensures w ms table is moves)

pub returns-in-Brief : goal.returns-in-Brief
returns-in-Brief c = λ w ms table is moves.
    on_ok_weaker c.set_cells-in-Brief.result (λ z. sets_say _ _ _ _ _ _ (sym (ap (λ s. write_sets s ms w) c.in-Brief.is)) z)
    (c.set_cells-in-Brief.ensures w ms table is moves)

pub returns-in-Bit : goal.returns-in-Bit
returns-in-Bit c = λ w ms table is moves.
    on_ok_weaker c.set_bit.result (λ z. sets_say _ _ _ _ _ _ (sym (ap (λ s. write_sets s ms w) c.in-Bit.is)) z)
    (c.set_bit.ensures w table is)

pub returns-in-Bytes : goal.returns-in-Bytes
returns-in-Bytes c = λ w ms table is moves.
    on_ok_weaker c.set_bytes.result (λ z. sets_say _ _ _ _ _ _ (sym (ap (λ s. write_sets s ms w) c.in-Bytes.is)) z)
    (c.set_bytes.ensures w table is)

pub returns-in-Fixed : goal.returns-in-Fixed
returns-in-Fixed c = λ w ms table is moves.
    sets_say _ _ _ _ _ _
    (elim c.in-Fixed.is [ inl p ↦ sym (ap (λ s. write_sets s ms w) p.1) | inr p ↦ sym (ap (λ s. write_sets s ms w) p) ])
    (no_sets _ _ table)
