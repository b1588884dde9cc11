use Rattle.pv_laws_types.proofs.Spotted.{typed_spot}
use Rattle.pv_laws_types.proofs.laws.operands_name_spots_of_their_types.Goals as goal

pub returns : goal.returns
returns c = λ source act frame want o spot ty t is e.
    typed_spot c.tables_are_laid_out.ensures.visible source t.table t.rules t.symbols act t.work frame want o spot ty is e
