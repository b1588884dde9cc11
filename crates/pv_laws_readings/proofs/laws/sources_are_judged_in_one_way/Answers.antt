use Rattle.pv_laws_readings.proofs.Judging.{scl_table, stl_table, table_of, judged_once}
use Rattle.pv_laws_readings.proofs.laws.sources_are_judged_in_one_way.Goals as goal

pub returns : goal.returns
returns c its file text tokens one other are =
    let table = table_of (scl_table c.scl-of_scl.result c.scl-of_scl.ensures.ll1 c.scl-of_scl.ensures.grammar c.scl-of_scl.ensures.start)
    (stl_table c.stl-of_stl.result c.stl-of_stl.ensures.ll1 c.stl-of_stl.ensures.grammar c.stl-of_stl.ensures.start) its in
    judged_once its table file text tokens are one other
