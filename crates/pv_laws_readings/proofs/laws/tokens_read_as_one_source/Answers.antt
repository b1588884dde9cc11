use Rattle.pv_laws_readings.proofs.Judging.{scl_table, stl_table, table_of, tokens_read_once}
use Rattle.pv_laws_readings.proofs.laws.tokens_read_as_one_source.Goals as goal

pub returns : goal.returns
returns c its tokens all other =
    let table = table_of (scl_table c.scl-of_scl.result c.scl-of_scl.ensures.ll1 c.scl-of_scl.ensures.grammar c.scl-of_scl.ensures.start)
    (stl_table c.stl-of_stl.result c.stl-of_stl.ensures.ll1 c.stl-of_stl.ensures.grammar c.stl-of_stl.ensures.start) its in
    tokens_read_once its table tokens all other
