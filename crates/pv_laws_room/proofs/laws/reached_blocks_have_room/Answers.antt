use Rattle.pv_laws_room.proofs.Roomy.{Laws, has_room}
use Rattle.pv_laws_room.proofs.laws.reached_blocks_have_room.Goals as goal

pub returns : goal.returns
returns c = λ source block run leads.
    let laws : Laws = record {
      entry = c.tables_are_laid_out.ensures.entry;
      data_blocks = c.tables_are_laid_out.ensures.data_blocks;
      areas = c.tables_are_laid_out.ensures.areas;
      types = c.views_keep_paths_types_and_starts.ensures.types;
      entered = c.entered_blocks_are_at_work.ensures;
      called = c.called_blocks_are_at_work.ensures;
      bounded = c.chains_of_calls_end.ensures;
    } in
    has_room laws source run block leads
