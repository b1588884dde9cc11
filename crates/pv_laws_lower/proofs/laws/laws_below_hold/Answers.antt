use Rattle.pv_laws_lower.proofs.laws.laws_below_hold.Goals as goal

pub returns : goal.returns
returns c = record {
  terms = c.terms_hold.ensures;
  types = c.parts_of_typed_expressions_have_types.ensures;
  names = c.names_are_placed.ensures;
  fields = c.fields_are_placed.ensures;
  elements = c.elements_are_placed.ensures;
  apart = c.brief_cells_are_apart.ensures;
  reads = c.reads_hold.ensures;
  writes = c.writes_hold.ensures;
  choices = c.choices_hold.ensures;
  table = record {
    entry = c.tables_are_laid_out.ensures.entry;
    data_blocks = c.tables_are_laid_out.ensures.data_blocks;
    areas = c.tables_are_laid_out.ensures.areas;
    shows = c.tables_are_laid_out.ensures.visible;
  };
}
