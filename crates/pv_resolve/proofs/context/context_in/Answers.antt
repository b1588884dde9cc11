use Rattle.std.proofs.Common.{ap, ◌∙◌, map, bytes_eq}
use Rattle.pv_tree.specs.Scopes.{ProjectTree}
use Rattle.pv_tree.specs.Tree.{BlockTree}
use Rattle.pv_names.specs.Entries.{block_of}
use Rattle.pv_names.specs.Firsts.{first_number}
use Rattle.pv_names.specs.Tables.{blocks_of}
use Rattle.pv_resolve.proofs.Tabling.{is_numbered}
use Rattle.pv_resolve.proofs.context.context_in.Goals as goal

pub returns-clause-is : goal.returns-clause-is
returns-clause-is c = λ source is first.
    record {
      project = is.project;
      sizes = is.sizes;
      data_blocks = is.data_blocks;
      areas = is.areas;
      bytes = is.bytes;
      number = is_numbered source.project (block_of c.args.entry.now).name.key (block_of c.args.entry.now) c.number_of.result
          (c.number_of.ensures
          ∙ ap (λ (b : BlockTree). first_number (bytes_eq b.name.key) (map (λ (b : BlockTree). b.name.key) (blocks_of c.args.context.scope.tables.now))) c.block.ensures
          ∙ ap (λ (p : ProjectTree). first_number (bytes_eq (block_of c.args.entry.now).name.key) (map (λ (b : BlockTree). b.name.key) p.blocks)) is.project)
          first;
      firsts = is.firsts;
    }
