use Rattle.std.proofs.Common.{ap, ◌∙◌, sym, slice_get}
use Rattle.pv_tree.specs.Scopes.{ProjectTree}
use Rattle.pv_names.specs.Entries.{block_of}
use Rattle.pv_resolve.proofs.Tabling.{got_at, none_at}
use Rattle.pv_resolve.proofs.context.context_at.Goals as goal

pub returns-in-Some-clause-is : goal.returns-in-Some-clause-is
returns-in-Some-clause-is c = λ source is.
    record {
      project = is.project;
      sizes = is.sizes;
      data_blocks = is.data_blocks;
      areas = is.areas;
      bytes = is.bytes;
      number = ap (λ l. slice_get l c.args.number) (sym (c.entries.ensures ∙ ap (λ (p : ProjectTree). p.blocks) is.project))
          ∙ got_at block_of c.entries.result.now c.args.number c.in-Some.entry.now c.in-Some.ensures.lookup.0 c.in-Some.ensures.lookup.1;
      firsts = is.firsts;
    }

pub returns-in-Some-clause-block : goal.returns-in-Some-clause-block
returns-in-Some-clause-block c =
    sym (ap (λ l. slice_get l c.args.number) (sym c.entries.ensures)
    ∙ got_at block_of c.entries.result.now c.args.number c.in-Some.entry.now c.in-Some.ensures.lookup.0 c.in-Some.ensures.lookup.1)

pub returns-in-None-clause-block : goal.returns-in-None-clause-block
returns-in-None-clause-block c =
    sym (ap (λ l. slice_get l c.args.number) (sym c.entries.ensures)
    ∙ none_at block_of c.entries.result.now c.args.number c.in-None.ensures.lookup.0)
