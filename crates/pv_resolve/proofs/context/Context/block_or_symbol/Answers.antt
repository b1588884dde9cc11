use Rattle.std.proofs.lemmas.Result.{IfOk-weaker}
use Rattle.pv_names.specs.Entries.{block_of}
use Rattle.pv_resolve.specs.Begins.{begin_at}
use Rattle.pv_mean.specs.Activations.{symbol_or_none}
use Rattle.pv_tree.specs.Scopes.{first_symbol}
use Rattle.pv_resolve.proofs.Naming.{block_found, block_missing}
use Rattle.pv_resolve.proofs.context.Context.block_or_symbol.Goals as goal

pub returns-in-Some-clause-value : goal.returns-in-Some-clause-value
returns-in-Some-clause-value c =
    λ source first is. IfOk-weaker c.block.result _ _ (λ b e.
    block_found c.args.self.now source c.args.name.now.key (block_of c.in-Some.entry.now) (begin_at b first)
    (symbol_or_none source (first_symbol source.project.symbols c.args.name.now.key)) is c.in-Some.ensures e)
    (c.block.ensures.value source first is)

pub returns-in-None-clause-value : goal.returns-in-None-clause-value
returns-in-None-clause-value c =
    λ source first is. IfOk-weaker c.symbol.result _ _ (λ b e.
    block_missing c.args.self.now source c.args.name.now.key (begin_at b first) (symbol_or_none source (first_symbol source.project.symbols c.args.name.now.key)) is
    c.in-None.ensures e)
    (c.symbol.ensures.value source first is)

pub returns-in-Some-clause-room : goal.returns-in-Some-clause-room
returns-in-Some-clause-room c =
    λ source is h. c.block.ensures.room source is h

pub returns-in-None-clause-room : goal.returns-in-None-clause-room
returns-in-None-clause-room c =
    λ source is h. c.symbol.ensures.room source is h
