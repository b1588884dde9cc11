use Rattle.std.proofs.lemmas.Result.{IfOk-weaker}
use Rattle.pv_tree.specs.View.{block_tree}
use Rattle.pv_resolve.specs.Contexts.{block_in}
use Rattle.pv_eval.specs.Means.{activation}
use Rattle.pv_resolve.specs.Begins.{begin_at}
use Rattle.std.specs.Prelude.{Some, None}
use Rattle.pv_tree.specs.Scopes.{first_block, first_symbol}
use Rattle.pv_tree.specs.Things.{quoted_value}
use Rattle.pv_mean.specs.Activations.{block_or, symbol_or_none}
use Rattle.pv_resolve.proofs.Naming.{value_found, value_missing, quoted_value_seen}
use Rattle.pv_resolve.proofs.context.Context.name.Goals as goal

pub returns-in-Some-clause-value : goal.returns-in-Some-clause-value
returns-in-Some-clause-value c =
    λ source first is. IfOk-weaker c.value.result _ _ (λ b e.
    value_found source (activation (block_in c.args.self.now) first) (quoted_value (block_in c.args.self.now) c.args.name.now.key) c.in-Some.ty
    (begin_at b first) (block_or source (first_block source.project.blocks c.args.name.now.key) (symbol_or_none source (first_symbol source.project.symbols c.args.name.now.key)))
    (quoted_value_seen (block_in c.args.self.now) (block_tree c.block.result.now) c.args.name.now.key (Some c.in-Some.ty) c.block.ensures c.in-Some.ensures) e)
    (c.value.ensures.value source first is)

pub returns-in-None-clause-value : goal.returns-in-None-clause-value
returns-in-None-clause-value c =
    λ source first is. IfOk-weaker c.block_or_symbol.result _ _ (λ b e.
    value_missing source (activation (block_in c.args.self.now) first) (quoted_value (block_in c.args.self.now) c.args.name.now.key) (begin_at b first)
    (block_or source (first_block source.project.blocks c.args.name.now.key) (symbol_or_none source (first_symbol source.project.symbols c.args.name.now.key)))
    (quoted_value_seen (block_in c.args.self.now) (block_tree c.block.result.now) c.args.name.now.key None c.block.ensures c.in-None.ensures) e)
    (c.block_or_symbol.ensures.value source first is)

pub returns-in-Some-clause-room : goal.returns-in-Some-clause-room
returns-in-Some-clause-room c =
    λ source is h. c.value.ensures.room source is h

pub returns-in-None-clause-room : goal.returns-in-None-clause-room
returns-in-None-clause-room c =
    λ source is h. c.block_or_symbol.ensures.room source is h
