use Rattle.std.proofs.lemmas.Result.{IfOk-weaker}
use Rattle.pv_tree.specs.View.{block_tree}
use Rattle.pv_resolve.specs.Contexts.{block_in}
use Rattle.pv_eval.specs.Means.{activation}
use Rattle.pv_resolve.specs.Begins.{begin_at}
use Rattle.std.specs.Prelude.{Some, None, if◌then◌else◌}
use Rattle.pv_tree.specs.Scopes.{own_value, first_block}
use Rattle.pv_mean.specs.Activations.{at, block_or}
use Rattle.pv_mean.specs.Spots.{nowhere}
use Rattle.pv_resolve.proofs.Naming.{value_found, value_missing, own_value_seen, hash_nowhere, hash_other}
use Rattle.pv_resolve.proofs.context.Context.undeclared.Goals as goal

pub returns-in-Some-clause-value : goal.returns-in-Some-clause-value
returns-in-Some-clause-value c =
    λ source first is. IfOk-weaker c.value.result _ _ (λ b e.
    value_found source (activation (block_in c.args.self.now) first) (own_value (block_in c.args.self.now) c.args.name.now.key c.args.hash) c.in-Some.ty
    (begin_at b first) (if c.args.hash then at nowhere else block_or source (first_block source.project.blocks c.args.name.now.key) (at nowhere))
    (own_value_seen (block_in c.args.self.now) (block_tree c.block.result.now) c.args.name.now.key c.args.hash (Some c.in-Some.ty) c.block.ensures c.in-Some.ensures) e)
    (c.value.ensures.value source first is)

pub returns-then-hash-clause-value : goal.returns-then-hash-clause-value
returns-then-hash-clause-value c =
    λ source first is. value_missing source (activation (block_in c.args.self.now) first)
    (own_value (block_in c.args.self.now) c.args.name.now.key c.args.hash) (at nowhere) (if c.args.hash then at nowhere else block_or source (first_block source.project.blocks c.args.name.now.key) (at nowhere))
    (own_value_seen (block_in c.args.self.now) (block_tree c.block.result.now) c.args.name.now.key c.args.hash None c.block.ensures c.in-None.ensures)
    (hash_nowhere c.args.hash (block_or source (first_block source.project.blocks c.args.name.now.key) (at nowhere)) c.if-hash.true)

pub returns-else-hash-clause-value : goal.returns-else-hash-clause-value
returns-else-hash-clause-value c =
    λ source first is. IfOk-weaker c.block_named.result _ _ (λ b e.
    value_missing source (activation (block_in c.args.self.now) first)
    (own_value (block_in c.args.self.now) c.args.name.now.key c.args.hash) (begin_at b first) (if c.args.hash then at nowhere else block_or source (first_block source.project.blocks c.args.name.now.key) (at nowhere))
    (own_value_seen (block_in c.args.self.now) (block_tree c.block.result.now) c.args.name.now.key c.args.hash None c.block.ensures c.in-None.ensures)
    (hash_other c.args.hash (begin_at b first) (block_or source (first_block source.project.blocks c.args.name.now.key) (at nowhere)) c.if-hash.false e))
    (c.block_named.ensures.value source first is)

pub returns-in-Some-clause-room : goal.returns-in-Some-clause-room
returns-in-Some-clause-room c =
    λ source is h. c.value.ensures.room source is h

pub returns-else-hash-clause-room : goal.returns-else-hash-clause-room
returns-else-hash-clause-room c =
    λ source is h. c.block_named.ensures.room source is h
