use Rattle.std.proofs.Common.{◌≡◌, sym, ap, subst, ◌∙◌}
use Rattle.std.proofs.lemmas.Option.{same_Some}
use Rattle.std.specs.Prelude.{IfOk, slice_get}
use Rattle.pv_tree.specs.Scopes.{ProjectTree}
use Rattle.pv_tree.specs.Tree.{BlockTree}
use Rattle.pv_resolve.specs.Contexts.{block_in}
use Rattle.pv_run.specs.Code.{IsCode}
use Rattle.pv_program.specs.Led.{HasAllRoom}
use Rattle.pv_program.specs.Ready.{FitsCode}
use Rattle.pv_program.proofs.Failing.{none_made, inside_made}
use Rattle.pv_program.proofs.reach.make_code.Goals as goal

pub returns-in-Some-clause-inside : goal.returns-in-Some-clause-inside
returns-in-Some-clause-inside c = inside_made c.add_code.result _ c.args.block (block_in c.in-Some.inner) c.in-Some.ensures.block

pub returns-in-Some-clause-is : goal.returns-in-Some-clause-is
returns-in-Some-clause-is c = λ source b is at.
    let entered : block_in c.in-Some.inner ≡ b = same_Some _ b (c.in-Some.ensures.block ∙ ap (λ (p : ProjectTree). slice_get p.blocks c.args.block) is.project ∙ at) in
    subst (λ x. IfOk c.add_code.result (IsCode source c.add_code.new.program x)) entered
    (c.add_code.ensures.is source (c.in-Some.ensures.is source is))

pub returns-in-Some-clause-room : goal.returns-in-Some-clause-room
returns-in-Some-clause-room c = λ source is ready led.
    let at : block_in c.in-Some.inner ≡ led.block = same_Some _ led.block (c.in-Some.ensures.block ∙ ap (λ (p : ProjectTree). slice_get p.blocks c.args.block) is.project ∙ led.at) in
    c.add_code.ensures.room source (c.in-Some.ensures.is source is)
    (subst (HasAllRoom source) (sym at) (record { own = ready.room led.block led.leads; led = ready.room }))
    (subst (λ (b : BlockTree). FitsCode source b b.body) (sym at) (ready.body led.block led.leads))

pub returns-in-Some-clause-led : goal.returns-in-Some-clause-led
returns-in-Some-clause-led c = λ source is ready led.
    let at : block_in c.in-Some.inner ≡ led.block = same_Some _ led.block (c.in-Some.ensures.block ∙ ap (λ (p : ProjectTree). slice_get p.blocks c.args.block) is.project ∙ led.at) in
    c.add_code.ensures.led source (c.in-Some.ensures.is source is)
    (subst (λ (b : BlockTree). FitsCode source b b.body) (sym at) (ready.body led.block led.leads))

pub returns-in-None-clause-room : goal.returns-in-None-clause-room
returns-in-None-clause-room c = λ source is ready led.
    absurd (none_made (slice_get source.project.blocks c.args.block) led.block
    (c.in-None.ensures.block ∙ ap (λ (p : ProjectTree). slice_get p.blocks c.args.block) is.project) led.at)
