use Rattle.std.proofs.Common.{◌≤◌, subst}
use Rattle.pv_flow.specs.Calls.{Blocks}
use Rattle.pv_call_copies.specs.Inlined.{inlined_size}
use Rattle.pv_inline.specs.declared.fault.TheConstants.{MAX_EDGES}
use Rattle.pv_inline.specs.Blocks.{codes_of}
use Rattle.pv_inline.specs.Inlining.{IsTooMany}
use Rattle.pv_inline.proofs.Coded.{can_copy, same_blocks}
use Rattle.pv_inline.proofs.Whole.{on_ok, inlined_as, machine_told}
use Rattle.pv_inline.proofs.inlining.inline.Goals as goal

pub built-requires-clause-parts : goal.built-requires-clause-parts
built-requires-clause-parts c = c.in-Ok.ensures.sound (can_copy c.args.blocks.now c.args.entry c.requires.fitting c.requires.entry)

pub returns-in-Ok-clause-copies : goal.returns-in-Ok-clause-copies
returns-in-Ok-clause-copies c =
    inlined_as c.args.blocks.now c.args.entry c.args.bound c.in-Ok.parts c.built.result
    (c.in-Ok.ensures.copies (can_copy c.args.blocks.now c.args.entry c.requires.fitting c.requires.entry)) c.built.ensures.parts c.built.ensures.bound

pub returns-in-Ok-clause-machine : goal.returns-in-Ok-clause-machine
returns-in-Ok-clause-machine c =
    machine_told c.args.blocks.now c.args.entry c.args.bound c.built.result c.requires.fitting c.requires.bound
    (inlined_as c.args.blocks.now c.args.entry c.args.bound c.in-Ok.parts c.built.result
    (c.in-Ok.ensures.copies (can_copy c.args.blocks.now c.args.entry c.requires.fitting c.requires.entry)) c.built.ensures.parts c.built.ensures.bound)

pub returns-in-Ok-clause-fits : goal.returns-in-Ok-clause-fits
returns-in-Ok-clause-fits c =
    on_ok c.built.result (subst (λ (bs : Blocks). inlined_size bs c.args.entry ≤ MAX_EDGES) (same_blocks c.args.blocks.now) c.in-Ok.ensures.fits)

pub returns-in-Err-clause-large : goal.returns-in-Err-clause-large
returns-in-Err-clause-large c =
    subst (λ (bs : Blocks). IsTooMany bs (codes_of c.args.blocks.now) c.args.entry c.in-Err.fault) (same_blocks c.args.blocks.now) c.in-Err.ensures.large
