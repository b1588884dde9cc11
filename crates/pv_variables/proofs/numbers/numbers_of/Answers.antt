use Rattle.std.proofs.Common.{◌≡◌, ◌<◌, length, subst, sym, ap, ◌∙◌, refl, arith}
use Rattle.pv_tree.specs.Tree.{BlockTree}
use Rattle.pv_tree.specs.View.{block_tree}
use Rattle.pv_resolve.specs.Contexts.{block_in}
use Rattle.pv_variables.specs.declared.numbers.Next.{Next}
use Rattle.pv_variables.specs.Numbered.{HasNext, found_so_far, with_variables}
use Rattle.pv_variables.specs.Variables.{bound_count}
use Rattle.pv_variables.proofs.Numbering.{numbers_are, counts_are, registers_are, shared_is}
use Rattle.std.proofs.lemmas.Bool.{false≢true}
use Rattle.pv_mean.specs.declared.count.TheConstants.{BEYOND}
use Rattle.pv_mean.specs.Layout.{size_among, is_brief_in}
use Rattle.pv_resolve.specs.Rooms.{HasRoom}
use Rattle.pv_resolve.proofs.ForCallers.{failed}
use Rattle.pv_variables.proofs.Bounded.{visible_few, own_few, next_fits}
use Rattle.pv_variables.proofs.numbers.numbers_of.Goals as goal

pub bound_count-requires : goal.bound_count-requires
bound_count-requires c = c.vars-vars.ensures ∙ ap (λ (b : BlockTree). b.vars) (sym c.block-block.ensures)

pub returns-clause-numbers : goal.returns-clause-numbers
returns-clause-numbers c = λ source is same.
    let start : Next = record { bound = 0; own = c.in_ok-own.own } in
    let block = block_tree c.block-block.result.now in
    let bound = subst (λ b. c.in_ok-bound.bound ≡ bound_count source b) c.block-block.ensures (c.in_ok-bound.ensures.value source is) in
    let shared = shared_is source c.args.cells.now c.in_ok-visible_in.field-0 c.args.context.now.data_first c.saturating_sub-shared.result same
    c.in_ok-visible_in.ensures.value is.data_blocks c.saturating_sub-shared.ensures in
    let own = c.in_ok-own.ensures.value in
    let vars = c.vars-vars.ensures ∙ ap (λ (b : BlockTree). b.vars) (sym c.block-block.ensures) in
    let found = c.in_ok-next.ensures.value source is
    ∙ ap (λ l. with_variables source.project block l (found_so_far c.new-briefs.result.items start)) vars
    ∙ ap (λ l. with_variables source.project block block.vars (found_so_far l start)) c.new-briefs.ensures.items in
    record {
      bound = bound;
      shared = shared;
      entry = is.data_blocks;
      count = counts_are source (block_in c.args.context.now) block start c.in_ok-next.next c.push_variables.new.briefs.items
          c.push_value.new.briefs.items c.block-block.ensures found c.in_ok-push_value.ensures.value;
      cells = numbers_are source (block_in c.args.context.now) block c.in_ok-own.own start c.in_ok-next.next
          c.push_variables.new.briefs.items c.push_value.new.briefs.items c.block-block.ensures refl (omega (arith, bound, shared, own)) found
          c.in_ok-push_value.ensures.value;
      registers = registers_are source (block_in c.args.context.now) block start c.in_ok-next.next c.push_variables.new.briefs.items
          c.block-block.ensures (omega (arith, bound, shared, own)) found;
    }

pub returns-in_err-bound-clause-room : goal.returns-in_err-bound-clause-room
returns-in_err-bound-clause-room c = λ source is same h few.
    absurd (false≢true (c.in_err-bound.ensures.room source is (subst (HasRoom source) (sym c.block-block.ensures) h)))

pub returns-in_err-visible_in-clause-room : goal.returns-in_err-visible_in-clause-room
returns-in_err-visible_in-clause-room c = λ source is same h few.
    let shown = visible_few c.args.cells.now in
    let all = ap length same in
    absurd (false≢true (c.in_err-visible_in.ensures.room (omega (arith, few, shown, all))))

pub returns-in_err-own-clause-room : goal.returns-in_err-own-clause-room
returns-in_err-own-clause-room c = λ source is same h few.
    let near = own_few source (block_tree c.block-block.result.now) (subst (HasRoom source) (sym c.block-block.ensures) h) few in
    let bound = c.in_ok-bound.ensures.value source is in
    let shared = shared_is source c.args.cells.now c.in_ok-visible_in.field-0 c.args.context.now.data_first c.saturating_sub-shared.result same
    c.in_ok-visible_in.ensures.value is.data_blocks c.saturating_sub-shared.ensures in
    absurd (false≢true (c.in_err-own.ensures.room (omega (arith, near, bound, shared))))

pub returns-in_err-next-clause-room : goal.returns-in_err-next-clause-room
returns-in_err-next-clause-room c = λ source is same h few.
    let start : Next = record { bound = 0; own = c.in_ok-own.own } in
    let block = block_tree c.block-block.result.now in
    let room : HasRoom source block = subst (HasRoom source) (sym c.block-block.ensures) h in
    let near = own_few source block room few in
    let bound = c.in_ok-bound.ensures.value source is in
    let shared = shared_is source c.args.cells.now c.in_ok-visible_in.field-0 c.args.context.now.data_first c.saturating_sub-shared.result same
    c.in_ok-visible_in.ensures.value is.data_blocks c.saturating_sub-shared.ensures in
    let own = c.in_ok-own.ensures.value in
    failed _ _ c.from_residual-in_err-next.ensures.1 (c.in_err-next.ensures.room source is
    (subst (λ l. size_among source.project (is_brief_in block) l < BEYOND)
    (sym (c.vars-vars.ensures ∙ ap (λ (b : BlockTree). b.vars) (sym c.block-block.ensures))) room.brief)
    (subst (λ l. HasNext (with_variables source.project block l (found_so_far c.new-briefs.result.items start)))
    (sym (c.vars-vars.ensures ∙ ap (λ (b : BlockTree). b.vars) (sym c.block-block.ensures)))
    (next_fits source block (found_so_far c.new-briefs.result.items start) room refl (omega (arith, near, bound, shared, own)))))

pub returns-in_err-push_value-clause-room : goal.returns-in_err-push_value-clause-room
returns-in_err-push_value-clause-room c = λ source is same h few. failed _ _ c.from_residual-in_err-push_value.ensures.1 c.in_err-push_value.ensures.memory
