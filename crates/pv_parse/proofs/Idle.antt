-- Alternatives that do nothing keep what lies on the stack.
use Rattle.std.proofs.Common.{◌≡◌, ℕ, zero, suc, false, List, [], ◌∷◌, map, refl, ap, ◌∙◌, sym}
use Rattle.std.specs.Prelude.{slice_index_or}
use Rattle.std.proofs.lemmas.Bool.{true≢false}
use Rattle.pv_ll.specs.Turns.{acts_at}
use Rattle.pv_ll.specs.Making.{Idles}
use Rattle.pv_parse.specs.declared.action.Action.{Action}
use Rattle.pv_parse.specs.declared.action.Action.TheVariants.{Keep, Expr, Decl, Block, Call, Stmt, Instr}
use Rattle.pv_parse.specs.Shades.{sink}
use Rattle.pv_parse.specs.ItemShades.{shading_of, shade_making}
use Rattle.pv_parse.specs.Deeds.{deed, making}
use Rattle.pv_parse.specs.Building.{acts}

flag_at : (actions : List Action) (k : ℕ) → acts_at (map acts actions) k ≡ acts (slice_index_or actions k Keep)
flag_at [] k = refl
flag_at (a ∷ actions) zero = refl
flag_at (a ∷ actions) (suc k) = flag_at actions k

keeps : (action : Action) → acts action ≡ false → action ≡ Keep
keeps Keep e = refl
keeps (Expr action) e = absurd (true≢false e)
keeps (Decl action) e = absurd (true≢false e)
keeps (Block action) e = absurd (true≢false e)
keeps (Call action) e = absurd (true≢false e)
keeps (Stmt action) e = absurd (true≢false e)
keeps (Instr action) e = absurd (true≢false e)

idle_at : (actions : List Action) (k : ℕ) → acts_at (map acts actions) k ≡ false → slice_index_or actions k Keep ≡ Keep
idle_at actions k e = keeps (slice_index_or actions k Keep) (sym (flag_at actions k) ∙ e)

pub deeds_idle : (actions : List Action) → Idles (map acts actions) (making actions)
deeds_idle actions k s e = ap (λ (z : Action). deed z s) (idle_at actions k e)

pub shades_idle : (actions : List Action) → Idles (map acts actions) (shade_making actions)
shades_idle actions k s e = ap (λ (z : Action). sink (shading_of z) s) (idle_at actions k e)
