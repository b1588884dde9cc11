-- Calls lead to the blocks that a reached block calls, and so each of them has room and a body that fits.
use Rattle.std.proofs.Common.{◌≡◌, zero, suc, ◌≤◌, ◌+◌, List, [], ◌∷◌, ◌++◌, map, Some, Contains, refl, sym, ap, subst, ◌∙◌, arith}
use Rattle.std.specs.Prelude.{flat_map, option_to_list}
use Rattle.pv_tree.specs.Tree.{StmtTree, assign, assign_call, if_, case_, for_, while_, repeat_, exit_, continue_, return_, call_, empty_, StmtTrees, no_stmts, stmts, ArmTrees, no_arms, arms, BranchTrees, no_branches, branches, ElseTree, no_else, else_, CallPlain, InstrTree, BodyTree, scl, stl, starts, BlockTree}
use Rattle.pv_tree.specs.Scopes.{ProjectTree}
use Rattle.pv_tree.specs.Callees.{CallSite, as_statement, as_value}
use Rattle.pv_tree.specs.Parts.{Loop, a_for, another, Spot, how_of, site, calls_of_stmt, calls_of_instruction, calls_of, spots_of, spots_of_stmts, spots_of_arms, spots_of_branches, spots_of_else, spots_of_body, instructions_of}
use Rattle.pv_tree.specs.Rules.{KeepsRules}
use Rattle.pv_tree.specs.Rules.Chains.{Calls, LeadsTo, here, by}
use Rattle.pv_mean.specs.declared.count.TheConstants.{BEYOND}
use Rattle.pv_mean.specs.Layout.{entry_size, data_size}
use Rattle.pv_mean.specs.Sources.{Source}
use Rattle.pv_resolve.specs.Rooms.{HasRoom}
use Rattle.pv_laws_room.specs.Reached.{AreShort, IsRun}
use Rattle.pv_laws_room.specs.Bodies.{FitsBody}
use Rattle.pv_program.specs.Spelled.{IsSpelled, AreSpelled}
use Rattle.pv_program.specs.Led.{RunsLed, CallsLed, AllLed, ArmsLed, BranchesLed, ElseLed}
use Rattle.pv_program.specs.Ready.{FitsCode, IsReached}
use Rattle.pv_program.proofs.Readying.{instrs_ready}

-- ---- lists

contains_more : {X : Type 0} (x y : X) (xs : List X) → Contains xs y → Contains (x ∷ xs) y
contains_more x y xs (k, lt, e) = (suc k, omega (arith, lt), e)

contains_front : {X : Type 0} (y : X) (xs ys : List X) → Contains xs y → Contains (xs ++ ys) y
contains_front y [] ys (k, lt, e) = absurd (omega (arith, lt))
contains_front y (x ∷ xs) ys (zero, lt, e) = (0, omega arith, e)
contains_front y (x ∷ xs) ys (suc k, lt, e) = contains_more x y (xs ++ ys) (contains_front y xs ys (k, omega (arith, lt), e))

contains_behind : {X : Type 0} (y : X) (xs ys : List X) → Contains ys y → Contains (xs ++ ys) y
contains_behind y [] ys c = c
contains_behind y (x ∷ xs) ys c = contains_more x y (xs ++ ys) (contains_behind y xs ys c)

contains_flat : {X Y : Type 0} (f : X → List Y) (xs : List X) (x : X) (y : Y) → Contains xs x → Contains (f x) y → Contains (flat_map f xs) y
contains_flat f [] x y (k, lt, e) d = absurd (omega (arith, lt))
contains_flat f (z ∷ zs) x y (zero, lt, e) d = contains_front y (f z) (flat_map f zs) (subst (λ w. Contains (f w) y) (sym e) d)
contains_flat f (z ∷ zs) x y (suc k, lt, e) d =
    contains_behind y (f z) (flat_map f zs) (contains_flat f zs x y (k, omega (arith, lt), e) d)

-- ---- one call further

leads_on : {project : ProjectTree} {first last next : BlockTree} → LeadsTo project first last → Calls project last next → LeadsTo project first next
leads_on here c = by c here
leads_on (by d more) c = by d (leads_on more c)

called_leads : (source : Source) (block : BlockTree) → LeadsTo source.project source.entry block → (s : CallSite) → Contains (calls_of block) s
    → RunsLed source block s
called_leads source block leads s c b is = leads_on leads (c.0, s, c.1, c.2, is)

-- ---- statements

module _ (source : Source) (block : BlockTree) where
  abbrev AllRun : List Spot → Type 0
  AllRun ss = (p : Spot) → Contains ss p → (s : CallSite) → Contains (calls_of_stmt p.stmt) s → RunsLed source block s

  mutual
    stmt_leads : (loops : List Loop) (s : StmtTree) → AllRun (spots_of loops s) → CallsLed source block s
    stmt_leads loops (assign target place value) f = tt
    stmt_leads loops (assign_call target place call) f =
        f (record { loops = loops; stmt = assign_call target place call }) (0, omega arith, refl) (site as_value call) (0, omega arith, refl)
    stmt_leads loops (if_ conditions other place) f =
        let it : Spot = record { loops = loops; stmt = if_ conditions other place } in (
          arms_lead loops conditions
              (λ s c. f s (contains_more it s _ (contains_front s (spots_of_arms loops conditions) (spots_of_else loops other) c))),
          else_leads loops other (λ s c. f s (contains_more it s _ (contains_behind s (spots_of_arms loops conditions) (spots_of_else loops other) c))),
        )
    stmt_leads loops (case_ selector choices other place) f =
        let it : Spot = record { loops = loops; stmt = case_ selector choices other place } in (
          branches_lead loops choices
              (λ s c. f s (contains_more it s _ (contains_front s (spots_of_branches loops choices) (spots_of_else loops other) c))),
          else_leads loops other
              (λ s c. f s (contains_more it s _ (contains_behind s (spots_of_branches loops choices) (spots_of_else loops other) c))),
        )
    stmt_leads loops (for_ name name_place first last step body place) f =
        let it : Spot = record { loops = loops; stmt = for_ name name_place first last step body place } in
        stmts_lead (a_for name ∷ loops) body (λ s c. f s (contains_more it s (spots_of_stmts (a_for name ∷ loops) body) c))
    stmt_leads loops (while_ condition body place) f =
        let it : Spot = record { loops = loops; stmt = while_ condition body place } in
        stmts_lead (another ∷ loops) body (λ s c. f s (contains_more it s (spots_of_stmts (another ∷ loops) body) c))
    stmt_leads loops (repeat_ body condition place) f =
        let it : Spot = record { loops = loops; stmt = repeat_ body condition place } in
        stmts_lead (another ∷ loops) body (λ s c. f s (contains_more it s (spots_of_stmts (another ∷ loops) body) c))
    stmt_leads loops (exit_ place) f = tt
    stmt_leads loops (continue_ place) f = tt
    stmt_leads loops (return_ place) f = tt
    stmt_leads loops (call_ call) f =
        f (record { loops = loops; stmt = call_ call }) (0, omega arith, refl) (site as_statement call) (0, omega arith, refl)
    stmt_leads loops (empty_ place) f = tt

    stmts_lead : (loops : List Loop) (list : StmtTrees) → AllRun (spots_of_stmts loops list) → AllLed source block list
    stmts_lead loops no_stmts f = tt
    stmts_lead loops (stmts s more) f = (
      stmt_leads loops s (λ x c. f x (contains_front x (spots_of loops s) (spots_of_stmts loops more) c)),
      stmts_lead loops more (λ x c. f x (contains_behind x (spots_of loops s) (spots_of_stmts loops more) c)),
    )

    arms_lead : (loops : List Loop) (list : ArmTrees) → AllRun (spots_of_arms loops list) → ArmsLed source block list
    arms_lead loops no_arms f = tt
    arms_lead loops (arms condition body more) f = (
      stmts_lead loops body (λ x c. f x (contains_front x (spots_of_stmts loops body) (spots_of_arms loops more) c)),
      arms_lead loops more (λ x c. f x (contains_behind x (spots_of_stmts loops body) (spots_of_arms loops more) c)),
    )

    branches_lead : (loops : List Loop) (list : BranchTrees) → AllRun (spots_of_branches loops list) → BranchesLed source block list
    branches_lead loops no_branches f = tt
    branches_lead loops (branches values body more) f = (
      stmts_lead loops body (λ x c. f x (contains_front x (spots_of_stmts loops body) (spots_of_branches loops more) c)),
      branches_lead loops more (λ x c. f x (contains_behind x (spots_of_stmts loops body) (spots_of_branches loops more) c)),
    )

    else_leads : (loops : List Loop) (other : ElseTree) → AllRun (spots_of_else loops other) → ElseLed source block other
    else_leads loops no_else f = tt
    else_leads loops (else_ body) f = stmts_lead loops body f

  -- ---- bodies

  instr_leads : LeadsTo source.project source.entry block → (i : InstrTree) → Contains (instructions_of block.body) i → (call : CallPlain)
      → i.call ≡ Some call → RunsLed source block (site (how_of i.op) call)
  instr_leads leads i c call e =
      called_leads source block leads (site (how_of i.op) call)
      (contains_behind (site (how_of i.op) call) (flat_map (λ x. calls_of_stmt x.stmt) (spots_of_body block.body))
      (flat_map calls_of_instruction (instructions_of block.body))
      (contains_flat calls_of_instruction (instructions_of block.body) i (site (how_of i.op) call) c
      (subst (λ x. Contains (map (site (how_of i.op)) (option_to_list x)) (site (how_of i.op) call)) (sym e) (0, omega arith, refl))))

  body_fits : (body : BodyTree) → block.body ≡ body → LeadsTo source.project source.entry block → KeepsRules source.project
      → Contains source.project.blocks block → IsSpelled source.project block → FitsBody body → FitsCode source block body
  body_fits (scl statements) is leads keeps there text fits = (
    fits,
    stmts_lead [] statements (λ p c s d. called_leads source block leads s
        (contains_front s (flat_map (λ x. calls_of_stmt x.stmt) (spots_of_body block.body)) (flat_map calls_of_instruction (instructions_of block.body))
        (contains_flat (λ (x : Spot). calls_of_stmt x.stmt) (spots_of_body block.body) p s
        (subst (λ b. Contains (spots_of_body b) p) (sym is) c) d))),
  )
  body_fits (stl instructions) is leads keeps there text fits =
      instrs_ready source keeps block there instructions is text.spelled
      (λ i c. instr_leads leads i (subst (λ b. Contains (instructions_of b) i) (sym is) c)) fits
  body_fits (starts values) is leads keeps there text fits = tt

pub is_reached : (source : Source) → ((b : BlockTree) → IsRun source → LeadsTo source.project source.entry b → HasRoom source b)
    → ((b : BlockTree) → KeepsRules source.project → Contains source.project.blocks b → AreShort source.project b → FitsBody b.body)
    → IsRun source → AreSpelled source.project → IsReached source
is_reached source room fits run texts = record {
  room = λ b leads. room b run leads;
  body = λ b leads.
      let there = (room b run leads).there in
      let text = texts b there in
      body_fits source b b.body refl leads run.rules there text (fits b run.rules there text.short);
}

-- the entered block's cells, and those of data blocks, are as few as a table may have
pub entry_near : (source : Source) (project : ProjectTree) (block : BlockTree) → HasRoom source source.entry → project ≡ source.project
    → block ≡ source.entry → BEYOND ≤ entry_size project block + data_size project project.blocks → ⊥
entry_near source project block h same at far =
    let near = h.visible in
    let sizes : entry_size project block + data_size project project.blocks
    ≡ entry_size source.project source.entry + data_size source.project source.project.blocks =
    ap (λ (p : ProjectTree). entry_size p block + data_size p p.blocks) same
    ∙ ap (λ b. entry_size source.project b + data_size source.project source.project.blocks) at in
    omega (arith, near, sizes, far)
