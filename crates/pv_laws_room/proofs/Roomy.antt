-- Each block to which calls lead from the entered one has room among the cells of the table.
use Rattle.std.proofs.Common.{◌≡◌, ◌⊎◌, inl, inr, ℕ, zero, suc, ◌+◌, ◌<◌, ◌≤◌, List, [], ◌∷◌, ◌++◌, map, length, Bool, true, false, cond, not, Contains, refl, sym, ap, subst, ◌∙◌, arith}
use Rattle.std.specs.Prelude.{filter, flat_map, if◌then◌else◌}
use Rattle.std.proofs.lemmas.List.{length-append}
use Rattle.pv_word.specs.declared.types.Ty.{Ty}
use Rattle.pv_tree.specs.Tree.{BlockTree}
use Rattle.pv_tree.specs.Scopes.{ProjectTree, is_fb, is_of_instance}
use Rattle.pv_tree.specs.Callees.{CallSite, runs, callee_of}
use Rattle.pv_tree.specs.Rules.{KeepsRules}
use Rattle.pv_tree.specs.Rules.Chains.{Runs, Calls, LeadsTo, here, by, EndsChain}
use Rattle.pv_tree.specs.RuleLaws.{CallsAreBounded}
use Rattle.pv_mean.specs.declared.cell.Cell.{Cell}
use Rattle.pv_mean.specs.declared.count.TheConstants.{BEYOND}
use Rattle.pv_mean.specs.AreaBytes.{Bytes}
use Rattle.pv_mean.specs.Layout.{size_among, is_brief_in, entry_size, data_size}
use Rattle.pv_mean.specs.Cells.{View, with_view, entry_cells, data_cells, area_cells, visible_part, brief_variables, value_cells, stl_cells, own_brief_cells, brief_cells, table_of, most_calls}
use Rattle.pv_mean.specs.Sources.{Source}
use Rattle.pv_mean.specs.Frames.{is_brief, visible_cells}
use Rattle.pv_mean.specs.Activations.{Activation, scope_in}
use Rattle.pv_mean.specs.Calls.{instance_first}
use Rattle.pv_mean.specs.Scans.{entry_activation}
use Rattle.pv_laws_types.specs.Typed.{types_of_cells, visible_types, StandAt, HasTable, IsAtWork, SymbolsSuit, ValuesAreFunctions}
use Rattle.pv_resolve.specs.Rooms.{HasRoom}
use Rattle.pv_laws_room.specs.Reached.{IsRun}
use Rattle.pv_laws_room.proofs.Reaching.{Chain, mapped_length, chain_brief, brief_counted, own_among_brief}

-- what the laws on tables and on blocks at work say
pub record Laws : Type 0 where
  pub entry : (project : ProjectTree) (block : BlockTree) → length (entry_cells project block) ≡ entry_size project block
  pub data_blocks : (project : ProjectTree) → length (flat_map (data_cells project) project.blocks) ≡ data_size project project.blocks
  pub areas : (bytes : Bytes) → length (area_cells bytes) ≡ length bytes.inputs + length bytes.outputs + length bytes.flags
  pub types : (view : View) (cells : List Cell) → map (λ c. c.ty) (with_view view cells) ≡ map (λ c. c.ty) cells
  pub entered : (source : Source) → HasTable source → Contains source.project.blocks source.entry → IsAtWork source (entry_activation source)
  pub called : (source : Source) (act : Activation) (site : CallSite) (b : BlockTree) → KeepsRules source.project → SymbolsSuit source.project
      → ValuesAreFunctions source.project → HasTable source → IsAtWork source act → callee_of (scope_in source act) site ≡ runs b
      → IsAtWork source (record { block = b; first = instance_first source act site.call })
  pub bounded : (project : ProjectTree) → KeepsRules project → CallsAreBounded project

-- ---- chains

le_cases : (k : ℕ) → k ≤ 7 → (k ≡ 7) ⊎ (suc k ≤ 7)
le_cases zero le = inr (omega arith)
le_cases (suc zero) le = inr (omega arith)
le_cases (suc (suc zero)) le = inr (omega arith)
le_cases (suc (suc (suc zero))) le = inr (omega arith)
le_cases (suc (suc (suc (suc zero)))) le = inr (omega arith)
le_cases (suc (suc (suc (suc (suc zero))))) le = inr (omega arith)
le_cases (suc (suc (suc (suc (suc (suc zero)))))) le = inr (omega arith)
le_cases (suc (suc (suc (suc (suc (suc (suc k))))))) le = inl (omega (arith, le))

record Led (project : ProjectTree) (b last : BlockTree) : Type 0 where
  calls : ℕ
  chain : Chain project calls b last

led : (project : ProjectTree) (b last : BlockTree) → LeadsTo project b last → Led project b last
led project b last here = record { calls = 0; chain = refl }
led project b last (by {next = next} (j, s, lt, is, run) rest) =
    let w = led project next last rest in record { calls = suc w.calls; chain = (s, next, (j, lt, is), run, w.chain) }

-- each block that is called is one of the project's, so no chain is longer than the rules allow
module _ (laws : Laws) (source : Source) (run : IsRun source) where
  abbrev At : BlockTree → Type 0
  At b = (first : ℕ) × IsAtWork source (record { block = b; first = first })

  next_work : (b next : BlockTree) (s : CallSite) → callee_of (record { project = source.project; block = b }) s ≡ runs next → At b → At next
  next_work b next s is w = (
    instance_first source (record { block = b; first = w.0 }) s.call,
    laws.called source (record { block = b; first = w.0 }) s next run.rules run.suits run.functions run.table w.1 is,
  )

  chain_work : (n : ℕ) (b last : BlockTree) → Chain source.project n b last → At b → At last
  chain_work zero b last same w = subst (λ x. At x) same w
  chain_work (suc n) b last (s, called, there, is, more) w = chain_work n called last more (next_work b called s is w)

  few_calls : (k n : ℕ) (b last : BlockTree) → EndsChain source.project k b → At b → Chain source.project n b last → k ≤ 7 → k + n ≤ 7
  few_calls k zero b last ends w same le = omega (arith, le)
  few_calls k (suc n) b last ends w (s, called, there, is, more) le =
      lead (le_cases k le) (λ less. few_calls (suc k) n called last longer (next_work b called s is w) more less)
    where
      -- one call more ends with the called block
      longer : EndsChain source.project (suc k) called
      longer = (w.1.block.0, b, w.1.block.1, w.1.block.2, (ends, (there.0, s, there.1, there.2, is)))

      lead : (k ≡ 7) ⊎ (suc k ≤ 7) → (suc k ≤ 7 → suc k + n ≤ 7) → k + suc n ≤ 7
      lead (inl same) further = absurd ((laws.bounded source.project run.rules).no_ninth called
          (subst (λ i. EndsChain source.project (suc i) called) same longer))
      lead (inr less) further = let r = further less in omega (arith, r)

  -- ---- the table

  same_length : (xs ys : List Cell) → map (λ c. c.ty) xs ≡ map (λ c. c.ty) ys → length xs ≡ length ys
  same_length xs ys e = sym (mapped_length (λ c. c.ty) xs) ∙ ap length e ∙ mapped_length (λ c. c.ty) ys

  abbrev table : List Cell
  table = table_of source.project source.entry source.bytes

  whole : length source.cells ≡ length table
  whole = ap length run.table.1 ∙ same_length (with_view run.table.0 table) table (laws.types run.table.0 table)

  parts : length table ≡ entry_size source.project source.entry + data_size source.project source.project.blocks
      + (length source.bytes.inputs + length source.bytes.outputs + length source.bytes.flags)
      + length (brief_cells source.project source.entry)
  parts =
      let e = entry_cells source.project source.entry in
      let d = flat_map (data_cells source.project) source.project.blocks in
      let a = area_cells source.bytes in
      let all = length-append (visible_part source.project source.entry source.bytes) (brief_cells source.project source.entry) in
      let front = length-append (e ++ d) a in
      let both = length-append e d in
      omega (arith, all, front, both, laws.entry source.project source.entry, laws.data_blocks source.project, laws.areas source.bytes)

  shown : (cells : List Cell) → length (visible_cells cells) ≤ length cells
  shown [] = omega arith
  shown (c ∷ cs) = lead (is_brief c.role) (shown cs)
    where
      lead : (b : Bool) → length (visible_cells cs) ≤ length cs → length (cond (not b) (c ∷ visible_cells cs) (visible_cells cs)) ≤ suc (length cs)
      lead true le = omega (arith, le)
      lead false le = omega (arith, le)

  stands_within : (types all : List Ty) (first : ℕ) → StandAt types all first → length types ≤ length all
  stands_within types all first s =
      let e = ap length s.is in
      let a = length-append s.front (types ++ s.back) in
      let b = length-append types s.back in omega (arith, e, a, b)

  -- ---- a block's own cells

  brief_few : (block : BlockTree) (n : ℕ) → Chain source.project n source.entry block → n ≤ 7
      → size_among source.project (is_brief_in block) block.vars < BEYOND
  brief_few block n chain le =
      let own = chain_brief source.project n source.entry block chain le in
      let v = brief_variables source.project block in
      let all = length-append (v ++ value_cells block) (stl_cells block) in
      let front = length-append v (value_cells block) in
      omega (arith, own, all, front, brief_counted source.project block, whole, parts, run.few)

  own_few : (block : BlockTree) → At block → size_among source.project (is_brief_in block) block.vars < BEYOND
      → size_among source.project is_of_instance block.vars < BEYOND
  own_few block w few = lead (is_fb block.kind) refl
    where
      lead : (fb : Bool) → is_fb block.kind ≡ fb → size_among source.project is_of_instance block.vars < BEYOND
      lead true is =
          let stands = stands_within (types_of_cells (entry_cells source.project block)) (visible_types source) w.0 (w.1.instance is) in
          let its = mapped_length (λ (c : Cell). c.ty) (entry_cells source.project block) in
          let all = mapped_length (λ (c : Cell). c.ty) (visible_cells source.cells) in
          let size : entry_size source.project block ≡ size_among source.project is_of_instance block.vars =
          ap (λ b. if b then size_among source.project is_of_instance block.vars else 0) is in
          omega (arith, stands, its, all, size, laws.entry source.project block, shown source.cells, run.few)
      lead false is = let le = own_among_brief source.project block is block.vars in omega (arith, le, few)

  pub has_room : (block : BlockTree) → LeadsTo source.project source.entry block → HasRoom source block
  has_room block leads =
      let c = led source.project source.entry block leads in
      let entered : At source.entry = (0, laws.entered source run.table run.entry) in
      let work = chain_work c.calls source.entry block c.chain entered in
      let few = few_calls 0 c.calls source.entry block run.entry entered c.chain (omega arith) in
      let brief = brief_few block c.calls c.chain (omega (arith, few)) in
      record {
        rules = run.rules;
        there = work.1.block;
        symbols = run.symbols;
        visible = omega (arith, whole, parts, run.few);
        own = own_few block work brief;
        brief = brief;
      }
