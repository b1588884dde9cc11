-- Calls between the blocks of a project, and steps between their numbers: calls lead from a block that is the first of its name where
-- steps lead from its number.
use Rattle.std.proofs.Common.{◌≡◌, ℕ, zero, suc, ◌<◌, List, [], ◌∷◌, Bool, true, false, map, length, refl, ap, sym, subst, ◌∙◌, arith, inl, inr, Option, Some, None, is_some, true≢false, cond, bytes_eq}
use Rattle.std.specs.Prelude.{option_map, option_and_then, option_to_list, slice_index_or}
use Rattle.std.proofs.lemmas.List.{length-map}
use Rattle.pv_place.specs.declared.place.Place.{Place}
use Rattle.pv_tree.specs.Tree.{BlockTree}
use Rattle.pv_tree.specs.Scopes.{ProjectTree, Scope, first_block}
use Rattle.pv_tree.specs.Callees.{CallSite, Callee, runs, not_declared, not_callable, unknown, callee_of, block_of_callee}
use Rattle.pv_tree.specs.Parts.{calls_of}
use Rattle.pv_tree.specs.Rules.Chains.{Runs, Calls, LeadsTo, here, by, IsCycle, EndsChain, IsLink, IsTooDeep}
use Rattle.pv_names.specs.Firsts.{first_number}
use Rattle.pv_rules_expr.specs.Members.{HasSome}
use Rattle.pv_rules_expr.specs.Nearest.{IsNearest}
use Rattle.pv_rules_expr.proofs.ForCallers.{any_has, has_any, has_front, has_behind, has_either, mapped_to, mapped_from, nearest_same}
use Rattle.pv_graph.specs.Members.{Has}
use Rattle.pv_graph.specs.Graphs.{next_of, Leads, EndsAt}
use Rattle.pv_graph.specs.Graphs as graph
use Rattle.pv_rules_call.specs.Links.{IsFirstBlock, number_of, link_of, links_of_sites, links_of, link_tree, AreLinks}
use Rattle.pv_rules_call.specs.ByNumber.{links_graph, links_at, HasBackLink, HasDeepLink}
use Rattle.pv_rules_call.specs.declared.links.Links.{Links}
use Rattle.pv_tree.proofs.ForCallers.{run_block}

-- ---- elements of lists by number

at_map : {X Y : Type 0} (f : X → Y) (xs : List X) (i : ℕ) (x : X) (d : Y) → i < length xs → slice_index_or xs i x ≡ x
    → slice_index_or (map f xs) i d ≡ f x
at_map f [] i x d lt is = absurd (omega (arith, lt))
at_map f (y ∷ ys) zero x d lt is = ap f is
at_map f (y ∷ ys) (suc i) x d lt is = at_map f ys i x d (omega (arith, lt)) is

at_map2 : {X Y Z : Type 0} (f : Y → Z) (g : X → Y) (xs : List X) (i : ℕ) (x : X) (d : Z) → i < length xs → slice_index_or xs i x ≡ x
    → slice_index_or (map f (map g xs)) i d ≡ f (g x)
at_map2 f g [] i x d lt is = absurd (omega (arith, lt))
at_map2 f g (y ∷ ys) zero x d lt is = ap (λ z. f (g z)) is
at_map2 f g (y ∷ ys) (suc i) x d lt is = at_map2 f g ys i x d (omega (arith, lt)) is

one_at : {X : Type 0} (xs : List X) (i : ℕ) (x y : X) → i < length xs → slice_index_or xs i x ≡ x → slice_index_or xs i y ≡ y → x ≡ y
one_at [] i x y lt is at = absurd (omega (arith, lt))
one_at (z ∷ zs) zero x y lt is at = sym is ∙ at
one_at (z ∷ zs) (suc i) x y lt is at = one_at zs i x y (omega (arith, lt)) is at

some_at : {X : Type 0} (xs : List X) (i : ℕ) → i < length xs → (x : X) × (slice_index_or xs i x ≡ x)
some_at [] i lt = absurd (omega (arith, lt))
some_at (x ∷ xs) zero lt = (x, refl)
some_at (x ∷ xs) (suc i) lt = some_at xs i (omega (arith, lt))

-- one of a list, as graphs have it
has_to : {X : Type 0} (xs : List X) (x : X) → Has xs x → HasSome (λ y. y ≡ x) xs
has_to [] x h = h
has_to (y ∷ ys) x (inl is) = inl is
has_to (y ∷ ys) x (inr h) = inr (has_to ys x h)

has_from : {X : Type 0} (xs : List X) (x : X) → HasSome (λ y. y ≡ x) xs → Has xs x
has_from [] x h = h
has_from (y ∷ ys) x (inl is) = inl is
has_from (y ∷ ys) x (inr h) = inr (has_from ys x h)

has_each : {X : Type 0} (P Q : X → Type 0) (xs : List X) → ((x : X) → P x → Q x) → HasSome P xs → HasSome Q xs
has_each P Q [] f h = h
has_each P Q (x ∷ xs) f (inl p) = inl (f x p)
has_each P Q (x ∷ xs) f (inr h) = inr (has_each P Q xs f h)

-- ---- the number of a block

module _ (project : ProjectTree) where
  -- the block stands at this number; and this is the number of its name
  pub record At (b : BlockTree) (i : ℕ) : Type 0 where
    pub below : i < length project.blocks
    pub there : slice_index_or project.blocks i b ≡ b

  pub record Numbered (b : BlockTree) (i : ℕ) : Type 0 where
    pub at : At b i
    pub number : number_of project b ≡ Some i

  found_at : (key : List ℕ) (b : BlockTree) (xs : List BlockTree) → first_block xs key ≡ Some b
      → (n : ℕ) × (first_number (bytes_eq key) (map (λ c. c.name.key) xs) ≡ Some n) × (n < length xs) × (slice_index_or xs n b ≡ b)
  found_at key b [] e = absurd (true≢false (sym (ap is_some e)))
  found_at key b (x ∷ xs) e = lead (bytes_eq key x.name.key) refl e (found_at key b xs)
    where
      same : (y : BlockTree) → Some y ≡ Some b → y ≡ b
      same y s = cc

      lead : (t : Bool) → bytes_eq key x.name.key ≡ t → cond t (Some x) (first_block xs key) ≡ Some b
          → (first_block xs key ≡ Some b
          → (n : ℕ) × (first_number (bytes_eq key) (map (λ c. c.name.key) xs) ≡ Some n) × (n < length xs) × (slice_index_or xs n b ≡ b))
          → (n : ℕ) × (first_number (bytes_eq key) (map (λ c. c.name.key) (x ∷ xs)) ≡ Some n) × (n < length (x ∷ xs))
          × (slice_index_or (x ∷ xs) n b ≡ b)
      lead true on s rest = (
        0,
        ap (λ t. cond t (Some 0) (option_map (λ n. suc n) (first_number (bytes_eq key) (map (λ c. c.name.key) xs)))) on,
        omega arith,
        same x s,
      )
      lead false off s rest = let r = rest s in let lt = r.2 in (
        suc r.0,
        ap (λ t. cond t (Some 0) (option_map (λ n. suc n) (first_number (bytes_eq key) (map (λ c. c.name.key) xs)))) off
            ∙ ap (option_map (λ n. suc n)) r.1,
        omega (arith, lt),
        r.3,
      )

  pub numbered : (b : BlockTree) → IsFirstBlock project b → (n : ℕ) × Numbered b n
  numbered b is = let f = found_at b.name.key b project.blocks is in (
    f.0,
    record {
      at = record { below = f.2; there = f.3 };
      number = f.1;
    },
  )

  same_at : (x y : BlockTree) (i : ℕ) → At x i → At y i → x ≡ y
  same_at x y i a b = one_at project.blocks i x y a.below a.there b.there

  -- ---- links

  abbrev its_scope : BlockTree → Scope
  its_scope b = record { project = project; block = b }

  link_to : (b : BlockTree) (s : CallSite) (c : BlockTree) (n : ℕ) → Runs project b c s → Numbered c n
      → link_of (its_scope b) s ≡ Some (s.call.place, n)
  link_to b s c n is num =
      ap (λ k. option_map (λ n. (s.call.place, n)) (option_and_then (number_of project) (block_of_callee k))) is
      ∙ ap (option_map (λ n. (s.call.place, n))) num.number

  record Linked (b : BlockTree) (s : CallSite) (p : Place × ℕ) : Type 0 where
    pub callee : BlockTree
    pub is_run : Runs project b callee s
    pub number : Numbered callee p.1
    pub is_at : s.call.place ≡ p.0

  link_from : (b : BlockTree) (s : CallSite) (p : Place × ℕ) → link_of (its_scope b) s ≡ Some p → Linked b s p
  link_from b s p e = lead (callee_of (its_scope b) s) refl e
    where
      at_pair : (n : ℕ) → Some (s.call.place, n) ≡ Some p → (s.call.place, n) ≡ p
      at_pair n e = cc

      lead : (k : Callee) → callee_of (its_scope b) s ≡ k
          → option_map (λ n. (s.call.place, n)) (option_and_then (number_of project) (block_of_callee k)) ≡ Some p → Linked b s p
      lead (runs c) is e =
          let num = numbered c (run_block (its_scope b) s c is) in
          let pair = at_pair num.0 (sym (ap (option_map (λ n. (s.call.place, n))) num.1.number) ∙ e) in record {
            callee = c;
            is_run = is;
            number = subst (λ q. Numbered c q.1) pair num.1;
            is_at = ap (λ q. q.0) pair;
          }
      lead (not_declared place) is e = absurd (true≢false (sym (ap is_some e)))
      lead (not_callable place) is e = absurd (true≢false (sym (ap is_some e)))
      lead unknown is e = absurd (true≢false (sym (ap is_some e)))

  abbrev HasLink : (Place × ℕ → Type 0) → BlockTree → CallSite → Type 0
  HasLink Q b s = (p : Place × ℕ) × (link_of (its_scope b) s ≡ Some p) × Q p

  links_to : (Q : Place × ℕ → Type 0) (b : BlockTree) (ss : List CallSite) → HasSome (HasLink Q b) ss
      → HasSome Q (links_of_sites (its_scope b) ss)
  links_to Q b [] h = h
  links_to Q b (s ∷ ss) (inl k) =
      has_front Q (option_to_list (link_of (its_scope b) s)) (links_of_sites (its_scope b) ss)
      (subst (λ o. HasSome Q (option_to_list o)) (sym k.1) (inl k.2))
  links_to Q b (s ∷ ss) (inr h) =
      has_behind Q (option_to_list (link_of (its_scope b) s)) (links_of_sites (its_scope b) ss) (links_to Q b ss h)

  links_from : (Q : Place × ℕ → Type 0) (b : BlockTree) (ss : List CallSite)
      → HasSome Q (links_of_sites (its_scope b) ss) → HasSome (HasLink Q b) ss
  links_from Q b [] h = h
  links_from Q b (s ∷ ss) h =
      elim (has_either Q (option_to_list (link_of (its_scope b) s)) (links_of_sites (its_scope b) ss) h) [
        | inl k ↦ inl (one (link_of (its_scope b) s) refl k)
        | inr k ↦ inr (links_from Q b ss k)
      ]
    where
      one : (o : Option (Place × ℕ)) → link_of (its_scope b) s ≡ o → HasSome Q (option_to_list o) → HasLink Q b s
      one None is k = absurd k
      one (Some p) is (inl q) = (p, is, q)
      one (Some p) is (inr never) = absurd never

  -- ---- steps

  abbrev all_links : List (List (Place × ℕ))
  all_links = map (links_of project) project.blocks

  abbrev all_steps : List (List ℕ)
  all_steps = map (λ ps. map (λ p. p.1) ps) all_links

  next_at : (b : BlockTree) (i : ℕ) → At b i → next_of all_steps i ≡ map (λ p. p.1) (links_of project b)
  next_at b i at = at_map2 (λ ps. map (λ p. p.1) ps) (links_of project) project.blocks i b [] at.below at.there

  down : (x z : BlockTree) (i : ℕ) → At x i → Calls project x z → (n : ℕ) × Numbered z n × Has (next_of all_steps i) n
  down x z i at calls =
      let num = numbered z (run_block (its_scope x) calls.1 z calls.4) in (
        num.0,
        num.1,
        subst (λ l. Has l num.0) (sym (next_at x i at))
            (has_from (map (λ p. p.1) (links_of project x)) num.0 (mapped_to (λ n. n ≡ num.0) (λ p. p.1) (links_of project x)
            (links_to (λ p. p.1 ≡ num.0) x (calls_of x)
            (has_each (Runs project x z) (HasLink (λ p. p.1 ≡ num.0) x) (calls_of x)
            (λ s is. ((s.call.place, num.0), link_to x s z num.0 is num.1, refl)) (any_has (Runs project x z) (calls_of x) calls))))),
      )

  up : (x : BlockTree) (i k : ℕ) → At x i → Has (next_of all_steps i) k → (z : BlockTree) × Numbered z k × Calls project x z
  up x i k at h =
      let a = has_any (HasLink (λ p. p.1 ≡ k) x) (calls_of x)
      (links_from (λ p. p.1 ≡ k) x (calls_of x) (mapped_from (λ n. n ≡ k) (λ p. p.1) (links_of project x)
      (has_to (map (λ p. p.1) (links_of project x)) k (subst (λ l. Has l k) (next_at x i at) h)))) in
      let link = a.4 in
      let from = link_from x a.1 link.0 link.1 in (
        from.callee,
        subst (λ n. Numbered from.callee n) link.2 from.number,
        (a.0, a.1, a.2, a.3, from.is_run),
      )

  pub leads_down : (x y : BlockTree) (i : ℕ) → Numbered x i → LeadsTo project x y → (j : ℕ) × Numbered y j × Leads all_steps i j
  leads_down x _ i num here = (i, num, graph.here)
  leads_down x y i num (by calls rest) =
      let step = down x _ i num.at calls in
      let more = leads_down _ y step.0 step.1 rest in (more.0, more.1, graph.by step.2 more.2)

  pub leads_up : (x : BlockTree) (i j : ℕ) → Numbered x i → Leads all_steps i j → (y : BlockTree) × Numbered y j × LeadsTo project x y
  leads_up x i _ num graph.here = (x, num, here)
  leads_up x i j num (graph.by has rest) =
      let step = up x i _ num.at has in
      let more = leads_up step.0 _ j step.1 rest in (more.0, more.1, by step.2 more.2)

  -- ---- cycles

  abbrev BackAt : Place → ℕ → Place × ℕ → Type 0
  BackAt at i p = (p.0 ≡ at) × Leads all_steps p.1 i

  abbrev HasBack : Place → Type 0
  HasBack at = (i : ℕ) × (i < length project.blocks) × HasSome (BackAt at i) (slice_index_or all_links i [])

  links_there : (b : BlockTree) (i : ℕ) → At b i → slice_index_or all_links i [] ≡ links_of project b
  links_there b i at = at_map (links_of project) project.blocks i b [] at.below at.there

  cycle_down : (at : Place) → IsCycle project at → HasBack at
  cycle_down at c =
      let block = c.1 in
      let call = c.4 in
      let s = call.1 in
      let on = call.4 in
      let callee = on.1.0 in
      let num = numbered callee (run_block (its_scope block) s callee on.1.1) in
      let led = leads_down callee block num.0 num.1 on.1.2 in (
        led.0,
        led.1.at.below,
        subst (HasSome (BackAt at led.0)) (sym (links_there block led.0 led.1.at))
            (links_to (BackAt at led.0) block (calls_of block)
            (has_each (λ t. (t.call.place ≡ at) × Runs project block callee t) (HasLink (BackAt at led.0) block) (calls_of block)
            (λ t h. ((t.call.place, num.0), link_to block t callee num.0 h.1 num.1, (h.0, led.2)))
            (any_has (λ t. (t.call.place ≡ at) × Runs project block callee t) (calls_of block) (call.0, s, call.2, call.3, (on.0, on.1.1))))),
      )

  cycle_up : (at : Place) → HasBack at → IsCycle project at
  cycle_up at h =
      let i = h.0 in
      let block = some_at project.blocks i h.1 in
      let there : At block.0 i = record { below = h.1; there = block.1 } in
      let a = has_any (HasLink (BackAt at i) block.0) (calls_of block.0)
      (links_from (BackAt at i) block.0 (calls_of block.0) (subst (HasSome (BackAt at i)) (links_there block.0 i there) h.2)) in
      let link = a.4 in
      let from = link_from block.0 a.1 link.0 link.1 in
      let led = leads_up from.callee link.0.1 i from.number link.2.1 in
      let back = subst (LeadsTo project from.callee) (same_at led.0 block.0 i led.1.at there) led.2 in
      (i, block.0, h.1, block.1, (a.0, a.1, a.2, a.3, (from.is_at ∙ link.2.0, (from.callee, from.is_run, back))))

  -- ---- chains

  length_all : length all_steps ≡ length project.blocks
  length_all = length-map all_links (λ ps. map (λ p. p.1) ps) ∙ length-map project.blocks (links_of project)

  below_steps : (i : ℕ) → i < length project.blocks → i < length all_steps
  below_steps i lt = let e = length_all in omega (arith, lt, e)

  below_blocks : (i : ℕ) → i < length all_steps → i < length project.blocks
  below_blocks i lt = let e = length_all in omega (arith, lt, e)

  ends_below : (n i : ℕ) → EndsAt all_steps n i → i < length all_steps
  ends_below zero i e = e
  ends_below (suc n) i e = e.3

  chain_down : (n : ℕ) (y : BlockTree) → EndsChain project (suc n) y → (j : ℕ) × Numbered y j × EndsAt all_steps (suc n) j
  chain_down zero y c =
      let start : At c.1 c.0 = record { below = c.2; there = c.3 } in
      let step = down c.1 y c.0 start c.4.1 in
      (step.0, step.1, (c.0, below_steps c.0 c.2, step.2, below_steps step.0 step.1.at.below))
  chain_down (suc n) y c =
      let before = chain_down n c.1 c.4.0 in
      let step = down c.1 y before.0 before.1.at c.4.1 in
      (step.0, step.1, (before.0, before.2, step.2, below_steps step.0 step.1.at.below))

  chain_up : (n i : ℕ) (x : BlockTree) → At x i → EndsAt all_steps n i → EndsChain project n x
  chain_up zero i x at e = (i, at.below, at.there)
  chain_up (suc n) i x at e =
      let lt = below_blocks e.0 (ends_below n e.0 e.1) in
      let caller = some_at project.blocks e.0 lt in
      let there : At caller.0 e.0 = record { below = lt; there = caller.1 } in
      let step = up caller.0 e.0 i there e.2 in (
        e.0,
        caller.0,
        lt,
        caller.1,
        (chain_up n e.0 caller.0 there e.1, subst (Calls project caller.0) (same_at step.0 x i step.1.at at) step.2),
      )

  abbrev HasDeep : Place → Type 0
  HasDeep at = (i : ℕ) × EndsAt all_steps 7 i × HasSome (λ p. p.0 ≡ at) (slice_index_or all_links i [])

  deep_down : (at : Place) → IsTooDeep project at → HasDeep at
  deep_down at d =
      let block = d.1 in
      let end = chain_down 6 block d.4.0 in (
        end.0,
        end.2,
        subst (HasSome (λ p. p.0 ≡ at)) (sym (links_there block end.0 end.1.at))
            (links_to (λ p. p.0 ≡ at) block (calls_of block)
            (has_each (λ s. (s.call.place ≡ at) × IsLink project block s) (HasLink (λ p. p.0 ≡ at) block) (calls_of block)
            (λ s h. let num = numbered h.1.0 (run_block (its_scope block) s h.1.0 h.1.1) in
            ((s.call.place, num.0), link_to block s h.1.0 num.0 h.1.1 num.1, h.0))
            (any_has (λ s. (s.call.place ≡ at) × IsLink project block s) (calls_of block) d.4.1))),
      )

  deep_up : (at : Place) → HasDeep at → IsTooDeep project at
  deep_up at h =
      let i = h.0 in
      let lt = below_blocks i (ends_below 7 i h.1) in
      let block = some_at project.blocks i lt in
      let there : At block.0 i = record { below = lt; there = block.1 } in
      let a = has_any (HasLink (λ p. p.0 ≡ at) block.0) (calls_of block.0)
      (links_from (λ p. p.0 ≡ at) block.0 (calls_of block.0) (subst (HasSome (λ p. p.0 ≡ at)) (links_there block.0 i there) h.2)) in
      let link = a.4 in
      let from = link_from block.0 a.1 link.0 link.1 in
      (i, block.0, lt, block.1, (chain_up 7 i block.0 there h.1, (a.0, a.1, a.2, a.3, (from.is_at ∙ link.2, (from.callee, from.is_run)))))

-- ---- links of the code

graph_seen : (all : List Links) → links_graph all ≡ map (λ ps. map (λ p. p.1) ps) (map (λ l. map link_tree l.list.items) all)
graph_seen [] = refl
graph_seen (l ∷ more) = ap (λ a. a ∷ links_graph more) (inner l.list.items) ∙ ap (λ b. map (λ p. p.1) (map link_tree l.list.items) ∷ b) (graph_seen more)
  where
    inner : (ks : _) → map (λ k. k.to) ks ≡ map (λ p. p.1) (map link_tree ks)
    inner [] = refl
    inner (k ∷ ks) = ap (λ l. k.to ∷ l) (inner ks)

links_seen : (all : List Links) (i : ℕ) → map link_tree (links_at all i) ≡ slice_index_or (map (λ l. map link_tree l.list.items) all) i []
links_seen [] i = refl
links_seen (l ∷ more) zero = refl
links_seen (l ∷ more) (suc i) = links_seen more i

module _ (project : ProjectTree) (all : List Links) (are : AreLinks project all) where
  pub same_graph : links_graph all ≡ all_steps project
  same_graph = graph_seen all ∙ ap (map (λ ps. map (λ p. p.1) ps)) are

  same_length : length all ≡ length project.blocks
  same_length = sym (length-map all (λ l. map link_tree l.list.items)) ∙ ap length are ∙ length-map project.blocks (links_of project)

  same_links : (i : ℕ) → map link_tree (links_at all i) ≡ slice_index_or (all_links project) i []
  same_links i = links_seen all i ∙ ap (λ l. slice_index_or l i []) are

  cycle_is : (at : Place) → HasBackLink (links_graph all) all (length all) at → IsCycle project at
  cycle_is at h =
      let lt = h.1 in
      let e = same_length in
      cycle_up project at (
        h.0,
        omega (arith, lt, e),
        subst (λ g. HasSome (λ p. (p.0 ≡ at) × Leads g p.1 h.0) (slice_index_or (all_links project) h.0 [])) same_graph
            (subst (HasSome (λ p. (p.0 ≡ at) × Leads (links_graph all) p.1 h.0)) (same_links h.0)
            (mapped_to (λ p. (p.0 ≡ at) × Leads (links_graph all) p.1 h.0) link_tree (links_at all h.0) h.2)),
      )

  is_cycle : (at : Place) → IsCycle project at → HasBackLink (links_graph all) all (length all) at
  is_cycle at c =
      let h = cycle_down project at c in
      let lt = h.1 in
      let e = same_length in (
        h.0,
        omega (arith, lt, e),
        mapped_from (λ p. (p.0 ≡ at) × Leads (links_graph all) p.1 h.0) link_tree (links_at all h.0)
            (subst (HasSome (λ p. (p.0 ≡ at) × Leads (links_graph all) p.1 h.0)) (sym (same_links h.0))
            (subst (λ g. HasSome (λ p. (p.0 ≡ at) × Leads g p.1 h.0) (slice_index_or (all_links project) h.0 [])) (sym same_graph) h.2)),
      )

  deep_is : (at : Place) → HasDeepLink (links_graph all) all 7 (length all) at → IsTooDeep project at
  deep_is at h =
      deep_up project at (
        h.0,
        subst (λ g. EndsAt g 7 h.0) same_graph h.2.0,
        subst (HasSome (λ p. p.0 ≡ at)) (same_links h.0) (mapped_to (λ p. p.0 ≡ at) link_tree (links_at all h.0) h.2.1),
      )

  is_deep : (at : Place) → IsTooDeep project at → HasDeepLink (links_graph all) all 7 (length all) at
  is_deep at d =
      let h = deep_down project at d in
      let lt = below_blocks project h.0 (ends_below project 7 h.0 h.1) in
      let e = same_length in (
        h.0,
        omega (arith, lt, e),
        (
          subst (λ g. EndsAt g 7 h.0) (sym same_graph) h.1,
          mapped_from (λ p. p.0 ≡ at) link_tree (links_at all h.0) (subst (HasSome (λ p. p.0 ≡ at)) (sym (same_links h.0)) h.2),
        ),
      )

-- ---- the nearest of them

pub cycle_nearest : (project : ProjectTree) (all : List Links) → AreLinks project all → (o : Option Place)
    → IsNearest (HasBackLink (links_graph all) all (length all)) o → IsNearest (IsCycle project) o
cycle_nearest project all its o =
    nearest_same (HasBackLink (links_graph all) all (length all)) (IsCycle project) o (cycle_is project all its) (is_cycle project all its)

pub deep_nearest : (project : ProjectTree) (all : List Links) → AreLinks project all → (o : Option Place)
    → IsNearest (HasDeepLink (links_graph all) all 7 (length all)) o → IsNearest (IsTooDeep project) o
deep_nearest project all its o =
    nearest_same (HasDeepLink (links_graph all) all 7 (length all)) (IsTooDeep project) o (deep_is project all its) (is_deep project all its)
