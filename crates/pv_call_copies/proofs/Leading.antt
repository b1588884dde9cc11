-- Nests and spots of the automaton with copies that stand to each other: a nest to the location of the text where its innermost copy
-- stands, with the counts of all copies at work; or both have ended, and so alike. And where each edge leads, as seen from both.
use Rattle.std.proofs.Common.{◌≡◌, ℕ, ◌<◌, ◌⊎◌, inl, inr, List, [], ◌∷◌, ◌++◌, slice_get, Option, Some, None, refl, sym, subst, ap, ◌∙◌}
use Rattle.pv_place.specs.declared.place.Place.{Place}
use Rattle.pv_flow.specs.Automata.{Edge, Loop, Parts}
use Rattle.pv_flow.specs.Runs.{End, done, trap, over, end_at, exit_of, Counts, Spot, at, moved, turned, over_of, past_or, led, ways_of}
use Rattle.pv_flow.specs.Calls.{Blocks, block_at}
use Rattle.pv_flow.specs.Fitting.{AreFitting, IsSound, AreSound}
use Rattle.pv_call_copies.specs.Nests.{Nest, exit_by, exit_of_nest, ways_by_end, ways_of_nest}
use Rattle.pv_call_copies.specs.Inlined.{Aim, to_location, to_trap, to_over, Body, number_in, aim_by, aim_in, Drawn, drawn_all, location_by, behind, text_size, inlined}
use Rattle.pv_call_copies.proofs.Counting.{ends_are_ends}
use Rattle.pv_call_copies.proofs.Edges.{sound_at}
use Rattle.pv_call_copies.proofs.Placed.{IsOpen}
use Rattle.pv_call_copies.proofs.Ending.{locations_are_made}
use Rattle.pv_call_copies.proofs.Ends.{end_of_trap, end_of_over, no_ways_there}
use Rattle.pv_call_copies.proofs.Chains.{Chain, body_of, callers_of, index_of, nest_of, AreZero, IsChain, entry_there, known}
use Rattle.pv_call_copies.proofs.Counted.{after_is, IsCounted, AreCounted}
use Rattle.pv_call_copies.proofs.Moves.{zero_on, IsOwnStep, counted_on, IsOtherStep, no_turn}
use Rattle.pv_call_copies.proofs.Bounds.{over_nowhere, over_alike}

-- ---- nests and spots of the whole

pub record Stand (blocks : Blocks) (b : ℕ) (p : Parts) (x : Nest) (y : Spot) : Type 0 where
  pub chain : Chain
  pub is : IsChain blocks b p chain
  pub location : ℕ
  pub exists : location < (body_of blocks p chain).work.parts.locations
  pub opens : IsOpen (end_at (body_of blocks p chain).work.parts location)
  pub counts : Counts
  pub zero : AreZero (body_of blocks p chain).work.parts location counts
  pub wholes : Counts
  pub counted : AreCounted blocks p chain counts (inlined blocks p).loops wholes
  pub nest_is : nest_of blocks p chain location counts ≡ x
  pub spot_is : at (number_in blocks (body_of blocks p chain) location) wholes ≡ y

pub record HaveEnded (blocks : Blocks) (p : Parts) (n : ℕ) (x : Nest) (y : Spot) : Type 0 where
  pub end : End
  pub nest_ends : exit_of_nest x ≡ Some end
  pub spot_ends : exit_of (inlined blocks p) y ≡ Some end
  pub no_ways_on : ways_of_nest blocks n x ≡ []
  pub no_ways_there : ways_of (inlined blocks p) n y ≡ []

abbrev pub Match : Blocks → ℕ → Parts → ℕ → Nest → Spot → Type 0
Match blocks b p n x y = Stand blocks b p x y ⊎ HaveEnded blocks p n x y

-- ---- where a copy comes to

-- no way leads on from where the whole ends
none_on : (blocks : Blocks) → AreFitting blocks → AreSound blocks → (b : ℕ) (p : Parts) → block_at blocks b ≡ Some p
    → (n m : ℕ) (wholes : Counts) (end : End)
    → end_at (inlined blocks p) m ≡ Some end → ways_of (inlined blocks p) n (at m wholes) ≡ []
none_on blocks fit sound b p there n m wholes end e =
    no_ways_there (inlined blocks p) n m wholes 0 (inlined blocks p).edges
    ((locations_are_made blocks fit sound b p there).ends m (ends_are_ends (inlined blocks p) m end e))

-- an edge of the whole that leads to a copy's location leads the copy there, or to what ends as that location; the whole's counts hang on
-- where it leads
pub come_to : (blocks : Blocks) → AreFitting blocks → AreSound blocks → (b : ℕ) (p : Parts) (n : ℕ) (chain : Chain)
    → IsChain blocks b p chain → (to : ℕ)
    → to < (body_of blocks p chain).work.parts.locations → (counts : Counts) → AreZero (body_of blocks p chain).work.parts to counts
    → (after : ℕ → Counts) → (IsOpen (end_at (body_of blocks p chain).work.parts to)
    → AreCounted blocks p chain counts (inlined blocks p).loops (after (number_in blocks (body_of blocks p chain) to)))
    → (xs ys : List Drawn) (d : Drawn) → drawn_all blocks p ≡ xs ++ (d ∷ ys) → d.aim ≡ aim_in blocks (body_of blocks p chain) to
    → Match blocks b p n (nest_of blocks p chain to counts)
    (at (location_by d.aim (behind (text_size blocks p) xs)) (after (location_by d.aim (behind (text_size blocks p) xs))))
come_to blocks fit sound b p n chain is to exists counts zeros after counted xs ys d split leads = by (end_at q to) refl
  where
    q : Parts
    q = (body_of blocks p chain).work.parts

    body_number : ℕ
    body_number = number_in blocks (body_of blocks p chain) to

    next : ℕ
    next = behind (text_size blocks p) xs

    there : block_at blocks b ≡ Some p
    there = entry_there blocks b p chain is

    led_to : (aim : Aim) → d.aim ≡ aim → location_by aim next ≡ location_by d.aim next
    led_to aim e = ap (λ (a : Aim). location_by a next) (sym e)

    standing : IsOpen (end_at q to) → d.aim ≡ to_location body_number
        → Match blocks b p n (nest_of blocks p chain to counts) (at (location_by d.aim next) (after (location_by d.aim next)))
    standing free e = subst (λ (m : ℕ). Match blocks b p n (nest_of blocks p chain to counts) (at m (after m)))
        (led_to (to_location body_number) e)
        (inl (record {
          chain = chain;
          is = is;
          location = to;
          exists = exists;
          opens = free;
          counts = counts;
          zero = zeros;
          wholes = after body_number;
          counted = counted free;
          nest_is = refl;
          spot_is = refl;
        }))

    ending : (end : End) (aim : Aim) → exit_by (end_at q to) (callers_of blocks p chain) ≡ Some end
        → ways_by_end blocks n (body_of blocks p chain).work (at to counts) (callers_of blocks p chain) (end_at q to) ≡ []
        → d.aim ≡ aim → location_by aim next ≡ next → end_at (inlined blocks p) next ≡ Some end
        → Match blocks b p n (nest_of blocks p chain to counts) (at (location_by d.aim next) (after (location_by d.aim next)))
    ending end aim exits none e far ends =
        subst (λ (m : ℕ). Match blocks b p n (nest_of blocks p chain to counts) (at m (after m))) (sym far ∙ led_to aim e)
        (inr (record {
          end = end;
          nest_ends = exits;
          spot_ends = ends;
          no_ways_on = none;
          no_ways_there = none_on blocks fit sound b p there n next (after next) end ends;
        }))

    entry_sound : IsSound p
    entry_sound = sound_at blocks sound b p there

    aim_is : (end : Option End) → end_at q to ≡ end → d.aim ≡ aim_by end body_number
    aim_is end e = leads ∙ ap (λ (o : Option End). aim_by o body_number) e

    by : (end : Option End) → end_at q to ≡ end
        → Match blocks b p n (nest_of blocks p chain to counts) (at (location_by d.aim next) (after (location_by d.aim next)))
    by None e = standing (subst IsOpen (sym e) tt) (aim_is None e)
    by (Some done) e = standing (subst IsOpen (sym e) tt) (aim_is (Some done) e)
    by (Some (trap kind place)) e = ending (trap kind place) (to_trap kind place)
        (ap (λ (o : Option End). exit_by o (callers_of blocks p chain)) e)
        (ap (λ (o : Option End). ways_by_end blocks n (body_of blocks p chain).work (at to counts) (callers_of blocks p chain) o) e)
        (aim_is (Some (trap kind place)) e) refl
        (end_of_trap blocks p entry_sound xs ys d kind place split (aim_is (Some (trap kind place)) e))
    by (Some (over place)) e = ending (over place) (to_over place)
        (ap (λ (o : Option End). exit_by o (callers_of blocks p chain)) e)
        (ap (λ (o : Option End). ways_by_end blocks n (body_of blocks p chain).work (at to counts) (callers_of blocks p chain) o) e)
        (aim_is (Some (over place)) e) refl (end_of_over blocks p entry_sound xs ys d place split (aim_is (Some (over place)) e))

-- ---- one edge

-- an own edge
pub own_led : (blocks : Blocks) → AreFitting blocks → AreSound blocks → (b : ℕ) (p : Parts) (n : ℕ) (chain : Chain)
    → IsChain blocks b p chain
    → (l e f : ℕ) (edge : Edge) → slice_get (body_of blocks p chain).work.parts.edges e ≡ Some edge
    → IsOwnStep blocks (body_of blocks p chain) (index_of blocks p chain) l edge.to e f
    → (counts wholes : Counts) → AreCounted blocks p chain counts (inlined blocks p).loops wholes
    → (xs ys : List Drawn) (d : Drawn) → drawn_all blocks p ≡ xs ++ (d ∷ ys) → d.aim ≡ aim_in blocks (body_of blocks p chain) edge.to
    → Match blocks b p n
    (record {
      work = (body_of blocks p chain).work;
      spot = led
          (body_of blocks p chain).work.parts.loops n e l edge.to counts;
      callers = callers_of blocks p chain;
    })
    (led (inlined blocks p).loops n f (number_in blocks (body_of blocks p chain) l)
    (location_by d.aim (behind (text_size blocks p) xs)) wholes)
own_led blocks fit sound b p n chain is l e f edge there step counts wholes are xs ys d split leads =
    subst (λ (o : Option Place). Match blocks b p n (standing (past_or (over_of n e counts 0 q.loops) (at edge.to new)))
    (past_or o (at to (news to))))
    (sym (over_alike blocks fit sound b p chain is n l edge.to e f step counts wholes are)) (by (over_of n e counts 0 q.loops))
  where
    body : Body
    body = body_of blocks p chain

    q : Parts
    q = body.work.parts

    W : List Loop
    W = (inlined blocks p).loops

    to : ℕ
    to = location_by d.aim (behind (text_size blocks p) xs)

    new : Counts
    new = turned q.loops e (moved q.loops l edge.to counts)

    news : ℕ → Counts
    news k = turned W f (moved W (number_in blocks body l) k wholes)

    standing : Spot → Nest
    standing spot = record { work = body.work; spot = spot; callers = callers_of blocks p chain }

    by : (o : Option Place) → Match blocks b p n (standing (past_or o (at edge.to new))) (past_or o (at to (news to)))
    by (Some place) = inr (record { end = over place; nest_ends = refl; spot_ends = refl; no_ways_on = refl; no_ways_there = refl })
    by None = come_to blocks fit sound b p n chain is edge.to step.reaches new
        (zero_on blocks body (known blocks sound b p chain is) l e edge counts there)
        news (λ to_open i x found. subst (λ (v : ℕ). IsCounted blocks p chain new x v)
        (sym (after_is W i (number_in blocks body l) (number_in blocks body edge.to) f wholes x found))
        (counted_on blocks fit sound b p chain is l edge.to e f step to_open counts x (wholes i) (are i x found))) xs ys d split leads

-- one that isn't an own edge goes over no bound
pub other_led : (blocks : Blocks) → AreFitting blocks → AreSound blocks → (b : ℕ) (p : Parts) (n : ℕ) (chain : Chain)
    → IsChain blocks b p chain
    → (l f : ℕ) → IsOtherStep blocks (body_of blocks p chain) (index_of blocks p chain) l f → (counts wholes : Counts)
    → AreCounted blocks p chain counts (inlined blocks p).loops wholes → (m to : ℕ)
    → led (inlined blocks p).loops n f m to wholes ≡ at to (turned (inlined blocks p).loops f (moved (inlined blocks p).loops m to wholes))
other_led blocks fit sound b p n chain is l f step counts wholes are m to =
    ap (λ (o : Option Place). past_or o (at to (turned (inlined blocks p).loops f (moved (inlined blocks p).loops m to wholes))))
    (over_nowhere n f wholes 0 (inlined blocks p).loops
    (λ j x found. no_turn blocks fit sound b p chain is l f step counts x (wholes j) (are j x found)))
