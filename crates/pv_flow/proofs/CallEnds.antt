-- A run with calls comes to one outcome.
use Rattle.std.proofs.Common.{◌≡◌, ℕ, Option, Some, None, sym, subst, ap, ◌∙◌}
use Rattle.std.proofs.lemmas.Option.{same_Some, none-some}
use Rattle.pv_flow.specs.Terms.{Valuation}
use Rattle.pv_flow.specs.Automata.{Parts}
use Rattle.pv_flow.specs.Runs.{End, Outcome, Way, ended, Spot, first_spot}
use Rattle.pv_flow.specs.Calls.{Blocks, block_at, Work, Numbered, callee_work, cleared, assigned_in, Stage, running, finished, returned, ComesTo, stays, ends, goes, calls}

-- a state that ends a run leads on nowhere
ends_alone : (end : Option End) (w : Valuation) (out : Outcome) → ended end w ≡ Some out → end ≡ None → ⊥
ends_alone None w out e none = none-some out e
ends_alone (Some end) w out e none = none-some end (sym none)

-- the callee's run, with the parts that two ways to say it have alike
abbrev Inside : Blocks → ℕ → Work → Valuation → Numbered → Parts → Outcome → Type 0
Inside blocks n k w c p middle =
    ComesTo blocks n (callee_work blocks k c p) (running (first_spot p) (cleared (callee_work blocks k c p) w)) middle

inside_alike : (blocks : Blocks) (n : ℕ) (k : Work) (w : Valuation) (c d : Numbered) (p q : Parts) (middle : Outcome)
    → d ≡ c → q ≡ p → Inside blocks n k w d q middle → Inside blocks n k w c p middle
inside_alike blocks n k w c d p q middle e f h =
    subst (λ (r : Parts). Inside blocks n k w c r middle) f
    (subst (λ (x : Numbered). Inside blocks n k w x q middle) e h)

after_alike : (blocks : Blocks) (n : ℕ) (k : Work) (x : Spot) (c d : Numbered) (middle between out : Outcome) → d ≡ c → middle ≡ between
    → ComesTo blocks n k (returned k.parts.loops d.call x between) out → ComesTo blocks n k (returned k.parts.loops c.call x middle) out
after_alike blocks n k x c d middle between out e f h =
    subst (λ (m : Outcome). ComesTo blocks n k (returned k.parts.loops c.call x m) out) (sym f)
    (subst (λ (y : Numbered). ComesTo blocks n k (returned k.parts.loops y.call x between) out) e h)

block_alike : (blocks : Blocks) (c d : Numbered) (p q : Parts) → d ≡ c → block_at blocks c.call.block ≡ Some p
    → block_at blocks d.call.block ≡ Some q → q ≡ p
block_alike blocks c d p q e at_c at_d = same_Some q p (sym at_d ∙ (ap (λ (y : Numbered). block_at blocks y.call.block) e ∙ at_c))

pub comes_to_one : (blocks : Blocks) (n : ℕ) (k : Work) (s : Stage) (a b : Outcome) → ComesTo blocks n k s a → ComesTo blocks n k s b → a ≡ b
comes_to_one blocks n k (finished end) a b (stays e) (stays f) = sym e ∙ f
comes_to_one blocks n k (running x w) a b (ends e) (ends f) = same_Some a b (sym e ∙ f)
comes_to_one blocks n k (running x w) a b (ends e) (goes way none no_call takes after) = absurd (ends_alone _ w a e none)
comes_to_one blocks n k (running x w) a b (ends e) (calls c p middle none call block inside after) = absurd (ends_alone _ w a e none)
comes_to_one blocks n k (running x w) a b (goes way none no_call takes after) (ends f) = absurd (ends_alone _ w b f none)
comes_to_one blocks n k (running x w) a b (goes way none no_call takes after) (goes other none_too no_call_too takes_too after_too) =
    comes_to_one blocks n k (running way.to (assigned_in k way.sets w)) a b after
    (subst (λ (t : Way Spot). ComesTo blocks n k (running t.to (assigned_in k t.sets w)) b)
    (same_Some other way (sym takes_too ∙ takes)) after_too)
comes_to_one blocks n k (running x w) a b (goes way none no_call takes after) (calls c p middle none_too call block inside after_too) =
    absurd (none-some c (sym no_call ∙ call))
comes_to_one blocks n k (running x w) a b (calls c p middle none call block inside after) (ends f) = absurd (ends_alone _ w b f none)
comes_to_one blocks n k (running x w) a b (calls c p middle none call block inside after) (goes way none_too no_call takes after_too) =
    absurd (none-some c (sym no_call ∙ call))
comes_to_one blocks n k (running x w) a b (calls c p middle none call block inside after)
    (calls d q between none_too call_too block_too inside_too after_too) =
    let e : d ≡ c = same_Some d c (sym call_too ∙ call) in
    let f : q ≡ p = block_alike blocks c d p q e block block_too in
    let m : middle ≡ between =
    comes_to_one blocks n (callee_work blocks k c p) (running (first_spot p) (cleared (callee_work blocks k c p) w)) middle between inside
    (inside_alike blocks n k w c d p q between e f inside_too) in
    comes_to_one blocks n k (returned k.parts.loops c.call x middle) a b after
    (after_alike blocks n k x c d middle between b e m after_too)
