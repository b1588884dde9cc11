-- A call by its parts: parameters in, the body, parameters out.
use Rattle.std.proofs.Common.{◌≡◌, ℕ, suc, List, [], ◌∷◌, ◌++◌, map, Bool, true, refl, sym, ap, ◌∙◌}
use Rattle.std.specs.Prelude.{filter, ◌||◌}
use Rattle.pv_types.specs.declared.declaration.Section.{Section}
use Rattle.pv_tree.specs.Tree.{BlockTree}
use Rattle.pv_tree.specs.Callees.{How, CallSite, is_input, is_output, is_in_out, params_of_vars, value_param, runs, callee_of}
use Rattle.pv_mean.specs.Sources.{Source}
use Rattle.pv_mean.specs.Frames.{Frame}
use Rattle.pv_mean.specs.Endings.{Ended, ended, end_of, and_end}
use Rattle.pv_mean.specs.Activations.{Activation, word_begins, spot_of, scope_in}
use Rattle.pv_mean.specs.Statements.{Returned}
use Rattle.pv_mean.specs.Calls.{Linked, inside, with_inside, Passed, passed_in_sections, passed_in, passed_out, value_spot, copy_all_in, copy_all_out, returned, linked, run_call, run_callee, run_body, calls_within, instance_first}
use Rattle.pv_eval.specs.Means.{activation}
use Rattle.pv_run.specs.declared.stop.Stop.{Stop}
use Rattle.pv_run.specs.declared.stop.Stop.TheVariants as stop
use Rattle.pv_run.specs.Ends.{stop_end}
use Rattle.pv_run.specs.Handing.{handed_in_sections, handed_in, handed_out, passed_from}
use Rattle.pv_run.proofs.Handing.{all_in, all_out}

-- ---- the parameters that are passed

map_twice : {A B C : Type 0} (f : A → B) (g : B → C) (h : A → C) → ((a : A) → h a ≡ g (f a)) → (xs : List A) → map h xs ≡ map g (map f xs)
map_twice f g h same [] = refl
map_twice f g h same (x ∷ xs) =
    ap (λ y. y ∷ map h xs) (same x) ∙ ap (λ ys. g (f x) ∷ ys) (map_twice f g h same xs)

map_both : {A B : Type 0} (g : A → B) (xs ys : List A) → map g xs ++ map g ys ≡ map g (xs ++ ys)
map_both g [] ys = refl
map_both g (x ∷ xs) ys = ap (λ zs. g x ∷ zs) (map_both g xs ys)

in_sections : (source : Source) (callee : BlockTree) (first : ℕ) (test : Section → Bool)
    → passed_in_sections source (activation callee first) test ≡ map (passed_from first) (handed_in_sections source callee test)
in_sections source callee first test = map_twice (λ p. record {
  param = p;
  spot = λ n. spot_of (word_begins source (activation callee n) p.key true);
}) (passed_from first) (λ p. record {
  param = p;
  spot = spot_of (word_begins source (activation callee first) p.key true);
}) (λ p. refl) (filter (λ p. test p.section) (params_of_vars callee.vars))

pub all_passed_in : (source : Source) (callee : BlockTree) (first : ℕ)
    → passed_in source (activation callee first) ≡ map (passed_from first) (handed_in source callee)
all_passed_in source callee first = in_sections source callee first (λ s. is_input s || is_in_out s)

pub all_passed_out : (source : Source) (how : How) (callee : BlockTree) (first : ℕ)
    → passed_out source how (activation callee first) ≡ map (passed_from first) (handed_out source how callee)
all_passed_out source how callee first =
    ap (λ ps. ps ++ map (λ p. let x : Passed = record { param = p; spot = value_spot source callee } in x) (value_param how callee))
    (in_sections source callee first (λ s. is_output s || is_in_out s))
    ∙ ap (λ qs. map (passed_from first) (handed_in_sections source callee (λ s. is_output s || is_in_out s)) ++ qs)
    (map_twice (λ p. record { param = p; spot = λ n. value_spot source callee }) (passed_from first)
    (λ p. record { param = p; spot = value_spot source callee }) (λ p. refl) (value_param how callee))
    ∙ map_both (passed_from first) (handed_in_sections source callee (λ s. is_output s || is_in_out s))
    (map (λ p. record { param = p; spot = λ n. value_spot source callee }) (value_param how callee))

-- ---- one behind the other

abbrev pub behind_body : Source → Activation → CallSite → BlockTree → ℕ → Linked → Frame → Ended Returned
behind_body source caller site callee first l f =
    and_end (end_of (copy_all_out source caller site (activation callee first) (passed_out source site.how (activation callee first))
    (with_inside l f)))
    (λ m. ended (returned source callee m))

abbrev pub behind_in : Source → (Activation → Frame → Ended Frame) → Activation → CallSite → BlockTree → ℕ → Linked → Ended Returned
behind_in source body caller site callee first l =
    and_end (body (activation callee first) (inside l)) (λ f. behind_body source caller site callee first l f)

went_in : (source : Source) (body : Activation → Frame → Ended Frame) (caller : Activation) (site : CallSite) (callee : BlockTree)
    (first : ℕ) (frame : Frame)
    → run_call source body caller site (activation callee first) frame
    ≡ and_end (end_of (all_in source caller site callee first (handed_in source callee) (linked source callee frame)))
    (λ l. behind_in source body caller site callee first l)
went_in source body caller site callee first frame =
    ap (λ ps. and_end (end_of (copy_all_in source caller site (activation callee first) ps (linked source callee frame)))
    (λ l. behind_in source body caller site callee first l)) (all_passed_in source callee first)

went_out : (source : Source) (caller : Activation) (site : CallSite) (callee : BlockTree) (first : ℕ) (l : Linked) (f : Frame)
    → behind_body source caller site callee first l f
    ≡ and_end (end_of (all_out source caller site callee first (handed_out source site.how callee) (with_inside l f)))
    (λ m. ended (returned source callee m))
went_out source caller site callee first l f =
    ap (λ ps. and_end (end_of (copy_all_out source caller site (activation callee first) ps (with_inside l f)))
    (λ m. ended (returned source callee m))) (all_passed_out source site.how callee first)

stopped_end : {A B : Type 0} (s : Stop) (next : A → Ended B) → and_end (stop_end s) next ≡ stop_end s
stopped_end (stop.Trap t) next = refl
stopped_end (stop.Over place) next = refl

pub call_stops_in : (source : Source) (body : Activation → Frame
    → Ended Frame) (caller : Activation) (site : CallSite) (callee : BlockTree) (first : ℕ)
    (frame : Frame) (s : Stop) → stop_end s ≡ end_of (all_in source caller site callee first (handed_in source callee)
    (linked source callee frame))
    → stop_end s ≡ run_call source body caller site (activation callee first) frame
call_stops_in source body caller site callee first frame s p =
    sym (went_in source body caller site callee first frame
    ∙ ap (λ e. and_end e (λ l. behind_in source body caller site callee first l)) (sym p)
    ∙ stopped_end s (λ l. behind_in source body caller site callee first l))

pub call_stops_body : (source : Source) (body : Activation → Frame
    → Ended Frame) (caller : Activation) (site : CallSite) (callee : BlockTree) (first : ℕ)
    (frame : Frame) (l : Linked) (s : Stop)
    → ended l ≡ end_of (all_in source caller site callee first (handed_in source callee) (linked source callee frame))
    → stop_end s ≡ body (activation callee first) (inside l)
    → stop_end s ≡ run_call source body caller site (activation callee first) frame
call_stops_body source body caller site callee first frame l s p q =
    sym (went_in source body caller site callee first frame
    ∙ ap (λ e. and_end e (λ x. behind_in source body caller site callee first x)) (sym p)
    ∙ ap (λ e. and_end e (λ f. behind_body source caller site callee first l f)) (sym q)
    ∙ stopped_end s (λ f. behind_body source caller site callee first l f))

pub call_stops_out : (source : Source) (body : Activation → Frame
    → Ended Frame) (caller : Activation) (site : CallSite) (callee : BlockTree) (first : ℕ)
    (frame : Frame) (l : Linked) (f : Frame) (s : Stop)
    → ended l ≡ end_of (all_in source caller site callee first (handed_in source callee) (linked source callee frame))
    → ended f ≡ body (activation callee first) (inside l)
    → stop_end s ≡ end_of (all_out source caller site callee first (handed_out source site.how callee) (with_inside l f))
    → stop_end s ≡ run_call source body caller site (activation callee first) frame
call_stops_out source body caller site callee first frame l f s p q r =
    sym (went_in source body caller site callee first frame
    ∙ ap (λ e. and_end e (λ x. behind_in source body caller site callee first x)) (sym p)
    ∙ ap (λ e. and_end e (λ g. behind_body source caller site callee first l g)) (sym q)
    ∙ went_out source caller site callee first l f
    ∙ ap (λ e. and_end e (λ m. ended (returned source callee m))) (sym r)
    ∙ stopped_end s (λ m. ended (returned source callee m)))

pub call_done : (source : Source) (body : Activation → Frame → Ended Frame) (caller : Activation) (site : CallSite) (callee : BlockTree)
    (first : ℕ)
    (frame : Frame) (l m : Linked) (f : Frame)
    → ended l ≡ end_of (all_in source caller site callee first (handed_in source callee) (linked source callee frame))
    → ended f ≡ body (activation callee first) (inside l)
    → ended m ≡ end_of (all_out source caller site callee first (handed_out source site.how callee) (with_inside l f))
    → ended (returned source callee m) ≡ run_call source body caller site (activation callee first) frame
call_done source body caller site callee first frame l m f p q r =
    sym (went_in source body caller site callee first frame
    ∙ ap (λ e. and_end e (λ x. behind_in source body caller site callee first x)) (sym p)
    ∙ ap (λ e. and_end e (λ g. behind_body source caller site callee first l g)) (sym q)
    ∙ went_out source caller site callee first l f
    ∙ ap (λ e. and_end e (λ x. ended (returned source callee x))) (sym r))

-- ---- the block that a call comes to

pub calls_block : (source : Source) (n : ℕ) (caller : Activation) (site : CallSite) (callee : BlockTree) (first : ℕ) (frame : Frame)
    → callee_of (scope_in source caller) site ≡ runs callee → first ≡ instance_first source caller site.call
    → calls_within source (suc n) caller site frame
    ≡ run_call source (λ act f. run_body source (calls_within source n) act f) caller site (activation callee first) frame
calls_block source n caller site callee first frame e g =
    ap (λ c. run_callee source (λ act f. run_body source (calls_within source n) act f) caller site c frame) e
    ∙ ap (λ k. run_call source (λ act f. run_body source (calls_within source n) act f) caller site (activation callee k) frame) (sym g)
