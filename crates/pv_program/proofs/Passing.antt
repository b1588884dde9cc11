-- What is handed in and out, one parameter more.
use Rattle.std.proofs.Common.{◌≡◌, ℕ, ◌+◌, ◌<◌, ◌≤◌, List, [], ◌∷◌, ◌++◌, map, filter, length, take, get_or, Option, Some, None, Bool, true, false, refl, sym, ap, ◌∙◌, subst, append_assoc}
use Rattle.std.specs.Prelude.{find, ◌&&◌, is_none, if◌then◌else◌}
use Rattle.pv_word.specs.declared.types.Ty.{Ty}
use Rattle.std.proofs.lemmas.Bool.{true≢false}
use Rattle.std.proofs.lemmas.List.{append-nil, take_all}
use Rattle.pv_types.specs.declared.declaration.Section.{Section}
use Rattle.pv_types.specs.declared.declaration.Section.TheVariants.{Input, Output, InOut, Static, Temp, Const}
use Rattle.pv_types.specs.Tree.{VarTree, var, plain}
use Rattle.pv_types.specs.declared.var.Var.{Var}
use Rattle.pv_types.specs.View.{var_tree, name_of, section_of}
use Rattle.pv_types.proofs.ForCallers.{var_seen}
use Rattle.pv_tree.specs.Tree.{ExprTree, ArgTree, BlockTree}
use Rattle.pv_tree.specs.Scopes.{first_var, value_key}
use Rattle.pv_tree.specs.Callees.{How, as_statement, as_value, by_call, by_uc, CallSite, params_of_vars, value_param, is_by_stl}
use Rattle.pv_tree.specs.Parts.{operand_of}
use Rattle.pv_mean.specs.Sources.{Source}
use Rattle.pv_mean.specs.Activations.{word_begins, spot_of, value_number}
use Rattle.pv_mean.specs.Spots.{brief, nowhere}
use Rattle.pv_mean.specs.Calls.{value_spot, is_for}
use Rattle.pv_names.specs.Params.{param_of}
use Rattle.pv_eval.specs.Means.{activation}
use Rattle.pv_run.specs.declared.program.Inward.{Inward}
use Rattle.pv_run.specs.declared.program.Outward.{Outward}
use Rattle.pv_run.specs.declared.program.Program.{Program}
use Rattle.pv_run.specs.Handing.{Handed, handed_in, handed_out, argument_of}
use Rattle.pv_run.specs.Code.{IsValue, GoesTo, slot_spot}
use Rattle.pv_program.specs.Growth.{Extends}
use Rattle.pv_program.specs.Handed.{goes_in, goes_out, handed_one, handed_if, handed_of, value_params, handed_value, values_handed, IsSpotOf, AreGiven, none_given, left_out, one_given, AreTaken, none_taken, passed_over, one_taken}
use Rattle.pv_program.proofs.Keeping.{value-kept, goes-kept}
use Rattle.pv_program.proofs.Pairing.{one-longer}

-- ---- in

pub given-kept : {source : Source} {block : BlockTree} {p q : Program} {site : CallSite} {callee : BlockTree} {cs : List Inward} {hs : List Handed}
    → Extends p q → AreGiven source block p site callee cs hs → AreGiven source block q site callee cs hs
given-kept x none_given = none_given
given-kept x (left_out without rest) = left_out without (given-kept x rest)
given-kept x (one_given arg held is goes rest) = one_given arg held (value-kept x is) goes (given-kept x rest)

pub given-more : {source : Source} {block : BlockTree} {p : Program} {site : CallSite} {callee : BlockTree} {cs : List Inward} {hs : List Handed}
    (c : Inward) (h : Handed) (arg : ArgTree) → argument_of site callee h ≡ Some arg → IsValue source block p c.value arg.value
    → ((first : ℕ) → slot_spot first c.to ≡ h.spot first) → AreGiven source block p site callee cs hs
    → AreGiven source block p site callee (cs ++ c ∷ []) (hs ++ h ∷ [])
given-more c h arg held is goes none_given = one_given arg held is goes none_given
given-more c h arg held is goes (left_out without rest) = left_out without (given-more c h arg held is goes rest)
given-more c h arg held is goes (one_given a e v g rest) = one_given a e v g (given-more c h arg held is goes rest)

pub given-over : {source : Source} {block : BlockTree} {p : Program} {site : CallSite} {callee : BlockTree} {cs : List Inward} {hs : List Handed}
    (h : Handed) → argument_of site callee h ≡ None → AreGiven source block p site callee cs hs
    → AreGiven source block p site callee cs (hs ++ h ∷ [])
given-over h without none_given = left_out without none_given
given-over h without (left_out e rest) = left_out e (given-over h without rest)
given-over h without (one_given a e v g rest) = one_given a e v g (given-over h without rest)

-- ---- out

pub taken-kept : {source : Source} {block : BlockTree} {p q : Program} {site : CallSite} {callee : BlockTree} {cs : List Outward}
    {hs : List Handed} → Extends p q → AreTaken source block p site callee cs hs → AreTaken source block q site callee cs hs
taken-kept x none_taken = none_taken
taken-kept x (passed_over without rest) = passed_over without (taken-kept x rest)
taken-kept {source = source} {block = block} x (one_taken {c = c} arg held to comes rest) =
    one_taken arg held (goes-kept source block c.to (operand_of arg.value) x to) comes (taken-kept x rest)

pub taken-more : {source : Source} {block : BlockTree} {p : Program} {site : CallSite} {callee : BlockTree} {cs : List Outward} {hs : List Handed}
    (c : Outward) (h : Handed) (arg : ArgTree) → argument_of site callee h ≡ Some arg → GoesTo source block p c.to (operand_of arg.value)
    → ((first : ℕ) → slot_spot first c.from ≡ h.spot first) → AreTaken source block p site callee cs hs
    → AreTaken source block p site callee (cs ++ c ∷ []) (hs ++ h ∷ [])
taken-more c h arg held to comes none_taken = one_taken arg held to comes none_taken
taken-more c h arg held to comes (passed_over without rest) = passed_over without (taken-more c h arg held to comes rest)
taken-more c h arg held to comes (one_taken a e t g rest) = one_taken a e t g (taken-more c h arg held to comes rest)

pub taken-over : {source : Source} {block : BlockTree} {p : Program} {site : CallSite} {callee : BlockTree} {cs : List Outward} {hs : List Handed}
    (h : Handed) → argument_of site callee h ≡ None → AreTaken source block p site callee cs hs
    → AreTaken source block p site callee cs (hs ++ h ∷ [])
taken-over h without none_taken = passed_over without none_taken
taken-over h without (passed_over e rest) = passed_over e (taken-over h without rest)
taken-over h without (one_taken a e t g rest) = one_taken a e t g (taken-over h without rest)

-- ---- variables as parameters

pub handed-append : (source : Source) (callee : BlockTree) (test : Section → Bool) (vs : List VarTree) (v : VarTree)
    → handed_of source callee test (vs ++ v ∷ []) ≡ handed_of source callee test vs ++ handed_if source callee test v
handed-append source callee test [] v = append-nil (handed_if source callee test v)
handed-append source callee test (w ∷ vs) v =
    ap (λ l. handed_if source callee test w ++ l) (handed-append source callee test vs v)
    ∙ sym (append_assoc (handed_if source callee test w) (handed_of source callee test vs) (handed_if source callee test v))

-- one variable more, as a loop goes along them
pub handed-grown : {X : Type 0} (source : Source) (callee : BlockTree) (test : Section → Bool) (f : X → VarTree) (xs : List X) (i j : ℕ) (x : X)
    → i < length xs → x ≡ get_or xs i x → j ≡ i + 1
    → handed_of source callee test (map f (take j xs))
    ≡ handed_of source callee test (map f (take i xs)) ++ handed_if source callee test (f x)
handed-grown source callee test f xs i j x inside is e =
    ap (handed_of source callee test) (one-longer f xs i j x inside is e)
    ∙ handed-append source callee test (map f (take i xs)) (f x)

-- a variable that isn't handed, or is
pub not-handed : (source : Source) (callee : BlockTree) (test : Section → Bool) (v : VarTree) → test (section_of v) ≡ false
    → handed_if source callee test v ≡ []
not-handed source callee test v e = ap (λ t. if t then handed_one source callee v ∷ [] else []) e

pub is-handed : (source : Source) (callee : BlockTree) (test : Section → Bool) (v : VarTree) → test (section_of v) ≡ true
    → handed_if source callee test v ≡ handed_one source callee v ∷ []
is-handed source callee test v e = ap (λ t. if t then handed_one source callee v ∷ [] else []) e

-- those of a block are the definition's
abbrev through : Source → BlockTree → (Section → Bool) → List VarTree → List Handed
through source callee test vs =
    map (λ p. record { param = p; spot = λ first. spot_of (word_begins source (activation callee first) p.key true) })
    (filter (λ p. test p.section) (params_of_vars vs))

in-sections : (source : Source) (callee : BlockTree) (vs : List VarTree) → handed_of source callee goes_in vs ≡ through source callee goes_in vs
in-sections source callee [] = refl
in-sections source callee (var name Input ty start place ∷ vs) =
    ap (λ l. handed_one source callee (var name Input ty start place) ∷ l) (in-sections source callee vs)
in-sections source callee (var name Output ty start place ∷ vs) = in-sections source callee vs
in-sections source callee (var name InOut ty start place ∷ vs) =
    ap (λ l. handed_one source callee (var name InOut ty start place) ∷ l) (in-sections source callee vs)
in-sections source callee (var name Static ty start place ∷ vs) = in-sections source callee vs
in-sections source callee (var name Temp ty start place ∷ vs) = in-sections source callee vs
in-sections source callee (var name Const ty start place ∷ vs) = in-sections source callee vs

out-sections : (source : Source) (callee : BlockTree) (vs : List VarTree) → handed_of source callee goes_out vs ≡ through source callee goes_out vs
out-sections source callee [] = refl
out-sections source callee (var name Input ty start place ∷ vs) = out-sections source callee vs
out-sections source callee (var name Output ty start place ∷ vs) =
    ap (λ l. handed_one source callee (var name Output ty start place) ∷ l) (out-sections source callee vs)
out-sections source callee (var name InOut ty start place ∷ vs) =
    ap (λ l. handed_one source callee (var name InOut ty start place) ∷ l) (out-sections source callee vs)
out-sections source callee (var name Static ty start place ∷ vs) = out-sections source callee vs
out-sections source callee (var name Temp ty start place ∷ vs) = out-sections source callee vs
out-sections source callee (var name Const ty start place ∷ vs) = out-sections source callee vs

pub all-in : (source : Source) (callee : BlockTree) → handed_of source callee goes_in callee.vars ≡ handed_in source callee
all-in source callee = in-sections source callee callee.vars

-- with a function's value behind them
pub all-out : (source : Source) (how : How) (callee : BlockTree)
    → handed_of source callee goes_out callee.vars ++ values_handed source how callee ≡ handed_out source how callee
all-out source how callee = ap (λ l. l ++ values_handed source how callee) (out-sections source callee callee.vars)

-- ---- variables of the code

key-seen : (v : Var) → (param_of (var_tree v)).key ≡ v.name.now.key
key-seen v = ap (λ t. (name_of t).key) (var_seen v)

section-seen : (v : Var) → section_of (var_tree v) ≡ v.of.now.section
section-seen v = ap section_of (var_seen v)

-- the argument and the spot of a variable's parameter
pub argument-seen : (source : Source) (site : CallSite) (callee : BlockTree) (v : Var) (o : Option ArgTree)
    → o ≡ find (is_for site.how callee v.name.now.key) site.call.args → argument_of site callee (handed_one source callee (var_tree v)) ≡ o
argument-seen source site callee v o e = ap (λ k. find (is_for site.how callee k) site.call.args) (key-seen v) ∙ sym e

pub spot-seen : (source : Source) (callee : BlockTree) (v : Var) → IsSpotOf source callee v.name.now (handed_one source callee (var_tree v))
spot-seen source callee v first = ap (λ k. spot_of (word_begins source (activation callee first) k true)) (key-seen v)

-- a parameter more that has an argument
pub given-one : {source : Source} {block : BlockTree} {p q : Program} {site : CallSite} {callee : BlockTree} (old new : List Inward) (hs : List Handed)
    (c : Inward) (h : Handed) (arg : ArgTree) (e : ExprTree) → Extends p q → new ≡ old ++ c ∷ [] → argument_of site callee h ≡ Some arg
    → arg.value ≡ e → IsValue source block q c.value e → ((first : ℕ) → slot_spot first c.to ≡ h.spot first)
    → AreGiven source block p site callee old hs → AreGiven source block q site callee new (hs ++ h ∷ [])
given-one {source} {block} {p} {q} {site} {callee} old new hs c h arg e x grown held same is goes before =
    subst (λ l. AreGiven source block q site callee l (hs ++ h ∷ [])) (sym grown)
    (given-more c h arg held (subst (λ x. IsValue source block q c.value x) (sym same) is) goes (given-kept x before))

-- a variable more that isn't handed over, or has no argument, or has one
pub given-none : {source : Source} {block : BlockTree} {p : Program} {site : CallSite} {callee : BlockTree} (test : Section → Bool) (v : Var)
    (cs : List Inward) (hs : List Handed) → test v.of.now.section ≡ false → AreGiven source block p site callee cs hs
    → AreGiven source block p site callee cs (hs ++ handed_if source callee test (var_tree v))
given-none {source} {block} {p} {site} {callee} test v cs hs off before =
    subst (λ l. AreGiven source block p site callee cs l)
    (sym (append-nil hs) ∙ ap (λ l. hs ++ l) (sym (not-handed source callee test (var_tree v) (ap test (section-seen v) ∙ off)))) before

pub given-passed : {source : Source} {block : BlockTree} {p : Program} {site : CallSite} {callee : BlockTree} (test : Section → Bool) (v : Var)
    (cs : List Inward) (hs : List Handed) → test v.of.now.section ≡ true → None ≡ find (is_for site.how callee v.name.now.key) site.call.args
    → AreGiven source block p site callee cs hs → AreGiven source block p site callee cs (hs ++ handed_if source callee test (var_tree v))
given-passed {source} {block} {p} {site} {callee} test v cs hs on without before =
    subst (λ l. AreGiven source block p site callee cs (hs ++ l)) (sym (is-handed source callee test (var_tree v) (ap test (section-seen v) ∙ on)))
    (given-over (handed_one source callee (var_tree v)) (argument-seen source site callee v None without) before)

pub given-handed : {source : Source} {block : BlockTree} {p : Program} {site : CallSite} {callee : BlockTree} (test : Section → Bool) (v : Var)
    (cs : List Inward) (hs : List Handed) → test v.of.now.section ≡ true
    → AreGiven source block p site callee cs (hs ++ handed_one source callee (var_tree v) ∷ [])
    → AreGiven source block p site callee cs (hs ++ handed_if source callee test (var_tree v))
given-handed {source} {block} {p} {site} {callee} test v cs hs on are =
    subst (λ l. AreGiven source block p site callee cs (hs ++ l)) (sym (is-handed source callee test (var_tree v) (ap test (section-seen v) ∙ on))) are

-- before the loop over variables, a variable more, and at its end
pub given-begun : {source : Source} {block : BlockTree} {p : Program} {site : CallSite} {callee : BlockTree} (cs : List Inward) → cs ≡ []
    → AreGiven source block p site callee cs []
given-begun {source} {block} {p} {site} {callee} cs e = subst (λ l. AreGiven source block p site callee l []) (sym e) none_given

pub given-grown : {source : Source} {block : BlockTree} {p : Program} {site : CallSite} {callee : BlockTree} (test : Section → Bool) (xs : List Var)
    (i j : ℕ) (x : Var) (cs : List Inward) → i < length xs → x ≡ get_or xs i x → j ≡ i + 1
    → AreGiven source block p site callee cs (handed_of source callee test (map var_tree (take i xs)) ++ handed_if source callee test (var_tree x))
    → AreGiven source block p site callee cs (handed_of source callee test (map var_tree (take j xs)))
given-grown {source} {block} {p} {site} {callee} test xs i j x cs inside is e are =
    subst (λ l. AreGiven source block p site callee cs l) (sym (handed-grown source callee test var_tree xs i j x inside is e)) are

pub given-seen : {source : Source} {block : BlockTree} {p : Program} {site : CallSite} {callee : BlockTree} (test : Section → Bool)
    (xs : List Var) (i : ℕ) (cs : List Inward) (vars : List VarTree) → length xs ≤ i → map var_tree xs ≡ vars
    → AreGiven source block p site callee cs (handed_of source callee test (map var_tree (take i xs)))
    → AreGiven source block p site callee cs (handed_of source callee test vars)
given-seen {source} {block} {p} {site} {callee} test xs i cs vars end seen are =
    subst (λ l. AreGiven source block p site callee cs l)
    (ap (λ l. handed_of source callee test (map var_tree l)) (take_all i xs end) ∙ ap (handed_of source callee test) seen) are

pub given-whole : {source : Source} {block : BlockTree} {p q : Program} {site : CallSite} {callee : BlockTree} (cs slice : List Inward)
    (hs all : List Handed) → Extends p q → slice ≡ cs → hs ≡ all → AreGiven source block p site callee cs hs
    → AreGiven source block q site callee slice all
given-whole {source} {block} {p} {q} {site} {callee} cs slice hs all x same is are =
    subst (λ l. AreGiven source block q site callee l all) (sym same)
    (subst (λ l. AreGiven source block q site callee cs l) is (given-kept x are))

-- a parameter more that has an argument
pub taken-one : {source : Source} {block : BlockTree} {p q : Program} {site : CallSite} {callee : BlockTree} (old new : List Outward) (hs : List Handed)
    (c : Outward) (h : Handed) (arg : ArgTree) (e : ExprTree) → Extends p q → new ≡ old ++ c ∷ [] → argument_of site callee h ≡ Some arg
    → arg.value ≡ e → GoesTo source block q c.to (operand_of e) → ((first : ℕ) → slot_spot first c.from ≡ h.spot first)
    → AreTaken source block p site callee old hs → AreTaken source block q site callee new (hs ++ h ∷ [])
taken-one {source} {block} {p} {q} {site} {callee} old new hs c h arg e x grown held same is goes before =
    subst (λ l. AreTaken source block q site callee l (hs ++ h ∷ [])) (sym grown)
    (taken-more c h arg held (subst (λ x. GoesTo source block q c.to (operand_of x)) (sym same) is) goes (taken-kept x before))

-- a variable more that isn't handed over, or has no argument, or has one
pub taken-none : {source : Source} {block : BlockTree} {p : Program} {site : CallSite} {callee : BlockTree} (test : Section → Bool) (v : Var)
    (cs : List Outward) (hs : List Handed) → test v.of.now.section ≡ false → AreTaken source block p site callee cs hs
    → AreTaken source block p site callee cs (hs ++ handed_if source callee test (var_tree v))
taken-none {source} {block} {p} {site} {callee} test v cs hs off before =
    subst (λ l. AreTaken source block p site callee cs l)
    (sym (append-nil hs) ∙ ap (λ l. hs ++ l) (sym (not-handed source callee test (var_tree v) (ap test (section-seen v) ∙ off)))) before

pub taken-passed : {source : Source} {block : BlockTree} {p : Program} {site : CallSite} {callee : BlockTree} (test : Section → Bool) (v : Var)
    (cs : List Outward) (hs : List Handed) → test v.of.now.section ≡ true → None ≡ find (is_for site.how callee v.name.now.key) site.call.args
    → AreTaken source block p site callee cs hs → AreTaken source block p site callee cs (hs ++ handed_if source callee test (var_tree v))
taken-passed {source} {block} {p} {site} {callee} test v cs hs on without before =
    subst (λ l. AreTaken source block p site callee cs (hs ++ l)) (sym (is-handed source callee test (var_tree v) (ap test (section-seen v) ∙ on)))
    (taken-over (handed_one source callee (var_tree v)) (argument-seen source site callee v None without) before)

pub taken-handed : {source : Source} {block : BlockTree} {p : Program} {site : CallSite} {callee : BlockTree} (test : Section → Bool) (v : Var)
    (cs : List Outward) (hs : List Handed) → test v.of.now.section ≡ true
    → AreTaken source block p site callee cs (hs ++ handed_one source callee (var_tree v) ∷ [])
    → AreTaken source block p site callee cs (hs ++ handed_if source callee test (var_tree v))
taken-handed {source} {block} {p} {site} {callee} test v cs hs on are =
    subst (λ l. AreTaken source block p site callee cs (hs ++ l)) (sym (is-handed source callee test (var_tree v) (ap test (section-seen v) ∙ on))) are

-- before the loop over variables, a variable more, and at its end
pub taken-begun : {source : Source} {block : BlockTree} {p : Program} {site : CallSite} {callee : BlockTree} (cs : List Outward) → cs ≡ []
    → AreTaken source block p site callee cs []
taken-begun {source} {block} {p} {site} {callee} cs e = subst (λ l. AreTaken source block p site callee l []) (sym e) none_taken

pub taken-grown : {source : Source} {block : BlockTree} {p : Program} {site : CallSite} {callee : BlockTree} (test : Section → Bool) (xs : List Var)
    (i j : ℕ) (x : Var) (cs : List Outward) → i < length xs → x ≡ get_or xs i x → j ≡ i + 1
    → AreTaken source block p site callee cs (handed_of source callee test (map var_tree (take i xs)) ++ handed_if source callee test (var_tree x))
    → AreTaken source block p site callee cs (handed_of source callee test (map var_tree (take j xs)))
taken-grown {source} {block} {p} {site} {callee} test xs i j x cs inside is e are =
    subst (λ l. AreTaken source block p site callee cs l) (sym (handed-grown source callee test var_tree xs i j x inside is e)) are

-- all variables, and what is handed out behind them
pub taken-seen : {source : Source} {block : BlockTree} {p : Program} {site : CallSite} {callee : BlockTree} (test : Section → Bool)
    (xs : List Var) (i : ℕ) (cs : List Outward) (vars : List VarTree) → length xs ≤ i → map var_tree xs ≡ vars
    → AreTaken source block p site callee cs (handed_of source callee test (map var_tree (take i xs)))
    → AreTaken source block p site callee cs (handed_of source callee test vars)
taken-seen {source} {block} {p} {site} {callee} test xs i cs vars end seen are =
    subst (λ l. AreTaken source block p site callee cs l)
    (ap (λ l. handed_of source callee test (map var_tree l)) (take_all i xs end) ∙ ap (handed_of source callee test) seen) are

pub taken-end : {source : Source} {block : BlockTree} {p q : Program} {site : CallSite} {callee : BlockTree} (cs slice : List Outward)
    (hs all : List Handed) → Extends p q → slice ≡ cs → hs ≡ all → AreTaken source block p site callee cs hs
    → AreTaken source block q site callee slice all
taken-end {source} {block} {p} {q} {site} {callee} cs slice hs all x same is are =
    subst (λ l. AreTaken source block q site callee l all) (sym same)
    (subst (λ l. AreTaken source block q site callee cs l) is (taken-kept x are))

-- ---- a function's value

-- the spot of the value
pub value-spot-seen : (source : Source) (callee : BlockTree) (ty : Ty) (n first : ℕ) → callee.value ≡ Some ty → n ≡ value_number source callee
    → brief ty n ≡ (handed_value source callee ty).spot first
value-spot-seen source callee ty n first e is =
    ap (brief ty) is ∙ sym (ap (λ (o : Option Ty). elim o [ None ↦ nowhere | Some t ↦ brief t (value_number source callee) ]) e)

-- handed out, or not
pub values-handed-one : {source : Source} {block : BlockTree} {p : Program} {site : CallSite} {callee : BlockTree} (how : How) (ty : Ty)
    (cs : List Outward) (hs : List Handed) → value_params (Some ty) ≡ value_param how callee
    → AreTaken source block p site callee cs (hs ++ handed_value source callee ty ∷ [])
    → AreTaken source block p site callee cs (hs ++ values_handed source how callee)
values-handed-one {source} {block} {p} {site} {callee} how ty cs hs e are =
    subst (λ l. AreTaken source block p site callee cs (hs ++ map (λ p. record { param = p; spot = λ first. value_spot source callee }) l)) e are

pub values-handed-none : {source : Source} {block : BlockTree} {p : Program} {site : CallSite} {callee : BlockTree} (how : How)
    (cs : List Outward) (hs : List Handed) → value_params None ≡ value_param how callee
    → AreTaken source block p site callee cs hs
    → AreTaken source block p site callee cs (hs ++ values_handed source how callee)
values-handed-none {source} {block} {p} {site} {callee} how cs hs e are =
    subst (λ l. AreTaken source block p site callee cs (hs ++ map (λ p. record { param = p; spot = λ first. value_spot source callee }) l)) e
    (subst (λ l. AreTaken source block p site callee cs l) (sym (append-nil hs)) are)

-- by a call of SCL
pub values-of-scl : {source : Source} {block : BlockTree} {p : Program} {site : CallSite} {callee : BlockTree} (how : How)
    (cs : List Outward) (hs : List Handed) → is_by_stl how ≡ false
    → AreTaken source block p site callee cs hs → AreTaken source block p site callee cs (hs ++ values_handed source how callee)
values-of-scl {callee = callee} how cs hs e before = values-handed-none how cs hs (without how e) before
  where
    without : (how : How) → is_by_stl how ≡ false → [] ≡ value_param how callee
    without as_statement e = refl
    without as_value e = refl
    without by_call e = absurd (true≢false e)
    without by_uc e = absurd (true≢false e)

-- without an argument for it
pub values-passed : {source : Source} {block : BlockTree} {p : Program} {site : CallSite} {callee : BlockTree} (how : How)
    (cs : List Outward) (hs : List Handed) → None ≡ find (is_for site.how callee value_key) site.call.args
    → AreTaken source block p site callee cs hs → AreTaken source block p site callee cs (hs ++ values_handed source how callee)
values-passed {source} {block} {p} {site} {callee} how cs hs without before =
    lead (is_by_stl how && is_none (first_var callee.vars value_key)) callee.value
  where
    lead : (b : Bool) (o : Option Ty) → AreTaken source block p site callee cs (hs ++ map (λ p. record { param = p; spot = λ first. value_spot source callee })
        (if b then elim o [ None ↦ [] | Some ty ↦ record { key = value_key; section = Output; ty = plain ty } ∷ [] ] else []))
    lead true (Some ty) = taken-over (handed_value source callee ty) (sym without) before
    lead true None = subst (λ l. AreTaken source block p site callee cs l) (sym (append-nil hs)) before
    lead false o = subst (λ l. AreTaken source block p site callee cs l) (sym (append-nil hs)) before
