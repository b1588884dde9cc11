-- Checks, accesses and arguments of which nodes stand in a table that grows: what was there stays, and what comes one after another.
use Rattle.std.proofs.Common.{◌≡◌, ℕ, List, [], ◌∷◌, ◌++◌, append_assoc, append-nil, sym, ap, subst, ◌∙◌}
use Rattle.pv_flow.specs.declared.term.Node.{Node}
use Rattle.pv_flow.specs.Terms.{Term}
use Rattle.pv_terms.specs.declared.function.Given.{Given}
use Rattle.pv_terms.specs.Forms.{Typed}
use Rattle.pv_terms.specs.Given.{AreGiven}
use Rattle.pv_terms.specs.Pushed.{IsTable, Grows, Puts}
use Rattle.pv_terms.proofs.ForCallers.{keeps, grows_then}
use Rattle.pv_access.specs.declared.access.Move.{Move as CodeMove}
use Rattle.pv_access.specs.declared.check.Check.{Check as CodeCheck}
use Rattle.pv_access.specs.Accesses.{Check, Move}
use Rattle.pv_access.specs.Given.{IsMove, AreMoves}
use Rattle.pv_access.specs.Pushed.{AreChecks, Checks}
use Rattle.pv_lower.specs.declared.access.Access.{Access as CodeAccess}
use Rattle.pv_lower.specs.Storages.{Access}
use Rattle.pv_lower.specs.Lowered.{Lowered, Accessed, Arguments, unchecked, behind_checks, reached_behind}
use Rattle.pv_lower.specs.Lowering.{Lowers, IsAccess, Accesses}

pub itself : (nodes : List Node) → IsTable nodes → Grows nodes nodes
itself nodes table = record { more = []; extends = sym (append-nil nodes); table = table }

pub puts_say : (old new : List Node) (n : ℕ) (s t : Term) → s ≡ t → Puts old new n s → Puts old new n t
puts_say old new n s t e p = record { grows = p.grows; at = record { within = p.at.within; term = p.at.term ∙ e } }

-- ---- checks

pub checks_keep : (old new : List Node) (cs : List CodeCheck) (ss : List Check) → Grows old new → AreChecks old cs ss → AreChecks new cs ss
checks_keep old new [] [] g are = are
checks_keep old new [] (s ∷ ss) g are = absurd are
checks_keep old new (c ∷ cs) [] g are = absurd are
checks_keep old new (c ∷ cs) (s ∷ ss) g are =
    (are.0, are.1, keeps old new c.term s.term g are.2, checks_keep old new cs ss g are.3)

are_both : (nodes : List Node) (cs ds : List CodeCheck) (xs ys : List Check) → AreChecks nodes cs xs → AreChecks nodes ds ys
    → AreChecks nodes (cs ++ ds) (xs ++ ys)
are_both nodes [] ds [] ys a b = b
are_both nodes [] ds (x ∷ xs) ys a b = absurd a
are_both nodes (c ∷ cs) ds [] ys a b = absurd a
are_both nodes (c ∷ cs) ds (x ∷ xs) ys a b = (a.0, a.1, a.2, are_both nodes cs ds xs ys a.3 b)

pub checks_then : (old mid new : List Node) (before between after : List CodeCheck) (xs ys : List Check)
    → Checks old mid before between xs → Checks mid new between after ys → Checks old new before after (xs ++ ys)
checks_then old mid new before between after xs ys a b = record {
  more = a.more ++ b.more;
  grows = grows_then old mid new a.grows b.grows;
  extends = b.extends ∙ ap (λ (l : List CodeCheck). l ++ b.more) a.extends ∙ append_assoc before a.more b.more;
  checks = are_both new a.more b.more xs ys (checks_keep mid new a.more xs b.grows a.checks) b.checks;
}

-- nodes alone, with no check; before checks, and behind them
pub no_checks : (old new : List Node) (before : List CodeCheck) → Grows old new → Checks old new before before []
no_checks old new before g = record { more = []; grows = g; extends = sym (append-nil before); checks = tt }

pub checks_behind : (old mid new : List Node) (before after : List CodeCheck) (xs : List Check) → Grows old mid
    → Checks mid new before after xs → Checks old new before after xs
checks_behind old mid new before after xs g c =
    record { more = c.more; grows = grows_then old mid new g c.grows; extends = c.extends; checks = c.checks }

pub checks_before : (old mid new : List Node) (before after : List CodeCheck) (xs : List Check) → Checks old mid before after xs
    → Grows mid new → Checks old new before after xs
checks_before old mid new before after xs c g = record {
  more = c.more;
  grows = grows_then old mid new c.grows g;
  extends = c.extends;
  checks = checks_keep mid new c.more xs g c.checks;
}

pub one_check : (old new : List Node) (before after : List CodeCheck) (c : CodeCheck) (s : Check) → after ≡ before ++ c ∷ []
    → c.kind ≡ s.kind → c.place ≡ s.place → Puts old new c.term s.term → Checks old new before after (s ∷ [])
one_check old new before after c s extends kind place puts =
    record { more = c ∷ []; grows = puts.grows; extends = extends; checks = (kind, place, puts.at, tt) }

pub checks_say : (old new : List Node) (before after : List CodeCheck) (xs ys : List Check) → xs ≡ ys
    → Checks old new before after xs → Checks old new before after ys
checks_say old new before after xs ys e c = subst (λ (l : List Check). Checks old new before after l) e c

-- ---- terms with their checks

pub lowers_say : (old new : List Node) (before after : List CodeCheck) (n : ℕ) (l m : Lowered) → l ≡ m
    → Lowers old new before after n l → Lowers old new before after n m
lowers_say old new before after n l m e x = subst (λ (y : Lowered). Lowers old new before after n y) e x

pub lowers_alone : (old new : List Node) (before : List CodeCheck) (n : ℕ) (t : Term) → Puts old new n t
    → Lowers old new before before n (unchecked t)
lowers_alone old new before n t p = record { checks = no_checks old new before p.grows; at = p.at }

-- the checks of a part, and then a term of it
pub lowers_on : (old mid new : List Node) (before after : List CodeCheck) (n : ℕ) (t : Term) (xs : List Check)
    → Checks old mid before after xs → Puts mid new n t → Lowers old new before after n (record { checks = xs; term = t })
lowers_on old mid new before after n t xs c p =
    record { checks = checks_before old mid new before after xs c p.grows; at = p.at }

-- nodes alone before
pub lowers_after : (old mid new : List Node) (before after : List CodeCheck) (n : ℕ) (l : Lowered) → Grows old mid
    → Lowers mid new before after n l → Lowers old new before after n l
lowers_after old mid new before after n l g x =
    record { checks = checks_behind old mid new before after l.checks g x.checks; at = x.at }

pub lowers_behind : (old mid new : List Node) (before between after : List CodeCheck) (n : ℕ) (xs : List Check) (l : Lowered)
    → Checks old mid before between xs → Lowers mid new between after n l
    → Lowers old new before after n (behind_checks xs l)
lowers_behind old mid new before between after n xs l c x =
    record { checks = checks_then old mid new before between after xs l.checks c x.checks; at = x.at }

-- ---- accesses

pub move_keeps : (old new : List Node) (c : CodeMove) (m : Move) → Grows old new → IsMove old c m → IsMove new c m
move_keeps old new c m g is =
    record { index = keeps old new c.index m.index g is.index; low = is.low; high = is.high; stride = is.stride }

pub moves_keep : (old new : List Node) (cs : List CodeMove) (ms : List Move) → Grows old new → AreMoves old cs ms → AreMoves new cs ms
moves_keep old new [] [] g are = are
moves_keep old new [] (m ∷ ms) g are = absurd are
moves_keep old new (c ∷ cs) [] g are = absurd are
moves_keep old new (c ∷ cs) (m ∷ ms) g are = (move_keeps old new c m g are.0, moves_keep old new cs ms g are.1)

pub one_more : (nodes : List Node) (cs : List CodeMove) (ms : List Move) (c : CodeMove) (m : Move) → AreMoves nodes cs ms
    → IsMove nodes c m → AreMoves nodes (cs ++ c ∷ []) (ms ++ m ∷ [])
one_more nodes [] [] c m are is = (is, tt)
one_more nodes [] (x ∷ ms) c m are is = absurd are
one_more nodes (x ∷ cs) [] c m are is = absurd are
one_more nodes (x ∷ cs) (y ∷ ms) c m are is = (are.0, one_more nodes cs ms c m are.1 is)

pub access_keeps : (old new : List Node) (code : CodeAccess) (a : Access) → Grows old new → IsAccess old code a → IsAccess new code a
access_keeps old new code a g is = record { origin = is.origin; moves = moves_keep old new code.moves.items a.moves g is.moves }

pub accesses_behind : (old mid new : List Node) (before between after : List CodeCheck) (code : CodeAccess) (xs : List Check) (acc : Accessed)
    → Checks old mid before between xs → Accesses mid new between after code acc
    → Accesses old new before after code (reached_behind xs acc)
accesses_behind old mid new before between after code xs acc c x =
    record { checks = checks_then old mid new before between after xs acc.checks c x.checks; access = x.access }

-- ---- arguments

pub given_keep : (old new : List Node) (gs : List Given) (ts : List Typed) → Grows old new → AreGiven old gs ts → AreGiven new gs ts
given_keep old new [] [] g are = are
given_keep old new [] (t ∷ ts) g are = absurd are
given_keep old new (x ∷ gs) [] g are = absurd are
given_keep old new (x ∷ gs) (t ∷ ts) g are = (are.0, keeps old new x.term t.term g are.1, given_keep old new gs ts g are.2)

given_both : (nodes : List Node) (gs hs : List Given) (xs ys : List Typed) → AreGiven nodes gs xs → AreGiven nodes hs ys
    → AreGiven nodes (gs ++ hs) (xs ++ ys)
given_both nodes [] hs [] ys a b = b
given_both nodes [] hs (x ∷ xs) ys a b = absurd a
given_both nodes (g ∷ gs) hs [] ys a b = absurd a
given_both nodes (g ∷ gs) hs (x ∷ xs) ys a b = (a.0, a.1, given_both nodes gs hs xs ys a.2 b)

-- behind the checks stand those of these arguments, and these are their terms
pub record Gives (old new : List Node) (before after : List CodeCheck) (given : List Given) (a : Arguments) : Type 0 where
  pub checks : Checks old new before after a.checks
  pub terms : AreGiven new given a.terms

-- the arguments of one list and then those of another
abbrev pub arguments_then : Arguments → Arguments → Arguments
arguments_then a b = record { checks = a.checks ++ b.checks; terms = a.terms ++ b.terms }

pub gives_then : (old mid new : List Node) (before between after : List CodeCheck) (some more : List Given) (a b : Arguments)
    → Gives old mid before between some a → Gives mid new between after more b
    → Gives old new before after (some ++ more) (arguments_then a b)
gives_then old mid new before between after some more a b x y = record {
  checks = checks_then old mid new before between after a.checks b.checks x.checks y.checks;
  terms = given_both new some more a.terms b.terms (given_keep mid new some a.terms y.checks.grows x.terms) y.terms;
}
