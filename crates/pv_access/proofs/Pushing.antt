-- What was there stays behind further nodes; sets one after another.
use Rattle.std.proofs.Common.{◌≡◌, ℕ, List, [], ◌∷◌, ◌++◌, length, append_assoc, append-nil, refl, sym, ap, subst, ◌∙◌, arith}
use Rattle.pv_flow.specs.declared.term.Node.{Node}
use Rattle.pv_flow.specs.declared.parts.Set.{Set as CodeSet}
use Rattle.pv_flow.specs.Terms.{Term}
use Rattle.pv_flow.specs.Automata.{Set}
use Rattle.pv_terms.specs.Pushed.{IsTable, IsAt, Grows, Puts}
use Rattle.pv_terms.proofs.ForCallers.{keeps, grows_then}
use Rattle.pv_access.specs.declared.access.Move.{Move as CodeMove}
use Rattle.pv_access.specs.declared.access.Writing.{Writing as CodeWriting}
use Rattle.pv_access.specs.declared.access.Writing.TheVariants.{Assign, Where}
use Rattle.pv_access.specs.declared.check.Check.{Check as CodeCheck}
use Rattle.pv_access.specs.Accesses.{Check, Move, Writing, set_of}
use Rattle.pv_access.specs.Given.{IsMove, AreMoves, IsWriting}
use Rattle.pv_access.specs.Pushed.{AreAt, AreSets, Sets, Checks}

-- ---- what a call says of its term, said of the same term

pub says : (old new : List Node) (n : ℕ) (s t : Term) → s ≡ t → Puts old new n s → Puts old new n t
says old new n s t e p = record { grows = p.grows; at = record { within = p.at.within; term = p.at.term ∙ e } }

pub itself : (nodes : List Node) → IsTable nodes → Grows nodes nodes
itself nodes table = record { more = []; extends = sym (append-nil nodes); table = table }

pub puts_itself : (nodes : List Node) (n : ℕ) (t : Term) → IsTable nodes → IsAt nodes n t → Puts nodes nodes n t
puts_itself nodes n t table at = record { grows = itself nodes table; at = at }

-- ---- what was there stays

pub all_keep : (old new : List Node) (ns : List ℕ) (ts : List Term) → Grows old new → AreAt old ns ts → AreAt new ns ts
all_keep old new [] [] g are = are
all_keep old new [] (t ∷ ts) g are = absurd are
all_keep old new (n ∷ ns) [] g are = absurd are
all_keep old new (n ∷ ns) (t ∷ ts) g are = (keeps old new n t g are.0, all_keep old new ns ts g are.1)

pub all_and : (nodes : List Node) (ns : List ℕ) (ts : List Term) (n : ℕ) (t : Term) → AreAt nodes ns ts → IsAt nodes n t
    → AreAt nodes (ns ++ n ∷ []) (ts ++ t ∷ [])
all_and nodes [] [] n t are at = (at, tt)
all_and nodes [] (s ∷ ts) n t are at = absurd are
all_and nodes (m ∷ ns) [] n t are at = absurd are
all_and nodes (m ∷ ns) (s ∷ ts) n t are at = (are.0, all_and nodes ns ts n t are.1 at)

pub all_same : (nodes : List Node) (ns ms : List ℕ) (ts : List Term) → ms ≡ ns → AreAt nodes ns ts → AreAt nodes ms ts
all_same nodes ns ms ts e are = subst (λ l. AreAt nodes l ts) (sym e) are

pub move_keeps : (old new : List Node) (c : CodeMove) (m : Move) → Grows old new → IsMove old c m → IsMove new c m
move_keeps old new c m g is =
    record { index = keeps old new c.index m.index g is.index; low = is.low; high = is.high; stride = is.stride }

pub moves_keep : (old new : List Node) (cs : List CodeMove) (ms : List Move) → Grows old new → AreMoves old cs ms → AreMoves new cs ms
moves_keep old new [] [] g are = are
moves_keep old new [] (m ∷ ms) g are = absurd are
moves_keep old new (c ∷ cs) [] g are = absurd are
moves_keep old new (c ∷ cs) (m ∷ ms) g are = (move_keeps old new c m g are.0, moves_keep old new cs ms g are.1)

pub writing_keeps : (old new : List Node) (c : CodeWriting) (w : Writing) → Grows old new → IsWriting old c w → IsWriting new c w
writing_keeps old new (Assign n) w g is = record { term = is.term; at = keeps old new n is.term g is.at; is = is.is }
writing_keeps old new (Where on n) w g is = record {
  condition = is.condition;
  term = is.term;
  holds = keeps old new on is.condition g is.holds;
  at = keeps old new n is.term g is.at;
  is = is.is;
}

sets_keep : (old new : List Node) (cs : List CodeSet) (ss : List Set) → Grows old new → AreSets old cs ss → AreSets new cs ss
sets_keep old new [] [] g are = are
sets_keep old new [] (s ∷ ss) g are = absurd are
sets_keep old new (c ∷ cs) [] g are = absurd are
sets_keep old new (c ∷ cs) (s ∷ ss) g are = (are.0, keeps old new c.value s.value g are.1, sets_keep old new cs ss g are.2)

-- ---- sets

joined : (nodes : List Node) (cs ds : List CodeSet) (xs ys : List Set) → AreSets nodes cs xs → AreSets nodes ds ys → AreSets nodes (cs ++ ds) (xs ++ ys)
joined nodes [] ds [] ys a b = b
joined nodes [] ds (x ∷ xs) ys a b = absurd a
joined nodes (c ∷ cs) ds [] ys a b = absurd a
joined nodes (c ∷ cs) ds (x ∷ xs) ys a b = (a.0, a.1, joined nodes cs ds xs ys a.2 b)

pub sets_then : (old mid new : List Node) (before between after : List CodeSet) (xs ys : List Set)
    → Sets old mid before between xs → Sets mid new between after ys → Sets old new before after (xs ++ ys)
sets_then old mid new before between after xs ys a b = record {
  more = a.more ++ b.more;
  grows = grows_then old mid new a.grows b.grows;
  extends = b.extends ∙ ap (λ (l : List CodeSet). l ++ b.more) a.extends ∙ append_assoc before a.more b.more;
  sets = joined new a.more b.more xs ys (sets_keep mid new a.more xs b.grows a.sets) b.sets;
}

pub no_sets : (nodes : List Node) (before : List CodeSet) → IsTable nodes → Sets nodes nodes before before []
no_sets nodes before table = record { more = []; grows = itself nodes table; extends = sym (append-nil before); sets = tt }

pub one_set : (nodes : List Node) (before after : List CodeSet) (set : CodeSet) (n : ℕ) (t : Term) → after ≡ before ++ set ∷ []
    → set.variable ≡ n → IsTable nodes → IsAt nodes set.value t → Sets nodes nodes before after (set_of n t ∷ [])
one_set nodes before after set n t extends is table at =
    record { more = set ∷ []; grows = itself nodes table; extends = extends; sets = (is, at, tt) }

pub sets_say : (old new : List Node) (before after : List CodeSet) (xs ys : List Set) → xs ≡ ys → Sets old new before after xs → Sets old new before after ys
sets_say old new before after xs ys e s = subst (λ (l : List Set). Sets old new before after l) e s

-- nodes alone before them
pub sets_behind : (old mid new : List Node) (before after : List CodeSet) (xs : List Set) → Grows old mid → Sets mid new before after xs → Sets old new before after xs
sets_behind old mid new before after xs g s =
    record { more = s.more; grows = grows_then old mid new g s.grows; extends = s.extends; sets = s.sets }

-- ---- checks

pub no_checks : (nodes : List Node) (before : List CodeCheck) → IsTable nodes → Checks nodes nodes before before []
no_checks nodes before table = record { more = []; grows = itself nodes table; extends = sym (append-nil before); checks = tt }

pub one_check : (old new : List Node) (before after : List CodeCheck) (c : CodeCheck) (s : Check) → after ≡ before ++ c ∷ []
    → c.kind ≡ s.kind → c.place ≡ s.place → Puts old new c.term s.term → Checks old new before after (s ∷ [])
one_check old new before after c s extends kind place puts =
    record { more = c ∷ []; grows = puts.grows; extends = extends; checks = (kind, place, puts.at, tt) }

pub checks_say : (old new : List Node) (before after : List CodeCheck) (xs ys : List Check) → xs ≡ ys → Checks old new before after xs
    → Checks old new before after ys
checks_say old new before after xs ys e s = subst (λ (l : List Check). Checks old new before after l) e s

-- ---- lists from the front

pub no_terms : (nodes : List Node) (ns : List ℕ) (ts : List Term) → length ns ≡ 0 → AreAt nodes ns ts → ts ≡ []
no_terms nodes [] [] none are = refl
no_terms nodes [] (t ∷ ts) none are = absurd are
no_terms nodes (n ∷ ns) ts none are = absurd (omega (arith, none))

pub record SplitTerms (nodes : List Node) (n : ℕ) (more : List ℕ) (ts : List Term) : Type 0 where
  pub first : Term
  pub rest : List Term
  pub is : ts ≡ first ∷ rest
  pub term : IsAt nodes n first
  pub terms : AreAt nodes more rest

pub split_terms : (nodes : List Node) (ns : List ℕ) (n : ℕ) (more : List ℕ) (ts : List Term) → ns ≡ n ∷ more
    → AreAt nodes ns ts → SplitTerms nodes n more ts
split_terms nodes ns n more ts e are = parted ts (subst (λ l. AreAt nodes l ts) e are)
  where
    parted : (xs : List Term) → AreAt nodes (n ∷ more) xs → SplitTerms nodes n more xs
    parted [] are = absurd are
    parted (t ∷ xs) are = record { first = t; rest = xs; is = refl; term = are.0; terms = are.1 }

pub no_moves : (nodes : List Node) (codes : List CodeMove) (ms : List Move) → length codes ≡ 0 → AreMoves nodes codes ms → ms ≡ []
no_moves nodes [] [] none are = refl
no_moves nodes [] (m ∷ ms) none are = absurd are
no_moves nodes (c ∷ codes) ms none are = absurd (omega (arith, none))

pub record SplitMoves (nodes : List Node) (c : CodeMove) (more : List CodeMove) (ms : List Move) : Type 0 where
  pub first : Move
  pub rest : List Move
  pub is : ms ≡ first ∷ rest
  pub move : IsMove nodes c first
  pub moves : AreMoves nodes more rest

pub split_moves : (nodes : List Node) (codes : List CodeMove) (c : CodeMove) (more : List CodeMove) (ms : List Move) → codes ≡ c ∷ more
    → AreMoves nodes codes ms → SplitMoves nodes c more ms
split_moves nodes codes c more ms e are = parted ms (subst (λ l. AreMoves nodes l ms) e are)
  where
    parted : (xs : List Move) → AreMoves nodes (c ∷ more) xs → SplitMoves nodes c more xs
    parted [] are = absurd are
    parted (m ∷ xs) are = record { first = m; rest = xs; is = refl; move = are.0; moves = are.1 }
