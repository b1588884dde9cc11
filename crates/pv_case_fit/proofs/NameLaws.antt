-- Names, and the expressions that are a name alone.
use Rattle.std.proofs.Common.{◌≡◌, ℕ, ◌+◌, ◌≤◌, List, [], ◌∷◌, ◌++◌, length, Bool, true, false, ◌||◌, not, IsTrue, Option, Some, None, refl, sym, ap, ◌∙◌, subst, arith, inl, inr}
use Rattle.std.proofs.Common.{Result, Ok, Err, IfOk, IfSome, IfNone}
use Rattle.std.proofs.lemmas.Bool.{false≢true}
use Rattle.std.proofs.lemmas.List.{append-nil, length-map}
use Rattle.std.specs.declared.alloc.AllocError.{AllocError}
use Rattle.pv_place.specs.declared.place.Place.{Place}
use Rattle.pv_types.specs.declared.name.Name.{Name}
use Rattle.pv_lex.specs.declared.fault.FaultKind.{FaultKind}
use Rattle.pv_lex.specs.declared.token.Token.{Token}
use Rattle.pv_lex.specs.declared.token.Kind.{Kind}
use Rattle.pv_lex.specs.declared.token.Kind.TheVariants as k
use Rattle.pv_lex.specs.declared.token.Language.TheVariants.{Scl}
use Rattle.pv_lex.specs.Tokens.{AreTokens, IsFault}
use Rattle.pv_lex.proofs.ForCallers.{tokens-one, tokens-faultless}
use Rattle.pv_tree.specs.declared.expr.Root.{Root}
use Rattle.pv_tree.specs.declared.expr.Root.TheVariants.{Local, Named, Area as InArea}
use Rattle.pv_tree.specs.Tree.{ExprTree, lit, read, unary, binary, std, paren, operand, no_steps, steps}
use Rattle.pv_tree.specs.Lexemes.{Lexeme, lexeme_of, lexemes_of}
use Rattle.pv_tree.specs.Words.{IsQuoted, IsNumbered, IsNumberedPair, IsFree, is_reserved, begins_quoted, plain_name, pair_name, quoted_name, SpellsWord, SpellsFirm, SpellsName}
use Rattle.pv_tree.specs.Reading.{AreEnded, ReadAsName, ReadAsExpression, IsSyntaxFaultAt, IsTooDeepExpression}
use Rattle.pv_tree.specs.Outside.{IsFirstOutside}
use Rattle.pv_tree.proofs.ForCallers.{outside-apart}
use Rattle.pv_parse.specs.Kinds.{IsSoundBy}
use Rattle.pv_parse.specs.declared.fault.ParseFault.{ParseFault}
use Rattle.pv_parse.specs.declared.fault.ParseFault.TheVariants.{Outside, Syntax, Deep}
use Rattle.pv_parse.proofs.ForCallers.{AreSound, tokens-sound, free-by, numbered-unreserved, pair-free}
use Rattle.pv_scl_parse.specs.Answers.{IsOnlyExpression, AnswersExpression}
use Rattle.pv_case_fit.specs.Entries.{IsNameOf, is_short, IsNameText}
use Rattle.pv_case_fit.specs.Named.{name_of_root, name_alone}
use Rattle.pv_case_fit.proofs.Lengths.{deep_long}

-- ---- lists

same_front : {A : Type 0} (xs ys : List A) (x y : A) → xs ++ x ∷ [] ≡ ys ++ y ∷ [] → xs ≡ ys
same_front [] [] x y e = refl
same_front [] (z ∷ []) x y e = absurd (cc)
same_front [] (z ∷ w ∷ ys) x y e = absurd (cc)
same_front (z ∷ []) [] x y e = absurd (cc)
same_front (z ∷ w ∷ xs) [] x y e = absurd (cc)
same_front (z ∷ xs) (w ∷ ys) x y e =
    let first : z ≡ w = cc in
    let rest : xs ++ x ∷ [] ≡ ys ++ y ∷ [] = cc in
    ap (λ l. z ∷ l) (same_front xs ys x y rest) ∙ ap (λ v. v ∷ ys) first

sound_front : (xs ys : List Lexeme) → AreSound (xs ++ ys) → AreSound xs
sound_front [] ys s = tt
sound_front (x ∷ xs) ys s = (s.0, sound_front xs ys s.1)

some_name : (x y : Name) → Some x ≡ Some y → x ≡ y
some_name x y e = cc

-- ---- names may stand alone

quoted_free : (p q : Bool) → p ≡ true → (p || q) ≡ true
quoted_free true q e = refl
quoted_free false q e = absurd (false≢true e)

free_quoted : (name : Name) (t : Lexeme) → IsSoundBy t.kind t.bytes → IsQuoted name t → IsFree name
free_quoted name t sound h =
    let begins = subst (λ (kind : Kind). IsSoundBy kind t.bytes) h.kind sound in
    subst IsFree (sym h.names) (quoted_free (begins_quoted t.bytes) (not (is_reserved (quoted_name t.bytes).key)) begins)

free_numbered : (name : Name) (t : Lexeme) → IsNumbered name t → IsFree name
free_numbered name t h = subst IsFree (sym h.names) (free-by t.bytes (numbered-unreserved t.bytes h.numbered))

free_pair : (name : Name) (place : Place) (tokens : List Lexeme) → AreSound tokens → IsNumberedPair name place tokens → IsFree name
free_pair name place tokens sound h =
    let both = subst AreSound h.parts sound in
    let some = subst (λ (kind : Kind). IsSoundBy kind h.number.bytes) h.counts both.1.0 in
    subst IsFree (sym h.names) (pair-free h.prefix.bytes h.number.bytes h.is_prefix some)

free_firm : (name : Name) (place : Place) (tokens : List Lexeme) → AreSound tokens → SpellsFirm name place tokens → IsFree name
free_firm name place tokens sound (inl one) = free_quoted name one.token (subst AreSound one.alone sound).0 one.is.is
free_firm name place tokens sound (inr (inl one)) = free_numbered name one.token one.is.is
free_firm name place tokens sound (inr (inr pair)) = free_pair name place tokens sound pair

-- ---- from the expression to the name

pub record Reads (name : Name) (tokens : List Lexeme) : Type 0 where
  pub place : Place
  pub read : ReadAsName name place tokens

whole : (tokens front back : List Lexeme) → tokens ≡ front ++ back → back ≡ [] → tokens ≡ front
whole tokens front back parts none = parts ∙ ap (λ (l : List Lexeme). front ++ l) none ∙ append-nil front

alone_root : (root : Root) (place : Place) (name : Name) (tokens : List Lexeme) → AreSound tokens → name_of_root root ≡ Some name
    → ReadAsExpression (read (operand root no_steps place)) tokens → Reads name tokens
alone_root (Local its true at) place name tokens sound e r = absurd (cc (e))
alone_root (Local its false at) place name tokens sound e r =
    let is : its ≡ name = some_name its name e in
    let joined = r.spelled in
    let one = joined.in_front in
    let alone = whole tokens joined.front joined.back joined.parts joined.behind ∙ one.alone in
    record {
      place = at;
      read = record {
        spelled = inl (subst (λ (n : Name). SpellsWord n at tokens) is
            (record { token = one.token; alone = alone; is = record { is = one.is.is.is; at = one.is.is.at } }));
        free = subst IsFree is r.formed.0;
      };
    }
alone_root (Named its) place name tokens sound e r =
    let is : its ≡ name = some_name its name e in
    let joined = r.spelled in
    let firm = subst (SpellsFirm its place) (sym (whole tokens joined.front joined.back joined.parts joined.behind)) joined.in_front in
    record {
      place = place;
      read = record {
        spelled = inr (subst (λ (n : Name). SpellsFirm n place tokens) is firm);
        free = subst IsFree is (free_firm its place tokens sound firm);
      };
    }
alone_root (InArea its bits byte bit) place name tokens sound e r = absurd (cc (e))

alone_reads : (tree : ExprTree) (name : Name) (tokens : List Lexeme) → AreSound tokens → name_alone tree ≡ Some name
    → ReadAsExpression tree tokens → Reads name tokens
alone_reads (lit own value place) name tokens sound e r = absurd (cc (e))
alone_reads (read (operand root no_steps place)) name tokens sound e r = alone_root root place name tokens sound e r
alone_reads (read (operand root (steps step others) place)) name tokens sound e r = absurd (cc (e))
alone_reads (unary op place arg) name tokens sound e r = absurd (cc (e))
alone_reads (binary op place left right) name tokens sound e r = absurd (cc (e))
alone_reads (std function place args) name tokens sound e r = absurd (cc (e))
alone_reads (paren place inner) name tokens sound e r = absurd (cc (e))

-- ---- from the name to the expression

pub record Alone (name : Name) (tokens : List Lexeme) : Type 0 where
  pub tree : ExprTree
  pub alone : name_alone tree ≡ Some name
  pub reads : ReadAsExpression tree tokens

pub name_expression : (name : Name) (place : Place) (tokens : List Lexeme) → SpellsName name place tokens → IsFree name → Alone name tokens
name_expression name place tokens (inl one) free = record {
  tree = read (operand (Local name false place) no_steps place);
  alone = refl;
  reads = record {
    spelled = record {
      front = tokens;
      back = [];
      parts = sym (append-nil tokens);
      in_front = record { token = one.token; alone = one.alone; is = record { is = one.is; at = one.is.at } };
      behind = refl;
    };
    formed = (free, tt);
  };
}
name_expression name place tokens (inr firm) free = record {
  tree = read (operand (Named name) no_steps place);
  alone = refl;
  reads = record {
    spelled = record { front = tokens; back = []; parts = sym (append-nil tokens); in_front = firm; behind = refl };
    formed = (tt, tt);
  };
}

-- ---- a text's tokens

inner_same : (tokens inner other : List Lexeme) → AreEnded inner tokens → AreEnded other tokens → inner ≡ other
inner_same tokens inner other a b = same_front inner other a.ending b.ending (sym a.parts ∙ b.parts)

pub named_by : (tokens : List Lexeme) (tree : ExprTree) (name : Name) → AreSound tokens → IsOnlyExpression tokens tree
    → name_alone tree ≡ Some name → IsNameOf tokens name
named_by tokens tree name sound h e =
    let inner_sound = sound_front h.reads.inner (h.reads.ended.ending ∷ []) (subst AreSound h.reads.ended.parts sound) in
    let reads = alone_reads tree name h.reads.inner inner_sound e h.reads.read in
    record { inner = h.reads.inner; place = reads.place; ended = h.reads.ended; within = h.reads.within; read = reads.read }

none_some : (x y : Option Name) (name : Name) → x ≡ None → y ≡ Some name → x ≡ y → ⊥
none_some x y name a b c = cc

pub unnamed_by : (tokens : List Lexeme) (tree : ExprTree) (name : Name) → IsOnlyExpression tokens tree → name_alone tree ≡ None
    → IsNameOf tokens name → ⊥
unnamed_by tokens tree name h e named =
    let same = inner_same tokens named.inner h.reads.inner named.ended h.reads.ended in
    let alone = name_expression name named.place named.inner named.read.spelled named.read.free in
    none_some (name_alone tree) (name_alone alone.tree) name e alone.alone
    (ap name_alone (sym (h.only alone.tree (subst (ReadAsExpression alone.tree) same alone.reads))))

pub unread : (tokens : List Lexeme) (at : Place) (name : Name) → IsSyntaxFaultAt ReadAsExpression Scl tokens at → IsNameOf tokens name → ⊥
unread tokens at name h named =
    let same = inner_same tokens named.inner h.inner named.ended h.ended in
    let alone = name_expression name named.place named.inner named.read.spelled named.read.free in
    h.fault.none alone.tree (subst (ReadAsExpression alone.tree) same alone.reads)

pub outside : (tokens : List Lexeme) (t : Lexeme) (name : Name) → IsFirstOutside Scl tokens t → IsNameOf tokens name → ⊥
outside tokens t name first named = outside-apart Scl tokens t named.within first

length-behind : (xs : List Lexeme) (x : Lexeme) → length (xs ++ x ∷ []) ≡ length xs + 1
length-behind [] x = refl
length-behind (y ∷ ys) x = let rest = length-behind ys x in omega (arith, rest)

-- so few tokens don't nest too deep
pub undeep : (tokens : List Lexeme) (place : Place) → length tokens ≤ 3 → IsTooDeepExpression tokens place → ⊥
undeep tokens place le h =
    let more = deep_long h.expression h.inner place h.read.spelled h.deepest in
    omega (arith, le, more, ap length h.ended.parts, length-behind h.inner h.ended.ending)

-- ---- what is answered of tokens

same_length : (text : List ℕ) (tokens : List Token) → length (lexemes_of text tokens) ≡ length tokens
same_length text tokens = length-map tokens (lexeme_of text)

pub outside_unnamed : (text : List ℕ) (tokens : List Token) (fault : ParseFault) (place : Place) (len : ℕ) (name : Name) → fault ≡ Outside place len
    → AnswersExpression text tokens (Err fault) → IsNameOf (lexemes_of text tokens) name → ⊥
outside_unnamed text tokens fault place len name e h named =
    let at = subst (λ f. AnswersExpression text tokens (Err f)) e h in
    outside (lexemes_of text tokens) (lexeme_of text at.token) name at.first named

pub syntax_unnamed : (text : List ℕ) (tokens : List Token) (fault : ParseFault) (place : Place) (name : Name) → fault ≡ Syntax place
    → AnswersExpression text tokens (Err fault) → IsNameOf (lexemes_of text tokens) name → ⊥
syntax_unnamed text tokens fault place name e h named =
    unread (lexemes_of text tokens) place name (subst (λ f. AnswersExpression text tokens (Err f)) e h) named

pub deep_unnamed : (text : List ℕ) (tokens : List Token) (fault : ParseFault) (place : Place) → length tokens ≤ 3 → fault ≡ Deep place
    → AnswersExpression text tokens (Err fault) → ⊥
deep_unnamed text tokens fault place few e h =
    undeep (lexemes_of text tokens) place (omega (arith, few, same_length text tokens))
    (subst (λ f. AnswersExpression text tokens (Err f)) e h)

-- of an expression that is read
pub found_of : (text : List ℕ) (tokens : List Token) (tree : ExprTree) (r : Result (Option Name) AllocError) → AreTokens Scl 0 text tokens
    → IsOnlyExpression (lexemes_of text tokens) tree → IfOk r (λ o. o ≡ name_alone tree)
    → IfOk r (λ o. IfSome o (λ name. IsNameOf (lexemes_of text tokens) name))
found_of text tokens tree (Ok None) are only is = tt
found_of text tokens tree (Ok (Some name)) are only is =
    named_by (lexemes_of text tokens) tree name (tokens-sound Scl 0 text tokens are) only (sym is)
found_of text tokens tree (Err fault) are only is = tt

pub none_of : (text : List ℕ) (tokens : List Token) (tree : ExprTree) (r : Result (Option Name) AllocError)
    → IsOnlyExpression (lexemes_of text tokens) tree → IfOk r (λ o. o ≡ name_alone tree)
    → IfOk r (λ o. IfNone o ((name : Name) → IsNameOf (lexemes_of text tokens) name → ⊥))
none_of text tokens tree (Ok None) only is = λ name. unnamed_by (lexemes_of text tokens) tree name only (sym is)
none_of text tokens tree (Ok (Some name)) only is = tt
none_of text tokens tree (Err fault) only is = tt

-- ---- what is answered of a text

text_among : (text : List ℕ) (tokens : List Token) (name : Name) → AreTokens Scl 0 text tokens → IsNameText text name
    → IsNameOf (lexemes_of text tokens) name
text_among text tokens name are h =
    subst (λ (ts : List Token). IsNameOf (lexemes_of text ts) name) (sym (tokens-one Scl 0 text tokens h.tokens are h.cut)) h.named

pub faultless : (text : List ℕ) (kind : FaultKind) (at : Place) (name : Name) → IsFault Scl 0 text kind at → IsNameText text name → ⊥
faultless text kind at name fault h = tokens-faultless Scl 0 text h.tokens kind at h.cut fault

pub found_in : (text bytes other : List ℕ) (tokens given : List Token) (r : Result (Option Name) AllocError) → IsTrue (is_short text)
    → bytes ≡ text → other ≡ text → given ≡ tokens → AreTokens Scl 0 bytes tokens
    → IfOk r (λ o. IfSome o (λ name. IsNameOf (lexemes_of other given) name))
    → IfOk r (λ o. IfSome o (λ name. IsNameText text name))
found_in text bytes other tokens given (Ok None) short e f g are found = found
found_in text bytes other tokens given (Ok (Some name)) short e f g are found =
    record {
      short = short;
      tokens = tokens;
      cut = subst (λ (b : List ℕ). AreTokens Scl 0 b tokens) e are;
      named = subst (λ (ts : List Token). IsNameOf (lexemes_of text ts) name) g (subst (λ (b : List ℕ). IsNameOf (lexemes_of b given) name) f found);
    }
found_in text bytes other tokens given (Err fault) short e f g are found = found

pub none_in : (text bytes other : List ℕ) (tokens given : List Token) (r : Result (Option Name) AllocError)
    → bytes ≡ text → other ≡ text → given ≡ tokens → AreTokens Scl 0 bytes tokens
    → IfOk r (λ o. IfNone o ((name : Name) → IsNameOf (lexemes_of other given) name → ⊥))
    → IfOk r (λ o. IfNone o ((name : Name) → IsNameText text name → ⊥))
none_in text bytes other tokens given (Ok None) e f g are none = λ name h.
    let cut = subst (λ (b : List ℕ). AreTokens Scl 0 b tokens) e are in
    let there = subst (λ (b : List ℕ). IsNameOf (lexemes_of b tokens) name) (sym f) (text_among text tokens name cut h) in
    none name (subst (λ (ts : List Token). IsNameOf (lexemes_of other ts) name) (sym g) there)
none_in text bytes other tokens given (Ok (Some name)) e f g are none = none
none_in text bytes other tokens given (Err fault) e f g are none = none

-- ---- a text is one name

abbrev by_kind : Kind → List ℕ → Name
by_kind k.Quoted bytes = quoted_name bytes
by_kind kind bytes = plain_name bytes

-- the name that the tokens say
abbrev said : List Lexeme → Option Name
said [] = None
said (t ∷ []) = Some (by_kind t.kind t.bytes)
said (t ∷ n ∷ []) = Some (pair_name (t.bytes ++ n.bytes))
said (t ∷ n ∷ m ∷ more) = None

word_said : (name : Name) (place : Place) (tokens : List Lexeme) → SpellsWord name place tokens → said tokens ≡ Some name
word_said name place tokens d =
    ap said d.alone ∙ ap (λ kind. Some (by_kind kind d.token.bytes)) d.is.is.kind ∙ ap Some (sym d.is.is.names)

firm_said : (name : Name) (place : Place) (tokens : List Lexeme) → SpellsFirm name place tokens → said tokens ≡ Some name
firm_said name place tokens (inl d) =
    ap said d.alone ∙ ap (λ kind. Some (by_kind kind d.token.bytes)) d.is.is.kind ∙ ap Some (sym d.is.is.names)
firm_said name place tokens (inr (inl d)) =
    ap said d.alone ∙ ap (λ kind. Some (by_kind kind d.token.bytes)) d.is.is.kind ∙ ap Some (sym d.is.is.names)
firm_said name place tokens (inr (inr d)) = ap said d.parts ∙ ap Some (sym d.names)

name_said : (name : Name) (place : Place) (tokens : List Lexeme) → SpellsName name place tokens → said tokens ≡ Some name
name_said name place tokens (inl d) = word_said name place tokens d
name_said name place tokens (inr d) = firm_said name place tokens d

one_of_tokens : (tokens : List Lexeme) (a b : Name) → IsNameOf tokens a → IsNameOf tokens b → a ≡ b
one_of_tokens tokens a b x y =
    some_name a b (sym (name_said a x.place x.inner x.read.spelled) ∙ ap said (inner_same tokens x.inner y.inner x.ended y.ended)
    ∙ name_said b y.place y.inner y.read.spelled)

pub one_name : (text : List ℕ) (a b : Name) → IsNameText text a → IsNameText text b → a ≡ b
one_name text a b x y =
    one_of_tokens (lexemes_of text y.tokens) a b (text_among text y.tokens a y.cut x) y.named
