-- The tokens of the generated text: each name is one, and no limit is passed. So the text derives
-- the declarations, with the places that the text gives.
use Rattle.std.proofs.Common.{◌≡◌, ℕ, zero, suc, ◌+◌, ◌%◌, ◌^◌, ◌<◌, ◌≤◌, ◌⊎◌, inl, inr, List, [], ◌∷◌, Bool, true}
use Rattle.std.proofs.Common.{false, ◌&&◌, Option, Some, None, drop, refl, ap, sym, subst, ◌∙◌, arith, lit<}
use Rattle.std.specs.Prelude.{◌==◌, ◌||◌, IsTrue, codes, nat_lt, is_none, map, if◌then◌else◌}
use Rattle.std.specs.Char.{is_ascii_alphabetic, is_ascii_alphanumeric}
use Rattle.std.specs.Fmt.{digits}
use Rattle.std.specs.List.{AllByRecursion, range_with_len}
use Rattle.std.specs.Str.{IsAscii}
use Rattle.std.proofs.lemmas.Bool.{ltb-true, lt-leb}
use Rattle.std.proofs.lemmas.Bool.Decides.{leb_tells}
use Rattle.std.proofs.lemmas.Str.{chars-IsAscii, IsUtf8-from_ascii}
use Rattle.std.proofs.lemmas.Str.Ascii.{IsAscii-nil, IsAscii-cons}
use Rattle.unicode_ident.specs.Ident.{is_xid_continue}
use Rattle.unicode_ident.proofs.IdentLemmas.{is_xid_start-ascii, is_xid_continue-ascii}
use Rattle.spec_text.specs.Names.{IsName}
use Rattle.spec_text.proofs.SpanLemmas.{and_parts}
use Rattle.spec_grammar.specs.declared.keys.Key.TheVariants.{Spike, Sort, Goal, Colon, Equals, Arrow}
use Rattle.spec_grammar.specs.declared.limits.LimitKind.{LimitKind}
use Rattle.spec_grammar.specs.declared.limits.LimitKind.TheVariants as limit
use Rattle.spec_grammar.specs.declared.raw.RawEq.{RawEq}
use Rattle.spec_grammar.specs.declared.raw.RawGoal.{RawGoal}
use Rattle.spec_grammar.specs.declared.raw.RawSpec.{RawSpec}
use Rattle.spec_grammar.specs.RawTree.{RawTree, RawTrees, word, none, some}
use Rattle.spec_grammar.specs.Items.{Item, Word, Sign, Number, reserved}
use Rattle.spec_grammar.specs.Limits.{over, name_mark, sort_mark, constructor_mark, term_mark, goal_mark}
use Rattle.spec_grammar.specs.Grammar.{Marked, sign, number, name_text, term_text, args_text, more_text, binds_text}
use Rattle.spec_grammar.specs.Grammar.{con_text, constructors_text, funs_text, rules_text, IsSpecText}
use Rattle.spec_grammar.specs.Derives.{TextDerives}
use Rattle.spec_printing.specs.Printed.{printed}
use Rattle.spec_printing.specs.SamePlaces.{IsSameButPlaces}
use Rattle.spec_printing.proofs.Again.{plain_reads_back}
use Rattle.spec_printing.proofs.Plain.{IsGood, AllGood, IsPlainText, clause_text, goals_text}
use Rattle.load_text.specs.LoadRaw.{nat, applied, x, y, z, nought, pair, plus, successors, load_rules, load_sides}
use Rattle.load_text.specs.LoadRaw.{goal_of_kind, goal_name, height, load_goal, load_raw}

-- Names of ASCII letters, digits and `_`.

abbrev is_letter : ℕ → Bool
is_letter c = nat_lt c 128 && (is_ascii_alphanumeric c || (c == 95))

abbrev are_letters : List ℕ → Bool
are_letters [] = true
are_letters (c ∷ cs) = is_letter c && are_letters cs

abbrev begins : List ℕ → Bool
begins [] = false
begins (c ∷ cs) = nat_lt c 128 && (is_ascii_alphabetic c || (c == 95))

-- such a name, neither reserved nor too long
abbrev is_plain : List ℕ → Bool
is_plain name = (begins name && are_letters name) &&
    (is_none (reserved name) && is_none (name_mark name None))

letters_continue : (cs : List ℕ) → are_letters cs ≡ true →
    AllByRecursion (λ d. IsTrue (is_xid_continue d)) cs
letters_continue [] h = tt
letters_continue (c ∷ cs) h =
    let p = and_parts (is_letter c) (are_letters cs) h in
    let q = and_parts (nat_lt c 128) (is_ascii_alphanumeric c || (c == 95)) p.0 in
    (is_xid_continue-ascii c (ltb-true c 128 q.0) ∙ q.1, letters_continue cs p.1)

letters_ascii : (cs : List ℕ) → are_letters cs ≡ true → IsAscii cs
letters_ascii [] h = IsAscii-nil
letters_ascii (c ∷ cs) h =
    let p = and_parts (is_letter c) (are_letters cs) h in
    let q = and_parts (nat_lt c 128) (is_ascii_alphanumeric c || (c == 95)) p.0 in
    IsAscii-cons c cs (ltb-true c 128 q.0) (letters_ascii cs p.1)

letters_name : (cs : List ℕ) → begins cs ≡ true → are_letters cs ≡ true → IsName cs
letters_name [] h k = let e : false ≡ true = h in absurd (cc)
letters_name (c ∷ cs) h k =
    let q = and_parts (nat_lt c 128) (is_ascii_alphabetic c || (c == 95)) h in (
      rw (is_xid_start-ascii c (ltb-true c 128 q.0)) q.1,
      letters_continue cs (and_parts (is_letter c) (are_letters cs) k).1,
    )

none_is : {A : Type 0} (o : Option A) → is_none o ≡ true → o ≡ None
none_is None h = refl
none_is (Some a) h = let e : false ≡ true = h in absurd (cc)

plain_good : (name : List ℕ) (at : ℕ) → is_plain name ≡ true → IsGood (Word name at)
    × (name_mark name None ≡ None)
plain_good name at h =
    let p = and_parts (begins name && are_letters name)
    (is_none (reserved name) && is_none (name_mark name None)) h in
    let q = and_parts (begins name) (are_letters name) p.0 in
    let r = and_parts (is_none (reserved name)) (is_none (name_mark name None)) p.1 in
    let a = letters_ascii name q.1 in (
      (
        IsUtf8-from_ascii name a,
        subst (λ (cs : List ℕ). IsName cs) (sym (chars-IsAscii name a))
            (letters_name name q.0 q.1),
        none_is (reserved name) r.0,
      ),
      none_is (name_mark name None) r.1,
    )

-- The tokens before the goals, one by one.

abbrev is_fine : Item → Bool
is_fine (Word name at) = is_plain name
is_fine (Sign key) = true
is_fine (Number n) = nat_lt n (10 ^ 6)

fine_good : (i : Item) → is_fine i ≡ true → IsGood i
fine_good (Word name at) h = (plain_good name at h).0
fine_good (Sign key) h = tt
fine_good (Number n) h = ltb-true n (10 ^ 6) h

-- the first n tokens are good and pass no limit
abbrev are_fine : ℕ → List Marked → Bool
are_fine zero w = true
are_fine (suc n) [] = true
are_fine (suc n) (m ∷ w) = (is_fine m.0 && is_none m.1) && are_fine n w

first_good : (n : ℕ) (w : List Marked) → are_fine n w ≡ true → AllGood (drop n w) → AllGood w
first_good zero w h rest = rest
first_good (suc n) [] h rest = tt
first_good (suc n) (m ∷ w) h rest =
    let p = and_parts (is_fine m.0 && is_none m.1) (are_fine n w) h in
    let q = and_parts (is_fine m.0) (is_none m.1) p.0 in
    (fine_good m.0 q.0, none_is m.1 q.1, first_good n w p.1 rest)

-- Terms.

abbrev mutual
  -- below this many words the term's words are names, and pass no limit
  IsFine : ℕ → RawTree → Type 0
  IsFine d (word name at ts) = (is_plain name ≡ true) × ArgumentsAreFine d ts

  ArgumentsAreFine : ℕ → RawTrees → Type 0
  ArgumentsAreFine d none = Unit {0}
  ArgumentsAreFine d (some t ts) = (term_mark (d + 1) 0 ≡ None) × IsFine (d + 1) t
      × OthersAreFine (d + 1) 1 ts

  OthersAreFine : ℕ → ℕ → RawTrees → Type 0
  OthersAreFine d n none = Unit {0}
  OthersAreFine d n (some t ts) = (term_mark d n ≡ None) × IsFine d t × OthersAreFine d (n + 1) ts

mutual
  term_good : (d : ℕ) (mark : Option LimitKind) (t : RawTree) (rest : List Marked) → mark ≡ None →
      IsFine d t → AllGood rest → AllGood (term_text d mark t rest)
  term_good d mark (word name at ts) rest m h r =
      let p = plain_good name at h.0 in
      (p.0, ap (λ (o : Option LimitKind). name_mark name o) m ∙ p.1, arguments_good d ts rest h.1 r)

  arguments_good : (d : ℕ) (ts : RawTrees) (rest : List Marked) → ArgumentsAreFine d ts →
      AllGood rest → AllGood (args_text d ts rest)
  arguments_good d none rest h r = r
  arguments_good d (some t ts) rest h r = (
    tt,
    refl,
    term_good (d + 1) (term_mark (d + 1) 0) t _ h.0 h.1
        (others_good (d + 1) 1 ts _ h.2 (tt, refl, r)),
  )

  others_good : (d n : ℕ) (ts : RawTrees) (rest : List Marked) → OthersAreFine d n ts →
      AllGood rest → AllGood (more_text d n ts rest)
  others_good d n none rest h r = r
  others_good d n (some t ts) rest h r =
      (tt, refl, term_good d (term_mark d n) t _ h.0 h.1 (others_good d (n + 1) ts rest h.2 r))

depth_mark : (d : ℕ) → d < 64 → over d 64 limit.Nesting ≡ None
depth_mark d h = ap (λ (b : Bool). if b then Some limit.Nesting else None) (lt-leb 64 d h)

pair_fine : (d : ℕ) (name : List ℕ) (s t : RawTree) → d + 1 < 64 → is_plain name ≡ true →
    IsFine (d + 1) s → IsFine (d + 1) t → IsFine d (pair name s t)
pair_fine d name s t deep p a b =
    (p, (depth_mark (d + 1) deep, a, (depth_mark (d + 1) deep, b, tt)))

successors_fine : (k d : ℕ) (t : RawTree) → d + k < 64 → IsFine (d + k) t →
    IsFine d (successors k t)
successors_fine zero d t deep h = let e : d + 0 ≡ d = omega arith in
    subst (λ (n : ℕ). IsFine n t) e h
successors_fine (suc k) d t deep h =
    let e : d + suc k ≡ d + 1 + k = omega arith in (
      refl,
      (
        depth_mark (d + 1) (omega arith),
        successors_fine k (d + 1) t (omega arith) (subst (λ (n : ℕ). IsFine n t) e h),
        tt,
      ),
    )

abbrev SidesAreFine : RawEq → Type 0
SidesAreFine e = IsFine 0 e.left × IsFine 0 e.right

sides_fine : (kind k : ℕ) → k ≤ 20 → SidesAreFine (load_sides kind k)
sides_fine zero k h = (
  pair_fine 0 (codes "plus") (successors k x) y (lit< tt) refl
      (successors_fine k 1 x (omega arith) (refl, tt)) (refl, tt),
  successors_fine k 0 (plus x y) (omega arith)
      (pair_fine (0 + k) (codes "plus") x y (omega arith) refl (refl, tt) (refl, tt)),
)
sides_fine (suc zero) k h = (
  pair_fine 0 (codes "plus") x y (lit< tt) refl (refl, tt) (refl, tt),
  pair_fine 0 (codes "plus") x (successors k y) (lit< tt) refl (refl, tt)
      (successors_fine k 1 y (omega arith) (refl, tt)),
)
sides_fine (suc (suc zero)) k h = (
  pair_fine 0 (codes "le") (successors (k + 3) nought) x (lit< tt) refl
      (successors_fine (k + 3) 1 nought (omega arith) (refl, tt)) (refl, tt),
  (refl, tt),
)
sides_fine (suc (suc (suc n))) k h = (
  pair_fine 0 (codes "plus") (plus x y) (successors k z) (lit< tt) refl
      (pair_fine 1 (codes "plus") x y (lit< tt) refl (refl, tt) (refl, tt))
      (successors_fine k 1 z (omega arith) (refl, tt)),
  pair_fine 0 (codes "plus") x (plus y (successors k z)) (lit< tt) refl (refl, tt)
      (pair_fine 1 (codes "plus") y (successors k z) (lit< tt) refl (refl, tt)
      (successors_fine k 2 z (omega arith) (refl, tt))),
)

-- Goals.

-- the clause of a goal of one equation, before other tokens
one_good : (e : RawEq) (rest : List Marked) → SidesAreFine e → AllGood rest →
    AllGood (term_text 0 None e.left (sign Equals ∷ term_text 0 None e.right rest))
one_good e rest h r = term_good 0 None e.left _ refl h.0
    (tt, refl, term_good 0 None e.right rest refl h.1 r)

abbrev goal_clause : RawGoal → List Marked → List Marked
goal_clause g rest = clause_text g.premises g.conclusions rest

clause_good : (text : List ℕ) (kind k : ℕ) (rest : List Marked) → k ≤ 20 → AllGood rest →
    AllGood (goal_clause (goal_of_kind text kind k) rest)
clause_good text zero k rest h r = one_good (load_sides 0 k) rest (sides_fine 0 k h) r
clause_good text (suc zero) k rest h r = one_good (load_sides 1 k) rest (sides_fine 1 k h) r
clause_good text (suc (suc zero)) k rest h r =
    one_good (load_sides 2 k) (sign Arrow ∷ rest) (sides_fine 2 k h) (tt, refl, r)
clause_good text (suc (suc (suc n))) k rest h r =
    one_good (load_sides 3 k) rest (sides_fine 3 k h) r

-- the name of each goal, and its number
abbrev is_counted : ℕ → Bool
is_counted i = is_plain (goal_name i) && is_none (goal_mark i)

abbrev are_below : (ℕ → Bool) → ℕ → Bool
are_below test zero = true
are_below test (suc n) = test n && are_below test n

below_or : (n i : ℕ) → i < suc n → (i ≡ n) ⊎ (i < n)
below_or n i lt = elim (leb_tells n i)
    [ inl p ↦ inl (let h : n ≤ i = p.1 in omega arith) | inr p ↦ inr p.1 ]

each_below : (test : ℕ → Bool) (n i : ℕ) → are_below test n ≡ true → i < n → test i ≡ true
each_below test zero i h lt = absurd (omega arith)
each_below test (suc n) i h lt =
    let p = and_parts (test n) (are_below test n) h in
    elim (below_or n i lt) [
      | inl e ↦ subst (λ (j : ℕ). test j ≡ true) (sym e)
          p.0
      | inr l ↦ each_below test n i p.1 l
    ]

all_counted : are_below is_counted 200 ≡ true
unfolding digits
all_counted = refl

abbrev goal_tokens : ℕ → RawGoal → List Marked → List Marked
goal_tokens i g rest = (Sign Goal, goal_mark i) ∷ name_text None g.head
    (binds_text g.binds (sign Colon ∷ goal_clause g rest))

goal_good : (i : ℕ) (text : List ℕ) (kind k : ℕ) (rest : List Marked) → k ≤ 20 →
    is_plain text ≡ true → goal_mark i ≡ None → AllGood rest →
    AllGood (goal_tokens i (goal_of_kind text kind k) rest)
goal_good i text zero k rest h p m r = let q = plain_good text 0 p in
    (tt, m, (q.0, q.1, (tt, refl, clause_good text 0 k rest h r)))
goal_good i text (suc zero) k rest h p m r = let q = plain_good text 0 p in
    (tt, m, (q.0, q.1, (tt, refl, clause_good text 1 k rest h r)))
goal_good i text (suc (suc zero)) k rest h p m r = let q = plain_good text 0 p in
    (tt, m, (q.0, q.1, (tt, refl, clause_good text 2 k rest h r)))
goal_good i text (suc (suc (suc n))) k rest h p m r = let q = plain_good text 0 p in
    (tt, m, (q.0, q.1, (tt, refl, clause_good text (suc (suc (suc n))) k rest h r)))

abbrev goals_tokens : ℕ → ℕ → List Marked
goals_tokens i n = goals_text i (map load_goal (range_with_len i n)) []

goals_good : (i n : ℕ) → i + n ≤ 200 → AllGood (goals_tokens i n)
goals_good i zero h = tt
goals_good i (suc n) h =
    let c = and_parts (is_plain (goal_name i)) (is_none (goal_mark i))
    (each_below is_counted 200 i all_counted (omega arith)) in
    goal_good i (goal_name i) (i % 4) (height i) (goals_tokens (i + 1) n) (omega arith) c.0
    (none_is (goal_mark i) c.1) (goals_good (i + 1) n (omega arith))

-- The whole text.

-- the functions, which no line orders, and the rules
abbrev rules_tokens : List Marked → List Marked
rules_tokens rest = rules_text 1 0 load_rules rest

abbrev functions_tokens : List Marked → List Marked
functions_tokens rest = funs_text 1 0 (load_raw 0).funs (rules_tokens rest)

abbrev sorts_tokens : List Marked → List Marked
sorts_tokens rest = (Sign Sort, sort_mark 0) ∷ name_text None nat
    (sign Equals ∷ con_text (constructor_mark 1 0 0) (applied (codes "zero") [])
    (constructors_text 1 1 1 (applied (codes "succ") (nat ∷ []) ∷ []) (functions_tokens rest)))

abbrev all_tokens : List Marked → List Marked
all_tokens rest = sign Spike ∷ number 1 ∷ sorts_tokens rest

all_good : (rest : List Marked) → AllGood rest → AllGood (all_tokens rest)
all_good rest r = first_good 99 (all_tokens rest) refl r

are_tokens : (n : ℕ) → IsPlainText (load_raw n) (all_tokens (goals_tokens 0 n))
are_tokens n = record {
  sorts = sorts_tokens (goals_tokens 0 n);
  order = rules_tokens (goals_tokens 0 n);
  whole = refl;
  are = (
    applied (codes "zero") [],
    applied (codes "succ") (nat ∷ []) ∷ [],
    functions_tokens (goals_tokens 0 n),
    refl,
    refl,
    refl,
  );
  ordered = (rules_tokens (goals_tokens 0 n), rules_tokens (goals_tokens 0 n), refl, refl, refl);
  format = inl (refl, refl, refl, refl);
}

pub load_reads : (n : ℕ) → n ≤ 200 → (again : RawSpec)
    × TextDerives IsSpecText (printed (load_raw n)) again × IsSameButPlaces again (load_raw n)
load_reads n h = plain_reads_back (load_raw n) (all_tokens (goals_tokens 0 n)) (are_tokens n)
    (all_good (goals_tokens 0 n) (goals_good 0 n (omega arith)))
