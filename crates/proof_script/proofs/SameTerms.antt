-- Terms and patterns that may appear are read in one way.
use Rattle.std.proofs.Common.{◌≡◌, inl, inr, ℕ, zero, suc, ◌+◌, ◌<◌, List, [], ◌∷◌, ◌++◌, Option, Some, None, refl, ap}
use Rattle.std.proofs.Common.{sym, ◌∙◌, subst, codes, length, length-append, map, append_assoc, arith}
use Rattle.std.specs.Prelude.{slice_get, option_map}
use Rattle.std.specs.List.{AllByRecursion, range_with_len}
use Rattle.std.proofs.lemmas.Option.{slice_get-map}
use Rattle.term_core.specs.Tree.{Tree, Trees, var, app, none, some}
use Rattle.term_core.proofs.Items.{all_append}
use Rattle.term_core.specs.Variables.{occurrences, occurrences_all}
use Rattle.spec_core.specs.declared.records.SymInfo.{SymInfo}
use Rattle.spec_core.specs.Sig.{Sig, names_of}
use Rattle.spec_core.specs.Declarations.{IsDeclared, IsNew, AreFresh, all_symbols}
use Rattle.spec_core.specs.TermText.{variable_text, symbol_text, term_text, others_text}
use Rattle.proof_script.specs.Delimiters.{Ends}
use Rattle.proof_script.specs.Words.{pattern_text, other_patterns_text}
use Rattle.proof_script.specs.Standing.{IsShort, SymbolStands, SymbolsStand, AllSymbolsStand, TermStands, PatternStands}
use Rattle.proof_script.proofs.Lists.{same_head, same_tail}
use Rattle.proof_script.proofs.Runs.{Plain, IsMark, decimal_same}
use Rattle.proof_script.proofs.PlainNames.{name_plain}
use Rattle.proof_script.proofs.TermReads.{mark_of, NamesDiffer, IsPlain, ArePlain, Alike, AllAlike, reads}

some_is : {A : Type 0} {x y : A} → ◌≡◌ {A = Option A} (Some x) (Some y) → x ≡ y
some_is e = cc

-- a name that is new to a table is at none of its places
new_not_at : (name : List ℕ) (es : List (List ℕ × SymInfo)) (i : ℕ) → IsNew name es →
    slice_get (map (λ (e : List ℕ × SymInfo). e.0) es) i ≡ Some name → ⊥
new_not_at name [] i h e = absurd (let q : None ≡ Some name = e in cc)
new_not_at name (x ∷ xs) zero h e = h.0 (sym (some_is e))
new_not_at name (x ∷ xs) (suc i) h e = new_not_at name xs i h.1 e

new_parts : (name : List ℕ) (xs ys : List (List ℕ × SymInfo)) → IsNew name (xs ++ ys) → IsNew name ys
new_parts name [] ys h = h
new_parts name (x ∷ xs) ys h = new_parts name xs ys h.1

-- what comes after is new to what was seen
seen_apart : (seen es : List (List ℕ × SymInfo)) (e : List ℕ × SymInfo) (i : ℕ) (name : List ℕ) →
    AreFresh (seen ++ (e ∷ [])) es → slice_get (map (λ (d : List ℕ × SymInfo). d.0) es) i ≡ Some name → e.0 ≡ name → ⊥
seen_apart seen [] e i name h at q = absurd (let p : None ≡ Some name = at in cc)
seen_apart seen (x ∷ xs) e zero name h at q = (new_parts x.0 seen (e ∷ []) h.0).0 (some_is at ∙ sym q)
seen_apart seen (x ∷ xs) e (suc i) name h at q = seen_apart_more seen (x ∷ []) xs e i name
    (subst (λ s. AreFresh s xs) (append_assoc seen (e ∷ []) (x ∷ [])) h.1) at q
  where
    seen_apart_more : (seen more es : List (List ℕ × SymInfo)) (e : List ℕ × SymInfo) (i : ℕ) (name : List ℕ) →
        AreFresh (seen ++ (e ∷ more)) es → slice_get (map (λ (d : List ℕ × SymInfo). d.0) es) i ≡ Some name →
        e.0 ≡ name → ⊥
    seen_apart_more seen more [] e i name h at q = absurd (let p : None ≡ Some name = at in cc)
    seen_apart_more seen more (x ∷ xs) e zero name h at q = (new_parts x.0 seen (e ∷ more) h.0).0 (some_is at ∙ sym q)
    seen_apart_more seen more (x ∷ xs) e (suc i) name h at q = seen_apart_more seen (more ++ (x ∷ [])) xs e i
        name (subst (λ s. AreFresh s xs) (append_assoc seen (e ∷ more) (x ∷ [])) h.1) at q

fresh_differ : (seen es : List (List ℕ × SymInfo)) (f g : ℕ) (name : List ℕ) → AreFresh seen es →
    slice_get (map (λ (e : List ℕ × SymInfo). e.0) es) f ≡ Some name →
    slice_get (map (λ (e : List ℕ × SymInfo). e.0) es) g ≡ Some name → f ≡ g
fresh_differ seen [] f g name h p q = absurd (let r : None ≡ Some name = p in cc)
fresh_differ seen (x ∷ xs) zero zero name h p q = refl
fresh_differ seen (x ∷ xs) zero (suc g) name h p q = absurd (seen_apart seen xs x g name h.1 q (some_is p))
fresh_differ seen (x ∷ xs) (suc f) zero name h p q = absurd (seen_apart seen xs x f name h.1 p (some_is q))
fresh_differ seen (x ∷ xs) (suc f) (suc g) name h p q = ap suc (fresh_differ (seen ++ (x ∷ [])) xs f g name h.1 p q)

-- in a declared signature no two symbols have one name
pub names_differ : (sig : Sig) → IsDeclared sig → NamesDiffer sig
names_differ sig d = λ f g name p q. fresh_differ [] (all_symbols d.constructors d.functions) f g name
    d.distinct.1 (subst (λ s. slice_get (names_of s) f ≡ Some name) d.is p)
    (subst (λ s. slice_get (names_of s) g ≡ Some name) d.is q)

-- each variable is below the number
abbrev pub Below : ℕ → List ℕ → Type 0
Below n xs = AllByRecursion (λ x. x < n) xs

all_left : (P : ℕ → Type 0) (xs ys : List ℕ) → AllByRecursion P (xs ++ ys) → AllByRecursion P xs
all_left P [] ys h = tt
all_left P (x ∷ xs) ys h = (h.0, all_left P xs ys h.1)

all_right : (P : ℕ → Type 0) (xs ys : List ℕ) → AllByRecursion P (xs ++ ys) → AllByRecursion P ys
all_right P [] ys h = h
all_right P (x ∷ xs) ys h = all_right P xs ys h.1

module _ (sig : Sig) (names : List (List ℕ)) where
  symbol_named : (f : ℕ) (arity : ℕ) → SymbolStands sig f arity →
      (name : List ℕ) × (slice_get (names_of sig) f ≡ Some name) × Plain name
  symbol_named f arity (text, info, at, long, is) = (
    text,
    slice_get-map (λ (e : List ℕ × SymInfo). e.0) sig.table f
        ∙ ap (λ z. option_map (λ (e : List ℕ × SymInfo). e.0) z) at,
    name_plain text is,
  )

  mutual
    -- a term of symbols that may appear is plain if each of its variables has a mark
    pub plain_by : (t : Tree) → AllByRecursion (λ n. IsMark (mark_of names n)) (occurrences t) →
        SymbolsStand sig t → IsPlain sig names t
    plain_by (var n) m h = m.0
    plain_by (app f ts) m h = (symbol_named f _ h.0, plain_all ts m h.1)

    pub plain_all : (ts : Trees) → AllByRecursion (λ n. IsMark (mark_of names n)) (occurrences_all ts) →
        AllSymbolsStand sig ts → ArePlain sig names ts
    plain_all none m h = tt
    plain_all (some t ts) m
        h = (
          plain_by t (all_left (λ n. IsMark (mark_of names n)) (occurrences t) (occurrences_all ts) m) h.0,
          plain_all ts (all_right (λ n. IsMark (mark_of names n)) (occurrences t) (occurrences_all ts) m) h.1,
        )

mutual
  -- the variables of a term that may appear have short numbers
  pub shorts : (sig : Sig) (t : Tree) → SymbolsStand sig t → AllByRecursion IsShort (occurrences t)
  shorts sig (var n) h = (h, tt)
  shorts sig (app f ts) h = shorts_all sig ts h.1

  pub shorts_all : (sig : Sig) (ts : Trees) → AllSymbolsStand sig ts → AllByRecursion IsShort (occurrences_all ts)
  shorts_all sig none h = tt
  shorts_all sig (some t ts) h = all_append IsShort (occurrences t) (occurrences_all ts) (shorts sig t h.0)
      (shorts_all sig ts h.1)

pub all_map : (P Q : ℕ → Type 0) (xs : List ℕ) → ((x : ℕ) → P x → Q x) → AllByRecursion P xs → AllByRecursion Q xs
all_map P Q [] f h = tt
all_map P Q (x ∷ xs) f h = (f x h.0, all_map P Q xs f h.1)

mutual
  -- terms that are alike without names are the same
  pub alike_same : (sig : Sig) (t u : Tree) → SymbolsStand sig t → SymbolsStand sig u → Alike [] [] t u → t ≡ u
  alike_same sig (var m) (var n) h k a = ap (λ x. var x) (decimal_same m n h k (same_tail a))
  alike_same sig (var m) (app g us) h k a = absurd a
  alike_same sig (app f ts) (var n) h k a = absurd a
  alike_same sig (app f ts) (app g us) h k a =
      let e : f ≡ g = a.0 in
      let d : ts ≡ us = alike_all_same sig ts us h.1 k.1 a.1 in
      λ i. app (e i) (d i)

  pub alike_all_same : (sig : Sig) (ts us : Trees) → AllSymbolsStand sig ts → AllSymbolsStand sig us →
      AllAlike [] [] ts us → ts ≡ us
  alike_all_same sig none none h k a = refl
  alike_all_same sig none (some u us) h k a = absurd a
  alike_all_same sig (some t ts) none h k a = absurd a
  alike_all_same sig (some t ts) (some u us) h k a =
      let e : t ≡ u = alike_same sig t u h.0 k.0 a.0 in
      let d : ts ≡ us = alike_all_same sig ts us h.1 k.1 a.1 in
      λ i. some (e i) (d i)

pub record Halves (a b r s : List ℕ) : Type 0 where
  pub left : a ≡ b
  pub right : r ≡ s

pub halves : (a b r s : List ℕ) → length a ≡ length b → a ++ r ≡ b ++ s → Halves a b r s
halves [] [] r s l e = record { left = refl; right = e }
halves [] (x ∷ b) r s l e = absurd (omega (arith, l))
halves (x ∷ a) [] r s l e = absurd (omega (arith, l))
halves (x ∷ a) (y ∷ b) r s l e =
    let h : x ≡ y = same_head e in
    let k = halves a b r s (omega (arith, l)) (same_tail e) in
    record { left = λ i. h i ∷ k.left i; right = k.right }

module _ (names others : List (List ℕ)) where
  mutual
    -- terms that are alike have as many variables
    pub as_many : (t u : Tree) → Alike names others t u → length (occurrences t) ≡ length (occurrences u)
    as_many (var m) (var n) a = refl
    as_many (var m) (app g us) a = absurd a
    as_many (app f ts) (var n) a = absurd a
    as_many (app f ts) (app g us) a = as_many_all ts us a.1

    pub as_many_all : (ts us : Trees) → AllAlike names others ts us →
        length (occurrences_all ts) ≡ length (occurrences_all us)
    as_many_all none none a = refl
    as_many_all none (some u us) a = absurd a
    as_many_all (some t ts) none a = absurd a
    as_many_all (some t ts) (some u us) a = omega (
      arith,
      length-append (occurrences t) (occurrences_all ts),
      length-append (occurrences u) (occurrences_all us),
      as_many t u a.0,
      as_many_all ts us a.1,
    )

  mutual
    -- and are the same if these are
    pub same_by : (t u : Tree) → Alike names others t u → occurrences t ≡ occurrences u → t ≡ u
    same_by (var m) (var n) a e = ap (λ x. var x) (same_head e)
    same_by (var m) (app g us) a e = absurd a
    same_by (app f ts) (var n) a e = absurd a
    same_by (app f ts) (app g us) a e =
        let h : f ≡ g = a.0 in
        let d : ts ≡ us = same_all_by ts us a.1 e in
        λ i. app (h i) (d i)

    pub same_all_by : (ts us : Trees) → AllAlike names others ts us → occurrences_all ts ≡ occurrences_all us → ts ≡ us
    same_all_by none none a e = refl
    same_all_by none (some u us) a e = absurd a
    same_all_by (some t ts) none a e = absurd a
    same_all_by (some t ts) (some u us) a e =
        let parts = halves (occurrences t) (occurrences u) (occurrences_all ts) (occurrences_all us)
        (as_many t u a.0) e in
        let h : t ≡ u = same_by t u a.0 parts.left in
        let d : ts ≡ us = same_all_by ts us a.1 parts.right in
        λ i. some (h i) (d i)

pub term_plain : (sig : Sig) (t : Tree) → TermStands sig t → IsPlain sig [] t
term_plain sig t h = plain_by sig [] t (all_map IsShort (λ n. IsMark (mark_of [] n)) (occurrences t)
    (λ n k. inr (n, k, refl)) (shorts sig t h.symbols)) h.symbols

-- two terms that may appear and whose texts go on to the same bytes are the same
pub term_reads : (sig : Sig) → NamesDiffer sig → (t u : Tree) (r s : List ℕ) → TermStands sig t →
    TermStands sig u → Ends r → Ends s → term_text sig [] t ++ r ≡ term_text sig [] u ++ s → (t ≡ u) × (r ≡ s)
term_reads sig d t u r s p q x y e =
    let both = reads sig d [] [] t u r s (term_plain sig t p) (term_plain sig u q) x y e in
    (alike_same sig t u p.symbols q.symbols both.0, both.1)

pub range_below : (a n : ℕ) → Below (a + n) (range_with_len a n)
range_below a zero = tt
range_below a (suc n) = (
  omega arith,
  all_map (λ x. x < a + 1 + n) (λ x. x < a + suc n) (range_with_len (a + 1) n) (λ x h. omega (arith, h))
      (range_below (a + 1) n),
)

blank_got : (xs : List ℕ) (n : ℕ) → n < length xs → slice_get (map (λ m. codes "_") xs) n ≡ Some (codes "_")
blank_got [] n h = absurd (omega (arith, h))
blank_got (x ∷ xs) zero h = refl
blank_got (x ∷ xs) (suc n) h = blank_got xs n (omega (arith, h))

pub blank_at : (xs : List ℕ) (n : ℕ) → n < length xs → mark_of (map (λ m. codes "_") xs) n ≡ codes "_"
blank_at xs n h = ap (λ z. variable_text z n) (blank_got xs n h)

mutual
  -- a pattern's text is that of the term if each of its variables has the name `_`
  pub named_pattern : (sig : Sig) (names : List (List ℕ)) (p : Tree) →
      AllByRecursion (λ n. mark_of names n ≡ codes "_") (occurrences p) → pattern_text sig p ≡ term_text sig names p
  named_pattern sig names (var n) h = sym h.0
  named_pattern sig names (app f none) h = refl
  named_pattern sig names (app f (some p ps)) h =
      let a = named_pattern sig names p (all_left (λ n. mark_of names n ≡ codes "_") (occurrences p)
      (occurrences_all ps) h) in
      let b = named_others sig names ps (all_right (λ n. mark_of names n ≡ codes "_") (occurrences p)
      (occurrences_all ps) h) in
      λ i. symbol_text (slice_get (names_of sig) f) ++ codes "(" ++ a i ++ b i ++ codes ")"

  pub named_others : (sig : Sig) (names : List (List ℕ)) (ps : Trees) →
      AllByRecursion (λ n. mark_of names n ≡ codes "_") (occurrences_all ps) →
      other_patterns_text sig ps ≡ others_text sig names ps
  named_others sig names none h = refl
  named_others sig names (some p ps) h =
      let a = named_pattern sig names p (all_left (λ n. mark_of names n ≡ codes "_") (occurrences p)
      (occurrences_all ps) h) in
      let b = named_others sig names ps (all_right (λ n. mark_of names n ≡ codes "_") (occurrences p)
      (occurrences_all ps) h) in
      λ i. codes ", " ++ a i ++ b i

-- a name `_` for each variable of the pattern
abbrev pub blanks : Tree → List (List ℕ)
blanks p = map (λ n. codes "_") (occurrences p)

pattern_below : (sig : Sig) (p : Tree) → PatternStands sig p → Below (length (occurrences p)) (occurrences p)
pattern_below sig p h =
    let xs = occurrences p in
    let from_nought : 0 + length xs ≡ length xs = omega arith in
    subst (λ ys. Below (length xs) ys) (sym h.numbered)
    (subst (λ k. Below k (range_with_len 0 (length xs))) from_nought (range_below 0 (length xs)))

pub pattern_as_term : (sig : Sig) (p : Tree) → PatternStands sig p → pattern_text sig p ≡ term_text sig (blanks p) p
pattern_as_term sig p h = named_pattern sig (blanks p) p
    (all_map (λ x. x < length (occurrences p)) (λ n. mark_of (blanks p) n ≡ codes "_") (occurrences p)
    (λ n k. blank_at (occurrences p) n k) (pattern_below sig p h))

pub pattern_plain : (sig : Sig) (p : Tree) → PatternStands sig p → IsPlain sig (blanks p) p
pattern_plain sig p h =
    let xs = occurrences p in
    plain_by sig (blanks p) p (all_map (λ x. x < length xs) (λ n. IsMark (mark_of (blanks p) n)) xs
    (λ n k. inl (blank_at xs n k)) (pattern_below sig p h)) h.stands.symbols

-- so are two patterns
pub pattern_reads : (sig : Sig) → NamesDiffer sig → (p q : Tree) (r s : List ℕ) → PatternStands sig p →
    PatternStands sig q → Ends r → Ends s → pattern_text sig p ++ r ≡ pattern_text sig q ++ s → (p ≡ q) × (r ≡ s)
pattern_reads sig d p q r s a b x y e =
    let m = blanks p in
    let n = blanks q in
    let named : term_text sig m p ++ r ≡ term_text sig n q
    ++ s = ap (λ z. z ++ r) (sym (pattern_as_term sig p a)) ∙ e ∙ ap (λ z. z ++ s) (pattern_as_term sig q b) in
    let both = reads sig d m n p q r s (pattern_plain sig p a) (pattern_plain sig q b) x y named in (
      same_by m n p q both.0 (a.numbered ∙ ap (λ k. range_with_len 0 k) (as_many m n p q both.0)
          ∙ sym b.numbered),
      both.1,
    )
