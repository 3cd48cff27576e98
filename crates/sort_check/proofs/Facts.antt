-- What is known of the terms and variables of a walk in which nothing is found.
use Rattle.std.proofs.Common.{◌≡◌, ◌≢◌, ◌≤◌, ◌<◌, ℕ, zero, suc, List, [], ◌∷◌, ◌++◌, Option, Some, None, option_map}
use Rattle.std.proofs.Common.{◌⊎◌, inl, inr, refl, ap, sym, ◌∙◌, subst, arith, length, length-append, length-set}
use Rattle.std.proofs.Common.{get_or-set_same}
use Rattle.std.specs.Prelude.{slice_get, unwrap_or, map}
use Rattle.std.specs.Str.{bytes_eq}
use Rattle.std.proofs.lemmas.List.{length-map, map-set, map-append}
use Rattle.std.proofs.lemmas.Bool.{cases_lt}
use Rattle.std.proofs.lemmas.List.Quantifiers.{position-Some}
use Rattle.term_core.specs.Tree.{Tree, Trees, var, app, none, some}
use Rattle.term_core.specs.declared.ids.SortId.{SortId}
use Rattle.spec_core.specs.declared.records.SymInfo.{SymInfo}
use Rattle.spec_core.specs.Declarations.{bool_symbol}
use Rattle.spec_core.specs.Sig.{Sig, info_of, names_of, IsConstructor}
use Rattle.spec_core.specs.Sorts.{Sorted, SortedAll}
use Rattle.term_core.specs.Variables.{Numbered, NumberedAll}
use Rattle.spec_core.specs.WellSorted.{IsPattern, ArePatterns}
use Rattle.spec_core.specs.Findings.{Clean}
use Rattle.spec_core.proofs.Names.{position-map}
use Rattle.spec_grammar.specs.RawTree.{RawTree, RawTrees, word, none as no_raws, some as more_raws}
use Rattle.sort_check.specs.Entries.{entry_named, entry_names, known_sorts, sort_at, sort_so_far, Differ, given}
use Rattle.sort_check.specs.Entries.{with_variable}
use Rattle.sort_check.specs.Words.{count, symbol_named, info_at, after_word, entries_after, entries_after_all}
use Rattle.sort_check.specs.Words.{variable_tests, other_tests, pattern_test, place_test, word_tests, term_tests}
use Rattle.sort_check.specs.Words.{terms_tests}
use Rattle.sort_check.specs.Over.{IsOver, AreOver}
use Rattle.sort_check.specs.Parts.{AreSorted}
use Rattle.sort_check.specs.GoalTests.{own_sort}
use Rattle.sort_check.specs.Occurrence.{with_name, names_after, names_after_all, after_word as names_after_word}
use Rattle.sort_check.specs.Terms.{TermStands, TermsStand}
use Rattle.sort_check.specs.declared.entries.Entry.{Entry}
use Rattle.sort_check.specs.declared.faults.SortKind.{SortKind}
use Rattle.sort_check.specs.declared.faults.SortKind.TheVariants.{WrongSort}
use Rattle.sort_check.specs.declared.faults.Part.{Part}
use Rattle.sort_check.specs.declared.faults.Part.TheVariants.{Left, Right, Goal, Ground}
use Rattle.sort_check.proofs.Names.{place_is, no_place}
use Rattle.sort_check.proofs.Places.{same_number}
use Rattle.sort_check.proofs.Growth.{KeepsNames, Keeps, extends_self, extends_both, variable_extends, given_names}
use Rattle.sort_check.proofs.Growth.{named_stays, variable_keeps, word_has, extends_all, keeps_all}
use Rattle.sort_check.proofs.Walks.{added_last}
use Rattle.term_core.proofs.Numbers.{same_or_not, below_or_last}

-- a sort that isn't another is the same
pub same_sort : (a b : SortId) → (a ≢ b → ⊥) → a ≡ b
same_sort a b h = by (same_or_not a.0 b.0)
  where
    by : (a.0 ≡ b.0) ⊎ (a.0 ≢ b.0) → a ≡ b
    by (inl p) = λ i. record { 0 = p i }
    by (inr n) = absurd (h (λ e. n (ap (λ (x : SortId). x.0) e)))

-- the declaration of a symbol that is named
info_there : (es : List (List ℕ × SymInfo)) (f : ℕ) → f < length (map (λ (e : List ℕ × SymInfo). e.0) es) →
    option_map (λ (e : List ℕ × SymInfo). e.1) (slice_get es f) ≡ Some
    (unwrap_or (option_map (λ (e : List ℕ × SymInfo). e.1) (slice_get es f)) bool_symbol)
info_there [] f h = absurd (omega arith)
info_there (e ∷ es) zero h = refl
info_there (e ∷ es) (suc f) h = info_there es f (omega arith)

pub info_known : (sig : Sig) (name : List ℕ) (f : ℕ) → symbol_named sig name ≡ Some f →
    info_of sig f ≡ Some (info_at sig f)
info_known sig name f k = info_there sig.table f (position-Some (bytes_eq name) (names_of sig) f [] k).0

-- how many variables there are after one more
given_long : (es : List Entry) (n : ℕ) (place known : Option SortId) → length (given es n place known) ≡ length es
given_long es n place (Some s) = refl
given_long es n None None = refl
given_long es n (Some s) None = length-set es n _

sort_last : (es : List Entry) (e : Entry) → sort_so_far (es ++ e ∷ []) (length es) ≡ e.sort
sort_last [] e = refl
sort_last (f ∷ es) e = sort_last es e

-- a variable has the sort of its place after its word
given_sort : (es : List Entry) (n : ℕ) (s : SortId) (known : Option SortId) → n < length es →
    sort_so_far es n ≡ known → (Differ known (Some s) → ⊥) → sort_so_far (given es n (Some s) known) n ≡ Some s
given_sort es n s (Some u) l k d = k ∙ ap (λ x. Some x) (same_sort u s d)
given_sort es n s None l k d =
    let long : n < length (known_sorts es) = omega (arith, length-map es (λ (e : Entry). e.sort)) in
    ap (λ ks. sort_at ks n) (map-set (λ (e : Entry). e.sort) es n _)
    ∙ get_or-set_same (known_sorts es) n (Some s) None long

-- the variables have the sorts that are known of them
abbrev pub HasSorts : List Entry → List SortId → Type 0
HasSorts es ctx = (n : ℕ) (s : SortId) → sort_so_far es n ≡ Some s → slice_get ctx n ≡ Some s

module _ (sig : Sig) (part : Part) (ctx : List SortId) where
  -- what is known of a term, and of terms at places of sorts
  pub record Facts (es : List Entry) (r : RawTree) (place : Option SortId) (t : Tree) : Type 0 where
    pub sorted : (s : SortId) → place ≡ Some s → Sorted sig ctx t s
    pub own : (s : SortId) → own_sort sig r ≡ Some s → Sorted sig ctx t s
    pub numbered : Numbered (length es) t (length (entries_after sig es r place))
    pub pattern : part ≡ Left → IsPattern sig t

  pub record AllFacts (es : List Entry) (rs : RawTrees) (ss : List SortId) (ts : Trees) : Type 0 where
    pub sorted : SortedAll sig ctx ts ss
    pub numbered : NumberedAll (length es) ts (length (entries_after_all sig es rs ss))
    pub pattern : part ≡ Left → ArePatterns sig ts

  module _ (final : List Entry) (has : HasSorts final ctx) where
    variable_facts : (es : List Entry) (wrong : SortKind) (name : List ℕ) (at : ℕ) (o : Option ℕ)
        (p : Option SortId) → entry_named es name ≡ o → Clean (variable_tests part es wrong at p o) →
        KeepsNames (with_variable es name at p o) final → Keeps (with_variable es name at p o) final → (n : ℕ) →
        entry_named final name ≡ Some n → ((s : SortId) → p ≡ Some s → slice_get ctx n ≡ Some s)
        × Numbered (length es) (var n) (length (with_variable es name at p o))
    variable_facts es wrong name at (Some m) p e c x k n f =
        let q = position-Some (λ (v : Entry). bytes_eq name v.name) es m
        (record { name = []; at = 0; sort = None }) e in
        let stays : entry_named final name ≡ Some m = named_stays es final name m
        (extends_both es (with_variable es name at p (Some m)) final
        (variable_extends es name at p (Some m)) x) e in
        let z : Some n ≡ Some m = sym f ∙ stays in
        let i : n ≡ m = cc in (
          λ s is. has n s (ap (λ j. sort_so_far final j) i
              ∙ k m s (ap (λ y. sort_so_far (given es m y (sort_so_far es m)) m) is
              ∙ given_sort es m s (sort_so_far es m) q.0 refl (subst (λ y. Differ (sort_so_far es m) y →
              ⊥) is c))),
          inl (omega (arith, i, q.0), given_long es m p (sort_so_far es m)),
        )
    variable_facts es wrong name at None p e c x k n f =
        let after = with_variable es name at p None in
        let last : entry_named after name ≡ Some (length es) = added_last es after name at (length es) p e refl refl in
        let z : Some n ≡ Some (length es) = sym f ∙ named_stays after final name (length es) x last in
        let i : n ≡ length es = cc in (
          λ s is. has n s (ap (λ j. sort_so_far final j) i
              ∙ k (length es) s (sort_last es (record { name = name; at = at; sort = p }) ∙ is)),
          inr (i, length-append es (record { name = name; at = at; sort = p } ∷ [])),
        )

    constructor_if : (f at : ℕ) (pt : Part) → pt ≡ Left → Clean (pattern_test sig pt at f) → IsConstructor sig f
    constructor_if f at Left e c = by (cases_lt f sig.constructors)
      where
        by : (f < sig.constructors) ⊎ (sig.constructors ≤ f) → IsConstructor sig f
        by (inl h) = h
        by (inr h) = absurd (c (λ l. omega arith))
    constructor_if f at Right e c = absurd (let z : Right ≡ Left = e in cc)
    constructor_if f at Goal e c = absurd (let z : Goal ≡ Left = e in cc)
    constructor_if f at Ground e c = absurd (let z : Ground ≡ Left = e in cc)

    place_sort : (wrong : SortKind) (at f : ℕ) (place : Option SortId) →
        Clean (place_test sig wrong at f place) → (s : SortId) → place ≡ Some s → (info_at sig f).result ≡ s
    place_sort wrong at f None c s e = absurd (let z : None ≡ Some s = e in cc)
    place_sort wrong at f (Some u) c s e =
        let z : Some u ≡ Some s = e in
        let k : u ≡ s = cc in
        same_sort (info_at sig f).result u c ∙ k

    mutual
      -- of a term whose variables stay in the final ones
      pub facts : (es : List Entry) (wrong : SortKind) (r : RawTree) (place : Option SortId) (t : Tree) →
          Clean (term_tests sig part es wrong r place) → KeepsNames (entries_after sig es r place) final →
          Keeps (entries_after sig es r place) final → IsOver sig final r t → Facts es r place t
      facts es wrong (word name at no_raws) place (var n) c x k h =
          let A = λ (o : Option ℕ). after_word sig es name at place (λ f. es) o in
          let c1 : Clean (variable_tests part es wrong at place (entry_named es name)) = subst
          (λ o. Clean (word_tests sig part es wrong name at no_raws place
          (λ f. terms_tests sig part es no_raws (info_at sig f).args) o)) h.1 c in
          let x1 : KeepsNames (with_variable es name at place (entry_named es name)) final = subst
          (λ o. KeepsNames (A o) final) h.1 x in
          let k1 : Keeps (with_variable es name at place (entry_named es name)) final = subst
          (λ o. Keeps (A o) final) h.1 k in
          let v = variable_facts es wrong name at (entry_named es name) place refl c1 x1 k1 n h.2 in
          record {
            sorted = v.0;
            own = λ s e. absurd (let z : None ≡ Some s = ap (λ o. option_map (λ f. (info_at sig f).result) o)
                (sym h.1) ∙ e in cc);
            numbered = subst (λ o. Numbered (length es) (var n) (length (A o))) (sym h.1) v.1;
            pattern = λ _. tt;
          }
      facts es wrong (word name at (more_raws r rs)) place (var n) c x k h = absurd
          (let z : more_raws r rs ≡ no_raws = h.0 in cc)
      facts es wrong (word name at args) place (app g ts) c x k h =
          let A = λ (o : Option ℕ). after_word sig es name at place
          (λ f. entries_after_all sig es args (info_at sig f).args) o in
          let c1 = subst (λ o. Clean
          (word_tests sig part es wrong name at args place
          (λ f. terms_tests sig part es args (info_at sig f).args) o)) h.0 c in
          let x1 : KeepsNames (entries_after_all sig es args (info_at sig g).args) final = subst
          (λ o. KeepsNames (A o) final) h.0 x in
          let k1 : Keeps (entries_after_all sig es args (info_at sig g).args) final = subst
          (λ o. Keeps (A o) final) h.0 k in
          let n : count args ≡ length (info_at sig g).args = same_number (count args)
          (length (info_at sig g).args) c1.0.1.0 in
          let a = all_facts es args (info_at sig g).args ts n c1.1 x1 k1 h.1 in
          let known = info_known sig name g h.0 in
          record {
            sorted = λ s e. (info_at sig g, known, place_sort wrong at g place c1.0.1.1 s e, a.sorted);
            own = λ s e.
                let z : Some (info_at sig g).result ≡ Some s = ap
                (λ o. option_map (λ f. (info_at sig f).result) o) (sym h.0) ∙ e in
                let q : (info_at sig g).result ≡ s = cc in
                (info_at sig g, known, q, a.sorted);
            numbered = subst (λ o. NumberedAll (length es) ts (length (A o))) (sym h.0) a.numbered;
            pattern = λ e. (constructor_if g at part e c1.0.0, a.pattern e);
          }

      pub all_facts : (es : List Entry) (rs : RawTrees) (ss : List SortId) (ts : Trees) → count rs ≡ length ss →
          Clean (terms_tests sig part es rs ss) → KeepsNames (entries_after_all sig es rs ss) final →
          Keeps (entries_after_all sig es rs ss) final → AreOver sig final rs ts → AllFacts es rs ss ts
      all_facts es no_raws [] none n c x k h = record { sorted = tt; numbered = refl; pattern = λ _. tt }
      all_facts es no_raws (s ∷ ss) none n c x k h = absurd (omega arith)
      all_facts es no_raws ss (some t ts) n c x k h = absurd h
      all_facts es (more_raws r rs) ss none n c x k h = absurd h
      all_facts es (more_raws r rs) [] (some t ts) n c x k h = absurd (omega arith)
      all_facts es (more_raws r rs) (s ∷ ss) (some t ts) n c x k h =
          let mid = entries_after sig es r (Some s) in
          let x1 = extends_both mid (entries_after_all sig mid rs ss) final (extends_all sig mid rs ss) x in
          let k1 : Keeps mid final = λ m u e. k m u (keeps_all sig mid rs ss m u e) in
          let a = facts es WrongSort r (Some s) t c.0 x1 k1 h.0 in
          let b = all_facts mid rs ss ts (omega arith) c.1 x k h.1 in
          record {
            sorted = (a.sorted s refl, b.sorted);
            numbered = (
              length mid,
              a.numbered,
              b.numbered,
            );
            pattern = λ e. (a.pattern e, b.pattern e);
          }

module _ (sig : Sig) where
  variable_sorted : (es : List Entry) (name : List ℕ) (at : ℕ) (s : SortId) (o : Option ℕ) → AreSorted es →
      AreSorted (with_variable es name at (Some s) o)
  variable_sorted es name at s (Some m) a n lt =
      let h = a n (omega (arith, given_long es m (Some s) (sort_so_far es m))) in
      (h.0, variable_keeps es name at (Some s) (Some m) n h.0 h.1)
  variable_sorted es name at s None a n lt = elim
      (below_or_last n (length es)
      (omega (arith, length-append es (record { name = name; at = at; sort = Some s } ∷ [])))) [
        | inl l ↦
            let h = a n l in
            (h.0, variable_keeps es name at (Some s) None n h.0 h.1)
        | inr e ↦ (
          s,
          ap (λ m. sort_so_far (with_variable es name at (Some s) None) m) e
              ∙ sort_last es (record { name = name; at = at; sort = Some s }),
        )
      ]

  mutual
    -- a term at a place with a sort leaves each variable with one
    pub sorted_after : (es : List Entry) (r : RawTree) (s : SortId) → AreSorted es →
        AreSorted (entries_after sig es r (Some s))
    sorted_after es (word name at args) s a = word_has sig (λ fs. AreSorted fs) es name at (Some s)
        (λ f. entries_after_all sig es args (info_at sig f).args)
        (λ f. sorted_after_all es args (info_at sig f).args a)
        (variable_sorted es name at s (entry_named es name) a) (symbol_named sig name)

    pub sorted_after_all : (es : List Entry) (rs : RawTrees) (ss : List SortId) → AreSorted es →
        AreSorted (entries_after_all sig es rs ss)
    sorted_after_all es no_raws ss a = a
    sorted_after_all es (more_raws r rs) [] a = a
    sorted_after_all es (more_raws r rs) (s ∷ ss) a = sorted_after_all (entries_after sig es r (Some s)) rs ss
        (sorted_after es r s a)

  -- on the right no variable is new
  given_same : (es : List Entry) (n : ℕ) (place known : Option SortId) (s : SortId) → known ≡ Some s →
      given es n place known ≡ es
  given_same es n place (Some u) s e = refl
  given_same es n place None s e = absurd (let z : None ≡ Some s = e in cc)

  variable_same : (es : List Entry) (wrong : SortKind) (name : List ℕ) (at : ℕ) (place : Option SortId)
      (o : Option ℕ) → AreSorted es → entry_named es name ≡ o →
      Clean (variable_tests Right es wrong at place o) → with_variable es name at place o ≡ es
  variable_same es wrong name at place (Some n) a e c =
      let q = position-Some (λ (v : Entry). bytes_eq name v.name) es n (record { name = []; at = 0; sort = None }) e in
      let h = a n q.0 in
      given_same es n place (sort_so_far es n) h.0 h.1
  variable_same es wrong name at place None a e c = absurd (c tt)

  other_same : (es : List Entry) (wrong : SortKind) (name : List ℕ) (at : ℕ) (args : RawTrees)
      (place : Option SortId) → AreSorted es → Clean (other_tests Right es wrong name at args place) →
      with_variable es name at place (entry_named es name) ≡ es
  other_same es wrong name at no_raws place a c = variable_same es wrong name at place (entry_named es name) a refl c
  other_same es wrong name at (more_raws r rs) place a c = absurd (c tt)

  word_same : (es : List Entry) (wrong : SortKind) (name : List ℕ) (at : ℕ) (args : RawTrees)
      (place : Option SortId) (o : Option ℕ) → AreSorted es →
      ((f : ℕ) → Clean (terms_tests sig Right es args (info_at sig f).args) →
      entries_after_all sig es args (info_at sig f).args ≡ es) →
      Clean (word_tests sig Right es wrong name at args place
      (λ f. terms_tests sig Right es args (info_at sig f).args) o) →
      after_word sig es name at place (λ f. entries_after_all sig es args (info_at sig f).args) o ≡ es
  word_same es wrong name at args place (Some f) a h c = h f c.1
  word_same es wrong name at args place None a h c = other_same es wrong name at args place a c

  mutual
    pub right_same : (es : List Entry) (wrong : SortKind) (r : RawTree) (place : Option SortId) → AreSorted es →
        Clean (term_tests sig Right es wrong r place) → entries_after sig es r place ≡ es
    right_same es wrong (word name at args) place a c = word_same es wrong name at args place
        (symbol_named sig name) a (λ f d. rights_same es args (info_at sig f).args a d) c

    pub rights_same : (es : List Entry) (rs : RawTrees) (ss : List SortId) → AreSorted es →
        Clean (terms_tests sig Right es rs ss) → entries_after_all sig es rs ss ≡ es
    rights_same es no_raws ss a c = refl
    rights_same es (more_raws r rs) [] a c = refl
    rights_same es (more_raws r rs) (s ∷ ss) a c =
        let e = right_same es WrongSort r (Some s) a c.0 in
        ap (λ vs. entries_after_all sig vs rs ss) e
        ∙ rights_same es rs ss a (subst (λ vs. Clean (terms_tests sig Right vs rs ss)) e c.1)

  pub right_facts : (ctx : List SortId) (es : List Entry) (wrong : SortKind) (r : RawTree)
      (place : Option SortId) (t : Tree) → HasSorts es ctx → AreSorted es →
      Clean (term_tests sig Right es wrong r place) → IsOver sig es r t → Facts sig Right ctx es r place t
  right_facts ctx es wrong r place t has a c h =
      let same = sym (right_same es wrong r place a c) in
      facts sig Right ctx es has es wrong r place t c (subst (λ xs. KeepsNames xs es) same (extends_self es))
      (subst (λ xs. Keeps xs es) same (λ n s e. e)) h

  -- the names of the variables, by first occurrence
  variable_name : (es : List Entry) (name : List ℕ) (at : ℕ) (place : Option SortId) (o : Option ℕ) →
      entry_names (with_variable es name at place o) ≡ with_name (entry_names es) name o
  variable_name es name at place (Some n) = given_names es n place (sort_so_far es n)
  variable_name es name at place None = map-append (λ (e : Entry). e.name) es
      (record { name = name; at = at; sort = place } ∷ [])

  word_names : (part : Part) (es : List Entry) (wrong : SortKind) (name : List ℕ) (at : ℕ) (args : RawTrees)
      (place : Option SortId) →
      ((f : ℕ) → count args ≡ length (info_at sig f).args →
      Clean (terms_tests sig part es args (info_at sig f).args) →
      entry_names (entries_after_all sig es args (info_at sig f).args) ≡ names_after_all sig (entry_names es)
      args) → (o : Option ℕ) →
      Clean (word_tests sig part es wrong name at args place
      (λ f. terms_tests sig part es args (info_at sig f).args) o) →
      entry_names (after_word sig es name at place (λ f. entries_after_all sig es args (info_at sig f).args)
      o) ≡ names_after_word (entry_names es) name (names_after_all sig (entry_names es) args) o
  word_names part es wrong name at args place h (Some f) c = h f
      (same_number (count args) (length (info_at sig f).args) c.0.1.0) c.1
  word_names part es wrong name at args place h None c = variable_name es name at place (entry_named es name)
      ∙ ap (λ o. with_name (entry_names es) name o) (sym (position-map (bytes_eq name) (λ (e : Entry). e.name) es))

  mutual
    pub names_after_are : (part : Part) (es : List Entry) (wrong : SortKind) (r : RawTree)
        (place : Option SortId) → Clean (term_tests sig part es wrong r place) →
        entry_names (entries_after sig es r place) ≡ names_after sig (entry_names es) r
    names_after_are part es wrong (word name at args) place c = word_names part es wrong name at args place
        (λ f n d. names_after_all_are part es args (info_at sig f).args n d) (symbol_named sig name) c

    pub names_after_all_are : (part : Part) (es : List Entry) (rs : RawTrees) (ss : List SortId) →
        count rs ≡ length ss → Clean (terms_tests sig part es rs ss) →
        entry_names (entries_after_all sig es rs ss) ≡ names_after_all sig (entry_names es) rs
    names_after_all_are part es no_raws ss n c = refl
    names_after_all_are part es (more_raws r rs) [] n c = absurd (omega arith)
    names_after_all_are part es (more_raws r rs) (s ∷ ss) n c =
        names_after_all_are part (entries_after sig es r (Some s)) rs ss (omega arith) c.1
        ∙ ap (λ ns. names_after_all sig ns rs) (names_after_are part es WrongSort r (Some s) c.0)

  -- a term over the variables stands for one over their names
  mutual
    pub over_stands : (es : List Entry) (r : RawTree) (t : Tree) → IsOver sig es r t →
        TermStands sig (entry_names es) r t
    over_stands es (word name at args) (var n) h = (
      h.0,
      no_place name (names_of sig) h.1,
      place_is name (entry_names es) n (position-map (bytes_eq name) (λ (e : Entry). e.name) es ∙ h.2),
    )
    over_stands es (word name at args) (app f ts) h = (place_is name (names_of sig) f h.0, over_stand es args ts h.1)

    pub over_stand : (es : List Entry) (rs : RawTrees) (ts : Trees) → AreOver sig es rs ts →
        TermsStand sig (entry_names es) rs ts
    over_stand es no_raws none h = tt
    over_stand es (more_raws r rs) (some t ts) h = (over_stands es r t h.0, over_stand es rs ts h.1)
    over_stand es no_raws (some t ts) h = absurd h
    over_stand es (more_raws r rs) none h = absurd h
