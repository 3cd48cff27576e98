-- Terms that are the same apart from places: they stand for the same terms, the same variables come
-- after them, and a test finds something in both or in neither. The first of two is described by the
-- second.
use Rattle.std.proofs.Common.{◌≡◌, ℕ, ◌+◌, ◌≤◌, List, [], ◌∷◌, ◌++◌, Option, Some, None, length, refl, ap, sym, ◌∙◌}
use Rattle.std.proofs.Common.{subst}
use Rattle.std.specs.Prelude.{position, slice_get}
use Rattle.std.specs.List.{slice_set}
use Rattle.std.specs.Str.{bytes_eq}
use Rattle.std.proofs.lemmas.List.{length-map, map-set, map-append}
use Rattle.term_core.specs.Tree.{Tree, Trees, var, app, none, some}
use Rattle.term_core.specs.declared.ids.SortId.{SortId}
use Rattle.spec_core.specs.Sig.{Sig, names_of}
use Rattle.spec_core.specs.Declarations.{IsNewName}
use Rattle.spec_core.specs.Findings.{Search, Clean}
use Rattle.spec_core.proofs.Names.{position-map}
use Rattle.spec_grammar.specs.RawTree.{RawTree, RawTrees, word, none as no_raws, some as more_raws}
use Rattle.spec_grammar.specs.Sizes.{words, words_all}
use Rattle.spec_printing.specs.SamePlaces.{SameTerm, SameTerms}
use Rattle.sort_check.specs.Entries.{entry_named, entry_names, known_sorts, sort_at, sort_so_far, given, with_variable}
use Rattle.sort_check.specs.Entries.{Differ}
use Rattle.sort_check.specs.Occurrence.{after_word as names_after_word, names_after, names_after_all}
use Rattle.sort_check.specs.Terms.{TermStands, TermsStand}
use Rattle.sort_check.specs.Words.{count, variable_tests, other_tests, symbol_named, info_at, after_word}
use Rattle.sort_check.specs.Words.{entries_after, entries_after_all, pattern_test, place_test, symbol_tests}
use Rattle.sort_check.specs.Words.{word_tests, term_tests, terms_tests}
use Rattle.spec_meaning.proofs.SortCheckTypes.{Entry, Part, left_part, right_part, goal_part}
use Rattle.sort_check.specs.declared.faults.SortFault.{SortFault}
use Rattle.sort_check.specs.declared.faults.SortKind.{SortKind}
use Rattle.sort_check.specs.declared.faults.SortKind.TheVariants.{WrongSort}
use Rattle.sort_check.proofs.Growth.{given_names}

no_terms : (ts us : RawTrees) → SameTerms ts us → us ≡ no_raws → ts ≡ no_raws
no_terms no_raws us h e = refl
no_terms (more_raws t ts) no_raws h e = absurd h
no_terms (more_raws t ts) (more_raws u us) h e = absurd (cc)

-- What terms stand for.

module _ (sig : Sig) (names : List (List ℕ)) where
  mutual
    pub term_stands : (t u : RawTree) (s : Tree) → SameTerm t u → TermStands sig names u s →
        TermStands sig names t s
    term_stands (word b at ts) (word c place us) (var n) h p =
        let q : (us ≡ no_raws) × IsNewName b (names_of sig) × (slice_get names n ≡ Some b) =
        subst (λ (name : List ℕ). (us ≡ no_raws) × IsNewName name (names_of sig)
        × (slice_get names n ≡ Some name)) (sym h.0) p in
        (no_terms ts us h.1 q.0, q.1, q.2)
    term_stands (word b at ts) (word c place us) (app f ss) h p =
        (p.0 ∙ ap (λ (name : List ℕ). Some name) (sym h.0), terms_stand ts us ss h.1 p.1)

    pub terms_stand : (ts us : RawTrees) (ss : Trees) → SameTerms ts us →
        TermsStand sig names us ss → TermsStand sig names ts ss
    terms_stand no_raws no_raws ss h p = p
    terms_stand no_raws (more_raws u us) ss h p = absurd h
    terms_stand (more_raws t ts) no_raws ss h p = absurd h
    terms_stand (more_raws t ts) (more_raws u us) none h p = absurd p
    terms_stand (more_raws t ts) (more_raws u us) (some s ss) h p =
        (term_stands t u s h.0 p.0, terms_stand ts us ss h.1 p.1)

-- The names of variables.

module _ (sig : Sig) where
  mutual
    pub same_names_after : (seen : List (List ℕ)) (t u : RawTree) → SameTerm t u →
        names_after sig seen t ≡ names_after sig seen u
    same_names_after seen (word b at ts) (word c place us) h =
        let e : names_after sig seen (word b at ts) ≡ names_after sig seen (word b place us) =
        ap (λ (after : List (List ℕ)). names_after_word seen b after
        (position (bytes_eq b) (names_of sig))) (same_names_after_all seen ts us h.1) in
        e ∙ ap (λ (name : List ℕ). names_after sig seen (word name place us)) h.0

    pub same_names_after_all : (seen : List (List ℕ)) (ts us : RawTrees) → SameTerms ts us →
        names_after_all sig seen ts ≡ names_after_all sig seen us
    same_names_after_all seen no_raws no_raws h = refl
    same_names_after_all seen no_raws (more_raws u us) h = absurd h
    same_names_after_all seen (more_raws t ts) no_raws h = absurd h
    same_names_after_all seen (more_raws t ts) (more_raws u us) h =
        same_names_after_all (names_after sig seen t) ts us h.1
        ∙ ap (λ (s : List (List ℕ)). names_after_all sig s us) (same_names_after seen t u h.0)

-- Numbers of words.

pub same_count : (ts us : RawTrees) → SameTerms ts us → count ts ≡ count us
same_count no_raws no_raws h = refl
same_count no_raws (more_raws u us) h = absurd h
same_count (more_raws t ts) no_raws h = absurd h
same_count (more_raws t ts) (more_raws u us) h = ap (λ (n : ℕ). 1 + n) (same_count ts us h.1)

mutual
  pub same_words : (t u : RawTree) → SameTerm t u → words t ≡ words u
  same_words (word b at ts) (word c place us) h = ap (λ (n : ℕ). 1 + n) (same_words_all ts us h.1)

  pub same_words_all : (ts us : RawTrees) → SameTerms ts us → words_all ts ≡ words_all us
  same_words_all no_raws no_raws h = refl
  same_words_all no_raws (more_raws u us) h = absurd h
  same_words_all (more_raws t ts) no_raws h = absurd h
  same_words_all (more_raws t ts) (more_raws u us) h =
      let a : words t ≡ words u = same_words t u h.0 in
      let b : words_all ts ≡ words_all us = same_words_all ts us h.1 in
      λ i. a i + b i

-- Variables with the same names and sorts.
pub record Alike (es fs : List Entry) : Type 0 where
  pub names : entry_names es ≡ entry_names fs
  pub sorts : known_sorts es ≡ known_sorts fs

pub alike_self : (es : List Entry) → Alike es es
alike_self es = record { names = refl; sorts = refl }

-- Where terms of this part are, a test finds something at each place or at none.
pub record IsPlaceless (part : Part) : Type 0 where
  pattern : (sig : Sig) (at other f : ℕ) → Clean (pattern_test sig part other f) →
      Clean (pattern_test sig part at f)
  variable : (es fs : List Entry) → Alike es fs →
      (wrong : SortKind) (at other : ℕ) (place : Option SortId) →
      Clean (variable_tests part fs wrong other place None) →
      Clean (variable_tests part es wrong at place None)

module _ (es fs : List Entry) (a : Alike es fs) where
  pub named_alike : (name : List ℕ) → entry_named es name ≡ entry_named fs name
  named_alike name =
      let f : (gs : List Entry) → position (bytes_eq name) (entry_names gs) ≡ entry_named gs name =
      λ gs. position-map (bytes_eq name) (λ (e : Entry). e.name) gs in
      sym (f es) ∙ ap (λ (ns : List (List ℕ)). position (bytes_eq name) ns) a.names ∙ f fs

  pub sort_alike : (n : ℕ) → sort_so_far es n ≡ sort_so_far fs n
  sort_alike n = ap (λ (ks : List (Option SortId)). sort_at ks n) a.sorts

  pub long_alike : length es ≡ length fs
  long_alike = sym (length-map es (λ (e : Entry). e.name))
      ∙ ap (λ (ns : List (List ℕ)). length ns) a.names ∙ length-map fs (λ (e : Entry). e.name)

  given_alike : (n : ℕ) (place known : Option SortId) →
      Alike (given es n place known) (given fs n place known)
  given_alike n place (Some s) = record { names = a.names; sorts = a.sorts }
  given_alike n None None = record { names = a.names; sorts = a.sorts }
  given_alike n (Some s) None = record {
    names = given_names es n (Some s) None ∙ a.names ∙ sym (given_names fs n (Some s) None);
    sorts = map-set (λ (e : Entry). e.sort) es n _
        ∙ ap (λ (ks : List (Option SortId)). slice_set ks n (Some s)) a.sorts
        ∙ sym (map-set (λ (e : Entry). e.sort) fs n _);
  }

  added_alike : (name : List ℕ) (at other : ℕ) (place : Option SortId) →
      Alike (with_variable es name at place None) (with_variable fs name other place None)
  added_alike name at other place =
      let e : Entry = record { name = name; at = at; sort = place } in
      let f : Entry = record { name = name; at = other; sort = place } in
      record {
        names = map-append (λ (e : Entry). e.name) es (e ∷ [])
            ∙ ap (λ (ns : List (List ℕ)). ns ++ name ∷ []) a.names
            ∙ sym (map-append (λ (e : Entry). e.name) fs (f ∷ []));
        sorts = map-append (λ (e : Entry). e.sort) es (e ∷ [])
            ∙ ap (λ (ks : List (Option SortId)). ks ++ place ∷ []) a.sorts
            ∙ sym (map-append (λ (e : Entry). e.sort) fs (f ∷ []));
      }

  variable_alike : (name : List ℕ) (at other : ℕ) (place : Option SortId) (o : Option ℕ) →
      Alike (with_variable es name at place o) (with_variable fs name other place o)
  variable_alike name at other place (Some n) =
      subst (λ (o : Option SortId). Alike (given es n place (sort_so_far es n))
      (given fs n place o)) (sort_alike n) (given_alike n place (sort_so_far es n))
  variable_alike name at other place None = added_alike name at other place

  word_alike : (sig : Sig) (name : List ℕ) (at other : ℕ) (place : Option SortId)
      (f g : ℕ → List Entry) → ((n : ℕ) → Alike (f n) (g n)) → (o : Option ℕ) →
      Alike (after_word sig es name at place f o) (after_word sig fs name other place g o)
  word_alike sig name at other place f g h (Some n) = h n
  word_alike sig name at other place f g h None =
      subst (λ (o : Option ℕ). Alike (with_variable es name at place (entry_named es name))
      (with_variable fs name other place o)) (named_alike name)
      (variable_alike name at other place (entry_named es name))

  -- Tests of a word.

  clean_variable : (part : Part) → IsPlaceless part →
      (wrong : SortKind) (at other : ℕ) (place : Option SortId) (o : Option ℕ) →
      Clean (variable_tests part fs wrong other place o) →
      Clean (variable_tests part es wrong at place o)
  clean_variable part p wrong at other place (Some n) k =
      λ d. k (subst (λ (o : Option SortId). Differ o place) (sort_alike n) d)
  clean_variable part p wrong at other place None k = p.variable es fs a wrong at other place k

  clean_other : (part : Part) → IsPlaceless part →
      (wrong : SortKind) (name : List ℕ) (at other : ℕ) (ts us : RawTrees)
      (place : Option SortId) → SameTerms ts us →
      Clean (other_tests part fs wrong name other us place) →
      Clean (other_tests part es wrong name at ts place)
  clean_other part p wrong name at other no_raws no_raws place h k =
      clean_variable part p wrong at other place (entry_named es name)
      (subst (λ (o : Option ℕ). Clean (variable_tests part fs wrong other place o))
      (sym (named_alike name)) k)
  clean_other part p wrong name at other no_raws (more_raws u us) place h k = absurd h
  clean_other part p wrong name at other (more_raws t ts) no_raws place h k = absurd h
  clean_other part p wrong name at other (more_raws t ts) (more_raws u us) place h k = k

pub left_placeless : IsPlaceless left_part
left_placeless = record {
  pattern = λ sig at other f k. k;
  variable = λ es fs a wrong at other place k d. k
      (subst (λ (n : ℕ). 16 ≤ n) (long_alike es fs a) d);
}

pub right_placeless : IsPlaceless right_part
right_placeless = record {
  pattern = λ sig at other f k. k;
  variable =
      λ es fs a wrong at other place k. k;
}

pub goal_placeless : IsPlaceless goal_part
goal_placeless = record {
  pattern = λ sig at other f k. k;
  variable = λ es fs a wrong at other place k d. k
      (subst (λ (n : ℕ). 16 ≤ n) (long_alike es fs a) d);
}

module _ (sig : Sig) where
  clean_place : (wrong : SortKind) (at other f : ℕ) (place : Option SortId) →
      Clean (place_test sig wrong other f place) → Clean (place_test sig wrong at f place)
  clean_place wrong at other f None k = tt
  clean_place wrong at other f (Some s) k = k

  clean_symbol : (part : Part) → IsPlaceless part →
      (wrong : SortKind) (at other f m n : ℕ) (place : Option SortId) → m ≡ n →
      Clean (symbol_tests sig part wrong other f n place) →
      Clean (symbol_tests sig part wrong at f m place)
  clean_symbol part p wrong at other f m n place e k =
      let number : (m ≡ length (info_at sig f).args → ⊥) → ⊥ =
      subst (λ (i : ℕ). (i ≡ length (info_at sig f).args → ⊥) → ⊥) (sym e) k.1.0 in
      (p.pattern sig at other f k.0, (number, clean_place wrong at other f place k.1.1))

  module _ (part : Part) (p : IsPlaceless part) (es fs : List Entry) (a : Alike es fs)
      (wrong : SortKind) (name : List ℕ) (at other : ℕ) (ts us : RawTrees) (place : Option SortId)
      (same : SameTerms ts us) where
    clean_word : (f g : ℕ → Search SortFault) → ((n : ℕ) → Clean (g n) → Clean (f n)) →
        (o : Option ℕ) → Clean (word_tests sig part fs wrong name other us place g o) →
        Clean (word_tests sig part es wrong name at ts place f o)
    clean_word f g h (Some n) k = (
      clean_symbol part p wrong at other n (count ts) (count us) place
          (same_count ts us same) k.0,
      h n k.1,
    )
    clean_word f g h None k = clean_other es fs a part p wrong name at other ts us place same k

  mutual
    pub after_alike : (es fs : List Entry) (t u : RawTree) (place : Option SortId) → SameTerm t u →
        Alike es fs → Alike (entries_after sig es t place) (entries_after sig fs u place)
    after_alike es fs (word b at ts) (word c other us) place h a =
        let k : Alike (entries_after sig es (word b at ts) place)
        (entries_after sig fs (word b other us) place) =
        word_alike es fs a sig b at other place
        (λ f. entries_after_all sig es ts (info_at sig f).args)
        (λ f. entries_after_all sig fs us (info_at sig f).args)
        (λ f. all_after_alike es fs ts us (info_at sig f).args h.1 a) (symbol_named sig b) in
        subst (λ (name : List ℕ). Alike (entries_after sig es (word b at ts) place)
        (entries_after sig fs (word name other us) place)) h.0 k

    pub all_after_alike : (es fs : List Entry) (ts us : RawTrees) (ss : List SortId) →
        SameTerms ts us → Alike es fs →
        Alike (entries_after_all sig es ts ss) (entries_after_all sig fs us ss)
    all_after_alike es fs no_raws no_raws ss h a = a
    all_after_alike es fs no_raws (more_raws u us) ss h a = absurd h
    all_after_alike es fs (more_raws t ts) no_raws ss h a = absurd h
    all_after_alike es fs (more_raws t ts) (more_raws u us) [] h a = a
    all_after_alike es fs (more_raws t ts) (more_raws u us) (s ∷ ss) h a =
        all_after_alike (entries_after sig es t (Some s)) (entries_after sig fs u (Some s))
        ts us ss h.1 (after_alike es fs t u (Some s) h.0 a)

  mutual
    pub clean_term : (part : Part) → IsPlaceless part →
        (es fs : List Entry) (wrong : SortKind) (t u : RawTree) (place : Option SortId) →
        SameTerm t u → Alike es fs → Clean (term_tests sig part fs wrong u place) →
        Clean (term_tests sig part es wrong t place)
    clean_term part p es fs wrong (word b at ts) (word c other us) place h a k =
        let j : Clean (term_tests sig part fs wrong (word b other us) place) =
        subst (λ (name : List ℕ). Clean
        (term_tests sig part fs wrong (word name other us) place)) (sym h.0) k in
        clean_word part p es fs a wrong b at other ts us place h.1
        (λ f. terms_tests sig part es ts (info_at sig f).args)
        (λ f. terms_tests sig part fs us (info_at sig f).args)
        (λ f. clean_terms part p es fs ts us (info_at sig f).args h.1 a) (symbol_named sig b) j

    pub clean_terms : (part : Part) → IsPlaceless part →
        (es fs : List Entry) (ts us : RawTrees) (ss : List SortId) → SameTerms ts us →
        Alike es fs → Clean (terms_tests sig part fs us ss) → Clean (terms_tests sig part es ts ss)
    clean_terms part p es fs no_raws no_raws ss h a k = tt
    clean_terms part p es fs no_raws (more_raws u us) ss h a k = absurd h
    clean_terms part p es fs (more_raws t ts) no_raws ss h a k = absurd h
    clean_terms part p es fs (more_raws t ts) (more_raws u us) [] h a k = tt
    clean_terms part p es fs (more_raws t ts) (more_raws u us) (s ∷ ss) h a k = (
      clean_term part p es fs WrongSort t u (Some s) h.0 a k.0,
      clean_terms part p (entries_after sig es t (Some s)) (entries_after sig fs u (Some s))
          ts us ss h.1 (after_alike es fs t u (Some s) h.0 a) k.1,
    )
