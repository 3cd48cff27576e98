-- The variables of a left side, by first occurrence.
use Rattle.std.proofs.Common.{◌≡◌, ℕ, zero, suc, ◌+◌, ◌<◌, ◌≤◌, ◌⊎◌, inl, inr, List, [], ◌∷◌, ◌++◌, Option, None, Some}
use Rattle.std.proofs.Common.{refl, ap, sym, ◌∙◌, subst, arith, length, take, position, append_assoc, length-append}
use Rattle.std.specs.Prelude.{slice_get}
use Rattle.std.specs.Str.{bytes_eq}
use Rattle.std.proofs.lemmas.List.{append-nil, take_more}
use Rattle.std.proofs.lemmas.Option.{slice_get_within, get_or_from_slice_get}
use Rattle.term_core.specs.Tree.{Tree, Trees, var, app, none, some}
use Rattle.spec_core.specs.Sig.{Sig, names_of}
use Rattle.spec_core.specs.Declarations.{IsNewName, AreNewNames}
use Rattle.term_core.specs.Variables.{Numbered, NumberedAll}
use Rattle.spec_grammar.specs.RawTree.{RawTree, RawTrees, word, none as no_raws, some as more_raws, raw_trees}
use Rattle.sort_check.specs.Terms.{TermStands, TermsStand}
use Rattle.sort_check.specs.Occurrence.{with_name, after_word, names_after, names_after_all}
use Rattle.sort_check.proofs.Names.{new_not, place_is, no_place, one_place, get_take, take_get, new_names_and_one}

-- whether a name has a place
pub placed : (name : List ℕ) (names : List (List ℕ)) →
    ((i : ℕ) × (position (bytes_eq name) names ≡ Some i) × (slice_get names i ≡ Some name))
    ⊎ ((position (bytes_eq name) names ≡ None) × IsNewName name names)
placed name names = by (position (bytes_eq name) names) refl
  where
    by : (o : Option ℕ) → position (bytes_eq name) names ≡ o →
        ((i : ℕ) × (position (bytes_eq name) names ≡ Some i) × (slice_get names i ≡ Some name))
        ⊎ ((position (bytes_eq name) names ≡ None) × IsNewName name names)
    by (Some i) e = inl (i, e, place_is name names i e)
    by None e = inr (e, no_place name names e)

-- places of a list and of its beginning
get_append : (xs ys : List (List ℕ)) (i : ℕ) (x : List ℕ) → slice_get xs i ≡ Some x → slice_get (xs ++ ys) i ≡ Some x
get_append [] ys i x at = let q : None ≡ Some x = at in absurd (cc)
get_append (a ∷ xs) ys zero x at = at
get_append (a ∷ xs) ys (suc i) x at = get_append xs ys i x at

get_last : (xs : List (List ℕ)) (x : List ℕ) (ys : List (List ℕ)) →
    slice_get ((xs ++ x ∷ []) ++ ys) (length xs) ≡ Some x
get_last [] x ys = refl
get_last (a ∷ xs) x ys = get_last xs x ys

take_next : (xs : List (List ℕ)) (k : ℕ) (x : List ℕ) → slice_get xs k ≡ Some x → take k xs ++ x ∷ [] ≡ take (k + 1) xs
take_next xs k x at = sym (take_more xs k x (slice_get_within xs k x at)
    ∙ ap (λ y. take k xs ++ y ∷ []) (get_or_from_slice_get xs k x x at))

module _ (sig : Sig) where
  -- the names grow at the end
  grows_name : (seen : List (List ℕ)) (name : List ℕ) (o : Option ℕ) → (more : List (List ℕ))
      × (with_name seen name o ≡ seen ++ more)
  grows_name seen name (Some i) = ([], sym (append-nil seen))
  grows_name seen name None = (name ∷ [], refl)

  grows_word : (seen : List (List ℕ)) (name : List ℕ) (after : List (List ℕ)) → (more : List (List ℕ))
      × (after ≡ seen ++ more) → (o : Option ℕ) → (more : List (List ℕ)) × (after_word seen name after o ≡ seen ++ more)
  grows_word seen name after h (Some f) = h
  grows_word seen name after h None = grows_name seen name (position (bytes_eq name) seen)

  mutual
    pub grows : (seen : List (List ℕ)) (raw : RawTree) → (more : List (List ℕ))
        × (names_after sig seen raw ≡ seen ++ more)
    grows seen (word name at raws) = grows_word seen name (names_after_all sig seen raws) (grows_all seen raws)
        (position (bytes_eq name) (names_of sig))

    pub grows_all : (seen : List (List ℕ)) (raws : RawTrees) → (more : List (List ℕ))
        × (names_after_all sig seen raws ≡ seen ++ more)
    grows_all seen no_raws = ([], sym (append-nil seen))
    grows_all seen (more_raws raw raws) =
        let a = grows seen raw in
        let b = grows_all (names_after sig seen raw) raws in
        (a.0 ++ b.0, b.1 ∙ ap (λ ns. ns ++ b.0) a.1 ∙ append_assoc seen a.0 b.0)

  pub longer_all : (seen : List (List ℕ)) (raws : RawTrees) → length seen ≤ length (names_after_all sig seen raws)
  longer_all seen raws = let g = grows_all seen raws in omega (arith, ap (λ ns. length ns) g.1, length-append seen g.0)

  pub more_all : (seen : List (List ℕ)) (raws others : List RawTree) (raw : RawTree) → raws ≡ raw ∷ others →
      16 < length (names_after sig seen raw) → 16 < length (names_after_all sig seen (raw_trees raws))
  more_all seen raws others raw is many = subst (λ rs. 16 < length (names_after_all sig seen (raw_trees rs)))
      (sym is) (omega (arith, longer_all (names_after sig seen raw) (raw_trees others)))

  -- the names stay distinct
  distinct_name : (seen : List (List ℕ)) (name : List ℕ) → AreNewNames [] seen → (o : Option ℕ) →
      position (bytes_eq name) seen ≡ o → AreNewNames [] (with_name seen name o)
  distinct_name seen name all (Some i) e = all
  distinct_name seen name all None e = new_names_and_one [] seen name all (no_place name seen e)

  distinct_word : (seen : List (List ℕ)) (name : List ℕ) (after : List (List ℕ)) → AreNewNames [] seen →
      AreNewNames [] after → (o : Option ℕ) → AreNewNames [] (after_word seen name after o)
  distinct_word seen name after all h (Some f) = h
  distinct_word seen name after all h None = distinct_name seen name all (position (bytes_eq name) seen) refl

  mutual
    pub distinct_after : (seen : List (List ℕ)) (raw : RawTree) → AreNewNames [] seen →
        AreNewNames [] (names_after sig seen raw)
    distinct_after seen (word name at raws) all = distinct_word seen name (names_after_all sig seen raws) all
        (distinct_after_all seen raws all) (position (bytes_eq name) (names_of sig))

    pub distinct_after_all : (seen : List (List ℕ)) (raws : RawTrees) → AreNewNames [] seen →
        AreNewNames [] (names_after_all sig seen raws)
    distinct_after_all seen no_raws all = all
    distinct_after_all seen (more_raws raw raws) all = distinct_after_all (names_after sig seen raw) raws
        (distinct_after seen raw all)

  -- what a word adds, if it is a symbol and if it is none
  symbol_word : (seen : List (List ℕ)) (name : List ℕ) (after : List (List ℕ)) (f : ℕ) →
      slice_get (names_of sig) f ≡ Some name →
      after_word seen name after (position (bytes_eq name) (names_of sig)) ≡ after
  symbol_word seen name after f found = elim (placed name (names_of sig)) [
    | inl h ↦ ap (λ o. after_word seen name after o) h.1
    | inr h ↦ absurd (new_not name (names_of sig) f h.1 found)
  ]

  other_word : (seen : List (List ℕ)) (name : List ℕ) (after : List (List ℕ)) → IsNewName name (names_of sig) →
      after_word seen name after (position (bytes_eq name) (names_of sig)) ≡ with_name seen name
      (position (bytes_eq name) seen)
  other_word seen name after new = elim (placed name (names_of sig)) [
    | inl h ↦ absurd (new_not name (names_of sig) h.0 new h.2)
    | inr h ↦ ap (λ o. after_word seen name after o) h.0
  ]

  -- a term over names that begin with these, numbered by first occurrence, goes through its names
  module _ (names : List (List ℕ)) (different : AreNewNames [] names) where
    at_variable : (k n m : ℕ) (name : List ℕ) → slice_get names n ≡ Some name →
        ((n < k) × (m ≡ k)) ⊎ ((n ≡ k) × (m ≡ k + 1)) →
        with_name (take k names) name (position (bytes_eq name) (take k names)) ≡ take m names
    at_variable k n m name at (inl h) = elim (placed name (take k names)) [
      | inl p ↦ ap (λ o. with_name (take k names) name o) p.1 ∙ ap (λ j. take j names) (sym h.1)
      | inr p ↦ absurd (new_not name (take k names) n p.1 (get_take names k n name h.0 at))
    ]
    at_variable k n m name at (inr h) = elim (placed name (take k names)) [
      | inl p ↦
          let r = take_get names k p.0 name p.2 in
          let lt : p.0 < k = r.0 in
          let e : p.0 ≡ n = one_place [] names p.0 n name different r.1 at in
          absurd (omega arith)
      | inr p ↦ ap (λ o. with_name (take k names) name o) p.0
          ∙ take_next names k name (ap (λ j. slice_get names j) (sym h.0) ∙ at) ∙ ap (λ j. take j names) (sym h.1)
    ]

    mutual
      pub through : (raw : RawTree) (t : Tree) (k m : ℕ) → TermStands sig names raw t → Numbered k t m →
          names_after sig (take k names) raw ≡ take m names
      through (word name at raws) (var n) k m p q = other_word (take k names) name
          (names_after_all sig (take k names) raws) p.1 ∙ at_variable k n m name p.2 q
      through (word name at raws) (app f ts) k m p q = symbol_word (take k names) name
          (names_after_all sig (take k names) raws) f p.0 ∙ through_all raws ts k m p.1 q

      pub through_all : (raws : RawTrees) (ts : Trees) (k m : ℕ) → TermsStand sig names raws ts →
          NumberedAll k ts m → names_after_all sig (take k names) raws ≡ take m names
      through_all no_raws none k m p q = ap (λ j. take j names) (sym q)
      through_all (more_raws r rs) (some t ts) k m p q = ap (λ ns. names_after_all sig ns rs)
          (through r t k q.0 p.0 q.1) ∙ through_all rs ts q.0 m p.1 q.2
      through_all no_raws (some t ts) k m p q = absurd p
      through_all (more_raws r rs) none k m p q = absurd p

    -- and a term over the names that it goes through is numbered by first occurrence
    number_at : (seen more : List (List ℕ)) (n : ℕ) (name : List ℕ) → slice_get names n ≡ Some name →
        with_name seen name (position (bytes_eq name) seen) ++ more ≡ names →
        ((n < length seen) × (length (with_name seen name (position (bytes_eq name) seen)) ≡ length seen))
        ⊎ ((n ≡ length seen) × (length (with_name seen name (position (bytes_eq name) seen)) ≡ length seen + 1))
    number_at seen more n name at is = elim (placed name seen) [
      | inl p ↦
          let w : with_name seen name (position (bytes_eq name) seen) ≡ seen = ap (λ o. with_name seen name o) p.1 in
          let whole : seen ++ more ≡ names = ap (λ ns. ns ++ more) (sym w) ∙ is in
          let e : p.0 ≡ n = one_place [] names p.0 n name different (ap (λ ns. slice_get ns p.0) (sym whole)
          ∙ get_append seen more p.0 name p.2) at in
          let lt : p.0 < length seen = slice_get_within seen p.0 name p.2 in
          inl (omega arith, ap (λ ns. length ns) w)
      | inr p ↦
          let w : with_name seen name (position (bytes_eq name) seen) ≡ seen
          ++ name ∷ [] = ap (λ o. with_name seen name o) p.0 in
          let whole : (seen ++ name ∷ []) ++ more ≡ names = ap (λ ns. ns ++ more) (sym w) ∙ is in
          let e : length seen ≡ n = one_place [] names (length seen) n name different
          (ap (λ ns. slice_get ns (length seen)) (sym whole) ∙ get_last seen name more) at in
          inr (sym e, ap (λ ns. length ns) w ∙ length-append seen (name ∷ []))
    ]

    mutual
      pub numbered : (raw : RawTree) (t : Tree) (seen more : List (List ℕ)) → TermStands sig names raw t →
          names_after sig seen raw ++ more ≡ names → Numbered (length seen) t (length (names_after sig seen raw))
      numbered (word name at raws) (var n) seen more p is =
          let w : names_after sig seen (word name at raws) ≡ with_name seen name
          (position (bytes_eq name) seen) = other_word seen name (names_after_all sig seen raws) p.1 in
          subst (λ ns. Numbered (length seen) (var n) (length ns)) (sym w)
          (number_at seen more n name p.2 (ap (λ ns. ns ++ more) (sym w) ∙ is))
      numbered (word name at raws) (app f ts) seen more p is =
          let w : names_after sig seen (word name at raws) ≡ names_after_all sig seen raws = symbol_word seen
          name (names_after_all sig seen raws) f p.0 in
          subst (λ ns. NumberedAll (length seen) ts (length ns)) (sym w)
          (numbered_all raws ts seen more p.1 (ap (λ ns. ns ++ more) (sym w) ∙ is))

      pub numbered_all : (raws : RawTrees) (ts : Trees) (seen more : List (List ℕ)) →
          TermsStand sig names raws ts → names_after_all sig seen raws ++ more ≡ names →
          NumberedAll (length seen) ts (length (names_after_all sig seen raws))
      numbered_all no_raws none seen more p is = refl
      numbered_all (more_raws r rs) (some t ts) seen more p is =
          let g = grows_all (names_after sig seen r) rs in
          let here : names_after sig seen r
          ++ (g.0 ++ more) ≡ names = sym (append_assoc (names_after sig seen r) g.0 more)
          ∙ ap (λ ns. ns ++ more) (sym g.1) ∙ is in (
            length (names_after sig seen r),
            numbered r t seen (g.0 ++ more) p.0 here,
            numbered_all rs ts (names_after sig seen r) more p.1 is,
          )
      numbered_all no_raws (some t ts) seen more p is = absurd p
      numbered_all (more_raws r rs) none seen more p is = absurd p
