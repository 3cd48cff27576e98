-- Both sides of each equation of a goal have one sort if nothing is found.
use Rattle.std.proofs.Common.{◌≡◌, ◌<◌, ℕ, List, [], ◌∷◌, Option, Some, None, option_map, inl, inr, refl, ap, sym, ◌∙◌}
use Rattle.std.proofs.Common.{subst, arith, length}
use Rattle.std.specs.List.{AllByRecursion, AllZip}
use Rattle.std.specs.Prelude.{unwrap_or}
use Rattle.std.specs.Str.{bytes_eq}
use Rattle.std.proofs.lemmas.List.{length-map}
use Rattle.std.proofs.lemmas.List.Quantifiers.{position-Some}
use Rattle.term_core.specs.Tree.{Tree, var, app}
use Rattle.term_core.specs.declared.ids.SortId.{SortId}
use Rattle.term_core.proofs.Members.{In}
use Rattle.spec_core.specs.declared.records.Equation.{Equation}
use Rattle.spec_core.specs.Sig.{Sig}
use Rattle.spec_core.specs.Sorts.{Sorted}
use Rattle.spec_core.specs.WellSorted.{sorts_of}
use Rattle.spec_core.specs.Findings.{Clean}
use Rattle.spec_grammar.specs.RawTree.{RawTree, word}
use Rattle.spec_grammar.specs.declared.raw.RawEq.{RawEq}
use Rattle.sort_check.specs.Entries.{entry_named, known_sorts, sort_at}
use Rattle.sort_check.specs.Words.{info_at, entries_after}
use Rattle.sort_check.specs.GoalTests.{own_sort, wanted, number_of, in_turn, left_by, sides_tests, after_sides}
use Rattle.sort_check.specs.GoalTests.{opposed_tests, opposite_tests, after_opposed, after_opposite, opposed_by}
use Rattle.sort_check.specs.GoalTests.{rounds, inferred, sorts_tests, pairs_in}
use Rattle.sort_check.specs.Over.{IsOver, IsEquationOver, variables_of}
use Rattle.sort_check.specs.Parts.{root_name, AreFound}
use Rattle.sort_check.specs.declared.entries.Entry.{Entry}
use Rattle.sort_check.specs.declared.faults.SortKind.TheVariants.{WrongSort}
use Rattle.sort_check.specs.declared.faults.Part.TheVariants.{Goal}
use Rattle.sort_check.proofs.Growth.{KeepsNames, Keeps, extends_self, extends_both, extends, keeps}
use Rattle.sort_check.proofs.Facts.{HasSorts, facts}
use Rattle.sort_check.proofs.SortedVariables.{sorts_are, clean_sorted}
use Rattle.sort_check.proofs.Sides.{after_keeps, equations_more}
use Rattle.sort_check.proofs.ClauseLists.{all_extend}
use Rattle.sort_check.proofs.RoundLaws.{rounds_keep, rounds_long, rounds_same}
use Rattle.sort_check.proofs.PairFacts.{opposed_extends, opposed_keeps, pairs_within, pair_in}

-- a side that is a variable, as a term
module _ (sig : Sig) (es : List Entry) where
  abbrev pub IsVar : RawTree → Tree → Type 0
  IsVar r t = (m : ℕ) × (t ≡ var m) × (entry_named es (root_name r) ≡ Some m) × (number_of es r ≡ m)

  pub var_of : (r : RawTree) (t : Tree) → IsOver sig es r t → own_sort sig r ≡ None → IsVar r t
  var_of (word name at args) (var m) h o = (m, refl, h.2, ap (λ x. unwrap_or x 0) h.2)
  var_of (word name at args) (app f ts) h o = absurd
      (let z : Some (info_at sig f).result ≡ None = ap (λ x. option_map (λ g. (info_at sig g).result) x)
      (sym h.0) ∙ o in cc)

  -- if equations stand for others, their variables are found
  pub all_found : (eqs : List RawEq) (ts : List Equation) → AllZip (IsEquationOver sig es) eqs ts →
      AllByRecursion (AreFound sig es) eqs
  all_found [] [] p = tt
  all_found (e ∷ eqs) [] p = absurd p
  all_found [] (t ∷ ts) p = absurd p
  all_found (e ∷ eqs) (t ∷ ts) p = (
    (
      (λ o. let v = var_of e.left t.left p.0.0 o in (v.0, v.2)),
      (λ o. let v = var_of e.right t.right p.0.1 o in (v.0, v.2)),
    ),
    all_found eqs ts p.1,
  )

module _ (sig : Sig) where
  pub all_keep : (es : List Entry) (eqs : List RawEq) → Keeps es (left_by (after_sides sig) es eqs)
  all_keep es [] n s h = h
  all_keep es (e ∷ eqs) n s h = all_keep (after_sides sig es e) eqs n s (after_keeps sig es e n s h)

  -- the sides of an equation have sorts of their own, and a right side has the left one's
  module _ (ctx : List SortId) where
    pub record OwnSorts (e : RawEq) (t : Equation) : Type 0 where
      pub left : (s : SortId) → own_sort sig e.left ≡ Some s → Sorted sig ctx t.left s
      pub own : (s : SortId) → own_sort sig e.right ≡ Some s → Sorted sig ctx t.right s
      pub right : (s : SortId) → wanted (own_sort sig e.left) (own_sort sig e.right) ≡ Some s → Sorted sig ctx t.right s

    -- a variable has the sort of the term that it is equated to
    pub record OppositeSorts (e : RawEq) (t : Equation) : Type 0 where
      pub right : (s : SortId) → own_sort sig e.left ≡ Some s → own_sort sig e.right ≡ None → Sorted sig ctx t.right s
      pub left : (s : SortId) → own_sort sig e.left ≡ None → own_sort sig e.right ≡ Some s → Sorted sig ctx t.left s

    abbrev pub HasOneSort : Equation → Type 0
    HasOneSort t = (s : SortId) × Sorted sig ctx t.left s × Sorted sig ctx t.right s

    -- two variables have one sort
    abbrev pub PairSorts : RawEq → Equation → Type 0
    PairSorts e t = own_sort sig e.left ≡ None → own_sort sig e.right ≡ None → HasOneSort t

    module _ (final : List Entry) (has : HasSorts final ctx) where
      own_sorts : (es : List Entry) (eqs : List RawEq) (ts : List Equation) →
          Clean (in_turn (sides_tests sig) (after_sides sig) es eqs) →
          KeepsNames (left_by (after_sides sig) es eqs) final → Keeps (left_by (after_sides sig) es eqs) final →
          AllZip (IsEquationOver sig final) eqs ts → AllZip OwnSorts eqs ts
      own_sorts es [] [] c x k p = tt
      own_sorts es (e ∷ eqs) [] c x k p = absurd p
      own_sorts es [] (t ∷ ts) c x k p = absurd p
      own_sorts es (e ∷ eqs) (t ∷ ts) c x k p =
          let mid = entries_after sig es e.left None in
          let end = after_sides sig es e in
          let place = wanted (own_sort sig e.left) (own_sort sig e.right) in
          let x1 = extends_both end (left_by (after_sides sig) end eqs) final (all_extend sig end eqs) x in
          let k1 : Keeps end final = λ n s h. k n s (all_keep end eqs n s h) in
          let x0 = extends_both mid end final (extends sig mid e.right place) x1 in
          let k0 : Keeps mid final = λ n s h. k1 n s (keeps sig mid e.right place n s h) in
          let l = facts sig Goal ctx final has es WrongSort e.left None t.left c.0.0 x0 k0 p.0.0 in
          let r = facts sig Goal ctx final has mid WrongSort e.right place t.right c.0.1 x1 k1 p.0.1 in
          (record { left = l.own; own = r.own; right = r.sorted }, own_sorts end eqs ts c.1 x k p.1)

      opposite_sorts : (es : List Entry) (eqs : List RawEq) (ts : List Equation) →
          Clean (in_turn (opposite_tests sig) (after_opposite sig) es eqs) →
          KeepsNames (opposed_by sig es eqs) final → Keeps (opposed_by sig es eqs) final →
          AllZip (IsEquationOver sig final) eqs ts → AllZip OppositeSorts eqs ts
      opposite_sorts es [] [] c x k p = tt
      opposite_sorts es (e ∷ eqs) [] c x k p = absurd p
      opposite_sorts es [] (t ∷ ts) c x k p = absurd p
      opposite_sorts es (e ∷ eqs) (t ∷ ts) c x k p =
          let end = after_opposite sig es e in
          let x1 = extends_both end (opposed_by sig end eqs) final (opposed_extends sig end eqs) x in
          let k1 : Keeps end final = λ n s h. k n s (opposed_keeps sig end eqs n s h) in
          (by (own_sort sig e.left) (own_sort sig e.right) refl refl c.0 x1 k1, opposite_sorts end eqs ts c.1 x k p.1)
        where
          by : (a b : Option SortId) → own_sort sig e.left ≡ a → own_sort sig e.right ≡ b →
              Clean (opposed_tests sig es e a b) → KeepsNames (after_opposed sig es e a b) final →
              Keeps (after_opposed sig es e a b) final → OppositeSorts e t
          by (Some u) None q r d x k =
              let f = facts sig Goal ctx final has es WrongSort e.right (Some u) t.right d x k p.0.1 in
              record {
                right = λ s i o. f.sorted s (sym q ∙ i);
                left = λ s o i. absurd
                    (let z : Some u ≡ None = sym q ∙ o in cc);
              }
          by None (Some u) q r d x k =
              let f = facts sig Goal ctx final has es WrongSort e.left (Some u) t.left d x k p.0.0 in
              record {
                right = λ s i o. absurd (let z : None ≡ Some s = sym q ∙ i in cc);
                left = λ s o i.
                    f.sorted s (sym r ∙ i);
              }
          by (Some u) (Some v) q r d x k = record {
            right = λ s i o. absurd (let z : Some v ≡ None = sym r
                ∙ o in cc);
            left = λ s o i. absurd (let z : Some u ≡ None = sym q ∙ o in cc);
          }
          by None None q r d x k = record {
            right = λ s i o. absurd (let z : None ≡ Some s = sym q ∙ i in
                cc);
            left = λ s o i. absurd (let z : None ≡ Some s = sym r ∙ i in cc);
          }

    one_sort : (e : RawEq) (t : Equation) → OwnSorts e t → OppositeSorts e t → PairSorts e t → HasOneSort t
    one_sort e t own opposite pair = by (own_sort sig e.left) (own_sort sig e.right) refl refl
      where
        by : (a b : Option SortId) → own_sort sig e.left ≡ a → own_sort sig e.right ≡ b → HasOneSort t
        by (Some s) (Some u) q r = (s, own.left s q, own.right s (λ i. wanted (q i) (r i)))
        by (Some s) None q r = (s, own.left s q, opposite.right s q r)
        by None (Some s) q r = (s, opposite.left s q r, own.own s r)
        by None None q r = pair q r

    all_one_sort : (eqs : List RawEq) (ts : List Equation) → AllZip OwnSorts eqs ts →
        AllZip OppositeSorts eqs ts → AllZip PairSorts eqs ts → AllByRecursion HasOneSort ts
    all_one_sort [] [] a b c = tt
    all_one_sort (e ∷ eqs) [] a b c = absurd a
    all_one_sort [] (t ∷ ts) a b c = absurd a
    all_one_sort (e ∷ eqs) (t ∷ ts) a b c = (one_sort e t a.0 b.0 c.0, all_one_sort eqs ts a.1 b.1 c.1)

  -- of the equations of a goal over variables that are bound
  module _ (es : List Entry) (eqs : List RawEq)
      (clean : Clean (in_turn (sides_tests sig) (after_sides sig) es eqs)) where
    abbrev walked : List Entry
    walked = left_by (after_sides sig) es eqs

    abbrev opposed : List Entry
    opposed = opposed_by sig walked eqs

    abbrev known : List (Option SortId)
    known = inferred sig opposed eqs

    module _ (sorts : Clean (sorts_tests sig walked eqs)) (found : AllByRecursion (AreFound sig opposed) eqs) where
      pub known_long : length known ≡ length opposed
      known_long = rounds_long (rounds opposed) (known_sorts opposed) (pairs_in sig opposed eqs)
          ∙ length-map opposed (λ (e : Entry). e.sort)

      abbrev pub sorts_in : List SortId
      sorts_in = sorts_of (variables_of opposed known)

      pub has_sorts : HasSorts opposed sorts_in
      has_sorts n s h = sorts_are opposed known known_long n s
          (rounds_keep (rounds opposed) (known_sorts opposed) (pairs_in sig opposed eqs) n s h)

      pub all_known : (n : ℕ) → n < length opposed → (s : SortId) × (sort_at known n ≡ Some s)
      all_known = clean_sorted opposed known known_long sorts.1.1

      pair_sorts : (ds : List RawEq) (ts : List Equation) → ((e : RawEq) → In e ds → In e eqs) →
          AllZip (IsEquationOver sig opposed) ds ts → AllZip (PairSorts sorts_in) ds ts
      pair_sorts [] [] i p = tt
      pair_sorts (e ∷ ds) [] i p = absurd p
      pair_sorts [] (t ∷ ts) i p = absurd p
      pair_sorts (e ∷ ds) (t ∷ ts) i p = (
        (λ q r.
            let l = var_of sig opposed e.left t.left p.0.0 q in
            let m = var_of sig opposed e.right t.right p.0.1 r in
            let at = position-Some (λ (v : Entry). bytes_eq (root_name e.left) v.name) opposed l.0
            (record { name = []; at = 0; sort = None }) l.2 in
            let s = all_known l.0 at.0 in
            let same = rounds_same (rounds opposed) (known_sorts opposed) (pairs_in sig opposed eqs)
            (omega arith) (pairs_within sig opposed eqs found) sorts.1.0 _
            (pair_in sig opposed eqs e (i e (inl refl)) q r) in
            let other : sort_at known m.0 ≡ Some s.0 = ap (λ k. sort_at known k) (sym m.3) ∙ sym same
            ∙ ap (λ k. sort_at known k) l.3 ∙ s.1 in (
              s.0,
              subst (λ u. Sorted sig sorts_in u s.0) (sym l.1)
                  (sorts_are opposed known known_long l.0 s.0 s.1),
              subst (λ u. Sorted sig sorts_in u s.0) (sym m.1) (sorts_are opposed known known_long m.0 s.0 other),
            )),
        pair_sorts ds ts (λ d j. i d (inr j)) p.1,
      )

      pub equations_sorted : (ts : List Equation) → AllZip (IsEquationOver sig walked) eqs ts →
          AllByRecursion (HasOneSort sorts_in) ts
      equations_sorted ts p =
          let over = equations_more sig walked opposed (opposed_extends sig walked eqs) eqs ts p in
          let self : KeepsNames opposed opposed = extends_self opposed in
          let own = own_sorts sorts_in opposed has_sorts es eqs ts clean (opposed_extends sig walked eqs)
          (opposed_keeps sig walked eqs) over in
          let opposite = opposite_sorts sorts_in opposed has_sorts walked eqs ts sorts.0 self (λ n s h. h) over in
          all_one_sort sorts_in eqs ts own opposite (pair_sorts eqs ts (λ e i. i) over)
