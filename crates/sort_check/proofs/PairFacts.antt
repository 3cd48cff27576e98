-- The equations of two variables, by their numbers.
use Rattle.std.proofs.Common.{◌≡◌, ◌<◌, List, [], ◌∷◌, Option, Some, None, inl, inr, refl, ap, sym, ◌∙◌, subst, arith}
use Rattle.std.proofs.Common.{length}
use Rattle.std.specs.List.{AllByRecursion}
use Rattle.std.specs.Prelude.{unwrap_or}
use Rattle.std.specs.Str.{bytes_eq}
use Rattle.std.proofs.lemmas.List.{length-map}
use Rattle.std.proofs.lemmas.List.Quantifiers.{position-Some}
use Rattle.term_core.specs.declared.ids.SortId.{SortId}
use Rattle.term_core.proofs.Members.{In}
use Rattle.spec_core.specs.Sig.{Sig}
use Rattle.spec_grammar.specs.RawTree.{RawTree, word}
use Rattle.spec_grammar.specs.declared.raw.RawEq.{RawEq}
use Rattle.sort_check.specs.Entries.{entry_named, known_sorts}
use Rattle.sort_check.specs.GoalTests.{own_sort, number_of, place_of, with_pair, pair_of, pairs_in, after_opposed}
use Rattle.sort_check.specs.GoalTests.{after_opposite, opposed_by}
use Rattle.sort_check.specs.Parts.{root_name, IsWithin, IsFound, AreFound}
use Rattle.sort_check.specs.declared.entries.Entry.{Entry}
use Rattle.sort_check.specs.declared.entries.Pair.{Pair}
use Rattle.sort_check.proofs.Growth.{KeepsNames, Keeps, extends_self, extends_both, extends, keeps, named_stays}

number_is : (es : List Entry) (r : RawTree) → number_of es r ≡ unwrap_or (entry_named es (root_name r)) 0
number_is es (word name at args) = refl

module _ (sig : Sig) where
  opposed_extends_by : (es : List Entry) (e : RawEq) (a b : Option SortId) → KeepsNames es (after_opposed sig es e a b)
  opposed_extends_by es e (Some s) None = extends sig es e.right (Some s)
  opposed_extends_by es e None (Some s) = extends sig es e.left (Some s)
  opposed_extends_by es e (Some s) (Some u) = extends_self es
  opposed_extends_by es e None None = extends_self es

  opposed_keeps_by : (es : List Entry) (e : RawEq) (a b : Option SortId) → Keeps es (after_opposed sig es e a b)
  opposed_keeps_by es e (Some s) None = keeps sig es e.right (Some s)
  opposed_keeps_by es e None (Some s) = keeps sig es e.left (Some s)
  opposed_keeps_by es e (Some s) (Some u) = λ n v h. h
  opposed_keeps_by es e None None = λ n v h. h

  -- equations of a variable and a term keep the variables, and their sorts
  pub opposed_extends : (es : List Entry) (eqs : List RawEq) → KeepsNames es (opposed_by sig es eqs)
  opposed_extends es [] = extends_self es
  opposed_extends es (e ∷ eqs) = extends_both es (after_opposite sig es e)
      (opposed_by sig (after_opposite sig es e) eqs)
      (opposed_extends_by es e (own_sort sig e.left) (own_sort sig e.right))
      (opposed_extends (after_opposite sig es e) eqs)

  pub opposed_keeps : (es : List Entry) (eqs : List RawEq) → Keeps es (opposed_by sig es eqs)
  opposed_keeps es [] n s h = h
  opposed_keeps es (e ∷ eqs) n s h = opposed_keeps (after_opposite sig es e) eqs n s
      (opposed_keeps_by es e (own_sort sig e.left) (own_sort sig e.right) n s h)

  -- what is found stays found
  pub found_more : (es fs : List Entry) → KeepsNames es fs → (eqs : List RawEq) →
      AllByRecursion (AreFound sig es) eqs → AllByRecursion (AreFound sig fs) eqs
  found_more es fs x [] h = tt
  found_more es fs x (e ∷ eqs) h = ((side e.left h.0.0, side e.right h.0.1), found_more es fs x eqs h.1)
    where
      side : (r : RawTree) → IsFound sig es r → IsFound sig fs r
      side r f o = let n = f o in (n.0, named_stays es fs (root_name r) n.0 x n.1)

  side_within : (es : List Entry) (r : RawTree) → IsFound sig es r → own_sort sig r ≡ None →
      number_of es r < length (known_sorts es)
  side_within es r f o =
      let n = f o in
      let p = position-Some (λ (e : Entry). bytes_eq (root_name r) e.name) es n.0
      (record { name = []; at = 0; sort = None }) n.1 in
      let k : number_of es r ≡ n.0 = number_is es r ∙ ap (λ x. unwrap_or x 0) n.1 in
      omega (arith, k, p.0, length-map es (λ (e : Entry). e.sort))

  pub pairs_within : (es : List Entry) (eqs : List RawEq) → AllByRecursion (AreFound sig es) eqs →
      AllByRecursion (IsWithin (known_sorts es)) (pairs_in sig es eqs)
  pairs_within es [] h = tt
  pairs_within es (e ∷ eqs) h = by (own_sort sig e.left) (own_sort sig e.right) refl refl (pairs_within es eqs h.1)
    where
      by : (a b : Option SortId) → own_sort sig e.left ≡ a → own_sort sig e.right ≡ b →
          AllByRecursion (IsWithin (known_sorts es)) (pairs_in sig es eqs) →
          AllByRecursion (IsWithin (known_sorts es)) (with_pair (pair_of sig es e a b) (pairs_in sig es eqs))
      by None None p q rest = ((side_within es e.left h.0.0 p, side_within es e.right h.0.1 q), rest)
      by (Some s) b p q rest = rest
      by None (Some s) p q rest = rest

  -- each equation of two variables is one of them
  pub pair_in : (es : List Entry) (eqs : List RawEq) (e : RawEq) → In e eqs → own_sort sig e.left ≡ None →
      own_sort sig e.right ≡ None →
      In (record { left = number_of es e.left; right = number_of es e.right; at = place_of e.right })
      (pairs_in sig es eqs)
  pair_in es [] e i p q = absurd i
  pair_in es (d ∷ eqs) e (inl same) p q =
      let a : own_sort sig d.left ≡ None = ap (λ (x : RawEq). own_sort sig x.left) (sym same) ∙ p in
      let b : own_sort sig d.right ≡ None = ap (λ (x : RawEq). own_sort sig x.right) (sym same) ∙ q in
      let pair : RawEq → Pair = λ x. record {
        left = number_of es x.left;
        right = number_of es x.right;
        at = place_of x.right;
      } in
      let Q : Option SortId → Option SortId →
      Type 0 = λ x y. In (pair e) (with_pair (pair_of sig es d x y) (pairs_in sig es eqs)) in
      subst (λ x. Q x (own_sort sig d.right)) (sym a) (subst (λ y. Q None y) (sym b) (inl (ap pair same)))
  pair_in es (d ∷ eqs) e (inr i) p q = by (pair_of sig es d (own_sort sig d.left) (own_sort sig d.right))
      (pair_in es eqs e i p q)
    where
      by : (o : Option Pair) →
          In (record { left = number_of es e.left; right = number_of es e.right; at = place_of e.right })
          (pairs_in sig es eqs) →
          In (record { left = number_of es e.left; right = number_of es e.right; at = place_of e.right })
          (with_pair o (pairs_in sig es eqs))
      by (Some p) i = inr i
      by None i = i

  -- and each of them is an equation of two variables
  pub pair_from : (es : List Entry) (eqs : List RawEq) (p : Pair) → In p (pairs_in sig es eqs) →
      (e : RawEq) × In e eqs × (own_sort sig e.left ≡ None) × (own_sort sig e.right ≡ None)
      × (p.left ≡ number_of es e.left) × (p.right ≡ number_of es e.right)
  pair_from es [] p i = absurd i
  pair_from es (e ∷ eqs) p i = by (own_sort sig e.left) (own_sort sig e.right) refl refl i (λ j. pair_from es eqs p j)
    where
      Found : List RawEq → Type 0
      Found ds = (d : RawEq) × In d ds × (own_sort sig d.left ≡ None) × (own_sort sig d.right ≡ None)
          × (p.left ≡ number_of es d.left) × (p.right ≡ number_of es d.right)

      later : Found eqs → Found (e ∷ eqs)
      later r = (r.0, inr r.1, r.2, r.3, r.4, r.5)

      by : (a b : Option SortId) → own_sort sig e.left ≡ a → own_sort sig e.right ≡ b →
          In p (with_pair (pair_of sig es e a b) (pairs_in sig es eqs)) →
          (In p (pairs_in sig es eqs) → Found eqs) → Found (e ∷ eqs)
      by None None x y (inl is) rest = (e, inl refl, x, y, ap (λ (q : Pair). q.left) is, ap (λ (q : Pair). q.right) is)
      by None None x y (inr j) rest = later (rest j)
      by (Some s) b x y j rest = later (rest j)
      by None (Some s) x y j rest = later (rest j)
