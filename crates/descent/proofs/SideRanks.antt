-- Ranks of the sides of a clause under values: there are some, they are unique, and without two sides the weight is less.
use Rattle.std.proofs.Common.{◌≡◌, ℕ, List, [], ◌∷◌, ◌++◌, refl, sym, ◌∙◌, subst, arith, length, append_assoc}
use Rattle.std.specs.Prelude.{IsPermutation}
use Rattle.std.specs.List.{AllByRecursion}
use Rattle.std.proofs.lemmas.List.{append-nil}
use Rattle.std.proofs.lemmas.List.Sorted.{IsPermutation-refl, IsPermutation-append_comm, IsPermutation-append_right}
use Rattle.term_core.specs.declared.ids.SortId.{SortId}
use Rattle.term_core.specs.Tree.{Tree, var, instance}
use Rattle.term_core.proofs.Items.{all_append}
use Rattle.spec_core.specs.declared.records.Equation.{Equation}
use Rattle.spec_core.specs.declared.records.Spec.{Spec}
use Rattle.spec_core.specs.Sorts.{Sorted}
use Rattle.spec_core.specs.Truth.{AreValuesOf}
use Rattle.spec_core.specs.WellSorted.{IsWellSorted}
use Rattle.spec_core.proofs.Instances.{sorted_instance}
use Rattle.term_order.specs.Laws.{HasRanks}
use Rattle.clause_core.specs.declared.clauses.Clause.{Clause}
use Rattle.clause_core.specs.Clauses.{sides_of, sides, ClauseIsSorted}
use Rattle.clause_core.specs.Ranks.{IsGround}
use Rattle.descent.specs.Weights.{AreRanks, IsHeavier}
use Rattle.descent.specs.WeightLaws.{ClausesHaveOneWeight}
use Rattle.descent.proofs.GroundTerms.{sorted_ground}
use Rattle.descent.proofs.SortedEquations.{Each, each_sorted}
use Rattle.descent.proofs.Closers.{value_of}

-- the instance by values is ground
abbrev pub Grounded : Spec → List Tree → Tree → Type 0
Grounded spec xs t = IsGround spec (instance xs t)

-- sorted sides are ground under values
pub grounded_sides : (spec : Spec) → IsWellSorted spec → (ctx : List SortId) (xs : List Tree) →
    AreValuesOf spec ctx xs → (es : List Equation) → Each spec.sig ctx es →
    AllByRecursion (Grounded spec xs) (sides_of es)
grounded_sides spec fine ctx xs values [] h = tt
grounded_sides spec fine ctx xs values (e ∷ es) h = (
  one e.left h.0.0 h.0.1,
  (one e.right h.0.0 h.0.2, grounded_sides spec fine ctx xs values es h.1),
)
  where
    one : (t : Tree) (s : SortId) → Sorted spec.sig ctx t s → Grounded spec xs t
    one t s p = sorted_ground spec.sig fine.arities (instance xs t) s
        (sorted_instance spec.sig ctx t s xs p (λ n u at. (value_of spec ctx xs values n u at (var n)).0))

pub clause_grounded : (spec : Spec) → IsWellSorted spec → (c : Clause) → ClauseIsSorted spec.sig c →
    (xs : List Tree) → AreValuesOf spec c.ctx xs → AllByRecursion (Grounded spec xs) (sides c)
clause_grounded spec fine c sorted xs values =
    all_append (Grounded spec xs) (sides_of c.premises) (sides_of c.conclusions)
    (grounded_sides spec fine c.ctx xs values c.premises (each_sorted spec.sig c.ctx c.premises sorted.premises))
    (grounded_sides spec fine c.ctx xs values c.conclusions
    (each_sorted spec.sig c.ctx c.conclusions sorted.conclusions))

-- a list that is a part of another, with two members less
removed : (a b : List ℕ) (p q : ℕ) → IsHeavier (a ++ (p ∷ (q ∷ b))) (a ++ b)
removed a b p q = record {
  rest = p ∷ q ∷ [];
  other = [];
  rests = record {
    common = a ++ b;
    of_first = subst (λ zs. IsPermutation (a ++ (p ∷ (q ∷ b))) zs) (sym (append_assoc a b (p ∷ (q ∷ []))))
        (IsPermutation-append_right a (p ∷ (q ∷ b)) (b ++ (p ∷ (q ∷ []))) (IsPermutation-append_comm (p ∷ (q ∷ [])) b));
    of_second = subst (λ zs. IsPermutation (a ++ b) zs) (sym (append-nil (a ++ b))) (IsPermutation-refl (a ++ b));
    apart = λ x i j. omega (arith, j.1);
  };
  not_empty = omega arith;
  has_greater = λ y j. absurd (omega (arith, j.1));
}

module _ (above : Tree → Tree → Type 0) (rank : ℕ → ℕ → Tree → ℕ → Type 0) (laws : HasRanks above rank)
    (spec : Spec) (xs : List Tree) where
  pub ranks_one : (ts : List Tree) → AllByRecursion (Grounded spec xs) ts → (w v : List ℕ) →
      AreRanks rank spec xs ts w → AreRanks rank spec xs ts v → w ≡ v
  ranks_one [] g [] [] p q = refl
  ranks_one [] g [] (r ∷ v) p q = absurd q
  ranks_one [] g (r ∷ w) v p q = absurd p
  ranks_one (t ∷ ts) g [] v p q = absurd p
  ranks_one (t ∷ ts) g (r ∷ w) [] p q = absurd q
  ranks_one (t ∷ ts) g (r ∷ w) (s ∷ v) p q =
      let e : r ≡ s = laws.one_rank (length spec.sig.table) 100 (instance xs t) r s (omega arith) g.0 p.0 q.0 in
      let f : w ≡ v = ranks_one ts g.1 w v p.1 q.1 in
      λ i. e i ∷ f i

  -- ground terms have ranks
  pub some_ranks : (ts : List Tree) → AllByRecursion (Grounded spec xs) ts → (w : List ℕ) × AreRanks rank spec xs ts w
  some_ranks [] g = ([], tt)
  some_ranks (t ∷ ts) g =
      let a = laws.some_rank (length spec.sig.table) 100 (instance xs t) (omega arith) g.0 in
      let b = some_ranks ts g.1 in
      (a.0 ∷ b.0, (a.1, b.1))

  -- the ranks of two lists, one after the other
  pub ranks_split : (ts us : List Tree) (w : List ℕ) → AreRanks rank spec xs (ts ++ us) w →
      (a : List ℕ) × (b : List ℕ) × (w ≡ a ++ b) × AreRanks rank spec xs ts a × AreRanks rank spec xs us b
  ranks_split [] us w p = ([], w, refl, tt, p)
  ranks_split (t ∷ ts) us [] p = absurd p
  ranks_split (t ∷ ts) us (r ∷ w) p = let q = ranks_split ts us w p.1 in
      (r ∷ q.0, q.1, (let e : w ≡ q.0 ++ q.1 = q.2 in λ i. r ∷ e i), (p.0, q.3), q.4)

  -- without two of the sides the weight is less
  pub two_removed : (before after : List Tree) (l r : Tree) → AllByRecursion (Grounded spec xs) before →
      AllByRecursion (Grounded spec xs) after → (w v : List ℕ) →
      AreRanks rank spec xs (before ++ (l ∷ (r ∷ after))) w → AreRanks rank spec xs (before ++ after) v → IsHeavier w v
  two_removed before after l r ga gb w v p q = by (ranks_split before (l ∷ (r ∷ after)) w p)
      (ranks_split before after v q)
    where
      by : ((a : List ℕ) × (b : List ℕ) × (w ≡ a ++ b) × AreRanks rank spec xs before a
          × AreRanks rank spec xs (l ∷ (r ∷ after)) b) →
          ((a : List ℕ) × (b : List ℕ) × (v ≡ a ++ b) × AreRanks rank spec xs before a
          × AreRanks rank spec xs after b) → IsHeavier w v
      by (a, [], e, pa, pb) (c, d, f, qa, qb) = absurd pb
      by (a, m ∷ [], e, pa, pb) (c, d, f, qa, qb) = absurd pb.1
      by (a, m ∷ (n ∷ b), e, pa, pb) (c, d, f, qa, qb) =
          let h : a ≡ c = ranks_one before ga a c pa qa in
          let k : b ≡ d = ranks_one after gb b d pb.1.1 qb in
          let g : v ≡ a ++ b = f ∙ (λ i. sym h i ++ sym k i) in
          subst (λ z. IsHeavier z v) (sym e) (subst (λ z. IsHeavier (a ++ (m ∷ (n ∷ b))) z) (sym g) (removed a b m n))

-- a sorted clause has one weight under values
pub one_weight : (above : Tree → Tree → Type 0) (rank : ℕ → ℕ → Tree → ℕ → Type 0) → HasRanks above rank →
    ClausesHaveOneWeight rank
one_weight above rank laws spec fine c sorted xs values =
    let g = clause_grounded spec fine c sorted xs values in
    let w = some_ranks above rank laws spec xs (sides c) g in
    record { weight = w.0; is_weight = w.1; alone = λ v p. ranks_one above rank laws spec xs (sides c) g w.0 v w.1 p }
