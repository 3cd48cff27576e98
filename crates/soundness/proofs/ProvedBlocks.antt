-- The first clause of a block that proves it has no failing instance.
use Rattle.std.proofs.Common.{◌≡◌, ℕ, zero, suc, ◌+◌, ◌<◌, List, [], ◌∷◌, ◌++◌, Bool, Some, None, Ok, Err, map, take}
use Rattle.std.proofs.Common.{inl, inr, refl, ap, sym, ◌∙◌, subst, arith, length, length-append, append_assoc}
use Rattle.std.specs.Prelude.{Contains, flat_map, slice_get, sum}
use Rattle.std.specs.List.{AllByRecursion}
use Rattle.std.proofs.lemmas.List.{length-map}
use Rattle.std.proofs.lemmas.List.Sums.{sum-map, sum_by-cons}
use Rattle.std.proofs.lemmas.Option.{slice_get_within}
use Rattle.term_core.specs.Tree.{Tree, instance}
use Rattle.spec_core.specs.declared.records.Spec.{Spec}
use Rattle.spec_core.specs.WellSorted.{IsWellSorted}
use Rattle.term_order.specs.Laws.{HasRanks}
use Rattle.clause_core.specs.declared.clauses.Clause.{Clause}
use Rattle.clause_core.specs.declared.steps.Place.{Place}
use Rattle.clause_core.specs.declared.steps.Step.{Step}
use Rattle.clause_core.specs.declared.steps.Step.TheVariants.{ByLemma, Lemma}
use Rattle.clause_core.specs.declared.answers.Child.{Child}
use Rattle.clause_core.specs.declared.answers.Children.{Children}
use Rattle.clause_core.specs.declared.answers.Why.TheVariants.{NotProvedBefore}
use Rattle.clause_core.specs.Admitted.{IsAdmitted}
use Rattle.clause_core.specs.Clauses.{ClauseIsSorted}
use Rattle.descent.specs.Weights.{AreRanks, IsWeight}
use Rattle.clause_core.specs.Subsuming.{by_lemma_row}
use Rattle.clause_core.specs.Replacing.{lemma_row}
use Rattle.clause_core.specs.Says.{Says}
use Rattle.clause_core.specs.Steps.{row_of}
use Rattle.acceptance.specs.Strict.{first_child}
use Rattle.acceptance.specs.Blocks.{clauses_of, nodes_of, StepMakes, StepsMake, Proves}
use Rattle.clause_core.specs.Failing.{ClauseFails}
use Rattle.descent.specs.Descent.{AreTrue, GoesOn, StepsDescend}
use Rattle.descent.specs.SortedChildren.{NodesAreSorted, ChildrenAreSorted}
use Rattle.descent.proofs.SideRanks.{Grounded}
use Rattle.descent.proofs.Removing.{sides_grounded}
use Rattle.soundness.proofs.NoneFails.{GoesOnTo, none_fails}

get_append : {X : Type 0} (xs ys : List X) (n : ℕ) (x : X) → slice_get xs n ≡ Some x → slice_get (xs ++ ys) n ≡ Some x
get_append [] ys n x e = absurd (let q : None ≡ Some x = e in cc)
get_append (y ∷ xs) ys zero x e = e
get_append (y ∷ xs) ys (suc n) x e = get_append xs ys n x e

get_after : {X : Type 0} (xs ys : List X) (n : ℕ) (x : X) → slice_get ys n ≡ Some x →
    slice_get (xs ++ ys) (length xs + n) ≡ Some x
get_after [] ys n x e = let h : 0 + n ≡ n = omega arith in rw h e
get_after (y ∷ xs) ys n x e = let h : suc (length xs) + n ≡ suc (length xs + n) = omega arith in
    rw h (get_after xs ys n x e)

-- the clauses of children
child_clause : (ds : List Child) (n : ℕ) (d : Child) → slice_get ds n ≡ Some d →
    slice_get (map (λ (x : Child). x.clause) ds) n ≡ Some d.clause
child_clause [] n d e = absurd (let q : None ≡ Some d = e in cc)
child_clause (x ∷ ds) zero d e = let q : Some x ≡ Some d = e in let h : x ≡ d = cc in λ i. Some ((h i).clause)
child_clause (x ∷ ds) (suc n) d e = child_clause ds n d e

module _ (spec : Spec) where
  more_sorted : (nodes : List Clause) (ds : List Child) → NodesAreSorted spec.sig nodes →
      ((i : ℕ) (d : Child) → slice_get ds i ≡ Some d → ClauseIsSorted spec.sig d.clause) →
      NodesAreSorted spec.sig (nodes ++ map (λ (d : Child). d.clause) ds)
  more_sorted [] [] h p j d e = absurd (let q : None ≡ Some d = e in cc)
  more_sorted [] (x ∷ ds) h p zero d e = let q : Some x.clause ≡ Some d = e in let k : x.clause ≡ d = cc in
      subst (λ c. ClauseIsSorted spec.sig c) k (p 0 x refl)
  more_sorted [] (x ∷ ds) h p (suc j) d e = more_sorted [] ds (λ i c q. absurd (let z : None ≡ Some c = q in
      cc)) (λ i c q. p (suc i) c q) j d e
  more_sorted (n ∷ nodes) ds h p zero d e = h zero d e
  more_sorted (n ∷ nodes) ds h p (suc j) d e = more_sorted nodes ds (λ i c q. h (suc i) c q) p j d e

module _ (above : Tree → Tree → Type 0) (spec : Spec) (usable other : ℕ → Type 0) (uses : (n : ℕ) → usable n →
    other n) (nodes : List Clause) (c : Clause) where
  by_lemma_uses : (name : List ℕ) (terms : List Tree) (m : Children) →
      Says above c nodes (by_lemma_row spec c usable name terms) (Ok m) →
      Says above c nodes (by_lemma_row spec c other name terms) (Ok m)
  by_lemma_uses name terms m (inl (l, p)) = inl (
    record {
      number = l.number;
      goal = l.goal;
      is = l.is;
      named = l.named;
      may_be_used = uses l.number
          l.may_be_used;
    },
    p,
  )
  by_lemma_uses name terms m (inr (h, e)) = absurd (let q : Ok m ≡ Err NotProvedBefore = e in cc)

  lemma_uses : (name : List ℕ) (terms : List Tree) (place : Place) (left : Bool) (m : Children) →
      Says above c nodes (lemma_row spec c usable name terms place left) (Ok m) →
      Says above c nodes (lemma_row spec c other name terms place left) (Ok m)
  lemma_uses name terms place left m (inl (l, p)) = inl (
    record {
      number = l.number;
      goal = l.goal;
      is = l.is;
      named = l.named;
      may_be_used = uses l.number
          l.may_be_used;
    },
    p,
  )
  lemma_uses name terms place left m (inr (h, e)) = absurd (let q : Ok m ≡ Err NotProvedBefore = e in cc)

  -- what is made with some goals is made with more
  step_uses : (step : Step) (m : Children) → Says above c nodes (row_of spec usable nodes c step) (Ok m) →
      Says above c nodes (row_of spec other nodes c step) (Ok m)
  step_uses (ByLemma name terms) m p = by_lemma_uses name terms m p
  step_uses (Lemma name terms place left) m p = lemma_uses name terms place left m p
  step_uses step m p = p

module _ (above : Tree → Tree → Type 0) (rank : ℕ → ℕ → Tree → ℕ → Type 0) (laws : HasRanks above rank)
    (descend : StepsDescend above rank) (keep : ChildrenAreSorted above) (spec : Spec)
    (fine : IsWellSorted spec) (admitted : IsAdmitted above spec) (numbers : List ℕ)
    (true_goals : AreTrue spec numbers) (usable : ℕ → Type 0) (uses : (n : ℕ) → usable n → Contains numbers n) where
  -- what the step of node k + i makes, over the nodes before it
  record MadeAt (nodes all : List Clause) (k : ℕ) (made : List Children) (i : ℕ) : Type 0 where
    pub step : Step
    pub m : Children
    pub before : List Clause
    pub listed : slice_get made i ≡ Some m
    pub makes : StepMakes above spec usable before (k + i) step m
    pub sorted : NodesAreSorted spec.sig before
    pub count : length before ≡ length nodes + sum (map (λ (x : Children). length x.clauses) (take i made))
    pub kept : (n : ℕ) (c : Clause) → slice_get before n ≡ Some c → slice_get all n ≡ Some c
    pub children : (n : ℕ) (d : Child) → slice_get m.clauses n ≡ Some d →
        slice_get all (length before + n) ≡ Some d.clause

  sum_more : (m : Children) (ms : List Children) →
      sum (map (λ (x : Children). length x.clauses) (m ∷ ms)) ≡ length m.clauses + sum
      (map (λ (x : Children). length x.clauses) ms)
  sum_more m ms = sum-map (λ (x : Children). length x.clauses) (m ∷ ms)
      ∙ sum_by-cons (λ (x : Children). length x.clauses) m ms
      ∙ ap (λ n. length m.clauses + n) (sym (sum-map (λ (x : Children). length x.clauses) ms))

  children_sorted : (nodes : List Clause) (k : ℕ) (step : Step) (m : Children) → NodesAreSorted spec.sig nodes →
      StepMakes above spec usable nodes k step m → NodesAreSorted spec.sig (nodes ++ clauses_of m)
  children_sorted nodes k step m sorted p = more_sorted spec nodes m.clauses sorted
      (λ i d at. (keep step spec numbers nodes p.clause m fine sorted (sorted k p.clause p.is)
      (step_uses above spec usable (Contains numbers) uses nodes p.clause step m p.says) i d at).sorted)

  made_at : (nodes : List Clause) (k : ℕ) (steps : List Step) (made : List Children) →
      NodesAreSorted spec.sig nodes → StepsMake above spec usable nodes k steps made → (i : ℕ) →
      i < length made → MadeAt nodes (nodes ++ flat_map clauses_of made) k made i
  made_at nodes k [] [] sorted p i l = absurd (omega (arith, l))
  made_at nodes k [] (m ∷ made) sorted p i l = absurd p
  made_at nodes k (s ∷ steps) [] sorted p i l = absurd p
  made_at nodes k (s ∷ steps) (m ∷ made) sorted p zero l =
      let z : k ≡ k + 0 = omega arith in
      record {
        step = s;
        m = m;
        before = nodes;
        listed = refl;
        makes = subst (λ x. StepMakes above spec usable nodes x s m) z p.0;
        sorted = sorted;
        count = omega arith;
        kept = λ n c e. get_append nodes (clauses_of m ++ flat_map clauses_of made) n c e;
        children = λ n d e. get_after nodes (clauses_of m ++ flat_map clauses_of made) n d.clause
            (get_append (clauses_of m) (flat_map clauses_of made) n d.clause (child_clause m.clauses n d e));
      }
  made_at nodes k (s ∷ steps) (m ∷ made) sorted p (suc i) l =
      let r = made_at (nodes ++ clauses_of m) (suc k) steps made (children_sorted nodes k s m sorted p.0) p.1 i
      (omega (arith, l)) in
      let a : (nodes ++ clauses_of m) ++ flat_map clauses_of made ≡ nodes
      ++ (clauses_of m ++ flat_map clauses_of made) = append_assoc nodes (clauses_of m)
      (flat_map clauses_of made) in
      let z : suc k + i ≡ k + suc i = omega arith in
      record {
        step = r.step;
        m = r.m;
        before = r.before;
        listed = r.listed;
        makes = subst (λ x. StepMakes above spec usable r.before x r.step r.m) z r.makes;
        sorted = r.sorted;
        count = omega (
          arith,
          r.count,
          length-append nodes (clauses_of m),
          length-map m.clauses (λ (x : Child). x.clause),
          sum_more m (take i made),
        );
        kept = λ n c e. subst (λ x. slice_get x n ≡ Some c) a (r.kept n c e);
        children = λ n d e. subst (λ x. slice_get x (length r.before + n) ≡ Some d.clause) a (r.children n d e);
      }

  as_many : (nodes : List Clause) (k : ℕ) (steps : List Step) (made : List Children) →
      StepsMake above spec usable nodes k steps made → length made ≡ length steps
  as_many nodes k [] [] p = refl
  as_many nodes k [] (m ∷ made) p = absurd p
  as_many nodes k (s ∷ steps) [] p = absurd p
  as_many nodes k (s ∷ steps) (m ∷ made) p = omega (arith, as_many (nodes ++ clauses_of m) (suc k) steps made p.1)

  some_ranks : (xs : List Tree) (ts : List Tree) → AllByRecursion (Grounded spec xs) ts →
      (w : List ℕ) × AreRanks rank spec xs ts w
  some_ranks xs [] g = ([], tt)
  some_ranks xs (t ∷ ts) g =
      let r = laws.some_rank (length spec.sig.table) 100 (instance xs t) (omega arith) g.0 in
      let rs = some_ranks xs ts g.1 in
      (r.0 ∷ rs.0, (r.1, rs.1))

  module _ (start : Clause) (steps : List Step) (sorted : ClauseIsSorted spec.sig start)
      (p : Proves above spec usable start steps) where
    first_sorted : NodesAreSorted spec.sig (start ∷ [])
    first_sorted zero d e = let q : Some start ≡ Some d = e in let k : start ≡ d = cc in
        subst (λ x. ClauseIsSorted spec.sig x) k sorted
    first_sorted (suc j) d e = absurd (let q : None ≡ Some d = e in cc)

    at_node : (k : ℕ) (c : Clause) → slice_get (nodes_of start p.made) k ≡ Some c →
        MadeAt (start ∷ []) (nodes_of start p.made) 0 p.made k
    at_node k c e = made_at (start ∷ []) 0 steps p.made first_sorted p.makes k
        (omega (
          arith,
          slice_get_within (nodes_of start p.made) k c e,
          p.finished,
          as_many (start ∷ []) 0 steps p.made p.makes,
        ))

    own : (k : ℕ) (c : Clause) (e : slice_get (nodes_of start p.made) k ≡ Some c)
        (r : MadeAt (start ∷ []) (nodes_of start p.made) 0 p.made k) →
        (slice_get r.before k ≡ Some r.makes.clause) × (r.makes.clause ≡ c)
    own k c e r =
        let z : 0 + k ≡ k = omega arith in
        let here : slice_get r.before k ≡ Some r.makes.clause = subst
        (λ n. slice_get r.before n ≡ Some r.makes.clause) z r.makes.is in
        let q : Some r.makes.clause ≡ Some c = sym (r.kept k r.makes.clause here) ∙ e in
        (here, cc)

    node_sorted : (k : ℕ) (c : Clause) → slice_get (nodes_of start p.made) k ≡ Some c → ClauseIsSorted spec.sig c
    node_sorted k c e =
        let r = at_node k c e in
        let o = own k c e r in
        subst (λ x. ClauseIsSorted spec.sig x) o.1 (r.sorted k r.makes.clause o.0)

    weight_at : (k : ℕ) (c : Clause) (xs : List Tree) → slice_get (nodes_of start p.made) k ≡ Some c →
        ClauseFails spec c xs → (w : List ℕ) × IsWeight rank spec xs c w
    weight_at k c xs e fails = some_ranks xs _ (sides_grounded above rank laws spec fine c (node_sorted k c e) xs fails)

    goes_on : (k : ℕ) (c : Clause) (xs : List Tree) → slice_get (nodes_of start p.made) k ≡ Some c →
        ClauseFails spec c xs → GoesOnTo rank spec (nodes_of start p.made) p.made k c xs
    goes_on k c xs e fails =
        let r = at_node k c e in
        let o = own k c e r in
        let says = step_uses above spec usable (Contains numbers) uses r.before r.makes.clause r.step r.m
        r.makes.says in
        let d = descend r.step spec numbers r.before r.makes.clause r.m xs fine admitted true_goals r.sorted
        (r.sorted k r.makes.clause o.0) says (subst (λ x. ClauseFails spec x xs) (sym o.1) fails) in
        subst (λ x. GoesOnTo rank spec (nodes_of start p.made) p.made k x xs) o.1 (go r o.0 d)
      where
        go : (r : MadeAt (start ∷ []) (nodes_of start p.made) 0 p.made k) →
            slice_get r.before k ≡ Some r.makes.clause → GoesOn rank spec r.before r.makes.clause xs r.m →
            GoesOnTo rank spec (nodes_of start p.made) p.made k r.makes.clause xs
        go r here (inl (i, d, at, goes)) =
            let n : length r.before ≡ first_child p.made k = omega (arith, r.count) in
            record {
              node = first_child p.made k + i;
              relation = d.relation;
              target = d.clause;
              is = subst (λ x. slice_get (nodes_of start p.made) (x + i) ≡ Some d.clause) n (r.children i d at);
              leads = inl (
                (r.m, i, d, r.listed, at, refl, refl),
                omega (arith, slice_get_within r.before k r.makes.clause here, n),
              );
              goes = goes;
            }
        go r here (inr (i, f, d, at, get, goes)) = record {
          node = f.node;
          relation = f.relation;
          target = d;
          is = r.kept f.node d get;
          leads = inr (r.m, i, f, r.listed, at, refl, refl);
          goes = goes;
        }

    -- the first clause has no failing instance
    pub proved_fails_not : (xs : List Tree) → ClauseFails spec start xs → ⊥
    proved_fails_not xs fails = none_fails rank spec (nodes_of start p.made) p.made p.allowed weight_at goes_on
        0 start xs refl fails
