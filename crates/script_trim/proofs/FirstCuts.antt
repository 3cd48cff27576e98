-- First cuts lead to one report, which trims the first one.
use Rattle.std.proofs.Common.{◌≡◌, ◌⊎◌, ℕ, zero, suc, ◌+◌, ◌≤◌, ◌<◌, List, [], ◌∷◌, ◌++◌, Some, None, inl, inr, refl}
use Rattle.std.proofs.Common.{sym, ◌∙◌, ap, subst, arith, length, map}
use Rattle.std.specs.Prelude.{slice_get, slice_set, sum}
use Rattle.std.specs.List.{AllByRecursion, AllZip}
use Rattle.std.proofs.lemmas.List.Sums.{sum-map, sum_by-cons}
use Rattle.term_core.specs.Tree.{Tree}
use Rattle.term_core.proofs.Numbers.{below_or_not}
use Rattle.spec_core.specs.declared.records.Spec.{Spec}
use Rattle.spec_core.specs.WellSorted.{IsWellSorted}
use Rattle.clause_core.specs.declared.answers.Child.{Child}
use Rattle.clause_core.specs.declared.reports.Claim.{Claim}
use Rattle.clause_core.specs.declared.reports.Outcome.{Outcome}
use Rattle.clause_core.specs.declared.reports.Outcome.TheVariants.{Proved, Refuted, Open}
use Rattle.clause_core.specs.declared.reports.Report.{Report}
use Rattle.clause_core.specs.declared.steps.Step.{Step}
use Rattle.clause_core.specs.ClauseLaws.{OneRelation}
use Rattle.clause_core.specs.Tidied.{goal_clause}
use Rattle.acceptance.specs.Accepting.{IsAccepted}
use Rattle.acceptance.specs.Blocks.{nodes_of}
use Rattle.acceptance.specs.Strict.{first_child, HasChild}
use Rattle.script_trim.specs.Closing.{closing_steps}
use Rattle.script_trim.specs.Cut.{child}
use Rattle.script_trim.specs.Trimmed.{proves, with_steps, Closes, HasChildren, CouldBeClosed, IsNoLonger, Trims}
use Rattle.script_trim.specs.Trimmed.{IsFirstCut, LeadsTo, done, cut}
use Rattle.script_trim.specs.Laws.{nodes_in, node_count}
use Rattle.block_steps.proofs.ChildNumbers.{counted_clauses, child_below}
use Rattle.script_trim.proofs.OneCut.{anew_bound, length_rest, fewer_left, goal_same, made_same, left_one}
use Rattle.script_trim.proofs.QuickTests.{finished}

sum_cons : {A : Type 0} (f : A → ℕ) (x : A) (xs : List A) → sum (map f (x ∷ xs)) ≡ f x + sum (map f xs)
sum_cons f x xs = sum-map f (x ∷ xs) ∙ sum_by-cons f x xs ∙ ap (λ n. f x + n) (sym (sum-map f xs))

-- a sum falls with one of its numbers
sum_set :
    {A : Type 0} (f : A → ℕ) (xs : List A) (n : ℕ) (x y : A) → slice_get xs n ≡ Some x → f y < f x →
    sum (map f (slice_set xs n y)) < sum (map f xs)
sum_set f [] n x y at l = absurd (let q : None ≡ Some x = at in cc)
sum_set f (z ∷ xs) zero x y at l =
    let q : Some z ≡ Some x = at in
    let e : z ≡ x = cc in
    let g : f z ≡ f x = ap f e in
    omega (arith, l, g, sum_cons f y xs, sum_cons f z xs)
sum_set f (z ∷ xs) (suc n) x y at l =
    omega (arith, sum_set f xs n x y at l, sum_cons f z (slice_set xs n y), sum_cons f z xs)

-- if the first item of which something holds is parted off, it is one
first_one :
    {A : Type 0} (P : A → Type 0) (xs after ys behind : List A) (x y : A) → xs ++ x ∷ after ≡ ys ++ y ∷ behind →
    AllByRecursion (λ z. P z → ⊥) xs → AllByRecursion (λ z. P z → ⊥) ys → P x → P y → x ≡ y
first_one P [] after [] behind x y e a b p q = cc
first_one P [] after (z ∷ ys) behind x y e a b p q = let k : x ≡ z = cc in absurd (b.0 (subst P k p))
first_one P (z ∷ xs) after [] behind x y e a b p q = let k : z ≡ y = cc in absurd (a.0 (subst P (sym k) q))
first_one P (z ∷ xs) after (w ∷ ys) behind x y e a b p q =
    let k : xs ++ x ∷ after ≡ ys ++ y ∷ behind = cc in first_one P xs after ys behind x y k a.1 b.1 p q

module _ (above : Tree → Tree → Type 0) (spec : Spec) where
  -- no claim gets longer
  abbrev Shortens : Claim → Claim → Type 0
  Shortens c d = (d.goal ≡ c.goal) × IsNoLonger above spec c.outcome d.outcome

  no_longer : (o : Outcome) → IsNoLonger above spec o o
  no_longer (Proved block) = omega arith
  no_longer (Refuted index values) = refl
  no_longer (Open budget) = refl

  no_longer_still :
      (o p q : Outcome) → IsNoLonger above spec o p → IsNoLonger above spec p q → IsNoLonger above spec o q
  no_longer_still (Proved a) (Proved b) (Proved c) l k = omega (arith, l, k)
  no_longer_still (Proved a) (Proved b) (Refuted index values) l k = absurd k
  no_longer_still (Proved a) (Proved b) (Open budget) l k = absurd k
  no_longer_still (Proved a) (Refuted index values) q l k = absurd l
  no_longer_still (Proved a) (Open budget) q l k = absurd l
  no_longer_still (Refuted index values) p q l k = subst (λ o. IsNoLonger above spec o q) l k
  no_longer_still (Open budget) p q l k = subst (λ o. IsNoLonger above spec o q) l k

  all_same : (cs : List Claim) → AllZip Shortens cs cs
  all_same [] = tt
  all_same (c ∷ cs) = ((refl, no_longer c.outcome), all_same cs)

  all_shorter : (cs ds es : List Claim) → AllZip Shortens cs ds → AllZip Shortens ds es → AllZip Shortens cs es
  all_shorter [] [] [] p q = tt
  all_shorter [] [] (e ∷ es) p q = absurd q
  all_shorter [] (d ∷ ds) es p q = absurd p
  all_shorter (c ∷ cs) [] es p q = absurd p
  all_shorter (c ∷ cs) (d ∷ ds) [] p q = absurd q
  all_shorter (c ∷ cs) (d ∷ ds) (e ∷ es) p q =
      ((q.0.0 ∙ p.0.0, no_longer_still c.outcome d.outcome e.outcome p.0.1 q.0.1), all_shorter cs ds es p.1 q.1)

  set_shorter :
      (cs : List Claim) (n : ℕ) (name : List ℕ) (s t : List Step) → slice_get cs n ≡ Some (proves name s) →
      length t ≤ length s → AllZip Shortens cs (slice_set cs n (proves name t))
  set_shorter [] n name s t at l = tt
  set_shorter (c ∷ cs) zero name s t at l =
      let q : Some c ≡ Some (proves name s) = at in
      let e : proves name s ≡ c = cc in
      (subst (λ x. Shortens x (proves name t)) e (refl, l), all_same cs)
  set_shorter (c ∷ cs) (suc n) name s t at l = ((refl, no_longer c.outcome), set_shorter cs n name s t at l)

  closes_shorter :
      (report : Report) (number i : ℕ) (step : Step) (rest : List Step) →
      (c : Closes above spec report number i step rest) → length rest ≤ length c.claim.steps
  closes_shorter report number i step rest c =
      omega (
        arith,
        length_rest c.claim.steps c.claim.made i step rest c.cut,
        anew_bound c.cut.stays (length c.claim.steps),
      )

  cut_claims : (old new : Report) → IsFirstCut above spec old new → AllZip Shortens old.claims new.claims
  cut_claims old new f =
      let c = f.closes in
      subst (λ (r : Report). AllZip Shortens old.claims r.claims) (sym f.is)
      (set_shorter old.claims f.number c.claim.goal.name c.claim.steps f.rest c.claim.is
      (closes_shorter old f.number f.node f.step f.rest c))

  pub cuts_trim : (old new : Report) → IsAccepted above spec old → LeadsTo above spec old new → Trims above spec old new
  cuts_trim old new a (done closed) =
      record { steps = refl; claims = all_same old.claims; accepted = a; closed = closed }
  cuts_trim old new a (cut next f rest) =
      let b : IsAccepted above spec next = subst (λ r. IsAccepted above spec r) (sym f.is) f.closes.accepted in
      let t = cuts_trim next new b rest in
      record {
        steps = t.steps ∙ ap (λ (r : Report). r.steps) f.is;
        claims = all_shorter old.claims next.claims new.claims (cut_claims old next f) t.claims;
        accepted = t.accepted;
        closed = t.closed;
      }

  module _ (one : OneRelation above) (fine : IsWellSorted spec) where
    pub shorter :
        (report : Report) (number i : ℕ) (step : Step) (rest : List Step) → IsAccepted above spec report →
        HasChildren above spec report number i → (c : Closes above spec report number i step rest) →
        length rest < length c.claim.steps
    shorter report number i step rest a h c = by_clauses h.children.clauses refl
      where
        at : slice_get c.claim.made i ≡ Some h.children
        at =
            subst (λ ms. slice_get ms i ≡ Some h.children) (made_same above one spec fine report number number refl
            h.claim c.claim) h.at

        by_clauses : (ds : List Child) → h.children.clauses ≡ ds → length rest < length c.claim.steps
        by_clauses [] e = absurd (h.some e)
        by_clauses (d ∷ ds) e =
            let get : slice_get h.children.clauses 0 ≡ Some d = ap (λ xs. slice_get xs 0) e in
            let has : HasChild c.claim.made i (first_child c.claim.made i + 0) d.relation =
            (h.children, 0, d, at, get, refl, refl) in
            let n = finished above one spec fine report a number c.claim in
            let l = child_below c.claim.made i (first_child c.claim.made i + 0) d.relation has in
            fewer_left c.claim.steps c.claim.made i step rest c.cut (first_child c.claim.made i + 0)
            (omega (arith, l, n, counted_clauses c.claim.made)) (child d.relation has)

    pub cut_falls :
        (old new : Report) → IsAccepted above spec old → IsFirstCut above spec old new →
        node_count new < node_count old
    cut_falls old new a f =
        let c = f.closes in
        let l = shorter old f.number f.node f.step f.rest a f.children c in
        let s = sum_set (λ (x : Claim). nodes_in x.outcome) old.claims f.number
        (proves c.claim.goal.name c.claim.steps) (proves c.claim.goal.name f.rest) c.claim.is l in
        let e : node_count new ≡ node_count (with_steps old f.number c.claim.goal.name f.rest) = ap node_count f.is in
        omega (arith, s, e)

    pub rests_one :
        (report : Report) (number i : ℕ) (step : Step) (rest other : List Step) →
        Closes above spec report number i step rest → Closes above spec report number i step other → rest ≡ other
    rests_one report number i step rest other p q =
        left_one above one spec fine report number number refl p.claim q.claim i i refl step step refl rest other
        p.cut q.cut

    module _ (old new other : Report) (p : IsFirstCut above spec old new) (q : IsFirstCut above spec old other) where
      could_p : CouldBeClosed above spec old p.number p.node
      could_p = (p.children, (p.step, p.rest, p.closes))

      could_q : CouldBeClosed above spec old q.number q.node
      could_q = (q.children, (q.step, q.rest, q.closes))

      numbers_one : p.number ≡ q.number
      numbers_one = either (below_or_not p.number q.number) (below_or_not q.number p.number)
        where
          either :
              (p.number < q.number) ⊎ (q.number ≤ p.number) → (q.number < p.number) ⊎ (p.number ≤ q.number) →
              p.number ≡ q.number
          either (inl l) h = absurd (q.first_claim p.number p.node l could_p)
          either (inr l) (inl g) = absurd (p.first_claim q.number q.node g could_q)
          either (inr l) (inr g) = omega (arith, l, g)

      nodes_one : p.node ≡ q.node
      nodes_one = either (below_or_not p.node q.node) (below_or_not q.node p.node)
        where
          either : (p.node < q.node) ⊎ (q.node ≤ p.node) → (q.node < p.node) ⊎ (p.node ≤ q.node) → p.node ≡ q.node
          either (inl l) h =
              absurd (q.first_node p.node l (subst (λ n. CouldBeClosed above spec old n p.node) numbers_one could_p))
          either (inr l) (inl g) =
              absurd (p.first_node q.node g (subst (λ n. CouldBeClosed above spec old n q.node) (sym numbers_one)
              could_q))
          either (inr l) (inr g) = omega (arith, l, g)

      abbrev list_p : List Step
      list_p = closing_steps spec (nodes_of (goal_clause p.closes.claim.goal) p.closes.claim.made) p.closes.node

      abbrev list_q : List Step
      list_q = closing_steps spec (nodes_of (goal_clause q.closes.claim.goal) q.closes.claim.made) q.closes.node

      lists_one : list_p ≡ list_q
      lists_one =
          let g = goal_same above one spec fine old p.number q.number numbers_one p.closes.claim q.closes.claim in
          let m = made_same above one spec fine old p.number q.number numbers_one p.closes.claim q.closes.claim in
          let ns : nodes_of (goal_clause p.closes.claim.goal) p.closes.claim.made ≡ nodes_of
          (goal_clause q.closes.claim.goal) q.closes.claim.made = (λ i. nodes_of (goal_clause (g i)) (m i)) in
          let s : Some p.closes.node ≡ Some q.closes.node =
          sym p.closes.node_is ∙ (λ i. slice_get (ns i) (nodes_one i)) ∙ q.closes.node_is in
          let c : p.closes.node ≡ q.closes.node = cc in
          λ i. closing_steps spec (ns i) (c i)

      abbrev CouldBy : Step → Type 0
      CouldBy s = (rest : List Step) × Closes above spec old p.number p.node s rest

      none_by_p : AllByRecursion (λ s. CouldBy s → ⊥) p.before
      none_by_p = each p.before p.first_step
        where
          each :
              (ss : List Step) → AllByRecursion (λ s. (others : List Step) →
              Closes above spec old p.number p.node s others → ⊥) ss → AllByRecursion (λ s. CouldBy s → ⊥) ss
          each [] h = tt
          each (s ∷ ss) h = (λ c. h.0 c.0 c.1, each ss h.1)

      moved :
          (s : Step) (rest : List Step) → Closes above spec old q.number q.node s rest →
          Closes above spec old p.number p.node s rest
      moved s rest c =
          subst (λ n. Closes above spec old n p.node s rest) (sym numbers_one)
          (subst (λ n. Closes above spec old q.number n s rest) (sym nodes_one) c)

      moved_back :
          (s : Step) (rest : List Step) → Closes above spec old p.number p.node s rest →
          Closes above spec old q.number q.node s rest
      moved_back s rest c =
          subst (λ n. Closes above spec old n q.node s rest) numbers_one
          (subst (λ n. Closes above spec old p.number n s rest) nodes_one c)

      none_by_q : AllByRecursion (λ s. CouldBy s → ⊥) q.before
      none_by_q = each q.before q.first_step
        where
          each :
              (ss : List Step) → AllByRecursion (λ s. (others : List Step) →
              Closes above spec old q.number q.node s others → ⊥) ss → AllByRecursion (λ s. CouldBy s → ⊥) ss
          each [] h = tt
          each (s ∷ ss) h = (λ c. h.0 c.0 (moved_back s c.0 c.1), each ss h.1)

      steps_are_one : p.step ≡ q.step
      steps_are_one =
          first_one CouldBy p.before p.after q.before q.after p.step q.step (sym p.parted ∙ lists_one ∙ q.parted)
          none_by_p none_by_q (p.rest, p.closes) (q.rest, moved q.step q.rest q.closes)

      pub cuts_one : new ≡ other
      cuts_one =
          let g = goal_same above one spec fine old p.number q.number numbers_one p.closes.claim q.closes.claim in
          let r = left_one above one spec fine old p.number q.number numbers_one p.closes.claim q.closes.claim p.node
          q.node nodes_one p.step q.step steps_are_one p.rest q.rest p.closes.cut q.closes.cut in
          p.is ∙ (λ i. with_steps old (numbers_one i) (g i).name (r i)) ∙ sym q.is

    could_by :
        (old new : Report) (f : IsFirstCut above spec old new) →
        ((number i : ℕ) → CouldBeClosed above spec old number i → ⊥) → ⊥
    could_by old new f h = h f.number f.node (f.children, (f.step, f.rest, f.closes))

    pub reports_one : (old new other : Report) → LeadsTo above spec old new → LeadsTo above spec old other → new ≡ other
    reports_one old new other (done h) (done k) = refl
    reports_one old new other (done h) (cut next f r) = absurd (could_by old next f h)
    reports_one old new other (cut next f r) (done k) = absurd (could_by old next f k)
    reports_one old new other (cut next f r) (cut again g s) =
        let e : next ≡ again = cuts_one old next again f g in
        reports_one next new other r (subst (λ x. LeadsTo above spec x other) (sym e) s)
