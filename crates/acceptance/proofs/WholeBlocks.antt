-- If each node of a block has its step, it can be tested what is allowed: references are to nodes, and there are few.
use Rattle.std.proofs.Common.{◌≡◌, ℕ, zero, suc, ◌+◌, ◌≤◌, ◌<◌, ◌^◌, List, [], ◌∷◌, ◌++◌, Some, None, Ok, Err, map}
use Rattle.std.proofs.Common.{length, inl, inr, sym, ◌∙◌, ap, subst, arith, length-append}
use Rattle.std.specs.Prelude.{flat_map, slice_get, sum}
use Rattle.std.specs.List.{AllByRecursion, AllZip}
use Rattle.std.proofs.lemmas.List.{length-map}
use Rattle.std.proofs.lemmas.List.Sums.{sum-map, sum_by-cons}
use Rattle.std.proofs.lemmas.Option.{slice_get_within}
use Rattle.term_core.specs.Tree.{Tree}
use Rattle.spec_core.specs.declared.records.Spec.{Spec}
use Rattle.clause_core.specs.declared.clauses.Clause.{Clause}
use Rattle.clause_core.specs.declared.steps.Step.{Step}
use Rattle.clause_core.specs.declared.steps.Step.TheVariants.{Trivial, Match, Absurd, Subsume, ByLemma, Rule, Case}
use Rattle.clause_core.specs.declared.steps.Step.TheVariants.{Decompose, Clash, Drop, Solve, Cover, Generalize}
use Rattle.clause_core.specs.declared.steps.Step.TheVariants.{Context, Hyp, Lemma}
use Rattle.clause_core.specs.declared.answers.Child.{Child}
use Rattle.clause_core.specs.declared.answers.Children.{Children}
use Rattle.clause_core.specs.declared.answers.Reference.{Reference}
use Rattle.clause_core.specs.declared.answers.Why.TheVariants.{Limit}
use Rattle.clause_core.specs.Rows.{Row, needs, makes}
use Rattle.clause_core.specs.Says.{Says, IsReference}
use Rattle.clause_core.specs.Steps.{row_of}
use Rattle.acceptance.specs.Blocks.{clauses_of, nodes_of, StepMakes, StepsMake}
use Rattle.acceptance.specs.AllowedAnswers.{IsWholeBlock}

-- there is a node with this number
abbrev IsMade : List Clause → ℕ × Clause → Type 0
IsMade nodes r = (d : Clause) × (slice_get nodes r.0 ≡ Some d)

-- the references of a row are to nodes that are made
abbrev RefersToMade : List Clause → Row → Type 0
RefersToMade nodes (needs P why rest) = (p : P) → RefersToMade nodes (rest p)
RefersToMade nodes (makes children refs) = AllByRecursion (IsMade nodes) refs

rows_refer : (spec : Spec) (usable : ℕ → Type 0) (nodes : List Clause) (c : Clause) (step : Step) →
    RefersToMade nodes (row_of spec usable nodes c step)
rows_refer spec usable nodes c (Trivial k) = λ at same. tt
rows_refer spec usable nodes c (Match k j) = λ at same. tt
rows_refer spec usable nodes c (Absurd j) = λ at clash. tt
rows_refer spec usable nodes c (Subsume j terms) = λ node sorted within subsumes. ((node.clause, node.is), tt)
rows_refer spec usable nodes c (ByLemma name terms) = λ lemma sorted within subsumes. tt
rows_refer spec usable nodes c (Rule place n) = λ at rule fits. tt
rows_refer spec usable nodes c (Case place n) = λ at rule fits. tt
rows_refer spec usable nodes c (Decompose kind n) = λ at heads. tt
rows_refer spec usable nodes c (Clash n) = λ at clash. tt
rows_refer spec usable nodes c (Drop kind n) = λ at. tt
rows_refer spec usable nodes c (Solve n) = λ at solved. tt
rows_refer spec usable nodes c (Cover v patterns) = λ are covering. tt
rows_refer spec usable nodes c (Generalize t) = λ general stands. tt
rows_refer spec usable nodes c (Context place n left) = λ at same. tt
rows_refer spec usable nodes c (Hyp j terms place left) = λ node sorted within at rewrites. ((node.clause, node.is), tt)
rows_refer spec usable nodes c (Lemma name terms place left) = λ lemma sorted within at rewrites. tt

module _ (above : Tree → Tree → Type 0) (c : Clause) (nodes : List Clause) where
  refs_are_made : (refs : List (ℕ × Clause)) (made : List Reference) → AllByRecursion (IsMade nodes) refs →
      AllZip (IsReference above c) refs made → (i : ℕ) (r : Reference) → slice_get made i ≡ Some r →
      r.node < length nodes
  refs_are_made [] [] h p i r at = absurd (let q : None ≡ Some r = at in cc)
  refs_are_made [] (m ∷ made) h p i r at = absurd p
  refs_are_made (s ∷ refs) [] h p i r at = absurd p
  refs_are_made (s ∷ refs) (m ∷ made) h p zero r at =
      let q : Some m ≡ Some r = at in
      let e : m ≡ r = cc in
      let n : m.node ≡ r.node = ap (λ (x : Reference). x.node) e in
      omega (arith, n, p.0.0, slice_get_within nodes s.0 h.0.0 h.0.1)
  refs_are_made (s ∷ refs) (m ∷ made) h p (suc i) r at = refs_are_made refs made h.1 p.1 i r at

  -- what a step makes refers to nodes, and with its children there are few
  says_made : (row : Row) → RefersToMade nodes row → (m : Children) → Says above c nodes row (Ok m) →
      ((i : ℕ) (r : Reference) → slice_get m.refs i ≡ Some r → r.node < length nodes)
      × (length nodes + length m.clauses ≤ 10000)
  says_made (needs P why rest) h m (inl (p, s)) = says_made (rest p) (h p) m s
  says_made (needs P why rest) h m (inr (n, e)) = absurd (let q : Ok m ≡ Err why = e in cc)
  says_made (makes children refs) h m (made, cs, rs, inl (few, e)) =
      let q : Ok m ≡ Ok made = e in
      let k : m ≡ made = cc in
      let n : length m.clauses ≡ length made.clauses = ap (λ (x : Children). length x.clauses) k in (
        λ i r at. refs_are_made refs made.refs h rs i r (subst (λ (x : Children). slice_get x.refs i ≡ Some r) k
            at),
        omega (arith, few.1, n),
      )
  says_made (makes children refs) h m (made, cs, rs, inr (few, e)) = absurd (let q : Ok m ≡ Err Limit = e in cc)

-- how many clauses children have in all
abbrev counted : List Children → ℕ
counted made = sum (map (λ (m : Children). length m.clauses) made)

counted_cons : (m : Children) (ms : List Children) → counted (m ∷ ms) ≡ length m.clauses + counted ms
counted_cons m ms = sum-map (λ (x : Children). length x.clauses) (m ∷ ms)
    ∙ sum_by-cons (λ (x : Children). length x.clauses) m ms
    ∙ ap (λ n. length m.clauses + n) (sym (sum-map (λ (x : Children). length x.clauses) ms))

counted_clauses : (made : List Children) → length (flat_map clauses_of made) ≡ counted made
counted_clauses [] = omega arith
counted_clauses (m ∷ ms) = omega (
  arith,
  length-append (clauses_of m) (flat_map clauses_of ms),
  length-map m.clauses (λ (x : Child). x.clause),
  counted_clauses ms,
  counted_cons m ms,
)

module _ (above : Tree → Tree → Type 0) (spec : Spec) (usable : ℕ → Type 0) where
  pub as_many : (nodes : List Clause) (k : ℕ) (steps : List Step) (made : List Children) →
      StepsMake above spec usable nodes k steps made → length made ≡ length steps
  as_many nodes k [] [] p = omega arith
  as_many nodes k [] (m ∷ made) p = absurd p
  as_many nodes k (s ∷ steps) [] p = absurd p
  as_many nodes k (s ∷ steps) (m ∷ made) p = omega (arith, as_many (nodes ++ clauses_of m) (suc k) steps made p.1)

  step_made : (nodes : List Clause) (k : ℕ) (step : Step) (m : Children) →
      StepMakes above spec usable nodes k step m → ((i : ℕ) (r : Reference) → slice_get m.refs i ≡ Some r →
      r.node < length nodes) × (length nodes + length m.clauses ≤ 10000)
  step_made nodes k step m p = says_made above p.clause nodes (row_of spec usable nodes p.clause step)
      (rows_refer spec usable nodes p.clause step) m p.says

  -- after a step there are few nodes
  few_nodes : (nodes : List Clause) (k : ℕ) (s : Step) (steps : List Step) (m : Children)
      (made : List Children) → StepsMake above spec usable nodes k (s ∷ steps) (m ∷ made) →
      length nodes + counted (m ∷ made) ≤ 10000
  few_nodes nodes k s [] m [] p = omega (arith, (step_made nodes k s m p.0).1, counted_cons m [])
  few_nodes nodes k s [] m (n ∷ made) p = absurd p.1
  few_nodes nodes k s (t ∷ steps) m [] p = absurd p.1
  few_nodes nodes k s (t ∷ steps) m (n ∷ made) p =
      omega (
        arith,
        few_nodes (nodes ++ clauses_of m) (suc k) t steps n made p.1,
        length-append nodes (clauses_of m),
        length-map m.clauses (λ (x : Child). x.clause),
        counted_cons m (n ∷ made),
      )

  refs_within : (nodes : List Clause) (k : ℕ) (steps : List Step) (made : List Children) →
      StepsMake above spec usable nodes k steps made → (i : ℕ) (m : Children) → slice_get made i ≡ Some m →
      (j : ℕ) (r : Reference) → slice_get m.refs j ≡ Some r → r.node < length nodes + counted made
  refs_within nodes k [] [] p i m at j r get = absurd (let q : None ≡ Some m = at in cc)
  refs_within nodes k [] (n ∷ made) p i m at j r get = absurd p
  refs_within nodes k (s ∷ steps) [] p i m at j r get = absurd p
  refs_within nodes k (s ∷ steps) (n ∷ made) p zero m at j r get =
      let q : Some n ≡ Some m = at in
      let e : n ≡ m = cc in
      let here = (step_made nodes k s n p.0).0 j r (subst (λ (x : Children). slice_get x.refs j ≡ Some r)
      (sym e) get) in
      omega (arith, here)
  refs_within nodes k (s ∷ steps) (n ∷ made) p (suc i) m at j r get =
      omega (
        arith,
        refs_within (nodes ++ clauses_of n) (suc k) steps made p.1 i m at j r get,
        length-append nodes (clauses_of n),
        length-map n.clauses (λ (x : Child). x.clause),
        counted_cons n made,
      )

  few_made : (start : Clause) (steps : List Step) (made : List Children) →
      StepsMake above spec usable (start ∷ []) 0 steps made → length made ≤ 1 + counted made → length made < 2 ^ 32
  few_made start [] [] p l = omega arith
  few_made start [] (m ∷ made) p l = absurd p
  few_made start (s ∷ steps) [] p l = absurd p
  few_made start (s ∷ steps) (m ∷ made) p l = omega (arith, l, few_nodes (start ∷ []) 0 s steps m made p)

  -- the entries of a block in which there are as many nodes as steps
  pub whole_block : (start : Clause) (steps : List Step) (made : List Children) →
      StepsMake above spec usable (start ∷ []) 0 steps made → length (nodes_of start made) ≡ length steps →
      IsWholeBlock made
  whole_block start steps made p finished =
      let many : length made ≡ suc (counted made) = omega (
        arith,
        as_many (start ∷ []) 0 steps made p,
        finished,
        counted_clauses made,
      ) in
      record {
        few = few_made start steps made p (omega (arith, many));
        counted = many;
        refs = λ k j relation h. omega (
          arith,
          h.6,
          many,
          refs_within (start ∷ []) 0 steps made p k h.0 h.3 h.1 h.2 h.4,
        );
      }
