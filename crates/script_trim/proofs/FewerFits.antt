-- If no closing step is defined at a node but by the node itself, none is at this node of the block
-- that a cut leaves.
use Rattle.std.proofs.Common.{◌≡◌, ℕ, zero, suc, ◌+◌, ◌≤◌, List, [], ◌∷◌, ◌++◌, Bool, true, Some, None, Ok}
use Rattle.std.proofs.Common.{Err, take, inl, inr, refl, sym, ◌∙◌, ap, subst, arith, length, map}
use Rattle.std.specs.Prelude.{flat_map, slice_get}
use Rattle.std.specs.List.{AllByRecursion, AllZip}
use Rattle.term_core.specs.Tree.{Tree}
use Rattle.term_core.proofs.Items.{all_append}
use Rattle.spec_core.specs.declared.records.Goal.{Goal}
use Rattle.spec_core.specs.declared.records.Spec.{Spec}
use Rattle.clause_core.specs.declared.answers.Children.{Children}
use Rattle.clause_core.specs.declared.answers.Reference.{Reference}
use Rattle.clause_core.specs.declared.answers.Why.TheVariants.{Limit}
use Rattle.clause_core.specs.declared.clauses.Clause.{Clause}
use Rattle.clause_core.specs.declared.steps.Step.{Step}
use Rattle.clause_core.specs.declared.steps.Step.TheVariants.{Trivial, Match, Absurd, Subsume, ByLemma}
use Rattle.clause_core.specs.Comparing.{Compares}
use Rattle.clause_core.specs.Rows.{Made, Row, needs, makes}
use Rattle.clause_core.specs.Says.{IsChild, IsReference, Says}
use Rattle.clause_core.specs.Steps.{row_of}
use Rattle.clause_core.specs.Tidied.{goal_clause}
use Rattle.script_trim.specs.Closing.{numbers, own_variables, subsume_each, by_each_lemma, closing_steps}
use Rattle.script_trim.specs.Cut.{new_number, staying}
use Rattle.script_trim.specs.Fitting.{IsByItself, RefersToItself}
use Rattle.script_trim.proofs.Staying.{anew_one, from_staying}

module _ (anew : ℕ → ℕ) where
  -- the same clause, and the same reference, under the new number of its node
  abbrev IsClauseAnew : ℕ × Clause → ℕ × Clause → Type 0
  IsClauseAnew r s = (r.0 ≡ anew s.0) × (r.1 ≡ s.1)

  abbrev IsReferenceAnew : Reference → Reference → Type 0
  IsReferenceAnew r s = (r.node ≡ anew s.node) × (r.relation ≡ s.relation)

  -- if the first row is met, so is the second one; neither makes children, and both refer to the
  -- same clauses
  abbrev Back : Row → Row → Type 0
  Back (needs P why rest) (needs Q other next) = (p : P) → (q : Q) × Back (rest p) (next q)
  Back (makes cs rs) (makes ds ss) = (ds ≡ []) × AllZip IsClauseAnew rs ss
  Back (needs P why rest) (makes ds ss) = ⊥
  Back (makes cs rs) (needs Q other next) = ⊥

  -- what refers to the node itself does so under the new numbers
  itself_anew :
      (i : ℕ) (refs olds : List Reference) → AllZip IsReferenceAnew refs olds → RefersToItself i olds →
      RefersToItself (anew i) refs
  itself_anew i [] [] h (a, t, get, node, sides) = absurd (let q : None ≡ Some t = get in cc)
  itself_anew i [] (s ∷ olds) h t = absurd h
  itself_anew i (r ∷ refs) [] h t = absurd h
  itself_anew i (r ∷ refs) (s ∷ olds) h (zero, t, get, node, sides) =
      let q : Some s ≡ Some t = get in
      let e : s ≡ t = cc in (
        0,
        r,
        refl,
        h.0.0 ∙ ap (λ (x : Reference). anew x.node) e ∙ ap anew node,
        h.0.1 ∙ ap (λ (x : Reference). x.relation) e ∙ sides,
      )
  itself_anew i (r ∷ refs) (s ∷ olds) h (suc a, t, get, node, sides) =
      let more = itself_anew i refs olds h.1 (a, t, get, node, sides) in
      (suc more.0, more.1, more.2, more.3, more.4)

module _ (above : Tree → Tree → Type 0) (c : Clause) (anew : ℕ → ℕ) where
  references_back :
      (rs ss : List (ℕ × Clause)) (made : List Reference) → AllZip (IsClauseAnew anew) rs ss →
      AllZip (IsReference above c) rs made →
      (others : List Reference) × AllZip (IsReference above c) ss others × AllZip (IsReferenceAnew anew) made others
  references_back [] [] [] h p = ([], tt, tt)
  references_back [] [] (m ∷ made) h p = absurd p
  references_back [] (s ∷ ss) made h p = absurd h
  references_back (r ∷ rs) [] made h p = absurd h
  references_back (r ∷ rs) (s ∷ ss) [] h p = absurd p
  references_back (r ∷ rs) (s ∷ ss) (m ∷ made) h p =
      let more = references_back rs ss made h.1 p.1 in (
        record { node = s.0; relation = m.relation } ∷ more.0,
        ((refl, subst (λ d. Compares above c d m.relation) h.0.1 p.0.1), more.1),
        ((p.0.0 ∙ h.0.0, refl), more.2),
      )

  says_back :
      (news olds : List Clause) → length olds ≤ 10000 → (row other : Row) → Back anew row other → (m : Children) →
      Says above c news row (Ok m) →
      (n : Children) × Says above c olds other (Ok n) × AllZip (IsReferenceAnew anew) m.refs n.refs
  says_back news olds few (needs P why rest) (needs Q reason next) h m (inl (p, s)) =
      let q = h p in
      let r = says_back news olds few (rest p) (next q.0) q.1 m s in
      (r.0, inl (q.0, r.1), r.2)
  says_back news olds few (needs P why rest) (needs Q reason next) h m (inr (n, e)) =
      absurd (let q : Ok m ≡ Err why = e in cc)
  says_back news olds few (needs P why rest) (makes ds ss) h m s = absurd h
  says_back news olds few (makes cs rs) (needs Q reason next) h m s = absurd h
  says_back news olds few (makes cs rs) (makes ds ss) h m (made, children, refs, inl (within, e)) =
      let r = references_back rs ss made.refs h.1 refs in
      let n : Children = record { clauses = []; refs = r.0 } in
      let q : Ok m ≡ Ok made = e in
      let same : made ≡ m = cc in (
        n,
        (
          n,
          subst (λ (xs : List Made). AllZip (IsChild above c) xs []) (sym h.0) tt,
          r.1,
          inl ((tt, omega (arith, few)), refl),
        ),
        subst (λ (x : Children). AllZip (IsReferenceAnew anew) x.refs r.0) same r.2,
      )
  says_back news olds few (makes cs rs) (makes ds ss) h m (made, children, refs, inr (few_not, e)) =
      absurd (let q : Ok m ≡ Err Limit = e in cc)

-- a closing step that refers to no node
abbrev IsApart : Step → Type 0
IsApart (Trivial k) = Unit {0}
IsApart (Match k j) = Unit {0}
IsApart (Absurd j) = Unit {0}
IsApart (ByLemma name terms) = Unit {0}
IsApart step = ⊥

module _ (spec : Spec) (usable : ℕ → Type 0) (news olds : List Clause) (c : Clause) (anew : ℕ → ℕ) where
  rows_apart :
      (step : Step) → IsApart step →
      Back anew (row_of spec usable news c step) (row_of spec usable olds c step)
  rows_apart (Trivial k) h = λ p. (p, λ q. (q, (refl, tt)))
  rows_apart (Match k j) h = λ p. (p, λ q. (q, (refl, tt)))
  rows_apart (Absurd j) h = λ p. (p, λ q. (q, (refl, tt)))
  rows_apart (ByLemma name terms) h = λ p. (p, λ q. (q, λ r. (r, λ s. (s, (refl, tt)))))
  rows_apart step h = absurd h

  rows_subsume :
      (j : ℕ) (terms : List Tree) → ((d : Clause) → slice_get news (anew j) ≡ Some d → slice_get olds j ≡ Some d) →
      Back anew (row_of spec usable news c (Subsume (anew j) terms)) (row_of spec usable olds c (Subsume j terms))
  rows_subsume j terms at =
      λ node. (
        record { clause = node.clause; is = at node.clause node.is },
        λ p. (p, λ q. (q, λ r. (r, (refl, ((refl, refl), tt))))),
      )

module _ {A : Type 0} where
  all_parts :
      (P : A → Type 0) (xs ys : List A) → AllByRecursion P (xs ++ ys) → AllByRecursion P xs × AllByRecursion P ys
  all_parts P [] ys h = (tt, h)
  all_parts P (x ∷ xs) ys h = let r = all_parts P xs ys h.1 in ((h.0, r.0), r.1)

  all_weaker :
      (K P Q : A → Type 0) (xs : List A) → ((x : A) → K x → P x → Q x) → AllByRecursion K xs → AllByRecursion P xs →
      AllByRecursion Q xs
  all_weaker K P Q [] f k h = tt
  all_weaker K P Q (x ∷ xs) f k h = (f x k.0 h.0, all_weaker K P Q xs f k.1 h.1)

  pub all_images :
      {B : Type 0} (K : B → Type 0) (f : A → B) (xs : List A) → ((x : A) → K (f x)) → AllByRecursion K (map f xs)
  all_images K f [] h = tt
  all_images K f (x ∷ xs) h = (h x, all_images K f xs h)

  pub all_lists :
      {B : Type 0} (K : B → Type 0) (f : A → List B) (xs : List A) → ((x : A) → AllByRecursion K (f x)) →
      AllByRecursion K (flat_map f xs)
  all_lists K f [] h = tt
  all_lists K f (x ∷ xs) h = all_append K (f x) (flat_map f xs) (h x) (all_lists K f xs h)

subsume_at :
    (P : Step → Type 0) (n : ℕ) (cs : List Clause) → AllByRecursion P (subsume_each n cs) → (j : ℕ) (d : Clause) →
    slice_get cs j ≡ Some d → P (Subsume (n + j) (own_variables d))
subsume_at P n [] h j d at = absurd (let q : None ≡ Some d = at in cc)
subsume_at P n (c ∷ cs) h zero d at =
    let q : Some c ≡ Some d = at in
    let e : c ≡ d = cc in
    let z : n ≡ n + 0 = omega arith in
    subst (λ x. P (Subsume (n + 0) (own_variables x))) e (subst (λ k. P (Subsume k (own_variables c))) z h.0)
subsume_at P n (c ∷ cs) h (suc j) d at =
    let z : suc n + j ≡ n + suc j = omega arith in
    subst (λ k. P (Subsume k (own_variables d))) z (subsume_at P (suc n) cs h.1 j d at)

pub subsume_all :
    (P : Step → Type 0) (n : ℕ) (cs : List Clause) → ((j : ℕ) (d : Clause) → slice_get cs j ≡ Some d →
    P (Subsume (n + j) (own_variables d))) → AllByRecursion P (subsume_each n cs)
subsume_all P n [] h = tt
subsume_all P n (c ∷ cs) h =
    let z : n + 0 ≡ n = omega arith in (
      subst (λ k. P (Subsume k (own_variables c))) z (h 0 c refl),
      subsume_all P (suc n) cs (λ j d at. (let y : n + suc j ≡ suc n + j = omega arith in
          subst (λ k. P (Subsume k (own_variables d))) y (h (suc j) d at))),
    )

module _ (above : Tree → Tree → Type 0) (spec : Spec) (usable : ℕ → Type 0) where
  abbrev ByItself : List Clause → ℕ → Step → Type 0
  ByItself nodes i step = IsByItself above spec usable nodes i step

  module _ (stays : ℕ → Bool) (nodes : List Clause) (n : ℕ) (few : length (take n nodes) ≤ 10000) (k : ℕ)
      (kept : stays k ≡ true) where
    abbrev olds : List Clause
    olds = take n nodes

    abbrev news : List Clause
    news = staying stays 0 (take n nodes)

    -- a node that is there after the cut was there under its old number
    clause_back :
        (j : ℕ) → stays j ≡ true → (d : Clause) → slice_get news (new_number stays j) ≡ Some d →
        slice_get olds j ≡ Some d
    clause_back j s d at =
        let f = from_staying stays 0 (new_number stays j) olds d at in
        let z : 0 + f.0 ≡ f.0 = omega arith in
        let w : new_number stays (0 + f.0) ≡ new_number stays f.0 = ap (λ a. new_number stays a) z in
        let e : f.0 ≡ j = anew_one stays f.0 j (ap stays (sym z) ∙ f.2) s (omega (arith, f.3, w)) in
        ap (λ a. slice_get olds a) (sym e) ∙ f.1

    step_back :
        (step other : Step) → ((c : Clause) → Back (new_number stays) (row_of spec usable news c other)
        (row_of spec usable olds c step)) → ByItself olds k step → ByItself news (new_number stays k) other
    step_back step other rows h m p =
        let s = says_back above p.clause (new_number stays) news olds few (row_of spec usable news p.clause other)
        (row_of spec usable olds p.clause step) (rows p.clause) m p.says in
        itself_anew (new_number stays) k m.refs s.0.refs s.2
        (h s.0 (record { clause = p.clause; is = clause_back k kept p.clause p.is; says = s.1 }))

    part_back :
        (steps : List Step) → AllByRecursion IsApart steps → AllByRecursion (ByItself olds k) steps →
        AllByRecursion (ByItself news (new_number stays k)) steps
    part_back steps apart h =
        all_weaker IsApart (ByItself olds k) (ByItself news (new_number stays k)) steps
        (λ step a u. step_back step step (λ c. rows_apart spec usable news olds c (new_number stays) step a) u) apart h

    subsume_back :
        AllByRecursion (ByItself olds k) (subsume_each 0 nodes) →
        AllByRecursion (ByItself news (new_number stays k)) (subsume_each 0 (staying stays 0 nodes))
    subsume_back h = subsume_all (ByItself news (new_number stays k)) 0 (staying stays 0 nodes) (λ a d at. (
        let f = from_staying stays 0 a nodes d at in
        let z : 0 + f.0 ≡ f.0 = omega arith in
        let s : stays f.0 ≡ true = ap stays (sym z) ∙ f.2 in
        let w : new_number stays (0 + f.0) ≡ new_number stays f.0 = ap (λ x. new_number stays x) z in
        let e : new_number stays f.0 ≡ 0 + a = omega (arith, f.3, w) in
        let u : ByItself olds k (Subsume (0 + f.0) (own_variables d)) =
        subsume_at (ByItself olds k) 0 nodes h f.0 d f.1 in
        let v : ByItself olds k (Subsume f.0 (own_variables d)) =
        subst (λ x. ByItself olds k (Subsume x (own_variables d))) z u in
        subst (λ x. ByItself news (new_number stays k) (Subsume x (own_variables d))) e
        (step_back (Subsume f.0 (own_variables d)) (Subsume (new_number stays f.0) (own_variables d))
        (λ c. rows_subsume spec usable news olds c (new_number stays) f.0 (own_variables d)
        (clause_back f.0 s)) v)
        ))

    -- no closing step but by the node itself fits it after the cut if none fits it before
    pub none_left :
        (c : Clause) → AllByRecursion (ByItself olds k) (closing_steps spec nodes c) →
        AllByRecursion (ByItself news (new_number stays k)) (closing_steps spec (staying stays 0 nodes) c)
    none_left c h =
        let P = ByItself olds k in
        let Q = ByItself news (new_number stays k) in
        let trivials = map (λ (a : ℕ). Trivial a) (numbers c.conclusions) in
        let matches = flat_map (λ (a : ℕ). map (λ (b : ℕ). Match a b) (numbers c.premises)) (numbers c.conclusions) in
        let absurds = map (λ (b : ℕ). Absurd b) (numbers c.premises) in
        let subsumes = subsume_each 0 nodes in
        let kept_ones = subsume_each 0 (staying stays 0 nodes) in
        let lemmas = by_each_lemma spec.goals in
        let p = all_parts P trivials (matches ++ (absurds ++ (subsumes ++ lemmas))) h in
        let q = all_parts P matches (absurds ++ (subsumes ++ lemmas)) p.1 in
        let r = all_parts P absurds (subsumes ++ lemmas) q.1 in
        let s = all_parts P subsumes lemmas r.1 in
        all_append Q trivials (matches ++ (absurds ++ (kept_ones ++ lemmas)))
        (part_back trivials (all_images IsApart (λ (a : ℕ). Trivial a) (numbers c.conclusions) (λ a. tt)) p.0)
        (all_append Q matches (absurds ++ (kept_ones ++ lemmas))
        (part_back matches (all_lists IsApart (λ (a : ℕ). map (λ (b : ℕ). Match a b) (numbers c.premises))
        (numbers c.conclusions) (λ a. all_images IsApart (λ (b : ℕ). Match a b) (numbers c.premises) (λ b. tt)))
        q.0)
        (all_append Q absurds (kept_ones ++ lemmas) (part_back absurds
        (all_images IsApart (λ (b : ℕ). Absurd b) (numbers c.premises) (λ b. tt)) r.0)
        (all_append Q kept_ones lemmas (subsume_back s.0) (part_back lemmas
        (all_images IsApart (λ (goal : Goal). ByLemma goal.name (own_variables (goal_clause goal))) spec.goals
        (λ g. tt)) s.1))))
