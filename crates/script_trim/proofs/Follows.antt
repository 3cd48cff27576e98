-- What a step makes over nodes, it makes over those that stay, with its reference under its new number.
use Rattle.std.proofs.Common.{◌≡◌, ℕ, ◌≤◌, List, [], ◌∷◌, Bool, true, Some, Ok, Err, inl, inr, refl, sym, ap, subst}
use Rattle.std.proofs.Common.{arith, length, map}
use Rattle.std.specs.Prelude.{slice_get}
use Rattle.std.specs.List.{AllZip}
use Rattle.term_core.specs.Tree.{Tree}
use Rattle.spec_core.specs.declared.records.Spec.{Spec}
use Rattle.clause_core.specs.declared.answers.Children.{Children}
use Rattle.clause_core.specs.declared.answers.Reference.{Reference}
use Rattle.clause_core.specs.declared.answers.Why.TheVariants.{Limit}
use Rattle.clause_core.specs.declared.clauses.Clause.{Clause}
use Rattle.clause_core.specs.declared.steps.Step.{Step}
use Rattle.clause_core.specs.declared.steps.Step.TheVariants.{Trivial, Match, Absurd, Subsume, ByLemma, Rule, Case}
use Rattle.clause_core.specs.declared.steps.Step.TheVariants.{Decompose, Clash, Drop, Solve, Cover, Generalize}
use Rattle.clause_core.specs.declared.steps.Step.TheVariants.{Context, Hyp, Lemma}
use Rattle.clause_core.specs.Rows.{Row, needs, makes}
use Rattle.clause_core.specs.Says.{IsChild, IsReference, Says}
use Rattle.clause_core.specs.Steps.{row_of}
use Rattle.script_trim.specs.Cut.{new_number, RefersToStaying, renumbered}
use Rattle.script_trim.specs.Made.{reference_renumbered, made_renumbered}

-- the second row asks no more than the first one and makes the same, with other numbers of references
abbrev Follows : (ℕ → ℕ) → Row → Row → Type 0
Follows f (needs P why rest) (needs Q other next) = (p : P) → (q : Q) × Follows f (rest p) (next q)
Follows f (makes cs rs) (makes ds ss) = (ds ≡ cs) × (ss ≡ map (λ (r : ℕ × Clause). (f r.0, r.1)) rs)
Follows f (needs P why rest) (makes ds ss) = ⊥
Follows f (makes cs rs) (needs Q other next) = ⊥

module _ (stays : ℕ → Bool) where
  module _ (above : Tree → Tree → Type 0) (c : Clause) where
    references_follow :
        (rs : List (ℕ × Clause)) (made : List Reference) → AllZip (IsReference above c) rs made →
        AllZip (IsReference above c) (map (λ (r : ℕ × Clause). (new_number stays r.0, r.1)) rs)
        (map (reference_renumbered stays) made)
    references_follow [] [] p = tt
    references_follow [] (m ∷ made) p = absurd p
    references_follow (r ∷ rs) [] p = absurd p
    references_follow (r ∷ rs) (m ∷ made) p =
        ((ap (λ n. new_number stays n) p.0.0, p.0.1), references_follow rs made p.1)

    says_follow :
        (nodes news : List Clause) → length news ≤ length nodes → (row other : Row) →
        Follows (λ k. new_number stays k) row other → (m : Children) → Says above c nodes row (Ok m) →
        Says above c news other (Ok (made_renumbered stays m))
    says_follow nodes news few (needs P why rest) (needs Q reason next) h m (inl (p, s)) =
        let q = h p in inl (q.0, says_follow nodes news few (rest p) (next q.0) q.1 m s)
    says_follow nodes news few (needs P why rest) (needs Q reason next) h m (inr (n, e)) =
        absurd (let q : Ok m ≡ Err why = e in cc)
    says_follow nodes news few (needs P why rest) (makes ds ss) h m s = absurd h
    says_follow nodes news few (makes cs rs) (needs Q reason next) h m s = absurd h
    says_follow nodes news few (makes cs rs) (makes ds ss) h m (made, children, refs, inl (within, e)) =
        let q : Ok m ≡ Ok made = e in
        let k : m ≡ made = cc in
        let n : length m.clauses ≡ length made.clauses = ap (λ (x : Children). length x.clauses) k in (
          made_renumbered stays made,
          subst (λ x. AllZip (IsChild above c) x made.clauses) (sym h.0) children,
          subst (λ x. AllZip (IsReference above c) x (map (reference_renumbered stays) made.refs)) (sym h.1)
              (references_follow rs made.refs refs),
          inl ((within.0, omega (arith, within.1, few)), ap (λ (x : Children). Ok (made_renumbered stays x)) k),
        )
    says_follow nodes news few (makes cs rs) (makes ds ss) h m (made, children, refs, inr (few_not, e)) =
        absurd (let q : Ok m ≡ Err Limit = e in cc)

  module _ (spec : Spec) (usable : ℕ → Type 0) (nodes news : List Clause)
      (at : (k : ℕ) (d : Clause) → stays k ≡ true → slice_get nodes k ≡ Some d →
      slice_get news (new_number stays k) ≡ Some d) (c : Clause) where
    rows_follow :
        (step : Step) → RefersToStaying stays step → Follows (λ k. new_number stays k)
        (row_of spec usable nodes c step) (row_of spec usable news c (renumbered stays step))
    rows_follow (Trivial k) h = λ p. (p, λ q. (q, (refl, refl)))
    rows_follow (Match k j) h = λ p. (p, λ q. (q, (refl, refl)))
    rows_follow (Absurd j) h = λ p. (p, λ q. (q, (refl, refl)))
    rows_follow (Subsume j terms) h =
        λ node. (
          record { clause = node.clause; is = at j node.clause h node.is },
          λ p. (p, λ q. (q, λ r. (r, (refl, refl)))),
        )
    rows_follow (ByLemma name terms) h = λ p. (p, λ q. (q, λ r. (r, λ s. (s, (refl, refl)))))
    rows_follow (Rule place n) h = λ p. (p, λ q. (q, λ r. (r, (refl, refl))))
    rows_follow (Case place n) h = λ p. (p, λ q. (q, λ r. (r, (refl, refl))))
    rows_follow (Decompose kind n) h = λ p. (p, λ q. (q, (refl, refl)))
    rows_follow (Clash n) h = λ p. (p, λ q. (q, (refl, refl)))
    rows_follow (Drop kind n) h = λ p. (p, (refl, refl))
    rows_follow (Solve n) h = λ p. (p, λ q. (q, (refl, refl)))
    rows_follow (Cover v patterns) h = λ p. (p, λ q. (q, (refl, refl)))
    rows_follow (Generalize t) h = λ p. (p, λ q. (q, (refl, refl)))
    rows_follow (Context place n left) h = λ p. (p, λ q. (q, (refl, refl)))
    rows_follow (Hyp j terms place left) h =
        λ node. (
          record { clause = node.clause; is = at j node.clause h node.is },
          λ p. (p, λ q. (q, λ r. (r, λ s. (s, (refl, refl))))),
        )
    rows_follow (Lemma name terms place left) h = λ p. (p, λ q. (q, λ r. (r, λ s. (s, λ t. (t, (refl, refl))))))

  module _ (above : Tree → Tree → Type 0) (spec : Spec) (usable : ℕ → Type 0) (c : Clause) where
    -- what a step makes over the nodes, it makes over those that stay
    pub says_anew :
        (nodes news : List Clause) → length news ≤ length nodes →
        ((k : ℕ) (d : Clause) → stays k ≡ true → slice_get nodes k ≡ Some d →
        slice_get news (new_number stays k) ≡ Some d) → (step : Step) → RefersToStaying stays step → (m : Children) →
        Says above c nodes (row_of spec usable nodes c step) (Ok m) →
        Says above c news (row_of spec usable news c (renumbered stays step)) (Ok (made_renumbered stays m))
    says_anew nodes news few at step h m s =
        says_follow above c nodes news few (row_of spec usable nodes c step)
        (row_of spec usable news c (renumbered stays step)) (rows_follow spec usable nodes news at c step h) m s
