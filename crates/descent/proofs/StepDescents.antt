-- One step of descent, by the kind of the step.
use Rattle.std.proofs.Common.{◌≡◌, ℕ, zero, suc, List, [], ◌∷◌, Bool, true, false, Some, None, map, inl, inr, refl, ap}
use Rattle.std.proofs.Common.{sym, subst}
use Rattle.std.specs.Prelude.{Ok, Err, slice_get, zip}
use Rattle.std.specs.List.{AllZip}
use Rattle.term_core.specs.declared.ids.VarId.{VarId}
use Rattle.term_core.specs.Tree.{Tree}
use Rattle.spec_core.specs.declared.records.Equation.{Equation}
use Rattle.spec_core.specs.declared.records.Spec.{Spec}
use Rattle.term_order.specs.Laws.{HasRanks}
use Rattle.clause_core.specs.declared.clauses.Clause.{Clause}
use Rattle.clause_core.specs.declared.clauses.Relation.{Relation}
use Rattle.clause_core.specs.declared.clauses.Relation.TheVariants.{Less, Same}
use Rattle.clause_core.specs.declared.steps.Step.TheVariants.{Trivial, Match, Absurd, Decompose, Clash, Drop, Solve}
use Rattle.clause_core.specs.declared.steps.Step.TheVariants.{Cover}
use Rattle.clause_core.specs.declared.answers.Child.{Child}
use Rattle.clause_core.specs.declared.answers.Children.{Children}
use Rattle.clause_core.specs.declared.answers.Why.{Why}
use Rattle.clause_core.specs.declared.answers.Why.TheVariants.{NoSuchPlace, DoesNotFit, Sort, NotCovering}
use Rattle.clause_core.specs.NumberedEquations.{exchanged}
use Rattle.clause_core.specs.Simplifying.{pairs}
use Rattle.clause_core.specs.Instances.{with_term}
use Rattle.clause_core.specs.Tidied.{tidied}
use Rattle.clause_core.specs.Rows.{Made, child, makes}
use Rattle.clause_core.specs.Says.{IsChild, IsReference, Says}
use Rattle.clause_core.specs.Covering.{covered_by, cover_child}
use Rattle.descent.specs.Descent.{GoesTo, GoesOn, StepDescends}
use Rattle.descent.proofs.Closers.{trivial_closes, match_closes, absurd_closes}
use Rattle.descent.proofs.Removing.{removed_goes}
use Rattle.descent.proofs.Covering.{some_cover}
use Rattle.descent.proofs.Solving.{solve_goes}
use Rattle.descent.proofs.Decomposing.{premise_goes, conclusion_goes}

module _ (above : Tree → Tree → Type 0) (c : Clause) (nodes : List Clause) (made : Children) where
  -- what is made is no reason
  pub no_reason : (why : Why) → Ok made ≡ Err why → ⊥
  no_reason why e = cc

  -- a step that makes something makes what its row says
  pub makes_these : (cs : List Made) (rs : List (ℕ × Clause)) → Says above c nodes (makes cs rs) (Ok made) →
      AllZip (IsChild above c) cs made.clauses × AllZip (IsReference above c) rs made.refs
  makes_these cs rs (m, p, q, inl h) = let e : Ok made ≡ Ok m = h.1 in let k : m ≡ made = cc in (
    subst (λ (x : Children). AllZip (IsChild above c) cs x.clauses) k p,
    subst (λ (x : Children). AllZip (IsReference above c) rs x.refs) k q,
  )
  makes_these cs rs (m, p, q, inr h) = absurd (let e : Ok made ≡ Err _ = h.1 in cc)

  -- the child of a number
  pub child_made : (cs : List Made) (ds : List Child) → AllZip (IsChild above c) cs ds → (k : ℕ) (m : Made) →
      slice_get cs k ≡ Some m → (d : Child) × (slice_get ds k ≡ Some d) × IsChild above c m d
  child_made [] ds p k m at = absurd (let q : None ≡ Some m = at in cc)
  child_made (n ∷ cs) [] p k m at = absurd p
  child_made (n ∷ cs) (d ∷ ds) p zero m at = let q : Some n ≡ Some m = at in let e : n ≡ m = cc in
      (d, refl, subst (λ x. IsChild above c x d) e p.0)
  child_made (n ∷ cs) (d ∷ ds) p (suc k) m at = child_made cs ds p.1 k m at

  -- a child of a relation goes on
  pub goes_on : (rank : ℕ → ℕ → Tree → ℕ → Type 0) (spec : Spec) (xs : List Tree) (cs : List Made) →
      AllZip (IsChild above c) cs made.clauses → (k : ℕ) (r : Relation) (d : Clause) →
      slice_get cs k ≡ Some (child r d) → GoesTo rank spec c xs (tidied d) r → GoesOn rank spec nodes c xs made
  goes_on rank spec xs cs p k r d at g =
      let m = child_made cs made.clauses p k (child r d) at in
      inl (
        k,
        m.0,
        m.1,
        subst (λ q. GoesTo rank spec c xs m.0.clause q) (sym m.2.1)
            (subst (λ x. GoesTo rank spec c xs x r) (sym m.2.0) g),
      )

-- what is in a mapped list
pub get_map : {X Y : Type 0} (f : X → Y) (xs : List X) (k : ℕ) (x : X) → slice_get xs k ≡ Some x →
    slice_get (map f xs) k ≡ Some (f x)
get_map f [] k x at = absurd (let q : None ≡ Some x = at in cc)
get_map f (y ∷ ys) zero x at = let q : Some y ≡ Some x = at in let e : y ≡ x = cc in ap (λ z. Some (f z)) e
get_map f (y ∷ ys) (suc k) x at = get_map f ys k x at

module _ (above : Tree → Tree → Type 0) (rank : ℕ → ℕ → Tree → ℕ → Type 0) (laws : HasRanks above rank) where
  pub trivial_descends : (k : ℕ) → StepDescends above rank (Trivial k)
  trivial_descends k spec numbers nodes c made xs fine admitted lemmas nodes_sorted sorted
      (inl (at, inl (same, m))) fails = absurd (trivial_closes spec fine admitted.apart admitted.whole c sorted
      xs fails k at same)
  trivial_descends k spec numbers nodes c made xs fine admitted lemmas nodes_sorted sorted (inl (at, inr h))
      fails = absurd (no_reason above c nodes made DoesNotFit h.1)
  trivial_descends k spec numbers nodes c made xs fine admitted lemmas nodes_sorted sorted (inr h)
      fails = absurd (no_reason above c nodes made NoSuchPlace h.1)

  pub match_descends : (k j : ℕ) → StepDescends above rank (Match k j)
  match_descends k j spec numbers nodes c made xs fine admitted lemmas nodes_sorted sorted
      (inl (at, inl (same, m))) fails = absurd (match_closes spec fine admitted.apart admitted.whole c sorted xs
      fails k j at.0 at.1 same)
  match_descends k j spec numbers nodes c made xs fine admitted lemmas nodes_sorted sorted (inl (at, inr h))
      fails = absurd (no_reason above c nodes made DoesNotFit h.1)
  match_descends k j spec numbers nodes c made xs fine admitted lemmas nodes_sorted sorted (inr h)
      fails = absurd (no_reason above c nodes made NoSuchPlace h.1)

  pub absurd_descends : (j : ℕ) → StepDescends above rank (Absurd j)
  absurd_descends j spec numbers nodes c made xs fine admitted lemmas nodes_sorted sorted
      (inl (at, inl (clash, m))) fails = absurd (absurd_closes spec fine admitted.apart admitted.whole c sorted
      xs fails j at clash)
  absurd_descends j spec numbers nodes c made xs fine admitted lemmas nodes_sorted sorted (inl (at, inr h))
      fails = absurd (no_reason above c nodes made DoesNotFit h.1)
  absurd_descends j spec numbers nodes c made xs fine admitted lemmas nodes_sorted sorted (inr h) fails = absurd
      (no_reason above c nodes made NoSuchPlace h.1)

  pub drop_descends : (kind : Bool) (n : ℕ) → StepDescends above rank (Drop kind n)
  drop_descends kind n spec numbers nodes c made xs fine admitted lemmas nodes_sorted sorted (inl (at, m)) fails =
      let cs : List Made = child Less (exchanged kind c at []) ∷ [] in
      goes_on above c nodes made rank spec xs cs (makes_these above c nodes made cs [] m).0 0 Less
      (exchanged kind c at []) refl (removed_goes above rank laws spec fine c sorted xs fails kind n at)
  drop_descends kind n spec numbers nodes c made xs fine admitted lemmas nodes_sorted sorted (inr h)
      fails = absurd (no_reason above c nodes made NoSuchPlace h.1)

  pub clash_descends : (n : ℕ) → StepDescends above rank (Clash n)
  clash_descends n spec numbers nodes c made xs fine admitted lemmas nodes_sorted sorted
      (inl (at, inl (clash, m))) fails =
      let cs : List Made = child Less (exchanged true c at []) ∷ [] in
      goes_on above c nodes made rank spec xs cs (makes_these above c nodes made cs [] m).0 0 Less
      (exchanged true c at []) refl (removed_goes above rank laws spec fine c sorted xs fails true n at)
  clash_descends n spec numbers nodes c made xs fine admitted lemmas nodes_sorted sorted (inl (at, inr h))
      fails = absurd (no_reason above c nodes made DoesNotFit h.1)
  clash_descends n spec numbers nodes c made xs fine admitted lemmas nodes_sorted sorted (inr h) fails = absurd
      (no_reason above c nodes made NoSuchPlace h.1)

  pub decompose_descends : (kind : Bool) (n : ℕ) → StepDescends above rank (Decompose kind n)
  decompose_descends false n spec numbers nodes c made xs fine admitted lemmas nodes_sorted sorted
      (inl (at, inl (heads, m))) fails =
      let d = exchanged false c at (pairs heads.lefts heads.rights) in
      let cs : List Made = child Less d ∷ [] in
      goes_on above c nodes made rank spec xs cs (makes_these above c nodes made cs [] m).0 0 Less d refl
      (premise_goes above rank laws spec fine admitted.apart admitted.whole c sorted xs fails n at heads)
  decompose_descends false n spec numbers nodes c made xs fine admitted lemmas nodes_sorted sorted
      (inl (at, inr h)) fails = absurd (no_reason above c nodes made DoesNotFit h.1)
  decompose_descends false n spec numbers nodes c made xs fine admitted lemmas nodes_sorted sorted (inr h)
      fails = absurd (no_reason above c nodes made NoSuchPlace h.1)
  decompose_descends true n spec numbers nodes c made xs fine admitted lemmas nodes_sorted sorted
      (inl (at, inl (heads, m))) fails =
      let f = λ (e : Equation). child Less (exchanged true c at (e ∷ [])) in
      let cs : List Made = map f (pairs heads.lefts heads.rights) in
      let g = conclusion_goes above rank laws spec fine admitted.apart admitted.whole c sorted xs fails n at heads in
      goes_on above c nodes made rank spec xs cs (makes_these above c nodes made cs [] m).0 g.0 Less
      (exchanged true c at (g.1 ∷ [])) (get_map f (pairs heads.lefts heads.rights) g.0 g.1 g.2) g.3
  decompose_descends true n spec numbers nodes c made xs fine admitted lemmas nodes_sorted sorted
      (inl (at, inr h)) fails = absurd (no_reason above c nodes made DoesNotFit h.1)
  decompose_descends true n spec numbers nodes c made xs fine admitted lemmas nodes_sorted sorted (inr h)
      fails = absurd (no_reason above c nodes made NoSuchPlace h.1)

  pub solve_descends : (n : ℕ) → StepDescends above rank (Solve n)
  solve_descends n spec numbers nodes c made xs fine admitted lemmas nodes_sorted sorted
      (inl (at, inl (solved, m))) fails =
      let d = with_term c.ctx (exchanged false c at []) solved.variable solved.term in
      let cs : List Made = child Less d ∷ [] in
      goes_on above c nodes made rank spec xs cs (makes_these above c nodes made cs [] m).0 0 Less d refl
      (solve_goes above rank laws spec fine c sorted xs fails n at solved)
  solve_descends n spec numbers nodes c made xs fine admitted lemmas nodes_sorted sorted (inl (at, inr h))
      fails = absurd (no_reason above c nodes made DoesNotFit h.1)
  solve_descends n spec numbers nodes c made xs fine admitted lemmas nodes_sorted sorted (inr h) fails = absurd
      (no_reason above c nodes made NoSuchPlace h.1)

  pub cover_descends : (x : VarId) (patterns : List Tree) → StepDescends above rank (Cover x patterns)
  cover_descends x patterns spec numbers nodes c made xs fine admitted lemmas nodes_sorted sorted
      (inl (are, inl (covering, m))) fails =
      let f = cover_child spec c x.0 in
      let cs : List Made = map f (zip are.contexts patterns) in
      let g = some_cover above rank laws spec fine c sorted xs fails x.0 patterns are covering in
      goes_on above c nodes made rank spec xs cs (makes_these above c nodes made cs [] m).0 g.0 Same
      (covered_by c x.0 g.1) (get_map f (zip are.contexts patterns) g.0 g.1 g.2) g.3
  cover_descends x patterns spec numbers nodes c made xs fine admitted lemmas nodes_sorted sorted
      (inl (are, inr h)) fails = absurd (no_reason above c nodes made NotCovering h.1)
  cover_descends x patterns spec numbers nodes c made xs fine admitted lemmas nodes_sorted sorted (inr h)
      fails = absurd (no_reason above c nodes made Sort h.1)
