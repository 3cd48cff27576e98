-- A cut is one, and takes out a node that has children with what descends from it.
use Rattle.std.proofs.Common.{◌≡◌, ◌⊎◌, ◌↔◌, ℕ, zero, suc, ◌+◌, ◌-◌, ◌≤◌, ◌<◌, List, [], ◌∷◌, Bool, true, false, Some}
use Rattle.std.proofs.Common.{inl, inr, take, refl, sym, ◌∙◌, ap, subst, arith, length, map}
use Rattle.std.specs.Prelude.{IsTrue, cond, slice_get, slice_set}
use Rattle.std.proofs.lemmas.List.{length-map}
use Rattle.term_core.specs.Tree.{Tree}
use Rattle.spec_core.specs.declared.records.Spec.{Spec}
use Rattle.spec_core.specs.WellSorted.{IsWellSorted}
use Rattle.clause_core.specs.declared.answers.Children.{Children}
use Rattle.clause_core.specs.declared.reports.Claim.{Claim}
use Rattle.clause_core.specs.declared.reports.Outcome.{Outcome}
use Rattle.clause_core.specs.declared.reports.Outcome.TheVariants.{Proved, Refuted, Open}
use Rattle.clause_core.specs.declared.reports.Report.{Report}
use Rattle.clause_core.specs.declared.steps.Step.{Step}
use Rattle.clause_core.specs.declared.steps.Step.TheVariants.{Subsume, Hyp}
use Rattle.clause_core.specs.ClauseLaws.{OneRelation}
use Rattle.clause_core.specs.Tidied.{goal_clause}
use Rattle.acceptance.specs.Blocks.{StepsMake}
use Rattle.acceptance.specs.Claims.{ProvedBefore}
use Rattle.acceptance.proofs.NoRefusal.{goal_named_one}
use Rattle.acceptance.proofs.OneBlock.{steps_one}
use Rattle.script_trim.specs.Cut.{new_number, renumbered, staying, Descends, IsCut}
use Rattle.script_trim.specs.Trimmed.{proves, ProvedClaim}
use Rattle.script_trim.proofs.Places.{length_set}
use Rattle.script_trim.proofs.Staying.{staying_length}
use Rattle.script_trim.proofs.StayingChildren.{true_or_false}

-- no new number is greater
pub anew_bound : (stays : ℕ → Bool) (n : ℕ) → new_number stays n ≤ n
anew_bound stays zero = omega arith
anew_bound stays (suc n) = by_case (stays n) (anew_bound stays n)
  where
    by_case : (b : Bool) → new_number stays n ≤ n → cond b (suc (new_number stays n)) (new_number stays n) ≤ suc n
    by_case true l = omega (arith, l)
    by_case false l = omega (arith, l)

-- and after a node that doesn't stay each is smaller
anew_fewer : (stays : ℕ → Bool) (c d : ℕ) → stays c ≡ false → new_number stays (suc c + d) < suc c + d
anew_fewer stays c zero e =
    let z : suc c + 0 ≡ suc c = omega arith in
    let w : new_number stays (suc c + 0) ≡ new_number stays (suc c) = ap (λ k. new_number stays k) z in
    let n : new_number stays (suc c) ≡ new_number stays c =
    ap (λ b. cond b (suc (new_number stays c)) (new_number stays c)) e in
    omega (arith, w, n, anew_bound stays c)
anew_fewer stays c (suc d) e =
    let z : suc c + suc d ≡ suc (suc c + d) = omega arith in
    let w : new_number stays (suc c + suc d) ≡ new_number stays (suc (suc c + d)) = ap (λ k. new_number stays k) z in
    omega (arith, w, anew_fewer stays c d e, step_bound (suc c + d))
  where
    step_bound : (k : ℕ) → new_number stays (suc k) ≤ suc (new_number stays k)
    step_bound k = by_case (stays k)
      where
        by_case : (b : Bool) → cond b (suc (new_number stays k)) (new_number stays k) ≤ suc (new_number stays k)
        by_case true = omega arith
        by_case false = omega arith

-- as many steps are left as nodes stay
pub length_rest :
    (steps : List Step) (made : List Children) (i : ℕ) (step : Step) (rest : List Step) →
    (cut : IsCut steps made i step rest) → length rest ≡ new_number cut.stays (length steps)
length_rest steps made i step rest cut =
    let a : length rest ≡ length (map (renumbered cut.stays) (staying cut.stays 0 (slice_set steps i step))) =
    ap (λ r. length r) cut.is in
    let b = length-map (staying cut.stays 0 (slice_set steps i step)) (renumbered cut.stays) in
    let c = staying_length cut.stays (slice_set steps i step) in
    let d : new_number cut.stays (length (slice_set steps i step)) ≡ new_number cut.stays (length steps) =
    ap (λ n. new_number cut.stays n) (length_set steps i step) in
    omega (arith, a, b, c, d)

-- a node that has a child loses it
pub fewer_left :
    (steps : List Step) (made : List Children) (i : ℕ) (step : Step) (rest : List Step) →
    (cut : IsCut steps made i step rest) → (c : ℕ) → c < length steps → Descends made i c → length rest < length steps
fewer_left steps made i step rest cut c l d =
    let goes : cut.stays c ≡ false = either (true_or_false (cut.stays c)) in
    let e : suc c + (length steps - suc c) ≡ length steps = omega (arith, l) in
    let f : new_number cut.stays (suc c + (length steps - suc c)) ≡ new_number cut.stays (length steps) =
    ap (λ n. new_number cut.stays n) e in
    omega (arith, e, f, anew_fewer cut.stays c (length steps - suc c) goes, length_rest steps made i step rest cut)
  where
    either : (cut.stays c ≡ true) ⊎ (cut.stays c ≡ false) → cut.stays c ≡ false
    either (inl s) = absurd (((cut.which c).0 s).1 d)
    either (inr s) = s

-- two tests that agree on all numbers let the same stay
module _ (s t : ℕ → Bool) (same : (k : ℕ) → s k ≡ t k) where
  staying_same : {A : Type 0} (k : ℕ) (xs : List A) → staying s k xs ≡ staying t k xs
  staying_same k [] = refl
  staying_same k (x ∷ xs) = let e = same k in let r = staying_same (suc k) xs in λ i. cond (e i) (x ∷ r i) (r i)

  anew_same : (k : ℕ) → new_number s k ≡ new_number t k
  anew_same zero = refl
  anew_same (suc k) = let e = same k in let r = anew_same k in λ i. cond (e i) (suc (r i)) (r i)

  renumbered_equal : (step : Step) → renumbered s step ≡ renumbered t step
  renumbered_equal (Subsume k terms) = ap (λ n. Subsume n terms) (anew_same k)
  renumbered_equal (Hyp k terms place left) = ap (λ n. Hyp n terms place left) (anew_same k)
  renumbered_equal step = refl

  map_equal : (steps : List Step) → map (renumbered s) steps ≡ map (renumbered t) steps
  map_equal [] = refl
  map_equal (x ∷ xs) = let e = renumbered_equal x in let r = map_equal xs in λ i. e i ∷ r i

-- which nodes stay is one
pub stays_one :
    (steps : List Step) (made : List Children) (i : ℕ) (s t : ℕ → Bool) →
    ((k : ℕ) → IsTrue (s k) ↔ ((k < length steps) × ¬ (Descends made i k))) →
    ((k : ℕ) → IsTrue (t k) ↔ ((k < length steps) × ¬ (Descends made i k))) → (k : ℕ) → s k ≡ t k
stays_one steps made i s t p q k = either (true_or_false (s k)) (true_or_false (t k))
  where
    either : (s k ≡ true) ⊎ (s k ≡ false) → (t k ≡ true) ⊎ (t k ≡ false) → s k ≡ t k
    either (inl a) (inl b) = a ∙ sym b
    either (inl a) (inr b) = (let c : t k ≡ true = (q k).1 ((p k).0 a) in a ∙ sym c)
    either (inr a) (inl b) = (let c : s k ≡ true = (p k).1 ((q k).0 b) in c ∙ sym b)
    either (inr a) (inr b) = a ∙ sym b

-- what is left is one
pub rest_one :
    (steps : List Step) (made : List Children) (i : ℕ) (step : Step) (rest other : List Step) →
    IsCut steps made i step rest → IsCut steps made i step other → rest ≡ other
rest_one steps made i step rest other p q =
    p.is
    ∙ ap (λ xs. map (renumbered p.stays) xs) (staying_same p.stays q.stays same 0 (slice_set steps i step))
    ∙ map_equal p.stays q.stays same (staying q.stays 0 (slice_set steps i step))
    ∙ sym q.is
  where
    same : (k : ℕ) → p.stays k ≡ q.stays k
    same = stays_one steps made i p.stays q.stays p.which q.which

-- the steps of a proved claim, and none of another one
abbrev steps_of : Outcome → List Step
steps_of (Proved block) = block.steps
steps_of (Refuted index values) = []
steps_of (Open budget) = []

module _ (above : Tree → Tree → Type 0) (one : OneRelation above) (spec : Spec) (fine : IsWellSorted spec)
    (report : Report) (m n : ℕ) (e : m ≡ n) (p : ProvedClaim above spec report m)
    (q : ProvedClaim above spec report n) where
  claim_same : proves p.goal.name p.steps ≡ proves q.goal.name q.steps
  claim_same =
      let e : Some (proves p.goal.name p.steps) ≡ Some (proves q.goal.name q.steps) =
      sym p.is ∙ ap (λ k. slice_get report.claims k) e ∙ q.is in cc

  pub goal_same : p.goal ≡ q.goal
  goal_same =
      let n : p.goal.name ≡ q.goal.name = ap (λ (c : Claim). c.goal) claim_same in
      goal_named_one spec fine q.goal.name p.goal q.goal (p.named.0, p.named.1, n) q.named

  pub steps_same : p.steps ≡ q.steps
  steps_same = ap (λ (c : Claim). steps_of c.outcome) claim_same

  pub made_same : p.made ≡ q.made
  made_same =
      let usable = ProvedBefore spec (take m report.claims) in
      let r : StepsMake above spec usable (goal_clause p.goal ∷ []) 0 p.steps q.made =
      subst (λ k. StepsMake above spec (ProvedBefore spec (take k report.claims)) (goal_clause p.goal ∷ []) 0 p.steps
      q.made) (sym e)
      (subst (λ s. StepsMake above spec (ProvedBefore spec (take n report.claims)) (goal_clause p.goal ∷ []) 0 s
      q.made) (sym steps_same)
      (subst (λ g. StepsMake above spec (ProvedBefore spec (take n report.claims)) (goal_clause g ∷ []) 0 q.steps
      q.made) (sym goal_same) q.makes)) in
      steps_one above one spec fine usable (goal_clause p.goal ∷ []) 0 p.steps p.made q.made p.makes r

  -- what is left of the claim's block is one
  pub left_one :
      (i j : ℕ) → i ≡ j → (s t : Step) → s ≡ t → (rest other : List Step) → IsCut p.steps p.made i s rest →
      IsCut q.steps q.made j t other → rest ≡ other
  left_one i j f s t g rest other c d =
      rest_one p.steps p.made i s rest other c
      (subst (λ x. IsCut p.steps p.made i x other) (sym g)
      (subst (λ k. IsCut p.steps p.made k t other) (sym f)
      (subst (λ ms. IsCut p.steps ms j t other) (sym made_same)
      (subst (λ ss. IsCut ss q.made j t other) (sym steps_same) d))))
