-- Evaluation of what is built of constructors, and of a call with values.
use Rattle.std.proofs.Common.{◌≡◌, ℕ, zero, suc, ◌+◌, ◌<◌, ◌≤◌, List, [], ◌∷◌, Some, inl, inr, refl, ap, sym, ◌∙◌}
use Rattle.std.proofs.Common.{subst, arith, get_or}
use Rattle.std.specs.Prelude.{slice_get, length}
use Rattle.std.specs.List.{AllByRecursion}
use Rattle.std.proofs.lemmas.List.Elements.{recursion_from_All}
use Rattle.term_core.specs.Tree.{Tree, Trees, var, app, none, some, instance, instances}
use Rattle.term_core.specs.declared.ids.SortId.{SortId}
use Rattle.spec_core.specs.declared.records.Rule.{Rule}
use Rattle.spec_core.specs.declared.records.Spec.{Spec}
use Rattle.spec_core.specs.Sig.{Sig, IsConstructor}
use Rattle.spec_core.specs.Sorts.{SortedAll, IsBuilt, AreBuilt}
use Rattle.spec_core.specs.Gives.{Gives, GivesAll, built, called, no_terms, more_terms}
use Rattle.term_core.specs.Variables.{Numbered, NumberedAll, Occurs, OccursAny}
use Rattle.spec_core.specs.WellSorted.{IsWellSorted, IsLeft}
use Rattle.spec_core.specs.Overlap.{NoOverlap}
use Rattle.spec_core.specs.Groups.{GroupsAreWhole}
use Rattle.spec_core.proofs.Determined.{left_symbol, determined_all}
use Rattle.term_core.proofs.Numbers.{below_or_not}

module _ (spec : Spec) where
  mutual
    -- what is built of constructors gives itself for nothing
    pub built_gives : (t : Tree) → IsBuilt spec.sig t → Gives spec t t 0
    built_gives (var n) b = absurd b
    built_gives (app f ts) b = built b.0 (built_give ts b.1)

    pub built_give : (ts : Trees) → AreBuilt spec.sig ts → GivesAll spec ts ts 0
    built_give none b = no_terms
    built_give (some t ts) b = more_terms (built_gives t b.0) (built_give ts b.1) (omega arith)

  pub var_gives_not : {n k : ℕ} {v : Tree} → Gives spec (var n) v k → ⊥
  var_gives_not g = elim g [ ]

module _ (spec : Spec) (fine : IsWellSorted spec) where
  mutual
    -- and it gives nothing else
    pub built_only : {t v : Tree} {n : ℕ} → Gives spec t v n → IsBuilt spec.sig t → (v ≡ t) × (n ≡ 0)
    built_only (built {f} c all) b =
        let r = built_all_only all b.1 in
        (ap (λ us. app f us) r.0, r.1)
    built_only (called {f} {vs} number rule values all at bs is gs right m) b = absurd
        (left_symbol spec.sig rule.left values f vs (fine.rules number rule at).left is b.0)

    pub built_all_only : {ts vs : Trees} {n : ℕ} → GivesAll spec ts vs n → AreBuilt spec.sig ts → (vs ≡ ts) × (n ≡ 0)
    built_all_only no_terms b = (refl, refl)
    built_all_only (more_terms one more m) b =
        let a = built_only one b.0 in
        let c = built_all_only more b.1 in
        (cc, omega (arith, a.1, c.1))

  -- a call's value is that of the call with the values of its arguments
  pub call_gives : (f : ℕ) {ts vs : Trees} {n : ℕ} → ¬ (IsConstructor spec.sig f) → GivesAll spec ts vs n →
      AreBuilt spec.sig vs → {v : Tree} {k : ℕ} → Gives spec (app f vs) v k → Gives spec (app f ts) v (n + k)
  call_gives f {n = n} other all b (built c others) = absurd (other c)
  call_gives f {vs = vs} {n = n} other all b (called {vs = ws} {n = i} {g} {k} {m} number rule values others
      at bs is gs right cost) =
      let r = built_all_only others b in
      let back : instance values rule.left ≡ app f vs = is ∙ ap (λ us. app f us) r.0 in
      called number rule values all at bs back gs right (omega (arith, r.1))

  -- the arguments are within the budget if the call is
  pub args_within : (f : ℕ) {ts : Trees} {v : Tree} {n : ℕ} → Gives spec (app f ts) v n → (ws : Trees) × (m : ℕ)
      × GivesAll spec ts ws m × (m ≤ n)
  args_within f (built {vs} {n} c all) = (vs, n, all, omega arith)
  args_within f (called {vs} {n} number rule values all at bs is gs right cost) = (vs, n, all, omega arith)

module _ (spec : Spec) (fine : IsWellSorted spec) (apart : NoOverlap spec) (whole : GroupsAreWhole spec) where
  -- a call that has a value has it after the arguments that were found
  pub call_after : (f : ℕ) {ts vs : Trees} {n : ℕ} → ¬ (IsConstructor spec.sig f) → GivesAll spec ts vs n →
      AreBuilt spec.sig vs → (ss : List SortId) → SortedAll spec.sig [] ts ss → {v : Tree} {m : ℕ} →
      Gives spec (app f ts) v m → (k : ℕ) × Gives spec (app f vs) v k × (m ≡ n + k)
  call_after f other all b ss sorted (built c others) = absurd (other c)
  call_after f {vs = vs} {n = n} other all b ss sorted (called {vs = ws} {n = i} {g} {k} {m} number rule values
      others at bs is gs right cost) =
      let r = determined_all spec fine apart whole all ss sorted others in
      let back : instance values rule.left ≡ app f vs = is ∙ ap (λ us. app f us) (sym r.0) in
      (1 + 0 + g + k, called number rule values (built_give spec vs b) at bs back gs right refl, omega (arith, r.1))

mutual
  pub numbered_occurs : (k m : ℕ) (t : Tree) → Numbered k t m → (n : ℕ) → k ≤ n → n < m → Occurs n t
  numbered_occurs k m (var j) (inl h) n a b = absurd (omega arith)
  numbered_occurs k m (var j) (inr h) n a b = omega arith
  numbered_occurs k m (app f ts) h n a b = numbered_occur k m ts h n a b

  pub numbered_occur : (k m : ℕ) (ts : Trees) → NumberedAll k ts m → (n : ℕ) → k ≤ n → n < m → OccursAny n ts
  numbered_occur k m none h n a b = absurd (omega arith)
  numbered_occur k m (some t ts) h n a b = elim (below_or_not n h.0) [
    | inl c ↦ inl (numbered_occurs k h.0 t h.1 n a c)
    | inr c ↦ inr (numbered_occur h.0 m ts h.2 n c b)
  ]

get_or_any : (xs : List Tree) (n : ℕ) (d e : Tree) → n < length xs → get_or xs n d ≡ get_or xs n e
get_or_any [] n d e h = absurd (omega arith)
get_or_any (x ∷ xs) zero d e h = refl
get_or_any (x ∷ xs) (suc n) d e h = get_or_any xs n d e (omega arith)

module _ (sig : Sig) where
  mutual
    built_entry : (t : Tree) (xs : List Tree) → IsBuilt sig (instance xs t) → (n : ℕ) → Occurs n t →
        IsBuilt sig (instance xs (var n))
    built_entry (var m) xs b n o = subst (λ k. IsBuilt sig (instance xs (var k))) (sym o) b
    built_entry (app f ts) xs b n o = built_entries ts xs b.1 n o

    built_entries : (ts : Trees) (xs : List Tree) → AreBuilt sig (instances xs ts) → (n : ℕ) → OccursAny n ts →
        IsBuilt sig (instance xs (var n))
    built_entries none xs b n o = absurd o
    built_entries (some t ts) xs b n (inl o) = built_entry t xs b.0 n o
    built_entries (some t ts) xs b n (inr o) = built_entries ts xs b.1 n o

  pub env_built : (left : Tree) (f : ℕ) (vs : Trees) (xs : List Tree) → IsLeft sig left →
      Numbered 0 left (length xs) → instance xs left ≡ app f vs → AreBuilt sig vs → AllByRecursion (IsBuilt sig) xs
  env_built (var n) f vs xs l h e b = absurd l
  env_built (app g ps) f vs xs l h e b =
      let q : app g (instances xs ps) ≡ app f vs = e in
      let k : instances xs ps ≡ vs = cc in
      let kept : AreBuilt sig (instances xs ps) = rw k b in
      recursion_from_All (IsBuilt sig) xs (λ n d w. subst (λ t. IsBuilt sig t) (get_or_any xs n (var n) d w)
      (built_entries ps xs kept n (numbered_occur 0 (length xs) ps h n (omega arith) w)))

module _ (spec : Spec) (fine : IsWellSorted spec) where
  -- if no left side matches, the call has no value
  pub no_match : (f : ℕ) (vs : Trees) → ¬ (IsConstructor spec.sig f) → AreBuilt spec.sig vs →
      ((k : ℕ) (rule : Rule) (xs : List Tree) → slice_get spec.rules k ≡ Some rule →
      instance xs rule.left ≡ app f vs → ⊥) → {v : Tree} {n : ℕ} → Gives spec (app f vs) v n → ⊥
  no_match f vs other b none_fits (built c others) = other c
  no_match f vs other b none_fits (called {vs = ws} number rule values all at bs is gs right cost) =
      none_fits number rule values at (is ∙ ap (λ us. app f us) (built_all_only spec fine all b).0)

  pub call_costs : (f : ℕ) (vs : Trees) → ¬ (IsConstructor spec.sig f) → {v : Tree} {n : ℕ} →
      Gives spec (app f vs) v n → 1 ≤ n
  call_costs f vs other (built c others) = absurd (other c)
  call_costs f vs other (called number rule values all at bs is gs right cost) = omega arith
