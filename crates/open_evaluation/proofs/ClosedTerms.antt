-- Terms with a constant for each variable: they are built if the terms are open, and are the same only for the
-- same terms.
use Rattle.std.proofs.Common.{◌≡◌, ℕ, zero, suc, [], ◌∷◌, get_or, ◌+◌, ◌<◌, ◌≤◌, List, Bool, true, false, inl, inr}
use Rattle.std.proofs.Common.{refl, ap, sym, arith}
use Rattle.std.specs.Prelude.{length, map}
use Rattle.term_core.specs.Tree.{Tree, Trees, var, app, none, some, instance, instances}
use Rattle.term_core.specs.Variables.{Occurs, OccursAny}
use Rattle.term_core.proofs.Numbers.{below_or_not}
use Rattle.term_core.proofs.Trees.{args_eq}
use Rattle.spec_core.specs.Sig.{Sig}
use Rattle.spec_core.specs.Sorts.{IsBuilt, AreBuilt}
use Rattle.spec_core.specs.Gives.{boolean}
use Rattle.open_evaluation.specs.OpenGives.{IsOpen, AreOpen, VariablesAreBelow}
use Rattle.open_evaluation.proofs.Arguments.{head_eq, no_more, first_eq, others_eq}
use Rattle.open_evaluation.proofs.Numbers.{number_kept, number_moved, number-inj}
use Rattle.open_evaluation.specs.Shifted.{shifted_number, shifted, shifted_all, closed, closed_all}

module _ (c u : ℕ) where
  -- the new number of a symbol is that of no constant
  pub no_constant : (f k : ℕ) → k < u → shifted_number c u f ≡ c + k → ⊥
  no_constant f k w e = elim (below_or_not f c) [
    | inl h ↦ let n = number_kept c u f h in omega arith
    | inr h ↦ let n = number_moved c u f h in omega arith
  ]

  mutual
    pub closed_inj : (t s : Tree) → VariablesAreBelow u t → VariablesAreBelow u s → closed c u t ≡ closed c u s → t ≡ s
    closed_inj (var j) (var k) h i e = let n : c + j ≡ c + k = head_eq e in ap (λ m. var m) (omega arith)
    closed_inj (var j) (app g us) h i e = absurd (no_constant g j (h j refl) (sym (head_eq e)))
    closed_inj (app f ts) (var k) h i e = absurd (no_constant f k (i k refl) (head_eq e))
    closed_inj (app f ts) (app g us) h i e =
        let m : f ≡ g = number-inj c u f g (head_eq e) in
        let n : ts ≡ us = closed_all_inj ts us h i (args_eq e) in
        cc

    closed_all_inj : (ts us : Trees) → ((k : ℕ) → OccursAny k ts → k < u) → ((k : ℕ) → OccursAny k us → k < u) →
        closed_all c u ts ≡ closed_all c u us → ts ≡ us
    closed_all_inj none none h i e = refl
    closed_all_inj none (some s us) h i e = absurd (no_more (sym e))
    closed_all_inj (some t ts) none h i e = absurd (no_more e)
    closed_all_inj (some t ts) (some s us) h i e =
        let m : t ≡ s = closed_inj t s (λ k o. h k (inl o)) (λ k o. i k (inl o)) (first_eq e) in
        let n : ts ≡ us = closed_all_inj ts us (λ k o. h k (inr o)) (λ k o. i k (inr o)) (others_eq e) in
        cc

  mutual
    -- a term with constants is an instance of the term with the new numbers
    pub closed_instance : (ys zs : List Tree) (t : Tree) →
        ((k : ℕ) → Occurs k t → instance ys (var k) ≡ closed c u (instance zs (var k))) →
        instance ys (shifted c u t) ≡ closed c u (instance zs t)
    closed_instance ys zs (var k) h = h k refl
    closed_instance ys zs (app f ts) h = ap (λ us. app (shifted_number c u f) us) (closed_instances ys zs ts h)

    closed_instances : (ys zs : List Tree) (ts : Trees) →
        ((k : ℕ) → OccursAny k ts → instance ys (var k) ≡ closed c u (instance zs (var k))) →
        instances ys (shifted_all c u ts) ≡ closed_all c u (instances zs ts)
    closed_instances ys zs none h = refl
    closed_instances ys zs (some t ts) h =
        let p : instance ys (shifted c u t) ≡ closed c u (instance zs t) = closed_instance ys zs t
        (λ k o. h k (inl o)) in
        let q : instances ys (shifted_all c u ts) ≡ closed_all c u (instances zs ts) = closed_instances ys zs ts
        (λ k o. h k (inr o)) in
        cc

  closed_entry : (xs : List Tree) (k : ℕ) (d e : Tree) → k < length xs →
      get_or (map (closed c u) xs) k d ≡ closed c u (get_or xs k e)
  closed_entry [] k d e w = absurd (omega arith)
  closed_entry (x ∷ xs) zero d e w = refl
  closed_entry (x ∷ xs) (suc k) d e w = closed_entry xs k d e (omega arith)

  pub closed_by_entries : (xs : List Tree) (t : Tree) → VariablesAreBelow (length xs) t →
      instance (map (closed c u) xs) (shifted c u t) ≡ closed c u (instance xs t)
  closed_by_entries xs t h = closed_instance (map (closed c u) xs) xs t
      (λ k o. closed_entry xs k (var k) (var k) (h k o))

  -- the Booleans keep their numbers
  pub closed_boolean : 2 ≤ c → (b : Bool) → closed c u (boolean b) ≡ boolean b
  closed_boolean two true = ap (λ f. app f none) (number_kept c u 0 (omega arith))
  closed_boolean two false = ap (λ f. app f none) (number_kept c u 1 (omega arith))

module _ (sig : Sig) (u : ℕ) where
  mutual
    -- a value keeps its symbols
    pub value_stays : (v : Tree) → IsBuilt sig v → closed sig.constructors u v ≡ v
    value_stays (var n) b = absurd b
    value_stays (app f ts) b =
        let p = number_kept sig.constructors u f b.0 in
        let q = values_stay ts b.1 in
        cc

    values_stay : (vs : Trees) → AreBuilt sig vs → closed_all sig.constructors u vs ≡ vs
    values_stay none b = refl
    values_stay (some v vs) b =
        let p = value_stays v b.0 in
        let q = values_stay vs b.1 in
        cc

module _ (old new : Sig) (u : ℕ) (more : new.constructors ≡ old.constructors + u) where
  mutual
    pub closed_built : (t : Tree) → IsOpen old t → VariablesAreBelow u t → IsBuilt new (closed old.constructors u t)
    closed_built (var k) o h = let w : k < u = h k refl in (omega arith, tt)
    closed_built (app f ts) o h = let e = number_kept old.constructors u f o.0 in
        let w : f < old.constructors = o.0 in (omega arith, closed_all_built ts o.1 h)

    closed_all_built : (ts : Trees) → AreOpen old ts → ((k : ℕ) → OccursAny k ts → k < u) →
        AreBuilt new (closed_all old.constructors u ts)
    closed_all_built none o h = tt
    closed_all_built (some t ts) o h = (
      closed_built t o.0 (λ k p. h k (inl p)),
      closed_all_built ts o.1 (λ k p. h k (inr p)),
    )
