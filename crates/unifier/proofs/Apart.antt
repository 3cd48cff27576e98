-- What holds of a term whose variables were shifted, from the term.
use Rattle.std.proofs.Common.{◌≡◌, ◌∙◌, ℕ, zero, suc, ◌+◌, List, [], ◌∷◌, ◌++◌, Option, inl, inr, refl, ap, length}
use Rattle.std.proofs.Common.{arith}
use Rattle.std.specs.Prelude.{slice_get}
use Rattle.term_core.specs.Tree.{Tree, Trees, var, app, none, some}
use Rattle.term_core.specs.declared.ids.SortId.{SortId}
use Rattle.spec_core.specs.Sig.{Sig}
use Rattle.spec_core.specs.Sorts.{Sorted, SortedAll}
use Rattle.term_core.specs.Variables.{Occurs, OccursAny}
use Rattle.substitutions.specs.Substitution.{image, apply, apply_all}
use Rattle.unifier.specs.Shifting.{shifted, shifted_all}

mutual
  -- the variables of a shifted term are those of the term, further on
  pub occurs_shifted : (by : ℕ) (t : Tree) (n : ℕ) → Occurs n (shifted by t) → (m : ℕ) × (n ≡ m + by) × Occurs m t
  occurs_shifted by (var k) n o = (k, o, refl)
  occurs_shifted by (app f ts) n o = occurs_shifted_all by ts n o

  pub occurs_shifted_all : (by : ℕ) (ts : Trees) (n : ℕ) → OccursAny n (shifted_all by ts) →
      (m : ℕ) × (n ≡ m + by) × OccursAny m ts
  occurs_shifted_all by none n o = absurd o
  occurs_shifted_all by (some t ts) n (inl o) = let r = occurs_shifted by t n o in (r.0, r.1, inl r.2)
  occurs_shifted_all by (some t ts) n (inr o) = let r = occurs_shifted_all by ts n o in (r.0, r.1, inr r.2)

mutual
  -- an instance of a shifted term is one of the term, by the images further on
  pub apply_shifted : (by : ℕ) (t : Tree) (s u : List (Option Tree)) →
      ((n : ℕ) → Occurs n t → image s (n + by) ≡ image u n) → apply s (shifted by t) ≡ apply u t
  apply_shifted by (var n) s u h = h n refl
  apply_shifted by (app f ts) s u h = ap (λ us. app f us) (apply_all_shifted by ts s u h)

  pub apply_all_shifted : (by : ℕ) (ts : Trees) (s u : List (Option Tree)) →
      ((n : ℕ) → OccursAny n ts → image s (n + by) ≡ image u n) → apply_all s (shifted_all by ts) ≡ apply_all u ts
  apply_all_shifted by none s u h = refl
  apply_all_shifted by (some t ts) s u h =
      let p : apply s (shifted by t) ≡ apply u t = apply_shifted by t s u (λ n o. h n (inl o)) in
      let q : apply_all s (shifted_all by ts) ≡ apply_all u ts = apply_all_shifted by ts s u (λ n o. h n (inr o)) in
      cc

slice_get-append : (before ctx : List SortId) (n by : ℕ) → length before ≡ by →
    slice_get (before ++ ctx) (n + by) ≡ slice_get ctx n
slice_get-append [] ctx n by e = ap (λ k. slice_get ctx k) (let k : n + by ≡ n = omega arith in k)
slice_get-append (b ∷ before) ctx n zero e = absurd (omega arith)
slice_get-append (b ∷ before) ctx n (suc by) e =
    let k : n + suc by ≡ suc (n + by) = omega arith in
    rw k (slice_get-append before ctx n by (omega arith))

module _ (sig : Sig) where
  mutual
    -- a sorted term keeps its sort if as many variables come before its own
    pub sorted_shifted : (before ctx : List SortId) (by : ℕ) → length before ≡ by → (t : Tree) (s : SortId) →
        Sorted sig ctx t s → Sorted sig (before ++ ctx) (shifted by t) s
    sorted_shifted before ctx by e (var n) s p = slice_get-append before ctx n by e ∙ p
    sorted_shifted before ctx by e (app f ts) s p = (p.0, p.1, p.2, sorted_shifted_all before ctx by e ts p.0.args p.3)

    pub sorted_shifted_all : (before ctx : List SortId) (by : ℕ) → length before ≡ by →
        (ts : Trees) (ss : List SortId) → SortedAll sig ctx ts ss → SortedAll sig (before ++ ctx) (shifted_all by ts) ss
    sorted_shifted_all before ctx by e none [] p = tt
    sorted_shifted_all before ctx by e none (s ∷ ss) p = absurd p
    sorted_shifted_all before ctx by e (some t ts) [] p = absurd p
    sorted_shifted_all before ctx by e (some t ts) (s ∷ ss) p = (
      sorted_shifted before ctx by e t s p.0,
      sorted_shifted_all before ctx by e ts ss p.1,
    )
