-- The length of a case, by the normal forms of its sides.
use Rattle.std.proofs.Common.{◌≡◌, ℕ, ◌+◌, ◌<◌, ◌≤◌, length, min, List, [], ◌∷◌, Some, None, Option, refl, ap, sym}
use Rattle.std.proofs.Common.{◌∙◌, subst, arith}
use Rattle.term_core.specs.Tree.{Tree, tree_size}
use Rattle.term_core.specs.declared.ids.SortId.{SortId}
use Rattle.spec_core.specs.declared.records.Equation.{Equation}
use Rattle.spec_core.specs.declared.records.Spec.{Spec}
use Rattle.spec_core.specs.declared.records.SymInfo.{SymInfo}
use Rattle.spec_core.specs.Sig.{info_of}
use Rattle.spec_core.specs.WellSorted.{IsWellSorted}
use Rattle.normalization.specs.NormalForms.{RunsWithin}
use Rattle.normalization.proofs.OneRun.{one_normal}
use Rattle.plain_proof.specs.Limits.{AreWithin}
use Rattle.plain_proof.specs.Cases.{in_case, case_ctx}
use Rattle.plain_proof.specs.Closings.{Closes}
use Rattle.plain_proof.specs.declared.closing.Closing.{Closing}
use Rattle.plain_proof.specs.declared.closing.Closing.TheVariants.{Open, ByInstance, Closed}
use Rattle.plain_proof.specs.ClosingAnswers.{Suffices, IsClosing}
use Rattle.plain_proof.specs.PlainProofs.{CaseCloses}
use Rattle.plain_proof.specs.Staying.{HasSide}
use Rattle.plain_proof.specs.CaseAnswers.{IsCase}
use Rattle.plain_proof.proofs.OneSum.{runs_only}

-- the sides of an equation may be swapped
within_swapped : (a b : Tree) → AreWithin a b → AreWithin b a
within_swapped a b w =
    let d = w.depth in
    let s = w.size in
    record { equations = omega arith; depth = omega arith; size = omega arith }

runs_swapped : (spec : Spec) (other t v : Tree) (ws : List (List ℕ × ℕ)) →
    RunsWithin spec (λ u. AreWithin u other) t ws v → RunsWithin spec (λ u. AreWithin other u) t ws v
runs_swapped spec other t v [] r = r
runs_swapped spec other t v (w ∷ ws) r = (r.0, r.1, within_swapped r.0 other r.2, runs_swapped spec other r.0 v ws r.3)

runs_back : (spec : Spec) (other t v : Tree) (ws : List (List ℕ × ℕ)) →
    RunsWithin spec (λ u. AreWithin other u) t ws v → RunsWithin spec (λ u. AreWithin u other) t ws v
runs_back spec other t v [] r = r
runs_back spec other t v (w ∷ ws) r = (r.0, r.1, within_swapped other r.0 r.2, runs_back spec other r.0 v ws r.3)

module _ (spec : Spec) (fine : IsWellSorted spec) (ctx : List SortId) (e : Equation) (x : ℕ)
    (c : ℕ × List SortId) (budget : ℕ) where
  Left : Tree
  Left = in_case ctx x c e.left

  Right : Tree
  Right = in_case ctx x c e.right

  pub case_outside : (AreWithin (in_case ctx x c e.left) (in_case ctx x c e.right) → ⊥) →
      IsCase spec ctx e x c budget None
  case_outside out n k h = out k.within

  pub case_no_left : HasSide spec (in_case ctx x c e.right) (in_case ctx x c e.left) budget None →
      IsCase spec ctx e x c budget None
  case_no_left none n k h = none k.left (length k.left_uses)
      (record { uses = k.left_uses; runs = k.left_runs; normal = k.left_normal; count_is = refl })
      (omega (arith, k.length_is, h))

  module _ (l : Tree) (m : ℕ) (has : HasSide spec (in_case ctx x c e.right) (in_case ctx x c e.left) budget
      (Some (l, m))) where
    -- the left side of a case has this normal form
    one_left : (n : ℕ) → (k : CaseCloses spec ctx e x c n) → (k.left ≡ l) × (length k.left_uses ≡ m)
    one_left n k =
        let s = has.0 in
        let one = (one_normal spec fine _ k.left l s.uses k.left_uses (runs_only spec _ _ l s.uses s.runs)
        s.normal (runs_only spec _ _ k.left k.left_uses k.left_runs)).1 k.left_normal in
        (one.1, ap (λ ws. length ws) one.0 ∙ s.count_is)

    pub case_no_right : HasSide spec l (in_case ctx x c e.right) budget None → IsCase spec ctx e x c budget None
    case_no_right none n k h =
        none k.right (length k.right_uses)
        (record {
          uses = k.right_uses;
          runs = runs_back spec l _ k.right k.right_uses
              (subst (λ t. RunsWithin spec (λ u. AreWithin t u) (in_case ctx x c e.right) k.right_uses k.right)
              (one_left n k).0 k.right_runs);
          normal = k.right_normal;
          count_is = refl;
        })
        (omega (arith, k.length_is, h))

    module _ (r : Tree) (j : ℕ) (also : HasSide spec l (in_case ctx x c e.right) budget (Some (r, j))) where
      one_right : (n : ℕ) → (k : CaseCloses spec ctx e x c n) → (k.right ≡ r) × (length k.right_uses ≡ j)
      one_right n k =
          let s = also.0 in
          let one = (one_normal spec fine _ k.right r s.uses k.right_uses (runs_only spec _ _ r s.uses s.runs)
          s.normal (runs_only spec _ _ k.right k.right_uses k.right_runs)).1 k.right_normal in
          (one.1, ap (λ ws. length ws) one.0 ∙ s.count_is)

      length_of : (n : ℕ) → CaseCloses spec ctx e x c n → n ≡ m + j + tree_size l + tree_size r
      length_of n k =
          let a = one_left n k in
          let b = one_right n k in
          let p = ap (λ t. tree_size t) a.0 in
          let q = ap (λ t. tree_size t) b.0 in
          omega (arith, k.length_is, a.1, b.1, p, q)

      closed_of : (n : ℕ) → (k : CaseCloses spec ctx e x c n) →
          Closes spec.sig ctx e (case_ctx ctx c) l r k.strippings k.instances
      closed_of n k = subst (λ t. Closes spec.sig ctx e (case_ctx ctx c) t r k.strippings k.instances)
          (one_left n k).0 (subst (λ t. Closes spec.sig ctx e (case_ctx ctx c) k.left t k.strippings
          k.instances) (one_right n k).0 k.closes)

      pub case_too_long : (long : ℕ) →
          long ≡ m + j + min (tree_size l) (budget + 1) + min (tree_size r) (budget + 1) → budget < long →
          IsCase spec ctx e x c budget None
      case_too_long long is past n k h = omega (arith, length_of n k, is, past, h)

      -- how the normal forms close says whether the case does
      pub case_refused : (k : Closing) → IsClosing spec.sig ctx e (case_ctx ctx c) l r k →
          (Suffices k (m + j) → ⊥) → IsCase spec ctx e x c budget None
      case_refused Open h not_enough n k short = h k.strippings k.instances (closed_of n k)
      case_refused ByInstance h not_enough n k short =
          let one = h.1 k.strippings k.instances (closed_of n k) in
          let p = k.progress (omega (arith, one.1)) in
          not_enough (omega (arith, p, one.0, (one_left n k).1, (one_right n k).1))
      case_refused Closed h not_enough n k short = absurd (not_enough tt)

      case_closed : AreWithin (in_case ctx x c e.left) (in_case ctx x c e.right) → (long : ℕ) →
          long ≡ m + j + min (tree_size l) (budget + 1) + min (tree_size r) (budget + 1) → long ≤ budget →
          (s i : ℕ) → Closes spec.sig ctx e (case_ctx ctx c) l r s i → (0 < i → 0 < m + j + s) →
          IsCase spec ctx e x c budget (Some long)
      case_closed small long is short s i closes some_step = (
        record {
          left = l;
          right = r;
          left_uses = has.0.uses;
          right_uses = also.0.uses;
          strippings = s;
          instances = i;
          within = small;
          left_runs = has.0.runs;
          left_normal = has.0.normal;
          right_runs = runs_swapped spec l _ r also.0.uses also.0.runs;
          right_normal = also.0.normal;
          closes = closes;
          progress = λ h. let p = some_step h in omega (arith, p, has.0.count_is, also.0.count_is);
          length_is = omega (arith, is, short, has.0.count_is, also.0.count_is);
        },
        short,
      )

      pub case_by : AreWithin (in_case ctx x c e.left) (in_case ctx x c e.right) → (long : ℕ) →
          long ≡ m + j + min (tree_size l) (budget + 1) + min (tree_size r) (budget + 1) → long ≤ budget →
          (k : Closing) → IsClosing spec.sig ctx e (case_ctx ctx c) l r k → Suffices k (m + j) →
          IsCase spec ctx e x c budget (Some long)
      case_by small long is short Open h enough = absurd enough
      case_by small long is short ByInstance h enough = case_closed small long is short 0 1 h.0
          (λ z. omega (arith, enough))
      case_by small long is short Closed h enough = case_closed small long is short h.0 h.1 h.2
          (λ z. let p = h.3 z in omega (arith, p))

-- a side, by other names of its terms
pub side_in : (spec : Spec) (o p t u : Tree) (budget : ℕ) (r s : Option (Tree × ℕ)) → o ≡ p → t ≡ u → r ≡ s →
    HasSide spec o t budget r → HasSide spec p u budget s
side_in spec o p t u budget r s a b d h = subst (λ (z : Option (Tree × ℕ)). HasSide spec p u budget z) d
    (subst (λ z. HasSide spec p z budget r) b (subst (λ z. HasSide spec z t budget r) a h))

-- a case, by the symbol's declaration
pub case_of_symbol : (spec : Spec) (ctx : List SortId) (e : Equation) (x f budget : ℕ) (found : Option ℕ)
    (j : SymInfo) → info_of spec.sig f ≡ Some j → IsCase spec ctx e x (f, j.args) budget found → (i : SymInfo) →
    info_of spec.sig f ≡ Some i → IsCase spec ctx e x (f, i.args) budget found
case_of_symbol spec ctx e x f budget found j is h i at =
    let both : Some j ≡ Some i = sym is ∙ at in
    let same : j ≡ i = cc in
    subst (λ (k : SymInfo). IsCase spec ctx e x (f, k.args) budget found) same h

pub within_in : (a b c d : Tree) → a ≡ c → b ≡ d → AreWithin a b → AreWithin c d
within_in a b c d p q w = subst (λ z. AreWithin c z) q (subst (λ z. AreWithin z b) p w)
