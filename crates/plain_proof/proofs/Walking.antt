-- One use after the other, as code does them.
use Rattle.std.proofs.Common.{◌≡◌, ℕ, ◌+◌, ◌-◌, suc, ◌<◌, length, List, [], ◌∷◌, Some, None, Option, refl, ap, sym}
use Rattle.std.proofs.Common.{◌∙◌, subst, get_or, arith}
use Rattle.std.proofs.lemmas.Option.{get_or_from_slice_get}
use Rattle.term_core.specs.Tree.{Tree}
use Rattle.term_core.specs.Places.{IsAt, IsReplaced}
use Rattle.term_core.proofs.Paths.{one_subterm, one_replacement}
use Rattle.spec_core.specs.declared.records.Rule.{Rule}
use Rattle.spec_core.specs.declared.records.Spec.{Spec}
use Rattle.spec_core.specs.WellSorted.{IsWellSorted}
use Rattle.substitutions.specs.Substitution.{apply}
use Rattle.normalization.specs.Uses.{Use}
use Rattle.normalization.specs.FirstUses.{IsFirstUse}
use Rattle.normalization.specs.NormalForms.{IsNormal, RunsWithin}
use Rattle.normalization.proofs.OneRun.{one_new, one_after}
use Rattle.plain_proof.specs.Limits.{AreWithin}
use Rattle.plain_proof.specs.Staying.{HasSide}

-- the rule of a use, as an item of a slice
pub rule_here : (spec : Spec) (rules : List Rule) (number : ℕ) (t u : Tree) (rule : Rule) →
    (w : Use spec number t u) → rules ≡ spec.rules → rule ≡ get_or rules (number - 1) rule → rule ≡ w.rule
rule_here spec rules number t u rule w e is =
    let k : number - 1 ≡ w.listed.0 = omega (arith, w.listed.1) in
    is ∙ ap (λ rs. get_or rs (number - 1) rule) e ∙ ap (λ j. get_or spec.rules j rule) k
    ∙ get_or_from_slice_get spec.rules w.listed.0 w.rule rule w.listed.2

-- the term that is made is the one after the use
pub made_first : (spec : Spec) → IsWellSorted spec →
    (t u made old : Tree) (place : List ℕ) (number : ℕ) (rule : Rule) (entries : List (Option Tree)) →
    (w : IsFirstUse spec t place number u) → IsAt place t old → rule ≡ w.rule.rule →
    apply entries rule.left ≡ old → IsReplaced place t (apply entries rule.right) made →
    IsFirstUse spec t place number made
made_first spec fine t u made old place number rule entries w at same left replaced =
    let o : old ≡ w.old = one_subterm place t old w.old at w.at in
    let used : Use spec number w.old (apply entries w.rule.rule.right) = record {
      rule = w.rule.rule;
      entries = entries;
      listed = w.rule.listed;
      unguarded = w.rule.unguarded;
      left = ap (λ (x : Rule). apply entries x.left) (sym same) ∙ left ∙ o;
      right = refl;
    } in
    let n : apply entries rule.right ≡ w.new = ap (λ (x : Rule). apply entries x.right) same
    ∙ one_new spec fine number w.old _ w.new used w.rule in
    let e = one_replacement place t w.new made u (subst (λ x. IsReplaced place t x made) n replaced) w.made in
    subst (λ x. IsFirstUse spec t place number x) (sym e) w

pub side_here : (spec : Spec) (other t : Tree) (budget : ℕ) → IsNormal spec t →
    HasSide spec other t budget (Some (t, 0))
side_here spec other t budget normal = (
  record { uses = []; runs = refl; normal = normal; count_is = refl },
  omega arith,
)

-- a side that has a use and no uses isn't normal
first_not_normal : (spec : Spec) (t u : Tree) (p : List ℕ) (k : ℕ) → IsFirstUse spec t p k u → IsNormal spec t → ⊥
first_not_normal spec t u p k w normal = normal p w.old w.at k w.new w.rule

by_uses : (spec : Spec) → IsWellSorted spec →
    (other t next v : Tree) (p : List ℕ) (k : ℕ) (uses : List (List ℕ × ℕ)) → IsFirstUse spec t p k next →
    IsNormal spec v → RunsWithin spec (λ u. AreWithin u other) t uses v → (ws : List (List ℕ × ℕ))
    × (length uses ≡ suc (length ws)) × AreWithin next other × RunsWithin spec (λ u. AreWithin u other) next ws v
by_uses spec fine other t next v p k [] first normal r = absurd
    (first_not_normal spec t next p k first (subst (λ x. IsNormal spec x) r normal))
by_uses spec fine other t next v p k (w ∷ ws) first normal r =
    let e = one_after spec fine t r.0 next w.0 p w.1 k r.1 first in
    (ws, refl, subst (λ x. AreWithin x other) e r.2, subst (λ x. RunsWithin spec (λ u. AreWithin u other) x ws v) e r.3)

pub side_zero : (spec : Spec) → IsWellSorted spec → (other t next : Tree) (p : List ℕ) (k budget : ℕ) →
    IsFirstUse spec t p k next → budget ≡ 0 → HasSide spec other t budget None
side_zero spec fine other t next p k budget first z v count s h =
    let b = by_uses spec fine other t next v p k s.uses first s.normal s.runs in
    absurd (omega (arith, b.1, s.count_is, h, z))

pub side_out : (spec : Spec) → IsWellSorted spec → (other t next : Tree) (p : List ℕ) (k budget : ℕ) →
    IsFirstUse spec t p k next → (AreWithin next other → ⊥) → HasSide spec other t budget None
side_out spec fine other t next p k budget first outside v count s h =
    outside (by_uses spec fine other t next v p k s.uses first s.normal s.runs).2

pub side_none : (spec : Spec) → IsWellSorted spec → (other t next : Tree) (p : List ℕ) (k budget : ℕ) →
    IsFirstUse spec t p k next → HasSide spec other next (budget - 1) None → HasSide spec other t budget None
side_none spec fine other t next p k budget first none v count s h =
    let b = by_uses spec fine other t next v p k s.uses first s.normal s.runs in
    none v (length b.0) (record { uses = b.0; runs = b.3; normal = s.normal; count_is = refl })
    (omega (arith, b.1, s.count_is, h))

pub side_more : (spec : Spec) (other t next last : Tree) (p : List ℕ) (k budget count : ℕ) → 0 < budget →
    IsFirstUse spec t p k next → AreWithin next other →
    HasSide spec other next (budget - 1) (Some (last, count)) → HasSide spec other t budget (Some (last, count + 1))
side_more spec other t next last p k budget count pos first inside h = (
  record {
    uses = (p, k) ∷ h.0.uses;
    runs = (next, first, inside, h.0.runs);
    normal = h.0.normal;
    count_is = omega (arith, h.0.count_is);
  },
  omega (arith, h.1, pos),
)

-- what is found of a side after this many uses is found of the side that they began with, with these uses more
pub record GoesOn (spec : Spec) (other first last : Tree) (budget uses : ℕ) : Type 0 where
  pub none : HasSide spec other last (budget - uses) None → HasSide spec other first budget None
  pub some : (v : Tree) (count : ℕ) → HasSide spec other last (budget - uses) (Some (v, count))
      → HasSide spec other first budget (Some (v, uses + count))

pub goes_from_start : (spec : Spec) (other t : Tree) (budget : ℕ) → GoesOn spec other t t budget 0
goes_from_start spec other t budget =
    let all : budget - 0 ≡ budget = omega arith in
    record {
      none = λ h. subst (λ b. HasSide spec other t b None) all h;
      some = λ v count h.
          let sum : count ≡ 0 + count = omega arith in
          subst (λ n. HasSide spec other t budget (Some (v, n))) sum
          (subst (λ b. HasSide spec other t b (Some (v, count))) all h);
    }

pub goes_one_further : (spec : Spec) → IsWellSorted spec →
    (other first last next : Tree) (p : List ℕ) (k budget uses : ℕ)
    → uses < budget → IsFirstUse spec last p k next → AreWithin next other
    → GoesOn spec other first last budget uses → GoesOn spec other first next budget (uses + 1)
goes_one_further spec fine other first last next p k budget uses less first_use inside g =
    let left : (budget - uses) - 1 ≡ budget - (uses + 1) = omega (arith, less) in
    record {
      none = λ h. g.none (side_none spec fine other last next p k (budget - uses) first_use
          (subst (λ b. HasSide spec other next b None) (sym left) h));
      some = λ v count h.
          let further = side_more spec other last next v p k (budget - uses) count (omega (arith, less))
          first_use inside
          (subst (λ b. HasSide spec other next b (Some (v, count))) (sym left) h) in
          let sum : uses + (count + 1) ≡ (uses + 1) + count = omega arith in
          subst (λ n. HasSide spec other first budget (Some (v, n))) sum (g.some v (count + 1) further);
    }

pub goes_to_normal : (spec : Spec) (other first last : Tree) (budget uses : ℕ) →
    GoesOn spec other first last budget uses
    → IsNormal spec last → HasSide spec other first budget (Some (last, uses))
goes_to_normal spec other first last budget uses g normal =
    let sum : uses + 0 ≡ uses = omega arith in
    subst (λ n. HasSide spec other first budget (Some (last, n))) sum
    (g.some last 0 (side_here spec other last (budget - uses) normal))
