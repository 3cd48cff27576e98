-- The first use of a term by those of its arguments.
use Rattle.std.proofs.Common.{◌≡◌, ℕ, ◌+◌, zero, suc, ◌<◌, ◌≤◌, length, List, [], ◌∷◌, ◌++◌, Some, inl, inr, refl, ap}
use Rattle.std.proofs.Common.{sym, ◌∙◌, subst, get_or, take, drop, arith}
use Rattle.std.specs.Prelude.{slice_get}
use Rattle.std.specs.List.{AllByRecursion, insert}
use Rattle.std.proofs.lemmas.List.{length-take}
use Rattle.std.proofs.Math.Nat.{eq-or-lt_of_le}
use Rattle.std.proofs.lemmas.Option.{get_or_from_slice_get}
use Rattle.term_core.specs.Tree.{Tree, app, trees_of, list_of}
use Rattle.term_core.proofs.Items.{parted_at}
use Rattle.term_core.proofs.Trees.{list_of-trees_of}
use Rattle.spec_core.specs.declared.records.Spec.{Spec}
use Rattle.normalization.specs.FirstUses.{IsFirstUse}
use Rattle.normalization.specs.NormalForms.{IsNormal}
use Rattle.normalization.specs.Narrow.{IsNarrow}
use Rattle.normalization.specs.Openings.{HasNormalArguments}
use Rattle.normalization.proofs.Chains.{use_below}
use Rattle.normalization.proofs.Fine.{Parts}

before_all : (spec : Spec) (ts : List Tree) (i : ℕ) → ((k : ℕ) (t : Tree) → k < i → slice_get ts k ≡ Some t →
    IsNormal spec t) → AllByRecursion (IsNormal spec) (take i ts)
before_all spec [] zero h = tt
before_all spec [] (suc i) h = tt
before_all spec (t ∷ ts) zero h = tt
before_all spec (t ∷ ts) (suc i) h = (
  h 0 t (omega arith) refl,
  before_all spec ts i (λ k u l at. h (suc k) u (omega arith) at),
)

all_list : (spec : Spec) (ts : List Tree) → ((k : ℕ) (t : Tree) → k < length ts → slice_get ts k ≡ Some t →
    IsNormal spec t) → AllByRecursion (IsNormal spec) ts
all_list spec [] h = tt
all_list spec (t ∷ ts) h = (h 0 t (omega arith) refl, all_list spec ts (λ k u l at. h (suc k) u (omega arith) at))

front_insert : (xs : List ℕ) (x : ℕ) → insert xs 0 x ≡ x ∷ xs
front_insert [] x = refl
front_insert (y ∷ ys) x = refl

pub inserted_first : (xs ys : List ℕ) (x : ℕ) → ys ≡ insert xs 0 x → ys ≡ x ∷ xs
inserted_first xs ys x e = e ∙ front_insert xs x

pub first_in_argument : (spec : Spec) (f : ℕ) (args slice : List Tree) (t : Tree) (i : ℕ) (x u : Tree)
    (p place : List ℕ) (k : ℕ) → app f (trees_of args) ≡ t → slice ≡ args → i < length slice →
    x ≡ get_or slice i x → ((j : ℕ) (y : Tree) → j < i → slice_get slice j ≡ Some y → IsNormal spec y) →
    IsFirstUse spec x p k u → place ≡ (i + 1) ∷ p → (v : Tree) × IsFirstUse spec t place k v
first_in_argument spec f args slice t i x u p place k e s lt is before w at =
    let done = take i slice in
    let rest = drop (suc i) slice in
    let n : length done ≡ i = omega (arith, length-take i slice) in
    let whole : app f (trees_of (done ++ x ∷ rest)) ≡ t = ap (λ ts. app f (trees_of ts))
    (parted_at slice i x lt is ∙ s) ∙ e in
    let b = use_below spec f done rest (before_all spec slice i before) x u p k w in
    let q : (length done + 1) ∷ p ≡ place = ap (λ j. (j + 1) ∷ p) n ∙ sym at in (
      app f (trees_of (done ++ u ∷ rest)),
      subst (λ y. IsFirstUse spec y place k (app f (trees_of (done ++ u ∷ rest)))) whole
          (subst (λ y. IsFirstUse spec (app f (trees_of (done ++ x ∷ rest))) y k
          (app f (trees_of (done ++ u ∷ rest)))) q b),
    )

pub arguments_normal : (spec : Spec) (f : ℕ) (args slice : List Tree) (t : Tree) → app f (trees_of args) ≡ t →
    slice ≡ args → Parts slice t → ((j : ℕ) (y : Tree) → j < length slice → slice_get slice j ≡ Some y →
    IsNormal spec y) → HasNormalArguments spec t
arguments_normal spec f args slice t e s p h =
    let k : list_of (trees_of args) ≡ slice = list_of-trees_of args ∙ sym s in
    subst (λ u. HasNormalArguments spec u) e (
      (
        subst (λ ts. AllByRecursion (IsNormal spec) ts) (sym k) (all_list spec slice h),
        subst (λ ts. AllByRecursion IsNarrow ts) (sym k) p.narrow,
      ),
      subst (λ ts. length ts ≤ 8) (sym k) p.few,
    )

pub next_normal : (spec : Spec) (slice : List Tree) (i : ℕ) (x : Tree) → x ≡ get_or slice i x →
    IsNormal spec x → ((k : ℕ) (t : Tree) → k < i → slice_get slice k ≡ Some t → IsNormal spec t) →
    (k : ℕ) (t : Tree) → k < i + 1 → slice_get slice k ≡ Some t → IsNormal spec t
next_normal spec slice i x is normal before k t lt at =
    let le : k ≤ i = omega arith in
    elim (eq-or-lt_of_le le) as (λ _. IsNormal spec t) [
      | inl e ↦ (
          let h : slice_get slice i ≡ Some t = ap (λ j. slice_get slice j) (sym e) ∙ at in
          let g : get_or slice i x ≡ t = get_or_from_slice_get slice i t x h in
          subst (λ y. IsNormal spec y) (is ∙ g) normal)
      | inr less ↦ before k t less at
    ]
