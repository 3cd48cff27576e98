-- How often a variable occurs in terms, by how often it does in the first and in the others.
use Rattle.std.proofs.Common.{◌≡◌, ℕ, ◌+◌, ◌<◌, ◌⊎◌, List, Some, inl, inr, refl, ap, sym, ◌∙◌, subst}
use Rattle.std.specs.Prelude.{slice_get}
use Rattle.term_core.specs.Tree.{Tree, Trees, var, app, none, some}
use Rattle.spec_core.specs.declared.records.Rule.{Rule}
use Rattle.term_core.specs.Variables.{Occurs, OccursAny, Numbered}
use Rattle.term_core.proofs.Numbered.{numbered_below}
use Rattle.spec_core.specs.Linear.{OccursTwice, OccurTwice, IsLinear}
use Rattle.overlap_check.specs.declared.linearity.Frequency.{Frequency}
use Rattle.overlap_check.specs.declared.linearity.Frequency.TheVariants.{Never, Once, Twice}
use Rattle.overlap_check.specs.Occurrences.{IsTimes, AreTimes}
use Rattle.term_core.proofs.Numbers.{below_or_last}

mutual
  -- what occurs twice occurs
  pub twice_occurs : (n : ℕ) (t : Tree) → OccursTwice n t → Occurs n t
  twice_occurs n (var m) h = absurd h
  twice_occurs n (app f ts) h = twice_occur n ts h

  pub twice_occur : (n : ℕ) (ts : Trees) → OccurTwice n ts → OccursAny n ts
  twice_occur n none h = absurd h
  twice_occur n (some t ts) (inl h) = inl (twice_occurs n t h)
  twice_occur n (some t ts) (inr (inl h)) = inl h.0
  twice_occur n (some t ts) (inr (inr h)) = inr (twice_occur n ts h)

in_either : {A B : Type 0} → A ⊎ B → (A → ⊥) → (B → ⊥) → ⊥
in_either (inl a) f g = f a
in_either (inr b) f g = g b

module _ (n : ℕ) (t : Tree) (ts : Trees) where
  twice_later : OccurTwice n (some t ts) → (Occurs n t → ⊥) → (OccurTwice n ts → ⊥) → ⊥
  twice_later (inl a) f g = f (twice_occurs n t a)
  twice_later (inr (inl a)) f g = f a.0
  twice_later (inr (inr a)) f g = g a

  twice_first : OccurTwice n (some t ts) → (OccursTwice n t → ⊥) → (OccursAny n ts → ⊥) → ⊥
  twice_first (inl a) f g = f a
  twice_first (inr (inl a)) f g = g a.1
  twice_first (inr (inr a)) f g = g (twice_occur n ts a)

  -- if it isn't in the first, it is in all as often as in the others
  pub not_in_first : (there : Frequency) → (Occurs n t → ⊥) → AreTimes n ts there → AreTimes n (some t ts) there
  not_in_first Never h k = λ o. in_either o h k
  not_in_first Once h k = (inr k.0, λ o. twice_later o h k.1)
  not_in_first Twice h k = inr (inr k)

  -- if it isn't in the others, it is in all as often as in the first
  pub not_in_others : (here : Frequency) → IsTimes n t here → (OccursAny n ts → ⊥) → AreTimes n (some t ts) here
  not_in_others Never h k = λ o. in_either o h k
  not_in_others Once h k = (inl h.0, λ o. twice_first o h.1 k)
  not_in_others Twice h k = inl h

-- if it isn't there twice or more, it doesn't occur twice
pub not_twice : (n : ℕ) (t : Tree) (f : Frequency) → IsTimes n t f → (f ≡ Twice → ⊥) → OccursTwice n t → ⊥
not_twice n t Never h other twice = h (twice_occurs n t twice)
not_twice n t Once h other twice = h.1 twice
not_twice n t Twice h other twice = other refl

-- if no variable below the count is twice there, the term is linear
pub linear_below : (t : Tree) (m : ℕ) → Numbered 0 t m → ((n : ℕ) → n < m → OccursTwice n t → ⊥) → IsLinear t
linear_below t m h nothing n twice = nothing n (numbered_below 0 m t h n (twice_occurs n t twice)) twice

-- the rules before a place are linear, and so is the one there
pub more_linear : (rules : List Rule) (place : ℕ) (rule : Rule) → slice_get rules place ≡ Some rule →
    ((k : ℕ) (earlier : Rule) → k < place → slice_get rules k ≡ Some earlier → IsLinear earlier.left) →
    IsLinear rule.left → (k : ℕ) (earlier : Rule) → k < place + 1 → slice_get rules k ≡ Some earlier →
    IsLinear earlier.left
more_linear rules place rule at before here k earlier h is = by (below_or_last k place h)
  where
    by : (k < place) ⊎ (k ≡ place) → IsLinear earlier.left
    by (inl lower) = before k earlier lower is
    by (inr same) =
        let e : Some rule ≡ Some earlier = sym at ∙ ap (λ n. slice_get rules n) (sym same) ∙ is in
        let r : rule ≡ earlier = cc in
        subst (λ (x : Rule). IsLinear x.left) r here
