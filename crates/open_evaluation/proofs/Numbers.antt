-- The numbers of symbols once the constants are there.
use Rattle.std.proofs.Common.{◌≡◌, ◌≤◌, ◌<◌, ◌+◌, ℕ, inl, inr, arith}
use Rattle.std.proofs.lemmas.Bool.Decides.{nat_tests}
use Rattle.term_core.proofs.Numbers.{below_or_not}
use Rattle.open_evaluation.specs.Shifted.{shifted_number}

module _ (c u : ℕ) where
  -- a constructor keeps its number
  pub number_kept : (f : ℕ) → f < c → shifted_number c u f ≡ f
  unfolding shifted_number
  number_kept f h = grind (arith, nat_tests)

  -- a function comes after the constants
  pub number_moved : (f : ℕ) → c ≤ f → shifted_number c u f ≡ f + u
  unfolding shifted_number
  number_moved f h = grind (arith, nat_tests)

  pub number-inj : (f g : ℕ) → shifted_number c u f ≡ shifted_number c u g → f ≡ g
  number-inj f g e =
      elim (below_or_not f c) [
        | inl a ↦ elim (below_or_not g c) [
          | inl b ↦ omega (arith, number_kept f a, number_kept g b)
          | inr b ↦ omega (arith, number_kept f a, number_moved g b)
        ]
        | inr a ↦ elim (below_or_not g c) [
          | inl b ↦ omega (arith, number_moved f a, number_kept g b)
          | inr b ↦ omega (arith, number_moved f a, number_moved g b)
        ]
      ]

  -- a symbol is a constructor if it was one
  pub number_below : (f : ℕ) → f < c → shifted_number c u f < c + u
  number_below f h = omega (arith, number_kept f h)

  pub below_number : (f : ℕ) → shifted_number c u f < c + u → f < c
  below_number f h = elim (below_or_not f c) [ inl a ↦ a | inr a ↦ omega (arith, number_moved f a) ]
