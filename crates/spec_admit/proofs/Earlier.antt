-- What holds of the elements before a place of a list.
use Rattle.std.proofs.Common.{◌≡◌, ◌<◌, ◌≤◌, ◌+◌, ◌⊎◌, ℕ, suc, List, [], ◌∷◌, Some, inl, inr, refl, ap, sym, ◌∙◌}
use Rattle.std.proofs.Common.{subst, arith, length, get_or}
use Rattle.std.specs.Prelude.{slice_get}
use Rattle.std.specs.List.{AllByRecursion}
use Rattle.std.proofs.lemmas.Option.{slice_get_within, slice_get_read}
use Rattle.term_core.proofs.Numbers.{below_or_last}

module _ {X : Type 0} (P : X → Type 0) (xs : List X) where
  abbrev pub Earlier : ℕ → Type 0
  Earlier n = (k : ℕ) (x : X) → k < n → slice_get xs k ≡ Some x → P x

  pub earlier_more : (n : ℕ) (x : X) → Earlier n → slice_get xs n ≡ Some x → P x → Earlier (n + 1)
  earlier_more n x before at here k y below there = by (below_or_last k n below)
    where
      by : (k < n) ⊎ (k ≡ n) → P y
      by (inl l) = before k y l there
      by (inr e) =
          let both : Some x ≡ Some y = sym at ∙ ap (λ j. slice_get xs j) (sym e) ∙ there in
          let same : x ≡ y = cc in
          subst P same here

  pub earlier_all : (n : ℕ) → length xs ≤ n → Earlier n → (k : ℕ) (x : X) → slice_get xs k ≡ Some x → P x
  earlier_all n end before k x at = before k x (omega (arith, slice_get_within xs k x at)) at

pub all_of : {X : Type 0} (P : X → Type 0) (xs : List X) → ((k : ℕ) (x : X) → slice_get xs k ≡ Some x → P x) →
    AllByRecursion P xs
all_of P [] h = tt
all_of P (x ∷ xs) h = (h 0 x refl, all_of P xs (λ k y at. h (suc k) y at))

-- the element that a loop reads
pub read_at : {X : Type 0} (read xs : List X) (n : ℕ) (x : X) → read ≡ xs → n < length read →
    x ≡ get_or read n x → slice_get xs n ≡ Some x
read_at read xs n x same within is = subst (λ ys. slice_get ys n ≡ Some x) same
    (slice_get_read read (length read) n x refl within is)
