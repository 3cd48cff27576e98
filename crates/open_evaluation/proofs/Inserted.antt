-- Items of a list with others put in at a place.
use Rattle.std.proofs.Common.{◌≡◌, ◌≤◌, ◌<◌, ◌+◌, ℕ, zero, suc, List, [], ◌∷◌, ◌++◌, refl, ap, ◌∙◌, take, drop, length}
use Rattle.std.proofs.Common.{arith}
use Rattle.std.specs.Prelude.{slice_get}

module _ {X : Type 0} where
  -- an item before the place
  pub inserted_before : (xs ys : List X) (c f : ℕ) → c ≤ length xs → f < c →
      slice_get (take c xs ++ (ys ++ drop c xs)) f ≡ slice_get xs f
  inserted_before [] ys c f h b = absurd (omega arith)
  inserted_before (x ∷ xs) ys zero f h b = absurd (omega arith)
  inserted_before (x ∷ xs) ys (suc c) zero h b = refl
  inserted_before (x ∷ xs) ys (suc c) (suc f) h b = inserted_before xs ys c f (omega arith) (omega arith)

  get_left : (xs ys : List X) (n : ℕ) → n < length xs → slice_get (xs ++ ys) n ≡ slice_get xs n
  get_left [] ys n h = absurd (omega arith)
  get_left (x ∷ xs) ys zero h = refl
  get_left (x ∷ xs) ys (suc n) h = get_left xs ys n (omega arith)

  get_right : (xs ys : List X) (m n : ℕ) → m ≡ n + length xs → slice_get (xs ++ ys) m ≡ slice_get ys n
  get_right [] ys m n e = let k : m ≡ n = omega arith in ap (λ j. slice_get ys j) k
  get_right (x ∷ xs) ys zero n e = absurd (omega arith)
  get_right (x ∷ xs) ys (suc m) n e = get_right xs ys m n (omega arith)

  -- one of those that are put in
  pub inserted_at : (xs ys : List X) (c m n : ℕ) → c ≤ length xs → n < length ys → m ≡ c + n →
      slice_get (take c xs ++ (ys ++ drop c xs)) m ≡ slice_get ys n
  inserted_at xs ys zero m n h b e = let k : m ≡ n = omega arith in ap (λ j. slice_get (ys ++ xs) j) k
      ∙ get_left ys xs n b
  inserted_at [] ys (suc c) m n h b e = absurd (omega arith)
  inserted_at (x ∷ xs) ys (suc c) zero n h b e = absurd (omega arith)
  inserted_at (x ∷ xs) ys (suc c) (suc m) n h b e = inserted_at xs ys c m n (omega arith) b (omega arith)

  -- an item from the place on
  pub inserted_behind : (xs ys : List X) (c m f : ℕ) → c ≤ length xs → c ≤ f → m ≡ f + length ys →
      slice_get (take c xs ++ (ys ++ drop c xs)) m ≡ slice_get xs f
  inserted_behind xs ys zero m f h b e = get_right ys xs m f e
  inserted_behind [] ys (suc c) m f h b e = absurd (omega arith)
  inserted_behind (x ∷ xs) ys (suc c) m zero h b e = absurd (omega arith)
  inserted_behind (x ∷ xs) ys (suc c) zero (suc f) h b e = absurd (omega arith)
  inserted_behind (x ∷ xs) ys (suc c) (suc m) (suc f) h b e = inserted_behind xs ys c m f (omega arith)
      (omega arith) (omega arith)
