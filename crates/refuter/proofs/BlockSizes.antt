-- The sizes of blocks, from the last sorts on.
use Rattle.std.proofs.Common.{◌≡◌, ℕ, zero, suc, ◌+◌, ◌*◌, ◌<◌, ◌≤◌, min, List, [], ◌∷◌, ◌++◌, Some, None, inl, inr}
use Rattle.std.proofs.Common.{refl, ap, sym, ◌∙◌, subst, arith, length, length-append}
use Rattle.std.specs.Prelude.{slice_get}
use Rattle.std.proofs.Math.Nat.{mul-suc, mul_comm}
use Rattle.term_core.specs.declared.ids.SortId.{SortId}
use Rattle.spec_core.specs.Sig.{Sig}
use Rattle.spec_core.specs.Order.{values}
use Rattle.refuter.specs.Blocks.{rows_of, IsRowCount, AreBlockSizes}
use Rattle.refuter.proofs.Blocks.{rows_times}
use Rattle.refuter.proofs.Numbers.{split_le}

large_times : (limit n m : ℕ) → limit ≤ n → n * m < limit → m ≡ 0
large_times limit n zero h lt = refl
large_times limit n (suc m) h lt = let e = mul-suc n m in absurd (omega arith)

-- a product of two numbers, each of which is right if it is below the limit, is right below it
product_right : (limit n m a b k : ℕ) → (n < limit → n ≡ a) → (m < limit → m ≡ b) → k ≡ min (n * m) limit →
    k < limit → k ≡ b * a
product_right limit n m a b k f g e lt =
    let p = mul_comm n m in
    let same : k ≡ n * m = omega arith in
    elim (split_le limit n) [
      | inl x ↦
          let z : m ≡ 0 = large_times limit n m x (omega arith) in
          let y : b ≡ 0 = sym (g (omega arith)) ∙ z in
          same ∙ p ∙ ap (λ u. u * n) z ∙ zero_times n ∙ sym (ap (λ u. u * a) y ∙ zero_times a)
      | inr x ↦ elim (split_le limit m) [
        | inl y ↦
            let z : n ≡ 0 = large_times limit m n y (omega arith) in
            let w : a ≡ 0 = sym (f x) ∙ z in
            same ∙ ap (λ u. u * m) z ∙ zero_times m ∙ sym (ap (λ u. b * u) w ∙ mul_comm b 0 ∙ zero_times b)
        | inr y ↦ same ∙ p ∙ ap (λ u. u * n) (g y) ∙ ap (λ u. b * u) (f x)
      ]
    ]
  where
    zero_times : (n : ℕ) → 0 * n ≡ 0
    zero_times n = omega arith

-- a capped number below the cap is the number
pub below_cap : (n a cap : ℕ) → n ≡ min a cap → cap ≡ 4294967295 → n < 4294967295 → n ≡ a
below_cap n a cap e c lt = omega arith

module _ (sig : Sig) (depth : ℕ) where
  pub count_more : (s : SortId) (ss : List SortId) (n m k : ℕ) → IsRowCount sig depth ss n →
      (m < 4294967295 → m ≡ length (values sig depth s)) → k ≡ min (n * m) 4294967295 → IsRowCount sig depth (s ∷ ss) k
  count_more s ss n m k f g e lt = product_right 4294967295 n m (length (rows_of sig depth ss))
      (length (values sig depth s)) k f g e lt ∙ sym (rows_times sig depth s ss)

  no_others : (sorts others : List SortId) → sorts ++ others ≡ [] → others ≡ []
  no_others [] others e = e
  no_others (s ∷ sorts) others e = absurd (let q : length (s ∷ (sorts ++ others)) ≡ 0 = ap (λ xs. length xs)
      e in omega arith)

  pub sizes_none : (sizes : List ℕ) → sizes ≡ 1 ∷ [] → AreBlockSizes sig depth [] sizes
  sizes_none sizes e sorts others size p at lt =
      let z = no_others sorts others p in
      let q : Some 1 ≡ Some size = sym (ap (λ xs. slice_get xs (length others)) e
      ∙ ap (λ xs. slice_get (1 ∷ []) (length xs)) z) ∙ at in
      let k : 1 ≡ size = cc in
      sym k ∙ sym (ap (λ xs. length (rows_of sig depth xs)) z)

  before_last : (xs : List ℕ) (k n x : ℕ) → k < length xs → slice_get (xs ++ x ∷ []) k ≡ Some n →
      slice_get xs k ≡ Some n
  before_last [] k n x lt at = absurd (omega arith)
  before_last (y ∷ xs) zero n x lt at = at
  before_last (y ∷ xs) (suc k) n x lt at = before_last xs k n x (omega arith) at

  at_last : (xs : List ℕ) (n x : ℕ) → slice_get (xs ++ x ∷ []) (length xs) ≡ Some n → x ≡ n
  at_last [] n x at = let q : Some x ≡ Some n = at in cc
  at_last (y ∷ xs) n x at = at_last xs n x at

  pub sizes_more : (s : SortId) (ss : List SortId) (old new : List ℕ) (size : ℕ) →
      AreBlockSizes sig depth ss old → length old ≡ length ss + 1 → new ≡ old ++ size ∷ [] →
      IsRowCount sig depth (s ∷ ss) size → AreBlockSizes sig depth (s ∷ ss) new
  sizes_more s ss old new size h l e right [] others n p at lt =
      let k : length others ≡ length old = ap (λ xs. length xs) p
      ∙ (let w : length (s ∷ ss) ≡ length old = omega arith in w) in
      let a : slice_get (old ++ size ∷ []) (length old) ≡ Some n = sym
      (ap (λ xs. slice_get xs (length others)) e ∙ ap (λ j. slice_get (old ++ size ∷ []) j) k) ∙ at in
      let q : size ≡ n = at_last old n size a in
      let r : n < 4294967295 →
      n ≡ length (rows_of sig depth (s ∷ ss)) = subst (λ m. IsRowCount sig depth (s ∷ ss) m) q right in
      r lt ∙ sym (ap (λ xs. length (rows_of sig depth xs)) p)
  sizes_more s ss old new size h l e right (x ∷ sorts) others n p at lt =
      let q : x ∷ (sorts ++ others) ≡ s ∷ ss = p in
      let r : sorts ++ others ≡ ss = cc in
      let b = length-append sorts others in
      let k : length (sorts ++ others) ≡ length ss = ap (λ xs. length xs) r in
      let a : slice_get old (length others) ≡ Some n = before_last old (length others) n size (omega arith)
      (sym (ap (λ xs. slice_get xs (length others)) e) ∙ at) in
      h sorts others n r a lt

  pub sizes_unknown : (ss : List SortId) (sizes : List ℕ) → sizes ≡ [] → AreBlockSizes sig depth ss sizes
  sizes_unknown ss sizes e sorts others size p at lt = absurd
      (let q : None ≡ Some size = sym (ap (λ xs. slice_get xs (length others)) e) ∙ at in cc)
