-- Weights have no endless descent.
use Rattle.std.proofs.Common.{◌≡◌, ◌≢◌, ◌⊎◌, ℕ, zero, suc, ◌+◌, ◌≤◌, ◌<◌, List, [], ◌∷◌, ◌++◌, length, ap, refl, ◌∙◌}
use Rattle.std.proofs.Common.{arith, inl, inr}
use Rattle.std.specs.Prelude.{IsPermutation}
use Rattle.std.proofs.lemmas.List.Sorted.{IsPermutation-trans}
use Rattle.descent.specs.Weights.{IsHeavier}
use Rattle.descent.proofs.Multisets.{IsIn, occurs, none-in, head-in, in-cases, contains-in, in-contains, occurs-append}
use Rattle.descent.proofs.Multisets.{occurs-permutation}

-- every descent from the weight ends
pub data Sinks : List ℕ → Type 0 where
  sinks : (xs : List ℕ) → ((ys : List ℕ) → IsHeavier xs ys → Sinks ys) → Sinks xs

-- f falls to g: at the greatest place below b at which they differ f is greater
abbrev Falls : ℕ → (ℕ → ℕ) → (ℕ → ℕ) → Type 0
Falls zero f g = ⊥
Falls (suc b) f g = (g b < f b) ⊎ ((f b ≡ g b) × Falls b f g)

abbrev Rule : ℕ → ((ℕ → ℕ) → Type 0) → Type 0
Rule b P = (f : ℕ → ℕ) → ((g : ℕ → ℕ) → Falls b f g → P g) → P f

abbrev Induction : ℕ → Type 1
Induction b = (P : (ℕ → ℕ) → Type 0) → Rule b P → (f : ℕ → ℕ) → P f

first-induction : (b : ℕ) → Induction b → (P : (ℕ → ℕ) → Type 0) → Rule (suc b) P → (m : ℕ) (f : ℕ → ℕ) → f b < m → P f
first-induction b ih P rule zero f l = absurd (omega arith)
first-induction b ih P rule (suc m) f l =
    ih (λ g. g b < suc m → P g)
    (λ g below small. rule g
    (λ h d. elim d [
      | inl less ↦ first-induction b ih P rule m h (omega arith)
      | inr d' ↦ below h d'.1
          (omega (arith, d'.0))
    ]))
    f l

falls-induction : (b : ℕ) → Induction b
falls-induction zero P rule f = rule f (λ g d. absurd d)
falls-induction (suc b) P rule f = first-induction b (falls-induction b) P rule (suc (f b)) f (omega arith)

split : (n : ℕ) → (1 ≤ n) ⊎ (n ≡ 0)
split zero = inr refl
split (suc n) = inl (omega arith)

falls-by : (b : ℕ) (f g : ℕ → ℕ) (common rest other : List ℕ) →
    ((a : ℕ) → f a ≡ occurs a common + occurs a rest) → ((a : ℕ) → g a ≡ occurs a common + occurs a other) →
    (m : ℕ) → IsIn m rest → ((x : ℕ) → IsIn x rest → x < b) →
    ((y : ℕ) → IsIn y other → (x : ℕ) × IsIn x rest × y < x) → Falls b f g
falls-by zero f g common rest other hf hg m i small h = absurd (omega (arith, small m i))
falls-by (suc b) f g common rest other hf hg m i small h = go
    (λ s. falls-by b f g common rest other hf hg m i s h) (split (occurs b rest))
  where
    lower : (y : ℕ) → IsIn y other → y < b
    lower y j = let d = h y j in omega (arith, d.2, small d.0 d.1)

    gone : occurs b other ≡ 0
    gone = elim (split (occurs b other)) [ inl j ↦ absurd (omega (arith, lower b j)) | inr e ↦ e ]

    go : (((x : ℕ) → IsIn x rest → x < b) → Falls b f g) → (1 ≤ occurs b rest) ⊎ (occurs b rest ≡ 0) → Falls (suc b) f g
    go again (inl j) = inl (omega (arith, hf b, hg b, gone))
    go again (inr e) = inr (omega (arith, hf b, hg b, gone), again (λ x k. below x k (small x k)))
      where
        below : (x : ℕ) → IsIn x rest → x < suc b → x < b
        below x k l = elim (same x b) [
          | inl q ↦ absurd (let z : occurs x rest ≡ occurs b rest = ap (λ w. occurs w rest) q in
              omega arith)
          | inr n ↦ omega (arith, n)
        ]
          where
            same : (x y : ℕ) → (x ≡ y) ⊎ (x ≢ y)
            same x y = grind arith

-- a bound on the members
abbrev IsBelow : ℕ → List ℕ → Type 0
IsBelow b xs = (x : ℕ) → IsIn x xs → x < b

bound-of : (xs : List ℕ) → (b : ℕ) × IsBelow b xs
bound-of [] = (0, λ x i. absurd (none-in x i))
bound-of (y ∷ ys) =
    let r = bound-of ys in
    (suc y + r.0, λ x i. elim (in-cases x y ys i) [ inl e ↦ omega arith | inr j ↦ omega (arith, r.1 x j) ])

some-in : (xs : List ℕ) → 1 ≤ length xs → (x : ℕ) × IsIn x xs
some-in [] l = absurd (omega arith)
some-in (x ∷ xs) l = (x, head-in x xs)

sinks-below : (b : ℕ) (f : ℕ → ℕ) → (xs : List ℕ) → IsBelow b xs → ((a : ℕ) → f a ≡ occurs a xs) → Sinks xs
sinks-below b =
    falls-induction b (λ f. (xs : List ℕ) → IsBelow b xs → ((a : ℕ) → f a ≡ occurs a xs) → Sinks xs)
    (λ f ih xs small e. sinks xs (λ ys d.
    let left : (a : ℕ) → occurs a xs ≡ occurs a d.rests.common + occurs a d.rest = λ a. occurs-permutation a xs
    (d.rests.common ++ d.rest) d.rests.of_first ∙ occurs-append a d.rests.common d.rest in
    let right : (a : ℕ) → occurs a ys ≡ occurs a d.rests.common + occurs a d.other = λ a. occurs-permutation a
    ys (d.rests.common ++ d.other) d.rests.of_second ∙ occurs-append a d.rests.common d.other in
    let m = some-in d.rest d.not_empty in
    let rest_small : IsBelow b d.rest = λ x i. small x (omega (arith, left x)) in
    let greater : (y : ℕ) → IsIn y d.other → (x : ℕ) × IsIn x d.rest
    × y < x = λ y i. let g = d.has_greater y (in-contains d.other y i) in (g.0, contains-in d.rest g.0 g.1, g.2) in
    let ys_small : IsBelow b ys = λ x i. below-cases d.rests.common d.rest d.other x b rest_small greater
    (λ j. small x (omega (arith, left x))) (omega (arith, right x)) in
    ih (λ a. occurs a ys)
    (falls-by b f (λ a. occurs a ys) d.rests.common d.rest d.other (λ a. e a ∙ left a) right m.0 m.1 rest_small greater)
    ys ys_small (λ a. refl)))
  where
    below-cases : (common rest other : List ℕ) (x b : ℕ) → IsBelow b rest →
        ((y : ℕ) → IsIn y other → (x : ℕ) × IsIn x rest × y < x) → (IsIn x common → x < b) →
        1 ≤ occurs x common + occurs x other → x < b
    below-cases common rest other x b small greater c l = go (split (occurs x common))
      where
        go : (1 ≤ occurs x common) ⊎ (occurs x common ≡ 0) → x < b
        go (inl i) = c i
        go (inr e) = let g = greater x (omega arith) in omega (arith, g.2, small g.0 g.1)

-- every descent of weights ends
pub all_sink : (xs : List ℕ) → Sinks xs
all_sink xs = let b = bound-of xs in sinks-below b.0 (λ a. occurs a xs) xs b.1 (λ a. refl)

-- what is as heavy is heavier than what the other is heavier than
pub heavier_as : (w v u : List ℕ) → IsPermutation w v → IsHeavier v u → IsHeavier w u
heavier_as w v u p d = record {
  rest = d.rest;
  other = d.other;
  rests = record {
    common = d.rests.common;
    of_first = IsPermutation-trans w v (d.rests.common ++ d.rest) p d.rests.of_first;
    of_second = d.rests.of_second;
    apart = d.rests.apart;
  };
  not_empty = d.not_empty;
  has_greater = d.has_greater;
}
