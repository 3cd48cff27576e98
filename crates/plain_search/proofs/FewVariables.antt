-- Numbers below a number, each once, are no more than that.
use Rattle.std.proofs.Common.{◌≡◌, ◌≢◌, ℕ, ◌<◌, ◌≤◌, ◌||◌, List, [], ◌∷◌, true, false, inl, inr, length, ap, sym, ◌∙◌}
use Rattle.std.proofs.Common.{arith}
use Rattle.std.specs.List.{AllByRecursion, IsDistinct, list_any}
use Rattle.std.proofs.Math.Dec.{eqb}
use Rattle.std.proofs.lemmas.Bool.Decides.{eqb_tells}
use Rattle.std.proofs.lemmas.Map.Steps.{length-le_from_distinct_below}
use Rattle.term_core.specs.Variables.{firsts}
use Rattle.plain_proof.proofs.RenamedTidying.{firsts_all}
use Rattle.plain_search.proofs.Variables.{AreApart, firsts_apart}

others_differ : (n : ℕ) (ns : List ℕ) → AllByRecursion (λ m. m ≢ n) ns → AllByRecursion (λ m. eqb n m ≡ false) ns
others_differ n [] h = tt
others_differ n (m ∷ ns)
    h = (
      elim (eqb_tells n m) as (λ _. eqb n m ≡ false) [ inl y ↦ absurd (h.0 (sym y.1)) | inr z ↦ z.0 ],
      others_differ n ns h.1,
    )

distinct : (ns : List ℕ) → AreApart ns → IsDistinct eqb ns
unfolding IsDistinct
distinct [] h = tt
distinct (n ∷ ns) h = (others_differ n ns h.0, distinct ns h.1)

found_below : (k : ℕ) (ns : List ℕ) → AllByRecursion (λ n. n < k) ns → (q : ℕ) → list_any (eqb q) ns ≡ true → q < k
found_below k [] h q e = absurd (let z : false ≡ true = e in cc)
found_below k (n ∷ ns) h q e = elim (eqb_tells q n) as (λ _. q < k) [
  | inl y ↦ omega (arith, y.1, h.0)
  | inr d ↦ found_below k ns h.1 q (ap (λ b. b || list_any (eqb q) ns) (sym d.0) ∙ e)
]

pub firsts_below : (k : ℕ) (ns : List ℕ) → AllByRecursion (λ n. n < k) ns → length (firsts ns) ≤ k
firsts_below k ns h = length-le_from_distinct_below (firsts ns) k (distinct (firsts ns) (firsts_apart ns))
    (found_below k (firsts ns) (firsts_all (λ n. n < k) ns h))
