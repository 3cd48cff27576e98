-- Variables that are met one after the other are the first occurrences.
use Rattle.std.proofs.Common.{◌≡◌, ◌≢◌, ℕ, List, [], ◌∷◌, ◌++◌, Bool, false, not, cond, ◌==◌, ◌||◌, filter, inl, inr}
use Rattle.std.proofs.Common.{refl, ap, sym, ◌∙◌, append_assoc}
use Rattle.std.specs.List.{list_any}
use Rattle.std.proofs.lemmas.Bool.{cases_Bool}
use Rattle.std.proofs.lemmas.Bool.Decides.{eqb_tells}
use Rattle.std.proofs.lemmas.List.{append-nil}
use Rattle.std.proofs.lemmas.List.Elements.{filter-append}
use Rattle.term_core.specs.Variables.{firsts}
use Rattle.term_core.specs.Gathered.{met, gathered}

abbrev among : List ℕ → ℕ → Bool
among ns n = list_any (λ m. m == n) ns

abbrev without : ℕ → List ℕ → List ℕ
without k ns = filter (λ m. not (m == k)) ns

-- the test for a number doesn't see that another one is taken out
among_without : (k n : ℕ) (ns : List ℕ) → k ≢ n → among (without k ns) n ≡ among ns n
among_without k n [] d = refl
among_without k n (m ∷ ms) d = elim (eqb_tells m k) [
  | inl e ↦
      ap (λ b. among (cond (not b) (m ∷ without k ms) (without k ms)) n) e.0 ∙ among_without k n ms d
      ∙ ap (λ b. b || among ms n) (sym (other e.1))
  | inr e ↦
      ap (λ b. among (cond (not b) (m ∷ without k ms) (without k ms)) n) e.0
      ∙ ap (λ b. (m == n) || b) (among_without k n ms d)
]
  where
    other : m ≡ k → (m == n) ≡ false
    other p = elim (eqb_tells m n) [ inl q ↦ absurd (d (sym p ∙ q.1)) | inr q ↦ q.0 ]

-- meeting a number after the first one
met_behind : (k n : ℕ) (ns : List ℕ) → met (k ∷ without k ns) n ≡ k ∷ without k (met ns n)
met_behind k n ns = elim (eqb_tells k n) [
  | inl e ↦ (
      let old : met (k ∷ without k ns) n ≡ k ∷ without k ns = ap
      (λ b. cond (b || among (without k ns) n) (k ∷ without k ns) ((k ∷ without k ns) ++ n ∷ [])) e.0 in
      elim (cases_Bool (among ns n)) [
        | inl a ↦ old ∙ ap (λ b. k ∷ without k (cond b ns (ns ++ n ∷ []))) (sym a)
        | inr a ↦ old ∙ ap (λ ms. k ∷ ms) (sym (gone (sym e.1)))
            ∙ ap (λ b. k ∷ without k (cond b ns (ns ++ n ∷ []))) (sym a)
      ])
  | inr e ↦ (
      let same : met (k ∷ without k ns) n ≡ cond (among ns n) (k ∷ without k ns) ((k ∷ without k ns) ++ n ∷ []) =
      ap (λ b. cond (b || among (without k ns) n) (k ∷ without k ns) ((k ∷ without k ns) ++ n ∷ [])) e.0
      ∙ ap (λ b. cond b (k ∷ without k ns) ((k ∷ without k ns) ++ n ∷ [])) (among_without k n ns e.1) in
      elim (cases_Bool (among ns n)) [
        | inl a ↦ same ∙ ap (λ b. cond b (k ∷ without k ns) ((k ∷ without k ns) ++ n ∷ [])) a
            ∙ ap (λ b. k ∷ without k (cond b ns (ns ++ n ∷ []))) (sym a)
        | inr a ↦ same ∙ ap (λ b. cond b (k ∷ without k ns) ((k ∷ without k ns) ++ n ∷ [])) a
            ∙ ap (λ ms. k ∷ ms) (sym (stays (λ p. e.1 (sym p))))
            ∙ ap (λ b. k ∷ without k (cond b ns (ns ++ n ∷ []))) (sym a)
      ])
]
  where
    gone : n ≡ k → without k (ns ++ n ∷ []) ≡ without k ns
    gone p = elim (eqb_tells n k) [
      | inl q ↦ filter-append (λ m. not (m == k)) ns (n ∷ [])
          ∙ ap (λ b. without k ns ++ cond (not b) (n ∷ []) []) q.0 ∙ append-nil (without k ns)
      | inr q ↦ absurd (q.1 p)
    ]

    stays : n ≢ k → without k (ns ++ n ∷ []) ≡ without k ns ++ n ∷ []
    stays d = elim (eqb_tells n k) [
      | inl q ↦ absurd (d q.1)
      | inr q ↦ filter-append (λ m. not (m == k)) ns (n ∷ []) ∙ ap (λ b. without k ns ++ cond (not b) (n ∷ []) []) q.0
    ]

met_firsts : (seen : List ℕ) (n : ℕ) → met (firsts seen) n ≡ firsts (seen ++ n ∷ [])
met_firsts [] n = refl
met_firsts (k ∷ seen) n = met_behind k n (firsts seen) ∙ ap (λ ms. k ∷ without k ms) (met_firsts seen n)

after_firsts : (seen ns : List ℕ) → gathered (firsts seen) ns ≡ firsts (seen ++ ns)
after_firsts seen [] = ap (λ ms. firsts ms) (sym (append-nil seen))
after_firsts seen (n ∷ ns) =
    ap (λ ms. gathered ms ns) (met_firsts seen n) ∙ after_firsts (seen ++ n ∷ []) ns
    ∙ ap (λ ms. firsts ms) (append_assoc seen (n ∷ []) ns)

pub gathered_firsts : (ns : List ℕ) → gathered [] ns ≡ firsts ns
gathered_firsts ns = after_firsts [] ns
