-- What holds of each candidate of the list: if it holds of single steps, of fitting lists and of
-- rewriting lists, it holds of all.
use Rattle.std.proofs.Common.{◌≡◌, ℕ, List, [], ◌∷◌, ◌++◌, Bool, refl}
use Rattle.std.specs.Prelude.{flat_map}
use Rattle.std.specs.List.{AllByRecursion}
use Rattle.term_core.specs.Tree.{Tree}
use Rattle.term_core.specs.declared.ids.SortId.{SortId}
use Rattle.term_core.proofs.Items.{all_append}
use Rattle.spec_core.specs.declared.records.Goal.{Goal}
use Rattle.spec_core.specs.declared.records.Spec.{Spec}
use Rattle.spec_core.specs.Sig.{Sig}
use Rattle.clause_core.specs.declared.clauses.Clause.{Clause}
use Rattle.clause_core.specs.declared.steps.Step.{Step}
use Rattle.clause_core.specs.declared.steps.Step.TheVariants.{Cover, Generalize}
use Rattle.clause_places.specs.Spots.{Spot}
use Rattle.test_sets.specs.TestSets.{test_set_of}
use Rattle.routine_proof.specs.Candidates.{Candidate, Asks, certain, each}
use Rattle.routine_proof.specs.Entries.{entries, cover, by_fitting, by_rewriting}
use Rattle.routine_proof.specs.Ways.{Node}

-- a step as the list has it: a cover is by the test set of a sort, and nothing is generalized
abbrev pub IsListed : Sig → Step → Type 0
IsListed sig (Cover v patterns) = (s : SortId) × (patterns ≡ test_set_of sig s)
IsListed sig (Generalize t) = ⊥
IsListed sig _ = Unit {0}

all_each :
    {A B : Type 0} (P : B → Type 0) (xs : List A) (f : A → List B) →
    ((a : A) → AllByRecursion P (f a)) → AllByRecursion P (each xs f)
unfolding each
all_each P [] f h = tt
all_each P (x ∷ xs) f h = all_append P (f x) (flat_map f xs) (h x) (all_each P xs f h)

-- all candidates are such
pub record AreAll (P : Candidate → Type 0) (cs : List Candidate) : Type 0 where
  pub all : AllByRecursion P cs

module _ {P : Candidate → Type 0} where
  both : {xs ys : List Candidate} → AreAll P xs → AreAll P ys → AreAll P (xs ++ ys)
  both {xs} {ys} p q = record { all = all_append P xs ys p.all q.all }

  every :
      {A : Type 0} (xs : List A) (f : A → List Candidate) →
      ((a : A) → AreAll P (f a)) → AreAll P (each xs f)
  every xs f h = record { all = all_each P xs f (λ a. (h a).all) }

-- what holds of the kinds of candidates that the entries are made of
pub record HoldsOfKinds (sig : Sig) (P : Candidate → Type 0) : Type 0 where
  pub single : (step : Step) → IsListed sig step → AreAll P (certain step)
  pub fits :
      (here referred : Clause) (asks : Asks) (step : List Tree → Step) →
      ((list : List Tree) → IsListed sig (step list)) →
      AreAll P (by_fitting here referred asks step)
  pub rewrites :
      (referred : Clause) (step : List Tree → Bool → Step) (spot : Spot) →
      ((list : List Tree) (left : Bool) → IsListed sig (step list left)) →
      AreAll P (by_rewriting referred step spot)

module _ (spec : Spec) (P : Candidate → Type 0) (h : HoldsOfKinds spec.sig P) where
  pub cover_all : (c : Clause) (v : ℕ) → AreAll P (cover spec c v)
  cover_all c v = every _ _ (λ s. h.single _ (s, refl))

  pub entries_all :
      (lemmas : List Goal) (nodes : List Node) (node : Node) →
      AreAll P (entries spec lemmas nodes node)
  entries_all lemmas nodes node =
      both (every _ _ (λ k. h.single _ tt))
      (both (every _ _ (λ k. every _ _ (λ j. h.single _ tt)))
      (both (every _ _ (λ j. h.single _ tt))
      (both (every _ _ (λ j. h.single _ tt))
      (both (every _ _ (λ k. h.single _ tt))
      (both (every _ _ (λ j. h.single _ tt))
      (both (every _ _ (λ p. every _ _ (λ n. h.single _ tt)))
      (both (every _ _ (λ k. h.single _ tt))
      (both (every _ _ (λ j. every _ _ (λ d. h.fits _ _ _ _ (λ list. tt))))
      (both (every _ _ (λ g. h.fits _ _ _ _ (λ list. tt)))
      (both (every _ _ (λ s. every _ _ (λ d. h.rewrites _ _ _ (λ list left. tt))))
      (both (every _ _ (λ g. every _ _ (λ s. h.rewrites _ _ _ (λ list left. tt))))
      (both (every _ _ (λ p. every _ _ (λ n. h.single _ tt)))
      (both (every _ _ (λ v. cover_all node.clause v))
      (record { all = tt }))))))))))))))
