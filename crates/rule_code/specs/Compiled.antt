-- The code of a term.
use Rattle.std.specs.Prelude.{◌≡◌, ◌⊎◌, ℕ, suc, ◌<◌, List, [], ◌∷◌, ◌++◌, Some, slice_get, length}
use Rattle.term_core.specs.Tree.{Tree, Trees, var, app, none, some, instance}
use Rattle.std.specs.List.{AllByRecursion}
use Rattle.spec_core.specs.declared.records.Rule.{Rule}
use Rattle.spec_core.specs.declared.records.Guard.{Guard}
use Rattle.spec_core.specs.Sig.{Sig, IsConstructor}
use Rattle.spec_core.specs.Sorts.{IsBuilt}
use Rattle.rule_code.specs.Code.{Step, build, call, End, slot, last, decide, entries}

module _ (sig : Sig) where
  -- a constructor is built, and a function called
  abbrev pub IsStep : ℕ → List ℕ → Step → Type 0
  IsStep f ss (build g us) = IsConstructor sig f × (g ≡ f) × (us ≡ ss)
  IsStep f ss (call g us) = ¬ (IsConstructor sig f) × (g ≡ f) × (us ≡ ss)

  -- each variable n is in the slot homes n. These steps put the term into a slot, where the slots up to `next` are
  -- taken before and those up to `end` after them
  module _ (homes : List ℕ) where
    abbrev mutual
      pub Codes : Tree → ℕ → List Step → ℕ → ℕ → Type 0
      Codes (var n) next steps s end = (steps ≡ []) × (slice_get homes n ≡ Some s) × (end ≡ next)
      Codes (app f ts) next steps s end = (inner : List Step) × (ss : List ℕ) × (step : Step)
          × CodesAll ts next inner ss s × IsStep f ss step × (steps ≡ inner ++ step ∷ [])
          × (end ≡ suc s)

      pub CodesAll : Trees → ℕ → List Step → List ℕ → ℕ → Type 0
      CodesAll none next steps ss end = (steps ≡ []) × (ss ≡ []) × (end ≡ next)
      CodesAll (some t ts) next steps ss end = (a : List Step) × (b : List Step) × (s : ℕ)
          × (us : List ℕ) × (mid : ℕ) × Codes t next a s mid × CodesAll ts mid b us end
          × (steps ≡ a ++ b) × (ss ≡ s ∷ us)

    -- the code of a term: it gives the term's slot, or ends with the call at the root
    abbrev pub IsBody : Tree → ℕ → List Step → End → Type 0
    IsBody t next steps (slot s) = (end : ℕ) × Codes t next steps s end
    IsBody t next steps (decide s number k hs) = ⊥
    IsBody t next steps (last f ss) = (ts : Trees) × (end : ℕ) × (t ≡ app f ts)
        × ¬ (IsConstructor sig f) × CodesAll ts next steps ss end

  -- each variable's slot has its value
  abbrev pub Holds : List ℕ → List Tree → List Tree → Type 0
  Holds homes env xs = (n s : ℕ) → slice_get homes n ≡ Some s → (s < length env)
      × (instance xs (var n) ≡ instance env (var s)) × IsBuilt sig (instance env (var s))

  -- the values of the variables are those of their slots
  pub record Fills (homes : List ℕ) (env xs : List Tree) : Type 0 where
    pub holds : Holds homes env xs
    pub are : entries env homes ≡ xs
    pub below : AllByRecursion (λ (h : ℕ). h < length env) homes

  -- the code that follows if the rule's first k guards hold: that of its test k, or of its right side if there is none
  abbrev pub IsNext : List ℕ → ℕ → Rule → ℕ → ℕ → List Step → End → Type 0
  IsNext homes number rule k next steps end =
      ((k ≡ length rule.guards) × IsBody homes rule.right next steps end)
      ⊎ ((g : Guard) × (s : ℕ) × (taken : ℕ) × (slice_get rule.guards k ≡ Some g)
      × Codes homes g.test next steps s taken × (end ≡ decide s number k homes))
