-- Terms at places of a bank that are looked at.
use Rattle.std.proofs.Common.{◌≡◌, ℕ, List, [], ◌∷◌, ◌++◌, Some, sym, subst}
use Rattle.std.specs.Prelude.{slice_get}
use Rattle.term_core.specs.Tree.{Tree, Trees, var, app, none, some}
use Rattle.term_core.proofs.Items.{all_append}
use Rattle.spec_core.specs.Sig.{Sig}
use Rattle.spec_core.specs.Sorts.{IsBuilt, AreBuilt}
use Rattle.value_bank.specs.Ground.{IsGround, AreGround}
use Rattle.value_bank.specs.Cells.{Cell, cell, IsTerm, AreTerms}
use Rattle.value_bank.proofs.Terms.{same_cell}
use Rattle.sample_values.specs.Evaluators.{HaveTerms}

module _ (cells : List Cell) where
  pub first_terms : (xs : List ℕ) (p : ℕ) → HaveTerms cells (xs ++ p ∷ []) → HaveTerms cells xs
  first_terms [] p h = tt
  first_terms (x ∷ xs) p h = (h.0, first_terms xs p h.1)

  pub last_term : (xs : List ℕ) (p : ℕ) → HaveTerms cells (xs ++ p ∷ []) → (t : Tree) × IsTerm cells p t
  last_term [] p h = h.0
  last_term (x ∷ xs) p h = last_term xs p h.1

  all_terms : (ps : List ℕ) (ts : Trees) → AreTerms cells ps ts → HaveTerms cells ps
  all_terms [] ts h = tt
  all_terms (p ∷ ps) none h = absurd h
  all_terms (p ∷ ps) (some t ts) h = ((t, h.0), all_terms ps ts h.1)

  -- the arguments of a term that is there
  pub arguments_there : (p f : ℕ) (ps : List ℕ) (t : Tree) → IsTerm cells p t → slice_get cells p ≡ Some (cell f ps) →
      HaveTerms cells ps
  arguments_there p f ps (var n) h at = absurd h
  arguments_there p f ps (app g ts) h at =
      let same = (same_cell cells p g f h.0 ps h.1 at).1 in
      subst (λ qs. HaveTerms cells qs) same (all_terms h.0 ts h.2)

  -- a place gives way to those of its arguments
  pub terms_next : (pending rest new args : List ℕ) (p f : ℕ) → pending ≡ rest ++ p ∷ [] → HaveTerms cells pending →
      slice_get cells p ≡ Some (cell f args) → new ≡ rest ++ args → HaveTerms cells new
  terms_next pending rest new args p f e h at more =
      let all = subst (λ xs. HaveTerms cells xs) e h in
      let t = last_term rest p all in
      subst (λ xs. HaveTerms cells xs) (sym more) (all_append (λ (q : ℕ). (u : Tree) × IsTerm cells q u) rest args
      (first_terms rest p all) (arguments_there p f args t.0 t.1 at))

mutual
  pub built_ground : (sig : Sig) (t : Tree) → IsBuilt sig t → IsGround t
  built_ground sig (var n) h = absurd h
  built_ground sig (app f ts) h = all_ground sig ts h.1

  all_ground : (sig : Sig) (ts : Trees) → AreBuilt sig ts → AreGround ts
  all_ground sig none h = tt
  all_ground sig (some t ts) h = (built_ground sig t h.0, all_ground sig ts h.1)
