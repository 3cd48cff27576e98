-- What holds of all items holds of one that is taken out, and of those that are left.
use Rattle.std.proofs.Common.{ℕ, zero, suc, List, [], ◌∷◌, sym, subst}
use Rattle.std.specs.Prelude.{remove}
use Rattle.std.specs.List.{AllByRecursion}
use Rattle.term_core.proofs.Items.{all_at_or}
use Rattle.open_goals.specs.Taking.{IsTaken}

module _ {X : Type 0} (P : X → Type 0) where
  removed : (xs : List X) (i : ℕ) → AllByRecursion P xs → AllByRecursion P (remove xs i)
  removed [] zero all = tt
  removed [] (suc i) all = tt
  removed (x ∷ xs) zero all = all.1
  removed (x ∷ xs) (suc i) all = (all.0, removed xs i all.1)

  pub taken_out : (old new : List X) (x : X) → IsTaken old new x → AllByRecursion P old → P x
  taken_out old new x taken all =
      subst P (sym taken.2) (all_at_or P old taken.0 x all taken.1)

  pub taken_left :
      (old new : List X) (x : X) → IsTaken old new x → AllByRecursion P old → AllByRecursion P new
  taken_left old new x taken all =
      subst (AllByRecursion P) (sym taken.3) (removed old taken.0 all)
