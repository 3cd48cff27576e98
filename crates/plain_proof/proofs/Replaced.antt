-- A term for one variable alone.
use Rattle.std.proofs.Common.{◌≡◌, ◌≢◌, ℕ, zero, suc, List, [], Some, None, Option, inl, inr, refl, ap, sym, ◌∙◌, subst}
use Rattle.term_core.specs.Tree.{Tree, var}
use Rattle.term_core.proofs.Numbers.{same_or_not}
use Rattle.substitutions.specs.Substitution.{entry, image, apply}
use Rattle.substitutions.specs.Updates.{IsSetTo}
use Rattle.substitutions.proofs.Instances.{apply_same, image_entry, image_none}
use Rattle.plain_proof.specs.Cases.{only}

only_here : (x : ℕ) (t : Tree) → entry (only x t) x ≡ Some t
only_here zero t = refl
only_here (suc x) t = only_here x t

only_apart : (x : ℕ) (t : Tree) (m : ℕ) → m ≢ x → entry (only x t) m ≡ None
only_apart zero t zero n = absurd (n refl)
only_apart zero t (suc m) n = refl
only_apart (suc x) t zero n = refl
only_apart (suc x) t (suc m) n = only_apart x t m (λ e. n (ap (λ k. suc k) e))

pub image_here : (x : ℕ) (t : Tree) → image (only x t) x ≡ t
image_here x t = image_entry (only x t) x t (only_here x t)

pub image_apart : (x : ℕ) (t : Tree) (m : ℕ) → m ≢ x → image (only x t) m ≡ var m
image_apart x t m n = image_none (only x t) m (only_apart x t m n)

-- what each variable becomes
pub only_image : (x : ℕ) (t : Tree) (P : Tree → Type 0) → P t → ((m : ℕ) → P (var m)) → (m : ℕ) → P (image (only x t) m)
only_image x t P here others m =
    elim (same_or_not m x) as (λ _. P (image (only x t) m)) [
      | inl e ↦ subst P (sym (image_entry (only x t) m t (ap (λ k. entry (only x t) k) e ∙ only_here x t))) here
      | inr n ↦ subst P (sym (image_none (only x t) m (only_apart x t m n))) (others m)
    ]

same_image : (made : List (Option Tree)) (x : ℕ) (t : Tree) → IsSetTo [] x t made → (m : ℕ) →
    image made m ≡ image (only x t) m
same_image made x t is m =
    elim (same_or_not m x) as (λ _. image made m ≡ image (only x t) m) [
      | inl e ↦ image_entry made m t (ap (λ k. entry made k) e ∙ is.0)
          ∙ sym (image_entry (only x t) m t (ap (λ k. entry (only x t) k) e ∙ only_here x t))
      | inr n ↦ image_none made m (is.1 m n) ∙ sym (image_none (only x t) m (only_apart x t m n))
    ]

-- a substitution without entries, in which one is set
pub set_is_only : (made : List (Option Tree)) (x : ℕ) (t : Tree) → IsSetTo [] x t made → (u : Tree) →
    apply made u ≡ apply (only x t) u
set_is_only made x t is u = apply_same u made (only x t) (λ m o. same_image made x t is m)
