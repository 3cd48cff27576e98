-- The next variable of a term and of terms, from those of the parts.
use Rattle.std.proofs.Common.{◌≡◌, ℕ, ◌+◌, List, ◌∷◌, ap, subst, arith}
use Rattle.std.specs.Prelude.{Option, Some, None}
use Rattle.term_core.specs.Tree.{Tree, app, trees_of}
use Rattle.term_core.specs.declared.ids.VarId.{VarId}
use Rattle.kbo_order.specs.Weights.{times, times_in_all}
use Rattle.kbo_order.specs.NextVariable.{IsNext}

-- if there are as many
same-next :
    (from : ℕ) (p q : ℕ → ℕ) → ((x : ℕ) → q x ≡ p x) → (r : Option VarId) → IsNext from p r →
    IsNext from q r
same-next from p q same None h = λ x l. omega (arith, same x, h x l)
same-next from p q same (Some v) h =
    (h.0, omega (arith, same v.0, h.1), λ x l m. omega (arith, same x, h.2 x l m))

pub of-application :
    (from : ℕ) (ts : List Tree) (r : Option VarId) {t : Tree} {f : ℕ} → t ≡ app f (trees_of ts) →
    IsNext from (λ x. times_in_all x (trees_of ts)) r → IsNext from (λ x. times x t) r
of-application from ts r {t} {f} e =
    same-next from (λ x. times_in_all x (trees_of ts)) (λ x. times x t)
    (λ x. let h : times x t ≡ times x (app f (trees_of ts)) = ap (λ u. times x u) e in omega (arith, h)) r

-- in the first term or in the others
module _ {us ts : List Tree} {t : Tree} (e : us ≡ t ∷ ts) where
  parted : (x : ℕ) → times_in_all x (trees_of us) ≡ times x t + times_in_all x (trees_of ts)
  parted x = ap (λ vs. times_in_all x (trees_of vs)) e

  pub in-first :
      (from : ℕ) (v : VarId) → IsNext from (λ x. times x t) (Some v) →
      IsNext from (λ x. times_in_all x (trees_of ts)) None →
      IsNext from (λ x. times_in_all x (trees_of us)) (Some v)
  in-first from v a b = (
    a.0,
    omega (arith, a.1, parted v.0),
    λ x l m. omega (arith, a.2 x l m, b x l, parted x),
  )

  pub in-others :
      (from : ℕ) (r : Option VarId) → IsNext from (λ x. times x t) None →
      IsNext from (λ x. times_in_all x (trees_of ts)) r →
      IsNext from (λ x. times_in_all x (trees_of us)) r
  in-others from None a b = λ x l. omega (arith, a x l, b x l, parted x)
  in-others from (Some v) a b =
      (b.0, omega (arith, b.1, parted v.0), λ x l m. omega (arith, a x l, b.2 x l m, parted x))

  -- if the test of the first term found none
  pub in-others-as :
      (from : ℕ) (first r : Option VarId) → first ≡ None → IsNext from (λ x. times x t) first →
      IsNext from (λ x. times_in_all x (trees_of ts)) r →
      IsNext from (λ x. times_in_all x (trees_of us)) r
  in-others-as from first r is a = in-others from r (subst (λ o. IsNext from (λ x. times x t) o) is a)
