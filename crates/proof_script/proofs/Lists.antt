-- Lists that begin the same list, and bytes up to where a class of them ends.
use Rattle.std.proofs.Common.{◌≡◌, ℕ, List, [], ◌∷◌, ◌++◌, refl, sym, subst}
use Rattle.std.specs.List.{AllByRecursion}
use Rattle.proof_script.specs.Delimiters.{Stops}

pub nil_cons : {X : Type 0} {x : X} {xs : List X} → ◌≡◌ {A = List X} [] (x ∷ xs) → ⊥
nil_cons e = cc

pub cons_nil : {X : Type 0} {x : X} {xs : List X} → ◌≡◌ {A = List X} (x ∷ xs) [] → ⊥
cons_nil e = cc

pub same_head : {X : Type 0} {x y : X} {xs ys : List X} → x ∷ xs ≡ y ∷ ys → x ≡ y
same_head e = cc

pub same_tail : {X : Type 0} {x y : X} {xs ys : List X} → x ∷ xs ≡ y ∷ ys → xs ≡ ys
same_tail e = cc

pub record Same (a b r s : List ℕ) : Type 0 where
  pub text : a ≡ b
  pub rest : r ≡ s

-- two runs of a class that go on to the same bytes are the same, if the class ends after them
pub run_one : (P : ℕ → Type 0) (a b r s : List ℕ) → AllByRecursion P a → AllByRecursion P b → Stops P r →
    Stops P s → a ++ r ≡ b ++ s → Same a b r s
run_one P [] [] r s p q u v e = record { text = refl; rest = e }
run_one P [] (c ∷ b) [] s p q u v e = absurd (nil_cons e)
run_one P [] (c ∷ b) (d ∷ r) s p q u v e = absurd (u (subst P (sym (same_head e)) q.0))
run_one P (c ∷ a) [] r [] p q u v e = absurd (cons_nil e)
run_one P (c ∷ a) [] r (d ∷ s) p q u v e = absurd (v (subst P (same_head e) p.0))
run_one P (c ∷ a) (d ∷ b) r s p q u v e =
    let h : c ≡ d = same_head e in
    let k = run_one P a b r s p.1 q.1 u v (same_tail e) in
    record { text = λ i. h i ∷ k.text i; rest = k.rest }
