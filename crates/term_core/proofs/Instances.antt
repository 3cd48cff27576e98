-- What an instance tells of the entries, and what the entries tell of an instance.
use Rattle.std.proofs.Common.{◌≡◌, ℕ, List, inl, inr, refl, ap}
use Rattle.term_core.specs.Tree.{Tree, Trees, var, app, none, some, instance, instances}
use Rattle.term_core.specs.Variables.{Occurs, OccursAny}

mutual
  -- if the instances are the same, so are the entries of each variable that occurs
  pub agree : (t : Tree) (xs ys : List Tree) → instance xs t ≡ instance ys t → (n : ℕ) → Occurs n t →
      instance xs (var n) ≡ instance ys (var n)
  agree (var m) xs ys e n o = rw o e
  agree (app f ts) xs ys e n o = agrees ts xs ys
      (let q : app f (instances xs ts) ≡ app f (instances ys ts) = e in cc) n o

  pub agrees : (ts : Trees) (xs ys : List Tree) → instances xs ts ≡ instances ys ts → (n : ℕ) → OccursAny n ts →
      instance xs (var n) ≡ instance ys (var n)
  agrees none xs ys e n o = absurd o
  agrees (some t ts) xs ys e n (inl o) = agree t xs ys (let q : some (instance xs t) (instances xs ts) ≡ some
      (instance ys t) (instances ys ts) = e in cc) n o
  agrees (some t ts) xs ys e n (inr o) = agrees ts xs ys (let q : some (instance xs t) (instances xs ts) ≡ some
      (instance ys t) (instances ys ts) = e in cc) n o

mutual
  pub same_instance : (t : Tree) (xs ys : List Tree) →
      ((n : ℕ) → Occurs n t → instance xs (var n) ≡ instance ys (var n)) → instance xs t ≡ instance ys t
  same_instance (var m) xs ys h = h m refl
  same_instance (app f ts) xs ys h = ap (λ us. app f us) (same_instances ts xs ys h)

  pub same_instances : (ts : Trees) (xs ys : List Tree) →
      ((n : ℕ) → OccursAny n ts → instance xs (var n) ≡ instance ys (var n)) → instances xs ts ≡ instances ys ts
  same_instances none xs ys h = refl
  same_instances (some t ts) xs ys h =
      let p : instance xs t ≡ instance ys t = same_instance t xs ys (λ n o. h n (inl o)) in
      let q : instances xs ts ≡ instances ys ts = same_instances ts xs ys (λ n o. h n (inr o)) in
      cc
