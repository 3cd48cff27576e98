-- How matches of variables and of terms make matches of lists.
use Rattle.std.proofs.Common.{◌≡◌, ◌≢◌, ℕ, List, [], ◌∷◌, Option, Some, None, Bool, true, false, IsTrue, ◌↔◌, ◌⊎◌, inl}
use Rattle.std.proofs.Common.{inr, refl, sym, ◌∙◌, ap, subst}
use Rattle.std.specs.Prelude.{Result, Ok, Err, IfOk}
use Rattle.std.specs.Option.{IsSome}
use Rattle.term_core.specs.declared.memory.OutOfMemory.{OutOfMemory}
use Rattle.term_core.specs.Tree.{Tree, var, some, trees_of}
use Rattle.term_core.specs.Variables.{Occurs, OccursAny}
use Rattle.substitutions.specs.Substitution.{entry, image, apply, apply_all}
use Rattle.substitutions.specs.Updates.{IsSetTo}
use Rattle.substitutions.proofs.Instances.{image_entry, apply_same}
use Rattle.matching.specs.Extending.{Binds, BindsAll}
use Rattle.matching.specs.Matching.{IsMatch, HasNoMatch}
use Rattle.term_core.proofs.Numbers.{same_or_not}

entry_of : (o : Option Tree) → IsSome o → (t : Tree) × (o ≡ Some t)
entry_of (Some t) h = (t, refl)
entry_of None h = absurd (let q : false ≡ true = h in cc)

is_some : {o : Option Tree} {t : Tree} → o ≡ Some t → IsSome o
is_some e = subst (λ x. IsSome x) (sym e) refl

-- a variable that was met before
pub binds_known :
    (old : List (Option Tree)) (n : ℕ) (t v : Tree) (r : Bool) → Some t ≡ entry old n →
    IsTrue r ↔ (t ≡ v) → Binds old (var n) v old r
binds_known old n t v true e h = record {
  made = image_entry old n t (sym e) ∙ h.0 refl;
  keeps = λ m u a. a;
  bound = λ m. (λ b. inl b, λ b. known m b);
  only = λ s a is. a;
}
  where
    known : (m : ℕ) → IsSome (entry old m) ⊎ (m ≡ n) → IsSome (entry old m)
    known m (inl b) = b
    known m (inr k) = is_some (ap (λ j. entry old j) k ∙ sym e)
binds_known old n t v false e h = λ s a is.
    let k : IsTrue false = h.1 (sym (a n t (sym e)) ∙ is) in
    absurd (let q : false ≡ true = k in cc)

-- a variable that gets its entry
pub binds_new :
    (old new : List (Option Tree)) (n : ℕ) (v : Tree) → entry old n ≡ None →
    IsSetTo old n v new → Binds old (var n) v new true
binds_new old new n v e h = record {
  made = image_entry new n v h.0;
  keeps = λ m t a. h.1 m (other m t a) ∙ a;
  bound = λ m. (λ b. here m b, λ b. there m b);
  only = λ s a is m t at. elim (same_or_not m n) [
    | inl k ↦
        let q : Some v ≡ Some t = sym h.0 ∙ ap (λ j. entry new j) (sym k) ∙ at in
        let same : v ≡ t = cc in
        rw k (is ∙ same)
    | inr k ↦ a m t (sym (h.1 m k) ∙ at)
  ];
}
  where
    other : (m : ℕ) (t : Tree) → entry old m ≡ Some t → m ≢ n
    other m t a k = let q : None ≡ Some t = sym e ∙ ap (λ j. entry old j) (sym k) ∙ a in cc

    here : (m : ℕ) → IsSome (entry new m) → IsSome (entry old m) ⊎ (m ≡ n)
    here m b = elim (same_or_not m n) [
      | inl k ↦ inr k
      | inr k ↦ inl (subst (λ o. IsSome o) (h.1 m k) b)
    ]

    there : (m : ℕ) → IsSome (entry old m) ⊎ (m ≡ n) → IsSome (entry new m)
    there m (inl b) = let t = entry_of (entry old m) b in is_some (h.1 m (other m t.0 t.1) ∙ t.1)
    there m (inr k) = is_some (ap (λ j. entry new j) k ∙ h.0)

-- a first pattern that matches, and then the rest
module _ (old mid new : List (Option Tree)) (p v : Tree) (ps vs : List Tree) where
  heads : (s : List (Option Tree)) → apply_all s (trees_of (p ∷ ps)) ≡ trees_of (v ∷ vs) → apply s p ≡ v
  heads s e = let q : some (apply s p) (apply_all s (trees_of ps)) ≡ some v (trees_of vs) = e in cc

  tails :
      (s : List (Option Tree)) → apply_all s (trees_of (p ∷ ps)) ≡ trees_of (v ∷ vs) →
      apply_all s (trees_of ps) ≡ trees_of vs
  tails s e = let q : some (apply s p) (apply_all s (trees_of ps)) ≡ some v (trees_of vs) = e in cc

  -- a variable of the first pattern keeps its image
  kept :
      Binds old p v mid true →
      ((n : ℕ) (t : Tree) → entry mid n ≡ Some t → entry new n ≡ Some t) →
      (n : ℕ) → Occurs n p → image new n ≡ image mid n
  kept b keeps n o =
      let t = entry_of (entry mid n) ((b.bound n).1 (inr o)) in
      image_entry new n t.0 (keeps n t.0 t.1) ∙ sym (image_entry mid n t.0 t.1)

  binds_more :
      (r : Bool) → Binds old p v mid true → BindsAll mid ps vs new r →
      BindsAll old (p ∷ ps) (v ∷ vs) new r
  binds_more true b c =
      let one : apply new p ≡ v = apply_same p new mid (kept b c.keeps) ∙ b.made in
      let rest : apply_all new (trees_of ps) ≡ trees_of vs = c.made in
      record {
        made = cc;
        keeps = λ n t e. c.keeps n t (b.keeps n t e);
        bound = λ n. (λ h. forth n ((c.bound n).0 h), λ h. (c.bound n).1 (back n h));
        only = λ s a e. c.only s (b.only s a (heads s e)) (tails s e);
      }
    where
      forth :
          (n : ℕ) → IsSome (entry mid n) ⊎ OccursAny n (trees_of ps) →
          IsSome (entry old n) ⊎ OccursAny n (trees_of (p ∷ ps))
      forth n (inr o) = inr (inr o)
      forth n (inl h) = elim ((b.bound n).0 h) [ inl k ↦ inl k | inr o ↦ inr (inl o) ]

      back :
          (n : ℕ) → IsSome (entry old n) ⊎ OccursAny n (trees_of (p ∷ ps)) →
          IsSome (entry mid n) ⊎ OccursAny n (trees_of ps)
      back n (inl h) = inl ((b.bound n).1 (inl h))
      back n (inr (inl o)) = inl ((b.bound n).1 (inr o))
      back n (inr (inr o)) = inr o
  binds_more false b c = λ s a e. c s (b.only s a (heads s e)) (tails s e)

pub binds_rest :
    (old mid new : List (Option Tree)) (xs ys : List Tree) (p v : Tree) (ps vs : List Tree)
    (r : Bool) (made : Result Bool OutOfMemory) → xs ≡ p ∷ ps → ys ≡ v ∷ vs → r ≡ true →
    Binds old p v mid r → IfOk made (BindsAll mid ps vs new) → IfOk made (BindsAll old xs ys new)
binds_rest old mid new xs ys p v ps vs r (Err e) h k t b c = tt
binds_rest old mid new xs ys p v ps vs r (Ok x) h k t b c = rw (h, k) (binds_more old mid new p v ps vs x (rw t at b) c)

no_entries : (n : ℕ) → IsSome (entry [] n) → ⊥
no_entries n h = let q : false ≡ true = h in cc

-- a match from no entries on
pub match_found :
    (pattern term : Tree) (s : List (Option Tree)) (r : Bool) → r ≡ true →
    Binds [] pattern term s r → IsMatch pattern term s
match_found pattern term s r t b =
    let yes : Binds [] pattern term s true = rw t at b in
    (yes.made, λ n. (λ h. here n ((yes.bound n).0 h), λ o. (yes.bound n).1 (inr o)))
  where
    here : (n : ℕ) → IsSome (entry [] n) ⊎ Occurs n pattern → Occurs n pattern
    here n (inl k) = absurd (no_entries n k)
    here n (inr o) = o

pub match_missing :
    (pattern term : Tree) (new : List (Option Tree)) (r : Bool) → r ≡ false →
    Binds [] pattern term new r → HasNoMatch pattern term
match_missing pattern term new r t b s e =
    let no_match : Binds [] pattern term new false = rw t at b in
    no_match s (λ n u a. absurd (let q : None ≡ Some u = a in cc)) e
