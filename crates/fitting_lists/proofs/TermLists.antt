-- What a match finds from no entries on answers the question for its patterns, and nothing else
-- does.
use Rattle.std.proofs.Common.{◌≡◌, ℕ, List, [], ◌∷◌, Option, Some, None, Bool, true, false, inl, inr, map, length}
use Rattle.std.proofs.Common.{refl, ap, sym, ◌∙◌, subst, unwrap_or}
use Rattle.std.specs.Prelude.{◌⊎◌, Ok, replicate}
use Rattle.std.specs.Option.{IsSome}
use Rattle.term_core.specs.Tree.{Tree, var, some, none, trees_of, instance}
use Rattle.term_core.specs.Variables.{Occurs, OccursAny}
use Rattle.term_core.proofs.Trees.{trees_of-inj}
use Rattle.substitutions.specs.Substitution.{entry, apply, apply_all}
use Rattle.substitutions.proofs.Instances.{apply_all_same, apply_all_values}
use Rattle.matching.specs.Bindings.{present}
use Rattle.matching.specs.Extending.{Agrees, Binds, BindsAll}
use Rattle.matching.proofs.BoundEntries.{no_entry}
use Rattle.matching.proofs.Extending.{binds_rest}
use Rattle.fitting_lists.specs.Questions.{Question, Answers}
use Rattle.fitting_lists.specs.Answering.{AreVariables, IsOnlyAnswer}
use Rattle.fitting_lists.proofs.BoundEntries.{filled, AreBound, all_there}
use Rattle.fitting_lists.proofs.Determined.{IsDetermined, one_list, instances-trees_of}

-- a first pattern that fails fails the list, and one pattern is a list
module _ (old new : List (Option Tree)) (p v : Tree) where
  first_of :
      (s : List (Option Tree)) (ps vs : List Tree) →
      apply_all s (trees_of (p ∷ ps)) ≡ trees_of (v ∷ vs) → apply s p ≡ v
  first_of s ps vs e =
      let q : some (apply s p) (apply_all s (trees_of ps)) ≡ some v (trees_of vs) = e in cc

  pub first_fails :
      (ps vs : List Tree) (r : Bool) → r ≡ false → Binds old p v new r →
      BindsAll old (p ∷ ps) (v ∷ vs) new false
  first_fails ps vs r is b s agrees e =
      let fails : Binds old p v new false = rw is at b in fails s agrees (first_of s ps vs e)

  pub one_pattern :
      (r : Bool) → Binds old p v new r → BindsAll old (p ∷ []) (v ∷ []) new r
  one_pattern false b = first_fails [] [] false refl b
  one_pattern true b = record {
    made = ap (λ u. some u none) b.made;
    keeps = b.keeps;
    bound = λ n. (λ i. there n ((b.bound n).0 i), λ h. (b.bound n).1 (back n h));
    only = λ s agrees e. b.only s agrees (first_of s [] [] e);
  }
    where
      there :
          (n : ℕ) → IsSome (entry old n) ⊎ Occurs n p →
          IsSome (entry old n) ⊎ OccursAny n (trees_of (p ∷ []))
      there n (inl i) = inl i
      there n (inr o) = inr (inl o)

      back :
          (n : ℕ) → IsSome (entry old n) ⊎ OccursAny n (trees_of (p ∷ [])) →
          IsSome (entry old n) ⊎ Occurs n p
      back n (inl i) = inl i
      back n (inr (inl o)) = inr o
      back n (inr (inr o)) = absurd o

-- two patterns, the one after the other
pub two_patterns :
    (old mid new : List (Option Tree)) (p q v w : Tree) (r s : Bool) → r ≡ true →
    Binds old p v mid r → Binds mid q w new s →
    BindsAll old (p ∷ q ∷ []) (v ∷ w ∷ []) new s
two_patterns old mid new p q v w r s is b c =
    binds_rest old mid new (p ∷ q ∷ []) (v ∷ w ∷ []) p v (q ∷ []) (w ∷ []) r (Ok s) refl refl is b
    (one_pattern mid new q w s c)

module _ (count : ℕ) (patterns terms : List Tree) where
  -- which list makes the patterns the terms?
  abbrev asked : Question
  asked = record { variables = count; patterns = patterns; terms = terms }

  -- no variable has an entry yet
  abbrev IsEmpty : List (Option Tree) → Type 0
  IsEmpty old = old ≡ replicate count None

  empty : (old : List (Option Tree)) → IsEmpty old → (n : ℕ) → entry old n ≡ None
  empty old is n = ap (λ es. entry es n) is ∙ no_entry count n

  all_agree : (old s : List (Option Tree)) → IsEmpty old → Agrees old s
  all_agree old s is n t e =
      absurd (let q : None ≡ Some t = sym (empty old is n) ∙ e in cc)

  made_by :
      (list : List Tree) →
      apply_all (filled list) (trees_of patterns) ≡ trees_of (map (instance list) patterns)
  made_by list = apply_all_values list (trees_of patterns) ∙ instances-trees_of list patterns

  pub no_list :
      (old new : List (Option Tree)) → IsEmpty old → BindsAll old patterns terms new false →
      IsOnlyAnswer asked None
  no_list old new is fails list a =
      fails (filled list) (all_agree old (filled list) is) (made_by list ∙ ap trees_of a.1)

  module _ (are : AreVariables count patterns) where
    determined : IsDetermined asked
    determined n lt = (are n).1 lt

    answers :
        (new : List (Option Tree)) (list : List Tree) → length list ≡ count →
        ((n : ℕ) → entry new n ≡ entry (filled list) n) →
        apply_all new (trees_of patterns) ≡ trees_of terms → Answers asked list
    answers new list long same made = (
      long,
      trees_of-inj (map (instance list) patterns) terms (
          sym (made_by list)
          ∙ apply_all_same (trees_of patterns) (filled list) new
          (λ n o. ap (λ e. unwrap_or e (var n)) (sym (same n)))
          ∙ made),
    )

    all_bound :
        (old new : List (Option Tree)) → IsEmpty old → BindsAll old patterns terms new true →
        AreBound new count
    all_bound old new is found n = (
      λ i. elim ((found.bound n).0 i) [
        | inl k ↦
            absurd (let q : false ≡ true = subst (λ o. IsSome o) (empty old is n) k in cc)
        | inr o ↦ (are n).0 o
      ],
      λ lt. (found.bound n).1 (inr ((are n).1 lt)),
    )

    pub only_list :
        (old new : List (Option Tree)) (r : Bool) (list : List Tree) → IsEmpty old → r ≡ true →
        BindsAll old patterns terms new r → list ≡ present new → IsOnlyAnswer asked (Some list)
    only_list old new r list is matches binds listed =
        let found : BindsAll old patterns terms new true = rw matches at binds in
        let there = all_there new count (all_bound old new is found) in
        let a : Answers asked (present new) =
        answers new (present new) there.0 there.1 found.made in
        subst (λ ts. IsOnlyAnswer asked (Some ts)) (sym listed)
        (a, λ other b. one_list asked other (present new) determined b a)
