-- Flags of the nodes that stay, parent by parent.
use Rattle.std.proofs.Common.{◌≡◌, ◌≢◌, ◌↔◌, ◌⊎◌, ℕ, suc, ◌+◌, ◌-◌, ◌<◌, ◌≤◌, List, [], ◌∷◌, ◌++◌, Bool, true}
use Rattle.std.proofs.Common.{false, Some, replicate, inl, inr, refl, sym, ◌∙◌, ap, subst, arith, length}
use Rattle.std.proofs.Common.{length-append, map, add-one}
use Rattle.std.specs.Prelude.{slice_get, sum, IsTrue}
use Rattle.std.proofs.lemmas.List.{get_or_append_left, get_or-append_right, get_or-replicate, get_or_past, length-map}
use Rattle.std.proofs.lemmas.List.{length-replicate, take_all}
use Rattle.term_core.proofs.Numbers.{below_or_not}
use Rattle.clause_core.specs.declared.answers.Child.{Child}
use Rattle.clause_core.specs.declared.answers.Children.{Children}
use Rattle.clause_core.specs.declared.clauses.Relation.{Relation}
use Rattle.acceptance.specs.AllowedAnswers.{IsWholeBlock}
use Rattle.acceptance.specs.Strict.{first_child, HasChild}
use Rattle.script_trim.specs.Cut.{Descends, child, further}
use Rattle.script_trim.specs.Flags.{flag_of, TellStaying}
use Rattle.block_steps.proofs.ChildNumbers.{one_parent}
use Rattle.script_trim.proofs.CutLinks.{next_first}
use Rattle.script_trim.proofs.StayingChildren.{descends_by, there}

module _ (made : List Children) (i : ℕ) where
  -- what the flags of the nodes before the children of node n say
  pub record TellFirst (n : ℕ) (flags : List Bool) : Type 0 where
    pub long : length flags ≡ first_child made n
    pub tells : (j : ℕ) → j < length flags → IsTrue (flag_of flags j) ↔ (¬ (Descends made i j))

  number_later : (j : ℕ) → Descends made i j → 0 < j
  number_later j (child r h) = omega (arith, h.6)
  number_later j (further k r d h) = omega (arith, h.6)

  pub first_flag : (flags : List Bool) → flags ≡ true ∷ [] → TellFirst 0 flags
  first_flag flags e = subst (λ fs. TellFirst 0 fs) (sym e) (record {
    long = refl;
    tells = λ j l. either j (none j l);
  })
    where
      none : (j : ℕ) → j < 1 → j ≡ 0
      none j l = omega (arith, l)

      either : (j : ℕ) → j ≡ 0 → IsTrue (flag_of (true ∷ []) j) ↔ (¬ (Descends made i j))
      either j z = (λ t d. omega (arith, z, number_later j d), λ no. ap (λ k. flag_of (true ∷ []) k) z)

  module _ (k : ℕ) (m : Children) (at : slice_get made k ≡ Some m) (flags : List Bool) (told : TellFirst k flags)
      (order : k < first_child made k) (flag : Bool) (stay : IsTrue flag ↔ ((k ≢ i) × IsTrue (flag_of flags k))) where
    abbrev more : List Bool
    more = flags ++ replicate (length m.clauses) flag

    longer : length more ≡ first_child made (k + 1)
    longer =
        let n : first_child made (k + 1) ≡ first_child made (suc k) = ap (λ a. first_child made a) (add-one k) in
        omega (
          arith,
          n,
          length-append flags (replicate (length m.clauses) flag),
          length-replicate (length m.clauses) flag,
          told.long,
          next_first made k m at,
          length-map m.clauses (λ (d : Child). d.clause),
        )

    old : (j : ℕ) → j < length flags → IsTrue (flag_of more j) ↔ (¬ (Descends made i j))
    old j l =
        subst (λ b. IsTrue b ↔ (¬ (Descends made i j))) (sym
        (get_or_append_left flags (replicate (length m.clauses) flag) false j l)) (told.tells j l)

    within : k < length flags
    within = omega (arith, order, told.long)

    module _ (j : ℕ) (after : length flags ≤ j) (before : j - length flags < length m.clauses) where
      there_child : (r : Relation) × HasChild made k j r
      there_child =
          let d = there m.clauses (j - length flags) before in
          (d.0.relation, (m, j - length flags, d.0, at, d.1, refl, omega (arith, told.long, after)))

      goes : Descends made i j → (k ≡ i) ⊎ Descends made i k
      goes d =
          let p = descends_by made i j d in
          let e : p.0 ≡ k = one_parent made p.0 k j p.1 there_child.0 p.2 there_child.1 in
          either p.0 e p.3
        where
          either : (a : ℕ) → a ≡ k → (a ≡ i) ⊎ Descends made i a → (k ≡ i) ⊎ Descends made i k
          either a e (inl f) = inl (sym e ∙ f)
          either a e (inr f) = inr (subst (λ b. Descends made i b) e f)

      stays_free : IsTrue flag → (k ≡ i) ⊎ Descends made i k → ⊥
      stays_free t (inl e) = (stay.0 t).0 e
      stays_free t (inr d) = (told.tells k within).0 (stay.0 t).1 d

      new : IsTrue flag ↔ (¬ (Descends made i j))
      new = (
        λ t d. stays_free t (goes d),
        λ no. stay.1 (
          λ e. no (child there_child.0 (subst (λ a. HasChild made a j there_child.0) e there_child.1)),
          (told.tells k within).1 (λ d. no (further k there_child.0 d there_child.1)),
        ),
      )

      told_new : IsTrue (flag_of more j) ↔ (¬ (Descends made i j))
      told_new =
          subst (λ b. IsTrue b ↔ (¬ (Descends made i j))) (sym
          (get_or-append_right flags (replicate (length m.clauses) flag) (length flags) j false refl after ∙
          get_or-replicate (length m.clauses) (j - length flags) flag false before)) new

    -- the children of one node more
    pub flags_more : (news : List Bool) → news ≡ more → TellFirst (k + 1) news
    flags_more news e = subst (λ fs. TellFirst (k + 1) fs) (sym e) (record {
      long = longer;
      tells = λ j l. either j l (below_or_not j (length flags));
    })
      where
        either :
            (j : ℕ) → j < length more → (j < length flags) ⊎ (length flags ≤ j) →
            IsTrue (flag_of more j) ↔ (¬ (Descends made i j))
        either j l (inl b) = old j b
        either j l (inr b) =
            told_new j b (omega (
              arith,
              l,
              b,
              length-append flags (replicate (length m.clauses) flag),
              length-replicate (length m.clauses) flag,
            ))

  -- the flags of all
  pub all_flags :
      (n : ℕ) (flags : List Bool) → IsWholeBlock made → length made ≤ n → TellFirst n flags → TellStaying made i flags
  all_flags n flags whole end told = record {
    long = long;
    tells = λ j. either j (below_or_not j (length flags));
  }
    where
      long : length flags ≡ length made
      long =
          let e : first_child made n ≡ suc (sum (map (λ (m : Children). length m.clauses) made)) =
          ap (λ ms. suc (sum (map (λ (m : Children). length m.clauses) ms))) (take_all n made end) in
          omega (arith, e, told.long, whole.counted)

      either :
          (j : ℕ) → (j < length flags) ⊎ (length flags ≤ j) →
          IsTrue (flag_of flags j) ↔ ((j < length made) × ¬ (Descends made i j))
      either j (inl l) = (λ t. (omega (arith, l, long), (told.tells j l).0 t), λ h. (told.tells j l).1 h.1)
      either j (inr l) = (
        λ t. absurd (let q : false ≡ true = sym (get_or_past flags j false l) ∙ t in cc),
        λ h. absurd (omega (arith, l, h.0, long)),
      )
