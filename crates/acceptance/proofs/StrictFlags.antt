-- What flags of strict nodes say of a node: whether it is strict, and whether its references are allowed.
use Rattle.std.proofs.Common.{◌≡◌, ◌⊎◌, ℕ, zero, suc, ◌+◌, ◌<◌, Bool, true, false, List, [], ◌∷◌, get_or, length, inl}
use Rattle.std.proofs.Common.{inr, subst, arith}
use Rattle.std.proofs.lemmas.Option.{slice_get_within}
use Rattle.clause_core.specs.declared.clauses.Relation.{Relation}
use Rattle.clause_core.specs.declared.clauses.Relation.TheVariants.{Less, Same}
use Rattle.clause_core.specs.declared.answers.Children.{Children}
use Rattle.acceptance.specs.Strict.{LeadsTo, Strict, strict, ReferenceIsAllowed, NodeIsAllowed}
use Rattle.acceptance.specs.AllowedAnswers.{IsWholeBlock, TellsStrict, FallsBy, AllowedBy, ChildrenFallBy}
use Rattle.acceptance.specs.AllowedAnswers.{ReferencesFallBy, ChildrenAreAllowed, ReferencesAllowedBy}
use Rattle.acceptance.proofs.Flags.{children_within}

-- a flag that is set is in the list
set_within : (flags : List Bool) (j : ℕ) → get_or flags j false ≡ true → j < length flags
set_within [] j e = absurd (let q : false ≡ true = e in cc)
set_within (b ∷ bs) zero e = omega arith
set_within (b ∷ bs) (suc j) e = omega (arith, set_within bs j e)

same_is_not_less : Same ≡ Less → ⊥
same_is_not_less e = cc

module _ (made : List Children) (whole : IsWholeBlock made) (flags : List Bool) (k : ℕ) where
  -- what a node leads to is a node
  leads_within : (j : ℕ) (r : Relation) → LeadsTo made k j r → j < length made
  leads_within j r (inl (m, i, d, at, get, rel, num)) = omega (
    arith,
    num,
    slice_get_within m.clauses i d get,
    children_within made whole k m at,
  )
  leads_within j r (inr h) = whole.refs k j r h

  module _ (tells : TellsStrict made (k + 1) flags) where
    either : (j : ℕ) (r : Relation) → FallsBy flags k j r → (r ≡ Less) ⊎ ((r ≡ Same) × (k < j))
    either j r (inl e) = inl e
    either j r (inr h) = inr (h.0, h.1)

    is_strict : (j : ℕ) → FallsBy flags k j Same → Strict made j
    is_strict j (inl e) = absurd (same_is_not_less e)
    is_strict j (inr h) = (tells.tells j (omega (arith, h.1)) (omega (arith, set_within flags j h.2, tells.long))).0 h.2

    -- a node is strict if all that it leads to falls by the flags after it, ...
    pub strict_by_flags : ChildrenFallBy made flags k → ReferencesFallBy made flags k → Strict made k
    strict_by_flags cs rs = strict (λ j r h. either j r (falls j r h)) (λ j h. is_strict j (falls j Same h))
      where
        falls : (j : ℕ) (r : Relation) → LeadsTo made k j r → FallsBy flags k j r
        falls j r (inl h) = cs j r h
        falls j r (inr h) = rs j r h

    falls_strictly : Strict made k → (j : ℕ) (r : Relation) → LeadsTo made k j r → FallsBy flags k j r
    falls_strictly (strict a b) j r h = elim (a j r h) [
      | inl e ↦ inl e
      | inr p ↦ inr (
        p.0,
        p.1,
        (tells.tells j (omega (arith, p.1)) (leads_within j r h)).1 (b j (subst (λ q. LeadsTo made k j q) p.0 h)),
      )
    ]

    -- and there alone
    pub children_of_strict : Strict made k → ChildrenFallBy made flags k
    children_of_strict s j r h = falls_strictly s j r (inl h)

    pub references_of_strict : Strict made k → ReferencesFallBy made flags k
    references_of_strict s j r h = falls_strictly s j r (inr h)

  module _ (tells : TellsStrict made 0 flags) where
    by_flag : (j : ℕ) (r : Relation) → AllowedBy flags k j r → ReferenceIsAllowed made k j r
    by_flag j r (inl e) = inl e
    by_flag j r (inr (e, inl l)) = inr (e, inl l)
    by_flag j r (inr (e, inr f)) = inr (
      e,
      inr ((tells.tells j (omega arith) (omega (arith, set_within flags j f, tells.long))).0 f),
    )

    flag_of : (j : ℕ) (r : Relation) → j < length made → ReferenceIsAllowed made k j r → AllowedBy flags k j r
    flag_of j r here (inl e) = inl e
    flag_of j r here (inr (e, inl l)) = inr (e, inl l)
    flag_of j r here (inr (e, inr s)) = inr (e, inr ((tells.tells j (omega arith) here).1 s))

    -- a node is allowed if and only if its references are by all flags
    pub allowed_by_flags : ChildrenAreAllowed made k → ReferencesAllowedBy made flags k → NodeIsAllowed made k
    allowed_by_flags cs rs = record { children = cs; refs = λ j r h. by_flag j r (rs j r h) }

    pub references_of_allowed : NodeIsAllowed made k → ReferencesAllowedBy made flags k
    references_of_allowed a j r h = flag_of j r (whole.refs k j r h) (a.refs j r h)
