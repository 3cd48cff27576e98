-- A block whose first node has children that are Same and refer to no node, and whose other nodes have children that are
-- Less and refer to the first node alone, as Same: all is allowed there.
use Rattle.std.proofs.Common.{◌≡◌, ℕ, ◌+◌, zero, suc, ◌<◌, inl, inr, List, [], ◌∷◌, length, Bool, true, Option, Some}
use Rattle.std.proofs.Common.{None, refl, sym, subst, arith}
use Rattle.std.specs.Prelude.{slice_get}
use Rattle.std.specs.List.{AllByRecursion}
use Rattle.std.proofs.lemmas.Option.{slice_get_within}
use Rattle.term_core.proofs.Items.{all_at}
use Rattle.clause_core.specs.declared.clauses.Relation.{Relation}
use Rattle.clause_core.specs.declared.clauses.Relation.TheVariants.{Less, Same}
use Rattle.clause_core.specs.declared.answers.Child.{Child}
use Rattle.clause_core.specs.declared.answers.Children.{Children}
use Rattle.clause_core.specs.declared.answers.Reference.{Reference}
use Rattle.acceptance.specs.Strict.{first_child, Strict, ChildIsAllowed, ReferenceIsAllowed, NodeIsAllowed}
use Rattle.acceptance.specs.Strict.{AllAreAllowed}
use Rattle.acceptance.proofs.Links.{child_links, ref_links, strict_by, allowed_by, allowed_past, Falls}
use Rattle.plain_search.proofs.Building.{IsFine, AreMarked}

-- what holds of each child with its number holds of the links
all_links : (P : ℕ × Relation → Type 0) (n : ℕ) (ds : List Child) →
    ((i : ℕ) (d : Child) → slice_get ds i ≡ Some d → P (n + i, d.relation)) → AllByRecursion P (child_links n ds)
all_links P n [] h = tt
all_links P n (d ∷ ds) h =
    let z : n + 0 ≡ n = omega arith in (
      subst (λ j. P (j, d.relation)) z (h 0 d refl),
      all_links P (suc n) ds (λ i e at. let y : n + suc i ≡ suc n + i = omega arith in
          subst (λ j. P (j, e.relation)) y (h (suc i) e at)),
    )

all_refs : (P : ℕ × Relation → Type 0) (rs : List Reference) →
    ((i : ℕ) (r : Reference) → slice_get rs i ≡ Some r → P (r.node, r.relation)) → AllByRecursion P (ref_links rs)
all_refs P [] h = tt
all_refs P (r ∷ rs) h = (h 0 r refl, all_refs P rs (λ i s at. h (suc i) s at))

no_refs : (P : ℕ × Relation → Type 0) (rs : List Reference) → rs ≡ [] → AllByRecursion P (ref_links rs)
no_refs P rs e = subst (λ xs. AllByRecursion P (ref_links xs)) (sym e) tt

-- a marked node, by its place
marked_at : (marks : List (ℕ × Bool)) (made : List Children) → AreMarked marks made →
    AllByRecursion (λ (m : ℕ × Bool). m.1 ≡ true) marks → (i : ℕ) → i < length marks →
    (x : Children) × (slice_get made i ≡ Some x) × (x.refs ≡ [])
marked_at [] made h t i lt = absurd (omega (arith, lt))
marked_at (m ∷ ms) [] h t i lt = absurd h
marked_at (m ∷ ms) (x ∷ made) h t zero lt = (x, refl, h.0 t.0)
marked_at (m ∷ ms) (x ∷ made) h t (suc i) lt = marked_at ms made h.1 t.1 i (omega (arith, lt))

module _ (first : Children) (marks : List (ℕ × Bool)) (others : List Children)
    (no_refs_first : first.refs ≡ []) (cases : AllByRecursion (λ (d : Child). d.relation ≡ Same) first.clauses)
    (aligned : length first.clauses ≡ length marks) (all_true : AllByRecursion (λ (m : ℕ × Bool). m.1 ≡ true) marks)
    (fine : AllByRecursion IsFine others) (marked : AreMarked marks others) where
  abbrev made : List Children
  made = first ∷ others

  falls : (k : ℕ) (m : Children) → slice_get made k ≡ Some m → IsFine m →
      AllByRecursion (λ (l : ℕ × Relation). l.1 ≡ Less) (child_links (first_child made k) m.clauses)
  falls k m at f = all_links (λ (l : ℕ × Relation). l.1 ≡ Less) (first_child made k) m.clauses
      (λ i d get. all_at (λ (x : Child). x.relation ≡ Less) m.clauses f.falls i d get)

  lesser : (P : ℕ × Relation → Type 0) (ls : List (ℕ × Relation)) → ((l : ℕ × Relation) → l.1 ≡ Less → P l) →
      AllByRecursion (λ (l : ℕ × Relation). l.1 ≡ Less) ls → AllByRecursion P ls
  lesser P [] h a = tt
  lesser P (l ∷ ls) h a = (h l a.0, lesser P ls h a.1)

  -- a case is strict, since it refers to no node
  case_strict : (i : ℕ) → i < length marks → Strict made (suc i)
  case_strict i lt =
      let x = marked_at marks others marked all_true i lt in
      let f = all_at IsFine others fine i x.0 x.1 in
      strict_by made (suc i) x.0 x.1 (lesser (λ (l : ℕ × Relation). Falls made (suc i) x.0 x.1 l.0 l.1)
      (child_links (first_child made (suc i)) x.0.clauses) (λ l e. inl e) (falls (suc i) x.0 x.1 f))
      (no_refs (λ (l : ℕ × Relation). Falls made (suc i) x.0 x.1 l.0 l.1) x.0.refs x.2)

  case_same : (i : ℕ) (d : Child) → slice_get first.clauses i ≡ Some d → d.relation ≡ Same
  case_same i d at = all_at (λ (x : Child). x.relation ≡ Same) first.clauses cases i d at

  -- and so is the first node
  first_strict : Strict made 0
  first_strict =
      strict_by made 0 first refl
      (all_links (λ (l : ℕ × Relation). Falls made 0 first refl l.0 l.1) (first_child made 0) first.clauses (λ i d at.
      let lt = slice_get_within first.clauses i d at in
      let one : first_child made 0 + i ≡ suc i = omega arith in
      inr (
        case_same i d at,
        omega (arith, one),
        subst (λ j. Strict made j) (sym one) (case_strict i (omega (arith, lt, aligned))),
      )))
      (no_refs (λ (l : ℕ × Relation). Falls made 0 first refl l.0 l.1) first.refs no_refs_first)

  by_node : (k : ℕ) (o : Option Children) → slice_get made k ≡ o → NodeIsAllowed made k
  by_node k None at = allowed_past made k at
  by_node zero (Some m) at =
      let q : Some first ≡ Some m = at in
      let e : first ≡ m = cc in
      allowed_by made 0 first refl
      (all_links (λ (l : ℕ × Relation). ChildIsAllowed made l.1) (first_child made 0) first.clauses
      (λ i d get. inr (case_same i d get)))
      (no_refs (λ (l : ℕ × Relation). ReferenceIsAllowed made 0 l.0 l.1) first.refs no_refs_first)
  by_node (suc k) (Some m) at =
      let f = all_at IsFine others fine k m at in
      allowed_by made (suc k) m at
      (lesser (λ (l : ℕ × Relation). ChildIsAllowed made l.1) (child_links (first_child made (suc k)) m.clauses)
      (λ l e. inl e) (falls (suc k) m at f))
      (all_refs (λ (l : ℕ × Relation). ReferenceIsAllowed made (suc k) l.0 l.1) m.refs (λ i r get.
      let h = all_at (λ (x : Reference). (x.node ≡ 0) × (x.relation ≡ Same)) m.refs f.refers i r get in
      inr (h.1, inr (subst (λ j. Strict made j) (sym h.0) first_strict))))

  pub all_allowed : AllAreAllowed made
  all_allowed k = by_node k (slice_get made k) refl
