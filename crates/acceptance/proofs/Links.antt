-- The links of a node as a list, by which nodes are shown strict and allowed.
use Rattle.std.proofs.Common.{◌≡◌, ◌⊎◌, ℕ, zero, suc, ◌+◌, ◌<◌, List, [], ◌∷◌, Some, None, inl, inr, sym, ◌∙◌, subst}
use Rattle.std.proofs.Common.{arith}
use Rattle.std.specs.Prelude.{slice_get}
use Rattle.std.specs.List.{AllByRecursion}
use Rattle.clause_core.specs.declared.clauses.Relation.{Relation}
use Rattle.clause_core.specs.declared.clauses.Relation.TheVariants.{Less, Same}
use Rattle.clause_core.specs.declared.answers.Child.{Child}
use Rattle.clause_core.specs.declared.answers.Children.{Children}
use Rattle.clause_core.specs.declared.answers.Reference.{Reference}
use Rattle.acceptance.specs.Strict.{first_child, HasChild, RefersTo, LeadsTo, Strict, strict, ChildIsAllowed}
use Rattle.acceptance.specs.Strict.{ReferenceIsAllowed, NodeIsAllowed}

-- the children with their numbers, of which the first is n, and the references
abbrev pub child_links : ℕ → List Child → List (ℕ × Relation)
child_links n [] = []
child_links n (d ∷ ds) = (n, d.relation) ∷ child_links (suc n) ds

abbrev pub ref_links : List Reference → List (ℕ × Relation)
ref_links [] = []
ref_links (r ∷ rs) = (r.node, r.relation) ∷ ref_links rs

child_link : (P : ℕ × Relation → Type 0) (n : ℕ) (ds : List Child) → AllByRecursion P (child_links n ds) →
    (i : ℕ) (d : Child) → slice_get ds i ≡ Some d → P (n + i, d.relation)
child_link P n [] h i d at = absurd (let q : None ≡ Some d = at in cc)
child_link P n (e ∷ ds) h zero d at =
    let q : Some e ≡ Some d = at in
    let k : e ≡ d = cc in
    let z : n ≡ n + 0 = omega arith in
    subst (λ (x : ℕ × Relation). P x) (λ i. (z i, (k i).relation)) h.0
child_link P n (e ∷ ds) h (suc i) d at =
    let z : suc n + i ≡ n + suc i = omega arith in
    subst (λ m. P (m, d.relation)) z (child_link P (suc n) ds h.1 i d at)

ref_link : (P : ℕ × Relation → Type 0) (rs : List Reference) → AllByRecursion P (ref_links rs) →
    (i : ℕ) (r : Reference) → slice_get rs i ≡ Some r → P (r.node, r.relation)
ref_link P [] h i r at = absurd (let q : None ≡ Some r = at in cc)
ref_link P (e ∷ rs) h zero r at =
    let q : Some e ≡ Some r = at in
    let k : e ≡ r = cc in
    subst (λ (x : Reference). P (x.node, x.relation)) k h.0
ref_link P (e ∷ rs) h (suc i) r at = ref_link P rs h.1 i r at

module _ (made : List Children) (k : ℕ) (m : Children) (is : slice_get made k ≡ Some m) where
  same_entry : (n : Children) → slice_get made k ≡ Some n → m ≡ n
  same_entry n at = let q : Some m ≡ Some n = sym is ∙ at in cc

  pub of_children : (P : ℕ → Relation → Type 0) →
      AllByRecursion (λ (l : ℕ × Relation). P l.0 l.1) (child_links (first_child made k) m.clauses) →
      (j : ℕ) (r : Relation) → HasChild made k j r → P j r
  of_children P h j r (n, i, d, at, get, rel, num) =
      let e : m ≡ n = same_entry n at in
      let got : slice_get m.clauses i ≡ Some d = subst (λ (x : Children). slice_get x.clauses i ≡ Some d) (sym e) get in
      let p : P (first_child made k + i) d.relation = child_link (λ (l : ℕ × Relation). P l.0 l.1)
      (first_child made k) m.clauses h i d got in
      subst (λ x. P x r) (sym num) (subst (λ x. P (first_child made k + i) x) rel p)

  pub of_refs : (P : ℕ → Relation → Type 0) →
      AllByRecursion (λ (l : ℕ × Relation). P l.0 l.1) (ref_links m.refs) → (j : ℕ) (r : Relation) →
      RefersTo made k j r → P j r
  of_refs P h j r (n, i, d, at, get, rel, num) =
      let e : m ≡ n = same_entry n at in
      let got : slice_get m.refs i ≡ Some d = subst (λ (x : Children). slice_get x.refs i ≡ Some d) (sym e) get in
      let p : P d.node d.relation = ref_link (λ (l : ℕ × Relation). P l.0 l.1) m.refs h i d got in
      subst (λ x. P x r) (sym num) (subst (λ x. P d.node x) rel p)

  -- Less, or Same, later and strict
  abbrev pub Falls : ℕ → Relation → Type 0
  Falls j r = (r ≡ Less) ⊎ ((r ≡ Same) × (k < j) × Strict made j)

  pub strict_by : AllByRecursion (λ (l : ℕ × Relation). Falls l.0 l.1)
      (child_links (first_child made k) m.clauses) →
      AllByRecursion (λ (l : ℕ × Relation). Falls l.0 l.1) (ref_links m.refs) → Strict made k
  strict_by cs rs = strict (λ j r l. either (falls j r l)) (λ j l. later (falls j Same l))
    where
      falls : (j : ℕ) (r : Relation) → LeadsTo made k j r → Falls j r
      falls j r (inl h) = of_children Falls cs j r h
      falls j r (inr h) = of_refs Falls rs j r h

      either : {j : ℕ} {r : Relation} → Falls j r → (r ≡ Less) ⊎ ((r ≡ Same) × (k < j))
      either (inl e) = inl e
      either (inr h) = inr (h.0, h.1)

      later : {j : ℕ} → Falls j Same → Strict made j
      later (inl e) = absurd (let q : Same ≡ Less = e in cc)
      later (inr h) = h.2

  pub allowed_by : AllByRecursion (λ (l : ℕ × Relation). ChildIsAllowed made l.1)
      (child_links (first_child made k) m.clauses) →
      AllByRecursion (λ (l : ℕ × Relation). ReferenceIsAllowed made k l.0 l.1) (ref_links m.refs) → NodeIsAllowed made k
  allowed_by cs rs = record {
    children = of_children (λ j r. ChildIsAllowed made r) cs;
    refs = of_refs
        (λ j r. ReferenceIsAllowed made k j r) rs;
  }

-- after the last node nothing leads anywhere
pub allowed_past : (made : List Children) (k : ℕ) → slice_get made k ≡ None → NodeIsAllowed made k
allowed_past made k none = record {
  children = λ j r h. absurd (let q : Some h.0 ≡ None = sym h.3 ∙ none in cc);
  refs = λ j r h. absurd (let q : Some h.0 ≡ None = sym h.3 ∙ none in cc);
}
