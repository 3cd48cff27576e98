-- What is allowed in a block depends on the links of its nodes alone, and not on the clauses of
-- children.
use Rattle.std.proofs.Common.{◌≡◌, ℕ, zero, suc, ◌+◌, List, [], ◌∷◌, Some, None, inl, inr, refl, sym, ◌∙◌, ap, subst}
use Rattle.std.proofs.Common.{arith, length, map, take}
use Rattle.std.specs.Prelude.{slice_get, sum}
use Rattle.std.proofs.lemmas.List.{length-map}
use Rattle.clause_core.specs.declared.clauses.Relation.{Relation}
use Rattle.clause_core.specs.declared.clauses.Relation.TheVariants.{Same}
use Rattle.clause_core.specs.declared.answers.Child.{Child}
use Rattle.clause_core.specs.declared.answers.Children.{Children}
use Rattle.acceptance.specs.Strict.{first_child, HasChild, RefersTo, LeadsTo, Strict, strict, ReferenceIsAllowed}
use Rattle.acceptance.specs.Strict.{NodeIsAllowed}
use Rattle.acceptance.specs.AllowedAnswers.{IsWholeBlock}
use Rattle.block_links.specs.Links.{links_of, without_sides}

-- two blocks where each child and each reference of the other one is one of the first
module _
    (made other : List Children)
    (child : (k j : ℕ) (r : Relation) → HasChild other k j r → HasChild made k j r)
    (ref : (k j : ℕ) (r : Relation) → RefersTo other k j r → RefersTo made k j r) where
  leads : (k j : ℕ) (r : Relation) → LeadsTo other k j r → LeadsTo made k j r
  leads k j r (inl h) = inl (child k j r h)
  leads k j r (inr h) = inr (ref k j r h)

  strict_too : (k : ℕ) → Strict made k → Strict other k
  strict_too k (strict falls later) =
      strict
      (λ j r h. falls j r (leads k j r h))
      (λ j h. strict_too j (later j (leads k j Same h)))

  allowed_ref :
      (k j : ℕ) (r : Relation) → ReferenceIsAllowed made k j r → ReferenceIsAllowed other k j r
  allowed_ref k j r (inl e) = inl e
  allowed_ref k j r (inr (e, inl l)) = inr (e, inl l)
  allowed_ref k j r (inr (e, inr s)) = inr (e, inr (strict_too j s))

  allowed_too : (k : ℕ) → NodeIsAllowed made k → NodeIsAllowed other k
  allowed_too k h = record {
    children = λ j r d. h.children j r (child k j r d);
    refs = λ j r d. allowed_ref k j r (h.refs j r (ref k j r d));
  }

-- the child without its clause
abbrev link_of : Child → Child
link_of d = record { clause = without_sides; relation = d.relation }

-- an item of a list is at its place in the list of what is made of each
pub there_mapped :
    {A B : Type 0} (f : A → B) (xs : List A) (k : ℕ) (x : A) → slice_get xs k ≡ Some x →
    slice_get (map f xs) k ≡ Some (f x)
there_mapped f [] k x at = absurd (let q : None ≡ Some x = at in cc)
there_mapped f (y ∷ xs) zero x at = let q : Some y ≡ Some x = at in ap (λ z. Some (f z)) (cc)
there_mapped f (y ∷ xs) (suc k) x at = there_mapped f xs k x at

-- and what is there is made of one
pub made_of :
    {A B : Type 0} (f : A → B) (xs : List A) (k : ℕ) (y : B) → slice_get (map f xs) k ≡ Some y →
    (x : A) × (slice_get xs k ≡ Some x) × (f x ≡ y)
made_of f [] k y at = absurd (let q : None ≡ Some y = at in cc)
made_of f (x ∷ xs) zero y at = let q : Some (f x) ≡ Some y = at in (x, refl, cc)
made_of f (x ∷ xs) (suc k) y at = made_of f xs k y at

counts_of :
    (made : List Children) →
    map (λ (m : Children). length m.clauses) (map links_of made)
    ≡ map (λ (m : Children). length m.clauses) made
counts_of [] = refl
counts_of (m ∷ made) =
    let e = length-map m.clauses link_of in
    let r = counts_of made in
    λ i. e i ∷ r i

taken_links :
    (made : List Children) (k : ℕ) → take k (map links_of made) ≡ map links_of (take k made)
taken_links [] zero = refl
taken_links [] (suc k) = refl
taken_links (m ∷ made) zero = refl
taken_links (m ∷ made) (suc k) = let r = taken_links made k in λ i. links_of m ∷ r i

first_same :
    (made : List Children) (k : ℕ) → first_child (map links_of made) k ≡ first_child made k
first_same made k =
    ap (λ ms. suc (sum (map (λ (m : Children). length m.clauses) ms))) (taken_links made k)
    ∙ ap (λ ns. suc (sum ns)) (counts_of (take k made))

module _ (made : List Children) where
  child_there : (k j : ℕ) (r : Relation) → HasChild made k j r → HasChild (map links_of made) k j r
  child_there k j r (m, i, d, at, get, rel, num) = (
    links_of m,
    i,
    link_of d,
    there_mapped links_of made k m at,
    there_mapped link_of m.clauses i d get,
    rel,
    num ∙ ap (λ n. n + i) (sym (first_same made k)),
  )

  child_back : (k j : ℕ) (r : Relation) → HasChild (map links_of made) k j r → HasChild made k j r
  child_back k j r (l, i, e, at, get, rel, num) =
      let m = made_of links_of made k l at in
      let there = subst (λ (x : Children). slice_get x.clauses i ≡ Some e) (sym m.2) get in
      let d = made_of link_of m.0.clauses i e there in (
        m.0,
        i,
        d.0,
        m.1,
        d.1,
        ap (λ (x : Child). x.relation) d.2 ∙ rel,
        num ∙ ap (λ n. n + i) (first_same made k),
      )

  ref_there : (k j : ℕ) (r : Relation) → RefersTo made k j r → RefersTo (map links_of made) k j r
  ref_there k j r (m, i, d, at, get, rel, num) =
      (links_of m, i, d, there_mapped links_of made k m at, get, rel, num)

  ref_back : (k j : ℕ) (r : Relation) → RefersTo (map links_of made) k j r → RefersTo made k j r
  ref_back k j r (l, i, d, at, get, rel, num) =
      let m = made_of links_of made k l at in
      let there = subst (λ (x : Children). slice_get x.refs i ≡ Some d) (sym m.2) get in
      (m.0, i, d, m.1, there, rel, num)

  -- a node is allowed if it is by its links
  pub allowed_by_links : (k : ℕ) → NodeIsAllowed (map links_of made) k → NodeIsAllowed made k
  allowed_by_links = allowed_too (map links_of made) made child_there ref_there

  pub links_allowed : (k : ℕ) → NodeIsAllowed made k → NodeIsAllowed (map links_of made) k
  links_allowed = allowed_too made (map links_of made) child_back ref_back

  pub whole_links : IsWholeBlock made → IsWholeBlock (map links_of made)
  whole_links w =
      let n = length-map made links_of in
      record {
        few = omega (arith, w.few, n);
        counted = n ∙ w.counted ∙ ap (λ ns. suc (sum ns)) (sym (counts_of made));
        refs = λ k j r h. omega (arith, n, w.refs k j r (ref_back k j r h));
      }
