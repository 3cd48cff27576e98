-- What is cut of a block, by its links alone.
use Rattle.std.proofs.Common.{◌≡◌, ℕ, zero, suc, ◌+◌, ◌≤◌, List, [], ◌∷◌, ◌++◌, Bool, true, false, Some, take}
use Rattle.std.proofs.Common.{refl, sym, ◌∙◌, ap, subst, arith, length, map, add-one}
use Rattle.std.specs.Prelude.{cond, slice_get, slice_set}
use Rattle.std.proofs.lemmas.List.{length-map, map-append, take_all}
use Rattle.std.proofs.lemmas.Simd.{map-map}
use Rattle.term_core.specs.Tree.{Tree}
use Rattle.spec_core.specs.declared.records.Spec.{Spec}
use Rattle.clause_core.specs.declared.answers.Child.{Child}
use Rattle.clause_core.specs.declared.answers.Children.{Children}
use Rattle.clause_core.specs.declared.answers.Reference.{Reference}
use Rattle.clause_core.specs.declared.clauses.Clause.{Clause}
use Rattle.clause_core.specs.declared.clauses.Relation.{Relation}
use Rattle.clause_core.specs.declared.steps.Step.{Step}
use Rattle.acceptance.specs.AllowedAnswers.{IsWholeBlock}
use Rattle.acceptance.specs.Blocks.{StepsMake}
use Rattle.acceptance.specs.Strict.{HasChild}
use Rattle.block_links.specs.Links.{links_of}
use Rattle.block_links.proofs.LinksAlone.{there_mapped, made_of}
use Rattle.script_trim.specs.Cut.{new_number, staying, Descends, child, further}
use Rattle.script_trim.specs.Flags.{AreInOrder, RefersWithin}
use Rattle.script_trim.specs.Made.{cut_made, made_renumbered, reference_renumbered}
use Rattle.block_steps.proofs.ChildNumbers.{before_children}
use Rattle.block_steps.proofs.FirstChildren.{first_by_links, link_of}
use Rattle.script_trim.proofs.Places.{length_set, taken_more}
use Rattle.script_trim.proofs.StayingChildren.{there}

module _ (made : List Children) where
  child_there : (k j : ℕ) (r : Relation) → HasChild made k j r → HasChild (map links_of made) k j r
  child_there k j r (m, i, d, at, get, rel, num) = (
    links_of m,
    i,
    link_of d,
    there_mapped links_of made k m at,
    there_mapped link_of m.clauses i d get,
    rel,
    omega (arith, num, first_by_links made k),
  )

  child_back : (k j : ℕ) (r : Relation) → HasChild (map links_of made) k j r → HasChild made k j r
  child_back k j r (l, i, e, at, get, rel, num) =
      let m = made_of links_of made k l at in
      let got = subst (λ (x : Children). slice_get x.clauses i ≡ Some e) (sym m.2) get in
      let d = made_of link_of m.0.clauses i e got in
      (m.0, i, d.0, m.1, d.1, ap (λ (x : Child). x.relation) d.2 ∙ rel, omega (arith, num, first_by_links made k))

  -- and so the same nodes descend from a node
  pub descends_linked : (i j : ℕ) → Descends made i j → Descends (map links_of made) i j
  descends_linked i j (child r h) = child r (child_there i j r h)
  descends_linked i j (further k r d h) = further k r (descends_linked i k d) (child_there k j r h)

  pub linked_descends : (i j : ℕ) → Descends (map links_of made) i j → Descends made i j
  linked_descends i j (child r h) = child r (child_back i j r h)
  linked_descends i j (further k r d h) = further k r (linked_descends i k d) (child_back k j r h)

  -- references are to nodes
  pub refers_within :
      IsWholeBlock made → (k : ℕ) (m : Children) → slice_get made k ≡ Some m → RefersWithin (length made) m
  refers_within whole k m at a r get = whole.refs k r.node r.relation (m, a, r, at, get, refl, refl)

module _ (above : Tree → Tree → Type 0) (spec : Spec) (usable : ℕ → Type 0) (start : Clause) (steps : List Step)
    (made : List Children) (makes : StepsMake above spec usable (start ∷ []) 0 steps made) where
  -- each node comes before its children
  pub linked_in_order : AreInOrder (map links_of made)
  linked_in_order k l =
      let m = there made k (omega (arith, l, length-map made links_of)) in
      omega (arith, first_by_links made k, before_children above spec usable (start ∷ []) 0 steps made makes k m.0 m.1)

-- the links of what is left are decided by links
module _ (stays : ℕ → Bool) where
  abbrev renumbered_links : List Children → List Children
  renumbered_links ms = map links_of (map (made_renumbered stays) ms)

  links_twice : (ds : List Child) → map link_of (map link_of ds) ≡ map link_of ds
  links_twice [] = refl
  links_twice (d ∷ ds) = ap (λ es. link_of d ∷ es) (links_twice ds)

  linked_once : (m : Children) → links_of (made_renumbered stays (links_of m)) ≡ links_of (made_renumbered stays m)
  linked_once m =
      let e = links_twice m.clauses in λ i. record { clauses = e i; refs = (links_of (made_renumbered stays m)).refs }

  -- one entry more on both sides
  linked_more :
      (k : ℕ) (m n : Children) (ms ns : List Children) → links_of (made_renumbered stays m) ≡ links_of
      (made_renumbered stays n) → renumbered_links (staying stays (suc k) ms) ≡ renumbered_links
      (staying stays (suc k) ns) → renumbered_links (staying stays k (m ∷ ms)) ≡ renumbered_links
      (staying stays k (n ∷ ns))
  linked_more k m n ms ns e r = by_case (stays k)
    where
      by_case :
          (b : Bool) → renumbered_links (cond b (m ∷ staying stays (suc k) ms) (staying stays (suc k) ms)) ≡
          renumbered_links (cond b (n ∷ staying stays (suc k) ns) (staying stays (suc k) ns))
      by_case true = λ i. e i ∷ r i
      by_case false = r

  linked_staying :
      (k : ℕ) (made : List Children) → renumbered_links (staying stays k (map links_of made)) ≡ renumbered_links
      (staying stays k made)
  linked_staying k [] = refl
  linked_staying k (m ∷ made) =
      linked_more k (links_of m) m (map links_of made) made (linked_once m) (linked_staying (suc k) made)

  linked_set :
      (k : ℕ) (made : List Children) (i : ℕ) (closed : Children) →
      renumbered_links (staying stays k (slice_set (map links_of made) i closed)) ≡ renumbered_links
      (staying stays k (slice_set made i closed))
  linked_set k [] i closed = refl
  linked_set k (m ∷ made) zero closed =
      linked_more k closed closed (map links_of made) made refl (linked_staying (suc k) made)
  linked_set k (m ∷ made) (suc i) closed =
      linked_more k (links_of m) m (slice_set (map links_of made) i closed) (slice_set made i closed) (linked_once m)
      (linked_set (suc k) made i closed)

  pub linked_cut :
      (made : List Children) (i : ℕ) (closed : Children) →
      map links_of (cut_made stays (map links_of made) i closed) ≡ map links_of (cut_made stays made i closed)
  linked_cut made i closed = linked_set 0 made i closed

-- one reference more under its new number
pub reference_next : (stays : ℕ → Bool) (refs : List Reference) (i : ℕ) (r : Reference) → slice_get refs i ≡ Some r →
    (copies news : List Reference) (n : ℕ) → n ≡ new_number stays r.node →
    copies ≡ map (reference_renumbered stays) (take i refs) →
    news ≡ copies ++ record { node = n; relation = r.relation } ∷ [] →
    news ≡ map (reference_renumbered stays) (take (i + 1) refs)
reference_next stays refs i r at copies news n e is more =
    more
    ∙ (λ k. is k ++ record { node = e k; relation = r.relation } ∷ [])
    ∙ sym (map-append (reference_renumbered stays) (take i refs) (r ∷ []))
    ∙ ap (λ rs. map (reference_renumbered stays) rs) (sym (taken_more refs i r at))
    ∙ ap (λ k. map (reference_renumbered stays) (take k refs)) (sym (add-one i))

-- if one entry is exchanged, references are still to nodes
pub refers_set :
    (n : ℕ) (made : List Children) (i : ℕ) (closed : Children) →
    ((k : ℕ) (m : Children) → slice_get made k ≡ Some m → RefersWithin n m) → RefersWithin n closed →
    (k : ℕ) (m : Children) → slice_get (slice_set made i closed) k ≡ Some m → RefersWithin n m
refers_set n [] i closed h c k m at = h k m at
refers_set n (x ∷ made) zero closed h c zero m at =
    let q : Some closed ≡ Some m = at in
    let e : closed ≡ m = cc in
    subst (RefersWithin n) e c
refers_set n (x ∷ made) zero closed h c (suc k) m at = h (suc k) m at
refers_set n (x ∷ made) (suc i) closed h c zero m at = h zero m at
refers_set n (x ∷ made) (suc i) closed h c (suc k) m at = refers_set n made i closed (λ j. h (suc j)) c k m at

-- the links of all that stay
pub all_images :
    (stays : ℕ → Bool) (made : List Children) (i : ℕ) (closed : Children) (n : ℕ) (cut : List Children) →
    length made ≤ n → cut ≡ map (λ (m : Children). links_of (made_renumbered stays m))
    (staying stays 0 (take n (slice_set made i closed))) → cut ≡ map links_of (cut_made stays made i closed)
all_images stays made i closed n cut end is =
    is
    ∙ ap (λ ms. map (λ (m : Children). links_of (made_renumbered stays m)) (staying stays 0 ms))
    (take_all n (slice_set made i closed) (omega (arith, end, length_set made i closed)))
    ∙ sym (map-map links_of (made_renumbered stays) (staying stays 0 (slice_set made i closed)))
