-- Instances of an equation by matching.
use Rattle.std.proofs.Common.{◌≡◌, ℕ, length, List, Some, None, Option, Bool, true, false, refl, ap, sym, ◌∙◌, subst}
use Rattle.std.proofs.Common.{arith}
use Rattle.std.specs.Prelude.{slice_get, IsTrue, ◌↔◌}
use Rattle.std.specs.Option.{IsSome}
use Rattle.std.proofs.lemmas.Option.{slice_get_within}
use Rattle.term_core.specs.Tree.{Tree, app, none, some}
use Rattle.term_core.specs.declared.ids.SortId.{SortId}
use Rattle.spec_core.specs.declared.records.Equation.{Equation}
use Rattle.spec_core.specs.Sig.{Sig}
use Rattle.spec_core.specs.Sorts.{Sorted}
use Rattle.term_core.specs.Variables.{Occurs}
use Rattle.substitutions.specs.Substitution.{entry, image, apply}
use Rattle.substitutions.specs.Fitting.{Fits}
use Rattle.substitutions.proofs.Instances.{apply_same, images_agree, image_entry, image_none}
use Rattle.matching.specs.Matching.{IsMatch, HasNoMatch}
use Rattle.plain_proof.specs.Closings.{IsInstance}
use Rattle.plain_proof.specs.Filling.{IsFilled}

-- both terms as the arguments of one symbol
abbrev pub pair_of : Tree → Tree → Tree
pair_of x y = app 0 (some x (some y none))

pair_left : (x y u v : Tree) → pair_of x y ≡ pair_of u v → x ≡ u
pair_left x y u v e = cc

pair_right : (x y u v : Tree) → pair_of x y ≡ pair_of u v → y ≡ v
pair_right x y u v e = cc

module _ (sig : Sig) (ctx : List SortId) (e : Equation) (over : List SortId) (a b : Tree) where
  pub no_instance : HasNoMatch (pair_of e.left e.right) (pair_of a b) → IsTrue false ↔ IsInstance sig ctx e over a b
  no_instance h = (
    λ t. absurd (let q : false ≡ true = t in cc),
    λ i.
        absurd (h i.0 (ap (λ x. pair_of x (apply i.0 e.right)) i.2 ∙ ap (λ y. pair_of a y) i.3)),
  )

  module _ (extends : (n : ℕ) (s : SortId) → slice_get ctx n ≡ Some s → slice_get over n ≡ Some s)
      (entries whole : List (Option Tree)) (m : IsMatch (pair_of e.left e.right) (pair_of a b) entries)
      (count : ℕ) (is : count ≡ length ctx) (f : IsFilled entries count whole) where
    same : (t : Tree) → apply whole t ≡ apply entries t
    same t = apply_same t whole entries (λ n o. f.images n)

    matched : apply entries (pair_of e.left e.right) ≡ pair_of a b
    matched = m.0

    by_entry : (s : List (Option Tree)) → Fits sig ctx over s → apply s e.left ≡ a → apply s e.right ≡ b →
        (n : ℕ) (sort : SortId) → slice_get ctx n ≡ Some sort → (o : Option Tree) → entry entries n ≡ o →
        Sorted sig over (image entries n) sort
    by_entry s fits l r n sort at None h = subst (λ x. Sorted sig over x sort) (sym (image_none entries n h))
        (extends n sort at)
    by_entry s fits l r n sort at (Some t) h =
        let o : Occurs n (pair_of e.left e.right) = (m.1 n).0 (subst (λ x. IsSome x) (sym h) refl) in
        let q : apply entries (pair_of e.left e.right) ≡ apply s (pair_of e.left e.right) = matched
        ∙ sym (ap (λ x. pair_of x (apply s e.right)) l ∙ ap (λ y. pair_of a y) r) in
        let i = images_agree (pair_of e.left e.right) entries s q n o in
        let g = fits n sort at in
        subst (λ x. Sorted sig over x sort) (sym (i ∙ image_entry s n g.0 g.1)) g.2

    pub instance_by : (r : Bool) → IsTrue r ↔ Fits sig ctx over whole → IsTrue r ↔ IsInstance sig ctx e over a b
    instance_by r h = (
      λ t. (
        whole,
        h.0 t,
        same e.left ∙ pair_left (apply entries e.left) (apply entries e.right) a b matched,
        same e.right ∙ pair_right (apply entries e.left) (apply entries e.right) a b matched,
      ),
      λ i.
          h.1 (λ n sort at. (
            image entries n,
            f.entries n (omega (arith, is, slice_get_within ctx n sort at)),
            by_entry i.0 i.1 i.2 i.3 n sort at (entry entries n) refl,
          )),
    )
