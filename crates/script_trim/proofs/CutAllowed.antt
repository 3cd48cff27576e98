-- A block that is cut stays allowed if the closing step refers to nothing that isn't Less.
use Rattle.std.proofs.Common.{◌≡◌, ◌≢◌, ◌⊎◌, ◌↔◌, ℕ, ◌+◌, ◌<◌, List, [], ◌∷◌, Bool, true, Some, None, inl}
use Rattle.std.proofs.Common.{inr, refl, sym, ◌∙◌, ap, subst, arith, length}
use Rattle.std.specs.Prelude.{slice_get, slice_set, IsTrue}
use Rattle.std.proofs.lemmas.List.{length-map}
use Rattle.std.proofs.lemmas.Option.{slice_get_within}
use Rattle.term_core.specs.Tree.{Tree}
use Rattle.term_core.proofs.Numbers.{same_or_not}
use Rattle.spec_core.specs.declared.records.Spec.{Spec}
use Rattle.clause_core.specs.declared.answers.Child.{Child}
use Rattle.clause_core.specs.declared.answers.Children.{Children}
use Rattle.clause_core.specs.declared.answers.Reference.{Reference}
use Rattle.clause_core.specs.declared.clauses.Clause.{Clause}
use Rattle.clause_core.specs.declared.clauses.Relation.{Relation}
use Rattle.clause_core.specs.declared.clauses.Relation.TheVariants.{Less, Same}
use Rattle.clause_core.specs.declared.steps.Step.{Step}
use Rattle.acceptance.specs.Blocks.{clauses_of, nodes_of, StepsMake}
use Rattle.acceptance.specs.Strict.{first_child, HasChild, RefersTo, LeadsTo, Strict, strict, ReferenceIsAllowed}
use Rattle.acceptance.specs.Strict.{AllAreAllowed}
use Rattle.script_trim.specs.Cut.{new_number, staying, Descends}
use Rattle.script_trim.specs.Made.{reference_renumbered, made_renumbered, cut_made}
use Rattle.block_links.proofs.LinksAlone.{made_of}
use Rattle.script_trim.proofs.CutLinks.{first_anew}
use Rattle.script_trim.proofs.Places.{set_same, set_other}
use Rattle.script_trim.proofs.Staying.{from_staying, anew_row, anew_less, anew_one}
use Rattle.script_trim.proofs.StayingChildren.{child_stays}

module _
    (stays : ℕ → Bool) (i : ℕ)
    (above :
    Tree → Tree → Type 0) (spec : Spec) (usable : ℕ → Type 0) (start : Clause) (steps : List Step)
    (made : List Children)
    (makes :
    StepsMake above spec usable (start ∷ []) 0 steps made)
    (finished : length (nodes_of start made) ≡ length steps)
    (which : (k : ℕ) → IsTrue (stays k) ↔ ((k < length steps) × ¬ (Descends made i k)))
    (start_stays : stays 0 ≡ true) (within : i < length made) (closed : Children) (none : closed.clauses ≡ [])
    (refs_stay :
    (k : ℕ) (m : Children) → slice_get made k ≡ Some m → stays k ≡ true → k ≢ i → (a : ℕ) (r : Reference) →
    slice_get m.refs a ≡ Some r → stays r.node ≡ true)
    (refs_less : (a : ℕ) (r : Reference) → slice_get closed.refs a ≡ Some r → r.relation ≡ Less) where
  abbrev new : List Children
  new = cut_made stays made i closed

  -- the entry of a node of the cut block is that of a node that stays
  record Old (n : ℕ) (x : Children) : Type 0 where
    k : ℕ
    m : Children
    at : slice_get (slice_set made i closed) k ≡ Some m
    stay : stays k ≡ true
    number : new_number stays k ≡ n
    is : made_renumbered stays m ≡ x

  old_of : (n : ℕ) (x : Children) → slice_get new n ≡ Some x → Old n x
  old_of n x at =
      let m = made_of (made_renumbered stays) (staying stays 0 (slice_set made i closed)) n x at in
      let f = from_staying stays 0 n (slice_set made i closed) m.0 m.1 in
      let z : 0 + f.0 ≡ f.0 = omega arith in
      let w : new_number stays (0 + f.0) ≡ new_number stays f.0 = ap (λ j. new_number stays j) z in
      record { k = f.0; m = m.0; at = f.1; stay = ap stays (sym z) ∙ f.2; number = omega (arith, f.3, w); is = m.2 }

  closed_there : (k : ℕ) (m : Children) → k ≡ i → slice_get (slice_set made i closed) k ≡ Some m → closed ≡ m
  closed_there k m e at =
      let q : Some closed ≡ Some m = sym (set_same made i closed within) ∙ ap
      (λ j. slice_get (slice_set made i closed) j) (sym e) ∙ at in
      cc

  -- a child in the cut block is a child that stays, of another node that stays
  back_child :
      (n j : ℕ) (r : Relation) → HasChild new n j r → (k : ℕ) × (c : ℕ) × HasChild made k c r × (stays k ≡ true) ×
      (stays c ≡ true) × (new_number stays k ≡ n) × (j ≡ new_number stays c)
  back_child n j r (x, a, d, at, get, rel, num) = either (same_or_not o.k i)
    where
      o : Old n x
      o = old_of n x at

      got : slice_get o.m.clauses a ≡ Some d
      got = ap (λ (y : Children). slice_get y.clauses a) o.is ∙ get

      either :
          (o.k ≡ i) ⊎ (o.k ≢ i) → (k : ℕ) × (c : ℕ) × HasChild made k c r × (stays k ≡ true) × (stays c ≡ true) ×
          (new_number stays k ≡ n) × (j ≡ new_number stays c)
      either (inl e) =
          let c = closed_there o.k o.m e o.at in
          absurd (let q : None ≡ Some d = ap (λ cs. slice_get cs a) (sym none) ∙ ap
          (λ (y : Children). slice_get y.clauses a) c ∙ got in cc)
      either (inr e) =
          let is : slice_get made o.k ≡ Some o.m = sym (set_other made i o.k closed e) ∙ o.at in
          let l : a < length (clauses_of o.m) = omega (
            arith,
            slice_get_within o.m.clauses a d got,
            length-map o.m.clauses (λ (y : Child). y.clause),
          ) in
          let all : (b : ℕ) → b < length (clauses_of o.m) → stays (first_child made o.k + b) ≡ true =
          λ b h. child_stays stays i above spec usable start steps made makes finished which o.k o.m is b h o.stay
          e in
          let row = anew_row stays (first_child made o.k) a (λ b h. all b (omega (arith, h, l))) in
          let first = first_anew stays i above spec usable start steps made makes finished which start_stays closed
          none o.k (omega (arith, slice_get_within made o.k o.m is)) in
          let same : first_child new (new_number stays o.k) ≡ first_child new n =
          ap (λ y. first_child new y) o.number in (
            o.k,
            first_child made o.k + a,
            (o.m, a, d, is, got, rel, refl),
            o.stay,
            all a l,
            o.number,
            omega (arith, num, row, first, same),
          )

  -- a reference in the cut block is one to a node that stays, of another node that stays; or it is one of the closing
  -- step, and is Less
  abbrev IsBack : ℕ → ℕ → Relation → ℕ → Type 0
  IsBack n j r k = ((c : ℕ) × RefersTo made k c r × (stays c ≡ true) × (j ≡ new_number stays c)) ⊎ (r ≡ Less)

  back_ref :
      (n j : ℕ) (r : Relation) → RefersTo new n j r → (k : ℕ) × (stays k ≡ true) × (new_number stays k ≡ n) ×
      IsBack n j r k
  back_ref n j r (x, a, s, at, get, rel, num) = (o.k, o.stay, o.number, either (same_or_not o.k i))
    where
      o : Old n x
      o = old_of n x at

      got : (s' : Reference) × (slice_get o.m.refs a ≡ Some s') × (reference_renumbered stays s' ≡ s)
      got = made_of (reference_renumbered stays) o.m.refs a s (ap (λ (y : Children). slice_get y.refs a) o.is ∙ get)

      related : got.0.relation ≡ r
      related = ap (λ (y : Reference). y.relation) got.2 ∙ rel

      either : (o.k ≡ i) ⊎ (o.k ≢ i) → IsBack n j r o.k
      either (inl e) =
          let c = closed_there o.k o.m e o.at in
          inr (sym related ∙ refs_less a got.0 (ap (λ (y : Children). slice_get y.refs a) c ∙ got.1))
      either (inr e) =
          let is : slice_get made o.k ≡ Some o.m = sym (set_other made i o.k closed e) ∙ o.at in
          inl (
            got.0.node,
            (o.m, a, got.0, is, got.1, related, refl),
            refs_stay o.k o.m is o.stay e a got.0 got.1,
            num ∙ ap (λ (y : Reference). y.node) (sym got.2),
          )

  -- what a node that stays leads to in the cut block
  back_leads :
      (k : ℕ) → stays k ≡ true → (j : ℕ) (r : Relation) → LeadsTo new (new_number stays k) j r →
      ((c : ℕ) × LeadsTo made k c r × (stays c ≡ true) × (j ≡ new_number stays c)) ⊎ (r ≡ Less)
  back_leads k s j r (inl h) =
      let b = back_child (new_number stays k) j r h in
      let e : b.0 ≡ k = anew_one stays b.0 k b.3 s b.5 in
      inl (b.1, inl (subst (λ n. HasChild made n b.1 r) e b.2), b.4, b.6)
  back_leads k s j r (inr h) = either b.3
    where
      b : (k' : ℕ) × (stays k' ≡ true) × (new_number stays k' ≡ new_number stays k) × IsBack (new_number stays k) j r k'
      b = back_ref (new_number stays k) j r h

      e : b.0 ≡ k
      e = anew_one stays b.0 k b.1 s b.2

      either :
          IsBack (new_number stays k) j r b.0 → ((c : ℕ) × LeadsTo made k c r × (stays c ≡ true) ×
          (j ≡ new_number stays c)) ⊎ (r ≡ Less)
      either (inl (c, l, t, f)) = inl (c, inr (subst (λ n. RefersTo made n c r) e l), t, f)
      either (inr l) = inr l

  abbrev Falls : ℕ → ℕ → Relation → Type 0
  Falls k j r = (r ≡ Less) ⊎ ((r ≡ Same) × (k < j))

  strict_by :
      (k : ℕ) → stays k ≡ true → ((j : ℕ) (r : Relation) → LeadsTo made k j r → Falls k j r) →
      ((c : ℕ) → LeadsTo made k c Same → stays c ≡ true → Strict new (new_number stays c)) →
      Strict new (new_number stays k)
  strict_by k s falls later =
      strict (λ j r l. fall j r (back_leads k s j r l)) (λ j l. follow j (back_leads k s j Same l))
    where
      fall_at :
          (j c : ℕ) (r : Relation) → stays c ≡ true → j ≡ new_number stays c → Falls k c r →
          Falls (new_number stays k) j r
      fall_at j c r t e (inl f) = inl f
      fall_at j c r t e (inr (f, l)) = inr (f, omega (arith, e, anew_less stays k c s l))

      fall :
          (j : ℕ) (r : Relation) → ((c : ℕ) × LeadsTo made k c r × (stays c ≡ true) × (j ≡ new_number stays c)) ⊎
          (r ≡ Less) → Falls (new_number stays k) j r
      fall j r (inl (c, l, t, e)) = fall_at j c r t e (falls c r l)
      fall j r (inr e) = inl e

      follow :
          (j : ℕ) → ((c : ℕ) × LeadsTo made k c Same × (stays c ≡ true) × (j ≡ new_number stays c)) ⊎ (Same ≡ Less) →
          Strict new j
      follow j (inl (c, l, t, e)) = subst (λ n. Strict new n) (sym e) (later c l t)
      follow j (inr e) = absurd (let q : Same ≡ Less = e in cc)

  -- a strict node that stays is strict in the cut block
  strict_new : (k : ℕ) → Strict made k → stays k ≡ true → Strict new (new_number stays k)
  strict_new k (strict falls later) s = strict_by k s falls (λ c l t. strict_new c (later c l) t)

  allowed_ref :
      (n j k c : ℕ) (r : Relation) → stays k ≡ true → stays c ≡ true → new_number stays k ≡ n →
      j ≡ new_number stays c → ReferenceIsAllowed made k c r → ReferenceIsAllowed new n j r
  allowed_ref n j k c r s t e f (inl l) = inl l
  allowed_ref n j k c r s t e f (inr (q, inl l)) = inr (q, inl (omega (arith, e, f, anew_less stays k c s l)))
  allowed_ref n j k c r s t e f (inr (q, inr h)) = inr (q, inr (subst (λ x. Strict new x) (sym f) (strict_new c h t)))

  pub allowed_new : AllAreAllowed made → AllAreAllowed new
  allowed_new a n = record {
    children = λ j r h. (let b = back_child n j r h in (a b.0).children b.1 r b.2);
    refs = λ j r h. ref j r (back_ref n j r h);
  }
    where
      ref :
          (j : ℕ) (r : Relation) → (k : ℕ) × (stays k ≡ true) × (new_number stays k ≡ n) × IsBack n j r k →
          ReferenceIsAllowed new n j r
      ref j r (k, s, e, inl (c, l, t, f)) = allowed_ref n j k c r s t e f ((a k).refs c r l)
      ref j r (k, s, e, inr l) = inl l
