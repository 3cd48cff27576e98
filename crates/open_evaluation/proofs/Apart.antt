-- Left sides don't overlap, and groups are whole, if they are so without the constants.
use Rattle.std.proofs.Common.{◌≡◌, ℕ, suc, List, [], ◌∷◌, Bool, true, false, cond, Some, refl, ap, sym, ◌∙◌, subst}
use Rattle.std.proofs.Common.{map, length}
use Rattle.std.specs.Prelude.{slice_get}
use Rattle.std.specs.List.{AllByRecursion}
use Rattle.term_core.specs.Tree.{Tree, Trees, var, app, instance, instances}
use Rattle.term_core.specs.Same.{same_tree}
use Rattle.term_core.specs.declared.ids.SortId.{SortId}
use Rattle.spec_core.specs.declared.records.Guard.{Guard}
use Rattle.spec_core.specs.declared.records.Rule.{Rule}
use Rattle.spec_core.specs.declared.records.Spec.{Spec}
use Rattle.spec_core.specs.Sig.{Sig, info_of, IsSort}
use Rattle.spec_core.specs.Sorts.{IsValue}
use Rattle.spec_core.specs.WellSorted.{IsWellSorted, IsLeft}
use Rattle.spec_core.specs.Overlap.{NoOverlap}
use Rattle.spec_core.specs.Groups.{group, BeginsWith, bool_same, rest_if, wanting, Whole, alone, split, GroupsAreWhole}
use Rattle.open_evaluation.specs.Shifted.{shifted_number, shifted, shifted_all, shifted_guard, shifted_rule, IsExtended}
use Rattle.open_evaluation.proofs.ShiftedTerms.{shifted-same}
use Rattle.open_evaluation.proofs.Extended.{info_shifted}
use Rattle.open_evaluation.proofs.ShiftedRules.{rule_of_old}
use Rattle.open_evaluation.proofs.Back.{back, back_all, back_shifted, back_instance, back_all_sorted, back_all_built}
use Rattle.open_evaluation.proofs.Back.{value_at, is_value_at}

-- the symbol of a call that a left side matches is one of before
head_of_left : (sig : Sig) (c u : ℕ) (left : Tree) (xs : List Tree) (f : ℕ) (vs : Trees) → IsLeft sig left →
    instance xs (shifted c u left) ≡ app f vs → (g : ℕ) × (f ≡ shifted_number c u g)
head_of_left sig c u (var n) xs f vs l e = absurd l
head_of_left sig c u (app g ts) xs f vs l e =
    let q : app (shifted_number c u g) (instances xs (shifted_all c u ts)) ≡ app f vs = e in
    (g, cc)

module _ (old new : Spec) (sorts : List SortId) (more : IsExtended old new sorts) (fine : IsWellSorted old)
    (in_range : AllByRecursion (IsSort old.sig) sorts) where
  abbrev c : ℕ
  c = old.sig.constructors

  abbrev u : ℕ
  u = length sorts

  abbrev value : ℕ → Tree
  value n = value_at old.sig fine.signature.small sorts in_range n

  fits : (n : ℕ) (s : SortId) → slice_get sorts n ≡ Some s → IsValue old.sig s (value n)
  fits n s at = is_value_at old.sig fine.signature.small sorts in_range n s at

  -- a match of a left side is one of before, on the way back
  match_back : (rule r : Rule) (xs : List Tree) (f g : ℕ) (vs : Trees) → shifted_rule c u r ≡ rule →
      f ≡ shifted_number c u g → instance xs rule.left ≡ app f vs →
      instance (map (back c u value) xs) r.left ≡ app g (back_all c u value vs)
  match_back rule r xs f g vs e k h =
      sym (back_instance c u value xs r.left)
      ∙ ap (λ (x : Rule). back c u value (instance xs x.left)) e
      ∙ ap (λ t. back c u value t) h
      ∙ ap (λ j. back c u value (app j vs)) k
      ∙ back_shifted c u value g vs

  pub apart_still : NoOverlap old → NoOverlap new
  apart_still apart j k r q f i vs xs ys at_r at_q at_f sorted built is_r is_q =
      let a = rule_of_old old new sorts more fine.signature j r at_r in
      let b = rule_of_old old new sorts more fine.signature k q at_q in
      let head = head_of_left old.sig c u a.0.left xs f vs (fine.rules j a.0 a.1).left
      (ap (λ (x : Rule). instance xs x.left) a.2 ∙ is_r) in
      let at : info_of old.sig head.0 ≡ Some i = sym (info_shifted old new sorts more fine.signature head.0)
      ∙ ap (λ n. info_of new.sig n) (sym head.1) ∙ at_f in
      let same : a.0.left ≡ b.0.left = apart j k a.0 b.0 head.0 i (back_all c u value vs)
      (map (back c u value) xs) (map (back c u value) ys) a.1 b.1
      at (back_all_sorted old new sorts more fine.signature value fits vs i.args sorted)
      (back_all_built old new sorts more fine.signature value fits vs built)
      (match_back r a.0 xs f head.0 vs a.2 head.1 is_r) (match_back q b.0 ys f head.0 vs b.2 head.1 is_q) in
      ap (λ (x : Rule). x.left) (sym a.2) ∙ ap (λ t. shifted c u t) same ∙ ap (λ (x : Rule). x.left) b.2

-- A group is made of the same rules, and their guards of the same tests with the new numbers.
map_cond : {A B : Type 0} (f : A → B) (b : Bool) (xs ys : List A) → map f (cond b xs ys) ≡ cond b (map f xs) (map f ys)
map_cond f true xs ys = refl
map_cond f false xs ys = refl

module _ (c u : ℕ) where
  abbrev member : ℕ × List Guard → ℕ × List Guard
  member m = (m.0, map (shifted_guard c u) m.1)

  shifted_group : (left : Tree) (n : ℕ) (rs : List Rule) →
      group (shifted c u left) n (map (shifted_rule c u) rs) ≡ map member (group left n rs)
  shifted_group left n [] = refl
  shifted_group left n (r ∷ rs) =
      let rest = shifted_group left (suc n) rs in
      let same = shifted-same c u left r.left in
      rw (same, rest) (sym (map_cond member (same_tree left r.left) ((n, r.guards) ∷ group left (suc n) rs)
      (group left (suc n) rs)))

  shifted_rest : (w : Bool) (k : ℕ) (gs : List Guard) (ms : List (ℕ × List Guard)) →
      rest_if w k (map (shifted_guard c u) gs) (map member ms) ≡ map member (rest_if w k gs ms)
  shifted_rest w k [] ms = refl
  shifted_rest w k (g ∷ gs) ms = sym (map_cond member (bool_same w g.wanted) ((k, gs) ∷ ms) ms)

  shifted_wanting : (w : Bool) (ms : List (ℕ × List Guard)) → wanting w (map member ms) ≡ map member (wanting w ms)
  shifted_wanting w [] = refl
  shifted_wanting w (m ∷ ms) = ap (λ rest. rest_if w m.0 (map (shifted_guard c u) m.1) rest)
      (shifted_wanting w ms) ∙ shifted_rest w m.0 m.1 (wanting w ms)

  begins_still : (test : Tree) (gs : List Guard) → BeginsWith test gs →
      BeginsWith (shifted c u test) (map (shifted_guard c u) gs)
  begins_still test [] h = h
  begins_still test (g ∷ gs) h = ap (λ t. shifted c u t) h

  all_begin_still : (test : Tree) (ms : List (ℕ × List Guard)) →
      AllByRecursion (λ (m : ℕ × List Guard). BeginsWith test m.1) ms →
      AllByRecursion (λ (m : ℕ × List Guard). BeginsWith (shifted c u test) m.1) (map member ms)
  all_begin_still test [] a = tt
  all_begin_still test (m ∷ ms) a = (begins_still test m.1 a.0, all_begin_still test ms a.1)

  shifted_whole : {ms : List (ℕ × List Guard)} → Whole ms → Whole (map member ms)
  shifted_whole alone = alone
  shifted_whole (split {ms} test begins at_true at_false) =
      split (shifted c u test) (all_begin_still test ms begins)
      (subst Whole (sym (shifted_wanting true ms)) (shifted_whole at_true))
      (subst Whole (sym (shifted_wanting false ms)) (shifted_whole at_false))

module _ (old new : Spec) (sorts : List SortId) (more : IsExtended old new sorts) (fine : IsWellSorted old) where
  pub whole_still : GroupsAreWhole old → GroupsAreWhole new
  whole_still whole k rule at =
      let c = old.sig.constructors in
      let u = length sorts in
      let r = rule_of_old old new sorts more fine.signature k rule at in
      let e : group rule.left 0 new.rules ≡ map (member c u) (group r.0.left 0 old.rules) =
      ap (λ (x : Rule). group x.left 0 new.rules) (sym r.2) ∙ ap (λ rs. group (shifted c u r.0.left) 0 rs)
      more.rules ∙ shifted_group c u r.0.left 0 old.rules in
      subst Whole (sym e) (shifted_whole c u (whole k r.0 r.1))
