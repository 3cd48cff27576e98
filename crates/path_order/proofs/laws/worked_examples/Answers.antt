use Rattle.std.proofs.Common.{◌≢◌, ℕ, refl, ap, inl, inr, arith}
use Rattle.term_core.specs.Tree.{Tree, Trees, var, app, none, some}
use Rattle.term_core.specs.Precedence.{Precedence, by_number}
use Rattle.path_order.specs.Above.{Above, SomeReaches, by_argument, by_head, by_arguments, this_is, this_above, later}
use Rattle.path_order.specs.Above.{all_none, all_some, here}
use Rattle.path_order.specs.Irreflexive.{Reaches, irreflexive}
use Rattle.path_order.specs.Examples.{zero_term, succ_term, plus_term, even_term, odd_term, with_statuses, x, y, z}
use Rattle.path_order.proofs.Deciding.{some-parts, all-parts, only-argument, place-falls, later-only, other-case}
use Rattle.path_order.proofs.Deciding.{no-place}
use Rattle.path_order.proofs.laws.worked_examples.Goals as goal

abbrev number : Tree → ℕ
number (var n) = n
number (app f ts) = 0

module _ (o : Precedence) where
  none_reaches : {s : Tree} → SomeReaches o none s → ⊥
  none_reaches r = elim r [ ]

  variable_above : {n : ℕ} {s : Tree} → Above o (var n) s → ⊥
  variable_above a = elim a [ ]

  -- a variable reaches itself alone, and nothing that has a head
  other_variable : (m n : ℕ) → m ≢ n → Reaches o (var m) (var n) → ⊥
  other_variable m n d (inl e) = d (ap number e)
  other_variable m n d (inr a) = variable_above a

  variable_head : (m f : ℕ) (ts : Trees) → Reaches o (var m) (app f ts) → ⊥
  variable_head m f ts (inl e) = cc
  variable_head m f ts (inr a) = variable_above a

  one_reaches : {t s : Tree} → (Reaches o t s → ⊥) → SomeReaches o (some t none) s → ⊥
  one_reaches n r = elim (some-parts o r) [ inl h ↦ n h | inr q ↦ none_reaches q ]

  two_reach :
      {t u s : Tree} → (Reaches o t s → ⊥) → (Reaches o u s → ⊥) →
      SomeReaches o (some t (some u none)) s → ⊥
  two_reach n m r = elim (some-parts o r) [ inl h ↦ n h | inr q ↦ one_reaches m q ]

zero_reaches : Reaches by_number zero_term x → ⊥
zero_reaches (inl e) = cc
zero_reaches (inr a) = none_reaches by_number (only-argument by_number a)

succ_reaches : Reaches by_number (succ_term x) z → ⊥
succ_reaches (inl e) = cc
succ_reaches (inr a) =
    one_reaches by_number (other_variable by_number 0 2 (λ e. omega (arith, e)))
    (only-argument by_number a)

not_exchanged : Above by_number (plus_term x y) (plus_term y x) → ⊥
not_exchanged p =
    one_reaches by_number (variable_head by_number 1 4 (some y (some x none)))
    (later-only by_number 4 4 (some x (some y none)) (some y (some x none)) refl none x y (some y none) (some x none)
    refl refl (λ e. omega (arith, ap number e)) (variable_above by_number) p refl refl)

not_later : Above by_number (plus_term (succ_term x) y) (plus_term x z) → ⊥
not_later p =
    let a =
    (place-falls by_number 4 4 (some (succ_term x) (some y none)) (some x (some z none)) refl none (succ_term x) x
    (some y none) (some z none) refl refl refl (by_argument this_is)).0 p
    in
    two_reach by_number succ_reaches (other_variable by_number 1 2 (λ e. omega (arith, e)))
    (only-argument by_number (all-parts by_number a).0)

-- by number odd is greater than even, and what even is of isn't above a term of odd
succ_reaches_odd : Reaches by_number (succ_term x) (odd_term x) → ⊥
succ_reaches_odd (inl e) = cc
succ_reaches_odd (inr a) =
    one_reaches by_number (variable_head by_number 0 6 (some x none))
    (other-case by_number a (λ l. omega (arith, l)) (λ e c. omega (arith, e)))

not_by_number : Above by_number (even_term (succ_term x)) (odd_term x) → ⊥
not_by_number a =
    one_reaches by_number succ_reaches_odd
    (other-case by_number a (λ l. omega (arith, l)) (λ e c. omega (arith, e)))

not_falling : Above with_statuses (even_term x) (odd_term x) → ⊥
not_falling a = no-place with_statuses 5 6 (some x none) (some x none) refl refl a refl refl

succ_reaches_plus : Reaches by_number (succ_term y) (plus_term (succ_term x) y) → ⊥
succ_reaches_plus (inl e) = cc
succ_reaches_plus (inr a) =
    one_reaches by_number (variable_head by_number 1 4 (some (succ_term x) (some y none)))
    (other-case by_number a (λ l. omega (arith, l)) (λ e c. omega (arith, e)))

not_first : Above by_number (plus_term x (succ_term y)) (plus_term (succ_term x) y) → ⊥
not_first p =
    one_reaches by_number succ_reaches_plus
    (later-only by_number 4 4 (some x (some (succ_term y) none)) (some (succ_term x) (some y none)) refl none x
    (succ_term x) (some (succ_term y) none) (some y none) refl refl (λ e. cc) (variable_above by_number) p refl refl)

pub returns : goal.returns
returns c = record {
  part = by_argument (this_above (by_argument this_is));
  sum =
      by_head (omega arith) (all_some (by_arguments refl
      (here refl (by_argument this_is) (all_some (by_argument (later this_is)) all_none))) all_none);
  moved =
      by_arguments refl (here refl (by_argument this_is)
      (all_some (by_head (omega arith) (all_some (by_argument (later this_is)) all_none)) all_none));
  exchanged = not_exchanged;
  later_argument = not_later;
  variable = variable_above by_number;
  foreign = λ a. one_reaches by_number zero_reaches (only-argument by_number a);
  itself = irreflexive by_number (succ_term x);
  one_level = by_arguments refl (here refl (by_argument this_is) all_none);
  other_levels = not_by_number;
  nothing_falls = not_falling;
  second_first =
      by_arguments refl (here refl (by_argument this_is)
      (all_some (by_head (omega arith) (all_some (by_argument this_is) all_none)) all_none));
  first_first = not_first;
  as_written = by_arguments refl (here refl (by_argument this_is) all_none);
}
