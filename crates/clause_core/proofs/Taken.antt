-- Terms are numbered by first occurrence if each variable is met in its turn.
use Rattle.std.proofs.Common.{◌≡◌, ◌↔◌, ℕ, List, [], ◌∷◌, ◌++◌, Option, Some, None, inl, inr, refl, ap, sym, ◌∙◌}
use Rattle.std.proofs.Common.{length, true, false, IsTrue, eqb, arith}
use Rattle.std.specs.Option.{option_eq}
use Rattle.std.proofs.lemmas.Bool.{eq-eqb}
use Rattle.std.proofs.lemmas.Bool.Decides.{nat_tests, eqb_tells}
use Rattle.term_core.specs.Tree.{Tree, Trees, var, app, none, some, trees_of}
use Rattle.term_core.specs.Variables.{occurrences, occurrences_all, Numbered, NumberedAll}
use Rattle.clause_core.specs.declared.clauses.Clause.{Clause}
use Rattle.clause_core.specs.Clauses.{sides}
use Rattle.clause_core.specs.Taken.{taken_with, taken_after}
use Rattle.clause_core.specs.Tidied.{IsTidied}

pub taken_append : (taken : Option ℕ) (ms ns : List ℕ) →
    taken_after taken (ms ++ ns) ≡ taken_after (taken_after taken ms) ns
taken_append taken [] ns = refl
taken_append taken (m ∷ ms) ns = taken_append (taken_with taken m) ms ns

-- numbers are taken only if some were before
some_before : (taken : Option ℕ) (ns : List ℕ) (m : ℕ) → taken_after taken ns ≡ Some m → (k : ℕ) × (taken ≡ Some k)
some_before (Some k) ns m h = (k, refl)
some_before None [] m h = absurd (let q : None ≡ Some m = h in cc)
some_before None (n ∷ ns) m h = some_before None ns m h

-- a variable in its turn, and what is taken if one was
turn_taken : (k m n : ℕ) → Numbered k (var n) m → taken_with (Some k) n ≡ Some m
turn_taken k m n h = grind (arith, nat_tests, h)

in_turn : (k m n : ℕ) → taken_with (Some k) n ≡ Some m → Numbered k (var n) m
in_turn k m n h = grind (arith, nat_tests, h)

mutual
  pub tree_taken : (t : Tree) (k m : ℕ) → Numbered k t m → taken_after (Some k) (occurrences t) ≡ Some m
  tree_taken (var n) k m h = turn_taken k m n h
  tree_taken (app f ts) k m h = trees_taken ts k m h

  pub trees_taken : (ts : Trees) (k m : ℕ) → NumberedAll k ts m → taken_after (Some k) (occurrences_all ts) ≡ Some m
  trees_taken none k m h = ap (λ n. Some n) (sym h)
  trees_taken (some t ts) k m h =
      taken_append (Some k) (occurrences t) (occurrences_all ts)
      ∙ ap (λ j. taken_after j (occurrences_all ts)) (tree_taken t k h.0 h.1)
      ∙ trees_taken ts h.0 m h.2

mutual
  pub tree_in_turn : (t : Tree) (k m : ℕ) → taken_after (Some k) (occurrences t) ≡ Some m → Numbered k t m
  tree_in_turn (var n) k m h = in_turn k m n h
  tree_in_turn (app f ts) k m h = trees_in_turn ts k m h

  pub trees_in_turn : (ts : Trees) (k m : ℕ) → taken_after (Some k) (occurrences_all ts) ≡ Some m → NumberedAll k ts m
  trees_in_turn none k m h = cc
  trees_in_turn (some t ts) k m h =
      let after : taken_after (taken_after (Some k) (occurrences t)) (occurrences_all ts) ≡ Some m = sym
      (taken_append (Some k) (occurrences t) (occurrences_all ts)) ∙ h in
      let first = some_before (taken_after (Some k) (occurrences t)) (occurrences_all ts) m after in (
        first.0,
        tree_in_turn t k first.0 first.1,
        trees_in_turn ts first.0 m (ap (λ j. taken_after j (occurrences_all ts)) (sym first.1) ∙ after),
      )

pub taken_tidied : (c : Clause) →
    (taken_after (Some 0) (occurrences_all (trees_of (sides c))) ≡ Some (length c.ctx)) ↔ IsTidied c
taken_tidied c = (
  λ h. trees_in_turn (trees_of (sides c)) 0 (length c.ctx) h,
  λ h. trees_taken (trees_of (sides c)) 0 (length c.ctx) h,
)

-- the test whether this many numbers are taken
pub same_taken : (taken : Option ℕ) (n : ℕ) → IsTrue (option_eq eqb taken (Some n)) ↔ (taken ≡ Some n)
same_taken None n = (λ h. cc, λ e. cc)
same_taken (Some m) n = (
  λ h. elim (eqb_tells m n)
      [ inl e ↦ ap (λ k. Some k) e.1 | inr e ↦ absurd (let q : false ≡ true = sym e.0 ∙ h in cc) ],
  λ e. eq-eqb m n (let q : Some m ≡ Some n = e in cc),
)

-- nothing is taken if a variable of the term isn't met in its turn
pub none_taken :
    (t : Tree) (k : ℕ) → ((m : ℕ) → Numbered k t m → ⊥) →
    taken_after (Some k) (occurrences t) ≡ None
none_taken t k h = by (taken_after (Some k) (occurrences t)) refl
  where
    by :
        (taken : Option ℕ) → taken_after (Some k) (occurrences t) ≡ taken →
        taken_after (Some k) (occurrences t) ≡ None
    by None e = e
    by (Some m) e = absurd (h m (tree_in_turn t k m e))

pub none_stays : (ns : List ℕ) → taken_after None ns ≡ None
none_stays [] = refl
none_stays (n ∷ ns) = none_stays ns
