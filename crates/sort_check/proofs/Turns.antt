-- Tests of each of a list, each after the variables that those before it leave.
use Rattle.std.proofs.Common.{◌≡◌, ◌≤◌, ◌<◌, ℕ, zero, suc, ◌+◌, List, [], ◌∷◌, ◌++◌, inl, inr, refl, ap, sym, ◌∙◌}
use Rattle.std.proofs.Common.{subst, arith, length, take, get_or}
use Rattle.std.proofs.lemmas.List.{take_all}
use Rattle.spec_core.specs.Findings.{Search, Clean, First}
use Rattle.std.specs.Prelude.{Result, Ok, Err}
use Rattle.sort_check.specs.Answers.{Tells, Answers}
use Rattle.sort_check.specs.GoalTests.{in_turn, left_by}
use Rattle.sort_check.specs.declared.entries.Entry.{Entry}
use Rattle.sort_check.specs.declared.faults.SortFault.{SortFault}
use Rattle.sort_check.specs.declared.faults.SortFault.TheVariants.{Sort, OutOfMemory}
use Rattle.sort_check.proofs.Telling.{tells_first, tells_then}

plus_one : (i : ℕ) → suc i ≡ i + 1
plus_one i = omega arith

module _ {A : Type 0} (tests : List Entry → A → Search SortFault) (after : List Entry → A → List Entry) where
  turn_after : (es : List Entry) (xs : List A) (i : ℕ) (x : A) → i < length xs → x ≡ get_or xs i x →
      Clean (in_turn tests after es (take i xs)) → Clean (tests (left_by after es (take i xs)) x) →
      Clean (in_turn tests after es (take (suc i) xs))
  turn_after es [] i x lt is c d = absurd (omega arith)
  turn_after es (y ∷ ys) zero x lt is c d = (subst (λ z. Clean (tests es z)) is d, tt)
  turn_after es (y ∷ ys) (suc i) x lt is c d = (c.0, turn_after (after es y) ys i x (omega arith) is c.1 d)

  left_after : (es : List Entry) (xs : List A) (i : ℕ) (x : A) → i < length xs → x ≡ get_or xs i x →
      left_by after es (take (suc i) xs) ≡ after (left_by after es (take i xs)) x
  left_after es [] i x lt is = absurd (omega arith)
  left_after es (y ∷ ys) zero x lt is = ap (λ z. after es z) (sym is)
  left_after es (y ∷ ys) (suc i) x lt is = left_after (after es y) ys i x (omega arith) is

  module _ (es : List Entry) (xs : List A) (i : ℕ) where
    pub turn_next : (x : A) (fs : List Entry) → i < length xs → x ≡ get_or xs i x →
        fs ≡ left_by after es (take i xs) → Clean (in_turn tests after es (take i xs)) → Clean (tests fs x) →
        Clean (in_turn tests after es (take (i + 1) xs))
    turn_next x fs lt is e c d = subst (λ m. Clean (in_turn tests after es (take m xs))) (plus_one i)
        (turn_after es xs i x lt is c (subst (λ gs. Clean (tests gs x)) e d))

    pub left_next : (x : A) (fs gs : List Entry) → i < length xs → x ≡ get_or xs i x →
        fs ≡ left_by after es (take i xs) → gs ≡ after fs x → gs ≡ left_by after es (take (i + 1) xs)
    left_next x fs gs lt is e h = h ∙ ap (λ us. after us x) e ∙ sym (left_after es xs i x lt is)
        ∙ ap (λ m. left_by after es (take m xs)) (plus_one i)

    pub turn_end : (P : List A → Type 0) → length xs ≤ i → P (take i xs) → P xs
    turn_end P end h = subst (λ ys. P ys) (take_all i xs end) h

  turn_fault : (es : List Entry) (xs : List A) (i : ℕ) (x : A) (e : SortFault) → i < length xs →
      x ≡ get_or xs i x → Clean (in_turn tests after es (take i xs)) →
      Tells (tests (left_by after es (take i xs)) x) e → Tells (in_turn tests after es xs) e
  turn_fault es [] i x e lt is c h = absurd (omega arith)
  turn_fault es (y ∷ ys) zero x e lt is c h = tells_first (tests es y) (in_turn tests after (after es y) ys) e
      (subst (λ z. Tells (tests es z) e) is h)
  turn_fault es (y ∷ ys) (suc i) x e lt is c h = tells_then (tests es y) (in_turn tests after (after es y) ys) e
      c.0 (turn_fault (after es y) ys i x e (omega arith) is c.1 h)

  pub turn_tells : (es : List Entry) (xs : List A) (i : ℕ) (x : A) (e : SortFault) (fs : List Entry) →
      i < length xs → x ≡ get_or xs i x → fs ≡ left_by after es (take i xs) →
      Clean (in_turn tests after es (take i xs)) → Tells (tests fs x) e → Tells (in_turn tests after es xs) e
  turn_tells es xs i x e fs lt is q c h = turn_fault es xs i x e lt is c (subst (λ gs. Tells (tests gs x) e) q h)

  -- two lists, one after the other
  pub left_both : (es : List Entry) (xs ys : List A) →
      left_by after es (xs ++ ys) ≡ left_by after (left_by after es xs) ys
  left_both es [] ys = refl
  left_both es (x ∷ xs) ys = left_both (after es x) xs ys

  pub turn_both : (es : List Entry) (xs ys : List A) → Clean (in_turn tests after es xs) →
      Clean (in_turn tests after (left_by after es xs) ys) → Clean (in_turn tests after es (xs ++ ys))
  turn_both es [] ys c d = d
  turn_both es (x ∷ xs) ys c d = (c.0, turn_both (after es x) xs ys c.1 d)

  pub tells_left : (es : List Entry) (xs ys : List A) (e : SortFault) → Tells (in_turn tests after es xs) e →
      Tells (in_turn tests after es (xs ++ ys)) e
  tells_left es xs ys (Sort at kind) h = first_left es xs h
    where
      first_left : (es : List Entry) (xs : List A) → First (in_turn tests after es xs) (Sort at kind) →
          First (in_turn tests after es (xs ++ ys)) (Sort at kind)
      first_left es [] h = absurd h
      first_left es (x ∷ xs) (inl h) = inl h
      first_left es (x ∷ xs) (inr h) = inr (h.0, first_left (after es x) xs h.1)
  tells_left es xs ys OutOfMemory h = tt

  pub tells_right : (es : List Entry) (xs ys : List A) (e : SortFault) → Clean (in_turn tests after es xs) →
      Tells (in_turn tests after (left_by after es xs) ys) e → Tells (in_turn tests after es (xs ++ ys)) e
  tells_right es [] ys e c h = h
  tells_right es (x ∷ xs) ys e c h = tells_then (tests es x) (in_turn tests after (after es x) (xs ++ ys)) e c.0
      (tells_right (after es x) xs ys e c.1 h)

  pub both_answer : (es fs gs : List Entry) (xs ys : List A) (r : Result (Unit {0}) SortFault) →
      Clean (in_turn tests after es xs) → fs ≡ left_by after es xs →
      Answers (in_turn tests after fs ys) (λ _. gs ≡ left_by after fs ys) r →
      Answers (in_turn tests after es (xs ++ ys)) (λ _. gs ≡ left_by after es (xs ++ ys)) r
  both_answer es fs gs xs ys (Ok u) c e
      a = (
        turn_both es xs ys c (subst (λ us. Clean (in_turn tests after us ys)) e a.0),
        a.1 ∙ ap (λ us. left_by after us ys) e ∙ sym (left_both es xs ys),
      )
  both_answer es fs gs xs ys (Err fault) c e a = tells_right es xs ys fault c
      (subst (λ us. Tells (in_turn tests after us ys) fault) e a)
