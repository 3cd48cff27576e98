-- Loops over searches, and searches in which each test sees the names that are taken before it.
use Rattle.std.proofs.Common.{◌≡◌, ℕ, suc, ◌+◌, ◌<◌, ◌≤◌, inl, inr, List, [], ◌∷◌, ◌++◌, refl, ap, sym, ◌∙◌, subst}
use Rattle.std.proofs.Common.{arith, get_or, length, take, drop, append_assoc}
use Rattle.std.specs.Prelude.{Result, Ok, Err, map}
use Rattle.std.specs.List.{flat_map}
use Rattle.std.proofs.lemmas.List.{append-nil, length-take-le, take_all}
use Rattle.spec_core.specs.declared.records.SymInfo.{SymInfo}
use Rattle.spec_core.specs.Declarations.{IsNewName}
use Rattle.spec_core.specs.Findings.{Search, nothing, test, then, each, Clean, First}
use Rattle.spec_core.proofs.Findings.{each_stops}
use Rattle.spec_grammar.specs.declared.raw.RawNames.{RawNames}
use Rattle.spec_grammar.specs.declared.raw.RawSort.{RawSort}
use Rattle.spec_grammar.specs.declared.raw.RawFun.{RawFun}
use Rattle.sort_check.specs.Signatures.{sort_names}
use Rattle.sort_check.specs.DeclarationTests.{sorts_tests, sort_test, symbol_tests, constructors_tests}
use Rattle.sort_check.specs.DeclarationTests.{all_constructors_tests, functions_tests, constructor_of, constructors_of}
use Rattle.sort_check.specs.Answers.{Tells, Answers}
use Rattle.sort_check.proofs.Telling.{tells_then}
use Rattle.sort_check.specs.declared.faults.SortFault.{SortFault}
use Rattle.sort_check.specs.declared.faults.SortFault.TheVariants.{Sort, OutOfMemory}
use Rattle.sort_check.specs.declared.faults.SortKind.TheVariants.{RepeatedName}
use Rattle.term_core.proofs.Items.{parted_at, taken_next}

-- the names of the constructors of sorts
abbrev pub names_in : List RawSort → List (List ℕ)
names_in raws = flat_map (λ (s : RawSort). map (λ (c : RawNames). c.name) s.constructors) raws

-- one search after another
pub answers_then : {X : Type 0} (s t : Search SortFault) (P Q : X → Type 0) (r : Result X SortFault) → Clean s →
    ((x : X) → P x → Q x) → Answers t P r → Answers (then s t) Q r
answers_then s t P Q (Ok x) c go h = ((c, h.0), go x h.1)
answers_then s t P Q (Err e) c go h = tells_then s t e c h

-- memory may always be wanted
pub tells_memory : (s : Search SortFault) (e : SortFault) → e ≡ OutOfMemory → Tells s e
tells_memory s e is = subst (λ x. Tells s x) (sym is) tt

pub tells_each : {A : Type 0} (f : A → Search SortFault) (xs : List A) (i : ℕ) (x : A) (e : SortFault) →
    i < length xs → x ≡ get_or xs i x → Clean (each f (take i xs)) → Tells (f x) e → Tells (each f xs) e
tells_each f xs i x (Sort at kind) lt is c h = each_stops f xs i x (Sort at kind) lt is c h
tells_each f xs i x OutOfMemory lt is c h = tt

-- a function of lists that goes over them in pieces, at one more element
module _ {A B : Type 0} (piece : A → List B) (whole : List A → List B) (end : whole [] ≡ [])
    (on : (x : A) (xs : List A) → whole (x ∷ xs) ≡ piece x ++ whole xs) where
  pub whole_more : (xs : List A) (x : A) → whole (xs ++ x ∷ []) ≡ whole xs ++ piece x
  whole_more [] x = on x [] ∙ ap (λ g. piece x ++ g) end ∙ append-nil (piece x) ∙ ap (λ g. g ++ piece x) (sym end)
  whole_more (y ∷ ys) x = on y (ys ++ x ∷ []) ∙ ap (λ g. piece y ++ g) (whole_more ys x)
      ∙ sym (append_assoc (piece y) (whole ys) (piece x)) ∙ ap (λ g. g ++ piece x) (sym (on y ys))

  -- what a loop has put after a list
  pub behind_next : (xs : List A) (i : ℕ) (x : A) (old now new : List B) → i < length xs → x ≡ get_or xs i x →
      now ≡ old ++ whole (take i xs) → new ≡ now ++ piece x → new ≡ old ++ whole (take (i + 1) xs)
  behind_next xs i x old now new lt is before made =
      made ∙ ap (λ g. g ++ piece x) before ∙ append_assoc old (whole (take i xs)) (piece x)
      ∙ ap (λ g. old ++ g) (sym (whole_more (take i xs) x))
      ∙ ap (λ ys. old ++ whole ys) (sym (taken_next xs i x lt is))

  pub behind_end : (xs : List A) (i : ℕ) (old now : List B) → length xs ≤ i → now ≡ old ++ whole (take i xs) →
      now ≡ old ++ whole xs
  behind_end xs i old now ends is = is ∙ ap (λ ys. old ++ whole ys) (take_all i xs ends)

-- a search of each element with the names that are taken before it
pub record Taking {A : Type 0} (f : List (List ℕ) → A → Search SortFault) (names : A → List (List ℕ))
    (all : List (List ℕ) → List A → Search SortFault) (taken : List A → List (List ℕ)) : Type 1 where
  pub all_end : (t : List (List ℕ)) → all t [] ≡ nothing
  pub all_on : (t : List (List ℕ)) (x : A) (xs : List A) → all t (x ∷ xs) ≡ then (f t x) (all (t ++ names x) xs)
  pub taken_end : taken [] ≡ []
  pub taken_on : (x : A) (xs : List A) → taken (x ∷ xs) ≡ names x ++ taken xs

module _ {A : Type 0} {f : List (List ℕ) → A → Search SortFault} {names : A → List (List ℕ)}
    {all : List (List ℕ) → List A → Search SortFault} {taken : List A → List (List ℕ)}
    (by : Taking f names all taken) where
  same_before : (t : List (List ℕ)) (x : A) (xs : List A) → t ++ taken (x ∷ xs) ≡ (t ++ names x) ++ taken xs
  same_before t x xs = ap (λ g. t ++ g) (by.taken_on x xs) ∙ sym (append_assoc t (names x) (taken xs))

  none_before : (t : List (List ℕ)) → t ++ taken [] ≡ t
  none_before t = ap (λ g. t ++ g) by.taken_end ∙ append-nil t

  taking_more : (t : List (List ℕ)) (xs : List A) (x : A) → Clean (all t xs) → Clean (f (t ++ taken xs) x) →
      Clean (all t (xs ++ x ∷ []))
  taking_more t [] x c d = subst (λ s. Clean s) (sym (by.all_on t x []))
      (subst (λ u. Clean (f u x)) (none_before t) d, subst (λ s. Clean s) (sym (by.all_end (t ++ names x))) tt)
  taking_more t (y ∷ ys) x c d =
      let e : Clean (f t y) × Clean (all (t ++ names y) ys) = subst (λ s. Clean s) (by.all_on t y ys) c in
      subst (λ s. Clean s) (sym (by.all_on t y (ys ++ x ∷ []))) (
        e.0,
        taking_more (t ++ names y) ys x e.1 (subst (λ u. Clean (f u x)) (same_before t y ys) d),
      )

  taking_fault : (t : List (List ℕ)) (xs ys : List A) (x : A) (e : SortFault) → Clean (all t xs) →
      First (f (t ++ taken xs) x) e → First (all t (xs ++ x ∷ ys)) e
  taking_fault t [] ys x e c h = subst (λ s. First s e) (sym (by.all_on t x ys))
      (inl (subst (λ u. First (f u x) e) (none_before t) h))
  taking_fault t (y ∷ zs) ys x e c h =
      let d : Clean (f t y) × Clean (all (t ++ names y) zs) = subst (λ s. Clean s) (by.all_on t y zs) c in
      subst (λ s. First s e) (sym (by.all_on t y (zs ++ x ∷ ys)))
      (inr (d.0, taking_fault (t ++ names y) zs ys x e d.1 (subst (λ u. First (f u x) e) (same_before t y zs) h)))

  module _ (t : List (List ℕ)) (xs : List A) (i : ℕ) (x : A) (now : List (List ℕ)) (lt : i < length xs)
      (is : x ≡ get_or xs i x) (has : now ≡ t ++ taken (take i xs)) (clean : Clean (all t (take i xs))) where
    pub taking_next : Clean (f now x) → Clean (all t (take (i + 1) xs))
    taking_next c = subst (λ ys. Clean (all t ys)) (sym (taken_next xs i x lt is))
        (taking_more t (take i xs) x clean (subst (λ u. Clean (f u x)) has c))

    pub tells_taking : (e : SortFault) → Tells (f now x) e → Tells (all t xs) e
    tells_taking (Sort at kind) h = subst (λ ys. First (all t ys) (Sort at kind)) (parted_at xs i x lt is)
        (taking_fault t (take i xs) (drop (suc i) xs) x (Sort at kind) clean
        (subst (λ u. First (f u x) (Sort at kind)) has h))
    tells_taking OutOfMemory h = tt

  pub taking_end : (t : List (List ℕ)) (xs : List A) (i : ℕ) → length xs ≤ i → Clean (all t (take i xs)) →
      Clean (all t xs)
  taking_end t xs i ends c = subst (λ ys. Clean (all t ys)) (take_all i xs ends) c

-- the searches of declarations
abbrev pub name_test : List (List ℕ) → RawSort → Search SortFault
name_test taken s = test (Sort s.head.at RepeatedName) (¬ (IsNewName s.head.name taken))

pub taking_sorts : Taking name_test (λ (s : RawSort). s.head.name ∷ []) sorts_tests sort_names
taking_sorts = record { all_end = λ t. refl; all_on = λ t x xs. refl; taken_end = refl; taken_on = λ x xs. refl }

module _ (sorts : List (List ℕ)) where
  pub taking_constructors : Taking (symbol_tests sorts) (λ (c : RawNames). c.name ∷ [])
      (constructors_tests sorts) (λ cs. map (λ (c : RawNames). c.name) cs)
  taking_constructors = record {
    all_end = λ t. refl;
    all_on = λ t x xs. refl;
    taken_end = refl;
    taken_on = λ x
        xs. refl;
  }

  pub taking_all : Taking (λ t (s : RawSort). constructors_tests sorts t s.constructors)
      (λ (s : RawSort). map (λ (c : RawNames). c.name) s.constructors) (all_constructors_tests sorts) names_in
  taking_all = record { all_end = λ t. refl; all_on = λ t x xs. refl; taken_end = refl; taken_on = λ x xs. refl }

  abbrev pub function_tests : List (List ℕ) → RawFun → Search SortFault
  function_tests t f = then (symbol_tests sorts t f.head) (sort_test sorts f.result)

  pub taking_functions : Taking function_tests (λ (f : RawFun). f.head.name ∷ []) (functions_tests sorts)
      (λ fs. map (λ (f : RawFun). f.head.name) fs)
  taking_functions = record { all_end = λ t. refl; all_on = λ t x xs. refl; taken_end = refl; taken_on = λ x xs. refl }

  -- the constructors of sorts and of one more sort
  pub constructors_more : (n : ℕ) (ss : List RawSort) (s : RawSort) →
      constructors_of sorts n (ss ++ s ∷ []) ≡ constructors_of sorts n ss
      ++ map (constructor_of sorts (n + length ss)) s.constructors
  constructors_more n [] s = append-nil (map (constructor_of sorts n) s.constructors)
      ∙ ap (λ k. map (constructor_of sorts k) s.constructors) (let e : n ≡ n + 0 = omega arith in e)
  constructors_more n (r ∷ ss) s =
      let e : suc n + length ss ≡ n + suc (length ss) = omega arith in
      ap (λ es. map (constructor_of sorts n) r.constructors ++ es) (constructors_more (suc n) ss s
      ∙ ap (λ k. constructors_of sorts (suc n) ss ++ map (constructor_of sorts k) s.constructors) e)
      ∙ sym (append_assoc (map (constructor_of sorts n) r.constructors) (constructors_of sorts (suc n) ss)
      (map (constructor_of sorts (n + suc (length ss))) s.constructors))

  pub constructors_next : (ss : List RawSort) (i n : ℕ) (s : RawSort) (now new : List (List ℕ × SymInfo)) →
      i < length ss → s ≡ get_or ss i s → n ≡ i + 1 → now ≡ constructors_of sorts 1 (take i ss) →
      new ≡ now ++ map (constructor_of sorts n) s.constructors → new ≡ constructors_of sorts 1 (take (i + 1) ss)
  constructors_next ss i n s now new lt is number before made =
      let k : 1 + length (take i ss) ≡ n = omega (arith, length-take-le i ss (omega arith)) in
      made ∙ (λ j. before j ++ map (constructor_of sorts (sym k j)) s.constructors)
      ∙ sym (constructors_more 1 (take i ss) s)
      ∙ ap (λ ys. constructors_of sorts 1 ys) (sym (taken_next ss i s lt is))
