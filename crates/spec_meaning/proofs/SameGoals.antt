-- Goals that are the same apart from places: they stand for the same goals, and their tests find
-- something in both or in neither.
use Rattle.std.proofs.Common.{◌≡◌, ℕ, zero, suc, ◌+◌, inl, inr, List, [], ◌∷◌, ◌++◌, Option, Some, None, length, take}
use Rattle.std.proofs.Common.{drop, refl, ap, sym, ◌∙◌, subst, arith}
use Rattle.std.specs.Prelude.{map, option_map, position}
use Rattle.std.specs.List.{AllZip, AllByRecursion, slice_set}
use Rattle.std.specs.Str.{bytes_eq}
use Rattle.term_core.specs.declared.ids.SortId.{SortId}
use Rattle.term_core.proofs.Members.{In, in_contained, contained_in}
use Rattle.spec_core.specs.declared.records.Equation.{Equation}
use Rattle.spec_core.specs.declared.records.Goal.{Goal}
use Rattle.spec_core.specs.declared.records.VarInfo.{VarInfo}
use Rattle.spec_core.specs.Sig.{Sig, names_of}
use Rattle.spec_core.specs.Declarations.{IsNewName}
use Rattle.spec_core.specs.TermText.{variable_names}
use Rattle.spec_core.specs.Findings.{Search, Clean, each_after}
use Rattle.spec_grammar.specs.RawTree.{RawTree, RawTrees, word, none as no_raws, some as more_raws}
use Rattle.spec_grammar.specs.declared.raw.RawBind.{RawBind}
use Rattle.spec_grammar.specs.declared.raw.RawEq.{RawEq}
use Rattle.spec_grammar.specs.declared.raw.RawGoal.{RawGoal}
use Rattle.spec_printing.specs.SamePlaces.{SameTerm, SameTerms, SameEquation, SameBind, SameGoal}
use Rattle.sort_check.specs.Entries.{entry_names, known_sorts, sort_at, Differ}
use Rattle.sort_check.specs.Rounds.{shared, after_pair, round_tests, after_round, rounds_tests, after_rounds}
use Rattle.sort_check.specs.Words.{entries_after}
use Rattle.sort_check.specs.Occurrence.{names_after, names_after_sides}
use Rattle.sort_check.specs.Terms.{EquationStands}
use Rattle.sort_check.specs.Goals.{goal_names, VariableStands, GoalStands}
use Rattle.sort_check.specs.Inference.{IsBareVariable, HasResult, IsTaken, IsAnyTaken, IsEquation, Gets}
use Rattle.sort_check.specs.Inference.{bound as bound_gets, left_argument, right_argument, left_side, right_side}
use Rattle.sort_check.specs.Inference.{as_right, as_left}
use Rattle.sort_check.specs.GoalTests.{bind_names, seventeenth_test, inferred_tests, wanted, number_of, with_pair}
use Rattle.sort_check.specs.GoalTests.{rounds, equations_of, in_turn, left_by, bind_tests, bound, own_sort}
use Rattle.sort_check.specs.GoalTests.{sides_tests, after_sides, opposed_tests, after_opposed, opposite_tests}
use Rattle.sort_check.specs.GoalTests.{after_opposite, pair_of, pairs_in, opposed_by, inferred, sorts_tests}
use Rattle.sort_check.specs.GoalTests.{equations_tests, goal_tests}
use Rattle.sort_check.specs.declared.faults.SortFault.{SortFault}
use Rattle.sort_check.specs.declared.faults.SortKind.TheVariants.{WrongSort}
use Rattle.spec_meaning.proofs.SortCheckTypes.{Entry, Pair, goal_part}
use Rattle.spec_meaning.proofs.SameWords.{Alike, goal_placeless, named_alike, long_alike, term_stands}
use Rattle.spec_meaning.proofs.SameWords.{same_names_after, after_alike, clean_term}
use Rattle.spec_meaning.proofs.SameDeclarations.{same_map, same_zip, same_each_after}

-- Lists.

same_appended : {X : Type 0} (Same : X → X → Type 0) (xs ys zs ws : List X) → AllZip Same xs ys →
    AllZip Same zs ws → AllZip Same (xs ++ zs) (ys ++ ws)
same_appended Same [] [] zs ws p q = q
same_appended Same [] (y ∷ ys) zs ws p q = absurd p
same_appended Same (x ∷ xs) [] zs ws p q = absurd p
same_appended Same (x ∷ xs) (y ∷ ys) zs ws p q = (p.0, same_appended Same xs ys zs ws p.1 q)

same_length : {X : Type 0} (Same : X → X → Type 0) (xs ys : List X) → AllZip Same xs ys →
    length xs ≡ length ys
same_length Same [] [] p = refl
same_length Same [] (y ∷ ys) p = absurd p
same_length Same (x ∷ xs) [] p = absurd p
same_length Same (x ∷ xs) (y ∷ ys) p = ap (λ (n : ℕ). suc n) (same_length Same xs ys p.1)

-- the partner of one of the second list
partner : {X : Type 0} (Same : X → X → Type 0) (xs ys : List X) (y : X) → In y ys →
    AllZip Same xs ys → (x : X) × In x xs × Same x y
partner Same [] [] y i p = absurd i
partner Same [] (z ∷ ys) y i p = absurd p
partner Same (x ∷ xs) [] y i p = absurd p
partner Same (x ∷ xs) (z ∷ ys) y (inl e) p = (x, inl refl, subst (λ a. Same x a) (sym e) p.0)
partner Same (x ∷ xs) (z ∷ ys) y (inr i) p = let r = partner Same xs ys y i p.1 in
    (r.0, inr r.1, r.2)

all_of : {X : Type 0} (P Q : X → Type 0) → ((x : X) → P x → Q x) → (xs : List X) →
    AllByRecursion P xs → AllByRecursion Q xs
all_of P Q h [] p = tt
all_of P Q h (x ∷ xs) p = (h x p.0, all_of P Q h xs p.1)

same_equations : (raw other : RawGoal) → SameGoal raw other →
    AllZip SameEquation (equations_of raw) (equations_of other)
same_equations raw other same =
    same_appended SameEquation raw.premises other.premises raw.conclusions other.conclusions
    same.premises same.conclusions

-- The equations of two variables.

abbrev SamePair : Pair → Pair → Type 0
SamePair p q = (p.left ≡ q.left) × (p.right ≡ q.right)

same_shared : (known : List (Option SortId)) (p q : Pair) → SamePair p q → (s u : Option SortId) →
    shared known p s u ≡ shared known q s u
same_shared known p q h (Some s) None = ap (λ (n : ℕ). slice_set known n (Some s)) h.1
same_shared known p q h None (Some s) = ap (λ (n : ℕ). slice_set known n (Some s)) h.0
same_shared known p q h (Some s) (Some u) = refl
same_shared known p q h None None = refl

same_after_pair : (known : List (Option SortId)) (p q : Pair) → SamePair p q →
    after_pair known p ≡ after_pair known q
same_after_pair known p q h =
    let a : p.left ≡ q.left = h.0 in
    let b : p.right ≡ q.right = h.1 in
    let c : shared known p (sort_at known p.left) (sort_at known p.right) ≡ shared known p
    (sort_at known q.left) (sort_at known q.right) =
    λ i. shared known p (sort_at known (a i)) (sort_at known (b i)) in
    c ∙ same_shared known p q h (sort_at known q.left) (sort_at known q.right)

clean_round : (known : List (Option SortId)) (ps qs : List Pair) → AllZip SamePair ps qs →
    Clean (round_tests known qs) → Clean (round_tests known ps)
clean_round known [] [] h k = tt
clean_round known [] (q ∷ qs) h k = absurd h
clean_round known (p ∷ ps) [] h k = absurd h
clean_round known (p ∷ ps) (q ∷ qs) h k =
    let left : Differ (sort_at known p.left) (sort_at known p.right) →
    Differ (sort_at known q.left) (sort_at known p.right) =
    λ d. subst (λ (n : ℕ). Differ (sort_at known n) (sort_at known p.right)) h.0.0 d in
    let both : Differ (sort_at known p.left) (sort_at known p.right) →
    Differ (sort_at known q.left) (sort_at known q.right) =
    λ d. subst (λ (n : ℕ). Differ (sort_at known q.left) (sort_at known n)) h.0.1 (left d) in (
      λ d. k.0 (both d),
      clean_round (after_pair known p) ps qs h.1
          (subst (λ (ks : List (Option SortId)). Clean (round_tests ks qs))
          (sym (same_after_pair known p q h.0)) k.1),
    )

same_round : (known : List (Option SortId)) (ps qs : List Pair) → AllZip SamePair ps qs →
    after_round known ps ≡ after_round known qs
same_round known [] [] h = refl
same_round known [] (q ∷ qs) h = absurd h
same_round known (p ∷ ps) [] h = absurd h
same_round known (p ∷ ps) (q ∷ qs) h = same_round (after_pair known p) ps qs h.1
    ∙ ap (λ (ks : List (Option SortId)). after_round ks qs) (same_after_pair known p q h.0)

clean_rounds : (n : ℕ) (known : List (Option SortId)) (ps qs : List Pair) → AllZip SamePair ps qs →
    Clean (rounds_tests n known qs) → Clean (rounds_tests n known ps)
clean_rounds zero known ps qs h k = tt
clean_rounds (suc n) known ps qs h k = (
  clean_round known ps qs h k.0,
  clean_rounds n (after_round known ps) ps qs h
      (subst (λ (ks : List (Option SortId)). Clean (rounds_tests n ks qs))
      (sym (same_round known ps qs h)) k.1),
)

same_rounds : (n : ℕ) (known : List (Option SortId)) (ps qs : List Pair) → AllZip SamePair ps qs →
    after_rounds n known ps ≡ after_rounds n known qs
same_rounds zero known ps qs h = refl
same_rounds (suc n) known ps qs h = same_rounds n (after_round known ps) ps qs h
    ∙ ap (λ (ks : List (Option SortId)). after_rounds n ks qs) (same_round known ps qs h)

clean_inferred : (es fs : List Entry) (known : List (Option SortId)) → length es ≡ length fs →
    Clean (inferred_tests fs known) → Clean (inferred_tests es known)
clean_inferred [] fs known e k = tt
clean_inferred (e ∷ es) [] known l k = absurd (omega arith)
clean_inferred (e ∷ es) (f ∷ fs) [] l k = tt
clean_inferred (e ∷ es) (f ∷ fs) (o ∷ os) l k = (k.0, clean_inferred es fs os (omega arith) k.1)

-- Lists of equations, each after the variables that those before it leave.

module _ {X : Type 0} (Same : X → X → Type 0) (tests : List Entry → X → Search SortFault)
    (after : List Entry → X → List Entry)
    (alike : (es fs : List Entry) → Alike es fs → (x y : X) → Same x y →
    Alike (after es x) (after fs y)) where
  left_by_alike : (es fs : List Entry) → Alike es fs → (xs ys : List X) → AllZip Same xs ys →
      Alike (left_by after es xs) (left_by after fs ys)
  left_by_alike es fs a [] [] p = a
  left_by_alike es fs a [] (y ∷ ys) p = absurd p
  left_by_alike es fs a (x ∷ xs) [] p = absurd p
  left_by_alike es fs a (x ∷ xs) (y ∷ ys) p =
      left_by_alike (after es x) (after fs y) (alike es fs a x y p.0) xs ys p.1

  clean_in_turn : ((es fs : List Entry) → Alike es fs → (x y : X) → Same x y → Clean (tests fs y) →
      Clean (tests es x)) → (es fs : List Entry) → Alike es fs → (xs ys : List X) →
      AllZip Same xs ys → Clean (in_turn tests after fs ys) → Clean (in_turn tests after es xs)
  clean_in_turn clean es fs a [] [] p k = tt
  clean_in_turn clean es fs a [] (y ∷ ys) p k = absurd p
  clean_in_turn clean es fs a (x ∷ xs) [] p k = absurd p
  clean_in_turn clean es fs a (x ∷ xs) (y ∷ ys) p k = (
    clean es fs a x y p.0 k.0,
    clean_in_turn clean (after es x) (after fs y)
        (alike es fs a x y p.0) xs ys p.1 k.1,
  )

module _ (sig : Sig) where
  same_own_sort : (t u : RawTree) → SameTerm t u → own_sort sig t ≡ own_sort sig u
  same_own_sort (word b at ts) (word c other us) h =
      ap (λ (name : List ℕ). own_sort sig (word name 0 no_raws)) h.0

  same_number : (es fs : List Entry) → Alike es fs → (t u : RawTree) → SameTerm t u →
      number_of es t ≡ number_of fs u
  same_number es fs a (word b at ts) (word c other us) h =
      ap (λ (o : Option ℕ). Rattle.std.specs.Prelude.unwrap_or o 0) (named_alike es fs a b)
      ∙ ap (λ (name : List ℕ). number_of fs (word name 0 no_raws)) h.0

  same_wanted : (e d : RawEq) → SameEquation e d →
      wanted (own_sort sig e.left) (own_sort sig e.right) ≡ wanted (own_sort sig d.left)
      (own_sort sig d.right)
  same_wanted e d s =
      let a : own_sort sig e.left ≡ own_sort sig d.left = same_own_sort e.left d.left s.0 in
      let b : own_sort sig e.right ≡ own_sort sig d.right = same_own_sort e.right d.right s.1 in
      λ i. wanted (a i) (b i)

  -- The words of sides.

  left_alike : (es fs : List Entry) → Alike es fs → (e d : RawEq) → SameEquation e d →
      Alike (entries_after sig es e.left None) (entries_after sig fs d.left None)
  left_alike es fs a e d s = after_alike sig es fs e.left d.left None s.0 a

  clean_sides : (es fs : List Entry) → Alike es fs → (e d : RawEq) → SameEquation e d →
      Clean (sides_tests sig fs d) → Clean (sides_tests sig es e)
  clean_sides es fs a e d s k = (
    clean_term sig goal_part goal_placeless es fs WrongSort e.left d.left None s.0 a k.0,
    clean_term sig goal_part goal_placeless (entries_after sig es e.left None)
        (entries_after sig fs d.left None) WrongSort e.right d.right
        (wanted (own_sort sig e.left) (own_sort sig e.right)) s.1 (left_alike es fs a e d s)
        (subst (λ (o : Option SortId). Clean
        (Rattle.sort_check.specs.Words.term_tests sig goal_part (entries_after sig fs d.left None)
        WrongSort d.right o)) (sym (same_wanted e d s)) k.1),
  )

  after_sides_alike : (es fs : List Entry) → Alike es fs → (e d : RawEq) → SameEquation e d →
      Alike (after_sides sig es e) (after_sides sig fs d)
  after_sides_alike es fs a e d s =
      let es1 = entries_after sig es e.left None in
      let fs1 = entries_after sig fs d.left None in
      let w = wanted (own_sort sig e.left) (own_sort sig e.right) in
      subst (λ (o : Option SortId). Alike (entries_after sig es1 e.right w)
      (entries_after sig fs1 d.right o)) (same_wanted e d s)
      (after_alike sig es1 fs1 e.right d.right w s.1 (left_alike es fs a e d s))

  -- Equations with one variable for a side.

  module _ (es fs : List Entry) (a : Alike es fs) (e d : RawEq) (s : SameEquation e d) where
    clean_opposed : (o p : Option SortId) → Clean (opposed_tests sig fs d o p) →
        Clean (opposed_tests sig es e o p)
    clean_opposed (Some u) None k =
        clean_term sig goal_part goal_placeless es fs WrongSort e.right d.right (Some u) s.1 a k
    clean_opposed None (Some u) k =
        clean_term sig goal_part goal_placeless es fs WrongSort e.left d.left (Some u) s.0 a k
    clean_opposed (Some u) (Some v) k = tt
    clean_opposed None None k = tt

    opposed_alike : (o p : Option SortId) →
        Alike (after_opposed sig es e o p) (after_opposed sig fs d o p)
    opposed_alike (Some u) None = after_alike sig es fs e.right d.right (Some u) s.1 a
    opposed_alike None (Some u) = after_alike sig es fs e.left d.left (Some u) s.0 a
    opposed_alike (Some u) (Some v) = a
    opposed_alike None None = a

    same_pairs_more : (o p : Option SortId) (ps qs : List Pair) → AllZip SamePair ps qs →
        AllZip SamePair (with_pair (pair_of sig es e o p) ps) (with_pair (pair_of sig fs d o p) qs)
    same_pairs_more None None ps qs h =
        ((same_number es fs a e.left d.left s.0, same_number es fs a e.right d.right s.1), h)
    same_pairs_more (Some u) o ps qs h = h
    same_pairs_more None (Some u) ps qs h = h

  clean_opposite : (es fs : List Entry) → Alike es fs → (e d : RawEq) → SameEquation e d →
      Clean (opposite_tests sig fs d) → Clean (opposite_tests sig es e)
  clean_opposite es fs a e d s k =
      let left : Clean (opposed_tests sig fs d (own_sort sig e.left) (own_sort sig d.right)) =
      subst (λ (o : Option SortId). Clean (opposed_tests sig fs d o (own_sort sig d.right)))
      (sym (same_own_sort e.left d.left s.0)) k in
      let both : Clean (opposed_tests sig fs d (own_sort sig e.left) (own_sort sig e.right)) =
      subst (λ (o : Option SortId). Clean (opposed_tests sig fs d (own_sort sig e.left) o))
      (sym (same_own_sort e.right d.right s.1)) left in
      clean_opposed es fs a e d s (own_sort sig e.left) (own_sort sig e.right) both

  opposite_alike : (es fs : List Entry) → Alike es fs → (e d : RawEq) → SameEquation e d →
      Alike (after_opposite sig es e) (after_opposite sig fs d)
  opposite_alike es fs a e d s =
      let k : Alike (after_opposite sig es e)
      (after_opposed sig fs d (own_sort sig e.left) (own_sort sig e.right)) =
      opposed_alike es fs a e d s (own_sort sig e.left) (own_sort sig e.right) in
      let left : Alike (after_opposite sig es e)
      (after_opposed sig fs d (own_sort sig d.left) (own_sort sig e.right)) =
      subst (λ (o : Option SortId). Alike (after_opposite sig es e)
      (after_opposed sig fs d o (own_sort sig e.right))) (same_own_sort e.left d.left s.0) k in
      subst (λ (o : Option SortId). Alike (after_opposite sig es e)
      (after_opposed sig fs d (own_sort sig d.left) o)) (same_own_sort e.right d.right s.1) left

  same_pairs : (es fs : List Entry) → Alike es fs → (xs ys : List RawEq) →
      AllZip SameEquation xs ys → AllZip SamePair (pairs_in sig es xs) (pairs_in sig fs ys)
  same_pairs es fs a [] [] p = tt
  same_pairs es fs a [] (y ∷ ys) p = absurd p
  same_pairs es fs a (x ∷ xs) [] p = absurd p
  same_pairs es fs a (x ∷ xs) (y ∷ ys) p =
      let rest = same_pairs es fs a xs ys p.1 in
      let first = pairs_in sig es (x ∷ xs) in
      let others = pairs_in sig fs ys in
      let k : AllZip SamePair first
      (with_pair (pair_of sig fs y (own_sort sig x.left) (own_sort sig x.right)) others) =
      same_pairs_more es fs a x y p.0 (own_sort sig x.left) (own_sort sig x.right)
      (pairs_in sig es xs) others rest in
      let left : AllZip SamePair first
      (with_pair (pair_of sig fs y (own_sort sig y.left) (own_sort sig x.right)) others) =
      subst (λ (o : Option SortId). AllZip SamePair first
      (with_pair (pair_of sig fs y o (own_sort sig x.right)) others))
      (same_own_sort x.left y.left p.0.0) k in
      subst (λ (o : Option SortId). AllZip SamePair first
      (with_pair (pair_of sig fs y (own_sort sig y.left) o) others))
      (same_own_sort x.right y.right p.0.1) left

  -- The sorts of variables.

  clean_sorts : (es fs : List Entry) → Alike es fs → (xs ys : List RawEq) →
      AllZip SameEquation xs ys → Clean (sorts_tests sig fs ys) → Clean (sorts_tests sig es xs)
  clean_sorts es fs a xs ys p k =
      let oe = opposed_by sig es xs in
      let of = opposed_by sig fs ys in
      let b : Alike oe of = left_by_alike SameEquation (opposite_tests sig) (after_opposite sig)
      opposite_alike es fs a xs ys p in
      let pairs : AllZip SamePair (pairs_in sig oe xs) (pairs_in sig of ys) =
      same_pairs oe of b xs ys p in
      let known : known_sorts of ≡ known_sorts oe = sym b.sorts in
      let rounds_clean : Clean (rounds_tests (rounds oe) (known_sorts oe) (pairs_in sig of ys)) =
      subst (λ (ks : List (Option SortId)). Clean
      (rounds_tests (1 + length ks) ks (pairs_in sig of ys))) known k.1.0 in
      let sorts : inferred sig of ys ≡ inferred sig oe xs =
      ap (λ (ks : List (Option SortId)). after_rounds (1 + length ks) ks (pairs_in sig of ys))
      known ∙ sym (same_rounds (rounds oe) (known_sorts oe) (pairs_in sig oe xs)
      (pairs_in sig of ys) pairs) in (
        clean_in_turn SameEquation (opposite_tests sig) (after_opposite sig)
            opposite_alike clean_opposite es fs a xs ys p k.0,
        (
          clean_rounds (rounds oe) (known_sorts oe) (pairs_in sig oe xs) (pairs_in sig of ys)
              pairs rounds_clean,
          clean_inferred oe of (inferred sig oe xs) (long_alike oe of b)
              (subst (λ (ks : List (Option SortId)). Clean (inferred_tests of ks)) sorts k.1.1),
        ),
      )

  clean_equations : (es fs : List Entry) → Alike es fs → (xs ys : List RawEq) →
      AllZip SameEquation xs ys → Clean (equations_tests sig fs ys) →
      Clean (equations_tests sig es xs)
  clean_equations es fs a xs ys p k = (
    clean_in_turn SameEquation (sides_tests sig) (after_sides sig)
        after_sides_alike clean_sides es fs a xs ys p k.0,
    clean_sorts (left_by (after_sides sig) es xs) (left_by (after_sides sig) fs ys)
        (left_by_alike SameEquation (sides_tests sig) (after_sides sig)
        after_sides_alike es fs a xs ys p) xs ys p k.1,
  )

  -- Bindings.

  same_bind_names : (bs cs : List RawBind) → AllZip SameBind bs cs → bind_names bs ≡ bind_names cs
  same_bind_names = same_map SameBind (λ (b : RawBind). b.name.name) (λ b c h. h.0)

  bound_alike : (bs cs : List RawBind) → AllZip SameBind bs cs →
      Alike (map (bound sig) bs) (map (bound sig) cs)
  bound_alike [] [] p = record { names = refl; sorts = refl }
  bound_alike [] (c ∷ cs) p = absurd p
  bound_alike (b ∷ bs) [] p = absurd p
  bound_alike (b ∷ bs) (c ∷ cs) p =
      let a = bound_alike bs cs p.1 in
      let name : b.name.name ≡ c.name.name = p.0.0 in
      let names : entry_names (map (bound sig) bs) ≡ entry_names (map (bound sig) cs) = a.names in
      let sort : (bound sig b).sort ≡ (bound sig c).sort =
      ap (λ (n : List ℕ). option_map (λ (i : ℕ). let s : SortId = record { 0 = i } in s)
      (position (bytes_eq n) sig.sorts)) p.0.1 in
      let sorts : known_sorts (map (bound sig) bs) ≡ known_sorts (map (bound sig) cs) = a.sorts in
      record { names = λ i. name i ∷ names i; sorts = λ i. sort i ∷ sorts i }

  clean_bind : (before others : List RawBind) (b c : RawBind) → AllZip SameBind before others →
      SameBind b c → Clean (bind_tests sig others c) → Clean (bind_tests sig before b)
  clean_bind before others b c p h k =
      let names : ¬ (¬ (IsNewName c.name.name (names_of sig ++ bind_names before))) =
      subst (λ (ns : List (List ℕ)). ¬ (¬ (IsNewName c.name.name (names_of sig ++ ns))))
      (sym (same_bind_names before others p)) k.0 in (
        subst (λ (n : List ℕ). ¬ (¬ (IsNewName n (names_of sig ++ bind_names before)))) (sym h.0)
            names,
        subst (λ (n : List ℕ). ¬ (IsNewName n sig.sorts)) (sym h.1) k.1,
      )

  clean_seventeenth : (n : ℕ) (bs cs : List RawBind) → AllZip SameBind bs cs →
      Clean (seventeenth_test (drop n cs)) → Clean (seventeenth_test (drop n bs))
  clean_seventeenth zero [] cs p k = tt
  clean_seventeenth zero (b ∷ bs) [] p k = absurd p
  clean_seventeenth zero (b ∷ bs) (c ∷ cs) p k = k
  clean_seventeenth (suc n) [] cs p k = tt
  clean_seventeenth (suc n) (b ∷ bs) [] p k = absurd p
  clean_seventeenth (suc n) (b ∷ bs) (c ∷ cs) p k = clean_seventeenth n bs cs p.1 k

  -- Goals.

  clean_goal : (before others : List RawGoal) (g h : RawGoal) → AllZip SameGoal before others →
      SameGoal g h → Clean (goal_tests sig others h) → Clean (goal_tests sig before g)
  clean_goal before others g h p s k =
      let names : map (λ (b : RawGoal). b.head.name) others ≡ map (λ (b : RawGoal). b.head.name)
      before = sym (same_map SameGoal (λ (b : RawGoal). b.head.name) (λ a b q. q.head)
      before others p) in
      let name : ¬ (¬ (IsNewName h.head.name (map (λ (b : RawGoal). b.head.name) before))) =
      subst (λ (ns : List (List ℕ)). ¬ (¬ (IsNewName h.head.name ns))) names k.0 in (
        subst (λ (n : List ℕ). ¬ (¬ (IsNewName n (map (λ (b : RawGoal). b.head.name) before))))
            (sym s.head) name,
        (
          (
            same_each_after SameBind (bind_tests sig)
                clean_bind [] [] g.binds h.binds tt s.binds k.1.0.0,
            clean_seventeenth 16 g.binds h.binds s.binds k.1.0.1,
          ),
          clean_equations (map (bound sig) g.binds) (map (bound sig) h.binds)
              (bound_alike g.binds h.binds s.binds) (equations_of g) (equations_of h)
              (same_equations g h s) k.1.1,
        ),
      )

  pub clean_goals : (xs ys : List RawGoal) → AllZip SameGoal xs ys →
      Clean (each_after (goal_tests sig) [] ys) → Clean (each_after (goal_tests sig) [] xs)
  clean_goals xs ys p k = same_each_after SameGoal (goal_tests sig) clean_goal [] [] xs ys tt p k

  -- What goals stand for.

  equation_stands : (names : List (List ℕ)) (e d : RawEq) (x : Equation) → SameEquation e d →
      EquationStands sig names d x → EquationStands sig names e x
  equation_stands names e d x s p = (
    term_stands sig names e.left d.left x.left s.0 p.0,
    term_stands sig names e.right d.right x.right s.1 p.1,
  )

  same_names_after_sides : (seen : List (List ℕ)) (xs ys : List RawEq) →
      AllZip SameEquation xs ys → names_after_sides sig seen xs ≡ names_after_sides sig seen ys
  same_names_after_sides seen [] [] p = refl
  same_names_after_sides seen [] (y ∷ ys) p = absurd p
  same_names_after_sides seen (x ∷ xs) [] p = absurd p
  same_names_after_sides seen (x ∷ xs) (y ∷ ys) p =
      let a : names_after sig seen x.left ≡ names_after sig seen y.left =
      same_names_after sig seen x.left y.left p.0.0 in
      let b : names_after sig (names_after sig seen x.left) x.right ≡ names_after sig
      (names_after sig seen y.left) y.right =
      same_names_after sig (names_after sig seen x.left) x.right y.right p.0.1
      ∙ ap (λ (s : List (List ℕ)). names_after sig s y.right) a in
      same_names_after_sides (names_after sig (names_after sig seen x.left) x.right) xs ys p.1
      ∙ ap (λ (s : List (List ℕ)). names_after_sides sig s ys) b

  same_goal_names : (g h : RawGoal) → SameGoal g h → goal_names sig g ≡ goal_names sig h
  same_goal_names g h s = same_names_after_sides (bind_names g.binds) (equations_of g)
      (equations_of h) (same_equations g h s)
      ∙ ap (λ (seen : List (List ℕ)). names_after_sides sig seen (equations_of h))
      (same_bind_names g.binds h.binds s.binds)

  no_more : (ts us : RawTrees) → SameTerms ts us → us ≡ no_raws → ts ≡ no_raws
  no_more no_raws us h e = refl
  no_more (more_raws t ts) no_raws h e = absurd h
  no_more (more_raws t ts) (more_raws u us) h e = absurd (cc)

  bare_same : (x : List ℕ) (t u : RawTree) → SameTerm t u → IsBareVariable sig x u →
      IsBareVariable sig x t
  bare_same x (word b at ts) (word c other us) h v = (
    h.0 ∙ v.0,
    no_more ts us h.1 v.1,
    subst (λ (n : List ℕ). IsNewName n (names_of sig)) (sym h.0) v.2,
  )

  symbol_same : (b c : List ℕ) (i : Rattle.spec_core.specs.declared.records.SymInfo.SymInfo) →
      b ≡ c → Rattle.sort_check.specs.Inference.IsSymbol sig c i →
      Rattle.sort_check.specs.Inference.IsSymbol sig b i
  symbol_same b c i e p = (p.0, p.1 ∙ ap (λ (n : List ℕ). Some n) (sym e), p.2)

  result_same : (t u : RawTree) (s : SortId) → SameTerm t u → HasResult sig u s → HasResult sig t s
  result_same (word b at ts) (word c other us) s h r = (r.0, symbol_same b c r.0 h.0 r.1, r.2)

  mutual
    taken_same : (x : List ℕ) (s : SortId) (t u : RawTree) → SameTerm t u → IsTaken sig x s u →
        IsTaken sig x s t
    taken_same x s (word b at ts) (word c other us) h p =
        (p.0, symbol_same b c p.0 h.0 p.1, any_taken_same x s ts us p.0.args h.1 p.2)

    any_taken_same : (x : List ℕ) (s : SortId) (ts us : RawTrees) (ss : List SortId) →
        SameTerms ts us → IsAnyTaken sig x s us ss → IsAnyTaken sig x s ts ss
    any_taken_same x s no_raws no_raws ss h p = absurd p
    any_taken_same x s no_raws (more_raws u us) ss h p = absurd h
    any_taken_same x s (more_raws t ts) no_raws ss h p = absurd h
    any_taken_same x s (more_raws t ts) (more_raws u us) [] h p = absurd p
    any_taken_same x s (more_raws t ts) (more_raws u us) (v ∷ ss) h (inl p) =
        inl (bare_same x t u h.0 p.0, p.1)
    any_taken_same x s (more_raws t ts) (more_raws u us) (v ∷ ss) h (inr (inl p)) =
        inr (inl (taken_same x s t u h.0 p))
    any_taken_same x s (more_raws t ts) (more_raws u us) (v ∷ ss) h (inr (inr p)) =
        inr (inr (any_taken_same x s ts us ss h.1 p))

  module _ (g h : RawGoal) (same : SameGoal g h) where
    beside : (d : RawEq) → IsEquation sig h d → (e : RawEq) × IsEquation sig g e × SameEquation e d
    beside d i =
        let p = partner SameEquation (equations_of g) (equations_of h) d
        (in_contained (equations_of h) d i) (same_equations g h same) in
        (p.0, contained_in (equations_of g) p.0 p.1, p.2)

    gets_same : {x : List ℕ} {s : SortId} → Gets sig h x s → Gets sig g x s
    gets_same (bound_gets {x} {s} b i e p) =
        let q = partner SameBind g.binds h.binds b (in_contained h.binds b i) same.binds in
        bound_gets q.0 (contained_in g.binds q.0 q.1) (q.2.0 ∙ e)
        (p ∙ ap (λ (n : List ℕ). Some n) (sym q.2.1))
    gets_same (left_argument {x} {s} d i p) = let q = beside d i in
        left_argument q.0 q.1 (taken_same x s q.0.left d.left q.2.0 p)
    gets_same (right_argument {x} {s} d i p) = let q = beside d i in
        right_argument q.0 q.1 (taken_same x s q.0.right d.right q.2.1 p)
    gets_same (left_side {x} {s} d i v r) = let q = beside d i in
        left_side q.0 q.1 (bare_same x q.0.left d.left q.2.0 v)
        (result_same q.0.right d.right s q.2.1 r)
    gets_same (right_side {x} {s} d i v r) = let q = beside d i in
        right_side q.0 q.1 (bare_same x q.0.right d.right q.2.1 v)
        (result_same q.0.left d.left s q.2.0 r)
    gets_same (as_right {x} {y} {s} d i v w r) = let q = beside d i in
        as_right q.0 q.1 (bare_same x q.0.left d.left q.2.0 v)
        (bare_same y q.0.right d.right q.2.1 w) (gets_same r)
    gets_same (as_left {x} {y} {s} d i v w r) = let q = beside d i in
        as_left q.0 q.1 (bare_same x q.0.left d.left q.2.0 v)
        (bare_same y q.0.right d.right q.2.1 w) (gets_same r)

  variable_stands : (b c : RawBind) (v : VarInfo) → SameBind b c → VariableStands sig c v →
      VariableStands sig b v
  variable_stands b c v h p = (p.0 ∙ sym h.0, p.1 ∙ ap (λ (n : List ℕ). Some n) (sym h.1))

  goal_stands : (g h : RawGoal) (goal : Goal) → SameGoal g h → GoalStands sig h goal →
      GoalStands sig g goal
  goal_stands g h goal s p = record {
    name = p.name ∙ sym s.head;
    variables = p.variables ∙ sym (same_goal_names g h s);
    names = p.names;
    bound = subst (λ (n : ℕ). AllZip (VariableStands sig) g.binds (take n goal.vars))
        (sym (same_length SameBind g.binds h.binds s.binds))
        (same_zip SameBind (VariableStands sig) variable_stands g.binds h.binds
        (take (length h.binds) goal.vars) s.binds p.bound);
    sorts = all_of (λ (v : VarInfo). Gets sig h v.name v.sort)
        (λ (v : VarInfo). Gets sig g v.name v.sort) (λ v r. gets_same g h s r) goal.vars p.sorts;
    premises = same_zip SameEquation (EquationStands sig (variable_names goal.vars))
        (equation_stands (variable_names goal.vars))
        g.premises h.premises goal.premises s.premises p.premises;
    conclusions = same_zip SameEquation (EquationStands sig (variable_names goal.vars))
        (equation_stands (variable_names goal.vars))
        g.conclusions h.conclusions goal.conclusions s.conclusions p.conclusions;
    sorted = p.sorted;
  }

  pub goals_stand : (xs ys : List RawGoal) (goals : List Goal) → AllZip SameGoal xs ys →
      AllZip (GoalStands sig) ys goals → AllZip (GoalStands sig) xs goals
  goals_stand = same_zip SameGoal (GoalStands sig) goal_stands
