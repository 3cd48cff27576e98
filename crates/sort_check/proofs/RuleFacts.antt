-- What is found at a rule, and the rule that its parts make.
use Rattle.std.proofs.Common.{◌≡◌, ◌≢◌, ◌≤◌, ◌<◌, ℕ, List, [], ◌∷◌, Option, Some, None, ◌⊎◌, inl, inr, refl, ap, sym}
use Rattle.std.proofs.Common.{◌∙◌, subst, arith, length}
use Rattle.std.specs.List.{AllByRecursion, AllZip}
use Rattle.std.proofs.lemmas.List.{length-map}
use Rattle.term_core.specs.Tree.{Tree, app, trees_of}
use Rattle.term_core.specs.declared.ids.SortId.{SortId}
use Rattle.spec_core.specs.declared.records.SymInfo.{SymInfo}
use Rattle.spec_core.specs.declared.records.VarInfo.{VarInfo}
use Rattle.spec_core.specs.declared.records.Guard.{Guard}
use Rattle.spec_core.specs.Declarations.{bool_sort, AreNewNames}
use Rattle.spec_core.specs.Sig.{Sig, info_of, names_of, IsConstructor}
use Rattle.spec_core.specs.Sorts.{Sorted}
use Rattle.term_core.specs.Variables.{Numbered, NumberedAll}
use Rattle.spec_core.specs.WellSorted.{sorts_of}
use Rattle.spec_core.specs.TermText.{variable_names}
use Rattle.spec_core.specs.Findings.{Search, Clean, First, each}
use Rattle.spec_grammar.specs.RawTree.{RawTree, word, raw_trees}
use Rattle.spec_grammar.specs.Sizes.{words}
use Rattle.spec_grammar.specs.declared.raw.RawGuard.{RawGuard}
use Rattle.spec_grammar.specs.declared.raw.RawRule.{RawRule}
use Rattle.sort_check.specs.Answers.{Tells}
use Rattle.sort_check.specs.Entries.{entry_names, known_sorts}
use Rattle.sort_check.specs.Words.{symbol_named, info_at, entries_after, entries_after_all, term_tests, terms_tests}
use Rattle.sort_check.specs.Occurrence.{names_after_all}
use Rattle.sort_check.specs.RuleTests.{root_tests, inner_tests, body_tests, guard_tests}
use Rattle.sort_check.specs.Over.{IsOver, AreOver, AreOverBehind, IsGuardOver, variables_of}
use Rattle.sort_check.specs.Parts.{AreSorted, root_name, root_place, arguments_of, counted, counted_tests, IsRoot}
use Rattle.sort_check.specs.Parts.{below_tests}
use Rattle.sort_check.specs.Terms.{TermStands, TermsStand}
use Rattle.sort_check.specs.Rules.{GuardStands, RuleStands}
use Rattle.sort_check.specs.declared.entries.Entry.{Entry}
use Rattle.sort_check.specs.declared.faults.SortFault.{SortFault}
use Rattle.sort_check.specs.declared.faults.SortFault.TheVariants.{Sort}
use Rattle.sort_check.specs.declared.faults.SortKind.{SortKind}
use Rattle.sort_check.specs.declared.faults.SortKind.TheVariants.{UnknownName, NoFunction, WrongNumberOfArguments}
use Rattle.sort_check.specs.declared.faults.SortKind.TheVariants.{WrongSort, GuardNotBool}
use Rattle.sort_check.specs.declared.faults.Part.TheVariants.{Left, Right}
use Rattle.sort_check.proofs.Occurrences.{distinct_after_all}
use Rattle.sort_check.proofs.Telling.{tells_first, tells_then}
use Rattle.sort_check.proofs.Names.{place_is}
use Rattle.sort_check.proofs.Growth.{KeepsNames, Keeps, extends_self}
use Rattle.sort_check.proofs.Walks.{count_is, args_are, info_is}
use Rattle.sort_check.proofs.Facts.{HasSorts, all_facts, right_facts, info_known, names_after_all_are, over_stands}
use Rattle.sort_check.proofs.Facts.{over_stand, right_same, sorted_after_all}
use Rattle.sort_check.proofs.SortedVariables.{names_are, sorts_are, variables_long}

pub root_whole : (raw : RawTree) (xs : List RawTree) → raw_trees xs ≡ arguments_of raw →
    word (root_name raw) (root_place raw) (raw_trees xs) ≡ raw
root_whole (word name at args) xs e = ap (λ rs. word name at rs) e

-- the root of a left side
module _ (sig : Sig) (most : ℕ) (counts : List ℕ) (name : List ℕ) (at : ℕ) (args : List RawTree) (raw : RawTree)
    (is : word name at (raw_trees args) ≡ raw) (o : Option ℕ) (k : symbol_named sig name ≡ o) where
  pub at_root : (Q : Search SortFault → Type 0) →
      Q (root_tests sig most at (words raw) (counted counts o) (raw_trees args) o) →
      Q (counted_tests sig most counts raw)
  at_root Q h =
      let a : Q (root_tests sig most at (words (word name at (raw_trees args))) (counted counts o)
      (raw_trees args) o) = subst
      (λ r. Q (root_tests sig most at (words r) (counted counts o) (raw_trees args) o)) (sym is) h in
      subst (λ r. Q (counted_tests sig most counts r)) is
      (subst (λ x. Q (root_tests sig most at (words (word name at (raw_trees args))) (counted counts x)
      (raw_trees args) x)) (sym k) a)

  pub root_is : (f n m : ℕ) → o ≡ Some f → ¬ (IsConstructor sig f) → n ≡ length args →
      m ≡ length (info_at sig f).args → n ≡ m → IsRoot sig raw f
  root_is f n m e c a b same = subst (λ r. IsRoot sig r f) is (k ∙ e, c, omega (arith, count_is args))

pub no_root : (sig : Sig) (most at size before n : ℕ) (args : List RawTree) (kind : SortKind) →
    n ≡ length args → ((n ≡ 0) × (kind ≡ NoFunction)) ⊎ ((n ≢ 0) × (kind ≡ UnknownName)) →
    First (root_tests sig most at size before (raw_trees args) None) (Sort at kind)
no_root sig most at size before n [] kind l (inl h) = (tt, ap (λ k. Sort at k) h.1)
no_root sig most at size before n [] kind l (inr h) = absurd (h.0 l)
no_root sig most at size before n (r ∷ rs) kind l (inl h) = absurd (omega (arith, h.0))
no_root sig most at size before n (r ∷ rs) kind l (inr h) = (tt, ap (λ k. Sort at k) h.1)

module _ (sig : Sig) (most at size before n m f : ℕ) (args : List RawTree) (other : ¬ (IsConstructor sig f))
    (few : before < most) (small : size ≤ 200) (long : n ≡ length args) (wide : m ≡ length (info_at sig f).args) where
  pub root_number : n ≢ m → First (root_tests sig most at size before (raw_trees args) (Some f))
      (Sort at WrongNumberOfArguments)
  root_number d = inr (
    other,
    inr ((λ h. omega arith), inr ((λ h. omega arith), ((λ e. d (omega (arith, count_is args))), refl))),
  )

  pub root_clean : n ≡ m → Clean (root_tests sig most at size before (raw_trees args) (Some f))
  root_clean e = (other, ((λ h. omega arith), ((λ h. omega arith), (λ d. d (omega (arith, count_is args))))))

sorts_long : (vs : List VarInfo) → length (sorts_of vs) ≡ length vs
sorts_long vs = length-map vs (λ (v : VarInfo). v.sort)

-- a rule below its root
module _ (sig : Sig) (rule : RawRule) (name : List ℕ) (at f : ℕ) (args : List RawTree)
    (is : word name at (raw_trees args) ≡ rule.left) (root : IsRoot sig rule.left f) where
  abbrev here : IsRoot sig (word name at (raw_trees args)) f
  here = subst (λ r. IsRoot sig r f) (sym is) root

  abbrev sorts : List SortId
  sorts = (info_at sig f).args

  abbrev result : SortId
  result = (info_at sig f).result

  abbrev end : List Entry
  end = entries_after_all sig [] (raw_trees args) sorts

  pub at_below : (Q : Search SortFault → Type 0) → Q (inner_tests sig (raw_trees args) rule (Some f)) →
      Q (below_tests sig rule.left rule)
  at_below Q h = subst (λ r. Q (below_tests sig r rule)) is
      (subst (λ o. Q (inner_tests sig (raw_trees args) rule o)) (sym here.0) h)

  pub root_long : (i : SymInfo) (xs : List RawTree) (ss : List SortId) → info_of sig f ≡ Some i → xs ≡ args →
      ss ≡ i.args → length xs ≡ length ss
  root_long i xs ss e x y = omega (
    arith,
    here.2,
    count_is args,
    ap (λ rs. length rs) x,
    ap (λ us. length us) (y ∙ sym (args_are sig f i e)),
  )

  -- what the walks answer, in the words of the signature and the raw rule
  pub lefts_are : (v0 v1 : List Entry) (xs : List RawTree) (ss : List SortId) (m0 m1 : List Tree)
      (i : SymInfo) → info_of sig f ≡ Some i → v0 ≡ [] → m0 ≡ [] → xs ≡ args → ss ≡ i.args →
      Clean (terms_tests sig Left v0 (raw_trees xs) ss)
      × ((v1 ≡ entries_after_all sig v0 (raw_trees xs) ss) × AreOverBehind sig v1 (raw_trees xs) m0 m1) →
      Clean (terms_tests sig Left [] (raw_trees args) sorts)
      × ((v1 ≡ end) × AreOverBehind sig v1 (raw_trees args) [] m1)
  lefts_are v0 v1 xs ss m0 m1 i k a b x y h =
      let P : List Entry → List RawTree → List SortId → List Tree →
      Type 0 = λ vs rs us ts. Clean (terms_tests sig Left vs (raw_trees rs) us)
      × ((v1 ≡ entries_after_all sig vs (raw_trees rs) us) × AreOverBehind sig v1 (raw_trees rs) ts m1) in
      subst (λ ts. P [] args sorts ts) b (subst (λ us. P [] args us m0) (y ∙ sym (args_are sig f i k))
      (subst (λ rs. P [] rs ss m0) x (subst (λ vs. P vs xs ss m0) a h)))

  pub rights_are : (v0 v1 : List Entry) (s : SortId) (t : Tree) (i : SymInfo) → info_of sig f ≡ Some i →
      s ≡ i.result → AreSorted v0 → Clean (term_tests sig Right v0 WrongSort rule.right (Some s))
      × ((v1 ≡ entries_after sig v0 rule.right (Some s)) × IsOver sig v1 rule.right t) →
      Clean (term_tests sig Right v0 WrongSort rule.right (Some result)) × ((v1 ≡ v0) × IsOver sig v0 rule.right t)
  rights_are v0 v1 s t i k e a h =
      let same : v1 ≡ v0 = h.1.0 ∙ right_same sig v0 WrongSort rule.right (Some s) a h.0 in
      let q : s ≡ result = e ∙ sym (ap (λ (j : SymInfo). j.result) (info_is sig f i k)) in (
        subst (λ u. Clean (term_tests sig Right v0 WrongSort rule.right (Some u))) q h.0,
        (same, subst (λ vs. IsOver sig vs rule.right t) same h.1.1),
      )

  pub guards_are : (v0 v1 v2 : List Entry) (xs : List RawGuard) (gs : List Guard) → v1 ≡ v0 → xs ≡ rule.guards →
      Clean (each (guard_tests sig v1) xs) × ((v2 ≡ v1) × AllZip (IsGuardOver sig v1) xs gs) →
      Clean (each (guard_tests sig v0) rule.guards) × ((v2 ≡ v0) × AllZip (IsGuardOver sig v0) rule.guards gs)
  guards_are v0 v1 v2 xs gs a b h = subst (λ rs. Clean (each (guard_tests sig v0) rs)
      × ((v2 ≡ v0) × AllZip (IsGuardOver sig v0) rs gs)) b
      (subst (λ vs. Clean (each (guard_tests sig vs) xs) × ((v2 ≡ vs) × AllZip (IsGuardOver sig vs) xs gs)) a h)

  module _ (es : List Entry) (made : es ≡ end) where
    pub left_sorted : AreSorted es
    left_sorted = subst (λ xs. AreSorted xs) (sym made)
        (sorted_after_all sig [] (raw_trees args) sorts (λ n lt. absurd (omega arith)))

    pub left_fault : (e : SortFault) → Tells (terms_tests sig Left [] (raw_trees args) sorts) e →
        Tells (below_tests sig rule.left rule) e
    left_fault e h = at_below (λ s. Tells s e) (tells_first (terms_tests sig Left [] (raw_trees args) sorts)
        (body_tests sig end rule result) e h)

    module _ (lefts : Clean (terms_tests sig Left [] (raw_trees args) sorts)) where
      body_fault : (e : SortFault) → Tells (body_tests sig es rule result) e → Tells (below_tests sig rule.left rule) e
      body_fault e h = at_below (λ s. Tells s e) (tells_then (terms_tests sig Left [] (raw_trees args) sorts)
          (body_tests sig end rule result) e lefts (subst (λ xs. Tells (body_tests sig xs rule result) e) made h))

      pub right_fault : (e : SortFault) → Tells (term_tests sig Right es WrongSort rule.right (Some result)) e →
          Tells (below_tests sig rule.left rule) e
      right_fault e h = body_fault e (tells_first (term_tests sig Right es WrongSort rule.right (Some result))
          (each (guard_tests sig es) rule.guards) e h)

      pub guards_fault : (e : SortFault) → Clean (term_tests sig Right es WrongSort rule.right (Some result)) →
          Tells (each (guard_tests sig es) rule.guards) e → Tells (below_tests sig rule.left rule) e
      guards_fault e c h = body_fault e (tells_then (term_tests sig Right es WrongSort rule.right (Some result))
          (each (guard_tests sig es) rule.guards) e c h)

      abbrev vars : List VarInfo
      vars = variables_of es (known_sorts es)

      known_long : length (known_sorts es) ≡ length es
      known_long = length-map es (λ (e : Entry). e.sort)

      has_sorts : HasSorts es (sorts_of vars)
      has_sorts n s h = sorts_are es (known_sorts es) known_long n s h

      vars_names : variable_names vars ≡ entry_names es
      vars_names = names_are es (known_sorts es) known_long

      guards_sorted : (gs : List Guard) (rs : List RawGuard) → Clean (each (guard_tests sig es) rs) →
          AllZip (IsGuardOver sig es) rs gs →
          AllByRecursion (λ (g : Guard). Sorted sig (sorts_of vars) g.test bool_sort) gs
      guards_sorted [] [] c p = tt
      guards_sorted (g ∷ gs) [] c p = absurd p
      guards_sorted [] (r ∷ rs) c p = absurd p
      guards_sorted (g ∷ gs) (r ∷ rs) c p =
          let h = right_facts sig (sorts_of vars) es GuardNotBool r.test (Some bool_sort) g.test has_sorts
          left_sorted c.0 p.0.0 in
          (h.sorted bool_sort refl, guards_sorted gs rs c.1 p.1)

      guards_stand : (gs : List Guard) (rs : List RawGuard) → AllZip (IsGuardOver sig es) rs gs →
          AllZip (GuardStands sig (variable_names vars)) rs gs
      guards_stand [] [] p = tt
      guards_stand (g ∷ gs) [] p = absurd p
      guards_stand [] (r ∷ rs) p = absurd p
      guards_stand (g ∷ gs) (r ∷ rs)
          p = (
            (
              subst (λ ns. TermStands sig ns r.test g.test) (sym vars_names)
                  (over_stands sig es r.test g.test p.0.0),
              p.0.1,
            ),
            guards_stand gs rs p.1,
          )

      left_names : entry_names es ≡ names_after_all sig [] (raw_trees args)
      left_names = ap (λ xs. entry_names xs) made ∙ names_after_all_are sig Left [] (raw_trees args) sorts here.2 lefts

      -- the rule that the parts make
      pub rule_made : (ts : List Tree) (left right : Tree) (guards : List Guard) → length es ≤ 16 →
          AreOverBehind sig es (raw_trees args) [] ts → left ≡ app f (trees_of ts) →
          Clean (term_tests sig Right es WrongSort rule.right (Some result)) → IsOver sig es rule.right right →
          Clean (each (guard_tests sig es) rule.guards) → AllZip (IsGuardOver sig es) rule.guards guards →
          Clean (below_tests sig rule.left rule)
          × RuleStands sig rule (record { vars = vars; left = left; right = right; guards = guards })
      rule_made ts left right guards few b el cr sr cg sg =
          let all : AreOver sig es (raw_trees args) (trees_of ts) = subst
          (λ xs. AreOver sig es (raw_trees args) (trees_of xs)) (sym b.1) b.2 in
          let af = all_facts sig Left (sorts_of vars) es has_sorts [] (raw_trees args) sorts (trees_of ts)
          here.2 lefts (subst (λ xs. KeepsNames xs es) made (extends_self es))
          (subst (λ xs. Keeps xs es) made (λ n s e. e)) all in
          let rf = right_facts sig (sorts_of vars) es WrongSort rule.right (Some result) right has_sorts
          left_sorted cr sr in
          let long : length end ≡ length (sorts_of vars) = omega (
            arith,
            ap (λ xs. length xs) made,
            sorts_long vars,
            variables_long es (known_sorts es) known_long,
          ) in
          let numbered : Numbered 0 (app f (trees_of ts)) (length (sorts_of vars)) = subst
          (λ m. NumberedAll 0 (trees_of ts) m) long af.numbered in
          let lefts_stand : TermsStand sig (variable_names vars) (raw_trees args) (trees_of ts) = subst
          (λ ns. TermsStand sig ns (raw_trees args) (trees_of ts)) (sym vars_names)
          (over_stand sig es (raw_trees args) (trees_of ts) all) in
          let left_stands : TermStands sig (variable_names vars) rule.left (app f (trees_of ts)) = subst
          (λ r. TermStands sig (variable_names vars) r (app f (trees_of ts))) is
          (place_is name (names_of sig) f here.0, lefts_stand) in
          let body : Clean (body_tests sig end rule result) = subst
          (λ xs. Clean (body_tests sig xs rule result)) made (cr, cg) in
          let P : Tree → Type 0 = λ t. RuleStands sig rule
          (record { vars = vars; left = t; right = right; guards = guards }) in (
            at_below (λ s. Clean s) (lefts, body),
            subst P (sym el) (record {
              names = subst (λ ns. AreNewNames [] ns) (sym (vars_names ∙ left_names))
                  (distinct_after_all sig [] (raw_trees args) tt);
              left = left_stands;
              right = subst (λ ns. TermStands sig ns rule.right right) (sym vars_names)
                  (over_stands sig es rule.right right sr);
              guards = guards_stand guards rule.guards sg;
              head = (here.1, af.pattern refl);
              numbered = numbered;
              few_variables = omega (arith, few, variables_long es (known_sorts es) known_long);
              sides = (result, (info_at sig f, info_known sig name f here.0, refl, af.sorted), rf.sorted result refl);
              tests = guards_sorted guards rule.guards cg sg;
            }),
          )
