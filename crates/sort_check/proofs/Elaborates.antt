-- What a raw specification, and a ground term, is answered.
use Rattle.std.proofs.Common.{◌≡◌, ℕ, zero, suc, List, [], ◌∷◌, ◌++◌, Option, Some, None, Ok, Err, inl, inr, refl, ap}
use Rattle.std.proofs.Common.{sym, ◌∙◌, subst, map}
use Rattle.std.specs.List.{AllZip}
use Rattle.std.specs.Prelude.{slice_get, Result, IfOk, option_map}
use Rattle.std.proofs.lemmas.List.{map-append}
use Rattle.term_core.specs.Tree.{Tree}
use Rattle.term_core.specs.declared.ids.SortId.{SortId}
use Rattle.spec_core.specs.declared.records.Goal.{Goal}
use Rattle.spec_core.specs.declared.records.Rule.{Rule}
use Rattle.spec_core.specs.declared.records.Spec.{Spec}
use Rattle.spec_core.specs.declared.records.OrderInfo.{OrderInfo}
use Rattle.spec_core.specs.Sig.{Sig}
use Rattle.spec_core.specs.Sorts.{Sorted}
use Rattle.spec_core.specs.Declarations.{AreNewNames, IsDeclared}
use Rattle.spec_core.specs.WellSorted.{GoalNamesAreDistinct, IsWellSorted}
use Rattle.spec_core.specs.Findings.{Search, Clean, First, each_after}
use Rattle.spec_core.proofs.Findings.{not_both, one_first}
use Rattle.spec_grammar.specs.KeepsLimits.{KeepsLimits}
use Rattle.spec_grammar.specs.RawTree.{RawTree, RawTrees, word, none as no_raws, some as more_raws}
use Rattle.spec_grammar.specs.declared.raw.RawGoal.{RawGoal}
use Rattle.spec_grammar.specs.declared.raw.RawRule.{RawRule}
use Rattle.spec_grammar.specs.declared.raw.RawSpec.{RawSpec}
use Rattle.sort_check.specs.Answers.{Answers, IsUnlessNoMemory}
use Rattle.sort_check.specs.GoalTests.{goal_tests, own_sort}
use Rattle.sort_check.specs.Goals.{GoalStands}
use Rattle.sort_check.specs.Words.{symbol_named, info_at, after_word, entries_after, entries_after_all, other_tests}
use Rattle.sort_check.specs.Words.{word_tests, terms_tests, term_tests}
use Rattle.sort_check.specs.DeclarationTests.{declarations_tests, sig_of}
use Rattle.sort_check.specs.Limits.{most_rules_of_one}
use Rattle.sort_check.specs.Orders.{OrderStands}
use Rattle.sort_check.specs.OrderTests.{order_tests}
use Rattle.sort_check.specs.RuleTests.{rule_tests}
use Rattle.sort_check.specs.Rules.{RuleStands}
use Rattle.sort_check.specs.Signatures.{SignatureStands}
use Rattle.sort_check.specs.StandsFor.{IsNumbered, StandsFor, TermStandsFor}
use Rattle.sort_check.specs.FirstFault.{spec_tests, ground_tests}
use Rattle.sort_check.specs.Over.{IsOver}
use Rattle.sort_check.specs.Terms.{TermStands}
use Rattle.sort_check.specs.declared.entries.Entry.{Entry}
use Rattle.sort_check.specs.declared.faults.SortFault.{SortFault}
use Rattle.sort_check.specs.declared.faults.SortFault.TheVariants.{Sort, OutOfMemory}
use Rattle.sort_check.specs.declared.faults.SortKind.{SortKind}
use Rattle.sort_check.specs.declared.faults.SortKind.TheVariants.{WrongSort}
use Rattle.sort_check.specs.declared.faults.Part.TheVariants.{Ground}
use Rattle.sort_check.proofs.Names.{one_place, symbols_distinct}
use Rattle.sort_check.proofs.DeclaringTests.{new_indeed}
use Rattle.sort_check.proofs.Growth.{KeepsNames, Keeps, extends_self}
use Rattle.sort_check.proofs.Facts.{HasSorts, facts, over_stands}
use Rattle.sort_check.proofs.OneSpec.{one_numbering}
use Rattle.sort_check.proofs.OneTerm.{one_term}
use Rattle.sort_check.proofs.WellSortedSpecs.{stands_well_sorted}

-- the public clauses
module _ {T : Type 0} (s : Search SortFault) (P : T → Type 0) (r : Result T SortFault) (a : Answers s P r) where
  pub answer_fault : (at : ℕ) (kind : SortKind) → r ≡ Err (Sort at kind) → First s (Sort at kind)
  answer_fault at kind e = subst (λ x. Answers s P x) e a

  pub answer_exact : (at : ℕ) (kind : SortKind) → First s (Sort at kind) → IsUnlessNoMemory r (Err (Sort at kind))
  answer_exact at kind f = by r a refl
    where
      by : (q : Result T SortFault) → Answers s P q → r ≡ q → IsUnlessNoMemory r (Err (Sort at kind))
      by (Ok x) b e = absurd (not_both s (Sort at kind) b.0 f)
      by (Err (Sort n k)) b e = inl (e ∙ ap (λ x. Err x) (one_first s (Sort n k) (Sort at kind) b f))
      by (Err OutOfMemory) b e = inr e

  -- if nothing is found and one thing at most can be made, it is made
  pub answer_made : (x : T) → Clean s → ((y : T) → P y → y ≡ x) → IsUnlessNoMemory r (Ok x)
  answer_made x clean one = by r a refl
    where
      by : (q : Result T SortFault) → Answers s P q → r ≡ q → IsUnlessNoMemory r (Ok x)
      by (Ok y) b e = inl (e ∙ ap (λ z. Ok z) (one y b.1))
      by (Err (Sort n k)) b e = absurd (not_both s (Sort n k) clean b)
      by (Err OutOfMemory) b e = inr e

-- names of goals
names_after : (sig : Sig) (before gs : List RawGoal) → Clean (each_after (goal_tests sig) before gs) →
    AreNewNames (map (λ (g : RawGoal). g.head.name) before) (map (λ (g : RawGoal). g.head.name) gs)
names_after sig before [] c = tt
names_after sig before (g ∷ gs) c = (
  new_indeed g.head.name (map (λ (d : RawGoal). d.head.name) before) c.0.0,
  subst (λ ns. AreNewNames ns (map (λ (d : RawGoal). d.head.name) gs))
      (map-append (λ (d : RawGoal). d.head.name) before (g ∷ [])) (names_after sig (before ++ g ∷ []) gs c.1),
)

name_at : (sig : Sig) (raws : List RawGoal) (goals : List Goal) → AllZip (GoalStands sig) raws goals →
    (k : ℕ) (g : Goal) → slice_get goals k ≡ Some g →
    slice_get (map (λ (r : RawGoal). r.head.name) raws) k ≡ Some g.name
name_at sig [] [] p k g e = absurd (let z : None ≡ Some g = e in cc)
name_at sig (r ∷ rs) [] p k g e = absurd p
name_at sig [] (h ∷ hs) p k g e = absurd p
name_at sig (r ∷ rs) (h ∷ hs) p zero g e = let z : Some h ≡ Some g = e in let q : h ≡ g = cc in
    ap (λ n. Some n) (sym p.0.name ∙ ap (λ (x : Goal). x.name) q)
name_at sig (r ∷ rs) (h ∷ hs) p (suc k) g e = name_at sig rs hs p.1 k g e

pub goal_names_distinct : (sig : Sig) (raws : List RawGoal) (goals : List Goal) →
    Clean (each_after (goal_tests sig) [] raws) → AllZip (GoalStands sig) raws goals → GoalNamesAreDistinct goals
goal_names_distinct sig raws goals c p j k g h a b same = one_place [] (map (λ (r : RawGoal). r.head.name) raws)
    j k h.name (names_after sig [] raws c) (name_at sig raws goals p j g a ∙ ap (λ n. Some n) same)
    (name_at sig raws goals p k h b)

-- the specification that the parts make
pub spec_made : (raw : RawSpec) (sig : Sig) (order : OrderInfo) (most : ℕ) → most ≡ most_rules_of_one raw.version →
    (xs : List RawRule) (ys : List RawGoal) (rules : List Rule) (goals : List Goal) → xs ≡ raw.rules →
    ys ≡ raw.goals → Clean (declarations_tests raw)
    × ((sig ≡ sig_of raw) × IsDeclared sig × SignatureStands raw sig) →
    Clean (order_tests sig raw) × OrderStands raw sig order →
    Clean (each_after (rule_tests sig most) [] xs) × AllZip (RuleStands sig) xs rules →
    Clean (each_after (goal_tests sig) [] ys) × AllZip (GoalStands sig) ys goals →
    Clean (spec_tests raw) × IsNumbered raw (record { sig = sig; order = order; rules = rules; goals = goals })
spec_made raw sig order most is xs ys rules goals x y a o b c =
    let r : Clean (each_after (rule_tests sig (most_rules_of_one raw.version)) [] raw.rules)
    × AllZip (RuleStands sig) raw.rules rules =
    subst (λ m. Clean (each_after (rule_tests sig m) [] raw.rules) × AllZip (RuleStands sig) raw.rules rules) is
    (subst (λ us. Clean (each_after (rule_tests sig most) [] us) × AllZip (RuleStands sig) us rules) x b)
    in
    let g : Clean (each_after (goal_tests sig) [] raw.goals) × AllZip (GoalStands sig) raw.goals goals = subst
    (λ us. Clean (each_after (goal_tests sig) [] us) × AllZip (GoalStands sig) us goals) y c in (
      (
        a.0,
        (
          subst (λ s. Clean (order_tests s raw)) a.1.0 o.0,
          (
            subst (λ s. Clean (each_after (rule_tests s (most_rules_of_one raw.version)) [] raw.rules)) a.1.0 r.0,
            subst (λ s. Clean (each_after (goal_tests s) [] raw.goals)) a.1.0 g.0,
          ),
        ),
      ),
      record {
        signature = a.1.2;
        declared = a.1.1;
        order = o.1;
        rules = r.1;
        goals = g.1;
        names = goal_names_distinct sig raw.goals goals g.0 g.1;
      },
    )

module _ (raw : RawSpec) where
  -- the raw specification stands for what is made
  pub stands_where : (r : Result Spec SortFault) → Answers (spec_tests raw) (IsNumbered raw) r → IfOk r (StandsFor raw)
  stands_where (Ok spec) a = record { clean = a.0; numbered = a.1 }
  stands_where (Err e) a = tt

  -- what it stands for is made
  pub made_where : (r : Result Spec SortFault) → Answers (spec_tests raw) (IsNumbered raw) r → (spec : Spec) →
      StandsFor raw spec → IsUnlessNoMemory r (Ok spec)
  made_where r a spec stands = answer_made (spec_tests raw) (IsNumbered raw) r a spec stands.clean
      (λ made is. one_numbering raw made spec is stands.numbered)

  -- what is made is well sorted
  pub well_sorted_where : (r : Result Spec SortFault) → Answers (spec_tests raw) (IsNumbered raw) r →
      IfOk r (λ spec. KeepsLimits raw → IsWellSorted spec)
  well_sorted_where (Ok spec) a = λ limits. stands_well_sorted raw spec limits (record { clean = a.0; numbered = a.1 })
  well_sorted_where (Err e) a = tt

-- a ground term has no variables
module _ (sig : Sig) where
  ground_word : (wrong : SortKind) (name : List ℕ) (at : ℕ) (args : RawTrees) (place : Option SortId) →
      Clean (other_tests Ground [] wrong name at args place) → ⊥
  ground_word wrong name at no_raws place c = c tt
  ground_word wrong name at (more_raws r rs) place c = c tt

  mutual
    ground_same : (wrong : SortKind) (r : RawTree) (place : Option SortId) →
        Clean (term_tests sig Ground [] wrong r place) → entries_after sig [] r place ≡ []
    ground_same wrong (word name at args) place c = by (symbol_named sig name) c
        (λ f d. grounds_same args (info_at sig f).args d)
      where
        by : (o : Option ℕ) →
            Clean (word_tests sig Ground [] wrong name at args place
            (λ f. terms_tests sig Ground [] args (info_at sig f).args) o) →
            ((f : ℕ) → Clean (terms_tests sig Ground [] args (info_at sig f).args) →
            entries_after_all sig [] args (info_at sig f).args ≡ []) →
            after_word sig [] name at place (λ f. entries_after_all sig [] args (info_at sig f).args) o ≡ []
        by (Some f) d h = h f d.1
        by None d h = absurd (ground_word wrong name at args place d)

    grounds_same : (rs : RawTrees) (ss : List SortId) → Clean (terms_tests sig Ground [] rs ss) →
        entries_after_all sig [] rs ss ≡ []
    grounds_same no_raws ss c = refl
    grounds_same (more_raws r rs) [] c = refl
    grounds_same (more_raws r rs) (s ∷ ss) c =
        let e = ground_same WrongSort r (Some s) c.0 in
        ap (λ es. entries_after_all sig es rs ss) e
        ∙ grounds_same rs ss (subst (λ es. Clean (terms_tests sig Ground es rs ss)) e c.1)

  ground_own : (raw : RawTree) → Clean (ground_tests sig raw) → (s : SortId) × (own_sort sig raw ≡ Some s)
  ground_own (word name at args) c = by (symbol_named sig name) c
    where
      by : (o : Option ℕ) →
          Clean (word_tests sig Ground [] WrongSort name at args None
          (λ f. terms_tests sig Ground [] args (info_at sig f).args) o) →
          (s : SortId) × (option_map (λ f. (info_at sig f).result) o ≡ Some s)
      by (Some f) d = ((info_at sig f).result, refl)
      by None d = absurd (ground_word WrongSort name at args None d)

  pub ground_sorted : (raw : RawTree) (es : List Entry) (t : Tree) → Clean (ground_tests sig raw) →
      es ≡ entries_after sig [] raw None → IsOver sig es raw t → TermStands sig [] raw t
      × ((s : SortId) × Sorted sig [] t s)
  ground_sorted raw es t c e o =
      let none = ground_same WrongSort raw None c in
      let over : IsOver sig [] raw t = subst (λ us. IsOver sig us raw t) (e ∙ none) o in
      let has : HasSorts [] [] = λ n s k. absurd (let z : None ≡ Some s = k in cc) in
      let f = facts sig Ground [] [] has [] WrongSort raw None t c
      (subst (λ us. KeepsNames us []) (sym none) (extends_self []))
      (subst (λ us. Keeps us []) (sym none) (λ n s k. k)) over in
      let s = ground_own raw c in
      (over_stands sig [] raw t over, (s.0, f.own s.0 s.1))

  pub ground_answers : (raw : RawTree) (v0 v1 : List Entry) (r : Result Tree SortFault) → v0 ≡ [] →
      Answers (term_tests sig Ground v0 WrongSort raw None) (λ t. (v1 ≡ entries_after sig v0 raw None)
      × IsOver sig v1 raw t) r →
      Answers (ground_tests sig raw) (λ t. TermStands sig [] raw t × ((s : SortId) × Sorted sig [] t s)) r
  ground_answers raw v0 v1 r e a = by r
      (subst (λ us. Answers (term_tests sig Ground us WrongSort raw None)
      (λ t. (v1 ≡ entries_after sig us raw None) × IsOver sig v1 raw t) r) e a)
    where
      by : (q : Result Tree SortFault) →
          Answers (term_tests sig Ground [] WrongSort raw None) (λ t. (v1 ≡ entries_after sig [] raw None)
          × IsOver sig v1 raw t) q →
          Answers (ground_tests sig raw) (λ t. TermStands sig [] raw t × ((s : SortId) × Sorted sig [] t s)) q
      by (Ok t) b = (b.0, ground_sorted raw v1 t b.0 b.1.0 b.1.1)
      by (Err fault) b = b

  -- the term is the raw one's, without variables, and has a sort
  abbrev pub IsGround : RawTree → Tree → Type 0
  IsGround raw t = TermStands sig [] raw t × ((s : SortId) × Sorted sig [] t s)

  module _ (raw : RawTree) where
    -- the raw term stands for what is made
    pub term_stands_where : (r : Result Tree SortFault) → Answers (ground_tests sig raw) (IsGround raw) r →
        IfOk r (TermStandsFor sig raw)
    term_stands_where (Ok t) a = record { clean = a.0; numbered = a.1.0 }
    term_stands_where (Err e) a = tt

    -- what it stands for is made
    pub term_made_where : IsDeclared sig → (r : Result Tree SortFault) →
        Answers (ground_tests sig raw) (IsGround raw) r → (t : Tree) → TermStandsFor sig raw t →
        IsUnlessNoMemory r (Ok t)
    term_made_where declared r a t stands = answer_made (ground_tests sig raw) (IsGround raw) r a t stands.clean
        (λ made is. one_term sig (symbols_distinct sig declared) [] tt raw made t is.0 stands.numbered)
