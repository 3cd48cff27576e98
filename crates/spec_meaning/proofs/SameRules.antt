-- Rules that are the same apart from places: they stand for the same rules, and their tests find
-- something in both or in neither.
use Rattle.std.proofs.Common.{◌≡◌, ℕ, ◌+◌, ◌<◌, ◌≤◌, List, [], ◌∷◌, Option, Some, None, length, refl, ap, sym, ◌∙◌}
use Rattle.std.proofs.Common.{subst}
use Rattle.std.specs.Prelude.{Bool, cond}
use Rattle.std.specs.List.{AllZip, fold}
use Rattle.term_core.specs.declared.ids.SortId.{SortId}
use Rattle.spec_core.specs.declared.records.Guard.{Guard}
use Rattle.spec_core.specs.declared.records.Rule.{Rule}
use Rattle.spec_core.specs.Sig.{Sig}
use Rattle.spec_core.specs.Declarations.{bool_sort}
use Rattle.spec_core.specs.TermText.{variable_names}
use Rattle.spec_core.specs.Findings.{Clean, each, each_after}
use Rattle.spec_grammar.specs.RawTree.{RawTree, RawTrees, word, none as no_raws, some as more_raws}
use Rattle.spec_grammar.specs.Sizes.{words}
use Rattle.spec_grammar.specs.declared.raw.RawGuard.{RawGuard}
use Rattle.spec_grammar.specs.declared.raw.RawRule.{RawRule}
use Rattle.spec_printing.specs.SamePlaces.{SameTerm, SameTerms, SameGuard, SameRule}
use Rattle.sort_check.specs.Words.{count, symbol_named, info_at, entries_after_all}
use Rattle.sort_check.specs.Rules.{GuardStands, RuleStands}
use Rattle.sort_check.specs.RuleTests.{has_root, rules_of, root_tests, guard_tests, body_tests, inner_tests}
use Rattle.sort_check.specs.RuleTests.{left_tests, rule_tests}
use Rattle.spec_meaning.proofs.SortCheckTypes.{Entry, left_part, right_part}
use Rattle.sort_check.specs.declared.faults.SortKind.TheVariants.{WrongSort, GuardNotBool}
use Rattle.spec_meaning.proofs.SameWords.{Alike, left_placeless, right_placeless, alike_self, term_stands, same_count}
use Rattle.spec_meaning.proofs.SameWords.{same_words, all_after_alike, clean_term, clean_terms}
use Rattle.spec_meaning.proofs.SameDeclarations.{same_zip, same_each_after}

same_root : (name : List ℕ) (t u : RawTree) → SameTerm t u → has_root name t ≡ has_root name u
same_root name (word b at ts) (word c place us) h =
    ap (λ (root : List ℕ). has_root name (word root 0 no_raws)) h.0

same_sums : (name : List ℕ) (n : ℕ) (xs ys : List RawRule) → AllZip SameRule xs ys →
    fold (λ (a : ℕ) (r : RawRule). a + cond (has_root name r.left) 1 0) n xs ≡ fold
    (λ (a : ℕ) (r : RawRule). a + cond (has_root name r.left) 1 0) n ys
same_sums name n [] [] p = refl
same_sums name n [] (y ∷ ys) p = absurd p
same_sums name n (x ∷ xs) [] p = absurd p
same_sums name n (x ∷ xs) (y ∷ ys) p =
    same_sums name (n + cond (has_root name x.left) 1 0) xs ys p.1
    ∙ ap (λ (b : Bool). fold (λ (a : ℕ) (r : RawRule). a + cond (has_root name r.left) 1 0)
    (n + cond b 1 0) ys) (same_root name x.left y.left p.0.0)

same_rules_of : (name : List ℕ) (xs ys : List RawRule) → AllZip SameRule xs ys →
    rules_of name xs ≡ rules_of name ys
same_rules_of name = same_sums name 0

module _ (sig : Sig) (most : ℕ) where
  clean_root : (at other m n before others : ℕ) (ts us : RawTrees) (o : Option ℕ) →
      SameTerms ts us → m ≡ n → before ≡ others → Clean (root_tests sig most other n others us o) →
      Clean (root_tests sig most at m before ts o)
  clean_root at other m n before others ts us (Some f) h e q k =
      let rules : ¬ (most ≤ before) = subst (λ (i : ℕ). ¬ (most ≤ i)) (sym q) k.1.0 in
      let size : ¬ (200 < m) = subst (λ (i : ℕ). ¬ (200 < i)) (sym e) k.1.1.0 in
      let number : (count ts ≡ length (info_at sig f).args → ⊥) → ⊥ =
      subst (λ (i : ℕ). (i ≡ length (info_at sig f).args → ⊥) → ⊥) (sym (same_count ts us h))
      k.1.1.1 in
      (k.0, (rules, (size, number)))
  clean_root at other m n before others no_raws no_raws None h e q k = k
  clean_root at other m n before others no_raws (more_raws u us) None h e q k = absurd h
  clean_root at other m n before others (more_raws t ts) no_raws None h e q k = absurd h
  clean_root at other m n before others (more_raws t ts) (more_raws u us) None h e q k = k

  clean_guard : (es fs : List Entry) → Alike es fs → (g h : RawGuard) → SameGuard g h →
      Clean (guard_tests sig fs h) → Clean (guard_tests sig es g)
  clean_guard es fs a g h s k = clean_term sig right_part right_placeless es fs GuardNotBool g.test
      h.test (Some bool_sort) s.0 a k

  clean_guards : (es fs : List Entry) → Alike es fs → (gs hs : List RawGuard) →
      AllZip SameGuard gs hs → Clean (each (guard_tests sig fs) hs) →
      Clean (each (guard_tests sig es) gs)
  clean_guards es fs a [] [] p k = tt
  clean_guards es fs a [] (h ∷ hs) p k = absurd p
  clean_guards es fs a (g ∷ gs) [] p k = absurd p
  clean_guards es fs a (g ∷ gs) (h ∷ hs) p k =
      (clean_guard es fs a g h p.0 k.0, clean_guards es fs a gs hs p.1 k.1)

  clean_body : (es fs : List Entry) → Alike es fs → (r q : RawRule) (s : SortId) → SameRule r q →
      Clean (body_tests sig fs q s) → Clean (body_tests sig es r s)
  clean_body es fs a r q s h k = (
    clean_term sig right_part right_placeless es fs WrongSort r.right q.right (Some s)
        h.1 a k.0,
    clean_guards es fs a r.guards q.guards h.2 k.1,
  )

  clean_inner : (ts us : RawTrees) (r q : RawRule) (o : Option ℕ) → SameTerms ts us →
      SameRule r q → Clean (inner_tests sig us q o) → Clean (inner_tests sig ts r o)
  clean_inner ts us r q None h s k = tt
  clean_inner ts us r q (Some f) h s k = (
    clean_terms sig left_part left_placeless [] [] ts us (info_at sig f).args h (alike_self []) k.0,
    clean_body (entries_after_all sig [] ts (info_at sig f).args)
        (entries_after_all sig [] us (info_at sig f).args)
        (all_after_alike sig [] [] ts us (info_at sig f).args h (alike_self [])) r q
        (info_at sig f).result s k.1,
  )

  clean_left : (before others : List RawRule) (t u : RawTree) (r q : RawRule) →
      AllZip SameRule before others → SameTerm t u → SameRule r q →
      Clean (left_tests sig most others u q) → Clean (left_tests sig most before t r)
  clean_left before others (word b at ts) (word c other us) r q p h s k =
      let j : Clean (left_tests sig most others (word b other us) q) =
      subst (λ (name : List ℕ). Clean (left_tests sig most others (word name other us) q)) (sym h.0)
      k in (
        clean_root at other (words (word b at ts)) (words (word b other us)) (rules_of b before)
            (rules_of b others) ts us (symbol_named sig b) h.1
            (same_words (word b at ts) (word b other us) (refl, h.1))
            (same_rules_of b before others p) j.0,
        clean_inner ts us r q (symbol_named sig b) h.1 s j.1,
      )

  clean_rule : (before others : List RawRule) (r q : RawRule) → AllZip SameRule before others →
      SameRule r q → Clean (rule_tests sig most others q) → Clean (rule_tests sig most before r)
  clean_rule before others r q p s k = clean_left before others r.left q.left r q p s.0 s k

  pub clean_rules : (xs ys : List RawRule) → AllZip SameRule xs ys →
      Clean (each_after (rule_tests sig most) [] ys) → Clean (each_after (rule_tests sig most) [] xs)
  clean_rules xs ys p k = same_each_after SameRule (rule_tests sig most) clean_rule [] [] xs ys tt p k

module _ (sig : Sig) where
  -- What rules stand for.

  guard_stands : (names : List (List ℕ)) (g h : RawGuard) (guard : Guard) → SameGuard g h →
      GuardStands sig names h guard → GuardStands sig names g guard
  guard_stands names g h guard s p =
      (term_stands sig names g.test h.test guard.test s.0 p.0, p.1 ∙ sym s.1)

  rule_stands : (r q : RawRule) (rule : Rule) → SameRule r q → RuleStands sig q rule →
      RuleStands sig r rule
  rule_stands r q rule s p = record {
    names = p.names;
    left = term_stands sig (variable_names rule.vars) r.left q.left rule.left s.0 p.left;
    right = term_stands sig (variable_names rule.vars) r.right q.right rule.right s.1 p.right;
    guards = same_zip SameGuard (GuardStands sig (variable_names rule.vars))
        (guard_stands (variable_names rule.vars)) r.guards q.guards rule.guards s.2 p.guards;
    head = p.head;
    numbered = p.numbered;
    few_variables = p.few_variables;
    sides = p.sides;
    tests = p.tests;
  }

  pub rules_stand : (xs ys : List RawRule) (rules : List Rule) → AllZip SameRule xs ys →
      AllZip (RuleStands sig) ys rules → AllZip (RuleStands sig) xs rules
  rules_stand = same_zip SameRule (RuleStands sig) rule_stands
