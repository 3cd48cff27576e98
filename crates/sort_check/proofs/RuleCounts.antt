-- The numbers of rules of each function, and rules in order.
use Rattle.std.proofs.Common.{◌≡◌, ◌≢◌, ◌<◌, ℕ, ◌+◌, List, [], Bool, true, false, Option, Some, None, refl, ap, sym}
use Rattle.std.proofs.Common.{◌∙◌, subst, arith, length, take, get_or, set, get_or-set_same, get_or-set_other}
use Rattle.std.specs.Prelude.{slice_get, slice_index}
use Rattle.std.specs.Str.{bytes_eq}
use Rattle.std.proofs.lemmas.List.Sums.{count_by_more_yes, count_by_more_no}
use Rattle.std.proofs.lemmas.List.{length-map}
use Rattle.std.proofs.lemmas.List.Quantifiers.{position-Some}
use Rattle.std.proofs.lemmas.Slice.Eq.{bytes_eq-Decides}
use Rattle.spec_core.specs.declared.records.SymInfo.{SymInfo}
use Rattle.spec_core.specs.Sig.{Sig, names_of}
use Rattle.spec_core.specs.Findings.{Search, then}
use Rattle.spec_grammar.specs.RawTree.{RawTree, RawTrees, word, none as no_raws, some as more_raws}
use Rattle.spec_grammar.specs.Sizes.{words}
use Rattle.spec_grammar.specs.declared.raw.RawRule.{RawRule}
use Rattle.sort_check.specs.Words.{symbol_named}
use Rattle.sort_check.specs.RuleTests.{has_root, rules_of, root_tests, inner_tests, left_tests, rule_tests}
use Rattle.sort_check.specs.Parts.{root_name, counted, AreCounts, counted_tests, IsRoot, below_tests}
use Rattle.sort_check.specs.declared.faults.SortFault.{SortFault}
use Rattle.sort_check.proofs.Names.{place_is}

module _ (sig : Sig) where
  -- the numbers stand for the rules before
  root_same : (most : ℕ) (Q : Search SortFault → Type 0) (at size before n : ℕ) (args : RawTrees)
      (o : Option ℕ) → ((f : ℕ) → o ≡ Some f → n ≡ before) → Q (root_tests sig most at size n args o) →
      Q (root_tests sig most at size before args o)
  root_same most Q at size before n args (Some f) e h = subst
      (λ m. Q (root_tests sig most at size m args (Some f))) (e f refl) h
  root_same most Q at size before n no_raws None e h = h
  root_same most Q at size before n (more_raws t ts) None e h = h

  counted_is : (counts : List ℕ) (before : List RawRule) (name : List ℕ) (o : Option ℕ) →
      symbol_named sig name ≡ o → AreCounts sig before counts → (f : ℕ) → o ≡ Some f →
      counted counts o ≡ rules_of name before
  counted_is counts before name (Some g) k c f e =
      let z : Some g ≡ Some f = e in
      let q : g ≡ f = cc in
      ap (λ n. slice_index counts n) q ∙ c name f (k ∙ e)
  counted_is counts before name None k c f e = absurd (let z : None ≡ Some f = e in cc)

  -- a rule is tested at its root, and then below it
  left_split : (most : ℕ) (counts : List ℕ) (before : List RawRule) (left : RawTree) (rule : RawRule) →
      AreCounts sig before counts → (Q : Search SortFault → Type 0) →
      Q (then (counted_tests sig most counts left) (below_tests sig left rule)) →
      Q (left_tests sig most before left rule)
  left_split most counts before (word name at args) rule c Q h =
      let o = symbol_named sig name in
      root_same most (λ s. Q (then s (inner_tests sig args rule o))) at (words (word name at args))
      (rules_of name before) (counted counts o) args o (counted_is counts before name o refl c) h

  pub rule_split : (most : ℕ) (counts : List ℕ) (before : List RawRule) (rule : RawRule) →
      AreCounts sig before counts → (Q : Search SortFault → Type 0) →
      Q (then (counted_tests sig most counts rule.left) (below_tests sig rule.left rule)) →
      Q (rule_tests sig most before rule)
  rule_split most counts before rule c Q h = left_split most counts before rule.left rule c Q h

  root_named : (left : RawTree) (f : ℕ) → IsRoot sig left f → symbol_named sig (root_name left) ≡ Some f
  root_named (word name at args) f h = h.0

  pub root_within : (left : RawTree) (f : ℕ) → IsRoot sig left f → f < length sig.table
  root_within left f h =
      let p = position-Some (bytes_eq (root_name left)) (names_of sig) f [] (root_named left f h) in
      omega (arith, p.0, length-map sig.table (λ (e : List ℕ × SymInfo). e.0))

  has_root_is : (name : List ℕ) (left : RawTree) → has_root name left ≡ bytes_eq name (root_name left)
  has_root_is name (word root at args) = refl

  -- one more rule
  module _ (raws : List RawRule) (i : ℕ) (rule : RawRule) (f : ℕ) (lt : i < length raws)
      (is : rule ≡ get_or raws i rule) (root : IsRoot sig rule.left f) (counts : List ℕ)
      (within : f < length counts) (c : AreCounts sig (take i raws) counts) where
    counts_more : (v : ℕ) → v ≡ slice_index counts f + 1 → (name : List ℕ) (g : ℕ) →
        symbol_named sig name ≡ Some g → slice_index (set counts f v) g ≡ rules_of name (take (i + 1) raws)
    counts_more v e name g k = by (bytes_eq name (root_name rule.left))
        (bytes_eq-Decides name (root_name rule.left)) refl
      where
        here : (b : Bool) → bytes_eq name (root_name rule.left) ≡ b → has_root name (get_or raws i rule).left ≡ b
        here b q = ap (λ (r : RawRule). has_root name r.left) (sym is) ∙ has_root_is name rule.left ∙ q

        by : (b : Bool) → ((b ≡ true → name ≡ root_name rule.left) × (name ≡ root_name rule.left → b ≡ true)) →
            bytes_eq name (root_name rule.left) ≡ b → slice_index (set counts f v) g ≡ rules_of name (take (i + 1) raws)
        by true d q =
            let z : Some g ≡ Some f = sym k ∙ ap (λ n. symbol_named sig n) (d.0 refl) ∙ root_named rule.left f root in
            let same : g ≡ f = cc in
            let more = count_by_more_yes (λ (r : RawRule). has_root name r.left) raws i rule lt (here true q) in
            ap (λ n. slice_index (set counts f v) n) same ∙ get_or-set_same counts f v 0 within ∙ e
            ∙ ap (λ n. n + 1) (ap (λ n. slice_index counts n) (sym same) ∙ c name g k) ∙ sym more
        by false d q =
            let other : g ≢ f = λ same.
            let a : Some name ≡ Some (root_name rule.left) = sym (place_is name (names_of sig) g k)
            ∙ ap (λ n. slice_get (names_of sig) n) same ∙ place_is (root_name rule.left) (names_of sig) f
            (root_named rule.left f root) in
            let b : name ≡ root_name rule.left = cc in
            let w : false ≡ true = d.1 b in
            cc in
            get_or-set_other counts f g v 0 other ∙ c name g k
            ∙ sym (count_by_more_no (λ (r : RawRule). has_root name r.left) raws i rule lt (here false q))

    pub counts_next : (v : ℕ) → v ≡ slice_index counts f + 1 → AreCounts sig (take (i + 1) raws) (set counts f v)
    counts_next v e name g k = counts_more v e name g k
