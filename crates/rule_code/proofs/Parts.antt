-- The parts of a node's rules, and nodes that follow a split.
use Rattle.std.proofs.Common.{◌≡◌, ◌⊎◌, inl, inr, ℕ, zero, suc, ◌+◌, ◌-◌, ◌<◌, ◌≤◌, List, [], ◌∷◌, ◌++◌, Bool, true}
use Rattle.std.proofs.Common.{false, cond, Option, Some, None, refl, ap, sym, ◌∙◌, subst, arith, length, get_or, set}
use Rattle.std.proofs.Common.{length-append, length-set}
use Rattle.std.specs.Prelude.{slice_get, nat_lt}
use Rattle.std.proofs.lemmas.Bool.Decides.{nat_tests}
use Rattle.std.proofs.lemmas.Option.{slice_get_within}
use Rattle.std.specs.Global.{Vec}
use Rattle.term_core.proofs.Numbers.{same_or_not}
use Rattle.spec_core.specs.declared.records.Rule.{Rule}
use Rattle.rule_code.specs.declared.decision_trees.Split.{Split}
use Rattle.rule_code.specs.declared.decision_trees.TreeNode.{TreeNode}
use Rattle.rule_code.specs.declared.splitting.Wanted.{Wanted}
use Rattle.rule_code.specs.declared.splitting.Wanted.TheVariants.{One, Outside}
use Rattle.rule_code.specs.declared.symbols.Path.{Path}
use Rattle.rule_code.specs.DecisionTrees.{Lists, next_of, Leads, IsSplit, AreNodes}
use Rattle.rule_code.specs.Growing.{CanBeOutside, CanBeWanted, AreAmong, AreLeaves, AreThose, NoneHas, LeadsInto}
use Rattle.rule_code.specs.Growing.{AreParts, IsPut, Grow}
use Rattle.rule_code.specs.Symbols.{symbol_in, CanBe}
use Rattle.rule_code.proofs.Matches.{some_same, get_more}
use Rattle.rule_code.proofs.Ranges.{item_listed}
use Rattle.rule_code.proofs.ListItems.{at_end, set_same, set_other}
use Rattle.rule_code.proofs.Testing.{read_is}

-- lists of numbers

last_at : {X : Type 0} (xs : List X) (x : X) → slice_get (xs ++ x ∷ []) (length xs) ≡ Some x
last_at [] x = refl
last_at (y ∷ xs) x = last_at xs x

pub lists_more : (xs : List ℕ) (y k : ℕ) → Lists xs k → Lists (xs ++ y ∷ []) k
lists_more xs y k (j, at) = (j, get_more xs (y ∷ []) j k at)

pub lists_last : (xs : List ℕ) (y : ℕ) → Lists (xs ++ y ∷ []) y
lists_last xs y = (length xs, last_at xs y)

pub lists_end : (xs : List ℕ) (y k : ℕ) → Lists (xs ++ y ∷ []) k → Lists xs k ⊎ (y ≡ k)
lists_end xs y k (j, at) = elim (at_end xs y k j at) [ inl a ↦ inl (j, a) | inr e ↦ inr e ]

-- what is beyond a list is the other value
pub read_past : (xs : List ℕ) (i d : ℕ) → length xs ≤ i → get_or xs i d ≡ d
read_past [] i d h = refl
read_past (x ∷ xs) zero d h = absurd (omega arith)
read_past (x ∷ xs) (suc i) d h = read_past xs i d (omega arith)

module _ (rules : List Rule) (path : Path) (wanted : Wanted) (numbers those : List ℕ) (n : ℕ)
    (h : AreThose rules numbers path wanted those) where
  -- one more number, which is among those
  pub those_taken : AreThose rules (numbers ++ n ∷ []) path wanted (those ++ n ∷ [])
  those_taken = record {
    some = λ k l. elim (lists_end those n k l) [
      | inl a ↦ lists_more numbers n k (h.some k a)
      | inr e ↦ subst
          (λ z. Lists (numbers ++ n ∷ []) z) e (lists_last numbers n)
    ];
    all = λ k rule l at can. elim (lists_end numbers n k l) [
      | inl a ↦ lists_more those n k (h.all k rule a at can)
      | inr e ↦ subst (λ z. Lists (those ++ n ∷ []) z)
          e (lists_last those n)
    ];
  }

  -- or isn't
  pub those_left : ((one : Rule) → slice_get rules n ≡ Some one → CanBeWanted wanted (symbol_in path one) → ⊥) →
      AreThose rules (numbers ++ n ∷ []) path wanted those
  those_left never = record {
    some = λ k l. lists_more numbers n k (h.some k l);
    all = λ k rule l at can. elim (lists_end numbers n k l) [
      | inl a ↦ h.all k rule a at can
      | inr e ↦ absurd (never rule (subst (λ z. slice_get rules z ≡ Some rule) (sym e) at) can)
    ];
  }

pub none_more : (rules : List Rule) (path : Path) (numbers : List ℕ) (n d : ℕ) → NoneHas rules numbers path d →
    ((one : Rule) → slice_get rules n ≡ Some one → symbol_in path one ≡ Some d → ⊥) →
    NoneHas rules (numbers ++ n ∷ []) path d
none_more rules path numbers n d h never k rule l at is = elim (lists_end numbers n k l) [
  | inl a ↦ h k rule a at is
  | inr e ↦ never rule (subst (λ z. slice_get rules z ≡ Some rule) (sym e) at) is
]

pub at_place : {X : Type 0} (xs : List X) (x y : X) (i : ℕ) → slice_get (xs ++ x ∷ []) i ≡ Some y →
    (slice_get xs i ≡ Some y) ⊎ ((i ≡ length xs) × (x ≡ y))
at_place [] x y zero e = inr (refl, let q : Some x ≡ Some y = e in cc)
at_place [] x y (suc i) e = absurd (let q : None ≡ Some y = e in cc)
at_place (z ∷ xs) x y zero e = inl e
at_place (z ∷ xs) x y (suc i) e = elim (at_place xs x y i e) [ inl a ↦ inl a | inr (b, c) ↦ inr (ap suc b, c) ]

-- what is beyond a list isn't there
past_end : (xs : List ℕ) (i : ℕ) → slice_get xs i ≡ None → length xs ≤ i
past_end [] i q = omega arith
past_end (x ∷ xs) zero q = absurd (let r : Some x ≡ None = q in cc)
past_end (x ∷ xs) (suc i) q = omega (arith, past_end xs i q)

outside_of : (low end d : ℕ) → (d < low) ⊎ (end ≤ d) → (o : Option ℕ) → CanBe o d → CanBeOutside low end o
outside_of low end d out None can = tt
outside_of low end d out (Some c) can = subst (λ z. (z < low) ⊎ (end ≤ z)) (sym can) out

-- the cases of a split so far, and the nodes that they lead to
pub record IsSplitting (rules : List Rule) (first : ℕ) (numbers : List ℕ) (path : Path) (low end sym : ℕ)
    (cases : List ℕ) (nodes : List TreeNode) : Type 0 where
  pub count : low + length cases ≡ sym
  pub leaves : AreLeaves numbers nodes
  pub rest : TreeNode
  pub there : slice_get nodes 0 ≡ Some rest
  pub those : AreThose rules numbers path (Outside low end) rest.rules.items
  pub each : (i next : ℕ) → slice_get cases i ≡ Some next → LeadsInto rules first nodes numbers path (low + i) next

module _ (rules : List Rule) (first : ℕ) (numbers : List ℕ) (path : Path) where
  leaves_more : (nodes : List TreeNode) (one : TreeNode) → AreLeaves numbers nodes → one.split ≡ None →
      AreAmong numbers one.rules.items → AreLeaves numbers (nodes ++ one ∷ [])
  leaves_more nodes one h none among i node at = elim (at_end nodes one node i at) [
    | inl a ↦ h i node a
    | inr e ↦ (
      ap (λ (n : TreeNode). n.split) (sym e) ∙ none,
      subst (λ (n : TreeNode). AreAmong numbers n.rules.items) e among,
    )
  ]

  leads_more : (nodes : List TreeNode) (one : TreeNode) (d next : ℕ) →
      LeadsInto rules first nodes numbers path d next → LeadsInto rules first (nodes ++ one ∷ []) numbers path d next
  leads_more nodes one d next h = record {
    place = h.place;
    is = h.is;
    node = h.node;
    there = get_more nodes
        (one ∷ []) h.place h.node h.there;
    keeps = h.keeps;
  }

  -- before the first case
  pub splitting_starts : (low end : ℕ) (one : TreeNode) → one.split ≡ None →
      AreThose rules numbers path (Outside low end) one.rules.items →
      IsSplitting rules first numbers path low end low [] (one ∷ [])
  splitting_starts low end one none h = record {
    count = omega arith;
    leaves = leaves_more [] one (λ i node at. absurd (let q : None ≡ Some node = at in cc)) none h.some;
    rest = one;
    there = refl;
    those = h;
    each = λ i next at. absurd (let q : None ≡ Some next = at in cc);
  }

  module _ (low end s : ℕ) (cases : List ℕ) (nodes : List TreeNode)
      (h : IsSplitting rules first numbers path low end s cases nodes) where
    -- a node of its own for the symbol
    pub splitting_case : (one : TreeNode) (next : ℕ) → one.split ≡ None →
        AreThose rules numbers path (One s) one.rules.items → next ≡ first + length nodes →
        IsSplitting rules first numbers path low end (s + 1) (cases ++ next ∷ []) (nodes ++ one ∷ [])
    splitting_case one next none those is = record {
      count = omega (arith, h.count, length-append cases (next ∷ []));
      leaves = leaves_more nodes one h.leaves none those.some;
      rest = h.rest;
      there = get_more nodes (one ∷ []) 0 h.rest h.there;
      those = h.those;
      each = λ i other at. elim (at_place cases next other i at) [
        | inl a ↦ leads_more nodes one (low + i) other (h.each i other a)
        | inr (e, n) ↦ record {
          place = length nodes;
          is = sym n ∙ is;
          node = one;
          there = last_at nodes one;
          keeps = λ k rule l at₂ can.
              let here : low + i ≡ s = omega (arith, h.count, e) in
              those.all k rule l at₂ (subst (λ d. CanBe (symbol_in path rule) d) here can);
        }
      ];
    }

    -- no rule has the symbol
    pub splitting_rest : NoneHas rules numbers path s →
        IsSplitting rules first numbers path low end (s + 1) (cases ++ first ∷ []) nodes
    splitting_rest none = record {
      count = omega (arith, h.count, length-append cases (first ∷ []));
      leaves = h.leaves;
      rest = h.rest;
      there = h.there;
      those = h.those;
      each = λ i other at. elim (at_place cases first other i at) [
        | inl a ↦ h.each i other a
        | inr (e, n) ↦ record {
          place = 0;
          is = omega arith;
          node = h.rest;
          there = h.there;
          keeps = λ k rule l at₂ can.
              let here : low + i ≡ s = omega (arith, h.count, e) in
              h.those.all k rule l at₂
              (by k rule l at₂ (symbol_in path rule) refl (subst (λ d. CanBe (symbol_in path rule) d) here can));
        }
      ];
    }
      where
        by : (k : ℕ) (rule : Rule) → Lists numbers k → slice_get rules k ≡ Some rule → (o : Option ℕ) →
            symbol_in path rule ≡ o → CanBe o s → CanBeOutside low end o
        by k rule l at None e can = tt
        by k rule l at (Some c) e can = absurd (none k rule l at (e ∙ ap (λ z. Some z) can))

    -- after the last case
    pub splitting_ends : (split : Split) → end ≤ s → split.path ≡ path → split.low ≡ low →
        split.cases.items ≡ cases → split.other ≡ first → AreParts rules first numbers split nodes
    splitting_ends split past p l cs o = record {
      leaves = h.leaves;
      leads = λ d. subst (λ (q : Path). LeadsInto rules first nodes numbers q d (next_of split d)) (sym p) (lead d);
    }
      where
        outside : (d : ℕ) → (d < low) ⊎ (end ≤ d) → LeadsInto rules first nodes numbers path d first
        outside d out = record {
          place = 0;
          is = omega arith;
          node = h.rest;
          there = h.there;
          keeps = λ k rule lists at can. h.those.all k rule lists
              at (outside_of low end d out (symbol_in path rule) can);
        }

        within : (d : ℕ) → low ≤ d → LeadsInto rules first nodes numbers path d (get_or cases (d - low) first)
        within d le = by (slice_get cases (d - low)) refl
          where
            by : (o : Option ℕ) → slice_get cases (d - low) ≡ o →
                LeadsInto rules first nodes numbers path d (get_or cases (d - low) first)
            by (Some next) e =
                let here : low + (d - low) ≡ d = omega (arith, le) in
                subst (λ z. LeadsInto rules first nodes numbers path d z)
                (sym (read_is cases (d - low) next first e))
                (subst (λ z. LeadsInto rules first nodes numbers path z next) here (h.each (d - low) next e))
            by None e =
                let far : length cases ≤ d - low = past_end cases (d - low) e in
                subst (λ z. LeadsInto rules first nodes numbers path d z)
                (sym (read_past cases (d - low) first far))
                (outside d (inr (omega (arith, far, past, h.count, le))))

        lead : (d : ℕ) → LeadsInto rules first nodes numbers path d (next_of split d)
        lead d = by (nat_lt d low) refl
          where
            shown : next_of split d ≡ cond (nat_lt d low) first (get_or cases (d - low) first)
            shown = ap (λ z. cond (nat_lt d z) split.other (get_or split.cases.items (d - z) split.other)) l
                ∙ ap (λ zs. cond (nat_lt d low) split.other (get_or zs (d - low) split.other)) cs
                ∙ ap (λ z. cond (nat_lt d low) z (get_or cases (d - low) z)) o

            by : (b : Bool) → nat_lt d low ≡ b → LeadsInto rules first nodes numbers path d (next_of split d)
            by true e =
                let lt : d < low = grind (arith, nat_tests) in
                subst (λ z. LeadsInto rules first nodes numbers path d z)
                (sym (shown ∙ ap (λ b. cond b first (get_or cases (d - low) first)) e)) (outside d (inl lt))
            by false e =
                let le : low ≤ d = grind (arith, nat_tests) in
                subst (λ z. LeadsInto rules first nodes numbers path d z)
                (sym (shown ∙ ap (λ b. cond b first (get_or cases (d - low) first)) e)) (within d le)

-- a node gets a split, and the nodes that follow come after all others
module _ (old new parts : List TreeNode) (at : ℕ) (split : Split) (put : IsPut (old ++ parts) new at split) where
  -- each node has its rules
  kept : (i : ℕ) (one : TreeNode) → slice_get (old ++ parts) i ≡ Some one →
      (two : TreeNode) × (slice_get new i ≡ Some two) × (two.rules ≡ one.rules)
  kept i one e = elim (same_or_not i at) [
    | inl same ↦
        let p = put.here one (subst (λ z. slice_get (old ++ parts) z ≡ Some one) same e) in
        (p.0, subst (λ z. slice_get new z ≡ Some p.0) (sym same) p.1, p.2)
    | inr other ↦ (one, put.others i other ∙ e, refl)
  ]

  pub put_grows : (most : ℕ) → length parts ≤ most → Grow old new most
  put_grows most le = record {
    more = omega (arith, put.count, length-append old parts);
    count = omega (arith, put.count, length-append old parts, le);
    keeps = λ i one e. kept i one (get_more old parts i one e);
  }

module _ (rules : List Rule) (numbers : List ℕ) (old new parts : List TreeNode) (at : ℕ) (split : Split)
    (node : TreeNode) (there : slice_get old at ≡ Some node) (h : AreNodes rules numbers old)
    (made : AreParts rules (length old) node.rules.items split parts) (put : IsPut (old ++ parts) new at split) where
  within : at < length old
  within = slice_get_within old at node there

  behind : (i : ℕ) (one : TreeNode) → slice_get parts i ≡ Some one →
      slice_get (old ++ parts) (length old + i) ≡ Some one
  behind i one e = by old
    where
      by : (xs : List TreeNode) → slice_get (xs ++ parts) (length xs + i) ≡ Some one
      by [] = let z : 0 + i ≡ i = omega arith in subst (λ n. slice_get parts n ≡ Some one) (sym z) e
      by (x ∷ xs) = let z : suc (length xs) + i ≡ suc (length xs + i) = omega arith in
          subst (λ n. slice_get (x ∷ xs ++ parts) n ≡ Some one) (sym z) (by xs)

  before_or_behind : (i : ℕ) (one : TreeNode) → slice_get (old ++ parts) i ≡ Some one →
      (slice_get old i ≡ Some one) ⊎ ((j : ℕ) × (slice_get parts j ≡ Some one))
  before_or_behind i one e = by old i e
    where
      by : (xs : List TreeNode) (k : ℕ) → slice_get (xs ++ parts) k ≡ Some one → (slice_get xs k ≡ Some one)
          ⊎ ((j : ℕ) × (slice_get parts j ≡ Some one))
      by [] k q = inr (k, q)
      by (x ∷ xs) zero q = inl q
      by (x ∷ xs) (suc k) q = by xs k q

  leads_on : (i : ℕ) (ns : List ℕ) (path : Path) (d next : ℕ) → Leads rules old i ns path d next →
      Leads rules new i ns path d next
  leads_on i ns path d next l =
      let k = kept old new parts at split put next l.node (get_more old parts next l.node l.there) in
      record {
        later = l.later;
        node = k.0;
        there = k.1;
        keeps = λ m rule lists e can. subst (λ xs. Lists xs m)
            (ap (λ (v : Vec ℕ). v.items) (sym k.2)) (l.keeps m rule lists e can);
      }

  split_on : (i : ℕ) (ns : List ℕ) (o : Option Split) → IsSplit rules old i ns o → IsSplit rules new i ns o
  split_on i ns None s = tt
  split_on i ns (Some one) s = λ d. leads_on i ns one.path d (next_of one d) (s d)

  split_here : (ns : List ℕ) → ns ≡ node.rules.items → IsSplit rules new at ns (Some split)
  split_here ns e d =
      let l = made.leads d in
      let k = kept old new parts at split put (length old + l.place) l.node (behind l.place l.node l.there) in
      record {
        later = omega (arith, l.is, within);
        node = k.0;
        there = subst (λ z. slice_get new z ≡ Some k.0) (sym l.is) k.1;
        keeps = λ m rule lists known can. subst (λ xs. Lists xs m) (ap (λ (v : Vec ℕ). v.items) (sym k.2))
            (l.keeps m rule (subst (λ xs. Lists xs m) e lists) known can);
      }

  pub put_nodes : AreNodes rules numbers new
  put_nodes i one e = elim (same_or_not i at) [
    | inl same ↦
        let p = put.here node (get_more old parts at node there) in
        let is : p.0 ≡ one = some_same (slice_get new i) p.0 one
        (subst (λ z. slice_get new z ≡ Some p.0) (sym same) p.1) e in
        let rules_are : one.rules.items ≡ node.rules.items = ap (λ (n : TreeNode). n.rules.items) (sym is)
        ∙ ap (λ (v : Vec ℕ). v.items) p.2 in
        record {
          some = λ k l. (h at node there).some k (subst (λ xs. Lists xs k) rules_are l);
          split = subst (λ o. IsSplit rules new i one.rules.items o)
              (sym p.3 ∙ ap (λ (n : TreeNode). n.split) is)
              (subst (λ z. IsSplit rules new z one.rules.items (Some split)) (sym same)
              (split_here one.rules.items rules_are));
        }
    | inr other ↦ elim (before_or_behind i one (sym (put.others i other) ∙ e)) [
      | inl a ↦ let n = h i one a in record { some = n.some; split = split_on i one.rules.items one.split n.split }
      | inr (j, b) ↦
          let l = made.leaves j one b in
          record {
            some = λ k lists. (h at node there).some k (l.1 k lists);
            split = subst (λ o. IsSplit rules new i one.rules.items o) (sym l.0) tt;
          }
    ]
  ]

-- a node that is changed at its split alone
pub set_puts : (old : List TreeNode) (at : ℕ) (node put : TreeNode) (split : Split) → at < length old →
    node ≡ get_or old at node → put.rules ≡ node.rules → put.split ≡ Some split → IsPut old (set old at put) at split
set_puts old at node put split lt is rules_are split_is =
    let listed : slice_get old at ≡ Some node = item_listed old old at node refl lt is in
    record {
      count = length-set old at put;
      here = λ one e.
          let same : node ≡ one = some_same (slice_get old at) node one listed e in
          (put, set_same old at put lt, rules_are ∙ ap (λ (n : TreeNode). n.rules) same, split_is);
      others = λ i other. set_other old at i put other;
    }

pub grows_not : (nodes : List TreeNode) → Grow nodes nodes 0
grows_not nodes = record { more = omega arith; count = omega arith; keeps = λ i node e. (node, e, refl) }

-- a root alone
pub tree_starts : (rules : List Rule) (numbers : List ℕ) (one : TreeNode) → one.rules.items ≡ numbers →
    one.split ≡ None → AreNodes rules numbers (one ∷ [])
tree_starts rules numbers one are none zero node at =
    let q : Some one ≡ Some node = at in
    let same : one ≡ node = cc in
    record {
      some = λ k l. subst (λ xs. Lists xs k) (ap (λ (n : TreeNode). n.rules.items) (sym same) ∙ are) l;
      split = subst (λ o. IsSplit rules (one ∷ []) 0 node.rules.items o) (sym none
          ∙ ap (λ (n : TreeNode). n.split) same) tt;
    }
tree_starts rules numbers one are none (suc i) node at = absurd (let q : None ≡ Some node = at in cc)

pub root_kept : (old new : List TreeNode) (most : ℕ) (numbers : List ℕ) → Grow old new most →
    (root : TreeNode) × (slice_get old 0 ≡ Some root) × (root.rules.items ≡ numbers) →
    (root : TreeNode) × (slice_get new 0 ≡ Some root) × (root.rules.items ≡ numbers)
root_kept old new most numbers g (r, at, e) =
    let k = g.keeps 0 r at in
    (k.0, k.1, ap (λ (v : Vec ℕ). v.items) k.2 ∙ e)
