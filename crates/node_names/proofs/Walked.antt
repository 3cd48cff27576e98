-- Names of one node after the other.
use Rattle.std.proofs.Common.{◌≡◌, ◌<◌, ◌≤◌, ◌+◌, ℕ, List, [], ◌∷◌, ◌++◌, None, Some, length, take, get_or, ap, sym}
use Rattle.std.proofs.Common.{◌∙◌, subst}
use Rattle.std.specs.Prelude.{All, slice_get}
use Rattle.std.specs.List.{AllZip}
use Rattle.std.proofs.lemmas.List.{map-append, take_all, take_more}
use Rattle.std.proofs.lemmas.List.Elements.{All-cons, All-nil}
use Rattle.spec_core.specs.declared.records.Goal.{Goal}
use Rattle.spec_core.specs.declared.records.Spec.{Spec}
use Rattle.clause_core.specs.declared.clauses.Clause.{Clause}
use Rattle.clause_core.specs.Tidied.{goal_clause}
use Rattle.inference_rules.specs.declared.nodes.Node.{Node}
use Rattle.inference_rules.specs.Answers.{clauses_of}
use Rattle.inference_rules.proofs.Ends.{pairs_more}
use Rattle.node_names.specs.declared.names.NodeNames.{NodeNames}
use Rattle.node_names.specs.Names.{AreNames}
use Rattle.node_names.specs.Nodes.{AreNodeNames, KeepsGoalNames, NamesNode}

module _ (spec : Spec) (goal : Goal) where
  abbrev HasNames : NodeNames → Type 0
  HasNames names = AreNames spec goal names.variables

  -- the first node and this many after it have their names
  pub record AreNamed (first : Node) (others : List Node) (count : ℕ) (made : List NodeNames) : Type 0 where
    pub each : AllZip (NamesNode spec goal) (first.clause ∷ clauses_of (take count others)) made
    pub kept : (names : NodeNames) → first.clause ≡ goal_clause goal → slice_get made 0 ≡ Some names
        → KeepsGoalNames spec goal names

  pub named_first : (first : Node) (others : List Node) (names : NodeNames)
      → NamesNode spec goal first.clause names
      → (first.clause ≡ goal_clause goal → KeepsGoalNames spec goal names)
      → AreNamed first others 0 (names ∷ [])
  named_first first others names named kept = record {
    each = (named, tt);
    kept = λ n same at.
        let q : Some names ≡ Some n = at in
        let e : names ≡ n = cc in
        subst (λ (m : NodeNames). KeepsGoalNames spec goal m) e (kept same);
  }

  pub named_more : (first : Node) (others : List Node) (count : ℕ) (made : List NodeNames)
      (node : Node) (names : NodeNames) → count < length others → node ≡ get_or others count node
      → AreNamed first others count made → NamesNode spec goal node.clause names
      → AreNamed first others (count + 1) (made ++ names ∷ [])
  named_more first others count [] node names lt is h named = absurd h.each
  named_more first others count (m ∷ made) node names lt is h named =
      let more : take (count + 1) others ≡ take count others ++ node ∷ [] =
      take_more others count node lt ∙ ap (λ (n : Node). take count others ++ n ∷ []) (sym is) in
      let clauses : clauses_of (take (count + 1) others) ≡ clauses_of (take count others) ++ node.clause ∷ [] =
      ap (λ (ns : List Node). clauses_of ns) more ∙ map-append (λ (n : Node). n.clause) (take count others)
      (node ∷ []) in
      record {
        each = subst (λ (ds : List Clause). AllZip (NamesNode spec goal) (first.clause ∷ ds) (m ∷ made ++ names ∷ []))
            (sym clauses)
            (pairs_more (NamesNode spec goal) (first.clause ∷ clauses_of (take count others)) (m ∷ made)
            node.clause names h.each named);
        kept = λ n same at. h.kept n same at;
      }

  pub all_named : (clauses : List Clause) (made : List NodeNames)
      → AllZip (NamesNode spec goal) clauses made → All HasNames made
  all_named [] [] h = All-nil HasNames
  all_named [] (m ∷ made) h = absurd h
  all_named (d ∷ clauses) [] h = absurd h
  all_named (d ∷ clauses) (m ∷ made) h = All-cons HasNames m made h.0.variables (all_named clauses made h.1)

  pub named_all : (first : Node) (others : List Node) (nodes : List Node) (count : ℕ)
      (made : List NodeNames) → nodes ≡ first ∷ others → length others ≤ count
      → AreNamed first others count made → AreNodeNames spec goal (clauses_of nodes) made
  named_all first others nodes count made is le h =
      subst (λ (ns : List Node). AreNodeNames spec goal (clauses_of ns) made) (sym is) (record {
        each = subst (λ (ns : List Node). AllZip (NamesNode spec goal) (first.clause ∷ clauses_of ns) made)
            (take_all count others le) h.each;
        first = λ names at named.
            let q : Some first.clause ≡ Some (goal_clause goal) = at in
            let e : first.clause ≡ goal_clause goal = cc in
            h.kept names e named;
      })

  pub named_none : (nodes : List Node) (made : List NodeNames) → nodes ≡ [] → made ≡ []
      → AreNodeNames spec goal (clauses_of nodes) made
  named_none nodes made is none =
      subst (λ (ns : List Node). AreNodeNames spec goal (clauses_of ns) made) (sym is)
      (subst (λ (ms : List NodeNames). AreNodeNames spec goal [] ms) (sym none) (record {
        each = tt;
        first = λ names at named. absurd (let q : None ≡ Some (goal_clause goal) = at in cc);
      }))

-- the nodes so far have their names, where these nodes come after the first one
pub record IsWalked (spec : Spec) (goal : Goal) (nodes others : List Node) (count : ℕ)
    (made : List NodeNames) : Type 0 where
  pub first : Node
  pub nodes_are : nodes ≡ first ∷ others
  pub named : AreNamed spec goal first others count made
