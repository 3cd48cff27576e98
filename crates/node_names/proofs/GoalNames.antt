-- The names that others are made from, and that a goal's own names are among them.
use Rattle.std.proofs.Common.{◌≡◌, ℕ, zero, suc, List, [], ◌∷◌, ◌++◌, None, Some, length, refl, sym, ◌∙◌, subst, arith}
use Rattle.std.specs.Prelude.{All, Contains, Err, IfOk, Ok, Result, codes, slice_get, slice_index_or}
use Rattle.std.specs.List.{flat_map}
use Rattle.std.proofs.lemmas.List.{append-nil, length-map}
use Rattle.std.proofs.lemmas.List.Elements.{All-map, All-nil, Contains-append_left, Contains-append_right}
use Rattle.std.proofs.lemmas.List.Elements.{Contains-get_or}
use Rattle.term_core.specs.declared.memory.OutOfMemory.{OutOfMemory}
use Rattle.spec_core.specs.declared.records.Goal.{Goal}
use Rattle.spec_core.specs.declared.records.Rule.{Rule}
use Rattle.spec_core.specs.declared.records.Spec.{Spec}
use Rattle.spec_core.specs.Declarations.{bool_sort}
use Rattle.spec_core.specs.TermText.{variable_names}
use Rattle.clause_core.specs.Tidied.{goal_clause, variables_of, written_clause}
use Rattle.node_names.specs.declared.names.NodeNames.{NodeNames}
use Rattle.node_names.specs.Names.{AreDifferent, AreNames, AreNoSymbols, IsDerived, IsMark, goal_names, stems_of}
use Rattle.node_names.specs.Nodes.{KeepsGoalNames}

flat_contains : {X A : Type 0} (f : X → List A) (xs : List X) (k : ℕ) (x : X) (a : A)
    → slice_get xs k ≡ Some x → Contains (f x) a → Contains (flat_map f xs) a
flat_contains f [] k x a at there = absurd (let q : None ≡ Some x = at in cc)
flat_contains f (y ∷ ys) zero x a at there =
    let q : Some y ≡ Some x = at in
    let same : x ≡ y = cc in
    Contains-append_left (f y) (flat_map f ys) a (subst (λ z. Contains (f z) a) same there)
flat_contains f (y ∷ ys) (suc k) x a at there =
    Contains-append_right (f y) (flat_map f ys) a (flat_contains f ys k x a at there)

abbrev rule_names : Rule → List (List ℕ)
rule_names rule = variable_names rule.vars

module _ (spec : Spec) (goal : Goal) where
  pub stem_other : Contains (stems_of spec goal) (codes "v")
  unfolding stems_of
  stem_other = (0, omega arith, refl)

  pub stem_goal : (name : List ℕ) → Contains (variable_names goal.vars) name
      → Contains (stems_of spec goal) name
  unfolding stems_of
  stem_goal name there =
      Contains-append_right (codes "v" ∷ [])
      (variable_names goal.vars ++ flat_map rule_names spec.rules) name
      (Contains-append_left (variable_names goal.vars) (flat_map rule_names spec.rules) name there)

  stem_rule : (k : ℕ) (rule : Rule) (name : List ℕ) → slice_get spec.rules k ≡ Some rule
      → Contains (rule_names rule) name → Contains (stems_of spec goal) name
  unfolding stems_of
  stem_rule k rule name at there =
      Contains-append_right (codes "v" ∷ [])
      (variable_names goal.vars ++ flat_map rule_names spec.rules) name
      (Contains-append_right (variable_names goal.vars) (flat_map rule_names spec.rules) name
      (flat_contains rule_names spec.rules k rule name at there))

  pub stems_goal : All (Contains (stems_of spec goal)) (variable_names goal.vars)
  stems_goal = λ k d lt. stem_goal _ (Contains-get_or (variable_names goal.vars) k d lt)

  pub stems_rule : (k : ℕ) (rule : Rule) → slice_get spec.rules k ≡ Some rule
      → All (Contains (stems_of spec goal)) (rule_names rule)
  stems_rule k rule at = λ i d lt. stem_rule k rule _ at (Contains-get_or (rule_names rule) i d lt)

  -- a stem is derived
  pub stem_derived : (name : List ℕ) → Contains (stems_of spec goal) name → IsDerived spec goal name
  stem_derived name there = (name, there, ([], sym (append-nil name), All-nil IsMark))

  entry : (names : List (List ℕ)) (n : ℕ)
      → ((name : List ℕ) → Contains names name → Contains (stems_of spec goal) name)
      → Contains (stems_of spec goal) (slice_index_or names n (codes "v"))
  entry [] n all = stem_other
  entry (x ∷ xs) zero all = all x (0, omega arith, refl)
  entry (x ∷ xs) (suc n) all = entry xs n (λ name (k, lt, e). all name (suc k, omega arith, e))

  pub goal_derived : All (IsDerived spec goal) (goal_names goal)
  goal_derived =
      All-map (IsDerived spec goal)
      (λ (n : ℕ). slice_index_or (variable_names goal.vars) n (codes "v"))
      (variables_of (written_clause goal))
      (λ k d lt. stem_derived _ (entry (variable_names goal.vars) _ stem_goal))

  -- if they are different and no symbols, they can be names
  pub goal_named : (names : List (List ℕ)) → names ≡ goal_names goal
      → AreDifferent names × AreNoSymbols spec.sig names → AreNames spec goal names
  goal_named names is both = record {
    different = both.0;
    no_symbols = both.1;
    derived = subst (λ (ns : List (List ℕ)). All (IsDerived spec goal) ns) (sym is) goal_derived;
  }

  -- other names keep the goal's where these can't be names
  pub kept_otherwise : (r : Result NodeNames OutOfMemory)
      → (AreDifferent (goal_names goal) → AreNoSymbols spec.sig (goal_names goal) → ⊥)
      → IfOk r (KeepsGoalNames spec goal)
  kept_otherwise (Ok names) never = λ different no_symbols. absurd (never different no_symbols)
  kept_otherwise (Err e) never = tt

-- there are as many as the goal's clause has variables
pub goal_long : (goal : Goal) → length (goal_names goal) ≡ length (goal_clause goal).ctx
goal_long goal =
    let olds = variables_of (written_clause goal) in
    length-map olds (λ (n : ℕ). slice_index_or (variable_names goal.vars) n (codes "v"))
    ∙ sym (length-map olds (λ (n : ℕ). slice_index_or (written_clause goal).ctx n bool_sort))
