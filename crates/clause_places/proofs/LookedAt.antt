-- What patterns look at in a term, by what their arguments look at in its arguments.
use Rattle.std.proofs.Common.{◌≡◌, ℕ, suc, ◌+◌, ◌<◌, List, [], ◌∷◌, ◌++◌, Bool, true, false, ◌||◌, ◌&&◌, cond, Option}
use Rattle.std.proofs.Common.{Some, None, refl, ap, sym, ◌∙◌, arith, length, map, filter, take, drop, get_or}
use Rattle.std.specs.Prelude.{slice_get, option_to_list}
use Rattle.std.specs.List.{list_any}
use Rattle.std.proofs.lemmas.List.{map-append}
use Rattle.std.proofs.lemmas.List.Elements.{filter-append}
use Rattle.term_core.specs.Tree.{Tree, Trees, var, app, some, trees_of, list_of}
use Rattle.spec_core.specs.declared.records.Rule.{Rule}
use Rattle.spec_core.specs.declared.records.Spec.{Spec}
use Rattle.spec_core.specs.Sig.{Sig}
use Rattle.clause_places.specs.Asked.{variable_paths, variable_paths_from, constructor_at, is_call_of, looks_at}
use Rattle.clause_places.specs.Asked.{asked_by}
use Rattle.clause_places.specs.Demand.{left_sides_of, arguments_at, some_look_at, looked_at}
use Rattle.clause_places.proofs.Firsts.{from_item, first_before, first_behind}

-- a variable with its path
abbrev Occurrence : Type 0
Occurrence = List ℕ × ℕ

abbrev variable : Occurrence → ℕ
variable p = p.1

-- the same in an argument with this number
abbrev in_argument : ℕ → Occurrence → Occurrence
in_argument n p = (n ∷ p.0, p.1)

module _ (sig : Sig) where
  -- an occurrence that some pattern looks at
  abbrev looked : List Tree → Occurrence → Bool
  looked patterns p = some_look_at sig patterns p.0

  any_option :
      (path : List ℕ) (o : Option Tree) (ts : List Tree) →
      some_look_at sig (option_to_list o ++ ts) path
      ≡ (constructor_at sig path o || some_look_at sig ts path)
  any_option path None ts = refl
  any_option path (Some t) ts = refl

  -- a path that begins with an argument leads on among the patterns' arguments
  look_down :
      (k : ℕ) (patterns : List Tree) (path : List ℕ) →
      some_look_at sig patterns (suc k ∷ path) ≡ some_look_at sig (arguments_at k patterns) path
  look_down k [] path = refl
  look_down k (var n ∷ ts) path = look_down k ts path
  look_down k (app f us ∷ ts) path =
      let argument : Option Tree = slice_get (list_of us) k in
      ap (λ b. constructor_at sig path argument || b) (look_down k ts path)
      ∙ sym (any_option path argument (arguments_at k ts))

  one_more :
      (b : Bool) (p q : Occurrence) (ps qs : List Occurrence) → p.1 ≡ q.1 →
      map variable ps ≡ map variable qs →
      map variable (cond b (p ∷ ps) ps) ≡ map variable (cond b (q ∷ qs) qs)
  one_more true p q ps qs e h = λ i. e i ∷ h i
  one_more false p q ps qs e h = h

  looked_down :
      (k : ℕ) (patterns : List Tree) (ps : List Occurrence) →
      looked_at sig patterns (map (in_argument (suc k)) ps)
      ≡ looked_at sig (arguments_at k patterns) ps
  looked_down k patterns [] = refl
  looked_down k patterns (p ∷ ps) =
      let arguments : List Tree = arguments_at k patterns in
      let here : Occurrence = in_argument (suc k) p in
      let behind : List Occurrence =
      filter (looked patterns) (map (in_argument (suc k)) ps) in
      ap (λ b. map variable (cond b (here ∷ behind) behind)) (look_down k patterns p.0)
      ∙ one_more (looked arguments p) here p behind (filter (looked arguments) ps) refl
      (looked_down k patterns ps)

  looked_at-append :
      (patterns : List Tree) (ps qs : List Occurrence) →
      looked_at sig patterns (ps ++ qs) ≡ looked_at sig patterns ps ++ looked_at sig patterns qs
  looked_at-append patterns ps qs =
      ap (λ (rs : List Occurrence). map variable rs) (filter-append (looked patterns) ps qs)
      ∙ map-append variable (filter (looked patterns) ps) (filter (looked patterns) qs)

  -- the first argument, and those after it
  looked_at_argument :
      (k : ℕ) (patterns : List Tree) (t : Tree) (ts : Trees) →
      looked_at sig patterns (variable_paths_from (suc k) (some t ts))
      ≡ looked_at sig (arguments_at k patterns) (variable_paths t)
      ++ looked_at sig patterns (variable_paths_from (suc (suc k)) ts)
  looked_at_argument k patterns t ts =
      let behind : List Occurrence = variable_paths_from (suc (suc k)) ts in
      looked_at-append patterns (map (in_argument (suc k)) (variable_paths t)) behind
      ∙ ap (λ ns. ns ++ looked_at sig patterns behind) (looked_down k patterns (variable_paths t))

  -- if there is no pattern, nothing is looked at
  pub looked_at_none : (ps : List Occurrence) → looked_at sig [] ps ≡ []
  looked_at_none [] = refl
  looked_at_none (p ∷ ps) = looked_at_none ps

  -- what is looked at in the arguments from one on
  abbrev looked_from : List Tree → List Tree → ℕ → List ℕ
  looked_from patterns ts k =
      looked_at sig patterns (variable_paths_from (k + 1) (trees_of (drop k ts)))

  looked_here :
      (patterns ts : List Tree) (k : ℕ) (t : Tree) → k < length ts → t ≡ get_or ts k t →
      looked_from patterns ts k
      ≡ looked_at sig (arguments_at k patterns) (variable_paths t)
      ++ looked_from patterns ts (k + 1)
  looked_here patterns ts k t lt is =
      let one : k + 1 ≡ suc k = omega arith in
      let two : suc (suc k) ≡ k + 1 + 1 = omega arith in
      let here : List ℕ = looked_at sig (arguments_at k patterns) (variable_paths t) in
      let from = λ (n : ℕ) (us : List Tree).
      looked_at sig patterns (variable_paths_from n (trees_of us)) in
      (λ i. from (one i) (from_item ts k t lt is i))
      ∙ looked_at_argument k patterns t (trees_of (drop (k + 1) ts))
      ∙ ap (λ n. here ++ from n (drop (k + 1) ts)) two

  -- what is first looked at in the arguments is first from this one on
  abbrev pub IsLeft : List Tree → List Tree → ℕ → Type 0
  IsLeft patterns ts k = take 1 (looked_from patterns ts 0) ≡ take 1 (looked_from patterns ts k)

  module _
      (patterns ts below : List Tree) (k : ℕ) (t : Tree) (lt : k < length ts)
      (is : t ≡ get_or ts k t) (down : below ≡ arguments_at k patterns) where
    in_this :
        looked_from patterns ts k
        ≡ looked_at sig below (variable_paths t) ++ looked_from patterns ts (k + 1)
    in_this =
        let behind : List ℕ = looked_from patterns ts (k + 1) in
        looked_here patterns ts k t lt is
        ∙ ap (λ us. looked_at sig us (variable_paths t) ++ behind) (sym down)

    -- a variable that is looked at in this one, and none
    pub found_here :
        (v : ℕ) → IsLeft patterns ts k →
        take 1 (looked_at sig below (variable_paths t)) ≡ v ∷ [] →
        take 1 (looked_from patterns ts 0) ≡ v ∷ []
    found_here v left found =
        left
        ∙ ap (λ ns. take 1 ns) in_this
        ∙ first_before (looked_at sig below (variable_paths t)) (looked_from patterns ts (k + 1)) v
        found

    pub none_here :
        IsLeft patterns ts k → take 1 (looked_at sig below (variable_paths t)) ≡ [] →
        IsLeft patterns ts (k + 1)
    none_here left none =
        left
        ∙ ap (λ ns. take 1 ns) in_this
        ∙ first_behind (looked_at sig below (variable_paths t)) (looked_from patterns ts (k + 1))
        none

module _ (spec : Spec) (f : ℕ) where
  abbrev is_rule : Rule → Bool
  is_rule r = is_call_of f r.left

  abbrev left : Rule → Tree
  left r = r.left

  abbrev looks : List ℕ → Rule → Bool
  looks path r = is_rule r && constructor_at spec.sig path (Some r.left)

  -- the left sides of a function's rules are its patterns
  patterns_look :
      (path : List ℕ) (rules : List Rule) →
      list_any (looks path) rules ≡ some_look_at spec.sig (left_sides_of rules f) path
  patterns_look path [] = refl
  patterns_look path (rule ∷ rules) =
      let here : Bool = constructor_at spec.sig path (Some rule.left) in
      let behind : List Rule = filter is_rule rules in
      let rest = patterns_look path rules in
      elim (is_rule rule) as
      (λ b. ((b && here) || list_any (looks path) rules)
      ≡ some_look_at spec.sig (map left (cond b (rule ∷ behind) behind)) path) [
        | true ↦ ap (λ b. here || b) rest
        | false ↦ rest
      ]

  filter_same :
      {X : Type 0} (p q : X → Bool) → ((x : X) → p x ≡ q x) → (xs : List X) →
      filter p xs ≡ filter q xs
  filter_same p q h [] = refl
  filter_same p q h (x ∷ xs) =
      let rest = filter_same p q h xs in
      λ i. cond (h x i) (x ∷ rest i) (rest i)

  -- what a call asks for is what they look at in its arguments
  pub asked_by_patterns :
      (ts : Trees) →
      asked_by spec (app f ts)
      ≡ looked_at spec.sig (left_sides_of spec.rules f) (variable_paths_from 1 ts)
  asked_by_patterns ts =
      ap (λ (ps : List Occurrence). map variable ps)
      (filter_same (λ p. looks_at spec f p.0) (looked spec.sig (left_sides_of spec.rules f))
      (λ p. patterns_look p.0 spec.rules) (variable_paths_from 1 ts))
