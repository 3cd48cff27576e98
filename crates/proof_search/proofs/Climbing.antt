-- The ancestors of a node, found on the way up from it.
use Rattle.std.proofs.Common.{◌≡◌, ℕ, zero, suc, ◌<◌, ◌≤◌, List, [], ◌∷◌, ◌++◌, Bool, true, false, cond, not, ◌||◌}
use Rattle.std.proofs.Common.{Some, refl, get_or, ap, sym, ◌∙◌, subst, arith, length, append_assoc}
use Rattle.std.specs.Prelude.{slice_get, reverse}
use Rattle.std.proofs.lemmas.List.{reverse-append}
use Rattle.std.proofs.lemmas.Option.{same_Some, slice_get-get_or, slice_get_read}
use Rattle.clause_core.specs.declared.steps.Step.{Step}
use Rattle.routine_proof.specs.Ways.{Way, Node, is_cover, moves, ancestors}
use Rattle.proof_search.specs.declared.building.Building.{Building}
use Rattle.proof_search.specs.Building.{nodes_in, IsWhole}
use Rattle.proof_search.proofs.BuiltNodes.{IsBelow, way_first, way_later}

-- if no ancestor counts, each step on the way is a cover
all_covers : (way : Way) → ancestors way ≡ [] → moves way ≡ false
all_covers [] e = refl
all_covers (a ∷ way) e = by (moves (a ∷ way)) e
  where
    by : (b : Bool) → cond b (a.0 ∷ ancestors way) [] ≡ [] → b ≡ false
    by false h = refl
    by true h = absurd (cc)

none_moves : (way : Way) → moves way ≡ false → ancestors way ≡ []
none_moves [] e = refl
none_moves (a ∷ way) e = ap (λ b. cond b (a.0 ∷ ancestors way) []) e

no_end : (xs : List ℕ) (x : ℕ) → xs ++ x ∷ [] ≡ [] → ⊥
no_end [] x h = cc
no_end (y ∷ xs) x h = cc

no_items : (ns : List ℕ) → reverse ns ≡ [] → ns ≡ []
no_items [] e = refl
no_items (n ∷ ns) e = absurd (no_end (reverse ns) n (sym (reverse-append (n ∷ []) ns) ∙ e))

pub no_length : {X : Type 0} (xs : List X) → length xs ≡ 0 → xs ≡ []
no_length [] e = refl
no_length (x ∷ xs) e = absurd (omega arith)

-- how far the way up from the node has been gone, and which ancestors were found on it
pub record Climbs (b : Building) (from : Node) (here : ℕ) (found : List ℕ) : Type 0 where
  pub node : Node
  pub at : slice_get (nodes_in b) here ≡ Some node
  pub rest : Way
  pub way : from.way ≡ node.way ++ rest
  pub found_is : reverse found ≡ ancestors rest

-- the parent of a later node
pub record HasParent (b : Building) (here p : ℕ) : Type 0 where
  pub before : ℕ
  pub is : here ≡ suc before
  pub at : slice_get b.parents.items (suc before) ≡ Some p
  pub earlier : p ≤ before
  pub stepped : p < length b.steps.items

pub parent_of :
    (b : Building) → IsWhole b → (ps : List ℕ) → ps ≡ b.parents.items → (here : ℕ) → 0 < here →
    here < length b.block.nodes.items → HasParent b here (get_or ps here 0)
parent_of b whole ps same zero above within = absurd (omega arith)
parent_of b whole ps same (suc k) above within =
    let lt : suc k < length b.parents.items = omega (arith, whole.paired) in
    let at : slice_get b.parents.items (suc k) ≡ Some (get_or ps (suc k) 0) =
    slice_get-get_or b.parents.items (suc k) 0 lt
    ∙ ap (λ (l : List ℕ). Some (get_or l (suc k) 0)) (sym same) in
    let low = whole.parents k (get_or ps (suc k) 0) at in
    record { before = k; is = refl; at = at; earlier = low.0; stepped = low.1 }

-- whether the step of node p is a cover
abbrev pub CoverIs : Building → ℕ → Bool → Type 0
CoverIs b p v = (step : Step) → slice_get b.steps.items p ≡ Some step → is_cover step ≡ v

pub cover_is :
    (b : Building) (steps : List Step) → steps ≡ b.steps.items → (p : ℕ) → p < length steps →
    (step : Step) → step ≡ get_or steps p step → (v : Bool) → is_cover step ≡ v → CoverIs b p v
cover_is b steps same p lt step is v cover other at =
    let here : slice_get steps p ≡ Some step =
    slice_get_read steps (length steps) p step refl lt is in
    let e : Some step ≡ Some other = sym here ∙ ap (λ (l : List Step). slice_get l p) same ∙ at in
    subst (λ (t : Step). is_cover t ≡ v) (same_Some step other e) cover

-- one node further up
module _
    (b : Building) (from : Node) (here p : ℕ) (found : List ℕ) (whole : IsWhole b)
    (parent : HasParent b here p) (c : Climbs b from here found)
  where
    up : IsBelow b p c.node
    up = way_later b whole parent.before p c.node parent.at
        (subst (λ k. slice_get (nodes_in b) k ≡ Some c.node) parent.is c.at)

    further :
        (more : List ℕ) → reverse more ≡ ancestors ((p, up.step) ∷ c.rest) →
        Climbs b from p more
    further more is = record {
      node = up.parent;
      at = up.at;
      rest = (p, up.step) ∷ c.rest;
      way =
          c.way ∙ ap (λ w. w ++ c.rest) up.way
          ∙ append_assoc up.parent.way ((p, up.step) ∷ []) c.rest;
      found_is = is;
    }

    climb_found : moves ((p, up.step) ∷ c.rest) ≡ true → Climbs b from p (found ++ p ∷ [])
    climb_found e =
        further (found ++ p ∷ [])
        (reverse-append found (p ∷ []) ∙ ap (λ ns. p ∷ ns) c.found_is
        ∙ ap (λ b. cond b (p ∷ ancestors c.rest) []) (sym e))

    -- below a step that isn't a cover
    pub climb_move : CoverIs b p false → Climbs b from p (found ++ p ∷ [])
    climb_move no_cover = climb_found (ap (λ b. not b || moves c.rest) (no_cover up.step up.has))

    -- below an ancestor that was found
    pub climb_before : (found ≡ [] → ⊥) → Climbs b from p (found ++ p ∷ [])
    climb_before before = climb_found (by (moves c.rest) refl (not (is_cover up.step)))
      where
        by : (m : Bool) → moves c.rest ≡ m → (n : Bool) → (n || moves c.rest) ≡ true
        by true e true = refl
        by true e false = e
        by false e n = absurd (before (no_items found (c.found_is ∙ none_moves c.rest e)))

    -- below covers alone
    pub climb_on : found ≡ [] → CoverIs b p true → Climbs b from p found
    climb_on none cover =
        further found
        (c.found_is ∙ nothing
        ∙ sym (none_moves ((p, up.step) ∷ c.rest)
        (ap (λ b. not b || moves c.rest) (cover up.step up.has) ∙ all_covers c.rest nothing)))
      where
        nothing : ancestors c.rest ≡ []
        nothing = sym c.found_is ∙ ap reverse none

pub climb_ends :
    (b : Building) (from : Node) (here : ℕ) (found : List ℕ) → here ≤ 0 → Climbs b from here found →
    reverse found ≡ ancestors from.way
climb_ends b from here found le c =
    let z : here ≡ 0 = omega arith in
    let first = way_first b c.node (subst (λ k. slice_get (nodes_in b) k ≡ Some c.node) z c.at) in
    c.found_is ∙ ap ancestors (sym (c.way ∙ ap (λ w. w ++ c.rest) first))
