-- A step by a node or a goal as it is.
use Rattle.std.proofs.Common.{◌≡◌, ℕ, zero, suc, ◌<◌, List, [], ◌∷◌, Option, Some, Result, Ok, Err, refl, sym, ◌∙◌}
use Rattle.std.proofs.Common.{ap, arith, get_or, length, map}
use Rattle.std.specs.Prelude.{OnOk, slice_get}
use Rattle.std.specs.Option.{option_map}
use Rattle.std.proofs.lemmas.Option.{slice_get-map, slice_get-get_or}
use Rattle.spec_core.specs.declared.records.Goal.{Goal}
use Rattle.script_trim.specs.declared.lemmas.LemmaClause.{LemmaClause}
use Rattle.script_trim.specs.Keys.{key_of}
use Rattle.script_trim.specs.Trying.{lemma_clause}
use Rattle.clause_core.specs.declared.clauses.Clause.{Clause}
use Rattle.inference_rules.specs.declared.nodes.Node.{Node}
use Rattle.inference_rules.specs.Answers.{clauses_of}

-- what follows if a call succeeds
pub on_ok_map : {T E : Type 0} (r : Result T E) (P Q : Type 0) → (P → Q) → OnOk r P → OnOk r Q
on_ok_map (Ok x) P Q f h = f h
on_ok_map (Err e) P Q f h = tt

-- the clause of the node at a place
pub clause_at : (nodes : List Node) (k : ℕ) (node : Node) → k < length nodes →
    slice_get (clauses_of nodes) k ≡ Some (get_or nodes k node).clause
clause_at nodes k node lt =
    slice_get-map (λ (x : Node). x.clause) nodes k
    ∙ ap (λ o. option_map (λ (x : Node). x.clause) o) (slice_get-get_or nodes k node lt)

-- which is this clause, if that is there
pub clause_there : (nodes : List Node) (k : ℕ) (node : Node) (c : Clause) → k < length nodes →
    slice_get (clauses_of nodes) k ≡ Some c → (get_or nodes k node).clause ≡ c
clause_there nodes k node c lt at =
    let own : Some (get_or nodes k node).clause ≡ Some c = sym (clause_at nodes k node lt) ∙ at in
    cc

-- the key of this clause
pub key_there : (keys : List (Option ℕ)) (nodes : List Clause) (k : ℕ) (d : Clause) (key : Option ℕ) →
    keys ≡ map key_of nodes → slice_get nodes k ≡ Some d → slice_get keys k ≡ Some key → key ≡ key_of d
key_there keys nodes k d key are at there =
    let own : slice_get (map key_of nodes) k ≡ Some (key_of d) =
    slice_get-map key_of nodes k ∙ ap (λ o. option_map key_of o) at in
    let same : Some key ≡ Some (key_of d) = sym there ∙ ap (λ ks. slice_get ks k) are ∙ own in
    cc

-- the clause of the goal of this lemma
pub lemma_there : (lemmas : List LemmaClause) (goals : List Goal) (k : ℕ) (goal : Goal) (lemma : LemmaClause) →
    lemmas ≡ map lemma_clause goals → slice_get goals k ≡ Some goal → slice_get lemmas k ≡ Some lemma →
    lemma ≡ lemma_clause goal
lemma_there lemmas goals k goal lemma are at there =
    let own : slice_get (map lemma_clause goals) k ≡ Some (lemma_clause goal) =
    slice_get-map lemma_clause goals k ∙ ap (λ o. option_map lemma_clause o) at in
    let same : Some lemma ≡ Some (lemma_clause goal) = sym there ∙ ap (λ ls. slice_get ls k) are ∙ own in
    cc

-- an item within the list
pub item_there : {X : Type 0} (xs : List X) (k : ℕ) → k < length xs → (x : X) × (slice_get xs k ≡ Some x)
item_there [] k lt = absurd (omega arith)
item_there (x ∷ xs) zero lt = (x, refl)
item_there (x ∷ xs) (suc k) lt = item_there xs k (omega arith)
